use Rattle.pvs_instantiate.proofs.ExampleLaws.{refs_later, example_later, leaves_then, example_over, example_constant, example_lemma}
use Rattle.pvs_instantiate.proofs.tests.ask.Goals as goal

pub type_of-requires-clause-over : goal.type_of-requires-clause-over
type_of-requires-clause-over g c =
    example_over c.args.instances.now c.args.refs.theory c.requires.has 0 c.args.refs.constant c.requires.refs.constant_is

pub type_of-requires-clause-constant : goal.type_of-requires-clause-constant
type_of-requires-clause-constant g c =
    example_constant c.args.instances.now c.args.refs.theory c.requires.has c.args.refs.constant c.requires.refs.constant_is

pub body_of-requires-clause-over : goal.body_of-requires-clause-over
body_of-requires-clause-over g c =
    example_over c.type_of.new.self c.args.refs.theory (example_later c.args.instances.now c.type_of.new.self c.args.refs.theory c.type_of.ensures.kept c.requires.refs.theory_in c.requires.has) 0 c.args.refs.constant (refs_later c.args.instances.now.store c.type_of.new.self.store c.args.refs.theory c.args.refs.constant c.args.refs.lemma c.type_of.ensures.kept.store c.requires.refs).constant_is

pub formula_of-requires-clause-over : goal.formula_of-requires-clause-over
formula_of-requires-clause-over g c =
    example_over c.body_of.new.self c.args.refs.theory (example_later c.args.instances.now c.body_of.new.self c.args.refs.theory (leaves_then _ _ _ c.type_of.ensures.kept c.body_of.ensures.kept) c.requires.refs.theory_in c.requires.has) 1 c.args.refs.lemma (refs_later c.args.instances.now.store c.body_of.new.self.store c.args.refs.theory c.args.refs.constant c.args.refs.lemma (leaves_then _ _ _ c.type_of.ensures.kept c.body_of.ensures.kept).store c.requires.refs).lemma_is

pub formula_of-requires-clause-formula : goal.formula_of-requires-clause-formula
formula_of-requires-clause-formula g c =
    example_lemma c.body_of.new.self c.args.refs.theory (example_later c.args.instances.now c.body_of.new.self c.args.refs.theory (leaves_then _ _ _ c.type_of.ensures.kept c.body_of.ensures.kept) c.requires.refs.theory_in c.requires.has) c.args.refs.lemma (refs_later c.args.instances.now.store c.body_of.new.self.store c.args.refs.theory c.args.refs.constant c.args.refs.lemma (leaves_then _ _ _ c.type_of.ensures.kept c.body_of.ensures.kept).store c.requires.refs).lemma_is

pub returns-clause-refs : goal.returns-clause-refs
returns-clause-refs g c =
    refs_later c.args.instances.now.store c.formula_of.new.self.store c.args.refs.theory c.args.refs.constant c.args.refs.lemma (leaves_then _ _ _ (leaves_then _ _ _ c.type_of.ensures.kept c.body_of.ensures.kept) c.formula_of.ensures.kept).store c.requires.refs

pub returns-clause-has : goal.returns-clause-has
returns-clause-has g c =
    example_later c.args.instances.now c.formula_of.new.self c.args.refs.theory (leaves_then _ _ _ (leaves_then _ _ _ c.type_of.ensures.kept c.body_of.ensures.kept) c.formula_of.ensures.kept) c.requires.refs.theory_in c.requires.has

pub returns-clause-kept : goal.returns-clause-kept
returns-clause-kept g c =
    (leaves_then _ _ _ (leaves_then _ _ _ c.type_of.ensures.kept c.body_of.ensures.kept) c.formula_of.ensures.kept).store
