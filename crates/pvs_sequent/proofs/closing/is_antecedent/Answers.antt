use Rattle.std.proofs.Common.{◌∙◌, sym}
use Rattle.pvs_terms.specs.Stored.{node_tree}
use Rattle.pvs_sequent.proofs.NumberLaws.{number_among, none_among}
use Rattle.pvs_sequent.proofs.closing.is_antecedent.Goals as goal

pub returns-in-Some : goal.returns-in-Some
returns-in-Some c =
    c.is_antecedent.ensures
    ∙ sym (number_among c.args.store.now (node_tree c.args.store.now c.args.node) c.in-Some.id c.args.sides.now.antecedents c.in-Some.ensures.some.tree c.in-Some.ensures.only c.requires.antecedents)

pub returns-in-None : goal.returns-in-None
returns-in-None c = sym (none_among c.args.store.now (node_tree c.args.store.now c.args.node) c.args.sides.now.antecedents c.in-None.ensures.none c.requires.antecedents)
