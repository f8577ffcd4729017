use Rattle.std.proofs.Common.{◌∷◌, sym, ap, ◌∙◌, subst}
use Rattle.pvs_terms.specs.Stored.{text_at}
use Rattle.pvs_sig.specs.SignatureAt.{signature_at}
use Rattle.pvs_sig.specs.Development.{theory_named}
use Rattle.pvs_instantiate.specs.code.Examples.{IsExample}
use Rattle.pvs_instantiate.proofs.ExampleLaws.{example_made, example_stored, is_example_over, example_stands}
use Rattle.pvs_instantiate.proofs.tests.add.Goals as goal

pub add-requires-clause-stored : goal.add-requires-clause-stored
add-requires-clause-stored g c =
    example_stored c.args.instances.now.store c.in_ok-example.example c.args.theory c.args.trees.boolean c.args.trees.truth c.args.trees.falsity c.args.trees.formal c.args.body c.in_ok-example.ensures c.requires.trees c.requires.body c.requires.simple c.requires.name

pub add-requires-clause-new : goal.add-requires-clause-new
add-requires-clause-new g c = ap (λ d. theory_named d (text_at c.args.instances.now.store c.in_ok-example.example.name)) c.requires.none

pub add-requires-clause-over : goal.add-requires-clause-over
add-requires-clause-over g c =
    is_example_over _ _ _ (example_made c.args.instances.now.store c.in_ok-example.example c.args.theory c.args.trees.boolean c.args.trees.truth c.args.trees.falsity c.args.trees.formal c.args.body c.in_ok-example.ensures c.requires.trees c.requires.body c.requires.simple)

pub returns-clause-ok : goal.returns-clause-ok
returns-clause-ok g c =
    example_stands c.add.new.self (signature_at c.args.instances.now.store c.in_ok-example.example) c.args.theory (c.in_ok-stamp.ensures.ok ∙ ap (λ d. signature_at c.args.instances.now.store c.in_ok-example.example ∷ d) c.requires.none)
    (subst (λ s. IsExample (signature_at c.args.instances.now.store c.in_ok-example.example) (text_at s c.args.theory)) (sym c.add.ensures.store) (example_made c.args.instances.now.store c.in_ok-example.example c.args.theory c.args.trees.boolean c.args.trees.truth c.args.trees.falsity c.args.trees.formal c.args.body c.in_ok-example.ensures c.requires.trees c.requires.body c.requires.simple))

pub returns-clause-store : goal.returns-clause-store
returns-clause-store g c = c.add.ensures.store
