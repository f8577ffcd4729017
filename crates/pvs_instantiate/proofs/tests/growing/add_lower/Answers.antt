use Rattle.std.proofs.Common.{ap}
use Rattle.pvs_terms.specs.Stored.{text_at}
use Rattle.pvs_sig.specs.Development.{theory_named}
use Rattle.pvs_instantiate.proofs.ImportingLaws.{empty_made, empty_stored, empty_over, empty_stands}
use Rattle.pvs_instantiate.proofs.tests.growing.add_lower.Goals as goal

pub add-requires-clause-stored : goal.add-requires-clause-stored
add-requires-clause-stored c = empty_stored c.args.instances.now.store c.empty-signature.result c.args.lower c.empty-signature.ensures c.requires.name

pub add-requires-clause-new : goal.add-requires-clause-new
add-requires-clause-new c = ap (λ d. theory_named d (text_at c.args.instances.now.store c.empty-signature.result.name)) c.requires.none

pub add-requires-clause-over : goal.add-requires-clause-over
add-requires-clause-over c = empty_over _ _ _ (empty_made c.args.instances.now.store c.empty-signature.result c.args.lower c.empty-signature.ensures)

pub returns-clause-ok : goal.returns-clause-ok
returns-clause-ok c =
    empty_stands c.args.instances.now c.add.new.self c.empty-signature.result c.args.lower c.empty-signature.ensures c.add.ensures.store c.requires.none c.in_ok-add.ensures.ok
