use Rattle.pvs_instantiate.proofs.ImportingLaws.{empty_made, empty_stored, empty_over, other_is_new, both_stand}
use Rattle.pvs_instantiate.proofs.tests.growing.add_upper.Goals as goal

pub add-requires-clause-stored : goal.add-requires-clause-stored
add-requires-clause-stored c = empty_stored c.args.instances.now.store c.empty-signature.result c.args.upper c.empty-signature.ensures c.requires.name

pub add-requires-clause-new : goal.add-requires-clause-new
add-requires-clause-new c =
    other_is_new c.args.instances.now c.args.lower c.args.upper c.requires.has c.requires.apart c.empty-signature.result c.empty-signature.ensures.name

pub add-requires-clause-over : goal.add-requires-clause-over
add-requires-clause-over c = empty_over _ _ _ (empty_made c.args.instances.now.store c.empty-signature.result c.args.upper c.empty-signature.ensures)

pub returns-clause-ok : goal.returns-clause-ok
returns-clause-ok c =
    both_stand c.args.instances.now c.args.lower c.args.upper c.requires.has c.requires.apart c.add.new.self c.empty-signature.result c.empty-signature.ensures c.add.ensures.store c.in_ok-add.ensures.ok
