use Rattle.std.proofs.Common.{ap}
use Rattle.pvs_terms.specs.Stored.{text_at}
use Rattle.pvs_sig.specs.Development.{theory_named}
use Rattle.pvs_instantiate.specs.InstancesView.{development}
use Rattle.pvs_printer_tests.proofs.TheoryLaws.{theory_stored, theory_over}
use Rattle.pvs_printer_tests.proofs.theory.stand.Goals as goal

pub add-requires-clause-stored : goal.add-requires-clause-stored
add-requires-clause-stored c =
    theory_stored c.args.instances.now.store c.in_ok-theory.theory c.args.names.theory c.args.names.formal c.args.names.constant c.args.boolean c.args.truth c.in_ok-theory.ensures c.requires.names c.requires.trees

pub add-requires-clause-new : goal.add-requires-clause-new
add-requires-clause-new c = ap (λ d. theory_named d (text_at c.args.instances.now.store c.in_ok-theory.theory.name)) c.requires.none

pub add-requires-clause-over : goal.add-requires-clause-over
add-requires-clause-over c =
    theory_over c.args.instances.now.store c.in_ok-theory.theory c.args.names.theory c.args.names.formal c.args.names.constant c.args.boolean c.args.truth c.in_ok-theory.ensures c.requires.names c.requires.trees (development c.args.instances.now)
