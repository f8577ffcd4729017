use Rattle.pvs_sequent.proofs.ExtendsLaws.{sequent_extends}
use Rattle.pvs_sequent_tests.proofs.tests.sequents.adds_true.Goals as goal

pub add_both-requires-clause-sequent : goal.add_both-requires-clause-sequent
add_both-requires-clause-sequent g c =
    sequent_extends c.args.store.now c.formula.new.store c.args.sequent.now c.in_ok-truth.ensures.kept c.requires
