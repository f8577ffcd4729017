use Rattle.pvs_sequent.proofs.ExtendsLaws.{sequent_extends}
use Rattle.pvs_sequent_tests.proofs.written.push_letter.Goals as goal

pub push_first-requires-clause-sequent : goal.push_first-requires-clause-sequent
push_first-requires-clause-sequent c =
    sequent_extends c.args.store.now c.formula.new.store c.args.sequent.now c.in_ok-id.ensures.kept c.requires
