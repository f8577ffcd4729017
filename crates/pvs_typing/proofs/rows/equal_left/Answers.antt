use Rattle.pvs_terms.specs.Tree.{TBool}
use Rattle.pvs_types.specs.Outcome.{pure}
use Rattle.pvs_typing.proofs.GrowthLaws.{keeps_trans}
use Rattle.pvs_typing.proofs.JudgingLaws.{answers_then, quiet}
use Rattle.pvs_typing.proofs.rows.equal_left.Goals as goal

pub returns : goal.returns
returns g c =
    let h = c.in_ok-coerce_of.ensures in
    record {
      answer = answers_then (λ _. pure TBool) (record { owes = h.ok; conditions = h.known }) (quiet c.coerce_of.new.conditions.items c.truth_type.ensures.kept h.known c.truth_type.ensures.answer);
      known = c.truth_type.ensures.known;
      kept = keeps_trans c.in_ok-coerce_of.ensures.kept c.truth_type.ensures.kept;
    }
