use Rattle.std.proofs.Common.{◌∷◌}
use Rattle.pvs_terms.specs.declared.shape.Sort.TheVariants.{OfType, OfTerm}
use Rattle.pvs_subst.specs.Contexts.{Hypothesis}
use Rattle.pvs_typing.specs.code.Rows.{widened_other}
use Rattle.pvs_typing.proofs.GrowthLaws.{keeps_trans, known_kept}
use Rattle.pvs_typing.proofs.JudgingLaws.{given_kept, row4}
use Rattle.pvs_typing.proofs.rows.widened_to.Goals as goal

pub returns : goal.returns
returns g c =
    let h = c.in_ok-coerce_under.ensures in
    let r = c.requires in
    record {
      answer = row4 (λ l g n b d m _. widened_other l (Hypothesis n ∷ g) b d m) c.args.g.now.items c.args.negation c.args.second c.args.second_type c.args.common h.kept r.given.context r.negation r.second r.second_type r.common h.answer.is c.widened_other.ensures.answer;
      known = c.widened_other.ensures.known;
      kept = keeps_trans c.in_ok-coerce_under.ensures.kept c.widened_other.ensures.kept;
    }

pub widened_other-requires-clause-given : goal.widened_other-requires-clause-given
widened_other-requires-clause-given g c =
    given_kept c.requires.given c.in_ok-coerce_under.ensures.kept c.in_ok-coerce_under.ensures.answer.is.conditions

pub widened_other-requires-clause-negation : goal.widened_other-requires-clause-negation
widened_other-requires-clause-negation g c =
    known_kept OfTerm c.args.negation c.in_ok-coerce_under.ensures.kept c.requires.negation

pub widened_other-requires-clause-second : goal.widened_other-requires-clause-second
widened_other-requires-clause-second g c =
    known_kept OfTerm c.args.second c.in_ok-coerce_under.ensures.kept c.requires.second

pub widened_other-requires-clause-second_type : goal.widened_other-requires-clause-second_type
widened_other-requires-clause-second_type g c =
    known_kept OfType c.args.second_type c.in_ok-coerce_under.ensures.kept c.requires.second_type

pub widened_other-requires-clause-common : goal.widened_other-requires-clause-common
widened_other-requires-clause-common g c =
    known_kept OfType c.args.common c.in_ok-coerce_under.ensures.kept c.requires.common
