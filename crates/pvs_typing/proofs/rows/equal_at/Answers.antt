use Rattle.pvs_terms.specs.declared.shape.Sort.TheVariants.{OfType, OfTerm}
use Rattle.pvs_typing.specs.code.Rows.{equal_left}
use Rattle.pvs_typing.proofs.GrowthLaws.{keeps_trans, known_kept}
use Rattle.pvs_typing.proofs.JudgingLaws.{given_kept, row3}
use Rattle.pvs_typing.proofs.rows.equal_at.Goals as goal

pub returns : goal.returns
returns g c =
    let h = c.in_ok-coerce_of.ensures in
    let r = c.requires in
    record {
      answer = row3 (λ l g a c m _. equal_left l g a c m) c.args.g.now.items c.args.left c.args.left_type c.args.common h.kept r.given.context r.left r.left_type r.common (record { owes = h.ok; conditions = h.known }) c.equal_left.ensures.answer;
      known = c.equal_left.ensures.known;
      kept = keeps_trans c.in_ok-coerce_of.ensures.kept c.equal_left.ensures.kept;
    }

pub equal_left-requires-clause-given : goal.equal_left-requires-clause-given
equal_left-requires-clause-given g c =
    given_kept c.requires.given c.in_ok-coerce_of.ensures.kept c.in_ok-coerce_of.ensures.known

pub equal_left-requires-clause-left : goal.equal_left-requires-clause-left
equal_left-requires-clause-left g c =
    known_kept OfTerm c.args.left c.in_ok-coerce_of.ensures.kept c.requires.left

pub equal_left-requires-clause-left_type : goal.equal_left-requires-clause-left_type
equal_left-requires-clause-left_type g c =
    known_kept OfType c.args.left_type c.in_ok-coerce_of.ensures.kept c.requires.left_type

pub equal_left-requires-clause-common : goal.equal_left-requires-clause-common
equal_left-requires-clause-common g c =
    known_kept OfType c.args.common c.in_ok-coerce_of.ensures.kept c.requires.common
