use Rattle.pvs_typing.proofs.GrowthLaws.{keeps_trans}
use Rattle.pvs_typing.proofs.TaskLaws.{domains_follow}
use Rattle.pvs_typing.proofs.JudgingLaws.{result_err}
use Rattle.pvs_typing.proofs.PartLaws.{memory_fault}
use Rattle.pvs_typing.proofs.steps.between_domains.Goals as goal

pub returns : goal.returns
returns g c =
    let a = c.args in
    let lifted = c.in_ok-above_from in
    record {
      ok = domains_follow c.in_ok-inside_from.inside_from c.in_ok-inside_to.inside_to a.context a.term a.domain_from a.domain_to a.range_from a.range_to lifted.above_from lifted.above_to c.in_ok-term_inside.term_inside
          lifted.ensures.kept c.in_ok-term_inside.ensures.kept c.in_ok-inside_from.ensures c.in_ok-inside_to.ensures c.requires.domains c.requires.ranges c.requires.different
          lifted.ensures.first lifted.ensures.second c.in_ok-term_inside.ensures.ok;
      refused = tt;
      kept = keeps_trans c.in_ok-above_from.ensures.kept c.in_ok-term_inside.ensures.kept;
    }

pub returns-in_err-term_inside : goal.returns-in_err-term_inside
returns-in_err-term_inside g c =
    rw (result_err c.from_residual-in_err-term_inside.result c.from_residual-in_err-term_inside.ensures.1) (record {
      ok = tt;
      refused = memory_fault _ _ c.in_err-term_inside.ensures.refused;
      kept = keeps_trans c.in_ok-above_from.ensures.kept c.in_err-term_inside.ensures.kept;
    })

pub returns-in_err-inside_from : goal.returns-in_err-inside_from
returns-in_err-inside_from g c =
    rw (result_err c.from_residual-in_err-inside_from.result c.from_residual-in_err-inside_from.ensures.1) (record {
      ok = tt;
      refused = tt;
      kept = keeps_trans c.in_ok-above_from.ensures.kept c.in_ok-term_inside.ensures.kept;
    })

pub returns-in_err-inside_to : goal.returns-in_err-inside_to
returns-in_err-inside_to g c =
    rw (result_err c.from_residual-in_err-inside_to.result c.from_residual-in_err-inside_to.ensures.1) (record {
      ok = tt;
      refused = tt;
      kept = keeps_trans c.in_ok-above_from.ensures.kept c.in_ok-term_inside.ensures.kept;
    })
