use Rattle.std.proofs.Common.{Some}
use Rattle.pvs_typing.proofs.GrowthLaws.{keeps_trans}
use Rattle.pvs_typing.proofs.GeneralLaws.{descent_goes_on, descent_ends, descent_fault, enters_at}
use Rattle.pvs_typing.proofs.JudgingLaws.{result_err}
use Rattle.pvs_typing.proofs.general.descend.Goals as goal

pub returns-in_err-inside : goal.returns-in_err-inside
returns-in_err-inside g c =
    let i = c.loop-inside.invariant in
    rw (result_err c.from_residual.result c.from_residual.ensures.1) (record {
      ok = tt;
      less = tt;
      refused = descent_fault c.loop-inside.frames.items c.loop-inside.inner c.in_err-inside.field-0.0 i.left i.kept.lookups c.in_err-inside.ensures.refused;
      kept = keeps_trans c.loop-inside.invariant.kept c.in_err-inside.ensures.kept;
    })

pub returns-in_err-add_frame : goal.returns-in_err-add_frame
returns-in_err-add_frame g c =
    rw (result_err c.from_residual-in_err-add_frame.result c.from_residual-in_err-add_frame.ensures.1) (record {
      ok = tt;
      less = tt;
      refused = tt;
      kept = keeps_trans c.loop-inside.invariant.kept c.in_ok-inside.ensures.kept;
    })

pub loop-inside-preserved : goal.loop-inside-preserved
loop-inside-preserved g c =
    let i = c.loop-inside.invariant in
    let x = c.in_ok-inside in
    record {
      kept = keeps_trans i.kept x.ensures.kept;
      left = descent_goes_on c.loop-inside.frames.items c.add_frame.new.frames.items c.loop-inside.inner c.in-Some.next x.inside.frame i.left x.ensures.kept i.kept.lookups (enters_at (Some c.in-Some.next) x.ensures.ok c.in-Some.is) c.in_ok-add_frame.ensures;
    }

pub returns-in-None : goal.returns-in-None
returns-in-None g c =
    let i = c.loop-inside.invariant in
    let x = c.in_ok-inside in
    record {
      ok = (descent_ends c.loop-inside.frames.items c.add_frame.new.frames.items c.loop-inside.inner x.inside.frame x.inside.ty i.left x.ensures.kept i.kept.lookups x.ensures.ok c.in-None.is c.in_ok-add_frame.ensures).0;
      less = (descent_ends c.loop-inside.frames.items c.add_frame.new.frames.items c.loop-inside.inner x.inside.frame x.inside.ty i.left x.ensures.kept i.kept.lookups x.ensures.ok c.in-None.is c.in_ok-add_frame.ensures).1;
      refused = tt;
      kept = keeps_trans i.kept x.ensures.kept;
    }
