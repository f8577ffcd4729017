use Rattle.pvs_typing.proofs.GrowthLaws.{keeps_trans}
use Rattle.pvs_typing.proofs.GeneralLaws.{around_goes_on, around_less, around_fault, known_frames-split}
use Rattle.pvs_typing.proofs.JudgingLaws.{result_err}
use Rattle.pvs_typing.proofs.general.most_of.Goals as goal

pub loop-frame-preserved : goal.loop-frame-preserved
loop-frame-preserved g c =
    let i = c.loop-frame.invariant in
    let x = c.in_ok-made-2 in
    record {
      kept = keeps_trans i.kept x.ensures.kept;
      left = around_goes_on c.pop.new.self.items c.loop-frame.frames.items c.leave.new.frames.items c.in-Some.frame c.loop-frame.made x.made i.left c.in-Some.ensures.items i.kept.lookups x.ensures.ok;
    }

pub loop-frame-smaller : goal.loop-frame-smaller
loop-frame-smaller g c =
    let t = g.T.Theories in
    around_less (t.state c.loop-frame.theories).stored (t.state c.leave.new.theories).stored c.pop.new.self.items c.loop-frame.frames.items c.leave.new.frames.items c.in-Some.frame c.in-Some.ensures.items c.loop-frame.invariant.kept.lookups c.in_ok-made-2.ensures.less

pub leave-requires-clause-frame : goal.leave-requires-clause-frame
leave-requires-clause-frame g c =
    let t = g.T.Theories in
    let w = c.loop-frame.theories in
    (known_frames-split (t.state w).stored ((t.state w).declares c.args.theory) c.pop.new.self.items c.loop-frame.frames.items c.in-Some.frame c.in-Some.ensures.items c.loop-frame.invariant.left.frames).1

pub leave-requires-clause-frames : goal.leave-requires-clause-frames
leave-requires-clause-frames g c =
    let t = g.T.Theories in
    let w = c.loop-frame.theories in
    (known_frames-split (t.state w).stored ((t.state w).declares c.args.theory) c.pop.new.self.items c.loop-frame.frames.items c.in-Some.frame c.in-Some.ensures.items c.loop-frame.invariant.left.frames).0

pub returns-in_err-made-2 : goal.returns-in_err-made-2
returns-in_err-made-2 g c =
    let i = c.loop-frame.invariant in
    rw (result_err c.from_residual-in_err-made-2.result c.from_residual-in_err-made-2.ensures.1) (record {
      ok = tt;
      known = tt;
      refused = around_fault c.pop.new.self.items c.loop-frame.frames.items c.in-Some.frame c.loop-frame.made c.in_err-made-2.field-0.0 i.left c.in-Some.ensures.items i.kept.lookups c.in_err-made-2.ensures.refused;
      kept = keeps_trans c.loop-frame.invariant.kept c.in_err-made-2.ensures.kept;
    })
