use Rattle.std.proofs.Common.{sym, ◌∙◌, subst, Ok}
use Rattle.pvs_terms.specs.Tree.{TFun, TPair}
use Rattle.pvs_terms.specs.Stored.{tree_at}
use Rattle.pvs_types.specs.Forms.{small_tree}
use Rattle.pvs_typing.specs.declared.general.Frame.TheVariants.{Range, Others, First}
use Rattle.pvs_typing.specs.code.Frames.{IsKnownFrame, frame_result, frames_work}
use Rattle.pvs_typing.proofs.GeneralLaws.{first_known, first_less, first_same, frame_at, frame_made, leave_fault, leave_less, mentioned_made}
use Rattle.pvs_typing.proofs.JudgingLaws.{result_err}
use Rattle.pvs_typing.proofs.general.leave.Goals as goal

pub returns-in_ok-form-in-Range : goal.returns-in_ok-form-in-Range
returns-in_ok-form-in-Range g c =
    let t = g.T.Theories in
    let a = c.args in
    let w = a.theories.now in
    let s = (t.state w).stored in
    let l = (t.state w).lookups a.theory in
    record {
      ok = frame_made a.frames.now.items (frame_result l s a.frame (Ok (tree_at s a.made))) (TFun (tree_at s c.in-Range.domain) (tree_at s a.made)) c.in_ok-form-in-Range.form c.in_ok-form-in-Range.ensures.kept c.requires.frames (frame_at l s a.frame (Range c.in-Range.domain) a.made c.in-Range.is) c.in_ok-form-in-Range.ensures.ok;
      less = leave_less l a.frames.now.items a.frame c.in_ok-form-in-Range.ensures.kept c.requires.frames;
      refused = tt;
      kept = c.in_ok-form-in-Range.ensures.kept;
    }

pub returns-in_ok-form-in-First : goal.returns-in_ok-form-in-First
returns-in_ok-form-in-First g c =
    let t = g.T.Theories in
    let a = c.args in
    let w = a.theories.now in
    let s = (t.state w).stored in
    let l = (t.state w).lookups a.theory in
    record {
      ok = frame_made a.frames.now.items (frame_result l s a.frame (Ok (tree_at s a.made))) (TPair c.in-First.components (tree_at s a.made) (tree_at s c.in-First.others)) c.in_ok-form-in-First.form c.in_ok-form-in-First.ensures.kept c.requires.frames (frame_at l s a.frame (First c.in-First.components c.in-First.others) a.made c.in-First.is) c.in_ok-form-in-First.ensures.ok;
      less = leave_less l a.frames.now.items a.frame c.in_ok-form-in-First.ensures.kept c.requires.frames;
      refused = tt;
      kept = c.in_ok-form-in-First.ensures.kept;
    }

pub returns-then-is_mentioned : goal.returns-then-is_mentioned
returns-then-is_mentioned g c =
    let t = g.T.Theories in
    let a = c.args in
    let w = a.theories.now in
    let s = (t.state w).stored in
    let l = (t.state w).lookups a.theory in
    record {
      ok = frame_made a.frames.now.items (frame_result l s a.frame (Ok (tree_at s a.made))) (TPair c.in-Others.components (tree_at s c.in-Others.first) (tree_at s a.made)) c.in_ok-form-in-Others.form c.in_ok-form-in-Others.ensures.kept c.requires.frames (frame_at l s a.frame (Others c.in-Others.components c.in-Others.first) a.made c.in-Others.is ∙ mentioned_made l s c.in-Others.components c.in-Others.first a.made (sym c.is_mentioned.ensures ∙ c.if-is_mentioned.true)) c.in_ok-form-in-Others.ensures.ok;
      less = leave_less l a.frames.now.items a.frame c.in_ok-form-in-Others.ensures.kept c.requires.frames;
      refused = tt;
      kept = c.in_ok-form-in-Others.ensures.kept;
    }

pub returns-in_err-form-in-Range : goal.returns-in_err-form-in-Range
returns-in_err-form-in-Range g c =
    let t = g.T.Theories in
    let a = c.args in
    let w = a.theories.now in
    let s = (t.state w).stored in
    let l = (t.state w).lookups a.theory in
    rw (result_err c.from_residual.result c.from_residual.ensures.1) (record {
      ok = tt;
      less = tt;
      refused = leave_fault l s a.frames.now.items (frame_result l s a.frame (Ok (tree_at s a.made))) (small_tree (TFun (tree_at s c.in-Range.domain) (tree_at s a.made))) c.in_err-form-in-Range.field-0.0 (frame_at l s a.frame (Range c.in-Range.domain) a.made c.in-Range.is) c.in_err-form-in-Range.ensures.refused;
      kept = c.in_err-form-in-Range.ensures.kept;
    })

pub returns-in_err-form-in-First : goal.returns-in_err-form-in-First
returns-in_err-form-in-First g c =
    let t = g.T.Theories in
    let a = c.args in
    let w = a.theories.now in
    let s = (t.state w).stored in
    let l = (t.state w).lookups a.theory in
    rw (result_err c.from_residual-in_err-form-in-First.result c.from_residual-in_err-form-in-First.ensures.1) (record {
      ok = tt;
      less = tt;
      refused = leave_fault l s a.frames.now.items (frame_result l s a.frame (Ok (tree_at s a.made))) (small_tree (TPair c.in-First.components (tree_at s a.made) (tree_at s c.in-First.others))) c.in_err-form-in-First.field-0.0 (frame_at l s a.frame (First c.in-First.components c.in-First.others) a.made c.in-First.is) c.in_err-form-in-First.ensures.refused;
      kept = c.in_err-form-in-First.ensures.kept;
    })

pub returns-in_err-form-in-Others : goal.returns-in_err-form-in-Others
returns-in_err-form-in-Others g c =
    let t = g.T.Theories in
    let a = c.args in
    let w = a.theories.now in
    let s = (t.state w).stored in
    let l = (t.state w).lookups a.theory in
    rw (result_err c.from_residual-in_err-form-in-Others.result c.from_residual-in_err-form-in-Others.ensures.1) (record {
      ok = tt;
      less = tt;
      refused = leave_fault l s a.frames.now.items (frame_result l s a.frame (Ok (tree_at s a.made))) (small_tree (TPair c.in-Others.components (tree_at s c.in-Others.first) (tree_at s a.made))) c.in_err-form-in-Others.field-0.0 (frame_at l s a.frame (Others c.in-Others.components c.in-Others.first) a.made c.in-Others.is ∙ mentioned_made l s c.in-Others.components c.in-Others.first a.made (sym c.is_mentioned.ensures ∙ c.if-is_mentioned.true)) c.in_err-form-in-Others.ensures.refused;
      kept = c.in_err-form-in-Others.ensures.kept;
    })

pub descend-requires-clause-frames : goal.descend-requires-clause-frames
descend-requires-clause-frames g c =
    let t = g.T.Theories in
    let a = c.args in
    let w = a.theories.now in
    let s = (t.state w).stored in
    let l = (t.state w).lookups a.theory in
    let known : IsKnownFrame s ((t.state w).declares a.theory) (Others c.in-Others.components c.in-Others.first) = subst (IsKnownFrame s ((t.state w).declares a.theory)) c.in-Others.is c.requires.frame in
    first_known s ((t.state w).declares a.theory) a.frames.now.items c.push.new.self.items c.in-Others.components a.made c.requires.frames known.0 c.requires.made c.in_ok-push-in-Others.ensures.items

pub returns-in_ok-form-in-Others-2 : goal.returns-in_ok-form-in-Others-2
returns-in_ok-form-in-Others-2 g c =
    let t = g.T.Theories in
    let a = c.args in
    let w = a.theories.now in
    let s = (t.state w).stored in
    let l = (t.state w).lookups a.theory in
    let same = first_same l s a.frames.now.items c.push.new.self.items c.in-Others.components c.in-Others.first a.made (sym c.is_mentioned.ensures ∙ c.if-is_mentioned.false) c.in_ok-push-in-Others.ensures.items in
    record {
      ok = rw c.in-Others.is (rw same at c.in_ok-form-in-Others-2.ensures.ok);
      less = rw c.in-Others.is (first_less l s a.frames.now.items c.push.new.self.items c.in-Others.components c.in-Others.first a.made (frames_work l (t.state c.descend.new.theories).stored c.descend.new.frames.items) c.in_ok-push-in-Others.ensures.items c.in_ok-form-in-Others-2.ensures.less);
      refused = tt;
      kept = c.in_ok-form-in-Others-2.ensures.kept;
    }

pub returns-in_err-form-in-Others-2 : goal.returns-in_err-form-in-Others-2
returns-in_err-form-in-Others-2 g c =
    let t = g.T.Theories in
    let a = c.args in
    let w = a.theories.now in
    let s = (t.state w).stored in
    let l = (t.state w).lookups a.theory in
    let same = first_same l s a.frames.now.items c.push.new.self.items c.in-Others.components c.in-Others.first a.made (sym c.is_mentioned.ensures ∙ c.if-is_mentioned.false) c.in_ok-push-in-Others.ensures.items in
    rw (result_err c.from_residual-in_err-form-in-Others-2.result c.from_residual-in_err-form-in-Others-2.ensures.1) (record {
      ok = tt;
      less = tt;
      refused = rw c.in-Others.is (rw same at c.in_err-form-in-Others-2.ensures.refused);
      kept = c.in_err-form-in-Others-2.ensures.kept;
    })
