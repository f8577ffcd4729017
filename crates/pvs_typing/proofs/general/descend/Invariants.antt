use Rattle.std.proofs.Common.{◌+◌}
use Rattle.pvs_terms.specs.Stored.{tree_at}
use Rattle.pvs_types.specs.Forms.{most}
use Rattle.pvs_typing.specs.State.{Grows}
use Rattle.pvs_typing.specs.code.Frames.{down_work, frames_result, frames_work}
use Rattle.pvs_typing.proofs.GeneralLaws.{Descends}
use Rattle.pvs_typing.proofs.general.descend.Given as goal

abbrev pub invariant-loop-inside : goal.invariant-loop-inside
invariant-loop-inside g l =
    let t = g.T.Theories in
    let s = (t.state l.fn.theories).stored in
    let n = (t.state l.fn.theories).lookups l.theory in
    record {
      kept : Grows (t.state l.fn.theories) (t.state l.theories) l.theory;
      left : Descends n (t.state l.theories).stored ((t.state l.theories).declares l.theory) (frames_result n s l.fn.frames.items (most n (tree_at s l.fn.ty)))
          (frames_work n s l.fn.frames.items + down_work n (tree_at s l.fn.ty)) l.frames.items l.inner;
    }

abbrev pub decreases-loop-inside : goal.decreases-loop-inside
decreases-loop-inside g l = down_work ((g.T.Theories.state l.fn.theories).lookups l.theory) (tree_at (g.T.Theories.state l.theories).stored l.inner)
