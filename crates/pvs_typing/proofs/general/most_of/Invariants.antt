use Rattle.pvs_terms.specs.Stored.{tree_at}
use Rattle.pvs_types.specs.Forms.{most}
use Rattle.pvs_typing.specs.State.{Grows}
use Rattle.pvs_typing.specs.code.Frames.{Around, frames_work}
use Rattle.pvs_typing.proofs.general.most_of.Given as goal

abbrev pub invariant-loop-frame : goal.invariant-loop-frame
invariant-loop-frame g l =
    let t = g.T.Theories in
    let n = (t.state l.fn.theories).lookups l.theory in
    record {
      kept : Grows (t.state l.fn.theories) (t.state l.theories) l.theory;
      left : Around n (t.state l.theories).stored ((t.state l.theories).declares l.theory) (most n (tree_at (t.state l.fn.theories).stored l.fn.ty)) l.frames.items l.made;
    }

abbrev pub decreases-loop-frame : goal.decreases-loop-frame
decreases-loop-frame g l = frames_work ((g.T.Theories.state l.fn.theories).lookups l.theory) (g.T.Theories.state l.theories).stored l.frames.items
