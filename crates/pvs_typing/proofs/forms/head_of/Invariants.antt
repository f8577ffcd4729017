use Rattle.std.proofs.Common.{◌≡◌}
use Rattle.pvs_terms.specs.Stored.{tree_at}
use Rattle.pvs_sig.specs.Lookups.{type_size}
use Rattle.pvs_types.specs.Forms.{head}
use Rattle.pvs_typing.specs.State.{IsTypeOf, Grows}
use Rattle.pvs_typing.proofs.forms.head_of.Given as goal

abbrev pub invariant-loop-above : goal.invariant-loop-above
invariant-loop-above g l =
    let t = g.T.Theories in
    record {
      kept : Grows (t.state l.fn.theories) (t.state l.theories) l.theory;
      known : IsTypeOf (t.state l.theories) l.theory l.form;
      same : head ((t.state l.fn.theories).lookups l.theory) (tree_at (t.state l.fn.theories).stored l.fn.ty) ≡ head ((t.state l.fn.theories).lookups l.theory) (tree_at (t.state l.theories).stored l.form);
    }

abbrev pub decreases-loop-above : goal.decreases-loop-above
decreases-loop-above g l = type_size ((g.T.Theories.state l.fn.theories).lookups l.theory).rank (tree_at (g.T.Theories.state l.theories).stored l.form)
