use Rattle.std.proofs.Common.{◌≡◌}
use Rattle.pvs_terms.specs.Stored.{tree_at}
use Rattle.pvs_sig.specs.Lookups.{type_size}
use Rattle.pvs_types.specs.Forms.{up}
use Rattle.pvs_typing.specs.Growth.{all_at}
use Rattle.pvs_typing.specs.State.{IsTypeOf, AreTypesOf, Grows}
use Rattle.pvs_typing.proofs.FormsOver.{listed}
use Rattle.pvs_typing.proofs.forms.up_of.Given as goal

abbrev pub invariant-loop-types : goal.invariant-loop-types
invariant-loop-types g l =
    let t = g.T.Theories in
    record {
      kept : Grows (t.state l.fn.theories) (t.state l.theories) l.theory;
      known : IsTypeOf (t.state l.theories) l.theory l.form;
      types : AreTypesOf (t.state l.theories) l.theory l.types.items;
      same : up ((t.state l.fn.theories).lookups l.theory) (tree_at (t.state l.fn.theories).stored l.fn.ty) ≡ listed (all_at (t.state l.theories).stored l.types.items) (up ((t.state l.fn.theories).lookups l.theory) (tree_at (t.state l.theories).stored l.form));
    }

abbrev pub decreases-loop-types : goal.decreases-loop-types
decreases-loop-types g l = type_size ((g.T.Theories.state l.fn.theories).lookups l.theory).rank (tree_at (g.T.Theories.state l.theories).stored l.form)
