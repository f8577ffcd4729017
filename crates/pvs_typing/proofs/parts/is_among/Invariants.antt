use Rattle.std.proofs.Common.{◌≡◌, drop}
use Rattle.pvs_terms.specs.Stored.{tree_at}
use Rattle.pvs_types.specs.Forms.{is_among}
use Rattle.pvs_typing.specs.Growth.{all_at}
use Rattle.pvs_typing.proofs.parts.is_among.Given as goal

abbrev pub invariant-loop-above : goal.invariant-loop-above
invariant-loop-above g l =
    let s = (g.T.Theories.state l.fn.theories).stored in
    is_among (tree_at s l.ty) (all_at s l.types) ≡ is_among (tree_at s l.ty) (all_at s (drop l.above-index l.types))
