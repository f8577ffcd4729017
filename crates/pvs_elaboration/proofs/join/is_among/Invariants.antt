use Rattle.std.proofs.Common.{◌≡◌, drop}
use Rattle.pvs_terms.specs.Stored.{tree_at}
use Rattle.pvs_types.specs.Forms.{is_among}
use Rattle.pvs_typing.specs.Growth.{all_at}
use Rattle.pvs_elaboration.proofs.join.is_among.Given as goal

abbrev pub invariant-loop-above : goal.invariant-loop-above
invariant-loop-above g l =
    let s = (g.S.Scope.known l.fn.scope).stored in
    is_among (tree_at s l.ty) (all_at s l.types) ≡ is_among (tree_at s l.ty) (all_at s (drop l.above-index l.types))
