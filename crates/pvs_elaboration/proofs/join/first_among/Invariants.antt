use Rattle.std.proofs.Common.{◌≡◌, drop}
use Rattle.pvs_types.specs.Forms.{first_among}
use Rattle.pvs_typing.specs.Growth.{all_at}
use Rattle.pvs_elaboration.proofs.join.first_among.Given as goal

abbrev pub invariant-loop-ty : goal.invariant-loop-ty
invariant-loop-ty g l =
    let s = (g.S.Scope.known l.fn.scope).stored in
    first_among (all_at s l.types) (all_at s l.others) ≡ first_among (all_at s (drop l.ty-index l.types)) (all_at s l.others)
