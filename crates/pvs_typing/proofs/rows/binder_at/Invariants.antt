use Rattle.std.proofs.Common.{◌≡◌, drop}
use Rattle.pvs_typing.specs.code.Rows.{binder_at}
use Rattle.pvs_typing.proofs.rows.binder_at.Given as goal

abbrev pub invariant-loop-item : goal.invariant-loop-item
invariant-loop-item l = binder_at l.fn.g.items l.fn.index ≡ binder_at (drop l.item-index l.fn.g.items) l.left
