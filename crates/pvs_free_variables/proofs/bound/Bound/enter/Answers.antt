use Rattle.std.proofs.Common.{arith}
use Rattle.pvs_free_variables.specs.code.Binders.{innermost_first}
use Rattle.pvs_free_variables.proofs.CountLaws.{times_bound, innermost_length}
use Rattle.pvs_free_variables.proofs.bound.Bound.enter.Goals as goal

pub add-requires : goal.add-requires
add-requires c =
    let b = c.self.inside in
    let x = c.args.name.now in
    let small = b.names.small in
    let len = b.names.len in
    let cap = b.names.cap in
    let ok = b.names.ok in
    omega (arith, c.self.invariant x, times_bound x (innermost_first b.names.items), innermost_length b.names.items)
