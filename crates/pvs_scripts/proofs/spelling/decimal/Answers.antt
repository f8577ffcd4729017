use Rattle.std.proofs.Common.{arith}
use Rattle.pvs_scripts.proofs.Decimal.{ten_le, decimal_small}
use Rattle.pvs_scripts.proofs.spelling.decimal.Goals as goal

pub overflow_mul-value : goal.overflow_mul-value
overflow_mul-value c =
    omega (arith, ten_le c.loop-rest.rest.now c.loop-rest.value c.in-len1-up.len_at_least, decimal_small c.args.bytes.now c.if-bytes-gt9.false, c.loop-rest.invariant)

pub overflow_add-value : goal.overflow_add-value
overflow_add-value c =
    omega (arith, ten_le c.loop-rest.rest.now c.loop-rest.value c.in-len1-up.len_at_least, decimal_small c.args.bytes.now c.if-bytes-gt9.false, c.loop-rest.invariant, c.digit.ensures.small)
