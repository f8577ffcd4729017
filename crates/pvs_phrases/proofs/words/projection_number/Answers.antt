use Rattle.std.proofs.Common.{sym, ap, ◌+◌, ◌*◌}
use Rattle.pvs_phrases.proofs.NumberLaws.{too_large}
use Rattle.pvs_phrases.proofs.words.projection_number.Goals as goal

pub returns-then-next : goal.returns-then-next
returns-then-next c =
    sym (too_large c.loop-digit.number (c.loop-digit.number * 10 + c.saturating_sub.result) c.in-Some.digit.now c.in-Some.others.now c.loop-digit.rest.now c.args.digits.now
    c.in-Some.ensures.cases.0 c.loop-digit.invariant (ap (λ d. c.loop-digit.number * 10 + d) c.saturating_sub.ensures) c.if-next.true)
