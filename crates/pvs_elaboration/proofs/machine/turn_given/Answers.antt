use Rattle.std.proofs.Common.{refl, ◌∙◌, ◌-◌, ap, take}
use Rattle.std.proofs.lemmas.List.{append-nil}
use Rattle.pvs_elaboration.proofs.MachineLaws.{given_last, given_outside, given_same, given_used}
use Rattle.pvs_elaboration.proofs.machine.turn_given.Goals as goal

pub returns-in-None : goal.returns-in-None
returns-in-None g c = λ t.
    let left = c.pop.new.self.items in
    given_last t c.args.machine.now c.args.value (c.in-None.ensures.items ∙ append-nil left ∙ c.in-None.ensures.rest ∙ ap (λ n. take (n - 1) c.args.machine.now.entries.items) c.in-None.ensures.cases.0) c.requires.value

pub returns-in-Some-Leave : goal.returns-in-Some-Leave
returns-in-Some-Leave g c = λ t.
    let e = rw c.in-Some-Leave.field-0-is at c.in-Some-Leave.ensures.items in
    given_outside t c.args.machine.now c.in-Some-Leave.outer (record { here = c.in-Some-Leave.outer; entries = c.pop.new.self }) c.args.value c.requires.machine e refl c.requires.value

pub returns-in-Some-Use-Same : goal.returns-in-Some-Use-Same
returns-in-Some-Use-Same g c = λ t.
    let e = rw (c.in-Some-Use-Same.field-0-is, c.in-Some-Use-Same.field-0-0-is) at c.in-Some-Use-Same.ensures.items in
    given_same t c.args.machine.now (record { here = c.args.machine.now.here; entries = c.pop.new.self }) c.args.value c.requires.machine e refl c.requires.value

pub returns-in-Some-Use : goal.returns-in-Some-Use
returns-in-Some-Use g c = λ t.
    let e = rw c.in-Some-Use.field-0-is at c.in-Some-Use.ensures.items in
    given_used t c.args.machine.now c.in-Some-Use.frame (record { here = c.args.machine.now.here; entries = c.pop.new.self }) c.args.value c.requires.machine e refl c.requires.value
