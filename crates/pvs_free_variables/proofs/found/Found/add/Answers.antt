use Rattle.std.proofs.Common.{◌+◌, cond, arith, sym, ap, ◌∙◌, add-one}
use Rattle.std.specs.Prelude.{bytes_eq}
use Rattle.pvs_free_variables.specs.Occurrences.{all_occurs, occurs}
use Rattle.pvs_free_variables.specs.code.Counts.{times}
use Rattle.pvs_free_variables.specs.code.Finding.{names_of}
use Rattle.pvs_free_variables.proofs.CountLaws.{times_in, times_not_in}
use Rattle.pvs_free_variables.proofs.FindingLaws.{found_before, found_new, all_occurs_push, times_found}
use Rattle.pvs_free_variables.proofs.found.Found.add.Goals as goal

pub returns-then-count-gt0 : goal.returns-then-count-gt0
returns-then-count-gt0 c =
    let o = occurs c.args.occurrence in
    let is = c.count.ensures ∙ c.self.invariant o.name in
    rw (sym c.self.view_is) (found_before (all_occurs c.self.inside.occurrences.items) o (times_in o.name (names_of (all_occurs c.self.inside.occurrences.items)) (omega arith)))

pub invariant_of-self-in-Ok : goal.invariant_of-self-in-Ok
invariant_of-self-in-Ok c x =
    let o = occurs c.args.occurrence in
    let before = c.self.inside.occurrences.items in
    rw (c.in-Ok.ensures.items, all_occurs_push before c.args.occurrence, times_found x (all_occurs before) o)
    (c.in_ok-add.ensures.ok x ∙ ap (λ n. cond (bytes_eq o.name x) (n + 1) n) (c.self.invariant x) ∙ ap (λ n. cond (bytes_eq o.name x) n (times x (names_of (all_occurs before)))) (add-one (times x (names_of (all_occurs before)))))

pub returns-in-Ok : goal.returns-in-Ok
returns-in-Ok c =
    let o = occurs c.args.occurrence in
    let before = c.self.inside.occurrences.items in
    let is = c.count.ensures ∙ c.self.invariant o.name in
    rw (c.in-Ok.ensures.items, all_occurs_push before c.args.occurrence, ← c.self.view_is) (found_new (all_occurs before) o (times_not_in o.name (names_of (all_occurs before)) (omega arith)))
