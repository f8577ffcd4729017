use Rattle.std.proofs.Common.{◌≡◌, ◌+◌, ◌∷◌, ◌∙◌, ap, subst, sym, arith}
use Rattle.std.specs.Prelude.{OnOk}
use Rattle.pvs_free_variables.specs.declared.task.Task.TheVariants as task
use Rattle.pvs_free_variables.specs.code.Tasks.{AddsType, next_first}
use Rattle.pvs_free_variables.proofs.ScopeLaws.{after_success, is_untyped, next_tasks, typed_binding}
use Rattle.pvs_free_variables.proofs.binders.push_bindings.Goals as goal

pub returns-else-is_searched : goal.returns-else-is_searched
returns-else-is_searched c =
    let b = c.index-as_slice-from.result in
    let ts = next_first c.args.tasks.now in
    let new = next_first c.push_type.new.tasks in
    let item = rw c.as_slice.ensures at c.index-as_slice-from.is in
    let before : next_first c.push-2.new.self ≡ next_tasks c.args.bindings c.args.from b c.spelling.result ts =
    c.in_ok-push-2.ensures ∙ ap (λ us. task.Enter c.spelling.result ∷ us) c.in_ok-push.ensures
    ∙ ap (λ u. task.Enter c.spelling.result ∷ task.Bindings c.args.bindings (c.args.from + 1) u ∷ ts) (sym (is_untyped b.ty c.is_none.result c.is_none.ensures)) in
    rw c.if-is_searched.false (after_success c.push_type.result (typed_binding c.args.text.now c.args.bindings c.args.from b c.spelling.result c.spelling.ensures ts (omega arith) item new)
    (subst (λ us. OnOk c.push_type.result (AddsType us new c.args.bindings.now c.args.from)) before c.push_type.ensures))
