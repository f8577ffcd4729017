use Rattle.std.proofs.Common.{sym, ◌∙◌}
use Rattle.pvs_terms.specs.Stored.{ref_at, text_at}
use Rattle.pvs_printer.specs.code.Tasks.{ref_tasks}
use Rattle.pvs_printer.proofs.PushLaws.{instance_tasks}
use Rattle.pvs_printer.proofs.row_tasks.push_name.Goals as goal

pub returns-else-is_empty : goal.returns-else-is_empty
returns-else-is_empty c =
    let s = c.args.store.now in
    c.push-else-is_empty.ensures s (λ names. ref_tasks names (ref_at s c.args.r)) (c.in-Inst.ensures.named, (tt, (c.requires, (tt, (tt, (c.in-Inst.ensures.named, tt))))))
    (λ names. instance_tasks names (text_at s c.in-Inst.theory) c.in-Inst.n s c.actuals.result.now (ref_at s c.args.r) (sym c.is_empty.ensures ∙ c.if-is_empty.false) c.in-Inst.ensures.ref_is c.actuals.ensures.trees)
