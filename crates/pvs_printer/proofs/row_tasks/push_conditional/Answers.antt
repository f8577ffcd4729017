use Rattle.std.proofs.Common.{refl}
use Rattle.pvs_printer.specs.code.Tasks.{row_tasks}
use Rattle.pvs_printer.specs.code.RowsAt.{row_at}
use Rattle.pvs_printer.specs.declared.row.Row.TheVariants as row
use Rattle.pvs_printer.proofs.row_tasks.push_conditional.Goals as goal

pub returns : goal.returns
returns c = λ s vars hc ha hb. c.push.ensures s (λ names. row_tasks names vars c.args.depth (row_at s (row.Cond c.args.c c.args.a c.args.b))) (tt, (tt, (hc, (tt, (tt, (tt, (ha, (tt, (tt, (tt, (hb, (tt, (tt, tt))))))))))))) (λ names. refl)
