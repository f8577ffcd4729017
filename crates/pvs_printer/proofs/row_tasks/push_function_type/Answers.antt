use Rattle.std.proofs.Common.{refl}
use Rattle.pvs_printer.specs.code.Tasks.{row_tasks}
use Rattle.pvs_printer.specs.code.RowsAt.{row_at}
use Rattle.pvs_printer.specs.declared.row.Row.TheVariants as row
use Rattle.pvs_printer.proofs.row_tasks.push_function_type.Goals as goal

pub returns : goal.returns
returns c = λ s vars ha hb. c.push.ensures s (λ names. row_tasks names vars c.args.depth (row_at s (row.FunType c.args.a c.args.b))) (tt, (hb, (ha, (tt, (tt, (tt, (hb, (tt, tt)))))))) (λ names. refl)
