use Rattle.pvs_terms.specs.Stored.{tree_at}
use Rattle.pvs_printer.specs.code.Tasks.{row_tasks}
use Rattle.pvs_printer.specs.code.RowsAt.{row_at}
use Rattle.pvs_printer.specs.declared.row.Row.TheVariants as row
use Rattle.pvs_printer.proofs.PushLaws.{apply_tasks}
use Rattle.pvs_printer.proofs.row_tasks.push_application.Goals as goal

pub returns : goal.returns
returns c = λ s vars hf ha. c.push.ensures s (λ names. row_tasks names vars c.args.depth (row_at s (row.Apply c.args.f c.args.k c.args.a))) (hf, (tt, (ha, (tt, tt)))) (λ names. apply_tasks names vars c.args.depth (tree_at s c.args.f) c.args.k (tree_at s c.args.a))
