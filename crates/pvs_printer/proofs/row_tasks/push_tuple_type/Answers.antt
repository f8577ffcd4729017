use Rattle.pvs_terms.specs.Stored.{tree_at}
use Rattle.pvs_printer.specs.code.Tasks.{row_tasks}
use Rattle.pvs_printer.specs.code.RowsAt.{row_at}
use Rattle.pvs_printer.specs.declared.row.Row.TheVariants as row
use Rattle.pvs_printer.proofs.PushLaws.{type_tasks}
use Rattle.pvs_printer.proofs.row_tasks.push_tuple_type.Goals as goal

pub returns : goal.returns
returns c = λ s vars ha hb. c.push.ensures s (λ names. row_tasks names vars c.args.depth (row_at s (row.TupleType c.args.k c.args.a c.args.b))) (tt, (hb, (ha, (tt, (tt, (hb, (tt, tt))))))) (λ names. type_tasks names vars c.args.depth c.args.k (tree_at s c.args.a) (tree_at s c.args.b))
