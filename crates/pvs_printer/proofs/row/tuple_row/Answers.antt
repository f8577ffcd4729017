use Rattle.std.proofs.Common.{sym, ◌∙◌}
use Rattle.pvs_terms.specs.Stored.{tree_at}
use Rattle.pvs_printer.proofs.PartsLaws.{tuple_row_is}
use Rattle.pvs_printer.proofs.row.tuple_row.Goals as goal

pub returns-then-is_tuple-clause-is : goal.returns-then-is_tuple-clause-is
returns-then-is_tuple-clause-is c =
    let s = c.args.store.now in
    tuple_row_is c.args.k c.saturating_sub.result (tree_at s c.args.id) (tree_at s c.args.a) (tree_at s c.args.b) c.requires.is (sym c.is_tuple.ensures ∙ c.if-is_tuple.true) c.saturating_sub.ensures
