use Rattle.std.proofs.Common.{sym, ◌∙◌}
use Rattle.pvs_terms.specs.Stored.{tree_at}
use Rattle.pvs_printer.proofs.PartsLaws.{type_row_is}
use Rattle.pvs_printer.proofs.row.type_row.Goals as goal

pub returns-then-is_tuple_type-clause-is : goal.returns-then-is_tuple_type-clause-is
returns-then-is_tuple_type-clause-is c =
    let s = c.args.store.now in
    type_row_is c.args.k c.saturating_sub.result (tree_at s c.args.id) (tree_at s c.args.a) (tree_at s c.args.b) c.requires.is (sym c.is_tuple_type.ensures ∙ c.if-is_tuple_type.true) c.saturating_sub.ensures
