use Rattle.pvs_terms.specs.Tree.{TPair}
use Rattle.pvs_terms.specs.Stored.{tree_at}
use Rattle.pvs_terms.specs.declared.shape.Sort.TheVariants.{OfType}
use Rattle.pvs_types.specs.Coerce.{lift_one}
use Rattle.pvs_typing.proofs.GrowthLaws.{keeps_trans, known_kept}
use Rattle.pvs_typing.proofs.JudgingLaws.{part_fault, result_err}
use Rattle.pvs_typing.proofs.RowLaws.{pair_fits}
use Rattle.pvs_typing.proofs.rows.tuple_type.Goals as goal

pub returns : goal.returns
returns g c =
    let h = c.in_ok-lifted.ensures in
    record {
      ok = rw (h.kept.stored.trees c.args.first c.requires.first.node, h.ok.tree) at c.pair_type.ensures.ok;
      refused = rw (h.kept.stored.trees c.args.first c.requires.first.node, h.ok.tree) at c.pair_type.ensures.refused;
      kept = keeps_trans c.in_ok-lifted.ensures.kept c.pair_type.ensures.kept;
    }

pub pair_type-requires-clause-first : goal.pair_type-requires-clause-first
pair_type-requires-clause-first g c =
    known_kept OfType c.args.first c.in_ok-lifted.ensures.kept c.requires.first

pub returns-in_err-lifted : goal.returns-in_err-lifted
returns-in_err-lifted g c =
    let s = (g.T.Theories.state c.args.theories.now).stored in
    let a = tree_at s c.args.first in
    let b = lift_one (tree_at s c.args.second) in
    rw (result_err c.from_residual.result c.from_residual.ensures.1) (record {
      ok = tt;
      refused = part_fault b (TPair c.args.components a b) c.in_err-lifted.field-0.0 (pair_fits c.args.components a b) c.in_err-lifted.ensures.refused;
      kept = c.in_err-lifted.ensures.kept;
    })
