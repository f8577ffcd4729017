use Rattle.std.proofs.Common.{length, refl, ap, subst, arith}
use Rattle.indexmap.specs.IndexMap.{set_value_at}
use Rattle.pvs_instantiate.specs.code.Places.{IsMoved, IsSet}
use Rattle.pvs_instantiate.specs.code.Changes.{IsSameTheory}
use Rattle.pvs_instantiate.specs.code.Growing.{Adds}
use Rattle.pvs_instantiate.proofs.ListLaws.{set_length, on_err}
use Rattle.pvs_instantiate.proofs.MoveLaws.{is_moved, is_set}
use Rattle.pvs_instantiate.proofs.theories.Theories.grow.Goals as goal

pub returns-in_err-add-clause-err : goal.returns-in_err-add-clause-err
returns-in_err-add-clause-err c =
    on_err c.from_residual.result
    (subst (λ l. IsSet IsSameTheory l (set_value_at c.self.inside.entries.entries c.args.at c.add.new.theory) c.args.at) c.self.view_is
    (is_set IsSameTheory c.self.inside.entries.entries (set_value_at c.self.inside.entries.entries c.args.at c.add.new.theory) c.args.at c.index_mut.result.now c.add.new.theory c.index_mut.ensures.value c.in_err-add.ensures.err refl))

pub move_last-requires : goal.move_last-requires
move_last-requires c = omega (arith, set_length c.self.inside.entries.entries c.args.at c.add.new.theory, ap length c.self.view_is, c.requires)

pub returns-clause-ok : goal.returns-clause-ok
returns-clause-ok c =
    subst (λ l. IsMoved (Adds c.args.growth) l c.move_last.new.self c.args.at) c.self.view_is
    (is_moved (Adds c.args.growth) c.self.inside.entries.entries c.move_last.new.self c.args.at c.index_mut.result.now c.add.new.theory c.index_mut.ensures.value c.in_ok-add.ensures.ok c.move_last.ensures)
