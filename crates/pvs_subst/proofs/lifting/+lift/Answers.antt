use Rattle.std.proofs.Common.{arith, rules}
use Rattle.pvs_terms.specs.Stored.{tree_at, Stands}
use Rattle.pvs_terms.proofs.StoredLaws.{extends_trans}
use Rattle.pvs_subst.proofs.MemoLaws.{remembers_made, remembers_extends}
use Rattle.pvs_subst.specs.Replace.{lift}
use Rattle.pvs_subst.proofs.ReplaceLaws.{lift-closed}
use Rattle.pvs_terms.proofs.SortLaws.{has_sorts}
use Rattle.pvs_subst.proofs.SortLaws.{HasSorts-lift}
use Rattle.pvs_subst.proofs.Kept.{stands_unchanged, choose_stands, makeable}
use Rattle.std.proofs.Common.{◌∙◌, sym, subst, ap}
use Rattle.pvs_terms.specs.Sorts.{HasSorts}
use Rattle.pvs_terms.specs.Stored.{shape_tree}
use Rattle.pvs_subst.proofs.lifting.+lift.Goals as goal

pub lift_from-returns-then-free_below-from-clause-ok : goal.lift_from-returns-then-free_below-from-clause-ok
lift_from-returns-then-free_below-from-clause-ok t c =
    stands_unchanged c.requires.node c.view-node.ensures.fits
    (lift-closed (tree_at c.args.store.now c.args.id) c.args.by c.args.from (omega (arith, c.free_below.ensures, c.if-free_below-from.true)))

pub lift_parts-returns-in_ok-c-in-Choose-clause-ok : goal.lift_parts-returns-in_ok-c-in-Choose-clause-ok
lift_parts-returns-in_ok-c-in-Choose-clause-ok t c =
    rw c.in-Choose.is (choose_stands (λ x y. lift x c.args.by c.args.from) c.in-Choose.a c.in-Choose.b c.in-Choose.c c.in-Choose.b c.in_ok-a-in-Choose.ensures.kept c.in_ok-b-in-Choose.ensures.kept c.in_ok-c-in-Choose.ensures.kept
    (search rules) (search rules) (search rules) c.in_ok-a-in-Choose.ensures.ok c.in_ok-b-in-Choose.ensures.ok c.in_ok-c-in-Choose.ensures.ok)

pub lift_from-make-requires-clause-sorted : goal.lift_from-make-requires-clause-sorted
lift_from-make-requires-clause-sorted t c =
    let tree = c.view-node.ensures.tree ∙ ap (shape_tree c.args.store.now) (sym c.shape.ensures) in
    let sorts = subst HasSorts tree (has_sorts (tree_at c.args.store.now c.args.id) c.view-node.ensures.sorted) in
    (makeable c.node.result c.in_ok-lifted.ensures.ok c.node.ensures (HasSorts-lift (shape_tree c.args.store.now c.shape.result) c.args.by c.args.from sorts)).sorted

pub lift_from-returns-in-Some-clause-ok : goal.lift_from-returns-in-Some-clause-ok
lift_from-returns-in-Some-clause-ok t c = (c.requires.remembered.made (record { id = c.args.id; depth = c.args.from }) c.in-Some.made (sym c.get.ensures ∙ c.in-Some.is)).stands

pub lift_from-returns-clause-remembered : goal.lift_from-returns-clause-remembered
lift_from-returns-clause-remembered t c =
    let kept = extends_trans c.in_ok-lifted.ensures.kept c.in_ok-lifted_id.ensures.kept in
    let stands : Stands c.make.new.self (lift (tree_at c.args.store.now c.args.id) c.args.by c.args.from) c.in_ok-lifted_id.lifted_id = search rules in
    remembers_made (record { id = c.args.id; depth = c.args.from }) c.in_ok-lifted_id.lifted_id kept c.requires.node (remembers_extends c.in_ok-lifted_id.ensures.kept c.in_ok-lifted.ensures.remembered) stands c.in_ok-put.ensures
