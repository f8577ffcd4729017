use Rattle.std.proofs.Common.{arith, rules}
use Rattle.pvs_terms.specs.Stored.{tree_at, Stands}
use Rattle.pvs_subst.proofs.MemoLaws.{remembers_made, puts_remembered}
use Rattle.pvs_terms.proofs.StoredLaws.{extends_trans}
use Rattle.pvs_subst.specs.Replace.{put_at}
use Rattle.pvs_subst.proofs.ReplaceLaws.{put_at-closed}
use Rattle.pvs_terms.proofs.SortLaws.{has_sorts}
use Rattle.pvs_subst.proofs.SortLaws.{HasSorts-put_shape}
use Rattle.pvs_subst.proofs.Kept.{stands_unchanged, choose_stands, stays, makeable}
use Rattle.std.proofs.Common.{◌∙◌, sym, subst, ap}
use Rattle.pvs_terms.specs.Sorts.{HasSorts}
use Rattle.pvs_terms.specs.Stored.{shape_tree}
use Rattle.pvs_subst.specs.code.Compound.{IsCompound}
use Rattle.pvs_subst.proofs.putting.+put.Goals as goal

pub put_below-returns-then-free_below-depth-clause-ok : goal.put_below-returns-then-free_below-depth-clause-ok
put_below-returns-then-free_below-depth-clause-ok t c =
    stands_unchanged c.requires.body c.view-node.ensures.fits
    (put_at-closed (tree_at c.args.store.now c.args.body) (tree_at c.args.store.now c.args.arg) c.args.at (omega (arith, c.free_below.ensures, c.from-depth.ensures, c.if-free_below-depth.true)))

pub put_below-returns-in-Some-clause-ok : goal.put_below-returns-in-Some-clause-ok
put_below-returns-in-Some-clause-ok t c =
    let s = c.args.store.now in
    subst (λ d. Stands s (put_at (tree_at s c.args.body) (tree_at s c.args.arg) d) c.in-Some.made) c.from-depth.ensures
    (c.requires.remembered.made (record { id = c.args.body; depth = c.from-depth.result }) c.in-Some.made (sym c.get.ensures ∙ c.in-Some.is)).stands

pub put_below-put_whole-requires : goal.put_below-put_whole-requires
put_below-put_whole-requires t c =
    let tree = c.view-node.ensures.tree ∙ ap (shape_tree c.args.store.now) (sym c.shape.ensures) in
    let sorts = subst HasSorts tree (has_sorts (tree_at c.args.store.now c.args.body) c.view-node.ensures.sorted) in
    (search rules, (search rules, (c.requires.arg, (c.requires.term, (search rules, (sorts, c.requires.remembered))))))

pub put_below-returns-clause-remembered : goal.put_below-returns-clause-remembered
put_below-returns-clause-remembered t c =
    let s = c.args.store.now in
    let u = c.put_whole.new.store in
    let kept = c.in_ok-made.ensures.kept in
    let tree = c.view-node.ensures.tree ∙ ap (shape_tree s) (sym c.shape.ensures) in
    let stands : Stands u (put_at (tree_at s c.args.body) (tree_at u c.args.arg) c.from-depth.result) c.in_ok-made.made =
    rw (tree, kept.trees c.args.arg c.requires.arg, c.from-depth.ensures) c.in_ok-made.ensures.ok in
    remembers_made (record { id = c.args.body; depth = c.from-depth.result }) c.in_ok-made.made kept c.requires.body c.in_ok-made.ensures.remembered stands c.in_ok-put.ensures

pub put_whole-returns-in_ok-made-in-Index-clause-remembered : goal.put_whole-returns-in_ok-made-in-Index-clause-remembered
put_whole-returns-in_ok-made-in-Index-clause-remembered t c = puts_remembered c.args.arg c.in_ok-made-in-Index.ensures.kept c.requires.arg c.requires.remembered

pub put_whole-returns-in_ok-made-in_default : goal.put_whole-returns-in_ok-made-in_default
put_whole-returns-in_ok-made-in_default t c = record {
  ok = search rules;
  large = λ e. cc;
  kept = extends_trans c.in_ok-parts-in_default.ensures.kept c.in_ok-made-in_default.ensures.kept;
  remembered = puts_remembered c.args.arg c.in_ok-made-in_default.ensures.kept (c.in_ok-parts-in_default.ensures.kept.nodes c.args.arg c.requires.arg) c.in_ok-parts-in_default.ensures.remembered;
}

pub put_parts-put_below-requires-in-Choose-3 : goal.put_parts-put_below-requires-in-Choose-3
put_parts-put_below-requires-in-Choose-3 t c =
    let third = stays {i = c.in-Choose.c} c.in_ok-a-in-Choose.ensures.kept c.in_ok-b-in-Choose.ensures.kept (search rules) in
    let arg = stays c.in_ok-a-in-Choose.ensures.kept c.in_ok-b-in-Choose.ensures.kept c.requires.arg in
    (search rules, (third.node, (arg.node, (search rules, (search rules, c.in_ok-b-in-Choose.ensures.remembered)))))

pub put_parts-returns-in_ok-c-in-Choose-clause-ok : goal.put_parts-returns-in_ok-c-in-Choose-clause-ok
put_parts-returns-in_ok-c-in-Choose-clause-ok t c =
    rw c.in-Choose.is (choose_stands (λ x y. put_at x y c.args.at) c.in-Choose.a c.in-Choose.b c.in-Choose.c c.args.arg c.in_ok-a-in-Choose.ensures.kept c.in_ok-b-in-Choose.ensures.kept c.in_ok-c-in-Choose.ensures.kept
    (search rules) (search rules) c.requires.arg c.in_ok-a-in-Choose.ensures.ok c.in_ok-b-in-Choose.ensures.ok c.in_ok-c-in-Choose.ensures.ok)

pub put_whole-make-requires : goal.put_whole-make-requires
put_whole-make-requires t c =
    let x = c.args.shape in
    let compound : IsCompound x = search rules in
    let made = makeable c.node.result c.in_ok-parts-in_default.ensures.ok c.node.ensures (HasSorts-put_shape c.args.store.now x (tree_at c.args.store.now c.args.arg) c.args.at compound c.requires.term c.requires.sorted) in
    record { parts = made.parts; sorted = made.sorted }
