use Rattle.std.proofs.Common.{◌≡◌, ◌++◌, ap, ◌∙◌, sym, subst, rules}
use Rattle.pvs_terms.specs.Tree.{ref_size, trees_size}
use Rattle.pvs_terms.specs.Stored.{AreNodes, ref_at, tree_at, trees_at}
use Rattle.pvs_subst.proofs.SizeLaws.{size-positive}
use Rattle.pvs_types.specs.Symbols.{all_symbols}
use Rattle.pvs_typing.specs.Owed.{AreRefs, refs_at}
use Rattle.pvs_typing.proofs.SymbolLaws.{actuals_size, ok_weaker, reference_added, refs-append}
use Rattle.pvs_typing.proofs.symbols.+symbols.Goals as goal

pub add_all-add_all-requires : goal.add_all-add_all-requires
add_all-add_all-requires t c =
    let nodes = subst (AreNodes c.args.store.now) c.in-Some.ensures.cases.0 c.requires.nodes in
    let some = size-positive (tree_at c.args.store.now c.in-Some.first.now) in
    (search rules, (nodes.1, c.in_ok-add_symbols-in-Some.ensures.refs))

pub add_reference-add_all-requires : goal.add_reference-add_all-requires
add_reference-add_all-requires t c =
    let s = c.args.store.now in
    let e : ref_size (ref_at s c.args.r) ≡ trees_size (trees_at s c.actuals.result.now) = actuals_size (ref_at s c.args.r) ∙ ap trees_size (sym c.actuals.ensures.trees) in
    (search rules, (c.actuals.ensures.nodes, subst (AreRefs s) (sym c.in_ok-push.ensures.items) (refs-append s c.args.uses.now.items c.args.r c.requires.refs c.requires.reference)))

pub add_reference-returns-clause-ok : goal.add_reference-returns-clause-ok
add_reference-returns-clause-ok t c =
    let s = c.args.store.now in
    ok_weaker c.add_all.result (λ _ h. reference_added s c.args.uses.now.items c.add_all.new.uses.items c.args.r (trees_at s c.actuals.result.now) c.actuals.ensures.trees
    (h ∙ ap (λ x. refs_at s x ++ all_symbols (trees_at s c.actuals.result.now)) c.in_ok-push.ensures.items)) c.add_all.ensures.ok
