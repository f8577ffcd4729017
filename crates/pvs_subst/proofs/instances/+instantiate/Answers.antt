use Rattle.std.proofs.Common.{◌≡◌, ◌∙◌, sym, ap, subst, rules, length}
use Rattle.pvs_terms.specs.Tree.{IsWithinLimits, AreClosed, Name, Formal, ref_actuals}
use Rattle.pvs_terms.specs.Stored.{tree_at, trees_at, text_at, ref_at, ShapeIn, shape_tree, Stands, AreNodes, IsNode}
use Rattle.pvs_terms.proofs.StoredLaws.{extends_trans, trees_at-extends, nodes_extend}
use Rattle.pvs_subst.specs.Instance.{HasActuals, AllHaveActuals, AreWithinLimits}
use Rattle.pvs_subst.proofs.SizeLaws.{size-positive}
use Rattle.pvs_subst.proofs.InstanceLaws.{instantiate-foreign, closed-instantiate_all}
use Rattle.pvs_subst.proofs.InstanceKept.{actual_within, inst_at, all_at, second_fits, third_fits, choose_made, instance_after, inst_same, all_same, formals_after, all_formals_after, node_of, actual-at, list_made, rest_fits}
use Rattle.pvs_terms.proofs.SortLaws.{has_sorts}
use Rattle.pvs_subst.proofs.SortLaws.{HasSorts-instantiate_shape}
use Rattle.pvs_subst.proofs.Kept.{stands_unchanged, makeable}
use Rattle.pvs_terms.specs.Sorts.{HasSorts}
use Rattle.pvs_subst.proofs.MemoLaws.{remembers_made, instances_remembered}
use Rattle.pvs_subst.specs.code.Compound.{IsNoName}
use Rattle.pvs_subst.proofs.instances.+instantiate.Goals as goal

pub instantiate_tree-returns-then-not-is_local-clause-ok : goal.instantiate_tree-returns-then-not-is_local-clause-ok
instantiate_tree-returns-then-not-is_local-clause-ok t c =
    stands_unchanged c.requires.node c.view-node.ensures.fits
    (instantiate-foreign (tree_at c.args.store.now c.args.id) (text_at c.args.store.now c.args.theory) (trees_at c.args.store.now c.args.actuals.now) (search rules))

pub instantiate_tree-returns-in-Some-clause-ok : goal.instantiate_tree-returns-in-Some-clause-ok
instantiate_tree-returns-in-Some-clause-ok t c = (c.requires.remembered.made (record { id = c.args.id; depth = 0 }) c.in-Some.made (sym c.get.ensures ∙ c.in-Some.is)).stands

pub instantiate_tree-instantiate_whole-requires : goal.instantiate_tree-instantiate_whole-requires
instantiate_tree-instantiate_whole-requires t c =
    let s = c.args.store.now in
    let tree = c.view-node.ensures.tree ∙ ap (shape_tree s) (sym c.shape.ensures) in
    let sorts = subst HasSorts tree (has_sorts (tree_at s c.args.id) c.view-node.ensures.sorted) in
    let formals = subst (HasActuals (trees_at s c.args.actuals.now)) tree c.requires.formals in
    (search rules, (search rules, (c.requires.instance, (formals, (sorts, c.requires.remembered)))))

pub instantiate_tree-returns-clause-remembered : goal.instantiate_tree-returns-clause-remembered
instantiate_tree-returns-clause-remembered t c =
    let s = c.args.store.now in
    let u = c.instantiate_whole.new.store in
    let kept = c.in_ok-made.ensures.kept in
    let given = c.requires.instance in
    let tree = c.view-node.ensures.tree ∙ ap (shape_tree s) (sym c.shape.ensures) in
    let stands : Stands u (inst_at u c.args.theory c.args.actuals.now (tree_at s c.args.id)) c.in_ok-made.made =
    rw (tree, kept.texts c.args.theory given.theory, trees_at-extends s u c.args.actuals.now kept given.actuals) c.in_ok-made.ensures.ok in
    remembers_made (record { id = c.args.id; depth = 0 }) c.in_ok-made.made kept c.requires.node c.in_ok-made.ensures.remembered stands c.in_ok-put.ensures

pub instantiate_whole-returns-in_ok-made-in_default : goal.instantiate_whole-returns-in_ok-made-in_default
instantiate_whole-returns-in_ok-made-in_default t c = record {
  ok = search rules;
  large = λ e. cc;
  kept = extends_trans c.in_ok-parts-in_default.ensures.kept c.in_ok-made-in_default.ensures.kept;
  remembered = instances_remembered c.in_ok-made-in_default.ensures.kept (instance_after c.in_ok-parts-in_default.ensures.kept c.requires.instance) c.in_ok-parts-in_default.ensures.remembered;
}

pub instantiate_whole-make-requires : goal.instantiate_whole-make-requires
instantiate_whole-make-requires t c =
    let s = c.args.store.now in
    let x = c.args.shape in
    let unnamed : IsNoName x = search rules in
    let made = makeable c.node.result c.in_ok-parts-in_default.ensures.ok c.node.ensures (HasSorts-instantiate_shape s x (text_at s c.args.theory) (trees_at s c.args.actuals.now) unnamed c.requires.formals c.requires.sorted) in
    record { parts = made.parts; sorted = made.sorted }

pub instantiate_name-returns-in_ok-made-in-Own-clause-remembered : goal.instantiate_name-returns-in_ok-made-in-Own-clause-remembered
instantiate_name-returns-in_ok-made-in-Own-clause-remembered t c =
    instances_remembered (extends_trans c.in_ok-entry-in-Own.ensures.kept c.in_ok-made-in-Own.ensures.kept) c.requires.instance c.requires.remembered

pub instantiate_name-returns-in_ok-made-in-Inst-clause-remembered : goal.instantiate_name-returns-in_ok-made-in-Inst-clause-remembered
instantiate_name-returns-in_ok-made-in-Inst-clause-remembered t c =
    instances_remembered (extends_trans c.in_ok-entry-in-Inst.ensures.kept c.in_ok-made-in-Inst.ensures.kept) (instance_after c.in_ok-replaced-in-Inst.ensures.kept c.requires.instance) c.in_ok-replaced-in-Inst.ensures.remembered

pub instantiate_name-returns-in_err-made-in-Inst-clause-kept : goal.instantiate_name-returns-in_err-made-in-Inst-clause-kept
instantiate_name-returns-in_err-made-in-Inst-clause-kept t c = extends_trans c.in_ok-replaced-in-Inst.ensures.kept (extends_trans c.in_ok-entry-in-Inst.ensures.kept c.in_err-made-in-Inst.ensures.kept)

pub instantiate_both-instantiate_tree-requires-2 : goal.instantiate_both-instantiate_tree-requires-2
instantiate_both-instantiate_tree-requires-2 t c =
    let kept = c.in_ok-first.ensures.kept in
    (search rules, (kept.nodes c.args.b c.requires.second, (instance_after kept c.requires.instance, (formals_after c.args.actuals.now c.args.b kept c.requires.instance.actuals c.requires.second c.requires.more_formals, c.in_ok-first.ensures.remembered))))

pub instantiate_both-returns-clause-second : goal.instantiate_both-returns-clause-second
instantiate_both-returns-clause-second t c =
    subst (λ w. Stands c.instantiate_tree-2.new.store w c.in_ok-second.second) (inst_same c.args.b c.in_ok-first.ensures.kept c.requires.instance c.requires.second) c.in_ok-second.ensures.ok

pub instantiate_both-returns-in_err-second-clause-large : goal.instantiate_both-returns-in_err-second-clause-large
instantiate_both-returns-in_err-second-clause-large t c e f g =
    c.in_err-second.ensures.large (search rules) (subst IsWithinLimits (sym (inst_same c.args.b c.in_ok-first.ensures.kept c.requires.instance c.requires.second)) g)

pub instantiate_parts-instantiate_both-requires-in-Choose : goal.instantiate_parts-instantiate_both-requires-in-Choose
instantiate_parts-instantiate_both-requires-in-Choose t c =
    let kept = c.in_ok-a-in-Choose.ensures.kept in
    let parts = subst (ShapeIn c.args.store.now) c.in-Choose.is c.requires.parts in
    let formals = subst (λ x. HasActuals (trees_at c.args.store.now c.args.actuals.now) (shape_tree c.args.store.now x)) c.in-Choose.is c.requires.formals in
    let eb = kept.trees c.in-Choose.b parts.1 in
    let ec = kept.trees c.in-Choose.c parts.2 in (
      search rules,
      (
        kept.nodes c.in-Choose.b parts.1,
        (
          kept.nodes c.in-Choose.c parts.2,
          (
            instance_after kept c.requires.instance,
            (formals_after c.args.actuals.now c.in-Choose.b kept c.requires.instance.actuals parts.1 formals.1, (formals_after c.args.actuals.now c.in-Choose.c kept c.requires.instance.actuals parts.2 formals.2, c.in_ok-a-in-Choose.ensures.remembered)),
          ),
        ),
      ),
    )

pub instantiate_parts-returns-in_err-b-in-Choose-clause-large : goal.instantiate_parts-returns-in_err-b-in-Choose-clause-large
instantiate_parts-returns-in_err-b-in-Choose-clause-large t c e f =
    let kept = c.in_ok-a-in-Choose.ensures.kept in
    let parts = subst (ShapeIn c.args.store.now) c.in-Choose.is c.requires.parts in
    let whole = subst (λ x. IsWithinLimits (inst_at c.args.store.now c.args.theory c.args.actuals.now (shape_tree c.args.store.now x))) c.in-Choose.is f in
    c.in_err-b-in-Choose.ensures.large (search rules)
    (subst IsWithinLimits (sym (inst_same c.in-Choose.b kept c.requires.instance parts.1)) (second_fits whole))
    (subst IsWithinLimits (sym (inst_same c.in-Choose.c kept c.requires.instance parts.2)) (third_fits whole))

pub instantiate_parts-returns-in_ok-b-in-Choose-clause-ok : goal.instantiate_parts-returns-in_ok-b-in-Choose-clause-ok
instantiate_parts-returns-in_ok-b-in-Choose-clause-ok t c =
    let kept = c.in_ok-a-in-Choose.ensures.kept in
    let parts = subst (ShapeIn c.args.store.now) c.in-Choose.is c.requires.parts in
    rw c.in-Choose.is (choose_made c.in-Choose.a c.in-Choose.b c.in-Choose.c kept c.in_ok-b-in-Choose.ensures.kept c.requires.instance parts.1 parts.2
    c.in_ok-a-in-Choose.ensures.ok c.in_ok-b-in-Choose.ensures.first c.in_ok-b-in-Choose.ensures.second)

pub instantiate_list-instantiate_list-requires : goal.instantiate_list-instantiate_list-requires
instantiate_list-instantiate_list-requires t c =
    let kept = c.in_ok-made-in-Some.ensures.kept in
    let nodes = subst (AreNodes c.args.store.now) c.in-Some.ensures.cases.0 c.requires.nodes in
    let formals = subst (λ x. AllHaveActuals (trees_at c.args.store.now c.args.actuals.now) (trees_at c.args.store.now x)) c.in-Some.ensures.cases.0 c.requires.formals in
    let some = size-positive (tree_at c.args.store.now c.in-Some.first.now) in
    let rest = trees_at-extends c.args.store.now c.instantiate_tree.new.store c.in-Some.rest.now kept nodes.1 in (
      search rules,
      (
        nodes_extend c.args.store.now c.instantiate_tree.new.store c.in-Some.rest.now kept nodes.1,
        (
          instance_after kept c.requires.instance,
          (all_formals_after c.args.actuals.now c.in-Some.rest.now kept c.requires.instance.actuals nodes.1 formals.1, c.in_ok-made-in-Some.ensures.remembered),
        ),
      ),
    )

pub instantiate_list-returns-in_err-list-in-Some-clause-kept : goal.instantiate_list-returns-in_err-list-in-Some-clause-kept
instantiate_list-returns-in_err-list-in-Some-clause-kept t c = extends_trans c.in_ok-made-in-Some.ensures.kept c.in_err-list-in-Some.ensures.kept

pub instantiate_list-returns-in_err-list-in-Some-clause-large : goal.instantiate_list-returns-in_err-list-in-Some-clause-large
instantiate_list-returns-in_err-list-in-Some-clause-large t c e f =
    let kept = c.in_ok-made-in-Some.ensures.kept in
    let nodes = subst (AreNodes c.args.store.now) c.in-Some.ensures.cases.0 c.requires.nodes in
    let whole = subst (λ x. AreWithinLimits (all_at c.args.store.now c.args.theory c.args.actuals.now x)) c.in-Some.ensures.cases.0 f in
    c.in_err-list-in-Some.ensures.large (search rules) (subst AreWithinLimits (sym (all_same c.in-Some.rest.now kept c.requires.instance nodes.1)) (rest_fits whole))

pub instantiate_list-returns-in_ok-insert-in-Some-clause-ok : goal.instantiate_list-returns-in_ok-insert-in-Some-clause-ok
instantiate_list-returns-in_ok-insert-in-Some-clause-ok t c =
    let nodes = subst (AreNodes c.args.store.now) c.in-Some.ensures.cases.0 c.requires.nodes in
    rw c.in-Some.ensures.cases.0 (list_made c.in-Some.first.now c.in-Some.rest.now c.insert.new.self.items c.in_ok-made-in-Some.ensures.kept c.in_ok-list-in-Some.ensures.kept c.requires.instance nodes.1
    c.in_ok-made-in-Some.ensures.ok c.in_ok-list-in-Some.ensures.ok c.in_ok-insert-in-Some.ensures.items)

pub instantiate_name-view-node-requires : goal.instantiate_name-view-node-requires
instantiate_name-view-node-requires t c =
    let bound = actual_within c.args.store.now c.args.actuals.now c.in-Formal.n c.args.sort (subst (λ q. HasActuals (trees_at c.args.store.now c.args.actuals.now) (Name c.args.sort q)) c.in-Formal.ensures.ref_is c.requires.formals) in
    subst (IsNode c.args.store.now) (sym c.index-actuals-n.is) (node_of (length c.args.store.now.nodes) c.args.actuals.now c.in-Formal.n c.index-actuals-n.result c.requires.instance.actuals bound)

pub instantiate_name-returns-in-Formal-clause-ok : goal.instantiate_name-returns-in-Formal-clause-ok
instantiate_name-returns-in-Formal-clause-ok t c =
    let s = c.args.store.now in
    let bound = actual_within c.args.store.now c.args.actuals.now c.in-Formal.n c.args.sort (subst (λ q. HasActuals (trees_at c.args.store.now c.args.actuals.now) (Name c.args.sort q)) c.in-Formal.ensures.ref_is c.requires.formals) in
    stands_unchanged (subst (IsNode s) (sym c.index-actuals-n.is) (node_of (length s.nodes) c.args.actuals.now c.in-Formal.n c.index-actuals-n.result c.requires.instance.actuals bound)) c.view-node.ensures.fits
    (ap (λ q. inst_at s c.args.theory c.args.actuals.now (Name c.args.sort q)) c.in-Formal.ensures.ref_is
    ∙ actual-at s c.args.actuals.now c.in-Formal.n c.index-actuals-n.result (Name c.args.sort (Formal c.in-Formal.n)) bound ∙ ap (tree_at s) (sym c.index-actuals-n.is))

pub instantiate_name-reference-requires-in-Inst-clause-closed : goal.instantiate_name-reference-requires-in-Inst-clause-closed
instantiate_name-reference-requires-in-Inst-clause-closed t c =
    let s = c.args.store.now in
    let inner : trees_at s c.as_slice.result.now ≡ ref_actuals (ref_at s c.args.r) = ap (trees_at s) (c.as_slice.ensures ∙ c.in_ok-inner-in-Inst.ensures.ok) ∙ c.actuals.ensures.trees in
    rw c.as_slice-in-Inst.ensures.value (subst AreClosed (sym c.in_ok-replaced-in-Inst.ensures.ok)
    (closed-instantiate_all (trees_at s c.as_slice.result.now) (text_at s c.args.theory) (trees_at s c.args.actuals.now) c.requires.instance.closed (subst AreClosed (sym inner) c.actuals.ensures.closed)))

pub instantiate_name-returns-in_ok-made-in-Inst-clause-kept : goal.instantiate_name-returns-in_ok-made-in-Inst-clause-kept
instantiate_name-returns-in_ok-made-in-Inst-clause-kept t c = extends_trans c.in_ok-replaced-in-Inst.ensures.kept (extends_trans c.in_ok-entry-in-Inst.ensures.kept c.in_ok-made-in-Inst.ensures.kept)

pub instantiate_name-bounds-actuals-n : goal.instantiate_name-bounds-actuals-n
instantiate_name-bounds-actuals-n t c =
    actual_within c.args.store.now c.args.actuals.now c.in-Formal.n c.args.sort
    (subst (λ q. HasActuals (trees_at c.args.store.now c.args.actuals.now) (Name c.args.sort q)) c.in-Formal.ensures.ref_is c.requires.formals)
