-- A node that is not kept stands for no tree of the store.
use Rattle.std.proofs.Common.{◌≡◌, ◌∙◌, refl, sym, ap, subst, arith, ℕ, ◌<◌, List, length, Some, slice_get}
use Rattle.std.specs.Prelude.{slice_index_or}
use Rattle.std.specs.Map.{keys_of}
use Rattle.std.proofs.lemmas.List.{length-map}
use Rattle.pvs_terms.specs.Tree.{Text}
use Rattle.pvs_terms.specs.declared.node.Node.{Node}
use Rattle.pvs_terms.specs.code.Refs.{RefEntry}
use Rattle.pvs_terms.specs.declared.measure.Measure.{Measure}
use Rattle.pvs_terms.specs.code.Shapes.{shape_of}
use Rattle.pvs_terms.specs.code.Measures.{no_trees}
use Rattle.pvs_terms.specs.Stored.{Stored, tree_at, node_tree, IsNode, PartsIn}
use Rattle.pvs_terms.specs.code.StoreView.{stored, IsSound}
use Rattle.pvs_terms.proofs.StoredLaws.{HasParts-mono}
use Rattle.pvs_terms.proofs.DistinctLaws.{shape_of-injective, shape_tree-injective, key_at, same_default}
use Rattle.pvs_terms.proofs.StoreLaws.{nodes_differ, refs_differ}

absent : (ts : List Text) (es : List (Node × Measure)) (rs : List RefEntry) (n : Node) → IsSound ts es rs → PartsIn (stored ts es rs) n → ((i : ℕ) → slice_get (keys_of es) i ≡ Some n → ⊥)
    → (j : ℕ) → IsNode (stored ts es rs) j → tree_at (stored ts es rs) j ≡ node_tree (stored ts es rs) n → ⊥
absent ts es rs n h p none j m k =
    let l : length (stored ts es rs).nodes ≡ length es = length-map es (λ (y : Node × Measure). y.0) in
    let at : j < length es = omega arith in
    let d : Node × Measure = slice_index_or es j (n, no_trees) in
    let right = h.nodes j d at (same_default es j (n, no_trees) d at) in
    let within : PartsIn (stored ts es rs) d.0 = HasParts-mono j (length (stored ts es rs).nodes) (length (stored ts es rs).refs) (length (stored ts es rs).refs) (shape_of d.0) (omega arith) (omega arith) right.parts in
    let same = shape_tree-injective (stored ts es rs) (shape_of d.0) (shape_of n) (λ a b x y e. nodes_differ a b h refl x y e) (λ a b x y e. refs_differ a b h refl x y e) within p (sym right.tree ∙ k) in
    none j (key_at es j (n, no_trees) at ∙ ap Some (shape_of-injective d.0 n same))

pub absent_stands : {ts : List Text} {es : List (Node × Measure)} {rs : List RefEntry} {s : Stored} (n : Node) → IsSound ts es rs → stored ts es rs ≡ s → PartsIn s n → ((i : ℕ) → slice_get (keys_of es) i ≡ Some n → ⊥)
    → (j : ℕ) → IsNode s j → tree_at s j ≡ node_tree s n → ⊥
absent_stands {ts} {es} {rs} n h v p none j =
    subst (λ t. PartsIn t n → IsNode t j → tree_at t j ≡ node_tree t n → ⊥) v (λ q. absent ts es rs n h q none j) p
