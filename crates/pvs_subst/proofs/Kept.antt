-- What stands after several calls that keep every number.
use Rattle.std.proofs.Common.{◌≡◌, ℕ, refl, sym, ◌∙◌, ap, subst}
use Rattle.pvs_terms.specs.Tree.{Tree, If, IsWithinLimits}
use Rattle.pvs_terms.specs.Stored.{Stored, tree_at, shape_tree, node_tree, IsNode, ShapeIn, PartsIn, Extends, Stands, StandsAs}
use Rattle.pvs_terms.specs.Sorts.{HasSorts}
use Rattle.pvs_terms.specs.code.Shapes.{shape_of}
use Rattle.pvs_terms.specs.declared.node.Node.{Node}
use Rattle.pvs_terms.specs.declared.shape.Shape.{Shape}
use Rattle.pvs_terms.specs.declared.shape.Shape.TheVariants.{Choose}

-- a number after two calls
pub record Stays (s t : Stored) (i : ℕ) : Type 0 where
  pub node : IsNode t i
  pub tree : tree_at t i ≡ tree_at s i

pub stays : {s t u : Stored} {i : ℕ} → Extends s t → Extends t u → IsNode s i → Stays s u i
stays {i = i} x y h = record { node = y.nodes i (x.nodes i h); tree = y.trees i (x.nodes i h) ∙ x.trees i h }

-- a number that stands for a tree that the operation leaves as it is
pub stands_unchanged : {s : Stored} {i : ℕ} {t : Tree} → IsNode s i → IsWithinLimits (tree_at s i) → t ≡ tree_at s i → Stands s t i
stands_unchanged h f e = record { node = h; tree = sym e; fits = subst IsWithinLimits (sym e) f }

-- the three parts of a choice, each made by the operation in turn
pub choose_stands : (g : Tree → Tree → Tree) {s t u v : Stored} (a b c d : ℕ) {x y z : ℕ} → Extends s t → Extends t u → Extends u v → IsNode s b → IsNode s c → IsNode s d
    → Stands t (g (tree_at s a) (tree_at s d)) x → Stands u (g (tree_at t b) (tree_at t d)) y → Stands v (g (tree_at u c) (tree_at u d)) z
    → StandsAs v (If (g (tree_at s a) (tree_at s d)) (g (tree_at s b) (tree_at s d)) (g (tree_at s c) (tree_at s d))) (Choose x y z)
choose_stands g {s} {t} {u} a b c d {x = x} {y = y} {z = z} p q r hb hc hd sx sy sz =
    let sc = stays p q hc in
    let sd = stays p q hd in
    let first = r.trees x (q.nodes x sx.node) ∙ q.trees x sx.node ∙ sx.tree in
    let second = r.trees y sy.node ∙ sy.tree ∙ ap (λ w. g w (tree_at t d)) (p.trees b hb) ∙ ap (g (tree_at s b)) (p.trees d hd) in
    let third = sz.tree ∙ ap (λ w. g w (tree_at u d)) sc.tree ∙ ap (g (tree_at s c)) sd.tree in
    record {
      parts = (r.nodes x (q.nodes x sx.node), r.nodes y sy.node, sz.node);
      tree = rw (first, second, third) refl;
    }

-- what a node that is made needs
pub record IsMakeable (s : Stored) (n : Node) : Type 0 where
  pub parts : PartsIn s n
  pub sorted : HasSorts (node_tree s n)

pub makeable : {s : Stored} {x : Shape} {t : Tree} (n : Node) → StandsAs s t x → shape_of n ≡ x → HasSorts t → IsMakeable s n
makeable {s} {x} {t} n st e h = record {
  parts = subst (ShapeIn s) (sym e) st.parts;
  sorted = subst (λ y. HasSorts (shape_tree s y)) (sym e) (subst HasSorts (sym st.tree) h);
}
