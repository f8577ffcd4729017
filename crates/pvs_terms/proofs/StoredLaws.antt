-- What stays, and what is new, when a node is added.
use Rattle.std.proofs.Common.{◌≡◌, ℕ, zero, suc, ◌+◌, ◌<◌, ◌≤◌, List, [], ◌∷◌, ◌++◌, length, refl, ap, sym, ◌∙◌, subst, arith, length-append}
use Rattle.pvs_terms.specs.Tree.{tree_eq}
use Rattle.pvs_terms.proofs.TreeLaws.{tree_eq-same}
use Rattle.std.proofs.Common.{Bool, true, inl, inr, ◌⊎◌}
use Rattle.std.proofs.lemmas.Bool.{cases_lt}
use Rattle.std.proofs.lemmas.List.{get_or_append_left, get_or_push}
use Rattle.pvs_terms.specs.Tree as tree
use Rattle.pvs_terms.specs.Tree.{Tree, Ref}
use Rattle.pvs_terms.specs.declared.node.Node.{Node}
use Rattle.pvs_terms.specs.declared.shape.Shape.{Shape}
use Rattle.pvs_terms.specs.declared.shape.Shape.TheVariants as shape
use Rattle.pvs_terms.specs.code.Shapes.{shape_of}
use Rattle.pvs_terms.specs.declared.node.RefKind.{RefKind}
use Rattle.pvs_terms.specs.declared.node.RefKind.TheVariants as kind
use Rattle.std.specs.Prelude.{slice_index_or}
use Rattle.pvs_terms.specs.Stored.{Stored, Reference, no_reference, tree_among, trees_among, ref_from, theory_in, ref_among, text_at, shape_among, shape_tree, trees_after, trees, tree_at, ref_at, IsNode, HasParts, PartsIn, node_tree, AllBelow, trees_at, given_ref, Extends, Stands}
use Rattle.pvs_terms.specs.Tree.{Text}
use Rattle.pvs_terms.specs.code.Texts.{KeepsTexts}
use Rattle.pvs_terms.specs.code.StoreView.{ActualsBelow, NameBelow, NamesBelow}

trees_after-push : (rs : List Reference) (ts : List Tree) (ns : List Node) (n : Node) → trees_after rs ts (ns ++ n ∷ []) ≡ trees_after rs ts ns ++ shape_among rs (trees_after rs ts ns) (shape_of n) ∷ []
trees_after-push rs ts [] n = refl
trees_after-push rs ts (m ∷ ns) n = trees_after-push rs (ts ++ shape_among rs ts (shape_of m) ∷ []) ns n

length-trees_after : (rs : List Reference) (ts : List Tree) (ns : List Node) → length (trees_after rs ts ns) ≡ length ts + length ns
length-trees_after rs ts [] = omega arith
length-trees_after rs ts (m ∷ ns) = omega (arith, length-trees_after rs (ts ++ shape_among rs ts (shape_of m) ∷ []) ns, length-append ts (shape_among rs ts (shape_of m) ∷ []))

-- the store with one more node
abbrev pub pushed : Stored → Node → Stored
pushed s n = record { names = s.names; nodes = s.nodes ++ n ∷ []; refs = s.refs }

shape_among-tree : (s : Stored) (n : Shape) → shape_among s.refs (trees s) n ≡ shape_tree s n
unfolding tree_at ref_at
shape_among-tree s (shape.Leaf o) = refl
shape_among-tree s (shape.Index n) = refl
shape_among-tree s (shape.Name t r) = refl
shape_among-tree s (shape.Bind o a b) = refl
shape_among-tree s (shape.Join o a b) = refl
shape_among-tree s (shape.Project o a) = refl
shape_among-tree s (shape.Choose a b c) = refl

trees-push : (s : Stored) (n : Node) → trees (pushed s n) ≡ trees s ++ node_tree s n ∷ []
unfolding trees
trees-push s n = trees_after-push s.refs [] s.nodes n ∙ ap (λ t. trees s ++ t ∷ []) (shape_among-tree s (shape_of n))

length-trees : (s : Stored) → length (trees s) ≡ length s.nodes
unfolding trees
length-trees s = omega (arith, length-trees_after s.refs [] s.nodes)

pub tree_at-push_old : (s : Stored) (n : Node) (i : ℕ) → IsNode s i → tree_at (pushed s n) i ≡ tree_at s i
unfolding tree_at
tree_at-push_old s n i h =
    let j : i < length (trees s) = omega (arith, length-trees s) in
    ap (λ ts. tree_among ts i) (trees-push s n) ∙ get_or_append_left (trees s) (node_tree s n ∷ []) tree.False i j

pub tree_at-push_new : (s : Stored) (n : Node) → tree_at (pushed s n) (length s.nodes) ≡ node_tree s n
unfolding tree_at
tree_at-push_new s n =
    ap (λ ts. tree_among ts (length s.nodes)) (trees-push s n) ∙ get_or_push (trees s) (node_tree s n) tree.False (length s.nodes) (length-trees s)

-- references whose actuals are nodes keep their meaning
trees_among-push : (ts more : List Tree) (is : List ℕ) → AllBelow (length ts) is → trees_among (ts ++ more) is ≡ trees_among ts is
trees_among-push ts more [] h = refl
trees_among-push ts more (i ∷ is) h = rw (get_or_append_left ts more tree.False i h.0, trees_among-push ts more is h.1) refl

pub ref_at-push : (s : Stored) (n : Node) (r : ℕ) → AllBelow (length s.nodes) (slice_index_or s.refs r no_reference).actuals → ref_at (pushed s n) r ≡ ref_at s r
unfolding ref_at
ref_at-push s n r h =
    let x : Reference = slice_index_or s.refs r no_reference in
    ap (λ ts. ref_from x.kind x.theory (trees_among ts x.actuals)) (trees-push s n)
    ∙ ap (ref_from x.kind x.theory) (trees_among-push (trees s) (node_tree s n ∷ []) x.actuals (subst (λ k. AllBelow k x.actuals) (sym (length-trees s)) h))

pub AllBelow-mono : (m n : ℕ) (is : List ℕ) → m ≤ n → AllBelow m is → AllBelow n is
AllBelow-mono m n [] le h = tt
AllBelow-mono m n (i ∷ is) le h = (omega (arith, h.0), AllBelow-mono m n is le h.1)

pub ActualsBelow-mono : (m n : ℕ) (rs : List Reference) → m ≤ n → ActualsBelow m rs → ActualsBelow n rs
ActualsBelow-mono m n [] le h = tt
ActualsBelow-mono m n (r ∷ rs) le h = (AllBelow-mono m n r.actuals le h.0, ActualsBelow-mono m n rs le h.1)

pub actuals_at : (n : ℕ) (rs : List Reference) (r : ℕ) → ActualsBelow n rs → AllBelow n (slice_index_or rs r no_reference).actuals
actuals_at n [] r h = tt
actuals_at n (x ∷ rs) zero h = h.0
actuals_at n (x ∷ rs) (suc r) h = actuals_at n rs r h.1

pub HasParts-mono : (m n r q : ℕ) (x : Shape) → m ≤ n → r ≤ q → HasParts m r x → HasParts n q x
HasParts-mono m n r q (shape.Leaf o) a b h = tt
HasParts-mono m n r q (shape.Index i) a b h = tt
HasParts-mono m n r q (shape.Name s i) a b h = omega (arith, h)
HasParts-mono m n r q (shape.Bind o i j) a b h = (omega (arith, h.0), omega (arith, h.1))
HasParts-mono m n r q (shape.Join o i j) a b h = (omega (arith, h.0), omega (arith, h.1))
HasParts-mono m n r q (shape.Project o i) a b h = omega (arith, h)
HasParts-mono m n r q (shape.Choose i j k) a b h = (omega (arith, h.0), omega (arith, h.1), omega (arith, h.2))

-- a node more: every number keeps what it stands for
pub extends-push : (s : Stored) (n : Node) → ActualsBelow (length s.nodes) s.refs → Extends s (pushed s n)
unfolding text_at
extends-push s n h = record {
  nodes = λ i a. omega (arith, a, length-append s.nodes (n ∷ []));
  refs = λ r a. a;
  names = λ k a. a;
  texts = λ k a. refl;
  trees = λ i a. tree_at-push_old s n i a;
  references = λ r a. ref_at-push s n r (actuals_at (length s.nodes) s.refs r h);
}

-- the parts' trees stay, so the node's does
pub shape_tree-extends : (old new : Stored) (n : Shape) → Extends old new → HasParts (length old.nodes) (length old.refs) n → shape_tree new n ≡ shape_tree old n
shape_tree-extends old new (shape.Leaf o) x h = refl
shape_tree-extends old new (shape.Index n) x h = refl
shape_tree-extends old new (shape.Name s r) x h = ap (tree.Name s) (x.references r h)
shape_tree-extends old new (shape.Bind o a b) x h = rw (x.trees a h.0, x.trees b h.1) refl
shape_tree-extends old new (shape.Join o a b) x h = rw (x.trees a h.0, x.trees b h.1) refl
shape_tree-extends old new (shape.Project o a) x h = ap (tree.Project o) (x.trees a h)
shape_tree-extends old new (shape.Choose a b c) x h = rw (x.trees a h.0, x.trees b h.1, x.trees c h.2) refl

pub node_tree-extends : (old new : Stored) (n : Node) → Extends old new → PartsIn old n → node_tree new n ≡ node_tree old n
node_tree-extends old new n = shape_tree-extends old new (shape_of n)

pub extends_refl : (s : Stored) → Extends s s
extends_refl s = record { nodes = λ i h. h; refs = λ r h. h; names = λ n h. h; trees = λ i h. refl; references = λ r h. refl; texts = λ n h. refl }

pub extends_trans : {a b c : Stored} → Extends a b → Extends b c → Extends a c
extends_trans x y = record {
  nodes = λ i h. y.nodes i (x.nodes i h);
  refs = λ r h. y.refs r (x.refs r h);
  trees = λ i h. y.trees i (x.nodes i h) ∙ x.trees i h;
  references = λ r h. y.references r (x.refs r h) ∙ x.references r h;
  names = λ n h. y.names n (x.names n h);
  texts = λ n h. y.texts n (x.names n h) ∙ x.texts n h;
}

-- what stood stands
pub stands_extends : {s t : Stored} {x : Tree} {i : ℕ} → Extends s t → Stands s x i → Stands t x i
stands_extends {i = i} e h = record { node = e.nodes i h.node; tree = e.trees i h.node ∙ h.tree; fits = h.fits }

-- a reference more
abbrev pub pushed_ref : Stored → Reference → Stored
pushed_ref s x = record { names = s.names; nodes = s.nodes; refs = s.refs ++ x ∷ [] }

shape_among-push_ref : (rs : List Reference) (x : Reference) (ts : List Tree) (n : Shape) → NameBelow (length rs) n → shape_among (rs ++ x ∷ []) ts n ≡ shape_among rs ts n
shape_among-push_ref rs x ts (shape.Leaf o) h = refl
shape_among-push_ref rs x ts (shape.Index n) h = refl
shape_among-push_ref rs x ts (shape.Name s r) h = ap (λ y. tree.Name s (ref_from y.kind y.theory (trees_among ts y.actuals))) (get_or_append_left rs (x ∷ []) no_reference r h)
shape_among-push_ref rs x ts (shape.Bind o a b) h = refl
shape_among-push_ref rs x ts (shape.Join o a b) h = refl
shape_among-push_ref rs x ts (shape.Project o a) h = refl
shape_among-push_ref rs x ts (shape.Choose a b c) h = refl

trees_after-push_ref : (rs : List Reference) (x : Reference) (ts : List Tree) (ns : List Node) → NamesBelow (length rs) ns → trees_after (rs ++ x ∷ []) ts ns ≡ trees_after rs ts ns
trees_after-push_ref rs x ts [] h = refl
trees_after-push_ref rs x ts (n ∷ ns) h =
    ap (λ t. trees_after (rs ++ x ∷ []) (ts ++ t ∷ []) ns) (shape_among-push_ref rs x ts (shape_of n) h.0)
    ∙ trees_after-push_ref rs x (ts ++ shape_among rs ts (shape_of n) ∷ []) ns h.1

trees-push_ref : (s : Stored) (x : Reference) → NamesBelow (length s.refs) s.nodes → trees (pushed_ref s x) ≡ trees s
unfolding trees
trees-push_ref s x h = trees_after-push_ref s.refs x [] s.nodes h

pub extends-push_ref : (s : Stored) (x : Reference) → NamesBelow (length s.refs) s.nodes → Extends s (pushed_ref s x)
unfolding tree_at ref_at text_at
extends-push_ref s x h = record {
  nodes = λ i a. a;
  names = λ n a. a;
  texts = λ n a. refl;
  refs = λ r a. omega (arith, a, length-append s.refs (x ∷ []));
  trees = λ i a. ap (λ ts. tree_among ts i) (trees-push_ref s x h);
  references = λ r a. ap (λ ts. ref_among (s.refs ++ x ∷ []) ts r) (trees-push_ref s x h) ∙ ap (λ y. ref_from y.kind y.theory (trees_among (trees s) y.actuals)) (get_or_append_left s.refs (x ∷ []) no_reference r a);
}

trees_among-at : (s : Stored) (is : List ℕ) → trees_among (trees s) is ≡ trees_at s is
unfolding tree_at
trees_among-at s [] = refl
trees_among-at s (i ∷ is) = ap (tree.more (tree_among (trees s) i)) (trees_among-at s is)

-- the reference of a kind whose text is that of its name
pub ref_from-given : (s : Stored) (k : RefKind) (acts : List ℕ) → ref_from k (theory_in s.names k) (trees_at s acts) ≡ given_ref s k acts
unfolding text_at
ref_from-given s (kind.Own n) acts = refl
ref_from-given s (kind.Formal n) acts = refl
ref_from-given s (kind.Inst th n) acts = refl

pub ref_at-push_new : (s : Stored) (x : Reference) → NamesBelow (length s.refs) s.nodes → ref_at (pushed_ref s x) (length s.refs) ≡ ref_from x.kind x.theory (trees_at s x.actuals)
unfolding ref_at
ref_at-push_new s x h =
    ap (λ ts. ref_among (s.refs ++ x ∷ []) ts (length s.refs)) (trees-push_ref s x h)
    ∙ ap (λ y. ref_from y.kind y.theory (trees_among (trees s) y.actuals)) (get_or_push s.refs x no_reference (length s.refs) refl)
    ∙ ap (ref_from x.kind x.theory) (trees_among-at s x.actuals)

pub NamesBelow-mono : (m n : ℕ) (ns : List Node) → m ≤ n → NamesBelow m ns → NamesBelow n ns
NamesBelow-mono m n [] le h = tt
NamesBelow-mono m n (x ∷ ns) le h = (name (shape_of x) h.0, NamesBelow-mono m n ns le h.1)
  where
    name : (y : Shape) → NameBelow m y → NameBelow n y
    name (shape.Leaf o) k = tt
    name (shape.Index i) k = tt
    name (shape.Name s r) k = omega (arith, k)
    name (shape.Bind o a b) k = tt
    name (shape.Join o a b) k = tt
    name (shape.Project o a) k = tt
    name (shape.Choose a b c) k = tt

pub NameBelow-of : (n r : ℕ) (x : Shape) → HasParts n r x → NameBelow r x
NameBelow-of n r (shape.Leaf o) h = tt
NameBelow-of n r (shape.Index i) h = tt
NameBelow-of n r (shape.Name s x) h = h
NameBelow-of n r (shape.Bind o a b) h = tt
NameBelow-of n r (shape.Join o a b) h = tt
NameBelow-of n r (shape.Project o a) h = tt
NameBelow-of n r (shape.Choose a b c) h = tt

pub NamesBelow-push : (r : ℕ) (ns : List Node) (x : Node) → NamesBelow r ns → NameBelow r (shape_of x) → NamesBelow r (ns ++ x ∷ [])
NamesBelow-push r [] x h k = (k, tt)
NamesBelow-push r (n ∷ ns) x h k = (h.0, NamesBelow-push r ns x h.1 k)

pub ref_at-given : (s : Stored) (r : ℕ) (x : Reference) → slice_index_or s.refs r no_reference ≡ x → ref_at s r ≡ ref_from x.kind x.theory (trees_at s x.actuals)
unfolding ref_at
ref_at-given s r x at = ap (λ y. ref_from y.kind y.theory (trees_among (trees s) y.actuals)) at ∙ ap (ref_from x.kind x.theory) (trees_among-at s x.actuals)

-- a name more: every number keeps what it stands for
pub extends-names : (s : Stored) (ts : List Text) → KeepsTexts s.names ts → Extends s (record { names = ts; nodes = s.nodes; refs = s.refs })
unfolding trees tree_at ref_at text_at
extends-names s ts h = record {
  nodes = λ i a. a;
  refs = λ r a. a;
  names = h.within;
  trees = λ i a. refl;
  references = λ r a. refl;
  texts = h.texts;
}

-- one number stands for one tree
pub same_number : (s : Stored) (a b : ℕ) → a ≡ b → true ≡ tree_eq (tree_at s a) (tree_at s b)
same_number s a b e = sym (ap (λ n. tree_eq (tree_at s a) (tree_at s n)) (sym e) ∙ tree_eq-same (tree_at s a))

pub up_to : (P : ℕ → Bool) (i k : ℕ) → k < i + 1 → (k ≡ i) ⊎ (k < i)
up_to P i k h = elim (cases_lt k i) [ inl a ↦ inr a | inr b ↦ inl (omega (arith, h, b)) ]

-- lists of numbers stay what they were
pub trees_at-extends : (s t : Stored) (is : List ℕ) → Extends s t → AllBelow (length s.nodes) is → trees_at t is ≡ trees_at s is
trees_at-extends s t [] x h = refl
trees_at-extends s t (i ∷ is) x h = rw (x.trees i h.0, trees_at-extends s t is x h.1) refl

pub nodes_extend : (s t : Stored) (is : List ℕ) → Extends s t → AllBelow (length s.nodes) is → AllBelow (length t.nodes) is
nodes_extend s t [] x h = tt
nodes_extend s t (i ∷ is) x h = (x.nodes i h.0, nodes_extend s t is x h.1)
