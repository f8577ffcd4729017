-- What is known stays known where a store grows, and under replacement.
use Rattle.std.proofs.Common.{◌≡◌, ℕ, zero, suc, ◌<◌, List, [], ◌∷◌, length, get_or, refl, ap, ap₂, ◌∙◌, subst, sym, arith}
use Rattle.pvs_terms.specs.Tree.{Tree, Leaf, Var, Name, Bind, Join, Project, If, Ref}
use Rattle.pvs_terms.specs.declared.shape.Sort.{Sort}
use Rattle.pvs_terms.specs.Sorts.{sort_of}
use Rattle.pvs_terms.specs.Stored.{Stored, tree_at, Extends}
use Rattle.pvs_terms.proofs.StoredLaws.{extends_trans}
use Rattle.pvs_subst.specs.Replace.{lift, put_var, put_at, put_in}
use Rattle.pvs_subst.specs.declared.context.Assumed.{Assumed}
use Rattle.pvs_subst.specs.declared.context.Assumed.TheVariants as assumed
use Rattle.pvs_sig.specs.Development.{Development}
use Rattle.pvs_sig.specs.Lookups.{Lookups}
use Rattle.pvs_typing.specs.Growth.{EachName, IsKnown, IsKnownItem, IsKnownContext, AreKnown, all_at, Keeps}

pub each_weaker : (P Q : Sort → Ref → Type 0) (t : Tree) → ((o : Sort) (r : Ref) → P o r → Q o r) → EachName P t → EachName Q t
each_weaker P Q (Leaf o) f h = tt
each_weaker P Q (Var n) f h = tt
each_weaker P Q (Name o r) f h = f o r h
each_weaker P Q (Bind o a b) f h = (each_weaker P Q a f h.0, each_weaker P Q b f h.1)
each_weaker P Q (Join o a b) f h = (each_weaker P Q a f h.0, each_weaker P Q b f h.1)
each_weaker P Q (Project o a) f h = each_weaker P Q a f h
each_weaker P Q (If a b c) f h = (each_weaker P Q a f h.0, each_weaker P Q b f h.1, each_weaker P Q c f h.2)

pub each-lift : (P : Sort → Ref → Type 0) (t : Tree) (by from : ℕ) → EachName P t → EachName P (lift t by from)
each-lift P (Leaf o) by from h = tt
each-lift P (Var n) by from h = tt
each-lift P (Name o r) by from h = h
each-lift P (Bind o a b) by from h = (each-lift P a by from h.0, each-lift P b by (suc from) h.1)
each-lift P (Join o a b) by from h = (each-lift P a by from h.0, each-lift P b by from h.1)
each-lift P (Project o a) by from h = each-lift P a by from h
each-lift P (If a b c) by from h = (each-lift P a by from h.0, each-lift P b by from h.1, each-lift P c by from h.2)

each-put_var : (P : Sort → Ref → Type 0) (u : Tree) (at n : ℕ) → EachName P u → EachName P (put_var u at n)
each-put_var P u zero zero h = h
each-put_var P u zero (suc n) h = tt
each-put_var P u (suc at) zero h = tt
each-put_var P u (suc at) (suc n) h = each-lift P (put_var u at n) 1 0 (each-put_var P u at n h)

each-put_at : (P : Sort → Ref → Type 0) (t u : Tree) (at : ℕ) → EachName P t → EachName P u → EachName P (put_at t u at)
each-put_at P (Leaf o) u at h k = tt
each-put_at P (Var n) u at h k = each-put_var P u at n k
each-put_at P (Name o r) u at h k = h
each-put_at P (Bind o a b) u at h k = (each-put_at P a u at h.0 k, each-put_at P b u (suc at) h.1 k)
each-put_at P (Join o a b) u at h k = (each-put_at P a u at h.0 k, each-put_at P b u at h.1 k)
each-put_at P (Project o a) u at h k = each-put_at P a u at h k
each-put_at P (If a b c) u at h k = (each-put_at P a u at h.0 k, each-put_at P b u at h.1 k, each-put_at P c u at h.2 k)

pub each-put_in : (P : Sort → Ref → Type 0) (t u : Tree) → EachName P t → EachName P u → EachName P (put_in t u)
each-put_in P t u h k = each-put_at P t u 0 h k

pub keeps_trans : {s t u : Stored} {P Q R : Sort → Ref → Type 0} {l m n : Lookups} {D E F : Development} → Keeps s P l t Q m D E → Keeps t Q m u R n E F → Keeps s P l u R n D F
keeps_trans h k = record {
  stored = extends_trans h.stored k.stored;
  declared = λ o r d. k.declared o r (h.declared o r d);
  lookups = k.lookups ∙ h.lookups;
  theories = k.theories ∙ h.theories;
}

pub extends_none : (s : Stored) → Extends s s
extends_none s = record { nodes = λ i h. h; refs = λ i h. h; names = λ i h. h; trees = λ i h. refl; references = λ i h. refl; texts = λ i h. refl }

pub keeps_none : {D : Development} (s : Stored) (P : Sort → Ref → Type 0) (l : Lookups) → Keeps s P l s P l D D
keeps_none s P l = record { stored = extends_none s; declared = λ o r d. d; lookups = refl; theories = refl }

pub known_kept : {s t : Stored} {P Q : Sort → Ref → Type 0} {l m : Lookups} {D E : Development} (o : Sort) (i : ℕ) → Keeps s P l t Q m D E → IsKnown s P o i → IsKnown t Q o i
known_kept {s} {t} {P} {Q} o i k h = record {
  node = k.stored.nodes i h.node;
  sort = ap sort_of (k.stored.trees i h.node) ∙ h.sort;
  names = subst (EachName Q) (sym (k.stored.trees i h.node)) (each_weaker P Q (tree_at s i) k.declared h.names);
}

item_kept : {s t : Stored} {P Q : Sort → Ref → Type 0} {l m : Lookups} {D E : Development} (x : Assumed) → Keeps s P l t Q m D E → IsKnownItem s P x → IsKnownItem t Q x
item_kept (assumed.Bind i) k h = known_kept _ i k h
item_kept (assumed.Hyp i) k h = known_kept _ i k h

pub context_kept : {s t : Stored} {P Q : Sort → Ref → Type 0} {l m : Lookups} {D E : Development} (g : List Assumed) → Keeps s P l t Q m D E → IsKnownContext s P g → IsKnownContext t Q g
context_kept [] k h = tt
context_kept (x ∷ g) k h = (item_kept x k h.0, context_kept g k h.1)

pub all_kept : {s t : Stored} {P Q : Sort → Ref → Type 0} {l m : Lookups} {D E : Development} (o : Sort) (is : List ℕ) → Keeps s P l t Q m D E → AreKnown s P o is → AreKnown t Q o is
all_kept o [] k h = tt
all_kept o (i ∷ is) k h = (known_kept o i k h.0, all_kept o is k h.1)

pub trees_kept : {s t : Stored} {P Q : Sort → Ref → Type 0} {l m : Lookups} {D E : Development} (o : Sort) (is : List ℕ) → Keeps s P l t Q m D E → AreKnown s P o is → all_at t is ≡ all_at s is
trees_kept o [] k h = refl
trees_kept o (i ∷ is) k h = ap₂ ◌∷◌ (k.stored.trees i h.0.node) (trees_kept o is k h.1)

-- each number of a known list
pub known_at : (s : Stored) (P : Sort → Ref → Type 0) (o : Sort) (is : List ℕ) (n i : ℕ) → AreKnown s P o is → n < length is → i ≡ get_or is n i → IsKnown s P o i
known_at s P o is n i h l e = subst (IsKnown s P o) (sym e) (go is n h l)
  where
    go : (js : List ℕ) (k : ℕ) → AreKnown s P o js → k < length js → IsKnown s P o (get_or js k i)
    go [] k h l = absurd (omega arith)
    go (j ∷ js) zero h l = h.0
    go (j ∷ js) (suc k) h l = go js k h.1 (omega arith)
