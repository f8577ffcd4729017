-- Trees that are made: that they are known, and when they pass a limit.
use Rattle.std.proofs.Common.{◌≡◌, ℕ, Bool, true, false, cond, refl, ap, ◌∙◌, sym, subst, Result, Err, arith}
use Rattle.pvs_base.specs.declared.code.Code.TheVariants.{TooLarge}
use Rattle.pvs_terms.specs.Tree.{Tree, Var, Ref, App, Fst, Snd, IsWithinLimits}
use Rattle.pvs_terms.specs.declared.shape.Sort.{Sort}
use Rattle.pvs_terms.specs.declared.shape.Sort.TheVariants.{OfTerm}
use Rattle.pvs_terms.specs.Sorts.{sort_of, IsTerm}
use Rattle.pvs_terms.specs.Stored.{Stored, tree_at, node_tree, Stands}
use Rattle.pvs_terms.specs.declared.node.Node.{Node}
use Rattle.pvs_terms.specs.declared.node.Node.TheVariants as node
use Rattle.pvs_subst.specs.Replace.{lift, put_in}
use Rattle.pvs_subst.proofs.SortLaws.{sort_of-lift, sort_of-put_in}
use Rattle.pvs_sig.specs.Development.{Development}
use Rattle.pvs_sig.specs.Lookups.{Lookups}
use Rattle.pvs_types.specs.Limits.{is_within_limits}
use Rattle.pvs_types.specs.Outcome.{Outcome, Refused, pure, refuse, within_limits}
use Rattle.pvs_types.specs.Coerce.{lift_one, first_part, second_part}
use Rattle.pvs_types.proofs.LimitsLaws.{limits_decided}
use Rattle.pvs_typing.specs.Growth.{EachName, IsKnown, Keeps}
use Rattle.pvs_terms.specs.declared.fault.MakeFault.{MakeFault}
use Rattle.pvs_terms.specs.declared.fault.MakeFault.TheVariants as made
use Rattle.pvs_subst.specs.declared.fault.SubstFault.{SubstFault}
use Rattle.pvs_subst.specs.declared.fault.SubstFault.TheVariants as replaced
use Rattle.pvs_typing.specs.declared.fault.TypeFault.{TypeFault}
use Rattle.pvs_typing.specs.declared.fault.TypeFault.TheVariants as fault
use Rattle.pvs_typing.specs.code.Tasks.{both, both_within}
use Rattle.pvs_typing.specs.Answers.{Gives, IsFault, IsMemory, of_make, of_subst}
use Rattle.pvs_typing.proofs.GrowthLaws.{each_weaker, each-lift, each-put_in, keeps_trans, known_kept}

-- a number that stands for a tree of this sort with declared names
pub stands_gives : (s : Stored) (P : Sort → Ref → Type 0) (o : Sort) (t : Tree) (i : ℕ) → sort_of t ≡ o → EachName P t → Stands s t i → Gives s P o t i
stands_gives s P o t i h k n = record {
  known = record { node = n.node; sort = ap sort_of n.tree ∙ h; names = subst (EachName P) (sym n.tree) k };
  tree = n.tree;
  fits = n.fits;
}

-- within the limits, or not
pub fits_within : (t : Tree) → IsWithinLimits t → within_limits t ≡ pure t
fits_within t h = ap (λ b. cond b (pure t) (refuse TooLarge)) ((limits_decided t).1 h)

pub large_refused : (t : Tree) → (IsWithinLimits t → ⊥) → within_limits t ≡ Refused TooLarge
large_refused t h = go (is_within_limits t) refl
  where
    go : (b : Bool) → is_within_limits t ≡ b → cond b (pure t) (refuse TooLarge) ≡ Refused TooLarge
    go true e = absurd (h ((limits_decided t).0 e))
    go false e = refl

-- a function is no larger than its application
pub function_fits : (f a : Tree) → IsWithinLimits (App f a) → IsWithinLimits f
function_fits f a h = record { deep = omega (arith, h.deep); large = omega (arith, h.large); index = omega (arith, h.index) }

pub gives_kept : {s t : Stored} {P Q : Sort → Ref → Type 0} {l m : Lookups} {D E : Development} {o : Sort} {u : Tree} {i : ℕ} → Keeps s P l t Q m D E → Gives s P o u i → Gives t Q o u i
gives_kept {o = o} {i = i} k h = record { known = known_kept o i k h.known; tree = k.stored.trees i h.known.node ∙ h.tree; fits = h.fits }

-- What is made of known trees is known.

pub lifted_gives : {s t : Stored} {P Q : Sort → Ref → Type 0} {l m : Lookups} {D E : Development} (o : Sort) (i j : ℕ) → Keeps s P l t Q m D E → IsKnown s P o i → Stands t (lift (tree_at s i) 1 0) j
    → Gives t Q o (lift (tree_at s i) 1 0) j
lifted_gives {s} {t} {P} {Q} o i j k h n = stands_gives t Q o (lift (tree_at s i) 1 0) j (sort_of-lift (tree_at s i) 1 0 ∙ h.sort)
    (each-lift Q (tree_at s i) 1 0 (each_weaker P Q (tree_at s i) k.declared h.names)) n

pub put_gives : {s t : Stored} {P Q : Sort → Ref → Type 0} {l m : Lookups} {D E : Development} (o : Sort) (i a j : ℕ) → Keeps s P l t Q m D E → IsKnown s P o i → IsKnown s P OfTerm a → Stands t (put_in (tree_at s i) (tree_at s a)) j
    → Gives t Q o (put_in (tree_at s i) (tree_at s a)) j
put_gives {s} {t} {P} {Q} o i a j k h u n = stands_gives t Q o (put_in (tree_at s i) (tree_at s a)) j (sort_of-put_in (tree_at s i) (tree_at s a) u.sort ∙ h.sort)
    (each-put_in Q (tree_at s i) (tree_at s a) (each_weaker P Q (tree_at s i) k.declared h.names) (each_weaker P Q (tree_at s a) k.declared u.names)) n

-- the parts of a tuple, where the term is no tuple
abbrev pub IsNoTuple : Node → Type 0
IsNoTuple n = (k a b : ℕ) → n ≡ node.Tup k a b → ⊥

pub first_other : (s : Stored) (k : ℕ) (n : Node) → IsNoTuple n → first_part k (node_tree s n) ≡ Fst k (node_tree s n)
first_other s k (node.Tup j a b) h = absurd (h j a b refl)
first_other s k node.TBool h = refl
first_other s k (node.TName r) h = refl
first_other s k (node.TSub a b) h = refl
first_other s k (node.TFun a b) h = refl
first_other s k (node.TPair j a b) h = refl
first_other s k (node.Var n) h = refl
first_other s k (node.Const r) h = refl
first_other s k node.True h = refl
first_other s k node.False h = refl
first_other s k (node.Lam a b) h = refl
first_other s k (node.App a b) h = refl
first_other s k (node.Fst j a) h = refl
first_other s k (node.Snd j a) h = refl
first_other s k (node.If a b c) h = refl
first_other s k (node.Eq a b) h = refl

pub second_other : (s : Stored) (k : ℕ) (n : Node) → IsNoTuple n → second_part k (node_tree s n) ≡ Snd k (node_tree s n)
second_other s k (node.Tup j a b) h = absurd (h j a b refl)
second_other s k node.TBool h = refl
second_other s k (node.TName r) h = refl
second_other s k (node.TSub a b) h = refl
second_other s k (node.TFun a b) h = refl
second_other s k (node.TPair j a b) h = refl
second_other s k (node.Var n) h = refl
second_other s k (node.Const r) h = refl
second_other s k node.True h = refl
second_other s k node.False h = refl
second_other s k (node.Lam a b) h = refl
second_other s k (node.App a b) h = refl
second_other s k (node.Fst j a) h = refl
second_other s k (node.Snd j a) h = refl
second_other s k (node.If a b c) h = refl
second_other s k (node.Eq a b) h = refl

pub first_other_at : (s : Stored) (k : ℕ) (t : Tree) (n : Node) → t ≡ node_tree s n → IsNoTuple n → first_part k t ≡ Fst k t
first_other_at s k t n e h = rw e (first_other s k n h)

pub second_other_at : (s : Stored) (k : ℕ) (t : Tree) (n : Node) → t ≡ node_tree s n → IsNoTuple n → second_part k t ≡ Snd k t
second_other_at s k t n e h = rw e (second_other s k n h)

-- a tree that is made, by what it is called
pub made_gives : {s t : Stored} {P Q : Sort → Ref → Type 0} {l m : Lookups} {D E : Development} (o : Sort) (u v : Tree) (i : ℕ) → Keeps s P l t Q m D E → u ≡ v → sort_of u ≡ o → EachName P u → Stands t u i → Gives t Q o v i
made_gives {s} {t} {P} {Q} o u v i k e h n d = subst (λ x. Gives t Q o x i) e (stands_gives t Q o u i h (each_weaker P Q u k.declared n) d)

-- a term under one more variable, applied to it
pub applied_sorts : (s : Stored) {t u : Stored} (P : Sort → Ref → Type 0) {Q R : Sort → Ref → Type 0} {m n : Lookups} {E F : Development} (i f v : ℕ) → Keeps t Q m u R n E F → IsKnown s P OfTerm i → Stands t (lift (tree_at s i) 1 0) f → Stands u (Var 0) v
    → IsTerm (tree_at u f) × IsTerm (tree_at u v)
applied_sorts s P i f v k h a b = (ap sort_of (k.stored.trees f a.node ∙ a.tree) ∙ sort_of-lift (tree_at s i) 1 0 ∙ h.sort, ap sort_of b.tree)

applied_tree : (s : Stored) {t u : Stored} {Q R : Sort → Ref → Type 0} {m n : Lookups} {E F : Development} (i f v : ℕ) → Keeps t Q m u R n E F → Stands t (lift (tree_at s i) 1 0) f → Stands u (Var 0) v
    → App (tree_at u f) (tree_at u v) ≡ App (lift_one (tree_at s i)) (Var 0)
applied_tree s i f v k a b = rw (k.stored.trees f a.node, a.tree, b.tree) refl

pub applied_gives : {s t u w : Stored} {P Q R S : Sort → Ref → Type 0} {l m n o : Lookups} {D E F G : Development} (i f v r : ℕ) → Keeps s P l t Q m D E → Keeps t Q m u R n E F → Keeps u R n w S o F G → IsKnown s P OfTerm i
    → Stands t (lift (tree_at s i) 1 0) f → Stands u (Var 0) v → Stands w (App (tree_at u f) (tree_at u v)) r → Gives w S OfTerm (App (lift_one (tree_at s i)) (Var 0)) r
applied_gives {s} {w = w} {P} {S = S} i f v r k1 k2 k3 h a b c =
    let names : EachName P (lift (tree_at s i) 1 0) = each-lift P (tree_at s i) 1 0 h.names in
    let k = keeps_trans (keeps_trans k1 k2) k3 in
    stands_gives w S OfTerm (App (lift_one (tree_at s i)) (Var 0)) r refl (each_weaker P S (App (lift_one (tree_at s i)) (Var 0)) k.declared (names, tt)) (subst (λ x. Stands w x r) (applied_tree s i f v k2 a b) c)

-- where it is too large, whichever tree on the way is
pub lifted_large : (t : Tree) → (IsWithinLimits (lift t 1 0) → ⊥) → within_limits (App (lift_one t) (Var 0)) ≡ Refused TooLarge
lifted_large t h = large_refused (App (lift_one t) (Var 0)) (λ k. h (function_fits (lift_one t) (Var 0) k))

pub applied_large : (s : Stored) {t u : Stored} {Q R : Sort → Ref → Type 0} {m n : Lookups} {E F : Development} (i f v : ℕ) → Keeps t Q m u R n E F → Stands t (lift (tree_at s i) 1 0) f → Stands u (Var 0) v
    → (IsWithinLimits (App (tree_at u f) (tree_at u v)) → ⊥) → within_limits (App (lift_one (tree_at s i)) (Var 0)) ≡ Refused TooLarge
applied_large s i f v k a b h = large_refused (App (lift_one (tree_at s i)) (Var 0)) (λ j. h (subst IsWithinLimits (sym (applied_tree s i f v k a b)) j))

pub variable_fits : IsWithinLimits (Var 0)
variable_fits = record { deep = omega arith; large = omega arith; index = omega arith }

-- a tree that is not made is too large, or memory ran out
pub make_fault : {A X : Type 0} (o : Outcome A) (e : MakeFault) → (◌≡◌ {A = Result X MakeFault} (Err e) (Err made.TooLarge) → o ≡ Refused TooLarge) → IsFault o (of_make e)
make_fault o made.TooLarge h = h refl
make_fault o made.Memory h = tt

pub subst_fault : {A X : Type 0} (o : Outcome A) (e : SubstFault) → (◌≡◌ {A = Result X SubstFault} (Err e) (Err replaced.TooLarge) → o ≡ Refused TooLarge) → IsFault o (of_subst e)
subst_fault o replaced.TooLarge h = h refl
subst_fault o replaced.Memory h = tt

-- being out of memory says nothing of an outcome
pub memory_fault : {A : Type 0} (o : Outcome A) (e : TypeFault) → IsMemory e → IsFault o e
memory_fault o (fault.Refused c) h = absurd h
memory_fault o fault.Memory h = tt

-- the second of two trees
pub both_fault : (a b : Tree) (e : TypeFault) → IsWithinLimits a → IsFault (within_limits b) e → IsFault (both_within a b) e
both_fault a b (fault.Refused c) h k = go (within_limits a) (within_limits b) (fits_within a h) k
  where
    go : (x y : Outcome Tree) → x ≡ pure a → y ≡ Refused c → both x y ≡ Refused c
    go x y f k = rw (f, k) refl
both_fault a b fault.Memory h k = tt
