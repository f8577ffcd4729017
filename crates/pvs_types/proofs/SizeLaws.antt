-- The size of a type under lifting, and where a term is put in.
use Rattle.std.proofs.Common.{◌≡◌, ℕ, zero, suc, refl, ap, ◌∙◌}
use Rattle.pvs_terms.specs.Tree.{Tree, Leaf, Var, Name, Bind, Join, Project, If, Ref}
use Rattle.pvs_terms.specs.declared.shape.Sort.TheVariants.{OfType, OfTerm}
use Rattle.pvs_terms.specs.declared.shape.Binder.TheVariants.{Subtype, Function, Product, Lambda}
use Rattle.pvs_subst.specs.Replace.{lift, put_var, put_at, put_in}
use Rattle.pvs_terms.specs.Sorts.{IsTerm}
use Rattle.pvs_sig.specs.Lookups.{type_size}

pub type_size-lift : (rank : Ref → ℕ) (t : Tree) (by from : ℕ) → type_size rank (lift t by from) ≡ type_size rank t
type_size-lift rank (Leaf o) by from = refl
type_size-lift rank (Var n) by from = refl
type_size-lift rank (Name OfType r) by from = refl
type_size-lift rank (Name OfTerm r) by from = refl
type_size-lift rank (Bind Subtype a p) by from = ap suc (type_size-lift rank a by from)
type_size-lift rank (Bind Function a b) by from = rw (type_size-lift rank a by from, type_size-lift rank b by (suc from)) refl
type_size-lift rank (Bind (Product k) a b) by from = rw (type_size-lift rank a by from, type_size-lift rank b by (suc from)) refl
type_size-lift rank (Bind Lambda a b) by from = refl
type_size-lift rank (Join o a b) by from = refl
type_size-lift rank (Project o a) by from = refl
type_size-lift rank (If c a b) by from = refl

pub type_size-term : (rank : Ref → ℕ) (t : Tree) → IsTerm t → type_size rank t ≡ 1
type_size-term rank (Name OfType r) h = cc
type_size-term rank (Bind Subtype a p) h = cc
type_size-term rank (Bind Function a b) h = cc
type_size-term rank (Bind (Product k) a b) h = cc
type_size-term rank _ h = refl

type_size-put_var : (rank : Ref → ℕ) (arg : Tree) (at n : ℕ) → type_size rank arg ≡ 1 → type_size rank (put_var arg at n) ≡ 1
type_size-put_var rank arg zero zero h = h
type_size-put_var rank arg zero (suc n) h = refl
type_size-put_var rank arg (suc at) zero h = refl
type_size-put_var rank arg (suc at) (suc n) h = type_size-lift rank (put_var arg at n) 1 0 ∙ type_size-put_var rank arg at n h

type_size-put_at : (rank : Ref → ℕ) (t arg : Tree) (at : ℕ) → type_size rank arg ≡ 1 → type_size rank (put_at t arg at) ≡ type_size rank t
type_size-put_at rank (Leaf o) arg at h = refl
type_size-put_at rank (Var n) arg at h = type_size-put_var rank arg at n h
type_size-put_at rank (Name OfType r) arg at h = refl
type_size-put_at rank (Name OfTerm r) arg at h = refl
type_size-put_at rank (Bind Subtype a p) arg at h = ap suc (type_size-put_at rank a arg at h)
type_size-put_at rank (Bind Function a b) arg at h = rw (type_size-put_at rank a arg at h, type_size-put_at rank b arg (suc at) h) refl
type_size-put_at rank (Bind (Product k) a b) arg at h = rw (type_size-put_at rank a arg at h, type_size-put_at rank b arg (suc at) h) refl
type_size-put_at rank (Bind Lambda a b) arg at h = refl
type_size-put_at rank (Join o a b) arg at h = refl
type_size-put_at rank (Project o a) arg at h = refl
type_size-put_at rank (If c a b) arg at h = refl

pub type_size-put_in : (rank : Ref → ℕ) (t arg : Tree) → IsTerm arg → type_size rank (put_in t arg) ≡ type_size rank t
type_size-put_in rank t arg h = type_size-put_at rank t arg 0 (type_size-term rank arg h)
