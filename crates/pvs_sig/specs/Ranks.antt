-- How large names of types are, with their bodies in the place of names: for the names of a theory, and for those of
-- instances by what their actuals count for.
use Rattle.std.specs.Prelude.{ℕ, zero, suc, pred, ◌+◌, Option, Some, None, [], ◌∷◌, length, nat_eq, bytes_eq, if◌then◌else◌}
use Rattle.pvs_terms.specs.Tree.{Text, Tree, Leaf, Var, Name, Bind, Join, Project, If, Ref, Own, Formal, Inst, Trees, none, more}
use Rattle.pvs_terms.specs.declared.shape.Sort.TheVariants.{OfType, OfTerm}
use Rattle.pvs_terms.specs.declared.shape.Binder.TheVariants.{Subtype, Function, Product, Lambda}
use Rattle.pvs_sig.specs.Signature.{Signature, Kind, TypeSig, kind_at}
use Rattle.pvs_sig.specs.Development.{Development}

-- what a name counts for: own names, formals, and names of an instance by what its actuals count for
pub record Ranks : Type 0 where
  pub own : ℕ → ℕ
  pub formal : ℕ → ℕ
  pub inst : Text → ℕ → (ℕ → ℕ) → ℕ

-- how large a type is; terms do not count
abbrev mutual
  pub size_in : Ranks → Tree → ℕ
  size_in k (Leaf o) = 1
  size_in k (Var n) = 1
  size_in k (Name OfType r) = suc (rank_in k r)
  size_in k (Name OfTerm r) = 1
  size_in k (Bind Subtype a p) = suc (size_in k a)
  size_in k (Bind Function a b) = suc (size_in k a + size_in k b)
  size_in k (Bind (Product j) a b) = suc (size_in k a + size_in k b)
  size_in k (Bind Lambda a b) = 1
  size_in k (Join o a b) = 1
  size_in k (Project o a) = 1
  size_in k (If c a b) = 1

  pub rank_in : Ranks → Ref → ℕ
  rank_in k (Own n) = k.own n
  rank_in k (Formal n) = k.formal n
  rank_in k (Inst th n acts) = k.inst th n (counts_in k acts)

  -- an actual counts for the name that it stands for
  pub counts_in : Ranks → Trees → ℕ → ℕ
  counts_in k none n = 0
  counts_in k (more x xs) zero = pred (size_in k x)
  counts_in k (more x xs) (suc n) = counts_in k xs n

-- the body of a defined type
abbrev pub type_body : Option Kind → Option Tree
type_body (Some (TypeSig b body)) = body
type_body _ = None

abbrev pub body_size : Ranks → Option Tree → ℕ
body_size k None = 0
body_size k (Some t) = size_in k t

-- the entries below i of s, each over those before it
abbrev pub ranks_below : (Text → ℕ → (ℕ → ℕ) → ℕ) → (ℕ → ℕ) → Signature → ℕ → ℕ → ℕ
ranks_below inst formal s zero n = 0
ranks_below inst formal s (suc i) n = if nat_eq n i then body_size (record { own = ranks_below inst formal s i; formal = formal; inst = inst }) (type_body (kind_at s i)) else ranks_below inst formal s i n

-- the names of each theory over the theories before it, by what its formals count for
abbrev pub theory_ranks : Development → Text → ℕ → (ℕ → ℕ) → ℕ
theory_ranks [] th n formal = 0
theory_ranks (s ∷ d) th n formal = if bytes_eq s.name th then ranks_below (theory_ranks d) formal s (length s.entries) n else theory_ranks d th n formal

-- what names count for over entries below i of s, and what they count for within an instance
abbrev pub ranks_over : (Text → ℕ → (ℕ → ℕ) → ℕ) → (ℕ → ℕ) → Signature → ℕ → Ranks
ranks_over inst formal s i = record { own = ranks_below inst formal s i; formal = formal; inst = inst }

abbrev pub ranks_within : Ranks → Text → Trees → Ranks
ranks_within k th acts = record { own = λ n. k.inst th n (counts_in k acts); formal = counts_in k acts; inst = k.inst }

-- in the terms of s, where the theories of d stand
abbrev pub ranks_of : Development → Signature → Ranks
ranks_of d s = ranks_over (theory_ranks d) (λ n. 0) s (length s.entries)
