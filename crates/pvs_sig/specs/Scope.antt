-- What is visible at a place of a theory: its scope, a flat list of references (PVS Language Reference, theory
-- identifiers and names; what an importing brings is replaced as CSL-97-2 replaces formals by actuals).
use Rattle.std.specs.Prelude.{◌≡◌, ℕ, zero, suc, Bool, true, false, not, ◌||◌, ◌<◌, ◌≤◌, Option, Some, List, [], ◌∷◌, ◌++◌, length, bytes_eq, nat_eq, if◌then◌else◌}
use Rattle.pvs_terms.specs.Tree.{Text, Ref, Own, Formal, Inst, Trees, ref_eq}
use Rattle.pvs_subst.specs.Instance.{instantiate_all}
use Rattle.pvs_sig.specs.Signature.{Signature, Import, Kind, VarSig, kind_in}
use Rattle.pvs_sig.specs.Development.{Development, theory_named, formals_seen, In}

-- a reference of th in the instance with these actuals
abbrev pub ref_instance : Ref → Text → Trees → Ref
ref_instance (Own n) th acts = Inst th n acts
ref_instance (Formal n) th acts = Formal n
ref_instance (Inst a n xs) th acts = Inst a n (instantiate_all xs th acts)

-- whether a VAR
abbrev pub is_var : Option Kind → Bool
is_var (Some (VarSig t)) = true
is_var _ = false

-- no VAR, and no formal: what an importing of the theory brings
abbrev pub is_exported : Option Signature → Ref → Bool
is_exported s (Own n) = not (is_var (kind_in s n))
is_exported s (Formal n) = false
is_exported s (Inst a n xs) = true

-- what an importing of the theory brings of these references, in their order
abbrev pub imported_refs : Option Signature → Text → Trees → List Ref → List Ref
imported_refs s th acts [] = []
imported_refs s th acts (r ∷ rs) = if is_exported s r then ref_instance r th acts ∷ imported_refs s th acts rs else imported_refs s th acts rs

abbrev pub is_among : Ref → List Ref → Bool
is_among r [] = false
is_among r (x ∷ xs) = ref_eq r x || is_among r xs

-- each reference only where it comes first, and none of those before
abbrev pub without_repeats : List Ref → List Ref → List Ref
without_repeats before [] = []
without_repeats before (r ∷ rs) = if is_among r before then without_repeats before rs else r ∷ without_repeats (r ∷ before) rs

-- the formals below this number
abbrev pub formals_below : ℕ → List Ref
formals_below zero = []
formals_below (suc n) = formals_below n ++ Formal n ∷ []

-- what the importings at this place bring, in order
abbrev pub imported_refs_at : (Import → List Ref) → List Import → ℕ → List Ref
imported_refs_at brings [] p = []
imported_refs_at brings (x ∷ xs) p = (if nat_eq x.place p then brings x else []) ++ imported_refs_at brings xs p

-- entries below i by number, and what importings up to i bring at their places
abbrev pub entries_below : (Import → List Ref) → List Import → ℕ → List Ref
entries_below brings xs zero = imported_refs_at brings xs zero
entries_below brings xs (suc n) = entries_below brings xs n ++ Own n ∷ imported_refs_at brings xs (suc n)

-- over the whole scope of each theory
abbrev pub scope_over : (Text → List Ref) → Development → Signature → ℕ → List Ref
scope_over whole_scope d s i = without_repeats [] (formals_below (formals_seen s i) ++ entries_below (λ x. imported_refs (theory_named d x.theory) x.theory x.actuals (whole_scope x.theory)) s.imports i)

-- the scope at the end of the theory of this name
abbrev pub whole_scope : Development → Text → List Ref
whole_scope [] th = []
whole_scope (s ∷ d) th = if bytes_eq s.name th then scope_over (whole_scope d) d s (length s.entries) else whole_scope d th

-- what entry i of s sees, where the theories of d stand
abbrev pub scope : Development → Signature → ℕ → List Ref
scope d s i = scope_over (whole_scope d) d s i

-- why a reference is visible to entry i of s: a formal, an own entry, or one that an importing brings
pub data IsVisible (d : Development) (s : Signature) (i : ℕ) (q : Ref) : Type 0 where
  of_formal : (n : ℕ) → n < formals_seen s i → q ≡ Formal n → IsVisible d s i q
  of_own : (n : ℕ) → n < i → q ≡ Own n → IsVisible d s i q
  of_import : (x : Import) (r : Ref) → In x s.imports → x.place ≤ i → In r (whole_scope d x.theory) → is_exported (theory_named d x.theory) r ≡ true → q ≡ ref_instance r x.theory x.actuals → IsVisible d s i q
