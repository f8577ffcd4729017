-- What typing promises, for all trees, look-ups and models.
use Rattle.std.specs.Prelude.{◌≡◌, true, [], Ok, IfOk, ◌↔◌}
use Rattle.pvs_terms.specs.Tree.{Tree, IsWithinLimits}
use Rattle.pvs_terms.specs.Sorts.{IsTerm, IsSorted}
use Rattle.pvs_subst.specs.Contexts.{Assumptions}
use Rattle.pvs_sem.specs.Value.{Value, IsMember}
use Rattle.pvs_sem.specs.Meaning.{Model, Env, mean, inside}
use Rattle.pvs_sem.specs.Satisfies.{Satisfies, Above}
use Rattle.pvs_types.specs.ProperTerms.{IsProperTerm}
use Rattle.pvs_sig.specs.Lookups.{Lookups, IsOrdered}
use Rattle.pvs_types.specs.Limits.{is_within_limits}
use Rattle.pvs_types.specs.Outcome.{Condition}
use Rattle.pvs_types.specs.Forms.{head_by, up_by, most_by, nonempty_by, head, up, most, is_known_nonempty, is_among}
use Rattle.pvs_types.specs.Coerce.{coerce_by, coerce}
use Rattle.pvs_types.specs.Symbols.{symbols}
use Rattle.pvs_types.specs.Typing.{typing, infer, check, well_formed}
use Rattle.pvs_types.specs.Soundness.{IsModelOf, IsTrueCondition, IsValued, Provides, IsOfType, IsSoundTyping}
use Rattle.pvs_types.specs.Uses.{Uses}

-- the condition is TRUE in each environment that extends `e` over what its context adds to `g`
abbrev pub IsTrueAbove : Model → Assumptions → Env → Condition → Type 0
IsTrueAbove m g e c = IsTrueCondition m (Above m g e) c

-- Soundness in one environment that satisfies the context, where each condition is TRUE above it and each constant that
-- is used has a value in its type: the value of what is inferred or checked is in the set of the type, and its flag is
-- on; a value in the set of the one type is in that of the other; the flag of a well-formed type is on.
abbrev pub InferIsSound : Type 0
InferIsSound = (m : Model) (s : Lookups) → IsModelOf m s → (g : Assumptions) (e : Env) → Satisfies m g e → (t : Tree)
    → Provides (IsTrueAbove m g e) (IsValued m s) (λ a. IsProperTerm t × IsOfType m t a e) (infer s g t)

abbrev pub CheckIsSound : Type 0
CheckIsSound = (m : Model) (s : Lookups) → IsModelOf m s → (g : Assumptions) (e : Env) → Satisfies m g e → (t a : Tree)
    → Provides (IsTrueAbove m g e) (IsValued m s) (λ _. IsProperTerm t × IsOfType m t a e) (check s g t a)

abbrev pub CoerceIsSound : Type 0
CoerceIsSound = (m : Model) (s : Lookups) → IsModelOf m s → (g : Assumptions) (e : Env) → Satisfies m g e → (t b a : Tree) → IsProperTerm t
    → Provides (IsTrueAbove m g e) (IsValued m s)
    (λ _. IsMember (mean m t e).value (mean m b e).set → IsMember (mean m t e).value (mean m a e).set)
    (coerce s g t b a)

abbrev pub FormedIsSound : Type 0
FormedIsSound = (m : Model) (s : Lookups) → IsModelOf m s → (g : Assumptions) (e : Env) → Satisfies m g e → (a : Tree)
    → Provides (IsTrueAbove m g e) (IsValued m s) (λ _. inside m a e ≡ true) (well_formed s g a)

-- soundness in all environments at once: those that satisfy their context
abbrev pub TypingIsSound : Type 0
TypingIsSound = (m : Model) (s : Lookups) → IsModelOf m s → (t : Tree) → IsSoundTyping m s (Satisfies m) t (typing s t)

-- the same in those that extend an environment `at` of a context `base`, whatever the context of the tree adds
abbrev pub TypingIsSoundAbove : Type 0
TypingIsSoundAbove = (m : Model) (s : Lookups) → IsModelOf m s → (base : Assumptions) (at : Env) → Satisfies m base at
    → (t : Tree) → IsSoundTyping m s (Above m base at) t (typing s t)

-- a member of a type is one of its head, of each type above it, and of its most general form
abbrev pub FormsAreSound : Type 0
FormsAreSound = (m : Model) (s : Lookups) → IsModelOf m s → (b : Tree) (e : Env) (v : Value) → IsMember v (mean m b e).set
    → IfOk (head s b) (λ a. IsMember v (mean m a e).set)
    × IfOk (up s b) (λ us. (a : Tree) → is_among a us ≡ true → IsMember v (mean m a e).set)
    × IfOk (most s b) (λ a. IsMember v (mean m a e).set)

-- a type that is known to be nonempty has a member in each environment
abbrev pub NonemptyIsSound : Type 0
NonemptyIsSound = (m : Model) (s : Lookups) → IsModelOf m s → (a : Tree) (e : Env) → is_known_nonempty s a ≡ Ok true
    → (v : Value) × IsMember v (mean m a e).set

-- the forms and coercion are their cases over themselves, where a defined name is larger than its body
abbrev pub AreTheirCases : Type 0
AreTheirCases = (s : Lookups) → IsOrdered s → (g : Assumptions) (t b a : Tree) → IsProperTerm t
    → (head s b ≡ head_by s (head s) b) × (up s b ≡ up_by s (up s) b) × (most s b ≡ most_by s (most s) b)
    × (is_known_nonempty s b ≡ nonempty_by s (is_known_nonempty s) b) × (coerce s g t b a ≡ coerce_by s (coerce s) g t b a)

-- each term of a sorted tree is one that coercion takes
abbrev pub SortedTermsAreProper : Type 0
SortedTermsAreProper = (t : Tree) → IsSorted t → IsTerm t → IsProperTerm t

-- the test of the limits decides them
abbrev pub LimitsAreTested : Type 0
LimitsAreTested = (t : Tree) → (is_within_limits t ≡ true) ↔ IsWithinLimits t

-- what is accepted uses the symbols of the tree, and coercion uses none
abbrev pub UsesAreSymbols : Type 0
UsesAreSymbols = (s : Lookups) (g : Assumptions) (t b a : Tree)
    → Uses (symbols t) (infer s g t) × Uses (symbols t) (check s g t a) × Uses (symbols t) (well_formed s g t) × Uses [] (coerce s g t b a)
