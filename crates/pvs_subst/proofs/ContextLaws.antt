-- A context stays what it was where the store grows.
use Rattle.std.proofs.Common.{◌≡◌, List, [], ◌∷◌, refl, ap, ap₂}
use Rattle.pvs_terms.specs.Stored.{Stored, Extends}
use Rattle.pvs_subst.specs.declared.context.Assumed.{Assumed}
use Rattle.pvs_subst.specs.declared.context.Assumed.TheVariants as assumed
use Rattle.pvs_subst.specs.Contexts.{Variable, Hypothesis, assumption_at, context_at, IsAssumed, IsContext}

assumption_at-extends : (s t : Stored) (x : Assumed) → Extends s t → IsAssumed s x → assumption_at t x ≡ assumption_at s x
assumption_at-extends s t (assumed.Bind i) e h = ap Variable (e.trees i h)
assumption_at-extends s t (assumed.Hyp i) e h = ap Hypothesis (e.trees i h)

assumed_extends : (s t : Stored) (x : Assumed) → Extends s t → IsAssumed s x → IsAssumed t x
assumed_extends s t (assumed.Bind i) e h = e.nodes i h
assumed_extends s t (assumed.Hyp i) e h = e.nodes i h

pub context_at-extends : (s t : Stored) (xs : List Assumed) → Extends s t → IsContext s xs → context_at t xs ≡ context_at s xs
context_at-extends s t [] e h = refl
context_at-extends s t (x ∷ xs) e h = ap₂ ◌∷◌ (assumption_at-extends s t x e h.0) (context_at-extends s t xs e h.1)

pub context_extends : (s t : Stored) (xs : List Assumed) → Extends s t → IsContext s xs → IsContext t xs
context_extends s t [] e h = tt
context_extends s t (x ∷ xs) e h = (assumed_extends s t x e h.0, context_extends s t xs e h.1)
