-- What typing accepts, without what it owes.
use Rattle.std.proofs.Common.{◌≡◌, ℕ, List, ◌∷◌, ◌++◌, refl, ap, ◌∙◌, subst}
use Rattle.std.specs.Prelude.{Result, Ok, Err, IfOk, IfErr}
use Rattle.pvs_terms.specs.Tree.{TBool}
use Rattle.pvs_terms.specs.declared.shape.Sort.TheVariants.{OfType, OfTerm}
use Rattle.pvs_terms.specs.Stored.{Stored, tree_at}
use Rattle.pvs_subst.specs.declared.context.Condition.{Condition}
use Rattle.pvs_subst.specs.declared.context.Assumed.{Assumed}
use Rattle.pvs_subst.specs.Contexts.{Variable, context_at}
use Rattle.pvs_sig.specs.Development.{Development}
use Rattle.pvs_types.specs.Outcome.{Outcome, outcome_after, ◌>>◌}
use Rattle.pvs_types.specs.Typing.{check}
use Rattle.pvs_typing.specs.Owed.{Judges, conditions_at}
use Rattle.pvs_typing.specs.Growth.{IsKnown, IsKnownContext, Keeps}
use Rattle.pvs_typing.specs.Answers.{IsFault}
use Rattle.pvs_typing.specs.declared.fault.TypeFault.{TypeFault}
use Rattle.pvs_typing.specs.declared.fault.TypeFault.TheVariants as fault
use Rattle.pvs_elaboration.specs.Known.{Accepts}
use Rattle.pvs_elaboration.proofs.KnownLaws.{context_at_kept}
use Rattle.pvs_place.specs.Place.{IsDeclaredIn, lookups_in, known_in}
use Rattle.pvs_place.proofs.PlaceLaws.{known_grows}

pub judged_accepts : {A : Type 0} {s : Stored} {o : Outcome A} {a : A} {cs : List Condition} {rs : List ℕ} → Judges s o a cs rs → Accepts o a
judged_accepts {s = s} {cs = cs} j = (conditions_at s cs, j.symbols, j.is)

-- one outcome and then another
pub accepts_both : {A B : Type 0} (o : Outcome A) (p : Outcome B) (a : A) (b : B) → Accepts o a → Accepts p b → Accepts (o >> p) b
accepts_both o p a b h k = (h.0 ++ k.0, h.1 ++ k.1, ap (λ z. z >> p) h.2 ∙ ap (outcome_after h.0 h.1) k.2)

pub first_fault : {A B : Type 0} (o : Outcome A) (p : Outcome B) (e : TypeFault) → IsFault o e → IsFault (o >> p) e
first_fault o p (fault.Refused c) h = ap (λ z. z >> p) h
first_fault o p fault.Memory h = tt

pub second_fault : {A B : Type 0} (o : Outcome A) (p : Outcome B) (a : A) (e : TypeFault) → Accepts o a → IsFault p e → IsFault (o >> p) e
second_fault o p a (fault.Refused c) h k = ap (λ z. z >> p) h.2 ∙ ap (outcome_after h.0 h.1) k
second_fault o p a fault.Memory h k = tt

-- a formula under a variable, in a later store
pub formula_same : {s t : Stored} {D E : Development} → Keeps s (IsDeclaredIn D) (lookups_in D) t (IsDeclaredIn E) (lookups_in E) D E → (g : List Assumed) (a p : ℕ) → IsKnownContext s (IsDeclaredIn D) g
    → IsKnown s (IsDeclaredIn D) OfType a → IsKnown s (IsDeclaredIn D) OfTerm p
    → check (lookups_in E) (Variable (tree_at t a) ∷ context_at t g) (tree_at t p) TBool ≡ check (lookups_in D) (Variable (tree_at s a) ∷ context_at s g) (tree_at s p) TBool
formula_same {s} {t} {D} {E} k g a p h x y = rw (k.lookups, k.stored.trees a x.node, k.stored.trees p y.node, context_at_kept (known_in s D) (known_in t E) g (known_grows k) h) refl

pub predicate_ok : {E : Type 0} {o p q : Outcome (Unit {0})} (r : Result (Unit {0}) E) → Accepts o tt → q ≡ p → IfOk r (λ u. Accepts q tt) → IfOk r (λ u. Accepts (o >> p) tt)
predicate_ok {o = o} {p} (Ok u) h e k = accepts_both o p tt tt h (subst (λ z. Accepts z tt) e k)
predicate_ok (Err f) h e k = tt

pub predicate_fault : {A : Type 0} {o p q : Outcome (Unit {0})} (r : Result A TypeFault) → Accepts o tt → q ≡ p → IfErr r (IsFault q) → IfErr r (IsFault (o >> p))
predicate_fault (Ok u) h e k = tt
predicate_fault {o = o} {p} (Err f) h e k = second_fault o p tt f h (subst (λ z. IsFault z f) e k)
