-- What is owed by outcomes in turn, and where the store grows.
use Rattle.std.proofs.Common.{◌≡◌, List, [], ◌∷◌, ◌++◌, append_assoc, refl, ap, ap₂, ◌∙◌, sym}
use Rattle.pvs_base.specs.declared.code.Code.{Code}
use Rattle.pvs_terms.specs.Tree.{Ref}
use Rattle.pvs_terms.specs.declared.shape.Sort.{Sort}
use Rattle.pvs_terms.specs.Stored.{Stored}
use Rattle.pvs_subst.specs.Contexts.{Variable, Hypothesis, assumption_at, context_at}
use Rattle.pvs_subst.specs.declared.context.Assumed.{Assumed}
use Rattle.pvs_subst.specs.declared.context.Assumed.TheVariants as assumed
use Rattle.pvs_subst.specs.declared.context.Condition.{Condition}
use Rattle.pvs_sig.specs.Development.{Development}
use Rattle.pvs_sig.specs.Lookups.{Lookups}
use Rattle.pvs_types.specs.Outcome.{Conditions, Outcome, Refused, Accepted, outcome_after, ◌>>=◌, pure}
use Rattle.pvs_typing.specs.declared.fault.TypeFault.{TypeFault}
use Rattle.pvs_typing.specs.declared.fault.TypeFault.TheVariants as fault
use Rattle.pvs_typing.specs.Answers.{IsFault}
use Rattle.pvs_typing.specs.Growth.{IsKnownItem, IsKnownContext, Keeps}
use Rattle.pvs_typing.specs.Owed.{condition_at, conditions_at, IsKnownCondition, AreKnownConditions, Owes}
use Rattle.pvs_typing.proofs.GrowthLaws.{known_kept, context_kept}

-- Outcomes after conditions.

pub after_none : {A : Type 0} (o : Outcome A) → outcome_after [] [] o ≡ o
after_none (Refused c) = refl
after_none (Accepted a cs rs) = refl

pub after_then : {A B : Type 0} (cs : Conditions) (rs : List Ref) (o : Outcome A) (f : A → Outcome B) → outcome_after cs rs (o >>= f) ≡ (outcome_after cs rs o >>= f)
after_then cs rs (Refused c) f = refl
after_then cs rs (Accepted a ds ss) f = go (f a)
  where
    go : {B : Type 0} (u : Outcome B) → outcome_after cs rs (outcome_after ds ss u) ≡ outcome_after (cs ++ ds) (rs ++ ss) u
    go (Refused c) = refl
    go (Accepted b es ts) = ap₂ (Accepted b) (sym (append_assoc cs ds es)) (sym (append_assoc rs ss ts))

-- the symbols first, which a clause on conditions does not name
after_symbols : {A : Type 0} (cs : Conditions) (rs : List Ref) (o : Outcome A) → outcome_after cs rs o ≡ outcome_after [] rs (outcome_after cs [] o)
after_symbols cs rs (Refused c) = refl
after_symbols cs rs (Accepted a ds ss) = refl

pub accepted_then : {A B : Type 0} (o : Outcome A) (f : A → Outcome B) (a : A) → o ≡ pure a → (o >>= f) ≡ f a
accepted_then o f a h = ap (λ x. x >>= f) h ∙ after_none (f a)

-- Contexts and conditions where the store grows.

item_same : {s t : Stored} {P Q : Sort → Ref → Type 0} {l m : Lookups} {D E : Development} (x : Assumed) → Keeps s P l t Q m D E → IsKnownItem s P x → assumption_at t x ≡ assumption_at s x
item_same (assumed.Bind i) k h = ap Variable (k.stored.trees i h.node)
item_same (assumed.Hyp i) k h = ap Hypothesis (k.stored.trees i h.node)

pub context_same : {s t : Stored} {P Q : Sort → Ref → Type 0} {l m : Lookups} {D E : Development} (g : List Assumed) → Keeps s P l t Q m D E → IsKnownContext s P g → context_at t g ≡ context_at s g
context_same [] k h = refl
context_same (x ∷ g) k h = ap₂ ◌∷◌ (item_same x k h.0) (context_same g k h.1)

condition_same : {s t : Stored} {P Q : Sort → Ref → Type 0} {l m : Lookups} {D E : Development} (c : Condition) → Keeps s P l t Q m D E → IsKnownCondition s P c → condition_at t c ≡ condition_at s c
condition_same c k h = rw (context_same c.context.items k h.context, k.stored.trees c.goal h.goal.node) refl

pub conditions_same : {s t : Stored} {P Q : Sort → Ref → Type 0} {l m : Lookups} {D E : Development} (cs : List Condition) → Keeps s P l t Q m D E → AreKnownConditions s P cs → conditions_at t cs ≡ conditions_at s cs
conditions_same [] k h = refl
conditions_same (c ∷ cs) k h = ap₂ ◌∷◌ (condition_same c k h.0) (conditions_same cs k h.1)

condition_kept : {s t : Stored} {P Q : Sort → Ref → Type 0} {l m : Lookups} {D E : Development} (c : Condition) → Keeps s P l t Q m D E → IsKnownCondition s P c → IsKnownCondition t Q c
condition_kept c k h = record { context = context_kept c.context.items k h.context; goal = known_kept _ c.goal k h.goal }

pub conditions_kept : {s t : Stored} {P Q : Sort → Ref → Type 0} {l m : Lookups} {D E : Development} (cs : List Condition) → Keeps s P l t Q m D E → AreKnownConditions s P cs → AreKnownConditions t Q cs
conditions_kept [] k h = tt
conditions_kept (c ∷ cs) k h = (condition_kept c k h.0, conditions_kept cs k h.1)

pub conditions_at-append : (s : Stored) (cs : List Condition) (c : Condition) → conditions_at s (cs ++ c ∷ []) ≡ conditions_at s cs ++ condition_at s c ∷ []
conditions_at-append s [] c = refl
conditions_at-append s (d ∷ cs) c = ap (λ x. condition_at s d ∷ x) (conditions_at-append s cs c)

pub known_conditions-append : (s : Stored) (P : Sort → Ref → Type 0) (cs : List Condition) (c : Condition) → AreKnownConditions s P cs → IsKnownCondition s P c → AreKnownConditions s P (cs ++ c ∷ [])
known_conditions-append s P [] c h k = (k, tt)
known_conditions-append s P (d ∷ cs) c h k = (h.0, known_conditions-append s P cs c h.1 k)

-- What is owed.

-- one outcome and then the next
pub owes_then : {A B : Type 0} {s t : Stored} {before : Conditions} {o : Outcome A} {a : A} {cs ds : List Condition} {b : B} (f : A → Outcome B)
    → Owes s before o a cs → Owes t (conditions_at s cs) (f a) b ds → Owes t before (o >>= f) b ds
owes_then {s} {t} {before} {o} {a} {cs} {ds} {b} f h k = record {
  symbols = h.symbols ++ k.symbols;
  is = after_then before [] o f ∙ ap (λ x. x >>= f) h.is ∙ after_symbols (conditions_at s cs) h.symbols (f a) ∙ ap (outcome_after [] h.symbols) k.is;
}

-- the same where the store has grown in between
pub owes_then_kept : {A B : Type 0} {s t u : Stored} {P Q : Sort → Ref → Type 0} {l m : Lookups} {D E : Development} {before : Conditions} {o : Outcome A} {a : A} {cs ds : List Condition} {b : B} (f : A → Outcome B)
    → Owes s before o a cs → Keeps s P l t Q m D E → AreKnownConditions s P cs → Owes u (conditions_at t cs) (f a) b ds → Owes u before (o >>= f) b ds
owes_then_kept {s} {cs} {ds} {b} f h k n j = owes_then f h (record { symbols = j.symbols; is = rw (← conditions_same cs k n) j.is })

pub owes_kept : {A : Type 0} {s t : Stored} {P Q : Sort → Ref → Type 0} {l m : Lookups} {D E : Development} {before : Conditions} {o : Outcome A} {a : A} {cs : List Condition} → Keeps s P l t Q m D E → AreKnownConditions s P cs → Owes s before o a cs → Owes t before o a cs
owes_kept {a} {cs} k n h = record { symbols = h.symbols; is = h.is ∙ ap (λ x. Accepted a x h.symbols) (sym (conditions_same cs k n)) }

-- nothing is owed
pub owes_none : {A : Type 0} (s : Stored) (o : Outcome A) (a : A) (cs : List Condition) → o ≡ pure a → Owes s (conditions_at s cs) o a cs
owes_none s o a cs h = record { symbols = []; is = ap (outcome_after (conditions_at s cs) []) h ∙ ap (λ x. Accepted a x []) (append_none (conditions_at s cs)) }
  where
    append_none : (xs : Conditions) → xs ++ [] ≡ xs
    append_none [] = refl
    append_none (x ∷ xs) = ap (λ y. x ∷ y) (append_none xs)

-- Faults.

-- the first fault counts
pub fault_first : {A B : Type 0} (o : Outcome A) (f : A → Outcome B) (e : TypeFault) → IsFault o e → IsFault (o >>= f) e
fault_first o f (fault.Refused c) h = ap (λ x. x >>= f) h
fault_first o f fault.Memory h = tt

refused_after : {A : Type 0} (cs : Conditions) (rs : List Ref) (o : Outcome A) (c : Code) → o ≡ Refused c → outcome_after cs rs o ≡ Refused c
refused_after cs rs o c h = ap (outcome_after cs rs) h

-- a fault after what is accepted
pub fault_next : {A B : Type 0} {s : Stored} {before : Conditions} {o : Outcome A} {a : A} {cs : List Condition} (f : A → Outcome B) (e : TypeFault) → Owes s before o a cs → IsFault (f a) e → IsFault (o >>= f) e
fault_next {s} {before} {o} {a} {cs} f (fault.Refused c) h k = go o h.is
  where
    go : (x : Outcome _) → outcome_after before [] x ≡ Accepted a (conditions_at s cs) h.symbols → (x >>= f) ≡ Refused c
    go (Refused d) e = cc
    go (Accepted b ds ss) e = let q : b ≡ a = cc in refused_after ds ss (f b) c (rw q k)
fault_next f fault.Memory h k = tt
