-- What the calls of typing are given, and what they answer.
use Rattle.std.specs.Prelude.{◌≡◌, ℕ, List, Result, Ok, Err, IfOk, IfErr}
use Rattle.pvs_terms.specs.Tree.{Tree, Ref}
use Rattle.pvs_terms.specs.declared.shape.Sort.{Sort}
use Rattle.pvs_terms.specs.Stored.{Stored, IsName, tree_at}
use Rattle.pvs_subst.specs.declared.context.Assumed.{Assumed}
use Rattle.pvs_subst.specs.declared.context.Condition.{Condition}
use Rattle.pvs_sig.specs.Lookups.{Lookups, IsOrdered}
use Rattle.pvs_types.specs.Outcome.{Conditions, Outcome}
use Rattle.pvs_typing.specs.declared.fault.TypeFault.{TypeFault}
use Rattle.pvs_typing.specs.Answers.{IsFault}
use Rattle.pvs_typing.specs.declared.judged.Judged.{Judged}
use Rattle.pvs_typing.specs.Owed.{AreKnownConditions, AreRefs, Judges, Owes, conditions_at}
use Rattle.pvs_typing.specs.State.{State, IsTypeOf, IsContextOf, AreConditionsOf, Grows}

-- a theory by its name, a context, and the conditions that are owed so far, where each defined name is larger than its
-- body
pub record IsGiven (k : State) (theory : ℕ) (g : List Assumed) (cs : List Condition) : Type 0 where
  pub name : IsName k.stored theory
  pub context : IsContextOf k theory g
  pub conditions : AreConditionsOf k theory cs
  pub ordered : IsOrdered (k.lookups theory)

-- the outcome accepts `a`, and these are the conditions then, each of the store
pub record Accepts {A : Type 0} (s : Stored) (P : Sort → Ref → Type 0) (before : Conditions) (o : Outcome A) (a : A) (cs : List Condition) : Type 0 where
  pub owes : Owes s before o a cs
  pub conditions : AreKnownConditions s P cs

-- The call answers the outcome: what it accepts, where `value` is what an answer stands for, or its code.
abbrev pub IsAnswer : {V A : Type 0} → (V → A) → Stored → (Sort → Ref → Type 0) → Conditions → Outcome A → List Condition → Result V TypeFault → Type 0
IsAnswer value s P before o cs (Ok v) = Accepts s P before o (value v) cs
IsAnswer value s P before o cs (Err e) = IsFault o e

pub record Answers {V A : Type 0} (value : V → A) (s : Stored) (P : Sort → Ref → Type 0) (before : Conditions) (o : Outcome A) (cs : List Condition) (r : Result V TypeFault) : Type 0 where
  pub is : IsAnswer value s P before o cs r

-- What a call of typing answers that goes from one state to the next, in the terms of a theory, where `before` is owed and
-- then `after`. `f` is the definition, of what the store held and what is looked up. The type that is answered is known
-- then, and the state grows in each case.

-- the type of a term, by number
pub record Infers (k m : State) (theory : ℕ) (before after : List Condition) (f : Stored → Lookups → Outcome Tree) (r : Result ℕ TypeFault) : Type 0 where
  pub answer : Answers (tree_at m.stored) m.stored (m.declares theory) (conditions_at k.stored before) (f k.stored (k.lookups theory)) after r
  pub known : IfOk r (IsTypeOf m theory)
  pub kept : Grows k m theory

-- nothing but what is owed
pub record Checks (k m : State) (theory : ℕ) (before after : List Condition) (f : Stored → Lookups → Outcome (Unit {0})) (r : Result (Unit {0}) TypeFault) : Type 0 where
  pub answer : Answers (λ _. tt) m.stored (m.declares theory) (conditions_at k.stored before) (f k.stored (k.lookups theory)) after r
  pub kept : Grows k m theory

-- the same, by what it owes and its fault
pub record Coerces (k m : State) (theory : ℕ) (before after : List Condition) (f : Stored → Lookups → Outcome (Unit {0})) (r : Result (Unit {0}) TypeFault) : Type 0 where
  pub ok : IfOk r (λ _. Owes m.stored (conditions_at k.stored before) (f k.stored (k.lookups theory)) tt after)
  pub known : IfOk r (λ _. AreConditionsOf m theory after)
  pub refused : IfErr r (IsFault (f k.stored (k.lookups theory)))
  pub kept : Grows k m theory

-- What the public calls answer: where the definition accepts, its conditions, in order, each of the store and with its
-- names declared, and the references of the store whose symbols it uses; else its code.

-- with the type that it gives
pub record JudgesTerm (k m : State) (theory : ℕ) (f : Stored → Lookups → Outcome Tree) (r : Result Judged TypeFault) : Type 0 where
  pub ok : IfOk r (λ j. Judges m.stored (f k.stored (k.lookups theory)) (tree_at m.stored j.ty) j.conditions.items j.uses.items)
  pub known : IfOk r (λ j. IsTypeOf m theory j.ty)
  pub conditions : IfOk r (λ j. AreConditionsOf m theory j.conditions.items)
  pub uses : IfOk r (λ j. AreRefs m.stored j.uses.items)
  pub refused : IfErr r (IsFault (f k.stored (k.lookups theory)))
  pub kept : Grows k m theory

-- with the type that it was asked for
pub record JudgesType (k m : State) (theory wanted : ℕ) (f : Stored → Lookups → Outcome (Unit {0})) (r : Result Judged TypeFault) : Type 0 where
  pub ok : IfOk r (λ j. Judges m.stored (f k.stored (k.lookups theory)) tt j.conditions.items j.uses.items)
  pub ty : IfOk r (λ j. j.ty ≡ wanted)
  pub conditions : IfOk r (λ j. AreConditionsOf m theory j.conditions.items)
  pub uses : IfOk r (λ j. AreRefs m.stored j.uses.items)
  pub refused : IfErr r (IsFault (f k.stored (k.lookups theory)))
  pub kept : Grows k m theory
