-- What an answer of the code gives of a definition's.
use Rattle.std.specs.Prelude.{◌≡◌, ℕ, Option, Some, None, Result, Ok, Err, IfOk, IfErr, List, Vec}
use Rattle.pvs_base.specs.declared.code.Code.{Code}
use Rattle.pvs_base.specs.declared.code.Code.TheVariants as code
use Rattle.pvs_terms.specs.Tree.{Tree, Ref, IsWithinLimits}
use Rattle.pvs_terms.specs.declared.shape.Sort.{Sort}
use Rattle.pvs_terms.specs.declared.shape.Sort.TheVariants.{OfType}
use Rattle.pvs_sig.specs.Lookups.{Lookups}
use Rattle.pvs_typing.specs.Growth.{IsKnown, all_at}
use Rattle.pvs_typing.specs.State.{State, IsTypeOf, AreTypesOf, Grows}
use Rattle.pvs_terms.specs.Stored.{Stored, tree_at}
use Rattle.pvs_terms.specs.declared.fault.MakeFault.{MakeFault}
use Rattle.pvs_terms.specs.declared.fault.MakeFault.TheVariants as made
use Rattle.pvs_subst.specs.declared.fault.SubstFault.{SubstFault}
use Rattle.pvs_subst.specs.declared.fault.SubstFault.TheVariants as replaced
use Rattle.pvs_types.specs.Outcome as outcome
use Rattle.pvs_types.specs.Outcome.{Outcome, within_limits}
use Rattle.pvs_typing.specs.declared.fault.TypeFault.{TypeFault}
use Rattle.pvs_typing.specs.declared.fault.TypeFault.TheVariants.{Refused, Memory}

-- the fault of a tree that is not made
abbrev pub of_make : MakeFault → TypeFault
of_make made.TooLarge = Refused code.TooLarge
of_make made.Memory = Memory

abbrev pub of_subst : SubstFault → TypeFault
of_subst replaced.TooLarge = Refused code.TooLarge
of_subst replaced.Memory = Memory

-- the code is the definition's; being out of memory says nothing
abbrev pub IsRefusal : {A : Type 0} → Result A Code → TypeFault → Type 0
IsRefusal x (Refused c) = x ≡ Err c
IsRefusal x Memory = Unit {0}

abbrev pub IsFault : {A : Type 0} → Outcome A → TypeFault → Type 0
IsFault o (Refused c) = o ≡ outcome.Refused c
IsFault o Memory = Unit {0}

-- a fault that only being out of memory can be
abbrev pub IsMemory : TypeFault → Type 0
IsMemory (Refused c) = ⊥
IsMemory Memory = Unit {0}

abbrev pub tree_option : Stored → Option ℕ → Option Tree
tree_option s None = None
tree_option s (Some i) = Some (tree_at s i)

-- the number stands for the type of the reference
pub record IsType (s : Stored) (type_of : Ref → Option Tree) (r : Ref) (i : ℕ) : Type 0 where
  pub is : type_of r ≡ Some (tree_at s i)
  pub fits : IsWithinLimits (tree_at s i)

abbrev pub IsTooLarge : Option Tree → Type 0
IsTooLarge None = ⊥
IsTooLarge (Some t) = ¬ IsWithinLimits t

abbrev pub IsOptionKnown : Stored → (Sort → Ref → Type 0) → Option ℕ → Type 0
IsOptionKnown s P None = Unit {0}
IsOptionKnown s P (Some i) = IsKnown s P OfType i

-- the number stands for this tree, of this sort, whose names are declared
pub record Gives (s : Stored) (P : Sort → Ref → Type 0) (o : Sort) (t : Tree) (i : ℕ) : Type 0 where
  pub known : IsKnown s P o i
  pub tree : tree_at s i ≡ t
  pub fits : IsWithinLimits t

abbrev pub IsOptionOf : State → ℕ → Option ℕ → Type 0
IsOptionOf k theory o = IsOptionKnown k.stored (k.declares theory) o

-- What a call answers that goes from one state to the next, in the terms of a theory. `f` is the definition, of what the
-- store held and what is looked up. What is answered is known then, a code is the definition's, and the state grows in
-- each case.

-- a value, as it stands
pub record Finds {A : Type 0} (k m : State) (theory : ℕ) (f : Stored → Lookups → Result A Code) (r : Result A TypeFault) : Type 0 where
  pub ok : IfOk r (λ a. f k.stored (k.lookups theory) ≡ Ok a)
  pub refused : IfErr r (IsRefusal (f k.stored (k.lookups theory)))
  pub kept : Grows k m theory

-- a type by number, a list of them, or one that there may be
pub record FindsType (k m : State) (theory : ℕ) (f : Stored → Lookups → Result Tree Code) (r : Result ℕ TypeFault) : Type 0 where
  pub ok : IfOk r (λ i. f k.stored (k.lookups theory) ≡ Ok (tree_at m.stored i))
  pub known : IfOk r (IsTypeOf m theory)
  pub refused : IfErr r (IsRefusal (f k.stored (k.lookups theory)))
  pub kept : Grows k m theory

pub record FindsTypes {Z : Type 0} (k m : State) (theory : ℕ) (f : Stored → Lookups → Result (List Tree) Code) (r : Result (Vec ℕ Z) TypeFault) : Type 0 where
  pub ok : IfOk r (λ v. f k.stored (k.lookups theory) ≡ Ok (all_at m.stored v.items))
  pub known : IfOk r (λ v. AreTypesOf m theory v.items)
  pub refused : IfErr r (IsRefusal (f k.stored (k.lookups theory)))
  pub kept : Grows k m theory

pub record FindsOption (k m : State) (theory : ℕ) (f : Stored → Lookups → Result (Option Tree) Code) (r : Result (Option ℕ) TypeFault) : Type 0 where
  pub ok : IfOk r (λ o. f k.stored (k.lookups theory) ≡ Ok (tree_option m.stored o))
  pub known : IfOk r (IsOptionOf m theory)
  pub refused : IfErr r (IsRefusal (f k.stored (k.lookups theory)))
  pub kept : Grows k m theory

-- a tree of this sort, where it is within the limits
pub record Makes (k m : State) (theory : ℕ) (o : Sort) (f : Stored → Tree) (r : Result ℕ TypeFault) : Type 0 where
  pub ok : IfOk r (Gives m.stored (m.declares theory) o (f k.stored))
  pub refused : IfErr r (IsFault (within_limits (f k.stored)))
  pub kept : Grows k m theory
