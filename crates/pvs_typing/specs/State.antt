-- What contracts see of the theories that stand, and which numbers are known in the terms of one.
use Rattle.std.specs.Prelude.{ℕ, List}
use Rattle.pvs_terms.specs.Tree.{Ref}
use Rattle.pvs_terms.specs.declared.shape.Sort.{Sort}
use Rattle.pvs_terms.specs.declared.shape.Sort.TheVariants.{OfType, OfTerm}
use Rattle.pvs_terms.specs.Stored.{Stored}
use Rattle.pvs_subst.specs.declared.context.Assumed.{Assumed}
use Rattle.pvs_subst.specs.declared.context.Condition.{Condition}
use Rattle.pvs_sig.specs.Development.{Development}
use Rattle.pvs_sig.specs.Lookups.{Lookups}
use Rattle.pvs_typing.specs.Growth.{IsKnown, IsKnownItem, IsKnownContext, AreKnown, Keeps}
use Rattle.pvs_typing.specs.Owed.{AreKnownConditions}

-- what the store holds and, in the terms of the theory of a name, which references are declared, with the sort of a node,
-- and what is looked up; and the theories that stand
pub record State : Type 1 where
  pub stored : Stored
  pub declares : ℕ → Sort → Ref → Type 0
  pub lookups : ℕ → Lookups
  pub theories : Development

-- a number of a type, or of a term, whose names are declared in the terms of the theory
abbrev pub IsTypeOf : State → ℕ → ℕ → Type 0
IsTypeOf k theory i = IsKnown k.stored (k.declares theory) OfType i

abbrev pub IsTermOf : State → ℕ → ℕ → Type 0
IsTermOf k theory i = IsKnown k.stored (k.declares theory) OfTerm i

abbrev pub AreTypesOf : State → ℕ → List ℕ → Type 0
AreTypesOf k theory is = AreKnown k.stored (k.declares theory) OfType is

-- the same of what a context and conditions name
abbrev pub IsItemOf : State → ℕ → Assumed → Type 0
IsItemOf k theory x = IsKnownItem k.stored (k.declares theory) x

abbrev pub IsContextOf : State → ℕ → List Assumed → Type 0
IsContextOf k theory g = IsKnownContext k.stored (k.declares theory) g

abbrev pub AreConditionsOf : State → ℕ → List Condition → Type 0
AreConditionsOf k theory cs = AreKnownConditions k.stored (k.declares theory) cs

-- the store may hold more; what is known in the terms of the theory, and which theories stand, stays as it was
abbrev pub Grows : State → State → ℕ → Type 0
Grows k m theory = Keeps k.stored (k.declares theory) (k.lookups theory) m.stored (m.declares theory) (m.lookups theory) k.theories m.theories
