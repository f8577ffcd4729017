-- Interpretations by finite sets as finite maps, and the model that each one is.
use Rattle.std.specs.Prelude.{Bool, true, false, if◌then◌else◌, List, [], ◌∷◌, Option, Some, None}
use Rattle.pvs_terms.specs.Tree.{Ref, ref_eq}
use Rattle.pvs_sem.specs.Value.{Value, IsAscending}
use Rattle.pvs_sem.specs.Meaning.{Meaning, Model, value_meaning, set_meaning}

-- what a reference denotes: a finite set for a type, a value for a constant
pub data Denotation : Type 0 where
  Set : List Value → Denotation
  Element : Value → Denotation

-- a reference with what it denotes
pub record Binding : Type 0 where
  pub reference : Ref
  pub denotation : Denotation

-- an interpretation by finite sets; of several entries of one reference the first counts
abbrev pub FiniteMap : Type 0
FiniteMap = List Binding

abbrev pub denotation_of : FiniteMap → Ref → Option Denotation
denotation_of [] r = None
denotation_of (x ∷ xs) r = if ref_eq r x.reference then Some x.denotation else denotation_of xs r

-- without an entry the empty set, and FALSE
abbrev pub denoted_meaning : Option Denotation → Meaning
denoted_meaning None = set_meaning []
denoted_meaning (Some (Set xs)) = set_meaning xs
denoted_meaning (Some (Element v)) = value_meaning v

abbrev pub is_denoted : Option Denotation → Bool
is_denoted None = false
is_denoted (Some d) = true

abbrev pub model_of : FiniteMap → Model
model_of i = record { meaning = λ r. denoted_meaning (denotation_of i r); has = λ r. is_denoted (denotation_of i r) }

-- each set is a set: in strictly ascending order
abbrev pub IsSet : Denotation → Type 0
IsSet (Set xs) = IsAscending xs
IsSet (Element v) = Unit {0}

abbrev pub AreSets : FiniteMap → Type 0
AreSets [] = Unit {0}
AreSets (x ∷ xs) = IsSet x.denotation × AreSets xs
