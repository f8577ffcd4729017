-- What may be added at the next place of a theory: an entry whose trees are known there and have no free variables.
use Rattle.std.specs.Prelude.{ℕ, Option, Some, None}
use Rattle.pvs_terms.specs.Tree.{IsClosed}
use Rattle.pvs_terms.specs.declared.shape.Sort.{Sort}
use Rattle.pvs_terms.specs.declared.shape.Sort.TheVariants.{OfType, OfTerm}
use Rattle.pvs_terms.specs.Stored.{tree_at}
use Rattle.pvs_sig.specs.declared.signature.Class.{Class}
use Rattle.pvs_sig.specs.declared.signature.Class.TheVariants.{FormalCondition}
use Rattle.pvs_sig.specs.declared.signature.EntryKind.{EntryKind}
use Rattle.pvs_sig.specs.declared.signature.EntryKind.TheVariants as numbers
use Rattle.pvs_typing.specs.Growth.{IsKnown}
use Rattle.pvs_elaboration.specs.Known.{Known}

-- a tree of this sort
pub record IsEntryTree (k : Known) (o : Sort) (i : ℕ) : Type 0 where
  pub known : IsKnown k.stored k.declares o i
  pub closed : IsClosed (tree_at k.stored i)

abbrev pub IsEntryOption : Known → Sort → Option ℕ → Type 0
IsEntryOption k o None = Unit {0}
IsEntryOption k o (Some i) = IsEntryTree k o i

-- a condition of a formal sees fewer formals, and comes another way
abbrev pub SeesAll : Class → Type 0
SeesAll (FormalCondition f) = ⊥
SeesAll c = Unit {0}

abbrev pub IsNextKind : Known → EntryKind → Type 0
IsNextKind k (numbers.TypeSig b body) = IsEntryOption k OfType body
IsNextKind k (numbers.ConstSig t body) = IsEntryTree k OfType t × IsEntryOption k OfTerm body
IsNextKind k (numbers.VarSig t) = IsEntryTree k OfType t
IsNextKind k (numbers.FormulaSig c t o) = SeesAll c × IsEntryTree k OfTerm t
