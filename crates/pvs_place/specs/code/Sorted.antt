-- The trees of an entry by number, each of whose nodes has parts of the sorts that it needs.
use Rattle.std.specs.Prelude.{ℕ, Option, Some, None}
use Rattle.pvs_terms.specs.Sorts.{IsSorted}
use Rattle.pvs_terms.specs.Stored.{Stored, tree_at}
use Rattle.pvs_sig.specs.declared.signature.EntryKind.{EntryKind}
use Rattle.pvs_sig.specs.declared.signature.EntryKind.TheVariants as numbers

abbrev pub IsSortedOption : Stored → Option ℕ → Type 0
IsSortedOption s None = Unit {0}
IsSortedOption s (Some i) = IsSorted (tree_at s i)

abbrev pub IsSortedKind : Stored → EntryKind → Type 0
IsSortedKind s (numbers.TypeSig b body) = IsSortedOption s body
IsSortedKind s (numbers.ConstSig t body) = IsSorted (tree_at s t) × IsSortedOption s body
IsSortedKind s (numbers.VarSig t) = IsSorted (tree_at s t)
IsSortedKind s (numbers.FormulaSig c t o) = IsSorted (tree_at s t)
