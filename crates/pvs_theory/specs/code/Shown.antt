-- What numbers, entries and parts stand for in a store.
use Rattle.std.specs.Prelude.{◌≡◌, ℕ, List, [], ◌∷◌, map}
use Rattle.pvs_terms.specs.Sorts.{IsTerm}
use Rattle.pvs_terms.specs.Stored.{Stored, tree_at, IsNode}
use Rattle.pvs_theory.specs.declared.entries.Placed as program_placed
use Rattle.pvs_theory.specs.declared.entries.Entry as program
use Rattle.pvs_theory.specs.declared.entries.Entry.TheVariants as entry
use Rattle.pvs_theory.specs.declared.theories.Part as program_part
use Rattle.pvs_theory.specs.declared.theories.Part.TheVariants as part
use Rattle.pvs_syntax.specs.Words.{spelling}
use Rattle.pvs_theory.specs.Entries.{Entry, Constant, Formula, Placed}
use Rattle.pvs_theory.specs.Theories.{Part, Accepted, Rejected, Proving}

-- the number stands for a term
pub record IsTermOf (s : Stored) (i : ℕ) : Type 0 where
  pub node : IsNode s i
  pub term : IsTerm (tree_at s i)

abbrev pub IsPlacedOf : Stored → program_placed.Placed → Type 0
IsPlacedOf s p = IsTermOf s p.tree

abbrev pub placed_at : Stored → program_placed.Placed → Placed
placed_at s p = record { at = p.at; tree = tree_at s p.tree }

-- ---- Entries.

abbrev pub entry_shown : Stored → List ℕ → program.Entry → Entry
entry_shown s text (entry.Constant w) = record { name = spelling text w; kind = Constant }
entry_shown s text (entry.Formula w word i) = record { name = spelling text w; kind = Formula word (tree_at s i) }

abbrev pub entries_shown : Stored → List ℕ → List program.Entry → List Entry
entries_shown s text es = map (entry_shown s text) es

-- their numbers are of the store
abbrev pub IsEntryOf : Stored → program.Entry → Type 0
IsEntryOf s (entry.Constant w) = Unit {0}
IsEntryOf s (entry.Formula w word i) = IsNode s i

abbrev pub AreEntriesOf : Stored → List program.Entry → Type 0
AreEntriesOf s [] = Unit {0}
AreEntriesOf s (e ∷ es) = IsEntryOf s e × AreEntriesOf s es

-- ---- Parts of a unit.

abbrev pub part_shown : Stored → List ℕ → program_part.Part → Part
part_shown s text (part.Accepted theory es) = Accepted (spelling text theory) (entries_shown s text es.items)
part_shown s text (part.Rejected theory f) = Rejected (spelling text theory) f
part_shown s text (part.Proving p) = Proving text p.now

abbrev pub parts_shown : Stored → List ℕ → List program_part.Part → List Part
parts_shown s text ps = map (part_shown s text) ps

abbrev pub IsPartOf : Stored → program_part.Part → Type 0
IsPartOf s (part.Accepted theory es) = AreEntriesOf s es.items
IsPartOf s (part.Rejected theory f) = Unit {0}
IsPartOf s (part.Proving p) = Unit {0}

abbrev pub ArePartsOf : Stored → List program_part.Part → Type 0
ArePartsOf s [] = Unit {0}
ArePartsOf s (p ∷ ps) = IsPartOf s p × ArePartsOf s ps

-- the part stands for this one
pub record IsPart (s : Stored) (text : List ℕ) (q : Part) (p : program_part.Part) : Type 0 where
  pub nodes : IsPartOf s p
  pub is : part_shown s text p ≡ q

pub record AreParts (s : Stored) (text : List ℕ) (qs : List Part) (ps : List program_part.Part) : Type 0 where
  pub nodes : ArePartsOf s ps
  pub are : parts_shown s text ps ≡ qs
