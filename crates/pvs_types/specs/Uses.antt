-- Which symbols an outcome uses.
use Rattle.std.specs.Prelude.{List, ◌↔◌}
use Rattle.std.specs.List.{Contains}
use Rattle.pvs_terms.specs.Tree.{Ref}
use Rattle.pvs_types.specs.Outcome.{Outcome, Refused, Accepted}

-- lists of the same symbols, in any order and number
abbrev pub AreSameSymbols : List Ref → List Ref → Type 0
AreSameSymbols rs ss = (r : Ref) → Contains rs r ↔ Contains ss r

-- what is accepted uses these symbols and no other
abbrev pub Uses : {A : Type 0} → List Ref → Outcome A → Type 0
Uses ss (Refused c) = Unit {0}
Uses ss (Accepted a cs rs) = AreSameSymbols rs ss
