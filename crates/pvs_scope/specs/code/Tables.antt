-- Tables from texts to names, and from references to the types of VARs, as lists of pairs.
use Rattle.std.specs.Prelude.{ℕ, Option, List, bytes_eq, eqb}
use Rattle.std.specs.Map.{lookup}
use Rattle.pvs_terms.specs.Tree.{Text}

-- the name of a text
abbrev pub name_of : List (Text × ℕ) → Text → Option ℕ
name_of m x = lookup (bytes_eq x) m

-- the type of a VAR
abbrev pub type_of : List (ℕ × ℕ) → ℕ → Option ℕ
type_of m r = lookup (eqb r) m
