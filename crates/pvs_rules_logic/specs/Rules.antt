-- The rules of logic with their arguments.
use Rattle.std.specs.Prelude.{ℤ}

-- a number is that of a formula of the sequent
pub data Rule : Type 0 where
  Axiom : Rule
  If : ℤ → Rule
