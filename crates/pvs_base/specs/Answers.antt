-- A definition by steps, each of which may be refused.
use Rattle.std.specs.Prelude.{Result, Ok, Err}

-- the step that follows, where the one before it gives a value; else its refusal
infixl 10 ◌>>=◌
abbrev pub ◌>>=◌ : {A B E : Type 0} → Result A E → (A → Result B E) → Result B E
(Ok x) >>= f = f x
(Err e) >>= f = Err e
