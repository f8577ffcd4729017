-- Function values that read the expressions and the types that stand deeper.
use Rattle.std.specs.Prelude.{◌≡◌, ℕ, Bool, true, false, [], ◌∷◌, length, Result}
use Rattle.std.specs.declared.alloc.Global.{Global}
use denote.Ref.{Bor}
use Rattle.pvs_parser.specs.declared.failure.Failure.{Failure}
use Rattle.pvs_parser.specs.declared.failure.Reason.TheVariants as reason
use Rattle.pvs_parser.specs.declared.failure.Stop.{Stop}
use Rattle.pvs_parser.specs.declared.nesting.Nesting.{Nesting}
use Rattle.pvs_parser.specs.declared.start.Start.{Start}
use Rattle.pvs_parser.specs.declared.terminal.TerminalKind.{TerminalKind}
use Rattle.pvs_syntax.specs.declared.expression.Expr.{Expr}
use Rattle.pvs_syntax.specs.declared.expression.TypeExpr.{TypeExpr}
use Rattle.pvs_parser.specs.Language.{language_limit, Tokens}
use Rattle.pvs_parser.specs.code.Descent.{Readers, Read, Gives, reader}

-- what is read within the limits of the language, with so many forms inside one another at most
abbrev pub bounded_reader : ℕ → Readers
bounded_reader room = record { limit = language_limit; expr = (reader language_limit room).expr; type = (reader language_limit room).type }

-- a tree as a function returns it, with the nesting after it and the tokens after it
abbrev pub ReadResult : Type 0 → Type 0
ReadResult A = Result (A × Nesting × Bor Tokens) Failure

pub record Nests (room : ℕ) (pre_expr : Global → ℕ → ℕ → Start → Nesting → Bor Tokens → Type 0)
    (post_expr : Global → ℕ → ℕ → Start → Nesting → Bor Tokens → ReadResult Expr → Type 0)
    (pre_type : Global → ℕ → ℕ → Nesting → Bor Tokens → Type 0)
    (post_type : Global → ℕ → ℕ → Nesting → Bor Tokens → ReadResult TypeExpr → Type 0) : Type 0 where
  pub expr_callable : (alloc : Global) (calls : ℕ) (s : Start) (l : Nesting) (ts : Bor Tokens) → pre_expr alloc calls room s l ts
  pub expr_gives : (alloc : Global) (calls : ℕ) (s : Start) (l : Nesting) (ts : Bor Tokens) (r : ReadResult Expr) → post_expr alloc calls room s l ts r
      → Gives (λ p. (p.0, p.1, p.2.now)) r ((reader language_limit room).expr s l ts.now)
  pub type_callable : (alloc : Global) (calls : ℕ) (l : Nesting) (ts : Bor Tokens) → pre_type alloc calls room l ts
  pub type_gives : (alloc : Global) (calls : ℕ) (l : Nesting) (ts : Bor Tokens) (r : ReadResult TypeExpr) → post_type alloc calls room l ts r
      → Gives (λ p. (p.0, p.1, p.2.now)) r ((reader language_limit room).type l ts.now)

-- whether such a terminal comes next
abbrev pub comes : (TerminalKind → Bool) → Tokens → Bool
comes starts [] = false
comes starts (t ∷ ts) = starts t.kind

-- where a list stops after the most items that it may have, as one more may begin or not
abbrev pub end_of_list_at : Bool → Tokens → Stop
end_of_list_at true ts = record { left = length ts; reason = reason.TooNested }
end_of_list_at false ts = record { left = length ts; reason = reason.Unexpected }

-- What two function values answer: the first reads an item, and the second says whether one may begin.
pub record ReadsItems {A : Type 0} (starts : TerminalKind → Bool) (reads : Nesting → Tokens → Read A)
    (post_item : Nesting → Bor Tokens → ReadResult A → Type 0) (post_start : Bor Tokens → Bool → Type 0) : Type 0 where
  pub item_gives : (l : Nesting) (ts : Bor Tokens) (r : ReadResult A) → post_item l ts r → Gives (λ p. (p.0, p.1, p.2.now)) r (reads l ts.now)
  pub start_gives : (ts : Bor Tokens) (b : Bool) → post_start ts b → b ≡ comes starts ts.now
