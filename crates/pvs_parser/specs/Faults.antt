-- The first fault of tokens: the first token with which those so far begin nothing of the grammar.
--
-- What is read, a unit or an expression, is handed in: which tokens are one, within a limit or without, and after which the name
-- of the theory has to stand.
use Rattle.std.specs.Prelude.{◌≡◌, ℕ, ◌-◌, Bool, true, false, nat_lt, if◌then◌else◌, [], ◌∷◌, ◌++◌, length, slice_get, Option, Some, None}
use Rattle.pvs_base.specs.declared.code.Code.{Code}
use Rattle.pvs_base.specs.declared.code.Code.TheVariants as code
use Rattle.pvs_base.specs.declared.code.Fault.{Fault}
use Rattle.pvs_base.specs.declared.place.Pos.{Pos}
use Rattle.pvs_parser.specs.declared.failure.Reason.{Reason}
use Rattle.pvs_parser.specs.declared.failure.Reason.TheVariants as reason
use Rattle.pvs_parser.specs.declared.terminal.Terminal.{Terminal}
use Rattle.pvs_parser.specs.declared.terminal.TerminalKind.{TerminalKind}
use Rattle.pvs_parser.specs.declared.terminal.TerminalKind.TheVariants as kind
use Rattle.pvs_parser.specs.Terminals.{Is, IsId}
use Rattle.pvs_parser.specs.Language.{Tokens, Limit, language_limit}

-- ---- Codes.

abbrev pub kind_at : Option Terminal → Option TerminalKind
kind_at None = None
kind_at (Some t) = Some t.kind

-- the kind of the token that stands so far before the one of this number
abbrev pub kind_before : Tokens → ℕ → ℕ → Option TerminalKind
kind_before ts at back = if nat_lt at back then None else kind_at (slice_get ts (at - back))

-- whether the last kind and the one before it are those of a type that is declared nonempty
abbrev pub after_nonempty : Option TerminalKind → Option TerminalKind → Bool
after_nonempty (Some kind.Plus) (Some kind.Type) = true
after_nonempty (Some kind.NonemptyType) second = true
after_nonempty first second = false

-- whether a token of this kind with this number, where the grammar does not have it, is one of PVS that no form has there
abbrev pub is_outside : Tokens → ℕ → TerminalKind → Bool
is_outside ts at kind.OutOfProfile = true
is_outside ts at kind.Plus = true
is_outside ts at kind.Number = true
is_outside ts at kind.Equal = after_nonempty (kind_before ts at 1) (kind_before ts at 2)
is_outside ts at k = false

-- the code of a token of this number where reading stops for this reason
abbrev pub code_of : Tokens → ℕ → TerminalKind → Reason → Code
code_of ts at k reason.TooNested = code.TooNested
code_of ts at k reason.WrongEnd = code.WrongEnd
code_of ts at k reason.Unexpected = if is_outside ts at k then code.OutOfProfile else code.Unexpected

-- the fault where no token is left: the lexical one, or that the text ends here
abbrev pub last_fault : Pos → Option Fault → Fault
last_fault end None = record { pos = end; code = code.Unexpected }
last_fault end (Some f) = f

-- ---- What begins.

-- some of it begins with these tokens
abbrev pub Begins : (Limit → Tokens → Type 0) → Limit → Tokens → Type 0
Begins D limit ts = (more : Tokens) × D limit (ts ++ more)

-- Tokens begin some of it within the bounds of the language. A comma after the last entry that a list may have is still
-- within them: it is the entry after it that is one too many.
pub data IsViablePrefix (D : Limit → Tokens → Type 0) (ts : Tokens) : Type 0 where
  begins : Begins D language_limit ts → IsViablePrefix D ts
  comma : (us : Tokens) (t : Terminal) → ts ≡ us ++ t ∷ [] → Is kind.Comma t → Begins D language_limit us → Begins D None ts → IsViablePrefix D ts

-- the last of these tokens is END, after which the name of the theory has to stand
abbrev pub AwaitsName : Tokens → Type 0
AwaitsName ts = (us : Tokens) × (t : Terminal) × (ts ≡ us ++ t ∷ []) × Is kind.End t

-- Why a token after others is refused: without the bounds it could stand there; or else it is an identifier where the name of the
-- theory has to stand; or it is neither.
abbrev pub IsReason : (Limit → Tokens → Type 0) → (Tokens → Type 0) → Tokens → Terminal → Reason → Type 0
IsReason D E before t reason.TooNested = Begins D None (before ++ t ∷ [])
IsReason D E before t reason.WrongEnd = (Begins D None (before ++ t ∷ []) → ⊥) × IsId t × E before
IsReason D E before t reason.Unexpected = (Begins D None (before ++ t ∷ []) → ⊥) × (IsId t → E before → ⊥)

-- The fault after tokens that are within the bounds, of which these are the rest: at their end, where the text is not whole or a
-- lexical fault stands; or at the first of them.
abbrev pub IsFaultAfter : (Limit → Tokens → Type 0) → (Tokens → Type 0) → Pos → Option Fault → Tokens → Tokens → Tokens → Fault → Type 0
IsFaultAfter D E end fault ts before [] f = (f ≡ last_fault end fault) × (fault ≡ None → D language_limit ts → ⊥)
IsFaultAfter D E end fault ts before (t ∷ rest) f =
    (IsViablePrefix D (before ++ t ∷ []) → ⊥) × (why : Reason) × IsReason D E before t why × (f ≡ record { pos = t.word.pos; code = code_of ts (length before) t.kind why })

-- the first fault of tokens that end at a place, with a lexical fault after them or none
pub record IsFirstFaultIn (D : Limit → Tokens → Type 0) (E : Tokens → Type 0) (end : Pos) (fault : Option Fault) (ts : Tokens) (f : Fault) : Type 0 where
  pub before : Tokens
  pub rest : Tokens
  pub split : ts ≡ before ++ rest
  pub within : IsViablePrefix D before
  pub fault_after : IsFaultAfter D E end fault ts before rest f
