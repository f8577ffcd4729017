-- What reading gives of a text or a span, and what a call that reads it returns.
use Rattle.std.specs.Prelude.{◌≡◌, ◌^◌, ◌-◌, ℕ, nat_lt, if◌then◌else◌, List, length, slice_get, Option, Some, None, Result, Ok, Err, ⊤}
use Rattle.pvs_base.specs.declared.code.Code.TheVariants as code
use Rattle.pvs_base.specs.declared.code.Fault.{Fault}
use Rattle.pvs_base.specs.declared.place.Pos.{Pos}
use Rattle.pvs_base.specs.Place.{place_after}
use Rattle.pvs_syntax.specs.declared.expression.Expr.{Expr}
use Rattle.pvs_syntax.specs.declared.unit.Unit as tree
use Rattle.pvs_parser.specs.declared.failure.Failure.{Failure}
use Rattle.pvs_parser.specs.declared.failure.Failure.TheVariants as failure
use Rattle.pvs_parser.specs.declared.failure.Reason.{Reason}
use Rattle.pvs_parser.specs.declared.failure.Stop.{Stop}
use Rattle.pvs_parser.specs.declared.failure.ParseFault.{ParseFault}
use Rattle.pvs_parser.specs.declared.failure.ParseFault.TheVariants as parse_fault
use Rattle.pvs_parser.specs.declared.terminal.Terminal.{Terminal}
use Rattle.pvs_parser.specs.Faults.{code_of, last_fault}
use Rattle.pvs_parser.specs.Language.{Tokens, language_limit}
use Rattle.pvs_parser.specs.code.Descent.{Answer, expression}
use Rattle.pvs_parser.specs.code.UnitDescent.{unit}
use Rattle.pvs_parser.specs.Text.{Terminals, first_place, terminals_of_text, terminals_of_span}
use Rattle.pvs_base.specs.Spans.{span_of}

-- ---- Where reading stops, as a fault.

abbrev pub fault_at : Pos → Option Fault → Tokens → ℕ → Reason → Option Terminal → Fault
fault_at end fault ts at why None = last_fault end fault
fault_at end fault ts at why (Some t) = record { pos = t.word.pos; code = code_of ts at t.kind why }

-- the fault of a stop in tokens that end at a place, with a lexical fault after them or none
abbrev pub fault_of : Pos → Option Fault → Tokens → Stop → Fault
fault_of end fault ts s = fault_at end fault ts (length ts - s.left) s.reason (slice_get ts (length ts - s.left))

-- what is read where no lexical fault stands after it
abbrev pub unless_fault : {A : Type 0} → Option Fault → A → Result A Fault
unless_fault None x = Ok x
unless_fault (Some f) x = Err f

abbrev pub tree_or_fault : {A : Type 0} → Pos → Terminals → Answer A → Result A Fault
tree_or_fault end ts (Err s) = Err (fault_of end ts.fault ts.tokens s)
tree_or_fault end ts (Ok x) = unless_fault ts.fault x

-- ---- What is read.

-- the unit of a text of any length, or the fault where reading it stops
abbrev pub read_text : List ℕ → Result tree.Unit Fault
read_text text = if nat_lt (2 ^ 20) (length text) then Err (record { pos = first_place; code = code.TextTooLong })
    else tree_or_fault (place_after first_place text) (terminals_of_text text) (unit language_limit text (terminals_of_text text).tokens)

-- the expression of a span whose first byte has a place, or the fault where reading it stops
abbrev pub read_span : List ℕ → ℕ → ℕ → Pos → Result Expr Fault
read_span text start end pos =
    tree_or_fault (place_after pos (span_of text start end)) (terminals_of_span text start end pos) (expression language_limit (terminals_of_span text start end pos).tokens)

-- ---- What is returned: what reading gives, or that memory ran out.

-- how a failure to read tokens that end at a place is reported, with a lexical fault after them or none
abbrev pub report_of : Pos → Option Fault → Tokens → Failure → ParseFault
report_of end fault ts failure.Memory = parse_fault.Memory
report_of end fault ts (failure.At s) = parse_fault.At (fault_of end fault ts s)

abbrev pub ReturnsFault : {A : Type 0} → ParseFault → Result A Fault → Type 0
ReturnsFault (parse_fault.At f) read = read ≡ Err f
ReturnsFault parse_fault.Memory read = ⊤

abbrev pub Returns : {A : Type 0} → Result A ParseFault → Result A Fault → Type 0
Returns (Ok x) read = read ≡ Ok x
Returns (Err e) read = ReturnsFault e read
