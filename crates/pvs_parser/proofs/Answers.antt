-- What is read of a text or a span is its answer.
use Rattle.std.proofs.Common.{◌≡◌, ◌≤◌, ◌^◌, ℕ, List, length, Result, Ok, Err, IfOk, subst}
use Rattle.pvs_base.specs.declared.code.Fault.{Fault}
use Rattle.pvs_base.specs.declared.place.Pos.{Pos}
use Rattle.pvs_syntax.specs.declared.expression.Expr.{Expr}
use Rattle.pvs_syntax.specs.declared.unit.Unit as tree
use Rattle.pvs_parser.specs.declared.failure.ParseFault.{ParseFault}
use Rattle.pvs_parser.specs.declared.failure.ParseFault.TheVariants as parse_fault
use Rattle.pvs_syntax.specs.Trees.{IsTreeOf, IsTreeOfTerm, quoted_term}
use Rattle.pvs_parser.specs.Language.{outermost, whole}
use Rattle.pvs_parser.specs.code.Reading.{Returns, read_text, read_span}
use Rattle.pvs_parser.specs.Text.{Reads, ReadsSpan, AnswersTree, AnswersFault, IsFirstFault, IsFirstFaultOfSpan, IsAnswer, IsSpanAnswer, Answers, AnswersSpan, SpansIn, terminals_of_span}
use Rattle.pvs_parser.proofs.Texts.{text_sound, text_complete, span_sound, span_complete, text_answer, span_answer, unit_or_fault, fault_same, expr_or_fault, span_fault_same}
use Rattle.pvs_parser.proofs.ScriptSpans.{spans_in}
use Rattle.pvs_parser.proofs.ExprTrees.{is_in}
use Rattle.pvs_parser.proofs.TextTokens.{span_terminals}
use Rattle.pvs_parser.proofs.UnitTrees.{unit_tree}

same_tree : {A : Type 0} (o : Result A Fault) (x y : A) → o ≡ Ok x → o ≡ Ok y → x ≡ y
same_tree o x y e f = cc

pub unit_answers : (text : List ℕ) (r : Result tree.Unit ParseFault) → Returns r (read_text text) → Answers text r
unit_answers text (Ok u) e = text_sound text u e
unit_answers text (Err (parse_fault.At f)) e = subst (λ z. IsAnswer text z) e (text_answer text)
unit_answers text (Err parse_fault.Memory) e = tt

pub unit_spans : (text : List ℕ) (r : Result tree.Unit ParseFault) → Returns r (read_text text) → IfOk r (λ u. SpansIn text u)
unit_spans text (Ok u) e = spans_in text u (text_sound text u e)
unit_spans text (Err f) e = tt

err_is_no_ok : {A : Type 0} (o : Result A Fault) (x : A) (f : Fault) → o ≡ Ok x → o ≡ Err f → ⊥
err_is_no_ok o x f e g = cc

-- where a text is a unit, that one is answered
pub unit_only : (text : List ℕ) (r : Result tree.Unit ParseFault) → Returns r (read_text text) → (u : tree.Unit) → Reads text u → AnswersTree u r
unit_only text (Ok v) e u d = same_tree (read_text text) v u e (text_complete text u d)
unit_only text (Err (parse_fault.At f)) e u d = err_is_no_ok (read_text text) u f (text_complete text u d) e
unit_only text (Err parse_fault.Memory) e u d = tt

-- where a text has a first fault, that one is answered
pub unit_first : (text : List ℕ) (r : Result tree.Unit ParseFault) → Returns r (read_text text) → (f : Fault) → IsFirstFault text f → AnswersFault f r
unit_first text (Ok v) e f h = unit_or_fault text v f (text_sound text v e) h
unit_first text (Err (parse_fault.At g)) e f h = fault_same text g f (subst (λ z. IsAnswer text z) e (text_answer text)) h
unit_first text (Err parse_fault.Memory) e f h = tt

pub unit_short : (text : List ℕ) (r : Result tree.Unit ParseFault) → Returns r (read_text text) → IfOk r (λ u. length text ≤ 2 ^ 20)
unit_short text (Ok u) e = (text_sound text u e).small
unit_short text (Err f) e = tt

pub expr_answers : (text : List ℕ) (start end : ℕ) (pos : Pos) (r : Result Expr ParseFault) → Returns r (read_span text start end pos) → AnswersSpan text start end pos r
expr_answers text start end pos (Ok x) e = span_sound text start end pos x e
expr_answers text start end pos (Err (parse_fault.At f)) e = subst (λ z. IsSpanAnswer text start end pos z) e (span_answer text start end pos)
expr_answers text start end pos (Err parse_fault.Memory) e = tt

pub expr_only : (text : List ℕ) (start end : ℕ) (pos : Pos) (r : Result Expr ParseFault) → Returns r (read_span text start end pos) → (x : Expr) → ReadsSpan text start end pos x → AnswersTree x r
expr_only text start end pos (Ok y) e x d = same_tree (read_span text start end pos) y x e (span_complete text start end pos x d)
expr_only text start end pos (Err (parse_fault.At f)) e x d = err_is_no_ok (read_span text start end pos) x f (span_complete text start end pos x d) e
expr_only text start end pos (Err parse_fault.Memory) e x d = tt

pub expr_first : (text : List ℕ) (start end : ℕ) (pos : Pos) (r : Result Expr ParseFault) → Returns r (read_span text start end pos) → (f : Fault) → IsFirstFaultOfSpan text start end pos f → AnswersFault f r
expr_first text start end pos (Ok y) e f h = expr_or_fault text start end pos y f (span_sound text start end pos y e) h
expr_first text start end pos (Err (parse_fault.At g)) e f h = span_fault_same text start end pos g f (subst (λ z. IsSpanAnswer text start end pos z) e (span_answer text start end pos)) h
expr_first text start end pos (Err parse_fault.Memory) e f h = tt

pub unit_is_tree : (text : List ℕ) (r : Result tree.Unit ParseFault) → Returns r (read_text text) → IfOk r (λ u. IsTreeOf text u)
unit_is_tree text (Ok u) e = unit_tree text u (text_sound text u e)
unit_is_tree text (Err f) e = tt

pub expr_is_tree : (text : List ℕ) (start end : ℕ) (pos : Pos) → start ≤ end → end ≤ length text → (r : Result Expr ParseFault) → Returns r (read_span text start end pos) → IfOk r (λ x. IsTreeOfTerm text start pos x)
expr_is_tree text start end pos order within (Ok x) e =
    let d = (span_sound text start end pos x e).reads in
    is_in (quoted_term text start pos) (whole d.0) outermost (terminals_of_span text start end pos).tokens x d.1 d.2 (span_terminals text start end pos order within)
expr_is_tree text start end pos order within (Err f) e = tt
