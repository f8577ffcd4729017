-- Texts and spans of them: what is read is in the grammar, what is in the grammar is read, and there is one answer.
use Rattle.std.proofs.Common.{◌≡◌, ◌∙◌, ◌≤◌, ◌^◌, ℕ, Bool, true, false, nat_lt, if◌then◌else◌, List, length, Option, Some, None, Result, Ok, Err, refl, ap, subst, arith}
use Rattle.std.proofs.lemmas.Bool.{ltb-true, ltb-false, le-ltb}
use Rattle.pvs_base.specs.declared.code.Code.TheVariants as code
use Rattle.pvs_base.specs.declared.code.Fault.{Fault}
use Rattle.pvs_base.specs.declared.place.Pos.{Pos}
use Rattle.pvs_base.specs.Place.{place_after}
use Rattle.pvs_syntax.specs.declared.expression.Expr.{Expr}
use Rattle.pvs_syntax.specs.declared.unit.Unit as tree
use Rattle.pvs_parser.specs.Language.{IsBelow, language_limit}
use Rattle.pvs_parser.specs.code.Descent.{Answer, expression}
use Rattle.pvs_parser.specs.code.UnitDescent.{unit}
use Rattle.pvs_parser.specs.Faults.{AwaitsName}
use Rattle.pvs_parser.specs.code.Reading.{unless_fault, tree_or_fault, read_text, read_span}
use Rattle.pvs_parser.specs.Text.{Terminals, first_place, terminals_of_text, Reads, IsUnit, IsFirstFault, IsAnswer, terminals_of_span, IsExpr, NeverAwaitsName, ReadsSpan, IsFirstFaultOfSpan, IsSpanAnswer, HasAnswer, HasSpanAnswer}
use Rattle.pvs_base.specs.Spans.{span_of}
use Rattle.pvs_parser.proofs.FirstFault.{one_first, no_first, first_fault}
use Rattle.pvs_parser.proofs.ExprFault.{expr_reading}
use Rattle.pvs_parser.proofs.UnitFault.{unit_reading}
use Rattle.pvs_parser.proofs.OneExpression.{expression_sound, expression_complete}
use Rattle.pvs_parser.proofs.WholeUnits.{unit_sound, unit_complete}

-- ---- what is judged

abbrev outcome : {A : Type 0} → Result A Fault → Result A Fault
outcome r = r

ok_same : {A : Type 0} (x y : A) → outcome (Ok x) ≡ Ok y → x ≡ y
ok_same x y e = cc

unless_ok : {A : Type 0} (o : Option Fault) (x y : A) → unless_fault o x ≡ Ok y → (o ≡ None) × (x ≡ y)
unless_ok None x y e = (refl, ok_same x y e)
unless_ok (Some f) x y e = cc

judged_ok : {A : Type 0} (end : Pos) (ts : Terminals) (r : Answer A) (x : A) → tree_or_fault end ts r ≡ Ok x → (ts.fault ≡ None) × (r ≡ Ok x)
judged_ok end ts (Ok y) x e = let f = unless_ok ts.fault y x e in (f.0, ap (λ z. Ok z) f.1)
judged_ok end ts (Err s) x e = cc

judged_is : {A : Type 0} (end : Pos) (ts : Terminals) (r : Answer A) (x : A) → ts.fault ≡ None → r ≡ Ok x → tree_or_fault end ts r ≡ Ok x
judged_is end ts r x none e = ap (tree_or_fault end ts) e ∙ ap (λ o. unless_fault o x) none

-- ---- whole texts

small_of : {A : Type 0} (n : ℕ) (b : Bool) → nat_lt (2 ^ 20) n ≡ b → (f : Fault) (r : Result A Fault) (x : A) → (if b then Err f else r) ≡ Ok x → (n ≤ 2 ^ 20) × (r ≡ Ok x)
small_of n true is f r x e = cc
small_of n false is f r x e = (ltb-false (2 ^ 20) n is, e)

some_bounded : IsBelow language_limit 0
some_bounded = omega arith

pub text_sound : (text : List ℕ) (u : tree.Unit) → read_text text ≡ Ok u → Reads text u
text_sound text u e =
    let ts : Terminals = terminals_of_text text in
    let s = small_of (length text) (nat_lt (2 ^ 20) (length text)) refl (record { pos = first_place; code = code.TextTooLong }) (tree_or_fault (place_after first_place text) ts (unit language_limit text ts.tokens)) u e in
    let j = judged_ok (place_after first_place text) ts (unit language_limit text ts.tokens) u s.1 in
    record { small = s.0; faultless = j.0; derives = unit_sound language_limit text ts.tokens u j.1 }

pub text_complete : (text : List ℕ) (u : tree.Unit) → Reads text u → read_text text ≡ Ok u
text_complete text u r =
    let ts : Terminals = terminals_of_text text in
    ap (λ b. if b then Err (record { pos = first_place; code = code.TextTooLong }) else tree_or_fault (place_after first_place text) ts (unit language_limit text ts.tokens)) (le-ltb (2 ^ 20) (length text) r.small)
    ∙ judged_is (place_after first_place text) ts (unit language_limit text ts.tokens) u r.faultless (unit_complete language_limit some_bounded text ts.tokens u r.derives)

unit_same : (o : Result tree.Unit Fault) (u v : tree.Unit) → o ≡ Ok u → o ≡ Ok v → u ≡ v
unit_same o u v f g = cc

-- a text that is a unit has no fault
pub unit_or_fault : (text : List ℕ) (u : tree.Unit) (f : Fault) → Reads text u → IsFirstFault text f → ⊥
unit_or_fault text u _ r (IsFirstFault.too_long long) = omega (arith, long, r.small)
unit_or_fault text u _ r (IsFirstFault.first small f first) =
    no_first (IsUnit text) AwaitsName (place_after first_place text) (terminals_of_text text).fault (terminals_of_text text).tokens f r.faultless (u, r.derives) first

pub fault_same : (text : List ℕ) (f g : Fault) → IsFirstFault text f → IsFirstFault text g → f ≡ g
fault_same text _ _ (IsFirstFault.too_long long) (IsFirstFault.too_long long2) = refl
fault_same text _ _ (IsFirstFault.too_long long) (IsFirstFault.first small g h) = absurd (omega (arith, long, small))
fault_same text _ _ (IsFirstFault.first small f h) (IsFirstFault.too_long long) = absurd (omega (arith, long, small))
fault_same text _ _ (IsFirstFault.first small f h) (IsFirstFault.first small2 g k) =
    one_first (IsUnit text) AwaitsName (place_after first_place text) (terminals_of_text text).fault (terminals_of_text text).tokens f g h k

-- two answers of one text are the same
pub one_answer : (text : List ℕ) (a b : Result tree.Unit Fault) → IsAnswer text a → IsAnswer text b → a ≡ b
one_answer text (Ok u) (Ok v) r s = ap (λ z. Ok z) (unit_same (read_text text) u v (text_complete text u r) (text_complete text v s))
one_answer text (Ok u) (Err g) r s = absurd (unit_or_fault text u g r s)
one_answer text (Err f) (Ok v) r s = absurd (unit_or_fault text v f s r)
one_answer text (Err f) (Err g) r s = ap (λ z. Err z) (fault_same text f g r s)

err_same : (o : Result tree.Unit Fault) (f g : Fault) → o ≡ Err f → o ≡ Err g → f ≡ g
err_same o f g e h = cc

fault_of_text : (text : List ℕ) (f : Fault) (b : Bool) → nat_lt (2 ^ 20) (length text) ≡ b
    → (if b then Err (record { pos = first_place; code = code.TextTooLong }) else tree_or_fault (place_after first_place text) (terminals_of_text text) (unit language_limit text (terminals_of_text text).tokens)) ≡ Err f → IsFirstFault text f
fault_of_text text f true is e = subst (λ z. IsFirstFault text z) (err_same (Err (record { pos = first_place; code = code.TextTooLong })) (record { pos = first_place; code = code.TextTooLong }) f refl e) (IsFirstFault.too_long (ltb-true (2 ^ 20) (length text) is))
fault_of_text text f false is e =
    IsFirstFault.first (ltb-false (2 ^ 20) (length text) is) f (first_fault (IsUnit text) AwaitsName (λ limit ts. unit limit text ts) (unit_reading text) (place_after first_place text) (terminals_of_text text) f e)

-- what is read of a text is its answer
answer_of : (text : List ℕ) (a : Result tree.Unit Fault) → read_text text ≡ a → IsAnswer text a
answer_of text (Ok u) e = text_sound text u e
answer_of text (Err f) e = fault_of_text text f (nat_lt (2 ^ 20) (length text)) refl e

pub text_answer : (text : List ℕ) → IsAnswer text (read_text text)
text_answer text = answer_of text (read_text text) refl

-- ---- spans

pub span_sound : (text : List ℕ) (start end : ℕ) (pos : Pos) (x : Expr) → read_span text start end pos ≡ Ok x → ReadsSpan text start end pos x
span_sound text start end pos x e =
    let ts : Terminals = terminals_of_span text start end pos in
    let j = judged_ok (place_after pos (span_of text start end)) ts (expression language_limit ts.tokens) x e in
    record { faultless = j.0; reads = expression_sound language_limit ts.tokens x j.1 }

pub span_complete : (text : List ℕ) (start end : ℕ) (pos : Pos) (x : Expr) → ReadsSpan text start end pos x → read_span text start end pos ≡ Ok x
span_complete text start end pos x r =
    let ts : Terminals = terminals_of_span text start end pos in
    judged_is (place_after pos (span_of text start end)) ts (expression language_limit ts.tokens) x r.faultless (expression_complete language_limit ts.tokens x r.reads)

expr_same : (o : Result Expr Fault) (x y : Expr) → o ≡ Ok x → o ≡ Ok y → x ≡ y
expr_same o x y f g = cc

-- a span that is an expression has no fault
pub expr_or_fault : (text : List ℕ) (start end : ℕ) (pos : Pos) (x : Expr) (f : Fault) → ReadsSpan text start end pos x → IsFirstFaultOfSpan text start end pos f → ⊥
expr_or_fault text start end pos x f r h =
    let ts : Terminals = terminals_of_span text start end pos in
    no_first IsExpr NeverAwaitsName (place_after pos (span_of text start end)) ts.fault ts.tokens f r.faultless (x, r.reads.0, r.reads.1, r.reads.2) h

pub span_fault_same : (text : List ℕ) (start end : ℕ) (pos : Pos) (f g : Fault) → IsFirstFaultOfSpan text start end pos f → IsFirstFaultOfSpan text start end pos g → f ≡ g
span_fault_same text start end pos f g h k =
    let ts : Terminals = terminals_of_span text start end pos in
    one_first IsExpr NeverAwaitsName (place_after pos (span_of text start end)) ts.fault ts.tokens f g h k

-- two answers of one span are the same
pub one_span_answer : (text : List ℕ) (start end : ℕ) (pos : Pos) (a b : Result Expr Fault) → IsSpanAnswer text start end pos a → IsSpanAnswer text start end pos b → a ≡ b
one_span_answer text start end pos (Ok x) (Ok y) r s = ap (λ z. Ok z) (expr_same (read_span text start end pos) x y (span_complete text start end pos x r) (span_complete text start end pos y s))
one_span_answer text start end pos (Ok x) (Err g) r s = absurd (expr_or_fault text start end pos x g r s)
one_span_answer text start end pos (Err f) (Ok y) r s = absurd (expr_or_fault text start end pos y f s r)
one_span_answer text start end pos (Err f) (Err g) r s =
    let ts : Terminals = terminals_of_span text start end pos in
    ap (λ z. Err z) (one_first IsExpr NeverAwaitsName (place_after pos (span_of text start end)) ts.fault ts.tokens f g r s)

span_answer_of : (text : List ℕ) (start end : ℕ) (pos : Pos) (a : Result Expr Fault) → read_span text start end pos ≡ a → IsSpanAnswer text start end pos a
span_answer_of text start end pos (Ok x) e = span_sound text start end pos x e
span_answer_of text start end pos (Err f) e = first_fault IsExpr NeverAwaitsName expression expr_reading (place_after pos (span_of text start end)) (terminals_of_span text start end pos) f e

pub span_answer : (text : List ℕ) (start end : ℕ) (pos : Pos) → IsSpanAnswer text start end pos (read_span text start end pos)
span_answer text start end pos = span_answer_of text start end pos (read_span text start end pos) refl

pub has_answer : (text : List ℕ) → HasAnswer text
has_answer text = (read_text text, text_answer text)

pub has_span_answer : (text : List ℕ) (start end : ℕ) (pos : Pos) → HasSpanAnswer text start end pos
has_span_answer text start end pos = (read_span text start end pos, span_answer text start end pos)
