-- The tokens of a text, and those of a quoted term, are terminals of the text.
use Rattle.std.proofs.Common.{◌≡◌, ◌∙◌, ◌<◌, ◌≤◌, ◌+◌, ◌-◌, ℕ, List, [], ◌∷◌, length, take, drop, map, All, sym, ap, ap₂, arith}
use Rattle.std.proofs.lemmas.List.{take-take, drop-drop, drop-take, length-take-le, length-drop}
use Rattle.std.proofs.lemmas.List.Elements.{All-head, All-tail}
use Rattle.pvs_base.specs.declared.place.Pos.{Pos}
use Rattle.pvs_base.specs.Place.{place_after, place_at}
use Rattle.pvs_base.specs.Spans.{span_of}
use Rattle.pvs_lexer.specs.declared.token.Token.{Token}
use Rattle.pvs_lexer.specs.Spans.{AreSpans, IsTokenOf}
use Rattle.pvs_lexer.specs.Tokens.{tokens_of}
use Rattle.pvs_lexer.specs.Tokens as lexer
use Rattle.pvs_lexer.proofs.SpanLaws.{tokens_are, tokens_spans}
use Rattle.pvs_syntax.specs.Trees.{Origin, whole_text, quoted_term}
use Rattle.pvs_parser.specs.Text.{kind_of, terminal, terminals_of_text, terminals_of_span, first_place}
use Rattle.pvs_parser.proofs.Spans.{from_below}
use Rattle.pvs_parser.proofs.TreeTokens.{IsTerminalOf, AreTerminalsOf}

-- how a span lies in the text of a tree: its offset, and the place of its first byte
record LiesIn (o : Origin) (offset : ℕ) (first : Pos) (span : List ℕ) : Type 0 where
  pub end : offset + length span ≤ length o.text
  pub bytes : (a b : ℕ) → a ≤ b → b ≤ length span → span_of o.text (offset + a) (offset + b) ≡ span_of span a b
  pub places : (a : ℕ) → a ≤ length span → o.place (offset + a) ≡ place_after first (take a span)

terminal_is : (o : Origin) (offset : ℕ) (first : Pos) (span : List ℕ) → LiesIn o offset first span → (t : Token) → t.start < t.end
    → t.end ≤ length span → IsTokenOf first span t
    → IsTerminalOf o (terminal o.quoted offset span t)
terminal_is o offset first span lies t order end is =
    let same = lies.bytes t.start t.end (omega (arith, order)) end in
    record {
      order = omega (arith, order);
      end = omega (arith, end, lies.end);
      pos = is.pos ∙ sym (lies.places t.start (omega (arith, order, end)));
      token = t.kind;
      is = ap lexer.kind_of same ∙ is.kind;
      kind = ap (kind_of o.quoted t.kind) (sym same);
    }

all_are : (o : Origin) (offset : ℕ) (first : Pos) (span : List ℕ) → LiesIn o offset first span → (from to : ℕ) (ts : List Token)
    → to ≤ length span → AreSpans from to ts → All (IsTokenOf first span) ts
    → AreTerminalsOf o (map (terminal o.quoted offset span) ts)
all_are o offset first span lies from to [] le s are = tt
all_are o offset first span lies from to (t ∷ ts) le s are =
    let most = from_below t.end to ts s.2 in
    (terminal_is o offset first span lies t s.1 (omega (arith, le, most)) (All-head (IsTokenOf first span) t ts are), all_are o offset first span lies t.end to ts le s.2 (All-tail (IsTokenOf first span) t ts are))

tokens_in : (o : Origin) (offset : ℕ) (first : Pos) (span : List ℕ) → LiesIn o offset first span
    → AreTerminalsOf o (map (terminal o.quoted offset span) (tokens_of first span).tokens)
tokens_in o offset first span lies =
    let none : length span ≤ length span = omega arith in
    all_are o offset first span lies 0 (length span) (tokens_of first span).tokens none (tokens_spans first span) (tokens_are first span)

zero_add : (a : ℕ) → 0 + a ≡ a
zero_add a = omega arith

pub text_terminals : (text : List ℕ) → AreTerminalsOf (whole_text text) (terminals_of_text text).tokens
text_terminals text = tokens_in (whole_text text) 0 first_place text (record {
  end = omega arith;
  bytes = λ a b order end. ap₂ (λ m n. span_of text m n) (zero_add a) (zero_add b);
  places = λ a end. ap (λ n. place_at text n) (zero_add a);
})

span_length : (text : List ℕ) (start end : ℕ) → start ≤ end → end ≤ length text → length (span_of text start end) ≡ end - start
span_length text start end order within =
    let rest : length (drop start text) ≡ length text - start = length-drop start text in
    length-take-le (end - start) (drop start text) (omega (arith, order, within, rest))

-- a span of a span
span_in : (text : List ℕ) (start end a b : ℕ) → a ≤ b → b ≤ end - start
    → span_of text (start + a) (start + b) ≡ span_of (span_of text start end) a b
span_in text start end a b order within =
    let size : (start + b) - (start + a) ≡ b - a = omega (arith, order) in
    let left : end - start ≡ a + ((end - start) - a) = omega (arith, order, within) in
    let few : b - a ≤ (end - start) - a = omega (arith, order, within) in
    ap (λ n. take n (drop (start + a) text)) size
    ∙ sym (ap (take (b - a)) (
    ap (λ n. drop a (take n (drop start text))) left
    ∙ drop-take a ((end - start) - a) (drop start text)
    ) ∙ take-take (b - a) ((end - start) - a) (drop a (drop start text)) few ∙ ap (take (b - a)) (drop-drop a start text))

span_places : (text : List ℕ) (start end a : ℕ) → a ≤ end - start → span_of text start (start + a) ≡ take a (span_of text start end)
span_places text start end a within =
    let size : (start + a) - start ≡ a = omega arith in
    ap (λ n. take n (drop start text)) size ∙ sym (take-take a (end - start) (drop start text) within)

pub span_terminals : (text : List ℕ) (start end : ℕ) (pos : Pos) → start ≤ end → end ≤ length text
    → AreTerminalsOf (quoted_term text start pos) (terminals_of_span text start end pos).tokens
span_terminals text start end pos order within =
    let size = span_length text start end order within in
    tokens_in (quoted_term text start pos) start pos (span_of text start end) (record {
      end = omega (arith, order, within, size);
      bytes = λ a b le most. span_in text start end a b le (omega (arith, most, size));
      places = λ a most. ap (λ z. place_after pos z) (span_places text start end a (omega (arith, most, size)));
    })
