-- The scripts of a unit lie in its text.
use Rattle.std.proofs.Common.{◌≡◌, ◌∙◌, ◌≤◌, ℕ, false, List, [], ◌∷◌, ◌++◌, length, map, All, ap, subst, arith, rules}
use Rattle.std.proofs.lemmas.List.Elements.{All-nil, All-cons, All-head, All-tail}
use Rattle.pvs_base.specs.Place.{place_at}
use Rattle.pvs_lexer.specs.declared.token.Token.{Token}
use Rattle.pvs_lexer.specs.Spans.{AreSpans, IsTokenOf}
use Rattle.pvs_lexer.specs.Tokens.{tokens_of}
use Rattle.pvs_lexer.proofs.SpanLaws.{tokens_are, tokens_spans}
use Rattle.pvs_syntax.specs.declared.unit.Item.{Item}
use Rattle.pvs_syntax.specs.declared.unit.Item.TheVariants as item
use Rattle.pvs_syntax.specs.declared.unit.Proof.{Proof}
use Rattle.pvs_syntax.specs.declared.unit.Unit as tree
use Rattle.pvs_parser.specs.declared.terminal.Terminal.{Terminal}
use Rattle.pvs_parser.specs.Language.{Limit, Tokens, language_limit}
use Rattle.pvs_parser.specs.Units.{DerivesProof, DerivesItems}
use Rattle.pvs_parser.specs.Text.{terminal, terminals_of_text, first_place, Reads, SpanIn, SpansIn}

-- the spans of terminals lie between two offsets, one after another, and each has the place of its first byte
abbrev pub Spans : List ℕ → ℕ → ℕ → Tokens → Type 0
Spans text from to [] = from ≤ to
Spans text from to (t ∷ ts) = (from ≤ t.word.start) × (t.word.start ≤ t.word.end) × (t.word.pos ≡ place_at text t.word.start) × Spans text t.word.end to ts

spans_of : (text : List ℕ) (from to : ℕ) (ts : List Token) → AreSpans from to ts → All (IsTokenOf first_place text) ts → Spans text from to (map (terminal false 0 text) ts)
spans_of text from to [] s are = s
spans_of text from to (t ∷ ts) s are =
    let at : t.pos ≡ place_at text t.start = (All-head (IsTokenOf first_place text) t ts are).pos in (
      omega (arith, s.0),
      omega (arith, s.1),
      at ∙ ap (place_at text) (omega arith),
      subst (λ z. Spans text z to (map (terminal false 0 text) ts)) (omega arith) (spans_of text t.end to ts s.2 (All-tail (IsTokenOf first_place text) t ts are)),
    )

pub text_spans : (text : List ℕ) → Spans text 0 (length text) (terminals_of_text text).tokens
text_spans text = spans_of text 0 (length text) (tokens_of first_place text).tokens (tokens_spans first_place text) (tokens_are first_place text)

spans_most : (text : List ℕ) (from to : ℕ) (ts : Tokens) → Spans text from to ts → from ≤ to
spans_most text from to [] s = s
spans_most text from to (t ∷ ts) s = omega (arith, s.0, s.1, spans_most text t.word.end to ts s.3)

-- the spans after the first tokens
pub spans_behind : (text : List ℕ) (from to : ℕ) (ts us : Tokens) → Spans text from to (ts ++ us) → (at : ℕ) × (from ≤ at) × Spans text at to us
spans_behind text from to [] us s = (from, omega arith, s)
spans_behind text from to (t ∷ ts) us s = let b = spans_behind text t.word.end to ts us s.3 in (b.0, omega (arith, s.0, s.1, b.1), b.2)

-- a parenthesis, balanced tokens, and the one that closes it
script_in : (text : List ℕ) (from to : ℕ) (y z : Terminal) (ts us : Tokens) → Spans text from to (y ∷ (ts ++ z ∷ us)) → (y.word.start ≤ z.word.end) × (z.word.end ≤ to) × (y.word.pos ≡ place_at text y.word.start)
script_in text from to y z ts us s =
    let b = spans_behind text y.word.end to ts (z ∷ us) s.3 in
    let c = b.2 in
    (omega (arith, s.1, b.1, c.0, c.1), spans_most text z.word.end to us c.3, s.2)

proof_in : (limit : Limit) (text : List ℕ) (from to : ℕ) (ts : Tokens) (p : Proof) → DerivesProof limit ts p → Spans text from to ts → (p.start ≤ p.end) × (p.end ≤ to) × (p.pos ≡ place_at text p.start)
proof_in limit text from to _ _ (DerivesProof.proof ts t u v w x y z c first word is dot is2 opened lt d close last) s = script_in text x.word.end to y z ts (c ∷ []) s.3.3.3.3.3

pub spans_front : (text : List ℕ) (from to : ℕ) (ts us : Tokens) → Spans text from to (ts ++ us) → (at : ℕ) × (at ≤ to) × Spans text from at ts
spans_front text from to [] us s = (from, spans_most text from to us s, omega arith)
spans_front text from to (t ∷ ts) us s = let b = spans_front text t.word.end to ts us s.3 in (b.0, b.1, (s.0, s.1, s.2, b.2))

front_proof : (limit : Limit) (text : List ℕ) (from to : ℕ) (ts us : Tokens) (p : Proof) → DerivesProof limit ts p → Spans text from to (ts ++ us) → (p.start ≤ p.end) × (p.end ≤ to) × (p.pos ≡ place_at text p.start)
front_proof limit text from to ts us p d s =
    let f = spans_front text from to ts us s in
    let b = proof_in limit text from f.0 ts p d f.2 in
    (b.0, omega (arith, b.1, f.1), b.2)

items_in : (limit : Limit) (text : List ℕ) (from : ℕ) (ts : Tokens) (is : List Item) → DerivesItems limit text ts is → Spans text from (length text) ts → All (SpanIn text) is
items_in limit text from _ _ DerivesItems.none s = All-nil (SpanIn text)
items_in limit text from _ _ (DerivesItems.theory ts us t is d e) s =
    let b = spans_behind text from (length text) ts us s in
    All-cons (SpanIn text) (item.Theory t) is (search rules) (items_in limit text b.0 us is e b.2)
items_in limit text from _ _ (DerivesItems.proof ts us p is d e) s =
    let b = spans_behind text from (length text) ts us s in
    All-cons (SpanIn text) (item.Proof p) is (front_proof limit text from (length text) ts us p d s) (items_in limit text b.0 us is e b.2)

pub spans_in : (text : List ℕ) (u : tree.Unit) → Reads text u → SpansIn text u
spans_in text u r = items_in language_limit text 0 (terminals_of_text text).tokens u.items r.derives (text_spans text)
