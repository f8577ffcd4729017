-- Which unit a text is, and which expression a span of it.
use Rattle.std.specs.Prelude.{◌≡◌, ◌≤◌, ◌<◌, ◌^◌, ℕ, ◌+◌, ◌==◌, Bool, true, false, if◌then◌else◌, List, [], ◌∷◌, length, map, codes, Option, Some, None, Result, Ok, Err, All, ⊤}
use Rattle.std.specs.Str.{bytes_eq}
use Rattle.pvs_base.specs.declared.code.Code.TheVariants as code
use Rattle.pvs_base.specs.declared.code.Fault.{Fault}
use Rattle.pvs_base.specs.declared.place.Pos.{Pos}
use Rattle.pvs_base.specs.Place.{place_after, place_at}
use Rattle.pvs_base.specs.Spans.{span_of}
use Rattle.pvs_lexer.specs.declared.token.Token.{Token}
use Rattle.pvs_lexer.specs.declared.token.TokenKind.{TokenKind}
use Rattle.pvs_lexer.specs.declared.token.TokenKind.TheVariants as token
use Rattle.pvs_lexer.specs.declared.words.Keyword.{Keyword}
use Rattle.pvs_lexer.specs.declared.words.Keyword.TheVariants as k
use Rattle.pvs_lexer.specs.Keywords.{keyword_of}
use Rattle.pvs_lexer.specs.Spans.{bytes_of}
use Rattle.pvs_lexer.specs.Tokens.{TokenStream, tokens_of}
use Rattle.pvs_syntax.specs.declared.expression.Expr.{Expr}
use Rattle.pvs_syntax.specs.declared.unit.Item.{Item}
use Rattle.pvs_syntax.specs.declared.unit.Item.TheVariants as item
use Rattle.pvs_syntax.specs.declared.unit.Unit as tree
use Rattle.pvs_parser.specs.declared.failure.ParseFault.{ParseFault}
use Rattle.pvs_parser.specs.declared.failure.ParseFault.TheVariants as parse_fault
use Rattle.pvs_parser.specs.declared.nesting.Nesting.{Nesting}
use Rattle.pvs_parser.specs.declared.terminal.Terminal.{Terminal}
use Rattle.pvs_parser.specs.declared.terminal.TerminalKind.{TerminalKind}
use Rattle.pvs_parser.specs.declared.terminal.TerminalKind.TheVariants as kind
use Rattle.pvs_parser.specs.Faults.{AwaitsName, IsFirstFaultIn}
use Rattle.pvs_parser.specs.Language.{Tokens, Limit, language_limit, ReadsExpr, Ending, Derives, whole, outermost}
use Rattle.pvs_parser.specs.Units.{DerivesUnit}

-- ---- What a token is for the grammar.

abbrev pub keyword_kind : Keyword → TerminalKind
keyword_kind k.And = kind.And
keyword_kind k.Assuming = kind.Assuming
keyword_kind k.Assumption = kind.Assumption
keyword_kind k.Axiom = kind.Axiom
keyword_kind k.Begin = kind.Begin
keyword_kind k.Challenge = kind.Lemma
keyword_kind k.Claim = kind.Lemma
keyword_kind k.Conjecture = kind.Lemma
keyword_kind k.Corollary = kind.Lemma
keyword_kind k.Else = kind.Else
keyword_kind k.Elsif = kind.Elsif
keyword_kind k.End = kind.End
keyword_kind k.EndAssuming = kind.EndAssuming
keyword_kind k.EndIf = kind.EndIf
keyword_kind k.Exists = kind.Exists
keyword_kind k.Fact = kind.Lemma
keyword_kind k.False = kind.False
keyword_kind k.Forall = kind.Forall
keyword_kind k.Formula = kind.Lemma
keyword_kind k.If = kind.If
keyword_kind k.Iff = kind.Iff
keyword_kind k.Implies = kind.Implies
keyword_kind k.Importing = kind.Importing
keyword_kind k.In = kind.In
keyword_kind k.Lambda = kind.Lambda
keyword_kind k.Law = kind.Lemma
keyword_kind k.Lemma = kind.Lemma
keyword_kind k.Let = kind.Let
keyword_kind k.NonemptyType = kind.NonemptyType
keyword_kind k.Not = kind.Not
keyword_kind k.Obligation = kind.Lemma
keyword_kind k.Or = kind.Or
keyword_kind k.Postulate = kind.Axiom
keyword_kind k.Proposition = kind.Lemma
keyword_kind k.Sublemma = kind.Lemma
keyword_kind k.Then = kind.Then
keyword_kind k.Theorem = kind.Lemma
keyword_kind k.Theory = kind.Theory
keyword_kind k.True = kind.True
keyword_kind k.Type = kind.Type
keyword_kind k.Var = kind.Var
keyword_kind _ = kind.OutOfProfile

-- a word that is no keyword
abbrev pub name_kind : List ℕ → TerminalKind
name_kind bytes = if bytes_eq bytes (codes "proof") then kind.Proof else kind.Id

abbrev pub word_kind : List ℕ → Option Keyword → TerminalKind
word_kind bytes (Some keyword) = keyword_kind keyword
word_kind bytes None = name_kind bytes

-- a symbol of one byte
abbrev pub sign_kind : ℕ → TerminalKind
sign_kind b =
    if b == 40 then kind.Open
    else (if b == 41 then kind.Close
    else (if b == 91 then kind.OpenBracket
    else (if b == 93 then kind.CloseBracket
    else (if b == 123 then kind.OpenBrace
    else (if b == 125 then kind.CloseBrace
    else (if b == 44 then kind.Comma
    else (if b == 59 then kind.Semicolon
    else (if b == 58 then kind.Colon
    else (if b == 46 then kind.Dot
    else (if b == 124 then kind.Bar
    else (if b == 61 then kind.Equal
    else (if b == 38 then kind.And
    else (if b == 43 then kind.Plus
    else (if b == 96 then kind.Backquote else kind.OutOfProfile))))))))))))))

-- a symbol of two bytes
abbrev pub pair_kind : List ℕ → TerminalKind
pair_kind bytes =
    if bytes_eq bytes (codes "->") then kind.Arrow
    else (if bytes_eq bytes (codes "=>") then kind.Implies
    else (if bytes_eq bytes (codes "/=") then kind.Differs
    else (if bytes_eq bytes (codes "/\\") then kind.And
    else (if bytes_eq bytes (codes "\\/") then kind.Or else kind.OutOfProfile))))

abbrev pub symbol_kind : List ℕ → TerminalKind
symbol_kind [] = kind.OutOfProfile
symbol_kind (a ∷ []) = sign_kind a
symbol_kind (a ∷ b ∷ []) = pair_kind (a ∷ b ∷ [])
symbol_kind (a ∷ b ∷ c ∷ bs) = kind.Iff

-- a variable of a sequent, which is an identifier in a quoted term
abbrev pub variable_kind : Bool → TerminalKind
variable_kind true = kind.Id
variable_kind false = kind.Variable

-- a token of this kind with these bytes, in a quoted term or not
abbrev pub kind_of : Bool → TokenKind → List ℕ → TerminalKind
kind_of quoted token.Word bytes = word_kind bytes (keyword_of bytes)
kind_of quoted token.Bang bytes = variable_kind quoted
kind_of quoted token.Number bytes = kind.Number
kind_of quoted token.Quoted bytes = kind.OutOfProfile
kind_of quoted token.Symbol bytes = symbol_kind bytes

-- a token of a span that begins at this offset of a text
abbrev pub terminal : Bool → ℕ → List ℕ → Token → Terminal
terminal quoted offset span t = record {
  kind = kind_of quoted t.kind (bytes_of span t);
  word = record { start = offset + t.start; end = offset + t.end; pos = t.pos };
}

-- the terminals of a span that begins at an offset and a place, and the lexical fault after them, if there is one
pub record Terminals : Type 0 where
  pub tokens : Tokens
  pub fault : Option Fault

abbrev pub terminals_of : Bool → ℕ → List ℕ → TokenStream → Terminals
terminals_of quoted offset span lexed = record { tokens = map (terminal quoted offset span) lexed.tokens; fault = lexed.fault }

abbrev pub terminals : Bool → ℕ → Pos → List ℕ → Terminals
terminals quoted offset pos span = terminals_of quoted offset span (tokens_of pos span)

-- ---- Whole texts.

abbrev pub first_place : Pos
first_place = record { line = 1; col = 1 }

abbrev pub terminals_of_text : List ℕ → Terminals
terminals_of_text text = terminals false 0 first_place text

-- a text is this unit
pub record Reads (text : List ℕ) (u : tree.Unit) : Type 0 where
  pub small : length text ≤ 2 ^ 20
  pub faultless : (terminals_of_text text).fault ≡ None
  pub derives : DerivesUnit language_limit text (terminals_of_text text).tokens u

-- tokens that are a unit of a text, within a limit
abbrev pub IsUnit : List ℕ → Limit → Tokens → Type 0
IsUnit text limit ts = (u : tree.Unit) × DerivesUnit limit text ts u

-- the first fault of a text: that it is too long, or that of its tokens
pub data IsFirstFault (text : List ℕ) : Fault → Type 0 where
  too_long : 2 ^ 20 < length text → IsFirstFault text (record { pos = first_place; code = code.TextTooLong })
  first : length text ≤ 2 ^ 20 → (f : Fault) → IsFirstFaultIn (IsUnit text) AwaitsName (place_after first_place text) (terminals_of_text text).fault (terminals_of_text text).tokens f → IsFirstFault text f

-- the unit of a text, or its first fault
abbrev pub IsAnswer : List ℕ → Result tree.Unit Fault → Type 0
IsAnswer text (Ok u) = Reads text u
IsAnswer text (Err f) = IsFirstFault text f

-- a text has an answer
abbrev pub HasAnswer : List ℕ → Type 0
HasAnswer text = (a : Result tree.Unit Fault) × IsAnswer text a

-- what is answered of a text, unless memory runs out
abbrev pub Answers : List ℕ → Result tree.Unit ParseFault → Type 0
Answers text (Ok u) = IsAnswer text (Ok u)
Answers text (Err (parse_fault.At f)) = IsAnswer text (Err f)
Answers text (Err parse_fault.Memory) = ⊤

-- this tree is answered, unless memory runs out
abbrev pub AnswersTree : {A : Type 0} → A → Result A ParseFault → Type 0
AnswersTree x (Ok y) = y ≡ x
AnswersTree x (Err (parse_fault.At f)) = ⊥
AnswersTree x (Err parse_fault.Memory) = ⊤

-- this fault is answered, unless memory runs out
abbrev pub AnswersFault : {A : Type 0} → Fault → Result A ParseFault → Type 0
AnswersFault f (Ok y) = ⊥
AnswersFault f (Err (parse_fault.At g)) = g ≡ f
AnswersFault f (Err parse_fault.Memory) = ⊤

-- the script of a proof lies in the text, and its place is that of its first byte
abbrev pub SpanIn : List ℕ → Item → Type 0
SpanIn text (item.Theory t) = ⊤
SpanIn text (item.Proof p) = (p.start ≤ p.end) × (p.end ≤ length text) × (p.pos ≡ place_at text p.start)

abbrev pub SpansIn : List ℕ → tree.Unit → Type 0
SpansIn text u = All (SpanIn text) u.items

-- ---- Expressions in quotes.

abbrev pub terminals_of_span : List ℕ → ℕ → ℕ → Pos → Terminals
terminals_of_span text start end pos = terminals true start pos (span_of text start end)

-- a span is this expression
pub record ReadsSpan (text : List ℕ) (start end : ℕ) (pos : Pos) (x : Expr) : Type 0 where
  pub faultless : (terminals_of_span text start end pos).fault ≡ None
  pub reads : ReadsExpr (terminals_of_span text start end pos).tokens x

-- tokens that are an expression, within a limit
abbrev pub IsExpr : Limit → Tokens → Type 0
IsExpr limit ts = (x : Expr) × (e : Ending) × (m : Nesting) × Derives limit (whole e) outermost ts x m

-- the name of a theory stands nowhere in an expression
abbrev pub NeverAwaitsName : Tokens → Type 0
NeverAwaitsName before = ⊥

-- the first fault of a span
abbrev pub IsFirstFaultOfSpan : List ℕ → ℕ → ℕ → Pos → Fault → Type 0
IsFirstFaultOfSpan text start end pos f =
    IsFirstFaultIn IsExpr NeverAwaitsName (place_after pos (span_of text start end)) (terminals_of_span text start end pos).fault (terminals_of_span text start end pos).tokens f

-- the expression of a span, or its first fault
abbrev pub IsSpanAnswer : List ℕ → ℕ → ℕ → Pos → Result Expr Fault → Type 0
IsSpanAnswer text start end pos (Ok x) = ReadsSpan text start end pos x
IsSpanAnswer text start end pos (Err f) = IsFirstFaultOfSpan text start end pos f

-- a span has an answer
abbrev pub HasSpanAnswer : List ℕ → ℕ → ℕ → Pos → Type 0
HasSpanAnswer text start end pos = (a : Result Expr Fault) × IsSpanAnswer text start end pos a

-- what is answered of a span, unless memory runs out
abbrev pub AnswersSpan : List ℕ → ℕ → ℕ → Pos → Result Expr ParseFault → Type 0
AnswersSpan text start end pos (Ok x) = IsSpanAnswer text start end pos (Ok x)
AnswersSpan text start end pos (Err (parse_fault.At f)) = IsSpanAnswer text start end pos (Err f)
AnswersSpan text start end pos (Err parse_fault.Memory) = ⊤
