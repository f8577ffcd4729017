-- A script that the grammar gives for a text is a tree of the text.
use Rattle.std.proofs.Common.{◌≡◌, ◌∙◌, ℕ, ◌+◌, ◌-◌, ◌<◌, ◌≤◌, ◌==◌, Bool, true, false, if◌then◌else◌, List, [], ◌∷◌, ◌++◌, length, take, drop, Option, Some, None, Result, Ok, Err, IfOk, All, refl, sym, ap, subst, arith}
use Rattle.std.specs.Cmp.Derive.{both_true}
use Rattle.std.proofs.lemmas.Bool.{lt-ltb, le-leb}
use Rattle.std.proofs.lemmas.List.{take-take, drop-drop, drop-take, length-take-le, length-drop}
use Rattle.std.proofs.lemmas.List.Elements.{All-nil, All-cons, All-push, All-head, All-tail}
use Rattle.pvs_base.specs.declared.place.Pos.{Pos}
use Rattle.pvs_base.specs.Place.{place_after}
use Rattle.pvs_base.specs.Spans.{span_of}
use Rattle.pvs_lexer.specs.declared.token.Token.{Token}
use Rattle.pvs_lexer.specs.declared.token.TokenKind.{TokenKind}
use Rattle.pvs_lexer.specs.declared.token.TokenKind.TheVariants as token
use Rattle.pvs_lexer.specs.Spans.{bytes_of}
use Rattle.pvs_lexer.specs.Tokens.{is_word, is_bang, is_number, is_quoted, is_symbol}
use Rattle.pvs_lexer.proofs.SpanLaws.{tokens_are, tokens_spans}
use Rattle.pvs_syntax.specs.declared.expression.Expr.{Expr}
use Rattle.pvs_syntax.specs.declared.unit.Proof.{Proof}
use Rattle.pvs_syntax.specs.declared.word.Word.{Word}
use Rattle.pvs_syntax.specs.Trees.{Origin, quoted_term, IsTreeOfTerm}
use Rattle.pvs_syntax.specs.Words.{spelling}
use Rattle.pvs_parser.specs.declared.failure.ParseFault.{ParseFault}
use Rattle.pvs_parser.specs.Language.{outermost, whole}
use Rattle.pvs_parser.specs.Text.{terminals_of_span}
use Rattle.pvs_parser.proofs.ExprTrees.{is_in}
use Rattle.pvs_parser.proofs.TextTokens.{span_terminals}
use Rattle.pvs_parser.proofs.TreeTokens.{same_places}
use Rattle.pvs_scripts.specs.declared.lexeme.Lexeme.{Lexeme}
use Rattle.pvs_scripts.specs.declared.lexeme.LexemeKind.TheVariants as kind
use Rattle.pvs_scripts.specs.declared.lexeme.Terminal.{Terminal}
use Rattle.pvs_scripts.specs.declared.tree.Argument.{Argument}
use Rattle.pvs_scripts.specs.declared.tree.ScriptTree.{ScriptTree}
use Rattle.pvs_scripts.specs.declared.tree.ScriptTree.TheViews.{roll-ScriptTree}
use Rattle.pvs_scripts.specs.declared.tree.StepExpr.{StepExpr}
use Rattle.pvs_scripts.specs.Tokens.{kind_of, symbol_kind, is_nonempty_type, terminal_kind, lexeme, lexemes_after, script_span, script_tokens, lexemes}
use Rattle.pvs_scripts.specs.Grammar.{after_quote, Quotes, Holds, AreRead, DerivesArgument, DerivesArguments, DerivesStep, DerivesSteps, DerivesScript, DerivesScripts, IsScript}
use Rattle.pvs_scripts.specs.Faults.{AnswersScript}
use Rattle.pvs_scripts.specs.Trees.{script_text, IsWordOf, IsArgumentOf, IsStepOf, IsScriptOf, AreScriptsOf}
use Rattle.pvs_scripts.proofs.Runs.{HasStep}
use Rattle.pvs_scripts.proofs.Completeness.{steps_some}
use Rattle.pvs_scripts.proofs.Spans.{IsTokenIn, all_in, quote_size}

-- ---- Spans of spans.

span_length : (text : List ℕ) (start end : ℕ) → start ≤ end → end ≤ length text → length (span_of text start end) ≡ end - start
span_length text start end order within =
    let rest : length (drop start text) ≡ length text - start = length-drop start text in
    length-take-le (end - start) (drop start text) (omega (arith, order, within, rest))

span_in : (text : List ℕ) (start end a b : ℕ) → a ≤ b → b ≤ end - start → span_of text (start + a) (start + b) ≡ span_of (span_of text start end) a b
span_in text start end a b order within =
    let size : (start + b) - (start + a) ≡ b - a = omega (arith, order) in
    let left : end - start ≡ a + ((end - start) - a) = omega (arith, order, within) in
    let few : b - a ≤ (end - start) - a = omega (arith, order, within) in
    ap (λ n. take n (drop (start + a) text)) size
    ∙ sym (ap (take (b - a)) (
    ap (λ n. drop a (take n (drop start text))) left
    ∙ drop-take a ((end - start) - a) (drop start text)
    ) ∙ take-take (b - a) ((end - start) - a) (drop a (drop start text)) few ∙ ap (take (b - a)) (drop-drop a start text))

span_places : (text : List ℕ) (start end a : ℕ) → a ≤ end - start → span_of text start (start + a) ≡ take a (span_of text start end)
span_places text start end a within =
    let size : (start + a) - start ≡ a = omega arith in
    ap (λ n. take n (drop start text)) size ∙ sym (take-take a (end - start) (drop start text) within)

-- ---- Tokens of a text.

-- a token of a text: where it lies, and what its bytes are
record IsLexemeOf (o : Origin) (l : Lexeme) : Type 0 where
  pub order : l.word.start < l.word.end
  pub end : l.word.end ≤ length o.text
  pub pos : l.word.pos ≡ o.place l.word.start
  pub word : l.kind ≡ kind.Word → is_word (spelling o.text l.word) ≡ true
  pub quotes : l.kind ≡ kind.Quoted → l.word.start + 2 ≤ l.word.end

sign_no_word : (p q r : Bool) → (if p then kind.Open else (if q then kind.Close else (if r then kind.Minus else kind.Other))) ≡ kind.Word → ⊥
sign_no_word true q r e = cc
sign_no_word false true r e = cc
sign_no_word false false true e = cc
sign_no_word false false false e = cc

symbol_no_word : (bytes : List ℕ) → symbol_kind bytes ≡ kind.Word → ⊥
symbol_no_word [] e = cc
symbol_no_word (b ∷ []) e = sign_no_word (b == 40) (b == 41) (b == 45) e
symbol_no_word (b ∷ c ∷ bs) e = cc

word_kind : (k : TokenKind) (bytes : List ℕ) → kind_of k bytes ≡ kind.Word → k ≡ token.Word
word_kind token.Word bytes e = refl
word_kind token.Bang bytes e = cc
word_kind token.Number bytes e = cc
word_kind token.Quoted bytes e = cc
word_kind token.Symbol bytes e = absurd (symbol_no_word bytes e)

word_is : (w b n q s : Bool) → (if w then Some token.Word else (if b then Some token.Bang else (if n then Some token.Number else (if q then Some token.Quoted else (if s then Some token.Symbol else None))))) ≡ Some token.Word → w ≡ true
word_is true b n q s e = refl
word_is false true n q s e = cc
word_is false false true q s e = cc
word_is false false false true s e = cc
word_is false false false false true e = cc
word_is false false false false false e = cc

lexeme_word : (first : Pos) (span : List ℕ) (t : Token) → IsTokenIn first span t → kind_of t.kind (bytes_of span t) ≡ kind.Word → is_word (bytes_of span t) ≡ true
lexeme_word first span t i e =
    let bytes = bytes_of span t in
    word_is (is_word bytes) (is_bang bytes) (is_number bytes) (is_quoted bytes) (is_symbol bytes) (i.is.kind ∙ ap (λ z. Some z) (word_kind t.kind bytes e))

lexeme_of : (text : List ℕ) (proof : Proof) → proof.start ≤ proof.end → proof.end ≤ length text → (b : Bool) (t : Token) → IsTokenIn proof.pos (script_span text proof) t
    → IsLexemeOf (script_text text proof) (lexeme b proof.start (script_span text proof) t)
lexeme_of text proof order within b t i =
    let size = span_length text proof.start proof.end order within in
    let last : t.end ≤ proof.end - proof.start = subst (λ n. t.end ≤ n) size i.end in
    let same : span_of text (proof.start + t.start) (proof.start + t.end) ≡ bytes_of (script_span text proof) t = span_in text proof.start proof.end t.start t.end (omega (arith, i.order)) last in
    record {
      order = omega (arith, i.order);
      end = omega (arith, last, order, within);
      pos = i.is.pos ∙ sym (ap (place_after proof.pos) (span_places text proof.start proof.end t.start (omega (arith, last, i.order))));
      word = λ e. ap is_word same ∙ lexeme_word proof.pos (script_span text proof) t i e;
      quotes = λ e. quote_size proof.pos (script_span text proof) t b proof.start i e;
    }

lexemes_of : (text : List ℕ) (proof : Proof) → proof.start ≤ proof.end → proof.end ≤ length text → (b : Bool) (ts : List Token) → All (IsTokenIn proof.pos (script_span text proof)) ts
    → All (IsLexemeOf (script_text text proof)) (lexemes_after b proof.start (script_span text proof) ts)
lexemes_of text proof order within b [] all = All-nil (IsLexemeOf (script_text text proof))
lexemes_of text proof order within b (t ∷ ts) all =
    let span = script_span text proof in
    let next = is_nonempty_type (terminal_kind span t) in
    All-cons (IsLexemeOf (script_text text proof)) (lexeme b proof.start span t) (lexemes_after next proof.start span ts)
    (lexeme_of text proof order within b t (All-head (IsTokenIn proof.pos span) t ts all))
    (lexemes_of text proof order within next ts (All-tail (IsTokenIn proof.pos span) t ts all))

-- ---- Tokens with what they hold.

record IsTerminalOf (o : Origin) (t : Terminal) : Type 0 where
  pub lexeme : IsLexemeOf o t.lexeme
  pub held : (x : Expr) → t.quote ≡ Some x → Quotes o.text t.lexeme.word x

abbrev AreTerminalsOf : Origin → List Terminal → Type 0
AreTerminalsOf o [] = Unit {0}
AreTerminalsOf o (t ∷ ts) = IsTerminalOf o t × AreTerminalsOf o ts

prefix_are : (o : Origin) (ts us : List Terminal) → AreTerminalsOf o (ts ++ us) → AreTerminalsOf o ts
prefix_are o [] us h = tt
prefix_are o (t ∷ ts) us h = (h.0, prefix_are o ts us h.1)

rest_are : (o : Origin) (ts us : List Terminal) → AreTerminalsOf o (ts ++ us) → AreTerminalsOf o us
rest_are o [] us h = h
rest_are o (t ∷ ts) us h = rest_are o ts us h.1

holds_quotes : (text : List ℕ) (l : Lexeme) (q : Option Expr) → Holds text l q → (x : Expr) → q ≡ Some x → Quotes text l.word x
holds_quotes text _ _ (Holds.quoted l y is quotes) x e = let same : y ≡ x = cc in subst (Quotes text l.word) same quotes
holds_quotes text _ _ (Holds.plain l off) x e = cc

read_are : (o : Origin) (ls : List Lexeme) (ts : List Terminal) → AreRead o.text ls ts → All (IsLexemeOf o) ls → AreTerminalsOf o ts
read_are o _ _ AreRead.none all = tt
read_are o _ _ (AreRead.more l ls q ts h r) all = (record { lexeme = All-head (IsLexemeOf o) l ls all; held = holds_quotes o.text l q h }, read_are o ls ts r (All-tail (IsLexemeOf o) l ls all))

-- ---- Parts of trees.

word_of : (o : Origin) (t : Terminal) → IsTerminalOf o t → t.lexeme.kind ≡ kind.Word → IsWordOf o t.lexeme.word
word_of o t h is =
    let w = t.lexeme.word in
    let l = h.lexeme in
    both_true (both_true (both_true (lt-ltb w.start w.end l.order) (le-leb w.end (length o.text) l.end)) (same_places w.pos (o.place w.start) l.pos)) (l.word is)

quote_tree : (text : List ℕ) (w : Word) (x : Expr) → w.start + 2 ≤ w.end → w.end ≤ length text → Quotes text w x → IsTreeOfTerm text (w.start + 1) (after_quote w.pos) x
quote_tree text w x order end quotes =
    let d = quotes.reads in
    is_in (quoted_term text (w.start + 1) (after_quote w.pos)) (whole d.0) outermost (terminals_of_span text (w.start + 1) (w.end - 1) (after_quote w.pos)).tokens x d.1 d.2
    (span_terminals text (w.start + 1) (w.end - 1) (after_quote w.pos) (omega (arith, order)) (omega (arith, end)))

argument_of : (o : Origin) (ts : List Terminal) (x : Argument) → DerivesArgument ts x → AreTerminalsOf o ts → IsArgumentOf o x
argument_of o _ _ (DerivesArgument.consequent t n is) h = tt
argument_of o _ _ (DerivesArgument.antecedent t u n is num) h = tt
argument_of o _ _ (DerivesArgument.quoted t x is held) h =
    let l = h.0.lexeme in
    let size = l.quotes is in
    record { offset = t.lexeme.word.start; within = omega (arith, l.order, l.end); place = l.pos; tree = quote_tree o.text t.lexeme.word x size l.end (h.0.held x held) }
argument_of o _ _ (DerivesArgument.word t is) h = word_of o t h.0 is

arguments_of : (o : Origin) (ts : List Terminal) (xs : List Argument) → DerivesArguments ts xs → AreTerminalsOf o ts → All (IsArgumentOf o) xs
arguments_of o _ _ DerivesArguments.none h = All-nil (IsArgumentOf o)
arguments_of o _ _ (DerivesArguments.more ts us xs x d e) h =
    All-push (IsArgumentOf o) xs x (arguments_of o ts xs d (prefix_are o ts us h)) (argument_of o us x e (rest_are o ts us h))

step_of : (o : Origin) (ts : List Terminal) (s : StepExpr) → DerivesStep ts s → AreTerminalsOf o ts → IsStepOf o s
step_of o _ _ (DerivesStep.step t u v ts xs opened word d close) h = record { word = word_of o u h.1.0 word; arguments = arguments_of o ts xs d (prefix_are o ts (v ∷ []) h.1.1) }

steps_of : (o : Origin) (ts : List Terminal) (ss : List StepExpr) → DerivesSteps ts ss → AreTerminalsOf o ts → All (IsStepOf o) ss
steps_of o _ _ (DerivesSteps.one ts s d) h = All-push (IsStepOf o) [] s (All-nil (IsStepOf o)) (step_of o ts s d h)
steps_of o _ _ (DerivesSteps.more ts us ss s d e) h = All-push (IsStepOf o) ss s (steps_of o ts ss d (prefix_are o ts us h)) (step_of o us s e (rest_are o ts us h))

made : (o : Origin) (ss : List StepExpr) (xs : List ScriptTree) → HasStep ss → All (IsStepOf o) ss → AreScriptsOf o xs → IsScriptOf o (roll-ScriptTree (record { steps = ss; trees = xs }))
made o [] xs some all are = absurd some
made o (s ∷ ss) xs some all are = IsScriptOf.script s ss xs all are

scripts_push : (o : Origin) (xs : List ScriptTree) (x : ScriptTree) → AreScriptsOf o xs → IsScriptOf o x → AreScriptsOf o (xs ++ x ∷ [])
scripts_push o _ x AreScriptsOf.none i = AreScriptsOf.more x [] i AreScriptsOf.none
scripts_push o _ x (AreScriptsOf.more y ys j are) i = AreScriptsOf.more y (ys ++ x ∷ []) j (scripts_push o ys x are i)

mutual
  script_of : (o : Origin) (ts : List Terminal) (x : ScriptTree) → DerivesScript ts x → AreTerminalsOf o ts → IsScriptOf o x
  script_of o _ _ (DerivesScript.script ts us ss xs t u is d e close) h =
      let rest = rest_are o ts (us ++ u ∷ []) h.1 in
      made o ss xs (steps_some ts ss d) (steps_of o ts ss d (prefix_are o ts (us ++ u ∷ []) h.1)) (scripts_of o us xs e (prefix_are o us (u ∷ []) rest))

  scripts_of : (o : Origin) (ts : List Terminal) (xs : List ScriptTree) → DerivesScripts ts xs → AreTerminalsOf o ts → AreScriptsOf o xs
  scripts_of o _ _ DerivesScripts.none h = AreScriptsOf.none
  scripts_of o _ _ (DerivesScripts.more ts us xs x d e) h = scripts_push o xs x (scripts_of o ts xs d (prefix_are o ts us h)) (script_of o us x e (rest_are o ts us h))

-- ---- The script of a proof.

pub script_is_tree : (text : List ℕ) (proof : Proof) → proof.start ≤ proof.end → proof.end ≤ length text → (x : ScriptTree) → IsScript text proof x → IsScriptOf (script_text text proof) x
script_is_tree text proof order within x s =
    let span = script_span text proof in
    let tokens = (script_tokens text proof).tokens in
    let all = all_in proof.pos span 0 tokens (tokens_spans proof.pos span) (tokens_are proof.pos span) in
    let are = lexemes_of text proof order within false tokens all in
    script_of (script_text text proof) s.terminals x s.derives (read_are (script_text text proof) (lexemes text proof) s.terminals s.read are)

pub answer_is_tree : (text : List ℕ) (proof : Proof) → proof.start ≤ proof.end → proof.end ≤ length text → (r : Result ScriptTree ParseFault) → AnswersScript text proof r
    → IfOk r (λ x. IsScriptOf (script_text text proof) x)
answer_is_tree text proof order within (Ok x) a = script_is_tree text proof order within x a
answer_is_tree text proof order within (Err e) a = tt
