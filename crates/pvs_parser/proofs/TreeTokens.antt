-- The terminals of a text, as trees ask for them: where they lie, and what their bytes are.
use Rattle.std.proofs.Common.{◌≡◌, ◌∙◌, ◌<◌, ◌≤◌, ◌==◌, ℕ, Bool, true, false, if◌then◌else◌, List, [], ◌∷◌, ◌++◌, length, codes, Option, Some, None, refl, sym, ap, subst}
use Rattle.std.specs.Prelude.{is_none, bytes_eq}
use Rattle.std.specs.Cmp.Derive.{both_true}
use Rattle.std.proofs.lemmas.Bool.{lt-ltb, le-leb, eq-eqb, or_left, or_right}
use Rattle.pvs_base.specs.declared.place.Pos.{Pos}
use Rattle.pvs_lexer.specs.declared.token.TokenKind.{TokenKind}
use Rattle.pvs_lexer.specs.declared.token.TokenKind.TheVariants as token
use Rattle.pvs_lexer.specs.declared.words.Keyword.{Keyword}
use Rattle.pvs_lexer.specs.declared.words.Keyword.TheVariants as k
use Rattle.pvs_lexer.specs.Keywords.{keyword_of}
use Rattle.pvs_lexer.specs.Tokens.{is_word, is_bang, is_number, is_quoted, is_symbol}
use Rattle.pvs_lexer.specs.Tokens as lexer
use Rattle.pvs_syntax.specs.Trees.{Origin, same_place, is_identifier, is_word_in, is_identifier_in, is_number_in}
use Rattle.pvs_syntax.specs.Words.{spelling}
use Rattle.pvs_parser.specs.declared.terminal.Terminal.{Terminal}
use Rattle.pvs_parser.specs.declared.terminal.TerminalKind.{TerminalKind}
use Rattle.pvs_parser.specs.declared.terminal.TerminalKind.TheVariants as kind
use Rattle.pvs_parser.specs.Language.{Tokens}
use Rattle.pvs_parser.specs.Terminals.{Is, IsId, is_id}
use Rattle.pvs_parser.specs.Text.{kind_of, keyword_kind, word_kind, sign_kind, pair_kind, symbol_kind}

-- a terminal of a text: where it lies, and that its bytes are one token of its kind
pub record IsTerminalOf (o : Origin) (t : Terminal) : Type 0 where
  pub order : t.word.start < t.word.end
  pub end : t.word.end ≤ length o.text
  pub pos : t.word.pos ≡ o.place t.word.start
  pub token : TokenKind
  pub is : lexer.kind_of (spelling o.text t.word) ≡ Some token
  pub kind : t.kind ≡ kind_of o.quoted token (spelling o.text t.word)

-- each of these terminals is one of the text
abbrev pub AreTerminalsOf : Origin → Tokens → Type 0
AreTerminalsOf o [] = Unit {0}
AreTerminalsOf o (t ∷ ts) = IsTerminalOf o t × AreTerminalsOf o ts

pub prefix_are : (o : Origin) (ts us : Tokens) → AreTerminalsOf o (ts ++ us) → AreTerminalsOf o ts
prefix_are o [] us h = tt
prefix_are o (t ∷ ts) us h = (h.0, prefix_are o ts us h.1)

pub rest_are : (o : Origin) (ts us : Tokens) → AreTerminalsOf o (ts ++ us) → AreTerminalsOf o us
rest_are o [] us h = h
rest_are o (t ∷ ts) us h = rest_are o ts us h.1

-- ---- Bytes of one token.

abbrev found : Bool → Bool → Bool → Bool → Bool → Option TokenKind
found a b c d e =
    if a then Some token.Word else (if b then Some token.Bang else (if c then Some token.Number else (if d then Some token.Quoted else (if e then Some token.Symbol else None))))

found_word : (a b c d e : Bool) → found a b c d e ≡ Some token.Word → a ≡ true
found_word true b c d e is = refl
found_word false true c d e is = cc
found_word false false true d e is = cc
found_word false false false true e is = cc
found_word false false false false true is = cc
found_word false false false false false is = cc

found_bang : (a b c d e : Bool) → found a b c d e ≡ Some token.Bang → b ≡ true
found_bang true b c d e is = cc
found_bang false true c d e is = refl
found_bang false false true d e is = cc
found_bang false false false true e is = cc
found_bang false false false false true is = cc
found_bang false false false false false is = cc

found_number : (a b c d e : Bool) → found a b c d e ≡ Some token.Number → c ≡ true
found_number true b c d e is = cc
found_number false true c d e is = cc
found_number false false true d e is = refl
found_number false false false true e is = cc
found_number false false false false true is = cc
found_number false false false false false is = cc

word_bytes : (bytes : List ℕ) → lexer.kind_of bytes ≡ Some token.Word → is_word bytes ≡ true
word_bytes bytes is = found_word (is_word bytes) (is_bang bytes) (is_number bytes) (is_quoted bytes) (is_symbol bytes) is

bang_bytes : (bytes : List ℕ) → lexer.kind_of bytes ≡ Some token.Bang → is_bang bytes ≡ true
bang_bytes bytes is = found_bang (is_word bytes) (is_bang bytes) (is_number bytes) (is_quoted bytes) (is_symbol bytes) is

number_bytes : (bytes : List ℕ) → lexer.kind_of bytes ≡ Some token.Number → is_number bytes ≡ true
number_bytes bytes is = found_number (is_word bytes) (is_bang bytes) (is_number bytes) (is_quoted bytes) (is_symbol bytes) is

-- ---- Which tokens are identifiers and numbers.

-- the kinds that no keyword and no symbol has
abbrev is_spelled : TerminalKind → Bool
is_spelled kind.Id = true
is_spelled kind.Proof = true
is_spelled kind.Number = true
is_spelled _ = false

id_spelled : (j : TerminalKind) → is_id j ≡ true → is_spelled j ≡ true
id_spelled kind.Id e = refl
id_spelled kind.Proof e = refl
id_spelled _ e = cc

keyword_spelled : (w : Keyword) → is_spelled (keyword_kind w) ≡ false
keyword_spelled k.And = refl
keyword_spelled _ = refl

choice_spelled : (b : Bool) (x y : TerminalKind) → is_spelled x ≡ false → is_spelled y ≡ false → is_spelled (if b then x else y) ≡ false
choice_spelled true x y e f = e
choice_spelled false x y e f = f

sign_spelled : (b : ℕ) → is_spelled (sign_kind b) ≡ false
sign_spelled b =
    choice_spelled (b == 40) _ _ refl (choice_spelled (b == 41) _ _ refl (choice_spelled (b == 91) _ _ refl (choice_spelled (b == 93) _ _ refl
    (choice_spelled (b == 123) _ _ refl (choice_spelled (b == 125) _ _ refl (choice_spelled (b == 44) _ _ refl (choice_spelled (b == 59) _ _ refl
    (choice_spelled (b == 58) _ _ refl (choice_spelled (b == 46) _ _ refl (choice_spelled (b == 124) _ _ refl (choice_spelled (b == 61) _ _ refl
    (choice_spelled (b == 38) _ _ refl (choice_spelled (b == 43) _ _ refl (choice_spelled (b == 96) _ _ refl refl))))))))))))))

pair_spelled : (bytes : List ℕ) → is_spelled (pair_kind bytes) ≡ false
pair_spelled bytes =
    choice_spelled (bytes_eq bytes (codes "->")) _ _ refl (choice_spelled (bytes_eq bytes (codes "=>")) _ _ refl (choice_spelled (bytes_eq bytes (codes "/=")) _ _ refl
    (choice_spelled (bytes_eq bytes (codes "/\\")) _ _ refl (choice_spelled (bytes_eq bytes (codes "\\/")) _ _ refl refl))))

symbol_spelled : (bytes : List ℕ) → is_spelled (symbol_kind bytes) ≡ false
symbol_spelled [] = refl
symbol_spelled (a ∷ []) = sign_spelled a
symbol_spelled (a ∷ b ∷ []) = pair_spelled (a ∷ b ∷ [])
symbol_spelled (a ∷ b ∷ c ∷ bs) = refl

not_both : (b : Bool) → b ≡ false → b ≡ true → ⊥
not_both b e f = cc

word_id : (bytes : List ℕ) (o : Option Keyword) → is_id (word_kind bytes o) ≡ true → is_none o ≡ true
word_id bytes None id = refl
word_id bytes (Some w) id = absurd (not_both _ (keyword_spelled w) (id_spelled (keyword_kind w) id))

id_bytes : (quoted : Bool) (j : TokenKind) (bytes : List ℕ) → lexer.kind_of bytes ≡ Some j → is_id (kind_of quoted j bytes) ≡ true
    → is_identifier quoted bytes ≡ true
id_bytes quoted token.Word bytes is id = or_left _ _ (both_true (word_bytes bytes is) (word_id bytes (keyword_of bytes) id))
id_bytes true token.Bang bytes is id = or_right _ _ (both_true refl (bang_bytes bytes is))
id_bytes false token.Bang bytes is id = cc
id_bytes quoted token.Number bytes is id = cc
id_bytes quoted token.Quoted bytes is id = cc
id_bytes quoted token.Symbol bytes is id = absurd (not_both _ (symbol_spelled bytes) (id_spelled (symbol_kind bytes) id))

abbrev is_number_kind : TerminalKind → Bool
is_number_kind kind.Number = true
is_number_kind _ = false

choice_number : (b : Bool) (x y : TerminalKind) → is_number_kind x ≡ false → is_number_kind y ≡ false
    → is_number_kind (if b then x else y) ≡ false
choice_number true x y e f = e
choice_number false x y e f = f

number_spelled : (j : TerminalKind) → is_number_kind j ≡ true → is_spelled j ≡ true
number_spelled kind.Number e = refl
number_spelled _ e = cc

word_number : (bytes : List ℕ) (o : Option Keyword) → is_number_kind (word_kind bytes o) ≡ true → ⊥
word_number bytes None e = not_both _ (choice_number (bytes_eq bytes (codes "proof")) kind.Proof kind.Id refl refl) e
word_number bytes (Some w) e = not_both _ (keyword_spelled w) (number_spelled (keyword_kind w) e)

number_is : (quoted : Bool) (j : TokenKind) (bytes : List ℕ) → lexer.kind_of bytes ≡ Some j
    → is_number_kind (kind_of quoted j bytes) ≡ true → is_number bytes ≡ true
number_is quoted token.Word bytes is e = absurd (word_number bytes (keyword_of bytes) e)
number_is true token.Bang bytes is e = cc
number_is false token.Bang bytes is e = cc
number_is quoted token.Number bytes is e = number_bytes bytes is
number_is quoted token.Quoted bytes is e = cc
number_is quoted token.Symbol bytes is e = absurd (not_both _ (symbol_spelled bytes) (number_spelled (symbol_kind bytes) e))

-- ---- The words of terminals.

pub same_places : (p q : Pos) → p ≡ q → same_place p q ≡ true
same_places p q e = both_true (eq-eqb p.line q.line (ap (λ (z : Pos). z.line) e)) (eq-eqb p.col q.col (ap (λ (z : Pos). z.col) e))

word_in : (o : Origin) (t : Terminal) → IsTerminalOf o t → is_word_in o t.word ≡ true
word_in o t h =
    both_true (both_true (lt-ltb t.word.start t.word.end h.order) (le-leb t.word.end (length o.text) h.end)) (same_places t.word.pos (o.place t.word.start) h.pos)

pub identifier_in : (o : Origin) (t : Terminal) → IsTerminalOf o t → IsId t → is_identifier_in o t.word ≡ true
identifier_in o t h id =
    both_true (word_in o t h) (id_bytes o.quoted h.token (spelling o.text t.word) h.is (subst (λ z. is_id z ≡ true) h.kind id))

pub number_in : (o : Origin) (t : Terminal) → IsTerminalOf o t → Is kind.Number t → is_number_in o t.word ≡ true
number_in o t h is =
    both_true (word_in o t h) (number_is o.quoted h.token (spelling o.text t.word) h.is (ap is_number_kind (sym h.kind ∙ is)))
