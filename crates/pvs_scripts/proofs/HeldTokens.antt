-- What the tokens of a text hold.
use Rattle.std.proofs.Common.{◌≡◌, ◌∙◌, ◌+◌, ◌-◌, ℕ, true, false, List, [], ◌∷◌, ◌++◌, Option, Some, Result, Ok, Err, refl, sym, ap, ap₂, subst}
use Rattle.pvs_base.specs.declared.code.Fault.{Fault}
use Rattle.pvs_syntax.specs.declared.expression.Expr.{Expr}
use Rattle.pvs_syntax.specs.declared.word.Word.{Word}
use Rattle.pvs_parser.specs.declared.failure.ParseFault.{ParseFault}
use Rattle.pvs_parser.specs.declared.failure.ParseFault.TheVariants as parse_fault
use Rattle.pvs_parser.specs.Text.{IsFirstFaultOfSpan, IsSpanAnswer, AnswersSpan}
use Rattle.pvs_parser.specs.code.Reading.{Returns}
use Rattle.pvs_parser.proofs.Texts.{span_sound, span_complete, span_answer, one_span_answer}
use Rattle.pvs_scripts.specs.declared.lexeme.Lexeme.{Lexeme}
use Rattle.pvs_scripts.specs.declared.lexeme.LexemeKind.{LexemeKind}
use Rattle.pvs_scripts.specs.declared.lexeme.LexemeKind.TheVariants as kind
use Rattle.pvs_scripts.specs.declared.lexeme.Terminal.{Terminal}
use Rattle.pvs_scripts.specs.Grammar.{terminal, is_quoted, after_quote, Quotes, Holds, AreRead}
use Rattle.pvs_scripts.specs.code.Reading.{quote_of}

-- the first fault between the quotes of a quoted text
abbrev pub IsQuoteFault : List ℕ → Word → Fault → Type 0
IsQuoteFault text w f = IsFirstFaultOfSpan text (w.start + 1) (w.end - 1) (after_quote w.pos) f

pub quote_read : (text : List ℕ) (w : Word) (x : Expr) → quote_of text w ≡ Ok x → Quotes text w x
unfolding quote_of
quote_read text w x e = span_sound text (w.start + 1) (w.end - 1) (after_quote w.pos) x e

pub read_quote : (text : List ℕ) (w : Word) (x : Expr) → Quotes text w x → quote_of text w ≡ Ok x
unfolding quote_of
read_quote text w x q = span_complete text (w.start + 1) (w.end - 1) (after_quote w.pos) x q

pub quote_fault : (text : List ℕ) (w : Word) (f : Fault) → quote_of text w ≡ Err f → IsQuoteFault text w f
unfolding quote_of
quote_fault text w f e = subst (λ z. IsSpanAnswer text (w.start + 1) (w.end - 1) (after_quote w.pos) z) e (span_answer text (w.start + 1) (w.end - 1) (after_quote w.pos))

pub fault_quote : (text : List ℕ) (w : Word) (f : Fault) → IsQuoteFault text w f → quote_of text w ≡ Err f
unfolding quote_of
fault_quote text w f h = one_span_answer text (w.start + 1) (w.end - 1) (after_quote w.pos) (quote_of text w) (Err f) (span_answer text (w.start + 1) (w.end - 1) (after_quote w.pos)) h

-- what `parse_expr` answers is what the quoted text holds, or its first fault
pub answers_quote : (text : List ℕ) (w : Word) (r : Result Expr ParseFault) → AnswersSpan text (w.start + 1) (w.end - 1) (after_quote w.pos) r → Returns r (quote_of text w)
answers_quote text w (Ok x) a = read_quote text w x a
answers_quote text w (Err (parse_fault.At f)) a = fault_quote text w f a
answers_quote text w (Err parse_fault.Memory) a = tt

ok_same : (o : Result Expr Fault) (x y : Expr) → o ≡ Ok x → o ≡ Ok y → x ≡ y
ok_same o x y e f = cc

pub not_quoted : (c : LexemeKind) → c ≡ kind.Quoted → is_quoted c ≡ false → ⊥
not_quoted c e f = let clash : true ≡ false = sym (ap is_quoted e) ∙ f in cc

-- a token holds one thing
pub one_held : (text : List ℕ) (l : Lexeme) (p q : Option Expr) → Holds text l p → Holds text l q → p ≡ q
one_held text _ _ _ (Holds.quoted l x is a) (Holds.quoted _ y iz b) = ap (λ z. Some z) (ok_same (quote_of text l.word) x y (read_quote text l.word x a) (read_quote text l.word y b))
one_held text _ _ _ (Holds.quoted l x is a) (Holds.plain _ off) = absurd (not_quoted l.kind is off)
one_held text _ _ _ (Holds.plain l off) (Holds.quoted _ y is b) = absurd (not_quoted l.kind is off)
one_held text _ _ _ (Holds.plain l off) (Holds.plain _ too) = refl

pub one_read : (text : List ℕ) (ls : List Lexeme) (ts us : List Terminal) → AreRead text ls ts → AreRead text ls us → ts ≡ us
one_read text _ _ _ AreRead.none AreRead.none = refl
one_read text _ _ _ (AreRead.more l ls p ts h r) (AreRead.more _ _ q us k s) = ap₂ (λ z zs. terminal l z ∷ zs) (one_held text l p q h k) (one_read text ls ts us r s)

pub read_append : (text : List ℕ) (ls ks : List Lexeme) (ts us : List Terminal) → AreRead text ls ts → AreRead text ks us → AreRead text (ls ++ ks) (ts ++ us)
read_append text _ ks _ us AreRead.none r = r
read_append text _ ks _ us (AreRead.more l ls q ts h r) s = AreRead.more l (ls ++ ks) q (ts ++ us) h (read_append text ls ks ts us r s)

pub read_push : (text : List ℕ) (ls : List Lexeme) (ts : List Terminal) (l : Lexeme) (q : Option Expr) → AreRead text ls ts → Holds text l q → AreRead text (ls ++ l ∷ []) (ts ++ terminal l q ∷ [])
read_push text ls ts l q r h = read_append text ls (l ∷ []) ts (terminal l q ∷ []) r (AreRead.more l [] q [] h AreRead.none)
