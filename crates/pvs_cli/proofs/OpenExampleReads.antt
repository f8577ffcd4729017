-- The text of the example reads as its unit.
use Rattle.std.proofs.Common.{◌≡◌, ap, subst, sym, refl, ℕ, [], ◌∷◌, None, Ok, arith}
use Rattle.pvs_lexer.specs.Tokens.{tokens_of, longest}
use Rattle.pvs_lexer.specs.Keywords.{keyword_of}
use Rattle.pvs_parser.specs.declared.terminal.Connective.TheVariants as connective
use Rattle.pvs_parser.specs.declared.terminal.Terminal.{Terminal}
use Rattle.pvs_parser.specs.declared.terminal.TerminalKind.{TerminalKind}
use Rattle.pvs_parser.specs.declared.terminal.TerminalKind.TheVariants as kind
use Rattle.pvs_parser.specs.Language.{Derives, Plain, language_limit, outermost, whole as expression}
use Rattle.pvs_parser.specs.Units.{DerivesIds, DerivesFormalPart, DerivesAssuming, DerivesDecl, DerivesSemicolon, DerivesMany, DerivesTheory, DerivesItems}
use Rattle.pvs_parser.specs.Text.{Terminals, terminals_of_text, IsAnswer}
use Rattle.pvs_syntax.specs.declared.expression.TypeExpr.TheVariants as type_expr
use Rattle.pvs_cli.proofs.OpenExample.{bytes, l_decl, p_decl, plain, says_p, small, whole, word}

-- a token of the text, from one offset up to another
abbrev token : TerminalKind → ℕ → ℕ → ℕ → Terminal
token k from to col = record { kind = k; word = word from to col }

abbrev p0 : Terminal
p0 = token kind.Id 0 1 1

abbrev colon0 : Terminal
colon0 = token kind.Colon 1 2 2

abbrev theory0 : Terminal
theory0 = token kind.Theory 3 9 4

abbrev begin0 : Terminal
begin0 = token kind.Begin 10 15 11

abbrev p1 : Terminal
p1 = token kind.Id 16 17 17

abbrev colon1 : Terminal
colon1 = token kind.Colon 17 18 18

abbrev bool1 : Terminal
bool1 = token kind.Id 19 23 20

abbrev l2 : Terminal
l2 = token kind.Id 24 25 25

abbrev colon2 : Terminal
colon2 = token kind.Colon 25 26 26

abbrev lemma2 : Terminal
lemma2 = token kind.Lemma 27 32 28

abbrev p3 : Terminal
p3 = token kind.Id 33 34 34

abbrev end0 : Terminal
end0 = token kind.End 35 38 36

abbrev p4 : Terminal
p4 = token kind.Id 39 40 40

abbrev tokens : Terminals
tokens = record { tokens = p0 ∷ colon0 ∷ theory0 ∷ begin0 ∷ p1 ∷ colon1 ∷ bool1 ∷ l2 ∷ colon2 ∷ lemma2 ∷ p3 ∷ end0 ∷ p4 ∷ []; fault = None }

-- the tokens of the text, by computation
lexed : terminals_of_text bytes ≡ tokens
unfolding tokens_of longest keyword_of
lexed = refl

-- the lemma says p
formula : Derives language_limit (expression Plain) outermost (p3 ∷ []) says_p outermost
formula =
    Derives.alone connective.Iff Plain _ _ _ _ (Derives.alone connective.Implies Plain _ _ _ _ (Derives.alone connective.Or Plain _ _ _ _ (Derives.alone connective.And Plain _ _ _ _
    (Derives.compared _ _ _ _ (Derives.term _ _ _ _ _ (Derives.name_term _ _ _ _ (Derives.plain_name outermost p3 refl)))))))

declared : DerivesMany (DerivesDecl language_limit) (p1 ∷ colon1 ∷ bool1 ∷ l2 ∷ colon2 ∷ lemma2 ∷ p3 ∷ []) (p_decl ∷ l_decl ∷ [])
declared =
    DerivesMany.more (p1 ∷ colon1 ∷ bool1 ∷ []) [] (l2 ∷ colon2 ∷ lemma2 ∷ p3 ∷ []) (p_decl ∷ []) (l_decl ∷ [])
    (DerivesDecl.constants (p1 ∷ []) (bool1 ∷ []) (p1.word ∷ []) (type_expr.NameType (plain (word 19 23 20))) outermost colon1 (DerivesIds.one p1 refl) refl (Derives.name_type _ _ _ _ (Derives.plain_name outermost bool1 refl)))
    DerivesSemicolon.none
    (DerivesMany.more (l2 ∷ colon2 ∷ lemma2 ∷ p3 ∷ []) [] [] (l_decl ∷ []) [] (DerivesDecl.formula Plain (p3 ∷ []) says_p _ outermost l2 colon2 lemma2 refl refl refl formula) DerivesSemicolon.none DerivesMany.none)

derived : DerivesItems language_limit bytes tokens.tokens whole.items
derived =
    DerivesItems.theory tokens.tokens [] small []
    (DerivesTheory.theory [] [] (p1 ∷ colon1 ∷ bool1 ∷ l2 ∷ colon2 ∷ lemma2 ∷ p3 ∷ []) [] [] (p_decl ∷ l_decl ∷ []) p0 colon0 theory0 begin0 end0 p4 refl DerivesFormalPart.none refl refl refl DerivesAssuming.none declared refl refl refl)
    DerivesItems.none

pub reads : IsAnswer bytes (Ok whole)
reads = record {
  small = omega arith;
  faultless = ap (λ (z : Terminals). z.fault) lexed;
  derives = subst (λ (z : Terminals). DerivesItems language_limit bytes z.tokens whole.items) (sym lexed) derived;
}
