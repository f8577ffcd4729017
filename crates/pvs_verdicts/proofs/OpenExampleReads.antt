-- The text of the example reads as its unit.
use Rattle.std.proofs.Common.{◌≡◌, ap, subst, sym, refl, ℕ, Bool, true, false, List, [], ◌∷◌, ◌++◌, None, Ok, arith}
use Rattle.pvs_lexer.specs.Tokens.{tokens_of, longest}
use Rattle.pvs_lexer.specs.Keywords.{keyword_of}
use Rattle.pvs_parser.specs.declared.terminal.Connective.TheVariants as connective
use Rattle.pvs_parser.specs.declared.terminal.Terminal.{Terminal}
use Rattle.pvs_parser.specs.declared.terminal.TerminalKind.{TerminalKind}
use Rattle.pvs_parser.specs.declared.terminal.TerminalKind.TheVariants as kind
use Rattle.pvs_parser.specs.declared.nesting.Nesting.{Nesting}
use Rattle.pvs_parser.specs.Language.{Derives, Expression, Component, Plain, Term, form, in_frame, language_limit, outermost, type_, whole as expression}
use Rattle.pvs_parser.specs.Units.{DerivesIds, DerivesFormalPart, DerivesAssuming, DerivesDecl, DerivesSemicolon, DerivesMany, DerivesTheory, DerivesItems, DerivesTypeWord, DerivesVariables}
use Rattle.pvs_parser.specs.Terminals.{IsId}
use Rattle.pvs_parser.specs.Text.{Terminals, terminals_of_text, IsAnswer}
use Rattle.pvs_syntax.specs.declared.expression.Expr.{Expr}
use Rattle.pvs_proof_soundness.proofs.OpenExample.{text, word, plain, named_type, named_term, component, function_type, application, type_decl, constant_p, variable_x, lemma_l}
use Rattle.pvs_verdicts.proofs.OpenExample.{small, whole}

-- a token of the text, from one offset up to another
abbrev token : TerminalKind → ℕ → ℕ → Terminal
token k from to = record { kind = k; word = word from to }

abbrev t0 : Terminal
t0 = token kind.Id 0 1

abbrev colon0 : Terminal
colon0 = token kind.Colon 1 2

abbrev theory0 : Terminal
theory0 = token kind.Theory 3 9

abbrev begin0 : Terminal
begin0 = token kind.Begin 10 15

abbrev t1 : Terminal
t1 = token kind.Id 16 17

abbrev colon1 : Terminal
colon1 = token kind.Colon 17 18

abbrev type1 : Terminal
type1 = token kind.Type 19 23

abbrev p2 : Terminal
p2 = token kind.Id 24 25

abbrev colon2 : Terminal
colon2 = token kind.Colon 25 26

abbrev open2 : Terminal
open2 = token kind.OpenBracket 27 28

abbrev t2 : Terminal
t2 = token kind.Id 28 29

abbrev arrow2 : Terminal
arrow2 = token kind.Arrow 30 32

abbrev bool2 : Terminal
bool2 = token kind.Id 33 37

abbrev close2 : Terminal
close2 = token kind.CloseBracket 37 38

abbrev x3 : Terminal
x3 = token kind.Id 39 40

abbrev colon3 : Terminal
colon3 = token kind.Colon 40 41

abbrev var3 : Terminal
var3 = token kind.Var 42 45

abbrev t3 : Terminal
t3 = token kind.Id 46 47

abbrev l4 : Terminal
l4 = token kind.Id 48 49

abbrev colon4 : Terminal
colon4 = token kind.Colon 49 50

abbrev lemma4 : Terminal
lemma4 = token kind.Lemma 51 56

abbrev p4 : Terminal
p4 = token kind.Id 57 58

abbrev open4 : Terminal
open4 = token kind.Open 58 59

abbrev x4 : Terminal
x4 = token kind.Id 59 60

abbrev close4 : Terminal
close4 = token kind.Close 60 61

abbrev end5 : Terminal
end5 = token kind.End 62 65

abbrev t5 : Terminal
t5 = token kind.Id 66 67

abbrev type_tokens : List Terminal
type_tokens = t1 ∷ colon1 ∷ type1 ∷ []

abbrev function_tokens : List Terminal
function_tokens = open2 ∷ t2 ∷ arrow2 ∷ bool2 ∷ close2 ∷ []

abbrev constant_tokens : List Terminal
constant_tokens = p2 ∷ colon2 ∷ function_tokens

abbrev variable_tokens : List Terminal
variable_tokens = x3 ∷ colon3 ∷ var3 ∷ t3 ∷ []

abbrev application_tokens : List Terminal
application_tokens = p4 ∷ open4 ∷ x4 ∷ close4 ∷ []

abbrev formula_tokens : List Terminal
formula_tokens = l4 ∷ colon4 ∷ lemma4 ∷ application_tokens

abbrev decl_tokens : List Terminal
decl_tokens = type_tokens ++ (constant_tokens ++ (variable_tokens ++ formula_tokens))

abbrev tokens : Terminals
tokens = record { tokens = t0 ∷ colon0 ∷ theory0 ∷ begin0 ∷ (decl_tokens ++ end5 ∷ t5 ∷ []); fault = None }

-- the tokens of the text, by computation
lexed : terminals_of_text text ≡ tokens
unfolding tokens_of longest keyword_of
lexed = refl

-- ---- Names.

type_name : (l : Nesting) (t : Terminal) → IsId t → Derives language_limit type_ l (t ∷ []) (named_type t.word) l
type_name l t id = Derives.name_type l l (t ∷ []) (plain t.word) (Derives.plain_name l t id)

term_name : (l : Nesting) (t : Terminal) → IsId t → Derives language_limit (form (Term false)) l (t ∷ []) (named_term t.word) l
term_name l t id = Derives.name_term l l (t ∷ []) (plain t.word) (Derives.plain_name l t id)

-- a term that is a whole expression
alone : (b : Bool) (l m : Nesting) (ts : List Terminal) (x : Expr) → Derives language_limit (form (Term b)) l ts x m → Derives language_limit (expression Plain) l ts x m
alone b l m ts x d =
    Derives.alone connective.Iff Plain l m ts x (Derives.alone connective.Implies Plain l m ts x (Derives.alone connective.Or Plain l m ts x (Derives.alone connective.And Plain l m ts x
    (Derives.compared l m ts x (Derives.term b l m ts x d)))))

-- ---- Declarations.

types : DerivesDecl language_limit type_tokens (type_decl ∷ [])
types = DerivesDecl.types (t1 ∷ []) (type1 ∷ []) (t1.word ∷ []) _ colon1 (DerivesIds.one t1 refl) refl (DerivesTypeWord.type type1 refl)

function_derives : Derives language_limit type_ outermost function_tokens function_type outermost
function_derives =
    Derives.fun_type outermost (in_frame outermost) (in_frame outermost) (t2 ∷ []) (bool2 ∷ []) (component ∷ []) (named_type bool2.word) open2 arrow2 close2 refl (omega arith)
    (Derives.one Component (in_frame outermost) (in_frame outermost) (t2 ∷ []) component (Derives.component (in_frame outermost) (in_frame outermost) [] (named_type t2.word) t2 (type_name (in_frame outermost) t2 refl)))
    refl (type_name (in_frame outermost) bool2 refl) refl

constants : DerivesDecl language_limit constant_tokens (constant_p ∷ [])
constants = DerivesDecl.constants (p2 ∷ []) function_tokens (p2.word ∷ []) function_type outermost colon2 (DerivesIds.one p2 refl) refl function_derives

variables : DerivesDecl language_limit variable_tokens (variable_x ∷ [])
variables = DerivesDecl.variables variable_tokens (variable_x ∷ []) (DerivesVariables.variables (x3 ∷ []) (t3 ∷ []) (x3.word ∷ []) (named_type t3.word) outermost colon3 var3 (DerivesIds.one x3 refl) refl refl (type_name outermost t3 refl))

application_derives : Derives language_limit (form (Term true)) outermost application_tokens application outermost
application_derives =
    Derives.call _ outermost outermost (in_frame outermost) (p4 ∷ []) (x4 ∷ []) (named_term p4.word) (named_term x4.word ∷ []) open4 close4 (term_name outermost p4 refl) refl (omega arith)
    (Derives.one Expression (in_frame outermost) (in_frame outermost) (x4 ∷ []) (named_term x4.word) (Derives.expression Plain (in_frame outermost) (in_frame outermost) (x4 ∷ []) (named_term x4.word) (alone _ (in_frame outermost) (in_frame outermost) (x4 ∷ []) (named_term x4.word) (term_name (in_frame outermost) x4 refl))))
    refl

formulas : DerivesDecl language_limit formula_tokens (lemma_l ∷ [])
formulas = DerivesDecl.formula Plain application_tokens application _ outermost l4 colon4 lemma4 refl refl refl (alone _ outermost outermost application_tokens application application_derives)

declared : DerivesMany (DerivesDecl language_limit) decl_tokens small.decls
declared =
    DerivesMany.more type_tokens [] (constant_tokens ++ (variable_tokens ++ formula_tokens)) (type_decl ∷ []) (constant_p ∷ variable_x ∷ lemma_l ∷ []) types DerivesSemicolon.none
    (DerivesMany.more constant_tokens [] (variable_tokens ++ formula_tokens) (constant_p ∷ []) (variable_x ∷ lemma_l ∷ []) constants DerivesSemicolon.none
    (DerivesMany.more variable_tokens [] formula_tokens (variable_x ∷ []) (lemma_l ∷ []) variables DerivesSemicolon.none
    (DerivesMany.more formula_tokens [] [] (lemma_l ∷ []) [] formulas DerivesSemicolon.none DerivesMany.none)))

derived : DerivesItems language_limit text tokens.tokens whole.items
derived =
    DerivesItems.theory tokens.tokens [] small []
    (DerivesTheory.theory [] [] decl_tokens [] [] small.decls t0 colon0 theory0 begin0 end5 t5 refl DerivesFormalPart.none refl refl refl DerivesAssuming.none declared refl refl refl)
    DerivesItems.none

pub reads : IsAnswer text (Ok whole)
reads = record {
  small = omega arith;
  faultless = ap (λ (z : Terminals). z.fault) lexed;
  derives = subst (λ (z : Terminals). DerivesItems language_limit text z.tokens whole.items) (sym lexed) derived;
}
