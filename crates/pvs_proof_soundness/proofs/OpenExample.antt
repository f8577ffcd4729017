-- A lemma that no axiom gives: T has one member, and p is FALSE on it.
use Rattle.std.proofs.Common.{◌≡◌, ◌∙◌, refl, ap, subst, inl, ℕ, zero, suc, false, List, [], ◌∷◌, ◌++◌, codes, Some, None, Ok, arith}
use Rattle.pvs_base.specs.Answers.{◌>>=◌}
use Rattle.pvs_base.specs.declared.place.Pos.{Pos}
use Rattle.pvs_syntax.specs.Words.{spelling}
use Rattle.pvs_syntax.specs.declared.word.Word.{Word}
use Rattle.pvs_syntax.specs.declared.expression.Binding.{Binding, roll-Binding}
use Rattle.pvs_syntax.specs.declared.expression.Expr.{Expr}
use Rattle.pvs_syntax.specs.declared.expression.Expr.TheVariants as expr
use Rattle.pvs_syntax.specs.declared.expression.NameExpr.{NameExpr, roll-NameExpr}
use Rattle.pvs_syntax.specs.declared.expression.TypeExpr.{TypeExpr}
use Rattle.pvs_syntax.specs.declared.expression.TypeExpr.TheVariants as type_expr
use Rattle.pvs_syntax.specs.declared.unit.Decl.{Decl}
use Rattle.pvs_syntax.specs.declared.unit.Decl.TheVariants as decl
use Rattle.pvs_syntax.specs.declared.unit.FormulaWord.TheVariants as formula_word
use Rattle.pvs_terms.specs.Tree.{Text, Tree, Ref, Own, Var, True, TBool, TName, Const, TFun, Lam, App, Eq}
use Rattle.pvs_sig.specs.declared.signature.Class.TheVariants.{Lemma}
use Rattle.pvs_sig.specs.Signature.{Entry, TypeSig, ConstSig, VarSig, FormulaSig}
use Rattle.pvs_sem.specs.Value.{Truth, Atom, EmptyTable, Row}
use Rattle.pvs_sem.specs.Interpretations.{FiniteMap, Set, Element, model_of}
use Rattle.pvs_types.specs.BySize.{by_size}
use Rattle.pvs_types.specs.Forms.{head, up, most, is_known_nonempty}
use Rattle.pvs_types.specs.Coerce.{coerce}
use Rattle.pvs_elab.specs.Answer.{Answer, pure, judgement_at}
use Rattle.pvs_elab.specs.Phrase.{Phrase, Name, Apply, Function}
use Rattle.pvs_elab.specs.Desugar.{Bound, bound_of, domain, names, arguments, phrase, type_phrase}
use Rattle.pvs_elab.specs.Declaration.{CheckedEntry, ElaboratedDecl, constant_decl, decl_place, formula_decl, kind_symbols, type_definition}
use Rattle.pvs_elab.proofs.SurfaceLaws.{apply_is, function_type_is, name_is, name_type_is, plain_name_is, typed_is}
use Rattle.pvs_soundness.specs.Read.{FitsBefore}
use Rattle.pvs_soundness.specs.Fits.{FitsKind}
use Rattle.pvs_soundness.specs.Theory.{CheckedTheory, lookups_after, names_after, with_declaration, with_declarations, with_elaborated, without_conditions}
use Rattle.pvs_proof_soundness.specs.OpenFormulas.{LemmasCanBeFalse}

-- ---- The declarations.

abbrev pub text : Text
text = codes "t: THEORY BEGIN T: TYPE p: [T -> bool] x: VAR T l: LEMMA p(x) END t"

-- a place of the text, which is one line, by its offset
abbrev pub at : ℕ → Pos
at offset = record { line = 1; col = suc offset }

abbrev pub word : ℕ → ℕ → Word
word from to = record { start = from; end = to; pos = at from }

abbrev pub plain : Word → NameExpr
plain w = roll-NameExpr (record { qualifier = None; word = w })

abbrev pub named_type : Word → TypeExpr
named_type w = type_expr.NameType (plain w)

abbrev pub named_term : Word → Expr
named_term w = expr.NameTerm (plain w)

abbrev pub component : Binding
component = roll-Binding (record { word = word 28 28; ty = Some (named_type (word 28 29)) })

abbrev pub function_type : TypeExpr
function_type = type_expr.FunType (component ∷ []) (named_type (word 33 37)) (at 27)

abbrev pub application : Expr
application = expr.Apply (named_term (word 57 58)) (named_term (word 59 60) ∷ [])

abbrev pub type_decl : Decl
type_decl = decl.TypeDecl (word 16 17) false

abbrev pub constant_p : Decl
constant_p = decl.ConstDecl (word 24 25) [] function_type None

abbrev pub variable_x : Decl
variable_x = decl.VarDecl (word 39 40) (named_type (word 46 47))

abbrev pub lemma_l : Decl
lemma_l = decl.Formula (word 48 49) formula_word.Lemma application

-- ---- What they say.

type_is : (w : Word) → type_phrase text (named_type w) ≡ Name (spelling text w) w.pos
type_is w = name_type_is text (plain w) ∙ plain_name_is text w

term_is : (w : Word) → phrase text (named_term w) ≡ Name (spelling text w) w.pos
term_is w = name_is text (plain w) ∙ plain_name_is text w

component_is : bound_of text component ≡ record { name = []; pos = at 28; ty = Some (Name (codes "T") (at 28)) }
component_is = typed_is text (word 28 28) (named_type (word 28 29)) ∙ ap (λ (a : Phrase). let b : Bound = record { name = []; pos = at 28; ty = Some a } in b) (type_is (word 28 29))

function_is : type_phrase text function_type ≡ Function (Name (codes "T") (at 28)) ([] ∷ []) (Name (codes "bool") (at 33)) (at 27)
function_is =
    function_type_is text (component ∷ []) (named_type (word 33 37)) (at 27)
    ∙ ap (λ (b : Bound). Function (domain (at 27) (b ∷ [])) (names (b ∷ [])) (type_phrase text (named_type (word 33 37))) (at 27)) component_is
    ∙ ap (λ (a : Phrase). Function (Name (codes "T") (at 28)) ([] ∷ []) a (at 27)) (type_is (word 33 37))

application_is : phrase text application ≡ Apply (Name (codes "p") (at 57)) (Name (codes "x") (at 59))
application_is =
    apply_is text (named_term (word 57 58)) (named_term (word 59 60) ∷ [])
    ∙ ap (λ (a : Phrase). arguments (a ∷ []) (phrase text (named_term (word 57 58)))) (term_is (word 59 60))
    ∙ ap (λ (f : Phrase). arguments (Name (codes "x") (at 59) ∷ []) f) (term_is (word 57 58))

-- ---- The theory.

abbrev set_t : Tree
set_t = TName (Own 0)

abbrev pub all_p : Tree
all_p = Eq (Lam set_t (App (Const (Own 1)) (Var 0))) (Lam set_t True)

abbrev entry_t : Entry
entry_t = record { name = codes "T"; kind = TypeSig false None }

abbrev entry_p : Entry
entry_p = record { name = codes "p"; kind = ConstSig (TFun set_t TBool) None }

abbrev entry_x : Entry
entry_x = record { name = codes "x"; kind = VarSig set_t }

abbrev entry_l : Entry
entry_l = record { name = codes "l"; kind = FormulaSig Lemma all_p 0 }

abbrev theory_of : List Entry → List (List Ref) → CheckedTheory
theory_of es uses = record { signature = record { name = codes "t"; formals = []; entries = es; imports = [] }; uses = uses }

abbrev theory0 : CheckedTheory
theory0 = theory_of [] []

abbrev theory1 : CheckedTheory
theory1 = theory_of (entry_t ∷ []) ([] ∷ [])

abbrev theory2 : CheckedTheory
theory2 = theory_of (entry_t ∷ entry_p ∷ []) ([] ∷ (Own 0 ∷ []) ∷ [])

abbrev theory3 : CheckedTheory
theory3 = theory_of (entry_t ∷ entry_p ∷ entry_x ∷ []) ([] ∷ (Own 0 ∷ []) ∷ (Own 0 ∷ []) ∷ [])

abbrev pub theory4 : CheckedTheory
theory4 = theory_of (entry_t ∷ entry_p ∷ entry_x ∷ entry_l ∷ []) ([] ∷ (Own 0 ∷ []) ∷ (Own 0 ∷ []) ∷ (Own 0 ∷ Own 1 ∷ Own 0 ∷ Own 2 ∷ []) ∷ [])

-- what a declaration makes of a theory, by the entry that is elaborated of it
abbrev with_checked : CheckedTheory → Decl → Answer CheckedEntry → Answer CheckedTheory
with_checked t x r =
    (r >>= (λ e. judgement_at (decl_place x) e.typing >>= (λ j. pure (let d : ElaboratedDecl = record { entry = Some e.kind; import = None; conditions = j.conditions; uses = kind_symbols e.kind ++ e.variables } in d))))
    >>= (λ e. without_conditions (decl_place x) e e.conditions >>= (λ e. pure (with_elaborated text x t e)))

read1 : with_declaration [] text theory0 type_decl ≡ Ok theory1
unfolding by_size head up most is_known_nonempty coerce
read1 = refl

read2 : with_declaration [] text theory1 constant_p ≡ Ok theory2
unfolding by_size head up most is_known_nonempty coerce
read2 = ap (λ (a : Phrase). with_checked theory1 constant_p (constant_decl (lookups_after [] theory1) (names_after [] theory1) [] a None)) function_is

read3 : with_declaration [] text theory2 variable_x ≡ Ok theory3
unfolding by_size head up most is_known_nonempty coerce
read3 = ap (λ (a : Phrase). with_checked theory2 variable_x (type_definition (lookups_after [] theory2) (names_after [] theory2) a VarSig)) (type_is (word 46 47))

read4 : with_declaration [] text theory3 lemma_l ≡ Ok theory4
unfolding by_size head up most is_known_nonempty coerce
read4 = ap (λ (e : Phrase). with_checked theory3 lemma_l (formula_decl (lookups_after [] theory3) (names_after [] theory3) Lemma e)) application_is

read_from3 : with_declarations [] text theory3 (lemma_l ∷ []) ≡ Ok theory4
read_from3 = ap (λ (r : Answer CheckedTheory). r >>= (λ u. with_declarations [] text u [])) read4

read_from2 : with_declarations [] text theory2 (variable_x ∷ lemma_l ∷ []) ≡ Ok theory4
read_from2 = ap (λ (r : Answer CheckedTheory). r >>= (λ u. with_declarations [] text u (lemma_l ∷ []))) read3 ∙ read_from3

read_from1 : with_declarations [] text theory1 (constant_p ∷ variable_x ∷ lemma_l ∷ []) ≡ Ok theory4
read_from1 = ap (λ (r : Answer CheckedTheory). r >>= (λ u. with_declarations [] text u (variable_x ∷ lemma_l ∷ []))) read2 ∙ read_from2

pub read_all : with_declarations [] text theory0 (type_decl ∷ constant_p ∷ variable_x ∷ lemma_l ∷ []) ≡ Ok theory4
read_all = ap (λ (r : Answer CheckedTheory). r >>= (λ u. with_declarations [] text u (constant_p ∷ variable_x ∷ lemma_l ∷ []))) read1 ∙ read_from1

-- ---- The interpretation.

abbrev pub interpretation : FiniteMap
interpretation =
    record { reference = Own 0; denotation = Set (Atom 0 ∷ []) }
    ∷ record { reference = Own 1; denotation = Element (Row (Atom 0) (Truth false) EmptyTable) } ∷ []

pub fits_before : FitsBefore (model_of interpretation) theory4.signature 3
fits_before zero x l e = let z : entry_t.kind ≡ x = cc in subst (FitsKind (model_of interpretation) (Own 0)) z (refl, λ h. cc)
fits_before (suc zero) x l e = let z : entry_p.kind ≡ x = cc in subst (FitsKind (model_of interpretation) (Own 1)) z (refl, inl refl)
fits_before (suc (suc zero)) x l e = let z : entry_x.kind ≡ x = cc in subst (FitsKind (model_of interpretation) (Own 2)) z tt
fits_before (suc (suc (suc k))) x l e = absurd (omega (arith, l))

pub lemmas_can_be_false : LemmasCanBeFalse
lemmas_can_be_false = (
  text,
  codes "t",
  type_decl ∷ constant_p ∷ variable_x ∷ lemma_l ∷ [],
  theory4,
  3,
  all_p,
  interpretation,
  record { read = read_all; stated = refl; sets = ((λ v h. absurd h, tt), (tt, tt)); fits = fits_before; untrue = refl },
)
