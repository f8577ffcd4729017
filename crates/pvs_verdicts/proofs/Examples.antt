-- Worked examples, by computation: the faults of theories, in the order in which they count, and what stands after each theory.
use Rattle.std.proofs.Common.{◌≡◌, ◌∙◌, ap, ℕ, suc, false, true, List, [], ◌∷◌, codes, None, Err}
use Rattle.pvs_base.specs.declared.code.Code.{Code}
use Rattle.pvs_base.specs.declared.code.Code.TheVariants.{Duplicate, Mismatch, NoSuchFormula, NotFunction, OutOfProfile, Unknown}
use Rattle.pvs_base.specs.declared.code.Fault.{Fault}
use Rattle.pvs_syntax.specs.Words.{spelling}
use Rattle.pvs_syntax.specs.declared.word.Word.{Word}
use Rattle.pvs_syntax.specs.declared.expression.Expr.{Expr}
use Rattle.pvs_syntax.specs.declared.expression.Expr.TheVariants as expr
use Rattle.pvs_syntax.specs.declared.expression.TypeExpr.{TypeExpr}
use Rattle.pvs_syntax.specs.declared.expression.TypeExpr.TheVariants as type_expr
use Rattle.pvs_syntax.specs.declared.unit.Decl.{Decl}
use Rattle.pvs_syntax.specs.declared.unit.Decl.TheVariants as decl
use Rattle.pvs_syntax.specs.declared.unit.FormulaWord.TheVariants as formula_word
use Rattle.pvs_syntax.specs.declared.unit.Item.{Item}
use Rattle.pvs_syntax.specs.declared.unit.Item.TheVariants as item
use Rattle.pvs_syntax.specs.declared.unit.Proof.{Proof}
use Rattle.pvs_syntax.specs.declared.unit.Theory.{Theory}
use Rattle.pvs_terms.specs.Tree.{Text, Own, Const, TBool}
use Rattle.pvs_sig.specs.declared.signature.Class.TheVariants.{Lemma}
use Rattle.pvs_sig.specs.Signature.{Entry, ConstSig, FormulaSig}
use Rattle.pvs_types.specs.BySize.{by_size}
use Rattle.pvs_types.specs.Forms.{head, up, most, is_known_nonempty}
use Rattle.pvs_types.specs.Coerce.{coerce}
use Rattle.pvs_report.specs.declared.line.What.TheVariants as what
use Rattle.pvs_report.specs.Lines.{TheoryLine, RefusedLine, FormulaLine, OpenWord}
use Rattle.pvs_elab.specs.Phrase.{Phrase, Name, Apply}
use Rattle.pvs_elab.specs.Desugar.{arguments, phrase, type_phrase}
use Rattle.pvs_elab.proofs.SurfaceLaws.{apply_is, name_is, name_type_is, plain_name_is}
use Rattle.pvs_verdicts.specs.Parts.{Part, Accepted, Rejected, Proving, parts_of, theory_signature}
use Rattle.pvs_verdicts.specs.Verdicts.{Scripts}
use Rattle.pvs_verdicts.specs.Outcomes.{outcomes_of}
use Rattle.pvs_verdicts.specs.Reporting.{outcome_lines}
use Rattle.pvs_verdicts.proofs.FormLaws.{plain, type_name_built, name_term_built, application_built, several_arguments_not_built, subtype_not_built, predicate_type_not_built}

-- a word of a text of one line, from one offset up to another
abbrev word : ℕ → ℕ → Word
word from to = record { start = from; end = to; pos = record { line = 1; col = suc from } }

abbrev named_type : Word → TypeExpr
named_type w = type_expr.NameType (plain w)

abbrev named_term : Word → Expr
named_term w = expr.NameTerm (plain w)

abbrev constant : Word → Word → Decl
constant w a = decl.ConstDecl w [] (named_type a) None

abbrev lemma : Word → Expr → Decl
lemma w e = decl.Formula w formula_word.Lemma e

abbrev theory : Word → List Decl → Theory
theory w ds = record { name = w; formals = []; assuming = []; decls = ds; end = 0 }

-- the fault at an offset of a text of one line
abbrev fault_at : ℕ → Code → Fault
fault_at offset c = record { pos = record { line = 1; col = suc offset }; code = c }

module _ (text : Text) where
  type_is : (w : Word) → type_phrase text (named_type w) ≡ Name (spelling text w) w.pos
  type_is w = name_type_is text (plain w) ∙ plain_name_is text w

  term_is : (w : Word) → phrase text (named_term w) ≡ Name (spelling text w) w.pos
  term_is w = name_is text (plain w) ∙ plain_name_is text w

  application_is : (f x : Word) → phrase text (expr.Apply (named_term f) (named_term x ∷ [])) ≡ Apply (Name (spelling text f) f.pos) (Name (spelling text x) x.pos)
  application_is f x =
      apply_is text (named_term f) (named_term x ∷ [])
      ∙ ap (λ (a : Phrase). arguments (a ∷ []) (phrase text (named_term f))) (term_is x)
      ∙ ap (λ (g : Phrase). arguments (Name (spelling text x) x.pos ∷ []) g) (term_is f)

  -- the theory is refused with this fault, as the first of its unit
  abbrev IsRefused : Theory → Fault → Type 0
  IsRefused t f = theory_signature [] text [] t ≡ Err f

-- ---- The faults of declarations.

-- a constant of a type that may be empty owes that the type has a member
abbrev condition_text : Text
condition_text = codes "t: THEORY BEGIN T: TYPE U: TYPE+ d: U c: T l: LEMMA e END t"

abbrev condition_theory : Theory
condition_theory = theory (word 0 1) (decl.TypeDecl (word 16 17) false ∷ decl.TypeDecl (word 24 25) true ∷ constant (word 33 34) (word 36 37) ∷ constant (word 38 39) (word 41 42) ∷ lemma (word 43 44) (named_term (word 52 53)) ∷ [])

condition : IsRefused condition_text condition_theory (fault_at 38 OutOfProfile)
unfolding by_size head up most is_known_nonempty coerce
condition = simp (type_name_built, name_term_built, type_is condition_text, term_is condition_text)

-- the name of a type that PVS has and this profile lacks
number : IsRefused (codes "t: THEORY BEGIN c: nat END t") (theory (word 0 1) (constant (word 16 17) (word 19 22) ∷ [])) (fault_at 19 OutOfProfile)
unfolding by_size head up most is_known_nonempty coerce
number = simp (type_name_built, type_is (codes "t: THEORY BEGIN c: nat END t"))

-- a formula that is no truth value
abbrev mismatch_text : Text
mismatch_text = codes "t: THEORY BEGIN T: TYPE+ c: T l: LEMMA c END t"

mismatch : IsRefused mismatch_text (theory (word 0 1) (decl.TypeDecl (word 16 17) true ∷ constant (word 25 26) (word 28 29) ∷ lemma (word 30 31) (named_term (word 39 40)) ∷ [])) (fault_at 39 Mismatch)
unfolding by_size head up most is_known_nonempty coerce
mismatch = simp (type_name_built, name_term_built, type_is mismatch_text, term_is mismatch_text)

abbrev not_function_text : Text
not_function_text = codes "t: THEORY BEGIN T: TYPE+ c: T l: LEMMA c(c) END t"

not_function : IsRefused not_function_text (theory (word 0 1) (decl.TypeDecl (word 16 17) true ∷ constant (word 25 26) (word 28 29) ∷ lemma (word 30 31) (expr.Apply (named_term (word 39 40)) (named_term (word 41 42) ∷ [])) ∷ [])) (fault_at 39 NotFunction)
unfolding by_size head up most is_known_nonempty coerce
not_function = simp (type_name_built, name_term_built, application_built, type_is not_function_text, application_is not_function_text)

-- ---- The order of faults.

-- a name that is declared again comes before the faults of declarations
abbrev again_text : Text
again_text = codes "t: THEORY BEGIN c: nat c: bool END t"

again : IsRefused again_text (theory (word 0 1) (constant (word 16 17) (word 19 22) ∷ constant (word 23 24) (word 26 30) ∷ [])) (fault_at 23 Duplicate)
again = simp type_name_built

-- a type, a VAR and a formula may have one name; the type of truth values is not declared again
abbrev kinds_text : Text
kinds_text = codes "t: THEORY BEGIN x: TYPE x: VAR x x: LEMMA y boolean: TYPE END t"

kinds : IsRefused kinds_text (theory (word 0 1) (decl.TypeDecl (word 16 17) false ∷ decl.VarDecl (word 24 25) (named_type (word 31 32)) ∷ lemma (word 33 34) (named_term (word 42 43)) ∷ decl.TypeDecl (word 44 51) false ∷ [])) (fault_at 44 Duplicate)
kinds = simp (type_name_built, name_term_built)

-- a form that is not built comes first, at the name of the theory
module _ (p : Expr) where
  subtype : IsRefused again_text (theory (word 0 1) (constant (word 16 17) (word 19 22) ∷ constant (word 16 17) (word 19 22) ∷ decl.TypeDef (word 16 17) (type_expr.SubType (word 0 1) (named_type (word 19 22)) p (word 0 1).pos) ∷ [])) (fault_at 0 OutOfProfile)
  subtype = simp (type_name_built, subtype_not_built)

  predicate : IsRefused again_text (theory (word 0 1) (decl.VarDecl (word 16 17) (type_expr.PredType p (word 0 1).pos) ∷ [])) (fault_at 0 OutOfProfile)
  predicate = simp predicate_type_not_built

  several : IsRefused again_text (theory (word 0 1) (lemma (word 16 17) (expr.Apply p (p ∷ p ∷ [])) ∷ [])) (fault_at 0 OutOfProfile)
  several = simp several_arguments_not_built

-- ---- The theories of a unit, and its lines.

-- A theory sees no other, and none has the name of an earlier one, accepted or refused.
abbrev unit_text : Text
unit_text = codes "a: THEORY BEGIN p: bool l: LEMMA p END a b: THEORY BEGIN l: LEMMA p END b b: THEORY BEGIN END b (proof b.l ((axiom)))"

abbrev proof_b : Proof
proof_b = record { theory = word 103 104; formula = word 105 106; start = 107; end = 116; pos = (word 107 108).pos }

abbrev unit_items : List Item
unit_items =
    item.Theory (theory (word 0 1) (constant (word 16 17) (word 19 23) ∷ lemma (word 24 25) (named_term (word 33 34)) ∷ []))
    ∷ item.Theory (theory (word 41 42) (lemma (word 57 58) (named_term (word 66 67)) ∷ [])) ∷ item.Theory (theory (word 74 75) []) ∷ item.Proof proof_b ∷ []

abbrev unit_entries : List Entry
unit_entries = record { name = codes "p"; kind = ConstSig TBool None } ∷ record { name = codes "l"; kind = FormulaSig Lemma (Const (Own 0)) 0 } ∷ []

unit_parts : parts_of unit_text unit_items
    ≡ Accepted (record { name = codes "a"; formals = []; entries = unit_entries; imports = [] }) ∷ Rejected (codes "b") (fault_at 66 Unknown) ∷ Rejected (codes "b") (fault_at 74 Duplicate) ∷ Proving unit_text proof_b ∷ []
unfolding by_size head up most is_known_nonempty coerce
unit_parts = simp (type_name_built, name_term_built, type_is unit_text, term_is unit_text)

-- A lemma without proof is open, and a theory that is refused has no formula.
unit_lines : (scripts : Scripts) → outcome_lines (outcomes_of scripts (parts_of unit_text unit_items))
    ≡ TheoryLine (codes "a") ∷ FormulaLine (codes "a") (codes "l") OpenWord ∷ RefusedLine what.TheoryOf (codes "b") (fault_at 66 Unknown) ∷ RefusedLine what.TheoryOf (codes "b") (fault_at 74 Duplicate)
    ∷ RefusedLine what.ProofOf (codes "b.l") (fault_at 103 NoSuchFormula) ∷ []
unit_lines scripts = ap (λ (ps : List Part). outcome_lines (outcomes_of scripts ps)) unit_parts
