-- A lemma that is printed open and is not true: p is a constant, and the lemma l says p.
use Rattle.std.proofs.Common.{◌≡◌, ◌∙◌, refl, sym, ap, subst, ◌&&◌, ℕ, zero, suc, Bool, true, false, not, is_some, if◌then◌else◌, List, [], ◌∷◌, Contains, arith, codes, Option, Some, None, Result, Ok, Err}
use Rattle.std.specs.Prelude.{⊤}
use Rattle.std.proofs.lemmas.List.Elements.{Contains-append_left}
use Rattle.pvs_base.specs.declared.code.Fault.{Fault}
use Rattle.pvs_base.specs.declared.place.Pos.{Pos}
use Rattle.pvs_syntax.specs.declared.word.Word.{Word}
use Rattle.pvs_syntax.specs.declared.expression.Expr.TheVariants as expr
use Rattle.pvs_syntax.specs.declared.expression.TypeExpr.TheVariants as type_expr
use Rattle.pvs_syntax.specs.declared.expression.Actual.TheOpen.{Expr-F, TypeExpr-F}
use Rattle.pvs_syntax.specs.declared.expression.Actual.TheFolds.{fold-roll-Expr, fold-roll-NameExpr, fold-roll-TypeExpr}
use Rattle.pvs_syntax.specs.declared.unit.FormulaWord.TheVariants as formula_word
use Rattle.pvs_parser.specs.Text.{IsAnswer}
use Rattle.pvs_terms.specs.Tree.{Own, Const}
use Rattle.pvs_sem.specs.Truth.{TruthAssignment}
use Rattle.pvs_theory.specs.Forms as forms
use Rattle.pvs_theory.specs.Entries.{Entry, Constant, Constants, Formula, Placed, core, entries_after, entries_of, named, named_constant, out_of_profile, resolve}
use Rattle.pvs_base.specs.Answers.{◌>>=◌}
use Rattle.pvs_theory.specs.Entries as entries_spec
use Rattle.pvs_theory.specs.Theories.{Accepted, first_repeated, unless_repeated, parts_of, theory_entries, theory_part}
use Rattle.pvs_report.specs.Lines.{Line, FormulaLine, TotalLine, OpenWord, totals_of}
use Rattle.pvs_cli.specs.Reporting.{of_text, outcome_lines, with_total}
use Rattle.pvs_cli.specs.Verdicts.{Scripts}
use Rattle.pvs_cli.specs.Outcomes.{outcomes_of}
use Rattle.pvs_script.specs.code.Reading.{script_of}
use Rattle.pvs_script.proofs.Verdicts.{script_answer}
use Rattle.pvs_cli.specs.Soundness.{Fits}
use Rattle.pvs_cli.specs.SoundFacts.{ReportedCanBeFalse}
use Rattle.pvs_cli.proofs.OpenExample.{bytes, plain, says_p, small, whole, word}

-- ---- A plain name.

module _ (w : Word) where
  plain_name : forms.plain_name (plain w) ≡ Some w
  plain_name = fold-roll-NameExpr ⊤ Bool (Option Word) ⊤ ⊤ ⊤ (Option Word) forms.no_step forms.expr_step forms.type_step forms.no_step forms.no_step forms.no_step forms.name_step (record { qualifier = None; word = w })

  plain_type : forms.plain_type (type_expr.NameType (plain w)) ≡ Some w
  plain_type =
      ap forms.plain_type (sym (type_expr.rolls-NameType (plain w)))
      ∙ fold-roll-TypeExpr ⊤ Bool (Option Word) ⊤ ⊤ ⊤ (Option Word) forms.no_step forms.expr_step forms.type_step forms.no_step forms.no_step forms.no_step forms.name_step (TypeExpr-F.NameType (plain w))
      ∙ plain_name

  built_name : forms.is_built (expr.NameTerm (plain w)) ≡ true
  built_name =
      ap forms.is_built (sym (expr.rolls-NameTerm (plain w)))
      ∙ fold-roll-Expr ⊤ Bool (Option Word) ⊤ ⊤ ⊤ (Option Word) forms.no_step forms.expr_step forms.type_step forms.no_step forms.no_step forms.no_step forms.name_step (Expr-F.NameTerm (plain w))
      ∙ ap is_some plain_name

  -- the core tree of a plain name
  pub core_name : (text : List ℕ) (at : Pos) (constants : Constants) → core text at constants (expr.NameTerm (plain w)) ≡ named_constant text at constants (Some w)
  core_name text at constants =
      ap (core text at constants) (sym (expr.rolls-NameTerm (plain w)))
      ∙ fold-roll-Expr ⊤ (Result Placed Fault) ⊤ ⊤ ⊤ ⊤ (Option Word) forms.no_step (entries_spec.core_step text at constants) forms.no_step forms.no_step forms.no_step forms.no_step forms.name_step (Expr-F.NameTerm (plain w))
      ∙ ap (named_constant text at constants) (fold-roll-NameExpr ⊤ (Result Placed Fault) ⊤ ⊤ ⊤ ⊤ (Option Word) forms.no_step (entries_spec.core_step text at constants) forms.no_step forms.no_step forms.no_step forms.no_step forms.name_step (record { qualifier = None; word = w }))

-- ---- The theory is accepted.

abbrev p_entry : Entry
p_entry = record { name = codes "p"; kind = Constant }

abbrev l_entry : Entry
l_entry = record { name = codes "l"; kind = Formula formula_word.Lemma (Const (Own 0)) }

abbrev entries : List Entry
entries = p_entry ∷ l_entry ∷ []

built : forms.is_built_theory bytes small ≡ true
built = ap (λ (b : Bool). b && (forms.is_built says_p && true)) (ap (forms.is_boolean bytes) (plain_type (word 19 23 20))) ∙ ap (λ (b : Bool). b && true) (built_name (word 33 34 34))

read : entries_of bytes small.name.pos small.decls ≡ Ok entries
read = ap (λ (r : Result Placed Fault). r >>= (λ p. Ok (named bytes (word 24 25 25) (Formula formula_word.Lemma p.tree))) >>= (λ e. entries_after bytes small.name.pos (p_entry ∷ e ∷ []) [])) (core_name (word 33 34 34) bytes small.name.pos (resolve (p_entry ∷ [])))

accepted : theory_entries bytes [] small ≡ Ok entries
accepted = ap (λ (b : Bool). if not b then Err (out_of_profile small.name.pos) else unless_repeated (first_repeated bytes [] small.decls) (entries_of bytes small.name.pos small.decls)) built ∙ read

-- ---- Its lemma is printed open, and is FALSE where every constant is.

abbrev nothing : TruthAssignment
nothing r = false

no_axiom : Fits nothing entries 1
no_axiom zero name t h e =
    let same : p_entry ≡ record { name = name; kind = Formula formula_word.Axiom t } = cc in
    let kinds : Constant ≡ Formula formula_word.Axiom t = ap (λ (f : Entry). f.kind) same in cc
no_axiom (suc i) name t h e = absurd (omega arith)

abbrev line : Line
line = FormulaLine (codes "p") (codes "l") OpenWord

module _ (scripts : Scripts) where
  printed : (r : Result (List Entry) Fault) → r ≡ Ok entries → Contains (outcome_lines (outcomes_of scripts (theory_part (codes "p") r ∷ []))) line
  printed r e = subst (λ (q : Result (List Entry) Fault). Contains (outcome_lines (outcomes_of scripts (theory_part (codes "p") q ∷ []))) line) (sym e) (1, omega arith, refl)

  open_line : Contains (outcome_lines (outcomes_of scripts (parts_of bytes whole.items))) line
  open_line = printed (theory_entries bytes [] small) accepted

among : (r : Result (List Entry) Fault) → r ≡ Ok entries → Contains (theory_part (codes "p") r ∷ []) (Accepted (codes "p") entries)
among r e = subst (λ (q : Result (List Entry) Fault). Contains (theory_part (codes "p") q ∷ []) (Accepted (codes "p") entries)) (sym e) (0, omega arith, refl)

-- a lemma that is printed open can be FALSE, where the text reads as the unit
pub reported_can_be_false : IsAnswer bytes (Ok whole) → ReportedCanBeFalse
reported_can_be_false reads =
    let lines = outcome_lines (outcomes_of script_of (parts_of bytes whole.items)) in (
      bytes,
      with_total lines,
      whole,
      codes "p",
      entries,
      1,
      codes "l",
      Const (Own 0),
      nothing,
      reads,
      of_text script_of script_answer (Ok whole) reads,
      record {
        accepted = among (theory_entries bytes [] small) accepted;
        stated = refl;
        printed = Contains-append_left lines (TotalLine (totals_of lines) ∷ []) line (open_line script_of);
        fits = no_axiom;
        untrue = refl;
      },
    )
