-- The lines of a report, and their bytes.
use Rattle.std.specs.Prelude.{◌||◌, ℕ, Bool, true, false, codes, List, [], ◌∷◌, ◌++◌, count_by, flat_map}
use Rattle.std.specs.Fmt.{decimal}
use Rattle.pvs_base.specs.declared.code.Fault.{Fault}
use Rattle.pvs_base.specs.CodeName.{name_of}
use Rattle.pvs_report.specs.declared.line.What.{What}
use Rattle.pvs_report.specs.declared.line.What.TheVariants as what
use Rattle.pvs_report.specs.declared.totals.Totals.{Totals}

-- what a line says of a formula
pub data LineWord : Type 0 where
  AxiomWord : LineWord
  AssumptionWord : LineWord
  CompleteWord : LineWord
  -- the formula rests on an open one, which has these names: of its theory, and its own
  IncompleteWord : List ℕ → List ℕ → LineWord
  OpenWord : LineWord

pub data Line : Type 0 where
  -- an accepted theory
  TheoryLine : List ℕ → Line
  -- a unit, a theory or a proof of this name, with its fault
  RefusedLine : What → List ℕ → Fault → Line
  -- a formula, by the names of its theory and its own
  FormulaLine : List ℕ → List ℕ → LineWord → Line
  -- the last line
  TotalLine : Totals → Line

abbrev pub is_theory : Line → Bool
is_theory (TheoryLine t) = true
is_theory _ = false

abbrev pub is_complete : Line → Bool
is_complete (FormulaLine t n CompleteWord) = true
is_complete _ = false

abbrev pub is_incomplete : Line → Bool
is_incomplete (FormulaLine t n (IncompleteWord u m)) = true
is_incomplete _ = false

abbrev pub is_open : Line → Bool
is_open (FormulaLine t n OpenWord) = true
is_open _ = false

abbrev pub is_refused : Line → Bool
is_refused (RefusedLine w n f) = true
is_refused _ = false

-- a line of a lemma or of a type-correctness condition
abbrev pub has_status : Line → Bool
has_status l = is_complete l || is_incomplete l || is_open l

-- the totals of the lines before the last, of theories without type-correctness conditions
abbrev pub totals_of : List Line → Totals
totals_of ls = record {
  theories = count_by is_theory ls;
  lemmas = count_by has_status ls;
  conditions = 0;
  complete = count_by is_complete ls;
  incomplete = count_by is_incomplete ls;
  unproved = count_by is_open ls;
  refused = count_by is_refused ls;
}

-- the name of a formula: that of its theory, a dot, and its own
abbrev pub full_name : List ℕ → List ℕ → List ℕ
full_name theory name = theory ++ codes "." ++ name

-- `LINE:COLUMN Code`
abbrev pub fault_text : Fault → List ℕ
fault_text f = decimal f.pos.line ++ codes ":" ++ decimal f.pos.col ++ codes " " ++ name_of f.code

abbrev pub what_text : What → List ℕ
what_text what.UnitOf = codes "unit"
what_text what.TheoryOf = codes "theory"
what_text what.ProofOf = codes "proof"

abbrev pub word_text : LineWord → List ℕ
word_text AxiomWord = codes "axiom"
word_text AssumptionWord = codes "assumption"
word_text CompleteWord = codes "complete"
word_text (IncompleteWord t n) = codes "incomplete " ++ full_name t n
word_text OpenWord = codes "open"

-- texts, one after the other
abbrev pub joined : List (List ℕ) → List ℕ
joined ts = flat_map (λ t. t) ts

abbrev pub totals_text : Totals → List ℕ
totals_text t = joined (codes "total complete " ∷ decimal t.complete ∷ codes " incomplete " ∷ decimal t.incomplete ∷ codes " open " ∷ decimal t.unproved ∷ codes " refused " ∷ decimal t.refused ∷ [])

-- a line without its line feed
abbrev pub line_text : Line → List ℕ
line_text (TheoryLine t) = codes "theory " ++ t
line_text (RefusedLine w n f) = what_text w ++ codes " " ++ n ++ codes " refused " ++ fault_text f
line_text (FormulaLine t n w) = full_name t n ++ codes " " ++ word_text w
line_text (TotalLine t) = totals_text t

-- the bytes of a line: it ends with one line feed
abbrev pub line_bytes : Line → List ℕ
line_bytes l = line_text l ++ 10 ∷ []

-- the bytes of lines
abbrev pub bytes_of : List Line → List ℕ
bytes_of ls = flat_map line_bytes ls

-- the bytes of a report with these lines and, in its last line, these totals
abbrev pub report_bytes : List Line → Totals → List ℕ
report_bytes ls t = bytes_of (ls ++ TotalLine t ∷ [])
