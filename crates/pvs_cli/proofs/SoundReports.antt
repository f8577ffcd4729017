-- A report is sound: what its lines say is complete is TRUE.
use Rattle.std.proofs.Common.{◌≡◌, ◌∙◌, refl, sym, ap, subst, ℕ, Bool, true, false, if◌then◌else◌, ◌⊎◌, inl, inr, List, [], ◌∷◌, flat_map, slice_get, Contains, Some, Ok}
use Rattle.std.specs.List.{list_any}
use Rattle.pvs_syntax.specs.declared.unit.Item.{Item}
use Rattle.pvs_syntax.specs.declared.unit.FormulaWord.TheVariants as formula_word
use Rattle.pvs_terms.specs.Tree.{Tree}
use Rattle.pvs_sem.specs.Truth.{truth}
use Rattle.pvs_theory.specs.Names.{FormulaName}
use Rattle.pvs_theory.specs.Entries.{Entry, EntryKind, Constant, Formula}
use Rattle.pvs_theory.specs.Theories.{Accepted, parts_of}
use Rattle.pvs_replay.specs.Replaying.{Outcome, Proved, Open, Refused}
use Rattle.pvs_cli.specs.Verdicts.{Scripts}
use Rattle.pvs_cli.specs.Outcomes.{PartOutcome, TheoryAccepted, TheoryRefused, ProofOutcome, lemma_word, outcomes_of, proves}
use Rattle.pvs_report.specs.Lines.{Line, LineWord, FormulaLine, CompleteWord, OpenWord, TotalLine, totals_of}
use Rattle.pvs_cli.specs.Reporting.{IsReport, answer_lines, entry_lines, of_text, outcome_lines, part_lines, proof_line, with_total}
use Rattle.pvs_cli.specs.Soundness.{IsSound}
use Rattle.pvs_cli.proofs.ReportOf.{OneAnswer}
use Rattle.pvs_cli.proofs.Members.{Has, has_append, has_contained, has_flat_map}
use Rattle.pvs_cli.proofs.SoundVerdicts.{IsValid, proved_sound}
use Rattle.pvs_cli.proofs.SoundTheories.{lemma_found}

-- a complete line of a formula
abbrev pub complete : List ℕ → List ℕ → Line
complete theory name = FormulaLine theory name CompleteWord

abbrev pub name_of : List ℕ → List ℕ → FormulaName
name_of theory name = record { theory = theory; formula = name }

-- a lemma whose word is complete is proved
word_proved : (os : List PartOutcome) (n : FormulaName) → lemma_word os n ≡ CompleteWord → list_any (proves n) os ≡ true
word_proved os n h = go (list_any (proves n) os) h
  where
    go : (b : Bool) → (let w : LineWord = if b then CompleteWord else OpenWord in w) ≡ CompleteWord → b ≡ true
    go true h = refl
    go false h = cc

module _ (theory name : List ℕ) (word : FormulaName → LineWord) where
  entry_complete : (here n : List ℕ) (k : EntryKind) → Has (complete theory name) (entry_lines word here n k) → word (name_of theory name) ≡ CompleteWord
  entry_complete here n Constant h = absurd h
  entry_complete here n (Formula formula_word.Axiom t) (inl e) = cc
  entry_complete here n (Formula formula_word.Axiom t) (inr h) = absurd h
  entry_complete here n (Formula formula_word.Assumption t) h = absurd h
  entry_complete here n (Formula formula_word.Lemma t) (inl e) =
      let theories : here ≡ theory = cc in
      let same : n ≡ name = cc in
      let complete : word (name_of here n) ≡ CompleteWord = cc in
      subst (λ (u : List ℕ). word (name_of theory u) ≡ CompleteWord) same (subst (λ (u : List ℕ). word (name_of u n) ≡ CompleteWord) theories complete)
  entry_complete here n (Formula formula_word.Lemma t) (inr h) = absurd h

  -- no line of a proof says that a formula is complete
  proof_not_complete : (n : FormulaName) (o : Outcome) → Has (complete theory name) (proof_line n o) → ⊥
  proof_not_complete n (Proved cited uses) h = h
  proof_not_complete n (Open q) h = h
  proof_not_complete n (Refused f) (inl e) = cc
  proof_not_complete n (Refused f) (inr h) = h

  part_complete : (o : PartOutcome) → Has (complete theory name) (part_lines word o) → word (name_of theory name) ≡ CompleteWord
  part_complete (TheoryAccepted here es) (inl e) = cc
  part_complete (TheoryAccepted here es) (inr h) = has_flat_map (λ (e : Entry). entry_lines word here e.name e.kind) es (complete theory name) (word (name_of theory name) ≡ CompleteWord) (λ e p. entry_complete here e.name e.kind p) h
  part_complete (TheoryRefused here f) (inl e) = cc
  part_complete (TheoryRefused here f) (inr h) = absurd h
  part_complete (ProofOutcome n o) h = absurd (proof_not_complete n o h)

  -- a formula that is printed complete has that word
  pub lines_complete : (os : List PartOutcome) → Has (complete theory name) (flat_map (part_lines word) os) → word (name_of theory name) ≡ CompleteWord
  lines_complete os h = has_flat_map (part_lines word) os (complete theory name) (word (name_of theory name) ≡ CompleteWord) part_complete h

-- the last line adds no complete one
before_total : (ls : List Line) (theory name : List ℕ) → Contains (with_total ls) (complete theory name) → Has (complete theory name) ls
before_total ls theory name h = go (has_append ls (TotalLine (totals_of ls) ∷ []) (complete theory name) (has_contained (with_total ls) (complete theory name) h))
  where
    go : Has (complete theory name) ls ⊎ Has (complete theory name) (TotalLine (totals_of ls) ∷ []) → Has (complete theory name) ls
    go (inl p) = p
    go (inr (inl e)) = cc
    go (inr (inr p)) = absurd p

-- the lemma of an accepted theory that the lines of its unit print as complete is TRUE
pub unit_sound : (scripts : Scripts) (text : List ℕ) (items : List Item) (theory : List ℕ) (es : List Entry) (x : ℕ) (name : List ℕ) (body : Tree) → Contains (parts_of text items) (Accepted theory es)
    → slice_get es x ≡ Some (record { name = name; kind = Formula formula_word.Lemma body })
    → Has (complete theory name) (outcome_lines (outcomes_of scripts (parts_of text items))) → IsValid body
unit_sound scripts text items theory es x name body h e p =
    let os = outcomes_of scripts (parts_of text items) in
    let v = proved_sound scripts (parts_of text items) (name_of theory name) (word_proved os (name_of theory name) (lines_complete theory name (lemma_word os) os p)) in
    let found : Some v.0 ≡ Some body = sym v.1 ∙ lemma_found text items theory es x name body h e in
    let same : v.0 ≡ body = cc in
    λ m. ap (truth m) (sym same) ∙ v.2 m

-- what a report prints as complete is TRUE, where a text has at most one answer
pub report_sound : OneAnswer → (text : List ℕ) (lines : List Line) → IsReport text lines → IsSound text lines
report_sound one text _ (of_text scripts read a k) u theory es x name body m r h e c f =
    let is_unit : answer_lines scripts text a ≡ outcome_lines (outcomes_of scripts (parts_of text u.items)) = ap (answer_lines scripts text) (one text a (Ok u) k r) in
    unit_sound scripts text u.items theory es x name body h e
    (subst (λ (ls : List Line). Has (complete theory name) ls) is_unit (before_total (answer_lines scripts text a) theory name c)) m
