-- A report is sound: what its lines say is complete holds.
use Rattle.std.proofs.Common.{◌≡◌, ◌∙◌, sym, ap, subst, refl, ℕ, Bool, true, false, if◌then◌else◌, ◌⊎◌, inl, inr, List, [], ◌∷◌, flat_map, slice_get, option_map, Contains, Some, Ok}
use Rattle.std.specs.List.{list_any}
use Rattle.pvs_syntax.specs.declared.unit.Item.{Item}
use Rattle.pvs_parser.proofs.Texts.{one_answer}
use Rattle.pvs_terms.specs.Tree.{Text, Tree}
use Rattle.pvs_sig.specs.declared.signature.Class.{Class}
use Rattle.pvs_sig.specs.declared.signature.Class.TheVariants.{Axiom, Lemma}
use Rattle.pvs_sig.specs.Signature.{Signature, Entry, Kind, TypeSig, ConstSig, VarSig, FormulaSig, entry_kind}
use Rattle.pvs_replay.specs.Replaying.{Outcome, Proved, Open, Refused}
use Rattle.pvs_proof_soundness.specs.Holds.{IsProved}
use Rattle.pvs_report.specs.Lines.{Line, LineWord, FormulaLine, CompleteWord, OpenWord, TotalLine, totals_of}
use Rattle.pvs_verdicts.specs.Names.{FormulaName}
use Rattle.pvs_verdicts.specs.Parts.{Accepted, parts_of}
use Rattle.pvs_verdicts.specs.Verdicts.{Scripts}
use Rattle.pvs_verdicts.specs.Outcomes.{PartOutcome, TheoryAccepted, TheoryRefused, ProofOutcome, lemma_word, outcomes_of, proves}
use Rattle.pvs_verdicts.specs.Reporting.{answer_lines, entry_lines, of_text, outcome_lines, part_lines, proof_line, with_total}
use Rattle.pvs_verdicts.specs.Soundness.{ReportsAreSound}
use Rattle.pvs_verdicts.proofs.Members.{Has, has_append, has_contained, has_flat_map}
use Rattle.pvs_verdicts.proofs.PartLaws.{lemma_found, accepted_part_holds}
use Rattle.pvs_verdicts.proofs.SoundVerdicts.{unit_proves}

-- a complete line of a formula
abbrev complete : Text → Text → Line
complete theory name = FormulaLine theory name CompleteWord

abbrev name_of : Text → Text → FormulaName
name_of theory name = record { theory = theory; formula = name }

-- a lemma whose word is complete is proved
word_proved : (os : List PartOutcome) (n : FormulaName) → lemma_word os n ≡ CompleteWord → list_any (proves n) os ≡ true
word_proved os n h = go (list_any (proves n) os) h
  where
    go : (b : Bool) → (let w : LineWord = if b then CompleteWord else OpenWord in w) ≡ CompleteWord → b ≡ true
    go true h = refl
    go false h = cc

module _ (theory name : Text) (word : FormulaName → LineWord) where
  formula_complete : (here n : Text) (c : Class) (t : Tree) (o : ℕ) → Has (complete theory name) (entry_lines word here n (FormulaSig c t o)) → word (name_of theory name) ≡ CompleteWord
  formula_complete here n Axiom t o (inl e) = cc
  formula_complete here n Axiom t o (inr h) = absurd h
  formula_complete here n Lemma t o (inl e) =
      let theories : here ≡ theory = cc in
      let same : n ≡ name = cc in
      let complete : word (name_of here n) ≡ CompleteWord = cc in
      subst (λ (u : Text). word (name_of theory u) ≡ CompleteWord) same (subst (λ (u : Text). word (name_of u n) ≡ CompleteWord) theories complete)
  formula_complete here n Lemma t o (inr h) = absurd h
  formula_complete here n _ t o h = absurd h

  entry_complete : (here n : Text) (k : Kind) → Has (complete theory name) (entry_lines word here n k) → word (name_of theory name) ≡ CompleteWord
  entry_complete here n (TypeSig b a) h = absurd h
  entry_complete here n (ConstSig a t) h = absurd h
  entry_complete here n (VarSig a) h = absurd h
  entry_complete here n (FormulaSig c t o) h = formula_complete here n c t o h

  -- no line of a proof says that a formula is complete
  proof_not_complete : (n : FormulaName) (o : Outcome) → Has (complete theory name) (proof_line n o) → ⊥
  proof_not_complete n (Proved cited uses) h = h
  proof_not_complete n (Open q) h = h
  proof_not_complete n (Refused f) (inl e) = cc
  proof_not_complete n (Refused f) (inr h) = h

  part_complete : (o : PartOutcome) → Has (complete theory name) (part_lines word o) → word (name_of theory name) ≡ CompleteWord
  part_complete (TheoryAccepted s) (inl e) = cc
  part_complete (TheoryAccepted s) (inr h) = has_flat_map (λ (e : Entry). entry_lines word s.name e.name e.kind) s.entries (complete theory name) (word (name_of theory name) ≡ CompleteWord) (λ e p. entry_complete s.name e.name e.kind p) h
  part_complete (TheoryRefused here f) (inl e) = cc
  part_complete (TheoryRefused here f) (inr h) = absurd h
  part_complete (ProofOutcome n o) h = absurd (proof_not_complete n o h)

  -- a formula that is reported complete has that word
  lines_complete : (os : List PartOutcome) → Has (complete theory name) (flat_map (part_lines word) os) → word (name_of theory name) ≡ CompleteWord
  lines_complete os h = has_flat_map (part_lines word) os (complete theory name) (word (name_of theory name) ≡ CompleteWord) part_complete h

-- the last line adds no complete one
before_total : (ls : List Line) (theory name : Text) → Contains (with_total ls) (complete theory name) → Has (complete theory name) ls
before_total ls theory name h = go (has_append ls (TotalLine (totals_of ls) ∷ []) (complete theory name) (has_contained (with_total ls) (complete theory name) h))
  where
    go : Has (complete theory name) ls ⊎ Has (complete theory name) (TotalLine (totals_of ls) ∷ []) → Has (complete theory name) ls
    go (inl p) = p
    go (inr (inl e)) = cc
    go (inr (inr p)) = absurd p

-- some script proves the lemma of an accepted theory that the lines of its unit report complete
unit_complete : (scripts : Scripts) (text : Text) (items : List Item) (s : Signature) (x : ℕ) (name : Text) (body : Tree) (owner : ℕ) → Has (Accepted s) (parts_of text items)
    → slice_get s.entries x ≡ Some (record { name = name; kind = FormulaSig Lemma body owner })
    → Has (complete s.name name) (outcome_lines (outcomes_of scripts (parts_of text items))) → IsProved body
unit_complete scripts text items s x name body owner h e p =
    let os = outcomes_of scripts (parts_of text items) in
    let v = unit_proves scripts (parts_of text items) (name_of s.name name) (word_proved os (name_of s.name name) (lines_complete s.name name (lemma_word os) os p)) in
    let found : Some v.0 ≡ Some body = sym v.1 ∙ lemma_found text items s x name body owner h e in
    let same : v.0 ≡ body = cc in
    subst IsProved same v.2

-- what a report says is complete holds
pub reports_sound : ReportsAreSound
reports_sound text _ (of_text scripts read a k) u s x name body owner m r h e c sets fits =
    let is_unit : answer_lines scripts text a ≡ outcome_lines (outcomes_of scripts (parts_of text u.items)) = ap (answer_lines scripts text) (one_answer text a (Ok u) k r) in
    let accepted = has_contained (parts_of text u.items) (Accepted s) h in
    let proved = unit_complete scripts text u.items s x name body owner accepted e (subst (λ (ls : List Line). Has (complete s.name name) ls) is_unit (before_total (answer_lines scripts text a) s.name name c)) in
    accepted_part_holds text u.items s accepted x Lemma body owner (ap (option_map entry_kind) e) proved m sets fits
