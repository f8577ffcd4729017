-- What one more part does to the outcomes of the parts of a unit.
use Rattle.std.proofs.Common.{◌≡◌, ◌∙◌, ◌||◌, Bool, true, false, List, [], ◌∷◌, ◌++◌, Option, Some, None, is_some, if◌then◌else◌, map, flat_map, refl, sym, ap, ap₂, append_assoc, append-nil}
use Rattle.std.proofs.Math.Path.{fun_ext}
use Rattle.std.specs.Option.{option_or}
use Rattle.std.specs.List.{list_any}
use Rattle.pvs_theory.specs.Names.{FormulaName}
use Rattle.pvs_theory.specs.Theories.{Part}
use Rattle.pvs_cli.specs.Verdicts.{Scripts}
use Rattle.pvs_report.specs.Lines.{Line, LineWord, CompleteWord, OpenWord}
use Rattle.pvs_replay.specs.Replaying.{Outcome, Proved, Open, Refused}
use Rattle.pvs_cli.specs.Reporting.{outcome_lines, part_lines, proof_line}
use Rattle.pvs_cli.specs.code.Shown.{outcome_shown, plain, summary}
use Rattle.pvs_cli.specs.Outcomes.{PartOutcome, TheoryAccepted, TheoryRefused, ProofOutcome, lemma_word, names_in, outcomes_after, part_outcome, proves}

-- the formulas that the proofs among these parts name
abbrev pub names_of : List Part → List FormulaName
names_of parts = flat_map names_in parts

module _ (scripts : Scripts) (all : List Part) where
  -- one more part at the end
  pub outcomes_push : (earlier : List FormulaName) (ps : List Part) (p : Part) → outcomes_after scripts all earlier (ps ++ p ∷ []) ≡ outcomes_after scripts all earlier ps ++ part_outcome scripts all (earlier ++ names_of ps) p ∷ []
  outcomes_push earlier [] p = ap (λ (ns : List FormulaName). part_outcome scripts all ns p ∷ []) (sym (append-nil earlier))
  outcomes_push earlier (q ∷ ps) p =
      ap (λ (os : List PartOutcome). part_outcome scripts all earlier q ∷ os) (outcomes_push (earlier ++ names_in q) ps p)
      ∙ ap (λ (ns : List FormulaName). part_outcome scripts all earlier q ∷ outcomes_after scripts all (earlier ++ names_in q) ps ++ part_outcome scripts all ns p ∷ []) (append_assoc earlier (names_in q) (names_of ps))

-- a formula that is proved or not, where one more may be
pub one_more : {V : Type 0} (old new : Option V) (v : V) (same : Bool) → new ≡ option_or old (if same then Some v else None) → is_some new ≡ is_some old || same
one_more None new v true is = ap is_some is
one_more None new v false is = ap is_some is
one_more (Some w) new v same is = ap is_some is

-- the words by a test that says which formulas are proved
pub same_words : (test : FormulaName → Bool) (os : List PartOutcome) → ((n : FormulaName) → test n ≡ list_any (proves n) os)
    → (λ (n : FormulaName). let w : LineWord = if test n then CompleteWord else OpenWord in w) ≡ lemma_word os
same_words test os h = fun_ext (λ n. ap (λ (b : Bool). let w : LineWord = if b then CompleteWord else OpenWord in w) (h n))

-- ---- What a report does not say of outcomes changes nothing in it.

plain_proves : (n : FormulaName) (o : PartOutcome) → proves n (plain o) ≡ proves n o
plain_proves n (TheoryAccepted theory es) = refl
plain_proves n (TheoryRefused theory f) = refl
plain_proves n (ProofOutcome m (Proved cited uses)) = refl
plain_proves n (ProofOutcome m (Open q)) = refl
plain_proves n (ProofOutcome m (Refused f)) = refl

plain_any : (n : FormulaName) (os : List PartOutcome) → list_any (proves n) (map plain os) ≡ list_any (proves n) os
plain_any n [] = refl
plain_any n (o ∷ os) = ap₂ (λ (a b : Bool). a || b) (plain_proves n o) (plain_any n os)

plain_words : (os : List PartOutcome) → lemma_word (map plain os) ≡ lemma_word os
plain_words os = fun_ext (λ n. ap (λ (b : Bool). let w : LineWord = if b then CompleteWord else OpenWord in w) (plain_any n os))

plain_line : (n : FormulaName) (o : Outcome) → proof_line n (outcome_shown (summary o)) ≡ proof_line n o
plain_line n (Proved cited uses) = refl
plain_line n (Open q) = refl
plain_line n (Refused f) = refl

plain_part : (word : FormulaName → LineWord) (o : PartOutcome) → part_lines word (plain o) ≡ part_lines word o
plain_part word (TheoryAccepted theory es) = refl
plain_part word (TheoryRefused theory f) = refl
plain_part word (ProofOutcome n o) = plain_line n o

plain_parts : (word : FormulaName → LineWord) (os : List PartOutcome) → flat_map (part_lines word) (map plain os) ≡ flat_map (part_lines word) os
plain_parts word [] = refl
plain_parts word (o ∷ os) = ap₂ (λ (ls ms : List Line). ls ++ ms) (plain_part word o) (plain_parts word os)

pub plain_lines : (os : List PartOutcome) → outcome_lines (map plain os) ≡ outcome_lines os
plain_lines os = ap (λ (w : FormulaName → LineWord). flat_map (part_lines w) (map plain os)) (plain_words os) ∙ plain_parts (lemma_word os) os
