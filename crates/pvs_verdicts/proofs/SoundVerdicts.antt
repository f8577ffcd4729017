-- What is proved: a formula that a proof of the unit proves is a lemma that some script proves.
use Rattle.std.proofs.Common.{◌≡◌, ◌∙◌, refl, ap, Bool, true, false, ◌⊎◌, inl, inr, List, [], ◌∷◌, ◌++◌, Option, Some, None, Result, Ok, Err}
use Rattle.std.specs.List.{list_any}
use Rattle.std.proofs.lemmas.Bool.{or_cases}
use Rattle.pvs_base.specs.declared.code.Fault.{Fault}
use Rattle.pvs_syntax.specs.declared.unit.Proof.{Proof}
use Rattle.pvs_script.specs.declared.tree.Script.{Script}
use Rattle.pvs_terms.specs.Tree.{Tree, Ref}
use Rattle.pvs_sequent.specs.Sequents.{goal}
use Rattle.pvs_replay.specs.Replaying.{Outcome, Proved, Open, Refused}
use Rattle.pvs_proof_soundness.specs.Holds.{IsProved}
use Rattle.pvs_verdicts.specs.Names.{FormulaName, is_listed, is_same, named_by}
use Rattle.pvs_verdicts.specs.Parts.{Part, Accepted, Rejected, Proving}
use Rattle.pvs_verdicts.specs.Verdicts.{Scripts, lemma_in, proof_outcome, script_outcome, verdict}
use Rattle.pvs_verdicts.specs.Outcomes.{ProofOutcome, names_in, outcomes_after, outcomes_of, part_outcome, proves}
use Rattle.pvs_verdicts.proofs.NameLaws.{same_formula}

-- a name that the parts have a lemma for, which some script proves
abbrev pub IsProvedLemma : List Part → FormulaName → Type 0
IsProvedLemma parts n = (t : Tree) × (lemma_in parts n ≡ Some t) × IsProved t

script_proves : (t : Tree) (r : Result Script Fault) (cited uses : List Ref) → script_outcome (goal t) r ≡ Proved cited uses → IsProved t
script_proves t (Ok x) cited uses h = (x, cited, uses, h)
script_proves t (Err f) cited uses h = cc

-- a proof that proves has a formula
proof_proves : (p : Proof) (named : Bool) (o : Option Tree) (r : Result Script Fault) (cited uses : List Ref) → proof_outcome p named o r ≡ Proved cited uses → (t : Tree) × (o ≡ Some t) × IsProved t
proof_proves p named None r cited uses h = cc
proof_proves p true (Some t) r cited uses h = cc
proof_proves p false (Some t) r cited uses h = (t, refl, script_proves t r cited uses h)

-- an outcome that proves a formula is that of a proof of it
proves_proved : (n m : FormulaName) (o : Outcome) → proves n (ProofOutcome m o) ≡ true → (cited : List Ref) × (uses : List Ref) × (o ≡ Proved cited uses) × (is_same n m ≡ true)
proves_proved n m (Proved cited uses) h = (cited, uses, refl, h)
proves_proved n m (Open q) h = cc
proves_proved n m (Refused f) h = cc

module _ (scripts : Scripts) (parts : List Part) where
  -- the formula that a part proves
  part_proves : (earlier : List FormulaName) (p : Part) (n : FormulaName) → proves n (part_outcome scripts parts earlier p) ≡ true → IsProvedLemma parts n
  part_proves earlier (Accepted s) n h = cc
  part_proves earlier (Rejected theory f) n h = cc
  part_proves earlier (Proving text p) n h =
      let q = proves_proved n (named_by text p) (verdict scripts parts earlier text p) h in
      let v = proof_proves p (is_listed (named_by text p) earlier) (lemma_in parts (named_by text p)) (scripts text p) q.0 q.1 q.2 in
      (v.0, ap (lemma_in parts) (same_formula n (named_by text p) q.3) ∙ v.1, v.2)

  parts_prove : (earlier : List FormulaName) (ps : List Part) (n : FormulaName) → list_any (proves n) (outcomes_after scripts parts earlier ps) ≡ true → IsProvedLemma parts n
  parts_prove earlier [] n h = cc
  parts_prove earlier (p ∷ ps) n h = go (parts_prove (earlier ++ names_in p) ps n) (or_cases (proves n (part_outcome scripts parts earlier p)) (list_any (proves n) (outcomes_after scripts parts (earlier ++ names_in p) ps)) h)
    where
      go : (list_any (proves n) (outcomes_after scripts parts (earlier ++ names_in p) ps) ≡ true → IsProvedLemma parts n)
          → (proves n (part_outcome scripts parts earlier p) ≡ true) ⊎ (list_any (proves n) (outcomes_after scripts parts (earlier ++ names_in p) ps) ≡ true) → IsProvedLemma parts n
      go k (inl e) = part_proves earlier p n e
      go k (inr e) = k e

  -- the formulas that are proved are lemmas that scripts prove
  pub unit_proves : (n : FormulaName) → list_any (proves n) (outcomes_of scripts parts) ≡ true → IsProvedLemma parts n
  unit_proves n h = parts_prove [] parts n h
