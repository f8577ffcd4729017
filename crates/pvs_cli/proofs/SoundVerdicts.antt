-- What is proved is true: a lemma that a proof proves is TRUE under every truth assignment.
use Rattle.std.proofs.Common.{◌≡◌, ◌∙◌, refl, ap, ℕ, Bool, true, false, ◌⊎◌, inl, inr, List, [], ◌∷◌, ◌++◌, Option, Some, None, Result, Ok, Err}
use Rattle.std.specs.List.{list_any}
use Rattle.std.proofs.lemmas.Bool.{or_cases}
use Rattle.pvs_base.specs.declared.code.Fault.{Fault}
use Rattle.pvs_syntax.specs.declared.unit.Proof.{Proof}
use Rattle.pvs_script.specs.declared.tree.Script.{Script}
use Rattle.pvs_terms.specs.Tree.{Tree, Ref}
use Rattle.pvs_sem.specs.Truth.{TruthAssignment, truth}
use Rattle.pvs_sequent.specs.Sequents.{goal}
use Rattle.pvs_sequent.proofs.GoalLaws.{true_goal}
use Rattle.pvs_replay.specs.Replaying.{Outcome, Proved, Open, Refused}
use Rattle.pvs_replay.proofs.SoundReplay.{logic_sound}
use Rattle.pvs_theory.specs.Names.{FormulaName, is_listed, is_same, named_by}
use Rattle.pvs_theory.specs.Theories.{Part, Accepted, Rejected, Proving}
use Rattle.pvs_cli.specs.Verdicts.{Scripts, lemma_in, proof_outcome, script_outcome, verdict}
use Rattle.pvs_cli.specs.Outcomes.{ProofOutcome, names_in, outcomes_after, outcomes_of, part_outcome, proves}
use Rattle.pvs_theory.proofs.IndexLaws.{same_formula}

-- TRUE under every truth assignment
abbrev pub IsValid : Tree → Type 0
IsValid t = (v : TruthAssignment) → truth v t ≡ true

-- a name that the parts have a lemma for, whose formula is TRUE under every truth assignment
abbrev pub IsValidLemma : List Part → FormulaName → Type 0
IsValidLemma parts n = (t : Tree) × (lemma_in parts n ≡ Some t) × IsValid t

-- the formula of a goal that a script proves
pub script_sound : (t : Tree) (r : Result Script Fault) (cited uses : List Ref) → script_outcome (goal t) r ≡ Proved cited uses → IsValid t
script_sound t (Ok x) cited uses h = λ v. true_goal v t (logic_sound v x (goal t) cited uses h)
script_sound t (Err f) cited uses h = cc

-- a proof that proves has a formula, and it is TRUE
pub proof_sound : (p : Proof) (named : Bool) (o : Option Tree) (r : Result Script Fault) (cited uses : List Ref) → proof_outcome p named o r ≡ Proved cited uses → (t : Tree) × (o ≡ Some t) × IsValid t
proof_sound p named None r cited uses h = cc
proof_sound p true (Some t) r cited uses h = cc
proof_sound p false (Some t) r cited uses h = (t, refl, script_sound t r cited uses h)

-- an outcome that proves a formula is that of a proof of it
proves_proved : (n m : FormulaName) (o : Outcome) → proves n (ProofOutcome m o) ≡ true → (cited : List Ref) × (uses : List Ref) × (o ≡ Proved cited uses) × (is_same n m ≡ true)
proves_proved n m (Proved cited uses) h = (cited, uses, refl, h)
proves_proved n m (Open q) h = cc
proves_proved n m (Refused f) h = cc

module _ (scripts : Scripts) (parts : List Part) where
  -- a proof after earlier ones that proves
  pub verdict_sound : (earlier : List FormulaName) (text : List ℕ) (p : Proof) (cited uses : List Ref) → verdict scripts parts earlier text p ≡ Proved cited uses → IsValidLemma parts (named_by text p)
  verdict_sound earlier text p cited uses h = proof_sound p (is_listed (named_by text p) earlier) (lemma_in parts (named_by text p)) (scripts text p) cited uses h

  -- the formula that a part proves
  pub part_sound : (earlier : List FormulaName) (p : Part) (n : FormulaName) → proves n (part_outcome scripts parts earlier p) ≡ true → IsValidLemma parts n
  part_sound earlier (Accepted theory es) n h = cc
  part_sound earlier (Rejected theory f) n h = cc
  part_sound earlier (Proving text p) n h =
      let q = proves_proved n (named_by text p) (verdict scripts parts earlier text p) h in
      let v = verdict_sound earlier text p q.0 q.1 q.2 in
      (v.0, ap (lemma_in parts) (same_formula n (named_by text p) q.3) ∙ v.1, v.2)

  pub parts_sound : (earlier : List FormulaName) (ps : List Part) (n : FormulaName) → list_any (proves n) (outcomes_after scripts parts earlier ps) ≡ true → IsValidLemma parts n
  parts_sound earlier [] n h = cc
  parts_sound earlier (p ∷ ps) n h = go (parts_sound (earlier ++ names_in p) ps n) (or_cases (proves n (part_outcome scripts parts earlier p)) (list_any (proves n) (outcomes_after scripts parts (earlier ++ names_in p) ps)) h)
    where
      go : (list_any (proves n) (outcomes_after scripts parts (earlier ++ names_in p) ps) ≡ true → IsValidLemma parts n)
          → (proves n (part_outcome scripts parts earlier p) ≡ true) ⊎ (list_any (proves n) (outcomes_after scripts parts (earlier ++ names_in p) ps) ≡ true) → IsValidLemma parts n
      go k (inl e) = part_sound earlier p n e
      go k (inr e) = k e

  -- the formulas that are proved are lemmas that are TRUE
  pub proved_sound : (n : FormulaName) → list_any (proves n) (outcomes_of scripts parts) ≡ true → IsValidLemma parts n
  proved_sound n h = parts_sound [] parts n h
