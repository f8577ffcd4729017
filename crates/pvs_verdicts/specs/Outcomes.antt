-- The parts of a unit with the outcomes of the proofs among them, and the words for lemmas that follow.
--
-- A lemma is complete where a proof proves it, and open where none does. None is incomplete so far: a proof cites no other formula, and no declaration
-- of an accepted theory owes a condition, so that a proved lemma rests on no open formula.
use Rattle.std.specs.Prelude.{Bool, false, if◌then◌else◌, List, [], ◌∷◌, ◌++◌}
use Rattle.std.specs.List.{list_any}
use Rattle.pvs_base.specs.declared.code.Fault.{Fault}
use Rattle.pvs_terms.specs.Tree.{Text}
use Rattle.pvs_sig.specs.Signature.{Signature}
use Rattle.pvs_replay.specs.Replaying.{Outcome, Proved}
use Rattle.pvs_report.specs.Lines.{LineWord, CompleteWord, OpenWord}
use Rattle.pvs_verdicts.specs.Names.{FormulaName, is_same, named_by}
use Rattle.pvs_verdicts.specs.Parts.{Part, Accepted, Rejected, Proving}
use Rattle.pvs_verdicts.specs.Verdicts.{Scripts, verdict}

-- a part of a unit with its outcome
pub data PartOutcome : Type 0 where
  -- an accepted theory
  TheoryAccepted : Signature → PartOutcome
  -- a theory that is refused with a fault
  TheoryRefused : Text → Fault → PartOutcome
  -- a proof of the formula of this name
  ProofOutcome : FormulaName → Outcome → PartOutcome

-- the outcome of a part, in a unit with these parts, where earlier proofs name these formulas
abbrev pub part_outcome : Scripts → List Part → List FormulaName → Part → PartOutcome
part_outcome scripts parts earlier (Accepted s) = TheoryAccepted s
part_outcome scripts parts earlier (Rejected theory f) = TheoryRefused theory f
part_outcome scripts parts earlier (Proving text p) = ProofOutcome (named_by text p) (verdict scripts parts earlier text p)

-- the formula that a part names where it is a proof
abbrev pub names_in : Part → List FormulaName
names_in (Proving text p) = named_by text p ∷ []
names_in _ = []

-- the outcomes of the last parts of a unit, where the proofs before them name these formulas
abbrev pub outcomes_after : Scripts → List Part → List FormulaName → List Part → List PartOutcome
outcomes_after scripts parts earlier [] = []
outcomes_after scripts parts earlier (p ∷ ps) = part_outcome scripts parts earlier p ∷ outcomes_after scripts parts (earlier ++ names_in p) ps

-- the outcomes of the parts of a unit, in order
abbrev pub outcomes_of : Scripts → List Part → List PartOutcome
outcomes_of scripts parts = outcomes_after scripts parts [] parts

-- whether an outcome is that of a proof that proves this formula
abbrev pub proves : FormulaName → PartOutcome → Bool
proves n (ProofOutcome m (Proved cited uses)) = is_same n m
proves n _ = false

-- the word for each lemma of a unit whose parts have these outcomes
abbrev pub lemma_word : List PartOutcome → FormulaName → LineWord
lemma_word os n = if list_any (proves n) os then CompleteWord else OpenWord
