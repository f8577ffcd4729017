-- What the proof of a formula comes to: its verdict.
--
-- A proof is refused NoSuchFormula at the name of its theory, where the theory is not accepted or has no lemma of that name, or an earlier proof names
-- the same lemma. Else the first fault of its script refuses it. Else the script is replayed on the sequent that has the formula as its one consequent
-- (CSL-97-2, proof rules).
use Rattle.std.specs.Prelude.{Bool, true, false, bytes_eq, if◌then◌else◌, List, [], ◌∷◌, Option, Some, None, Result, Ok, Err}
use Rattle.std.specs.Option.{option_or}
use Rattle.pvs_base.specs.declared.code.Fault.{Fault}
use Rattle.pvs_base.specs.declared.code.Code.TheVariants.{NoSuchFormula}
use Rattle.pvs_syntax.specs.declared.unit.Proof.{Proof}
use Rattle.pvs_script.specs.declared.tree.Script.{Script}
use Rattle.pvs_script.specs.Faults.{IsScriptAnswer}
use Rattle.pvs_terms.specs.Tree.{Text, Tree}
use Rattle.pvs_sig.specs.declared.signature.Class.TheVariants.{Lemma}
use Rattle.pvs_sig.specs.Signature.{Entry, Kind, FormulaSig}
use Rattle.pvs_sequent.specs.Sequents.{Sequent, goal}
use Rattle.pvs_replay.specs.Logic.{logic_effect}
use Rattle.pvs_replay.specs.Replaying.{Outcome, Refused, replay}
use Rattle.pvs_verdicts.specs.Names.{FormulaName, is_listed, named_by}
use Rattle.pvs_verdicts.specs.Parts.{Part, Accepted}

-- for each text and each proof in it a script, or a fault
abbrev pub Scripts : Type 0
Scripts = Text → Proof → Result Script Fault

-- they are the script of each proof, or its first fault
abbrev pub AreScripts : Scripts → Type 0
AreScripts scripts = (text : Text) (p : Proof) → IsScriptAnswer text p (scripts text p)

-- ---- The lemma that a proof names.

-- the formula of an entry that is the lemma of this name
abbrev pub lemma_of : Text → Text → Kind → Option Tree
lemma_of name n (FormulaSig Lemma t owner) = if bytes_eq n name then Some t else None
lemma_of name n _ = None

-- the formula of the first lemma of this name
abbrev pub lemma_named : List Entry → Text → Option Tree
lemma_named [] name = None
lemma_named (e ∷ es) name = option_or (lemma_of name e.name e.kind) (lemma_named es name)

-- the formula of a lemma, where a part is an accepted theory that has it
abbrev pub part_lemma : Part → FormulaName → Option Tree
part_lemma (Accepted s) n = if bytes_eq s.name n.theory then lemma_named s.entries n.formula else None
part_lemma _ n = None

-- the formula of a lemma, where an accepted theory of that name has it
abbrev pub lemma_in : List Part → FormulaName → Option Tree
lemma_in [] n = None
lemma_in (p ∷ ps) n = option_or (part_lemma p n) (lemma_in ps n)

-- ---- Its verdict.

-- the outcome of a script on a sequent, or the first fault of the script
abbrev pub script_outcome : Sequent → Result Script Fault → Outcome
script_outcome q (Ok x) = replay logic_effect x q
script_outcome q (Err f) = Refused f

-- no such formula, at the name of the theory
abbrev pub no_such_formula : Proof → Outcome
no_such_formula p = Refused (record { pos = p.theory.pos; code = NoSuchFormula })

-- The outcome of a proof of a lemma, or of none, where an earlier proof names its formula or none does.
abbrev pub proof_outcome : Proof → Bool → Option Tree → Result Script Fault → Outcome
proof_outcome p named None script = no_such_formula p
proof_outcome p true (Some t) script = no_such_formula p
proof_outcome p false (Some t) script = script_outcome (goal t) script

-- the outcome of a proof of a text, in a unit with these parts, where earlier proofs name these formulas
abbrev pub verdict : Scripts → List Part → List FormulaName → Text → Proof → Outcome
verdict scripts parts earlier text p = proof_outcome p (is_listed (named_by text p) earlier) (lemma_in parts (named_by text p)) (scripts text p)
