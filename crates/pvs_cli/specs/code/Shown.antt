-- What the outcomes of the program stand for in a store, and where the scripts of parts lie. The program keeps of the outcome of a replay
-- only what a report says of it.
use Rattle.std.specs.Prelude.{ℕ, List, [], map, ⊤}
use Rattle.pvs_syntax.specs.declared.unit.Item.TheVariants as item
use Rattle.pvs_parser.specs.Text.{SpanIn}
use Rattle.pvs_terms.specs.Stored.{Stored}
use Rattle.pvs_replay.specs.Replaying.{Proved, Open, Refused}
use Rattle.pvs_replay.specs.Replaying as replaying
use Rattle.pvs_theory.specs.Theories.{Part, Proving}
use Rattle.pvs_theory.specs.code.Shown.{entries_shown}
use Rattle.pvs_cli.specs.declared.outcome.Outcome.{Outcome}
use Rattle.pvs_cli.specs.declared.outcome.Outcome.TheVariants as summarised
use Rattle.pvs_cli.specs.declared.outcomes.PartOutcome as program_outcome
use Rattle.pvs_cli.specs.declared.outcomes.PartOutcome.TheVariants as outcome
use Rattle.pvs_cli.specs.Outcomes.{PartOutcome, TheoryAccepted, TheoryRefused, ProofOutcome}

-- an outcome of replay without what a report does not say
abbrev pub summary : replaying.Outcome → Outcome
summary (Proved cited uses) = summarised.Proved
summary (Open q) = summarised.Open
summary (Refused f) = summarised.Refused f

-- an outcome of replay that has this summary: one that cites nothing, or leaves the empty sequent open
abbrev pub outcome_shown : Outcome → replaying.Outcome
outcome_shown summarised.Proved = Proved [] []
outcome_shown summarised.Open = Open (record { variables = []; antecedents = []; consequents = [] })
outcome_shown (summarised.Refused f) = Refused f

abbrev pub part_outcome_shown : Stored → List ℕ → program_outcome.PartOutcome → PartOutcome
part_outcome_shown s text (outcome.Accepted theory es) = TheoryAccepted theory.now (entries_shown s text es.now)
part_outcome_shown s text (outcome.Rejected theory f) = TheoryRefused theory.now f
part_outcome_shown s text (outcome.Proof theory formula o) = ProofOutcome (record { theory = theory.now; formula = formula.now }) (outcome_shown o)

abbrev pub part_outcomes_shown : Stored → List ℕ → List program_outcome.PartOutcome → List PartOutcome
part_outcomes_shown s text os = map (part_outcome_shown s text) os

-- a part with its outcome, without what a report does not say
abbrev pub plain : PartOutcome → PartOutcome
plain (TheoryAccepted theory es) = TheoryAccepted theory es
plain (TheoryRefused theory f) = TheoryRefused theory f
plain (ProofOutcome n o) = ProofOutcome n (outcome_shown (summary o))

-- the script of a part that is a proof lies in its text
abbrev pub IsPartIn : Part → Type 0
IsPartIn (Proving text p) = SpanIn text (item.Proof p)
IsPartIn _ = ⊤
