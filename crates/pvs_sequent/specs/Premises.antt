-- The premises of a step: the main premises of its rule, and those of its conditions.
use Rattle.std.specs.Prelude.{not, List, [], ◌∷◌, ◌++◌, map, filter, Result, Ok, Err}
use Rattle.pvs_base.specs.declared.code.Code.{Code}
use Rattle.pvs_sequent.specs.declared.place.Side.TheVariants as side
use Rattle.pvs_sequent.specs.Sequents.{Sequent, add, is_closed}
use Rattle.pvs_sequent.specs.Outcomes.{Conditions, Outcome, Refused, Accepted}
use Rattle.pvs_sequent.specs.Conditions.{closed_in}

-- the sequents that the rule axiom does not close, in order
abbrev pub still_open : List Sequent → List Sequent
still_open qs = filter (λ q. not (is_closed q)) qs

-- A rule with one main premise keeps it; of several, those that the rule axiom closes are left out.
abbrev pub kept : List Sequent → List Sequent
kept [] = []
kept (q ∷ []) = q ∷ []
kept (q ∷ r ∷ qs) = still_open (q ∷ r ∷ qs)

-- what a row of the table of rules gives: main premises with conditions, or a code
abbrev pub Premises : Type 0
Premises = Outcome (List Sequent)

-- a premise for each condition: the unchanged sequent with it as a new consequent
abbrev pub owed : Sequent → Conditions → List Sequent
owed q cs = map (λ c. add side.Consequents (closed_in q c) q) cs

-- the premises of a step on a sequent
abbrev pub finished : Sequent → Premises → Result (List Sequent) Code
finished q (Refused c) = Err c
finished q (Accepted ps cs) = Ok (kept ps ++ still_open (owed q cs))
