use Rattle.std.proofs.Common.{◌≡◌, [], ◌∷◌, ◌++◌, drop}
use Rattle.pvs_terms.specs.Stored.{Extends}
use Rattle.pvs_sequent.specs.Numbers.{sequent_at}
use Rattle.pvs_replay.specs.Numbers.{outcome_at}
use Rattle.pvs_replay.specs.Replaying.{after, run}
use Rattle.pvs_replay.proofs.RunLaws.{IsSoFar}
use Rattle.pvs_replay.proofs.replaying.run_steps.Given as goal

-- the steps that are left come to what all of them come to
abbrev pub invariant-loop-step : goal.invariant-loop-step
invariant-loop-step g l = record {
  kept : Extends (g.R.Rules.stored l.fn.rules) (g.R.Rules.stored l.rules);
  same : g.R.Rules.effect l.rules ≡ g.R.Rules.effect l.fn.rules;
  left : IsSoFar (g.R.Rules.effect l.fn.rules) (after (outcome_at (g.R.Rules.stored l.fn.rules) l.fn.before) (run (g.R.Rules.effect l.fn.rules) l.fn.steps (sequent_at (g.R.Rules.stored l.fn.rules) l.fn.sequent)))
      (g.R.Rules.stored l.rules) (drop l.step-index l.inner ++ l.last ∷ []) l.so_far l.current;
}
