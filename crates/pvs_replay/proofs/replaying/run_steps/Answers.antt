use Rattle.std.proofs.Common.{◌∙◌, ◌+◌, ◌++◌, [], ◌∷◌, List, drop, get_or, subst}
use Rattle.pvs_terms.proofs.StoredLaws.{extends_trans}
use Rattle.pvs_script.specs.declared.tree.Step.{Step}
use Rattle.pvs_script.specs.declared.tree.Rule.TheVariants as rule
use Rattle.pvs_sequent.specs.Numbers.{sequent_at}
use Rattle.pvs_sequent.proofs.Lists.{drop_more}
use Rattle.pvs_replay.specs.declared.outcome.Inner.TheVariants as inner
use Rattle.pvs_replay.specs.Effects.{Effects}
use Rattle.pvs_replay.specs.Numbers.{IsInner, outcome_at}
use Rattle.pvs_replay.specs.Replaying.{after, run}
use Rattle.pvs_replay.proofs.RunLaws.{IsSoFar, so_far_goes, so_far_stops, no_items}
use Rattle.pvs_replay.proofs.replaying.run_steps.Goals as goal

-- what a slice of steps is read as past its end
abbrev no_step : Step
no_step = record { rule = rule.Axiom; pos = record { line = 0; col = 0 } }

pub loop-step-preserved : goal.loop-step-preserved
loop-step-preserved g c =
    let i = c.loop-step.invariant in
    let h = rw c.in-Goes.is at c.in_ok-outcome.ensures.inner in
    let x = get_or c.in-Some.inner.now c.loop-step.step-index no_step in
    record {
      kept = extends_trans i.kept c.in_ok-outcome.ensures.kept;
      same = c.in_ok-outcome.ensures.same ∙ i.same;
      left = so_far_goes (g.R.Rules.effect c.args.rules.now)
          (after (outcome_at (g.R.Rules.stored c.args.rules.now) c.args.before) (run (g.R.Rules.effect c.args.rules.now) c.args.steps.now (sequent_at (g.R.Rules.stored c.args.rules.now) c.args.sequent)))
          (g.R.Rules.stored c.loop-step.rules) (g.R.Rules.stored c.run_inner.new.rules) x c.in-Some.last.now (drop (c.loop-step.step-index + 1) c.in-Some.inner.now)
          c.loop-step.so_far c.in-Goes.outcome c.loop-step.current c.in-Goes.premise
          (subst (λ (ys : List Step). IsSoFar (g.R.Rules.effect c.args.rules.now)
          (after (outcome_at (g.R.Rules.stored c.args.rules.now) c.args.before) (run (g.R.Rules.effect c.args.rules.now) c.args.steps.now (sequent_at (g.R.Rules.stored c.args.rules.now) c.args.sequent)))
          (g.R.Rules.stored c.loop-step.rules) (ys ++ c.in-Some.last.now ∷ []) c.loop-step.so_far c.loop-step.current)
          (drop_more c.in-Some.inner.now c.loop-step.step-index no_step c.loop-step-test.true) i.left)
          (subst (λ (e : Effects). IsInner (g.R.Rules.stored c.run_inner.new.rules) (outcome_at (g.R.Rules.stored c.loop-step.rules) c.loop-step.so_far) x.pos
          (e x (sequent_at (g.R.Rules.stored c.loop-step.rules) c.loop-step.current)) (inner.Goes c.in-Goes.outcome c.in-Goes.premise)) i.same h);
    }

pub returns-in-Stops-clause-run : goal.returns-in-Stops-clause-run
returns-in-Stops-clause-run g c =
    let i = c.loop-step.invariant in
    let h = rw c.in-Stops.is at c.in_ok-outcome.ensures.inner in
    let x = get_or c.in-Some.inner.now c.loop-step.step-index no_step in
    so_far_stops (g.R.Rules.effect c.args.rules.now)
    (after (outcome_at (g.R.Rules.stored c.args.rules.now) c.args.before) (run (g.R.Rules.effect c.args.rules.now) c.args.steps.now (sequent_at (g.R.Rules.stored c.args.rules.now) c.args.sequent)))
    (g.R.Rules.stored c.loop-step.rules) (g.R.Rules.stored c.run_inner.new.rules) x c.in-Some.last.now (drop (c.loop-step.step-index + 1) c.in-Some.inner.now)
    c.loop-step.so_far c.in-Stops.outcome c.loop-step.current
    (subst (λ (ys : List Step). IsSoFar (g.R.Rules.effect c.args.rules.now)
    (after (outcome_at (g.R.Rules.stored c.args.rules.now) c.args.before) (run (g.R.Rules.effect c.args.rules.now) c.args.steps.now (sequent_at (g.R.Rules.stored c.args.rules.now) c.args.sequent)))
    (g.R.Rules.stored c.loop-step.rules) (ys ++ c.in-Some.last.now ∷ []) c.loop-step.so_far c.loop-step.current)
    (drop_more c.in-Some.inner.now c.loop-step.step-index no_step c.loop-step-test.true) i.left)
    (subst (λ (e : Effects). IsInner (g.R.Rules.stored c.run_inner.new.rules) (outcome_at (g.R.Rules.stored c.loop-step.rules) c.loop-step.so_far) x.pos
    (e x (sequent_at (g.R.Rules.stored c.loop-step.rules) c.loop-step.current)) (inner.Stops c.in-Stops.outcome)) i.same h)

pub returns-in_default-clause-run : goal.returns-in_default-clause-run
returns-in_default-clause-run g c = rw (no_items c.args.steps.now c.in_default.ensures.cases) (c.in_ok-run.ensures (g.R.Rules.stored c.args.rules.now) c.requires.before c.requires.sequent)
