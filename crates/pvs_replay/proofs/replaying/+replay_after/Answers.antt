use Rattle.std.proofs.Common.{◌≡◌, ◌≢◌, ◌∙◌, ◌+◌, List, ◌∷◌, drop, length, map, arith, rules, sym, ap, subst}
use Rattle.std.specs.Vec.Iter.{into_iter_items}
use Rattle.pvs_terms.proofs.StoredLaws.{extends_trans}
use Rattle.pvs_script.specs.declared.tree.Step.{Step}
use Rattle.pvs_script.specs.declared.tree.Script.{Script, out-Script}
use Rattle.pvs_sequent.specs.Numbered.{Numbered}
use Rattle.pvs_sequent.specs.Numbers.{sequent_at, sequents_at}
use Rattle.pvs_sequent.proofs.ExtendsLaws.{sequents_extend}
use Rattle.pvs_replay.specs.Effects.{Effects}
use Rattle.pvs_replay.specs.Numbers.{outcome_at, IsOutcome}
use Rattle.pvs_replay.specs.Replaying.{after, both, branches, replay, run}
use Rattle.pvs_replay.proofs.ScriptLaws.{replay_counted, replay_miscounted, branch_turn, left_more, branches_done, counts_same, counts_differ}
use Rattle.pvs_replay.proofs.replaying.+replay_after.Goals as goal

pub loop-tree-init : goal.loop-tree-init
loop-tree-init g t c =
    let r = rw c.in-Leaves.is at c.in_ok-outcome.ensures.run in
    let e : length c.in-Leaves.premises.items ≡ length c.as_slice-trees.result.now = search rules in
    let n = counts_same (length c.in-Leaves.premises.items) (length (out-Script c.args.script.now).trees) (e ∙ ap (λ (xs : List Script). length xs) c.as_slice-trees.ensures) in
    record {
      kept = c.in_ok-outcome.ensures.kept;
      same = c.in_ok-outcome.ensures.same;
      numbers = r.numbers.0;
      nodes = rw c.into_iter-left.ensures.rest r.numbers.1;
      count = search rules;
      left = rw c.into_iter-left.ensures.rest (omega arith);
      is = rw (c.into_iter-left.ensures.rest, c.as_slice-trees.ensures)
          (replay_counted (g.R.Rules.effect c.args.rules.now) c.args.script.now (sequent_at (g.R.Rules.stored c.args.rules.now) c.args.sequent) (outcome_at (g.R.Rules.stored c.args.rules.now) c.args.before) (outcome_at (g.R.Rules.stored c.run_steps.new.rules) c.in-Leaves.outcome) c.in-Leaves.pos (g.R.Rules.stored c.run_steps.new.rules) c.in-Leaves.premises.items
          (r.is ∙ ap (λ (xs : List Step). after (outcome_at (g.R.Rules.stored c.args.rules.now) c.args.before) (run (g.R.Rules.effect c.args.rules.now) xs (sequent_at (g.R.Rules.stored c.args.rules.now) c.args.sequent))) c.as_slice-steps.ensures) n);
    }

pub returns-then-len-trees-clause-outcome : goal.returns-then-len-trees-clause-outcome
returns-then-len-trees-clause-outcome g t c =
    let r = rw c.in-Leaves.is at c.in_ok-outcome.ensures.run in
    let e : length c.in-Leaves.premises.items ≢ length c.as_slice-trees.result.now = search rules in
    let n = counts_differ (length c.in-Leaves.premises.items) (length (out-Script c.args.script.now).trees) (λ z. e (z ∙ sym (ap (λ (xs : List Script). length xs) c.as_slice-trees.ensures))) in
    record {
      numbers = c.in_ok-refused.ensures.numbers (g.R.Rules.stored c.run_steps.new.rules) r.numbers.0 (c.wrong_count.ensures.numbers (g.R.Rules.stored c.run_steps.new.rules));
      is = c.in_ok-refused.ensures.is (g.R.Rules.stored c.run_steps.new.rules) ∙ ap (both (outcome_at (g.R.Rules.stored c.run_steps.new.rules) c.in-Leaves.outcome)) (c.wrong_count.ensures.is (g.R.Rules.stored c.run_steps.new.rules))
          ∙ replay_miscounted (g.R.Rules.effect c.args.rules.now) c.args.script.now (sequent_at (g.R.Rules.stored c.args.rules.now) c.args.sequent) (outcome_at (g.R.Rules.stored c.args.rules.now) c.args.before) (outcome_at (g.R.Rules.stored c.run_steps.new.rules) c.in-Leaves.outcome) c.in-Leaves.pos (g.R.Rules.stored c.run_steps.new.rules) c.in-Leaves.premises.items
          (r.is ∙ ap (λ (xs : List Step). after (outcome_at (g.R.Rules.stored c.args.rules.now) c.args.before) (run (g.R.Rules.effect c.args.rules.now) xs (sequent_at (g.R.Rules.stored c.args.rules.now) c.args.sequent))) c.as_slice-steps.ensures) n;
    }

pub loop-tree-preserved : goal.loop-tree-preserved
loop-tree-preserved g t c =
    let i = c.loop-tree.invariant in
    let k = c.in-Some.ensures.cases.0 in
    let m = c.in-Some.ensures.cases.1 in
    let h = rw k at i.nodes in
    let z = sym (ap (λ (qs : List Numbered). length qs) k) ∙ i.count in
    let y = ap (λ (qs : List Numbered). length qs + c.loop-tree.tree-index) (sym k) ∙ i.left in
    let out = c.in_ok-so_far.ensures.outcome in
    record {
      kept = extends_trans i.kept c.in_ok-so_far.ensures.kept;
      same = c.in_ok-so_far.ensures.same ∙ i.same;
      numbers = out.numbers;
      nodes = sequents_extend (g.R.Rules.stored c.loop-tree.rules) (g.R.Rules.stored c.replay_after.new.rules) (into_iter_items c.next.new.self) c.in_ok-so_far.ensures.kept h.1;
      count = omega arith;
      left = omega arith;
      is = branch_turn (g.R.Rules.effect c.args.rules.now) (both (outcome_at (g.R.Rules.stored c.args.rules.now) c.args.before) (replay (g.R.Rules.effect c.args.rules.now) c.args.script.now (sequent_at (g.R.Rules.stored c.args.rules.now) c.args.sequent))) (g.R.Rules.stored c.loop-tree.rules) (g.R.Rules.stored c.replay_after.new.rules) c.tree-item.result (drop (c.loop-tree.tree-index + 1) c.as_slice-trees.result.now) c.in-Some.premise (into_iter_items c.next.new.self)
          c.loop-tree.so_far c.in_ok-so_far.so_far
          (subst (λ (xs : List Script). both (outcome_at (g.R.Rules.stored c.loop-tree.rules) c.loop-tree.so_far) (branches (map (replay (g.R.Rules.effect c.args.rules.now)) xs) (sequents_at (g.R.Rules.stored c.loop-tree.rules) (c.in-Some.premise ∷ into_iter_items c.next.new.self))) ≡ (both (outcome_at (g.R.Rules.stored c.args.rules.now) c.args.before) (replay (g.R.Rules.effect c.args.rules.now) c.args.script.now (sequent_at (g.R.Rules.stored c.args.rules.now) c.args.sequent))))
          (left_more c.as_slice-trees.result.now c.loop-tree.tree-index c.tree-item.result c.loop-tree-test.true c.tree-item.is)
          (subst (λ (qs : List Numbered). both (outcome_at (g.R.Rules.stored c.loop-tree.rules) c.loop-tree.so_far) (branches (map (replay (g.R.Rules.effect c.args.rules.now)) (drop c.loop-tree.tree-index c.as_slice-trees.result.now)) (sequents_at (g.R.Rules.stored c.loop-tree.rules) qs)) ≡ (both (outcome_at (g.R.Rules.stored c.args.rules.now) c.args.before) (replay (g.R.Rules.effect c.args.rules.now) c.args.script.now (sequent_at (g.R.Rules.stored c.args.rules.now) c.args.sequent)))) k i.is))
          c.in_ok-so_far.ensures.kept h.1
          (subst (λ (e : Effects). IsOutcome (g.R.Rules.stored c.replay_after.new.rules) (both (outcome_at (g.R.Rules.stored c.loop-tree.rules) c.loop-tree.so_far) (replay e c.tree-item.result (sequent_at (g.R.Rules.stored c.loop-tree.rules) c.in-Some.premise))) c.in_ok-so_far.so_far) i.same out);
    }

pub returns-clause-outcome : goal.returns-clause-outcome
returns-clause-outcome g t c =
    let i = c.loop-tree.invariant in
    record {
      numbers = i.numbers;
      is = branches_done (g.R.Rules.effect c.args.rules.now) (both (outcome_at (g.R.Rules.stored c.args.rules.now) c.args.before) (replay (g.R.Rules.effect c.args.rules.now) c.args.script.now (sequent_at (g.R.Rules.stored c.args.rules.now) c.args.sequent))) (g.R.Rules.stored c.loop-tree.rules) c.as_slice-trees.result.now c.loop-tree.tree-index (into_iter_items c.loop-tree.left) c.loop-tree.so_far i.is c.loop-tree-test.false i.left;
    }
