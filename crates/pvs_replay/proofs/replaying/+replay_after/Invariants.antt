use Rattle.std.proofs.Common.{◌≡◌, ◌+◌, drop, length, map}
use Rattle.std.specs.Vec.Iter.{into_iter_items, into_iter_len}
use Rattle.pvs_terms.specs.Stored.{Extends}
use Rattle.pvs_sequent.specs.Numbers.{sequent_at, sequents_at, AreSequents}
use Rattle.pvs_replay.specs.Replaying.{both, branches, replay}
use Rattle.pvs_replay.specs.Numbers.{outcome_at, OutcomeIn}
use Rattle.pvs_replay.proofs.replaying.+replay_after.Given as goal

-- the outcome so far, and the scripts and premises that are left
abbrev pub invariant-loop-tree : goal.invariant-loop-tree
invariant-loop-tree g l = record {
  kept : Extends (g.R.Rules.stored l.fn.rules) (g.R.Rules.stored l.rules);
  same : g.R.Rules.effect l.rules ≡ g.R.Rules.effect l.fn.rules;
  numbers : OutcomeIn (g.R.Rules.stored l.rules) l.so_far;
  nodes : AreSequents (g.R.Rules.stored l.rules) (into_iter_items l.left);
  count : length (into_iter_items l.left) ≡ into_iter_len l.left;
  left : length (into_iter_items l.left) + l.tree-index ≡ length l.trees;
  is : both (outcome_at (g.R.Rules.stored l.rules) l.so_far) (branches (map (replay (g.R.Rules.effect l.fn.rules)) (drop l.tree-index l.trees)) (sequents_at (g.R.Rules.stored l.rules) (into_iter_items l.left)))
      ≡ both (outcome_at (g.R.Rules.stored l.fn.rules) l.fn.before) (replay (g.R.Rules.effect l.fn.rules) l.fn.script (sequent_at (g.R.Rules.stored l.fn.rules) l.fn.sequent));
}
