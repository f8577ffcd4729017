-- A replay is sound: a sequent that a script proves is true, where each step keeps truth.
use Rattle.std.proofs.Common.{◌≡◌, ◌∙◌, refl, sym, ap, subst, ◌==◌, Bool, true, false, if◌then◌else◌, List, [], ◌∷◌, ◌++◌, map, length, Option, Some, None, Result, Ok, Err}
use Rattle.pvs_base.specs.declared.code.Fault.{Fault}
use Rattle.pvs_terms.specs.Tree.{Ref}
use Rattle.pvs_script.specs.declared.tree.Step.{Step}
use Rattle.pvs_script.specs.declared.tree.Script.{Script}
use Rattle.pvs_script.specs.declared.tree.Script.TheOpen.{Script-F}
use Rattle.pvs_script.specs.declared.tree.Script.TheFolds.{fold-roll-Script, ind-Script}
use Rattle.pvs_sem.specs.Truth.{TruthAssignment}
use Rattle.pvs_sequent.specs.Sequents.{Sequent}
use Rattle.pvs_sequent.specs.Truth.{IsTrueSequent, AreTrueSequents}
use Rattle.pvs_rules_logic.specs.Step.{step}
use Rattle.pvs_rules_logic.proofs.SoundRows.{step_sound}
use Rattle.pvs_replay.specs.Effects.{Effect, Effects}
use Rattle.pvs_replay.specs.Soundness.{AreTrueFormulas, KeepsTruth}
use Rattle.pvs_replay.specs.Logic.{rule_of, effect_at, logic_effect}
use Rattle.pvs_replay.specs.Replaying.{Outcome, Proved, branches, wrong_count, closed_or_open, alone, Run, last_step, on_premise, inner_step, run, finish, replay_step, replay}
use Rattle.pvs_replay.proofs.OutcomeLaws.{both_proved, finish_after}

module _ (v : TruthAssignment) (is_true : Ref → Bool) where
  true_split : (fs gs : List Ref) → AreTrueFormulas is_true (fs ++ gs) → AreTrueFormulas is_true fs × AreTrueFormulas is_true gs
  true_split [] gs h = (tt, h)
  true_split (f ∷ fs) gs h = let r = true_split fs gs h.1 in ((h.0, r.0), r.1)

  -- what a script proves is true
  abbrev IsSound : (Sequent → Outcome) → Type 0
  IsSound f = (q : Sequent) (cited uses : List Ref) → f q ≡ Proved cited uses → AreTrueFormulas is_true cited → IsTrueSequent v q

  abbrev AreSound : List (Sequent → Outcome) → Type 0
  AreSound [] = Unit {0}
  AreSound (f ∷ fs) = IsSound f × AreSound fs

  -- premises with a script for each
  branches_sound : (fs : List (Sequent → Outcome)) (qs : List Sequent) (cited uses : List Ref) → AreSound fs → branches fs qs ≡ Proved cited uses → AreTrueFormulas is_true cited → AreTrueSequents v qs
  branches_sound fs [] cited uses k h t = tt
  branches_sound [] (q ∷ qs) cited uses k h t = cc
  branches_sound (f ∷ fs) (q ∷ qs) cited uses k h t =
      let b = both_proved (f q) (branches fs qs) cited uses h in
      let s = true_split b.first_cited b.second_cited (subst (AreTrueFormulas is_true) b.cited t) in
      (k.0 q b.first_cited b.first_uses b.first s.0, branches_sound fs qs b.second_cited b.second_uses k.1 b.second s.1)

  module _ (effect : Effects) (keeps : KeepsTruth v is_true effect) where
    -- a step that leaves nothing open, with true premises
    step_true : (x : Step) (q : Sequent) (e : Effect) (fs rs : List Ref) → effect x q ≡ Ok e → alone e ≡ Proved fs rs → AreTrueFormulas is_true fs → AreTrueSequents v e.premises → IsTrueSequent v q
    step_true x q e fs rs i h t ps = go e.left_open refl h
      where
        go : (o : Option Sequent) → e.left_open ≡ o → closed_or_open o e.cited e.uses ≡ Proved fs rs → IsTrueSequent v q
        go None n j = let c : e.cited ≡ fs = cc in keeps x q e i n (subst (AreTrueFormulas is_true) (sym c) t) ps
        go (Some p) n j = cc

    module _ (fs : List (Sequent → Outcome)) (sound : AreSound fs) where
      -- the last step, with a script for each premise after it
      last_sound : (x : Step) (q : Sequent) (r : Result Effect Fault) (cited uses : List Ref) → effect x q ≡ r → finish fs (last_step x.pos r) ≡ Proved cited uses → AreTrueFormulas is_true cited → IsTrueSequent v q
      last_sound x q (Err f) cited uses i h t = cc
      last_sound x q (Ok e) cited uses i h t =
          let b = both_proved (alone e) _ cited uses h in
          let s = true_split b.first_cited b.second_cited (subst (AreTrueFormulas is_true) b.cited t) in
          step_true x q e b.first_cited b.first_uses i b.first s.0 (go (length e.premises == length fs) b.second_cited b.second_uses b.second s.1)
        where
          go : (c : Bool) (cited uses : List Ref) → (if c then branches fs e.premises else wrong_count x.pos) ≡ Proved cited uses → AreTrueFormulas is_true cited → AreTrueSequents v e.premises
          go true cited uses h t = branches_sound fs e.premises cited uses sound h t
          go false cited uses h t = cc

      -- a step with sound steps after it
      inner_sound : (x : Step) (q : Sequent) (next : Sequent → Run) (r : Result Effect Fault) (cited uses : List Ref) → IsSound (λ p. finish fs (next p)) → effect x q ≡ r → finish fs (inner_step x.pos next r) ≡ Proved cited uses
          → AreTrueFormulas is_true cited → IsTrueSequent v q
      inner_sound x q next (Err f) cited uses k i h t = cc
      inner_sound x q next (Ok e) cited uses k i h t =
          let b = both_proved (alone e) _ cited uses (sym (finish_after fs (alone e) (on_premise x.pos next e.premises)) ∙ h) in
          let s = true_split b.first_cited b.second_cited (subst (AreTrueFormulas is_true) b.cited t) in
          step_true x q e b.first_cited b.first_uses i b.first s.0 (go e.premises b.second_cited b.second_uses b.second s.1)
        where
          go : (ps : List Sequent) (cited uses : List Ref) → finish fs (on_premise x.pos next ps) ≡ Proved cited uses → AreTrueFormulas is_true cited → AreTrueSequents v ps
          go [] cited uses h t = tt
          go (p ∷ []) cited uses h t = (k p cited uses h t, tt)
          go (p ∷ r ∷ ps) cited uses h t = cc

      run_sound : (xs : List Step) → IsSound (λ q. finish fs (run effect xs q))
      run_sound [] q cited uses h t = cc
      run_sound (x ∷ []) q cited uses h t = last_sound x q (effect x q) cited uses refl h t
      run_sound (x ∷ y ∷ xs) q cited uses h t = inner_sound x q (run effect (y ∷ xs)) (effect x q) cited uses (run_sound (y ∷ xs)) refl h t

    -- scripts, each with a proof that it is sound
    each_sound : (es : List ((x : Script) × IsSound (replay effect x))) → AreSound (map (replay effect) (map (λ e. e.0) es))
    each_sound [] = tt
    each_sound (e ∷ es) = (e.1, each_sound es)

    pub script_sound : (x : Script) → IsSound (replay effect x)
    script_sound = ind-Script (λ x. IsSound (replay effect x)) (λ x y is q cited uses h.
        let each = subst (λ (z : Script-F Script). AreSound (map (replay effect) z.trees)) is (each_sound y.trees) in
        run_sound (map (replay effect) x.trees) each x.steps q cited uses (sym (ap (λ (f : Sequent → Outcome). f q) (fold-roll-Script (Sequent → Outcome) (replay_step effect) x)) ∙ h))

-- a sequent that a script proves is true
pub replay_sound : (effect : Effects) (v : TruthAssignment) (is_true : Ref → Bool) → KeepsTruth v is_true effect → (x : Script) (q : Sequent) (cited uses : List Ref) → replay effect x q ≡ Proved cited uses
    → AreTrueFormulas is_true cited → IsTrueSequent v q
replay_sound effect v is_true keeps x q cited uses h t = script_sound v is_true effect keeps x q cited uses h t

-- Steps by logic keep truth. They cite no formula, so that each one may count as TRUE.
pub logic_keeps : (v : TruthAssignment) (is_true : Ref → Bool) → KeepsTruth v is_true logic_effect
logic_keeps v is_true x q e h n t ps = go (step q (rule_of x.rule)) refl h
  where
    go : (r : _) → step q (rule_of x.rule) ≡ r → effect_at x.pos r ≡ Ok e → IsTrueSequent v q
    go (Ok qs) i j = let k : qs ≡ e.premises = ap (λ (d : Effect). d.premises) (let z : record { premises = qs; left_open = None; cited = []; uses = [] } ≡ e = cc in z) in step_sound v q (rule_of x.rule) qs i (subst (AreTrueSequents v) (sym k) ps)
    go (Err c) i j = cc

any_true : (fs : List Ref) → AreTrueFormulas (λ _. true) fs
any_true [] = tt
any_true (f ∷ fs) = (refl, any_true fs)

pub logic_sound : (v : TruthAssignment) (x : Script) (q : Sequent) (cited uses : List Ref) → replay logic_effect x q ≡ Proved cited uses → IsTrueSequent v q
logic_sound v x q cited uses h = replay_sound logic_effect v (λ _. true) (logic_keeps v (λ _. true)) x q cited uses h (any_true cited)
