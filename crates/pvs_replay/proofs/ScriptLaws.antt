-- Laws of the scripts after the steps of a script.
use Rattle.std.proofs.Common.{◌≡◌, ◌∙◌, sym, ap, ap₂, ◌+◌, ◌<◌, ◌≤◌, ◌==◌, if◌then◌else◌, arith, rules, ℕ, Bool, true, false, List, [], ◌∷◌, map, length, drop, get_or}
use Rattle.std.proofs.lemmas.List.{length-map, drop_all}
use Rattle.pvs_base.specs.declared.place.Pos.{Pos}
use Rattle.pvs_terms.specs.Stored.{Stored, Extends}
use Rattle.pvs_script.specs.declared.tree.Script.{Script, out-Script}
use Rattle.pvs_script.specs.declared.tree.Script.TheFolds.{fold_out-Script}
use Rattle.pvs_sequent.specs.Sequents.{Sequent}
use Rattle.pvs_sequent.specs.Numbered.{Numbered}
use Rattle.pvs_sequent.specs.Numbers.{sequent_at, sequents_at, AreSequents}
use Rattle.pvs_sequent.proofs.ExtendsLaws.{sequents_at-extends}
use Rattle.pvs_sequent.proofs.Lists.{drop_more}
use Rattle.pvs_replay.specs.declared.outcome.Outcome as code_outcome
use Rattle.pvs_replay.specs.Effects.{Effects}
use Rattle.pvs_replay.specs.Numbers.{outcome_at, IsOutcome}
use Rattle.pvs_replay.specs.Replaying.{Outcome, both, branches, wrong_count, Leaves, Stops, after, run, finish, replay_step, replay}
use Rattle.pvs_replay.proofs.OutcomeLaws.{both_assoc, both_nothing, finish_after}

-- a script by its steps and the scripts after them
pub replay-step : (effect : Effects) (x : Script) (q : Sequent) → replay effect x q ≡ finish (map (replay effect) (out-Script x).trees) (run effect (out-Script x).steps q)
replay-step effect x q = ap (λ (f : Sequent → Outcome). f q) (fold_out-Script (Sequent → Outcome) (replay_step effect) x)

-- steps that stop ask for no scripts
pub replay_stops : (effect : Effects) (x : Script) (q : Sequent) (b o : Outcome) → Stops o ≡ after b (run effect (out-Script x).steps q) → o ≡ both b (replay effect x q)
replay_stops effect x q b o h =
    ap (finish (map (replay effect) (out-Script x).trees)) h ∙ finish_after (map (replay effect) (out-Script x).trees) b (run effect (out-Script x).steps q) ∙ ap (both b) (sym (replay-step effect x q))

replay_leaves : (effect : Effects) (x : Script) (q : Sequent) (b o : Outcome) (at : Pos) (qs : List Sequent) → Leaves o at qs ≡ after b (run effect (out-Script x).steps q)
    → both o (if length qs == length (map (replay effect) (out-Script x).trees) then branches (map (replay effect) (out-Script x).trees) qs else wrong_count at) ≡ both b (replay effect x q)
replay_leaves effect x q b o at qs h =
    ap (finish (map (replay effect) (out-Script x).trees)) h ∙ finish_after (map (replay effect) (out-Script x).trees) b (run effect (out-Script x).steps q) ∙ ap (both b) (sym (replay-step effect x q))

-- the tests of the numbers of premises and scripts
same_counts : (s : Stored) (effect : Effects) (ps : List Numbered) (xs : List Script) (c : Bool) → (length ps == length xs) ≡ c → (length (sequents_at s ps) == length (map (replay effect) xs)) ≡ c
same_counts s effect ps xs c h = ap₂ (λ (m n : ℕ). m == n) (length-map ps (sequent_at s)) (length-map xs (replay effect)) ∙ h

pub replay_counted : (effect : Effects) (x : Script) (q : Sequent) (b o : Outcome) (at : Pos) (s : Stored) (ps : List Numbered) → Leaves o at (sequents_at s ps) ≡ after b (run effect (out-Script x).steps q)
    → (length ps == length (out-Script x).trees) ≡ true → both o (branches (map (replay effect) (out-Script x).trees) (sequents_at s ps)) ≡ both b (replay effect x q)
replay_counted effect x q b o at s ps h n =
    sym (ap (λ (c : Bool). both o (if c then branches (map (replay effect) (out-Script x).trees) (sequents_at s ps) else wrong_count at)) (same_counts s effect ps (out-Script x).trees true n))
    ∙ replay_leaves effect x q b o at (sequents_at s ps) h

pub replay_miscounted : (effect : Effects) (x : Script) (q : Sequent) (b o : Outcome) (at : Pos) (s : Stored) (ps : List Numbered) → Leaves o at (sequents_at s ps) ≡ after b (run effect (out-Script x).steps q)
    → (length ps == length (out-Script x).trees) ≡ false → both o (wrong_count at) ≡ both b (replay effect x q)
replay_miscounted effect x q b o at s ps h n =
    sym (ap (λ (c : Bool). both o (if c then branches (map (replay effect) (out-Script x).trees) (sequents_at s ps) else wrong_count at)) (same_counts s effect ps (out-Script x).trees false n))
    ∙ replay_leaves effect x q b o at (sequents_at s ps) h

-- one more script, on one more premise, in a store that may have grown
pub branch_turn : (effect : Effects) (whole : Outcome) (s t : Stored) (x : Script) (xs : List Script) (q : Numbered) (qs : List Numbered) (o p : code_outcome.Outcome)
    → both (outcome_at s o) (branches (map (replay effect) (x ∷ xs)) (sequents_at s (q ∷ qs))) ≡ whole → Extends s t → AreSequents s qs
    → IsOutcome t (both (outcome_at s o) (replay effect x (sequent_at s q))) p
    → both (outcome_at t p) (branches (map (replay effect) xs) (sequents_at t qs)) ≡ whole
branch_turn effect whole s t x xs q qs o p h e k r =
    ap₂ (λ (a : Outcome) (ps : List Sequent). both a (branches (map (replay effect) xs) ps)) r.is (sequents_at-extends s t qs e k)
    ∙ both_assoc (outcome_at s o) (replay effect x (sequent_at s q)) (branches (map (replay effect) xs) (sequents_at s qs)) ∙ h

-- the script that is next, and the others
pub left_more : (xs : List Script) (i : ℕ) (x : Script) → i < length xs → x ≡ get_or xs i x → drop i xs ≡ x ∷ drop (i + 1) xs
left_more xs i x h e = drop_more xs i x h ∙ ap (λ (y : Script). y ∷ drop (i + 1) xs) (sym e)

-- no script is left, and no premise
pub branches_done : (effect : Effects) (whole : Outcome) (s : Stored) (xs : List Script) (i : ℕ) (qs : List Numbered) (o : code_outcome.Outcome)
    → both (outcome_at s o) (branches (map (replay effect) (drop i xs)) (sequents_at s qs)) ≡ whole → length xs ≤ i → length qs + i ≡ length xs → outcome_at s o ≡ whole
branches_done effect whole s xs i [] o h k n =
    sym (ap (λ (ys : List Script). both (outcome_at s o) (branches (map (replay effect) ys) [])) (drop_all i xs k) ∙ both_nothing (outcome_at s o)) ∙ h
branches_done effect whole s xs i (q ∷ qs) o h k n = absurd (omega arith)

-- no premise is left, so no script is
pub premises_done : (effect : Effects) (whole : Outcome) (s : Stored) (xs : List Script) (i : ℕ) (qs : List Numbered) (o : code_outcome.Outcome)
    → both (outcome_at s o) (branches (map (replay effect) (drop i xs)) (sequents_at s qs)) ≡ whole → length qs ≡ 0 → length qs + i ≡ length xs → outcome_at s o ≡ whole
premises_done effect whole s xs i qs o h z n = branches_done effect whole s xs i qs o h (omega arith) n

pub counts_same : (m n : ℕ) → m ≡ n → (m == n) ≡ true
counts_same m n h = search rules

pub counts_differ : (m n : ℕ) → (m ≡ n → ⊥) → (m == n) ≡ false
counts_differ m n h = search rules
