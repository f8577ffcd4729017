-- Laws of runs by number, in a store that grows.
use Rattle.std.proofs.Common.{◌≡◌, ◌∙◌, refl, sym, ap, ap₂, subst, arith, ℕ, List, [], ◌∷◌, ◌++◌, length, Some, None, Ok, Err}
use Rattle.pvs_base.specs.declared.place.Pos.{Pos}
use Rattle.pvs_terms.specs.Tree.{Ref}
use Rattle.pvs_terms.specs.Stored.{Stored, Extends}
use Rattle.pvs_script.specs.declared.tree.Step.{Step}
use Rattle.pvs_sequent.specs.Sequents.{Sequent}
use Rattle.pvs_sequent.specs.Numbered.{Numbered}
use Rattle.pvs_sequent.specs.Numbers.{sequent_at, sequents_at, IsSequent, AreSequents}
use Rattle.pvs_sequent.proofs.ExtendsLaws.{sequent_extends, sequent_at-extends}
use Rattle.pvs_replay.specs.declared.outcome.Outcome as code_outcome
use Rattle.pvs_replay.specs.declared.outcome.Outcome.TheVariants as outcome
use Rattle.pvs_replay.specs.declared.outcome.Run as run_type
use Rattle.pvs_replay.specs.declared.outcome.Run.TheVariants as code_run
use Rattle.pvs_replay.specs.declared.outcome.Inner.TheVariants as inner
use Rattle.pvs_replay.specs.Effects.{Effects}
use Rattle.pvs_replay.specs.Numbers.{Answer, refs_at, AreRefs, outcome_at, OutcomeIn, IsRun, IsInner}
use Rattle.pvs_replay.specs.Replaying.{Outcome, Proved, Open, both, wrong_count, alone, Run, Leaves, Stops, after, last_step, on_premise, inner_step, run, only_one}
use Rattle.pvs_replay.proofs.OutcomeLaws.{after_assoc}

pub refs_append : (s : Stored) (rs qs : List ℕ) → AreRefs s rs → AreRefs s qs → AreRefs s (rs ++ qs)
refs_append s [] qs h k = k
refs_append s (r ∷ rs) qs h k = (h.0, refs_append s rs qs h.1 k)

refs_extend : (s t : Stored) (rs : List ℕ) → Extends s t → AreRefs s rs → AreRefs t rs
refs_extend s t [] x h = tt
refs_extend s t (r ∷ rs) x h = (x.refs r h.0, refs_extend s t rs x h.1)

refs_at-extends : (s t : Stored) (rs : List ℕ) → Extends s t → AreRefs s rs → refs_at t rs ≡ refs_at s rs
refs_at-extends s t [] x h = refl
refs_at-extends s t (r ∷ rs) x h = ap₂ (λ (a : Ref) (bs : List Ref). a ∷ bs) (x.references r h.0) (refs_at-extends s t rs x h.1)

pub outcome_extends : (s t : Stored) (o : code_outcome.Outcome) → Extends s t → OutcomeIn s o → OutcomeIn t o
outcome_extends s t (outcome.Proved fs rs) x h = (refs_extend s t fs.items x h.0, refs_extend s t rs.items x h.1)
outcome_extends s t (outcome.Open q) x h = sequent_extends s t q x h
outcome_extends s t (outcome.Refused f) x h = tt

pub outcome_at-extends : (s t : Stored) (o : code_outcome.Outcome) → Extends s t → OutcomeIn s o → outcome_at t o ≡ outcome_at s o
outcome_at-extends s t (outcome.Proved fs rs) x h = ap₂ (λ (gs qs : List Ref). Proved gs qs) (refs_at-extends s t fs.items x h.0) (refs_at-extends s t rs.items x h.1)
outcome_at-extends s t (outcome.Open q) x h = ap Open (sequent_at-extends s t q x h)
outcome_at-extends s t (outcome.Refused f) x h = refl

-- a step with others after it, by what it would leave as the last one
pub inner_leaves : (b o : Outcome) (at place : Pos) (next : Sequent → Run) (r : Answer) (qs : List Sequent) → Leaves o place qs ≡ after b (last_step at r) → after b (inner_step at next r) ≡ after o (on_premise place next qs)
inner_leaves b o at place next (Ok e) qs h =
    let p : o ≡ both b (alone e) = cc in
    let q : place ≡ at = cc in
    let l : qs ≡ e.premises = cc in
    sym (after_assoc b (alone e) (on_premise at next e.premises)) ∙ rw (p, q, l) refl
inner_leaves b o at place next (Err f) qs h = cc

pub inner_stops : (b o : Outcome) (at : Pos) (next : Sequent → Run) (r : Answer) → Stops o ≡ after b (last_step at r) → after b (inner_step at next r) ≡ Stops o
inner_stops b o at next (Ok e) h = cc
inner_stops b o at next (Err f) h = sym h

pub premise_one : (s : Stored) (at : Pos) (next : Sequent → Run) (qs : List Numbered) (q : Numbered) → only_one qs ≡ Some q → on_premise at next (sequents_at s qs) ≡ next (sequent_at s q)
premise_one s at next [] q h = cc
premise_one s at next (p ∷ []) q h = let e : p ≡ q = cc in ap (λ (x : Numbered). next (sequent_at s x)) e
premise_one s at next (p ∷ r ∷ qs) q h = cc

pub premise_node : (s : Stored) (qs : List Numbered) (q : Numbered) → only_one qs ≡ Some q → AreSequents s qs → IsSequent s q
premise_node s [] q h k = cc
premise_node s (p ∷ []) q h k = let e : p ≡ q = cc in subst (IsSequent s) e k.0
premise_node s (p ∷ r ∷ qs) q h k = cc

pub premise_none : (s : Stored) (at : Pos) (next : Sequent → Run) (qs : List Numbered) → only_one qs ≡ None → on_premise at next (sequents_at s qs) ≡ Stops (wrong_count at)
premise_none s at next [] h = refl
premise_none s at next (p ∷ []) h = cc
premise_none s at next (p ∷ r ∷ qs) h = refl

-- a step with others after it, among steps
pub run_more : (effect : Effects) (x last : Step) (xs : List Step) (q : Sequent) → run effect (x ∷ (xs ++ last ∷ [])) q ≡ inner_step x.pos (run effect (xs ++ last ∷ [])) (effect x q)
run_more effect x last [] q = refl
run_more effect x last (y ∷ xs) q = refl

-- The steps xs are left, and come to `whole` after the outcome so far, which is o.
pub record IsSoFar (effect : Effects) (whole : Run) (s : Stored) (xs : List Step) (o : code_outcome.Outcome) (q : Numbered) : Type 0 where
  pub numbers : OutcomeIn s o
  pub current : IsSequent s q
  pub is : after (outcome_at s o) (run effect xs (sequent_at s q)) ≡ whole

-- one more step, in a store that may have grown
pub so_far_goes : (effect : Effects) (whole : Run) (s t : Stored) (x last : Step) (xs : List Step) (o p : code_outcome.Outcome) (q r : Numbered) → IsSoFar effect whole s (x ∷ (xs ++ last ∷ [])) o q
    → IsInner t (outcome_at s o) x.pos (effect x (sequent_at s q)) (inner.Goes p r) → IsSoFar effect whole t (xs ++ last ∷ []) p r
so_far_goes effect whole s t x last xs o p q r h k = record {
  numbers = k.numbers.0;
  current = k.numbers.1;
  is = sym (k.is (run effect (xs ++ last ∷ []))) ∙ ap (after (outcome_at s o)) (sym (run_more effect x last xs (sequent_at s q))) ∙ h.is;
}

pub so_far_stops : (effect : Effects) (whole : Run) (s t : Stored) (x last : Step) (xs : List Step) (o p : code_outcome.Outcome) (q : Numbered) → IsSoFar effect whole s (x ∷ (xs ++ last ∷ [])) o q
    → IsInner t (outcome_at s o) x.pos (effect x (sequent_at s q)) (inner.Stops p) → IsRun t whole (code_run.Stops p)
so_far_stops effect whole s t x last xs o p q h k = record {
  numbers = k.numbers;
  is = sym (k.is (run effect (xs ++ last ∷ []))) ∙ ap (after (outcome_at s o)) (sym (run_more effect x last xs (sequent_at s q))) ∙ h.is;
}

-- what comes after an outcome of the store before it grew
pub run_after_extends : (s t : Stored) (o : code_outcome.Outcome) (r : Run) (p : run_type.Run) → Extends s t → OutcomeIn s o → (OutcomeIn t o → IsRun t (after (outcome_at t o) r) p) → IsRun t (after (outcome_at s o) r) p
run_after_extends s t o r p e h f = subst (λ (b : Outcome). IsRun t (after b r) p) (outcome_at-extends s t o e h) (f (outcome_extends s t o e h))

pub no_items : {X : Type 0} (xs : List X) → length xs ≡ 0 → xs ≡ []
no_items [] h = refl
no_items (x ∷ xs) h = absurd (omega arith)
