-- How a refutation of a sequent goes over to what a rule makes of it. A valuation gives each
-- formula a truth value: its truth by a truth assignment, or in a model and an environment.
use Rattle.std.proofs.Common.{◌≡◌, ◌∙◌, refl, sym, ap, ℕ, zero, suc, Bool, true, false, cond, ◌||◌, List, [], ◌∷◌, remove, slice_get, Some}
use Rattle.std.proofs.lemmas.Bool.{true≢false}
use Rattle.pvs_terms.specs.Tree.{Tree, True, False, tree_eq}
use Rattle.pvs_terms.proofs.TreeLaws.{tree_eq-true, both, all_true as both_true}
use Rattle.pvs_sem.specs.Truth.{TruthAssignment, truth, all_true, some_true}
use Rattle.pvs_sequent.specs.declared.place.Place.{Place}
use Rattle.pvs_sequent.specs.declared.place.Place.TheVariants as place
use Rattle.pvs_sequent.specs.declared.place.Side.{Side}
use Rattle.pvs_sequent.specs.declared.place.Side.TheVariants as side
use Rattle.pvs_sequent.specs.Sequents.{Sequent, side_of, formula_at, without, with_first, is_redundant, add, is_among, shares, is_closed}
use Rattle.pvs_sequent.specs.Truth.{IsTrueSequent}

-- each formula has this truth value
abbrev pub AllAre : (Tree → Bool) → Bool → List Tree → Type 0
AllAre v b [] = Unit {0}
AllAre v b (t ∷ ts) = (v t ≡ b) × AllAre v b ts

-- all antecedents are TRUE and no consequent is
pub record Refutes (v : Tree → Bool) (q : Sequent) : Type 0 where
  pub assumed : AllAre v true q.antecedents
  pub denied : AllAre v false q.consequents

-- what TRUE and FALSE mean
pub record IsValuation (v : Tree → Bool) : Type 0 where
  pub yes : v True ≡ true
  pub no : v False ≡ false

-- the truth value that a refutation gives to the formulas of a side
abbrev pub truth_on : Side → Bool
truth_on side.Antecedents = true
truth_on side.Consequents = false

module _ (v : Tree → Bool) where
  all_at : (b : Bool) (ts : List Tree) (i : ℕ) (t : Tree) → slice_get ts i ≡ Some t → AllAre v b ts → v t ≡ b
  all_at b [] i t h k = cc
  all_at b (u ∷ us) zero t h k = let q : u ≡ t = cc in ap v (sym q) ∙ k.0
  all_at b (u ∷ us) (suc i) t h k = all_at b us i t h k.1

  all_without : (b : Bool) (ts : List Tree) (i : ℕ) → AllAre v b ts → AllAre v b (remove ts i)
  all_without b [] zero k = k
  all_without b [] (suc i) k = k
  all_without b (u ∷ us) zero k = k.1
  all_without b (u ∷ us) (suc i) k = (k.0, all_without b us i k.1)

  all_among : (b : Bool) (t : Tree) (ts : List Tree) → is_among t ts ≡ true → AllAre v b ts → v t ≡ b
  all_among b t [] h k = cc
  all_among b t (u ∷ us) h k = go (tree_eq t u) refl (λ j. all_among b t us j k.1) h
    where
      go : (c : Bool) → tree_eq t u ≡ c → (is_among t us ≡ true → v t ≡ b) → (c || is_among t us) ≡ true → v t ≡ b
      go true q ih j = ap v (tree_eq-true t u q) ∙ k.0
      go false q ih j = ih j

  -- no formula is both TRUE and not
  all_apart : (ts us : List Tree) → shares ts us ≡ true → AllAre v true ts → AllAre v false us → ⊥
  all_apart [] us h k j = cc
  all_apart (t ∷ ts) us h k j = go (is_among t us) refl (λ i. all_apart ts us i k.1 j) h
    where
      go : (c : Bool) → is_among t us ≡ c → (shares ts us ≡ true → ⊥) → (c || shares ts us) ≡ true → ⊥
      go true q ih i = true≢false (sym k.0 ∙ all_among false t us q j)
      go false q ih i = ih i

  -- a formula of the sequent has the truth value of its side
  pub refuted_at : (q : Sequent) (p : Place) (t : Tree) → formula_at q p ≡ Some t → Refutes v q → v t ≡ truth_on (side_of p)
  refuted_at q place.Nowhere t h r = cc
  refuted_at q (place.Consequent i) t h r = all_at false q.consequents i t h r.denied
  refuted_at q (place.Antecedent i) t h r = all_at true q.antecedents i t h r.assumed

  pub refuted_without : (q : Sequent) (p : Place) → Refutes v q → Refutes v (without q p)
  refuted_without q place.Nowhere r = r
  refuted_without q (place.Consequent i) r = record { assumed = r.assumed; denied = all_without false q.consequents i r.denied }
  refuted_without q (place.Antecedent i) r = record { assumed = all_without true q.antecedents i r.assumed; denied = r.denied }

  pub refuted_first : (b : Side) (t : Tree) (q : Sequent) → v t ≡ truth_on b → Refutes v q → Refutes v (with_first b t q)
  refuted_first side.Antecedents t q h r = record { assumed = (h, r.assumed); denied = r.denied }
  refuted_first side.Consequents t q h r = record { assumed = r.assumed; denied = (h, r.denied) }

  pub refuted_add : (b : Side) (t : Tree) (q : Sequent) → v t ≡ truth_on b → Refutes v q → Refutes v (add b t q)
  refuted_add b t q h r = go (is_redundant b t)
    where
      go : (c : Bool) → Refutes v (cond c q (with_first b t q))
      go true = r
      go false = refuted_first b t q h r

  -- a sequent that the rule axiom closes is refuted by none
  pub refuted_closed : IsValuation v → (q : Sequent) → is_closed q ≡ true → Refutes v q → ⊥
  refuted_closed w q h r = go (is_among False q.antecedents) refl h
    where
      two : (c : Bool) → is_among True q.consequents ≡ c → (c || shares q.antecedents q.consequents) ≡ true → ⊥
      two true x j = true≢false (sym w.yes ∙ all_among false True q.consequents x r.denied)
      two false x j = all_apart q.antecedents q.consequents j r.assumed r.denied

      go : (c : Bool) → is_among False q.antecedents ≡ c → (c || (is_among True q.consequents || shares q.antecedents q.consequents)) ≡ true → ⊥
      go true x j = true≢false (sym (all_among true False q.antecedents x r.assumed) ∙ w.no)
      go false x j = two (is_among True q.consequents) refl j

-- a sequent is true where its truth assignment does not refute it

all_assumed : (v : TruthAssignment) (ts : List Tree) → all_true v ts ≡ true → AllAre (truth v) true ts
all_assumed v [] h = tt
all_assumed v (t ∷ ts) h = let b = both (truth v t) (all_true v ts) h in (b.0, all_assumed v ts b.1)

all_denied : (v : TruthAssignment) (ts : List Tree) → some_true v ts ≡ false → AllAre (truth v) false ts
all_denied v [] h = tt
all_denied v (t ∷ ts) h = go (truth v t) refl (all_denied v ts) h
  where
    go : (c : Bool) → truth v t ≡ c → (some_true v ts ≡ false → AllAre (truth v) false ts) → (c || some_true v ts) ≡ false → AllAre (truth v) false (t ∷ ts)
    go true x ih j = cc
    go false x ih j = (x, ih j)

assumed_all : (v : TruthAssignment) (ts : List Tree) → AllAre (truth v) true ts → all_true v ts ≡ true
assumed_all v [] h = refl
assumed_all v (t ∷ ts) h = both_true h.0 (assumed_all v ts h.1)

denied_all : (v : TruthAssignment) (ts : List Tree) → AllAre (truth v) false ts → some_true v ts ≡ false
denied_all v [] h = refl
denied_all v (t ∷ ts) h = rw h.0 (denied_all v ts h.1)

pub true_not_refuted : (v : TruthAssignment) (q : Sequent) → IsTrueSequent v q → Refutes (truth v) q → ⊥
true_not_refuted v q h r = true≢false (sym (h (assumed_all v q.antecedents r.assumed)) ∙ denied_all v q.consequents r.denied)

pub not_refuted_true : (v : TruthAssignment) (q : Sequent) → (Refutes (truth v) q → ⊥) → IsTrueSequent v q
not_refuted_true v q h a = go (some_true v q.consequents) refl
  where
    go : (c : Bool) → some_true v q.consequents ≡ c → some_true v q.consequents ≡ true
    go true x = x
    go false x = absurd (h (record { assumed = all_assumed v q.antecedents a; denied = all_denied v q.consequents x }))
