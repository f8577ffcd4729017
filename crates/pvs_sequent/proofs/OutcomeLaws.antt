-- What is said of the outcome of a row, line by line, and what follows for the premises of its step.
use Rattle.std.proofs.Common.{◌≡◌, refl, subst, ◌⊎◌, inl, inr, Bool, true, false, not, cond, List, [], ◌∷◌, ◌++◌, Option, Some, None, Ok}
use Rattle.pvs_base.specs.declared.code.Code.{Code}
use Rattle.pvs_terms.specs.Tree.{Tree}
use Rattle.pvs_subst.specs.Contexts.{Obligation}
use Rattle.pvs_sem.specs.Truth.{TruthAssignment, truth}
use Rattle.pvs_sequent.specs.declared.place.Side.TheVariants as side
use Rattle.pvs_sequent.specs.Sequents.{Sequent, add, is_closed}
use Rattle.pvs_sequent.specs.Outcomes.{Conditions, Outcome, Refused, Accepted, after_conditions, ◌>>=◌, ◌>>◌, found, only, applicable}
use Rattle.pvs_sequent.specs.Conditions.{closed_in}
use Rattle.pvs_sequent.specs.Premises.{Premises, still_open, kept, owed, finished}
use Rattle.pvs_sequent.specs.Truth.{AreTrueSequents}
use Rattle.pvs_sequent.proofs.Refutations.{Refutes, IsValuation, refuted_add, refuted_closed, true_not_refuted}

-- each condition holds, for this notion of what it is for one to hold
abbrev pub AllHold : (Obligation → Type 0) → Conditions → Type 0
AllHold H [] = Unit {0}
AllHold H (c ∷ cs) = H c × AllHold H cs

-- this is so of the result, where the conditions hold
abbrev pub Gives : {A : Type 0} → (Obligation → Type 0) → (A → Type 0) → Outcome A → Type 0
Gives H P (Refused c) = Unit {0}
Gives H P (Accepted a cs) = AllHold H cs → P a

-- some sequent is refuted, for this notion of being refuted
abbrev pub SomeOf : (Sequent → Type 0) → List Sequent → Type 0
SomeOf R [] = ⊥
SomeOf R (q ∷ qs) = R q ⊎ SomeOf R qs

module _ (H : Obligation → Type 0) where
  all_hold_split : (cs ds : Conditions) → AllHold H (cs ++ ds) → AllHold H cs × AllHold H ds
  all_hold_split [] ds h = (tt, h)
  all_hold_split (c ∷ cs) ds h = let r = all_hold_split cs ds h.1 in ((h.0, r.0), r.1)

  gives_after : {B : Type 0} (Q : B → Type 0) (cs : Conditions) (o : Outcome B) → (AllHold H cs → Gives H Q o) → Gives H Q (after_conditions cs o)
  gives_after Q cs (Refused c) h = tt
  gives_after Q cs (Accepted b ds) h = λ k. let r = all_hold_split cs ds k in h r.0 r.1

  -- one line of a row, and the lines after it
  pub gives_then : {A B : Type 0} (P : A → Type 0) (Q : B → Type 0) (o : Outcome A) (f : A → Outcome B) → Gives H P o → ((a : A) → P a → Gives H Q (f a)) → Gives H Q (o >>= f)
  gives_then P Q (Refused c) f h k = tt
  gives_then P Q (Accepted a cs) f h k = gives_after Q cs (f a) (λ j. k a (h j))

  pub gives_found : {A : Type 0} (c : Code) (o : Option A) → Gives H (λ a. o ≡ Some a) (found c o)
  gives_found c None = tt
  gives_found c (Some a) = λ _. refl

  pub gives_only : (b : Bool) → Gives H (λ _. b ≡ true) (only b)
  gives_only true = λ _. refl
  gives_only false = tt

  pub where_true : {B : Type 0} (Q : B → Type 0) (b : Bool) (o : Outcome B) → (b ≡ true → Gives H Q o) → Gives H Q (only b >> o)
  where_true Q b o h = gives_then (λ _. b ≡ true) Q (only b) (λ _. o) (gives_only b) (λ _ k. h k)

  pub where_found : {A B : Type 0} (Q : B → Type 0) (x : Option A) (f : A → Outcome B) → ((a : A) → x ≡ Some a → Gives H Q (f a)) → Gives H Q (applicable x >>= f)
  where_found {A} {B} Q x f h = gives_then (λ (a : A). x ≡ Some a) Q (applicable x) f (gives_found _ x) h

-- a condition that v makes TRUE, closed down to the variables of a sequent
abbrev pub HoldsFor : (Tree → Bool) → Sequent → Obligation → Type 0
HoldsFor v q c = v (closed_in q c) ≡ true

-- R: what it is for a sequent to be refuted. The rule axiom closes none that is.
module _ (R : Sequent → Type 0) (none_closed : (q : Sequent) → is_closed q ≡ true → R q → ⊥) where
  pub open_refuted : (qs : List Sequent) → SomeOf R qs → SomeOf R (still_open qs)
  open_refuted [] h = h
  open_refuted (q ∷ qs) h = go (is_closed q) refl (open_refuted qs) h
    where
      go : (c : Bool) → is_closed q ≡ c → (SomeOf R qs → SomeOf R (still_open qs)) → SomeOf R (q ∷ qs) → SomeOf R (cond (not c) (q ∷ still_open qs) (still_open qs))
      go true x ih (inl r) = absurd (none_closed q x r)
      go true x ih (inr k) = ih k
      go false x ih (inl r) = inl r
      go false x ih (inr k) = inr (ih k)

  pub kept_refuted : (qs : List Sequent) → SomeOf R qs → SomeOf R (kept qs)
  kept_refuted [] h = h
  kept_refuted (q ∷ []) h = h
  kept_refuted (q ∷ r ∷ qs) h = open_refuted (q ∷ r ∷ qs) h

  refuted_left : (qs rs : List Sequent) → SomeOf R qs → SomeOf R (qs ++ rs)
  refuted_left [] rs h = absurd h
  refuted_left (q ∷ qs) rs (inl r) = inl r
  refuted_left (q ∷ qs) rs (inr k) = inr (refuted_left qs rs k)

  refuted_right : (qs rs : List Sequent) → SomeOf R rs → SomeOf R (qs ++ rs)
  refuted_right [] rs h = h
  refuted_right (q ∷ qs) rs h = inr (refuted_right qs rs h)

  -- v refutes the sequent of a step, and what v refutes is refuted
  module _ (v : Tree → Bool) (refuted : (r : Sequent) → Refutes v r → R r) (q : Sequent) (no : Refutes v q) where
    -- the conditions hold, or the premise of one of them is refuted
    decided : (cs : Conditions) → AllHold (HoldsFor v q) cs ⊎ SomeOf R (owed q cs)
    decided [] = inl tt
    decided (c ∷ cs) = go (v (closed_in q c)) refl (decided cs)
      where
        go : (b : Bool) → v (closed_in q c) ≡ b → AllHold (HoldsFor v q) cs ⊎ SomeOf R (owed q cs) → AllHold (HoldsFor v q) (c ∷ cs) ⊎ SomeOf R (owed q (c ∷ cs))
        go true x (inl h) = inl (x, h)
        go true x (inr k) = inr (inr k)
        go false x h = inr (inl (refuted (add side.Consequents (closed_in q c) q) (refuted_add v side.Consequents (closed_in q c) q x no)))

    -- where the row gives a refuted main premise whenever its conditions hold, its step gives a refuted premise
    pub finished_refuted : (o : Premises) (ps : List Sequent) → Gives (HoldsFor v q) (SomeOf R) o → finished q o ≡ Ok ps → SomeOf R ps
    finished_refuted (Refused c) ps h e = cc
    finished_refuted (Accepted qs cs) ps h e =
        let k : kept qs ++ still_open (owed q cs) ≡ ps = cc in
        subst (SomeOf R) k (go (decided cs))
      where
        go : AllHold (HoldsFor v q) cs ⊎ SomeOf R (owed q cs) → SomeOf R (kept qs ++ still_open (owed q cs))
        go (inl j) = refuted_left (kept qs) (still_open (owed q cs)) (kept_refuted qs (h j))
        go (inr j) = refuted_right (kept qs) (still_open (owed q cs)) (open_refuted (owed q cs) j)

-- truth by a truth assignment is a valuation, and refutes none of the true sequents
pub truth_valuation : (v : TruthAssignment) → IsValuation (truth v)
truth_valuation v = record { yes = refl; no = refl }

pub none_closed_in : (v : TruthAssignment) (q : Sequent) → is_closed q ≡ true → Refutes (truth v) q → ⊥
none_closed_in v q h r = refuted_closed (truth v) (truth_valuation v) q h r

pub true_none_refuted : (v : TruthAssignment) (qs : List Sequent) → AreTrueSequents v qs → SomeOf (Refutes (truth v)) qs → ⊥
true_none_refuted v [] h r = r
true_none_refuted v (q ∷ qs) h (inl r) = true_not_refuted v q h.0 r
true_none_refuted v (q ∷ qs) h (inr k) = true_none_refuted v qs h.1 k
