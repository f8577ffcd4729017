-- Each row of the table of rules is sound: a refuted sequent has a refuted main premise.
use Rattle.std.proofs.Common.{◌≡◌, ◌∙◌, refl, sym, ap, inl, inr, Bool, true, false, if◌then◌else◌, List, [], ◌∷◌, Some, Ok}
use Rattle.pvs_terms.specs.Tree.{Tree, If}
use Rattle.pvs_sem.specs.Truth.{TruthAssignment, truth}
use Rattle.pvs_sequent.specs.declared.place.Place.{Place}
use Rattle.pvs_sequent.specs.declared.place.Side.{Side}
use Rattle.pvs_sequent.specs.declared.place.Side.TheVariants as side
use Rattle.pvs_sequent.specs.Sequents.{Sequent, place_of, side_of, formula_at, without, add, is_closed}
use Rattle.pvs_sequent.specs.Premises.{Premises}
use Rattle.pvs_sequent.specs.Truth.{IsTrueSequent, AreTrueSequents}
use Rattle.pvs_sequent.proofs.Refutations.{Refutes, truth_on, refuted_at, refuted_without, refuted_add, refuted_closed, not_refuted_true}
use Rattle.pvs_sequent.proofs.OutcomeLaws.{Gives, SomeOf, where_true, where_found, finished_refuted, HoldsFor, truth_valuation, none_closed_in, true_none_refuted}
use Rattle.pvs_rules_logic.specs.Rules.{Rule}
use Rattle.pvs_rules_logic.specs.Rules as rule
use Rattle.pvs_rules_logic.specs.Rows.{Branches, branches_of, then_premise, else_premise, axiom_row, if_row, row}
use Rattle.pvs_rules_logic.specs.Step.{step}

-- a tree with branches is a conditional
branches_are : (t : Tree) (d : Branches) → branches_of t ≡ Some d → t ≡ If d.condition d.first d.second
branches_are (If c a b) d h = let e : record { condition = c; first = a; second = b } ≡ d = cc in ap (λ (x : Branches). If x.condition x.first x.second) e
branches_are _ d h = cc

module _ (v : TruthAssignment) (q : Sequent) (no : Refutes (truth v) q) where
  -- what is said of a row
  abbrev Refutable : Premises → Type 0
  Refutable o = Gives (HoldsFor (truth v) q) (SomeOf (Refutes (truth v))) o

  axiom_sound : Refutable (axiom_row q)
  axiom_sound = where_true _ _ (is_closed q) _ (λ h _. absurd (refuted_closed (truth v) (truth_valuation v) q h no))

  -- a conditional has the value of the branch that its condition chooses
  fork_refuted : (b : Side) (d : Branches) (r : Sequent) → truth v (If d.condition d.first d.second) ≡ truth_on b → Refutes (truth v) r
      → SomeOf (Refutes (truth v)) (then_premise b d r ∷ else_premise b d r ∷ [])
  fork_refuted b d r h k = go (truth v d.condition) refl h
    where
      go : (c : Bool) → truth v d.condition ≡ c → (if c then truth v d.first else truth v d.second) ≡ truth_on b → SomeOf (Refutes (truth v)) (then_premise b d r ∷ else_premise b d r ∷ [])
      go true x j = inl (refuted_add (truth v) side.Antecedents d.condition (add b d.first r) x (refuted_add (truth v) b d.first r j k))
      go false x j = inr (inl (refuted_add (truth v) side.Consequents d.condition (add b d.second r) x (refuted_add (truth v) b d.second r j k)))

  if_sound : (p : Place) (t : Tree) → formula_at q p ≡ Some t → Refutable (if_row q p t)
  if_sound p t h = where_found _ _ (branches_of t) _ (λ d e _.
      fork_refuted (side_of p) d (without q p) (sym (ap (truth v) (branches_are t d e)) ∙ refuted_at (truth v) q p t h no) (refuted_without (truth v) q p no))

  row_sound : (r : Rule) → Refutable (row q r)
  row_sound rule.Axiom = axiom_sound
  row_sound (rule.If n) = where_found _ _ (formula_at q (place_of n)) _ (λ t h. if_sound (place_of n) t h)

-- a sequent is true where the premises of a step on it are
pub step_sound : (v : TruthAssignment) (q : Sequent) (r : Rule) (ps : List Sequent) → step q r ≡ Ok ps → AreTrueSequents v ps → IsTrueSequent v q
step_sound v q r ps h k = not_refuted_true v q (λ no.
    true_none_refuted v ps k (finished_refuted (Refutes (truth v)) (none_closed_in v) (truth v) (λ _ x. x) q no (row q r) ps (row_sound v q no r) h))
