-- The rows of the table of rules: what each rule applies to, and its main premises.
use Rattle.std.specs.Prelude.{ℤ, [], ◌∷◌, Option, Some, None}
use Rattle.pvs_terms.specs.Tree.{Tree, If}
use Rattle.pvs_sequent.specs.declared.place.Place.{Place}
use Rattle.pvs_sequent.specs.declared.place.Side.{Side}
use Rattle.pvs_sequent.specs.declared.place.Side.TheVariants as side
use Rattle.pvs_sequent.specs.Sequents.{Sequent, place_of, side_of, formula_at, without, add, is_closed}
use Rattle.pvs_sequent.specs.Outcomes.{Outcome, ◌>>=◌, ◌>>◌, pure, only, applicable}
use Rattle.pvs_sequent.specs.Premises.{Premises}
use Rattle.pvs_rules_logic.specs.Rules.{Rule}
use Rattle.pvs_rules_logic.specs.Rules as rule

-- the formula of a number
abbrev pub numbered : Sequent → ℤ → Outcome Tree
numbered q n = applicable (formula_at q (place_of n))

-- the parts of a conditional
pub record Branches : Type 0 where
  pub condition : Tree
  pub first : Tree
  pub second : Tree

abbrev pub branches_of : Tree → Option Branches
branches_of (If c a b) = Some (record { condition = c; first = a; second = b })
branches_of t = None

-- where the condition holds, the first branch stands for a conditional on a side; where it does not, the second one
abbrev pub then_premise : Side → Branches → Sequent → Sequent
then_premise b d q = add side.Antecedents d.condition (add b d.first q)

abbrev pub else_premise : Side → Branches → Sequent → Sequent
else_premise b d q = add side.Consequents d.condition (add b d.second q)

abbrev pub axiom_row : Sequent → Premises
axiom_row q = do
  only (is_closed q)
  pure []

abbrev pub if_row : Sequent → Place → Tree → Premises
if_row q p t = do
  d ← applicable (branches_of t)
  pure (then_premise (side_of p) d (without q p) ∷ else_premise (side_of p) d (without q p) ∷ [])

abbrev pub row : Sequent → Rule → Premises
row q rule.Axiom = axiom_row q
row q (rule.If n) = numbered q n >>= (λ t. if_row q (place_of n) t)
