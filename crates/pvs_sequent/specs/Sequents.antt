-- Sequents of core trees: their formulas by number, and what a rule does to one.
use Rattle.std.specs.Prelude.{zero, suc, ℤ, pos, negsuc, Bool, ◌||◌, if◌then◌else◌, List, [], ◌∷◌, remove, slice_get, Option, None}
use Rattle.std.specs.List.{list_any}
use Rattle.pvs_terms.specs.Tree.{Tree, True, False, tree_eq}
use Rattle.pvs_sequent.specs.declared.place.Place.{Place}
use Rattle.pvs_sequent.specs.declared.place.Place.TheVariants as place
use Rattle.pvs_sequent.specs.declared.place.Side.{Side}
use Rattle.pvs_sequent.specs.declared.place.Side.TheVariants as side

-- The antecedents together imply one of the consequents, for all values of the variables. These are
-- given by their types, the last variable first: it is index 0. Each type stands under the variables
-- that come after it in this list.
pub record Sequent : Type 0 where
  pub variables : List Tree
  pub antecedents : List Tree
  pub consequents : List Tree

-- the sequent that is to be proved of a formula
abbrev pub goal : Tree → Sequent
goal t = record { variables = []; antecedents = []; consequents = t ∷ [] }

-- where the formula of a number stands: 1, 2, .. are consequents and -1, -2, .. antecedents
abbrev pub place_of : ℤ → Place
place_of (pos zero) = place.Nowhere
place_of (pos (suc i)) = place.Consequent i
place_of (negsuc i) = place.Antecedent i

-- the side of a place
abbrev pub side_of : Place → Side
side_of place.Nowhere = side.Consequents
side_of (place.Consequent i) = side.Consequents
side_of (place.Antecedent i) = side.Antecedents

-- the formula at a place
abbrev pub formula_at : Sequent → Place → Option Tree
formula_at q place.Nowhere = None
formula_at q (place.Consequent i) = slice_get q.consequents i
formula_at q (place.Antecedent i) = slice_get q.antecedents i

-- the sequent without the formula at a place
abbrev pub without : Sequent → Place → Sequent
without q place.Nowhere = q
without q (place.Consequent i) = record { variables = q.variables; antecedents = q.antecedents; consequents = remove q.consequents i }
without q (place.Antecedent i) = record { variables = q.variables; antecedents = remove q.antecedents i; consequents = q.consequents }

-- with a formula as the first one of a side, whatever it is
abbrev pub with_first : Side → Tree → Sequent → Sequent
with_first side.Antecedents t q = record { variables = q.variables; antecedents = t ∷ q.antecedents; consequents = q.consequents }
with_first side.Consequents t q = record { variables = q.variables; antecedents = q.antecedents; consequents = t ∷ q.consequents }

-- a formula that says nothing on a side: TRUE as an antecedent, FALSE as a consequent
abbrev pub is_redundant : Side → Tree → Bool
is_redundant side.Antecedents t = tree_eq t True
is_redundant side.Consequents t = tree_eq t False

-- with a new formula as the first one of a side, unless it says nothing there
abbrev pub add : Side → Tree → Sequent → Sequent
add b t q = if is_redundant b t then q else with_first b t q

-- a formula that closes a sequent alone: FALSE as an antecedent, TRUE as a consequent
abbrev pub is_closing : Side → Tree → Bool
is_closing side.Antecedents t = tree_eq False t
is_closing side.Consequents t = tree_eq True t

-- whether a formula is among the formulas
abbrev pub is_among : Tree → List Tree → Bool
is_among t ts = list_any (tree_eq t) ts

-- whether some formula is among both
abbrev pub shares : List Tree → List Tree → Bool
shares ts us = list_any (λ t. is_among t us) ts

-- formulas of both sides that close a sequent: an antecedent is FALSE, a consequent is TRUE, or an antecedent equals a consequent
abbrev pub close_sequent : List Tree → List Tree → Bool
close_sequent ts us = list_any (is_closing side.Antecedents) ts || (list_any (is_closing side.Consequents) us || shares ts us)

-- the rule axiom closes it
abbrev pub is_closed : Sequent → Bool
is_closed q = close_sequent q.antecedents q.consequents
