-- What is owed for a type to have a member, by number.
use Rattle.std.specs.Prelude.{◌≡◌, ℕ, true, false, List, [], ◌∷◌, Option, Some, None, Ok}
use Rattle.pvs_terms.specs.Tree.{Tree, Ref}
use Rattle.pvs_terms.specs.declared.shape.Sort.TheVariants.{OfTerm}
use Rattle.pvs_terms.specs.Stored.{Stored, tree_at}
use Rattle.pvs_sig.specs.Lookups.{Lookups}
use Rattle.pvs_types.specs.Forms.{is_known_nonempty}
use Rattle.pvs_types.specs.Outcome.{Conditions, Outcome, Accepted}
use Rattle.pvs_subst.specs.declared.context.Condition.{Condition}
use Rattle.pvs_typing.specs.Owed.{AreKnownConditions, conditions_at}
use Rattle.pvs_typing.specs.Answers.{Gives}
use Rattle.pvs_elab.specs.Declaration.{existential}
use Rattle.pvs_elaboration.specs.Known.{Known}

-- nothing, or this formula under no hypothesis
abbrev pub conditions_of : Stored → Option ℕ → Conditions
conditions_of s None = []
conditions_of s (Some i) = record { context = []; goal = tree_at s i } ∷ []

-- nothing where the type is known to be nonempty, and else the number of the formula that it has a member
abbrev pub IsExistence : Lookups → Known → Tree → Option ℕ → Type 0
IsExistence l k a None = is_known_nonempty l a ≡ Ok true
IsExistence l k a (Some i) = (is_known_nonempty l a ≡ Ok false) × Gives k.stored k.declares OfTerm (existential a) i

-- typing accepts, and these are the conditions, each of the store
pub record OwesThese (k : Known) (o : Outcome (Unit {0})) (cs : List Condition) : Type 0 where
  pub used : List Ref
  pub is : o ≡ Accepted tt (conditions_at k.stored cs) used
  pub known : AreKnownConditions k.stored k.declares cs
