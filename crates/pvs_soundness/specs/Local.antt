-- Look-ups that agree on the references of a vocabulary, and vocabularies that have what each of their references leads to.
use Rattle.std.specs.Prelude.{◌≡◌, [], ◌∷◌, Some}
use Rattle.pvs_terms.specs.Tree.{Tree, Ref}
use Rattle.pvs_subst.specs.Contexts.{Assumptions, Variable, Hypothesis}
use Rattle.pvs_sig.specs.Lookups.{Lookups}
use Rattle.pvs_types.specs.Forms.{is_known_nonempty}
use Rattle.pvs_types.specs.Typing.{infer, check, well_formed}
use Rattle.pvs_soundness.specs.Vocabulary.{Vocabulary, HasReference, IsOver}

-- both give the same for each reference of it
pub record AgreesWith (V : Vocabulary) (s u : Lookups) : Type 0 where
  pub types : (r : Ref) → HasReference V r → s.type_of r ≡ u.type_of r
  pub bodies : (r : Ref) → HasReference V r → s.body_of r ≡ u.body_of r
  pub names : (r : Ref) → HasReference V r → s.is_type r ≡ u.is_type r
  pub nonempty : (r : Ref) → HasReference V r → s.is_nonempty r ≡ u.is_nonempty r

-- the types and the bodies of its references are over it
pub record IsClosedSet (V : Vocabulary) (s : Lookups) : Type 0 where
  pub types : (r : Ref) (a : Tree) → HasReference V r → s.type_of r ≡ Some a → IsOver V a
  pub bodies : (r : Ref) (a : Tree) → HasReference V r → s.body_of r ≡ Some a → IsOver V a

abbrev pub EachAssumed : Vocabulary → Assumptions → Type 0
EachAssumed V [] = Unit {0}
EachAssumed V (Variable a ∷ g) = IsOver V a × EachAssumed V g
EachAssumed V (Hypothesis p ∷ g) = IsOver V p × EachAssumed V g

-- typing answers the same for a tree
pub record IsAnsweredAlike (s u : Lookups) (g : Assumptions) (t a : Tree) : Type 0 where
  pub infer : infer s g t ≡ infer u g t
  pub check : check s g t a ≡ check u g t a
  pub well_formed : well_formed s g t ≡ well_formed u g t
  pub nonempty : is_known_nonempty s a ≡ is_known_nonempty u a
