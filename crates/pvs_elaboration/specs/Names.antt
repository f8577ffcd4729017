-- What is left of a name.
use Rattle.std.specs.Prelude.{◌≡◌, ◌-◌, ℕ, List, [], ◌∷◌, Option, Some, None, Ok}
use Rattle.pvs_base.specs.Answers.{◌>>=◌}
use Rattle.pvs_base.specs.declared.place.Pos.{Pos}
use Rattle.pvs_terms.specs.Tree.{Text, Tree, Ref, IsWithinLimits}
use Rattle.pvs_terms.specs.declared.shape.Sort.{Sort}
use Rattle.pvs_terms.specs.declared.shape.Sort.TheVariants.{OfType}
use Rattle.pvs_terms.specs.Stored.{Stored, tree_at}
use Rattle.pvs_subst.specs.Replace.{lift}
use Rattle.pvs_types.specs.Typing.{infer, check, well_formed}
use Rattle.pvs_elab.specs.Answer.{Answer, from_outcome}
use Rattle.pvs_elab.specs.Names.{Names}
use Rattle.pvs_elab.specs.Elab.{TypedTree}
use Rattle.pvs_elaboration.specs.declared.here.Local.{Local}
use Rattle.pvs_elaboration.specs.declared.names.NameRow.{NameRow}
use Rattle.pvs_elaboration.specs.declared.names.NameRow.TheVariants as name
use Rattle.pvs_elaboration.specs.Known.{Sources, place_in, Site}
use Rattle.pvs_elaboration.specs.Meanings.{Meaning, typed_answer, term_answer, formed_answer, on_term, on_formed}

-- a term with the type that typing finds
abbrev pub inferred_at : Site → Pos → Tree → Answer TypedTree
inferred_at z at t = from_outcome at (infer z.lookups z.here.context t) >>= (λ a. Ok (record { tree = t; ty = a }))

-- a term that typing accepts as one of a type
abbrev pub checked_at : Site → Pos → Tree → Tree → Answer Tree
checked_at z at u t = from_outcome at (check z.lookups z.here.context t u) >>= (λ _. Ok t)

-- a type that typing accepts
abbrev pub accepted_at : Site → Pos → Tree → Answer Tree
accepted_at z at t = from_outcome at (well_formed z.lookups z.here.context t) >>= (λ _. Ok t)

abbrev pub name_answer : Site → Stored → Sources → NameRow → ℕ → Meaning → Answer Meaning
name_answer z s text name.Infer at = on_term (λ t. typed_answer (inferred_at z (place_in text at) t))
name_answer z s text (name.Check u) at = on_term (λ t. term_answer (checked_at z (place_in text at) (tree_at s u) t))
name_answer z s text name.Formed at = on_formed (λ t. formed_answer (accepted_at z (place_in text at) t))

abbrev pub name_numbers : NameRow → List (Sort × ℕ)
name_numbers name.Infer = []
name_numbers (name.Check u) = (OfType, u) ∷ []
name_numbers name.Formed = []

-- the number stands for the type of the VAR of this name
pub record IsVariable (s : Stored) (names : Names) (x : Text) (i : ℕ) : Type 0 where
  pub reference : Ref
  pub is : names.variable_named x ≡ Ok (record { reference = reference; ty = tree_at s i })
  pub fits : IsWithinLimits (tree_at s i)

-- the term of a local name where so many variables are bound
abbrev pub local_tree : Stored → ℕ → Option (ℕ × ℕ) → Option Tree
local_tree s d None = None
local_tree s d (Some i) = Some (lift (tree_at s i.0) (d - i.1) 0)

-- the term of a local name, and how many variables were bound where it was
abbrev pub numbers_of : Option Local → Option (ℕ × ℕ)
numbers_of None = None
numbers_of (Some l) = Some (l.term, l.at)
