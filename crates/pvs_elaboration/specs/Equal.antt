-- What is left of an equation and of IFF.
use Rattle.std.specs.Prelude.{ℕ, if◌then◌else◌, List, [], ◌∷◌, Ok}
use Rattle.pvs_base.specs.Answers.{◌>>=◌}
use Rattle.pvs_base.specs.declared.place.Pos.{Pos}
use Rattle.pvs_terms.specs.Tree.{Tree, TBool, Eq}
use Rattle.pvs_terms.specs.declared.shape.Sort.{Sort}
use Rattle.pvs_terms.specs.declared.shape.Sort.TheVariants.{OfType, OfTerm}
use Rattle.pvs_terms.specs.Stored.{Stored, tree_at}
use Rattle.pvs_types.specs.Outcome.{from_result}
use Rattle.pvs_types.specs.Forms.{head, most}
use Rattle.pvs_types.specs.Coerce.{coerce}
use Rattle.pvs_types.specs.Typing.{is_forall, typing}
use Rattle.pvs_elab.specs.Answer.{Answer, fault, within_limits_at, from_outcome, from_outcome_at, from_text_or_outcome}
use Rattle.pvs_elab.specs.Elab.{Elab, TypedTree, truth_type}
use Rattle.pvs_elaboration.specs.declared.equal.Sides.{Sides}
use Rattle.pvs_elaboration.specs.declared.equal.EqualRow.{EqualRow}
use Rattle.pvs_elaboration.specs.declared.equal.EqualRow.TheVariants as equal
use Rattle.pvs_elaboration.specs.Known.{Sources, place_in, Site}
use Rattle.pvs_elaboration.specs.Meanings.{Meaning, typed_at, typed_answer, on_typed, on_term, on_formed, on_done, elab_at}

-- An equation of `x` and `y`, which begin at `left` and `right`, after each of its steps: their trees and types are `a` and
-- `b`, and its tree is `t`.
abbrev pub equal_last : Tree → Answer TypedTree
equal_last t = Ok (record { tree = t; ty = TBool })

abbrev pub equal_left : Site → Pos → Pos → TypedTree → Tree → Tree → Answer TypedTree
equal_left z left right a t u = from_outcome_at left right (coerce z.lookups z.here.context a.tree a.ty u) >>= (λ _. equal_last t)

abbrev pub equal_right : Site → Pos → Pos → TypedTree → TypedTree → Tree → Tree → Answer TypedTree
equal_right z left right a b t u = from_outcome right (coerce z.lookups z.here.context b.tree b.ty u) >>= (λ _. equal_left z left right a t u)

abbrev pub equal_sides : Site → Pos → Pos → TypedTree → TypedTree → Tree → Answer TypedTree
equal_sides z left right a b t = from_outcome left (from_result (most z.lookups a.ty)) >>= equal_right z left right a b t

-- a universal formula is typed as one
abbrev pub equal_forall : Site → Elab → Pos → TypedTree → Tree → Answer TypedTree
equal_forall z x left a t = from_text_or_outcome (x.predicate z.here) left ((typing z.lookups a.tree).predicate z.here.context) >>= (λ _. equal_last t)

abbrev pub equal_typing : Site → Elab → Pos → Pos → TypedTree → TypedTree → Tree → Answer TypedTree
equal_typing z x left right a b t = if is_forall a.tree b.tree then equal_forall z x left a t else equal_sides z left right a b t

abbrev pub equal_tree : Site → Elab → Pos → Pos → TypedTree → TypedTree → Answer TypedTree
equal_tree z x left right a b = within_limits_at left (Eq a.tree b.tree) >>= equal_typing z x left right a b

abbrev pub equal_first : Site → Elab → Elab → Pos → Pos → TypedTree → Answer TypedTree
equal_first z x y left right a = y.infer z.here >>= equal_tree z x left right a

abbrev pub iff_head : Site → Elab → Elab → Pos → Pos → TypedTree → Tree → Answer TypedTree
iff_head z x y left right a d = from_outcome left (truth_type d) >>= (λ _. equal_first z x y left right a)

abbrev pub iff_first : Site → Elab → Elab → Pos → Pos → TypedTree → Answer TypedTree
iff_first z x y left right a = from_outcome left (from_result (head z.lookups a.ty)) >>= iff_head z x y left right a

abbrev pub equal_answer : Site → Stored → Sources → EqualRow → Sides → Meaning → Answer Meaning
equal_answer z s text equal.Iff o = on_typed (λ a. typed_answer (iff_first z (elab_at z text o.left) (elab_at z text o.right) (place_in text o.left_at) (place_in text o.right_at) a))
equal_answer z s text (equal.IffHead a) o = on_formed (λ d. typed_answer (iff_head z (elab_at z text o.left) (elab_at z text o.right) (place_in text o.left_at) (place_in text o.right_at) (typed_at s a) d))
equal_answer z s text equal.Right o = on_typed (λ a. typed_answer (equal_first z (elab_at z text o.left) (elab_at z text o.right) (place_in text o.left_at) (place_in text o.right_at) a))
equal_answer z s text (equal.Equation a) o = on_typed (λ b. typed_answer (equal_tree z (elab_at z text o.left) (place_in text o.left_at) (place_in text o.right_at) (typed_at s a) b))
equal_answer z s text (equal.Typing a b) o = on_term (λ t. typed_answer (equal_typing z (elab_at z text o.left) (place_in text o.left_at) (place_in text o.right_at) (typed_at s a) (typed_at s b) t))
equal_answer z s text (equal.Refused c) o = on_done (fault (place_in text o.left_at) c)
equal_answer z s text (equal.RightSide a b t) o = on_formed (λ u. typed_answer (equal_right z (place_in text o.left_at) (place_in text o.right_at) (typed_at s a) (typed_at s b) (tree_at s t) u))
equal_answer z s text (equal.LeftSide a t u) o = on_term (λ _. typed_answer (equal_left z (place_in text o.left_at) (place_in text o.right_at) (typed_at s a) (tree_at s t) (tree_at s u)))
equal_answer z s text (equal.Last t) o = on_term (λ _. typed_answer (equal_last (tree_at s t)))

abbrev pub equal_numbers : EqualRow → List (Sort × ℕ)
equal_numbers equal.Iff = []
equal_numbers (equal.IffHead a) = (OfTerm, a.tree) ∷ (OfType, a.ty) ∷ []
equal_numbers equal.Right = []
equal_numbers (equal.Equation a) = (OfTerm, a.tree) ∷ (OfType, a.ty) ∷ []
equal_numbers (equal.Typing a b) = (OfTerm, a.tree) ∷ (OfType, a.ty) ∷ (OfTerm, b.tree) ∷ (OfType, b.ty) ∷ []
equal_numbers (equal.Refused c) = []
equal_numbers (equal.RightSide a b t) = (OfTerm, a.tree) ∷ (OfType, a.ty) ∷ (OfTerm, b.tree) ∷ (OfType, b.ty) ∷ (OfTerm, t) ∷ []
equal_numbers (equal.LeftSide a t u) = (OfTerm, a.tree) ∷ (OfType, a.ty) ∷ (OfTerm, t) ∷ (OfType, u) ∷ []
equal_numbers (equal.Last t) = (OfTerm, t) ∷ []
