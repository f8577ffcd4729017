-- What is left of an application.
use Rattle.std.specs.Prelude.{ℕ, List, [], ◌∷◌, Ok}
use Rattle.pvs_base.specs.Answers.{◌>>=◌}
use Rattle.pvs_base.specs.declared.place.Pos.{Pos}
use Rattle.pvs_terms.specs.Tree.{Tree, App}
use Rattle.pvs_terms.specs.declared.shape.Sort.{Sort}
use Rattle.pvs_terms.specs.declared.shape.Sort.TheVariants.{OfType, OfTerm}
use Rattle.pvs_terms.specs.Stored.{Stored, tree_at}
use Rattle.pvs_subst.specs.Replace.{put_in}
use Rattle.pvs_types.specs.Outcome.{from_result}
use Rattle.pvs_types.specs.Forms.{head}
use Rattle.pvs_types.specs.Typing.{Components, function_of}
use Rattle.pvs_elab.specs.Answer.{Answer, within_limits_at, from_outcome}
use Rattle.pvs_elab.specs.Elab.{Elab, TypedTree}
use Rattle.pvs_elaboration.specs.declared.apply.ApplyRow.{ApplyRow}
use Rattle.pvs_elaboration.specs.declared.apply.ApplyRow.TheVariants as apply
use Rattle.pvs_elaboration.specs.declared.apply.Operands.{Operands}
use Rattle.pvs_elaboration.specs.Known.{Sources, place_in, Site}
use Rattle.pvs_elaboration.specs.Meanings.{Meaning, typed_answer, on_typed, on_term, on_formed, elab_at}

-- An application, after each of its steps; the argument is `x`.
abbrev pub apply_tree : Pos → Tree → Tree → Tree → Answer TypedTree
apply_tree at second a t = within_limits_at at (put_in second a) >>= (λ u. Ok (record { tree = t; ty = u }))

abbrev pub apply_argument : Pos → Tree → Tree → Tree → Answer TypedTree
apply_argument at c second a = within_limits_at at (App c a) >>= apply_tree at second a

abbrev pub apply_parts : Site → Elab → Pos → Tree → Components → Answer TypedTree
apply_parts z x at c d = x.check z.here x.place d.first >>= apply_argument at c d.second

abbrev pub apply_head : Site → Elab → Pos → Tree → Tree → Answer TypedTree
apply_head z x at c b = from_outcome at (function_of b) >>= apply_parts z x at c

abbrev pub apply_function : Site → Elab → Pos → TypedTree → Answer TypedTree
apply_function z x at c = from_outcome at (from_result (head z.lookups c.ty)) >>= apply_head z x at c.tree

abbrev pub apply_answer : Site → Stored → Sources → ApplyRow → Operands → Meaning → Answer Meaning
apply_answer z s text apply.Function o = on_typed (λ c. typed_answer (apply_function z (elab_at z text o.argument) (place_in text o.at) c))
apply_answer z s text (apply.Head c) o = on_formed (λ b. typed_answer (apply_head z (elab_at z text o.argument) (place_in text o.at) (tree_at s c) b))
apply_answer z s text (apply.Argument c d) o = on_term (λ a. typed_answer (apply_argument (place_in text o.at) (tree_at s c) (tree_at s d) a))
apply_answer z s text (apply.Tree d a) o = on_term (λ t. typed_answer (apply_tree (place_in text o.at) (tree_at s d) (tree_at s a) t))

abbrev pub apply_numbers : ApplyRow → List (Sort × ℕ)
apply_numbers apply.Function = []
apply_numbers (apply.Head c) = (OfTerm, c) ∷ []
apply_numbers (apply.Argument c d) = (OfTerm, c) ∷ (OfType, d) ∷ []
apply_numbers (apply.Tree d a) = (OfType, d) ∷ (OfTerm, a) ∷ []
