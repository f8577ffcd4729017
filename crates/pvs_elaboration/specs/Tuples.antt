-- What is left of a tuple, and of a type of tuples.
use Rattle.std.specs.Prelude.{ℕ, suc, List, [], ◌∷◌, Ok}
use Rattle.pvs_base.specs.Answers.{◌>>=◌}
use Rattle.pvs_base.specs.declared.place.Pos.{Pos}
use Rattle.pvs_terms.specs.Tree.{Text, Tree, TPair, Tup}
use Rattle.pvs_terms.specs.declared.shape.Sort.{Sort}
use Rattle.pvs_terms.specs.declared.shape.Sort.TheVariants.{OfType, OfTerm}
use Rattle.pvs_terms.specs.Stored.{Stored, tree_at}
use Rattle.pvs_types.specs.Coerce.{lift_one}
use Rattle.pvs_elab.specs.Answer.{Answer, within_limits_at}
use Rattle.pvs_elab.specs.Elab.{Elab, TypedTree, under_name}
use Rattle.pvs_elaboration.specs.declared.binder.Binding.{Binding}
use Rattle.pvs_elaboration.specs.declared.tuples.Pair.{Pair}
use Rattle.pvs_elaboration.specs.declared.tuples.TupleRow.{TupleRow}
use Rattle.pvs_elaboration.specs.declared.tuples.TupleRow.TheVariants as tuple
use Rattle.pvs_elaboration.specs.declared.tuples.ProductRow.{ProductRow}
use Rattle.pvs_elaboration.specs.declared.tuples.ProductRow.TheVariants as product
use Rattle.pvs_elaboration.specs.Known.{Sources, place_in, word_at, Site}
use Rattle.pvs_elaboration.specs.Meanings.{Meaning, typed_at, typed_answer, formed_answer, on_typed, on_term, on_formed, elab_at}

-- A tuple of k + 2 components, after each of its steps: the types of the first and of the others are `c` and `d`.
abbrev pub tuple_lifted : ℕ → Pos → Tree → Tree → Tree → Answer TypedTree
tuple_lifted k at t c d = within_limits_at at (TPair (suc (suc k)) c d) >>= (λ u. Ok (record { tree = t; ty = u }))

abbrev pub tuple_tree : ℕ → Pos → Tree → Tree → Tree → Answer TypedTree
tuple_tree k at c d t = within_limits_at at (TPair (suc (suc k)) c (lift_one d)) >>= (λ u. Ok (record { tree = t; ty = u }))

abbrev pub tuple_second : ℕ → Pos → TypedTree → TypedTree → Answer TypedTree
tuple_second k at a b = within_limits_at at (Tup (suc (suc k)) a.tree b.tree) >>= tuple_tree k at a.ty b.ty

abbrev pub tuple_first : Site → Elab → ℕ → Pos → TypedTree → Answer TypedTree
tuple_first z y k at a = y.infer z.here >>= tuple_second k at a

abbrev pub tuple_answer : Site → Stored → Sources → TupleRow → Pair → Meaning → Answer Meaning
tuple_answer z s text tuple.First o = on_typed (λ a. typed_answer (tuple_first z (elab_at z text o.second) o.beyond (place_in text o.at) a))
tuple_answer z s text (tuple.Second a) o = on_typed (λ b. typed_answer (tuple_second o.beyond (place_in text o.at) (typed_at s a) b))
tuple_answer z s text (tuple.Tree c d) o = on_term (λ t. typed_answer (tuple_tree o.beyond (place_in text o.at) (tree_at s c) (tree_at s d) t))
tuple_answer z s text (tuple.Lifted t c) o = on_formed (λ d. typed_answer (tuple_lifted o.beyond (place_in text o.at) (tree_at s t) (tree_at s c) d))

abbrev pub tuple_numbers : TupleRow → List (Sort × ℕ)
tuple_numbers tuple.First = []
tuple_numbers (tuple.Second a) = (OfTerm, a.tree) ∷ (OfType, a.ty) ∷ []
tuple_numbers (tuple.Tree c d) = (OfType, c) ∷ (OfType, d) ∷ []
tuple_numbers (tuple.Lifted t c) = (OfTerm, t) ∷ (OfType, c) ∷ []

-- The type of the tuples of k + 2 components, after each of its steps.
abbrev pub product_second : ℕ → Pos → Tree → Tree → Answer Tree
product_second k at c e = within_limits_at at (TPair (suc (suc k)) c e)

abbrev pub product_first : Site → Text → Elab → ℕ → Pos → Tree → Answer Tree
product_first z x b k at c = b.formed (under_name x c z.here) >>= product_second k at c

abbrev pub product_answer : Site → Stored → Sources → ProductRow → ℕ → Binding → Meaning → Answer Meaning
product_answer z s text product.First k o = on_formed (λ c. formed_answer (product_first z (word_at text o.name) (elab_at z text o.body) k (place_in text o.at) c))
product_answer z s text (product.Second c) k o = on_formed (λ e. formed_answer (product_second k (place_in text o.at) (tree_at s c) e))

abbrev pub product_numbers : ProductRow → List (Sort × ℕ)
product_numbers product.First = []
product_numbers (product.Second c) = (OfType, c) ∷ []
