-- What is left of a projection.
use Rattle.std.specs.Prelude.{ℕ, zero, suc, pred, nat_eq, nat_lt, if◌then◌else◌, List, [], ◌∷◌, Ok}
use Rattle.pvs_base.specs.Answers.{◌>>=◌}
use Rattle.pvs_base.specs.declared.place.Pos.{Pos}
use Rattle.pvs_base.specs.declared.code.Code.TheVariants.{NoSuchPart}
use Rattle.pvs_terms.specs.Tree.{Tree, Fst, Snd}
use Rattle.pvs_terms.specs.declared.shape.Sort.{Sort}
use Rattle.pvs_terms.specs.declared.shape.Sort.TheVariants.{OfType, OfTerm}
use Rattle.pvs_terms.specs.Stored.{Stored, tree_at}
use Rattle.pvs_subst.specs.Replace.{put_in}
use Rattle.pvs_types.specs.Outcome.{from_result}
use Rattle.pvs_types.specs.Forms.{head}
use Rattle.pvs_types.specs.Typing.{Components, tuple_of}
use Rattle.pvs_elab.specs.Answer.{Answer, fault, within_limits_at, from_outcome, from_part}
use Rattle.pvs_elab.specs.Desugar.{decimal}
use Rattle.pvs_elab.specs.Elab.{TypedTree, part_from, tuple_size}
use Rattle.pvs_elaboration.specs.declared.parts.Projection.{Projection}
use Rattle.pvs_elaboration.specs.declared.parts.PartRow.{PartRow}
use Rattle.pvs_elaboration.specs.declared.parts.PartRow.TheVariants as part
use Rattle.pvs_elaboration.specs.Known.{Sources, place_in, word_at, Site}
use Rattle.pvs_elaboration.specs.Meanings.{Meaning, typed_at, typed_answer, on_typed, on_term, on_formed}

-- A projection of a tuple of k components, which begins at `at`, after each of its steps. The component has i others before
-- it, or i and one.
abbrev pub part_next : Site → Pos → Pos → ℕ → ℕ → Tree → Tree → Answer TypedTree
part_next z at number k i u b = if nat_eq k 2 then Ok (record { tree = u; ty = b }) else part_from z.lookups at number (pred k) (suc i) u b

abbrev pub part_rest : Site → Pos → Pos → ℕ → ℕ → Tree → Tree → Tree → Answer TypedTree
part_rest z at number k i e f u = within_limits_at at (put_in e f) >>= part_next z at number k i u

abbrev pub part_others : Site → Pos → Pos → ℕ → ℕ → Tree → Tree → Tree → Answer TypedTree
part_others z at number k i t e f = within_limits_at at (Snd k t) >>= part_rest z at number k i e f

abbrev pub part_first : Pos → ℕ → Tree → Tree → Answer TypedTree
part_first at k t c = within_limits_at at (Fst k t) >>= (λ u. Ok (record { tree = u; ty = c }))

abbrev pub components : Tree → Tree → Components
components c d = record { first = c; second = d }

abbrev pub part_components : Site → Pos → Pos → ℕ → ℕ → Tree → Components → Answer TypedTree
part_components z at number k zero t d = part_first at k t d.first
part_components z at number k (suc i) t d = part_others z at number k i t d.second (Fst k t)

abbrev pub part_head : Site → Pos → Pos → ℕ → ℕ → Tree → Tree → Answer TypedTree
part_head z at number k i t c = from_part number at (tuple_of k c) >>= part_components z at number k i t

-- The number of the component is i.
abbrev pub part_start : Site → Pos → Pos → ℕ → TypedTree → ℕ → Answer TypedTree
part_start z at number i t k = if nat_lt k i then fault number NoSuchPart else part_from z.lookups at number k i t.tree t.ty

abbrev pub part_size : Site → Pos → Pos → ℕ → TypedTree → Tree → Answer TypedTree
part_size z at number i t a = from_outcome at (tuple_size a) >>= part_start z at number i t

abbrev pub part_operand : Site → Pos → Pos → ℕ → TypedTree → Answer TypedTree
part_operand z at number i t = from_outcome at (from_result (head z.lookups t.ty)) >>= part_size z at number i t

abbrev pub part_number : Sources → Projection → ℕ
part_number text o = decimal 0 (word_at text o.digits)

-- rows have how many components there are beyond two
abbrev pub part_answer : Site → Stored → Sources → PartRow → Projection → Meaning → Answer Meaning
part_answer z s text part.Operand o = on_typed (λ t. typed_answer (part_operand z (place_in text o.at) (place_in text o.number_at) (part_number text o) t))
part_answer z s text (part.Size t) o = on_formed (λ a. typed_answer (part_size z (place_in text o.at) (place_in text o.number_at) (part_number text o) (typed_at s t) a))
part_answer z s text (part.From m i) o = on_typed (λ t. typed_answer (part_from z.lookups (place_in text o.at) (place_in text o.number_at) (suc (suc m)) (suc i) t.tree t.ty))
part_answer z s text (part.Head m i t) o = on_formed (λ c. typed_answer (part_head z (place_in text o.at) (place_in text o.number_at) (suc (suc m)) i (tree_at s t) c))
part_answer z s text (part.Others m i t e) o = on_term (λ f. typed_answer (part_others z (place_in text o.at) (place_in text o.number_at) (suc (suc m)) i (tree_at s t) (tree_at s e) f))
part_answer z s text (part.Rest m i f e) o = on_term (λ u. typed_answer (part_rest z (place_in text o.at) (place_in text o.number_at) (suc (suc m)) i (tree_at s e) (tree_at s f) u))
part_answer z s text (part.Next m i u) o = on_formed (λ b. typed_answer (part_next z (place_in text o.at) (place_in text o.number_at) (suc (suc m)) i (tree_at s u) b))

abbrev pub part_numbers : PartRow → List (Sort × ℕ)
part_numbers part.Operand = []
part_numbers (part.Size t) = (OfTerm, t.tree) ∷ (OfType, t.ty) ∷ []
part_numbers (part.From m i) = []
part_numbers (part.Head m i t) = (OfTerm, t) ∷ []
part_numbers (part.Others m i t e) = (OfTerm, t) ∷ (OfType, e) ∷ []
part_numbers (part.Rest m i f e) = (OfTerm, f) ∷ (OfType, e) ∷ []
part_numbers (part.Next m i u) = (OfTerm, u) ∷ []
