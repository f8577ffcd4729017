-- What is found, and what is done with it.
use Rattle.std.specs.Prelude.{ℕ, List, [], ◌∷◌, Option, Some, None, Ok}
use Rattle.pvs_base.specs.Answers.{◌>>=◌}
use Rattle.pvs_base.specs.declared.place.Pos.{Pos}
use Rattle.pvs_base.specs.declared.code.Code.{Code}
use Rattle.pvs_terms.specs.Tree.{Tree}
use Rattle.pvs_terms.specs.declared.shape.Sort.{Sort}
use Rattle.pvs_terms.specs.declared.shape.Sort.TheVariants.{OfType, OfTerm}
use Rattle.pvs_terms.specs.Stored.{Stored, tree_at}
use Rattle.pvs_typing.specs.declared.fault.TypeFault.{TypeFault}
use Rattle.pvs_typing.specs.declared.fault.TypeFault.TheVariants as type_fault
use Rattle.pvs_elab.specs.Answer.{Answer, place_of_code}
use Rattle.pvs_elab.specs.Elab.{Elab, TypedTree, elab}
use Rattle.pvs_elaboration.specs.declared.fault.ElabFault.{ElabFault}
use Rattle.pvs_elaboration.specs.declared.fault.ElabFault.TheVariants as elab_fault
use Rattle.pvs_elaboration.specs.declared.here.Typed as here
use Rattle.pvs_elaboration.specs.declared.value.Value.{Value}
use Rattle.pvs_elaboration.specs.declared.value.Value.TheVariants as value
use Rattle.pvs_elaboration.specs.Known.{Sources, phrase_at, Site}

-- what a part answers: a term with its type, a term, a type, or nothing
pub data Meaning : Type 0 where
  Typed : TypedTree → Meaning
  Term : Tree → Meaning
  Formed : Tree → Meaning
  Done : Meaning

abbrev pub typed_at : Stored → here.Typed → TypedTree
typed_at s t = record { tree = tree_at s t.tree; ty = tree_at s t.ty }

-- what a value stands for, and its numbers
abbrev pub meaning : Stored → Value → Meaning
meaning s (value.Typed t) = Typed (typed_at s t)
meaning s (value.Term i) = Term (tree_at s i)
meaning s (value.Formed i) = Formed (tree_at s i)
meaning s value.Done = Done

abbrev pub value_numbers : Value → List (Sort × ℕ)
value_numbers (value.Typed t) = (OfTerm, t.tree) ∷ (OfType, t.ty) ∷ []
value_numbers (value.Term i) = (OfTerm, i) ∷ []
value_numbers (value.Formed i) = (OfType, i) ∷ []
value_numbers value.Done = []

-- the number of a term, or of a type, that was found
abbrev pub term_within : Value → Option ℕ
term_within (value.Typed t) = None
term_within (value.Term i) = Some i
term_within (value.Formed i) = None
term_within value.Done = None

abbrev pub type_within : Value → Option ℕ
type_within (value.Typed t) = None
type_within (value.Term i) = None
type_within (value.Formed i) = Some i
type_within value.Done = None

abbrev pub typed_answer : Answer TypedTree → Answer Meaning
typed_answer r = r >>= (λ t. Ok (Typed t))

abbrev pub term_answer : Answer Tree → Answer Meaning
term_answer r = r >>= (λ t. Ok (Term t))

abbrev pub formed_answer : Answer Tree → Answer Meaning
formed_answer r = r >>= (λ t. Ok (Formed t))

abbrev pub done_answer : Answer (Unit {0}) → Answer Meaning
done_answer r = r >>= (λ u. Ok Done)

-- what is done with a value of one kind; another is left as it is
abbrev pub on_typed : (TypedTree → Answer Meaning) → Meaning → Answer Meaning
on_typed f (Typed t) = f t
on_typed f (Term t) = Ok (Term t)
on_typed f (Formed t) = Ok (Formed t)
on_typed f Done = Ok Done

abbrev pub on_term : (Tree → Answer Meaning) → Meaning → Answer Meaning
on_term f (Typed t) = Ok (Typed t)
on_term f (Term t) = f t
on_term f (Formed t) = Ok (Formed t)
on_term f Done = Ok Done

abbrev pub on_formed : (Tree → Answer Meaning) → Meaning → Answer Meaning
on_formed f (Typed t) = Ok (Typed t)
on_formed f (Term t) = Ok (Term t)
on_formed f (Formed t) = f t
on_formed f Done = Ok Done

abbrev pub on_done : Answer Meaning → Meaning → Answer Meaning
on_done r (Typed t) = Ok (Typed t)
on_done r (Term t) = Ok (Term t)
on_done r (Formed t) = Ok (Formed t)
on_done r Done = r

-- what the definition says of a part
abbrev pub elab_at : Site → Sources → ℕ → Elab
elab_at z text p = elab z.lookups z.names (phrase_at text p)

abbrev pub fault_at : Pos → Code → ElabFault
fault_at pos c = elab_fault.At (record { pos = pos; code = c })

-- a fault of typing: the place of TooLarge, and that of all else
abbrev pub fault_of : Pos → Pos → TypeFault → ElabFault
fault_of large at (type_fault.Refused c) = fault_at (place_of_code large at c) c
fault_of large at type_fault.Memory = elab_fault.Memory
