-- What is left of a choice and of NOT.
use Rattle.std.specs.Prelude.{◌≡◌, ℕ, Bool, if◌then◌else◌, List, [], ◌∷◌, Option, Some, None, Result, Ok, Err}
use Rattle.pvs_base.specs.Answers.{◌>>=◌}
use Rattle.pvs_base.specs.declared.place.Pos.{Pos}
use Rattle.pvs_terms.specs.Tree.{Tree, TBool, True, If}
use Rattle.pvs_terms.specs.declared.shape.Sort.{Sort}
use Rattle.pvs_terms.specs.declared.shape.Sort.TheVariants.{OfType, OfTerm}
use Rattle.pvs_terms.specs.Stored.{Stored, tree_at}
use Rattle.pvs_subst.specs.Contexts.{Hypothesis}
use Rattle.pvs_sig.specs.Lookups.{Lookups}
use Rattle.pvs_types.specs.Outcome.{from_result}
use Rattle.pvs_types.specs.Forms.{up, most, first_among}
use Rattle.pvs_types.specs.Coerce.{coerce}
use Rattle.pvs_types.specs.Typing.{negation}
use Rattle.pvs_typing.specs.Answers.{IsOptionKnown, tree_option}
use Rattle.pvs_elab.specs.Answer.{Answer, ◌>>◌, pure, within_limits_at, from_outcome, from_outcome_at}
use Rattle.pvs_elab.specs.Elab.{Elab, TypedTree, under_hypothesis, negation_at, negation_as}
use Rattle.pvs_elab.specs.Elab as definition
use Rattle.pvs_elaboration.specs.declared.fault.ElabFault.{ElabFault}
use Rattle.pvs_elaboration.specs.declared.choice.Branches.{Branches}
use Rattle.pvs_elaboration.specs.declared.choice.ChoiceRow.{ChoiceRow}
use Rattle.pvs_elaboration.specs.declared.choice.ChoiceRow.TheVariants.{First, Negation, Second, Join, Types, General, JoinFirst, JoinSecond, Made, CheckFirst, CheckNegation, CheckSecond, CheckLast}
use Rattle.pvs_elaboration.specs.declared.choice.NotRow.{NotRow}
use Rattle.pvs_elaboration.specs.declared.choice.NotRow.TheVariants as not_form
use Rattle.pvs_elaboration.specs.Known.{Sources, place_in, Known, Grows, Site, Failed}
use Rattle.pvs_elaboration.specs.Meanings.{Meaning, Term, typed_at, typed_answer, term_answer, on_typed, on_term, on_formed, on_done, elab_at}

-- the places of the branches, that of branches that do not join, and that of the whole
pub record Places : Type 0 where
  pub first : Pos
  pub second : Pos
  pub join : Pos
  pub at : Pos

abbrev pub places_of : Sources → Branches → Places
places_of text b = record { first = place_in text b.first_at; second = place_in text b.second_at; join = place_in text b.join; at = place_in text b.at }

-- The type of both branches, after each of its steps: the condition is `p`, its negation `n`, and the branches are `a` and
-- `b`.
abbrev pub join_made : Places → Tree → TypedTree → TypedTree → Tree → Answer TypedTree
join_made g p a b u = within_limits_at g.at (If p a.tree b.tree) >>= (λ t. Ok (record { tree = t; ty = u }))

abbrev pub join_second : Site → Places → Tree → TypedTree → Tree → TypedTree → Tree → Answer TypedTree
join_second z g p a n b u = from_outcome_at g.second g.join (coerce z.lookups (Hypothesis n ∷ z.here.context) b.tree b.ty u) >>= (λ _. join_made g p a b u)

abbrev pub join_first : Site → Places → Tree → TypedTree → Tree → TypedTree → Tree → Answer TypedTree
join_first z g p a n b u = from_outcome_at g.first g.join (coerce z.lookups (Hypothesis p ∷ z.here.context) a.tree a.ty u) >>= (λ _. join_second z g p a n b u)

abbrev pub join_general : Site → Places → Tree → TypedTree → Tree → TypedTree → Answer TypedTree
join_general z g p a n b = from_outcome g.first (from_result (most z.lookups a.ty)) >>= join_first z g p a n b

abbrev pub join_shared : Site → Places → Tree → TypedTree → Tree → TypedTree → Option Tree → Answer TypedTree
join_shared z g p a n b (Some u) = join_made g p a b u
join_shared z g p a n b None = join_general z g p a n b

abbrev pub join_above : Site → Places → Tree → TypedTree → Tree → TypedTree → List Tree → Answer TypedTree
join_above z g p a n b us = from_outcome g.second (from_result (up z.lookups b.ty)) >>= (λ vs. join_shared z g p a n b (first_among us vs))

abbrev pub join_types : Site → Places → Tree → TypedTree → Tree → TypedTree → Answer TypedTree
join_types z g p a n b = from_outcome g.first (from_result (up z.lookups a.ty)) >>= join_above z g p a n b

abbrev pub join : Site → Bool → Places → Tree → TypedTree → Tree → TypedTree → Answer TypedTree
join z early g p a n b = if early then within_limits_at g.at (If p a.tree b.tree) >>= (λ _. join_types z g p a n b) else join_types z g p a n b

-- the first of these types that is above the type of the second branch, if there is one
abbrev pub first_shared : Lookups → Pos → List Tree → Tree → Answer (Option Tree)
first_shared l at us b = from_outcome at (from_result (up l b)) >>= (λ vs. Ok (first_among us vs))

pub record FindsShared (a b : Known) (r : Answer (Option Tree)) (o : Option ℕ) : Type 0 where
  pub kept : Grows a b
  pub known : IsOptionKnown b.stored b.declares o
  pub is : r ≡ Ok (tree_option b.stored o)

-- what a call tells of it
abbrev pub TellsShared : Known → Known → Answer (Option Tree) → Result (Option ℕ) ElabFault → Type 0
TellsShared a b r (Ok o) = FindsShared a b r o
TellsShared a b r (Err e) = Failed a b r e

-- the branches, after each step before
abbrev pub branch_second : Site → Bool → Places → Elab → Tree → TypedTree → Tree → Answer TypedTree
branch_second z early g y p a n = y.infer (under_hypothesis n z.here) >>= join z early g p a n

abbrev pub branch_negation : Site → Bool → Places → Elab → Tree → TypedTree → Answer TypedTree
branch_negation z early g y p a = within_limits_at g.at (negation p) >>= branch_second z early g y p a

abbrev pub branch_first : Site → Bool → Places → Elab → Elab → Tree → Answer TypedTree
branch_first z early g x y p = x.infer (under_hypothesis p z.here) >>= branch_negation z early g y p

-- A choice that is checked, after each of its steps.
abbrev pub check_last : Pos → Tree → Tree → Tree → Answer Tree
check_last pos p a b = within_limits_at pos (If p a b)

abbrev pub check_second : Elab → Pos → definition.Here → Tree → Tree → Tree → Tree → Answer Tree
check_second y pos h u p a n = y.check (under_hypothesis n h) y.place u >>= check_last pos p a

abbrev pub check_negation : Elab → Pos → definition.Here → Tree → Tree → Tree → Answer Tree
check_negation y pos h u p a = within_limits_at pos (negation p) >>= check_second y pos h u p a

abbrev pub check_first : Elab → Elab → Pos → definition.Here → Tree → Tree → Answer Tree
check_first x y pos h u p = x.check (under_hypothesis p h) x.place u >>= check_negation y pos h u p

-- NOT as one of a type, after each of its steps.
abbrev pub not_true : Site → Pos → Tree → Tree → Answer Tree
not_true z at u n = do
  from_outcome at (coerce z.lookups (Hypothesis n ∷ z.here.context) True TBool u)
  pure n

abbrev pub not_tree : Site → Pos → Pos → Tree → Tree → Answer Tree
not_tree z pos at u p = within_limits_at pos (negation p) >>= not_true z at u

abbrev pub choice_answer : Site → Stored → Sources → ChoiceRow → Branches → Meaning → Answer Meaning
choice_answer z s text First b =
    on_term (λ p. typed_answer (branch_first z b.early (places_of text b) (elab_at z text b.first) (elab_at z text b.second) p))
choice_answer z s text (Negation p) b =
    on_typed (λ a. typed_answer (branch_negation z b.early (places_of text b) (elab_at z text b.second) (tree_at s p) a))
choice_answer z s text (Second p a) b =
    on_term (λ n. typed_answer (branch_second z b.early (places_of text b) (elab_at z text b.second) (tree_at s p) (typed_at s a) n))
choice_answer z s text (Join p a n) b =
    on_typed (λ c. typed_answer (join z b.early (places_of text b) (tree_at s p) (typed_at s a) (tree_at s n) c))
choice_answer z s text (Types p a n c) b = on_term (λ _. typed_answer (join_types z (places_of text b) (tree_at s p) (typed_at s a) (tree_at s n) (typed_at s c)))
choice_answer z s text (General p a n c) b = on_done (typed_answer (join_general z (places_of text b) (tree_at s p) (typed_at s a) (tree_at s n) (typed_at s c)))
choice_answer z s text (JoinFirst p a n c) b = on_formed (λ u. typed_answer (join_first z (places_of text b) (tree_at s p) (typed_at s a) (tree_at s n) (typed_at s c) u))
choice_answer z s text (JoinSecond p a n c u) b =
    on_term (λ _. typed_answer (join_second z (places_of text b) (tree_at s p) (typed_at s a) (tree_at s n) (typed_at s c) (tree_at s u)))
choice_answer z s text (Made p a c u) b = on_term (λ _. typed_answer (join_made (places_of text b) (tree_at s p) (typed_at s a) (typed_at s c) (tree_at s u)))
choice_answer z s text (CheckFirst u) b =
    on_term (λ p. term_answer (check_first (elab_at z text b.first) (elab_at z text b.second) (place_in text b.at) z.here (tree_at s u) p))
choice_answer z s text (CheckNegation u p) b =
    on_term (λ a. term_answer (check_negation (elab_at z text b.second) (place_in text b.at) z.here (tree_at s u) (tree_at s p) a))
choice_answer z s text (CheckSecond u p a) b =
    on_term (λ n. term_answer (check_second (elab_at z text b.second) (place_in text b.at) z.here (tree_at s u) (tree_at s p) (tree_at s a) n))
choice_answer z s text (CheckLast p a) b = on_term (λ c. term_answer (check_last (place_in text b.at) (tree_at s p) (tree_at s a) c))

abbrev pub choice_numbers : ChoiceRow → List (Sort × ℕ)
choice_numbers First = []
choice_numbers (Negation p) = (OfTerm, p) ∷ []
choice_numbers (Second p a) = (OfTerm, p) ∷ (OfTerm, a.tree) ∷ (OfType, a.ty) ∷ []
choice_numbers (Join p a n) = (OfTerm, p) ∷ (OfTerm, a.tree) ∷ (OfType, a.ty) ∷ (OfTerm, n) ∷ []
choice_numbers (Types p a n c) = (OfTerm, p) ∷ (OfTerm, a.tree) ∷ (OfType, a.ty) ∷ (OfTerm, n) ∷ (OfTerm, c.tree) ∷ (OfType, c.ty) ∷ []
choice_numbers (General p a n c) = (OfTerm, p) ∷ (OfTerm, a.tree) ∷ (OfType, a.ty) ∷ (OfTerm, n) ∷ (OfTerm, c.tree) ∷ (OfType, c.ty) ∷ []
choice_numbers (JoinFirst p a n c) = (OfTerm, p) ∷ (OfTerm, a.tree) ∷ (OfType, a.ty) ∷ (OfTerm, n) ∷ (OfTerm, c.tree) ∷ (OfType, c.ty) ∷ []
choice_numbers (JoinSecond p a n c u) = (OfTerm, p) ∷ (OfTerm, a.tree) ∷ (OfType, a.ty) ∷ (OfTerm, n) ∷ (OfTerm, c.tree) ∷ (OfType, c.ty) ∷ (OfType, u) ∷ []
choice_numbers (Made p a c u) = (OfTerm, p) ∷ (OfTerm, a.tree) ∷ (OfType, a.ty) ∷ (OfTerm, c.tree) ∷ (OfType, c.ty) ∷ (OfType, u) ∷ []
choice_numbers (CheckFirst u) = (OfType, u) ∷ []
choice_numbers (CheckNegation u p) = (OfType, u) ∷ (OfTerm, p) ∷ []
choice_numbers (CheckSecond u p a) = (OfType, u) ∷ (OfTerm, p) ∷ (OfTerm, a) ∷ []
choice_numbers (CheckLast p a) = (OfTerm, p) ∷ (OfTerm, a) ∷ []

abbrev pub not_answer : Site → Stored → Sources → NotRow → ℕ → ℕ → Meaning → Answer Meaning
not_answer z s text not_form.Tree pos at = on_term (λ p. typed_answer (negation_at (place_in text pos) p))
not_answer z s text (not_form.False u) pos at = on_term (λ p. term_answer (negation_as z.lookups z.here (place_in text pos) (place_in text at) (tree_at s u) p))
not_answer z s text (not_form.Negation u p) pos at = on_term (λ f. term_answer (not_tree z (place_in text pos) (place_in text at) (tree_at s u) (tree_at s p)))
not_answer z s text (not_form.True u) pos at = on_term (λ n. term_answer (not_true z (place_in text at) (tree_at s u) n))
not_answer z s text (not_form.Last n) pos at = on_term (λ t. Ok (Term (tree_at s n)))

abbrev pub not_numbers : NotRow → List (Sort × ℕ)
not_numbers not_form.Tree = []
not_numbers (not_form.False u) = (OfType, u) ∷ []
not_numbers (not_form.Negation u p) = (OfType, u) ∷ (OfTerm, p) ∷ []
not_numbers (not_form.True u) = (OfType, u) ∷ []
not_numbers (not_form.Last n) = (OfTerm, n) ∷ []
