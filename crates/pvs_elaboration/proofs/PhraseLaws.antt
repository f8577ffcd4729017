-- What is asked of a part, by the form that is listed.
use Rattle.std.proofs.Common.{◌≡◌, ◌⊎◌, inl, inr, ℕ, refl, sym, ◌∙◌, ap, subst}
use Rattle.std.specs.Prelude.{Result}
use Rattle.pvs_base.specs.Answers.{◌>>=◌}
use Rattle.pvs_base.specs.declared.place.Pos.{Pos}
use Rattle.pvs_base.specs.declared.code.Code.TheVariants.{Unknown}
use Rattle.pvs_terms.specs.Tree.{Text, Tree}
use Rattle.pvs_terms.specs.Stored.{tree_at}
use Rattle.pvs_sig.specs.Lookups.{Lookups}
use Rattle.pvs_elab.specs.Answer.{Answer, fault}
use Rattle.pvs_elab.specs.Names.{Names}
use Rattle.pvs_elab.specs.Phrase.{Phrase, place}
use Rattle.pvs_elab.specs.Phrase as phrase
use Rattle.pvs_elab.specs.Elab.{elab}
use Rattle.pvs_elab.specs.Elab as definition
use Rattle.pvs_elaboration.specs.declared.fault.ElabFault.{ElabFault}
use Rattle.pvs_elaboration.specs.declared.here.Here.{Here}
use Rattle.pvs_elaboration.specs.declared.value.Mode.{Mode}
use Rattle.pvs_elaboration.specs.declared.value.Mode.TheVariants as mode
use Rattle.pvs_elaboration.specs.declared.choice.Branches.{Branches}
use Rattle.pvs_elaboration.specs.declared.binder.Binding.{Binding}
use Rattle.pvs_elaboration.specs.declared.several.Variables.{Variables}
use Rattle.pvs_elaboration.specs.declared.subtypes.PredicateRow.TheVariants as predicate
use Rattle.pvs_elaboration.specs.declared.frame.Frame.TheVariants as frame
use Rattle.pvs_elaboration.specs.declared.frame.Next.{Next}
use Rattle.pvs_elaboration.specs.declared.listing.Form.{Form}
use Rattle.pvs_elaboration.specs.declared.listing.Form.TheVariants as form
use Rattle.pvs_elaboration.specs.Known.{Sources, phrase_at, place_in, word_at, Known, Site, site_in, IsTypeOf, Failed}
use Rattle.pvs_elaboration.specs.Meanings.{Meaning, fault_at}
use Rattle.pvs_elaboration.specs.Listing.{IsForm}
use Rattle.pvs_elaboration.specs.Machine.{Follows, Steps, asked_at, coerced_at}
use Rattle.pvs_elaboration.proofs.StepLaws.{steps_same}
use Rattle.pvs_elaboration.proofs.AskLaws.{asked_then, elab_place, inference_checked, not_a_type}
use Rattle.pvs_elaboration.proofs.SubtypeLaws.{group_formed, predicate_asked}

-- a phrase that is this one
pub follows_of_phrase : {k : Known} (text : Sources) (h : Here) (m : Mode) (e d : Phrase) (n : Next) → e ≡ d
    → Follows k k text h (asked_at (site_in k text h) k.stored text m d) n → Follows k k text h (asked_at (site_in k text h) k.stored text m e) n
follows_of_phrase {k} text h m e d n p f = subst (λ (y : Phrase). Follows k k text h (asked_at (site_in k text h) k.stored text m y) n) (sym p) f

-- a name that is listed
pub name_of_form : (k j : Known) (text : Sources) (h : Here) (m : Mode) (e : Phrase) (x p : ℕ) (w : Text) (r : Answer Meaning) (res : Result Next ElabFault)
    → e ≡ phrase.Name (word_at text x) (place_in text p) → word_at text x ≡ w → asked_at (site_in k text h) k.stored text m (phrase.Name w (place_in text p)) ≡ r
    → Steps k j text h r res → Steps k j text h (asked_at (site_in k text h) k.stored text m e) res
name_of_form k j text h m e x p w r res i n d s =
    steps_same k j text h _ _ res (ap (λ (y : Phrase). asked_at (site_in k text h) k.stored text m y) (i ∙ ap (λ (y : Text). phrase.Name y (place_in text p)) n) ∙ d) s

-- where a type is asked, parentheses are a predicate as a type
pub predicate_of_form : {k : Known} (text : Sources) (h : Here) (e : Phrase) (f : Form) (q start at : ℕ) → (f ≡ form.Group q start at) ⊎ (f ≡ form.Predicate q start at) → IsForm text f e
    → Follows k k text h (asked_at (site_in k text h) k.stored text mode.Formed e) (asked_then q mode.Infer (frame.Predicate predicate.Type start at))
predicate_of_form text h e f q start at (inl d) i =
    let g = subst (λ (y : Form). IsForm text y e) d i in
    follows_of_phrase text h mode.Formed e (phrase.Group (phrase_at text q) (place_in text at)) _ g.0 (group_formed text h q start at g.1)
predicate_of_form text h e f q start at (inr d) i =
    let g = subst (λ (y : Form). IsForm text y e) d i in
    follows_of_phrase text h mode.Formed e (phrase.Predicate (phrase_at text q) (place_in text at)) _ g.0 (predicate_asked text h q start at g.1)

-- a form that is no type
pub record IsNoType (f : Form) : Type 0 where
  pub name : (x p : ℕ) → f ≡ form.Name x p → ⊥
  pub type_of : (x p : ℕ) → f ≡ form.TypeOf x p → ⊥
  pub group : (x s p : ℕ) → f ≡ form.Group x s p → ⊥
  pub function : (a : ℕ) (o : Binding) → f ≡ form.Function a o → ⊥
  pub function_of : (a : ℕ) (o : Variables) → f ≡ form.FunctionOf a o → ⊥
  pub subtype : (a : ℕ) (o : Binding) → f ≡ form.Subtype a o → ⊥
  pub predicate : (q s p : ℕ) → f ≡ form.Predicate q s p → ⊥
  pub product : (a n : ℕ) (o : Binding) → f ≡ form.Product a n o → ⊥
  pub other : (p : ℕ) → f ≡ form.Other p → ⊥

no_type : (s : Lookups) (names : Names) (h : definition.Here) (text : Sources) (e : Phrase) (f : Form) → IsNoType f → IsForm text f e → (elab s names e).formed h ≡ fault (elab s names e).place Unknown
no_type s names h text e (form.Name x p) n i = absurd (n.name x p refl)
no_type s names h text e (form.Truth b p) n i = rw i refl
no_type s names h text e (form.TypeOf x p) n i = absurd (n.type_of x p refl)
no_type s names h text e (form.Group x t p) n i = absurd (n.group x t p refl)
no_type s names h text e (form.Not x p) n i = rw i refl
no_type s names h text e (form.Choice c b) n i = rw i.0 refl
no_type s names h text e (form.Apply g o) n i = rw i.0 refl
no_type s names h text e (form.Equal o) n i = rw i.0 refl
no_type s names h text e (form.Iff o) n i = rw i.0 refl
no_type s names h text e (form.Forall a o) n i = rw i refl
no_type s names h text e (form.Lambda a o) n i = rw i refl
no_type s names h text e (form.Function a o) n i = absurd (n.function a o refl)
no_type s names h text e (form.LambdaOf a o) n i = rw i refl
no_type s names h text e (form.FunctionOf a o) n i = absurd (n.function_of a o refl)
no_type s names h text e (form.Let o) n i = rw i.0 refl
no_type s names h text e (form.LetAs a o) n i = rw i refl
no_type s names h text e (form.Subtype a o) n i = absurd (n.subtype a o refl)
no_type s names h text e (form.Predicate q t p) n i = absurd (n.predicate q t p refl)
no_type s names h text e (form.Tuple x o) n i = rw i refl
no_type s names h text e (form.Product a k o) n i = absurd (n.product a k o refl)
no_type s names h text e (form.Part x o) n i = rw i.0 refl
no_type s names h text e (form.Other p) n i = absurd (n.other p refl)

pub no_type_of_form : (k : Known) (text : Sources) (h : Here) (e : Phrase) (start : ℕ) (f : Form) → IsNoType f → IsForm text f e → place_in text start ≡ place e
    → Failed k k (asked_at (site_in k text h) k.stored text mode.Formed e) (fault_at (place_in text start) Unknown)
no_type_of_form k text h e start f n i s =
    not_a_type k text h e start Unknown (no_type k.lookups k.names (site_in k text h).here text e f n i ∙ ap (λ (p : Pos). fault p Unknown) (elab_place k.lookups k.names e ∙ sym s))

-- a form that is checked by its own type
pub record IsCheckedByType (f : Form) : Type 0 where
  pub name : (x p : ℕ) → f ≡ form.Name x p → ⊥
  pub type_of : (x p : ℕ) → f ≡ form.TypeOf x p → ⊥
  pub group : (x s p : ℕ) → f ≡ form.Group x s p → ⊥
  pub negation : (x p : ℕ) → f ≡ form.Not x p → ⊥
  pub choice : (c : ℕ) (b : Branches) → f ≡ form.Choice c b → ⊥
  pub function : (a : ℕ) (o : Binding) → f ≡ form.Function a o → ⊥
  pub function_of : (a : ℕ) (o : Variables) → f ≡ form.FunctionOf a o → ⊥
  pub subtype : (a : ℕ) (o : Binding) → f ≡ form.Subtype a o → ⊥
  pub predicate : (q s p : ℕ) → f ≡ form.Predicate q s p → ⊥
  pub product : (a n : ℕ) (o : Binding) → f ≡ form.Product a n o → ⊥
  pub other : (p : ℕ) → f ≡ form.Other p → ⊥

check_by_type : (z : Site) (at : Pos) (u : Tree) (text : Sources) (e : Phrase) (f : Form) → IsCheckedByType f → IsForm text f e
    → (elab z.lookups z.names e).check z.here at u ≡ ((elab z.lookups z.names e).infer z.here >>= coerced_at z at at u)
check_by_type z at u text e (form.Name x p) n i = absurd (n.name x p refl)
check_by_type z at u text e (form.Truth b p) n i = rw i refl
check_by_type z at u text e (form.TypeOf x p) n i = absurd (n.type_of x p refl)
check_by_type z at u text e (form.Group x t p) n i = absurd (n.group x t p refl)
check_by_type z at u text e (form.Not x p) n i = absurd (n.negation x p refl)
check_by_type z at u text e (form.Choice c b) n i = absurd (n.choice c b refl)
check_by_type z at u text e (form.Apply g o) n i = rw i.0 refl
check_by_type z at u text e (form.Equal o) n i = rw i.0 refl
check_by_type z at u text e (form.Iff o) n i = rw i.0 refl
check_by_type z at u text e (form.Forall a o) n i = rw i refl
check_by_type z at u text e (form.Lambda a o) n i = rw i refl
check_by_type z at u text e (form.Function a o) n i = absurd (n.function a o refl)
check_by_type z at u text e (form.LambdaOf a o) n i = rw i refl
check_by_type z at u text e (form.FunctionOf a o) n i = absurd (n.function_of a o refl)
check_by_type z at u text e (form.Let o) n i = rw i.0 refl
check_by_type z at u text e (form.LetAs a o) n i = rw i refl
check_by_type z at u text e (form.Subtype a o) n i = absurd (n.subtype a o refl)
check_by_type z at u text e (form.Predicate q t p) n i = absurd (n.predicate q t p refl)
check_by_type z at u text e (form.Tuple x o) n i = rw i refl
check_by_type z at u text e (form.Product a k o) n i = absurd (n.product a k o refl)
check_by_type z at u text e (form.Part x o) n i = rw i.0 refl
check_by_type z at u text e (form.Other p) n i = absurd (n.other p refl)

pub checked_by_type : {k : Known} (text : Sources) (h : Here) (x at u : ℕ) (f : Form) → IsTypeOf k u → IsCheckedByType f → IsForm text f (phrase_at text x)
    → Follows k k text h (asked_at (site_in k text h) k.stored text (mode.CheckAt at u) (phrase_at text x)) (asked_then x mode.Infer (frame.Coerce at at u))
unfolding site_in
checked_by_type {k} text h x at u f m n i =
    inference_checked text h x (phrase_at text x) at u m refl (check_by_type (site_in k text h) (place_in text at) (tree_at k.stored u) text (phrase_at text x) f n i)
