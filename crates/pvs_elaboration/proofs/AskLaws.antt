-- What is asked of a phrase, by its form.
use Rattle.std.proofs.Common.{◌≡◌, ℕ, refl, sym, ◌∙◌, ap, ap₂}
use Rattle.std.specs.Prelude.{Ok}
use Rattle.pvs_base.specs.Answers.{◌>>=◌}
use Rattle.pvs_base.specs.declared.place.Pos.{Pos}
use Rattle.pvs_terms.specs.Tree.{Tree, TBool}
use Rattle.pvs_terms.specs.Stored.{Stored, tree_at}
use Rattle.pvs_sig.specs.Lookups.{Lookups}
use Rattle.pvs_base.specs.declared.code.Code.{Code}
use Rattle.pvs_elab.specs.Answer.{Answer, fault}
use Rattle.pvs_elab.specs.Names.{Names}
use Rattle.pvs_elab.specs.Phrase.{Phrase, place}
use Rattle.pvs_elab.specs.Phrase as phrase
use Rattle.pvs_elab.specs.Elab.{TypedTree, elab, choice_first}
use Rattle.pvs_elaboration.specs.declared.here.Here.{Here}
use Rattle.pvs_elaboration.specs.declared.value.Mode.{Mode}
use Rattle.pvs_elaboration.specs.declared.value.Mode.TheVariants as mode
use Rattle.pvs_elaboration.specs.declared.choice.Branches.{Branches}
use Rattle.pvs_elaboration.specs.declared.choice.ChoiceRow.TheVariants.{First}
use Rattle.pvs_elaboration.specs.declared.frame.Frame.{Frame}
use Rattle.pvs_elaboration.specs.declared.frame.Frame.TheVariants as frame
use Rattle.pvs_elaboration.specs.declared.frame.Control.TheVariants as control
use Rattle.pvs_elaboration.specs.declared.frame.Entrance.TheVariants as entrance
use Rattle.pvs_elaboration.specs.declared.frame.Next.{Next}
use Rattle.pvs_elaboration.specs.Known.{Sources, phrase_at, place_in, Known, Site, site_in, IsHere, IsTypeOf, Failed}
use Rattle.pvs_elaboration.specs.Meanings.{Meaning, Typed, Term, typed_answer, term_answer, formed_answer, on_typed, on_term, fault_at, elab_at}
use Rattle.pvs_elaboration.specs.Choice.{places_of, branch_first}
use Rattle.pvs_elaboration.specs.Machine.{Follows, asked_at, coerced_at}
use Rattle.pvs_elaboration.proofs.KnownLaws.{grows_none}
use Rattle.pvs_elaboration.proofs.MachineLaws.{then_typed, then_term, then_alike}
use Rattle.pvs_elaboration.proofs.JoinLaws.{branches_are}
use Rattle.pvs_elaboration.proofs.StepLaws.{follows_at_once}

pub elab_place : (s : Lookups) (names : Names) (e : Phrase) → (elab s names e).place ≡ place e
elab_place s names (phrase.Name x pos) = refl
elab_place s names (phrase.Truth b pos) = refl
elab_place s names (phrase.Apply f x) = elab_place s names f
elab_place s names (phrase.Tuple k x y pos) = refl
elab_place s names (phrase.Part x i pos) = elab_place s names x
elab_place s names (phrase.Group x pos) = refl
elab_place s names (phrase.Choice early c x y join pos) = refl
elab_place s names (phrase.Not x pos) = refl
elab_place s names (phrase.Equal x y) = elab_place s names x
elab_place s names (phrase.Iff x y) = elab_place s names x
elab_place s names (phrase.All x a p pos) = refl
elab_place s names (phrase.Lambda d xs b pos) = refl
elab_place s names (phrase.Let x v b pos) = refl
elab_place s names (phrase.LetAs x a v b pos) = refl
elab_place s names (phrase.TypeOf x pos) = refl
elab_place s names (phrase.Sub x a p pos) = refl
elab_place s names (phrase.Predicate q pos) = refl
elab_place s names (phrase.Function d xs b pos) = refl
elab_place s names (phrase.Product k x a b pos) = refl
elab_place s names (phrase.Other pos) = refl

-- what asks a part
abbrev pub asked_then : ℕ → Mode → Frame → Next
asked_then x m f = record { entrance = entrance.Here; control = control.Ask x m; frame = f }

-- a part that is a truth value
truth_checked : {k : Known} {A : Type 0} (text : Sources) (h : Here) (x : ℕ) (f : Tree → Answer A) (g : A → Answer Meaning) → IsHere k h
    → (((elab k.lookups k.names (phrase_at text x)).check (site_in k text h).here (elab k.lookups k.names (phrase_at text x)).place TBool >>= f) >>= g)
    ≡ (term_answer ((elab k.lookups k.names (phrase_at text x)).check (site_in k text h).here (elab k.lookups k.names (phrase_at text x)).place (tree_at k.stored h.truth)) >>= on_term (λ t. f t >>= g))
truth_checked {k} text h x f g i =
    ap (λ (u : Tree). ((elab k.lookups k.names (phrase_at text x)).check (site_in k text h).here (elab k.lookups k.names (phrase_at text x)).place u >>= f) >>= g) (sym i.is_truth) ∙ then_term _ f g

pub choice_follows : {k : Known} (text : Sources) (h : Here) (c : ℕ) (b : Branches) → IsHere k h → place_in text b.first_at ≡ place (phrase_at text b.first) → place_in text b.second_at ≡ place (phrase_at text b.second)
    → Follows k k text h (asked_at (site_in k text h) k.stored text mode.Infer (phrase.Choice b.early (phrase_at text c) (phrase_at text b.first) (phrase_at text b.second) (place_in text b.join) (place_in text b.at)))
    (asked_then c (mode.Check h.truth) (frame.Choice First b))
unfolding site_in
choice_follows {k} text h c b i p q =
    let z = site_in k text h in
    let e = elab_at z text c in
    let x = elab_at z text b.first in
    let y = elab_at z text b.second in
    follows_at_once text h _ _ (record { entrance = tt; control = (i.truth, tt); frame = tt })
    (ap typed_answer (then_alike (e.check z.here e.place TBool) (choice_first k.lookups b.early x y (place_in text b.join) (place_in text b.at) z.here)
    (branch_first z b.early (record { first = x.place; second = y.place; join = place_in text b.join; at = place_in text b.at }) x y) (branches_are z b.early x y (place_in text b.join) (place_in text b.at)))
    ∙ ap₂ (λ (u : Pos) (v : Pos). typed_answer (e.check z.here e.place TBool >>= branch_first z b.early (record { first = u; second = v; join = place_in text b.join; at = place_in text b.at }) x y))
    (elab_place k.lookups k.names (phrase_at text b.first) ∙ sym p) (elab_place k.lookups k.names (phrase_at text b.second) ∙ sym q)
    ∙ truth_checked text h c (branch_first z b.early (places_of text b) x y) (λ (t : TypedTree). Ok (Typed t)) i)

-- a term as one of a type, by its own type
pub inference_checked : {k : Known} (text : Sources) (h : Here) (x : ℕ) (e : Phrase) (at : ℕ) (u : ℕ) → IsTypeOf k u → e ≡ phrase_at text x
    → ((elab k.lookups k.names e).check (site_in k text h).here (place_in text at) (tree_at k.stored u) ≡ ((elab k.lookups k.names e).infer (site_in k text h).here >>= coerced_at (site_in k text h) (place_in text at) (place_in text at) (tree_at k.stored u)))
    → Follows k k text h (asked_at (site_in k text h) k.stored text (mode.CheckAt at u) e) (asked_then x mode.Infer (frame.Coerce at at u))
unfolding site_in
inference_checked {k} text h x e at u n d c =
    follows_at_once text h _ _ (record { entrance = tt; control = tt; frame = (n, tt) })
    (ap term_answer c ∙ then_typed ((elab k.lookups k.names e).infer (site_in k text h).here) (coerced_at (site_in k text h) (place_in text at) (place_in text at) (tree_at k.stored u)) (λ (y : Tree). Ok (Term y)) ∙ ap (λ (y : Phrase). typed_answer ((elab k.lookups k.names y).infer (site_in k text h).here) >>= on_typed (λ t. term_answer (coerced_at (site_in k text h) (place_in text at) (place_in text at) (tree_at k.stored u) t))) d)

-- a check at the place of the phrase
pub own_place : (z : Site) (s : Stored) (text : Sources) (e : Phrase) (at : ℕ) (u : ℕ) → place_in text at ≡ place e → asked_at z s text (mode.Check u) e ≡ asked_at z s text (mode.CheckAt at u) e
own_place z s text e at u p = ap (λ (q : Pos). term_answer ((elab z.lookups z.names e).check z.here q (tree_at s u))) (elab_place z.lookups z.names e ∙ sym p)

-- a form that is no type
pub not_a_type : (k : Known) (text : Sources) (h : Here) (e : Phrase) (at : ℕ) (c : Code) → (elab k.lookups k.names e).formed (site_in k text h).here ≡ fault (place_in text at) c
    → Failed k k (asked_at (site_in k text h) k.stored text mode.Formed e) (fault_at (place_in text at) c)
unfolding site_in
not_a_type k text h e at c d = record { kept = grows_none k; is = ap formed_answer d }
