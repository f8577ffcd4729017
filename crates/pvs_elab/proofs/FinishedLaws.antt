-- Finished answers: what typing answers of the tree that was made.
use Rattle.std.proofs.Common.{◌≡◌, List, ◌++◌, inl, inr, refl, sym, subst}
use Rattle.std.proofs.lemmas.List.Elements.{Contains-append_left, Contains-append_right, Contains-append_cases}
use Rattle.std.specs.Prelude.{Ok, Err}
use Rattle.pvs_base.specs.Answers.{◌>>=◌}
use Rattle.pvs_base.specs.declared.place.Pos.{Pos}
use Rattle.pvs_base.specs.declared.code.Fault.{Fault}
use Rattle.pvs_terms.specs.Tree.{Tree, Ref}
use Rattle.pvs_sig.specs.Lookups.{Lookups}
use Rattle.pvs_types.specs.Outcome.{Outcome, Refused, Accepted}
use Rattle.pvs_types.specs.Symbols.{symbols}
use Rattle.pvs_types.specs.Typing.{infer, check, well_formed}
use Rattle.pvs_types.specs.Uses.{AreSameSymbols, Uses}
use Rattle.pvs_types.proofs.UsesLaws.{typing_uses}
use Rattle.pvs_elab.specs.Answer.{Answer, Judgement, judgement_at}
use Rattle.pvs_elab.specs.Names.{Names}
use Rattle.pvs_elab.specs.Phrase.{Phrase}
use Rattle.pvs_elab.specs.Elab.{Here, TypedTree, Elaborated, elab, inferred_term, checked_term, well_formed_type, variables, variable_refs}
use Rattle.pvs_elab.specs.Laws.{Gives, Holds, IsInferred, IsChecked, IsFormed}
use Rattle.pvs_elab.proofs.AnswerLaws.{holds_weaker}
use Rattle.pvs_elab.proofs.ElabLaws.{elab_lawful}

-- a tree that was made, and what typing answers of it
pub record IsFinished {X A B : Type 0} (r : Answer X) (o : X → Outcome A) (make : X → Judgement A → B) (y : B) : Type 0 where
  pub found : X
  pub met : r ≡ Ok found
  pub judgement : Judgement A
  pub typed : o found ≡ Accepted judgement.value judgement.conditions judgement.uses
  pub is : make found judgement ≡ y

judged_is : {X A B : Type 0} (o : X → Outcome A) (at : Pos) (make : X → Judgement A → B) (y : B) (x : X) (q : Outcome A) → o x ≡ q
    → (judgement_at at q >>= (λ j. Ok (make x j))) ≡ Ok y → IsFinished (Ok x) o make y
judged_is o at make y x (Refused c) k e = absurd (cc)
judged_is o at make y x (Accepted a cs rs) k e = record { found = x; met = refl; judgement = record { value = a; conditions = cs; uses = rs }; typed = k; is = cc }

pub finished : {X A B : Type 0} (r : Answer X) (o : X → Outcome A) (at : Pos) (make : X → Judgement A → B) (y : B)
    → (r >>= (λ x. judgement_at at (o x) >>= (λ j. Ok (make x j)))) ≡ Ok y → IsFinished r o make y
finished (Err f) o at make y e = absurd (cc)
finished (Ok x) o at make y e = judged_is o at make y x (o x) refl e

-- typing accepts, with some result
abbrev pub IsAccepted : {A : Type 0} → Outcome A → Type 0
IsAccepted {A} o = (a : A) × Gives o a

never : {A B : Type 0} (at : Pos) (make : Judgement A → B) (f : Fault) (q : Outcome A) (a : A) → Gives q a → (judgement_at at q >>= (λ j. Ok (make j))) ≡ Err f → ⊥
never at make f (Refused c) a g e = g
never at make f (Accepted b cs rs) a g e = cc

pub finished_fault : {X A B : Type 0} (r : Answer X) (o : X → Outcome A) (at : Pos) (make : X → Judgement A → B) (f : Fault)
    → Holds (λ x. IsAccepted (o x)) r → (r >>= (λ x. judgement_at at (o x) >>= (λ j. Ok (make x j)))) ≡ Err f → r ≡ Err f
finished_fault (Err g) o at make f k e = cc
finished_fault (Ok x) o at make f k e = absurd (never at (make x) f (o x) k.0 k.1 e)

pub holds_at : {A : Type 0} (P : A → Type 0) (r : Answer A) (a : A) → Holds P r → r ≡ Ok a → P a
holds_at P r a h e = subst (Holds P) e h

gives_value : {A : Type 0} (o : Outcome A) (a b : A) (j : Judgement A) → Gives o a → o ≡ Accepted j.value j.conditions j.uses → j.value ≡ a
gives_value o a b j g e = subst (λ q. Gives q a) e g

with_more : (rs ss ts : List Ref) → AreSameSymbols rs ss → AreSameSymbols (rs ++ ts) (ss ++ ts)
with_more rs ss ts h r = (
  λ c. elim (Contains-append_cases rs ts r c) [ inl x ↦ Contains-append_left ss ts r ((h r).0 x) | inr x ↦ Contains-append_right ss ts r x ],
  λ c. elim (Contains-append_cases ss ts r c) [ inl x ↦ Contains-append_left rs ts r ((h r).1 x) | inr x ↦ Contains-append_right rs ts r x ],
)

module _ (s : Lookups) (names : Names) (e : Phrase) (h : Here) where
  abbrev Place : Pos
  Place = (elab s names e).place

  abbrev Vars : List Ref
  Vars = variable_refs names (variables e)

  -- what is made of a tree and of what typing answers of it
  abbrev InferredOf : TypedTree → Judgement Tree → Elaborated
  InferredOf t j = record { tree = t.tree; ty = j.value; conditions = j.conditions; uses = j.uses ++ Vars }

  abbrev CheckedOf : Tree → Tree → Judgement (Unit {0}) → Elaborated
  CheckedOf a t j = record { tree = t; ty = a; conditions = j.conditions; uses = j.uses ++ Vars }

  inferred_of : (t : TypedTree) (j : Judgement Tree) → (elab s names e).infer h ≡ Ok t → infer s h.context t.tree ≡ Accepted j.value j.conditions j.uses
      → IsInferred s names e h (InferredOf t j)
  inferred_of t j m k =
      let v = gives_value (infer s h.context t.tree) t.ty t.ty j (holds_at _ ((elab s names e).infer h) t ((elab_lawful s names e).infer h) m) k in
      record {
        used = j.uses;
        typed = k;
        met = subst (λ a. (elab s names e).infer h ≡ Ok (record { tree = t.tree; ty = a })) (sym v) m;
        uses = with_more j.uses (symbols t.tree) Vars (subst (Uses (symbols t.tree)) k ((typing_uses s t.tree).infer h.context));
      }

  pub inferred_typed : (x : Elaborated) → inferred_term s names e h ≡ Ok x → IsInferred s names e h x
  inferred_typed x p =
      let f = finished ((elab s names e).infer h) (λ t. infer s h.context t.tree) Place InferredOf x p in
      subst (IsInferred s names e h) f.is (inferred_of f.found f.judgement f.met f.typed)

  checked_of : (a t : Tree) (j : Judgement (Unit {0})) → (elab s names e).check h Place a ≡ Ok t → check s h.context t a ≡ Accepted j.value j.conditions j.uses
      → IsChecked s names e h a (CheckedOf a t j)
  checked_of a t j m k = record {
    used = j.uses;
    typed = k;
    type_is = refl;
    met = m;
    uses = with_more j.uses (symbols t) Vars (subst (Uses (symbols t)) k ((typing_uses s t).check h.context a));
  }

  pub checked_typed : (a : Tree) (x : Elaborated) → checked_term s names e h a ≡ Ok x → IsChecked s names e h a x
  checked_typed a x p =
      let f = finished ((elab s names e).check h Place a) (λ t. check s h.context t a) Place (CheckedOf a) x p in
      subst (IsChecked s names e h a) f.is (checked_of a f.found f.judgement f.met f.typed)

  formed_of : (t : Tree) (j : Judgement (Unit {0})) → (elab s names e).formed h ≡ Ok t → well_formed s h.context t ≡ Accepted j.value j.conditions j.uses
      → IsFormed s names e h (CheckedOf t t j)
  formed_of t j m k = record {
    used = j.uses;
    typed = k;
    type_is = refl;
    met = m;
    uses = with_more j.uses (symbols t) Vars (subst (Uses (symbols t)) k ((typing_uses s t).well_formed h.context));
  }

  pub formed_typed : (x : Elaborated) → well_formed_type s names e h ≡ Ok x → IsFormed s names e h x
  formed_typed x p =
      let f = finished ((elab s names e).formed h) (λ t. well_formed s h.context t) Place (λ t. CheckedOf t t) x p in
      subst (IsFormed s names e h) f.is (formed_of f.found f.judgement f.met f.typed)

  pub inferred_fault : (f : Fault) → inferred_term s names e h ≡ Err f → (elab s names e).infer h ≡ Err f
  inferred_fault f p = finished_fault ((elab s names e).infer h) (λ t. infer s h.context t.tree) Place InferredOf f
      (holds_weaker _ _ ((elab s names e).infer h) ((elab_lawful s names e).infer h) (λ t g. (t.ty, g))) p

  pub checked_fault : (f : Fault) (a : Tree) → checked_term s names e h a ≡ Err f → (elab s names e).check h Place a ≡ Err f
  checked_fault f a p = finished_fault ((elab s names e).check h Place a) (λ t. check s h.context t a) Place (CheckedOf a) f
      (holds_weaker _ _ ((elab s names e).check h Place a) ((elab_lawful s names e).check h Place a) (λ t g. (tt, g))) p

  pub formed_fault : (f : Fault) → well_formed_type s names e h ≡ Err f → (elab s names e).formed h ≡ Err f
  formed_fault f p = finished_fault ((elab s names e).formed h) (λ t. well_formed s h.context t) Place (λ t. CheckedOf t t) f
      (holds_weaker _ _ ((elab s names e).formed h) ((elab_lawful s names e).formed h) (λ t g. (tt, g))) p
