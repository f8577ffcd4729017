-- A model that fits the declarations of the worked examples: T has two members, p holds of the first, q of both.
use Rattle.std.proofs.Common.{◌≡◌, refl, zero, suc, [], ◌∷◌, Some, Bool, true, false, inl, inr, subst}
use Rattle.pvs_terms.specs.Tree.{Tree, Ref, Own, Formal, Inst, Var, TBool, TSub, TFun}
use Rattle.pvs_sem.specs.Value.{Value, Truth, Atom, EmptyTable, Row, IsMember}
use Rattle.pvs_sem.specs.Meaning.{Model, Env, mean}
use Rattle.pvs_sem.specs.Interpretations.{Set, Element, FiniteMap, AreSets, model_of}
use Rattle.pvs_sem.proofs.AscendingLaws.{ascending_model}
use Rattle.pvs_types.specs.Soundness.{IsModelOf, IsValued}
use Rattle.pvs_types.proofs.Examples.{declared, t, s, p, q}

abbrev predicate : Bool → Bool → Value
predicate x y = Row (Atom 0) (Truth x) (Row (Atom 1) (Truth y) EmptyTable)

abbrev interpretation : FiniteMap
interpretation =
    record { reference = Own 0; denotation = Set (Atom 0 ∷ Atom 1 ∷ []) }
    ∷ record { reference = Own 1; denotation = Element (predicate true false) }
    ∷ record { reference = Own 2; denotation = Set (Atom 0 ∷ []) }
    ∷ record { reference = Own 3; denotation = Element (predicate true true) }
    ∷ record { reference = Own 4; denotation = Set (Atom 0 ∷ []) }
    ∷ record { reference = Own 5; denotation = Element (Atom 0) }
    ∷ record { reference = Own 6; denotation = Element (Row (Atom 0) (Atom 0) EmptyTable) }
    ∷ record { reference = Own 7; denotation = Element (Row (Atom 0) (Atom 0) (Row (Atom 1) (Atom 1) EmptyTable)) }
    ∷ []

abbrev model : Model
model = model_of interpretation

are_sets : AreSets interpretation
are_sets = (
  (λ v h. elim h [ inl x ↦ rw x refl | inr x ↦ absurd x ], (λ v h. absurd h, tt)),
  (tt, ((λ v h. absurd h, tt), (tt, ((λ v h. absurd h, tt), (tt, (tt, (tt, tt))))))),
)

types : (r : Ref) → declared.is_type r ≡ true → model.has r ≡ true
types (Own zero) h = refl
types (Own (suc zero)) h = cc
types (Own (suc (suc zero))) h = refl
types (Own (suc (suc (suc zero)))) h = cc
types (Own (suc (suc (suc (suc zero))))) h = refl
types (Own (suc (suc (suc (suc (suc n)))))) h = cc
types (Formal n) h = cc
types (Inst th n acts) h = cc

constants : (r : Ref) (a : Tree) → declared.type_of r ≡ Some a → model.has r ≡ true
constants (Own zero) a h = cc
constants (Own (suc zero)) a h = refl
constants (Own (suc (suc zero))) a h = cc
constants (Own (suc (suc (suc zero)))) a h = refl
constants (Own (suc (suc (suc (suc zero))))) a h = cc
constants (Own (suc (suc (suc (suc (suc zero)))))) a h = refl
constants (Own (suc (suc (suc (suc (suc (suc zero))))))) a h = refl
constants (Own (suc (suc (suc (suc (suc (suc (suc zero)))))))) a h = refl
constants (Own (suc (suc (suc (suc (suc (suc (suc (suc n))))))))) a h = cc
constants (Formal n) a h = cc
constants (Inst th n acts) a h = cc

-- what holds of the tree that is looked up holds of the tree that it is
at_some : (P : Tree → Type 0) (t a : Tree) → Some t ≡ Some a → P t → P a
at_some P t a h p = let e : t ≡ a = cc in subst P e p

definitions : (r : Ref) (a : Tree) (e : Env) → declared.body_of r ≡ Some a → (model.meaning r).set ≡ (mean model a e).set
definitions (Own zero) a e h = cc
definitions (Own (suc zero)) a e h = cc
definitions (Own (suc (suc zero))) a e h = at_some (λ x. (Atom 0 ∷ []) ≡ (mean model x e).set) (TSub t (p (Var 0))) a h refl
definitions (Own (suc (suc (suc zero)))) a e h = cc
definitions (Own (suc (suc (suc (suc zero))))) a e h = at_some (λ x. (Atom 0 ∷ []) ≡ (mean model x e).set) (TSub s (q (Var 0))) a h refl
definitions (Own (suc (suc (suc (suc (suc n)))))) a e h = cc
definitions (Formal n) a e h = cc
definitions (Inst th n acts) a e h = cc

pub model_fits : IsModelOf model declared
model_fits = record {
  sets = ascending_model interpretation are_sets;
  types = types;
  constants = constants;
  definitions = definitions;
  nonempty = λ r h k. cc;
}

-- each constant has a value in its type
pub constants_valued : (r : Ref) → IsValued model declared r
constants_valued (Own zero) a e h = cc
constants_valued (Own (suc zero)) a e h = at_some (λ x. IsMember (predicate true false) (mean model x e).set) (TFun t TBool) a h
    (inr (inr (inl refl)))
constants_valued (Own (suc (suc zero))) a e h = cc
constants_valued (Own (suc (suc (suc zero)))) a e h = at_some (λ x. IsMember (predicate true true) (mean model x e).set) (TFun t TBool) a
    h (inr (inr (inr (inl refl))))
constants_valued (Own (suc (suc (suc (suc zero))))) a e h = cc
constants_valued (Own (suc (suc (suc (suc (suc zero)))))) a e h = at_some (λ x. IsMember (Atom 0) (mean model x e).set) s a h (inl refl)
constants_valued (Own (suc (suc (suc (suc (suc (suc zero))))))) a e h = at_some
    (λ x. IsMember (Row (Atom 0) (Atom 0) EmptyTable) (mean model x e).set) (TFun s s) a h (inl refl)
constants_valued (Own (suc (suc (suc (suc (suc (suc (suc zero)))))))) a e h = at_some
    (λ x. IsMember (Row (Atom 0) (Atom 0) (Row (Atom 1) (Atom 1) EmptyTable)) (mean model x e).set) (TFun t t) a h (inr (inl refl))
constants_valued (Own (suc (suc (suc (suc (suc (suc (suc (suc n))))))))) a e h = cc
constants_valued (Formal n) a e h = cc
constants_valued (Inst th n acts) a e h = cc
