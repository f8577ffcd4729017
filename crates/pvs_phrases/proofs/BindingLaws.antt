-- What bindings and parts of LETs say, and the layers of their lists.
use Rattle.std.proofs.Common.{rules, ◌≡◌, ◌<◌, ◌-◌, ◌∙◌, sym, ap, ap₂, subst, arith, ℕ, suc, List, [], ◌∷◌, length, drop, refl}
use Rattle.std.specs.Prelude.{Some, None}
use Rattle.std.proofs.lemmas.List.{length-drop}
use Rattle.pvs_base.specs.declared.place.Pos.{Pos}
use Rattle.pvs_syntax.specs.Words.{spelling}
use Rattle.pvs_syntax.specs.declared.expression.Binding.{Binding, out-Binding, the_lemmas}
use Rattle.pvs_syntax.specs.declared.expression.BinderWord.TheVariants as binder_word
use Rattle.pvs_syntax.specs.declared.expression.LetPart.{LetPart}
use Rattle.pvs_syntax.specs.declared.expression.TypeExpr.{TypeExpr}
use Rattle.pvs_terms.specs.Tree.{Text}
use Rattle.pvs_elab.specs.Phrase.{Phrase, Lambda, Not, Product}
use Rattle.pvs_elab.specs.Desugar.{Bound, all_of, bound_of, domain, lets, lets_term, names, quantified, some_of, type_from, type_or, type_phrase}
use Rattle.pvs_phrases.specs.Parts.{all_not_some, bounds, values}

head_is : {A : Type 0} {x y : A} {xs ys : List A} → x ∷ xs ≡ y ∷ ys → x ≡ y
head_is e = cc

pub bound_name : (text : Text) (b : Binding) → (bound_of text b).name ≡ spelling text (out-Binding b).word
bound_name text b = search (rules, the_lemmas)

pub bound_pos : (text : Text) (b : Binding) → (bound_of text b).pos ≡ (out-Binding b).word.pos
bound_pos text b = search (rules, the_lemmas)

pub bound_untyped : (text : Text) (b : Binding) → (out-Binding b).ty ≡ None → (bound_of text b).ty ≡ None
bound_untyped text b e = search (rules, the_lemmas)

pub bound_typed : (text : Text) (b : Binding) (a : TypeExpr) → (out-Binding b).ty ≡ Some a → (bound_of text b).ty ≡ Some (type_phrase text a)
bound_typed text b a e = search (rules, the_lemmas)

-- the type that is written next, where the first of these bindings has it and where it has none
pub next_written : (text x : Text) (pos : Pos) (bs cs : List Binding) (b : Binding) (a : TypeExpr) → bs ≡ b ∷ cs → (out-Binding b).ty ≡ Some a
    → type_from x pos (bounds text bs) ≡ type_phrase text a
next_written text x pos bs cs b a e h = ap (λ ds. type_from x pos (bounds text ds)) e ∙ ap (type_or (type_from x pos (bounds text cs))) (bound_typed text b a h)

pub next_unwritten : (text x : Text) (pos : Pos) (bs cs : List Binding) (b : Binding) → bs ≡ b ∷ cs → (out-Binding b).ty ≡ None
    → type_from x pos (bounds text bs) ≡ type_from x pos (bounds text cs)
next_unwritten text x pos bs cs b e h = ap (λ ds. type_from x pos (bounds text ds)) e ∙ ap (type_or (type_from x pos (bounds text cs))) (bound_untyped text b h)

-- EXISTS denies a FORALL
some_denies : (pos : Pos) (body : Phrase) (bs : List Bound) → 0 < length bs → Not (all_not_some pos body bs) pos ≡ some_of pos body bs
some_denies pos body [] h = absurd (omega arith)
some_denies pos body (b ∷ bs) h = refl

length_bounds : (text : Text) (bs : List Binding) → length (bounds text bs) ≡ length bs
length_bounds text [] = refl
length_bounds text (b ∷ bs) = ap suc (length_bounds text bs)

pub exists_denies : (text : Text) (pos : Pos) (body : Phrase) (bs : List Binding) (k : ℕ) → k < length bs
    → Not (all_not_some pos body (bounds text (drop k bs))) pos ≡ some_of pos body (bounds text (drop k bs))
exists_denies text pos body bs k h = some_denies pos body (bounds text (drop k bs)) (omega (arith, length_bounds text (drop k bs), length-drop k bs))

-- the type of one component, and that of the tuples of several
pub domain_one : (text : Text) (pos : Pos) (bs cs : List Binding) (b : Binding) → bs ≡ b ∷ cs → length bs ≡ 1
    → type_from (spelling text (out-Binding b).word) (out-Binding b).word.pos (bounds text bs) ≡ domain pos (bounds text bs)
domain_one text pos [] cs b e h = absurd (cc)
domain_one text pos (c ∷ d ∷ ds) cs b e h = absurd (omega arith)
domain_one text pos (c ∷ []) cs b e h =
    ap (λ (d : Binding). type_from (spelling text (out-Binding d).word) (out-Binding d).word.pos (bounds text (c ∷ []))) (sym (head_is e))
    ∙ ap₂ (λ x p. type_from x p (bounds text (c ∷ []))) (sym (bound_name text c)) (sym (bound_pos text c))

more_components : (text : Text) (pos : Pos) (b : Binding) (cs : List Binding) → ¬ (length (b ∷ cs) ≡ 1)
    → Product (length (b ∷ cs) - 2) (bound_of text b).name (type_from (bound_of text b).name (bound_of text b).pos (bounds text (b ∷ cs))) (domain pos (bounds text cs)) pos
    ≡ domain pos (bounds text (b ∷ cs))
more_components text pos b [] h = absurd (h refl)
more_components text pos b (c ∷ cs) h =
    let e : length (b ∷ c ∷ cs) - 2 ≡ length (bounds text cs) = omega (arith, length_bounds text cs) in
    ap (λ n. Product n (bound_of text b).name (type_from (bound_of text b).name (bound_of text b).pos (bounds text (b ∷ c ∷ cs))) (domain pos (bounds text (c ∷ cs))) pos) e

pub domain_more : (text : Text) (pos : Pos) (bs cs : List Binding) (b : Binding) (n : ℕ) → bs ≡ b ∷ cs → n ≡ length bs → ¬ (length bs ≡ 1)
    → Product (n - 2) (spelling text (out-Binding b).word) (type_from (spelling text (out-Binding b).word) (out-Binding b).word.pos (bounds text bs)) (domain pos (bounds text cs)) pos
    ≡ domain pos (bounds text bs)
domain_more text pos bs cs b n e i h =
    ap₂ (λ m ds. Product (m - 2) (spelling text (out-Binding b).word) (type_from (spelling text (out-Binding b).word) (out-Binding b).word.pos (bounds text ds)) (domain pos (bounds text cs)) pos) (i ∙ ap length e) e
    ∙ ap₂ (λ x p. Product (length (b ∷ cs) - 2) x (type_from x p (bounds text (b ∷ cs))) (domain pos (bounds text cs)) pos) (sym (bound_name text b)) (sym (bound_pos text b))
    ∙ more_components text pos b cs (subst (λ ds. ¬ (length ds ≡ 1)) e h)
    ∙ ap (λ ds. domain pos (bounds text ds)) (sym e)

-- binders with variables
pub forall_binder : (text : Text) (pos : Pos) (x : Phrase) (bs : List Binding) → 0 < length bs → all_of pos x (bounds text (drop 0 bs)) ≡ quantified binder_word.Forall (bounds text bs) x pos
forall_binder text pos x [] h = absurd (omega arith)
forall_binder text pos x (b ∷ bs) h = refl

pub exists_binder : (text : Text) (pos : Pos) (x : Phrase) (bs : List Binding) → 0 < length bs → some_of pos x (bounds text (drop 0 bs)) ≡ quantified binder_word.Exists (bounds text bs) x pos
exists_binder text pos x [] h = absurd (omega arith)
exists_binder text pos x (b ∷ bs) h = refl

pub lambda_binder : (text : Text) (pos : Pos) (x : Phrase) (bs : List Binding) → 0 < length bs
    → Lambda (domain pos (bounds text (drop 0 bs))) (names (bounds text bs)) x pos ≡ quantified binder_word.Lambda (bounds text bs) x pos
lambda_binder text pos x [] h = absurd (omega arith)
lambda_binder text pos x (b ∷ bs) h = refl

pub let_parts : (text : Text) (pos : Pos) (x : Phrase) (ps : List LetPart) → 0 < length ps → lets pos x (values text (drop 0 ps)) ≡ lets_term pos x (values text ps)
let_parts text pos x [] h = absurd (omega arith)
let_parts text pos x (p ∷ ps) h = refl
