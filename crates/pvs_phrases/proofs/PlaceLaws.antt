-- Where phrases begin.
use Rattle.std.proofs.Common.{◌≡◌, ◌∙◌, sym, ap, arith, List, [], ◌∷◌, length, refl}
use Rattle.std.specs.Prelude.{Option, Some, None}
use Rattle.pvs_base.specs.declared.place.Pos.{Pos}
use Rattle.pvs_syntax.specs.declared.expression.BinderWord.{BinderWord}
use Rattle.pvs_syntax.specs.declared.expression.BinderWord.TheVariants as binder_word
use Rattle.pvs_syntax.specs.declared.expression.InfixWord.{InfixWord}
use Rattle.pvs_syntax.specs.declared.expression.InfixWord.TheVariants as infix_word
use Rattle.pvs_syntax.specs.declared.expression.Binding.{Binding}
use Rattle.pvs_syntax.specs.declared.expression.Expr.{Expr}
use Rattle.pvs_syntax.specs.declared.expression.LetPart.{LetPart}
use Rattle.pvs_terms.specs.Tree.{Text}
use Rattle.pvs_elab.specs.Phrase.{Phrase, place}
use Rattle.pvs_elab.specs.Desugar.{Bound, Value, all_of, arguments, domain, operator, phrase, quantified, some_of, tuple, tuple_term, lets_term, let_part, lets, value_of}
use Rattle.pvs_phrases.specs.Parts.{all_not_some, bounds, phrases, values}

pub place_arguments : (xs : List Phrase) (f : Phrase) → place (arguments xs f) ≡ place f
place_arguments [] f = refl
place_arguments (x ∷ xs) f = refl

pub place_operator : (o : InfixWord) (x y : Phrase) → place (operator o x y) ≡ place x
place_operator infix_word.And x y = refl
place_operator infix_word.Or x y = refl
place_operator infix_word.Implies x y = refl
place_operator infix_word.Iff x y = refl
place_operator infix_word.Equal x y = refl
place_operator infix_word.Differs x y = refl

pub place_quantified : (w : BinderWord) (bs : List Bound) (x : Phrase) (pos : Pos) → place (quantified w bs x pos) ≡ pos
place_quantified w [] x pos = refl
place_quantified binder_word.Forall (b ∷ bs) x pos = refl
place_quantified binder_word.Exists (b ∷ bs) x pos = refl
place_quantified binder_word.Lambda (b ∷ bs) x pos = refl

pub place_tuple : (pos : Pos) (xs : List Phrase) → place (tuple_term pos xs) ≡ pos
place_tuple pos [] = refl
place_tuple pos (x ∷ []) = refl
place_tuple pos (x ∷ y ∷ xs) = refl

value_place : (y : Text) (w x : Phrase) (pos : Pos) (a : Option Phrase) → place (let_part (record { name = y; ty = a; value = w }) x pos) ≡ pos
value_place y w x pos None = refl
value_place y w x pos (Some a) = refl

place_value : (v : Value) (x : Phrase) (pos : Pos) → place (let_part v x pos) ≡ pos
place_value v x pos = value_place v.name v.value x pos v.ty

pub place_lets : (pos : Pos) (x : Phrase) (vs : List Value) → place (lets_term pos x vs) ≡ pos
place_lets pos x [] = refl
place_lets pos x (v ∷ vs) = place_value v (lets pos x vs) pos

head_is : {A : Type 0} {x y : A} {xs ys : List A} → x ∷ xs ≡ y ∷ ys → x ≡ y
head_is e = cc

-- a tuple begins at its place, and a single argument at its own
pub place_one : (pos : Pos) (text : Text) (xs ys : List Expr) (x : Expr) → xs ≡ x ∷ ys → length xs ≡ 1 → place (tuple pos (phrases text xs)) ≡ place (phrase text x)
place_one pos text [] ys x e h = absurd (cc)
place_one pos text (z ∷ []) ys x e h = ap (λ (w : Expr). place (phrase text w)) (head_is e)
place_one pos text (z ∷ w ∷ zs) ys x e h = absurd (omega arith)

pub place_several : (pos : Pos) (text : Text) (xs : List Expr) → ¬ (length xs ≡ 1) → place (tuple pos (phrases text xs)) ≡ pos
place_several pos text [] h = refl
place_several pos text (x ∷ []) h = absurd (h refl)
place_several pos text (x ∷ y ∷ xs) h = refl

pub place_components : (pos : Pos) (text : Text) (bs : List Binding) → ¬ (length bs ≡ 1) → place (domain pos (bounds text bs)) ≡ pos
place_components pos text [] h = refl
place_components pos text (b ∷ []) h = absurd (h refl)
place_components pos text (b ∷ c ∷ bs) h = refl

pub place_forall : (pos : Pos) (x : Phrase) (text : Text) (bs cs : List Binding) (b : Binding) → bs ≡ b ∷ cs → place (all_of pos x (bounds text bs)) ≡ pos
place_forall pos x text bs cs b e = ap (λ ds. place (all_of pos x (bounds text ds))) e

pub place_exists : (pos : Pos) (x : Phrase) (text : Text) (bs cs : List Binding) (b : Binding) → bs ≡ b ∷ cs → place (some_of pos x (bounds text bs)) ≡ pos
place_exists pos x text bs cs b e = ap (λ ds. place (some_of pos x (bounds text ds))) e

pub place_not_some : (pos : Pos) (x : Phrase) (bs : List Bound) → place (all_not_some pos x bs) ≡ pos
place_not_some pos x [] = refl
place_not_some pos x (b ∷ bs) = refl

pub place_let : (pos : Pos) (x : Phrase) (text : Text) (ps qs : List LetPart) (p : LetPart) → ps ≡ p ∷ qs → place (lets pos x (values text ps)) ≡ pos
place_let pos x text ps qs p e = ap (λ rs. place (lets pos x (values text rs))) e ∙ place_value (value_of text p) (lets pos x (values text qs)) pos

pub place_product : (pos : Pos) (text : Text) (bs : List Binding) → ¬ (length bs ≡ 1) → pos ≡ place (domain pos (bounds text bs))
place_product pos text bs h = sym (place_components pos text bs h)
