-- Tables by texts.
use Rattle.std.proofs.Common.{◌≡◌, ℕ, Bool, true, false, cond, List, [], ◌∷◌, Some, map, refl, sym, ap, ◌∙◌}
use Rattle.std.specs.Prelude.{bytes_eq}
use Rattle.std.specs.Map.{lookup, KeepsOthers, IsKeyTest, AreApart}
use Rattle.pvs_terms.specs.Tree.{Text}
use Rattle.pvs_names.proofs.MemberLaws.{same_bool, bytes_same, bytes_true}

pub bytes_flip : (x y : Text) → bytes_eq x y ≡ bytes_eq y x
bytes_flip x y = same_bool (bytes_eq x y) (bytes_eq y x) (λ e. bytes_same y x (sym (bytes_true x y e))) (λ e. bytes_same x y (sym (bytes_true y x e)))

-- a look-up among pairs whose keys are taken to others
pub lookup_map : {K B X : Type 0} (f : K → B) (p : B → Bool) (es : List (K × X)) → lookup p (map (λ (e : K × X). (f e.0, e.1)) es) ≡ lookup (λ k. p (f k)) es
lookup_map f p [] = refl
lookup_map f p (e ∷ es) = ap (cond (p (f e.0)) (Some e.1)) (lookup_map f p es)

module _ {K : Type 0} (f : K → Text) (old new : List (K × ℕ)) (key : K) (v : ℕ) (text : Text) (is : f key ≡ text)
    (found : lookup (λ k. bytes_eq (f key) (f k)) new ≡ Some v) (kept : KeepsOthers (λ a b. bytes_eq (f a) (f b)) (λ k. bytes_eq (f key) (f k)) old new) (x : Text) where
  by_text : IsKeyTest (λ a b. bytes_eq (f a) (f b)) (λ k. bytes_eq x (f k))
  by_text a b h = ap (λ z. bytes_eq z (f b)) (bytes_true x (f a) h)

  apart : bytes_eq text x ≡ false → AreApart (λ k. bytes_eq (f key) (f k)) (λ k. bytes_eq x (f k))
  apart e k h = ap (bytes_eq x) (sym (bytes_true (f key) (f k) h) ∙ is) ∙ bytes_flip x text ∙ e

  set_if : (b : Bool) → bytes_eq text x ≡ b → lookup (λ k. bytes_eq x (f k)) new ≡ cond b (Some v) (lookup (λ k. bytes_eq x (f k)) old)
  unfolding KeepsOthers
  set_if true e = ap (λ z. lookup (λ k. bytes_eq z (f k)) new) (sym (is ∙ bytes_true text x e)) ∙ found
  set_if false e = kept (λ k. bytes_eq x (f k)) by_text (apart e)

  -- the value of a text, once that of another or the same one is set
  pub text_set : lookup (λ k. bytes_eq x (f k)) new ≡ cond (bytes_eq text x) (Some v) (lookup (λ k. bytes_eq x (f k)) old)
  text_set = set_if (bytes_eq text x) refl
