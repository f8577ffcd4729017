-- The forms of types as equations: each is its cases over itself, where a defined name is larger than its body.
use Rattle.std.proofs.Common.{◌≡◌, ℕ, suc, ◌<◌, ◌≤◌, Bool, true, false, cond, List, [], ◌∷◌, Option, Some, None, Result, Ok, Err, refl, ap, ◌∙◌, arith}
use Rattle.std.specs.Prelude.{IfOk}
use Rattle.std.proofs.lemmas.Result.{IfOk-weaker}
use Rattle.pvs_base.specs.Answers.{◌>>=◌}
use Rattle.pvs_base.specs.declared.code.Code.{Code}
use Rattle.pvs_base.specs.declared.code.Code.TheVariants.{TooLarge}
use Rattle.pvs_terms.specs.Tree.{Tree, Leaf, Name, Bind, Ref, TName, TSub, TFun, TPair}
use Rattle.pvs_terms.specs.declared.shape.Plain.TheVariants.{BoolType}
use Rattle.pvs_terms.specs.declared.shape.Sort.TheVariants.{OfType}
use Rattle.pvs_terms.specs.declared.shape.Binder.TheVariants.{Subtype, Function, Product}
use Rattle.pvs_sig.specs.Lookups.{Lookups, type_size, IsOrdered}
use Rattle.pvs_types.specs.Limits.{is_within_limits}
use Rattle.pvs_types.specs.Forms.{small_tree, small_body, body, by_body, head_by, up_by, mentions, most_pair, most_by, nonempty_by, head, up, most, is_known_nonempty}
use Rattle.pvs_types.proofs.BySizeLaws.{by_size_has, by_size_step}

-- a tree that is needed is that tree, or too large
pub small_cases : (P : Result Tree Code → Type 0) (t : Tree) → P (Ok t) → P (Err TooLarge) → P (small_tree t)
small_cases P t h k = go (is_within_limits t)
  where
    go : (b : Bool) → P (cond b (Ok t) (Err TooLarge))
    go true = h
    go false = k

-- a body is none, or that of the look-ups, or too large
pub body_cases : (P : Result (Option Tree) Code → Type 0) (s : Lookups) (r : Ref)
    → (s.body_of r ≡ None → P (Ok None)) → ((t : Tree) → s.body_of r ≡ Some t → P (Ok (Some t))) → P (Err TooLarge) → P (body s r)
body_cases P s r h k l = go (s.body_of r) refl
  where
    go : (o : Option Tree) → s.body_of r ≡ o → P (small_body o)
    go None e = h e
    go (Some t) e = small_cases (λ x. P (x >>= (λ t. Ok (Some t)))) t (k t e) l

-- a body that is answered is that of the look-ups
pub body_is : (s : Lookups) (r : Ref) (o : Option Tree) → body s r ≡ Ok o → s.body_of r ≡ o
body_is s r o h = body_cases (λ x. x ≡ Ok o → s.body_of r ≡ o) s r (λ e k. e ∙ cc) (λ t e k. e ∙ cc) (λ k. cc) h

pub if_ok_then : {A B : Type 0} (P : A → Type 0) (Q : B → Type 0) (x : Result A Code) (f : A → Result B Code) → IfOk x P
    → ((a : A) → P a → IfOk (f a) Q) → IfOk (x >>= f) Q
if_ok_then P Q (Ok a) f h k = k a h
if_ok_then P Q (Err c) f h k = tt

then_same : {A B : Type 0} (x y : Result A Code) (f g : A → Result B Code) → x ≡ y → ((a : A) → f a ≡ g a) → (x >>= f) ≡ (y >>= g)
then_same {A} {B} x y f g e h = ap (λ z. z >>= f) e ∙ go y
  where
    go : (z : Result A Code) → (z >>= f) ≡ (z >>= g)
    go (Ok a) = h a
    go (Err c) = refl

module _ (s : Lookups) (ordered : IsOrdered s) where
  -- two functions agree on the types that are smaller
  abbrev Agree : {A : Type 0} → Tree → (Tree → A) → (Tree → A) → Type 0
  Agree t go go' = (u : Tree) → type_size s.rank u < type_size s.rank t → go u ≡ go' u

  by_body_same : {A : Type 0} (go go' : Tree → Result A Code) (other : Result A Code) (r : Ref) → Agree (TName r) go go'
      → (body s r >>= by_body go other) ≡ (body s r >>= by_body go' other)
  by_body_same go go' other r h = body_cases (λ x. (x >>= by_body go other) ≡ (x >>= by_body go' other)) s r (λ e. refl)
      (λ t e. h t (ordered r t e)) refl

  head_local : (t : Tree) (go go' : Tree → Result Tree Code) → Agree t go go' → head_by s go t ≡ head_by s go' t
  head_local (Name OfType r) go go' h = by_body_same go go' (Ok (TName r)) r h
  head_local (Bind Subtype a p) go go' h = h a (omega arith)
  head_local t go go' h = refl

  pub head_step : (t : Tree) → head s t ≡ head_by s (head s) t
  unfolding head
  head_step = by_size_step (type_size s.rank) (head_by s) (λ t. Ok t) (λ x y z. y ≡ z) head_local

  up_local : (t : Tree) (go go' : Tree → Result (List Tree) Code) → Agree t go go' → up_by s go t ≡ up_by s go' t
  up_local (Name OfType r) go go' h = body_cases
      (λ x. (x >>= (λ d. by_body go (Ok []) d >>= (λ us. Ok (TName r ∷ us)))) ≡ (x
      >>= (λ d. by_body go' (Ok []) d >>= (λ us. Ok (TName r ∷ us))))) s r
      (λ e. refl) (λ t e. ap (λ x. x >>= (λ us. Ok (TName r ∷ us))) (h t (ordered r t e))) refl
  up_local (Bind Subtype a p) go go' h = ap (λ x. x >>= (λ us. Ok (TSub a p ∷ us))) (h a (omega arith))
  up_local t go go' h = refl

  pub up_step : (t : Tree) → up s t ≡ up_by s (up s) t
  unfolding up
  up_step = by_size_step (type_size s.rank) (up_by s) (λ t. Ok (t ∷ [])) (λ x y z. y ≡ z) up_local

  most_pair_same : (go go' : Tree → Result Tree Code) (k : ℕ) (a b : Tree) → go a ≡ go' a → most_pair go k a b ≡ most_pair go' k a b
  most_pair_same go go' k a b e = ap (λ x. cond (mentions 0 b) (small_tree (TPair k a b)) (x >>= (λ c. small_tree (TPair k c b)))) e

  most_local : (t : Tree) (go go' : Tree → Result Tree Code) → Agree t go go' → most_by s go t ≡ most_by s go' t
  most_local (Name OfType r) go go' h = by_body_same go go' (Ok (TName r)) r h
  most_local (Bind Subtype a p) go go' h = h a (omega arith)
  most_local (Bind Function a b) go go' h = ap (λ x. x >>= (λ c. small_tree (TFun a c))) (h b (omega arith))
  most_local (Bind (Product k) a b) go go' h = then_same (go b) (go' b) (most_pair go k a) (most_pair go' k a) (h b (omega arith))
      (λ c. most_pair_same go go' k a c (h a (omega arith)))
  most_local t go go' h = refl

  pub most_step : (t : Tree) → most s t ≡ most_by s (most s) t
  unfolding most
  most_step = by_size_step (type_size s.rank) (most_by s) (λ t. Ok t) (λ x y z. y ≡ z) most_local

  nonempty_local : (t : Tree) (go go' : Tree → Result Bool Code) → Agree t go go' → nonempty_by s go t ≡ nonempty_by s go' t
  nonempty_local (Leaf BoolType) go go' h = refl
  nonempty_local (Name OfType r) go go' h = by_body_same go go' (Ok (s.is_nonempty r)) r h
  nonempty_local (Bind Function a b) go go' h = h b (omega arith)
  nonempty_local (Bind (Product k) a b) go go' h = then_same (go a) (go' a) (λ c. cond c (go b) (Ok false))
      (λ c. cond c (go' b) (Ok false)) (h a (omega arith)) (λ c. ap (λ x. cond c x (Ok false)) (h b (omega arith)))
  nonempty_local t go go' h = refl

  pub nonempty_step : (t : Tree) → is_known_nonempty s t ≡ nonempty_by s (is_known_nonempty s) t
  unfolding is_known_nonempty
  nonempty_step = by_size_step (type_size s.rank) (nonempty_by s) (λ t. Ok false) (λ x y z. y ≡ z) nonempty_local

  -- a head is no larger
  abbrev IsNoLarger : Tree → Result Tree Code → Type 0
  IsNoLarger t x = IfOk x (λ u. type_size s.rank u ≤ type_size s.rank t)

  head_no_larger : (go : Tree → Result Tree Code) → ((t : Tree) → IsNoLarger t (go t)) → (t : Tree) → IsNoLarger t (head_by s go t)
  head_no_larger go ih (Name OfType r) = body_cases (λ x. IsNoLarger (TName r) (x >>= by_body go (Ok (TName r)))) s r (λ e. omega arith)
      (λ t e. IfOk-weaker (go t) (λ u. type_size s.rank u ≤ type_size s.rank t) (λ u. type_size s.rank u ≤ suc (s.rank r))
      (λ u l. let q = ordered r t e in omega arith) (ih t)) tt
  head_no_larger go ih (Bind Subtype a p) = IfOk-weaker (go a) (λ u. type_size s.rank u ≤ type_size s.rank a)
      (λ u. type_size s.rank u ≤ suc (type_size s.rank a)) (λ u l. omega arith) (ih a)
  head_no_larger go ih t = omega arith

  pub head_size : (t : Tree) → IsNoLarger t (head s t)
  unfolding head
  head_size = by_size_has (type_size s.rank) (head_by s) (λ t. Ok t) IsNoLarger (λ t. omega arith) head_no_larger
