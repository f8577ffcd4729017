-- The set of a type lies in the set of its head, of each type above it and of its most general form; and a type that
-- is known to be nonempty has a member.
use Rattle.std.proofs.Common.{◌≡◌, ◌⊎◌, inl, inr, ℕ, Bool, true, false, ◌||◌, cond, List, [], ◌∷◌, Option, Some, None, Result, Ok, refl, ap, ◌∙◌, sym, subst}
use Rattle.std.specs.Prelude.{IfOk}
use Rattle.std.proofs.lemmas.Bool.{true≢false}
use Rattle.std.proofs.lemmas.Result.{IfOk-weaker, IfOk-at_ok}
use Rattle.pvs_base.specs.Answers.{◌>>=◌}
use Rattle.pvs_base.specs.declared.code.Code.{Code}
use Rattle.pvs_terms.specs.Tree.{Tree, Leaf, Name, Bind, Ref, TName, TSub, TFun, TPair, tree_eq}
use Rattle.pvs_terms.specs.declared.shape.Plain.TheVariants.{BoolType}
use Rattle.pvs_terms.specs.declared.shape.Sort.TheVariants.{OfType}
use Rattle.pvs_terms.specs.declared.shape.Binder.TheVariants.{Subtype, Function, Product}
use Rattle.pvs_terms.proofs.TreeLaws.{tree_eq-true, tree_eq-same}
use Rattle.pvs_sem.specs.Value.{Value, Truth, IsMember, is_true}
use Rattle.pvs_sem.specs.Meaning.{Model, Env, env_with, mean}
use Rattle.pvs_sem.proofs.SetLaws.{cases_of, member_subset}
use Rattle.pvs_sem.proofs.PairLaws.{pairs_wider, some_pair}
use Rattle.pvs_sem.proofs.TableLaws.{tables_wider, some_table}
use Rattle.pvs_sig.specs.Lookups.{Lookups, type_size}
use Rattle.pvs_types.specs.Forms.{small_tree, body, by_body, head_by, up_by, mentions, most_pair, most_by, nonempty_by, head, up, most, is_known_nonempty, is_among, first_among}
use Rattle.pvs_types.specs.Soundness.{IsModelOf}
use Rattle.pvs_types.proofs.BySizeLaws.{by_size_has}
use Rattle.pvs_types.proofs.FormsLaws.{small_cases, body_cases, if_ok_then}

only_member : (a b : Tree) → (tree_eq a b || false) ≡ true → a ≡ b
only_member a b h = elim (cases_of (tree_eq a b))
    [ inl x ↦ tree_eq-true a b x | inr x ↦ absurd (true≢false (sym h ∙ ap (λ t. t || false) x)) ]

-- a member of a list is the first or a later one
pub among_first : (a t : Tree) (us : List Tree) → is_among a (t ∷ us) ≡ true → (a ≡ t) ⊎ (is_among a us ≡ true)
among_first a t us h = go (tree_eq a t) refl h
  where
    go : (x : Bool) → tree_eq a t ≡ x → (x || is_among a us) ≡ true → (a ≡ t) ⊎ (is_among a us ≡ true)
    go true e k = inl (tree_eq-true a t e)
    go false e k = inr k

or_second : (a : Bool) {b : Bool} → b ≡ true → (a || b) ≡ true
or_second true h = refl
or_second false h = h

among_same : (t : Tree) (us : List Tree) → is_among t (t ∷ us) ≡ true
among_same t us = ap (λ x. x || is_among t us) (tree_eq-same t)

-- the first common member is a member of both
pub first_sound : (ts us : List Tree) (d : Tree) → first_among ts us ≡ Some d → (is_among d ts ≡ true) × (is_among d us ≡ true)
first_sound [] us d h = cc
first_sound (t ∷ ts) us d h = go (is_among t us) refl (first_sound ts us d) h
  where
    go : (b : Bool) → is_among t us ≡ b → (first_among ts us ≡ Some d → (is_among d ts ≡ true) × (is_among d us ≡ true))
        → cond b (Some t) (first_among ts us) ≡ Some d → (is_among d (t ∷ ts) ≡ true) × (is_among d us ≡ true)
    go true x ih k = let e : t ≡ d = cc in (
      subst (λ y. is_among d (y ∷ ts) ≡ true) (sym e) (among_same d ts),
      subst
          (λ y. is_among y us ≡ true) e x,
    )
    go false x ih k = let r = ih k in (or_second (tree_eq d t) r.0, r.1)

module _ (m : Model) (s : Lookups) (fits : IsModelOf m s) where
  -- each member of one type's set is in the other's
  abbrev pub LiesIn : Tree → Tree → Type 0
  LiesIn b a = (e : Env) (v : Value) → IsMember v (mean m b e).set → IsMember v (mean m a e).set

  abbrev pub AreAbove : Tree → List Tree → Type 0
  AreAbove b us = (a : Tree) → is_among a us ≡ true → LiesIn b a

  body_lies_in : (r : Ref) (t a : Tree) → s.body_of r ≡ Some t → LiesIn t a → LiesIn (TName r) a
  body_lies_in r t a h k e v q = k e v (subst (λ xs. IsMember v xs) (fits.definitions r t e h) q)

  super_lies_in : (a p b : Tree) → LiesIn a b → LiesIn (TSub a p) b
  super_lies_in a p b k e v q = k e v (member_subset (λ w. is_true (mean m p (env_with w e)).value) v (mean m a e).set q).0

  abbrev Into : Tree → Result Tree Code → Type 0
  Into b x = IfOk x (LiesIn b)

  by_body_into : (r : Ref) (go : Tree → Result Tree Code) → ((t : Tree) → Into t (go t))
      → Into (TName r) (body s r >>= by_body go (Ok (TName r)))
  by_body_into r go k = body_cases (λ x. Into (TName r) (x >>= by_body go (Ok (TName r)))) s r (λ _ e v q. q)
      (λ t h. IfOk-weaker (go t) (LiesIn t) (LiesIn (TName r)) (λ u w. body_lies_in r t u h w) (k t)) tt

  super_into : (a p : Tree) (x : Result Tree Code) → Into a x → Into (TSub a p) x
  super_into a p x k = IfOk-weaker x (LiesIn a) (LiesIn (TSub a p)) (λ u w. super_lies_in a p u w) k

  head_into : (go : Tree → Result Tree Code) → ((t : Tree) → Into t (go t)) → (b : Tree) → Into b (head_by s go b)
  head_into go ih (Name OfType r) = by_body_into r go ih
  head_into go ih (Bind Subtype a p) = super_into a p (go a) (ih a)
  head_into go ih b = λ e v q. q

  pub head_sound : (b : Tree) → Into b (head s b)
  unfolding head
  head_sound = by_size_has (type_size s.rank) (head_by s) (λ t. Ok t) Into (λ t e v q. q) head_into

  pub head_lies_in : (b d : Tree) → head s b ≡ Ok d → LiesIn b d
  head_lies_in b d h = IfOk-at_ok (LiesIn b) h (head_sound b)

  pair_lies_in : (k : ℕ) (a b c d : Tree) → LiesIn a c → LiesIn b d → LiesIn (TPair k a b) (TPair k c d)
  pair_lies_in k a b c d f g e v q = pairs_wider (λ w. (mean m b (env_with w e)).set) (λ w. (mean m d (env_with w e)).set) v
      (mean m a e).set (mean m c e).set q (f e) (λ x w h l. g (env_with x e) w l)

  small_into : (b t : Tree) → LiesIn b t → Into b (small_tree t)
  small_into b t h = small_cases (Into b) t h tt

  most_pair_into : (go : Tree → Result Tree Code) (k : ℕ) (a b d : Tree) → Into a (go a) → LiesIn b d
      → Into (TPair k a b) (most_pair go k a d)
  most_pair_into go k a b d f g = choose (mentions 0 d)
    where
      choose : (t : Bool) → Into (TPair k a b) (cond t (small_tree (TPair k a d)) (go a >>= (λ c. small_tree (TPair k c d))))
      choose true = small_into (TPair k a b) (TPair k a d) (pair_lies_in k a b a d (λ e v q. q) g)
      choose false = if_ok_then (LiesIn a) (LiesIn (TPair k a b)) (go a) (λ c. small_tree (TPair k c d)) f
          (λ c w. small_into (TPair k a b) (TPair k c d) (pair_lies_in k a b c d w g))

  function_lies_in : (a b c : Tree) → LiesIn b c → LiesIn (TFun a b) (TFun a c)
  function_lies_in a b c w e v q = tables_wider (λ x. (mean m b (env_with x e)).set) (λ x. (mean m c (env_with x e)).set) v
      (mean m a e).set q (λ x y k l. w (env_with x e) y l)

  most_into : (go : Tree → Result Tree Code) → ((t : Tree) → Into t (go t)) → (b : Tree) → Into b (most_by s go b)
  most_into go ih (Name OfType r) = by_body_into r go ih
  most_into go ih (Bind Subtype a p) = super_into a p (go a) (ih a)
  most_into go ih (Bind Function a b) = if_ok_then (LiesIn b) (LiesIn (TFun a b)) (go b) (λ c. small_tree (TFun a c)) (ih b)
      (λ c w. small_into (TFun a b) (TFun a c) (function_lies_in a b c w))
  most_into go ih (Bind (Product k) a b) = if_ok_then (LiesIn b) (LiesIn (TPair k a b)) (go b) (most_pair go k a) (ih b)
      (λ d w. most_pair_into go k a b d (ih a) w)
  most_into go ih b = λ e v q. q

  pub most_sound : (b : Tree) → Into b (most s b)
  unfolding most
  most_sound = by_size_has (type_size s.rank) (most_by s) (λ t. Ok t) Into (λ t e v q. q) most_into

  alone : (b : Tree) → AreAbove b (b ∷ [])
  alone b a h e v q = subst (λ y. IsMember v (mean m y e).set) (sym (only_member a b h)) q

  above_more : (b : Tree) (us : List Tree) → AreAbove b us → AreAbove b (b ∷ us)
  above_more b us k a h e v q = elim (among_first a b us h)
      [ inl x ↦ subst (λ y. IsMember v (mean m y e).set) (sym x) q | inr x ↦ k a x e v q ]

  abbrev AllAbove : Tree → Result (List Tree) Code → Type 0
  AllAbove b x = IfOk x (AreAbove b)

  up_body : (r : Ref) (go : Tree → Result (List Tree) Code) → ((t : Tree) → AllAbove t (go t)) → (o : Option Tree) → s.body_of r ≡ o
      → AllAbove (TName r) (by_body go (Ok []) o)
  up_body r go k None h = λ a j. cc
  up_body r go k (Some t) h = IfOk-weaker (go t) (AreAbove t) (AreAbove (TName r)) (λ us w a j. body_lies_in r t a h (w a j)) (k t)

  up_name : (r : Ref) (x : Result (List Tree) Code) → AllAbove (TName r) x → AllAbove (TName r) (x >>= (λ us. Ok (TName r ∷ us)))
  up_name r x h = if_ok_then (AreAbove (TName r)) (AreAbove (TName r)) x (λ us. Ok (TName r ∷ us)) h (λ us w. above_more (TName r) us w)

  up_above : (go : Tree → Result (List Tree) Code) → ((t : Tree) → AllAbove t (go t)) → (b : Tree) → AllAbove b (up_by s go b)
  up_above go ih (Name OfType r) = body_cases (λ x. AllAbove (TName r) (x >>= (λ d. by_body go (Ok []) d >>= (λ us. Ok (TName r ∷ us)))))
      s r
      (λ h. up_name r (Ok []) (up_body r go ih None h)) (λ t h. up_name r (go t) (up_body r go ih (Some t) h)) tt
  up_above go ih (Bind Subtype a p) = if_ok_then (AreAbove a) (AreAbove (TSub a p)) (go a) (λ us. Ok (TSub a p ∷ us)) (ih a)
      (λ us w. above_more (TSub a p) us (λ c h. super_lies_in a p c (w c h)))
  up_above go ih b = alone b

  pub up_sound : (b : Tree) → AllAbove b (up s b)
  unfolding up
  up_sound = by_size_has (type_size s.rank) (up_by s) (λ t. Ok (t ∷ [])) AllAbove alone up_above

  pub up_lies_in : (b a : Tree) (us : List Tree) → up s b ≡ Ok us → is_among a us ≡ true → LiesIn b a
  up_lies_in b a us h = IfOk-at_ok (AreAbove b) h (up_sound b) a

  -- a type has a member where the answer is that it has
  abbrev pub HasMember : Tree → Bool → Type 0
  HasMember a b = b ≡ true → (e : Env) → (v : Value) × IsMember v (mean m a e).set

  abbrev IfKnown : Tree → Result Bool Code → Type 0
  IfKnown a x = IfOk x (HasMember a)

  nonempty_pair : (go : Tree → Result Bool Code) (k : ℕ) (a b : Tree) → IfKnown b (go b) → (x : Bool) → HasMember a x
      → IfKnown (TPair k a b) (cond x (go b) (Ok false))
  nonempty_pair go k a b h true f = IfOk-weaker (go b) (HasMember b) (HasMember (TPair k a b))
      (λ y w t e. some_pair (λ v. (mean m b (env_with v e)).set) (mean m a e).set (f refl e) (λ v. w t (env_with v e))) h
  nonempty_pair go k a b h false f = λ t. cc

  nonempty_known : (go : Tree → Result Bool Code) → ((t : Tree) → IfKnown t (go t)) → (a : Tree) → IfKnown a (nonempty_by s go a)
  nonempty_known go ih (Leaf BoolType) = λ t e. (Truth true, inr (inl refl))
  nonempty_known go ih (Name OfType r) = body_cases (λ x. IfKnown (TName r) (x >>= by_body go (Ok (s.is_nonempty r)))) s r
      (λ h t e. fits.nonempty r h t)
      (λ a h. IfOk-weaker (go a) (HasMember a) (HasMember (TName r))
      (λ y w t e. let k = w t e in (k.0, subst (λ xs. IsMember k.0 xs) (sym (fits.definitions r a e h)) k.1)) (ih a)) tt
  nonempty_known go ih (Bind Function a b) = IfOk-weaker (go b) (HasMember b) (HasMember (TFun a b))
      (λ y w t e. some_table (λ v. (mean m b (env_with v e)).set) (mean m a e).set (λ v. w t (env_with v e))) (ih b)
  nonempty_known go ih (Bind (Product k) a b) = if_ok_then (HasMember a) (HasMember (TPair k a b)) (go a) (λ x. cond x (go b) (Ok false))
      (ih a) (nonempty_pair go k a b (ih b))
  nonempty_known go ih a = λ t. cc

  pub nonempty_sound : (a : Tree) → IfKnown a (is_known_nonempty s a)
  unfolding is_known_nonempty
  nonempty_sound = by_size_has (type_size s.rank) (nonempty_by s) (λ t. Ok false) IfKnown (λ t h. cc) nonempty_known
