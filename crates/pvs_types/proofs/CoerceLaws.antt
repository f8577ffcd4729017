-- Coercion as an equation: it is its cases over itself.
use Rattle.std.proofs.Common.{◌≡◌, ℕ, suc, ◌+◌, ◌<◌, ◌≤◌, cond, eqb, [], ◌∷◌, Option, Some, None, Result, Ok, Err, refl, ap, ◌∙◌, arith}
use Rattle.std.proofs.lemmas.Result.{IfOk-at_ok}
use Rattle.pvs_base.specs.declared.code.Code.{Code}
use Rattle.pvs_base.specs.declared.code.Code.TheVariants.{Mismatch}
use Rattle.pvs_terms.specs.Tree.{Tree, Var, Name, Bind, Ref, TName, tree_eq}
use Rattle.pvs_terms.specs.declared.shape.Sort.TheVariants.{OfType}
use Rattle.pvs_terms.specs.declared.shape.Binder.TheVariants.{Subtype, Function, Product}
use Rattle.pvs_subst.specs.Replace.{put_in}
use Rattle.pvs_subst.specs.Contexts.{Assumptions, Variable}
use Rattle.pvs_types.specs.ProperTerms.{IsProperTerm}
use Rattle.pvs_sig.specs.Lookups.{Lookups, type_size, IsOrdered}
use Rattle.pvs_types.specs.Outcome.{Outcome, Refused, Accepted, outcome_after, ◌>>=◌, ◌>>◌, pure, refuse, owe, from_result, within_limits}
use Rattle.pvs_types.specs.Forms.{body, by_body, head, up, is_among}
use Rattle.pvs_types.specs.Coerce.{lift_one, application, first_part, second_part, Coercion, same_type, coerce_pair, coerce_domains, coerce_function, coerce_to, coerce_by, both_sizes, as_coercion, coerce_step, coerce}
use Rattle.pvs_types.proofs.ProperTermLaws.{proper_is_term}
use Rattle.pvs_types.proofs.BySizeLaws.{by_size_step}
use Rattle.pvs_types.proofs.SizeLaws.{type_size-lift, type_size-put_in}
use Rattle.pvs_types.proofs.FormsLaws.{body_is, head_size}
use Rattle.pvs_types.proofs.OutcomeLaws.{within_cases}
use Rattle.pvs_types.proofs.CoerceSound.{first_term, second_term, application_term}

-- equal steps, and equal outcomes after them
then_same : {A B : Type 0} (o u : Outcome A) (f g : A → Outcome B) → o ≡ u → ((a : A) → f a ≡ g a) → (o >>= f) ≡ (u >>= g)
then_same {A} {B} o u f g e h = ap (λ x. x >>= f) e ∙ go u
  where
    go : (x : Outcome A) → (x >>= f) ≡ (x >>= g)
    go (Refused c) = refl
    go (Accepted a cs rs) = ap (outcome_after cs rs) (h a)

within_same : {B : Type 0} (t : Tree) (f g : Tree → Outcome B) → f t ≡ g t → (within_limits t >>= f) ≡ (within_limits t >>= g)
within_same t f g h = within_cases (λ o. (o >>= f) ≡ (o >>= g)) t (ap (outcome_after [] []) h) refl

result_same : {A B : Type 0} (x : Result A Code) (f g : A → Outcome B) → ((a : A) → x ≡ Ok a → f a ≡ g a)
    → (from_result x >>= f) ≡ (from_result x >>= g)
result_same (Ok a) f g h = ap (outcome_after [] []) (h a refl)
result_same (Err c) f g h = refl

module _ (s : Lookups) (ordered : IsOrdered s) where
  -- two coercions agree on terms between smaller types
  abbrev Agree : ℕ → Coercion → Coercion → Type 0
  Agree n go go' = (g : Assumptions) (t b a : Tree) → type_size s.rank b + type_size s.rank a < n → IsProperTerm t
      → go g t b a ≡ go' g t b a

  name_local : (go go' : Coercion) (g : Assumptions) (t b : Tree) (r : Ref) (o : Option Tree) → s.body_of r ≡ o
      → Agree (type_size s.rank b + suc (s.rank r)) go go' → IsProperTerm t → (other : Outcome (Unit {0}))
      → by_body (go g t b) other o ≡ by_body (go' g t b) other o
  name_local go go' g t b r None e h k other = refl
  name_local go go' g t b r (Some u) e h k other = let q = ordered r u e in h g t b u (omega arith) k

  pair_local : (go go' : Coercion) (n : ℕ) (g : Assumptions) (t : Tree) (k : ℕ) (a2 b2 d : Tree)
      → type_size s.rank d + suc (type_size s.rank a2 + type_size s.rank b2) ≤ n → Agree n go go' → IsProperTerm t
      → coerce_pair go g t k a2 b2 d ≡ coerce_pair go' g t k a2 b2 d
  pair_local go go' n g t k a2 b2 (Bind (Product j) a1 b1) l h term =
      let f : Tree = first_part k t in
      let x : Tree = second_part k t in
      let x1 = type_size-put_in s.rank b1 f (proper_is_term f (first_term k t term)) in
      let x2 = type_size-put_in s.rank b2 f (proper_is_term f (first_term k t term)) in
      ap (λ o. cond (eqb j k) o (refuse Mismatch))
      (within_same f _ _ (then_same (go g f a1 a2) (go' g f a1 a2) _ _ (h g f a1 a2 (omega arith) (first_term k t term)) (λ _.
      within_same x _ _ (within_same (put_in b1 f) _ _
      (within_same (put_in b2 f) _ _ (h g x (put_in b1 f) (put_in b2 f) (omega arith) (second_term k t term)))))))
  pair_local go go' n g t k a2 b2 _ l h term = refl

  domains_local : (go go' : Coercion) (n : ℕ) (g : Assumptions) (a1 a2 : Tree) → type_size s.rank a1 + type_size s.rank a2 < n
      → Agree n go go' → coerce_domains go g a1 a2 ≡ coerce_domains go' g a1 a2
  domains_local go go' n g a1 a2 l h =
      let x1 = type_size-lift s.rank a1 1 0 in
      let x2 = type_size-lift s.rank a2 1 0 in
      ap (λ o. cond (tree_eq a1 a2) (pure tt) o)
      (within_same (lift_one a1) _ _ (within_same (lift_one a2) _ _
      (then_same (go (Variable a1 ∷ g) (Var 0) (lift_one a1) (lift_one a2)) (go' (Variable a1 ∷ g) (Var 0) (lift_one a1) (lift_one a2)) _
      _ (h (Variable a1 ∷ g) (Var 0) (lift_one a1) (lift_one a2) (omega arith) tt)
      (λ _. h (Variable a2 ∷ g) (Var 0) (lift_one a2) (lift_one a1) (omega arith) tt))))

  function_local : (go go' : Coercion) (n : ℕ) (g : Assumptions) (t a2 b2 d : Tree)
      → type_size s.rank d + suc (type_size s.rank a2 + type_size s.rank b2) ≤ n → Agree n go go' → IsProperTerm t
      → coerce_function go g t a2 b2 d ≡ coerce_function go' g t a2 b2 d
  function_local go go' n g t a2 b2 (Bind Function a1 b1) l h term =
      let x : Tree = application a1 t in
      then_same (coerce_domains go g a1 a2) (coerce_domains go' g a1 a2) _ _ (domains_local go go' n g a1 a2 (omega arith) h) (λ _.
      within_same x _ _ (h (Variable a1 ∷ g) x b1 b2 (omega arith) (application_term a1 t term)))
  function_local go go' n g t a2 b2 _ l h term = refl

  head_no_larger : (b d : Tree) → head s b ≡ Ok d → type_size s.rank d ≤ type_size s.rank b
  head_no_larger b d e = IfOk-at_ok (λ u. type_size s.rank u ≤ type_size s.rank b) e (head_size s ordered b)

  to_local : (go go' : Coercion) (g : Assumptions) (t b a : Tree) → Agree (type_size s.rank b + type_size s.rank a) go go' → IsProperTerm t
      → coerce_to s go g t b a ≡ coerce_to s go' g t b a
  to_local go go' g t b (Name OfType r) h k = result_same (body s r) _ _
      (λ o e. name_local go go' g t b r o (body_is s r o e) h k (from_result (head s b) >>= (λ d. same_type d (TName r))))
  to_local go go' g t b (Bind Subtype a p) h k = ap (λ o. o >> (within_limits (put_in p t) >>= owe g)) (h g t b a (omega arith) k)
  to_local go go' g t b (Bind (Product j) a2 b2) h k = result_same (head s b) _ _ (λ d e. let q = head_no_larger b d e in
      pair_local go go' (type_size s.rank b + suc (type_size s.rank a2 + type_size s.rank b2)) g t j a2 b2 d (omega arith) h k)
  to_local go go' g t b (Bind Function a2 b2) h k = result_same (head s b) _ _ (λ d e. let q = head_no_larger b d e in
      function_local go go' (type_size s.rank b + suc (type_size s.rank a2 + type_size s.rank b2)) g t a2 b2 d (omega arith) h k)
  to_local go go' g t b _ h k = refl

  by_local : (go go' : Coercion) (g : Assumptions) (t b a : Tree) → Agree (type_size s.rank b + type_size s.rank a) go go' → IsProperTerm t
      → coerce_by s go g t b a ≡ coerce_by s go' g t b a
  by_local go go' g t b a h k = result_same (up s b) _ _ (λ us _. ap (λ o. cond (is_among a us) (pure tt) o) (to_local go go' g t b a h k))

  -- the seven cases, the first that applies
  pub coerce_rule : (g : Assumptions) (t b a : Tree) → IsProperTerm t → coerce s g t b a ≡ coerce_by s (coerce s) g t b a
  unfolding coerce
  coerce_rule g t b a k = by_size_step (both_sizes s) (coerce_step s) (λ x g t. refuse Mismatch)
      (λ x y z. (g : Assumptions) (t : Tree) → IsProperTerm t → y g t ≡ z g t)
      (λ x go go' h g t k. by_local (as_coercion go) (as_coercion go') g t x.0 x.1 (λ g t b a l k. h (b, a) l g t k) k) (b, a) g t k
