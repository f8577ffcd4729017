-- Coercion over look-ups that agree.
use Rattle.std.proofs.Common.{◌≡◌, ℕ, zero, suc, ◌<◌, ◌≤◌, ◌+◌, Bool, true, false, cond, eqb, [], ◌∷◌, Option, Some, None, Result, Ok, Err, refl, ap, ◌∙◌, sym, subst, arith}
use Rattle.std.specs.Prelude.{IfOk}
use Rattle.pvs_base.specs.declared.code.Code.{Code}
use Rattle.pvs_base.specs.declared.code.Code.TheVariants.{Mismatch}
use Rattle.pvs_terms.specs.Tree.{Tree, Leaf, Var, Name, Bind, Join, Ref, TName, Lam, App, tree_eq}
use Rattle.pvs_terms.specs.declared.shape.Sort.TheVariants.{OfType}
use Rattle.pvs_terms.specs.declared.shape.Binder.TheVariants.{Subtype, Function, Product, Lambda}
use Rattle.pvs_terms.specs.declared.shape.Joint.TheVariants.{Tuple}
use Rattle.pvs_subst.specs.Replace.{put_in}
use Rattle.pvs_subst.specs.Contexts.{Assumptions, Variable}
use Rattle.pvs_sig.specs.Lookups.{Lookups, type_size, IsOrdered}
use Rattle.pvs_soundness.specs.Vocabulary.{Vocabulary, HasReference, HasArity, IsOver}
use Rattle.pvs_types.specs.ProperTerms.{IsProperTerm}
use Rattle.pvs_types.specs.Outcome.{Outcome, Refused, Accepted, outcome_after, ◌>>=◌, ◌>>◌, pure, refuse, owe, from_result, within_limits}
use Rattle.pvs_types.specs.Forms.{body, by_body, head, up, is_among}
use Rattle.pvs_types.specs.Coerce.{lift_one, application, first_part, second_part, Coercion, same_type, coerce_pair, coerce_domains, coerce_function, coerce_to, coerce_by, coerce}
use Rattle.pvs_types.proofs.ProperTermLaws.{proper_is_term}
use Rattle.pvs_types.proofs.SizeLaws.{type_size-lift, type_size-put_in}
use Rattle.pvs_types.proofs.FormsLaws.{body_is, head_size}
use Rattle.pvs_types.proofs.OutcomeLaws.{within_cases}
use Rattle.pvs_types.proofs.CoerceSound.{first_term, second_term, application_term}
use Rattle.pvs_types.proofs.CoerceLaws.{coerce_rule}
use Rattle.pvs_soundness.specs.Local.{AgreesWith, IsClosedSet}
use Rattle.pvs_soundness.proofs.LocalForms.{SameIn, each_lift, each_put_in, body_same, head_in, up_in}

-- Equal steps, and equal outcomes after them.

pub then_equal : {A B : Type 0} (o u : Outcome A) (f g : A → Outcome B) → o ≡ u → ((a : A) → f a ≡ g a) → (o >>= f) ≡ (u >>= g)
then_equal {A} {B} o u f g e h = ap (λ x. x >>= f) e ∙ go u
  where
    go : (x : Outcome A) → (x >>= f) ≡ (x >>= g)
    go (Refused c) = refl
    go (Accepted a cs rs) = ap (outcome_after cs rs) (h a)

pub within_equal : {B : Type 0} (t : Tree) (f g : Tree → Outcome B) → f t ≡ g t → (within_limits t >>= f) ≡ (within_limits t >>= g)
within_equal t f g h = within_cases (λ o. (o >>= f) ≡ (o >>= g)) t (ap (outcome_after [] []) h) refl

-- a form that is the same in both, with what its answer has
pub form_equal : {A B : Type 0} (Q : A → Type 0) (x y : Result A Code) (f g : A → Outcome B) → SameIn Q x y → ((a : A) → x ≡ Ok a → Q a → f a ≡ g a)
    → (from_result x >>= f) ≡ (from_result y >>= g)
form_equal {A} {B} Q x y f g h k = go x h.has refl ∙ ap (λ z. from_result z >>= g) h.same
  where
    go : (z : Result A Code) → IfOk z Q → x ≡ z → (from_result z >>= f) ≡ (from_result z >>= g)
    go (Ok a) q e = ap (outcome_after [] []) (k a e q)
    go (Err c) q e = refl

first_each : (V : Vocabulary) (k : ℕ) (t : Tree) → HasArity V k → IsOver V t → IsOver V (first_part k t)
first_each V k (Join (Tuple j) a b) i h = h.0
first_each V k _ i h = (h, i)

second_each : (V : Vocabulary) (k : ℕ) (t : Tree) → HasArity V k → IsOver V t → IsOver V (second_part k t)
second_each V k (Join (Tuple j) a b) i h = h.1
second_each V k _ i h = (h, i)

application_each : (V : Vocabulary) (a t : Tree) → IsOver V t → IsOver V (application a t)
application_each V a (Bind Lambda c b) h = go (tree_eq c a)
  where
    go : (k : Bool) → IsOver V (cond k b (App (lift_one (Lam c b)) (Var 0)))
    go true = h.1
    go false = (each_lift V (Lam c b) 1 0 h, tt, tt)
application_each V a (Bind Subtype c b) h = (each_lift V (Bind Subtype c b) 1 0 h, tt, tt)
application_each V a t h = (each_lift V t 1 0 h, tt, tt)

module _ (V : Vocabulary) (s u : Lookups) (ordered : IsOrdered s) (ordered' : IsOrdered u) (agree : AgreesWith V s u) (closed : IsClosedSet V s) where
  -- two coercions agree on terms between types of less than this size
  abbrev Agree : ℕ → Coercion → Coercion → Type 0
  Agree n f g = (h : Assumptions) (t b a : Tree) → type_size s.rank b + type_size s.rank a < n → IsProperTerm t
      → IsOver V t → IsOver V b → IsOver V a → f h t b a ≡ g h t b a

  name_equal : (f g : Coercion) (n : ℕ) (h : Assumptions) (t b : Tree) (r : Ref) (o : Option Tree) → s.body_of r ≡ o
      → type_size s.rank b + suc (s.rank r) < suc n → Agree n f g → IsProperTerm t → IsOver V t → IsOver V b → HasReference V r → (other other' : Outcome (Unit {0}))
      → other ≡ other' → by_body (f h t b) other o ≡ by_body (g h t b) other' o
  name_equal f g n h t b r None e l k term p q w other other' x = x
  name_equal f g n h t b r (Some c) e l k term p q w other other' x = let z = ordered r c e in k h t b c (omega arith) term p q (closed.bodies r c w e)

  pair_equal : (f g : Coercion) (n : ℕ) (h : Assumptions) (t : Tree) (k : ℕ) (a2 b2 d : Tree)
      → type_size s.rank d + suc (type_size s.rank a2 + type_size s.rank b2) < suc n → Agree n f g → IsProperTerm t
      → IsOver V t → IsOver V d → IsOver V a2 → IsOver V b2 → HasArity V k → coerce_pair f h t k a2 b2 d ≡ coerce_pair g h t k a2 b2 d
  pair_equal f g n h t k a2 b2 (Bind (Product j) a1 b1) l e term p q w z i =
      let one : Tree = first_part k t in
      let two : Tree = second_part k t in
      let one_each = first_each V k t i p in
      let x1 = type_size-put_in s.rank b1 one (proper_is_term one (first_term k t term)) in
      let x2 = type_size-put_in s.rank b2 one (proper_is_term one (first_term k t term)) in
      ap (λ o. cond (eqb j k) o (refuse Mismatch))
      (within_equal one _ _ (then_equal (f h one a1 a2) (g h one a1 a2) _ _ (e h one a1 a2 (omega arith) (first_term k t term) one_each q.0 w) (λ _.
      within_equal two _ _ (within_equal (put_in b1 one) _ _ (within_equal (put_in b2 one) _ _
      (e h two (put_in b1 one) (put_in b2 one) (omega arith) (second_term k t term) (second_each V k t i p) (each_put_in V b1 one q.1 one_each)
      (each_put_in V b2 one z one_each)))))))
  pair_equal f g n h t k a2 b2 _ l e term p q w z i = refl

  domains_equal : (f g : Coercion) (n : ℕ) (h : Assumptions) (a1 a2 : Tree) → type_size s.rank a1 + type_size s.rank a2 < n
      → Agree n f g → IsOver V a1 → IsOver V a2 → coerce_domains f h a1 a2 ≡ coerce_domains g h a1 a2
  domains_equal f g n h a1 a2 l e p q =
      let x1 = type_size-lift s.rank a1 1 0 in
      let x2 = type_size-lift s.rank a2 1 0 in
      let p' = each_lift V a1 1 0 p in
      let q' = each_lift V a2 1 0 q in
      ap (λ o. cond (tree_eq a1 a2) (pure tt) o)
      (within_equal (lift_one a1) _ _ (within_equal (lift_one a2) _ _
      (then_equal (f (Variable a1 ∷ h) (Var 0) (lift_one a1) (lift_one a2)) (g (Variable a1 ∷ h) (Var 0) (lift_one a1) (lift_one a2)) _ _
      (e (Variable a1 ∷ h) (Var 0) (lift_one a1) (lift_one a2) (omega arith) tt tt p' q')
      (λ _. e (Variable a2 ∷ h) (Var 0) (lift_one a2) (lift_one a1) (omega arith) tt tt q' p'))))

  function_equal : (f g : Coercion) (n : ℕ) (h : Assumptions) (t a2 b2 d : Tree)
      → type_size s.rank d + suc (type_size s.rank a2 + type_size s.rank b2) < suc n → Agree n f g → IsProperTerm t
      → IsOver V t → IsOver V d → IsOver V a2 → IsOver V b2 → coerce_function f h t a2 b2 d ≡ coerce_function g h t a2 b2 d
  function_equal f g n h t a2 b2 (Bind Function a1 b1) l e term p q w z =
      let x : Tree = application a1 t in
      then_equal (coerce_domains f h a1 a2) (coerce_domains g h a1 a2) _ _ (domains_equal f g n h a1 a2 (omega arith) e q.0 w) (λ _.
      within_equal x _ _ (e (Variable a1 ∷ h) x b1 b2 (omega arith) (application_term a1 t term) (application_each V a1 t p) q.1 z))
  function_equal f g n h t a2 b2 _ l e term p q w z = refl

  head_form : (b : Tree) → IsOver V b → SameIn (IsOver V) (head s b) (head u b)
  head_form = head_in V s u ordered ordered' agree closed

  head_no_larger : (b d : Tree) → head s b ≡ Ok d → type_size s.rank d ≤ type_size s.rank b
  head_no_larger b d e = subst (λ x. IfOk x (λ d. type_size s.rank d ≤ type_size s.rank b)) e (head_size s ordered b)

  same_head : (b a : Tree) → IsOver V b → (from_result (head s b) >>= (λ d. same_type d a)) ≡ (from_result (head u b) >>= (λ d. same_type d a))
  same_head b a p = form_equal (IsOver V) (head s b) (head u b) _ _ (head_form b p) (λ d e w. refl)

  to_equal : (f g : Coercion) (n : ℕ) (h : Assumptions) (t b a : Tree) → type_size s.rank b + type_size s.rank a < suc n → Agree n f g → IsProperTerm t
      → IsOver V t → IsOver V b → IsOver V a → coerce_to s f h t b a ≡ coerce_to u g h t b a
  to_equal f g n h t b (Leaf o) l k term p q w = same_head b (Leaf o) q
  to_equal f g n h t b (Name OfType r) l k term p q w = form_equal (λ _. Unit {0}) (body s r) (body u r) _ _
      (record { same = body_same V s u ordered ordered' agree closed r w.0; has = anything (body s r) })
      (λ o e _. name_equal f g n h t b r o (body_is s r o e) l k term p q w.0 _ _ (same_head b (TName r) q))
    where
      anything : {A : Type 0} (x : Result A Code) → IfOk x (λ _. Unit {0})
      anything (Ok a) = tt
      anything (Err c) = tt
  to_equal f g n h t b (Bind Subtype a p) l k term x q w = ap (λ o. o >> (within_limits (put_in p t) >>= owe h)) (k h t b a (omega arith) term x q w.0)
  to_equal f g n h t b (Bind (Product j) a2 b2) l k term p q w = form_equal (IsOver V) (head s b) (head u b) _ _ (head_form b q) (λ d e z.
      let y = head_no_larger b d e in pair_equal f g n h t j a2 b2 d (omega arith) k term p z w.0 w.1 w.2)
  to_equal f g n h t b (Bind Function a2 b2) l k term p q w = form_equal (IsOver V) (head s b) (head u b) _ _ (head_form b q) (λ d e z.
      let y = head_no_larger b d e in function_equal f g n h t a2 b2 d (omega arith) k term p z w.0 w.1)
  to_equal f g n h t b _ l k term p q w = refl

  by_equal : (f g : Coercion) (n : ℕ) (h : Assumptions) (t b a : Tree) → type_size s.rank b + type_size s.rank a < suc n → Agree n f g → IsProperTerm t
      → IsOver V t → IsOver V b → IsOver V a → coerce_by s f h t b a ≡ coerce_by u g h t b a
  by_equal f g n h t b a l k term p q w = form_equal _ (up s b) (up u b) _ _ (up_in V s u ordered ordered' agree closed b q)
      (λ us e z. ap (λ o. cond (is_among a us) (pure tt) o) (to_equal f g n h t b a l k term p q w))

  coerce_below : (n : ℕ) → Agree n (coerce s) (coerce u)
  coerce_below zero h t b a l term p q w = absurd (omega arith)
  coerce_below (suc n) h t b a l term p q w =
      coerce_rule s ordered h t b a term ∙ (by_equal (coerce s) (coerce u) n h t b a l (coerce_below n) term p q w ∙ sym (coerce_rule u ordered' h t b a term))

  pub coerce_equal : (h : Assumptions) (t b a : Tree) → IsProperTerm t → IsOver V t → IsOver V b → IsOver V a → coerce s h t b a ≡ coerce u h t b a
  coerce_equal h t b a = coerce_below (suc (type_size s.rank b + type_size s.rank a)) h t b a (omega arith)
