-- What coercion accepts passes from the one type to the other.
use Rattle.std.proofs.Common.{◌≡◌, ℕ, Bool, true, false, cond, eqb, List, ◌∷◌, Option, Some, None, refl, ap, ◌∙◌, sym, subst}
use Rattle.pvs_base.specs.declared.code.Code.TheVariants.{Mismatch}
use Rattle.pvs_terms.specs.Tree.{Tree, Leaf, Var, Name, Bind, Join, Ref, TName, TSub, TFun, TPair, Lam, App, tree_eq}
use Rattle.pvs_terms.specs.declared.shape.Sort.TheVariants.{OfType}
use Rattle.pvs_terms.specs.declared.shape.Binder.TheVariants.{Subtype, Function, Product, Lambda}
use Rattle.pvs_terms.specs.declared.shape.Joint.TheVariants.{Tuple}
use Rattle.pvs_terms.proofs.TreeLaws.{tree_eq-true}
use Rattle.pvs_subst.specs.Replace.{put_in}
use Rattle.pvs_subst.specs.Contexts.{Assumptions, Variable}
use Rattle.pvs_sem.specs.Value.{Value, IsMember, IsAscending, is_true, result_at, first_of_pair, second_of_pair, tables, pairs}
use Rattle.pvs_sem.specs.Meaning.{Model, Env, env_with, mean}
use Rattle.pvs_sem.proofs.SetLaws.{subset_member, result_in, result_at-table}
use Rattle.pvs_sem.proofs.PairLaws.{member_pairs, pairs_member}
use Rattle.pvs_sem.proofs.TableLaws.{tables_by_results}
use Rattle.pvs_sem.proofs.OrderLaws.{same_sets}
use Rattle.pvs_sem.proofs.AscendingLaws.{ascending_mean}
use Rattle.pvs_sem.proofs.MeaningLaws.{mean-put_in, mean-next}
use Rattle.pvs_types.specs.ProperTerms.{IsProperTerm}
use Rattle.pvs_sig.specs.Lookups.{Lookups}
use Rattle.pvs_types.specs.Outcome.{Condition, Outcome, ◌>>=◌, ◌>>◌, pure, refuse, owe, from_result, within_limits}
use Rattle.pvs_types.specs.Forms.{body, by_body, head, up, is_among}
use Rattle.pvs_types.specs.Coerce.{lift_one, application, first_part, second_part, Coercion, same_type, coerce_parts, coerce_pair, coerce_domains, coerce_function, coerce_to, coerce_by, both_sizes, as_coercion, coerce_step, coerce}
use Rattle.pvs_types.specs.Soundness.{IsSatisfaction, IsTrueCondition, IsValued, Provides, IsModelOf, Converts}
use Rattle.pvs_types.proofs.OutcomeLaws.{provides_then, provides_weaker, provides_if, provides_result, provides_within}
use Rattle.pvs_types.proofs.ProperTermLaws.{proper_is_term}
use Rattle.pvs_types.proofs.BySizeLaws.{by_size_has}
use Rattle.pvs_types.proofs.FormsLaws.{body_is}
use Rattle.pvs_types.proofs.FormsSound.{LiesIn, head_lies_in, up_lies_in}

pub move : {v w : Value} {xs ys : List Value} → v ≡ w → xs ≡ ys → IsMember v xs → IsMember w ys
move {v} {w} {xs} {ys} p q h = subst (λ x. IsMember x ys) p (subst (λ zs. IsMember v zs) q h)

first_value : (m : Model) (k : ℕ) (t : Tree) (e : Env) → (mean m (first_part k t) e).value ≡ first_of_pair (mean m t e).value
first_value m k (Join (Tuple j) a b) e = refl
first_value m k _ e = refl

second_value : (m : Model) (k : ℕ) (t : Tree) (e : Env) → (mean m (second_part k t) e).value ≡ second_of_pair (mean m t e).value
second_value m k (Join (Tuple j) a b) e = refl
second_value m k _ e = refl

pub first_term : (k : ℕ) (t : Tree) → IsProperTerm t → IsProperTerm (first_part k t)
first_term k (Join (Tuple j) a b) h = h.0
first_term k _ h = tt

pub second_term : (k : ℕ) (t : Tree) → IsProperTerm t → IsProperTerm (second_part k t)
second_term k (Join (Tuple j) a b) h = h.1
second_term k _ h = tt

app_value : (m : Model) (t : Tree) (e : Env) (w : Value)
    → (mean m (App (lift_one t) (Var 0)) (env_with w e)).value ≡ result_at (mean m t e).value w
app_value m t e w = ap (λ x. result_at x.value w) (mean-next m t (env_with w e))

-- the value of a function's application to a variable, and that it is a term
application_value : (m : Model) (a t : Tree) (e : Env) (w : Value) → IsMember w (mean m a e).set
    → (mean m (application a t) (env_with w e)).value ≡ result_at (mean m t e).value w
application_value m a (Bind Lambda c b) e w q = go (tree_eq c a) refl
  where
    go : (k : Bool) → tree_eq c a ≡ k
        → (mean m (cond k b (App (lift_one (Lam c b)) (Var 0))) (env_with w e)).value ≡ result_at (mean m (Lam c b) e).value w
    go true x = sym (result_at-table (λ v. (mean m b (env_with v e)).value) w (mean m c e).set
        (subst (λ y. IsMember w (mean m y e).set) (sym (tree_eq-true c a x)) q))
    go false x = app_value m (Lam c b) e w
application_value m a (Bind Subtype c b) e w q = app_value m (Bind Subtype c b) e w
application_value m a t e w q = app_value m t e w

pub application_term : (a t : Tree) → IsProperTerm t → IsProperTerm (application a t)
application_term a (Bind Lambda c b) h = go (tree_eq c a)
  where
    go : (k : Bool) → IsProperTerm (cond k b (App (lift_one (Lam c b)) (Var 0)))
    go true = h
    go false = tt
application_term a (Bind Subtype c b) h = tt
application_term a t h = tt

module _ (m : Model) (s : Lookups) (fits : IsModelOf m s) (Sat : Assumptions → Env → Type 0) (counts : IsSatisfaction m Sat) where
  abbrev Holds : Condition → Type 0
  Holds = IsTrueCondition m Sat

  abbrev Valued : Ref → Type 0
  Valued = IsValued m s

  abbrev ascending : (t : Tree) (e : Env) → IsAscending (mean m t e).set
  ascending t e = ascending_mean m fits.sets t e

  into_function : (a b c : Tree) (f : Value) (e : Env) → IsMember f (mean m (TFun a b) e).set
      → ((w : Value) → IsMember w (mean m a e).set → IsMember (result_at f w) (mean m b (env_with w e)).set
      → IsMember (result_at f w) (mean m c (env_with w e)).set) → IsMember f (mean m (TFun a c) e).set
  into_function a b c f e h k =
      tables_by_results (λ w. (mean m b (env_with w e)).set) (λ w. (mean m c (env_with w e)).set) f (mean m a e).set (ascending a e) h
      (λ w q. k w q (result_in (λ w. (mean m b (env_with w e)).set) f w (mean m a e).set h q).in_set)

  -- what is accepted converts
  abbrev Accepts : Assumptions → Tree → Tree → Tree → Outcome (Unit {0}) → Type 0
  Accepts g t b a o = Provides (IsTrueCondition m Sat) (IsValued m s) (λ _. Converts m Sat g t b a) o

  abbrev IsSound : Coercion → Type 0
  IsSound go = (g : Assumptions) (t b a : Tree) → IsProperTerm t → Accepts g t b a (go g t b a)

  same_sound : (g : Assumptions) (t b d a : Tree) → LiesIn m s fits b d → Accepts g t b a (same_type d a)
  same_sound g t b d a w = provides_if Holds Valued (λ _. Converts m Sat g t b a) (tree_eq d a) (pure tt) (refuse Mismatch)
      (λ h. λ _ _ e sat q. subst (λ y. IsMember (mean m t e).value (mean m y e).set) (tree_eq-true d a h) (w e (mean m t e).value q))
      (λ h. tt)

  head_same_sound : (g : Assumptions) (t b a : Tree) → Accepts g t b a (from_result (head s b) >>= (λ d. same_type d a))
  head_same_sound g t b a = provides_result Holds Valued (λ _. Converts m Sat g t b a) (head s b) (λ d. same_type d a)
      (λ d h. same_sound g t b d a (head_lies_in m s fits b d h))

  name_sound : (go : Coercion) → IsSound go → (g : Assumptions) (t b : Tree) (r : Ref) → IsProperTerm t
      → Accepts g t b (TName r) (from_result (body s r) >>= by_body (go g t b) (from_result (head s b) >>= (λ d. same_type d (TName r))))
  name_sound go ih g t b r k = provides_result Holds Valued (λ _. Converts m Sat g t b (TName r)) (body s r) _
      (λ o h. at o (body_is s r o h))
    where
      at : (o : Option Tree) → s.body_of r ≡ o
          → Accepts g t b (TName r) (by_body (go g t b) (from_result (head s b) >>= (λ d. same_type d (TName r))) o)
      at None h = head_same_sound g t b (TName r)
      at (Some u) h = provides_weaker Holds Valued (λ _. Converts m Sat g t b u) (λ _. Converts m Sat g t b (TName r)) (go g t b u)
          (ih g t b u k)
          (λ _ pass e sat q. subst (λ xs. IsMember (mean m t e).value xs) (sym (fits.definitions r u e h)) (pass e sat q))

  sub_sound : (go : Coercion) → IsSound go → (g : Assumptions) (t b a p : Tree) → IsProperTerm t
      → Accepts g t b (TSub a p) (go g t b a >> (within_limits (put_in p t) >>= owe g))
  sub_sound go ih g t b a p k = provides_then Holds Valued (λ _. Converts m Sat g t b a) (λ _. Converts m Sat g t b (TSub a p)) (go g t b a)
      (λ _. within_limits (put_in p t) >>= owe g) (ih g t b a k) (λ _ pass.
      provides_within Holds Valued (λ _. Converts m Sat g t b (TSub a p)) (put_in p t) (owe g)
      (λ all _ e sat q. subset_member (λ w. is_true (mean m p (env_with w e)).value) (mean m t e).value (mean m a e).set (pass e sat q)
      (ap (λ x. is_true x.value) (sym (mean-put_in m p t e (proper_is_term t k))) ∙ ap is_true (all.0 e sat))))

  pair_converts : (g : Assumptions) (t b : Tree) (j k : ℕ) (a1 b1 a2 b2 : Tree) → LiesIn m s fits b (TPair j a1 b1) → IsProperTerm t
      → Converts m Sat g (first_part k t) a1 a2
      → Converts m Sat g (second_part k t) (put_in b1 (first_part k t)) (put_in b2 (first_part k t)) → Converts m Sat g t b (TPair k a2 b2)
  pair_converts g t b j k a1 b1 a2 b2 w term p1 p2 e sat q =
      let f : Tree = first_part k t in
      let set2 = λ (v : Value). (mean m b2 (env_with v e)).set in
      let r = member_pairs (λ v. (mean m b1 (env_with v e)).set) (mean m t e).value (mean m a1 e).set (w e (mean m t e).value q) in
      let fe : (mean m f e).value ≡ r.first = first_value m k t e ∙ ap first_of_pair r.is in
      let se : (mean m (second_part k t) e).value ≡ r.second = second_value m k t e ∙ ap second_of_pair r.is in
      let at : (c : Tree) → (mean m (put_in c f) e).set ≡ (mean m c (env_with r.first e)).set = λ c. ap (λ x. x.set)
      (mean-put_in m c f e (proper_is_term f (first_term k t term))) ∙ ap (λ v. (mean m c (env_with v e)).set) fe in
      let one : IsMember r.first (mean m a2 e).set = subst (λ v. IsMember v (mean m a2 e).set) fe
      (p1 e sat (subst (λ v. IsMember v (mean m a1 e).set) (sym fe) r.first_in)) in
      let two : IsMember r.second (mean m b2 (env_with r.first e)).set = move se (at b2)
      (p2 e sat (move (sym se) (sym (at b1)) r.second_in)) in
      subst (λ v. IsMember v (pairs (mean m a2 e).set set2)) (sym r.is) (pairs_member set2 r.first r.second (mean m a2 e).set one two)

  parts_sound : (go : Coercion) → IsSound go → (g : Assumptions) (t b : Tree) (j k : ℕ) (a1 b1 a2 b2 : Tree)
      → LiesIn m s fits b (TPair j a1 b1) → IsProperTerm t → Accepts g t b (TPair k a2 b2) (coerce_parts go g t k a1 b1 a2 b2)
  parts_sound go ih g t b j k a1 b1 a2 b2 w term =
      let f : Tree = first_part k t in
      let x : Tree = second_part k t in
      let last = provides_weaker Holds Valued (λ _. Converts m Sat g x (put_in b1 f) (put_in b2 f))
      (λ _. Converts m Sat g t b (TPair k a2 b2))
      (go g x (put_in b1 f) (put_in b2 f)) (ih g x (put_in b1 f) (put_in b2 f) (second_term k t term)) in
      provides_within Holds Valued (λ _. Converts m Sat g t b (TPair k a2 b2)) f _ (
      provides_then Holds Valued (λ _. Converts m Sat g f a1 a2) (λ _. Converts m Sat g t b (TPair k a2 b2)) (go g f a1 a2) _
      (ih g f a1 a2 (first_term k t term)) (λ _ p1.
      provides_within Holds Valued (λ _. Converts m Sat g t b (TPair k a2 b2)) x _ (
      provides_within Holds Valued (λ _. Converts m Sat g t b (TPair k a2 b2)) (put_in b1 f) _ (
      provides_within Holds Valued (λ _. Converts m Sat g t b (TPair k a2 b2)) (put_in b2 f) _ (
      last (λ _ p2. pair_converts g t b j k a1 b1 a2 b2 w term p1 p2))))))

  pair_sound : (go : Coercion) → IsSound go → (g : Assumptions) (t b : Tree) (k : ℕ) (a2 b2 d : Tree) → LiesIn m s fits b d → IsProperTerm t
      → Accepts g t b (TPair k a2 b2) (coerce_pair go g t k a2 b2 d)
  pair_sound go ih g t b k a2 b2 (Bind (Product j) a1 b1) w term =
      provides_if Holds Valued (λ _. Converts m Sat g t b (TPair k a2 b2)) (eqb j k) (coerce_parts go g t k a1 b1 a2 b2) (refuse Mismatch)
      (λ _. parts_sound go ih g t b j k a1 b1 a2 b2 w term) (λ _. tt)
  pair_sound go ih g t b k a2 b2 _ w term = tt

  -- the sets are equal
  abbrev AreSame : Assumptions → Tree → Tree → Type 0
  AreSame g a1 a2 = (e : Env) → Sat g e → (mean m a1 e).set ≡ (mean m a2 e).set

  -- each member of the first set is one of the second
  abbrev Enters : Assumptions → Tree → Tree → Type 0
  Enters g a1 a2 = (e : Env) → Sat g e → (w : Value) → IsMember w (mean m a1 e).set → IsMember w (mean m a2 e).set

  enters : (go : Coercion) → IsSound go → (g : Assumptions) (a1 a2 : Tree)
      → Provides (IsTrueCondition m Sat) (IsValued m s) (λ _. Enters g a1 a2) (go (Variable a1 ∷ g) (Var 0) (lift_one a1) (lift_one a2))
  enters go ih g a1 a2 = provides_weaker Holds Valued (λ _. Converts m Sat (Variable a1 ∷ g) (Var 0) (lift_one a1) (lift_one a2))
      (λ _. Enters g a1 a2) (go (Variable a1 ∷ g) (Var 0) (lift_one a1) (lift_one a2))
      (ih (Variable a1 ∷ g) (Var 0) (lift_one a1) (lift_one a2) tt)
      (λ _ pass e sat w q. subst (λ x. IsMember w x.set) (mean-next m a2 (env_with w e))
      (pass (env_with w e) (counts.under_variable a1 g (env_with w e) q sat)
      (subst (λ x. IsMember w x.set) (sym (mean-next m a1 (env_with w e))) q)))

  domains_sound : (go : Coercion) → IsSound go → (g : Assumptions) (a1 a2 : Tree)
      → Provides (IsTrueCondition m Sat) (IsValued m s) (λ _. AreSame g a1 a2) (coerce_domains go g a1 a2)
  domains_sound go ih g a1 a2 =
      provides_if Holds Valued (λ _. AreSame g a1 a2) (tree_eq a1 a2) (pure tt) _
      (λ h. λ _ _ e sat. ap (λ y. (mean m y e).set) (tree_eq-true a1 a2 h))
      (λ _. provides_within Holds Valued (λ _. AreSame g a1 a2) (lift_one a1) _ (
      provides_within Holds Valued (λ _. AreSame g a1 a2) (lift_one a2) _ (
      provides_then Holds Valued (λ _. Enters g a1 a2) (λ _. AreSame g a1 a2) (go (Variable a1 ∷ g) (Var 0) (lift_one a1) (lift_one a2)) _
      (enters go ih g a1 a2) (λ _ there.
      provides_weaker Holds Valued (λ _. Enters g a2 a1) (λ _. AreSame g a1 a2) (go (Variable a2 ∷ g) (Var 0) (lift_one a2) (lift_one a1))
      (enters go ih g a2 a1)
      (λ _ back e sat. same_sets (mean m a1 e).set (mean m a2 e).set (ascending a1 e) (ascending a2 e) (there e sat) (back e sat))))))

  function_converts : (g : Assumptions) (t b a1 b1 a2 b2 : Tree) → LiesIn m s fits b (TFun a1 b1) → AreSame g a1 a2
      → Converts m Sat (Variable a1 ∷ g) (application a1 t) b1 b2 → Converts m Sat g t b (TFun a2 b2)
  function_converts g t b a1 b1 a2 b2 w same pass e sat q =
      let f : Value = (mean m t e).value in
      subst (λ xs. IsMember f (tables xs (λ w. (mean m b2 (env_with w e)).set))) (same e sat)
      (into_function a1 b1 b2 f e (w e f q) (λ w q r.
      subst (λ v. IsMember v (mean m b2 (env_with w e)).set) (application_value m a1 t e w q)
      (pass (env_with w e) (counts.under_variable a1 g (env_with w e) q sat)
      (subst (λ v. IsMember v (mean m b1 (env_with w e)).set) (sym (application_value m a1 t e w q)) r))))

  function_sound : (go : Coercion) → IsSound go → (g : Assumptions) (t b a2 b2 d : Tree) → LiesIn m s fits b d → IsProperTerm t
      → Accepts g t b (TFun a2 b2) (coerce_function go g t a2 b2 d)
  function_sound go ih g t b a2 b2 (Bind Function a1 b1) w term =
      let x : Tree = application a1 t in
      provides_then Holds Valued (λ _. AreSame g a1 a2) (λ _. Converts m Sat g t b (TFun a2 b2)) (coerce_domains go g a1 a2) _
      (domains_sound go ih g a1 a2) (λ _ same.
      provides_within Holds Valued (λ _. Converts m Sat g t b (TFun a2 b2)) x _ (
      provides_weaker Holds Valued (λ _. Converts m Sat (Variable a1 ∷ g) x b1 b2) (λ _. Converts m Sat g t b (TFun a2 b2))
      (go (Variable a1 ∷ g) x b1 b2) (ih (Variable a1 ∷ g) x b1 b2 (application_term a1 t term))
      (λ _ pass. function_converts g t b a1 b1 a2 b2 w same pass)))
  function_sound go ih g t b a2 b2 _ w term = tt

  to_sound : (go : Coercion) → IsSound go → (g : Assumptions) (t b a : Tree) → IsProperTerm t → Accepts g t b a (coerce_to s go g t b a)
  to_sound go ih g t b (Leaf o) k = head_same_sound g t b (Leaf o)
  to_sound go ih g t b (Name OfType r) k = name_sound go ih g t b r k
  to_sound go ih g t b (Bind Subtype a p) k = sub_sound go ih g t b a p k
  to_sound go ih g t b (Bind (Product j) a2 b2) k = provides_result Holds Valued (λ _. Converts m Sat g t b (TPair j a2 b2)) (head s b)
      (coerce_pair go g t j a2 b2)
      (λ d h. pair_sound go ih g t b j a2 b2 d (head_lies_in m s fits b d h) k)
  to_sound go ih g t b (Bind Function a2 b2) k = provides_result Holds Valued (λ _. Converts m Sat g t b (TFun a2 b2)) (head s b)
      (coerce_function go g t a2 b2)
      (λ d h. function_sound go ih g t b a2 b2 d (head_lies_in m s fits b d h) k)
  to_sound go ih g t b _ k = tt

  by_sound : (go : Coercion) → IsSound go → IsSound (coerce_by s go)
  by_sound go ih g t b a k = provides_result Holds Valued (λ _. Converts m Sat g t b a) (up s b)
      (λ us. cond (is_among a us) (pure tt) (coerce_to s go g t b a)) (λ us h.
      provides_if Holds Valued (λ _. Converts m Sat g t b a) (is_among a us) (pure tt) (coerce_to s go g t b a)
      (λ i. λ _ _ e sat q. up_lies_in m s fits b a us h i e (mean m t e).value q)
      (λ _. to_sound go ih g t b a k))

  pub coerce_sound : IsSound (coerce s)
  unfolding coerce
  coerce_sound g t b a k = by_size_has (both_sizes s) (coerce_step s) (λ x g t. refuse Mismatch)
      (λ x y. (g : Assumptions) (t : Tree) → IsProperTerm t → Accepts g t x.0 x.1 (y g t))
      (λ x g t k. tt) (λ go ih x g t k. by_sound (as_coercion go) (λ g t b a k. ih (b, a) g t k) g t x.0 x.1 k) (b, a) g t k
