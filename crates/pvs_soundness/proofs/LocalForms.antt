-- Forms of types over look-ups that agree.
use Rattle.std.proofs.Common.{◌≡◌, ℕ, zero, suc, ◌<◌, Bool, true, false, cond, List, [], ◌∷◌, Option, Some, None, Result, Ok, Err, refl, ap, sym, subst, arith}
use Rattle.std.specs.Prelude.{IfOk}
use Rattle.pvs_base.specs.Answers.{◌>>=◌}
use Rattle.pvs_base.specs.declared.code.Code.{Code}
use Rattle.pvs_base.specs.declared.code.Code.TheVariants.{TooLarge}
use Rattle.pvs_terms.specs.Tree.{Tree, Leaf, Var, Name, Bind, Join, Project, If, Ref, TName, TSub, TFun, TPair}
use Rattle.pvs_terms.specs.declared.shape.Plain.TheVariants.{BoolType}
use Rattle.pvs_terms.specs.declared.shape.Sort.TheVariants.{OfType}
use Rattle.pvs_terms.specs.declared.shape.Binder.TheVariants.{Subtype, Function, Product}
use Rattle.pvs_subst.specs.Replace.{lift, put_var, put_at, put_in}
use Rattle.pvs_sig.specs.Lookups.{Lookups, type_size, IsOrdered}
use Rattle.pvs_soundness.specs.Vocabulary.{Vocabulary, HasReference, HasArity, IsOver}
use Rattle.pvs_types.specs.Forms.{small_tree, small_body, body, by_body, head_by, up_by, mentions, most_pair, most_by, nonempty_by, head, up, most, is_known_nonempty}
use Rattle.pvs_types.proofs.FormsLaws.{small_cases, body_cases, head_step, up_step, most_step, nonempty_step}
use Rattle.pvs_soundness.specs.Local.{AgreesWith, IsClosedSet}

-- Vocabularies of trees that are lifted, and where a term is put in.

pub each_lift : (V : Vocabulary) (t : Tree) (by from : ℕ) → IsOver V t → IsOver V (lift t by from)
each_lift V (Leaf o) by from h = tt
each_lift V (Var n) by from h = tt
each_lift V (Name o r) by from h = h
each_lift V (Bind o a b) by from h = (each_lift V a by from h.0, each_lift V b by (suc from) h.1, h.2)
each_lift V (Join o a b) by from h = (each_lift V a by from h.0, each_lift V b by from h.1, h.2)
each_lift V (Project o a) by from h = (each_lift V a by from h.0, h.1)
each_lift V (If a b c) by from h = (each_lift V a by from h.0, each_lift V b by from h.1, each_lift V c by from h.2)

each_put_var : (V : Vocabulary) (arg : Tree) (at n : ℕ) → IsOver V arg → IsOver V (put_var arg at n)
each_put_var V arg zero zero h = h
each_put_var V arg zero (suc n) h = tt
each_put_var V arg (suc at) zero h = tt
each_put_var V arg (suc at) (suc n) h = each_lift V (put_var arg at n) 1 0 (each_put_var V arg at n h)

each_put_at : (V : Vocabulary) (t arg : Tree) (at : ℕ) → IsOver V t → IsOver V arg → IsOver V (put_at t arg at)
each_put_at V (Leaf o) arg at h k = tt
each_put_at V (Var n) arg at h k = each_put_var V arg at n k
each_put_at V (Name o r) arg at h k = h
each_put_at V (Bind o a b) arg at h k = (each_put_at V a arg at h.0 k, each_put_at V b arg (suc at) h.1 k, h.2)
each_put_at V (Join o a b) arg at h k = (each_put_at V a arg at h.0 k, each_put_at V b arg at h.1 k, h.2)
each_put_at V (Project o a) arg at h k = (each_put_at V a arg at h.0 k, h.1)
each_put_at V (If a b c) arg at h k = (each_put_at V a arg at h.0 k, each_put_at V b arg at h.1 k, each_put_at V c arg at h.2 k)

pub each_put_in : (V : Vocabulary) (t arg : Tree) → IsOver V t → IsOver V arg → IsOver V (put_in t arg)
each_put_in V t arg h k = each_put_at V t arg 0 h k

-- The same answer, and what is answered has the property.
pub record SameIn {A : Type 0} (Q : A → Type 0) (x y : Result A Code) : Type 0 where
  pub same : x ≡ y
  pub has : IfOk x Q

pub ok_in : {A : Type 0} (Q : A → Type 0) (a : A) → Q a → SameIn Q (Ok a) (Ok a)
ok_in Q a h = record { same = refl; has = h }

pub err_in : {A : Type 0} (Q : A → Type 0) (c : Code) → SameIn Q (Err c) (Err c)
err_in Q c = record { same = refl; has = tt }

pub then_in : {A B : Type 0} (Q : A → Type 0) (R : B → Type 0) (x y : Result A Code) (f g : A → Result B Code) → SameIn Q x y
    → ((a : A) → Q a → SameIn R (f a) (g a)) → SameIn R (x >>= f) (y >>= g)
then_in {A} {B} Q R x y f g h k = subst (λ z. SameIn R (x >>= f) (z >>= g)) h.same (go x h.has)
  where
    go : (z : Result A Code) → IfOk z Q → SameIn R (z >>= f) (z >>= g)
    go (Ok a) q = k a q
    go (Err c) q = err_in R c

small_in : (V : Vocabulary) (t : Tree) → IsOver V t → SameIn (IsOver V) (small_tree t) (small_tree t)
small_in V t h = small_cases (λ x. SameIn (IsOver V) x x) t (ok_in (IsOver V) t h) (err_in (IsOver V) TooLarge)

abbrev pub EachTree : Vocabulary → List Tree → Type 0
EachTree V [] = Unit {0}
EachTree V (t ∷ ts) = IsOver V t × EachTree V ts

abbrev pub EachBody : Vocabulary → Option Tree → Type 0
EachBody V None = Unit {0}
EachBody V (Some t) = IsOver V t

abbrev pub Anything : {A : Type 0} → A → Type 0
Anything a = Unit {0}

module _ (V : Vocabulary) (s u : Lookups) (ordered : IsOrdered s) (ordered' : IsOrdered u) (agree : AgreesWith V s u) (closed : IsClosedSet V s) where
  -- a body that is defined is smaller, and over V
  abbrev Smaller : Ref → Option Tree → Type 0
  Smaller r None = Unit {0}
  Smaller r (Some t) = (type_size s.rank t < suc (s.rank r)) × IsOver V t

  body_in : (r : Ref) → HasReference V r → SameIn (Smaller r) (body s r) (body u r)
  body_in r p = record {
    same = ap small_body (agree.bodies r p);
    has = body_cases (λ x. IfOk x (Smaller r)) s r (λ e. tt) (λ t e. (ordered r t e, closed.bodies r t p e)) tt;
  }

  pub body_same : (r : Ref) → HasReference V r → body s r ≡ body u r
  body_same r p = (body_in r p).same

  -- what holds of the forms of all smaller types
  abbrev Below : {A : Type 0} → (A → Type 0) → ℕ → (Tree → Result A Code) → (Tree → Result A Code) → Type 0
  Below Q n f g = (t : Tree) → type_size s.rank t < n → IsOver V t → SameIn Q (f t) (g t)

  by_body_in : {A : Type 0} (Q : A → Type 0) (f g : Tree → Result A Code) (other other' : Result A Code) (r : Ref) (n : ℕ) → suc (s.rank r) < suc n
      → Below Q n f g → SameIn Q other other' → (o : Option Tree) → Smaller r o → SameIn Q (by_body f other o) (by_body g other' o)
  by_body_in Q f g other other' r n l h k None q = k
  by_body_in Q f g other other' r n l h k (Some t) q = h t (omega arith) q.1

  head_by_in : (f g : Tree → Result Tree Code) (n : ℕ) → Below (IsOver V) n f g → (t : Tree) → type_size s.rank t < suc n → IsOver V t
      → SameIn (IsOver V) (head_by s f t) (head_by u g t)
  head_by_in f g n h (Name OfType r) l p = then_in (Smaller r) (IsOver V) (body s r) (body u r) _ _ (body_in r p.0)
      (λ o q. by_body_in (IsOver V) f g (Ok (TName r)) (Ok (TName r)) r n l h (ok_in (IsOver V) (TName r) p) o q)
  head_by_in f g n h (Bind Subtype a b) l p = h a (omega arith) p.0
  head_by_in f g n h t l p = ok_in (IsOver V) t p

  head_below : (n : ℕ) → Below (IsOver V) n (head s) (head u)
  head_below zero t l p = absurd (omega arith)
  head_below (suc n) t l p = subst (λ x. SameIn (IsOver V) x (head u t)) (sym (head_step s ordered t))
      (subst (λ y. SameIn (IsOver V) (head_by s (head s) t) y) (sym (head_step u ordered' t)) (head_by_in (head s) (head u) n (head_below n) t l p))

  pub head_in : (t : Tree) → IsOver V t → SameIn (IsOver V) (head s t) (head u t)
  head_in t p = head_below (suc (type_size s.rank t)) t (omega arith) p

  up_by_in : (f g : Tree → Result (List Tree) Code) (n : ℕ) → Below (EachTree V) n f g → (t : Tree) → type_size s.rank t < suc n → IsOver V t
      → SameIn (EachTree V) (up_by s f t) (up_by u g t)
  up_by_in f g n h (Name OfType r) l p = then_in (Smaller r) (EachTree V) (body s r) (body u r) _ _ (body_in r p.0)
      (λ o q. then_in (EachTree V) (EachTree V) (by_body f (Ok []) o) (by_body g (Ok []) o) _ _
      (by_body_in (EachTree V) f g (Ok []) (Ok []) r n l h (ok_in (EachTree V) [] tt) o q) (λ ts w. ok_in (EachTree V) (TName r ∷ ts) (p, w)))
  up_by_in f g n h (Bind Subtype a b) l p = then_in (EachTree V) (EachTree V) (f a) (g a) _ _ (h a (omega arith) p.0)
      (λ ts w. ok_in (EachTree V) (TSub a b ∷ ts) (p, w))
  up_by_in f g n h t l p = ok_in (EachTree V) (t ∷ []) (p, tt)

  up_below : (n : ℕ) → Below (EachTree V) n (up s) (up u)
  up_below zero t l p = absurd (omega arith)
  up_below (suc n) t l p = subst (λ x. SameIn (EachTree V) x (up u t)) (sym (up_step s ordered t))
      (subst (λ y. SameIn (EachTree V) (up_by s (up s) t) y) (sym (up_step u ordered' t)) (up_by_in (up s) (up u) n (up_below n) t l p))

  pub up_in : (t : Tree) → IsOver V t → SameIn (EachTree V) (up s t) (up u t)
  up_in t p = up_below (suc (type_size s.rank t)) t (omega arith) p

  most_pair_in : (f g : Tree → Result Tree Code) (k : ℕ) (a b : Tree) → SameIn (IsOver V) (f a) (g a) → IsOver V a → IsOver V b → HasArity V k
      → SameIn (IsOver V) (most_pair f k a b) (most_pair g k a b)
  most_pair_in f g k a b h p q i = choose (mentions 0 b)
    where
      choose : (c : Bool) → SameIn (IsOver V) (cond c (small_tree (TPair k a b)) (f a >>= (λ d. small_tree (TPair k d b))))
          (cond c (small_tree (TPair k a b)) (g a >>= (λ d. small_tree (TPair k d b))))
      choose true = small_in V (TPair k a b) (p, q, i)
      choose false = then_in (IsOver V) (IsOver V) (f a) (g a) _ _ h (λ d w. small_in V (TPair k d b) (w, q, i))

  most_by_in : (f g : Tree → Result Tree Code) (n : ℕ) → Below (IsOver V) n f g → (t : Tree) → type_size s.rank t < suc n → IsOver V t
      → SameIn (IsOver V) (most_by s f t) (most_by u g t)
  most_by_in f g n h (Name OfType r) l p = then_in (Smaller r) (IsOver V) (body s r) (body u r) _ _ (body_in r p.0)
      (λ o q. by_body_in (IsOver V) f g (Ok (TName r)) (Ok (TName r)) r n l h (ok_in (IsOver V) (TName r) p) o q)
  most_by_in f g n h (Bind Subtype a b) l p = h a (omega arith) p.0
  most_by_in f g n h (Bind Function a b) l p = then_in (IsOver V) (IsOver V) (f b) (g b) _ _ (h b (omega arith) p.1)
      (λ c w. small_in V (TFun a c) (p.0, w, tt))
  most_by_in f g n h (Bind (Product k) a b) l p = then_in (IsOver V) (IsOver V) (f b) (g b) _ _ (h b (omega arith) p.1)
      (λ c w. most_pair_in f g k a c (h a (omega arith) p.0) p.0 w p.2)
  most_by_in f g n h t l p = ok_in (IsOver V) t p

  most_below : (n : ℕ) → Below (IsOver V) n (most s) (most u)
  most_below zero t l p = absurd (omega arith)
  most_below (suc n) t l p = subst (λ x. SameIn (IsOver V) x (most u t)) (sym (most_step s ordered t))
      (subst (λ y. SameIn (IsOver V) (most_by s (most s) t) y) (sym (most_step u ordered' t)) (most_by_in (most s) (most u) n (most_below n) t l p))

  pub most_in : (t : Tree) → IsOver V t → SameIn (IsOver V) (most s t) (most u t)
  most_in t p = most_below (suc (type_size s.rank t)) t (omega arith) p

  pair_nonempty : (f g : Tree → Result Bool Code) (b : Tree) → SameIn Anything (f b) (g b) → (c : Bool)
      → SameIn Anything (cond c (f b) (Ok false)) (cond c (g b) (Ok false))
  pair_nonempty f g b h true = h
  pair_nonempty f g b h false = ok_in Anything false tt

  nonempty_by_in : (f g : Tree → Result Bool Code) (n : ℕ) → Below Anything n f g → (t : Tree) → type_size s.rank t < suc n → IsOver V t
      → SameIn Anything (nonempty_by s f t) (nonempty_by u g t)
  nonempty_by_in f g n h (Leaf BoolType) l p = ok_in Anything true tt
  nonempty_by_in f g n h (Name OfType r) l p = then_in (Smaller r) Anything (body s r) (body u r) _ _ (body_in r p.0)
      (λ o q. by_body_in Anything f g (Ok (s.is_nonempty r)) (Ok (u.is_nonempty r)) r n l h
      (subst (λ b. SameIn Anything (Ok (s.is_nonempty r)) (Ok b)) (agree.nonempty r p.0) (ok_in Anything (s.is_nonempty r) tt)) o q)
  nonempty_by_in f g n h (Bind Function a b) l p = h b (omega arith) p.1
  nonempty_by_in f g n h (Bind (Product k) a b) l p = then_in Anything Anything (f a) (g a) _ _ (h a (omega arith) p.0)
      (λ c _. pair_nonempty f g b (h b (omega arith) p.1) c)
  nonempty_by_in f g n h t l p = ok_in Anything false tt

  nonempty_below : (n : ℕ) → Below Anything n (is_known_nonempty s) (is_known_nonempty u)
  nonempty_below zero t l p = absurd (omega arith)
  nonempty_below (suc n) t l p = subst (λ x. SameIn Anything x (is_known_nonempty u t)) (sym (nonempty_step s ordered t))
      (subst (λ y. SameIn Anything (nonempty_by s (is_known_nonempty s) t) y) (sym (nonempty_step u ordered' t))
      (nonempty_by_in (is_known_nonempty s) (is_known_nonempty u) n (nonempty_below n) t l p))

  pub nonempty_same : (t : Tree) → IsOver V t → is_known_nonempty s t ≡ is_known_nonempty u t
  nonempty_same t p = (nonempty_below (suc (type_size s.rank t)) t (omega arith) p).same
