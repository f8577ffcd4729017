-- Typing over look-ups that agree.
use Rattle.std.proofs.Common.{◌≡◌, ℕ, zero, suc, Bool, true, false, cond, eqb, List, [], ◌∷◌, Option, Some, None, Result, Ok, Err, refl, ap, subst}
use Rattle.std.specs.Prelude.{IfOk}
use Rattle.pvs_base.specs.declared.code.Code.{Code}
use Rattle.pvs_base.specs.declared.code.Code.TheVariants.{TooLarge, NotFunction, NotTuple, NoSuchPart, Unknown}
use Rattle.pvs_terms.specs.Tree.{Tree, Leaf, Var, Name, Bind, Join, Project, If, Ref, TBool, True, False, TName, Const, TFun, TPair, Lam, Fst}
use Rattle.pvs_terms.specs.declared.shape.Plain.{Plain}
use Rattle.pvs_terms.specs.declared.shape.Plain.TheVariants.{BoolType, Yes, No}
use Rattle.pvs_terms.specs.declared.shape.Sort.{Sort}
use Rattle.pvs_terms.specs.declared.shape.Sort.TheVariants.{OfType, OfTerm}
use Rattle.pvs_terms.specs.declared.shape.Binder.{Binder}
use Rattle.pvs_terms.specs.declared.shape.Binder.TheVariants.{Subtype, Function, Product, Lambda}
use Rattle.pvs_terms.specs.declared.shape.Joint.{Joint}
use Rattle.pvs_terms.specs.declared.shape.Joint.TheVariants.{Apply, Tuple, Equal}
use Rattle.pvs_terms.specs.declared.shape.Projection.{Projection}
use Rattle.pvs_terms.specs.declared.shape.Projection.TheVariants.{First, Second}
use Rattle.pvs_subst.specs.Replace.{lift, put_in}
use Rattle.pvs_subst.specs.Contexts.{Assumptions, Variable, Hypothesis}
use Rattle.pvs_sig.specs.Lookups.{Lookups, IsOrdered}
use Rattle.pvs_soundness.specs.Vocabulary.{Vocabulary, HasReference, HasArity, IsOver}
use Rattle.pvs_types.specs.ProperTerms.{IsProperTerm}
use Rattle.pvs_types.specs.Outcome.{Conditions, Outcome, Refused, Accepted, outcome_after, ◌>>=◌, ◌>>◌, pure, refuse, uses, from_option, from_result, within_limits}
use Rattle.pvs_types.specs.Forms.{head, up, most, is_among, first_among}
use Rattle.pvs_types.specs.Coerce.{lift_one, coerce}
use Rattle.pvs_types.specs.Symbols.{symbols}
use Rattle.pvs_types.specs.Typing.{Typing, Components, negation, binder_type, lift_option, variable_type, term_typing, type_typing, leaf_typing, variable_infer, constant_infer, name_well_formed, name_typing, predicate_check, dependent_well_formed, lambda_infer, bind_typing, function_of, tuple_of, is_forall, apply_infer, tuple_infer, equal_infer, join_infer, project_infer, common_type, if_infer, if_check, typing, infer}
use Rattle.pvs_soundness.specs.WellSorted.{IsWellSorted}
use Rattle.pvs_soundness.proofs.WellSortedLaws.{proper, accepted_sorted}
use Rattle.pvs_types.proofs.OutcomeLaws.{within_cases}
use Rattle.pvs_soundness.specs.Local.{AgreesWith, IsClosedSet, EachAssumed, IsAnsweredAlike}
use Rattle.pvs_terms.specs.Sorts.{IsTerm}
use Rattle.pvs_elab.specs.Laws.{Gives}
use Rattle.pvs_soundness.specs.Laws.{WhereAccepted, TypingIsLocal}
use Rattle.pvs_soundness.proofs.LocalForms.{SameIn, EachTree, each_lift, each_put_in, head_in, up_in, most_in, nonempty_same}
use Rattle.pvs_soundness.proofs.LocalCoerce.{then_equal, within_equal, coerce_equal}

-- what is accepted has the property
abbrev WhereGiven : {A : Type 0} → (A → Type 0) → Outcome A → Type 0
WhereGiven Q (Refused c) = Unit {0}
WhereGiven Q (Accepted a cs rs) = Q a

-- the same outcome, and what is accepted has the property
record SameOutcome {A : Type 0} (Q : A → Type 0) (o u : Outcome A) : Type 0 where
  pub same : o ≡ u
  pub has : WhereGiven Q o

abbrev Anything : {A : Type 0} → A → Type 0
Anything a = Unit {0}

anything : {A : Type 0} (o : Outcome A) → WhereGiven Anything o
anything (Refused c) = tt
anything (Accepted a cs rs) = tt

equal_outcome : {A : Type 0} (o u : Outcome A) → o ≡ u → SameOutcome Anything o u
equal_outcome o u e = record { same = e; has = anything o }

refused_same : {A : Type 0} (Q : A → Type 0) (c : Code) → SameOutcome Q (refuse c) (refuse c)
refused_same Q c = record { same = refl; has = tt }

pure_same : {A : Type 0} (Q : A → Type 0) (a : A) → Q a → SameOutcome Q (pure a) (pure a)
pure_same Q a h = record { same = refl; has = h }

after_given : {A : Type 0} (Q : A → Type 0) (cs : Conditions) (rs : List Ref) (o : Outcome A) → WhereGiven Q o → WhereGiven Q (outcome_after cs rs o)
after_given Q cs rs (Refused c) h = tt
after_given Q cs rs (Accepted a ds ss) h = h

after_same : {A : Type 0} (Q : A → Type 0) (cs : Conditions) (rs : List Ref) (o u : Outcome A) → SameOutcome Q o u
    → SameOutcome Q (outcome_after cs rs o) (outcome_after cs rs u)
after_same Q cs rs o u h = record { same = ap (outcome_after cs rs) h.same; has = after_given Q cs rs o h.has }

then_same : {A B : Type 0} (Q : A → Type 0) (R : B → Type 0) (o u : Outcome A) (f g : A → Outcome B) → SameOutcome Q o u
    → ((a : A) → Q a → SameOutcome R (f a) (g a)) → SameOutcome R (o >>= f) (u >>= g)
then_same {A} {B} Q R o u f g h k = subst (λ x. SameOutcome R (o >>= f) (x >>= g)) h.same (go o h.has)
  where
    go : (x : Outcome A) → WhereGiven Q x → SameOutcome R (x >>= f) (x >>= g)
    go (Refused c) q = refused_same R c
    go (Accepted a cs rs) q = after_same R cs rs (f a) (g a) (k a q)

-- a step with no property
step_same : {A B : Type 0} (R : B → Type 0) (o u : Outcome A) (f g : A → Outcome B) → o ≡ u → ((a : A) → SameOutcome R (f a) (g a))
    → SameOutcome R (o >>= f) (u >>= g)
step_same R o u f g e k = then_same Anything R o u f g (equal_outcome o u e) (λ a _. k a)

form_same : {A B : Type 0} (Q : A → Type 0) (R : B → Type 0) (x y : Result A Code) (f g : A → Outcome B) → SameIn Q x y
    → ((a : A) → Q a → SameOutcome R (f a) (g a)) → SameOutcome R (from_result x >>= f) (from_result y >>= g)
form_same {A} {B} Q R x y f g h k = subst (λ z. SameOutcome R (from_result x >>= f) (from_result z >>= g)) h.same (go x h.has)
  where
    go : (z : Result A Code) → IfOk z Q → SameOutcome R (from_result z >>= f) (from_result z >>= g)
    go (Ok a) q = after_same R [] [] (f a) (g a) (k a q)
    go (Err c) q = refused_same R c

within_same : {B : Type 0} (R : B → Type 0) (t : Tree) (f g : Tree → Outcome B) → SameOutcome R (f t) (g t)
    → SameOutcome R (within_limits t >>= f) (within_limits t >>= g)
within_same R t f g h = within_cases (λ o. SameOutcome R (o >>= f) (o >>= g)) t (after_same R [] [] (f t) (g t) h) (refused_same R TooLarge)

last_within : (Q : Tree → Type 0) (t : Tree) → Q t → SameOutcome Q (within_limits t) (within_limits t)
last_within Q t h = within_cases (λ o. SameOutcome Q o o) t (pure_same Q t h) (refused_same Q TooLarge)

option_same : (Q : Tree → Type 0) (c : Code) (o u : Option Tree) → o ≡ u → ((a : Tree) → o ≡ Some a → Q a)
    → SameOutcome Q (from_option c o >>= within_limits) (from_option c u >>= within_limits)
option_same Q c o u e h = subst (λ x. SameOutcome Q (from_option c o >>= within_limits) (from_option c x >>= within_limits)) e (go o refl)
  where
    go : (x : Option Tree) → o ≡ x → SameOutcome Q (from_option c x >>= within_limits) (from_option c x >>= within_limits)
    go None k = refused_same Q c
    go (Some a) k = after_same Q [] [] (within_limits a) (within_limits a) (last_within Q a (h a k))

module _ (V : Vocabulary) (s u : Lookups) (ordered : IsOrdered s) (ordered' : IsOrdered u) (agree : AgreesWith V s u) (closed : IsClosedSet V s) where
  -- what is answered for a tree, over both
  record IsLocal (x y : Typing) : Type 0 where
    pub infer : (g : Assumptions) → EachAssumed V g → SameOutcome (IsOver V) (x.infer g) (y.infer g)
    pub check : (g : Assumptions) (a : Tree) → EachAssumed V g → IsOver V a → x.check g a ≡ y.check g a
    pub well_formed : (g : Assumptions) → EachAssumed V g → x.well_formed g ≡ y.well_formed g
    pub predicate : (g : Assumptions) → EachAssumed V g → x.predicate g ≡ y.predicate g

  coerced : (h : Assumptions) (t b a : Tree) → IsProperTerm t → IsOver V t → IsOver V b → IsOver V a → coerce s h t b a ≡ coerce u h t b a
  coerced = coerce_equal V s u ordered ordered' agree closed

  head_form : (b : Tree) → IsOver V b → SameIn (IsOver V) (head s b) (head u b)
  head_form = head_in V s u ordered ordered' agree closed

  most_form : (b : Tree) → IsOver V b → SameIn (IsOver V) (most s b) (most u b)
  most_form = most_in V s u ordered ordered' agree closed

  up_form : (b : Tree) → IsOver V b → SameIn (EachTree V) (up s b) (up u b)
  up_form = up_in V s u ordered ordered' agree closed

  term_local : (t : Tree) (x y : Assumptions → Outcome Tree) → IsProperTerm t → IsOver V t
      → ((g : Assumptions) → EachAssumed V g → SameOutcome (IsOver V) (x g) (y g)) → IsLocal (term_typing s t x) (term_typing u t y)
  term_local t x y term p h = record {
    infer = h;
    check = λ g a q w. (then_same (IsOver V) Anything (x g) (y g) _ _ (h g q) (λ b z. equal_outcome _ _ (coerced g t b a term p z w))).same;
    well_formed = λ g q. refl;
    predicate = λ g q. refl;
  }

  type_local : (x y : Assumptions → Outcome (Unit {0})) → ((g : Assumptions) → EachAssumed V g → x g ≡ y g) → IsLocal (type_typing x) (type_typing y)
  type_local x y h = record { infer = λ g q. refused_same (IsOver V) Unknown; check = λ g a q w. refl; well_formed = h; predicate = λ g q. refl }

  leaf_local : (o : Plain) → IsLocal (leaf_typing s o) (leaf_typing u o)
  leaf_local BoolType = type_local (λ g. pure tt) (λ g. pure tt) (λ g q. refl)
  leaf_local Yes = term_local True (λ g. pure TBool) (λ g. pure TBool) tt tt (λ g q. pure_same (IsOver V) TBool tt)
  leaf_local No = term_local False (λ g. pure TBool) (λ g. pure TBool) tt tt (λ g q. pure_same (IsOver V) TBool tt)

  bound_each : (g : Assumptions) (n : ℕ) (a : Tree) → EachAssumed V g → binder_type g n ≡ Some a → IsOver V a
  bound_each [] n a h e = cc
  bound_each (Variable b ∷ g) zero a h e = let z : b ≡ a = cc in subst (IsOver V) z h.0
  bound_each (Variable b ∷ g) (suc n) a h e = bound_each g n a h.1 e
  bound_each (Hypothesis p ∷ g) n a h e = bound_each g n a h.1 e

  lifted_each : (by : ℕ) (o : Option Tree) (a : Tree) → ((b : Tree) → o ≡ Some b → IsOver V b) → lift_option by o ≡ Some a → IsOver V a
  lifted_each by None a h e = cc
  lifted_each by (Some b) a h e = let z : lift b by 0 ≡ a = cc in subst (IsOver V) z (each_lift V b by 0 (h b refl))

  variable_local : (n : ℕ) (g : Assumptions) → EachAssumed V g → SameOutcome (IsOver V) (variable_infer n g) (variable_infer n g)
  variable_local n g h = option_same (IsOver V) Unknown (variable_type g n) (variable_type g n) refl
      (λ a e. lifted_each (suc n) (binder_type g n) a (λ b k. bound_each g n b h k) e)

  constant_local : (r : Ref) → HasReference V r → (g : Assumptions) → SameOutcome (IsOver V) (constant_infer s r g) (constant_infer u r g)
  constant_local r p g = after_same (IsOver V) [] (symbols (Const r)) _ _ (option_same (IsOver V) Unknown (s.type_of r) (u.type_of r) (agree.types r p)
      (λ a e. closed.types r a p e))

  name_local : (o : Sort) (r : Ref) → IsOver V (Name o r) → IsLocal (name_typing s o r) (name_typing u o r)
  name_local OfType r p = type_local (name_well_formed s r) (name_well_formed u r) (λ g q. ap (λ b. cond b (uses (symbols (TName r))) (refuse Unknown)) (agree.names r p.0))
  name_local OfTerm r p = term_local (Const r) (constant_infer s r) (constant_infer u r) tt p (λ g q. constant_local r p.0 g)

  predicate_local : (a : Tree) (x x' y y' : Typing) → IsOver V a → IsLocal x x' → IsLocal y y' → (g : Assumptions) → EachAssumed V g
      → predicate_check a x y g ≡ predicate_check a x' y' g
  predicate_local a x x' y y' p hx hy g q = then_equal (x.well_formed g) (x'.well_formed g) _ _ (hx.well_formed g q)
      (λ _. hy.check (Variable a ∷ g) TBool (p, q) tt)

  dependent_local : (a : Tree) (x x' y y' : Typing) → IsOver V a → IsLocal x x' → IsLocal y y' → (g : Assumptions) → EachAssumed V g
      → dependent_well_formed a x y g ≡ dependent_well_formed a x' y' g
  dependent_local a x x' y y' p hx hy g q = then_equal (x.well_formed g) (x'.well_formed g) _ _ (hx.well_formed g q)
      (λ _. hy.well_formed (Variable a ∷ g) (p, q))

  lambda_local : (a : Tree) (x x' y y' : Typing) → IsOver V a → IsLocal x x' → IsLocal y y' → (g : Assumptions) → EachAssumed V g
      → SameOutcome (IsOver V) (lambda_infer a x y g) (lambda_infer a x' y' g)
  lambda_local a x x' y y' p hx hy g q = step_same (IsOver V) (x.well_formed g) (x'.well_formed g) _ _ (hx.well_formed g q) (λ _.
      then_same (IsOver V) (IsOver V) (y.infer (Variable a ∷ g)) (y'.infer (Variable a ∷ g)) _ _ (hy.infer (Variable a ∷ g) (p, q))
      (λ c w. last_within (IsOver V) (TFun a c) (p, w, tt)))

  bind_local : (o : Binder) (a b : Tree) (x x' y y' : Typing) → IsWellSorted (Bind o a b) → IsOver V (Bind o a b) → IsLocal x x' → IsLocal y y'
      → IsLocal (bind_typing s o a b x y) (bind_typing u o a b x' y')
  bind_local Subtype a b x x' y y' sorted p hx hy = type_local _ _ (predicate_local a x x' y y' p.0 hx hy)
  bind_local Function a b x x' y y' sorted p hx hy = type_local _ _ (dependent_local a x x' y y' p.0 hx hy)
  bind_local (Product k) a b x x' y y' sorted p hx hy = type_local _ _ (dependent_local a x x' y y' p.0 hx hy)
  bind_local Lambda a b x x' y y' sorted p hx hy =
      let base = term_local (Lam a b) (lambda_infer a x y) (lambda_infer a x' y') (proper (Lam a b) sorted refl) p (lambda_local a x x' y y' p.0 hx hy) in
      record { infer = base.infer; check = base.check; well_formed = base.well_formed; predicate = predicate_local a x x' y y' p.0 hx hy }

  abbrev EachPart : Components → Type 0
  EachPart c = IsOver V c.first × IsOver V c.second

  function_each : (d : Tree) → IsOver V d → SameOutcome EachPart (function_of d) (function_of d)
  function_each (Bind Function a b) p = pure_same EachPart (record { first = a; second = b }) (p.0, p.1)
  function_each _ p = refused_same EachPart NotFunction

  tuple_each : (k : ℕ) (d : Tree) → IsOver V d → SameOutcome EachPart (tuple_of k d) (tuple_of k d)
  tuple_each k (Bind (Product j) a b) p = go (eqb j k)
    where
      go : (c : Bool) → SameOutcome EachPart (cond c (pure (record { first = a; second = b })) (refuse NoSuchPart)) (cond c (pure (record { first = a; second = b })) (refuse NoSuchPart))
      go true = pure_same EachPart (record { first = a; second = b }) (p.0, p.1)
      go false = refused_same EachPart NoSuchPart
  tuple_each k _ p = refused_same EachPart NotTuple

  apply_local : (a : Tree) (x x' y y' : Typing) → IsOver V a → IsLocal x x' → IsLocal y y' → (g : Assumptions) → EachAssumed V g
      → SameOutcome (IsOver V) (apply_infer s a x y g) (apply_infer u a x' y' g)
  apply_local a x x' y y' p hx hy g q = then_same (IsOver V) (IsOver V) (x.infer g) (x'.infer g) _ _ (hx.infer g q) (λ c w.
      form_same (IsOver V) (IsOver V) (head s c) (head u c) _ _ (head_form c w) (λ d v.
      then_same EachPart (IsOver V) (function_of d) (function_of d) _ _ (function_each d v) (λ f z.
      step_same (IsOver V) (y.check g f.first) (y'.check g f.first) _ _ (hy.check g f.first q z.0) (λ _.
      last_within (IsOver V) (put_in f.second a) (each_put_in V f.second a z.1 p)))))

  tuple_local : (k : ℕ) (x x' y y' : Typing) → HasArity V k → IsLocal x x' → IsLocal y y' → (g : Assumptions) → EachAssumed V g
      → SameOutcome (IsOver V) (tuple_infer k x y g) (tuple_infer k x' y' g)
  tuple_local k x x' y y' i hx hy g q = then_same (IsOver V) (IsOver V) (x.infer g) (x'.infer g) _ _ (hx.infer g q) (λ c w.
      then_same (IsOver V) (IsOver V) (y.infer g) (y'.infer g) _ _ (hy.infer g q) (λ d v.
      last_within (IsOver V) (TPair k c (lift_one d)) (w, each_lift V d 1 0 v, i)))

  equal_local : (a b : Tree) (x x' y y' : Typing) → IsProperTerm a → IsProperTerm b → IsOver V a → IsOver V b → IsLocal x x' → IsLocal y y'
      → (g : Assumptions) → EachAssumed V g → SameOutcome (IsOver V) (equal_infer s a b x y g) (equal_infer u a b x' y' g)
  equal_local a b x x' y y' ta tb p p' hx hy g q = then_same (IsOver V) (IsOver V) (x.infer g) (x'.infer g) _ _ (hx.infer g q) (λ c w.
      then_same (IsOver V) (IsOver V) (y.infer g) (y'.infer g) _ _ (hy.infer g q) (λ d v.
      form_same (IsOver V) (IsOver V) (most s c) (most u c) _ _ (most_form c w) (λ m z.
      step_same (IsOver V) (coerce s g b d m) (coerce u g b d m) _ _ (coerced g b d m tb p' v z) (λ _.
      step_same (IsOver V) (coerce s g a c m) (coerce u g a c m) _ _ (coerced g a c m ta p w z) (λ _.
      pure_same (IsOver V) TBool tt)))))

  join_local : (o : Joint) (a b : Tree) (x x' y y' : Typing) → IsWellSorted (Join o a b) → IsOver V (Join o a b) → IsLocal x x' → IsLocal y y'
      → (g : Assumptions) → EachAssumed V g → SameOutcome (IsOver V) (join_infer s o a b x y g) (join_infer u o a b x' y' g)
  join_local Apply a b x x' y y' sorted p hx hy g q = apply_local b x x' y y' p.1 hx hy g q
  join_local (Tuple k) a b x x' y y' sorted p hx hy g q = tuple_local k x x' y y' p.2 hx hy g q
  join_local Equal a b x x' y y' sorted p hx hy g q = go (is_forall a b)
    where
      go : (c : Bool) → SameOutcome (IsOver V) (cond c (x.predicate g >> pure TBool) (equal_infer s a b x y g)) (cond c (x'.predicate g >> pure TBool) (equal_infer u a b x' y' g))
      go true = step_same (IsOver V) (x.predicate g) (x'.predicate g) _ _ (hx.predicate g q) (λ _. pure_same (IsOver V) TBool tt)
      go false = equal_local a b x x' y y' (proper a sorted.2 sorted.0) (proper b sorted.3 sorted.1) p.0 p.1 hx hy g q

  project_local : (o : Projection) (t : Tree) (x x' : Typing) → IsOver V (Project o t) → IsLocal x x' → (g : Assumptions) → EachAssumed V g
      → SameOutcome (IsOver V) (project_infer s o t x g) (project_infer u o t x' g)
  project_local (First k) t x x' p hx g q = then_same (IsOver V) (IsOver V) (x.infer g) (x'.infer g) _ _ (hx.infer g q) (λ c w.
      form_same (IsOver V) (IsOver V) (head s c) (head u c) _ _ (head_form c w) (λ d v.
      then_same EachPart (IsOver V) (tuple_of k d) (tuple_of k d) _ _ (tuple_each k d v) (λ f z. pure_same (IsOver V) f.first z.0)))
  project_local (Second k) t x x' p hx g q = then_same (IsOver V) (IsOver V) (x.infer g) (x'.infer g) _ _ (hx.infer g q) (λ c w.
      form_same (IsOver V) (IsOver V) (head s c) (head u c) _ _ (head_form c w) (λ d v.
      then_same EachPart (IsOver V) (tuple_of k d) (tuple_of k d) _ _ (tuple_each k d v) (λ f z.
      within_same (IsOver V) (Fst k t) _ _ (last_within (IsOver V) (put_in f.second (Fst k t)) (each_put_in V f.second (Fst k t) z.1 p)))))

  first_each : (ts us : List Tree) (a : Tree) → EachTree V ts → first_among ts us ≡ Some a → IsOver V a
  first_each [] us a h e = cc
  first_each (t ∷ ts) us a h e = go (is_among t us) (first_each ts us a h.1) e
    where
      go : (b : Bool) → (first_among ts us ≡ Some a → IsOver V a) → cond b (Some t) (first_among ts us) ≡ Some a → IsOver V a
      go true later k = let z : t ≡ a = cc in subst (IsOver V) z h.0
      go false later k = later k

  common_local : (g h : Assumptions) (a b c d : Tree) → IsProperTerm a → IsProperTerm b → IsOver V a → IsOver V b → IsOver V c → IsOver V d
      → (o : Option Tree) → ((e : Tree) → o ≡ Some e → IsOver V e) → SameOutcome (IsOver V) (common_type s g h a b c d o) (common_type u g h a b c d o)
  common_local g h a b c d ta tb pa pb pc pd (Some e) k = pure_same (IsOver V) e (k e refl)
  common_local g h a b c d ta tb pa pb pc pd None k = form_same (IsOver V) (IsOver V) (most s c) (most u c) _ _ (most_form c pc) (λ m z.
      step_same (IsOver V) (coerce s g a c m) (coerce u g a c m) _ _ (coerced g a c m ta pa pc z) (λ _.
      step_same (IsOver V) (coerce s h b d m) (coerce u h b d m) _ _ (coerced h b d m tb pb pd z) (λ _. pure_same (IsOver V) m z)))

  if_local : (t a b : Tree) (x x' y y' z z' : Typing) → IsProperTerm a → IsProperTerm b → IsOver V (If t a b) → IsLocal x x' → IsLocal y y' → IsLocal z z'
      → (g : Assumptions) → EachAssumed V g → SameOutcome (IsOver V) (if_infer s t a b x y z g) (if_infer u t a b x' y' z' g)
  if_local t a b x x' y y' z z' ta tb p hx hy hz g q = step_same (IsOver V) (x.check g TBool) (x'.check g TBool) _ _ (hx.check g TBool q tt) (λ _.
      then_same (IsOver V) (IsOver V) (y.infer (Hypothesis t ∷ g)) (y'.infer (Hypothesis t ∷ g)) _ _ (hy.infer (Hypothesis t ∷ g) (p.0, q)) (λ c pc.
      within_same (IsOver V) (negation t) _ _ (
      then_same (IsOver V) (IsOver V) (z.infer (Hypothesis (negation t) ∷ g)) (z'.infer (Hypothesis (negation t) ∷ g)) _ _ (hz.infer (Hypothesis (negation t) ∷ g) ((p.0, tt, tt), q)) (λ d pd.
      form_same (EachTree V) (IsOver V) (up s c) (up u c) _ _ (up_form c pc) (λ us pus.
      form_same (EachTree V) (IsOver V) (up s d) (up u d) _ _ (up_form d pd) (λ vs pvs.
      common_local (Hypothesis t ∷ g) (Hypothesis (negation t) ∷ g) a b c d ta tb p.1 p.2 pc pd (first_among us vs) (λ e k. first_each us vs e pus k)))))))

  if_check_local : (t : Tree) (x x' y y' z z' : Typing) → IsOver V t → IsLocal x x' → IsLocal y y' → IsLocal z z'
      → (g : Assumptions) (a : Tree) → EachAssumed V g → IsOver V a → if_check t x y z g a ≡ if_check t x' y' z' g a
  if_check_local t x x' y y' z z' p hx hy hz g a q w = then_equal (x.check g TBool) (x'.check g TBool) _ _ (hx.check g TBool q tt) (λ _.
      then_equal (y.check (Hypothesis t ∷ g) a) (y'.check (Hypothesis t ∷ g) a) _ _ (hy.check (Hypothesis t ∷ g) a (p, q) w) (λ _.
      within_equal (negation t) _ _ (hz.check (Hypothesis (negation t) ∷ g) a ((p, tt, tt), q) w)))

  typing_local : (t : Tree) → IsWellSorted t → IsOver V t → IsLocal (typing s t) (typing u t)
  typing_local (Leaf o) sorted p = leaf_local o
  typing_local (Var n) sorted p = term_local (Var n) (variable_infer n) (variable_infer n) tt tt (variable_local n)
  typing_local (Name o r) sorted p = name_local o r p
  typing_local (Bind o a b) sorted p = bind_local o a b (typing s a) (typing u a) (typing s b) (typing u b) sorted p (typing_local a sorted.2 p.0) (typing_local b sorted.3 p.1)
  typing_local (Join o a b) sorted p = term_local (Join o a b) _ _ (proper (Join o a b) sorted refl) p
      (join_local o a b (typing s a) (typing u a) (typing s b) (typing u b) sorted p (typing_local a sorted.2 p.0) (typing_local b sorted.3 p.1))
  typing_local (Project o a) sorted p = term_local (Project o a) _ _ tt p (project_local o a (typing s a) (typing u a) p (typing_local a sorted.1 p.0))
  typing_local (If t a b) sorted p =
      let hx = typing_local t sorted.3 p.0 in
      let hy = typing_local a sorted.4 p.1 in
      let hz = typing_local b sorted.5 p.2 in
      let base = term_local (If t a b) _ _ tt p (if_local t a b (typing s t) (typing u t) (typing s a) (typing u a) (typing s b) (typing u b)
      (proper a sorted.4 sorted.1) (proper b sorted.5 sorted.2) p hx hy hz) in
      record {
        infer = base.infer;
        check = λ g c q w. if_check_local t (typing s t) (typing u t) (typing s a) (typing u a) (typing s b) (typing u b) p.0 hx hy hz g c q w;
        well_formed = base.well_formed;
        predicate = base.predicate;
      }

  pub answered_alike : (g : Assumptions) → EachAssumed V g → (t a : Tree) → IsWellSorted t → IsOver V t → IsOver V a → IsAnsweredAlike s u g t a
  answered_alike g q t a sorted p w =
      let x = typing_local t sorted p in
      record { infer = (x.infer g q).same; check = x.check g a q w; well_formed = x.well_formed g q; nonempty = nonempty_same V s u ordered ordered' agree closed a w }

-- what is inferred of a tree over the set is over it too, and so is the head of a type
module _ (V : Vocabulary) (s : Lookups) (ordered : IsOrdered s) (closed : IsClosedSet V s) where
  itself : AgreesWith V s s
  itself = record { types = λ r p. refl; bodies = λ r p. refl; names = λ r p. refl; nonempty = λ r p. refl }

  given_each : (o : Outcome Tree) (a : Tree) → WhereGiven (IsOver V) o → Gives o a → IsOver V a
  given_each (Refused c) a h g = absurd g
  given_each (Accepted b cs rs) a h g = subst (IsOver V) g h

  sorted_where : (g : Assumptions) (t a : Tree) (o : Outcome Tree) → WhereAccepted (IsTerm t × IsWellSorted t) o → Gives o a → IsWellSorted t
  sorted_where g t a (Refused c) h k = absurd k
  sorted_where g t a (Accepted b cs rs) h k = h.1

  pub inferred_each : (g : Assumptions) → EachAssumed V g → (t a : Tree) → IsOver V t → Gives (infer s g t) a → IsOver V a
  inferred_each g q t a p k =
      let sorted = sorted_where g t a (infer s g t) (accepted_sorted s g t a).0 k in
      given_each (infer s g t) a ((typing_local V s s ordered ordered itself closed t sorted p).infer g q).has k

  pub head_each : (b d : Tree) → IsOver V b → Gives (from_result (head s b)) d → IsOver V d
  head_each b d p k = go (head s b) (head_in V s s ordered ordered itself closed b p).has k
    where
      go : (x : Result Tree Code) → IfOk x (IsOver V) → Gives (from_result x) d → IsOver V d
      go (Ok c) h g = subst (IsOver V) g h
      go (Err c) h g = absurd g

pub typing_is_local : TypingIsLocal
typing_is_local V s u ordered ordered' agree closed = answered_alike V s u ordered ordered' agree closed
