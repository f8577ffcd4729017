-- What typing accepts is of its type, and what it calls well formed is defined.
use Rattle.std.proofs.Common.{◌≡◌, inl, inr, ℕ, Bool, true, false, ◌&&◌, cond, eqb, List, ◌∷◌, Option, Some, None, Ok, refl, ap, ◌∙◌, sym, subst}
use Rattle.std.specs.List.{list_all}
use Rattle.pvs_base.specs.declared.code.Code.TheVariants.{NoSuchPart, Unknown}
use Rattle.pvs_terms.specs.Tree.{Tree, Leaf, Var, Name, Bind, Join, Project, If, Ref, TBool, True, False, TName, Const, TSub, TFun, TPair, Lam, App, Tup, Eq, Fst, Snd}
use Rattle.pvs_terms.specs.declared.shape.Plain.{Plain}
use Rattle.pvs_terms.specs.declared.shape.Plain.TheVariants.{BoolType, Yes, No}
use Rattle.pvs_terms.specs.declared.shape.Sort.{Sort}
use Rattle.pvs_terms.specs.declared.shape.Sort.TheVariants.{OfType, OfTerm}
use Rattle.pvs_terms.specs.declared.shape.Binder.{Binder}
use Rattle.pvs_terms.specs.declared.shape.Binder.TheVariants.{Subtype, Function, Product, Lambda}
use Rattle.pvs_terms.specs.declared.shape.Joint.{Joint}
use Rattle.pvs_terms.specs.declared.shape.Joint.TheVariants.{Apply, Tuple, Equal}
use Rattle.pvs_terms.specs.declared.shape.Projection.{Projection}
use Rattle.pvs_terms.specs.declared.shape.Projection.TheVariants.{First, Second}
use Rattle.pvs_terms.proofs.TreeLaws.{all_true, tree_eq-true}
use Rattle.pvs_subst.specs.Replace.{put_in}
use Rattle.pvs_subst.specs.Contexts.{Assumptions, Variable, Hypothesis}
use Rattle.pvs_sem.specs.Value.{Value, Truth, IsMember, value_eq, is_true, is_truth, is_pair, result_at, first_of_pair, second_of_pair}
use Rattle.pvs_sem.specs.Meaning.{Model, Env, env_with, mean, inside}
use Rattle.pvs_sem.proofs.SetLaws.{list_all_from, table_in, result_in}
use Rattle.pvs_sem.proofs.PairLaws.{IsPairIn, member_pairs, pairs_member}
use Rattle.pvs_sem.proofs.MeaningLaws.{mean-put_in, mean-next}
use Rattle.pvs_sig.specs.Lookups.{Lookups}
use Rattle.pvs_types.specs.Outcome.{Condition, Outcome, ◌>>=◌, ◌>>◌, pure, refuse, uses, from_option, within_limits}
use Rattle.pvs_types.specs.Forms.{head, up, most, first_among}
use Rattle.pvs_types.specs.Coerce.{lift_one, coerce}
use Rattle.pvs_types.specs.Symbols.{symbols}
use Rattle.pvs_types.specs.Typing.{Typing, Components, negation, variable_type, term_typing, type_typing, leaf_typing, variable_infer, constant_infer, name_well_formed, name_typing, predicate_check, dependent_well_formed, lambda_infer, bind_typing, function_of, tuple_of, is_forall, apply_infer, tuple_infer, equal_infer, join_infer, project_infer, common_type, if_infer, if_check, if_typing, typing}
use Rattle.pvs_types.specs.Soundness.{IsSatisfaction, IsTrueCondition, IsValued, Provides, IsOfType, HasType, IsModelOf, Converts, IsDefined, IsPredicate, IsSoundTyping}
use Rattle.pvs_types.proofs.ProperTermLaws.{proper_is_term}
use Rattle.pvs_types.proofs.OutcomeLaws.{provides_then, provides_weaker, provides_any, provides_option, provides_result, provides_within, provides_last, provides_if}
use Rattle.pvs_types.proofs.FormsSound.{LiesIn, head_lies_in, up_lies_in, first_sound}
use Rattle.pvs_types.proofs.CoerceSound.{move, coerce_sound}

module _ (m : Model) (s : Lookups) (fits : IsModelOf m s) (Sat : Assumptions → Env → Type 0) (counts : IsSatisfaction m Sat) where
  abbrev Holds : Condition → Type 0
  Holds = IsTrueCondition m Sat

  abbrev Valued : Ref → Type 0
  Valued = IsValued m s

  -- the types of a term, and what is said of an outcome that gives one
  abbrev Types : Assumptions → Tree → Tree → Type 0
  Types g t a = HasType m Sat g t a

  abbrev Infers : Assumptions → Tree → Outcome Tree → Type 0
  Infers g t o = Provides (IsTrueCondition m Sat) (IsValued m s) (λ a. HasType m Sat g t a) o

  abbrev Checks : Assumptions → Tree → Tree → Outcome (Unit {0}) → Type 0
  Checks g t a o = Provides (IsTrueCondition m Sat) (IsValued m s) (λ _. HasType m Sat g t a) o

  abbrev Forms : Assumptions → Tree → Outcome (Unit {0}) → Type 0
  Forms g a o = Provides (IsTrueCondition m Sat) (IsValued m s) (λ _. IsDefined m Sat g a) o

  truth_in : (b : Bool) (e : Env) → IsMember (Truth b) (mean m TBool e).set
  truth_in true e = inr (inl refl)
  truth_in false e = inl refl

  converts_type : (g : Assumptions) (t b a : Tree) → Types g t b → Converts m Sat g t b a → Types g t a
  converts_type g t b a h pass = record
      { term = h.term; in_each = λ e sat. record { member = pass e sat (h.in_each e sat).member; inside = (h.in_each e sat).inside } }

  lies_in_type : (g : Assumptions) (t b a : Tree) → LiesIn m s fits b a → Types g t b → Types g t a
  lies_in_type g t b a w h = converts_type g t b a h (λ e sat q. w e (mean m t e).value q)

  term_sound : (t : Tree) (infer : Assumptions → Outcome Tree) → ((g : Assumptions) → Infers g t (infer g))
      → IsSoundTyping m s Sat t (term_typing s t infer)
  term_sound t infer h = record {
    infer = h;
    check = λ g a. provides_then Holds Valued (Types g t) (λ _. Types g t a) (infer g) (λ b. coerce s g t b a) (h g)
        (λ b p. provides_weaker Holds Valued (λ _. Converts m Sat g t b a) (λ _. Types g t a) (coerce s g t b a)
        (coerce_sound m s fits Sat counts g t b a p.term) (λ _ pass. converts_type g t b a p pass));
    well_formed = λ g. tt;
    predicate = λ g. tt;
  }

  type_sound : (a : Tree) (well_formed : Assumptions → Outcome (Unit {0})) → ((g : Assumptions) → Forms g a (well_formed g))
      → IsSoundTyping m s Sat a (type_typing well_formed)
  type_sound a well_formed h = record { infer = λ g. tt; check = λ g b. tt; well_formed = h; predicate = λ g. tt }

  leaf_sound : (o : Plain) → IsSoundTyping m s Sat (Leaf o) (leaf_typing s o)
  leaf_sound BoolType = type_sound TBool (λ g. pure tt) (λ g. λ _ _ e sat. refl)
  leaf_sound Yes = term_sound True (λ g. pure TBool)
      (λ g. λ _ _. record { term = tt; in_each = λ e sat. record { member = truth_in true e; inside = refl } })
  leaf_sound No = term_sound False (λ g. pure TBool)
      (λ g. λ _ _. record { term = tt; in_each = λ e sat. record { member = truth_in false e; inside = refl } })

  variable_sound : (n : ℕ) (g : Assumptions) → Infers g (Var n) (variable_infer n g)
  variable_sound n g = provides_option Holds Valued (Types g (Var n)) Unknown (variable_type g n) within_limits (λ a h.
      provides_last Holds Valued (Types g (Var n)) a
      (record { term = tt; in_each = λ e sat. record { member = counts.variables_typed g n a e h sat; inside = refl } }))

  constant_sound : (r : Ref) (g : Assumptions) → Infers g (Const r) (constant_infer s r g)
  constant_sound r g = provides_then Holds Valued (λ _. IsValued m s r) (Types g (Const r)) (uses (symbols (Const r)))
      (λ _. from_option Unknown (s.type_of r) >>= within_limits) (λ _ valued. valued.0) (λ _ valued.
      provides_option Holds Valued (Types g (Const r)) Unknown (s.type_of r) within_limits (λ a h.
      provides_last Holds Valued (Types g (Const r)) a
      (record { term = tt; in_each = λ e sat. record { member = valued a e h; inside = fits.constants r a h } })))

  name_sound : (o : Sort) (r : Ref) → IsSoundTyping m s Sat (Name o r) (name_typing s o r)
  name_sound OfType r = type_sound (TName r) (name_well_formed s r)
      (λ g. provides_if Holds Valued (λ _. IsDefined m Sat g (TName r)) (s.is_type r) (uses (symbols (TName r))) (refuse Unknown)
      (λ h. λ _ _ e sat. fits.types r h) (λ h. tt))
  name_sound OfTerm r = term_sound (Const r) (constant_infer s r) (constant_sound r)

  -- a part that is defined, and a second part that is defined at each member
  binder_inside : (a b : Tree) (e : Env) → inside m a e ≡ true
      → ((v : Value) → IsMember v (mean m a e).set → inside m b (env_with v e) ≡ true)
      → (inside m a e && list_all (λ v. inside m b (env_with v e)) (mean m a e).set) ≡ true
  binder_inside a b e h k = all_true h (list_all_from (λ v. inside m b (env_with v e)) (mean m a e).set k)

  binder_defined : (g : Assumptions) (a b : Tree) → IsDefined m Sat g a → IsDefined m Sat (Variable a ∷ g) b → (e : Env) → Sat g e
      → (inside m a e && list_all (λ v. inside m b (env_with v e)) (mean m a e).set) ≡ true
  binder_defined g a b ha hb e sat = binder_inside a b e (ha e sat)
      (λ v q. hb (env_with v e) (counts.under_variable a g (env_with v e) q sat))

  typed_defined : (g : Assumptions) (t a : Tree) → Types g t a → IsDefined m Sat g t
  typed_defined g t a h e sat = (h.in_each e sat).inside

  predicate_sound : (g : Assumptions) (a p : Tree) (x y : Typing) → IsSoundTyping m s Sat a x → IsSoundTyping m s Sat p y
      → Provides (IsTrueCondition m Sat) (IsValued m s)
      (λ _. (e : Env) → Sat g e → (inside m a e ≡ true)
      × ((inside m a e && list_all (λ v. inside m p (env_with v e)) (mean m a e).set) ≡ true)) (predicate_check a x y g)
  predicate_sound g a p x y hx hy = provides_then Holds Valued (λ _. IsDefined m Sat g a) _ (x.well_formed g)
      (λ _. y.check (Variable a ∷ g) TBool) (hx.well_formed g) (λ _ da.
      provides_weaker Holds Valued (λ _. Types (Variable a ∷ g) p TBool) _ (y.check (Variable a ∷ g) TBool)
      (hy.check (Variable a ∷ g) TBool)
      (λ _ pp e sat. (da e sat, binder_defined g a p da (typed_defined (Variable a ∷ g) p TBool pp) e sat)))

  subtype_sound : (g : Assumptions) (a p : Tree) (x y : Typing) → IsSoundTyping m s Sat a x → IsSoundTyping m s Sat p y
      → Forms g (TSub a p) (predicate_check a x y g)
  subtype_sound g a p x y hx hy = provides_weaker Holds Valued _ (λ _. IsDefined m Sat g (TSub a p)) (predicate_check a x y g)
      (predicate_sound g a p x y hx hy) (λ _ k e sat. (k e sat).1)

  dependent_sound : (g : Assumptions) (a b : Tree) (x y : Typing) → IsSoundTyping m s Sat a x → IsSoundTyping m s Sat b y
      → Forms g (TFun a b) (dependent_well_formed a x y g)
  dependent_sound g a b x y hx hy = provides_then Holds Valued (λ _. IsDefined m Sat g a) (λ _. IsDefined m Sat g (TFun a b))
      (x.well_formed g)
      (λ _. y.well_formed (Variable a ∷ g)) (hx.well_formed g) (λ _ da.
      provides_weaker Holds Valued (λ _. IsDefined m Sat (Variable a ∷ g) b) (λ _. IsDefined m Sat g (TFun a b))
      (y.well_formed (Variable a ∷ g))
      (hy.well_formed (Variable a ∷ g))
      (λ _ db e sat. binder_defined g a b da db e sat))

  lambda_type : (g : Assumptions) (a b c : Tree) → IsDefined m Sat g a → Types (Variable a ∷ g) b c → Types g (Lam a b) (TFun a c)
  lambda_type g a b c da pb = record {
    term = pb.term;
    in_each = λ e sat. record {
      member = table_in (λ v. (mean m b (env_with v e)).value) (λ v. (mean m c (env_with v e)).set) (mean m a e).set
          (λ v q. (pb.in_each (env_with v e) (counts.under_variable a g (env_with v e) q sat)).member);
      inside = binder_defined g a b da (typed_defined (Variable a ∷ g) b c pb) e sat;
    };
  }

  lambda_sound : (g : Assumptions) (a b : Tree) (x y : Typing) → IsSoundTyping m s Sat a x → IsSoundTyping m s Sat b y
      → Infers g (Lam a b) (lambda_infer a x y g)
  lambda_sound g a b x y hx hy =
      provides_then Holds Valued (λ _. IsDefined m Sat g a) (Types g (Lam a b)) (x.well_formed g) _ (hx.well_formed g) (λ _ da.
      provides_then Holds Valued (Types (Variable a ∷ g) b) (Types g (Lam a b)) (y.infer (Variable a ∷ g)) _ (hy.infer (Variable a ∷ g))
      (λ c pb.
      provides_last Holds Valued (Types g (Lam a b)) (TFun a c) (lambda_type g a b c da pb)))

  bind_sound : (o : Binder) (a b : Tree) (x y : Typing) → IsSoundTyping m s Sat a x → IsSoundTyping m s Sat b y
      → IsSoundTyping m s Sat (Bind o a b) (bind_typing s o a b x y)
  bind_sound Subtype a b x y hx hy = type_sound (TSub a b) (predicate_check a x y) (λ g. subtype_sound g a b x y hx hy)
  bind_sound Function a b x y hx hy = type_sound (TFun a b) (dependent_well_formed a x y) (λ g. dependent_sound g a b x y hx hy)
  bind_sound (Product k) a b x y hx hy = type_sound (TPair k a b) (dependent_well_formed a x y) (λ g. dependent_sound g a b x y hx hy)
  bind_sound Lambda a b x y hx hy =
      let base = term_sound (Lam a b) (lambda_infer a x y) (λ g. lambda_sound g a b x y hx hy) in
      record { infer = base.infer; check = base.check; well_formed = base.well_formed; predicate = λ g. predicate_sound g a b x y hx hy }

  function_found : (c d : Tree) → LiesIn m s fits c d
      → Provides (IsTrueCondition m Sat) (IsValued m s) (λ p. LiesIn m s fits c (TFun p.first p.second)) (function_of d)
  function_found c (Bind Function a b) w = λ _ _. w
  function_found c _ w = tt

  tuple_found : (k : ℕ) (c d : Tree) → LiesIn m s fits c d
      → Provides (IsTrueCondition m Sat) (IsValued m s) (λ p. LiesIn m s fits c (TPair k p.first p.second)) (tuple_of k d)
  tuple_found k c (Bind (Product j) a b) w = provides_if Holds Valued (λ (p : Components). LiesIn m s fits c (TPair k p.first p.second))
      (eqb j k) (pure (record { first = a; second = b })) (refuse NoSuchPart) (λ _. λ _ _. w) (λ _. tt)
  tuple_found k c _ w = tt

  apply_type : (g : Assumptions) (f a c d b : Tree) → Types g f c → LiesIn m s fits c (TFun d b) → Types g a d
      → Types g (App f a) (put_in b a)
  apply_type g f a c d b pf w pa = record {
    term = tt;
    in_each = λ e sat.
        let fn = pf.in_each e sat in
        let arg = pa.in_each e sat in
        let r = result_in (λ v. (mean m b (env_with v e)).set) (mean m f e).value (mean m a e).value (mean m d e).set
        (w e (mean m f e).value fn.member) arg.member in
        record {
          member = subst (λ y. IsMember (result_at (mean m f e).value (mean m a e).value) y.set)
              (sym (mean-put_in m b a e (proper_is_term a pa.term)))
              r.in_set;
          inside = all_true (all_true fn.inside arg.inside) r.defined;
        };
  }

  apply_sound : (f a : Tree) (x y : Typing) → IsSoundTyping m s Sat f x → IsSoundTyping m s Sat a y → (g : Assumptions)
      → Infers g (App f a) (apply_infer s a x y g)
  apply_sound f a x y hx hy g =
      provides_then Holds Valued (Types g f) (Types g (App f a)) (x.infer g) _ (hx.infer g) (λ c pf.
      provides_result Holds Valued (Types g (App f a)) (head s c) _ (λ d h.
      provides_then Holds Valued (λ p. LiesIn m s fits c (TFun p.first p.second)) (Types g (App f a)) (function_of d) _
      (function_found c d (head_lies_in m s fits c d h)) (λ p w.
      provides_then Holds Valued (λ _. Types g a p.first) (Types g (App f a)) (y.check g p.first) _ (hy.check g p.first) (λ _ pa.
      provides_last Holds Valued (Types g (App f a)) (put_in p.second a) (apply_type g f a c p.first p.second pf w pa)))))

  tuple_type : (g : Assumptions) (k : ℕ) (a b c d : Tree) → Types g a c → Types g b d → Types g (Tup k a b) (TPair k c (lift_one d))
  tuple_type g k a b c d pa pb = record {
    term = (pa.term, pb.term);
    in_each = λ e sat.
        let x = pa.in_each e sat in
        let y = pb.in_each e sat in
        record {
          member = pairs_member (λ v. (mean m (lift_one d) (env_with v e)).set) (mean m a e).value (mean m b e).value (mean m c e).set
              x.member (subst (λ z. IsMember (mean m b e).value z.set) (sym (mean-next m d (env_with (mean m a e).value e))) y.member);
          inside = all_true (all_true x.inside y.inside) refl;
        };
  }

  tuple_sound : (k : ℕ) (a b : Tree) (x y : Typing) → IsSoundTyping m s Sat a x → IsSoundTyping m s Sat b y → (g : Assumptions)
      → Infers g (Tup k a b) (tuple_infer k x y g)
  tuple_sound k a b x y hx hy g =
      provides_then Holds Valued (Types g a) (Types g (Tup k a b)) (x.infer g) _ (hx.infer g) (λ c pa.
      provides_then Holds Valued (Types g b) (Types g (Tup k a b)) (y.infer g) _ (hy.infer g) (λ d pb.
      provides_last Holds Valued (Types g (Tup k a b)) (TPair k c (lift_one d)) (tuple_type g k a b c d pa pb)))

  -- an equality is a truth value, and defined where both sides are
  equal_type : (g : Assumptions) (a b : Tree) → ((e : Env) → Sat g e → inside m (Eq a b) e ≡ true) → Types g (Eq a b) TBool
  equal_type g a b h = record {
    term = tt;
    in_each = λ e sat. record
        { member = truth_in (value_eq (mean m a e).value (mean m b e).value) e; inside = h e sat };
  }

  -- both sides of a FORALL are defined where its predicate is
  forall_inside : (g : Assumptions) (a b : Tree) → is_forall a b ≡ true → IsPredicate m Sat g a → (e : Env) → Sat g e
      → inside m (Eq a b) e ≡ true
  forall_inside g (Bind Lambda a p) (Bind Lambda b (Leaf Yes)) h k e sat =
      let r = k e sat in
      all_true (all_true r.1 (binder_inside b True e (subst (λ y. inside m y e ≡ true) (tree_eq-true a b h) r.0) (λ v q. refl))) refl
  forall_inside g _ _ h k e sat = cc

  forall_sound : (a b : Tree) (x : Typing) → is_forall a b ≡ true → IsSoundTyping m s Sat a x → (g : Assumptions)
      → Infers g (Eq a b) (x.predicate g >> pure TBool)
  forall_sound a b x h hx g = provides_then Holds Valued (λ _. IsPredicate m Sat g a) (Types g (Eq a b)) (x.predicate g) (λ _. pure TBool)
      (hx.predicate g) (λ _ k. λ _ _. equal_type g a b (forall_inside g a b h k))

  equal_sound : (a b : Tree) (x y : Typing) → IsSoundTyping m s Sat a x → IsSoundTyping m s Sat b y → (g : Assumptions)
      → Infers g (Eq a b) (equal_infer s a b x y g)
  equal_sound a b x y hx hy g =
      provides_then Holds Valued (Types g a) (Types g (Eq a b)) (x.infer g) _ (hx.infer g) (λ c pa.
      provides_then Holds Valued (Types g b) (Types g (Eq a b)) (y.infer g) _ (hy.infer g) (λ d pb.
      provides_result Holds Valued (Types g (Eq a b)) (most s c) _ (λ u _.
      provides_then Holds Valued (λ _. Unit {0}) (Types g (Eq a b)) (coerce s g b d u) _ (provides_any Holds Valued (coerce s g b d u))
      (λ _ _.
      provides_then Holds Valued (λ _. Unit {0}) (Types g (Eq a b)) (coerce s g a c u) (λ _. pure TBool)
      (provides_any Holds Valued (coerce s g a c u))
      (λ _ _. λ _ _.
      equal_type g a b (λ e sat. all_true (all_true (pa.in_each e sat).inside (pb.in_each e sat).inside) refl))))))

  join_sound : (o : Joint) (a b : Tree) (x y : Typing) → IsSoundTyping m s Sat a x → IsSoundTyping m s Sat b y → (g : Assumptions)
      → Infers g (Join o a b) (join_infer s o a b x y g)
  join_sound Apply a b x y hx hy g = apply_sound a b x y hx hy g
  join_sound (Tuple k) a b x y hx hy g = tuple_sound k a b x y hx hy g
  join_sound Equal a b x y hx hy g = provides_if Holds Valued (Types g (Eq a b)) (is_forall a b) (x.predicate g >> pure TBool)
      (equal_infer s a b x y g)
      (λ h. forall_sound a b x h hx g) (λ _. equal_sound a b x y hx hy g)

  pair_value : (g : Assumptions) (t c a b : Tree) (k : ℕ) → Types g t c → LiesIn m s fits c (TPair k a b) → (e : Env) → Sat g e
      → IsPairIn (mean m t e).value (mean m a e).set (λ v. (mean m b (env_with v e)).set)
  pair_value g t c a b k pt w e sat = member_pairs (λ v. (mean m b (env_with v e)).set) (mean m t e).value (mean m a e).set
      (w e (mean m t e).value (pt.in_each e sat).member)

  first_type : (g : Assumptions) (t c a b : Tree) (k : ℕ) → Types g t c → LiesIn m s fits c (TPair k a b) → Types g (Fst k t) a
  first_type g t c a b k pt w = record {
    term = tt;
    in_each = λ e sat.
        let r = pair_value g t c a b k pt w e sat in
        record {
          member = subst (λ v. IsMember v (mean m a e).set) (sym (ap first_of_pair r.is)) r.first_in;
          inside = all_true (pt.in_each e sat).inside (ap is_pair r.is);
        };
  }

  second_type : (g : Assumptions) (t c a b : Tree) (k : ℕ) → Types g t c → LiesIn m s fits c (TPair k a b)
      → Types g (Snd k t) (put_in b (Fst k t))
  second_type g t c a b k pt w = record {
    term = tt;
    in_each = λ e sat.
        let r = pair_value g t c a b k pt w e sat in
        let at : (mean m (put_in b (Fst k t)) e).set ≡ (mean m b (env_with r.first e)).set = ap (λ x. x.set)
        (mean-put_in m b (Fst k t) e refl) ∙ ap (λ v. (mean m b (env_with v e)).set) (ap first_of_pair r.is) in
        record {
          member = move (sym (ap second_of_pair r.is)) (sym at) r.second_in;
          inside = all_true (pt.in_each e sat).inside (ap is_pair r.is);
        };
  }

  project_sound : (o : Projection) (t : Tree) (x : Typing) → IsSoundTyping m s Sat t x → (g : Assumptions)
      → Infers g (Project o t) (project_infer s o t x g)
  project_sound (First k) t x hx g =
      provides_then Holds Valued (Types g t) (Types g (Fst k t)) (x.infer g) _ (hx.infer g) (λ c pt.
      provides_result Holds Valued (Types g (Fst k t)) (head s c) _ (λ d h.
      provides_then Holds Valued (λ p. LiesIn m s fits c (TPair k p.first p.second)) (Types g (Fst k t)) (tuple_of k d) _
      (tuple_found k c d (head_lies_in m s fits c d h)) (λ p w. λ _ _.
      first_type g t c p.first p.second k pt w)))
  project_sound (Second k) t x hx g =
      provides_then Holds Valued (Types g t) (Types g (Snd k t)) (x.infer g) _ (hx.infer g) (λ c pt.
      provides_result Holds Valued (Types g (Snd k t)) (head s c) _ (λ d h.
      provides_then Holds Valued (λ p. LiesIn m s fits c (TPair k p.first p.second)) (Types g (Snd k t)) (tuple_of k d) _
      (tuple_found k c d (head_lies_in m s fits c d h)) (λ p w.
      provides_within Holds Valued (Types g (Snd k t)) (Fst k t) _ (
      provides_last Holds Valued (Types g (Snd k t)) (put_in p.second (Fst k t)) (second_type g t c p.first p.second k pt w)))))

  -- both branches are of one type
  pub record AreBoth (g h : Assumptions) (a b u : Tree) : Type 0 where
    pub left : HasType m Sat g a u
    pub right : HasType m Sat h b u

  common_sound : (g h : Assumptions) (a b c d : Tree) (us vs : List Tree) → up s c ≡ Ok us → up s d ≡ Ok vs → (o : Option Tree)
      → first_among us vs ≡ o → Types g a c → Types h b d
      → Provides (IsTrueCondition m Sat) (IsValued m s) (λ u. AreBoth g h a b u) (common_type s g h a b c d o)
  common_sound g h a b c d us vs j l (Some u) k pa pb = λ _ _.
      let r = first_sound us vs u k in
      record {
        left = lies_in_type g a c u (up_lies_in m s fits c u us j r.0) pa;
        right = lies_in_type h b d u (up_lies_in m s fits d u vs l r.1) pb;
      }
  common_sound g h a b c d us vs j l None k pa pb =
      provides_result Holds Valued (λ u. AreBoth g h a b u) (most s c) _ (λ u _.
      provides_then Holds Valued (λ _. Converts m Sat g a c u) (λ u. AreBoth g h a b u) (coerce s g a c u) _
      (coerce_sound m s fits Sat counts g a c u pa.term) (λ _ p1.
      provides_then Holds Valued (λ _. Converts m Sat h b d u) (λ u. AreBoth g h a b u) (coerce s h b d u) _
      (coerce_sound m s fits Sat counts h b d u pb.term) (λ _ p2.
      λ _ _. record { left = converts_type g a c u pa p1; right = converts_type h b d u pb p2 })))

  -- a choice is of a type where each branch is, where it is chosen
  choice : (c x y a : Tree) (e : Env) → IsOfType m c TBool e → ((mean m c e).value ≡ Truth true → IsOfType m x a e)
      → ((mean m (negation c) e).value ≡ Truth true → IsOfType m y a e) → IsOfType m (If c x y) a e
  choice c x y a e h k l = go h.member
    where
      of : (b : Bool) → (mean m c e).value ≡ Truth b → IsMember (cond b (mean m x e).value (mean m y e).value) (mean m a e).set
          → cond b (inside m x e) (inside m y e) ≡ true → IsOfType m (If c x y) a e
      of b q r i = record {
        member = subst (λ v. IsMember (cond (is_true v) (mean m x e).value (mean m y e).value) (mean m a e).set) (sym q) r;
        inside = all_true h.inside (subst (λ v. (is_truth v && cond (is_true v) (inside m x e) (inside m y e)) ≡ true) (sym q) i);
      }

      go : IsMember (mean m c e).value (mean m TBool e).set → IsOfType m (If c x y) a e
      go (inl q) = let r = l (ap (λ v. cond (is_true v) (Truth false) (Truth true)) q) in of false q r.member r.inside
      go (inr (inl q)) = let r = k q in of true q r.member r.inside
      go (inr (inr q)) = absurd q

  choice_type : (g : Assumptions) (t a b u : Tree) → Types g t TBool → Types (Hypothesis t ∷ g) a u
      → Types (Hypothesis (negation t) ∷ g) b u → Types g (If t a b) u
  choice_type g t a b u pt pa pb = record {
    term = tt;
    in_each = λ e sat. choice t a b u e (pt.in_each e sat) (λ k. pa.in_each e (counts.under_hypothesis t g e k sat))
        (λ k. pb.in_each e (counts.under_hypothesis (negation t) g e k sat));
  }

  if_sound : (t a b : Tree) (x y z : Typing) → IsSoundTyping m s Sat t x → IsSoundTyping m s Sat a y → IsSoundTyping m s Sat b z
      → (g : Assumptions) → Infers g (If t a b) (if_infer s t a b x y z g)
  if_sound t a b x y z hx hy hz g =
      let is : Assumptions = Hypothesis t ∷ g in
      let not' : Assumptions = Hypothesis (negation t) ∷ g in
      provides_then Holds Valued (λ _. Types g t TBool) (Types g (If t a b)) (x.check g TBool) _ (hx.check g TBool) (λ _ pt.
      provides_then Holds Valued (Types is a) (Types g (If t a b)) (y.infer is) _ (hy.infer is) (λ c pa.
      provides_within Holds Valued (Types g (If t a b)) (negation t) _ (
      provides_then Holds Valued (Types not' b) (Types g (If t a b)) (z.infer not') _ (hz.infer not') (λ d pb.
      provides_result Holds Valued (Types g (If t a b)) (up s c) _ (λ us j.
      provides_result Holds Valued (Types g (If t a b)) (up s d) _ (λ vs l.
      provides_weaker Holds Valued (λ u. AreBoth is not' a b u) (Types g (If t a b)) (common_type s is not' a b c d (first_among us vs))
      (common_sound is not' a b c d us vs j l (first_among us vs) refl pa pb)
      (λ u k. choice_type g t a b u pt k.left k.right)))))))

  if_check_sound : (t a b : Tree) (x y z : Typing) → IsSoundTyping m s Sat t x → IsSoundTyping m s Sat a y → IsSoundTyping m s Sat b z
      → (g : Assumptions) (u : Tree) → Checks g (If t a b) u (if_check t x y z g u)
  if_check_sound t a b x y z hx hy hz g u =
      let is : Assumptions = Hypothesis t ∷ g in
      let not' : Assumptions = Hypothesis (negation t) ∷ g in
      provides_then Holds Valued (λ _. Types g t TBool) (λ _. Types g (If t a b) u) (x.check g TBool) _ (hx.check g TBool) (λ _ pt.
      provides_then Holds Valued (λ _. Types is a u) (λ _. Types g (If t a b) u) (y.check is u) _ (hy.check is u) (λ _ pa.
      provides_within Holds Valued (λ _. Types g (If t a b) u) (negation t) _ (
      provides_weaker Holds Valued (λ _. Types not' b u) (λ _. Types g (If t a b) u) (z.check not' u) (hz.check not' u)
      (λ _ pb. choice_type g t a b u pt pa pb))))

  if_typing_sound : (t a b : Tree) (x y z : Typing) → IsSoundTyping m s Sat t x → IsSoundTyping m s Sat a y → IsSoundTyping m s Sat b z
      → IsSoundTyping m s Sat (If t a b) (if_typing s t a b x y z)
  if_typing_sound t a b x y z hx hy hz =
      let base = term_sound (If t a b) (if_infer s t a b x y z) (if_sound t a b x y z hx hy hz) in
      record { infer = base.infer; check = if_check_sound t a b x y z hx hy hz; well_formed = base.well_formed; predicate = base.predicate }

  pub typing_sound : (t : Tree) → IsSoundTyping m s Sat t (typing s t)
  typing_sound (Leaf o) = leaf_sound o
  typing_sound (Var n) = term_sound (Var n) (variable_infer n) (variable_sound n)
  typing_sound (Name o r) = name_sound o r
  typing_sound (Bind o a b) = bind_sound o a b (typing s a) (typing s b) (typing_sound a) (typing_sound b)
  typing_sound (Join o a b) = term_sound (Join o a b) (join_infer s o a b (typing s a) (typing s b))
      (join_sound o a b (typing s a) (typing s b) (typing_sound a) (typing_sound b))
  typing_sound (Project o a) = term_sound (Project o a) (project_infer s o a (typing s a)) (project_sound o a (typing s a) (typing_sound a))
  typing_sound (If t a b) = if_typing_sound t a b (typing s t) (typing s a) (typing s b) (typing_sound t) (typing_sound a) (typing_sound b)
