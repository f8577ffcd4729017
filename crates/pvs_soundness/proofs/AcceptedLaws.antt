-- What holds of the trees that typing accepts, by cases of their nodes.
use Rattle.std.proofs.Common.{◌≡◌, ℕ, suc, Bool, true, false, cond, List, [], ◌∷◌, Option, Some, None, refl, subst}
use Rattle.pvs_base.specs.declared.code.Code.{Code}
use Rattle.pvs_base.specs.declared.code.Code.TheVariants.{Unknown}
use Rattle.pvs_terms.specs.Tree.{Tree, Leaf, Var, Name, Bind, Join, Project, If, Ref, TBool, True, False, TName, Const, TSub, TFun, TPair, Lam, App, Tup, Eq}
use Rattle.pvs_terms.specs.declared.shape.Plain.{Plain}
use Rattle.pvs_terms.specs.declared.shape.Plain.TheVariants.{BoolType, Yes, No}
use Rattle.pvs_terms.specs.declared.shape.Sort.{Sort}
use Rattle.pvs_terms.specs.declared.shape.Sort.TheVariants.{OfType, OfTerm}
use Rattle.pvs_terms.specs.declared.shape.Binder.{Binder}
use Rattle.pvs_terms.specs.declared.shape.Binder.TheVariants.{Subtype, Function, Product, Lambda}
use Rattle.pvs_terms.specs.declared.shape.Joint.{Joint}
use Rattle.pvs_terms.specs.declared.shape.Joint.TheVariants.{Apply, Tuple, Equal}
use Rattle.pvs_terms.specs.declared.shape.Projection.{Projection}
use Rattle.pvs_terms.specs.declared.shape.Projection.TheVariants.{First, Second}
use Rattle.pvs_terms.proofs.TreeLaws.{tree_eq-true}
use Rattle.pvs_subst.specs.Contexts.{Assumptions, Variable, Hypothesis}
use Rattle.pvs_sig.specs.Lookups.{Lookups}
use Rattle.pvs_types.specs.Outcome.{Conditions, Outcome, Refused, Accepted, outcome_after, ◌>>=◌, ◌>>◌, pure, uses, from_option, from_result, within_limits}
use Rattle.pvs_types.specs.Forms.{head}
use Rattle.pvs_types.specs.Symbols.{symbols}
use Rattle.pvs_types.specs.Typing.{Typing, Components, negation, function_of, binder_type, lift_option, term_typing, type_typing, leaf_typing, variable_infer, constant_infer, name_typing, predicate_check, dependent_well_formed, lambda_infer, bind_typing, is_forall, apply_infer, tuple_infer, equal_infer, join_infer, project_infer, if_infer, if_check, if_typing, typing}
use Rattle.pvs_types.proofs.OutcomeLaws.{within_cases}
use Rattle.pvs_soundness.specs.Laws.{WhereAccepted}

-- what is accepted after a step was accepted in both
after_accepted : {A : Type 0} (P : Type 0) (cs : Conditions) (rs : List Ref) (o : Outcome A) → WhereAccepted P o → WhereAccepted P (outcome_after cs rs o)
after_accepted P cs rs (Refused c) h = tt
after_accepted P cs rs (Accepted a ds ss) h = h

pub weaker : {A : Type 0} (P Q : Type 0) (o : Outcome A) → (P → Q) → WhereAccepted P o → WhereAccepted Q o
weaker P Q (Refused c) k h = tt
weaker P Q (Accepted a cs rs) k h = k h

holding : {A : Type 0} (P : Type 0) (o : Outcome A) → P → WhereAccepted P o
holding P (Refused c) h = tt
holding P (Accepted a cs rs) h = h

-- by the first step, by the second, or by both
first_step : {A B : Type 0} (P : Type 0) (o : Outcome A) (f : A → Outcome B) → WhereAccepted P o → WhereAccepted P (o >>= f)
first_step P (Refused c) f h = tt
first_step P (Accepted a cs rs) f h = after_accepted P cs rs (f a) (holding P (f a) h)

second_step : {A B : Type 0} (P : Type 0) (o : Outcome A) (f : A → Outcome B) → ((a : A) → WhereAccepted P (f a)) → WhereAccepted P (o >>= f)
second_step P (Refused c) f h = tt
second_step P (Accepted a cs rs) f h = after_accepted P cs rs (f a) (h a)

both_steps : {A B : Type 0} (P Q R : Type 0) (o : Outcome A) (f : A → Outcome B) → (P → Q → R) → WhereAccepted P o → ((a : A) → WhereAccepted Q (f a))
    → WhereAccepted R (o >>= f)
both_steps P Q R (Refused c) f j h k = tt
both_steps P Q R (Accepted a cs rs) f j h k = after_accepted R cs rs (f a) (weaker Q R (f a) (j h) (k a))

if_step : {A : Type 0} (P : Type 0) (b : Bool) (o u : Outcome A) → (b ≡ true → WhereAccepted P o) → (b ≡ false → WhereAccepted P u)
    → WhereAccepted P (cond b o u)
if_step P true o u h k = h refl
if_step P false o u h k = k refl

-- What accepted terms and accepted types have in a context, where each node has it whose parts have it.
pub record IsKept (s : Lookups) (T Y : Assumptions → Tree → Type 0) : Type 0 where
  pub truth : (g : Assumptions) → Y g TBool
  pub yes : (g : Assumptions) → T g True
  pub no : (g : Assumptions) → T g False
  pub variable : (g : Assumptions) (n : ℕ) (a : Tree) → binder_type g n ≡ Some a → T g (Var n)
  pub constant : (g : Assumptions) (r : Ref) (a : Tree) → s.type_of r ≡ Some a → T g (Const r)
  pub name : (g : Assumptions) (r : Ref) → s.is_type r ≡ true → Y g (TName r)
  pub subtype : (g : Assumptions) (a p : Tree) → Y g a → T (Variable a ∷ g) p → Y g (TSub a p)
  pub function : (g : Assumptions) (a b : Tree) → Y g a → Y (Variable a ∷ g) b → Y g (TFun a b)
  pub product : (g : Assumptions) (k : ℕ) (a b : Tree) → Y g a → Y (Variable a ∷ g) b → Y g (TPair k a b)
  pub abstraction : (g : Assumptions) (a b : Tree) → Y g a → T (Variable a ∷ g) b → T g (Lam a b)
  pub application : (g : Assumptions) (a b : Tree) → T g a → T g b → T g (App a b)
  pub tuple : (g : Assumptions) (k : ℕ) (a b : Tree) → T g a → T g b → T g (Tup k a b)
  pub equation : (g : Assumptions) (a b : Tree) → T g a → T g b → T g (Eq a b)
  pub universal : (g : Assumptions) (a p : Tree) → T g (Lam a p) → T g (Eq (Lam a p) (Lam a True))
  pub projection : (g : Assumptions) (o : Projection) (a : Tree) → T g a → T g (Project o a)
  pub choice : (g : Assumptions) (t a b : Tree) → T g t → T (Hypothesis t ∷ g) a → T (Hypothesis (negation t) ∷ g) b → T g (If t a b)

module _ (s : Lookups) (T Y : Assumptions → Tree → Type 0) (kept : IsKept s T Y) where
  pub record Keeps (t : Tree) (x : Typing) : Type 0 where
    pub infer : (g : Assumptions) → WhereAccepted (T g t) (x.infer g)
    pub check : (g : Assumptions) (a : Tree) → WhereAccepted (T g t) (x.check g a)
    pub well_formed : (g : Assumptions) → WhereAccepted (Y g t) (x.well_formed g)
    pub predicate : (g : Assumptions) → WhereAccepted (T g t) (x.predicate g)

  term_kept : (t : Tree) (infer : Assumptions → Outcome Tree) → ((g : Assumptions) → WhereAccepted (T g t) (infer g)) → Keeps t (term_typing s t infer)
  term_kept t infer h = record {
    infer = h;
    check = λ g a. first_step (T g t) (infer g) _ (h g);
    well_formed = λ g. tt;
    predicate = λ g. tt;
  }

  type_kept : (a : Tree) (well_formed : Assumptions → Outcome (Unit {0})) → ((g : Assumptions) → WhereAccepted (Y g a) (well_formed g)) → Keeps a (type_typing well_formed)
  type_kept a well_formed h = record { infer = λ g. tt; check = λ g b. tt; well_formed = h; predicate = λ g. tt }

  leaf_kept : (o : Plain) → Keeps (Leaf o) (leaf_typing s o)
  leaf_kept BoolType = type_kept TBool (λ g. pure tt) kept.truth
  leaf_kept Yes = term_kept True (λ g. pure TBool) kept.yes
  leaf_kept No = term_kept False (λ g. pure TBool) kept.no

  option_accepted : {B : Type 0} (P : Type 0) (c : Code) (o : Option Tree) (by : ℕ) (f : Tree → Outcome B) → ((a : Tree) → o ≡ Some a → P)
      → WhereAccepted P (from_option c (lift_option by o) >>= f)
  option_accepted P c None by f h = tt
  option_accepted P c (Some a) by f h = second_step P (pure _) f (λ b. holding P (f b) (h a refl))

  variable_kept : (n : ℕ) (g : Assumptions) → WhereAccepted (T g (Var n)) (variable_infer n g)
  variable_kept n g = option_accepted (T g (Var n)) Unknown (binder_type g n) (suc n) within_limits (λ a h. kept.variable g n a h)

  found_accepted : (P : Type 0) (o : Option Tree) → ((a : Tree) → o ≡ Some a → P) → WhereAccepted P (from_option Unknown o >>= within_limits)
  found_accepted P None h = tt
  found_accepted P (Some a) h = second_step P (pure a) within_limits (λ b. holding P (within_limits b) (h a refl))

  constant_kept : (r : Ref) (g : Assumptions) → WhereAccepted (T g (Const r)) (constant_infer s r g)
  constant_kept r g = second_step (T g (Const r)) (uses (symbols (Const r))) _ (λ _. found_accepted (T g (Const r)) (s.type_of r) (λ a h. kept.constant g r a h))

  name_kept : (o : Sort) (r : Ref) → Keeps (Name o r) (name_typing s o r)
  name_kept OfType r = type_kept (TName r) _ (λ g. if_step (Y g (TName r)) (s.is_type r) _ _ (λ h. holding (Y g (TName r)) (uses (symbols (TName r))) (kept.name g r h)) (λ h. tt))
  name_kept OfTerm r = term_kept (Const r) _ (constant_kept r)

  predicate_kept : (R : Type 0) (a p : Tree) (x y : Typing) (g : Assumptions) → (Y g a → T (Variable a ∷ g) p → R) → Keeps a x → Keeps p y
      → WhereAccepted R (predicate_check a x y g)
  predicate_kept R a p x y g j hx hy = both_steps (Y g a) (T (Variable a ∷ g) p) R (x.well_formed g) _ j (hx.well_formed g) (λ _. hy.check (Variable a ∷ g) TBool)

  dependent_kept : (R : Type 0) (a b : Tree) (x y : Typing) (g : Assumptions) → (Y g a → Y (Variable a ∷ g) b → R) → Keeps a x → Keeps b y
      → WhereAccepted R (dependent_well_formed a x y g)
  dependent_kept R a b x y g j hx hy = both_steps (Y g a) (Y (Variable a ∷ g) b) R (x.well_formed g) _ j (hx.well_formed g) (λ _. hy.well_formed (Variable a ∷ g))

  lambda_kept : (a b : Tree) (x y : Typing) → Keeps a x → Keeps b y → (g : Assumptions) → WhereAccepted (T g (Lam a b)) (lambda_infer a x y g)
  lambda_kept a b x y hx hy g = both_steps (Y g a) (T (Variable a ∷ g) b) (T g (Lam a b)) (x.well_formed g) _ (kept.abstraction g a b) (hx.well_formed g)
      (λ _. first_step (T (Variable a ∷ g) b) (y.infer (Variable a ∷ g)) _ (hy.infer (Variable a ∷ g)))

  bind_kept : (o : Binder) (a b : Tree) (x y : Typing) → Keeps a x → Keeps b y → Keeps (Bind o a b) (bind_typing s o a b x y)
  bind_kept Subtype a b x y hx hy = type_kept (TSub a b) (predicate_check a x y) (λ g. predicate_kept (Y g (TSub a b)) a b x y g (kept.subtype g a b) hx hy)
  bind_kept Function a b x y hx hy = type_kept (TFun a b) (dependent_well_formed a x y) (λ g. dependent_kept (Y g (TFun a b)) a b x y g (kept.function g a b) hx hy)
  bind_kept (Product k) a b x y hx hy = type_kept (TPair k a b) (dependent_well_formed a x y) (λ g. dependent_kept (Y g (TPair k a b)) a b x y g (kept.product g k a b) hx hy)
  bind_kept Lambda a b x y hx hy =
      let base = term_kept (Lam a b) (lambda_infer a x y) (lambda_kept a b x y hx hy) in
      record { infer = base.infer; check = base.check; well_formed = base.well_formed; predicate = λ g. predicate_kept (T g (Lam a b)) a b x y g (kept.abstraction g a b) hx hy }

  apply_kept : (f a : Tree) (x y : Typing) → Keeps f x → Keeps a y → (g : Assumptions) → WhereAccepted (T g (App f a)) (apply_infer s a x y g)
  apply_kept f a x y hx hy g = both_steps (T g f) (T g a) (T g (App f a)) (x.infer g) _ (kept.application g f a) (hx.infer g) (λ c.
      second_step (T g a) (from_result (head s c)) _ (λ d.
      second_step {A = Components} (T g a) (function_of d) _ (λ p. first_step (T g a) (y.check g p.first) _ (hy.check g p.first))))

  tuple_kept : (k : ℕ) (a b : Tree) (x y : Typing) → Keeps a x → Keeps b y → (g : Assumptions) → WhereAccepted (T g (Tup k a b)) (tuple_infer k x y g)
  tuple_kept k a b x y hx hy g = both_steps (T g a) (T g b) (T g (Tup k a b)) (x.infer g) _ (kept.tuple g k a b) (hx.infer g)
      (λ c. first_step (T g b) (y.infer g) _ (hy.infer g))

  equal_kept : (a b : Tree) (x y : Typing) → Keeps a x → Keeps b y → (g : Assumptions) → WhereAccepted (T g (Eq a b)) (equal_infer s a b x y g)
  equal_kept a b x y hx hy g = both_steps (T g a) (T g b) (T g (Eq a b)) (x.infer g) _ (kept.equation g a b) (hx.infer g)
      (λ c. first_step (T g b) (y.infer g) _ (hy.infer g))

  -- the right side of a FORALL is TRUE on the domain of the left one
  forall_kept : (g : Assumptions) (a b : Tree) → is_forall a b ≡ true → T g a → T g (Eq a b)
  forall_kept g (Bind Lambda a p) (Bind Lambda b (Leaf Yes)) h k = subst (λ c. T g (Eq (Lam a p) (Lam c True))) (tree_eq-true a b h) (kept.universal g a p k)
  forall_kept g _ _ h k = cc

  join_kept : (o : Joint) (a b : Tree) (x y : Typing) → Keeps a x → Keeps b y → (g : Assumptions) → WhereAccepted (T g (Join o a b)) (join_infer s o a b x y g)
  join_kept Apply a b x y hx hy g = apply_kept a b x y hx hy g
  join_kept (Tuple k) a b x y hx hy g = tuple_kept k a b x y hx hy g
  join_kept Equal a b x y hx hy g = if_step (T g (Eq a b)) (is_forall a b) (x.predicate g >> pure TBool) (equal_infer s a b x y g)
      (λ h. first_step (T g (Eq a b)) (x.predicate g) _ (weaker (T g a) (T g (Eq a b)) (x.predicate g) (forall_kept g a b h) (hx.predicate g)))
      (λ _. equal_kept a b x y hx hy g)

  project_kept : (o : Projection) (t : Tree) (x : Typing) → Keeps t x → (g : Assumptions) → WhereAccepted (T g (Project o t)) (project_infer s o t x g)
  project_kept (First k) t x hx g = first_step (T g (Project (First k) t)) (x.infer g) _ (weaker (T g t) (T g (Project (First k) t)) (x.infer g) (kept.projection g (First k) t) (hx.infer g))
  project_kept (Second k) t x hx g = first_step (T g (Project (Second k) t)) (x.infer g) _ (weaker (T g t) (T g (Project (Second k) t)) (x.infer g) (kept.projection g (Second k) t) (hx.infer g))

  pairwise : (g : Assumptions) (t a b : Tree) → T g t → T (Hypothesis t ∷ g) a × T (Hypothesis (negation t) ∷ g) b → T g (If t a b)
  pairwise g t a b h k = kept.choice g t a b h k.0 k.1

  -- the negation of the condition is that tree, where it is within limits
  under_negation : {B : Type 0} (P : Type 0) (t : Tree) (f : Tree → Outcome B) → WhereAccepted P (f t) → WhereAccepted P (within_limits t >>= f)
  under_negation P t f h = within_cases (λ o. WhereAccepted P (o >>= f)) t (after_accepted P [] [] (f t) h) tt

  if_kept : (t a b : Tree) (x y z : Typing) → Keeps t x → Keeps a y → Keeps b z → (g : Assumptions) → WhereAccepted (T g (If t a b)) (if_infer s t a b x y z g)
  if_kept t a b x y z hx hy hz g = both_steps (T g t) (T (Hypothesis t ∷ g) a × T (Hypothesis (negation t) ∷ g) b) (T g (If t a b)) (x.check g TBool) _ (pairwise g t a b) (hx.check g TBool) (λ _.
      both_steps (T (Hypothesis t ∷ g) a) (T (Hypothesis (negation t) ∷ g) b) _ (y.infer (Hypothesis t ∷ g)) _ (λ p q. (p, q)) (hy.infer (Hypothesis t ∷ g)) (λ c.
      under_negation {B = Tree} (T (Hypothesis (negation t) ∷ g) b) (negation t) _ (first_step (T (Hypothesis (negation t) ∷ g) b) (z.infer (Hypothesis (negation t) ∷ g)) _ (hz.infer (Hypothesis (negation t) ∷ g)))))

  if_check_kept : (t a b : Tree) (x y z : Typing) → Keeps t x → Keeps a y → Keeps b z → (g : Assumptions) (u : Tree) → WhereAccepted (T g (If t a b)) (if_check t x y z g u)
  if_check_kept t a b x y z hx hy hz g u = both_steps (T g t) (T (Hypothesis t ∷ g) a × T (Hypothesis (negation t) ∷ g) b) (T g (If t a b)) (x.check g TBool) _ (pairwise g t a b) (hx.check g TBool) (λ _.
      both_steps (T (Hypothesis t ∷ g) a) (T (Hypothesis (negation t) ∷ g) b) _ (y.check (Hypothesis t ∷ g) u) _ (λ p q. (p, q)) (hy.check (Hypothesis t ∷ g) u) (λ _.
      under_negation {B = Unit {0}} (T (Hypothesis (negation t) ∷ g) b) (negation t) _ (hz.check (Hypothesis (negation t) ∷ g) u)))

  if_typing_kept : (t a b : Tree) (x y z : Typing) → Keeps t x → Keeps a y → Keeps b z → Keeps (If t a b) (if_typing s t a b x y z)
  if_typing_kept t a b x y z hx hy hz =
      let base = term_kept (If t a b) (if_infer s t a b x y z) (if_kept t a b x y z hx hy hz) in
      record { infer = base.infer; check = if_check_kept t a b x y z hx hy hz; well_formed = base.well_formed; predicate = base.predicate }

  pub typing_kept : (t : Tree) → Keeps t (typing s t)
  typing_kept (Leaf o) = leaf_kept o
  typing_kept (Var n) = term_kept (Var n) (variable_infer n) (variable_kept n)
  typing_kept (Name o r) = name_kept o r
  typing_kept (Bind o a b) = bind_kept o a b (typing s a) (typing s b) (typing_kept a) (typing_kept b)
  typing_kept (Join o a b) = term_kept (Join o a b) (join_infer s o a b (typing s a) (typing s b))
      (join_kept o a b (typing s a) (typing s b) (typing_kept a) (typing_kept b))
  typing_kept (Project o a) = term_kept (Project o a) (project_infer s o a (typing s a)) (project_kept o a (typing s a) (typing_kept a))
  typing_kept (If t a b) = if_typing_kept t a b (typing s t) (typing s a) (typing s b) (typing_kept t) (typing_kept a) (typing_kept b)
