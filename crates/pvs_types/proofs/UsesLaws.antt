-- What typing accepts uses the symbols of the tree; coercion uses none.
use Rattle.std.proofs.Common.{◌≡◌, inl, inr, ℕ, Bool, true, false, cond, eqb, List, [], ◌∷◌, ◌++◌, Option, Some, None, Result, Ok, Err, refl, ap, ◌∙◌, sym, subst}
use Rattle.std.specs.List.{Contains}
use Rattle.std.proofs.lemmas.List.{append-nil}
use Rattle.std.proofs.lemmas.List.Elements.{Contains-append_left, Contains-append_right, Contains-append_cases}
use Rattle.pvs_base.specs.declared.code.Code.{Code}
use Rattle.pvs_base.specs.declared.code.Code.TheVariants.{Mismatch, Unknown, NoSuchPart}
use Rattle.pvs_terms.specs.Tree.{Tree, Leaf, Var, Name, Bind, Join, Project, If, Ref, TBool, True, False, TName, Const, TFun, TPair, Lam, Fst, tree_eq}
use Rattle.pvs_terms.specs.declared.shape.Plain.{Plain}
use Rattle.pvs_terms.specs.declared.shape.Plain.TheVariants.{BoolType, Yes, No}
use Rattle.pvs_terms.specs.declared.shape.Sort.{Sort}
use Rattle.pvs_terms.specs.declared.shape.Sort.TheVariants.{OfType, OfTerm}
use Rattle.pvs_terms.specs.declared.shape.Binder.{Binder}
use Rattle.pvs_terms.specs.declared.shape.Binder.TheVariants.{Subtype, Function, Product, Lambda}
use Rattle.pvs_terms.specs.declared.shape.Joint.{Joint}
use Rattle.pvs_terms.specs.declared.shape.Joint.TheVariants.{Apply, Tuple, Equal}
use Rattle.pvs_terms.specs.declared.shape.Projection.{Projection}
use Rattle.pvs_terms.specs.declared.shape.Projection.TheVariants.{First, Second}
use Rattle.pvs_terms.proofs.TreeLaws.{tree_eq-true}
use Rattle.pvs_subst.specs.Replace.{put_in}
use Rattle.pvs_subst.specs.Contexts.{Assumptions, Variable, Hypothesis}
use Rattle.pvs_sig.specs.Lookups.{Lookups}
use Rattle.pvs_types.specs.Outcome.{Conditions, Outcome, Refused, Accepted, outcome_after, ◌>>=◌, ◌>>◌, pure, refuse, owe, uses, from_option, from_result, within_limits}
use Rattle.pvs_types.specs.Forms.{body, by_body, head, up, most, is_among, first_among}
use Rattle.pvs_types.specs.Coerce.{lift_one, application, first_part, second_part, Coercion, same_type, coerce_parts, coerce_pair, coerce_domains, coerce_function, coerce_to, coerce_by, both_sizes, as_coercion, coerce_step, coerce}
use Rattle.pvs_types.specs.Symbols.{symbols}
use Rattle.pvs_types.specs.Typing.{Typing, negation, variable_type, term_typing, type_typing, leaf_typing, variable_infer, constant_infer, name_well_formed, name_typing, predicate_check, dependent_well_formed, lambda_infer, bind_typing, function_of, tuple_of, is_forall, apply_infer, tuple_infer, equal_infer, join_infer, project_infer, common_type, if_infer, if_check, if_typing, typing}
use Rattle.pvs_types.specs.Uses.{AreSameSymbols, Uses}
use Rattle.pvs_types.proofs.BySizeLaws.{by_size_has}
use Rattle.pvs_types.proofs.OutcomeLaws.{within_cases}

-- Lists of symbols as sets.

same_self : (rs : List Ref) → AreSameSymbols rs rs
same_self rs r = ((λ h. h), (λ h. h))

same_append : (rs ss ts us : List Ref) → AreSameSymbols rs ss → AreSameSymbols ts us → AreSameSymbols (rs ++ ts) (ss ++ us)
same_append rs ss ts us h k r = (
  λ c. elim (Contains-append_cases rs ts r c)
      [ inl x ↦ Contains-append_left ss us r ((h r).0 x) | inr x ↦ Contains-append_right ss us r ((k r).0 x) ],
  λ c. elim (Contains-append_cases ss us r c)
      [ inl x ↦ Contains-append_left rs ts r ((h r).1 x) | inr x ↦ Contains-append_right rs ts r ((k r).1 x) ],
)

same_then : (rs ss ts : List Ref) → AreSameSymbols rs ss → AreSameSymbols ss ts → AreSameSymbols rs ts
same_then rs ss ts h k r = (λ c. (k r).0 ((h r).0 c), λ c. (h r).1 ((k r).1 c))

-- Steps in turn.

uses_after : {A : Type 0} (rs ss ts : List Ref) (cs : Conditions) (o : Outcome A) → AreSameSymbols rs ss → Uses ts o
    → Uses (ss ++ ts) (outcome_after cs rs o)
uses_after rs ss ts cs (Refused c) h k = tt
uses_after rs ss ts cs (Accepted a ds us) h k = same_append rs ss us ts h k

uses_then : {A B : Type 0} (ss ts : List Ref) (o : Outcome A) (f : A → Outcome B) → Uses ss o → ((a : A) → Uses ts (f a))
    → Uses (ss ++ ts) (o >>= f)
uses_then ss ts (Refused c) f h k = tt
uses_then ss ts (Accepted a cs rs) f h k = uses_after rs ss ts cs (f a) h (k a)

uses_weaker : {A : Type 0} (ss ts : List Ref) (o : Outcome A) → AreSameSymbols ss ts → Uses ss o → Uses ts o
uses_weaker ss ts (Refused c) h k = tt
uses_weaker ss ts (Accepted a cs rs) h k = same_then rs ss ts k h

-- a first step, or a last one, that uses none
uses_last : {A B : Type 0} (ss : List Ref) (o : Outcome A) (f : A → Outcome B) → Uses ss o → ((a : A) → Uses [] (f a)) → Uses ss (o >>= f)
uses_last ss o f h k = subst (λ rs. Uses rs (o >>= f)) (append-nil ss) (uses_then ss [] o f h k)

uses_result : {A B : Type 0} (ss : List Ref) (x : Result A Code) (f : A → Outcome B) → ((a : A) → Uses ss (f a))
    → Uses ss (from_result x >>= f)
uses_result ss (Ok a) f h = uses_after [] [] ss [] (f a) (same_self []) (h a)
uses_result ss (Err c) f h = tt

uses_option : {A B : Type 0} (ss : List Ref) (c : Code) (o : Option A) (f : A → Outcome B) → ((a : A) → Uses ss (f a))
    → Uses ss (from_option c o >>= f)
uses_option ss c None f h = tt
uses_option ss c (Some a) f h = uses_after [] [] ss [] (f a) (same_self []) (h a)

uses_within : {B : Type 0} (ss : List Ref) (t : Tree) (f : Tree → Outcome B) → ((t : Tree) → Uses ss (f t))
    → Uses ss (within_limits t >>= f)
uses_within ss t f h = within_cases (λ o. Uses ss (o >>= f)) t (uses_after [] [] ss [] (f t) (same_self []) (h t)) tt

within_uses : (t : Tree) → Uses [] (within_limits t)
within_uses t = within_cases (Uses []) t (same_self []) tt

uses_if : {A : Type 0} (ss : List Ref) (b : Bool) (o u : Outcome A) → (b ≡ true → Uses ss o) → (b ≡ false → Uses ss u)
    → Uses ss (cond b o u)
uses_if ss true o u h k = h refl
uses_if ss false o u h k = k refl

module _ (s : Lookups) where
  abbrev IsSilent : Coercion → Type 0
  IsSilent go = (g : Assumptions) (t b a : Tree) → Uses [] (go g t b a)

  same_silent : (b a : Tree) → Uses [] (same_type b a)
  same_silent b a = uses_if [] (tree_eq b a) (pure tt) (refuse Mismatch) (λ _. same_self []) (λ _. tt)

  head_silent : (b a : Tree) → Uses [] (from_result (head s b) >>= (λ d. same_type d a))
  head_silent b a = uses_result [] (head s b) _ (λ d. same_silent d a)

  pair_silent : (go : Coercion) → IsSilent go → (g : Assumptions) (t : Tree) (k : ℕ) (a2 b2 d : Tree)
      → Uses [] (coerce_pair go g t k a2 b2 d)
  pair_silent go h g t k a2 b2 (Bind (Product j) a1 b1) = uses_if [] (eqb j k) (coerce_parts go g t k a1 b1 a2 b2) (refuse Mismatch) (λ _.
      uses_within [] (first_part k t) _ (λ f. uses_last [] (go g f a1 a2) _ (h g f a1 a2) (λ _.
      uses_within [] (second_part k t) _ (λ x. uses_within [] (put_in b1 f) _ (λ c. uses_within [] (put_in b2 f) _ (λ d. h g x c d))))))
      (λ _. tt)
  pair_silent go h g t k a2 b2 _ = tt

  domains_silent : (go : Coercion) → IsSilent go → (g : Assumptions) (a1 a2 : Tree) → Uses [] (coerce_domains go g a1 a2)
  domains_silent go h g a1 a2 = uses_if [] (tree_eq a1 a2) (pure tt) _ (λ _. same_self []) (λ _.
      uses_within [] (lift_one a1) _ (λ c. uses_within [] (lift_one a2) _ (λ d.
      uses_last [] (go (Variable a1 ∷ g) (Var 0) c d) _ (h (Variable a1 ∷ g) (Var 0) c d) (λ _. h (Variable a2 ∷ g) (Var 0) d c))))

  function_silent : (go : Coercion) → IsSilent go → (g : Assumptions) (t a2 b2 d : Tree) → Uses [] (coerce_function go g t a2 b2 d)
  function_silent go h g t a2 b2 (Bind Function a1 b1) = uses_last [] (coerce_domains go g a1 a2) _ (domains_silent go h g a1 a2) (λ _.
      uses_within [] (application a1 t) _ (λ x. h (Variable a1 ∷ g) x b1 b2))
  function_silent go h g t a2 b2 _ = tt

  body_silent : (go : Coercion) → IsSilent go → (g : Assumptions) (t b : Tree) (other : Outcome (Unit {0})) → Uses [] other
      → (o : Option Tree) → Uses [] (by_body (go g t b) other o)
  body_silent go h g t b other k None = k
  body_silent go h g t b other k (Some u) = h g t b u

  to_silent : (go : Coercion) → IsSilent go → (g : Assumptions) (t b a : Tree) → Uses [] (coerce_to s go g t b a)
  to_silent go h g t b (Leaf o) = head_silent b (Leaf o)
  to_silent go h g t b (Name OfType r) = uses_result [] (body s r) _ (λ o. body_silent go h g t b _ (head_silent b (TName r)) o)
  to_silent go h g t b (Bind Subtype a p) = uses_last [] (go g t b a) _ (h g t b a)
      (λ _. uses_within [] (put_in p t) (owe g) (λ goal. same_self []))
  to_silent go h g t b (Bind (Product k) a2 b2) = uses_result [] (head s b) _ (λ d. pair_silent go h g t k a2 b2 d)
  to_silent go h g t b (Bind Function a2 b2) = uses_result [] (head s b) _ (λ d. function_silent go h g t a2 b2 d)
  to_silent go h g t b _ = tt

  by_silent : (go : Coercion) → IsSilent go → IsSilent (coerce_by s go)
  by_silent go h g t b a = uses_result [] (up s b) _
      (λ us. uses_if [] (is_among a us) (pure tt) (coerce_to s go g t b a) (λ _. same_self []) (λ _. to_silent go h g t b a))

  pub coerce_silent : (g : Assumptions) (t b a : Tree) → Uses [] (coerce s g t b a)
  unfolding coerce
  coerce_silent g t b a = by_size_has (both_sizes s) (coerce_step s) (λ x g t. refuse Mismatch)
      (λ x y. (g : Assumptions) (t : Tree) → Uses [] (y g t))
      (λ x g t. tt) (λ go ih x g t. by_silent (as_coercion go) (λ g t b a. ih (b, a) g t) g t x.0 x.1) (b, a) g t

  -- what each answer of a typing uses
  pub record UsesSymbols (t : Tree) (x : Typing) : Type 0 where
    pub infer : (g : Assumptions) → Uses (symbols t) (x.infer g)
    pub check : (g : Assumptions) (a : Tree) → Uses (symbols t) (x.check g a)
    pub well_formed : (g : Assumptions) → Uses (symbols t) (x.well_formed g)
    pub predicate : (g : Assumptions) → Uses (symbols t) (x.predicate g)

  term_uses : (t : Tree) (infer : Assumptions → Outcome Tree) → ((g : Assumptions) → Uses (symbols t) (infer g))
      → UsesSymbols t (term_typing s t infer)
  term_uses t infer h = record {
    infer = h;
    check = λ g a. uses_last (symbols t) (infer g) _ (h g) (λ b. coerce_silent g t b a);
    well_formed = λ g. tt;
    predicate = λ g. tt;
  }

  type_uses : (a : Tree) (well_formed : Assumptions → Outcome (Unit {0})) → ((g : Assumptions) → Uses (symbols a) (well_formed g))
      → UsesSymbols a (type_typing well_formed)
  type_uses a well_formed h = record { infer = λ g. tt; check = λ g b. tt; well_formed = h; predicate = λ g. tt }

  leaf_uses : (o : Plain) → UsesSymbols (Leaf o) (leaf_typing s o)
  leaf_uses BoolType = type_uses TBool (λ g. pure tt) (λ g. same_self [])
  leaf_uses Yes = term_uses True (λ g. pure TBool) (λ g. same_self [])
  leaf_uses No = term_uses False (λ g. pure TBool) (λ g. same_self [])

  variable_uses : (n : ℕ) (g : Assumptions) → Uses [] (variable_infer n g)
  variable_uses n g = uses_option [] Unknown (variable_type g n) within_limits within_uses

  name_uses : (o : Sort) (r : Ref) → UsesSymbols (Name o r) (name_typing s o r)
  name_uses OfType r = type_uses (TName r) (name_well_formed s r)
      (λ g. uses_if (symbols (TName r)) (s.is_type r) (uses (symbols (TName r))) (refuse Unknown) (λ _. same_self (symbols (TName r)))
      (λ _. tt))
  name_uses OfTerm r = term_uses (Const r) (constant_infer s r)
      (λ g. uses_last (symbols (Const r)) (uses (symbols (Const r))) _ (same_self (symbols (Const r)))
      (λ _. uses_option [] Unknown (s.type_of r) within_limits within_uses))

  predicate_uses : (a p : Tree) (x y : Typing) → UsesSymbols a x → UsesSymbols p y → (g : Assumptions)
      → Uses (symbols a ++ symbols p) (predicate_check a x y g)
  predicate_uses a p x y hx hy g = uses_then (symbols a) (symbols p) (x.well_formed g) _ (hx.well_formed g)
      (λ _. hy.check (Variable a ∷ g) TBool)

  dependent_uses : (a b : Tree) (x y : Typing) → UsesSymbols a x → UsesSymbols b y → (g : Assumptions)
      → Uses (symbols a ++ symbols b) (dependent_well_formed a x y g)
  dependent_uses a b x y hx hy g = uses_then (symbols a) (symbols b) (x.well_formed g) _ (hx.well_formed g)
      (λ _. hy.well_formed (Variable a ∷ g))

  lambda_uses : (a b : Tree) (x y : Typing) → UsesSymbols a x → UsesSymbols b y → (g : Assumptions)
      → Uses (symbols a ++ symbols b) (lambda_infer a x y g)
  lambda_uses a b x y hx hy g = uses_then (symbols a) (symbols b) (x.well_formed g) _ (hx.well_formed g) (λ _.
      uses_last (symbols b) (y.infer (Variable a ∷ g)) _ (hy.infer (Variable a ∷ g)) (λ c. within_uses (TFun a c)))

  bind_uses : (o : Binder) (a b : Tree) (x y : Typing) → UsesSymbols a x → UsesSymbols b y
      → UsesSymbols (Bind o a b) (bind_typing s o a b x y)
  bind_uses Subtype a b x y hx hy = type_uses (Bind Subtype a b) (predicate_check a x y) (predicate_uses a b x y hx hy)
  bind_uses Function a b x y hx hy = type_uses (TFun a b) (dependent_well_formed a x y) (dependent_uses a b x y hx hy)
  bind_uses (Product k) a b x y hx hy = type_uses (TPair k a b) (dependent_well_formed a x y) (dependent_uses a b x y hx hy)
  bind_uses Lambda a b x y hx hy =
      let base = term_uses (Lam a b) (lambda_infer a x y) (lambda_uses a b x y hx hy) in
      record { infer = base.infer; check = base.check; well_formed = base.well_formed; predicate = predicate_uses a b x y hx hy }

  function_uses : (d : Tree) → Uses [] (function_of d)
  function_uses (Bind Function a b) = same_self []
  function_uses _ = tt

  tuple_of_uses : (k : ℕ) (d : Tree) → Uses [] (tuple_of k d)
  tuple_of_uses k (Bind (Product j) a b) = uses_if [] (eqb j k) (pure (record { first = a; second = b })) (refuse NoSuchPart)
      (λ _. same_self []) (λ _. tt)
  tuple_of_uses k _ = tt

  apply_uses : (f a : Tree) (x y : Typing) → UsesSymbols f x → UsesSymbols a y → (g : Assumptions)
      → Uses (symbols f ++ symbols a) (apply_infer s a x y g)
  apply_uses f a x y hx hy g = uses_then (symbols f) (symbols a) (x.infer g) _ (hx.infer g) (λ c.
      uses_result (symbols a) (head s c) _ (λ d.
      uses_then [] (symbols a) (function_of d) _ (function_uses d) (λ p.
      uses_last (symbols a) (y.check g p.first) _ (hy.check g p.first) (λ _. within_uses (put_in p.second a)))))

  tuple_uses : (k : ℕ) (a b : Tree) (x y : Typing) → UsesSymbols a x → UsesSymbols b y → (g : Assumptions)
      → Uses (symbols a ++ symbols b) (tuple_infer k x y g)
  tuple_uses k a b x y hx hy g = uses_then (symbols a) (symbols b) (x.infer g) _ (hx.infer g) (λ c.
      uses_last (symbols b) (y.infer g) _ (hy.infer g) (λ d. within_uses (TPair k c (lift_one d))))

  equal_uses : (a b : Tree) (x y : Typing) → UsesSymbols a x → UsesSymbols b y → (g : Assumptions)
      → Uses (symbols a ++ symbols b) (equal_infer s a b x y g)
  equal_uses a b x y hx hy g = uses_then (symbols a) (symbols b) (x.infer g) _ (hx.infer g) (λ c.
      uses_last (symbols b) (y.infer g) _ (hy.infer g) (λ d.
      uses_result [] (most s c) _ (λ u.
      uses_last [] (coerce s g b d u) _ (coerce_silent g b d u) (λ _.
      uses_last [] (coerce s g a c u) _ (coerce_silent g a c u) (λ _. same_self [])))))

  -- the sides of a FORALL have the symbols of its predicate
  forall_symbols : (a b : Tree) → is_forall a b ≡ true → AreSameSymbols (symbols a) (symbols a ++ symbols b)
  forall_symbols (Bind Lambda a p) (Bind Lambda b (Leaf Yes)) h r = (
    λ c. Contains-append_left (symbols a ++ symbols p) (symbols b ++ []) r c,
    λ c. elim (Contains-append_cases (symbols a ++ symbols p) (symbols b ++ []) r c) [
      | inl x ↦ x
      | inr x ↦ Contains-append_left (symbols a) (symbols p) r
          (subst (λ y. Contains y r) (append-nil (symbols b) ∙ ap symbols (sym (tree_eq-true a b h))) x)
    ],
  )
  forall_symbols _ _ h r = cc

  join_uses : (o : Joint) (a b : Tree) (x y : Typing) → UsesSymbols a x → UsesSymbols b y → (g : Assumptions)
      → Uses (symbols a ++ symbols b) (join_infer s o a b x y g)
  join_uses Apply a b x y hx hy g = apply_uses a b x y hx hy g
  join_uses (Tuple k) a b x y hx hy g = tuple_uses k a b x y hx hy g
  join_uses Equal a b x y hx hy g = uses_if (symbols a ++ symbols b) (is_forall a b) (x.predicate g >> pure TBool) (equal_infer s a b x y g)
      (λ h. uses_weaker (symbols a) (symbols a ++ symbols b) (x.predicate g >> pure TBool) (forall_symbols a b h)
      (uses_last (symbols a) (x.predicate g) _ (hx.predicate g) (λ _. same_self [])))
      (λ _. equal_uses a b x y hx hy g)

  project_uses : (o : Projection) (t : Tree) (x : Typing) → UsesSymbols t x → (g : Assumptions) → Uses (symbols t) (project_infer s o t x g)
  project_uses (First k) t x hx g = uses_last (symbols t) (x.infer g) _ (hx.infer g) (λ c.
      uses_result [] (head s c) _ (λ d. uses_last [] (tuple_of k d) _ (tuple_of_uses k d) (λ p. same_self [])))
  project_uses (Second k) t x hx g = uses_last (symbols t) (x.infer g) _ (hx.infer g) (λ c.
      uses_result [] (head s c) _ (λ d. uses_last [] (tuple_of k d) _ (tuple_of_uses k d) (λ p.
      uses_within [] (Fst k t) _ (λ f. within_uses (put_in p.second f)))))

  common_uses : (g h : Assumptions) (a b c d : Tree) (o : Option Tree) → Uses [] (common_type s g h a b c d o)
  common_uses g h a b c d (Some u) = same_self []
  common_uses g h a b c d None = uses_result [] (most s c) _ (λ u.
      uses_last [] (coerce s g a c u) _ (coerce_silent g a c u) (λ _.
      uses_last [] (coerce s h b d u) _ (coerce_silent h b d u) (λ _. same_self [])))

  if_uses : (t a b : Tree) (x y z : Typing) → UsesSymbols t x → UsesSymbols a y → UsesSymbols b z → (g : Assumptions)
      → Uses (symbols t ++ (symbols a ++ symbols b)) (if_infer s t a b x y z g)
  if_uses t a b x y z hx hy hz g = uses_then (symbols t) (symbols a ++ symbols b) (x.check g TBool) _ (hx.check g TBool) (λ _.
      uses_then (symbols a) (symbols b) (y.infer (Hypothesis t ∷ g)) _ (hy.infer (Hypothesis t ∷ g)) (λ c.
      uses_within (symbols b) (negation t) _ (λ n.
      uses_last (symbols b) (z.infer (Hypothesis n ∷ g)) _ (hz.infer (Hypothesis n ∷ g)) (λ d.
      uses_result [] (up s c) _ (λ us. uses_result [] (up s d) _ (λ vs.
      common_uses (Hypothesis t ∷ g) (Hypothesis n ∷ g) a b c d (first_among us vs)))))))

  if_check_uses : (t a b : Tree) (x y z : Typing) → UsesSymbols t x → UsesSymbols a y → UsesSymbols b z → (g : Assumptions) (u : Tree)
      → Uses (symbols t ++ (symbols a ++ symbols b)) (if_check t x y z g u)
  if_check_uses t a b x y z hx hy hz g u = uses_then (symbols t) (symbols a ++ symbols b) (x.check g TBool) _ (hx.check g TBool) (λ _.
      uses_then (symbols a) (symbols b) (y.check (Hypothesis t ∷ g) u) _ (hy.check (Hypothesis t ∷ g) u) (λ _.
      uses_within (symbols b) (negation t) _ (λ n. hz.check (Hypothesis n ∷ g) u)))

  if_typing_uses : (t a b : Tree) (x y z : Typing) → UsesSymbols t x → UsesSymbols a y → UsesSymbols b z
      → UsesSymbols (If t a b) (if_typing s t a b x y z)
  if_typing_uses t a b x y z hx hy hz =
      let base = term_uses (If t a b) (if_infer s t a b x y z) (if_uses t a b x y z hx hy hz) in
      record { infer = base.infer; check = if_check_uses t a b x y z hx hy hz; well_formed = base.well_formed; predicate = base.predicate }

  pub typing_uses : (t : Tree) → UsesSymbols t (typing s t)
  typing_uses (Leaf o) = leaf_uses o
  typing_uses (Var n) = term_uses (Var n) (variable_infer n) (variable_uses n)
  typing_uses (Name o r) = name_uses o r
  typing_uses (Bind o a b) = bind_uses o a b (typing s a) (typing s b) (typing_uses a) (typing_uses b)
  typing_uses (Join o a b) = term_uses (Join o a b) (join_infer s o a b (typing s a) (typing s b))
      (join_uses o a b (typing s a) (typing s b) (typing_uses a) (typing_uses b))
  typing_uses (Project o a) = term_uses (Project o a) (project_infer s o a (typing s a)) (project_uses o a (typing s a) (typing_uses a))
  typing_uses (If t a b) = if_typing_uses t a b (typing s t) (typing s a) (typing s b) (typing_uses t) (typing_uses a) (typing_uses b)
