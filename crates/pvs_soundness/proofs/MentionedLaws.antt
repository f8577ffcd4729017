-- Elaborated trees mention only what names stand for, and what these lead to, and their tuples have two components or more.
use Rattle.std.proofs.Common.{◌≡◌, ℕ, zero, suc, pred, Bool, true, false, cond, List, [], ◌∷◌, length, refl, subst, arith}
use Rattle.std.proofs.lemmas.Bool.{lt-ltb}
use Rattle.std.specs.Prelude.{Option, Some, None, nat_eq, nat_lt, bytes_eq, if◌then◌else◌, Result, Ok, Err}
use Rattle.pvs_base.specs.Answers.{◌>>=◌}
use Rattle.pvs_base.specs.declared.place.Pos.{Pos}
use Rattle.pvs_base.specs.declared.code.Code.{Code}
use Rattle.pvs_terms.specs.Tree.{Text, Tree, Ref, Var, True, False, TBool, TName, Const, TSub, TFun, TPair, Lam, App, Tup, Fst, Snd, Eq, If}
use Rattle.pvs_terms.specs.Tree.{Leaf, Bind}
use Rattle.pvs_terms.specs.declared.shape.Plain.TheVariants.{BoolType}
use Rattle.pvs_terms.specs.declared.shape.Binder.TheVariants.{Function as FunctionType, Product as ProductType}
use Rattle.pvs_subst.specs.Replace.{put_in}
use Rattle.pvs_subst.specs.Contexts.{Hypothesis}
use Rattle.pvs_sig.specs.Lookups.{Lookups, IsOrdered}
use Rattle.pvs_soundness.specs.Vocabulary.{Vocabulary, HasArity, IsOver, vocabulary_of}
use Rattle.pvs_types.specs.Outcome.{Outcome, Refused, Accepted, from_result}
use Rattle.pvs_types.specs.Outcome as outcome
use Rattle.pvs_types.specs.Forms.{head}
use Rattle.pvs_types.specs.Coerce.{lift_one, coerce}
use Rattle.pvs_types.specs.Typing.{function_of, tuple_of, is_forall, negation, typing, infer, check, well_formed}
use Rattle.pvs_elab.specs.Answer.{Answer, within_limits_at, from_text_or_outcome, from_name, from_outcome_at}
use Rattle.pvs_elab.specs.Names.{Names}
use Rattle.pvs_elab.specs.Phrase.{Phrase, Name, Truth, Apply, Tuple, Part, Group, Choice, Not, Equal, Iff, All, Lambda, Let, LetAs, TypeOf, Sub, Predicate, Function, Product, Other}
use Rattle.pvs_elab.specs.Elab.{Local, Here, TypedTree, Elab, local_named, lifted_locals, parts_onto, under_variable, under_name, under_hypothesis, universal}
use Rattle.pvs_elab.specs.Elab as elaboration
use Rattle.pvs_elab.specs.Laws.{Gives, Holds, IsLawful}
use Rattle.pvs_elab.proofs.AnswerLaws.{holds_then, holds_if, within_limits_then, within_limits_last, outcome_then, part_then}
use Rattle.pvs_elab.proofs.ElabLaws.{elab_lawful}
use Rattle.pvs_soundness.specs.Local.{IsClosedSet}
use Rattle.pvs_soundness.specs.Mentioned.{EachLocal, EachHere, EachName, StaysIn}
use Rattle.pvs_soundness.proofs.LocalForms.{each_lift}
use Rattle.pvs_soundness.proofs.LocalTyping.{inferred_each, head_each}

always : {A : Type 0} (r : Answer A) → Holds (λ _. Unit {0}) r
always (Ok a) = tt
always (Err f) = tt

-- a step whose answer is of no account
any_then : {A B : Type 0} (Q : B → Type 0) (r : Answer A) (f : A → Answer B) → ((a : A) → Holds Q (f a)) → Holds Q (r >>= f)
any_then Q (Ok a) f k = k a
any_then Q (Err e) f k = tt

pub named_then : {A B : Type 0} (Q : B → Type 0) (at : Pos) (r : Result A Code) (f : A → Answer B) → ((a : A) → r ≡ Ok a → Holds Q (f a)) → Holds Q (from_name at r >>= f)
named_then Q at (Ok a) f k = k a refl
named_then Q at (Err c) f k = tt

either_holds : {A : Type 0} (Q : A → Type 0) (b : Bool) (x y : Answer A) → (b ≡ true → Holds Q x) → (b ≡ false → Holds Q y) → Holds Q (if b then x else y)
either_holds Q true x y p q = p refl
either_holds Q false x y p q = q refl

made_then : {A : Type 0} (Q : A → Type 0) (at : Pos) (t : Tree) (f : Tree → Answer A) → Holds Q (f t) → Holds Q (within_limits_at at t >>= f)
made_then Q at t f k = within_limits_then Q at t f (λ w. k)

each_lifted : (V : Vocabulary) (ls : List Local) → EachLocal V ls → EachLocal V (lifted_locals ls)
each_lifted V [] h = tt
each_lifted V (l ∷ ls) h = (each_lift V l.term 1 0 h.0, each_lifted V ls h.1)

-- a tuple has two components or more
tuple_arity : (p : Ref → Bool) (k : ℕ) → HasArity (vocabulary_of p) (suc (suc k))
tuple_arity p k = lt-ltb 1 (suc (suc k)) (omega arith)

fewer : (p : Ref → Bool) (k : ℕ) → HasArity (vocabulary_of p) k → nat_eq k 2 ≡ false → HasArity (vocabulary_of p) (pred k)
fewer p zero h e = cc
fewer p (suc zero) h e = cc
fewer p (suc (suc zero)) h e = cc
fewer p (suc (suc (suc k))) h e = tuple_arity p k

each_onto : (p : Ref → Bool) (ls : List Local) (t : Tree) (xs : List Text) → EachLocal (vocabulary_of p) ls → IsOver (vocabulary_of p) t
    → EachLocal (vocabulary_of p) (parts_onto ls t xs)
each_onto p ls t [] h k = h
each_onto p ls t (x ∷ []) h k = (k, h)
each_onto p ls t (x ∷ y ∷ xs) h k = let i = tuple_arity p (length xs) in each_onto p _ _ (y ∷ xs) ((k, i), h) (k, i)

each_named : (V : Vocabulary) (x : Text) (ls : List Local) (t : Tree) → EachLocal V ls → local_named x ls ≡ Some t → IsOver V t
each_named V x [] t h e = cc
each_named V x (l ∷ ls) t h e = go (bytes_eq x l.name) (each_named V x ls t h.1) e
  where
    go : (b : Bool) → (local_named x ls ≡ Some t → IsOver V t) → cond b (Some l.term) (local_named x ls) ≡ Some t → IsOver V t
    go true later k = let z : l.term ≡ t = cc in subst (IsOver V) z h.0
    go false later k = later k

-- the domain of a type of predicates is a part of that type
domain_if_each : (V : Vocabulary) (a a' : Tree) (b : Tree) → IsOver V a → Gives (elaboration.domain_if a b) a' → IsOver V a'
domain_if_each V a a' (Leaf BoolType) p g = subst (IsOver V) g p
domain_if_each V a a' _ p g = absurd g

domain_each : (V : Vocabulary) (s : Lookups) (d a : Tree) → IsOver V d → Gives (elaboration.domain_of s d) a → IsOver V a
domain_each V s (Bind FunctionType b c) a p g = go (head s c) g
  where
    go : (x : Result Tree Code) → Gives (outcome.◌>>=◌ (from_result x) (elaboration.domain_if b)) a → IsOver V a
    go (Ok e) k = after (elaboration.domain_if b e) (domain_if_each V b a e p.0) k
      where
        after : (o : Outcome Tree) → (Gives o a → IsOver V a) → Gives (outcome.outcome_after [] [] o) a → IsOver V a
        after (Refused c) h k = absurd k
        after (Accepted x cs rs) h k = h k
    go (Err e) k = absurd k
domain_each V s _ a p g = absurd g

module _ (refers : Ref → Bool) (s : Lookups) (names : Names) (ordered : IsOrdered s) (closed : IsClosedSet (vocabulary_of refers) s)
    (each : EachName (vocabulary_of refers) names) where
  abbrev V : Vocabulary
  V = vocabulary_of refers

  pub variable_each : (xs : List Text) (a : Tree) (h : Here) → IsOver V a → EachHere V h → EachHere V (under_variable xs a h)
  variable_each xs a h p q = record { locals = each_onto refers (lifted_locals h.locals) (Var 0) xs (each_lifted V h.locals q.locals) tt; context = (p, q.context) }

  name_each : (x : Text) (a : Tree) (h : Here) → IsOver V a → EachHere V h → EachHere V (under_name x a h)
  name_each x a h p q = variable_each (x ∷ []) a h p q

  hypothesis_each : (p : Tree) (h : Here) → IsOver V p → EachHere V h → EachHere V (under_hypothesis p h)
  hypothesis_each p h k q = record { locals = q.locals; context = (k, q.context) }

  abbrev TermIn : TypedTree → Type 0
  TermIn t = IsOver V t.tree

  term_stays : (pos : Pos) (f : Here → Answer TypedTree) → ((h : Here) → EachHere V h → Holds TermIn (f h)) → StaysIn V (elaboration.term_elab s pos f)
  term_stays pos f k = record {
    infer = k;
    check = λ h at a q. holds_then TermIn (IsOver V) (f h) _ (k h q) (λ t p. any_then (IsOver V) (from_outcome_at at at (coerce s h.context t.tree t.ty a)) _ (λ u. p));
    formed = λ h q. tt;
  }

  kind_stays : (pos : Pos) (f : Here → Answer Tree) → ((h : Here) → EachHere V h → Holds (IsOver V) (f h)) → StaysIn V (elaboration.type_elab pos f)
  kind_stays pos f k = record { infer = λ h q. tt; check = λ h at a q. tt; formed = k }

  term_named : (x : Text) (pos : Pos) (o : Option Tree) {A : Type 0} (Q : A → Type 0) (f : Tree → Answer A) → ((t : Tree) → o ≡ Some t → IsOver V t)
      → ((t : Tree) → IsOver V t → Holds Q (f t)) → Holds Q (elaboration.name_term names x pos o >>= f)
  term_named x pos (Some t) Q f h k = within_limits_then Q pos t f (λ w. k t (h t refl))
  term_named x pos None Q f h k = named (names.constant_named x) (each.constants x) where
    named : (r : Result Ref Code) → ((y : Ref) → r ≡ Ok y → IsOver V (Const y)) → Holds Q ((from_name pos r >>= λ r. within_limits_at pos (Const r)) >>= f)
    named (Ok r) p = within_limits_then Q pos (Const r) f (λ w. k (Const r) (p r refl))
    named (Err c) p = tt

  name_stays : (x : Text) (pos : Pos) → StaysIn V (elaboration.name_elab s names x pos)
  name_stays x pos = record {
    infer = λ h q. term_named x pos (local_named x h.locals) TermIn _ (λ t e. each_named V x h.locals t q.locals e) (λ t p. any_then TermIn (from_outcome_at pos pos (infer s h.context t)) _ (λ a. p));
    check = λ h at a q. term_named x pos (local_named x h.locals) (IsOver V) _ (λ t e. each_named V x h.locals t q.locals e) (λ t p. any_then (IsOver V) (from_outcome_at at at (check s h.context t a)) _ (λ u. p));
    formed = λ h q. holds_if (IsOver V) (elaboration.is_bool x) _ _ tt (
        named_then (IsOver V) pos (names.type_named x) _ (λ r e. made_then (IsOver V) pos (TName r) _ (any_then (IsOver V) (from_outcome_at pos pos (well_formed s h.context (TName r))) _ (λ u. each.types x r e))));
  }

  truth_stays : (b : Bool) (pos : Pos) → StaysIn V (elaboration.truth_elab s b pos)
  truth_stays true pos = term_stays pos _ (λ h q. tt)
  truth_stays false pos = term_stays pos _ (λ h q. tt)

  apply_stays : (f x : Elab) → StaysIn V f → StaysIn V x → StaysIn V (elaboration.apply_elab s f x)
  apply_stays f x lf lx = term_stays f.place _ (λ h q.
      holds_then TermIn TermIn (f.infer h) _ (lf.infer h q) (λ c p.
      any_then TermIn (from_outcome_at f.place f.place (from_result (head s c.ty))) _ (λ b.
      outcome_then TermIn f.place f.place (function_of b) _ (λ d gd.
      holds_then (IsOver V) TermIn (x.check h x.place d.first) _ (lx.check h x.place d.first q) (λ a w.
      made_then TermIn f.place (App c.tree a) _ (made_then TermIn f.place (put_in d.second a) _ (p, w, tt)))))))

  tuple_stays : (k : ℕ) (x y : Elab) (pos : Pos) → StaysIn V x → StaysIn V y → StaysIn V (elaboration.tuple_elab s k x y pos)
  tuple_stays k x y pos lx ly = term_stays pos _ (λ h q.
      holds_then TermIn TermIn (x.infer h) _ (lx.infer h q) (λ a p.
      holds_then TermIn TermIn (y.infer h) _ (ly.infer h q) (λ b w.
      made_then TermIn pos (Tup (suc (suc k)) a.tree b.tree) _ (made_then TermIn pos (TPair (suc (suc k)) a.ty (lift_one b.ty)) _ (p, w, tuple_arity refers k)))))

  -- a term that is elaborated is over the vocabulary with its type
  abbrev TypedIn : TypedTree → Type 0
  TypedIn t = IsOver V t.tree × IsOver V t.ty

  typed_in : (x : Elab) → IsLawful s x → StaysIn V x → (h : Here) → EachHere V h → Holds TypedIn (x.infer h)
  typed_in x lawful lx h q = both (x.infer h) (lawful.infer h) (lx.infer h q)
    where
      both : (r : Answer TypedTree) → Holds (λ t. Gives (infer s h.context t.tree) t.ty) r → Holds TermIn r → Holds TypedIn r
      both (Ok t) g k = (k, inferred_each V s ordered closed h.context q.context t.tree t.ty k g)
      both (Err e) g k = tt

  size_arity : (a : Tree) (k : ℕ) → IsOver V a → Gives (elaboration.tuple_size a) k → HasArity V k
  size_arity (Bind (ProductType j) a b) k p g = subst (HasArity V) g p.2
  size_arity _ k p g = absurd g

  part_stays : (at number : Pos) (k i : ℕ) (t a : Tree) → HasArity V k → IsOver V t → Holds TermIn (elaboration.part_from s at number k i t a)
  part_stays at number k zero t a n p = tt
  part_stays at number k (suc zero) t a n p =
      any_then TermIn (from_outcome_at at at (from_result (head s a))) _ (λ c.
      part_then TermIn number at (tuple_of k c) _ (λ d gd. made_then TermIn at (Fst k t) _ (p, n)))
  part_stays at number k (suc (suc i)) t a n p =
      any_then TermIn (from_outcome_at at at (from_result (head s a))) _ (λ c.
      part_then TermIn number at (tuple_of k c) _ (λ d gd.
      made_then TermIn at (Snd k t) _ (made_then TermIn at (put_in d.second (Fst k t)) _ (
      either_holds TermIn (nat_eq k 2) _ _ (λ _. (p, n))
      (λ e. part_stays at number (pred k) (suc i) (Snd k t) (put_in d.second (Fst k t)) (fewer refers k n e) (p, n))))))

  projection_stays : (x : Elab) (i : ℕ) (number : Pos) → IsLawful s x → StaysIn V x → StaysIn V (elaboration.part_elab s x i number)
  projection_stays x i number lawful lx = term_stays x.place _ (λ h q.
      holds_then TypedIn TermIn (x.infer h) _ (typed_in x lawful lx h q) (λ t p.
      outcome_then TermIn x.place x.place (from_result (head s t.ty)) _ (λ a ga.
      outcome_then TermIn x.place x.place (elaboration.tuple_size a) _ (λ k gk.
      holds_if TermIn (nat_lt k i) _ _ tt
      (part_stays x.place number k i t.tree t.ty (size_arity a k (head_each V s ordered closed t.ty a p.1 ga) gk) p.0)))))

  choice_stays : (early : Bool) (c x y : Elab) (join pos : Pos) → StaysIn V c → StaysIn V x → StaysIn V y → StaysIn V (elaboration.choice_elab s early c x y join pos)
  choice_stays early c x y join pos lc lx ly = record {
    infer = λ h q.
        holds_then (IsOver V) TermIn (c.check h c.place TBool) _ (lc.check h c.place TBool q) (λ p kp.
        holds_then TermIn TermIn (x.infer (under_hypothesis p h)) _ (lx.infer (under_hypothesis p h) (hypothesis_each p h kp q)) (λ a ka.
        made_then TermIn pos (negation p) _ (
        holds_then TermIn TermIn (y.infer (under_hypothesis (negation p) h)) _ (ly.infer (under_hypothesis (negation p) h) (hypothesis_each (negation p) h (kp, tt, tt) q)) (λ b kb.
        any_then TermIn (if early then within_limits_at pos (If p a.tree b.tree) else Ok (If p a.tree b.tree)) _ (λ t.
        any_then TermIn (elaboration.join_type s x.place y.place join (Hypothesis p ∷ h.context) (Hypothesis (negation p) ∷ h.context) a b) _ (λ u.
        made_then TermIn pos (If p a.tree b.tree) _ (kp, ka, kb)))))));
    check = λ h at u q.
        holds_then (IsOver V) (IsOver V) (c.check h c.place TBool) _ (lc.check h c.place TBool q) (λ p kp.
        holds_then (IsOver V) (IsOver V) (x.check (under_hypothesis p h) x.place u) _ (lx.check (under_hypothesis p h) x.place u (hypothesis_each p h kp q)) (λ a ka.
        made_then (IsOver V) pos (negation p) _ (
        holds_then (IsOver V) (IsOver V) (y.check (under_hypothesis (negation p) h) y.place u) _ (ly.check (under_hypothesis (negation p) h) y.place u (hypothesis_each (negation p) h (kp, tt, tt) q)) (λ b kb.
        within_limits_last (IsOver V) pos (If p a b) (kp, ka, kb)))));
    formed = λ h q. tt;
  }

  not_stays : (x : Elab) (pos : Pos) → StaysIn V x → StaysIn V (elaboration.not_elab s x pos)
  not_stays x pos lx = record {
    infer = λ h q.
        holds_then (IsOver V) TermIn (x.check h x.place TBool) _ (lx.check h x.place TBool q) (λ p kp. made_then TermIn pos (negation p) _ (kp, tt, tt));
    check = λ h at u q.
        holds_then (IsOver V) (IsOver V) (x.check h x.place TBool) _ (lx.check h x.place TBool q) (λ p kp.
        any_then (IsOver V) (from_outcome_at at at (coerce s (Hypothesis p ∷ h.context) False TBool u)) _ (λ v.
        made_then (IsOver V) pos (negation p) _ (
        any_then (IsOver V) (from_outcome_at at at (coerce s (Hypothesis (negation p) ∷ h.context) True TBool u)) _ (λ z. (kp, tt, tt)))));
    formed = λ h q. tt;
  }

  equation_stays : (x y : Elab) (h : Here) (a c : TypedTree) → TermIn a → TermIn c → Holds TermIn (elaboration.equation s x y h a c)
  equation_stays x y h a c p w = made_then TermIn x.place (Eq a.tree c.tree) _ (any_then TermIn
      (if is_forall a.tree c.tree then from_text_or_outcome (x.predicate h) x.place ((typing s a.tree).predicate h.context) else elaboration.equal_sides s x.place y.place h a c)
      (λ u. Ok (record { tree = Eq a.tree c.tree; ty = TBool })) (λ u. (p, w, tt)))

  equal_stays : (x y : Elab) → StaysIn V x → StaysIn V y → StaysIn V (elaboration.equal_elab s x y)
  equal_stays x y lx ly = term_stays x.place _ (λ h q.
      holds_then TermIn TermIn (x.infer h) _ (lx.infer h q) (λ a p. holds_then TermIn TermIn (y.infer h) _ (ly.infer h q) (λ c w. equation_stays x y h a c p w)))

  iff_stays : (x y : Elab) → StaysIn V x → StaysIn V y → StaysIn V (elaboration.iff_elab s x y)
  iff_stays x y lx ly = term_stays x.place _ (λ h q.
      holds_then TermIn TermIn (x.infer h) _ (lx.infer h q) (λ a p.
      any_then TermIn (from_outcome_at x.place x.place (from_result (head s a.ty))) _ (λ d.
      any_then TermIn (from_outcome_at x.place x.place (elaboration.truth_type d)) _ (λ u.
      holds_then TermIn TermIn (y.infer h) _ (ly.infer h q) (λ c w. equation_stays x y h a c p w)))))

  all_stays : (x : Text) (a p : Elab) (pos : Pos) → StaysIn V a → StaysIn V p → StaysIn V (elaboration.all_elab s x a p pos)
  all_stays x a p pos la lp = term_stays pos _ (λ h q.
      holds_then (IsOver V) TermIn (a.formed h) _ (la.formed h q) (λ c kc.
      holds_then (IsOver V) TermIn (p.check (under_name x c h) p.place TBool) _ (lp.check (under_name x c h) p.place TBool (name_each x c h kc q)) (λ r kr.
      made_then TermIn pos (universal c r) _ ((kc, kr, tt), (kc, tt, tt), tt))))

  lambda_stays : (d : Elab) (xs : List Text) (b : Elab) (pos : Pos) → StaysIn V d → StaysIn V b → StaysIn V (elaboration.lambda_elab s d xs b pos)
  lambda_stays d xs b pos ld lb =
      let base = term_stays pos _ (λ h q.
      holds_then (IsOver V) TermIn (d.formed h) _ (ld.formed h q) (λ c kc.
      holds_then TermIn TermIn (b.infer (under_variable xs c h)) _ (lb.infer (under_variable xs c h) (variable_each xs c h kc q)) (λ e ke.
      made_then TermIn pos (Lam c e.tree) _ (made_then TermIn pos (TFun c e.ty) _ (kc, ke, tt))))) in
      record { infer = base.infer; check = base.check; formed = base.formed }

  let_stays : (x : Text) (v b : Elab) (pos : Pos) → IsLawful s v → StaysIn V v → StaysIn V b → StaysIn V (elaboration.let_elab s x v b pos)
  let_stays x v b pos lawful lv lb = term_stays pos _ (λ h q.
      holds_then TypedIn TermIn (v.infer h) _ (typed_in v lawful lv h q) (λ a k.
      any_then TermIn (from_outcome_at v.place v.place (well_formed s h.context a.ty)) _ (λ u.
      any_then TermIn (from_outcome_at v.place v.place (check s h.context a.tree a.ty)) _ (λ w.
      holds_then TermIn TermIn (b.infer (under_name x a.ty h)) _ (lb.infer (under_name x a.ty h) (name_each x a.ty h k.1 q)) (λ e ke.
      made_then TermIn pos (App (Lam a.ty e.tree) a.tree) _ (made_then TermIn pos (TFun a.ty e.ty) _ (made_then TermIn pos (put_in e.ty a.tree) _ ((k.1, ke, tt), k.0, tt))))))))

  let_as_stays : (x : Text) (a v b : Elab) (pos : Pos) → StaysIn V a → StaysIn V v → StaysIn V b → StaysIn V (elaboration.let_as_elab s x a v b pos)
  let_as_stays x a v b pos la lv lb = term_stays pos _ (λ h q.
      holds_then (IsOver V) TermIn (a.formed h) _ (la.formed h q) (λ c kc.
      holds_then (IsOver V) TermIn (v.check h v.place c) _ (lv.check h v.place c q) (λ w kw.
      holds_then TermIn TermIn (b.infer (under_name x c h)) _ (lb.infer (under_name x c h) (name_each x c h kc q)) (λ e ke.
      made_then TermIn pos (App (Lam c e.tree) w) _ (made_then TermIn pos (TFun c e.ty) _ (made_then TermIn pos (put_in e.ty w) _ ((kc, ke, tt), kw, tt)))))))

  formed_stays : (pos : Pos) (h : Here) (a : Tree) → IsOver V a → Holds (IsOver V) (elaboration.formed_at s pos h a)
  formed_stays pos h a p = made_then (IsOver V) pos a _ (any_then (IsOver V) (from_outcome_at pos pos (well_formed s h.context a)) _ (λ u. p))

  type_of_stays : (x : Text) (pos : Pos) → StaysIn V (elaboration.type_of_elab s names x pos)
  type_of_stays x pos = kind_stays pos _ (λ h q. named_then (IsOver V) pos (names.variable_named x) _ (λ v e. formed_stays pos h v.ty (each.variables x v e)))

  sub_stays : (x : Text) (a p : Elab) (pos : Pos) → StaysIn V a → StaysIn V p → StaysIn V (elaboration.sub_elab x a p pos)
  sub_stays x a p pos la lp = kind_stays pos _ (λ h q.
      holds_then (IsOver V) (IsOver V) (a.formed h) _ (la.formed h q) (λ c kc.
      holds_then (IsOver V) (IsOver V) (p.check (under_name x c h) p.place TBool) _ (lp.check (under_name x c h) p.place TBool (name_each x c h kc q)) (λ r kr.
      within_limits_last (IsOver V) pos (TSub c r) (kc, kr, tt))))

  -- the domain of a type of predicates is a part of that type
  predicate_stays : (x : Elab) (pos : Pos) → IsLawful s x → StaysIn V x → StaysIn V (elaboration.predicate_elab s x pos)
  predicate_stays x pos lawful lx = kind_stays pos _ (λ h q.
      holds_then TypedIn (IsOver V) (x.infer h) _ (typed_in x lawful lx h q) (λ p k.
      outcome_then (IsOver V) x.place x.place (from_result (head s p.ty)) _ (λ d gd.
      outcome_then (IsOver V) x.place x.place (elaboration.domain_of s d) _ (λ a ga.
      formed_stays pos h (TSub a (App (lift_one p.tree) (Var 0))) (domain_in d a (headed p.ty d k.1 gd) ga, (each_lift V p.tree 1 0 k.0, tt, tt), tt)))))
    where
      headed : (b d : Tree) → IsOver V b → Gives (from_result (head s b)) d → IsOver V d
      headed b d p g = head_each V s ordered closed b d p g

      domain_in : (d a : Tree) → IsOver V d → Gives (elaboration.domain_of s d) a → IsOver V a
      domain_in d a p g = domain_each V s d a p g

  function_stays : (d : Elab) (xs : List Text) (b : Elab) (pos : Pos) → StaysIn V d → StaysIn V b → StaysIn V (elaboration.function_elab d xs b pos)
  function_stays d xs b pos ld lb = kind_stays pos _ (λ h q.
      holds_then (IsOver V) (IsOver V) (d.formed h) _ (ld.formed h q) (λ c kc.
      holds_then (IsOver V) (IsOver V) (b.formed (under_variable xs c h)) _ (lb.formed (under_variable xs c h) (variable_each xs c h kc q)) (λ e ke.
      within_limits_last (IsOver V) pos (TFun c e) (kc, ke, tt))))

  product_stays : (k : ℕ) (x : Text) (a b : Elab) (pos : Pos) → StaysIn V a → StaysIn V b → StaysIn V (elaboration.product_elab k x a b pos)
  product_stays k x a b pos la lb = kind_stays pos _ (λ h q.
      holds_then (IsOver V) (IsOver V) (a.formed h) _ (la.formed h q) (λ c kc.
      holds_then (IsOver V) (IsOver V) (b.formed (under_name x c h)) _ (lb.formed (under_name x c h) (name_each x c h kc q)) (λ e ke.
      within_limits_last (IsOver V) pos (TPair (suc (suc k)) c e) (kc, ke, tuple_arity refers k))))

  pub elab_stays : (e : Phrase) → StaysIn V (elaboration.elab s names e)
  elab_stays (Name x pos) = name_stays x pos
  elab_stays (Truth b pos) = truth_stays b pos
  elab_stays (Apply f x) = apply_stays _ _ (elab_stays f) (elab_stays x)
  elab_stays (Tuple k x y pos) = tuple_stays k _ _ pos (elab_stays x) (elab_stays y)
  elab_stays (Part x i number) = projection_stays _ i number (elab_lawful s names x) (elab_stays x)
  elab_stays (Group x pos) =
      let l = elab_stays x in
      record { infer = l.infer; check = l.check; formed = (predicate_stays (elaboration.elab s names x) pos (elab_lawful s names x) l).formed }
  elab_stays (Choice early c x y join pos) = choice_stays early _ _ _ join pos (elab_stays c) (elab_stays x) (elab_stays y)
  elab_stays (Not x pos) = not_stays _ pos (elab_stays x)
  elab_stays (Equal x y) = equal_stays _ _ (elab_stays x) (elab_stays y)
  elab_stays (Iff x y) = iff_stays _ _ (elab_stays x) (elab_stays y)
  elab_stays (All x a p pos) = all_stays x _ _ pos (elab_stays a) (elab_stays p)
  elab_stays (Lambda d xs b pos) = lambda_stays _ xs _ pos (elab_stays d) (elab_stays b)
  elab_stays (Let x v b pos) = let_stays x _ _ pos (elab_lawful s names v) (elab_stays v) (elab_stays b)
  elab_stays (LetAs x a v b pos) = let_as_stays x _ _ _ pos (elab_stays a) (elab_stays v) (elab_stays b)
  elab_stays (TypeOf x pos) = type_of_stays x pos
  elab_stays (Sub x a p pos) = sub_stays x _ _ pos (elab_stays a) (elab_stays p)
  elab_stays (Predicate q pos) = predicate_stays _ pos (elab_lawful s names q) (elab_stays q)
  elab_stays (Function d xs b pos) = function_stays _ xs _ pos (elab_stays d) (elab_stays b)
  elab_stays (Product k x a b pos) = product_stays k x _ _ pos (elab_stays a) (elab_stays b)
  elab_stays (Other pos) = kind_stays pos _ (λ h q. tt)
