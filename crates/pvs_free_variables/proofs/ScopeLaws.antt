-- The tasks of bindings and their scopes find what their forms have, with less work.
use Rattle.std.proofs.Common.{rules, ◌≡◌, ◌<◌, ◌≤◌, ◌+◌, ◌*◌, ℕ, Bool, true, false, List, [], ◌∷◌, ◌++◌, drop, get_or, length, refl, sym, ap, subst, ◌∙◌, append_assoc, arith}
use Rattle.std.specs.Prelude.{is_none, is_some, not, Option, Some, None, Result, Ok, Err, OnOk}
use Rattle.std.proofs.lemmas.Bool.{false≢true}
use Rattle.std.specs.Borrow.{Bor}
use Rattle.std.proofs.lemmas.List.{drop_more, length-map}
use Rattle.pvs_base.specs.declared.place.Pos.{Pos}
use Rattle.pvs_syntax.specs.Words.{spelling}
use Rattle.pvs_syntax.specs.declared.expression.Binding.{Binding, out-Binding}
use Rattle.pvs_syntax.specs.declared.expression.BinderWord.{BinderWord}
use Rattle.pvs_syntax.specs.declared.expression.BinderWord.TheVariants as binder_word
use Rattle.pvs_syntax.specs.declared.expression.Expr.{Expr}
use Rattle.pvs_syntax.specs.declared.expression.Expr as expr
use Rattle.pvs_syntax.specs.declared.expression.TypeExpr.{TypeExpr}
use Rattle.pvs_syntax.specs.declared.expression.TypeExpr as type_expr
use Rattle.pvs_terms.specs.Tree.{Text}
use Rattle.pvs_elab.specs.Desugar.{Bound, all_of, some_of, bound_of, domain, names, phrase, quantified, type_from, type_of, type_phrase}
use Rattle.pvs_elab.specs.Formula.{Occurs, occurrences}
use Rattle.pvs_elab.specs.Names.{Names}
use Rattle.pvs_elab.specs.Phrase.{Phrase, Function, Lambda}
use Rattle.pvs_phrases.specs.declared.part.Part.TheVariants as part
use Rattle.pvs_phrases.specs.Parts.{bounds}
use Rattle.pvs_phrases.specs.Size.{size}
use Rattle.pvs_phrases.proofs.BindingLaws.{bound_name, bound_typed, bound_untyped, forall_binder, exists_binder, lambda_binder}
use Rattle.pvs_free_variables.specs.declared.task.Task.{Task}
use Rattle.pvs_free_variables.specs.declared.task.Task.TheVariants as task
use Rattle.pvs_free_variables.specs.code.Bindings.{names_onto, type_occurrences, shared_occurrences, bindings_work}
use Rattle.pvs_free_variables.specs.code.Finding.{add_all}
use Rattle.pvs_free_variables.specs.code.Searching.{Expands}
use Rattle.pvs_free_variables.specs.code.Tasks.{task_occurrences, work, AddsType, type_written, type_tasks, quantifier_tasks, scope_tasks, binder_tasks, tuple_tasks}
use Rattle.pvs_free_variables.proofs.BindingLaws.{shared_first, all_occurrences, some_occurrences, domain_occurrences, leave_names, leave_all, all_work, some_work, domain_work}

pub after_success : {X E P Q : Type 0} (r : Result X E) → (P → Q) → OnOk r P → OnOk r Q
after_success (Ok x) f h = f h
after_success (Err e) f h = tt

-- One binding.

pub is_untyped : (t : Option TypeExpr) (b : Bool) → is_some t ≡ not b → is_none t ≡ b
is_untyped None true e = refl
is_untyped None false e = absurd (false≢true e)
is_untyped (Some a) true e = absurd (false≢true (sym e))
is_untyped (Some a) false e = refl

untyped : (text : Text) (b : Binding) → is_none (bound_of text b).ty ≡ is_none (out-Binding b).ty
untyped text b = at (out-Binding b).ty refl where
  at : (t : Option TypeExpr) → (out-Binding b).ty ≡ t → is_none (bound_of text b).ty ≡ is_none t
  at None e = rw (bound_untyped text b e) refl
  at (Some a) e = rw (bound_typed text b a e) refl

first_bound : (text : Text) (bs : List Binding) (k : ℕ) (b : Binding) → k < length bs → b ≡ get_or bs k b → bounds text (drop k bs) ≡ bound_of text b ∷ bounds text (drop (k + 1) bs)
first_bound text bs k b h e = ap (bounds text) (drop_more bs k b h ∙ ap (λ c. c ∷ drop (k + 1) bs) (sym e))

-- the tasks after the type of a binding
abbrev pub next_tasks : Bor (List Binding) → ℕ → Binding → Bor Text → List Task → List Task
next_tasks bs k b x ts = task.Enter x ∷ task.Bindings bs (k + 1) (is_none (out-Binding b).ty) ∷ ts

module _ (text : Text) (bs : Bor (List Binding)) (k : ℕ) (b : Binding) (x : Bor Text) (name : x.now ≡ spelling text (out-Binding b).word) (ts : List Task) where
  -- the bindings after this one
  others : List Bound
  others = bounds text (drop (k + 1) bs.now)

  next_occurrences : (ns : Names) (bound : List Text) → task_occurrences text ns bound (next_tasks bs k b x ts)
      ≡ shared_occurrences ns (is_none (bound_of text b).ty) ((bound_of text b).name ∷ bound) others ++ task_occurrences text ns (names_onto ((bound_of text b).name ∷ bound) others) ts
  unfolding others
  next_occurrences ns bound = rw (untyped text b, bound_name text b, sym name) refl

  typed_occurrences : (ns : Names) (bound : List Text) (a : Option (Bor TypeExpr)) → type_of (bound_of text b) others ≡ type_written text (bound_of text b).name (bound_of text b).pos a
      → task_occurrences text ns bound (type_tasks a ++ next_tasks bs k b x ts)
      ≡ shared_occurrences ns false bound (bound_of text b ∷ others) ++ task_occurrences text ns (names_onto bound (bound_of text b ∷ others)) ts
  typed_occurrences ns bound None e = next_occurrences ns bound ∙ rw e refl
  typed_occurrences ns bound (Some a) e =
      ap (λ os. occurrences ns false bound (type_phrase text a.now) ++ os) (next_occurrences ns bound)
      ∙ rw e (sym (append_assoc (occurrences ns false bound (type_phrase text a.now)) (shared_occurrences ns (is_none (bound_of text b).ty) ((bound_of text b).name ∷ bound) others)
      (task_occurrences text ns (names_onto bound (bound_of text b ∷ others)) ts)))

  typed_work : (a : Option (Bor TypeExpr)) → type_of (bound_of text b) others ≡ type_written text (bound_of text b).name (bound_of text b).pos a
      → work text (type_tasks a ++ next_tasks bs k b x ts) < bindings_work (bound_of text b ∷ others) + work text ts
  unfolding others
  typed_work None e = omega arith
  typed_work (Some a) e = omega (arith, ap size e)

  pub typed_binding : k < length bs.now → b ≡ get_or bs.now k b → (new : List Task) → AddsType (next_tasks bs k b x ts) new bs.now k → Expands text (task.Bindings bs k false) ts new
  unfolding others
  typed_binding short item new h =
      let first = first_bound text bs.now k b short item in
      let is : type_of (bound_of text b) others ≡ type_written text (bound_of text b).name (bound_of text b).pos h.written =
      subst (λ cs. type_from (bound_of text b).name (bound_of text b).pos cs ≡ type_written text (bound_of text b).name (bound_of text b).pos h.written) first (h.is text (bound_of text b).name (bound_of text b).pos) in
      rw h.tasks (record {
        same = λ ns bound found. rw first (ap (add_all found) (typed_occurrences ns bound h.written is));
        less = rw first (typed_work h.written is);
      })

-- Bindings and their scopes.

pub function_phrase : (text : Text) (bs : List Binding) (a : TypeExpr) (pos : Pos) → type_phrase text (type_expr.FunType bs a pos) ≡ Function (domain pos (bounds text bs)) (names (bounds text bs)) (type_phrase text a) pos
function_phrase text bs a pos = search (rules, type_expr.the_lemmas)

pub tuple_phrase : (text : Text) (bs : List Binding) (pos : Pos) → type_phrase text (type_expr.TupleType bs pos) ≡ domain pos (bounds text bs)
tuple_phrase text bs pos = search (rules, type_expr.the_lemmas)

pub binder_phrase : (text : Text) (word : BinderWord) (bs : List Binding) (e : Expr) (pos : Pos) → phrase text (expr.Binder word bs e pos) ≡ quantified word (bounds text bs) (phrase text e) pos
binder_phrase text word bs e pos = search (rules, expr.the_lemmas)

as_many : (text : Text) (bs : List Binding) → length (bounds text bs) ≡ length bs
as_many text bs = length-map bs (bound_of text)

leave_types : (text : Text) (bs : List Binding) (bound : List Text) → drop (length bs) (names_onto bound (bounds text bs)) ≡ bound
leave_types text bs bound = subst (λ n. drop n (names_onto bound (bounds text bs)) ≡ bound) (as_many text bs) (leave_names bound (bounds text bs))

leave_scope : (text : Text) (bs : List Binding) (bound : List Text) → drop (length bs) (names (bounds text bs) ++ bound) ≡ bound
leave_scope text bs bound = subst (λ n. drop n (names (bounds text bs) ++ bound) ≡ bound) (as_many text bs) (leave_all bound (bounds text bs))

module _ (text : Text) (bs : Bor (List Binding)) (pos : Pos) (ts : List Task) where
  module _ (ns : Names) (bound : List Text) (found : List Occurs) where
    -- the types, and then these occurrences
    types_first : (os rest : List Occurs) → add_all found (shared_occurrences ns false bound (bounds text bs.now) ++ (os ++ rest)) ≡ add_all found ((type_occurrences ns bound (bounds text bs.now) ++ os) ++ rest)
    types_first os rest = shared_first ns bound (bounds text bs.now) found (os ++ rest) ∙ ap (add_all found) (sym (append_assoc (type_occurrences ns bound (bounds text bs.now)) os rest))

    quantifier_same : (e : Bor Expr) (f : Phrase) → occurrences ns true bound f ≡ type_occurrences ns bound (bounds text bs.now) ++ occurrences ns true (names_onto bound (bounds text bs.now)) (phrase text e.now)
        → add_all found (task_occurrences text ns bound (quantifier_tasks bs e ++ ts)) ≡ add_all found (occurrences ns true bound f ++ task_occurrences text ns bound ts)
    quantifier_same e f h = rw (leave_types text bs.now bound, h) (types_first (occurrences ns true (names_onto bound (bounds text bs.now)) (phrase text e.now)) (task_occurrences text ns bound ts))

    lambda_same : (e : Bor Expr) → add_all found (task_occurrences text ns bound (scope_tasks bs (task.Term (part.Expr e)) ++ ts))
        ≡ add_all found (occurrences ns true bound (Lambda (domain pos (bounds text bs.now)) (names (bounds text bs.now)) (phrase text e.now) pos) ++ task_occurrences text ns bound ts)
    lambda_same e =
        rw (leave_types text bs.now bound, leave_scope text bs.now bound, domain_occurrences ns pos (bounds text bs.now) bound)
        (types_first (occurrences ns true (names (bounds text bs.now) ++ bound) (phrase text e.now)) (task_occurrences text ns bound ts))

    function_same : (a : Bor TypeExpr) → add_all found (task_occurrences text ns bound (scope_tasks bs (task.Type (part.Type a)) ++ ts))
        ≡ add_all found (occurrences ns false bound (Function (domain pos (bounds text bs.now)) (names (bounds text bs.now)) (type_phrase text a.now) pos) ++ task_occurrences text ns bound ts)
    function_same a =
        rw (leave_types text bs.now bound, leave_scope text bs.now bound, domain_occurrences ns pos (bounds text bs.now) bound)
        (types_first (occurrences ns false (names (bounds text bs.now) ++ bound) (type_phrase text a.now)) (task_occurrences text ns bound ts))

    tuple_same : add_all found (task_occurrences text ns bound (tuple_tasks bs ++ ts)) ≡ add_all found (occurrences ns false bound (domain pos (bounds text bs.now)) ++ task_occurrences text ns bound ts)
    tuple_same = rw (leave_types text bs.now bound, domain_occurrences ns pos (bounds text bs.now) bound) (shared_first ns bound (bounds text bs.now) found (task_occurrences text ns bound ts))

  domain_bound : bindings_work (bounds text bs.now) + 6 * length bs.now ≤ 9 + 8 * size (domain pos (bounds text bs.now))
  domain_bound = omega (arith, domain_work pos (bounds text bs.now), as_many text bs.now)

  lambda_work : (e : Bor Expr) → 0 < length bs.now
      → work text (scope_tasks bs (task.Term (part.Expr e)) ++ ts) < 8 * size (Lambda (domain pos (bounds text bs.now)) (names (bounds text bs.now)) (phrase text e.now) pos) + work text ts
  lambda_work e h = omega (arith, domain_bound)

  function_work : (a : Bor TypeExpr) → work text (scope_tasks bs (task.Type (part.Type a)) ++ ts) < 8 * size (Function (domain pos (bounds text bs.now)) (names (bounds text bs.now)) (type_phrase text a.now) pos) + work text ts
  function_work a = some_or_none bs.now where
    some_or_none : (cs : List Binding) → bindings_work (bounds text cs) + (1 + (1 + (8 * size (type_phrase text a.now) + (1 + work text ts))))
        < 8 * size (Function (domain pos (bounds text cs)) (names (bounds text cs)) (type_phrase text a.now) pos) + work text ts
    some_or_none [] = omega arith
    some_or_none (c ∷ cs) = omega (arith, domain_work pos (bounds text (c ∷ cs)))

  binder_same : (word : BinderWord) (e : Bor Expr) → 0 < length bs.now → (ns : Names) (bound : List Text) (found : List Occurs)
      → add_all found (task_occurrences text ns bound (binder_tasks word bs e ++ ts)) ≡ add_all found (occurrences ns true bound (quantified word (bounds text bs.now) (phrase text e.now) pos) ++ task_occurrences text ns bound ts)
  binder_same binder_word.Forall e h ns bound found =
      rw (sym (forall_binder text pos (phrase text e.now) bs.now h)) (quantifier_same ns bound found e (all_of pos (phrase text e.now) (bounds text bs.now)) (all_occurrences ns pos (phrase text e.now) (bounds text bs.now) bound))
  binder_same binder_word.Exists e h ns bound found =
      rw (sym (exists_binder text pos (phrase text e.now) bs.now h)) (quantifier_same ns bound found e (some_of pos (phrase text e.now) (bounds text bs.now)) (some_occurrences ns pos (phrase text e.now) (bounds text bs.now) bound))
  binder_same binder_word.Lambda e h ns bound found = rw (sym (lambda_binder text pos (phrase text e.now) bs.now h)) (lambda_same ns bound found e)

  binder_work : (word : BinderWord) (e : Bor Expr) → 0 < length bs.now → work text (binder_tasks word bs e ++ ts) < 8 * size (quantified word (bounds text bs.now) (phrase text e.now) pos) + work text ts
  binder_work binder_word.Forall e h = rw (sym (forall_binder text pos (phrase text e.now) bs.now h)) (omega (arith, all_work pos (phrase text e.now) (bounds text bs.now), as_many text bs.now))
  binder_work binder_word.Exists e h = rw (sym (exists_binder text pos (phrase text e.now) bs.now h)) (omega (arith, some_work pos (phrase text e.now) (bounds text bs.now), as_many text bs.now))
  binder_work binder_word.Lambda e h = rw (sym (lambda_binder text pos (phrase text e.now) bs.now h)) (lambda_work e h)

  pub binder_expands : (word : BinderWord) (e f : Bor Expr) → 0 < length bs.now → phrase text f.now ≡ quantified word (bounds text bs.now) (phrase text e.now) pos → Expands text (task.Term (part.Expr f)) ts (binder_tasks word bs e ++ ts)
  binder_expands word e f h is = record {
    same = λ ns bound found. rw is (binder_same word e h ns bound found);
    less = rw is (binder_work word e h);
  }

  pub function_expands : (a : Bor TypeExpr) (t : Bor TypeExpr) → type_phrase text t.now ≡ Function (domain pos (bounds text bs.now)) (names (bounds text bs.now)) (type_phrase text a.now) pos
      → Expands text (task.Type (part.Type t)) ts (scope_tasks bs (task.Type (part.Type a)) ++ ts)
  function_expands a t h = record {
    same = λ ns bound found. rw h (function_same ns bound found a);
    less = rw h (function_work a);
  }

  pub tuple_expands : (t : Bor TypeExpr) → 1 < length bs.now → type_phrase text t.now ≡ domain pos (bounds text bs.now) → Expands text (task.Type (part.Type t)) ts (tuple_tasks bs ++ ts)
  tuple_expands t h e = record {
    same = λ ns bound found. rw e (tuple_same ns bound found);
    less = rw e (omega (arith, domain_bound));
  }
