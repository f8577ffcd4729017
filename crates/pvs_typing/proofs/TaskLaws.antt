-- Tasks where the store grows, the work that they are, and the steps of coercion.
use Rattle.std.proofs.Common.{◌≡◌, ℕ, zero, suc, ◌+◌, ◌<◌, ◌≤◌, Bool, true, false, cond, List, [], ◌∷◌, eq-eqb, Option, Some, None, Result, Ok, Err, refl, ap, ap₂, ◌∙◌, sym, subst, arith}
use Rattle.std.proofs.lemmas.Result.{IfOk-at_ok}
use Rattle.pvs_base.specs.Answers as answers
use Rattle.pvs_base.specs.declared.code.Code.{Code}
use Rattle.pvs_base.specs.declared.code.Code.TheVariants.{Mismatch}
use Rattle.pvs_terms.specs.Tree.{Tree, Leaf, Var, Name, Bind, Join, Project, If, Ref, TName, TSub, TFun, TPair, tree_eq, IsWithinLimits}
use Rattle.pvs_terms.specs.declared.shape.Sort.{Sort}
use Rattle.pvs_terms.specs.declared.shape.Sort.TheVariants.{OfType, OfTerm}
use Rattle.pvs_terms.specs.declared.shape.Binder.TheVariants.{Subtype, Function, Product, Lambda}
use Rattle.pvs_terms.specs.Sorts.{sort_of, IsTerm, IsSorted}
use Rattle.pvs_terms.specs.declared.node.Node.{Node}
use Rattle.pvs_terms.specs.declared.node.Node.TheVariants as node
use Rattle.pvs_terms.specs.Stored.{Stored, tree_at, node_tree, Stands}
use Rattle.pvs_subst.specs.Replace.{put_in}
use Rattle.pvs_subst.specs.Contexts.{Assumptions, Variable, context_at}
use Rattle.pvs_subst.specs.declared.context.Assumed.TheVariants as assumed
use Rattle.pvs_subst.specs.declared.context.Context.{Context}
use Rattle.pvs_sig.specs.Development.{Development}
use Rattle.pvs_sig.specs.Lookups.{Lookups, type_size, IsOrdered}
use Rattle.pvs_types.specs.Outcome.{Outcome, Refused, Accepted, outcome_after, ◌>>=◌, ◌>>◌, pure, refuse, owe, from_result, within_limits}
use Rattle.pvs_types.specs.Forms.{body, by_body, head, up, is_among}
use Rattle.pvs_types.specs.Coerce.{lift_one, application, first_part, second_part, coerce_parts, coerce_pair, coerce_function, coerce_to, coerce}
use Rattle.pvs_types.proofs.ProperTermLaws.{sorted_is_proper}
use Rattle.pvs_types.proofs.SizeLaws.{type_size-lift, type_size-put_in}
use Rattle.pvs_types.proofs.FormsLaws.{body_is, head_size}
use Rattle.pvs_types.proofs.CoerceLaws.{coerce_rule}
use Rattle.pvs_typing.specs.declared.fault.TypeFault.{TypeFault}
use Rattle.pvs_typing.specs.declared.fault.TypeFault.TheVariants as fault
use Rattle.pvs_typing.specs.declared.tasks.Task.{Task}
use Rattle.pvs_typing.specs.declared.tasks.Task.TheVariants.{Coerce, Satisfy, Second, Apply}
use Rattle.pvs_typing.specs.declared.tasks.Next.{Next}
use Rattle.pvs_typing.specs.declared.tasks.Next.TheVariants.{Done, Owe, One, Two, Three}
use Rattle.pvs_typing.specs.Above.{is_above}
use Rattle.pvs_typing.specs.Growth.{IsKnown, IsKnownContext, Keeps}
use Rattle.pvs_typing.specs.Answers.{IsFault, IsRefusal, Gives, tree_option}
use Rattle.pvs_typing.specs.code.Tasks.{both, both_within, head_outcome, satisfy_outcome, second_outcome, apply_outcome, task_outcome, stack_outcome, IsKnownCoercion, IsKnownTask, AreKnownTasks, steps_bound, coercion_work, task_work, stack_work, Follows}
use Rattle.pvs_typing.proofs.GrowthLaws.{keeps_trans, known_kept, context_kept}
use Rattle.pvs_typing.proofs.PartLaws.{fits_within, gives_kept, put_gives}
use Rattle.pvs_typing.proofs.OwedLaws.{after_none, after_then, accepted_then, context_same}

-- The first case, and those after it.

-- whether the type is among those that are answered
abbrev is_above_of : Result (List Tree) Code → Tree → Result Bool Code
is_above_of x a = answers.◌>>=◌ x (λ types. Ok (is_among a types))

module _ (l : Lookups) (ordered : IsOrdered l) (g : Assumptions) (t b a : Tree) (sorted : IsSorted t) (term : IsTerm t) where
  rule : coerce l g t b a ≡ (from_result (up l b) >>= (λ above. cond (is_among a above) (pure tt) (coerce_to l (coerce l) g t b a)))
  rule = coerce_rule l ordered g t b a (sorted_is_proper t sorted term)

  by_above : (x : Result (List Tree) Code) (r : Bool) (o : Outcome (Unit {0})) → is_above_of x a ≡ Ok r → (from_result x >>= (λ above. cond (is_among a above) (pure tt) o)) ≡ cond r (pure tt) o
  by_above (Err c) r o h = cc
  by_above (Ok us) r o h = let e : is_among a us ≡ r = cc in ap (λ y. outcome_after [] [] (cond y (pure tt) o)) e ∙ after_none (cond r (pure tt) o)

  pub coerce_above : is_above l b a ≡ Ok true → coerce l g t b a ≡ pure tt
  coerce_above h = rule ∙ by_above (up l b) true (coerce_to l (coerce l) g t b a) h

  pub coerce_not_above : is_above l b a ≡ Ok false → coerce l g t b a ≡ coerce_to l (coerce l) g t b a
  coerce_not_above h = rule ∙ by_above (up l b) false (coerce_to l (coerce l) g t b a) h

  by_fault : (x : Result (List Tree) Code) (c : Code) (o : Outcome (Unit {0})) → is_above_of x a ≡ Err c → (from_result x >>= (λ above. cond (is_among a above) (pure tt) o)) ≡ Refused c
  by_fault (Err d) c o h = let e : d ≡ c = cc in ap Refused e
  by_fault (Ok us) c o h = cc

  pub coerce_above_fault : (e : TypeFault) → IsRefusal (is_above l b a) e → IsFault (coerce l g t b a) e
  coerce_above_fault (fault.Refused c) h = rule ∙ by_fault (up l b) c (coerce_to l (coerce l) g t b a) h
  coerce_above_fault fault.Memory h = tt

-- Steps in turn.

pub then_assoc : (o u v : Outcome (Unit {0})) → ((o >> u) >> v) ≡ (o >> (u >> v))
then_assoc (Refused c) u v = refl
then_assoc (Accepted a cs rs) u v = sym (after_then cs rs u (λ _. v))

-- the first refusal of two steps
pub both_refused : (o u : Outcome Tree) (f : Tree → Tree → Outcome (Unit {0})) (q : Code) → both o u ≡ Refused q → (o >>= (λ x. u >>= (λ y. f x y))) ≡ Refused q
both_refused (Refused d) u f q h = let e : d ≡ q = cc in ap Refused e
both_refused (Accepted x cs rs) (Refused d) f q h = let e : d ≡ q = cc in ap Refused e
both_refused (Accepted x cs rs) (Accepted y ds ss) f q h = cc

-- A step that is answered by a result.

pub result_then : {A B : Type 0} (x : Result A Code) (f : A → Outcome B) (a : A) → x ≡ Ok a → (from_result x >>= f) ≡ f a
result_then x f a h = ap (λ y. from_result y >>= f) h ∙ after_none (f a)

pub result_fault : {A B : Type 0} (x : Result A Code) (f : A → Outcome B) (e : TypeFault) → IsRefusal x e → IsFault (from_result x >>= f) e
result_fault x f (fault.Refused c) h = ap (λ y. from_result y >>= f) h
result_fault x f fault.Memory h = tt

pub fault_as : {A : Type 0} (o u : Outcome A) (e : TypeFault) → u ≡ o → IsFault o e → IsFault u e
fault_as o u e h k = rw h k

-- Tasks where the store grows.

module _ {s t : Stored} {P Q : Sort → Ref → Type 0} {l m : Lookups} {D E : Development} (k : Keeps s P l t Q m D E) where
  pub coercion_kept : (g : Context) (a b c : ℕ) → IsKnownCoercion s P g a b c → IsKnownCoercion t Q g a b c
  coercion_kept g a b c h = record {
    context = context_kept g.items k h.context;
    term = known_kept OfTerm a k h.term;
    from = known_kept OfType b k h.from;
    to = known_kept OfType c k h.to;
  }

  pub coercion_same : (n : Lookups) (g : Context) (a b c : ℕ) → IsKnownCoercion s P g a b c
      → coerce n (context_at t g.items) (tree_at t a) (tree_at t b) (tree_at t c) ≡ coerce n (context_at s g.items) (tree_at s a) (tree_at s b) (tree_at s c)
  coercion_same n g a b c h = rw (context_same g.items k h.context, k.stored.trees a h.term.node, k.stored.trees b h.from.node, k.stored.trees c h.to.node) refl

  pub work_same : (n : Lookups) (b c : ℕ) → IsKnown s P OfType b → IsKnown s P OfType c → coercion_work n (tree_at t b) (tree_at t c) ≡ coercion_work n (tree_at s b) (tree_at s c)
  work_same n b c h j = rw (k.stored.trees b h.node, k.stored.trees c j.node) refl

  pub task_kept : (x : Task) → IsKnownTask s P x → IsKnownTask t Q x
  task_kept (Coerce g a b c) h = coercion_kept g a b c h
  task_kept (Satisfy g p a) h = (context_kept g.items k h.0, known_kept OfTerm p k h.1, known_kept OfTerm a k h.2)
  task_kept (Second g n a f b c) h = (h.0, known_kept OfTerm f k h.1, coercion_kept g a b c h.2)
  task_kept (Apply g d a b c) h = (known_kept OfType d k h.0, coercion_kept g a b c h.1)

  pub task_same : (n : Lookups) (x : Task) → IsKnownTask s P x → task_outcome n t x ≡ task_outcome n s x
  task_same n (Coerce g a b c) h = coercion_same n g a b c h
  task_same n (Satisfy g p a) h = rw (context_same g.items k h.0, k.stored.trees p h.1.node, k.stored.trees a h.2.node) refl
  task_same n (Second g j a f b c) h = rw (context_same g.items k h.2.context, k.stored.trees a h.2.term.node, k.stored.trees f h.1.node, k.stored.trees b h.2.from.node, k.stored.trees c h.2.to.node) refl
  task_same n (Apply g d a b c) h = rw (context_same g.items k h.1.context, k.stored.trees d h.0.node, k.stored.trees a h.1.term.node, k.stored.trees b h.1.from.node, k.stored.trees c h.1.to.node) refl

  pub task_work_same : (n : Lookups) (x : Task) → IsKnownTask s P x → task_work n t x ≡ task_work n s x
  task_work_same n (Coerce g a b c) h = work_same n b c h.from h.to
  task_work_same n (Satisfy g p a) h = refl
  task_work_same n (Second g j a f b c) h = ap suc (work_same n b c h.2.from h.2.to)
  task_work_same n (Apply g d a b c) h = ap suc (work_same n b c h.1.from h.1.to)

  pub tasks_kept : (xs : List Task) → AreKnownTasks s P xs → AreKnownTasks t Q xs
  tasks_kept [] h = tt
  tasks_kept (x ∷ xs) h = (task_kept x h.0, tasks_kept xs h.1)

  pub stack_same : (n : Lookups) (xs : List Task) (o : Outcome (Unit {0})) → AreKnownTasks s P xs → stack_outcome n t xs o ≡ stack_outcome n s xs o
  stack_same n [] o h = refl
  stack_same n (x ∷ xs) o h = stack_same n xs (task_outcome n t x >> o) h.1 ∙ ap (λ y. stack_outcome n s xs (y >> o)) (task_same n x h.0)

  pub stack_work_same : (n : Lookups) (xs : List Task) → AreKnownTasks s P xs → stack_work n t xs ≡ stack_work n s xs
  stack_work_same n [] h = refl
  stack_work_same n (x ∷ xs) h = ap₂ ◌+◌ (task_work_same n x h.0) (stack_work_same n xs h.1)

-- Work.

pub bound_positive : (n : ℕ) → 2 ≤ steps_bound n
bound_positive zero = omega arith
bound_positive (suc n) = let h = bound_positive n in omega arith

pub bound_more : (m n : ℕ) → m ≤ n → steps_bound m ≤ steps_bound n
bound_more zero n h = bound_positive n
bound_more (suc m) zero h = absurd (omega arith)
bound_more (suc m) (suc n) h = let k = bound_more m n (omega arith) in omega arith

bound_twice : (m n : ℕ) → m < n → steps_bound m + steps_bound m ≤ steps_bound n
bound_twice m n h = bound_more (suc m) n (omega arith)

bound_four : (m n : ℕ) → suc m < n → (steps_bound m + steps_bound m) + (steps_bound m + steps_bound m) ≤ steps_bound n
bound_four m n h = bound_more (suc (suc m)) n (omega arith)

pub bound_less : (m n : ℕ) → m < n → suc (steps_bound m) < steps_bound n
bound_less m n h = let k = bound_twice m n h in let j = bound_positive m in omega arith

pub bound_pair : (x y n : ℕ) → suc x < n → suc y < n → steps_bound x + suc (steps_bound y) < steps_bound n
bound_pair x y n h j = let a = bound_four x n h in let b = bound_four y n j in let c = bound_positive x in omega arith

pub bound_three : (x y n : ℕ) → suc x < n → suc y < n → steps_bound x + (steps_bound x + suc (steps_bound y)) < steps_bound n
bound_three x y n h j = let a = bound_four x n h in let b = bound_four y n j in let c = bound_positive x in omega arith

pub size_positive : (rank : Ref → ℕ) (t : Tree) → 1 ≤ type_size rank t
size_positive rank (Leaf o) = omega arith
size_positive rank (Var n) = omega arith
size_positive rank (Name OfType r) = omega arith
size_positive rank (Name OfTerm r) = omega arith
size_positive rank (Bind Subtype a p) = omega arith
size_positive rank (Bind Function a b) = omega arith
size_positive rank (Bind (Product k) a b) = omega arith
size_positive rank (Bind Lambda a b) = omega arith
size_positive rank (Join o a b) = omega arith
size_positive rank (Project o a) = omega arith
size_positive rank (If c a b) = omega arith

-- The steps.

pub follows_as : {l : Lookups} {s : Stored} {P : Sort → Ref → Type 0} {o u : Outcome (Unit {0})} {v w : ℕ} {x : Next} → Follows l s P o v x → o ≡ u → v ≤ w → Follows l s P u w x
follows_as h e j = record { known = h.known; outcome = h.outcome ∙ e; less = omega (arith, h.less, j) }

-- nothing follows
pub done_follows : (l : Lookups) (s : Stored) (P : Sort → Ref → Type 0) (o : Outcome (Unit {0})) (b a : Tree) → o ≡ pure tt → Follows l s P o (coercion_work l b a) Done
done_follows l s P o b a h = record { known = tt; outcome = sym h; less = let k = bound_positive (type_size l.rank b + type_size l.rank a) in omega arith }

same_context : (g h : Context) → g.items ≡ h.items → g ≡ h
same_context g h e = ap (λ x. record { items = x }) e

-- to a name
pub name_without : (l : Lookups) (g : Assumptions) (t b : Tree) (r : Ref) → body l r ≡ Ok None → coerce_to l (coerce l) g t b (TName r) ≡ head_outcome l b (TName r)
name_without l g t b r h = result_then (body l r) (by_body (coerce l g t b) (head_outcome l b (TName r))) None h

pub name_follows : {s t : Stored} {P Q : Sort → Ref → Type 0} {l m : Lookups} {D E : Development} (g : Context) (a b c d : ℕ) (r : Ref) → IsOrdered l → Keeps s P l t Q m D E → IsKnownCoercion s P g a b c → IsKnown t Q OfType d
    → body l r ≡ Ok (Some (tree_at t d)) → Follows l t Q (coerce_to l (coerce l) (context_at s g.items) (tree_at s a) (tree_at s b) (TName r)) (coercion_work l (tree_at s b) (TName r)) (One (Coerce g a b d))
name_follows {s} {t} {P} {Q} {l} g a b c d r ordered k h j e =
    let q = ordered r (tree_at t d) (body_is l r (Some (tree_at t d)) e) in
    let f : Assumptions = context_at s g.items in
    record {
      known = record { context = context_kept g.items k h.context; term = known_kept OfTerm a k h.term; from = known_kept OfType b k h.from; to = j };
      outcome = rw (context_same g.items k h.context, k.stored.trees a h.term.node, k.stored.trees b h.from.node)
          (sym (result_then (body l r) (by_body (coerce l f (tree_at s a) (tree_at s b)) (head_outcome l (tree_at s b) (TName r))) (Some (tree_at t d)) e));
      less = rw (k.stored.trees b h.from.node) (omega (arith, bound_less (type_size l.rank (tree_at s b) + type_size l.rank (tree_at t d)) (type_size l.rank (tree_at s b) + suc (l.rank r)) (omega (arith, q))));
    }

-- to a subtype
pub subtype_follows : (l : Lookups) (s : Stored) (P : Sort → Ref → Type 0) (f g : Context) (a b c p : ℕ) → f.items ≡ g.items → IsKnownCoercion s P g a b c → IsKnown s P OfTerm p
    → Follows l s P (coerce_to l (coerce l) (context_at s g.items) (tree_at s a) (tree_at s b) (TSub (tree_at s c) (tree_at s p))) (coercion_work l (tree_at s b) (TSub (tree_at s c) (tree_at s p)))
    (Two (Coerce f a b c) (Satisfy g p a))
subtype_follows l s P f g a b c p e h j = subst (λ x. Follows l s P (coerce_to l (coerce l) (context_at s g.items) (tree_at s a) (tree_at s b) (TSub (tree_at s c) (tree_at s p))) (coercion_work l (tree_at s b) (TSub (tree_at s c) (tree_at s p))) (Two (Coerce x a b c) (Satisfy g p a)))
    (sym (same_context f g e))
    (record {
      known = (h, (h.context, j, h.term));
      outcome = refl;
      less = omega (arith, bound_less (type_size l.rank (tree_at s b) + type_size l.rank (tree_at s c)) (type_size l.rank (tree_at s b) + suc (type_size l.rank (tree_at s c))) (omega arith));
    })

pub name_done : {s t : Stored} {P Q : Sort → Ref → Type 0} {l m : Lookups} {D E : Development} (u : Stored) (R : Sort → Ref → Type 0) (g : Assumptions) (a : Tree) (b d : ℕ) (r : Ref) (o : Option ℕ) → Keeps s P l t Q m D E → IsKnown s P OfType b → IsKnown s P OfType d
    → tree_at s d ≡ TName r → o ≡ None → body l r ≡ Ok (tree_option t o) → head_outcome m (tree_at t b) (tree_at t d) ≡ pure tt
    → Follows l u R (coerce_to l (coerce l) g a (tree_at s b) (TName r)) (coercion_work l (tree_at s b) (TName r)) Done
name_done {s} {t} {l = l} u R g a b d r o k h j e n x y =
    let z : head_outcome l (tree_at s b) (TName r) ≡ pure tt = rw (← k.lookups, ← k.stored.trees b h.node, ← e, ← k.stored.trees d j.node) y in
    done_follows l u R (coerce_to l (coerce l) g a (tree_at s b) (TName r)) (tree_at s b) (TName r) (name_without l g a (tree_at s b) r (x ∙ ap (λ q. Ok (tree_option t q)) n) ∙ z)

pub name_fault : {s t : Stored} {P Q : Sort → Ref → Type 0} {l m : Lookups} {D E : Development} (g : Assumptions) (a : Tree) (b d : ℕ) (r : Ref) (o : Option ℕ) (x : TypeFault) → Keeps s P l t Q m D E → IsKnown s P OfType b → IsKnown s P OfType d
    → tree_at s d ≡ TName r → o ≡ None → body l r ≡ Ok (tree_option t o) → IsFault (head_outcome m (tree_at t b) (tree_at t d)) x → IsFault (coerce_to l (coerce l) g a (tree_at s b) (TName r)) x
name_fault {s} {t} {l = l} g a b d r o x k h j e n y f =
    let z : IsFault (head_outcome l (tree_at s b) (TName r)) x = rw (← k.lookups, ← k.stored.trees b h.node, ← e, ← k.stored.trees d j.node) f in
    fault_as _ _ x (name_without l g a (tree_at s b) r (y ∙ ap (λ q. Ok (tree_option t q)) n)) z

-- between tuple types
pub pairs_follow : {s t : Stored} {P Q : Sort → Ref → Type 0} {l m : Lookups} {D E : Development} (f g : Context) (n a x b1 a1 b2 a2 : ℕ) → Keeps s P l t Q m D E → f.items ≡ g.items → 2 ≤ n
    → IsKnownCoercion s P g a b1 a1 → IsKnownCoercion s P g a b2 a2 → Gives t Q OfTerm (first_part n (tree_at s a)) x
    → Follows l t Q (coerce_parts (coerce l) (context_at s g.items) (tree_at s a) n (tree_at s b1) (tree_at s b2) (tree_at s a1) (tree_at s a2))
    (coercion_work l (TPair n (tree_at s b1) (tree_at s b2)) (TPair n (tree_at s a1) (tree_at s a2))) (Two (Coerce f x b1 a1) (Second g n a x b2 a2))
pairs_follow {s} {t} {P} {Q} {l} f g n a x b1 a1 b2 a2 k e j h1 h2 gives =
    let c : Assumptions = context_at s g.items in
    let first : Tree = first_part n (tree_at s a) in
    let rest : Tree → Outcome (Unit {0}) = λ y. coerce l c y (tree_at s b1) (tree_at s a1) >> second_outcome l c (tree_at s a) n y (tree_at s b2) (tree_at s a2) in
    let m1 : type_size l.rank (tree_at t b1) ≡ type_size l.rank (tree_at s b1) = ap (type_size l.rank) (k.stored.trees b1 h1.from.node) in
    let m2 : type_size l.rank (tree_at t a1) ≡ type_size l.rank (tree_at s a1) = ap (type_size l.rank) (k.stored.trees a1 h1.to.node) in
    let m3 : type_size l.rank (tree_at t b2) ≡ type_size l.rank (tree_at s b2) = ap (type_size l.rank) (k.stored.trees b2 h2.from.node) in
    let m4 : type_size l.rank (tree_at t a2) ≡ type_size l.rank (tree_at s a2) = ap (type_size l.rank) (k.stored.trees a2 h2.to.node) in
    let p1 = size_positive l.rank (tree_at s b1) in
    let p2 = size_positive l.rank (tree_at s b2) in
    let p3 = size_positive l.rank (tree_at s a1) in
    let p4 = size_positive l.rank (tree_at s a2) in
    subst (λ y. Follows l t Q (within_limits first >>= rest) (coercion_work l (TPair n (tree_at s b1) (tree_at s b2)) (TPair n (tree_at s a1) (tree_at s a2))) (Two (Coerce y x b1 a1) (Second g n a x b2 a2)))
    (sym (same_context f g e))
    (record {
      known = (
        record { context = context_kept g.items k h1.context; term = gives.known; from = known_kept OfType b1 k h1.from; to = known_kept OfType a1 k h1.to },
        (j, gives.known, coercion_kept k g a b2 a2 h2),
      );
      outcome = rw (context_same g.items k h1.context, gives.tree, k.stored.trees a h1.term.node, k.stored.trees b1 h1.from.node, k.stored.trees a1 h1.to.node, k.stored.trees b2 h2.from.node, k.stored.trees a2 h2.to.node)
          (sym (accepted_then (within_limits first) rest first (fits_within first gives.fits)));
      less = omega (
        arith,
        m1,
        m2,
        m3,
        m4,
        bound_pair (type_size l.rank (tree_at t b1) + type_size l.rank (tree_at t a1)) (type_size l.rank (tree_at t b2) + type_size l.rank (tree_at t a2))
            (suc (type_size l.rank (tree_at s b1) + type_size l.rank (tree_at s b2)) + suc (type_size l.rank (tree_at s a1) + type_size l.rank (tree_at s a2))) (omega (arith, m1, m2, p2, p4)) (omega (arith, m3, m4, p1, p3)),
      );
    })

pair_sizes : (l : Lookups) (n : ℕ) (a b : Tree) → type_size l.rank (TPair n a b) ≡ suc (type_size l.rank a + type_size l.rank b)
pair_sizes l n a b = refl

-- the head is a tuple type with as many components, or not
pub pair_case : (l : Lookups) (g : Assumptions) (t b : Tree) (n : ℕ) (b1 b2 a1 a2 : Tree) → head l b ≡ Ok (TPair n b1 b2)
    → coerce_to l (coerce l) g t b (TPair n a1 a2) ≡ coerce_parts (coerce l) g t n b1 b2 a1 a2
pair_case l g t b n b1 b2 a1 a2 h =
    result_then (head l b) (coerce_pair (coerce l) g t n a1 a2) (TPair n b1 b2) h ∙ ap (λ x. cond x (coerce_parts (coerce l) g t n b1 b2 a1 a2) (refuse Mismatch)) (eq-eqb n n refl)

pub head_smaller : (l : Lookups) → IsOrdered l → (b d : Tree) → head l b ≡ Ok d → type_size l.rank d ≤ type_size l.rank b
head_smaller l ordered b d e = IfOk-at_ok (λ u. type_size l.rank u ≤ type_size l.rank b) e (head_size l ordered b)

-- the head stands for the given type
pub head_work : (l : Lookups) → IsOrdered l → (b d a : Tree) → head l b ≡ Ok d → coercion_work l d a ≤ coercion_work l b a
head_work l ordered b d a e = bound_more (type_size l.rank d + type_size l.rank a) (type_size l.rank b + type_size l.rank a) (omega (arith, head_smaller l ordered b d e))

pub follows_under : {l m : Lookups} {s : Stored} {P : Sort → Ref → Type 0} {o u : Outcome (Unit {0})} {v w : ℕ} {x : Next} → m ≡ l → Follows m s P o v x → o ≡ u → v ≤ w → Follows l s P u w x
follows_under {s = s} {P} {u = u} {w = w} {x = x} e h j k = subst (λ y. Follows y s P u w x) e (follows_as h j k)

-- the terms and types of a coercion between tuple types, in the store of the head
pub parts_same : {s t : Stored} {P Q : Sort → Ref → Type 0} {l m : Lookups} {D E : Development} (g : Context) (n a b1 b2 a1 a2 : ℕ) → Keeps s P l t Q m D E → IsKnownContext s P g.items → IsKnown s P OfTerm a → IsKnown s P OfType a1 → IsKnown s P OfType a2
    → coerce_parts (coerce m) (context_at t g.items) (tree_at t a) n (tree_at t b1) (tree_at t b2) (tree_at t a1) (tree_at t a2)
    ≡ coerce_parts (coerce l) (context_at s g.items) (tree_at s a) n (tree_at t b1) (tree_at t b2) (tree_at s a1) (tree_at s a2)
parts_same g n a b1 b2 a1 a2 k c x y z = rw (k.lookups, context_same g.items k c, k.stored.trees a x.node, k.stored.trees a1 y.node, k.stored.trees a2 z.node) refl

pub pair_follows : {s t : Stored} {P Q : Sort → Ref → Type 0} {l m : Lookups} {D E : Development} (u : Stored) (R : Sort → Ref → Type 0) (g : Context) (n a b f b1 b2 a1 a2 : ℕ) (x : Next) → IsOrdered l → Keeps s P l t Q m D E → IsKnownCoercion s P g a b a1 → IsKnown s P OfType a2
    → head l (tree_at s b) ≡ Ok (tree_at t f) → tree_at t f ≡ TPair n (tree_at t b1) (tree_at t b2)
    → Follows m u R (coerce_parts (coerce m) (context_at t g.items) (tree_at t a) n (tree_at t b1) (tree_at t b2) (tree_at t a1) (tree_at t a2)) (coercion_work m (TPair n (tree_at t b1) (tree_at t b2)) (TPair n (tree_at t a1) (tree_at t a2))) x
    → Follows l u R (coerce_to l (coerce l) (context_at s g.items) (tree_at s a) (tree_at s b) (TPair n (tree_at s a1) (tree_at s a2))) (coercion_work l (tree_at s b) (TPair n (tree_at s a1) (tree_at s a2))) x
pair_follows {s} {t} {l = l} {m} u R g n a b f b1 b2 a1 a2 x ordered k h j e i y =
    let d : head l (tree_at s b) ≡ Ok (TPair n (tree_at t b1) (tree_at t b2)) = e ∙ ap (λ z. Ok z) i in
    let w : coercion_work m (TPair n (tree_at t b1) (tree_at t b2)) (TPair n (tree_at t a1) (tree_at t a2)) ≤ coercion_work l (tree_at s b) (TPair n (tree_at s a1) (tree_at s a2)) =
    subst (λ y. coercion_work y (TPair n (tree_at t b1) (tree_at t b2)) (TPair n (tree_at t a1) (tree_at t a2)) ≤ coercion_work l (tree_at s b) (TPair n (tree_at s a1) (tree_at s a2))) (sym k.lookups)
    (rw (k.stored.trees a1 h.to.node, k.stored.trees a2 j.node) (head_work l ordered (tree_at s b) (TPair n (tree_at t b1) (tree_at t b2)) (TPair n (tree_at s a1) (tree_at s a2)) d)) in
    follows_under k.lookups y (parts_same g n a b1 b2 a1 a2 k h.context h.term h.to j ∙ sym (pair_case l (context_at s g.items) (tree_at s a) (tree_at s b) n (tree_at t b1) (tree_at t b2) (tree_at s a1) (tree_at s a2) d)) w

pub pair_fault : {s t : Stored} {P Q : Sort → Ref → Type 0} {l m : Lookups} {D E : Development} (g : Context) (n a b f b1 b2 a1 a2 : ℕ) (x : TypeFault) → Keeps s P l t Q m D E → IsKnownCoercion s P g a b a1 → IsKnown s P OfType a2
    → head l (tree_at s b) ≡ Ok (tree_at t f) → tree_at t f ≡ TPair n (tree_at t b1) (tree_at t b2)
    → IsFault (coerce_parts (coerce m) (context_at t g.items) (tree_at t a) n (tree_at t b1) (tree_at t b2) (tree_at t a1) (tree_at t a2)) x
    → IsFault (coerce_to l (coerce l) (context_at s g.items) (tree_at s a) (tree_at s b) (TPair n (tree_at s a1) (tree_at s a2))) x
pair_fault {s} {t} {l = l} g n a b f b1 b2 a1 a2 x k h j e i y =
    fault_as _ _ x (pair_case l (context_at s g.items) (tree_at s a) (tree_at s b) n (tree_at t b1) (tree_at t b2) (tree_at s a1) (tree_at s a2) (e ∙ ap (λ z. Ok z) i) ∙ sym (parts_same g n a b1 b2 a1 a2 k h.context h.term h.to j)) y

-- between function types
pub application_follows : {s : Stored} {P : Sort → Ref → Type 0} (l : Lookups) (g : Context) (a d1 d2 r1 r2 : ℕ) → IsKnownCoercion s P g a d1 d2 → IsKnownCoercion s P g a r1 r2 → tree_eq (tree_at s d1) (tree_at s d2) ≡ true
    → Follows l s P (coerce_function (coerce l) (context_at s g.items) (tree_at s a) (tree_at s d2) (tree_at s r2) (TFun (tree_at s d1) (tree_at s r1)))
    (coercion_work l (TFun (tree_at s d1) (tree_at s r1)) (TFun (tree_at s d2) (tree_at s r2))) (One (Apply g d1 a r1 r2))
application_follows {s} l g a d1 d2 r1 r2 h1 h2 e =
    let c : Assumptions = context_at s g.items in
    let f : Outcome (Unit {0}) = apply_outcome l c (tree_at s d1) (tree_at s a) (tree_at s r1) (tree_at s r2) in
    let both : Outcome (Unit {0}) = within_limits (lift_one (tree_at s d1)) >>= (λ x. within_limits (lift_one (tree_at s d2)) >>= (λ y.
    coerce l (Variable (tree_at s d1) ∷ c) (Var 0) x y >> coerce l (Variable (tree_at s d2) ∷ c) (Var 0) y x)) in
    record {
      known = (h1.from, h2);
      outcome = sym (ap (λ x. cond x (pure tt) both >> f) e ∙ after_none f);
      less = omega (
        arith,
        bound_less (type_size l.rank (tree_at s r1) + type_size l.rank (tree_at s r2)) (suc (type_size l.rank (tree_at s d1) + type_size l.rank (tree_at s r1)) + suc (type_size l.rank (tree_at s d2) + type_size l.rank (tree_at s r2))) (omega arith),
      );
    }

pub domains_follow : {s t u : Stored} {P Q R : Sort → Ref → Type 0} {l m n : Lookups} {D E F : Development} (f1 f2 g : Context) (a d1 d2 r1 r2 c1 c2 v : ℕ) → Keeps s P l t Q m D E → Keeps t Q m u R n E F → f1.items ≡ assumed.Bind d1 ∷ g.items → f2.items ≡ assumed.Bind d2 ∷ g.items
    → IsKnownCoercion s P g a d1 d2 → IsKnownCoercion s P g a r1 r2 → tree_eq (tree_at s d1) (tree_at s d2) ≡ false
    → Gives t Q OfType (lift_one (tree_at s d1)) c1 → Gives t Q OfType (lift_one (tree_at s d2)) c2 → Gives u R OfTerm (Var 0) v
    → Follows l u R (coerce_function (coerce l) (context_at s g.items) (tree_at s a) (tree_at s d2) (tree_at s r2) (TFun (tree_at s d1) (tree_at s r1)))
    (coercion_work l (TFun (tree_at s d1) (tree_at s r1)) (TFun (tree_at s d2) (tree_at s r2))) (Three (Coerce f1 v c1 c2) (Coerce f2 v c2 c1) (Apply g d1 a r1 r2))
domains_follow {s} {t} {u} {P} {Q} {R} {l} f1 f2 g a d1 d2 r1 r2 c1 c2 v k1 k2 e1 e2 h1 h2 e x1 x2 y =
    let k = keeps_trans k1 k2 in
    let z1 = gives_kept k2 x1 in
    let z2 = gives_kept k2 x2 in
    let c : Assumptions = context_at s g.items in
    let t1 : Tree = tree_at s d1 in
    let t2 : Tree = tree_at s d2 in
    let f : Outcome (Unit {0}) = apply_outcome l c t1 (tree_at s a) (tree_at s r1) (tree_at s r2) in
    let last : Tree → Tree → Outcome (Unit {0}) = λ x y. coerce l (Variable t1 ∷ c) (Var 0) x y >> coerce l (Variable t2 ∷ c) (Var 0) y x in
    let both : Outcome (Unit {0}) = within_limits (lift_one t1) >>= (λ x. within_limits (lift_one t2) >>= (λ y. last x y)) in
    let there : coerce l (context_at u f1.items) (tree_at u v) (tree_at u c1) (tree_at u c2) ≡ coerce l (Variable t1 ∷ c) (Var 0) (lift_one t1) (lift_one t2) =
    rw (e1, k.stored.trees d1 h1.from.node, context_same g.items k h1.context, y.tree, z1.tree, z2.tree) refl in
    let back : coerce l (context_at u f2.items) (tree_at u v) (tree_at u c2) (tree_at u c1) ≡ coerce l (Variable t2 ∷ c) (Var 0) (lift_one t2) (lift_one t1) =
    rw (e2, k.stored.trees d2 h1.to.node, context_same g.items k h1.context, y.tree, z1.tree, z2.tree) refl in
    let m1 : type_size l.rank (tree_at u c1) ≡ type_size l.rank t1 = ap (type_size l.rank) z1.tree ∙ type_size-lift l.rank t1 1 0 in
    let m2 : type_size l.rank (tree_at u c2) ≡ type_size l.rank t2 = ap (type_size l.rank) z2.tree ∙ type_size-lift l.rank t2 1 0 in
    let m3 : type_size l.rank (tree_at u r1) ≡ type_size l.rank (tree_at s r1) = ap (type_size l.rank) (k.stored.trees r1 h2.from.node) in
    let m4 : type_size l.rank (tree_at u r2) ≡ type_size l.rank (tree_at s r2) = ap (type_size l.rank) (k.stored.trees r2 h2.to.node) in
    let p1 = size_positive l.rank t1 in
    let p2 = size_positive l.rank t2 in
    let p3 = size_positive l.rank (tree_at s r1) in
    let p4 = size_positive l.rank (tree_at s r2) in
    let swap : type_size l.rank (tree_at u c2) + type_size l.rank (tree_at u c1) ≡ type_size l.rank (tree_at u c1) + type_size l.rank (tree_at u c2) = omega arith in
    let inside : IsKnownContext u R g.items = context_kept g.items k h1.context in
    record {
      known = (
        record { context = subst (IsKnownContext u R) (sym e1) (known_kept OfType d1 k h1.from, inside); term = y.known; from = z1.known; to = z2.known },
        record { context = subst (IsKnownContext u R) (sym e2) (known_kept OfType d2 k h1.to, inside); term = y.known; from = z2.known; to = z1.known },
        (known_kept OfType d1 k h1.from, coercion_kept k g a r1 r2 h2),
      );
      outcome = rw (there, back, task_same k l (Apply g d1 a r1 r2) (h1.from, h2))
          (sym (ap (λ x. cond x (pure tt) both >> f) e ∙ ap (λ x. x >> f) (accepted_then (within_limits (lift_one t1)) (λ x. within_limits (lift_one t2) >>= (λ y. last x y)) (lift_one t1) (fits_within (lift_one t1) x1.fits)
          ∙ accepted_then (within_limits (lift_one t2)) (λ y. last (lift_one t1) y) (lift_one t2) (fits_within (lift_one t2) x2.fits)) ∙ then_assoc _ _ f));
      less = rw swap (bound_three (type_size l.rank (tree_at u c1) + type_size l.rank (tree_at u c2)) (type_size l.rank (tree_at u r1) + type_size l.rank (tree_at u r2))
          (suc (type_size l.rank t1 + type_size l.rank (tree_at s r1)) + suc (type_size l.rank t2 + type_size l.rank (tree_at s r2))) (omega (arith, m1, m2, p3, p4)) (omega (arith, m3, m4, p1, p2)));
    }

-- the head is a function type
function_case : (l : Lookups) (g : Assumptions) (t b : Tree) (b1 b2 a1 a2 : Tree) → head l b ≡ Ok (TFun b1 b2)
    → coerce_to l (coerce l) g t b (TFun a1 a2) ≡ coerce_function (coerce l) g t a1 a2 (TFun b1 b2)
function_case l g t b b1 b2 a1 a2 h = result_then (head l b) (coerce_function (coerce l) g t a1 a2) (TFun b1 b2) h

function_same : {s t : Stored} {P Q : Sort → Ref → Type 0} {l m : Lookups} {D E : Development} (g : Context) (a b1 b2 a1 a2 : ℕ) → Keeps s P l t Q m D E → IsKnownContext s P g.items → IsKnown s P OfTerm a → IsKnown s P OfType a1 → IsKnown s P OfType a2
    → coerce_function (coerce m) (context_at t g.items) (tree_at t a) (tree_at t a1) (tree_at t a2) (TFun (tree_at t b1) (tree_at t b2))
    ≡ coerce_function (coerce l) (context_at s g.items) (tree_at s a) (tree_at s a1) (tree_at s a2) (TFun (tree_at t b1) (tree_at t b2))
function_same g a b1 b2 a1 a2 k c x y z = rw (k.lookups, context_same g.items k c, k.stored.trees a x.node, k.stored.trees a1 y.node, k.stored.trees a2 z.node) refl

pub function_follows : {s t : Stored} {P Q : Sort → Ref → Type 0} {l m : Lookups} {D E : Development} (u : Stored) (R : Sort → Ref → Type 0) (g : Context) (a b f b1 b2 a1 a2 : ℕ) (x : Next) → IsOrdered l → Keeps s P l t Q m D E → IsKnownCoercion s P g a b a1 → IsKnown s P OfType a2
    → head l (tree_at s b) ≡ Ok (tree_at t f) → tree_at t f ≡ TFun (tree_at t b1) (tree_at t b2)
    → Follows m u R (coerce_function (coerce m) (context_at t g.items) (tree_at t a) (tree_at t a1) (tree_at t a2) (TFun (tree_at t b1) (tree_at t b2))) (coercion_work m (TFun (tree_at t b1) (tree_at t b2)) (TFun (tree_at t a1) (tree_at t a2))) x
    → Follows l u R (coerce_to l (coerce l) (context_at s g.items) (tree_at s a) (tree_at s b) (TFun (tree_at s a1) (tree_at s a2))) (coercion_work l (tree_at s b) (TFun (tree_at s a1) (tree_at s a2))) x
function_follows {s} {t} {l = l} {m} u R g a b f b1 b2 a1 a2 x ordered k h j e i y =
    let d : head l (tree_at s b) ≡ Ok (TFun (tree_at t b1) (tree_at t b2)) = e ∙ ap (λ z. Ok z) i in
    let w : coercion_work m (TFun (tree_at t b1) (tree_at t b2)) (TFun (tree_at t a1) (tree_at t a2)) ≤ coercion_work l (tree_at s b) (TFun (tree_at s a1) (tree_at s a2)) =
    subst (λ y. coercion_work y (TFun (tree_at t b1) (tree_at t b2)) (TFun (tree_at t a1) (tree_at t a2)) ≤ coercion_work l (tree_at s b) (TFun (tree_at s a1) (tree_at s a2))) (sym k.lookups)
    (rw (k.stored.trees a1 h.to.node, k.stored.trees a2 j.node) (head_work l ordered (tree_at s b) (TFun (tree_at t b1) (tree_at t b2)) (TFun (tree_at s a1) (tree_at s a2)) d)) in
    follows_under k.lookups y (function_same g a b1 b2 a1 a2 k h.context h.term h.to j ∙ sym (function_case l (context_at s g.items) (tree_at s a) (tree_at s b) (tree_at t b1) (tree_at t b2) (tree_at s a1) (tree_at s a2) d)) w

pub function_fault : {s t : Stored} {P Q : Sort → Ref → Type 0} {l m : Lookups} {D E : Development} (g : Context) (a b f b1 b2 a1 a2 : ℕ) (x : TypeFault) → Keeps s P l t Q m D E → IsKnownCoercion s P g a b a1 → IsKnown s P OfType a2
    → head l (tree_at s b) ≡ Ok (tree_at t f) → tree_at t f ≡ TFun (tree_at t b1) (tree_at t b2)
    → IsFault (coerce_function (coerce m) (context_at t g.items) (tree_at t a) (tree_at t a1) (tree_at t a2) (TFun (tree_at t b1) (tree_at t b2))) x
    → IsFault (coerce_to l (coerce l) (context_at s g.items) (tree_at s a) (tree_at s b) (TFun (tree_at s a1) (tree_at s a2))) x
function_fault {s} {t} {l = l} g a b f b1 b2 a1 a2 x k h j e i y =
    fault_as _ _ x (function_case l (context_at s g.items) (tree_at s a) (tree_at s b) (tree_at t b1) (tree_at t b2) (tree_at s a1) (tree_at s a2) (e ∙ ap (λ z. Ok z) i) ∙ sym (function_same g a b1 b2 a1 a2 k h.context h.term h.to j)) y

-- the predicate of a subtype
pub satisfy_follows : {s t : Stored} {P Q : Sort → Ref → Type 0} {l m : Lookups} {D E : Development} (n : Lookups) (g : Context) (p a goal : ℕ) → Keeps s P l t Q m D E → IsKnownContext s P g.items → IsKnown s P OfTerm p → IsKnown s P OfTerm a
    → Stands t (put_in (tree_at s p) (tree_at s a)) goal
    → Follows n t Q (satisfy_outcome (context_at s g.items) (tree_at s p) (tree_at s a)) 1 (Owe (record { context = g; goal = goal }))
satisfy_follows {s} {t} {P} {Q} n g p a goal k c x y h =
    let z = put_gives OfTerm p a goal k x y h in
    let u : Tree = put_in (tree_at s p) (tree_at s a) in
    record {
      known = record { context = context_kept g.items k c; goal = z.known };
      outcome = rw (context_same g.items k c, z.tree) (sym (accepted_then (within_limits u) (owe (context_at s g.items)) u (fits_within u z.fits)));
      less = omega arith;
    }

-- the second component
pub second_follows : {s t u : Stored} {P Q R : Sort → Ref → Type 0} {l m n : Lookups} {D E F : Development} (g : Context) (j a f b c x y z : ℕ) → Keeps s P l t Q m D E → Keeps t Q m u R n E F → IsKnownCoercion s P g a b c → IsKnown s P OfTerm f
    → Gives t Q OfTerm (second_part j (tree_at s a)) x → Gives u R OfType (put_in (tree_at t b) (tree_at t f)) y → Gives u R OfType (put_in (tree_at t c) (tree_at t f)) z
    → Follows l u R (second_outcome l (context_at s g.items) (tree_at s a) j (tree_at s f) (tree_at s b) (tree_at s c)) (suc (coercion_work l (tree_at s b) (tree_at s c))) (One (Coerce g x y z))
second_follows {s} {t} {u} {P} {Q} {R} {l} g j a f b c x y z k1 k2 h i vx vy vz =
    let k = keeps_trans k1 k2 in
    let wx = gives_kept k2 vx in
    let tx : Tree = second_part j (tree_at s a) in
    let tb : Tree = put_in (tree_at s b) (tree_at s f) in
    let tc : Tree = put_in (tree_at s c) (tree_at s f) in
    let eb : put_in (tree_at t b) (tree_at t f) ≡ tb = rw (k1.stored.trees b h.from.node, k1.stored.trees f i.node) refl in
    let ec : put_in (tree_at t c) (tree_at t f) ≡ tc = rw (k1.stored.trees c h.to.node, k1.stored.trees f i.node) refl in
    let go : Tree → Tree → Tree → Outcome (Unit {0}) = coerce l (context_at s g.items) in
    record {
      known = record { context = context_kept g.items k h.context; term = wx.known; from = vy.known; to = vz.known };
      outcome = rw (context_same g.items k h.context, wx.tree, vy.tree, vz.tree, eb, ec)
          (sym (accepted_then (within_limits tx) (λ v. within_limits tb >>= (λ w. within_limits tc >>= (λ q. go v w q))) tx (fits_within tx vx.fits)
          ∙ accepted_then (within_limits tb) (λ w. within_limits tc >>= (λ q. go tx w q)) tb (fits_within tb (subst IsWithinLimits eb vy.fits))
          ∙ accepted_then (within_limits tc) (λ q. go tx tb q) tc (fits_within tc (subst IsWithinLimits ec vz.fits))));
      less = rw (vy.tree, vz.tree, eb, ec, type_size-put_in l.rank (tree_at s b) (tree_at s f) i.sort, type_size-put_in l.rank (tree_at s c) (tree_at s f) i.sort) (omega arith);
    }

pub second_fault : {s t : Stored} {P Q : Sort → Ref → Type 0} {l m : Lookups} {D E : Development} (n : Lookups) (g : Assumptions) (j a f b c x : ℕ) (e : TypeFault) → Keeps s P l t Q m D E → IsKnown s P OfTerm f → IsKnown s P OfType b → IsKnown s P OfType c
    → Gives t Q OfTerm (second_part j (tree_at s a)) x → IsFault (both_within (put_in (tree_at t b) (tree_at t f)) (put_in (tree_at t c) (tree_at t f))) e
    → IsFault (second_outcome n g (tree_at s a) j (tree_at s f) (tree_at s b) (tree_at s c)) e
second_fault {s} n g j a f b c x fault.Memory k h i o v r = tt
second_fault {s} {t} n g j a f b c x (fault.Refused q) k h i o v r =
    let tx : Tree = second_part j (tree_at s a) in
    let tb : Tree = put_in (tree_at s b) (tree_at s f) in
    let tc : Tree = put_in (tree_at s c) (tree_at s f) in
    let eb : put_in (tree_at t b) (tree_at t f) ≡ tb = rw (k.stored.trees b i.node, k.stored.trees f h.node) refl in
    let ec : put_in (tree_at t c) (tree_at t f) ≡ tc = rw (k.stored.trees c o.node, k.stored.trees f h.node) refl in
    let go : Tree → Tree → Tree → Outcome (Unit {0}) = coerce n g in
    let w : both_within tb tc ≡ Refused q = rw (eb, ec) at r in
    accepted_then (within_limits tx) (λ v. within_limits tb >>= (λ w. within_limits tc >>= (λ p. go v w p))) tx (fits_within tx v.fits)
    ∙ both_refused (within_limits tb) (within_limits tc) (go tx) q w

-- the application
pub apply_follows : {s t : Stored} {P Q : Sort → Ref → Type 0} {l m : Lookups} {D E : Development} (f g : Context) (d a b c x : ℕ) → Keeps s P l t Q m D E → f.items ≡ assumed.Bind d ∷ g.items → IsKnown s P OfType d → IsKnownCoercion s P g a b c
    → Gives t Q OfTerm (application (tree_at s d) (tree_at s a)) x
    → Follows l t Q (apply_outcome l (context_at s g.items) (tree_at s d) (tree_at s a) (tree_at s b) (tree_at s c)) (suc (coercion_work l (tree_at s b) (tree_at s c))) (One (Coerce f x b c))
apply_follows {s} {t} {P} {Q} {l} f g d a b c x k e n h v =
    let u : Tree = application (tree_at s d) (tree_at s a) in
    record {
      known = record { context = subst (IsKnownContext t Q) (sym e) (known_kept OfType d k n, context_kept g.items k h.context); term = v.known; from = known_kept OfType b k h.from; to = known_kept OfType c k h.to };
      outcome = rw (e, k.stored.trees d n.node, context_same g.items k h.context, v.tree, k.stored.trees b h.from.node, k.stored.trees c h.to.node)
          (sym (accepted_then (within_limits u) (λ y. coerce l (Variable (tree_at s d) ∷ context_at s g.items) y (tree_at s b) (tree_at s c)) u (fits_within u v.fits)));
      less = rw (k.stored.trees b h.from.node, k.stored.trees c h.to.node) (omega arith);
    }

-- to a type of no other form
abbrev pub IsOtherNode : Node → Type 0
IsOtherNode n = ((r : ℕ) → n ≡ node.TName r → ⊥) × ((a p : ℕ) → n ≡ node.TSub a p → ⊥) × ((k a b : ℕ) → n ≡ node.TPair k a b → ⊥) × ((a b : ℕ) → n ≡ node.TFun a b → ⊥)

other_case : (l : Lookups) (s : Stored) (g : Assumptions) (t b : Tree) (n : Node) → sort_of (node_tree s n) ≡ OfType → IsOtherNode n → coerce_to l (coerce l) g t b (node_tree s n) ≡ head_outcome l b (node_tree s n)
other_case l s g t b node.TBool o h = refl
other_case l s g t b (node.TName r) o h = absurd (h.0 r refl)
other_case l s g t b (node.TSub a p) o h = absurd (h.1 a p refl)
other_case l s g t b (node.TPair k x y) o h = absurd (h.2 k x y refl)
other_case l s g t b (node.TFun x y) o h = absurd (h.3 x y refl)
other_case l s g t b (node.Var n) o h = cc
other_case l s g t b (node.Const r) o h = cc
other_case l s g t b node.True o h = cc
other_case l s g t b node.False o h = cc
other_case l s g t b (node.Lam x y) o h = cc
other_case l s g t b (node.App x y) o h = cc
other_case l s g t b (node.Tup k x y) o h = cc
other_case l s g t b (node.Fst k x) o h = cc
other_case l s g t b (node.Snd k x) o h = cc
other_case l s g t b (node.If x y z) o h = cc
other_case l s g t b (node.Eq x y) o h = cc

pub other_done : (l : Lookups) (s t : Stored) (Q : Sort → Ref → Type 0) (g : Assumptions) (a b c : Tree) (n : Node) → c ≡ node_tree s n → sort_of c ≡ OfType → IsOtherNode n → head_outcome l b c ≡ pure tt
    → Follows l t Q (coerce_to l (coerce l) g a b c) (coercion_work l b c) Done
other_done l s t Q g a b c n e o h x =
    done_follows l t Q (coerce_to l (coerce l) g a b c) b c (rw e (other_case l s g a b n (rw e at o) h) ∙ rw e at x)

-- The first case.

pub above_follows : (l : Lookups) → IsOrdered l → (s : Stored) (P : Sort → Ref → Type 0) (g : Assumptions) (t b a : Tree) → IsSorted t → IsTerm t → is_above l b a ≡ Ok true → Follows l s P (coerce l g t b a) (coercion_work l b a) Done
above_follows l ordered s P g t b a i h e = done_follows l s P (coerce l g t b a) b a (coerce_above l ordered g t b a i h e)

pub to_follows : {s t : Stored} {P Q : Sort → Ref → Type 0} {l m : Lookups} {D E : Development} (u : Stored) (R : Sort → Ref → Type 0) (g : Context) (a b c : ℕ) (x : Next) → IsOrdered l → Keeps s P l t Q m D E → IsKnownCoercion s P g a b c → IsSorted (tree_at s a)
    → is_above l (tree_at s b) (tree_at s c) ≡ Ok false
    → Follows m u R (coerce_to m (coerce m) (context_at t g.items) (tree_at t a) (tree_at t b) (tree_at t c)) (coercion_work m (tree_at t b) (tree_at t c)) x
    → Follows l u R (coerce l (context_at s g.items) (tree_at s a) (tree_at s b) (tree_at s c)) (coercion_work l (tree_at s b) (tree_at s c)) x
to_follows {s} {l = l} u R g a b c x ordered k h i e y =
    let z : Follows l u R (coerce_to l (coerce l) (context_at s g.items) (tree_at s a) (tree_at s b) (tree_at s c)) (coercion_work l (tree_at s b) (tree_at s c)) x =
    rw (k.lookups, context_same g.items k h.context, k.stored.trees a h.term.node, k.stored.trees b h.from.node, k.stored.trees c h.to.node) at y in
    follows_as z (sym (coerce_not_above l ordered (context_at s g.items) (tree_at s a) (tree_at s b) (tree_at s c) i h.term.sort e)) (omega arith)

pub to_fault : {s t : Stored} {P Q : Sort → Ref → Type 0} {l m : Lookups} {D E : Development} (g : Context) (a b c : ℕ) (e : TypeFault) → IsOrdered l → Keeps s P l t Q m D E → IsKnownCoercion s P g a b c → IsSorted (tree_at s a)
    → is_above l (tree_at s b) (tree_at s c) ≡ Ok false → IsFault (coerce_to m (coerce m) (context_at t g.items) (tree_at t a) (tree_at t b) (tree_at t c)) e
    → IsFault (coerce l (context_at s g.items) (tree_at s a) (tree_at s b) (tree_at s c)) e
to_fault {s} {l = l} g a b c e ordered k h i o y =
    let z : IsFault (coerce_to l (coerce l) (context_at s g.items) (tree_at s a) (tree_at s b) (tree_at s c)) e =
    rw (k.lookups, context_same g.items k h.context, k.stored.trees a h.term.node, k.stored.trees b h.from.node, k.stored.trees c h.to.node) at y in
    fault_as _ _ e (coerce_not_above l ordered (context_at s g.items) (tree_at s a) (tree_at s b) (tree_at s c) i h.term.sort o) z
