-- Tasks that are left, and the conditions that are owed so far.
use Rattle.std.proofs.Common.{◌≡◌, ℕ, ◌+◌, ◌<◌, List, [], ◌∷◌, ◌++◌, refl, ap, ap₂, ◌∙◌, sym, subst, arith}
use Rattle.pvs_base.specs.declared.code.Code.{Code}
use Rattle.pvs_terms.specs.Tree.{Ref}
use Rattle.pvs_terms.specs.declared.shape.Sort.{Sort}
use Rattle.pvs_terms.specs.Stored.{Stored, tree_at}
use Rattle.pvs_subst.specs.Contexts.{context_at}
use Rattle.pvs_subst.specs.declared.context.Condition.{Condition}
use Rattle.pvs_subst.specs.declared.context.Context.{Context}
use Rattle.pvs_sig.specs.Development.{Development}
use Rattle.pvs_sig.specs.Lookups.{Lookups}
use Rattle.pvs_types.specs.Outcome.{Conditions, Outcome, Refused, Accepted, outcome_after, ◌>>◌, pure}
use Rattle.pvs_types.specs.Coerce.{coerce}
use Rattle.pvs_types.specs.Uses.{Uses}
use Rattle.pvs_typing.specs.declared.fault.TypeFault.{TypeFault}
use Rattle.pvs_typing.specs.declared.fault.TypeFault.TheVariants as fault
use Rattle.pvs_typing.specs.declared.tasks.Task.{Task}
use Rattle.pvs_typing.specs.declared.tasks.Task.TheVariants.{Coerce}
use Rattle.pvs_typing.specs.declared.tasks.Next.{Next}
use Rattle.pvs_typing.specs.declared.tasks.Next.TheVariants.{Done, Owe, One, Two, Three}
use Rattle.pvs_typing.specs.Growth.{Keeps}
use Rattle.pvs_typing.specs.Answers.{IsFault}
use Rattle.pvs_typing.specs.Owed.{condition_at, conditions_at, AreKnownConditions, Owes, Judges}
use Rattle.pvs_typing.specs.code.Tasks.{task_outcome, stack_outcome, next_outcome, IsKnownCoercion, IsKnownTask, AreKnownTasks, IsKnownNext, task_work, stack_work, next_work, Follows, Leaves, tasks_after, conditions_after}
use Rattle.pvs_typing.proofs.OwedLaws.{after_none, after_then, conditions_same, conditions_kept, conditions_at-append, known_conditions-append}
use Rattle.pvs_typing.proofs.TaskLaws.{then_assoc, tasks_kept, stack_same, stack_work_same}

module _ (l : Lookups) (s : Stored) where
  stack_last : (xs : List Task) (x : Task) (o : Outcome (Unit {0})) → stack_outcome l s (xs ++ x ∷ []) o ≡ (task_outcome l s x >> stack_outcome l s xs o)
  stack_last [] x o = refl
  stack_last (y ∷ xs) x o = stack_last xs x (task_outcome l s y >> o)

  work_last : (xs : List Task) (x : Task) → stack_work l s (xs ++ x ∷ []) ≡ stack_work l s xs + task_work l s x
  work_last [] x = omega arith
  work_last (y ∷ xs) x = let h = work_last xs x in omega arith

module _ (s : Stored) (P : Sort → Ref → Type 0) where
  known_last : (xs : List Task) (x : Task) → AreKnownTasks s P xs → IsKnownTask s P x → AreKnownTasks s P (xs ++ x ∷ [])
  known_last [] x h k = (k, tt)
  known_last (y ∷ xs) x h k = (h.0, known_last xs x h.1 k)

  known_split : (xs : List Task) (x : Task) → AreKnownTasks s P (xs ++ x ∷ []) → AreKnownTasks s P xs × IsKnownTask s P x
  known_split [] x h = (tt, h.0)
  known_split (y ∷ xs) x h = let r = known_split xs x h.1 in ((h.0, r.0), r.1)

  tasks_added : (xs : List Task) (n : Next) → AreKnownTasks s P xs → IsKnownNext s P n → AreKnownTasks s P (tasks_after xs n)
  tasks_added xs Done h k = h
  tasks_added xs (Owe c) h k = h
  tasks_added xs (One x) h k = known_last xs x h k
  tasks_added xs (Two x y) h k = known_last (xs ++ y ∷ []) x (known_last xs y h k.1) k.0
  tasks_added xs (Three x y z) h k = known_last ((xs ++ z ∷ []) ++ y ∷ []) x (known_last (xs ++ z ∷ []) y (known_last xs z h k.2) k.1) k.0

  conditions_added : (cs : List Condition) (n : Next) → AreKnownConditions s P cs → IsKnownNext s P n → AreKnownConditions s P (conditions_after cs n)
  conditions_added cs Done h k = h
  conditions_added cs (Owe c) h k = known_conditions-append s P cs c h k
  conditions_added cs (One x) h k = h
  conditions_added cs (Two x y) h k = h
  conditions_added cs (Three x y z) h k = h

module _ (l : Lookups) (s : Stored) where
  -- what follows a step, and then the tasks that were left, are what is left then
  outcome_added : (cs : List Condition) (xs : List Task) (n : Next) → outcome_after (conditions_at s cs) [] (next_outcome l s n >> stack_outcome l s xs (pure tt))
      ≡ outcome_after (conditions_at s (conditions_after cs n)) [] (stack_outcome l s (tasks_after xs n) (pure tt))
  outcome_added cs xs Done = ap (outcome_after (conditions_at s cs) []) (after_none (stack_outcome l s xs (pure tt)))
  outcome_added cs xs (Owe c) = after_then (conditions_at s cs) [] (Accepted (tt {0}) (condition_at s c ∷ []) []) (λ _. stack_outcome l s xs (pure tt))
      ∙ ap (λ ds. outcome_after ds [] (stack_outcome l s xs (pure tt))) (sym (conditions_at-append s cs c))
  outcome_added cs xs (One x) = ap (outcome_after (conditions_at s cs) []) (sym (stack_last l s xs x (pure tt)))
  outcome_added cs xs (Two x y) = ap (outcome_after (conditions_at s cs) [])
      (then_assoc (task_outcome l s x) (task_outcome l s y) (stack_outcome l s xs (pure tt)) ∙ ap (λ o. task_outcome l s x >> o) (sym (stack_last l s xs y (pure tt))) ∙ sym (stack_last l s (xs ++ y ∷ []) x (pure tt)))
  outcome_added cs xs (Three x y z) =
      let k : Outcome (Unit {0}) = stack_outcome l s xs (pure tt) in
      ap (outcome_after (conditions_at s cs) [])
      (then_assoc (task_outcome l s x) (task_outcome l s y >> task_outcome l s z) k
      ∙ ap (λ o. task_outcome l s x >> o) (then_assoc (task_outcome l s y) (task_outcome l s z) k ∙ ap (λ o. task_outcome l s y >> o) (sym (stack_last l s xs z (pure tt))) ∙ sym (stack_last l s (xs ++ z ∷ []) y (pure tt)))
      ∙ sym (stack_last l s ((xs ++ z ∷ []) ++ y ∷ []) x (pure tt)))

  work_added : (xs : List Task) (n : Next) → stack_work l s (tasks_after xs n) ≡ stack_work l s xs + next_work l s n
  work_added xs Done = omega arith
  work_added xs (Owe c) = omega arith
  work_added xs (One x) = work_last l s xs x
  work_added xs (Two x y) = let h = work_last l s (xs ++ y ∷ []) x in let k = work_last l s xs y in omega arith
  work_added xs (Three x y z) = let h = work_last l s ((xs ++ z ∷ []) ++ y ∷ []) x in let k = work_last l s (xs ++ z ∷ []) y in let j = work_last l s xs z in omega arith

-- The loop.

pub loop_starts : (l : Lookups) (s : Stored) (P : Sort → Ref → Type 0) (f g : Context) (a b c : ℕ) (cs : List Condition) → f.items ≡ g.items → IsKnownCoercion s P g a b c → AreKnownConditions s P cs
    → Leaves l s P (outcome_after (conditions_at s cs) [] (coerce l (context_at s g.items) (tree_at s a) (tree_at s b) (tree_at s c))) cs (Coerce f a b c ∷ [])
loop_starts l s P f g a b c cs e h k = record {
  tasks = (record { context = rw e h.context; term = h.term; from = h.from; to = h.to }, tt);
  conditions = k;
  same = rw e (ap (outcome_after (conditions_at s cs) []) (sym (then_done (coerce l (context_at s g.items) (tree_at s a) (tree_at s b) (tree_at s c)))));
}
  where
    then_done : (o : Outcome (Unit {0})) → (o >> pure tt) ≡ o
    then_done (Refused q) = refl
    then_done (Accepted u ds rs) = ap₂ (Accepted u) (append_none ds) (append_none rs)
      where
        append_none : {A : Type 0} (xs : List A) → xs ++ [] ≡ xs
        append_none [] = refl
        append_none (x ∷ xs) = ap (λ y. x ∷ y) (append_none xs)

pub loop_goes_on : {t u : Stored} {Q R : Sort → Ref → Type 0} {l m n : Lookups} {E F : Development} {o : Outcome (Unit {0})} (cs ds : List Condition) (xs ts us : List Task) (x : Task) (y : Next) → Leaves l t Q o cs ts → ts ≡ xs ++ x ∷ [] → m ≡ l → Keeps t Q m u R n E F
    → Follows m u R (task_outcome m t x) (task_work m t x) y → ds ≡ conditions_after cs y → us ≡ tasks_after xs y → Leaves l u R o ds us
loop_goes_on {t} {u} {Q} {R} {l} {o = o} cs ds xs ts us x y h e i k f c d =
    let known = known_split t Q xs x (subst (AreKnownTasks t Q) e h.tasks) in
    let f : Follows l u R (task_outcome l t x) (task_work l t x) y = rw i at f in
    let now : outcome_after (conditions_at u cs) [] (next_outcome l u y >> stack_outcome l u xs (pure tt)) ≡ outcome_after (conditions_at t cs) [] (task_outcome l t x >> stack_outcome l t xs (pure tt)) =
    rw (conditions_same cs k h.conditions, f.outcome, stack_same k l xs (pure tt) known.0) refl in
    record {
      tasks = rw d (tasks_added u R xs y (tasks_kept k xs known.0) f.known);
      conditions = rw c (conditions_added u R cs y (conditions_kept cs k h.conditions) f.known);
      same = rw (c, d) (h.same ∙ ap (λ z. outcome_after (conditions_at t cs) [] (stack_outcome l t z (pure tt))) e ∙ ap (outcome_after (conditions_at t cs) []) (stack_last l t xs x (pure tt)) ∙ sym now ∙ outcome_added l u cs xs y);
    }

pub loop_less : {t u : Stored} {Q R : Sort → Ref → Type 0} {l m n : Lookups} {E F : Development} {o : Outcome (Unit {0})} (cs : List Condition) (xs ts us : List Task) (x : Task) (y : Next) → Leaves l t Q o cs ts → ts ≡ xs ++ x ∷ [] → m ≡ l → Keeps t Q m u R n E F
    → Follows m u R (task_outcome m t x) (task_work m t x) y → us ≡ tasks_after xs y → stack_work l u us < stack_work l t ts
loop_less {t} {u} {Q} {R} {l} cs xs ts us x y h e i k f d =
    let known = known_split t Q xs x (subst (AreKnownTasks t Q) e h.tasks) in
    let f : Follows l u R (task_outcome l t x) (task_work l t x) y = rw i at f in
    rw (d, e, work_added l u xs y, work_last l t xs x, stack_work_same k l xs known.0) (omega (arith, f.less))

refused_before : (before : Conditions) (o : Outcome (Unit {0})) (c : Code) → outcome_after before [] o ≡ Refused c → o ≡ Refused c
refused_before before (Refused d) c h = h
refused_before before (Accepted a cs rs) c h = cc

pub loop_fault : {t : Stored} {Q : Sort → Ref → Type 0} {l m : Lookups} (before : Conditions) (o : Outcome (Unit {0})) (cs : List Condition) (xs ts : List Task) (x : Task) (e : TypeFault) → Leaves l t Q (outcome_after before [] o) cs ts → ts ≡ xs ++ x ∷ [] → m ≡ l
    → IsFault (task_outcome m t x) e → IsFault o e
loop_fault {t} {l = l} before o cs xs ts x (fault.Refused c) h e i f =
    let g : task_outcome l t x ≡ Refused c = rw i at f in
    refused_before before o c (h.same ∙ ap (λ z. outcome_after (conditions_at t cs) [] (stack_outcome l t z (pure tt))) e ∙ ap (outcome_after (conditions_at t cs) []) (stack_last l t xs x (pure tt) ∙ ap (λ z. z >> stack_outcome l t xs (pure tt)) g))
loop_fault before o cs xs ts x fault.Memory h e i f = tt

pub loop_ends : {t : Stored} {Q : Sort → Ref → Type 0} {l : Lookups} (before : Conditions) (o : Outcome (Unit {0})) (cs : List Condition) (ts : List Task) → Leaves l t Q (outcome_after before [] o) cs ts → ts ≡ [] → Owes t before o tt cs
loop_ends {t} {l = l} before o cs ts h e = record {
  symbols = [];
  is = h.same ∙ ap (λ z. outcome_after (conditions_at t cs) [] (stack_outcome l t z (pure tt))) e ∙ ap (λ z. Accepted tt z []) (append_none (conditions_at t cs));
}
  where
    append_none : (xs : Conditions) → xs ++ [] ≡ xs
    append_none [] = refl
    append_none (x ∷ xs) = ap (λ y. x ∷ y) (append_none xs)

pub last_known : (s : Stored) (P : Sort → Ref → Type 0) (xs ts : List Task) (x : Task) → ts ≡ xs ++ x ∷ [] → AreKnownTasks s P ts → IsKnownTask s P x
last_known s P xs ts x e h = (known_split s P xs x (subst (AreKnownTasks s P) e h)).1

-- what is owed from nothing on, where no symbol is used
pub owes_judges : (r s : Stored) (o : Outcome (Unit {0})) (cs bs : List Condition) (rs : List ℕ) → Uses [] o → Owes s (conditions_at r bs) o tt cs → bs ≡ [] → rs ≡ [] → Judges s o tt cs rs
owes_judges r s o cs bs rs u h e i =
    let k : o ≡ Accepted tt (conditions_at s cs) h.symbols = sym (after_none o) ∙ ap (λ x. outcome_after (conditions_at r x) [] o) (sym e) ∙ h.is in
    record { symbols = h.symbols; is = k; uses = rw i (subst (Uses []) k u) }
