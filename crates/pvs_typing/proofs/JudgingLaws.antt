-- What the calls of typing answer in turn, and where the store grows.
use Rattle.std.proofs.Common.{◌≡◌, ℕ, Bool, true, false, cond, List, [], ◌∷◌, ◌++◌, Result, Ok, Err, refl, ap, ◌∙◌, sym, subst}
use Rattle.std.specs.Prelude.{IfOk, IfErr, IsErrAnd}
use Rattle.std.proofs.lemmas.Result.{err_from_is_err_and}
use Rattle.pvs_base.specs.declared.code.Code.{Code}
use Rattle.pvs_base.specs.declared.code.Code.TheVariants.{TooLarge}
use Rattle.pvs_types.specs.Limits.{is_within_limits}
use Rattle.pvs_types.proofs.LimitsLaws.{limits_decided}
use Rattle.pvs_terms.specs.Tree.{Tree, Ref, IsWithinLimits}
use Rattle.pvs_terms.specs.declared.shape.Sort.{Sort}
use Rattle.pvs_terms.specs.Stored.{Stored, tree_at}
use Rattle.pvs_subst.specs.Contexts.{Assumptions, context_at}
use Rattle.pvs_subst.specs.declared.context.Assumed.{Assumed}
use Rattle.pvs_subst.specs.declared.context.Condition.{Condition}
use Rattle.pvs_sig.specs.Development.{Development}
use Rattle.pvs_sig.specs.Lookups.{Lookups, IsOrdered}
use Rattle.pvs_types.specs.Outcome.{Conditions, Outcome, Refused, Accepted, outcome_after, ◌>>=◌, pure, refuse, from_result, within_limits}
use Rattle.pvs_typing.specs.declared.fault.TypeFault.{TypeFault}
use Rattle.pvs_typing.specs.declared.fault.TypeFault.TheVariants as fault
use Rattle.pvs_typing.specs.Answers.{Gives, IsFault, IsRefusal, Makes}
use Rattle.pvs_typing.specs.Growth.{IsKnown, IsKnownContext, Keeps}
use Rattle.pvs_typing.specs.State.{State, IsItemOf, IsContextOf, AreConditionsOf, Grows}
use Rattle.pvs_types.specs.Symbols.{symbols}
use Rattle.pvs_types.specs.Uses.{AreSameSymbols, Uses}
use Rattle.pvs_typing.specs.Owed.{conditions_at, refs_at, AreKnownConditions, Judges, Owes}
use Rattle.pvs_typing.specs.Judging.{IsGiven, Accepts, IsAnswer, Answers}
use Rattle.pvs_typing.proofs.GrowthLaws.{context_kept}
use Rattle.pvs_typing.proofs.OwedLaws.{after_none, after_then, conditions_same, conditions_kept, context_same, owes_none, owes_then, fault_first, fault_next}
use Rattle.pvs_typing.proofs.PartLaws.{fits_within, large_refused}

-- steps in turn are one after another however they are grouped
pub then_assoc : {A B C : Type 0} (o : Outcome A) (f : A → Outcome B) (k : B → Outcome C) → ((o >>= f) >>= k) ≡ (o >>= (λ a. f a >>= k))
then_assoc (Refused c) f k = refl
then_assoc (Accepted a cs rs) f k = sym (after_then cs rs (f a) k)

-- What is given.

pub given_kept : {k m : State} {theory : ℕ} {g : List Assumed} {cs ds : List Condition}
    → IsGiven k theory g cs → Grows k m theory → AreConditionsOf m theory ds → IsGiven m theory g ds
given_kept {theory = theory} {g = g} h k n = record {
  name = k.stored.names theory h.name;
  context = context_kept g k h.context;
  conditions = n;
  ordered = subst IsOrdered (sym k.lookups) h.ordered;
}

-- inside one more item
pub given_under : {k : State} {theory : ℕ} {g h : List Assumed} {cs : List Condition} (x : Assumed)
    → IsGiven k theory g cs → IsItemOf k theory x → h ≡ x ∷ g → IsGiven k theory h cs
given_under {k} {theory} x h n e = record {
  name = h.name;
  context = subst (IsContextOf k theory) (sym e) (n, h.context);
  conditions = h.conditions;
  ordered = h.ordered;
}

-- What is answered.

-- an outcome in other words
pub answers_as : {V A : Type 0} {value : V → A} {s : Stored} {P : Sort → Ref → Type 0} {before : Conditions} {o p : Outcome A} {cs : List Condition} {r : Result V TypeFault}
    → o ≡ p → Answers value s P before o cs r → Answers value s P before p cs r
answers_as {value = value} {s = s} {P = P} {before = before} {cs = cs} {r = r} e h = subst (λ x. Answers value s P before x cs r) e h

-- what is accepted, and then the next step
pub answers_then : {A W B : Type 0} {value : W → B} {s u : Stored} {Q S : Sort → Ref → Type 0} {before : Conditions} {o : Outcome A} {a : A} {cs ds : List Condition} {r : Result W TypeFault} (k : A → Outcome B)
    → Accepts s Q before o a cs → Answers value u S (conditions_at s cs) (k a) ds r → Answers value u S before (o >>= k) ds r
answers_then {value = value} {s = s} {u = u} {S = S} {before = before} {o = o} {a = a} {cs = cs} {ds = ds} {r = r} k h j = record { is = go r j.is }
  where
    go : (q : Result _ TypeFault) → IsAnswer value u S (conditions_at s cs) (k a) ds q → IsAnswer value u S before (o >>= k) ds q
    go (Ok w) i = record { owes = owes_then k h.owes i.owes; conditions = i.conditions }
    go (Err e) i = fault_next k e h.owes i

-- the first fault
pub answers_fault : {A W B : Type 0} {value : W → B} {s : Stored} {P : Sort → Ref → Type 0} {before : Conditions} {cs : List Condition} {r : Result W TypeFault} (o : Outcome A) (k : A → Outcome B) (e : TypeFault)
    → r ≡ Err e → IsFault o e → Answers value s P before (o >>= k) cs r
answers_fault {value = value} {s = s} {P = P} {before = before} {cs = cs} o k e h f =
    record { is = subst (IsAnswer value s P before (o >>= k) cs) (sym h) (fault_first o k e f) }

pub append_none : (xs : Conditions) → xs ++ [] ≡ xs
append_none [] = refl
append_none (x ∷ xs) = ap (λ y. x ∷ y) (append_none xs)

-- a step that owes nothing, after what is owed
pub quiet : {V A : Type 0} {value : V → A} {s u : Stored} {P S : Sort → Ref → Type 0} {l n : Lookups} {D F : Development} {o : Outcome A} {r : Result V TypeFault} (cs : List Condition)
    → Keeps s P l u S n D F → AreKnownConditions s P cs → Answers value u S [] o [] r → Answers value u S (conditions_at s cs) o cs r
quiet {value = value} {s = s} {u = u} {S = S} {o = o} {r = r} cs k h j = record { is = go r j.is }
  where
    go : (q : Result _ TypeFault) → IsAnswer value u S [] o [] q → IsAnswer value u S (conditions_at s cs) o cs q
    go (Ok v) i = record {
      owes = record {
        symbols = i.owes.symbols;
        is = ap (outcome_after (conditions_at s cs) []) (sym (after_none o) ∙ i.owes.is)
            ∙ ap (λ x. Accepted (value v) x i.owes.symbols) (append_none (conditions_at s cs) ∙ sym (conditions_same cs k h));
      };
      conditions = conditions_kept cs k h;
    }
    go (Err e) i = i

-- the same of a value that is accepted
pub quiet_accepts : {A : Type 0} {s u : Stored} {P S : Sort → Ref → Type 0} {l n : Lookups} {D F : Development} {o : Outcome A} {a : A} (cs : List Condition)
    → Keeps s P l u S n D F → AreKnownConditions s P cs → Accepts u S [] o a [] → Accepts u S (conditions_at s cs) o a cs
quiet_accepts {u = u} {S = S} {o = o} {a = a} cs k h i =
    let j = quiet {value = λ (x : Unit {0}). a} {r = Ok tt} cs k h (record { is = i }) in j.is

-- What is said of trees, contexts and look-ups where the store has grown is what was said before. `R` is that saying.

pub same1 : {B : Type 0} (R : Lookups → Assumptions → Tree → B) {s t : Stored} {P Q : Sort → Ref → Type 0} {l m : Lookups} {D E : Development} {n : Sort} (g : List Assumed) (i : ℕ)
    → Keeps s P l t Q m D E → IsKnownContext s P g → IsKnown s P n i → R m (context_at t g) (tree_at t i) ≡ R l (context_at s g) (tree_at s i)
same1 R {s} {t} g i k c h = rw (k.lookups, context_same g k c, k.stored.trees i h.node) refl

pub row1 : {A W B : Type 0} {value : W → B} (R : Lookups → Assumptions → Tree → A → Outcome B) {s t u : Stored} {P Q S : Sort → Ref → Type 0} {l m : Lookups} {D E : Development} {n : Sort} {before : Conditions} {o : Outcome A} {a : A} {cs ds : List Condition} {r : Result W TypeFault} (g : List Assumed) (i : ℕ)
    → Keeps s P l t Q m D E → IsKnownContext s P g → IsKnown s P n i → Accepts t Q before o a cs
    → Answers value u S (conditions_at t cs) (R m (context_at t g) (tree_at t i) a) ds r
    → Answers value u S before (o >>= R l (context_at s g) (tree_at s i)) ds r
row1 R {s} {t} {l = l} {a = a} g i k c h x j =
    answers_then (R l (context_at s g) (tree_at s i)) x (answers_as (same1 (λ l g i. R l g i a) g i k c h) j)

pub row2 : {A W B : Type 0} {value : W → B} (R : Lookups → Assumptions → Tree → Tree → A → Outcome B) {s t u : Stored} {P Q S : Sort → Ref → Type 0} {l m : Lookups} {D E : Development} {n1 n2 : Sort} {before : Conditions} {o : Outcome A} {a : A} {cs ds : List Condition} {r : Result W TypeFault} (g : List Assumed) (i1 i2 : ℕ)
    → Keeps s P l t Q m D E → IsKnownContext s P g → IsKnown s P n1 i1 → IsKnown s P n2 i2 → Accepts t Q before o a cs
    → Answers value u S (conditions_at t cs) (R m (context_at t g) (tree_at t i1) (tree_at t i2) a) ds r
    → Answers value u S before (o >>= R l (context_at s g) (tree_at s i1) (tree_at s i2)) ds r
row2 R {s} {t} {m = m} {n1 = n1} {a = a} g i1 i2 k c h1 h2 x j =
    row1 (λ l g i. R l g i (tree_at s i2)) {n = n1} g i1 k c h1 x (answers_as (ap (λ y. R m (context_at t g) (tree_at t i1) y a) (k.stored.trees i2 h2.node)) j)

pub row3 : {A W B : Type 0} {value : W → B} (R : Lookups → Assumptions → Tree → Tree → Tree → A → Outcome B) {s t u : Stored} {P Q S : Sort → Ref → Type 0} {l m : Lookups} {D E : Development} {n1 n2 n3 : Sort} {before : Conditions} {o : Outcome A} {a : A} {cs ds : List Condition} {r : Result W TypeFault} (g : List Assumed) (i1 i2 i3 : ℕ)
    → Keeps s P l t Q m D E → IsKnownContext s P g → IsKnown s P n1 i1 → IsKnown s P n2 i2 → IsKnown s P n3 i3 → Accepts t Q before o a cs
    → Answers value u S (conditions_at t cs) (R m (context_at t g) (tree_at t i1) (tree_at t i2) (tree_at t i3) a) ds r
    → Answers value u S before (o >>= R l (context_at s g) (tree_at s i1) (tree_at s i2) (tree_at s i3)) ds r
row3 R {s} {t} {m = m} {n1 = n1} {n2 = n2} {a = a} g i1 i2 i3 k c h1 h2 h3 x j =
    row2 (λ l g i1 i2. R l g i1 i2 (tree_at s i3)) {n1 = n1} {n2 = n2} g i1 i2 k c h1 h2 x (answers_as (ap (λ y. R m (context_at t g) (tree_at t i1) (tree_at t i2) y a) (k.stored.trees i3 h3.node)) j)

pub row4 : {A W B : Type 0} {value : W → B} (R : Lookups → Assumptions → Tree → Tree → Tree → Tree → A → Outcome B) {s t u : Stored} {P Q S : Sort → Ref → Type 0} {l m : Lookups} {D E : Development} {n1 n2 n3 n4 : Sort} {before : Conditions} {o : Outcome A} {a : A} {cs ds : List Condition} {r : Result W TypeFault} (g : List Assumed) (i1 i2 i3 i4 : ℕ)
    → Keeps s P l t Q m D E → IsKnownContext s P g → IsKnown s P n1 i1 → IsKnown s P n2 i2 → IsKnown s P n3 i3 → IsKnown s P n4 i4 → Accepts t Q before o a cs
    → Answers value u S (conditions_at t cs) (R m (context_at t g) (tree_at t i1) (tree_at t i2) (tree_at t i3) (tree_at t i4) a) ds r
    → Answers value u S before (o >>= R l (context_at s g) (tree_at s i1) (tree_at s i2) (tree_at s i3) (tree_at s i4)) ds r
row4 R {s} {t} {m = m} {n1 = n1} {n2 = n2} {n3 = n3} {a = a} g i1 i2 i3 i4 k c h1 h2 h3 h4 x j =
    row3 (λ l g i1 i2 i3. R l g i1 i2 i3 (tree_at s i4)) {n1 = n1} {n2 = n2} {n3 = n3} g i1 i2 i3 k c h1 h2 h3 x (answers_as (ap (λ y. R m (context_at t g) (tree_at t i1) (tree_at t i2) (tree_at t i3) y a) (k.stored.trees i4 h4.node)) j)

pub row5 : {A W B : Type 0} {value : W → B} (R : Lookups → Assumptions → Tree → Tree → Tree → Tree → Tree → A → Outcome B) {s t u : Stored} {P Q S : Sort → Ref → Type 0} {l m : Lookups} {D E : Development} {n1 n2 n3 n4 n5 : Sort} {before : Conditions} {o : Outcome A} {a : A} {cs ds : List Condition} {r : Result W TypeFault} (g : List Assumed) (i1 i2 i3 i4 i5 : ℕ)
    → Keeps s P l t Q m D E → IsKnownContext s P g → IsKnown s P n1 i1 → IsKnown s P n2 i2 → IsKnown s P n3 i3 → IsKnown s P n4 i4 → IsKnown s P n5 i5 → Accepts t Q before o a cs
    → Answers value u S (conditions_at t cs) (R m (context_at t g) (tree_at t i1) (tree_at t i2) (tree_at t i3) (tree_at t i4) (tree_at t i5) a) ds r
    → Answers value u S before (o >>= R l (context_at s g) (tree_at s i1) (tree_at s i2) (tree_at s i3) (tree_at s i4) (tree_at s i5)) ds r
row5 R {s} {t} {m = m} {n1 = n1} {n2 = n2} {n3 = n3} {n4 = n4} {a = a} g i1 i2 i3 i4 i5 k c h1 h2 h3 h4 h5 x j =
    row4 (λ l g i1 i2 i3 i4. R l g i1 i2 i3 i4 (tree_at s i5)) {n1 = n1} {n2 = n2} {n3 = n3} {n4 = n4} g i1 i2 i3 i4 k c h1 h2 h3 h4 x (answers_as (ap (λ y. R m (context_at t g) (tree_at t i1) (tree_at t i2) (tree_at t i3) (tree_at t i4) y a) (k.stored.trees i5 h5.node)) j)

pub row6 : {A W B : Type 0} {value : W → B} (R : Lookups → Assumptions → Tree → Tree → Tree → Tree → Tree → Tree → A → Outcome B) {s t u : Stored} {P Q S : Sort → Ref → Type 0} {l m : Lookups} {D E : Development} {n1 n2 n3 n4 n5 n6 : Sort} {before : Conditions} {o : Outcome A} {a : A} {cs ds : List Condition} {r : Result W TypeFault} (g : List Assumed) (i1 i2 i3 i4 i5 i6 : ℕ)
    → Keeps s P l t Q m D E → IsKnownContext s P g → IsKnown s P n1 i1 → IsKnown s P n2 i2 → IsKnown s P n3 i3 → IsKnown s P n4 i4 → IsKnown s P n5 i5 → IsKnown s P n6 i6 → Accepts t Q before o a cs
    → Answers value u S (conditions_at t cs) (R m (context_at t g) (tree_at t i1) (tree_at t i2) (tree_at t i3) (tree_at t i4) (tree_at t i5) (tree_at t i6) a) ds r
    → Answers value u S before (o >>= R l (context_at s g) (tree_at s i1) (tree_at s i2) (tree_at s i3) (tree_at s i4) (tree_at s i5) (tree_at s i6)) ds r
row6 R {s} {t} {m = m} {n1 = n1} {n2 = n2} {n3 = n3} {n4 = n4} {n5 = n5} {a = a} g i1 i2 i3 i4 i5 i6 k c h1 h2 h3 h4 h5 h6 x j =
    row5 (λ l g i1 i2 i3 i4 i5. R l g i1 i2 i3 i4 i5 (tree_at s i6)) {n1 = n1} {n2 = n2} {n3 = n3} {n4 = n4} {n5 = n5} g i1 i2 i3 i4 i5 k c h1 h2 h3 h4 h5 x (answers_as (ap (λ y. R m (context_at t g) (tree_at t i1) (tree_at t i2) (tree_at t i3) (tree_at t i4) (tree_at t i5) y a) (k.stored.trees i6 h6.node)) j)

-- What other calls answer, in these words.

-- a coercion
pub coercion_answers : {s : Stored} {P : Sort → Ref → Type 0} {before : Conditions} {o : Outcome (Unit {0})} {cs : List Condition} (r : Result (Unit {0}) TypeFault)
    → IfOk r (λ _. Owes s before o tt cs) → IfOk r (λ _. AreKnownConditions s P cs) → IfErr r (IsFault o) → Answers (λ (_ : Unit {0}). tt) s P before o cs r
coercion_answers (Ok v) h k f = record { is = record { owes = h; conditions = k } }
coercion_answers (Err e) h k f = record { is = f }

pub accepts_pure : {A : Type 0} (s : Stored) (P : Sort → Ref → Type 0) (o : Outcome A) (a : A) → o ≡ pure a → Accepts s P [] o a []
accepts_pure s P o a h = record { owes = record { symbols = []; is = after_none o ∙ h }; conditions = tt }

-- a form of a type
pub form_answers : {V A : Type 0} {value : V → A} {s : Stored} {P : Sort → Ref → Type 0} (x : Result A Code) (r : Result V TypeFault)
    → IfOk r (λ v. x ≡ Ok (value v)) → IfErr r (IsRefusal x) → Answers value s P [] (from_result x) [] r
form_answers {value = value} {s = s} {P = P} x (Ok v) h f = record { is = accepts_pure s P _ (value v) (ap from_result h) }
form_answers x (Err (fault.Refused c)) h f = record { is = ap from_result f }
form_answers x (Err fault.Memory) h f = record { is = tt }

-- a tree that is made
pub made_answers : {s : Stored} {P : Sort → Ref → Type 0} (n : Sort) (t : Tree) (r : Result ℕ TypeFault)
    → IfOk r (Gives s P n t) → IfErr r (IsFault (within_limits t)) → Answers (tree_at s) s P [] (within_limits t) [] r
made_answers {s = s} {P = P} n t (Ok i) h f = record { is = accepts_pure s P (within_limits t) (tree_at s i) (fits_within t h.fits ∙ ap pure (sym h.tree)) }
made_answers n t (Err e) h f = record { is = f }

pub made_known : {k m : State} {theory : ℕ} {o : Sort} {f : Stored → Tree} {r : Result ℕ TypeFault} → Makes k m theory o f r → IfOk r (IsKnown m.stored (m.declares theory) o)
made_known {k} {m} {theory} {o} {f} {r} h = go r h.ok
  where
    go : (q : Result ℕ TypeFault) → IfOk q (Gives m.stored (m.declares theory) o (f k.stored)) → IfOk q (IsKnown m.stored (m.declares theory) o)
    go (Ok i) x = x.known
    go (Err e) x = tt

pub made_accepts : {s : Stored} {P : Sort → Ref → Type 0} {n : Sort} {t : Tree} {i : ℕ} → Gives s P n t i → Accepts s P [] (within_limits t) (tree_at s i) []
made_accepts {s = s} {P = P} {t = t} {i = i} h = accepts_pure s P (within_limits t) (tree_at s i) (fits_within t h.fits ∙ ap pure (sym h.tree))

-- what passes a limit does so in a larger tree
pub part_fault : (u t : Tree) (e : TypeFault) → (IsWithinLimits t → IsWithinLimits u) → IsFault (within_limits u) e → IsFault (within_limits t) e
part_fault u t (fault.Refused c) f h = go (is_within_limits u) refl h
  where
    go : (b : Bool) → is_within_limits u ≡ b → cond b (pure u) (refuse TooLarge) ≡ Refused c → within_limits t ≡ Refused c
    go true e k = cc
    go false e k =
        let same : TooLarge ≡ c = cc in
        subst (λ x. within_limits t ≡ Refused x) same (large_refused t (λ w. let y = (limits_decided u).1 (f w) in cc))
part_fault u t fault.Memory f h = tt

-- what the exit of a `?` returns
pub result_err : {V : Type 0} {e : TypeFault} (r : Result V TypeFault) → IsErrAnd r (λ y. y ≡ e) → r ≡ Err e
result_err r h = let p = err_from_is_err_and r h in p.1 ∙ ap Err p.2

-- a form of a type
pub form_accepts : {A : Type 0} (s : Stored) (P : Sort → Ref → Type 0) (x : Result A Code) (a : A) → x ≡ Ok a → Accepts s P [] (from_result x) a []
form_accepts s P x a h = accepts_pure s P (from_result x) a (ap from_result h)

pub form_fault : {A : Type 0} (x : Result A Code) (e : TypeFault) → IsRefusal x e → IsFault (from_result x) e
form_fault x (fault.Refused c) h = ap from_result h
form_fault x fault.Memory h = tt

-- a last step that owes nothing
pub pure_answers : {V A : Type 0} (value : V → A) (s : Stored) (P : Sort → Ref → Type 0) (cs : List Condition) (v : V) (a : A)
    → AreKnownConditions s P cs → value v ≡ a → Answers value s P (conditions_at s cs) (pure a) cs (Ok v)
pure_answers value s P cs v a h e = record { is = record { owes = owes_none s (pure a) (value v) cs (ap pure (sym e)); conditions = h } }

-- a public answer: the symbols that typing says are used are those of the tree
pub judged : {A : Type 0} {s : Stored} {P : Sort → Ref → Type 0} {o : Outcome A} {a : A} {cs : List Condition} (t : Tree) (rs : List ℕ)
    → Accepts s P [] o a cs → Uses (symbols t) o → refs_at s rs ≡ symbols t → Judges s o a cs rs
judged {o = o} t rs h u e =
    let is = sym (after_none o) ∙ h.owes.is in
    record { symbols = h.owes.symbols; is = is; uses = subst (AreSameSymbols h.owes.symbols) (sym e) (subst (Uses (symbols t)) is u) }
