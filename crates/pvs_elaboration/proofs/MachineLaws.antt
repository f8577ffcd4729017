-- What a machine answers where the store has grown, and after each step.
use Rattle.std.proofs.Common.{◌≡◌, ℕ, List, [], ◌∷◌, ◌++◌, refl, sym, ◌∙◌, ap, ap₂, subst}
use Rattle.std.specs.Prelude.{reverse, Result, Ok, Err}
use Rattle.std.proofs.lemmas.List.{reverse-append}
use Rattle.pvs_base.specs.Answers.{◌>>=◌}
use Rattle.pvs_terms.specs.Tree.{Tree}
use Rattle.pvs_terms.specs.declared.shape.Sort.{Sort}
use Rattle.pvs_elab.specs.Answer.{Answer}
use Rattle.pvs_elab.specs.Elab.{TypedTree}
use Rattle.pvs_elaboration.specs.declared.fault.ElabFault.{ElabFault}
use Rattle.pvs_elaboration.specs.declared.fault.ElabFault.TheVariants as elab_fault
use Rattle.pvs_elaboration.specs.declared.here.Here.{Here}
use Rattle.pvs_elaboration.specs.declared.here.Typed as here
use Rattle.pvs_elaboration.specs.declared.value.Value.{Value}
use Rattle.pvs_elaboration.specs.declared.value.Value.TheVariants as value
use Rattle.pvs_elaboration.specs.declared.choice.Branches.{Branches}
use Rattle.pvs_elaboration.specs.declared.choice.ChoiceRow.{ChoiceRow}
use Rattle.pvs_elaboration.specs.declared.choice.ChoiceRow.TheVariants.{First, Negation, Second, Join, Types, General, JoinFirst, JoinSecond, Made, CheckFirst, CheckNegation, CheckSecond, CheckLast}
use Rattle.pvs_elaboration.specs.declared.choice.NotRow.{NotRow}
use Rattle.pvs_elaboration.specs.declared.choice.NotRow.TheVariants as not_form
use Rattle.pvs_elaboration.specs.declared.names.NameRow.{NameRow}
use Rattle.pvs_elaboration.specs.declared.names.NameRow.TheVariants as name
use Rattle.pvs_elaboration.specs.declared.apply.ApplyRow.{ApplyRow}
use Rattle.pvs_elaboration.specs.declared.apply.ApplyRow.TheVariants as apply
use Rattle.pvs_elaboration.specs.declared.apply.Operands.{Operands}
use Rattle.pvs_elaboration.specs.declared.binder.Binding.{Binding}
use Rattle.pvs_elaboration.specs.declared.binder.BinderRow.{BinderRow}
use Rattle.pvs_elaboration.specs.declared.binder.BinderRow.TheVariants as binder
use Rattle.pvs_elaboration.specs.declared.equal.Sides.{Sides}
use Rattle.pvs_elaboration.specs.declared.equal.EqualRow.{EqualRow}
use Rattle.pvs_elaboration.specs.declared.equal.EqualRow.TheVariants as equal
use Rattle.pvs_elaboration.specs.declared.frame.Frame.{Frame}
use Rattle.pvs_elaboration.specs.declared.frame.Frame.TheVariants as frame
use Rattle.pvs_elaboration.specs.declared.frame.Entry.{Entry}
use Rattle.pvs_elaboration.specs.declared.frame.Entry.TheVariants as entry
use Rattle.pvs_elaboration.specs.declared.frame.Control.{Control}
use Rattle.pvs_elaboration.specs.declared.frame.Control.TheVariants as control
use Rattle.pvs_elaboration.specs.declared.frame.Entrance.{Entrance}
use Rattle.pvs_elaboration.specs.declared.frame.Entrance.TheVariants as entrance
use Rattle.pvs_elaboration.specs.declared.frame.Next.{Next}
use Rattle.pvs_elaboration.specs.declared.frame.Machine.{Machine}
use Rattle.pvs_elaboration.specs.declared.frame.Turn.{Turn}
use Rattle.pvs_elaboration.specs.Known.{Sources, Known, Grows, Site, site_in, IsHere, AreKnownNumbers, IsFault, Failed}
use Rattle.pvs_elaboration.specs.Meanings.{Meaning, Typed, Term, Formed, meaning, value_numbers, typed_at, typed_answer, term_answer, formed_answer, on_typed, on_term, on_formed}
use Rattle.pvs_elaboration.specs.Choice.{choice_answer, choice_numbers, not_answer, not_numbers}
use Rattle.pvs_elaboration.specs.Names.{name_answer, name_numbers}
use Rattle.pvs_elaboration.specs.Apply.{apply_answer, apply_numbers}
use Rattle.pvs_elaboration.specs.Binder.{binder_answer, binder_numbers}
use Rattle.pvs_elaboration.specs.Equal.{equal_answer, equal_numbers}
use Rattle.pvs_elaboration.specs.Machine.{frame_answer, frame_numbers, control_answer, entrance_site, entrance_numbers, next_answer, entries_answer, machine_answer, AreKnownEntries, IsKnownNext, IsMachine, IsEntered, IsAdded, IsKnownEntry, Follows, Goes, Finds, Turns}
use Rattle.pvs_elaboration.proofs.KnownLaws.{failed_then, memory_failed, grows_none, grows_trans, tree_stays, site_kept, here_stays, numbers_stay, hypothesis_site_is, hypothesis_site_stays, variable_site_is, variable_site_stays, unnamed_site_is, unnamed_site_stays, local_site_is, local_site_stays}
use Rattle.pvs_elaboration.proofs.FormLaws.{let_stays, subtype_stays, predicate_stays, tuple_stays, product_stays, part_stays, several_stays, names_stay}

-- One step of the definition, and then another: the value of the first goes to a frame.

pub then_typed : {A : Type 0} (r : Answer TypedTree) (f : TypedTree → Answer A) (g : A → Answer Meaning) → ((r >>= f) >>= g) ≡ (typed_answer r >>= on_typed (λ t. f t >>= g))
then_typed (Ok t) f g = refl
then_typed (Err e) f g = refl

pub then_term : {A : Type 0} (r : Answer Tree) (f : Tree → Answer A) (g : A → Answer Meaning) → ((r >>= f) >>= g) ≡ (term_answer r >>= on_term (λ t. f t >>= g))
then_term (Ok t) f g = refl
then_term (Err e) f g = refl

pub then_formed : {A : Type 0} (r : Answer Tree) (f : Tree → Answer A) (g : A → Answer Meaning) → ((r >>= f) >>= g) ≡ (formed_answer r >>= on_formed (λ t. f t >>= g))
then_formed (Ok t) f g = refl
then_formed (Err e) f g = refl

-- and where the value of the first is a tree that is used at once
pub then_same : {A B : Type 0} (r : Answer A) (f : A → Answer B) (g : B → Answer Meaning) → ((r >>= f) >>= g) ≡ (r >>= (λ t. f t >>= g))
then_same (Ok t) f g = refl
then_same (Err e) f g = refl

pub then_two : {A B C : Type 0} (r : Answer A) (f : A → Answer B) (g : B → Answer C) → ((r >>= f) >>= g) ≡ (r >>= (λ t. f t >>= g))
then_two (Ok t) f g = refl
then_two (Err e) f g = refl

-- a term that is coerced and not used any more
pub coerced_unused : {A : Type 0} (r : Answer (Unit {0})) (t : Tree) (q : Answer A) (g : A → Answer Meaning) → ((r >>= (λ _. q)) >>= g) ≡ (term_answer (r >>= (λ _. Ok t)) >>= on_term (λ _. q >>= g))
coerced_unused (Ok v) t q g = refl
coerced_unused (Err e) t q g = refl

pub nothing_after : (r : Answer Meaning) → (r >>= (λ m. Ok m)) ≡ r
nothing_after (Ok t) = refl
nothing_after (Err e) = refl

-- A value and a frame, where the store has grown.

pub typed_stays : {a b : Known} {o p : Sort} (t : here.Typed) → Grows a b → AreKnownNumbers a ((o, t.tree) ∷ (p, t.ty) ∷ []) → typed_at b.stored t ≡ typed_at a.stored t
typed_stays {a} {b} t g n = ap₂ (λ (x : Tree) (y : Tree). record { tree = x; ty = y }) (tree_stays g n.0) (tree_stays g n.1.0)

pub meaning_stays : {a b : Known} (v : Value) → Grows a b → AreKnownNumbers a (value_numbers v) → meaning b.stored v ≡ meaning a.stored v
meaning_stays (value.Typed t) g n = ap Typed (typed_stays t g n)
meaning_stays (value.Term i) g n = ap Term (tree_stays g n.0)
meaning_stays (value.Formed i) g n = ap Formed (tree_stays g n.0)
meaning_stays value.Done g n = refl

choice_stays : {a b : Known} (z : Site) (text : Sources) (f : ChoiceRow) (br : Branches) → Grows a b → AreKnownNumbers a (choice_numbers f) → choice_answer z b.stored text f br ≡ choice_answer z a.stored text f br
choice_stays z text First br g n = refl
choice_stays z text (Negation p) br g n = rw (tree_stays g n.0) refl
choice_stays z text (Second p t) br g n = rw (tree_stays g n.0, tree_stays g n.1.0, tree_stays g n.1.1.0) refl
choice_stays z text (Join p t m) br g n = rw (tree_stays g n.0, tree_stays g n.1.0, tree_stays g n.1.1.0, tree_stays g n.1.1.1.0) refl
choice_stays z text (Types p t m c) br g n = rw (tree_stays g n.0, tree_stays g n.1.0, tree_stays g n.1.1.0, tree_stays g n.1.1.1.0, tree_stays g n.1.1.1.1.0, tree_stays g n.1.1.1.1.1.0) refl
choice_stays z text (General p t m c) br g n = rw (tree_stays g n.0, tree_stays g n.1.0, tree_stays g n.1.1.0, tree_stays g n.1.1.1.0, tree_stays g n.1.1.1.1.0, tree_stays g n.1.1.1.1.1.0) refl
choice_stays z text (JoinFirst p t m c) br g n = rw (tree_stays g n.0, tree_stays g n.1.0, tree_stays g n.1.1.0, tree_stays g n.1.1.1.0, tree_stays g n.1.1.1.1.0, tree_stays g n.1.1.1.1.1.0) refl
choice_stays z text (JoinSecond p t m c u) br g n =
    rw (tree_stays g n.0, tree_stays g n.1.0, tree_stays g n.1.1.1.0, tree_stays g n.1.1.1.1.0, tree_stays g n.1.1.1.1.1.0, tree_stays g n.1.1.1.1.1.1.0) refl
choice_stays z text (Made p t c u) br g n = rw (tree_stays g n.0, tree_stays g n.1.0, tree_stays g n.1.1.1.0, tree_stays g n.1.1.1.1.1.0) refl
choice_stays z text (CheckFirst u) br g n = rw (tree_stays g n.0) refl
choice_stays z text (CheckNegation u p) br g n = rw (tree_stays g n.0, tree_stays g n.1.0) refl
choice_stays z text (CheckSecond u p t) br g n = rw (tree_stays g n.0, tree_stays g n.1.0, tree_stays g n.1.1.0) refl
choice_stays z text (CheckLast p t) br g n = rw (tree_stays g n.0, tree_stays g n.1.0) refl

not_stays : {a b : Known} (z : Site) (text : Sources) (f : NotRow) (pos at : ℕ) → Grows a b → AreKnownNumbers a (not_numbers f) → not_answer z b.stored text f pos at ≡ not_answer z a.stored text f pos at
not_stays z text not_form.Tree pos at g n = refl
not_stays z text (not_form.False u) pos at g n = rw (tree_stays g n.0) refl
not_stays z text (not_form.Negation u p) pos at g n = rw (tree_stays g n.0, tree_stays g n.1.0) refl
not_stays z text (not_form.True u) pos at g n = rw (tree_stays g n.0) refl
not_stays z text (not_form.Last m) pos at g n = rw (tree_stays g n.0) refl

name_stays : {a b : Known} (z : Site) (text : Sources) (f : NameRow) (at : ℕ) → Grows a b → AreKnownNumbers a (name_numbers f) → name_answer z b.stored text f at ≡ name_answer z a.stored text f at
name_stays z text name.Infer at g n = refl
name_stays z text (name.Check u) at g n = rw (tree_stays g n.0) refl
name_stays z text name.Formed at g n = refl

apply_stays : {a b : Known} (z : Site) (text : Sources) (f : ApplyRow) (o : Operands) → Grows a b → AreKnownNumbers a (apply_numbers f) → apply_answer z b.stored text f o ≡ apply_answer z a.stored text f o
apply_stays z text apply.Function o g n = refl
apply_stays z text (apply.Head c) o g n = rw (tree_stays g n.0) refl
apply_stays z text (apply.Argument c d) o g n = rw (tree_stays g n.0, tree_stays g n.1.0) refl
apply_stays z text (apply.Tree d x) o g n = rw (tree_stays g n.0, tree_stays g n.1.0) refl

binder_stays : {a b : Known} (z : Site) (text : Sources) (f : BinderRow) (o : Binding) → Grows a b → AreKnownNumbers a (binder_numbers f) → binder_answer z b.stored text f o ≡ binder_answer z a.stored text f o
binder_stays z text binder.All o g n = refl
binder_stays z text (binder.AllBody c) o g n = rw (tree_stays g n.0) refl
binder_stays z text (binder.AllPredicate c) o g n = rw (tree_stays g n.0) refl
binder_stays z text (binder.AllEquation l) o g n = rw (tree_stays g n.0) refl
binder_stays z text binder.Lambda o g n = refl
binder_stays z text (binder.LambdaBody c) o g n = rw (tree_stays g n.0) refl
binder_stays z text (binder.LambdaTree c e) o g n = rw (tree_stays g n.0, tree_stays g n.1.0) refl
binder_stays z text binder.Predicate o g n = refl
binder_stays z text binder.PredicateBody o g n = refl
binder_stays z text binder.Function o g n = refl
binder_stays z text (binder.Range c) o g n = rw (tree_stays g n.0) refl

equal_stays : {a b : Known} (z : Site) (text : Sources) (f : EqualRow) (o : Sides) → Grows a b → AreKnownNumbers a (equal_numbers f) → equal_answer z b.stored text f o ≡ equal_answer z a.stored text f o
equal_stays z text equal.Iff o g n = refl
equal_stays z text (equal.IffHead p) o g n = rw (tree_stays g n.0, tree_stays g n.1.0) refl
equal_stays z text equal.Right o g n = refl
equal_stays z text (equal.Equation p) o g n = rw (tree_stays g n.0, tree_stays g n.1.0) refl
equal_stays z text (equal.Typing p q) o g n = rw (tree_stays g n.0, tree_stays g n.1.0, tree_stays g n.1.1.0, tree_stays g n.1.1.1.0) refl
equal_stays z text (equal.Refused c) o g n = refl
equal_stays z text (equal.RightSide p q t) o g n = rw (tree_stays g n.0, tree_stays g n.1.0, tree_stays g n.1.1.0, tree_stays g n.1.1.1.0, tree_stays g n.1.1.1.1.0) refl
equal_stays z text (equal.LeftSide p t u) o g n = rw (tree_stays g n.0, tree_stays g n.1.0, tree_stays g n.1.1.0, tree_stays g n.1.1.1.0) refl
equal_stays z text (equal.Last t) o g n = rw (tree_stays g n.0) refl

frame_stays_at : {a b : Known} (z : Site) (text : Sources) (f : Frame) → Grows a b → AreKnownNumbers a (frame_numbers f) → frame_answer z b.stored text f ≡ frame_answer z a.stored text f
frame_stays_at z text frame.Same g n = refl
frame_stays_at z text (frame.Coerce large at u) g n = rw (tree_stays g n.0) refl
frame_stays_at z text (frame.WithType u) g n = rw (tree_stays g n.0) refl
frame_stays_at z text (frame.WithTerm t) g n = rw (tree_stays g n.0) refl
frame_stays_at z text (frame.Choice f br) g n = choice_stays z text f br g n
frame_stays_at z text (frame.Not f pos at) g n = not_stays z text f pos at g n
frame_stays_at z text (frame.Name f at) g n = name_stays z text f at g n
frame_stays_at z text (frame.Apply f o) g n = apply_stays z text f o g n
frame_stays_at z text (frame.Binder f o) g n = binder_stays z text f o g n
frame_stays_at z text (frame.Equal f o) g n = equal_stays z text f o g n
frame_stays_at z text (frame.Let f o) g n = let_stays z text f o g n
frame_stays_at z text (frame.Subtype f o) g n = subtype_stays z text f o g n
frame_stays_at z text (frame.Predicate f start at) g n = predicate_stays z text f start at g n
frame_stays_at z text (frame.Tuple f o) g n = tuple_stays z text f o g n
frame_stays_at z text (frame.Product f k o) g n = product_stays z text f k o g n
frame_stays_at z text (frame.Part f o) g n = part_stays z text f o g n
frame_stays_at z text (frame.Several f o) g n = several_stays z text f o g
frame_stays_at z text (frame.Names f body) g n = names_stay z text f body g n

pub frame_stays : {a b : Known} (text : Sources) (h : Here) (f : Frame) → Grows a b → IsHere a h → AreKnownNumbers a (frame_numbers f)
    → frame_answer (site_in b text h) b.stored text f ≡ frame_answer (site_in a text h) a.stored text f
frame_stays {a} {b} text h f g i n = frame_stays_at (site_in b text h) text f g n ∙ ap (λ z. frame_answer z a.stored text f) (site_kept text h g i)

pub then_alike : {A B : Type 0} (r : Answer A) (f g : A → Answer B) → ((x : A) → f x ≡ g x) → (r >>= f) ≡ (r >>= g)
then_alike (Ok x) f g e = e x
then_alike (Err x) f g e = refl

pub entries_stay : {a b : Known} (text : Sources) (h : Here) (es : List Entry) (m : Meaning) → Grows a b → IsHere a h → AreKnownEntries a es → entries_answer b text h es m ≡ entries_answer a text h es m
entries_stay text h [] m g i n = refl
entries_stay {a} {b} text h (entry.Use f ∷ es) m g i n =
    ap (λ (q : Meaning → Answer Meaning). q m >>= entries_answer b text h es) (frame_stays text h f g i n.0) ∙ then_alike (frame_answer (site_in a text h) a.stored text f m) (entries_answer b text h es) (entries_answer a text h es) (λ v. entries_stay text h es v g i n.1)
entries_stay text h (entry.Leave o ∷ es) m g i n = entries_stay text o es m g n.0 n.1

pub known_entries_stay : {a b : Known} (es : List Entry) → Grows a b → AreKnownEntries a es → AreKnownEntries b es
known_entries_stay [] g n = tt
known_entries_stay (entry.Use f ∷ es) g n = (numbers_stay (frame_numbers f) g n.0, known_entries_stay es g n.1)
known_entries_stay (entry.Leave o ∷ es) g n = (here_stays g n.0, known_entries_stay es g n.1)

-- What follows a step, added to a machine.

reverse_end : (xs : List Entry) (x : Entry) → reverse (xs ++ x ∷ []) ≡ x ∷ reverse xs
reverse_end xs x = reverse-append xs (x ∷ [])

pub entered_here : {k : Known} (h i : Here) (es fs : List Entry) (e : Entrance) → IsHere k h → AreKnownNumbers k (entrance_numbers e) → IsEntered h es e i fs → IsHere k i
entered_here h i es fs entrance.Here n m a = rw a.0 n
entered_here h i es fs (entrance.Hypothesis p) n m a = hypothesis_site_stays n m.0 a.0
entered_here h i es fs (entrance.Variable x t) n m a = variable_site_stays n m.0 a.0
entered_here h i es fs (entrance.Unnamed t) n m a = unnamed_site_stays n m.0 a.0
entered_here h i es fs (entrance.Local x t) n m a = local_site_stays n m.0 a.0

pub entered_entries : {k : Known} (h i : Here) (es fs : List Entry) (e : Entrance) → IsHere k h → IsEntered h es e i fs → AreKnownEntries k (reverse es) → AreKnownEntries k (reverse fs)
entered_entries h i es fs entrance.Here n a m = rw a.1 m
entered_entries h i es fs (entrance.Hypothesis p) n a m = rw (a.1, reverse_end es (entry.Leave h)) (n, m)
entered_entries h i es fs (entrance.Variable x t) n a m = rw (a.1, reverse_end es (entry.Leave h)) (n, m)
entered_entries h i es fs (entrance.Unnamed t) n a m = rw (a.1, reverse_end es (entry.Leave h)) (n, m)
entered_entries h i es fs (entrance.Local x t) n a m = rw (a.1, reverse_end es (entry.Leave h)) (n, m)

-- what is answered there, and then here
pub entered_answer : (k : Known) (text : Sources) (h i : Here) (es fs : List Entry) (e : Entrance) (f : Site → Answer Meaning) → IsHere k h → IsEntered h es e i fs
    → (f (site_in k text i) >>= entries_answer k text i (reverse fs)) ≡ (f (entrance_site (site_in k text h) k.stored text e) >>= entries_answer k text h (reverse es))
entered_answer k text h i es fs entrance.Here f n a = rw (a.0, a.1) refl
entered_answer k text h i es fs (entrance.Hypothesis p) f n a = rw (a.1, reverse_end es (entry.Leave h), hypothesis_site_is k text a.0) refl
entered_answer k text h i es fs (entrance.Variable x t) f n a = rw (a.1, reverse_end es (entry.Leave h), variable_site_is k text n a.0) refl
entered_answer k text h i es fs (entrance.Unnamed t) f n a = rw (a.1, reverse_end es (entry.Leave h), unnamed_site_is k text n a.0) refl
entered_answer k text h i es fs (entrance.Local x t) f n a = rw (a.1, reverse_end es (entry.Leave h), local_site_is k text a.0) refl

pub added_answer : (k : Known) (text : Sources) (m : Machine) (n : Next) (o : Machine) → IsMachine k m → IsAdded m n o
    → machine_answer k text o n.control ≡ (next_answer (site_in k text m.here) k.stored text n >>= entries_answer k text m.here (reverse m.entries.items))
unfolding machine_answer
added_answer k text m n o i a =
    entered_answer k text m.here o.here (m.entries.items ++ entry.Use n.frame ∷ []) o.entries.items n.entrance (λ z. control_answer z k.stored text n.control) i.here a
    ∙ ap (λ es. control_answer (entrance_site (site_in k text m.here) k.stored text n.entrance) k.stored text n.control >>= entries_answer k text m.here es) (reverse_end m.entries.items (entry.Use n.frame))
    ∙ sym (then_same (control_answer (entrance_site (site_in k text m.here) k.stored text n.entrance) k.stored text n.control) (frame_answer (site_in k text m.here) k.stored text n.frame) (entries_answer k text m.here (reverse m.entries.items)))

pub added_machine : {k : Known} {m : Machine} {n : Next} {o : Machine} → IsMachine k m → IsKnownNext k n → IsAdded m n o → IsMachine k o
added_machine {k} {m} {n} {o} i x a = record {
  here = entered_here m.here o.here (m.entries.items ++ entry.Use n.frame ∷ []) o.entries.items n.entrance i.here x.entrance a;
  entries = entered_entries m.here o.here (m.entries.items ++ entry.Use n.frame ∷ []) o.entries.items n.entrance i.here a (rw (reverse_end m.entries.items (entry.Use n.frame)) (x.frame, i.entries));
}

-- the same machine where the store has grown
pub machine_stays : {a b : Known} {m : Machine} → Grows a b → IsMachine a m → IsMachine b m
machine_stays {m = m} g i = record { here = here_stays g i.here; entries = known_entries_stay (reverse m.entries.items) g i.entries }

-- a step at the place of the machine, and what is left
pub turn_goes : {a b : Known} (text : Sources) (m : Machine) (r : Answer Meaning) (n : Next) (o : Machine) → IsMachine a m → Follows a b text m.here r n → IsAdded m n o
    → Goes a b text (r >>= entries_answer a text m.here (reverse m.entries.items)) o n.control
turn_goes {a} {b} text m r n o i f d = record {
  kept = f.kept;
  machine = added_machine (machine_stays f.kept i) f.known d;
  control = f.known.control;
  is = ap (λ q. q >>= entries_answer a text m.here (reverse m.entries.items)) f.is ∙ then_alike (next_answer (site_in b text m.here) b.stored text n) (entries_answer a text m.here (reverse m.entries.items)) (entries_answer b text m.here (reverse m.entries.items)) (λ v. sym (entries_stay text m.here (reverse m.entries.items) v f.kept i.here i.entries)) ∙ sym (added_answer b text m n o (machine_stays f.kept i) d);
}

-- A value that is given to the last entry.

pub given_last : {k : Known} (text : Sources) (m : Machine) (v : Value) → m.entries.items ≡ [] → AreKnownNumbers k (value_numbers v) → Finds k k (machine_answer k text m (control.Give v)) v
unfolding machine_answer
given_last {k} text m v e n = record { kept = grows_none k; within = n; is = rw e refl }

pub popped_entries : {k : Known} {m : Machine} (es : List Entry) (x : Entry) → IsMachine k m → m.entries.items ≡ es ++ x ∷ [] → IsKnownEntry k x × AreKnownEntries k (reverse es)
popped_entries {k} {m} es x i e = subst (AreKnownEntries k) (ap reverse e ∙ reverse_end es x) i.entries

pub given_outside : {k : Known} (text : Sources) (m : Machine) (o : Here) (n : Machine) (v : Value) → IsMachine k m → m.entries.items ≡ n.entries.items ++ entry.Leave o ∷ [] → n.here ≡ o → AreKnownNumbers k (value_numbers v)
    → Goes k k text (machine_answer k text m (control.Give v)) n (control.Give v)
unfolding machine_answer
given_outside {k} text m o n v i e h x =
    let p = popped_entries n.entries.items (entry.Leave o) i e in
    record {
      kept = grows_none k;
      machine = record { here = subst (IsHere k) (sym h) p.0; entries = p.1 };
      control = x;
      is = ap (λ es. entries_answer k text m.here es (meaning k.stored v)) (ap reverse e ∙ reverse_end n.entries.items (entry.Leave o)) ∙ ap (λ i. entries_answer k text i (reverse n.entries.items) (meaning k.stored v)) (sym h);
    }

pub used_answer : (k : Known) (text : Sources) (m : Machine) (f : Frame) (n : Machine) (v : Value) → m.entries.items ≡ n.entries.items ++ entry.Use f ∷ [] → n.here ≡ m.here
    → machine_answer k text m (control.Give v) ≡ (frame_answer (site_in k text n.here) k.stored text f (meaning k.stored v) >>= entries_answer k text n.here (reverse n.entries.items))
unfolding machine_answer
used_answer k text m f n v e h =
    ap (λ es. entries_answer k text m.here es (meaning k.stored v)) (ap reverse e ∙ reverse_end n.entries.items (entry.Use f))
    ∙ ap (λ i. frame_answer (site_in k text i) k.stored text f (meaning k.stored v) >>= entries_answer k text i (reverse n.entries.items)) (sym h)

pub popped_machine : {k : Known} {m : Machine} (x : Entry) (n : Machine) → IsMachine k m → m.entries.items ≡ n.entries.items ++ x ∷ [] → n.here ≡ m.here → IsMachine k n
popped_machine {k} {m} x n i e h = record { here = subst (IsHere k) (sym h) i.here; entries = (popped_entries n.entries.items x i e).1 }

-- the same turn of the same answer
pub goes_same : {a b : Known} (text : Sources) (r q : Answer Meaning) (m : Machine) (c : Control) → q ≡ r → Goes a b text r m c → Goes a b text q m c
goes_same {a} {b} text r q m c e g = subst (λ x. Goes a b text x m c) (sym e) g

pub failed_same : {a b : Known} (r q : Answer Meaning) (e : ElabFault) → q ≡ r → Failed a b r e → Failed a b q e
failed_same {a} {b} r q e d f = subst (λ x. Failed a b x e) (sym d) f

-- a step at a place, before what is left there
pub asked_answer : (k : Known) (text : Sources) (m : Machine) (c : Control) → machine_answer k text m c ≡ (control_answer (site_in k text m.here) k.stored text c >>= entries_answer k text m.here (reverse m.entries.items))
unfolding machine_answer
asked_answer k text m c = refl

-- turn after turn
pub finds_after : {a b c : Known} (r q : Answer Meaning) (v : Value) → Grows a b → r ≡ q → Finds b c q v → Finds a c r v
finds_after r q v g e f = record { kept = grows_trans g f.kept; within = f.within; is = e ∙ f.is }

fault_after : (r q : Answer Meaning) (x : ElabFault) → r ≡ q → IsFault q x → IsFault r x
fault_after r q (elab_fault.At f) e i = e ∙ i
fault_after r q elab_fault.Memory e i = tt

pub failed_after : {a b c : Known} (r q : Answer Meaning) (x : ElabFault) → Grows a b → r ≡ q → Failed b c q x → Failed a c r x
failed_after r q x g e f = record { kept = grows_trans g f.kept; is = fault_after r q x e f.is }

pub goes_after : {a b c : Known} (text : Sources) (r q : Answer Meaning) (m : Machine) (d : Control) → Grows a b → r ≡ q → Goes b c text q m d → Goes a c text r m d
goes_after text r q m d g e f = record { kept = grows_trans g f.kept; machine = f.machine; control = f.control; is = e ∙ f.is }

-- a machine with nothing left to do
pub started : (k : Known) (text : Sources) (h : Here) (m : Machine) (c : Control) → m.here ≡ h → m.entries.items ≡ [] → machine_answer k text m c ≡ control_answer (site_in k text h) k.stored text c
unfolding machine_answer
started k text h m c e d = rw (e, d) (nothing_after (control_answer (site_in k text h) k.stored text c))

pub start_machine : {k : Known} (h : Here) (m : Machine) → IsHere k h → m.here ≡ h → m.entries.items ≡ [] → IsMachine k m
start_machine {k} h m i e d = record { here = subst (IsHere k) (sym e) i; entries = subst (λ es. AreKnownEntries k (reverse es)) (sym d) tt }

-- the numbers of two lists

pub numbers_of_both : (k : Known) (is js : List (Sort × ℕ)) → AreKnownNumbers k is → AreKnownNumbers k js → AreKnownNumbers k (is ++ js)
numbers_of_both k [] js n m = m
numbers_of_both k (i ∷ is) js n m = (n.0, numbers_of_both k is js n.1 m)

pub numbers_of_first : (k : Known) (is js : List (Sort × ℕ)) → AreKnownNumbers k (is ++ js) → AreKnownNumbers k is
numbers_of_first k [] js n = tt
numbers_of_first k (i ∷ is) js n = (n.0, numbers_of_first k is js n.1)

pub numbers_of_second : (k : Known) (is js : List (Sort × ℕ)) → AreKnownNumbers k (is ++ js) → AreKnownNumbers k js
numbers_of_second k [] js n = n
numbers_of_second k (i ∷ is) js n = numbers_of_second k is js n.1

-- A turn, after a step at the place of the machine.

pub turn_goes_on : {a b : Known} (text : Sources) (m : Machine) (c : Control) (n : Next) (o : Machine) (d : Control) → IsMachine a m → Follows a b text m.here (control_answer (site_in a text m.here) a.stored text c) n → IsAdded m n o → d ≡ n.control
    → Goes a b text (machine_answer a text m c) o d
turn_goes_on {a} {b} text m c n o d i f x e = rw e (goes_same text (control_answer (site_in a text m.here) a.stored text c >>= entries_answer a text m.here (reverse m.entries.items)) (machine_answer a text m c) o n.control (asked_answer a text m c) (turn_goes text m (control_answer (site_in a text m.here) a.stored text c) n o i f x))

pub turn_fails : {a b : Known} (text : Sources) (m : Machine) (c : Control) (e : ElabFault) → Failed a b (control_answer (site_in a text m.here) a.stored text c) e → Failed a b (machine_answer a text m c) e
turn_fails {a} text m c e f = failed_same (control_answer (site_in a text m.here) a.stored text c >>= entries_answer a text m.here (reverse m.entries.items)) (machine_answer a text m c) e (asked_answer a text m c) (failed_then (entries_answer a text m.here (reverse m.entries.items)) e f)

pub turn_is_out_of_memory : {a b : Known} (r : Answer Meaning) (e : ElabFault) → Grows a b → e ≡ elab_fault.Memory → Failed a b r e
turn_is_out_of_memory r e g d = rw d (memory_failed r g)

-- A value, and the frame that it is for.

pub given_used : {k : Known} (text : Sources) (m : Machine) (f : Frame) (n : Machine) (v : Value) → IsMachine k m → m.entries.items ≡ n.entries.items ++ entry.Use f ∷ [] → n.here ≡ m.here → AreKnownNumbers k (value_numbers v)
    → Goes k k text (machine_answer k text m (control.Give v)) n (control.Use f v)
given_used {k} text m f n v i e h x = record {
  kept = grows_none k;
  machine = popped_machine (entry.Use f) n i e h;
  control = numbers_of_both k (value_numbers v) (frame_numbers f) x (popped_entries n.entries.items (entry.Use f) i e).0;
  is = used_answer k text m f n v e h ∙ sym (asked_answer k text n (control.Use f v));
}

-- the frame gives it on as it is
pub given_same : {k : Known} (text : Sources) (m : Machine) (n : Machine) (v : Value) → IsMachine k m → m.entries.items ≡ n.entries.items ++ entry.Use frame.Same ∷ [] → n.here ≡ m.here → AreKnownNumbers k (value_numbers v)
    → Goes k k text (machine_answer k text m (control.Give v)) n (control.Give v)
given_same {k} text m n v i e h x = record {
  kept = grows_none k;
  machine = popped_machine (entry.Use frame.Same) n i e h;
  control = x;
  is = used_answer k text m frame.Same n v e h ∙ sym (asked_answer k text n (control.Give v));
}

-- a turn of a control that is this one
pub turn_of : (a b : Known) (text : Sources) (m : Machine) (c d : Control) (o : Machine) (r : Result Turn ElabFault) → c ≡ d → Turns a b text (machine_answer a text m d) o r → Turns a b text (machine_answer a text m c) o r
turn_of a b text m c d o r e h = subst (λ x. Turns a b text (machine_answer a text m x) o r) (sym e) h
