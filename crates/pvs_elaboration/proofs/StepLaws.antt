-- Steps with one call.
use Rattle.std.proofs.Common.{◌≡◌, ℕ, [], ◌∷◌, refl, sym, ◌∙◌, ap, ap₂, subst}
use Rattle.std.specs.Prelude.{Result, Ok}
use Rattle.pvs_base.specs.Answers.{◌>>=◌}
use Rattle.pvs_base.specs.declared.place.Pos.{Pos}
use Rattle.pvs_terms.specs.Tree.{Tree}
use Rattle.pvs_terms.specs.declared.shape.Sort.TheVariants.{OfType, OfTerm}
use Rattle.pvs_terms.specs.declared.node.Node.{Node}
use Rattle.pvs_terms.specs.declared.node.Node.TheVariants as node
use Rattle.pvs_terms.specs.Sorts.{sort_of}
use Rattle.pvs_terms.specs.Stored.{Stored, tree_at, node_tree}
use Rattle.pvs_types.specs.Outcome.{Outcome, from_result}
use Rattle.pvs_typing.specs.Answers.{Gives, IsFault, IsRefusal}
use Rattle.pvs_typing.specs.declared.fault.TypeFault.{TypeFault}
use Rattle.pvs_typing.specs.declared.fault.TypeFault.TheVariants as type_fault
use Rattle.pvs_elab.specs.Answer as answer
use Rattle.pvs_elab.specs.Answer.{Answer, within_limits_at, from_outcome, from_outcome_at}
use Rattle.pvs_base.specs.declared.code.Code.{Code}
use Rattle.pvs_elab.specs.Elab.{TypedTree}
use Rattle.pvs_elaboration.specs.declared.fault.ElabFault.{ElabFault}
use Rattle.pvs_elaboration.specs.declared.here.Here.{Here}
use Rattle.pvs_elaboration.specs.declared.here.Typed as here
use Rattle.pvs_subst.specs.Contexts.{context_at}
use Rattle.pvs_types.specs.Coerce.{coerce}
use Rattle.pvs_elaboration.specs.declared.value.Value.{Value}
use Rattle.pvs_elaboration.specs.declared.value.Value.TheVariants as value
use Rattle.pvs_elaboration.specs.declared.frame.Frame.{Frame}
use Rattle.pvs_elaboration.specs.declared.frame.Frame.TheVariants as frame
use Rattle.pvs_elaboration.specs.declared.frame.Control.TheVariants as control
use Rattle.pvs_elaboration.specs.declared.frame.Entrance.TheVariants as entrance
use Rattle.pvs_elaboration.specs.declared.frame.Next.{Next}
use Rattle.pvs_elaboration.specs.Known as known
use Rattle.pvs_elaboration.specs.Known.{Sources, phrase_at, place_in, Known, Grows, Accepts, site_in, IsHere, AreKnownNumbers, Failed}
use Rattle.pvs_elaboration.specs.Meanings.{Meaning, Typed, Term, Formed, meaning, value_numbers, typed_at, term_answer, fault_of, fault_at}
use Rattle.pvs_elaboration.specs.Machine.{frame_answer, coerced_at, frame_numbers, made_answer, made_type_answer, next_answer, IsTermNode, IsTypeNode, IsKnownNext, Follows, Steps}
use Rattle.pvs_elaboration.proofs.KnownLaws.{failed_then, number_stays, tree_stays, grows_none, within_limits_made, numbers_stay}
use Rattle.pvs_elaboration.proofs.MachineLaws.{frame_stays, nothing_after}

-- what gives a value to a frame
abbrev pub given : Value → Frame → Next
given v f = record { entrance = entrance.Here; control = control.Give v; frame = f }

-- a call that found something goes on with it
pub given_follows : {A : Type 0} {a b : Known} (text : Sources) (h : Here) (r : Answer A) (x : A) (w : A → Meaning) (v : Value) (f : Frame)
    → Grows a b → IsHere a h → AreKnownNumbers a (frame_numbers f) → AreKnownNumbers b (value_numbers v) → r ≡ Ok x → w x ≡ meaning b.stored v
    → Follows a b text h (r >>= (λ y. frame_answer (site_in a text h) a.stored text f (w y))) (given v f)
given_follows {A} {a} {b} text h r x w v f g i n m e d = record {
  kept = g;
  known = record { entrance = tt; control = m; frame = numbers_stay (frame_numbers f) g n };
  is = ap (λ (q : Answer A). q >>= (λ y. frame_answer (site_in a text h) a.stored text f (w y))) e ∙ ap (frame_answer (site_in a text h) a.stored text f) d ∙ sym (ap (λ (q : Meaning → Answer Meaning). q (meaning b.stored v)) (frame_stays text h f g i n));
}

node_sort : (s : Stored) (n : Node) → IsTermNode n → sort_of (node_tree s n) ≡ OfTerm
node_sort s node.TBool h = absurd h
node_sort s (node.TName r) h = absurd h
node_sort s (node.TSub a p) h = absurd h
node_sort s (node.TFun a b) h = absurd h
node_sort s (node.TPair k a b) h = absurd h
node_sort s (node.Var n) h = refl
node_sort s (node.Const r) h = refl
node_sort s node.True h = refl
node_sort s node.False h = refl
node_sort s (node.Lam a b) h = refl
node_sort s (node.App a b) h = refl
node_sort s (node.Tup k a b) h = refl
node_sort s (node.Fst k a) h = refl
node_sort s (node.Snd k a) h = refl
node_sort s (node.If a b c) h = refl
node_sort s (node.Eq a b) h = refl

pub term_made : {a b : Known} (text : Sources) (h : Here) (at : ℕ) (n : Node) (f : Frame) {i : ℕ} → IsTermNode n → IsHere a h → AreKnownNumbers a (frame_numbers f) → Grows a b
    → Gives b.stored b.declares (sort_of (node_tree a.stored n)) (node_tree a.stored n) i → Follows a b text h (made_answer (site_in a text h) a.stored text at (node_tree a.stored n) f) (given (value.Term i) f)
term_made {a} {b} text h at n f {i} t x m g s =
    given_follows text h (within_limits_at (place_in text at) (node_tree a.stored n)) (node_tree a.stored n) Term (value.Term i) f g x m
    (subst (λ o. AreKnownNumbers b ((o, i) ∷ [])) (node_sort a.stored n t) (s.known, tt)) (within_limits_made (place_in text at) (node_tree a.stored n) s.fits) (ap Term (sym s.tree))

type_node_sort : (s : Stored) (n : Node) → IsTypeNode n → sort_of (node_tree s n) ≡ OfType
type_node_sort s node.TBool h = refl
type_node_sort s (node.TName r) h = refl
type_node_sort s (node.TSub a p) h = refl
type_node_sort s (node.TFun a b) h = refl
type_node_sort s (node.TPair k a b) h = refl
type_node_sort s (node.Var n) h = absurd h
type_node_sort s (node.Const r) h = absurd h
type_node_sort s node.True h = absurd h
type_node_sort s node.False h = absurd h
type_node_sort s (node.Lam a b) h = absurd h
type_node_sort s (node.App a b) h = absurd h
type_node_sort s (node.Tup k a b) h = absurd h
type_node_sort s (node.Fst k a) h = absurd h
type_node_sort s (node.Snd k a) h = absurd h
type_node_sort s (node.If a b c) h = absurd h
type_node_sort s (node.Eq a b) h = absurd h

pub type_made : {a b : Known} (text : Sources) (h : Here) (at : ℕ) (n : Node) (f : Frame) {i : ℕ} → IsTypeNode n → IsHere a h → AreKnownNumbers a (frame_numbers f) → Grows a b
    → Gives b.stored b.declares (sort_of (node_tree a.stored n)) (node_tree a.stored n) i → Follows a b text h (made_type_answer (site_in a text h) a.stored text at (node_tree a.stored n) f) (given (value.Formed i) f)
type_made {a} {b} text h at n f {i} t x m g s =
    given_follows text h (within_limits_at (place_in text at) (node_tree a.stored n)) (node_tree a.stored n) Formed (value.Formed i) f g x m
    (subst (λ o. AreKnownNumbers b ((o, i) ∷ [])) (type_node_sort a.stored n t) (s.known, tt)) (within_limits_made (place_in text at) (node_tree a.stored n) s.fits) (ap Formed (sym s.tree))

-- a step with the same answer
pub steps_same : (a b : Known) (text : Sources) (h : Here) (r q : Answer Meaning) (res : Result Next ElabFault) → r ≡ q → Steps a b text h q res → Steps a b text h r res
steps_same a b text h r q res e t = subst (λ x. Steps a b text h x res) (sym e) t

pub follows_same : {a b : Known} (text : Sources) (h : Here) (r q : Answer Meaning) (n : Next) → r ≡ q → Follows a b text h q n → Follows a b text h r n
follows_same {a} {b} text h r q n e f = subst (λ x. Follows a b text h x n) (sym e) f

-- a step without a call
pub follows_at_once : {k : Known} (text : Sources) (h : Here) (r : Answer Meaning) (n : Next) → IsKnownNext k n → r ≡ next_answer (site_in k text h) k.stored text n → Follows k k text h r n
follows_at_once {k} text h r n m e = record { kept = grows_none k; known = m; is = e }

-- the fault of typing, at its place
pub typing_failed : {A X : Type 0} {a b : Known} (large at : Pos) (o : Outcome A) (f : A → Answer X) (e : TypeFault) → Grows a b → IsFault o e → Failed a b (from_outcome_at large at o >>= f) (fault_of large at e)
typing_failed {A} large at o f (type_fault.Refused c) g h = record { kept = g; is = ap (λ (q : Outcome A). from_outcome_at large at q >>= f) h }
typing_failed large at o f type_fault.Memory g h = record { kept = g; is = tt }

-- A term as one of a type.

pub coerced_follows : {a b : Known} (text : Sources) (h : Here) (large at : ℕ) (t : here.Typed) (u : ℕ) → Grows a b → known.IsTermOf a t.tree
    → Accepts (coerce a.lookups (context_at a.stored h.context.items) (tree_at a.stored t.tree) (tree_at a.stored t.ty) (tree_at a.stored u)) tt
    → Follows a b text h (term_answer (coerced_at (site_in a text h) (place_in text large) (place_in text at) (tree_at a.stored u) (typed_at a.stored t))) (given (value.Term t.tree) frame.Same)
unfolding site_in
coerced_follows {a} {b} text h large at t u g n x = record {
  kept = g;
  known = record { entrance = tt; control = (number_stays g n, tt); frame = tt };
  is = ap (λ (o : Outcome (Unit {0})). term_answer (from_outcome_at (place_in text large) (place_in text at) o >>= (λ _. Ok (tree_at a.stored t.tree)))) x.2 ∙ ap (λ (i : Tree). Ok (Term i)) (sym (tree_stays g n));
}

pub coercion_failed : {a b : Known} (text : Sources) (h : Here) (large at : ℕ) (t : here.Typed) (u : ℕ) (e : TypeFault) → Grows a b
    → IsFault (coerce a.lookups (context_at a.stored h.context.items) (tree_at a.stored t.tree) (tree_at a.stored t.ty) (tree_at a.stored u)) e
    → Failed a b (term_answer (coerced_at (site_in a text h) (place_in text large) (place_in text at) (tree_at a.stored u) (typed_at a.stored t))) (fault_of (place_in text large) (place_in text at) e)
unfolding site_in
coercion_failed {a} text h large at t u e g x =
    failed_then (λ (i : Tree). Ok (Term i)) (fault_of (place_in text large) (place_in text at) e) (typing_failed (place_in text large) (place_in text at) _ (λ _. Ok (tree_at a.stored t.tree)) e g x)

pub same_follows : {k : Known} (text : Sources) (h : Here) (v : Value) → AreKnownNumbers k (value_numbers v) → Follows k k text h (Ok (meaning k.stored v)) (given v frame.Same)
same_follows text h v n = follows_at_once text h _ _ (record { entrance = tt; control = n; frame = tt }) refl

pub coerce_follows : {k : Known} (text : Sources) (h : Here) (large at : ℕ) (t : here.Typed) (u : ℕ) → AreKnownNumbers k (value_numbers (value.Typed t)) → AreKnownNumbers k (frame_numbers (frame.Coerce large at u))
    → Follows k k text h (frame_answer (site_in k text h) k.stored text (frame.Coerce large at u) (Typed (typed_at k.stored t))) (record { entrance = entrance.Here; control = control.Coerce t large at u; frame = frame.Same })
coerce_follows text h large at t u n m = follows_at_once text h _ _ (record { entrance = tt; control = (n.0, (n.1.0, m)); frame = tt }) (sym (nothing_after _))

pub with_type_follows : {k : Known} (text : Sources) (h : Here) (t a : ℕ) → AreKnownNumbers k (value_numbers (value.Term t)) → AreKnownNumbers k (frame_numbers (frame.WithType a))
    → Follows k k text h (frame_answer (site_in k text h) k.stored text (frame.WithType a) (Term (tree_at k.stored t))) (given (value.Typed (record { tree = t; ty = a })) frame.Same)
with_type_follows text h t a n m = follows_at_once text h _ _ (record { entrance = tt; control = (n.0, m); frame = tt }) refl

pub with_term_follows : {k : Known} (text : Sources) (h : Here) (t a : ℕ) → AreKnownNumbers k (value_numbers (value.Formed a)) → AreKnownNumbers k (frame_numbers (frame.WithTerm t))
    → Follows k k text h (frame_answer (site_in k text h) k.stored text (frame.WithTerm t) (Formed (tree_at k.stored a))) (given (value.Typed (record { tree = t; ty = a })) frame.Same)
with_term_follows text h t a n m = follows_at_once text h _ _ (record { entrance = tt; control = (m.0, n); frame = tt }) refl

-- a fault of the text
pub fault_found : {X Y : Type 0} (k : Known) (at : Pos) (c : Code) (f : X → Answer Y) → Failed k k (answer.fault at c >>= f) (fault_at at c)
fault_found k at c f = record { kept = grows_none k; is = refl }

-- what typing accepts
pub accepted_value : {A : Type 0} (large at : Pos) {o : Outcome A} {x : A} → Accepts o x → from_outcome_at large at o ≡ Ok x
accepted_value large at e = ap (from_outcome_at large at) e.2

-- a type that a call finds, and the code that it refuses with

pub type_found : {A : Type 0} {a b : Known} (text : Sources) (h : Here) (at : Pos) (q : Result Tree Code) (x : Tree → Answer A) (y : A → Answer Meaning) (f : Frame) (i : ℕ)
    → Grows a b → IsHere a h → AreKnownNumbers a (frame_numbers f) → known.IsTypeOf b i → q ≡ Ok (tree_at b.stored i) → ((t : Tree) → (x t >>= y) ≡ frame_answer (site_in a text h) a.stored text f (Formed t))
    → Follows a b text h ((from_outcome at (from_result q) >>= x) >>= y) (given (value.Formed i) f)
type_found {A} {a} {b} text h at q x y f i g n m t e d = record {
  kept = g;
  known = record { entrance = tt; control = (t, tt); frame = numbers_stay (frame_numbers f) g m };
  is = ap (λ (r : Result Tree Code). (from_outcome at (from_result r) >>= x) >>= y) e ∙ d (tree_at b.stored i) ∙ sym (ap (λ (r : Meaning → Answer Meaning). r (Formed (tree_at b.stored i))) (frame_stays text h f g n m));
}

pub refusal_fault : {A : Type 0} (q : Result A Code) (e : TypeFault) → IsRefusal q e → IsFault (from_result q) e
refusal_fault q (type_fault.Refused c) h = ap from_result h
refusal_fault q type_fault.Memory h = tt

pub type_refused : {A : Type 0} {a b : Known} (at : Pos) (q : Result Tree Code) (x : Tree → Answer A) (y : A → Answer Meaning) (e : TypeFault) → Grows a b → IsRefusal q e
    → Failed a b ((from_outcome at (from_result q) >>= x) >>= y) (fault_of at at e)
type_refused at q x y e g h = failed_then y (fault_of at at e) (typing_failed at at (from_result q) x e g (refusal_fault q e h))

-- the type of a term that was found is found
pub type_given : {a b : Known} (text : Sources) (h : Here) (t : ℕ) (u : Tree) (r : Answer Tree) (i : ℕ) → Grows a b → IsHere a h → known.IsTermOf a t → known.IsTypeOf b i → r ≡ Ok u → u ≡ tree_at b.stored i
    → Follows a b text h ((r >>= (λ u. Ok (record { tree = tree_at a.stored t; ty = u }))) >>= (λ (p : TypedTree). Ok (Typed p))) (given (value.Formed i) (frame.WithTerm t))
type_given {a} {b} text h t u r i g n m k e d = record {
  kept = g;
  known = record { entrance = tt; control = (k, tt); frame = (number_stays g m, tt) };
  is = ap (λ (q : Answer Tree). (q >>= (λ u. Ok (record { tree = tree_at a.stored t; ty = u }))) >>= (λ (p : TypedTree). Ok (Typed p))) e ∙ ap₂ (λ (x : Tree) (y : Tree). Ok (Typed (record { tree = x; ty = y }))) (sym (tree_stays g m)) d;
}
