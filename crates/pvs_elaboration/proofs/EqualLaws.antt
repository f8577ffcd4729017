-- The rows of equations and of IFF.
use Rattle.std.proofs.Common.{◌≡◌, ℕ, Bool, true, false, refl, sym, ◌∙◌, ap, ap₂}
use Rattle.std.specs.Prelude.{if◌then◌else◌, Result, Ok, Err}
use Rattle.pvs_base.specs.Answers.{◌>>=◌}
use Rattle.pvs_base.specs.declared.place.Pos.{Pos}
use Rattle.pvs_base.specs.declared.code.Code.{Code}
use Rattle.pvs_base.specs.declared.code.Code.TheVariants.{Mismatch}
use Rattle.pvs_terms.specs.Tree.{Tree, TBool, Eq}
use Rattle.pvs_terms.specs.declared.node.Node.{Node}
use Rattle.pvs_terms.specs.declared.node.Node.TheVariants as node
use Rattle.pvs_terms.specs.Stored.{Stored, tree_at, node_tree}
use Rattle.pvs_subst.specs.Contexts.{context_at}
use Rattle.pvs_types.specs.Outcome.{Outcome, Refused, from_result}
use Rattle.pvs_types.specs.Forms.{head, most}
use Rattle.pvs_types.specs.Coerce.{coerce}
use Rattle.pvs_types.specs.Typing.{is_forall, typing}
use Rattle.pvs_typing.specs.Answers.{IsRefusal}
use Rattle.pvs_typing.specs.declared.fault.TypeFault.{TypeFault}
use Rattle.pvs_elab.specs.Answer.{Answer, fault, within_limits_at, place_of_code, from_outcome, from_outcome_at, from_text_or_outcome}
use Rattle.pvs_elab.specs.Phrase.{place}
use Rattle.pvs_elab.specs.Phrase as phrase
use Rattle.pvs_elab.specs.Elab.{Elab, TypedTree, truth_type}
use Rattle.pvs_elab.specs.Elab as definition
use Rattle.pvs_elaboration.specs.declared.fault.ElabFault.{ElabFault}
use Rattle.pvs_elaboration.specs.declared.here.Here.{Here}
use Rattle.pvs_elaboration.specs.declared.here.Typed as here
use Rattle.pvs_elaboration.specs.declared.value.Mode.TheVariants as mode
use Rattle.pvs_elaboration.specs.declared.value.Value.TheVariants as value
use Rattle.pvs_elaboration.specs.declared.equal.Sides.{Sides}
use Rattle.pvs_elaboration.specs.declared.equal.EqualRow.TheVariants as equal
use Rattle.pvs_elaboration.specs.declared.frame.Frame.{Frame}
use Rattle.pvs_elaboration.specs.declared.frame.Frame.TheVariants as frame
use Rattle.pvs_elaboration.specs.declared.frame.Control.TheVariants as control
use Rattle.pvs_elaboration.specs.declared.frame.Entrance.TheVariants as entrance
use Rattle.pvs_elaboration.specs.declared.frame.Next.{Next}
use Rattle.pvs_elaboration.specs.Known.{Sources, phrase_at, place_in, Known, Grows, Accepts, Site, site_in, IsHere, IsTypeOf, IsTermOf, AreKnownNumbers, Failed}
use Rattle.pvs_elaboration.specs.Meanings.{Meaning, Typed, Term, Formed, Done, value_numbers, typed_at, typed_answer, done_answer, on_typed, on_done, fault_of, fault_at, elab_at}
use Rattle.pvs_elaboration.specs.Equal.{equal_last, equal_left, equal_right, equal_sides, equal_forall, equal_typing, equal_tree, equal_first, iff_head, iff_first, equal_answer, equal_numbers}
use Rattle.pvs_elaboration.specs.Machine.{asked_at, made_answer, Follows, Steps}
use Rattle.pvs_elaboration.proofs.KnownLaws.{grows_none, number_stays, tree_stays, site_kept}
use Rattle.pvs_elaboration.proofs.MachineLaws.{then_typed, then_same, then_two, then_alike, coerced_unused, failed_same}
use Rattle.pvs_elaboration.proofs.StepLaws.{given, follows_at_once, steps_same, type_found, type_refused}
use Rattle.pvs_elaboration.proofs.AskLaws.{asked_then, elab_place}

-- The definition of an equation, with places for those of its sides.

sides_are : (z : Site) (left right : Pos) (a b : TypedTree) (t : Tree) → (definition.equal_sides z.lookups left right z.here a b >>= (λ (u : Unit {0}). equal_last t)) ≡ equal_sides z left right a b t
sides_are z left right a b t =
    let common = from_outcome left (from_result (most z.lookups a.ty)) in
    let first : Tree → Answer (Unit {0}) = λ u. from_outcome right (coerce z.lookups z.here.context b.tree b.ty u) in
    let second : Tree → Answer (Unit {0}) = λ u. from_outcome_at left right (coerce z.lookups z.here.context a.tree a.ty u) in
    then_two common (λ u. first u >>= (λ _. second u)) (λ (u : Unit {0}). equal_last t)
    ∙ then_alike common (λ u. (first u >>= (λ _. second u)) >>= (λ (v : Unit {0}). equal_last t)) (equal_right z left right a b t) (λ u. then_two (first u) (λ _. second u) (λ (v : Unit {0}). equal_last t))

by_forall : {A B : Type 0} (c : Bool) (x y : Answer A) (p : A → Answer B) (w : Answer B) → (y >>= p) ≡ w → ((if c then x else y) >>= p) ≡ (if c then x >>= p else w)
by_forall true x y p w e = refl
by_forall false x y p w e = e

typing_is : (z : Site) (x y : Elab) (a b : TypedTree) (t : Tree) → definition.equation_typing z.lookups x y z.here a b t ≡ equal_typing z x x.place y.place a b t
typing_is z x y a b t =
    by_forall (is_forall a.tree b.tree) (from_text_or_outcome (x.predicate z.here) x.place ((typing z.lookups a.tree).predicate z.here.context)) (definition.equal_sides z.lookups x.place y.place z.here a b) (λ (u : Unit {0}). equal_last t)
    (equal_sides z x.place y.place a b t) (sides_are z x.place y.place a b t)

first_is : (z : Site) (x y : Elab) (a : TypedTree) → definition.equal_right z.lookups x y z.here a ≡ equal_first z x y x.place y.place a
first_is z x y a =
    then_alike (y.infer z.here) (definition.equation z.lookups x y z.here a) (equal_tree z x x.place y.place a)
    (λ b. then_alike (within_limits_at x.place (Eq a.tree b.tree)) (definition.equation_typing z.lookups x y z.here a b) (equal_typing z x x.place y.place a b) (typing_is z x y a b))

-- the left side is asked first

pub equal_asked : {k : Known} (text : Sources) (h : Here) (o : Sides) → place_in text o.left_at ≡ place (phrase_at text o.left) → place_in text o.right_at ≡ place (phrase_at text o.right)
    → Follows k k text h (asked_at (site_in k text h) k.stored text mode.Infer (phrase.Equal (phrase_at text o.left) (phrase_at text o.right))) (asked_then o.left mode.Infer (frame.Equal equal.Right o))
unfolding site_in
equal_asked {k} text h o p q =
    let z = site_in k text h in
    let x = elab_at z text o.left in
    let y = elab_at z text o.right in
    follows_at_once text h _ _ (record { entrance = tt; control = tt; frame = tt })
    (ap typed_answer (then_alike (x.infer z.here) (definition.equal_right z.lookups x y z.here) (equal_first z x y x.place y.place) (first_is z x y))
    ∙ then_typed (x.infer z.here) (equal_first z x y x.place y.place) (λ (t : TypedTree). Ok (Typed t))
    ∙ ap₂ (λ (i : Pos) (j : Pos). typed_answer (x.infer z.here) >>= on_typed (λ a. typed_answer (equal_first z x y i j a))) (elab_place k.lookups k.names (phrase_at text o.left) ∙ sym p) (elab_place k.lookups k.names (phrase_at text o.right) ∙ sym q))

iff_is : (z : Site) (x y : Elab) (a : TypedTree)
    → (from_outcome x.place (from_result (head z.lookups a.ty)) >>= (λ d. from_outcome x.place (truth_type d) >>= (λ _. definition.equal_right z.lookups x y z.here a))) ≡ iff_first z x y x.place y.place a
iff_is z x y a = ap (λ (q : Answer TypedTree). from_outcome x.place (from_result (head z.lookups a.ty)) >>= (λ d. from_outcome x.place (truth_type d) >>= (λ _. q))) (first_is z x y a)

pub iff_asked : {k : Known} (text : Sources) (h : Here) (o : Sides) → place_in text o.left_at ≡ place (phrase_at text o.left) → place_in text o.right_at ≡ place (phrase_at text o.right)
    → Follows k k text h (asked_at (site_in k text h) k.stored text mode.Infer (phrase.Iff (phrase_at text o.left) (phrase_at text o.right))) (asked_then o.left mode.Infer (frame.Equal equal.Iff o))
unfolding site_in
iff_asked {k} text h o p q =
    let z = site_in k text h in
    let x = elab_at z text o.left in
    let y = elab_at z text o.right in
    follows_at_once text h _ _ (record { entrance = tt; control = tt; frame = tt })
    (ap typed_answer (then_alike (x.infer z.here) (λ a. from_outcome x.place (from_result (head z.lookups a.ty)) >>= (λ d. from_outcome x.place (truth_type d) >>= (λ _. definition.equal_right z.lookups x y z.here a))) (iff_first z x y x.place y.place) (iff_is z x y))
    ∙ then_typed (x.infer z.here) (iff_first z x y x.place y.place) (λ (t : TypedTree). Ok (Typed t))
    ∙ ap₂ (λ (i : Pos) (j : Pos). typed_answer (x.infer z.here) >>= on_typed (λ a. typed_answer (iff_first z x y i j a))) (elab_place k.lookups k.names (phrase_at text o.left) ∙ sym p) (elab_place k.lookups k.names (phrase_at text o.right) ∙ sym q))

-- the head of the type of the left side

pub iff_follows : {a b : Known} (text : Sources) (h : Here) (o : Sides) (c : here.Typed) (i : ℕ) → Grows a b → IsHere a h → AreKnownNumbers a (value_numbers (value.Typed c)) → IsTypeOf b i
    → head a.lookups (tree_at a.stored c.ty) ≡ Ok (tree_at b.stored i)
    → Follows a b text h (equal_answer (site_in a text h) a.stored text equal.Iff o (Typed (typed_at a.stored c))) (given (value.Formed i) (frame.Equal (equal.IffHead c) o))
unfolding site_in
iff_follows {a} text h o c i g n m t e =
    let z = site_in a text h in
    type_found text h (place_in text o.left_at) (head a.lookups (tree_at a.stored c.ty)) (iff_head z (elab_at z text o.left) (elab_at z text o.right) (place_in text o.left_at) (place_in text o.right_at) (typed_at a.stored c))
    (λ (t : TypedTree). Ok (Typed t)) (frame.Equal (equal.IffHead c) o) i g n m t e (λ t. refl)

pub iff_refused : {a b : Known} (text : Sources) (h : Here) (o : Sides) (c : here.Typed) (e : TypeFault) → Grows a b → IsRefusal (head a.lookups (tree_at a.stored c.ty)) e
    → Failed a b (equal_answer (site_in a text h) a.stored text equal.Iff o (Typed (typed_at a.stored c))) (fault_of (place_in text o.left_at) (place_in text o.left_at) e)
unfolding site_in
iff_refused {a} text h o c e g x =
    let z = site_in a text h in
    type_refused (place_in text o.left_at) (head a.lookups (tree_at a.stored c.ty)) (iff_head z (elab_at z text o.left) (elab_at z text o.right) (place_in text o.left_at) (place_in text o.right_at) (typed_at a.stored c)) (λ (t : TypedTree). Ok (Typed t)) e g x

-- the right side

right_asked : (z : Site) (text : Sources) (o : Sides) (a : TypedTree)
    → typed_answer (equal_first z (elab_at z text o.left) (elab_at z text o.right) (place_in text o.left_at) (place_in text o.right_at) a)
    ≡ (typed_answer ((elab_at z text o.right).infer z.here) >>= on_typed (λ b. typed_answer (equal_tree z (elab_at z text o.left) (place_in text o.left_at) (place_in text o.right_at) a b)))
right_asked z text o a = then_typed ((elab_at z text o.right).infer z.here) (equal_tree z (elab_at z text o.left) (place_in text o.left_at) (place_in text o.right_at) a) (λ (t : TypedTree). Ok (Typed t))

pub head_is_truth : {k : Known} (text : Sources) (h : Here) (o : Sides) (c : here.Typed) (i : ℕ) → AreKnownNumbers k (equal_numbers (equal.IffHead c)) → tree_at k.stored i ≡ TBool
    → Follows k k text h (equal_answer (site_in k text h) k.stored text (equal.IffHead c) o (Formed (tree_at k.stored i))) (asked_then o.right mode.Infer (frame.Equal (equal.Equation c) o))
head_is_truth {k} text h o c i n e =
    let z = site_in k text h in
    follows_at_once text h _ _ (record { entrance = tt; control = tt; frame = n })
    (ap (λ (t : Tree). typed_answer (iff_head z (elab_at z text o.left) (elab_at z text o.right) (place_in text o.left_at) (place_in text o.right_at) (typed_at k.stored c) t)) e
    ∙ right_asked z text o (typed_at k.stored c))

-- no other node is the type of truth values
pub other_head : (s : Stored) (n : Node) → ¬ (n ≡ node.TBool) → truth_type (node_tree s n) ≡ Refused Mismatch
other_head s node.TBool h = absurd (h refl)
other_head s (node.TName r) h = refl
other_head s (node.TSub a p) h = refl
other_head s (node.TFun a b) h = refl
other_head s (node.TPair k a b) h = refl
other_head s (node.Var n) h = refl
other_head s (node.Const r) h = refl
other_head s node.True h = refl
other_head s node.False h = refl
other_head s (node.Lam a b) h = refl
other_head s (node.App a b) h = refl
other_head s (node.Tup k a b) h = refl
other_head s (node.Fst k a) h = refl
other_head s (node.Snd k a) h = refl
other_head s (node.If a b c) h = refl
other_head s (node.Eq a b) h = refl

pub head_is_no_truth : (k : Known) (text : Sources) (h : Here) (o : Sides) (c : here.Typed) (t : Tree) (e : Code) → truth_type t ≡ Refused e
    → Failed k k (equal_answer (site_in k text h) k.stored text (equal.IffHead c) o (Formed t)) (fault_at (place_of_code (place_in text o.left_at) (place_in text o.left_at) e) e)
head_is_no_truth k text h o c t e x =
    let z = site_in k text h in
    record {
      kept = grows_none k;
      is = ap (λ (q : Outcome (Unit {0})). typed_answer (from_outcome (place_in text o.left_at) q >>= (λ _. equal_first z (elab_at z text o.left) (elab_at z text o.right) (place_in text o.left_at) (place_in text o.right_at) (typed_at k.stored c)))) x;
    }

pub right_follows : {k : Known} (text : Sources) (h : Here) (o : Sides) (c : here.Typed) → AreKnownNumbers k (value_numbers (value.Typed c))
    → Follows k k text h (equal_answer (site_in k text h) k.stored text equal.Right o (Typed (typed_at k.stored c))) (asked_then o.right mode.Infer (frame.Equal (equal.Equation c) o))
right_follows {k} text h o c n = follows_at_once text h _ _ (record { entrance = tt; control = tt; frame = n }) (right_asked (site_in k text h) text o (typed_at k.stored c))

-- the tree

pub equation_row : (k j : Known) (text : Sources) (h : Here) (o : Sides) (a b : here.Typed) (res : Result Next ElabFault)
    → Steps k j text h (made_answer (site_in k text h) k.stored text o.left_at (node_tree k.stored (node.Eq a.tree b.tree)) (frame.Equal (equal.Typing a b) o)) res
    → Steps k j text h (equal_answer (site_in k text h) k.stored text (equal.Equation a) o (Typed (typed_at k.stored b))) res
equation_row k j text h o a b res t =
    let z = site_in k text h in
    steps_same k j text h _ _ res
    (then_same (within_limits_at (place_in text o.left_at) (Eq (tree_at k.stored a.tree) (tree_at k.stored b.tree))) (equal_typing z (elab_at z text o.left) (place_in text o.left_at) (place_in text o.right_at) (typed_at k.stored a) (typed_at k.stored b)) (λ (t : TypedTree). Ok (Typed t))) t

-- A universal formula.

as_forall : (z : Site) (x : Elab) (left right : Pos) (a b : TypedTree) (t : Tree) → is_forall a.tree b.tree ≡ true → equal_typing z x left right a b t ≡ equal_forall z x left a t
as_forall z x left right a b t e = ap (λ (c : Bool). if c then equal_forall z x left a t else equal_sides z left right a b t) e

as_sides : (z : Site) (x : Elab) (left right : Pos) (a b : TypedTree) (t : Tree) → is_forall a.tree b.tree ≡ false → equal_typing z x left right a b t ≡ equal_sides z left right a b t
as_sides z x left right a b t e = ap (λ (c : Bool). if c then equal_forall z x left a t else equal_sides z left right a b t) e

text_accepted : {A B : Type 0} (r : Answer A) (at : Pos) (o : Outcome B) (v : B) → Accepts o v → from_text_or_outcome r at o ≡ Ok v
text_accepted {A} {B} (Ok x) at o v e = ap (λ (q : Outcome B). from_text_or_outcome {A = A} (Ok x) at q) e.2
text_accepted {A} {B} (Err x) at o v e = ap (λ (q : Outcome B). from_text_or_outcome {A = A} (Err x) at q) e.2

text_refused : {A : Type 0} (r : Answer (Unit {0})) (at : Pos) (o : Outcome A) (c : Code) (f : A → Answer Meaning) → o ≡ Refused c → (from_text_or_outcome r at o >>= f) ≡ (done_answer r >>= on_done (fault at c))
text_refused {A} (Ok x) at o c f e = ap (λ (q : Outcome A). from_text_or_outcome {A = Unit {0}} (Ok x) at q >>= f) e
text_refused {A} (Err x) at o c f e = ap (λ (q : Outcome A). from_text_or_outcome {A = Unit {0}} (Err x) at q >>= f) e

pub forall_follows : {a b : Known} (text : Sources) (h : Here) (o : Sides) (p q : here.Typed) (t : ℕ) → Grows a b → IsHere a h → IsTermOf a t → is_forall (tree_at a.stored p.tree) (tree_at a.stored q.tree) ≡ true
    → Accepts ((typing a.lookups (tree_at a.stored p.tree)).predicate (context_at a.stored h.context.items)) tt
    → Follows a b text h (equal_answer (site_in a text h) a.stored text (equal.Typing p q) o (Term (tree_at a.stored t))) (given (value.Typed (record { tree = t; ty = h.truth })) frame.Same)
unfolding site_in
forall_follows {a} {b} text h o p q t g i n e x =
    let z = site_in a text h in
    let l = elab_at z text o.left in
    record {
      kept = g;
      known = record { entrance = tt; control = (number_stays g n, (number_stays g i.truth, tt)); frame = tt };
      is = ap typed_answer (as_forall z l (place_in text o.left_at) (place_in text o.right_at) (typed_at a.stored p) (typed_at a.stored q) (tree_at a.stored t) e)
          ∙ ap (λ (r : Answer (Unit {0})). typed_answer (r >>= (λ _. equal_last (tree_at a.stored t)))) (text_accepted (l.predicate z.here) (place_in text o.left_at) ((typing a.lookups (tree_at a.stored p.tree)).predicate (context_at a.stored h.context.items)) tt x)
          ∙ ap₂ (λ (u : Tree) (v : Tree). Ok (Typed (record { tree = u; ty = v }))) (sym (tree_stays g n)) (sym (tree_stays g i.truth ∙ i.is_truth));
    }

pub forall_refused : {a b : Known} (text : Sources) (h : Here) (o : Sides) (p q : here.Typed) (t : ℕ) (c : Code) → Grows a b → IsHere a h → is_forall (tree_at a.stored p.tree) (tree_at a.stored q.tree) ≡ true
    → (typing a.lookups (tree_at a.stored p.tree)).predicate (context_at a.stored h.context.items) ≡ Refused c
    → Follows a b text h (equal_answer (site_in a text h) a.stored text (equal.Typing p q) o (Term (tree_at a.stored t))) (asked_then o.left mode.Predicate (frame.Equal (equal.Refused c) o))
unfolding site_in
forall_refused {a} {b} text h o p q t c g i e x =
    let z = site_in a text h in
    let l = elab_at z text o.left in
    record {
      kept = g;
      known = record { entrance = tt; control = tt; frame = tt };
      is = ap typed_answer (as_forall z l (place_in text o.left_at) (place_in text o.right_at) (typed_at a.stored p) (typed_at a.stored q) (tree_at a.stored t) e)
          ∙ then_same (from_text_or_outcome (l.predicate z.here) (place_in text o.left_at) ((typing a.lookups (tree_at a.stored p.tree)).predicate (context_at a.stored h.context.items))) (λ (u : Unit {0}). equal_last (tree_at a.stored t)) (λ (u : TypedTree). Ok (Typed u))
          ∙ text_refused (l.predicate z.here) (place_in text o.left_at) ((typing a.lookups (tree_at a.stored p.tree)).predicate (context_at a.stored h.context.items)) c (λ (u : Unit {0}). typed_answer (equal_last (tree_at a.stored t))) x
          ∙ ap (λ (s : Site). done_answer ((elab_at s text o.left).predicate s.here) >>= on_done (fault (place_in text o.left_at) c)) (sym (site_kept text h g i));
    }

pub code_follows : (k : Known) (text : Sources) (h : Here) (o : Sides) (c : Code) → Failed k k (equal_answer (site_in k text h) k.stored text (equal.Refused c) o Done) (fault_at (place_in text o.left_at) c)
code_follows k text h o c = record { kept = grows_none k; is = refl }

-- Another equation: the most general type of the left side, and both sides as ones of it.

pub sides_follow : {a b : Known} (text : Sources) (h : Here) (o : Sides) (p q : here.Typed) (t i : ℕ) → Grows a b → IsHere a h → AreKnownNumbers a (equal_numbers (equal.RightSide p q t)) → IsTypeOf b i
    → is_forall (tree_at a.stored p.tree) (tree_at a.stored q.tree) ≡ false → most a.lookups (tree_at a.stored p.ty) ≡ Ok (tree_at b.stored i)
    → Follows a b text h (equal_answer (site_in a text h) a.stored text (equal.Typing p q) o (Term (tree_at a.stored t))) (given (value.Formed i) (frame.Equal (equal.RightSide p q t) o))
unfolding site_in
sides_follow {a} {b} text h o p q t i g n m k e d =
    let z = site_in a text h in
    steps_same a b text h _ _ (Ok (given (value.Formed i) (frame.Equal (equal.RightSide p q t) o)))
    (ap typed_answer (as_sides z (elab_at z text o.left) (place_in text o.left_at) (place_in text o.right_at) (typed_at a.stored p) (typed_at a.stored q) (tree_at a.stored t) e))
    (type_found text h (place_in text o.left_at) (most a.lookups (tree_at a.stored p.ty)) (equal_right z (place_in text o.left_at) (place_in text o.right_at) (typed_at a.stored p) (typed_at a.stored q) (tree_at a.stored t))
    (λ (u : TypedTree). Ok (Typed u)) (frame.Equal (equal.RightSide p q t) o) i g n m k d (λ u. refl))

pub sides_refused : {a b : Known} (text : Sources) (h : Here) (o : Sides) (p q : here.Typed) (t : ℕ) (c : TypeFault) → Grows a b → is_forall (tree_at a.stored p.tree) (tree_at a.stored q.tree) ≡ false
    → IsRefusal (most a.lookups (tree_at a.stored p.ty)) c
    → Failed a b (equal_answer (site_in a text h) a.stored text (equal.Typing p q) o (Term (tree_at a.stored t))) (fault_of (place_in text o.left_at) (place_in text o.left_at) c)
unfolding site_in
sides_refused {a} {b} text h o p q t c g e x =
    let z = site_in a text h in
    failed_same _ _ (fault_of (place_in text o.left_at) (place_in text o.left_at) c)
    (ap typed_answer (as_sides z (elab_at z text o.left) (place_in text o.left_at) (place_in text o.right_at) (typed_at a.stored p) (typed_at a.stored q) (tree_at a.stored t) e))
    (type_refused (place_in text o.left_at) (most a.lookups (tree_at a.stored p.ty)) (equal_right z (place_in text o.left_at) (place_in text o.right_at) (typed_at a.stored p) (typed_at a.stored q) (tree_at a.stored t)) (λ (u : TypedTree). Ok (Typed u)) c g x)

-- what coerces here
abbrev pub coerces : here.Typed → ℕ → ℕ → ℕ → Frame → Next
coerces t large at u f = record { entrance = entrance.Here; control = control.Coerce t large at u; frame = f }

pub right_side_follows : {k : Known} (text : Sources) (h : Here) (o : Sides) (p q : here.Typed) (t i : ℕ) → IsTypeOf k i → AreKnownNumbers k (equal_numbers (equal.RightSide p q t))
    → Follows k k text h (equal_answer (site_in k text h) k.stored text (equal.RightSide p q t) o (Formed (tree_at k.stored i))) (coerces q o.right_at o.right_at i (frame.Equal (equal.LeftSide p t i) o))
right_side_follows {k} text h o p q t i n m =
    let z = site_in k text h in
    follows_at_once text h _ _ (record { entrance = tt; control = (m.1.1.0, (m.1.1.1.0, (n, tt))); frame = (m.0, (m.1.0, (m.1.1.1.1.0, (n, tt)))) })
    (coerced_unused (from_outcome (place_in text o.right_at) (coerce z.lookups z.here.context (tree_at k.stored q.tree) (tree_at k.stored q.ty) (tree_at k.stored i))) (tree_at k.stored q.tree)
    (equal_left z (place_in text o.left_at) (place_in text o.right_at) (typed_at k.stored p) (tree_at k.stored t) (tree_at k.stored i)) (λ (u : TypedTree). Ok (Typed u)))

pub left_side_follows : {k : Known} (text : Sources) (h : Here) (o : Sides) (p : here.Typed) (t u c : ℕ) → AreKnownNumbers k (equal_numbers (equal.LeftSide p t u))
    → Follows k k text h (equal_answer (site_in k text h) k.stored text (equal.LeftSide p t u) o (Term (tree_at k.stored c))) (coerces p o.left_at o.right_at u (frame.Equal (equal.Last t) o))
left_side_follows {k} text h o p t u c m =
    let z = site_in k text h in
    follows_at_once text h _ _ (record { entrance = tt; control = (m.0, (m.1.0, (m.1.1.1.0, tt))); frame = (m.1.1.0, tt) })
    (coerced_unused (from_outcome_at (place_in text o.left_at) (place_in text o.right_at) (coerce z.lookups z.here.context (tree_at k.stored p.tree) (tree_at k.stored p.ty) (tree_at k.stored u))) (tree_at k.stored p.tree)
    (equal_last (tree_at k.stored t)) (λ (u : TypedTree). Ok (Typed u)))

pub equal_last_follows : {k : Known} (text : Sources) (h : Here) (o : Sides) (t c : ℕ) → IsHere k h → AreKnownNumbers k (equal_numbers (equal.Last t))
    → Follows k k text h (equal_answer (site_in k text h) k.stored text (equal.Last t) o (Term (tree_at k.stored c))) (given (value.Typed (record { tree = t; ty = h.truth })) frame.Same)
equal_last_follows {k} text h o t c i m =
    follows_at_once text h _ _ (record { entrance = tt; control = (m.0, (i.truth, tt)); frame = tt }) (ap (λ (u : Tree). Ok (Typed (record { tree = tree_at k.stored t; ty = u }))) (sym i.is_truth))
