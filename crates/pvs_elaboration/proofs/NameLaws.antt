-- The rows of names.
use Rattle.std.proofs.Common.{◌≡◌, ◌<◌, ◌≤◌, ◌-◌, ℕ, suc, Bool, true, false, List, [], ◌∷◌, length, get_or, drop, drop-cons, refl, sym, ◌∙◌, ap, subst}
use Rattle.std.proofs.lemmas.List.{drop_all}
use Rattle.std.specs.Prelude.{bytes_eq, if◌then◌else◌, Option, Some, None, Result, Ok, Err}
use Rattle.pvs_base.specs.Answers.{◌>>=◌}
use Rattle.pvs_base.specs.declared.code.Code.{Code}
use Rattle.pvs_terms.specs.declared.shape.Sort.TheVariants.{OfTerm}
use Rattle.pvs_terms.specs.Tree.{Text, Tree, Ref, TBool, TName, Const}
use Rattle.pvs_terms.specs.declared.node.Node.TheVariants as node
use Rattle.pvs_terms.specs.Stored.{Stored, tree_at, ref_at, node_tree}
use Rattle.pvs_subst.specs.Replace.{lift}
use Rattle.pvs_subst.specs.Contexts.{context_at}
use Rattle.pvs_types.specs.Outcome.{Outcome}
use Rattle.pvs_types.specs.Typing.{infer, check, well_formed}
use Rattle.pvs_typing.specs.Answers.{Gives, IsFault}
use Rattle.pvs_typing.specs.declared.fault.TypeFault.{TypeFault}
use Rattle.pvs_elab.specs.Answer.{Answer, within_limits_at, from_outcome, from_name}
use Rattle.pvs_elab.specs.Names as named
use Rattle.pvs_elab.specs.Phrase as phrase
use Rattle.pvs_elab.specs.Elab.{TypedTree, local_named, name_term, named_type, is_bool}
use Rattle.pvs_elaboration.specs.declared.here.Local.{Local}
use Rattle.pvs_elaboration.specs.declared.here.Here.{Here}
use Rattle.pvs_elaboration.specs.declared.value.Mode.TheVariants as mode
use Rattle.pvs_elaboration.specs.declared.value.Value.TheVariants as value
use Rattle.pvs_elaboration.specs.declared.names.NameRow.TheVariants as name
use Rattle.pvs_elaboration.specs.declared.fault.ElabFault.{ElabFault}
use Rattle.pvs_elaboration.specs.declared.frame.Next.{Next}
use Rattle.pvs_elaboration.specs.declared.frame.Frame.{Frame}
use Rattle.pvs_elaboration.specs.declared.frame.Frame.TheVariants as frame
use Rattle.pvs_elaboration.specs.Known as known
use Rattle.pvs_elaboration.specs.Known.{Sources, word_at, place_in, Known, Grows, Accepts, Site, site_in, IsHere, IsTypeOf, IsTermOf, AreLocals, AreKnownNumbers, locals_at, local_item, Failed}
use Rattle.pvs_elaboration.specs.Meanings.{Typed, Term, Formed, typed_answer, term_answer, formed_answer, fault_of, fault_at}
use Rattle.pvs_elaboration.specs.Names.{inferred_at, checked_at, accepted_at, name_answer, IsVariable, local_tree}
use Rattle.pvs_elaboration.specs.Machine.{asked_at, frame_answer, frame_numbers, made_answer, made_type_answer, named_answer, Follows, Steps}
use Rattle.pvs_elaboration.proofs.KnownLaws.{grows_none, number_stays, tree_stays, within_limits_made, failed_then}
use Rattle.pvs_elaboration.proofs.MachineLaws.{then_same}
use Rattle.pvs_elaboration.proofs.StepLaws.{given, given_follows, follows_at_once, steps_same, typing_failed}

-- The term of a local name.

found_if : (b : Bool) (s : Stored) (d : ℕ) (l : Local) (r : Option Tree) (q : Option (ℕ × ℕ)) → r ≡ local_tree s d q
    → (if b then Some (lift (tree_at s l.term) (d - l.at) 0) else r) ≡ local_tree s d (if b then Some (l.term, l.at) else q)
found_if true s d l r q e = refl
found_if false s d l r q e = e

pub local_found : (s : Stored) (t : Sources) (x : Text) (d : ℕ) (ls : List Local) → local_named x (locals_at s t d ls) ≡ local_tree s d (local_item t x ls)
local_found s t x d [] = refl
local_found s t x d (l ∷ ls) = found_if (bytes_eq x (word_at t l.name)) s d l (local_named x (locals_at s t d ls)) (local_item t x ls) (local_found s t x d ls)

named_is : (z : Site) (s : Stored) (text : Sources) (d : ℕ) (x : Text) (at : ℕ) (i : Option (ℕ × ℕ)) (f : Frame)
    → (name_term z.names x (place_in text at) (local_tree s d i) >>= (λ t. frame_answer z s text f (Term t))) ≡ named_answer z s text d x at i f
named_is z s text d x at None f = then_same (from_name (place_in text at) (z.names.constant_named x)) (λ r. within_limits_at (place_in text at) (Const r)) (λ t. frame_answer z s text f (Term t))
named_is z s text d x at (Some i) f = refl

-- what is asked of a name, by the term that it stands for

pub name_inferred : (k : Known) (text : Sources) (h : Here) (x : Text) (p : ℕ)
    → asked_at (site_in k text h) k.stored text mode.Infer (phrase.Name x (place_in text p)) ≡ named_answer (site_in k text h) k.stored text h.depth x p (local_item text x h.locals) (frame.Name name.Infer p)
unfolding site_in
name_inferred k text h x p =
    let z = site_in k text h in
    then_same (name_term k.names x (place_in text p) (local_named x (locals_at k.stored text h.depth h.locals))) (inferred_at z (place_in text p)) (λ (t : TypedTree). Ok (Typed t))
    ∙ ap (λ (o : Option Tree). name_term k.names x (place_in text p) o >>= (λ t. frame_answer z k.stored text (frame.Name name.Infer p) (Term t))) (local_found k.stored text x h.depth h.locals)
    ∙ named_is z k.stored text h.depth x p (local_item text x h.locals) (frame.Name name.Infer p)

pub name_checked : (k : Known) (text : Sources) (h : Here) (x : Text) (p at u : ℕ)
    → asked_at (site_in k text h) k.stored text (mode.CheckAt at u) (phrase.Name x (place_in text p)) ≡ named_answer (site_in k text h) k.stored text h.depth x p (local_item text x h.locals) (frame.Name (name.Check u) at)
unfolding site_in
name_checked k text h x p at u =
    let z = site_in k text h in
    then_same (name_term k.names x (place_in text p) (local_named x (locals_at k.stored text h.depth h.locals))) (checked_at z (place_in text at) (tree_at k.stored u)) (λ (t : Tree). Ok (Term t))
    ∙ ap (λ (o : Option Tree). name_term k.names x (place_in text p) o >>= (λ t. frame_answer z k.stored text (frame.Name (name.Check u) at) (Term t))) (local_found k.stored text x h.depth h.locals)
    ∙ named_is z k.stored text h.depth x p (local_item text x h.locals) (frame.Name (name.Check u) at)

-- a local name: its term is lifted
pub local_follows : {a b : Known} (text : Sources) (h : Here) (x : Text) (p : ℕ) (i : ℕ × ℕ) (f : Frame) (j : ℕ) → Grows a b → IsHere a h → AreKnownNumbers a (frame_numbers f)
    → Gives b.stored b.declares OfTerm (lift (tree_at a.stored i.0) (h.depth - i.1) 0) j
    → Follows a b text h (named_answer (site_in a text h) a.stored text h.depth x p (Some i) f) (given (value.Term j) f)
local_follows {a} {b} text h x p i f j g n m s =
    given_follows text h (within_limits_at (place_in text p) (lift (tree_at a.stored i.0) (h.depth - i.1) 0)) (lift (tree_at a.stored i.0) (h.depth - i.1) 0) Term (value.Term j) f g n m (s.known, tt)
    (within_limits_made (place_in text p) (lift (tree_at a.stored i.0) (h.depth - i.1) 0) s.fits) (ap Term (sym s.tree))

named_at_site : (k : Known) (text : Sources) (h : Here) (x : Text) (r : Ref) → k.names.constant_named x ≡ Ok r → (site_in k text h).names.constant_named x ≡ Ok r
unfolding site_in
named_at_site k text h x r e = e

-- Looked up by a loop over the local names.

item_if : (b : Bool) (x y : Option (ℕ × ℕ)) → b ≡ true → (if b then x else y) ≡ x
item_if true x y e = refl
item_if false x y e = cc

item_else : (b : Bool) (x y : Option (ℕ × ℕ)) → b ≡ false → (if b then x else y) ≡ y
item_else true x y e = cc
item_else false x y e = refl

pub local_first : (t : Sources) (x : Text) (ls : List Local) (i : ℕ) (l : Local) → i < length ls → l ≡ get_or ls i l → bytes_eq x (word_at t l.name) ≡ true → local_item t x (drop i ls) ≡ Some (l.term, l.at)
local_first t x ls i l h g e = rw (drop-cons ls i l, ← g) (item_if (bytes_eq x (word_at t l.name)) (Some (l.term, l.at)) (local_item t x (drop (suc i) ls)) e)

pub local_next : (t : Sources) (x : Text) (ls : List Local) (i : ℕ) (l : Local) → i < length ls → l ≡ get_or ls i l → bytes_eq x (word_at t l.name) ≡ false → local_item t x (drop i ls) ≡ local_item t x (drop (suc i) ls)
local_next t x ls i l h g e = rw (drop-cons ls i l, ← g) (item_else (bytes_eq x (word_at t l.name)) (Some (l.term, l.at)) (local_item t x (drop (suc i) ls)) e)

pub local_none : (t : Sources) (x : Text) (ls : List Local) (i : ℕ) → length ls ≤ i → local_item t x (drop i ls) ≡ None
local_none t x ls i h = ap (local_item t x) (drop_all i ls h)

-- the number of a local name that is found is known
abbrev IsSomeOf : {A : Type 0} → (A → Type 0) → Option A → Type 0
IsSomeOf P (Some x) = P x
IsSomeOf P None = Unit {0}

some_is : {A : Type 0} (P : A → Type 0) (i j : A) → Some i ≡ Some j → P i → P j
some_is {A} P i j e n = subst (λ (o : Option A). IsSomeOf P o) e n

found_known : (b : Bool) (k : Known) (d : ℕ) (i j : ℕ × ℕ) (r : Option (ℕ × ℕ)) → IsTermOf k i.0 × (i.1 ≤ d) → (r ≡ Some j → IsTermOf k j.0 × (j.1 ≤ d)) → (if b then Some i else r) ≡ Some j → IsTermOf k j.0 × (j.1 ≤ d)
found_known true k d i j r n f e = some_is (λ (o : ℕ × ℕ). IsTermOf k o.0 × (o.1 ≤ d)) i j e n
found_known false k d i j r n f e = f e

pub local_known : (k : Known) (t : Sources) (x : Text) (d : ℕ) (ls : List Local) (j : ℕ × ℕ) → AreLocals k d ls → local_item t x ls ≡ Some j → IsTermOf k j.0 × (j.1 ≤ d)
local_known k t x d [] j n e = cc
local_known k t x d (l ∷ ls) j n e = found_known (bytes_eq x (word_at t l.name)) k d (l.term, l.at) j (local_item t x ls) n.0 (local_known k t x d ls j n.1) e

-- a constant: its tree is made
pub constant_named_is : (z : Site) (s : Stored) (text : Sources) (d : ℕ) (x : Text) (p : ℕ) (f : Frame) (r : Ref) → z.names.constant_named x ≡ Ok r → named_answer z s text d x p None f ≡ made_answer z s text p (Const r) f
constant_named_is z s text d x p f r e = ap (λ (q : Result Ref Code). from_name (place_in text p) q >>= (λ r. made_answer z s text p (Const r) f)) e

pub constant_row : (k c : Known) (text : Sources) (h : Here) (x : Text) (p r : ℕ) (f : Frame) (res : Result Next ElabFault) → k.names.constant_named x ≡ Ok (ref_at k.stored r)
    → Steps k c text h (made_answer (site_in k text h) k.stored text p (node_tree k.stored (node.Const r)) f) res → Steps k c text h (named_answer (site_in k text h) k.stored text h.depth x p None f) res
constant_row k c text h x p r f res e s = steps_same k c text h _ _ res (constant_named_is (site_in k text h) k.stored text h.depth x p f (ref_at k.stored r) (named_at_site k text h x (ref_at k.stored r) e)) s

pub constant_unknown : (k : Known) (text : Sources) (h : Here) (d : ℕ) (x : Text) (p : ℕ) (f : Frame) (c : Code) → k.names.constant_named x ≡ Err c
    → Failed k k (named_answer (site_in k text h) k.stored text d x p None f) (fault_at (place_in text p) c)
unfolding site_in
constant_unknown k text h d x p f c e =
    record { kept = grows_none k; is = ap (λ (q : Result Ref Code). from_name (place_in text p) q >>= (λ r. made_answer (site_in k text h) k.stored text p (Const r) f)) e }

-- What typing says of the term.

pub inferred_follows : {a b : Known} (text : Sources) (h : Here) (at t i : ℕ) → Grows a b → known.IsTermOf a t → IsTypeOf b i
    → Accepts (infer a.lookups (context_at a.stored h.context.items) (tree_at a.stored t)) (tree_at b.stored i)
    → Follows a b text h (name_answer (site_in a text h) a.stored text name.Infer at (Term (tree_at a.stored t))) (given (value.Typed (record { tree = t; ty = i })) frame.Same)
unfolding site_in
inferred_follows {a} {b} text h at t i g n m x = record {
  kept = g;
  known = record { entrance = tt; control = (number_stays g n, (m, tt)); frame = tt };
  is = ap (λ (o : Outcome Tree). typed_answer (from_outcome (place_in text at) o >>= (λ u. Ok (record { tree = tree_at a.stored t; ty = u })))) x.2 ∙ ap (λ (u : Tree). Ok (Typed (record { tree = u; ty = tree_at b.stored i }))) (sym (tree_stays g n));
}

pub inference_failed : {a b : Known} (text : Sources) (h : Here) (at t : ℕ) (e : TypeFault) → Grows a b → IsFault (infer a.lookups (context_at a.stored h.context.items) (tree_at a.stored t)) e
    → Failed a b (name_answer (site_in a text h) a.stored text name.Infer at (Term (tree_at a.stored t))) (fault_of (place_in text at) (place_in text at) e)
unfolding site_in
inference_failed {a} text h at t e g x =
    failed_then (λ (u : TypedTree). Ok (Typed u)) (fault_of (place_in text at) (place_in text at) e) (typing_failed (place_in text at) (place_in text at) _ (λ (u : Tree). Ok (record { tree = tree_at a.stored t; ty = u })) e g x)

pub checked_follows : {a b : Known} (text : Sources) (h : Here) (at u t : ℕ) → Grows a b → known.IsTermOf a t
    → Accepts (check a.lookups (context_at a.stored h.context.items) (tree_at a.stored t) (tree_at a.stored u)) tt
    → Follows a b text h (name_answer (site_in a text h) a.stored text (name.Check u) at (Term (tree_at a.stored t))) (given (value.Term t) frame.Same)
unfolding site_in
checked_follows {a} {b} text h at u t g n x = record {
  kept = g;
  known = record { entrance = tt; control = (number_stays g n, tt); frame = tt };
  is = ap (λ (o : Outcome (Unit {0})). term_answer (from_outcome (place_in text at) o >>= (λ _. Ok (tree_at a.stored t)))) x.2 ∙ ap (λ (u : Tree). Ok (Term u)) (sym (tree_stays g n));
}

pub check_failed : {a b : Known} (text : Sources) (h : Here) (at u t : ℕ) (e : TypeFault) → Grows a b → IsFault (check a.lookups (context_at a.stored h.context.items) (tree_at a.stored t) (tree_at a.stored u)) e
    → Failed a b (name_answer (site_in a text h) a.stored text (name.Check u) at (Term (tree_at a.stored t))) (fault_of (place_in text at) (place_in text at) e)
unfolding site_in
check_failed {a} text h at u t e g x =
    failed_then (λ (u : Tree). Ok (Term u)) (fault_of (place_in text at) (place_in text at) e) (typing_failed (place_in text at) (place_in text at) _ (λ _. Ok (tree_at a.stored t)) e g x)

pub accepted_follows : {a b : Known} (text : Sources) (h : Here) (at t : ℕ) → Grows a b → IsTypeOf a t
    → Accepts (well_formed a.lookups (context_at a.stored h.context.items) (tree_at a.stored t)) tt
    → Follows a b text h (name_answer (site_in a text h) a.stored text name.Formed at (Formed (tree_at a.stored t))) (given (value.Formed t) frame.Same)
unfolding site_in
accepted_follows {a} {b} text h at t g n x = record {
  kept = g;
  known = record { entrance = tt; control = (number_stays g n, tt); frame = tt };
  is = ap (λ (o : Outcome (Unit {0})). formed_answer (from_outcome (place_in text at) o >>= (λ _. Ok (tree_at a.stored t)))) x.2 ∙ ap (λ (u : Tree). Ok (Formed u)) (sym (tree_stays g n));
}

pub type_not_accepted : {a b : Known} (text : Sources) (h : Here) (at t : ℕ) (e : TypeFault) → Grows a b → IsFault (well_formed a.lookups (context_at a.stored h.context.items) (tree_at a.stored t)) e
    → Failed a b (name_answer (site_in a text h) a.stored text name.Formed at (Formed (tree_at a.stored t))) (fault_of (place_in text at) (place_in text at) e)
unfolding site_in
type_not_accepted {a} text h at t e g x =
    failed_then (λ (u : Tree). Ok (Formed u)) (fault_of (place_in text at) (place_in text at) e) (typing_failed (place_in text at) (place_in text at) _ (λ _. Ok (tree_at a.stored t)) e g x)

-- Names of types.

pub bool_follows : {k : Known} (text : Sources) (h : Here) (x : Text) (p : ℕ) → IsHere k h → is_bool x ≡ true
    → Follows k k text h (asked_at (site_in k text h) k.stored text mode.Formed (phrase.Name x (place_in text p))) (given (value.Formed h.truth) frame.Same)
unfolding site_in
bool_follows {k} text h x p i e =
    follows_at_once text h _ _ (record { entrance = tt; control = (i.truth, tt); frame = tt })
    (ap (λ (b : Bool). formed_answer (if b then Ok TBool else named_type k.lookups k.names x (place_in text p) (site_in k text h).here)) e ∙ ap (λ (u : Tree). Ok (Formed u)) (sym i.is_truth))

not_bool : (k : Known) (text : Sources) (h : Here) (x : Text) (p : ℕ) → is_bool x ≡ false
    → asked_at (site_in k text h) k.stored text mode.Formed (phrase.Name x (place_in text p)) ≡ formed_answer (named_type k.lookups k.names x (place_in text p) (site_in k text h).here)
unfolding site_in
not_bool k text h x p e = ap (λ (b : Bool). formed_answer (if b then Ok TBool else named_type k.lookups k.names x (place_in text p) (site_in k text h).here)) e

pub type_named_is : (k : Known) (text : Sources) (h : Here) (x : Text) (p : ℕ) (r : Ref) → is_bool x ≡ false → k.names.type_named x ≡ Ok r
    → asked_at (site_in k text h) k.stored text mode.Formed (phrase.Name x (place_in text p)) ≡ made_type_answer (site_in k text h) k.stored text p (TName r) (frame.Name name.Formed p)
unfolding site_in
type_named_is k text h x p r e d =
    let z = site_in k text h in
    not_bool k text h x p e
    ∙ ap (λ (q : Result Ref Code). formed_answer (from_name (place_in text p) q >>= (λ r. within_limits_at (place_in text p) (TName r) >>= accepted_at z (place_in text p)))) d
    ∙ then_same (within_limits_at (place_in text p) (TName r)) (accepted_at z (place_in text p)) (λ (u : Tree). Ok (Formed u))

pub type_named_row : (k c : Known) (text : Sources) (h : Here) (x : Text) (p r : ℕ) (res : Result Next ElabFault) → is_bool x ≡ false → k.names.type_named x ≡ Ok (ref_at k.stored r)
    → Steps k c text h (made_type_answer (site_in k text h) k.stored text p (node_tree k.stored (node.TName r)) (frame.Name name.Formed p)) res
    → Steps k c text h (asked_at (site_in k text h) k.stored text mode.Formed (phrase.Name x (place_in text p))) res
type_named_row k c text h x p r res e d s = steps_same k c text h _ _ res (type_named_is k text h x p (ref_at k.stored r) e d) s

pub type_unknown : (k : Known) (text : Sources) (h : Here) (x : Text) (p : ℕ) (c : Code) → is_bool x ≡ false → k.names.type_named x ≡ Err c
    → Failed k k (asked_at (site_in k text h) k.stored text mode.Formed (phrase.Name x (place_in text p))) (fault_at (place_in text p) c)
unfolding site_in
type_unknown k text h x p c e d = record {
  kept = grows_none k;
  is = not_bool k text h x p e ∙ ap (λ (q : Result Ref Code). formed_answer (from_name (place_in text p) q >>= (λ r. within_limits_at (place_in text p) (TName r) >>= accepted_at (site_in k text h) (place_in text p)))) d;
}

-- The type of a VAR.

pub variable_follows : {k : Known} (text : Sources) (h : Here) (x : Text) (p i : ℕ) → IsTypeOf k i → IsVariable k.stored k.names x i
    → Follows k k text h (asked_at (site_in k text h) k.stored text mode.Formed (phrase.TypeOf x (place_in text p))) (given (value.Formed i) (frame.Name name.Formed p))
unfolding site_in
variable_follows {k} text h x p i n v =
    let z = site_in k text h in
    follows_at_once text h _ _ (record { entrance = tt; control = (n, tt); frame = tt })
    (ap (λ (q : Result named.TypedVariable Code). formed_answer (from_name (place_in text p) q >>= (λ v. within_limits_at (place_in text p) v.ty >>= accepted_at z (place_in text p)))) v.is
    ∙ ap (λ (q : Answer Tree). formed_answer (q >>= accepted_at z (place_in text p))) (within_limits_made (place_in text p) (tree_at k.stored i) v.fits))

pub variable_unknown : (k : Known) (text : Sources) (h : Here) (x : Text) (p : ℕ) (c : Code) → k.names.variable_named x ≡ Err c
    → Failed k k (asked_at (site_in k text h) k.stored text mode.Formed (phrase.TypeOf x (place_in text p))) (fault_at (place_in text p) c)
unfolding site_in
variable_unknown k text h x p c e = record {
  kept = grows_none k;
  is = ap (λ (q : Result named.TypedVariable Code). formed_answer (from_name (place_in text p) q >>= (λ v. within_limits_at (place_in text p) v.ty >>= accepted_at (site_in k text h) (place_in text p)))) e;
}
