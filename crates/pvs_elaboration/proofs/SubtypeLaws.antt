-- The rows of predicate subtypes, and of predicates as types.
use Rattle.std.proofs.Common.{◌≡◌, ℕ, List, refl, sym, ◌∙◌, ap, arith}
use Rattle.std.specs.Prelude.{Result, Ok}
use Rattle.pvs_base.specs.Answers.{◌>>=◌}
use Rattle.pvs_base.specs.declared.place.Pos.{Pos}
use Rattle.pvs_base.specs.declared.code.Code.{Code}
use Rattle.pvs_base.specs.declared.code.Code.TheVariants as code
use Rattle.pvs_terms.specs.declared.shape.Sort.TheVariants.{OfTerm}
use Rattle.pvs_terms.specs.Tree.{Tree, Ref, Var, TBool, TSub, TFun, App, IsWithinLimits}
use Rattle.pvs_terms.specs.declared.node.Node.TheVariants as node
use Rattle.pvs_terms.specs.Stored.{tree_at, node_tree}
use Rattle.pvs_subst.specs.Replace.{lift}
use Rattle.pvs_types.specs.Outcome.{Outcome, Refused, Accepted, Conditions, outcome_after, from_result}
use Rattle.pvs_types.specs.Outcome as outcome
use Rattle.pvs_types.specs.Forms.{head}
use Rattle.pvs_types.specs.Coerce.{lift_one}
use Rattle.pvs_typing.specs.Answers.{Gives, IsRefusal}
use Rattle.pvs_typing.specs.declared.fault.TypeFault.{TypeFault}
use Rattle.pvs_elab.specs.Answer.{Answer, within_limits_at, from_outcome, place_of_code}
use Rattle.pvs_elab.specs.Phrase.{Phrase, place}
use Rattle.pvs_elab.specs.Phrase as phrase
use Rattle.pvs_elab.specs.Elab.{under_name, domain_if, domain_of}
use Rattle.pvs_elaboration.specs.declared.fault.ElabFault.{ElabFault}
use Rattle.pvs_elaboration.specs.declared.here.Here.{Here}
use Rattle.pvs_elaboration.specs.declared.here.Typed as here
use Rattle.pvs_elaboration.specs.declared.value.Mode.TheVariants as mode
use Rattle.pvs_elaboration.specs.declared.value.Value.TheVariants as value
use Rattle.pvs_elaboration.specs.declared.binder.Binding.{Binding}
use Rattle.pvs_elaboration.specs.declared.names.NameRow.TheVariants as name
use Rattle.pvs_elaboration.specs.declared.subtypes.SubtypeRow.TheVariants as subtype
use Rattle.pvs_elaboration.specs.declared.subtypes.PredicateRow.TheVariants as predicate
use Rattle.pvs_elaboration.specs.declared.frame.Frame.TheVariants as frame
use Rattle.pvs_elaboration.specs.declared.frame.Next.{Next}
use Rattle.pvs_elaboration.specs.Known.{Sources, phrase_at, place_in, word_at, Known, Grows, Site, site_in, IsHere, IsTypeOf, IsTermOf, Failed}
use Rattle.pvs_elaboration.specs.Meanings.{Typed, Term, Formed, typed_at, typed_answer, formed_answer, on_typed, fault_of, fault_at, elab_at}
use Rattle.pvs_elaboration.specs.Names.{accepted_at}
use Rattle.pvs_elaboration.specs.Subtypes.{subtype_tree, subtype_answer, predicate_application, predicate_lifted, predicate_subtype, predicate_range, predicate_head, predicate_type, predicate_answer}
use Rattle.pvs_elaboration.specs.Machine.{asked_at, made_answer, made_type_answer, Follows, Steps}
use Rattle.pvs_elaboration.proofs.KnownLaws.{grows_none, within_limits_made, large_failed}
use Rattle.pvs_elaboration.proofs.MachineLaws.{then_typed, then_term, then_same, then_two, failed_same}
use Rattle.pvs_elaboration.proofs.StepLaws.{given, given_follows, follows_at_once, follows_same, steps_same, type_found, type_refused as refused_type}
use Rattle.pvs_elaboration.proofs.AskLaws.{asked_then, elab_place}
use Rattle.pvs_elaboration.proofs.BinderLaws.{asked_below, part_first}

-- A predicate subtype: after the type of the variable, the predicate is asked.

pub subtype_follows : {k : Known} (text : Sources) (h : Here) (o : Binding) (c : ℕ) → IsHere k h → IsTypeOf k c
    → Follows k k text h (subtype_answer (site_in k text h) k.stored text subtype.Type o (Formed (tree_at k.stored c))) (asked_below o c (mode.Check h.truth) (frame.Subtype (subtype.Predicate c) o))
subtype_follows {k} text h o c i n =
    let z = site_in k text h in
    let p = elab_at z text o.body in
    let there = under_name (word_at text o.name) (tree_at k.stored c) z.here in
    follows_at_once text h _ _ (record { entrance = (n, tt); control = (i.truth, tt); frame = (n, tt) })
    (ap (λ (u : Tree). (p.check there p.place u >>= subtype_tree (place_in text o.at) (tree_at k.stored c)) >>= (λ (t : Tree). Ok (Formed t))) (sym i.is_truth)
    ∙ then_term (p.check there p.place (tree_at k.stored h.truth)) (subtype_tree (place_in text o.at) (tree_at k.stored c)) (λ (t : Tree). Ok (Formed t)))

pub predicate_row : (k j : Known) (text : Sources) (h : Here) (o : Binding) (c q : ℕ) (res : Result Next ElabFault)
    → Steps k j text h (made_type_answer (site_in k text h) k.stored text o.at (node_tree k.stored (node.TSub c q)) frame.Same) res
    → Steps k j text h (subtype_answer (site_in k text h) k.stored text (subtype.Predicate c) o (Term (tree_at k.stored q))) res
predicate_row k j text h o c q res s = steps_same k j text h _ _ res refl s

-- A predicate as a type: the predicate is asked first.

pub predicate_asked : {k : Known} (text : Sources) (h : Here) (q start at : ℕ) → place_in text start ≡ place (phrase_at text q)
    → Follows k k text h (asked_at (site_in k text h) k.stored text mode.Formed (phrase.Predicate (phrase_at text q) (place_in text at))) (asked_then q mode.Infer (frame.Predicate predicate.Type start at))
unfolding site_in
predicate_asked {k} text h q start at p =
    let z = site_in k text h in
    let e = elab_at z text q in
    follows_at_once text h _ _ (record { entrance = tt; control = tt; frame = tt })
    (then_typed (e.infer z.here) (predicate_type z e.place (place_in text at)) (λ (t : Tree). Ok (Formed t))
    ∙ ap (λ (i : Pos). typed_answer (e.infer z.here) >>= on_typed (λ c. formed_answer (predicate_type z i (place_in text at) c))) (elab_place k.lookups k.names (phrase_at text q) ∙ sym p))

-- parentheses stand for the predicate in them, where a type is asked
pub group_formed : {k : Known} (text : Sources) (h : Here) (q start at : ℕ) → place_in text start ≡ place (phrase_at text q)
    → Follows k k text h (asked_at (site_in k text h) k.stored text mode.Formed (phrase.Group (phrase_at text q) (place_in text at))) (asked_then q mode.Infer (frame.Predicate predicate.Type start at))
group_formed text h q start at p = predicate_asked text h q start at p

-- the head of its type

pub type_follows : {a b : Known} (text : Sources) (h : Here) (start at : ℕ) (c : here.Typed) (i : ℕ) → Grows a b → IsHere a h → IsTermOf a c.tree → IsTypeOf b i
    → head a.lookups (tree_at a.stored c.ty) ≡ Ok (tree_at b.stored i)
    → Follows a b text h (predicate_answer (site_in a text h) a.stored text predicate.Type start at (Typed (typed_at a.stored c))) (given (value.Formed i) (frame.Predicate (predicate.Head c.tree) start at))
unfolding site_in
type_follows {a} text h start at c i g n m t e =
    let z = site_in a text h in
    type_found text h (place_in text start) (head a.lookups (tree_at a.stored c.ty)) (predicate_head z (place_in text start) (place_in text at) (tree_at a.stored c.tree)) (λ (t : Tree). Ok (Formed t)) (frame.Predicate (predicate.Head c.tree) start at) i g n (m, tt) t e (λ t. refl)

pub type_refused : {a b : Known} (text : Sources) (h : Here) (start at : ℕ) (c : here.Typed) (e : TypeFault) → Grows a b → IsRefusal (head a.lookups (tree_at a.stored c.ty)) e
    → Failed a b (predicate_answer (site_in a text h) a.stored text predicate.Type start at (Typed (typed_at a.stored c))) (fault_of (place_in text start) (place_in text start) e)
unfolding site_in
type_refused {a} text h start at c e g x =
    let z = site_in a text h in
    refused_type (place_in text start) (head a.lookups (tree_at a.stored c.ty)) (predicate_head z (place_in text start) (place_in text at) (tree_at a.stored c.tree)) (λ (t : Tree). Ok (Formed t)) e g x

-- the head of its range

outcome_of : {A : Type 0} (at : Pos) (cs : Conditions) (rs : List Ref) (o : Outcome A) → from_outcome at (outcome_after cs rs o) ≡ from_outcome at o
outcome_of at cs rs (Refused c) = refl
outcome_of at cs rs (Accepted a ds ss) = refl

outcome_then : {A B : Type 0} (at : Pos) (o : Outcome A) (f : A → Outcome B) → from_outcome at (outcome.◌>>=◌ o f) ≡ (from_outcome at o >>= (λ a. from_outcome at (f a)))
outcome_then at (Refused c) f = refl
outcome_then at (Accepted a cs rs) f = outcome_of at cs rs (f a)

-- of a function type
function_head : (z : Site) (start at : Pos) (p a b : Tree) → predicate_head z start at p (TFun a b) ≡ (from_outcome start (from_result (head z.lookups b)) >>= predicate_range z start at p a)
function_head z start at p a b =
    ap (λ (r : Answer Tree). r >>= predicate_subtype z at p) (outcome_then start (from_result (head z.lookups b)) (domain_if a))
    ∙ then_two (from_outcome start (from_result (head z.lookups b))) (λ c. from_outcome start (domain_if a c)) (predicate_subtype z at p)

pub head_follows : {a b : Known} (text : Sources) (h : Here) (start at p d x y i : ℕ) → Grows a b → IsHere a h → IsTermOf a p → IsTypeOf a x → IsTypeOf b i → tree_at a.stored d ≡ node_tree a.stored (node.TFun x y)
    → head a.lookups (tree_at a.stored y) ≡ Ok (tree_at b.stored i)
    → Follows a b text h (predicate_answer (site_in a text h) a.stored text (predicate.Head p) start at (Formed (tree_at a.stored d))) (given (value.Formed i) (frame.Predicate (predicate.Range p x) start at))
unfolding site_in
head_follows {a} text h start at p d x y i g n m r t e v =
    let z = site_in a text h in
    follows_same text h _ _ _
    (ap (λ (q : Tree). formed_answer (predicate_head z (place_in text start) (place_in text at) (tree_at a.stored p) q)) e
    ∙ ap formed_answer (function_head z (place_in text start) (place_in text at) (tree_at a.stored p) (tree_at a.stored x) (tree_at a.stored y)))
    (type_found text h (place_in text start) (head a.lookups (tree_at a.stored y)) (predicate_range z (place_in text start) (place_in text at) (tree_at a.stored p) (tree_at a.stored x)) (λ (t : Tree). Ok (Formed t)) (frame.Predicate (predicate.Range p x) start at) i g n (m, (r, tt)) t v (λ t. refl))

pub head_refused : {a b : Known} (text : Sources) (h : Here) (start at p d x y : ℕ) (e : TypeFault) → Grows a b → tree_at a.stored d ≡ node_tree a.stored (node.TFun x y) → IsRefusal (head a.lookups (tree_at a.stored y)) e
    → Failed a b (predicate_answer (site_in a text h) a.stored text (predicate.Head p) start at (Formed (tree_at a.stored d))) (fault_of (place_in text start) (place_in text start) e)
unfolding site_in
head_refused {a} text h start at p d x y e g v w =
    let z = site_in a text h in
    failed_same _ _ (fault_of (place_in text start) (place_in text start) e)
    (ap (λ (q : Tree). formed_answer (predicate_head z (place_in text start) (place_in text at) (tree_at a.stored p) q)) v
    ∙ ap formed_answer (function_head z (place_in text start) (place_in text at) (tree_at a.stored p) (tree_at a.stored x) (tree_at a.stored y)))
    (refused_type (place_in text start) (head a.lookups (tree_at a.stored y)) (predicate_range z (place_in text start) (place_in text at) (tree_at a.stored p) (tree_at a.stored x)) (λ (t : Tree). Ok (Formed t)) e g w)

pub not_a_function : (k : Known) (text : Sources) (h : Here) (start at p : ℕ) (t : Tree) (e : Code) → domain_of k.lookups t ≡ Refused e
    → Failed k k (predicate_answer (site_in k text h) k.stored text (predicate.Head p) start at (Formed t)) (fault_at (place_of_code (place_in text start) (place_in text start) e) e)
unfolding site_in
not_a_function k text h start at p t e x = record {
  kept = grows_none k;
  is = ap (λ (q : Outcome Tree). formed_answer (from_outcome (place_in text start) q >>= predicate_subtype (site_in k text h) (place_in text at) (tree_at k.stored p))) x;
}

-- the predicate under a variable of its domain

applied_fits : (p : Tree) → IsWithinLimits (App p (Var 0)) → IsWithinLimits p
applied_fits p h = record { deep = omega (arith, h.deep); large = omega (arith, h.large); index = omega (arith, h.index) }

subtype_fits : (a q : Tree) → IsWithinLimits (TSub a q) → IsWithinLimits q
subtype_fits a q h = record { deep = omega (arith, h.deep); large = omega (arith, h.large); index = omega (arith, h.index) }

-- a subtype is made of its predicate, which is an application
predicate_parts : (z : Site) (at : Pos) (p a : Tree) → formed_answer (predicate_subtype z at p a) ≡ (within_limits_at at (lift_one p) >>= (λ q. formed_answer (predicate_lifted z at a q)))
predicate_parts z at p a =
    let q = lift_one p in
    let t = App q (Var 0) in
    let same = then_same (within_limits_at at (TSub a t)) (accepted_at z at) (λ (c : Tree). Ok (Formed c)) in
    same ∙ part_first at q (TSub a t) (λ c. formed_answer (accepted_at z at c)) (λ l. formed_answer (predicate_lifted z at a l)) (λ w. applied_fits q (subtype_fits a t w))
    (part_first at t (TSub a t) (λ c. formed_answer (accepted_at z at c)) (λ l. formed_answer (predicate_application z at a l)) (subtype_fits a t) (sym same)
    ∙ sym (then_same (within_limits_at at t) (predicate_application z at a) (λ (c : Tree). Ok (Formed c))))

pub range_follows : {a b : Known} (text : Sources) (h : Here) (start at p d r i : ℕ) → Grows a b → IsHere a h → IsTypeOf a d → tree_at a.stored r ≡ TBool → Gives b.stored b.declares OfTerm (lift (tree_at a.stored p) 1 0) i
    → Follows a b text h (predicate_answer (site_in a text h) a.stored text (predicate.Range p d) start at (Formed (tree_at a.stored r))) (given (value.Term i) (frame.Predicate (predicate.Lifted d) start at))
range_follows {a} {b} text h start at p d r i g n m e s =
    let z = site_in a text h in
    follows_same text h _ _ _
    (ap (λ (q : Tree). formed_answer (predicate_range z (place_in text start) (place_in text at) (tree_at a.stored p) (tree_at a.stored d) q)) e
    ∙ predicate_parts z (place_in text at) (tree_at a.stored p) (tree_at a.stored d))
    (given_follows text h (within_limits_at (place_in text at) (lift_one (tree_at a.stored p))) (lift_one (tree_at a.stored p)) Term (value.Term i) (frame.Predicate (predicate.Lifted d) start at) g n (m, tt) (s.known, tt)
    (within_limits_made (place_in text at) (lift_one (tree_at a.stored p)) s.fits) (ap Term (sym s.tree)))

pub range_large : {a b : Known} (text : Sources) (h : Here) (start at p d r : ℕ) → Grows a b → tree_at a.stored r ≡ TBool → ¬ IsWithinLimits (lift (tree_at a.stored p) 1 0)
    → Failed a b (predicate_answer (site_in a text h) a.stored text (predicate.Range p d) start at (Formed (tree_at a.stored r))) (fault_at (place_in text at) code.TooLarge)
range_large {a} text h start at p d r g e w =
    let z = site_in a text h in
    failed_same _ _ (fault_at (place_in text at) code.TooLarge)
    (ap (λ (q : Tree). formed_answer (predicate_range z (place_in text start) (place_in text at) (tree_at a.stored p) (tree_at a.stored d) q)) e
    ∙ predicate_parts z (place_in text at) (tree_at a.stored p) (tree_at a.stored d))
    (large_failed (place_in text at) (lift_one (tree_at a.stored p)) (λ q. formed_answer (predicate_lifted z (place_in text at) (tree_at a.stored d) q)) g w)

pub not_a_predicate : (k : Known) (text : Sources) (h : Here) (start at p d : ℕ) (t : Tree) (e : Code) → domain_if (tree_at k.stored d) t ≡ Refused e
    → Failed k k (predicate_answer (site_in k text h) k.stored text (predicate.Range p d) start at (Formed t)) (fault_at (place_of_code (place_in text start) (place_in text start) e) e)
not_a_predicate k text h start at p d t e x = record {
  kept = grows_none k;
  is = ap (λ (q : Outcome Tree). formed_answer (from_outcome (place_in text start) q >>= predicate_subtype (site_in k text h) (place_in text at) (tree_at k.stored p))) x;
}

-- the trees that are made

pub lifted_row : (k j : Known) (text : Sources) (h : Here) (start at d p : ℕ) (res : Result Next ElabFault) → IsHere k h
    → Steps k j text h (made_answer (site_in k text h) k.stored text at (node_tree k.stored (node.App p h.variable)) (frame.Predicate (predicate.Application d) start at)) res
    → Steps k j text h (predicate_answer (site_in k text h) k.stored text (predicate.Lifted d) start at (Term (tree_at k.stored p))) res
lifted_row k j text h start at d p res i t =
    let z = site_in k text h in
    steps_same k j text h _ _ res
    (then_same (within_limits_at (place_in text at) (App (tree_at k.stored p) (Var 0))) (predicate_application z (place_in text at) (tree_at k.stored d)) (λ (c : Tree). Ok (Formed c))
    ∙ ap (λ (u : Tree). within_limits_at (place_in text at) (App (tree_at k.stored p) u) >>= (λ t. formed_answer (predicate_application z (place_in text at) (tree_at k.stored d) t))) (sym i.is_variable)) t

pub application_row : (k j : Known) (text : Sources) (h : Here) (start at d t : ℕ) (res : Result Next ElabFault)
    → Steps k j text h (made_type_answer (site_in k text h) k.stored text at (node_tree k.stored (node.TSub d t)) (frame.Name name.Formed at)) res
    → Steps k j text h (predicate_answer (site_in k text h) k.stored text (predicate.Application d) start at (Term (tree_at k.stored t))) res
application_row k j text h start at d t res s =
    let z = site_in k text h in
    steps_same k j text h _ _ res (then_same (within_limits_at (place_in text at) (TSub (tree_at k.stored d) (tree_at k.stored t))) (accepted_at z (place_in text at)) (λ (c : Tree). Ok (Formed c))) s
