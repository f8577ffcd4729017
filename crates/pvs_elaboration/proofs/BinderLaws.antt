-- The rows of binders of one variable.
use Rattle.std.proofs.Common.{◌≡◌, ℕ, Bool, true, false, refl, sym, ◌∙◌, ap, arith}
use Rattle.std.specs.Prelude.{Result, Ok}
use Rattle.pvs_base.specs.Answers.{◌>>=◌}
use Rattle.pvs_base.specs.declared.place.Pos.{Pos}
use Rattle.pvs_terms.specs.Tree.{Tree, TBool, True, TFun, Lam, Eq, IsWithinLimits}
use Rattle.pvs_terms.specs.declared.node.Node.TheVariants as node
use Rattle.pvs_terms.specs.Stored.{tree_at, node_tree}
use Rattle.pvs_types.specs.Limits.{is_within_limits}
use Rattle.pvs_types.proofs.LimitsLaws.{limits_decided}
use Rattle.pvs_elab.specs.Answer.{Answer, within_limits_at}
use Rattle.pvs_elab.specs.Elab.{TypedTree, universal, under_name}
use Rattle.pvs_elaboration.specs.declared.fault.ElabFault.{ElabFault}
use Rattle.pvs_elaboration.specs.declared.here.Here.{Here}
use Rattle.pvs_elaboration.specs.declared.here.Typed as here
use Rattle.pvs_elaboration.specs.declared.value.Mode.{Mode}
use Rattle.pvs_elaboration.specs.declared.value.Mode.TheVariants as mode
use Rattle.pvs_elaboration.specs.declared.value.Value.TheVariants as value
use Rattle.pvs_elaboration.specs.declared.binder.Binding.{Binding}
use Rattle.pvs_elaboration.specs.declared.binder.BinderRow.TheVariants as binder
use Rattle.pvs_elaboration.specs.declared.frame.Frame.{Frame}
use Rattle.pvs_elaboration.specs.declared.frame.Frame.TheVariants as frame
use Rattle.pvs_elaboration.specs.declared.frame.Control.TheVariants as control
use Rattle.pvs_elaboration.specs.declared.frame.Entrance.TheVariants as entrance
use Rattle.pvs_elaboration.specs.declared.frame.Next.{Next}
use Rattle.pvs_elaboration.specs.Known.{Sources, place_in, word_at, Known, site_in, IsHere, IsTypeOf}
use Rattle.pvs_elaboration.specs.Meanings.{Typed, Term, Formed, Done, typed_at, typed_answer, elab_at}
use Rattle.pvs_elaboration.specs.Binder.{all_equation, all_predicate, all_body, lambda_tree, lambda_body, function_range, binder_answer}
use Rattle.pvs_elaboration.specs.Machine.{made_answer, made_type_answer, Follows, Steps}
use Rattle.pvs_elaboration.proofs.KnownLaws.{within_limits_made, beyond_limits}
use Rattle.pvs_elaboration.proofs.MachineLaws.{then_typed, then_term, then_formed, then_same}
use Rattle.pvs_elaboration.proofs.StepLaws.{given, follows_at_once, steps_same}

-- what asks the body, under the variable
abbrev pub asked_below : Binding → ℕ → Mode → Frame → Next
asked_below o c m f = record { entrance = entrance.Variable o.name c; control = control.Ask o.body m; frame = f }

-- after the type of the variable, the body is asked

pub all_follows : {k : Known} (text : Sources) (h : Here) (o : Binding) (c : ℕ) → IsHere k h → IsTypeOf k c
    → Follows k k text h (binder_answer (site_in k text h) k.stored text binder.All o (Formed (tree_at k.stored c))) (asked_below o c (mode.Check h.truth) (frame.Binder (binder.AllBody c) o))
all_follows {k} text h o c i n =
    let z = site_in k text h in
    let p = elab_at z text o.body in
    let there = under_name (word_at text o.name) (tree_at k.stored c) z.here in
    follows_at_once text h _ _ (record { entrance = (n, tt); control = (i.truth, tt); frame = (n, tt) })
    (ap (λ (u : Tree). (p.check there p.place u >>= all_body (place_in text o.at) (tree_at k.stored c)) >>= (λ (t : TypedTree). Ok (Typed t))) (sym i.is_truth)
    ∙ then_term (p.check there p.place (tree_at k.stored h.truth)) (all_body (place_in text o.at) (tree_at k.stored c)) (λ (t : TypedTree). Ok (Typed t)))

pub lambda_follows : {k : Known} (text : Sources) (h : Here) (o : Binding) (c : ℕ) → IsTypeOf k c
    → Follows k k text h (binder_answer (site_in k text h) k.stored text binder.Lambda o (Formed (tree_at k.stored c))) (asked_below o c mode.Infer (frame.Binder (binder.LambdaBody c) o))
lambda_follows {k} text h o c n =
    let z = site_in k text h in
    follows_at_once text h _ _ (record { entrance = (n, tt); control = tt; frame = (n, tt) })
    (then_typed ((elab_at z text o.body).infer (under_name (word_at text o.name) (tree_at k.stored c) z.here)) (lambda_body (place_in text o.at) (tree_at k.stored c)) (λ (t : TypedTree). Ok (Typed t)))

pub predicate_body_follows : {k : Known} (text : Sources) (h : Here) (o : Binding) (c : ℕ) → IsHere k h → IsTypeOf k c
    → Follows k k text h (binder_answer (site_in k text h) k.stored text binder.Predicate o (Formed (tree_at k.stored c))) (asked_below o c (mode.Check h.truth) (frame.Binder binder.PredicateBody o))
predicate_body_follows {k} text h o c i n =
    let z = site_in k text h in
    let p = elab_at z text o.body in
    let there = under_name (word_at text o.name) (tree_at k.stored c) z.here in
    follows_at_once text h _ _ (record { entrance = (n, tt); control = (i.truth, tt); frame = tt })
    (ap (λ (u : Tree). (p.check there p.place u >>= (λ (t : Tree). Ok tt)) >>= (λ (t : Unit {0}). Ok Done)) (sym i.is_truth)
    ∙ then_term (p.check there p.place (tree_at k.stored h.truth)) (λ (t : Tree). Ok tt) (λ (t : Unit {0}). Ok Done))

pub predicate_done : {k : Known} (text : Sources) (h : Here) (o : Binding) (t : ℕ)
    → Follows k k text h (binder_answer (site_in k text h) k.stored text binder.PredicateBody o (Term (tree_at k.stored t))) (given value.Done frame.Same)
predicate_done text h o t = follows_at_once text h _ _ (record { entrance = tt; control = tt; frame = tt }) refl

pub function_range_follows : {k : Known} (text : Sources) (h : Here) (o : Binding) (c : ℕ) → IsTypeOf k c
    → Follows k k text h (binder_answer (site_in k text h) k.stored text binder.Function o (Formed (tree_at k.stored c))) (asked_below o c mode.Formed (frame.Binder (binder.Range c) o))
function_range_follows {k} text h o c n =
    let z = site_in k text h in
    follows_at_once text h _ _ (record { entrance = (n, tt); control = tt; frame = (n, tt) })
    (then_formed ((elab_at z text o.body).formed (under_name (word_at text o.name) (tree_at k.stored c) z.here)) (function_range (place_in text o.at) (tree_at k.stored c)) (λ (t : Tree). Ok (Formed t)))

-- A tree is within the limits only if its parts are.

part_by : {A : Type 0} (b : Bool) (at : Pos) (u t : Tree) (f g : Tree → Answer A) → is_within_limits u ≡ b → (IsWithinLimits t → IsWithinLimits u) → (within_limits_at at t >>= f) ≡ g u
    → (within_limits_at at t >>= f) ≡ (within_limits_at at u >>= g)
part_by {A} true at u t f g e h d = d ∙ sym (ap (λ (r : Answer Tree). r >>= g) (within_limits_made at u ((limits_decided u).0 e)))
part_by {A} false at u t f g e h d =
    let n : IsWithinLimits u → ⊥ = λ x. not_true (sym e ∙ (limits_decided u).1 x) in
    ap (λ (r : Answer Tree). r >>= f) (beyond_limits at t (λ x. n (h x))) ∙ sym (ap (λ (r : Answer Tree). r >>= g) (beyond_limits at u n))
  where
    not_true : false ≡ true → ⊥
    not_true e = cc

pub part_first : {A : Type 0} (at : Pos) (u t : Tree) (f g : Tree → Answer A) → (IsWithinLimits t → IsWithinLimits u) → (within_limits_at at t >>= f) ≡ g u
    → (within_limits_at at t >>= f) ≡ (within_limits_at at u >>= g)
part_first at u t f g h d = part_by (is_within_limits u) at u t f g refl h d

left_fits : (l r : Tree) → IsWithinLimits (Eq l r) → IsWithinLimits l
left_fits l r h = record { deep = omega (arith, h.deep); large = omega (arith, h.large); index = omega (arith, h.index) }

right_fits : (l r : Tree) → IsWithinLimits (Eq l r) → IsWithinLimits r
right_fits l r h = record { deep = omega (arith, h.deep); large = omega (arith, h.large); index = omega (arith, h.index) }

-- a universal formula is made of its parts
all_parts : (at : Pos) (c q : Tree) → typed_answer (all_body at c q) ≡ (within_limits_at at (Lam c q) >>= (λ l. typed_answer (all_predicate at c l)))
all_parts at c q =
    let f : Tree → Answer TypedTree = λ t. Ok (record { tree = t; ty = TBool }) in
    let same = then_same (within_limits_at at (universal c q)) f (λ (t : TypedTree). Ok (Typed t)) in
    same ∙ part_first at (Lam c q) (universal c q) (λ t. Ok (Typed (record { tree = t; ty = TBool }))) (λ l. typed_answer (all_predicate at c l)) (left_fits (Lam c q) (Lam c True))
    (part_first at (Lam c True) (universal c q) (λ t. Ok (Typed (record { tree = t; ty = TBool }))) (λ r. typed_answer (all_equation at (Lam c q) r)) (right_fits (Lam c q) (Lam c True)) (sym same)
    ∙ sym (then_same (within_limits_at at (Lam c True)) (all_equation at (Lam c q)) (λ (t : TypedTree). Ok (Typed t))))

-- the trees that are made

pub all_body_row : (k j : Known) (text : Sources) (h : Here) (o : Binding) (c q : ℕ) (res : Result Next ElabFault)
    → Steps k j text h (made_answer (site_in k text h) k.stored text o.at (node_tree k.stored (node.Lam c q)) (frame.Binder (binder.AllPredicate c) o)) res
    → Steps k j text h (binder_answer (site_in k text h) k.stored text (binder.AllBody c) o (Term (tree_at k.stored q))) res
all_body_row k j text h o c q res t = steps_same k j text h _ _ res (all_parts (place_in text o.at) (tree_at k.stored c) (tree_at k.stored q)) t

pub all_predicate_row : (k j : Known) (text : Sources) (h : Here) (o : Binding) (c l : ℕ) (res : Result Next ElabFault) → IsHere k h
    → Steps k j text h (made_answer (site_in k text h) k.stored text o.at (node_tree k.stored (node.Lam c h.yes)) (frame.Binder (binder.AllEquation l) o)) res
    → Steps k j text h (binder_answer (site_in k text h) k.stored text (binder.AllPredicate c) o (Term (tree_at k.stored l))) res
all_predicate_row k j text h o c l res i t =
    steps_same k j text h _ _ res
    (then_same (within_limits_at (place_in text o.at) (Lam (tree_at k.stored c) True)) (all_equation (place_in text o.at) (tree_at k.stored l)) (λ (t : TypedTree). Ok (Typed t))
    ∙ ap (λ (u : Tree). within_limits_at (place_in text o.at) (Lam (tree_at k.stored c) u) >>= (λ r. typed_answer (all_equation (place_in text o.at) (tree_at k.stored l) r))) (sym i.is_yes)) t

pub all_equation_row : (k j : Known) (text : Sources) (h : Here) (o : Binding) (l r : ℕ) (res : Result Next ElabFault) → IsHere k h
    → Steps k j text h (made_answer (site_in k text h) k.stored text o.at (node_tree k.stored (node.Eq l r)) (frame.WithType h.truth)) res
    → Steps k j text h (binder_answer (site_in k text h) k.stored text (binder.AllEquation l) o (Term (tree_at k.stored r))) res
all_equation_row k j text h o l r res i t =
    steps_same k j text h _ _ res
    (then_same (within_limits_at (place_in text o.at) (Eq (tree_at k.stored l) (tree_at k.stored r))) (λ (t : Tree). Ok (record { tree = t; ty = TBool })) (λ (t : TypedTree). Ok (Typed t))
    ∙ ap (λ (u : Tree). within_limits_at (place_in text o.at) (Eq (tree_at k.stored l) (tree_at k.stored r)) >>= (λ t. Ok (Typed (record { tree = t; ty = u })))) (sym i.is_truth)) t

pub lambda_body_row : (k j : Known) (text : Sources) (h : Here) (o : Binding) (c : ℕ) (e : here.Typed) (res : Result Next ElabFault)
    → Steps k j text h (made_answer (site_in k text h) k.stored text o.at (node_tree k.stored (node.Lam c e.tree)) (frame.Binder (binder.LambdaTree c e.ty) o)) res
    → Steps k j text h (binder_answer (site_in k text h) k.stored text (binder.LambdaBody c) o (Typed (typed_at k.stored e))) res
lambda_body_row k j text h o c e res t =
    steps_same k j text h _ _ res (then_same (within_limits_at (place_in text o.at) (Lam (tree_at k.stored c) (tree_at k.stored e.tree))) (lambda_tree (place_in text o.at) (tree_at k.stored c) (tree_at k.stored e.ty)) (λ (t : TypedTree). Ok (Typed t))) t

pub lambda_tree_row : (k j : Known) (text : Sources) (h : Here) (o : Binding) (c e t : ℕ) (res : Result Next ElabFault)
    → Steps k j text h (made_type_answer (site_in k text h) k.stored text o.at (node_tree k.stored (node.TFun c e)) (frame.WithTerm t)) res
    → Steps k j text h (binder_answer (site_in k text h) k.stored text (binder.LambdaTree c e) o (Term (tree_at k.stored t))) res
lambda_tree_row k j text h o c e t res s =
    steps_same k j text h _ _ res (then_same (within_limits_at (place_in text o.at) (TFun (tree_at k.stored c) (tree_at k.stored e))) (λ (u : Tree). Ok (record { tree = tree_at k.stored t; ty = u })) (λ (t : TypedTree). Ok (Typed t))) s

pub range_row : (k j : Known) (text : Sources) (h : Here) (o : Binding) (c e : ℕ) (res : Result Next ElabFault)
    → Steps k j text h (made_type_answer (site_in k text h) k.stored text o.at (node_tree k.stored (node.TFun c e)) frame.Same) res
    → Steps k j text h (binder_answer (site_in k text h) k.stored text (binder.Range c) o (Formed (tree_at k.stored e))) res
range_row k j text h o c e res s = steps_same k j text h _ _ res refl s
