-- The rows of tuples, and of types of tuples.
use Rattle.std.proofs.Common.{◌≡◌, ℕ, suc, sym, ◌∙◌, ap, arith}
use Rattle.std.specs.Prelude.{Result, Ok}
use Rattle.pvs_base.specs.Answers.{◌>>=◌}
use Rattle.pvs_base.specs.declared.place.Pos.{Pos}
use Rattle.pvs_base.specs.declared.code.Code.TheVariants as code
use Rattle.pvs_terms.specs.declared.shape.Sort.TheVariants.{OfType}
use Rattle.pvs_terms.specs.Tree.{Tree, TPair, Tup, IsWithinLimits}
use Rattle.pvs_terms.specs.declared.node.Node.TheVariants as node
use Rattle.pvs_terms.specs.Stored.{tree_at, node_tree}
use Rattle.pvs_subst.specs.Replace.{lift}
use Rattle.pvs_types.specs.Coerce.{lift_one}
use Rattle.pvs_typing.specs.Answers.{Gives}
use Rattle.pvs_elab.specs.Answer.{within_limits_at}
use Rattle.pvs_elab.specs.Elab.{TypedTree, under_name}
use Rattle.pvs_elaboration.specs.declared.fault.ElabFault.{ElabFault}
use Rattle.pvs_elaboration.specs.declared.here.Here.{Here}
use Rattle.pvs_elaboration.specs.declared.here.Typed as here
use Rattle.pvs_elaboration.specs.declared.value.Mode.TheVariants as mode
use Rattle.pvs_elaboration.specs.declared.value.Value.TheVariants as value
use Rattle.pvs_elaboration.specs.declared.binder.Binding.{Binding}
use Rattle.pvs_elaboration.specs.declared.tuples.Pair.{Pair}
use Rattle.pvs_elaboration.specs.declared.tuples.TupleRow.TheVariants as tuple
use Rattle.pvs_elaboration.specs.declared.tuples.ProductRow.TheVariants as product
use Rattle.pvs_elaboration.specs.declared.frame.Frame.TheVariants as frame
use Rattle.pvs_elaboration.specs.declared.frame.Next.{Next}
use Rattle.pvs_elaboration.specs.Known.{Sources, place_in, word_at, Known, Grows, site_in, IsHere, IsTypeOf, IsTermOf, AreKnownNumbers, Failed}
use Rattle.pvs_elaboration.specs.Meanings.{Typed, Term, Formed, value_numbers, typed_at, typed_answer, fault_at, elab_at}
use Rattle.pvs_elaboration.specs.Tuples.{tuple_lifted, tuple_tree, tuple_second, tuple_answer, product_second, product_answer}
use Rattle.pvs_elaboration.specs.Machine.{made_answer, made_type_answer, Follows, Steps}
use Rattle.pvs_elaboration.proofs.KnownLaws.{within_limits_made, large_failed}
use Rattle.pvs_elaboration.proofs.MachineLaws.{then_typed, then_formed, then_same, failed_same}
use Rattle.pvs_elaboration.proofs.StepLaws.{given, given_follows, follows_at_once, follows_same, steps_same}
use Rattle.pvs_elaboration.proofs.AskLaws.{asked_then}
use Rattle.pvs_elaboration.proofs.BinderLaws.{asked_below, part_first}

-- A tuple: after the first component, the others are asked.

pub first_follows : {k : Known} (text : Sources) (h : Here) (o : Pair) (a : here.Typed) → AreKnownNumbers k (value_numbers (value.Typed a))
    → Follows k k text h (tuple_answer (site_in k text h) k.stored text tuple.First o (Typed (typed_at k.stored a))) (asked_then o.second mode.Infer (frame.Tuple (tuple.Second a) o))
first_follows {k} text h o a n =
    let z = site_in k text h in
    follows_at_once text h _ _ (record { entrance = tt; control = tt; frame = n })
    (then_typed ((elab_at z text o.second).infer z.here) (tuple_second o.beyond (place_in text o.at) (typed_at k.stored a)) (λ (t : TypedTree). Ok (Typed t)))

-- the tree
pub second_row : (k j : Known) (text : Sources) (h : Here) (o : Pair) (a b : here.Typed) (n : ℕ) (res : Result Next ElabFault) → n ≡ suc (suc o.beyond)
    → Steps k j text h (made_answer (site_in k text h) k.stored text o.at (node_tree k.stored (node.Tup n a.tree b.tree)) (frame.Tuple (tuple.Tree a.ty b.ty) o)) res
    → Steps k j text h (tuple_answer (site_in k text h) k.stored text (tuple.Second a) o (Typed (typed_at k.stored b))) res
second_row k j text h o a b n res e t =
    steps_same k j text h _ _ res
    (then_same (within_limits_at (place_in text o.at) (Tup (suc (suc o.beyond)) (tree_at k.stored a.tree) (tree_at k.stored b.tree))) (tuple_tree o.beyond (place_in text o.at) (tree_at k.stored a.ty) (tree_at k.stored b.ty)) (λ (t : TypedTree). Ok (Typed t))
    ∙ ap (λ (m : ℕ). within_limits_at (place_in text o.at) (Tup m (tree_at k.stored a.tree) (tree_at k.stored b.tree)) >>= (λ t. typed_answer (tuple_tree o.beyond (place_in text o.at) (tree_at k.stored a.ty) (tree_at k.stored b.ty) t))) (sym e)) t

-- the type of the others, under a variable for the first

second_fits : (k : ℕ) (c d : Tree) → IsWithinLimits (TPair k c d) → IsWithinLimits d
second_fits k c d h = record { deep = omega (arith, h.deep); large = omega (arith, h.large); index = omega (arith, h.index) }

tuple_parts : (k : ℕ) (at : Pos) (c d t : Tree) → typed_answer (tuple_tree k at c d t) ≡ (within_limits_at at (lift_one d) >>= (λ e. typed_answer (tuple_lifted k at t c e)))
tuple_parts k at c d t =
    let pair = TPair (suc (suc k)) c (lift_one d) in
    let same = then_same (within_limits_at at pair) (λ u. Ok (record { tree = t; ty = u })) (λ (p : TypedTree). Ok (Typed p)) in
    same ∙ part_first at (lift_one d) pair (λ u. Ok (Typed (record { tree = t; ty = u }))) (λ e. typed_answer (tuple_lifted k at t c e)) (second_fits (suc (suc k)) c (lift_one d)) (sym same)

pub tree_follows : {a b : Known} (text : Sources) (h : Here) (o : Pair) (c d t i : ℕ) → Grows a b → IsHere a h → IsTermOf a t → IsTypeOf a c → Gives b.stored b.declares OfType (lift (tree_at a.stored d) 1 0) i
    → Follows a b text h (tuple_answer (site_in a text h) a.stored text (tuple.Tree c d) o (Term (tree_at a.stored t))) (given (value.Formed i) (frame.Tuple (tuple.Lifted t c) o))
tree_follows {a} {b} text h o c d t i g n m r s =
    let lifted = lift_one (tree_at a.stored d) in
    follows_same text h _ _ _ (tuple_parts o.beyond (place_in text o.at) (tree_at a.stored c) (tree_at a.stored d) (tree_at a.stored t))
    (given_follows text h (within_limits_at (place_in text o.at) lifted) lifted Formed (value.Formed i) (frame.Tuple (tuple.Lifted t c) o) g n (m, (r, tt)) (s.known, tt)
    (within_limits_made (place_in text o.at) lifted s.fits) (ap Formed (sym s.tree)))

pub tree_large : {a b : Known} (text : Sources) (h : Here) (o : Pair) (c d t : ℕ) → Grows a b → ¬ IsWithinLimits (lift (tree_at a.stored d) 1 0)
    → Failed a b (tuple_answer (site_in a text h) a.stored text (tuple.Tree c d) o (Term (tree_at a.stored t))) (fault_at (place_in text o.at) code.TooLarge)
tree_large {a} text h o c d t g w =
    failed_same _ _ (fault_at (place_in text o.at) code.TooLarge) (tuple_parts o.beyond (place_in text o.at) (tree_at a.stored c) (tree_at a.stored d) (tree_at a.stored t))
    (large_failed (place_in text o.at) (lift_one (tree_at a.stored d)) (λ e. typed_answer (tuple_lifted o.beyond (place_in text o.at) (tree_at a.stored t) (tree_at a.stored c) e)) g w)

-- the type
pub lifted_row : (k j : Known) (text : Sources) (h : Here) (o : Pair) (t c d n : ℕ) (res : Result Next ElabFault) → n ≡ suc (suc o.beyond)
    → Steps k j text h (made_type_answer (site_in k text h) k.stored text o.at (node_tree k.stored (node.TPair n c d)) (frame.WithTerm t)) res
    → Steps k j text h (tuple_answer (site_in k text h) k.stored text (tuple.Lifted t c) o (Formed (tree_at k.stored d))) res
lifted_row k j text h o t c d n res e s =
    steps_same k j text h _ _ res
    (then_same (within_limits_at (place_in text o.at) (TPair (suc (suc o.beyond)) (tree_at k.stored c) (tree_at k.stored d))) (λ (u : Tree). Ok (record { tree = tree_at k.stored t; ty = u })) (λ (t : TypedTree). Ok (Typed t))
    ∙ ap (λ (m : ℕ). within_limits_at (place_in text o.at) (TPair m (tree_at k.stored c) (tree_at k.stored d)) >>= (λ u. Ok (Typed (record { tree = tree_at k.stored t; ty = u })))) (sym e)) s

-- A type of tuples: after the type of the first component, that of the others is asked, under a variable for the first.

pub product_follows : {k : Known} (text : Sources) (h : Here) (n : ℕ) (o : Binding) (c : ℕ) → IsTypeOf k c
    → Follows k k text h (product_answer (site_in k text h) k.stored text product.First n o (Formed (tree_at k.stored c))) (asked_below o c mode.Formed (frame.Product (product.Second c) n o))
product_follows {k} text h n o c m =
    let z = site_in k text h in
    follows_at_once text h _ _ (record { entrance = (m, tt); control = tt; frame = (m, tt) })
    (then_formed ((elab_at z text o.body).formed (under_name (word_at text o.name) (tree_at k.stored c) z.here)) (product_second n (place_in text o.at) (tree_at k.stored c)) (λ (t : Tree). Ok (Formed t)))

pub product_row : (k j : Known) (text : Sources) (h : Here) (o : Binding) (c d m n : ℕ) (res : Result Next ElabFault) → n ≡ suc (suc m)
    → Steps k j text h (made_type_answer (site_in k text h) k.stored text o.at (node_tree k.stored (node.TPair n c d)) frame.Same) res
    → Steps k j text h (product_answer (site_in k text h) k.stored text (product.Second c) m o (Formed (tree_at k.stored d))) res
product_row k j text h o c d m n res e s =
    steps_same k j text h _ _ res (ap (λ (i : ℕ). within_limits_at (place_in text o.at) (TPair i (tree_at k.stored c) (tree_at k.stored d)) >>= (λ u. Ok (Formed u))) (sym e)) s
