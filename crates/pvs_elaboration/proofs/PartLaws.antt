-- The rows of projections.
use Rattle.std.proofs.Common.{◌≡◌, ◌≤◌, ◌<◌, ℕ, zero, suc, Bool, true, false, Some, None, refl, sym, ◌∙◌, ap, subst, arith}
use Rattle.std.specs.Prelude.{nat_lt, nat_eq, nat_le, if◌then◌else◌, Result, Ok}
use Rattle.std.proofs.lemmas.Bool.{lt-ltb, ltb-true}
use Rattle.std.proofs.lemmas.Bool.Decides.{nat_tests}
use Rattle.pvs_base.specs.Answers.{◌>>=◌}
use Rattle.pvs_base.specs.declared.place.Pos.{Pos}
use Rattle.pvs_base.specs.declared.code.Code.{Code}
use Rattle.pvs_base.specs.declared.code.Code.TheVariants as code
use Rattle.pvs_terms.specs.declared.shape.Sort.TheVariants.{OfType}
use Rattle.pvs_terms.specs.Tree.{Tree, TPair, Fst, Snd, IsWithinLimits}
use Rattle.pvs_terms.specs.declared.node.Node.TheVariants as node
use Rattle.pvs_terms.specs.Stored.{tree_at, node_tree}
use Rattle.pvs_subst.specs.Replace.{put_in}
use Rattle.pvs_types.specs.Outcome.{Outcome, Refused, from_result}
use Rattle.pvs_types.specs.Outcome as outcome
use Rattle.pvs_types.specs.Forms.{head}
use Rattle.pvs_types.specs.Typing.{Components, tuple_of}
use Rattle.pvs_typing.specs.Answers.{Gives, IsRefusal}
use Rattle.pvs_typing.specs.declared.fault.TypeFault.{TypeFault}
use Rattle.pvs_elab.specs.Answer.{Answer, fault, within_limits_at, from_outcome, from_part, place_of_code, place_of_part}
use Rattle.pvs_elab.specs.Phrase.{place}
use Rattle.pvs_elab.specs.Phrase as phrase
use Rattle.pvs_elab.specs.Elab.{TypedTree, part_from, tuple_size}
use Rattle.pvs_phrases.specs.Numbers.{in_range}
use Rattle.pvs_elaboration.specs.declared.fault.ElabFault.{ElabFault}
use Rattle.pvs_elaboration.specs.declared.here.Here.{Here}
use Rattle.pvs_elaboration.specs.declared.here.Typed as here
use Rattle.pvs_elaboration.specs.declared.value.Mode.TheVariants as mode
use Rattle.pvs_elaboration.specs.declared.value.Value.TheVariants as value
use Rattle.pvs_elaboration.specs.declared.parts.Projection.{Projection}
use Rattle.pvs_elaboration.specs.declared.parts.PartRow.TheVariants as part
use Rattle.pvs_elaboration.specs.declared.frame.Frame.TheVariants as frame
use Rattle.pvs_elaboration.specs.declared.frame.Next.{Next}
use Rattle.pvs_elaboration.specs.Known.{Sources, phrase_at, place_in, Known, Grows, Site, site_in, IsHere, IsTypeOf, IsTermOf, AreKnownNumbers, Failed}
use Rattle.pvs_elaboration.specs.Meanings.{Typed, Term, Formed, value_numbers, typed_at, typed_answer, on_typed, fault_of, fault_at, elab_at}
use Rattle.pvs_elaboration.specs.Parts.{part_next, part_rest, part_others, components, part_components, part_head, part_start, part_size, part_operand, part_number, part_answer}
use Rattle.pvs_elaboration.specs.Machine.{asked_at, made_answer, Follows, Steps}
use Rattle.pvs_elaboration.proofs.KnownLaws.{grows_none, within_limits_made, large_failed, failed_then}
use Rattle.pvs_elaboration.proofs.MachineLaws.{then_typed, then_same, failed_same}
use Rattle.pvs_elaboration.proofs.StepLaws.{given, given_follows, follows_at_once, follows_same, steps_same, type_found, type_refused}
use Rattle.pvs_elaboration.proofs.AskLaws.{asked_then, elab_place}
use Rattle.pvs_elaboration.proofs.BinderLaws.{part_first as part_before}

-- the operand is asked first
pub part_asked : {k : Known} (text : Sources) (h : Here) (x : ℕ) (o : Projection) → place_in text o.at ≡ place (phrase_at text x)
    → Follows k k text h (asked_at (site_in k text h) k.stored text mode.Infer (phrase.Part (phrase_at text x) (part_number text o) (place_in text o.number_at))) (asked_then x mode.Infer (frame.Part part.Operand o))
unfolding site_in
part_asked {k} text h x o p =
    let z = site_in k text h in
    let e = elab_at z text x in
    follows_at_once text h _ _ (record { entrance = tt; control = tt; frame = tt })
    (then_typed (e.infer z.here) (part_operand z e.place (place_in text o.number_at) (part_number text o)) (λ (t : TypedTree). Ok (Typed t))
    ∙ ap (λ (q : Pos). typed_answer (e.infer z.here) >>= on_typed (λ t. typed_answer (part_operand z q (place_in text o.number_at) (part_number text o) t))) (elab_place k.lookups k.names (phrase_at text x) ∙ sym p))

-- the head of its type

pub operand_follows : {a b : Known} (text : Sources) (h : Here) (o : Projection) (t : here.Typed) (i : ℕ) → Grows a b → IsHere a h → AreKnownNumbers a (value_numbers (value.Typed t)) → IsTypeOf b i
    → head a.lookups (tree_at a.stored t.ty) ≡ Ok (tree_at b.stored i)
    → Follows a b text h (part_answer (site_in a text h) a.stored text part.Operand o (Typed (typed_at a.stored t))) (given (value.Formed i) (frame.Part (part.Size t) o))
unfolding site_in
operand_follows {a} text h o t i g n m u e =
    let z = site_in a text h in
    type_found text h (place_in text o.at) (head a.lookups (tree_at a.stored t.ty)) (part_size z (place_in text o.at) (place_in text o.number_at) (part_number text o) (typed_at a.stored t)) (λ (t : TypedTree). Ok (Typed t)) (frame.Part (part.Size t) o) i g n m u e (λ c. refl)

pub operand_refused : {a b : Known} (text : Sources) (h : Here) (o : Projection) (t : here.Typed) (e : TypeFault) → Grows a b → IsRefusal (head a.lookups (tree_at a.stored t.ty)) e
    → Failed a b (part_answer (site_in a text h) a.stored text part.Operand o (Typed (typed_at a.stored t))) (fault_of (place_in text o.at) (place_in text o.at) e)
unfolding site_in
operand_refused {a} text h o t e g x =
    let z = site_in a text h in
    type_refused (place_in text o.at) (head a.lookups (tree_at a.stored t.ty)) (part_size z (place_in text o.at) (place_in text o.number_at) (part_number text o) (typed_at a.stored t)) (λ (t : TypedTree). Ok (Typed t)) e g x

-- how many components it has

pub size_row : (k : Known) (text : Sources) (h : Here) (o : Projection) (t : here.Typed) (i n x y : ℕ) (res : Result Next ElabFault) → tree_at k.stored i ≡ node_tree k.stored (node.TPair n x y)
    → Steps k k text h (typed_answer (part_start (site_in k text h) (place_in text o.at) (place_in text o.number_at) (part_number text o) (typed_at k.stored t) n)) res
    → Steps k k text h (part_answer (site_in k text h) k.stored text (part.Size t) o (Formed (tree_at k.stored i))) res
size_row k text h o t i n x y res e s =
    let z = site_in k text h in
    steps_same k k text h _ _ res (ap (λ (c : Tree). typed_answer (part_size z (place_in text o.at) (place_in text o.number_at) (part_number text o) (typed_at k.stored t) c)) e) s

pub not_a_tuple : (k : Known) (text : Sources) (h : Here) (o : Projection) (t : here.Typed) (c : Tree) (e : Code) → tuple_size c ≡ Refused e
    → Failed k k (part_answer (site_in k text h) k.stored text (part.Size t) o (Formed c)) (fault_at (place_of_code (place_in text o.at) (place_in text o.at) e) e)
not_a_tuple k text h o t c e x =
    let z = site_in k text h in
    record {
      kept = grows_none k;
      is = ap (λ (q : Outcome ℕ). typed_answer (from_outcome (place_in text o.at) q >>= part_start z (place_in text o.at) (place_in text o.number_at) (part_number text o) (typed_at k.stored t))) x;
    }

-- whether it has this one

range_of : (b : Bool) (n m : ℕ) → (if b then Some n else None) ≡ Some m → n ≡ m
range_of true n m e = cc
range_of false n m e = cc

number_is : (n m : ℕ) → in_range n ≡ Some m → n ≡ m
number_is n m e = range_of (nat_le n 4294967295) n m e

beyond_range : (n m : ℕ) → in_range n ≡ None → m ≤ 4294967295 → m < n
beyond_range n m e l = grind (arith, nat_tests)

started : (z : Site) (at number : Pos) (n i : ℕ) (t : TypedTree) → suc i ≤ n → part_start z at number (suc i) t n ≡ part_from z.lookups at number n (suc i) t.tree t.ty
started z at number n i t l = go (nat_lt n (suc i)) refl
  where
    go : (b : Bool) → nat_lt n (suc i) ≡ b → (if b then fault number code.NoSuchPart else part_from z.lookups at number n (suc i) t.tree t.ty) ≡ part_from z.lookups at number n (suc i) t.tree t.ty
    go true e = let r = ltb-true n (suc i) e in absurd (omega (arith, l, r))
    go false e = refl

too_great : (z : Site) (at number : Pos) (n i : ℕ) (t : TypedTree) → n < i → part_start z at number i t n ≡ fault number code.NoSuchPart
too_great z at number n i t l = rw (lt-ltb n i l) refl

same_either : {A : Type 0} (b : Bool) (x : A) → (if b then x else x) ≡ x
same_either true x = refl
same_either false x = refl

none_zero : (z : Site) (at number : Pos) (n i : ℕ) (t : TypedTree) → i ≡ 0 → part_start z at number i t n ≡ fault number code.NoSuchPart
none_zero z at number n i t e = ap (λ (x : ℕ). part_start z at number x t n) e ∙ same_either (nat_lt n 0) (fault number code.NoSuchPart)

pub start_follows : {k : Known} (text : Sources) (h : Here) (o : Projection) (t : here.Typed) (n i m j : ℕ) → AreKnownNumbers k (value_numbers (value.Typed t)) → in_range (part_number text o) ≡ Some i → i ≡ suc j → i ≤ n → n ≡ suc (suc m)
    → Follows k k text h (typed_answer (part_start (site_in k text h) (place_in text o.at) (place_in text o.number_at) (part_number text o) (typed_at k.stored t) n)) (given (value.Typed t) (frame.Part (part.From m j) o))
start_follows {k} text h o t n i m j w r e l d =
    let z = site_in k text h in
    let at = place_in text o.at in
    let number = place_in text o.number_at in
    let is : part_number text o ≡ suc j = number_is (part_number text o) i r ∙ e in
    follows_at_once text h _ _ (record { entrance = tt; control = w; frame = tt })
    (ap (λ (x : ℕ). typed_answer (part_start z at number x (typed_at k.stored t) n)) is
    ∙ ap typed_answer (started z at number n j (typed_at k.stored t) (subst (λ x. x ≤ n) e l))
    ∙ ap (λ (x : ℕ). typed_answer (part_from z.lookups at number x (suc j) (tree_at k.stored t.tree) (tree_at k.stored t.ty))) d)

pub no_part_zero : (k : Known) (text : Sources) (h : Here) (o : Projection) (t : here.Typed) (n i : ℕ) → in_range (part_number text o) ≡ Some i → i ≡ 0
    → Failed k k (typed_answer (part_start (site_in k text h) (place_in text o.at) (place_in text o.number_at) (part_number text o) (typed_at k.stored t) n)) (fault_at (place_in text o.number_at) code.NoSuchPart)
no_part_zero k text h o t n i r e =
    let z = site_in k text h in
    record {
      kept = grows_none k;
      is = ap typed_answer (none_zero z (place_in text o.at) (place_in text o.number_at) n (part_number text o) (typed_at k.stored t) (number_is (part_number text o) i r ∙ e));
    }

pub no_such_part : (k : Known) (text : Sources) (h : Here) (o : Projection) (t : here.Typed) (n i : ℕ) → in_range (part_number text o) ≡ Some i → n < i
    → Failed k k (typed_answer (part_start (site_in k text h) (place_in text o.at) (place_in text o.number_at) (part_number text o) (typed_at k.stored t) n)) (fault_at (place_in text o.number_at) code.NoSuchPart)
no_such_part k text h o t n i r e =
    let z = site_in k text h in
    record {
      kept = grows_none k;
      is = ap typed_answer (too_great z (place_in text o.at) (place_in text o.number_at) n (part_number text o) (typed_at k.stored t) (subst (λ (x : ℕ). n < x) (sym (number_is (part_number text o) i r)) e));
    }

pub no_part_beyond : (k : Known) (text : Sources) (h : Here) (o : Projection) (t : here.Typed) (n : ℕ) → in_range (part_number text o) ≡ None → n ≤ 4294967295
    → Failed k k (typed_answer (part_start (site_in k text h) (place_in text o.at) (place_in text o.number_at) (part_number text o) (typed_at k.stored t) n)) (fault_at (place_in text o.number_at) code.NoSuchPart)
no_part_beyond k text h o t n r l =
    let z = site_in k text h in
    record {
      kept = grows_none k;
      is = ap typed_answer (too_great z (place_in text o.at) (place_in text o.number_at) n (part_number text o) (typed_at k.stored t) (beyond_range (part_number text o) n r l));
    }

-- the head of the type of a tuple

from_is : (z : Site) (at number : Pos) (k i : ℕ) (t : TypedTree) → part_from z.lookups at number k (suc i) t.tree t.ty ≡ (from_outcome at (from_result (head z.lookups t.ty)) >>= part_head z at number k i t.tree)
from_is z at number k zero t = refl
from_is z at number k (suc i) t = refl

pub from_follows : {a b : Known} (text : Sources) (h : Here) (o : Projection) (m j : ℕ) (t : here.Typed) (i : ℕ) → Grows a b → IsHere a h → AreKnownNumbers a (value_numbers (value.Typed t)) → IsTypeOf b i
    → head a.lookups (tree_at a.stored t.ty) ≡ Ok (tree_at b.stored i)
    → Follows a b text h (part_answer (site_in a text h) a.stored text (part.From m j) o (Typed (typed_at a.stored t))) (given (value.Formed i) (frame.Part (part.Head m j t.tree) o))
unfolding site_in
from_follows {a} text h o m j t i g n w u e =
    let z = site_in a text h in
    follows_same text h _ _ _ (ap typed_answer (from_is z (place_in text o.at) (place_in text o.number_at) (suc (suc m)) j (typed_at a.stored t)))
    (type_found text h (place_in text o.at) (head a.lookups (tree_at a.stored t.ty)) (part_head z (place_in text o.at) (place_in text o.number_at) (suc (suc m)) j (tree_at a.stored t.tree)) (λ (t : TypedTree). Ok (Typed t)) (frame.Part (part.Head m j t.tree) o) i g n (w.0, tt) u e (λ c. refl))

pub from_refused : {a b : Known} (text : Sources) (h : Here) (o : Projection) (m j : ℕ) (t : here.Typed) (e : TypeFault) → Grows a b → IsRefusal (head a.lookups (tree_at a.stored t.ty)) e
    → Failed a b (part_answer (site_in a text h) a.stored text (part.From m j) o (Typed (typed_at a.stored t))) (fault_of (place_in text o.at) (place_in text o.at) e)
unfolding site_in
from_refused {a} text h o m j t e g x =
    let z = site_in a text h in
    failed_same _ _ (fault_of (place_in text o.at) (place_in text o.at) e) (ap typed_answer (from_is z (place_in text o.at) (place_in text o.number_at) (suc (suc m)) j (typed_at a.stored t)))
    (type_refused (place_in text o.at) (head a.lookups (tree_at a.stored t.ty)) (part_head z (place_in text o.at) (place_in text o.number_at) (suc (suc m)) j (tree_at a.stored t.tree)) (λ (t : TypedTree). Ok (Typed t)) e g x)

-- its components

tuple_found : (b : Bool) (d : Components) → b ≡ true → (if b then outcome.pure d else outcome.refuse code.NoSuchPart) ≡ outcome.pure d
tuple_found true d e = refl
tuple_found false d e = cc

tuple_lost : (b : Bool) (d : Components) → b ≡ false → (if b then outcome.pure d else outcome.refuse code.NoSuchPart) ≡ outcome.refuse code.NoSuchPart
tuple_lost true d e = cc
tuple_lost false d e = refl

same_number : (n : ℕ) → nat_eq n n ≡ true
same_number n = grind (arith, nat_tests)

other_number : (n m : ℕ) → ¬ (n ≡ m) → nat_eq n m ≡ false
other_number n m e = grind (arith, nat_tests)

pub head_row : (k j : Known) (text : Sources) (h : Here) (o : Projection) (m b t i n x y : ℕ) (res : Result Next ElabFault) → tree_at k.stored i ≡ node_tree k.stored (node.TPair n x y) → n ≡ suc (suc m)
    → Steps k j text h (typed_answer (part_components (site_in k text h) (place_in text o.at) (place_in text o.number_at) n b (tree_at k.stored t) (components (tree_at k.stored x) (tree_at k.stored y)))) res
    → Steps k j text h (part_answer (site_in k text h) k.stored text (part.Head m b t) o (Formed (tree_at k.stored i))) res
head_row k j text h o m b t i n x y res e d s =
    let z = site_in k text h in
    let at = place_in text o.at in
    let number = place_in text o.number_at in
    let c = components (tree_at k.stored x) (tree_at k.stored y) in
    let f : Components → Answer TypedTree = part_components z at number n b (tree_at k.stored t) in
    steps_same k j text h _ _ res
    (ap (λ (u : Tree). typed_answer (part_head z at number (suc (suc m)) b (tree_at k.stored t) u)) e
    ∙ ap (λ (v : ℕ). typed_answer (part_head z at number v b (tree_at k.stored t) (TPair n (tree_at k.stored x) (tree_at k.stored y)))) (sym d)
    ∙ ap (λ (q : Outcome Components). typed_answer (from_part number at q >>= f)) (tuple_found (nat_eq n n) c (same_number n))) s

pub other_size : (k : Known) (text : Sources) (h : Here) (o : Projection) (m b t i n x y : ℕ) → tree_at k.stored i ≡ node_tree k.stored (node.TPair n x y) → ¬ (n ≡ suc (suc m))
    → Failed k k (part_answer (site_in k text h) k.stored text (part.Head m b t) o (Formed (tree_at k.stored i))) (fault_at (place_in text o.number_at) code.NoSuchPart)
other_size k text h o m b t i n x y e d =
    let z = site_in k text h in
    let at = place_in text o.at in
    let number = place_in text o.number_at in
    let c = components (tree_at k.stored x) (tree_at k.stored y) in
    let f : Components → Answer TypedTree = part_components z at number (suc (suc m)) b (tree_at k.stored t) in
    record {
      kept = grows_none k;
      is = ap (λ (u : Tree). typed_answer (part_head z at number (suc (suc m)) b (tree_at k.stored t) u)) e
          ∙ ap (λ (q : Outcome Components). typed_answer (from_part number at q >>= f)) (tuple_lost (nat_eq n (suc (suc m))) c (other_number n (suc (suc m)) d));
    }

pub not_a_tuple_type : (k : Known) (text : Sources) (h : Here) (o : Projection) (m b t : ℕ) (c : Tree) (e : Code) → tuple_of (suc (suc m)) c ≡ Refused e
    → Failed k k (part_answer (site_in k text h) k.stored text (part.Head m b t) o (Formed c)) (fault_at (place_of_part (place_in text o.number_at) (place_in text o.at) e) e)
not_a_tuple_type k text h o m b t c e x =
    let z = site_in k text h in
    record {
      kept = grows_none k;
      is = ap (λ (q : Outcome Components). typed_answer (from_part (place_in text o.number_at) (place_in text o.at) q >>= part_components z (place_in text o.at) (place_in text o.number_at) (suc (suc m)) b (tree_at k.stored t))) x;
    }

-- the first component
pub first_row : (k j : Known) (text : Sources) (h : Here) (o : Projection) (t x y n b : ℕ) (res : Result Next ElabFault) → b ≡ 0
    → Steps k j text h (made_answer (site_in k text h) k.stored text o.at (node_tree k.stored (node.Fst n t)) (frame.WithType x)) res
    → Steps k j text h (typed_answer (part_components (site_in k text h) (place_in text o.at) (place_in text o.number_at) n b (tree_at k.stored t) (components (tree_at k.stored x) (tree_at k.stored y)))) res
first_row k j text h o t x y n b res e s =
    let z = site_in k text h in
    let c = components (tree_at k.stored x) (tree_at k.stored y) in
    steps_same k j text h _ _ res
    (ap (λ (i : ℕ). typed_answer (part_components z (place_in text o.at) (place_in text o.number_at) n i (tree_at k.stored t) c)) e
    ∙ then_same (within_limits_at (place_in text o.at) (Fst n (tree_at k.stored t))) (λ (u : Tree). Ok (record { tree = u; ty = tree_at k.stored x })) (λ (u : TypedTree). Ok (Typed u))) s

-- what leads to another

first_fits : (k : ℕ) (t : Tree) → IsWithinLimits (Snd k t) → IsWithinLimits (Fst k t)
first_fits k t h = record { deep = h.deep; large = h.large; index = h.index }

others_parts : (z : Site) (at number : Pos) (k i : ℕ) (t e : Tree) → typed_answer (part_others z at number k i t e (Fst k t)) ≡ (within_limits_at at (Fst k t) >>= (λ f. typed_answer (part_others z at number k i t e f)))
others_parts z at number k i t e =
    let same = then_same (within_limits_at at (Snd k t)) (part_rest z at number k i e (Fst k t)) (λ (u : TypedTree). Ok (Typed u)) in
    same ∙ part_before at (Fst k t) (Snd k t) (λ u. typed_answer (part_rest z at number k i e (Fst k t) u)) (λ f. typed_answer (part_others z at number k i t e f)) (first_fits k t) (sym same)

pub others_row : (k j : Known) (text : Sources) (h : Here) (o : Projection) (t x y n m b i : ℕ) (res : Result Next ElabFault) → b ≡ suc i → n ≡ suc (suc m)
    → Steps k j text h (made_answer (site_in k text h) k.stored text o.at (node_tree k.stored (node.Fst n t)) (frame.Part (part.Others m i t y) o)) res
    → Steps k j text h (typed_answer (part_components (site_in k text h) (place_in text o.at) (place_in text o.number_at) n b (tree_at k.stored t) (components (tree_at k.stored x) (tree_at k.stored y)))) res
others_row k j text h o t x y n m b i res e d s =
    let z = site_in k text h in
    let at = place_in text o.at in
    let number = place_in text o.number_at in
    let c = components (tree_at k.stored x) (tree_at k.stored y) in
    steps_same k j text h _ _ res
    (ap (λ (a : ℕ). typed_answer (part_components z at number n a (tree_at k.stored t) c)) e
    ∙ others_parts z at number n i (tree_at k.stored t) (tree_at k.stored y)
    ∙ ap (λ (v : ℕ). within_limits_at at (Fst n (tree_at k.stored t)) >>= (λ f. typed_answer (part_others z at number v i (tree_at k.stored t) (tree_at k.stored y) f))) d) s

pub tuple_row : (k j : Known) (text : Sources) (h : Here) (o : Projection) (m i t e f n : ℕ) (res : Result Next ElabFault) → n ≡ suc (suc m)
    → Steps k j text h (made_answer (site_in k text h) k.stored text o.at (node_tree k.stored (node.Snd n t)) (frame.Part (part.Rest m i f e) o)) res
    → Steps k j text h (part_answer (site_in k text h) k.stored text (part.Others m i t e) o (Term (tree_at k.stored f))) res
tuple_row k j text h o m i t e f n res d s =
    let z = site_in k text h in
    let at = place_in text o.at in
    let number = place_in text o.number_at in
    steps_same k j text h _ _ res
    (then_same (within_limits_at at (Snd (suc (suc m)) (tree_at k.stored t))) (part_rest z at number (suc (suc m)) i (tree_at k.stored e) (tree_at k.stored f)) (λ (u : TypedTree). Ok (Typed u))
    ∙ ap (λ (v : ℕ). within_limits_at at (Snd v (tree_at k.stored t)) >>= (λ u. typed_answer (part_rest z at number (suc (suc m)) i (tree_at k.stored e) (tree_at k.stored f) u))) (sym d)) s

-- the type of the others

pub rest_follows : {a b : Known} (text : Sources) (h : Here) (o : Projection) (m i f e u n : ℕ) → Grows a b → IsHere a h → IsTermOf a u → Gives b.stored b.declares OfType (put_in (tree_at a.stored e) (tree_at a.stored f)) n
    → Follows a b text h (part_answer (site_in a text h) a.stored text (part.Rest m i f e) o (Term (tree_at a.stored u))) (given (value.Formed n) (frame.Part (part.Next m i u) o))
rest_follows {a} {b} text h o m i f e u n g x w s =
    let z = site_in a text h in
    let at = place_in text o.at in
    let ty = put_in (tree_at a.stored e) (tree_at a.stored f) in
    follows_same text h _ _ _ (then_same (within_limits_at at ty) (part_next z at (place_in text o.number_at) (suc (suc m)) i (tree_at a.stored u)) (λ (t : TypedTree). Ok (Typed t)))
    (given_follows text h (within_limits_at at ty) ty Formed (value.Formed n) (frame.Part (part.Next m i u) o) g x (w, tt) (s.known, tt) (within_limits_made at ty s.fits) (ap Formed (sym s.tree)))

pub rest_large : {a b : Known} (text : Sources) (h : Here) (o : Projection) (m i f e u : ℕ) → Grows a b → ¬ IsWithinLimits (put_in (tree_at a.stored e) (tree_at a.stored f))
    → Failed a b (part_answer (site_in a text h) a.stored text (part.Rest m i f e) o (Term (tree_at a.stored u))) (fault_at (place_in text o.at) code.TooLarge)
rest_large {a} text h o m i f e u g w =
    let z = site_in a text h in
    failed_then (λ (t : TypedTree). Ok (Typed t)) (fault_at (place_in text o.at) code.TooLarge)
    (large_failed (place_in text o.at) (put_in (tree_at a.stored e) (tree_at a.stored f)) (part_next z (place_in text o.at) (place_in text o.number_at) (suc (suc m)) i (tree_at a.stored u)) g w)

-- the only one of the others, or one of them

pub last_follows : {k : Known} (text : Sources) (h : Here) (o : Projection) (m i u b : ℕ) → IsTermOf k u → IsTypeOf k b → m ≡ 0
    → Follows k k text h (part_answer (site_in k text h) k.stored text (part.Next m i u) o (Formed (tree_at k.stored b))) (given (value.Typed (record { tree = u; ty = b })) frame.Same)
last_follows {k} text h o m i u b n w e =
    let z = site_in k text h in
    follows_at_once text h _ _ (record { entrance = tt; control = (n, (w, tt)); frame = tt })
    (ap (λ (v : ℕ). typed_answer (part_next z (place_in text o.at) (place_in text o.number_at) (suc (suc v)) i (tree_at k.stored u) (tree_at k.stored b))) e)

pub next_follows : {k : Known} (text : Sources) (h : Here) (o : Projection) (m i u b n : ℕ) → IsTermOf k u → IsTypeOf k b → m ≡ suc n
    → Follows k k text h (part_answer (site_in k text h) k.stored text (part.Next m i u) o (Formed (tree_at k.stored b))) (given (value.Typed (record { tree = u; ty = b })) (frame.Part (part.From n i) o))
next_follows {k} text h o m i u b n w v e =
    let z = site_in k text h in
    let at = place_in text o.at in
    let number = place_in text o.number_at in
    follows_at_once text h _ _ (record { entrance = tt; control = (w, (v, tt)); frame = tt })
    (ap (λ (q : ℕ). typed_answer (part_next z at number (suc (suc q)) i (tree_at k.stored u) (tree_at k.stored b))) e
    ∙ ap (λ (c : Bool). typed_answer (if c then Ok (record { tree = tree_at k.stored u; ty = tree_at k.stored b }) else part_from z.lookups at number (suc (suc n)) (suc i) (tree_at k.stored u) (tree_at k.stored b))) (other_number (suc (suc (suc n))) 2 (λ d. absurd (omega (arith, d)))))
