-- The type of both branches of a choice.
use Rattle.std.proofs.Common.{◌≡◌, ℕ, Bool, true, false, List, [], ◌∷◌, refl, sym, ◌∙◌, ap, subst}
use Rattle.std.specs.Prelude.{if◌then◌else◌, Option, Some, None, Result, Ok, Err}
use Rattle.std.specs.Result.{IsErrAnd}
use Rattle.std.proofs.lemmas.Result.{err_from_is_err_and}
use Rattle.pvs_base.specs.Answers.{◌>>=◌}
use Rattle.pvs_base.specs.declared.place.Pos.{Pos}
use Rattle.pvs_base.specs.declared.code.Code.{Code}
use Rattle.pvs_terms.specs.Tree.{Tree, If}
use Rattle.pvs_terms.specs.declared.shape.Sort.TheVariants.{OfType, OfTerm}
use Rattle.pvs_terms.specs.declared.node.Node.TheVariants as node
use Rattle.pvs_terms.specs.Stored.{tree_at, node_tree}
use Rattle.pvs_subst.specs.Contexts.{Hypothesis}
use Rattle.pvs_types.specs.Outcome.{from_result}
use Rattle.pvs_types.specs.Forms.{up, most, first_among}
use Rattle.pvs_types.specs.Coerce.{coerce}
use Rattle.pvs_types.specs.Typing.{negation}
use Rattle.pvs_typing.specs.Growth.{AreKnown, all_at}
use Rattle.pvs_typing.specs.Answers.{IsOptionKnown, IsRefusal, tree_option}
use Rattle.pvs_typing.specs.declared.fault.TypeFault.{TypeFault}
use Rattle.pvs_typing.proofs.GrowthLaws.{trees_kept}
use Rattle.pvs_elab.specs.Answer.{Answer, within_limits_at, from_outcome, from_outcome_at}
use Rattle.pvs_elab.specs.Elab.{Elab, TypedTree, under_hypothesis}
use Rattle.pvs_elab.specs.Elab as definition
use Rattle.pvs_elaboration.specs.declared.fault.ElabFault.{ElabFault}
use Rattle.pvs_elaboration.specs.declared.here.Here.{Here}
use Rattle.pvs_elaboration.specs.declared.here.Typed as here
use Rattle.pvs_elaboration.specs.declared.value.Value.TheVariants as value
use Rattle.pvs_elaboration.specs.declared.choice.Branches.{Branches}
use Rattle.pvs_elaboration.specs.declared.choice.ChoiceRow.TheVariants.{Join, Types, General, JoinFirst, JoinSecond, Made}
use Rattle.pvs_elaboration.specs.declared.frame.Frame.{Frame}
use Rattle.pvs_elaboration.specs.declared.frame.Frame.TheVariants as frame
use Rattle.pvs_elaboration.specs.declared.frame.Control.TheVariants as control
use Rattle.pvs_elaboration.specs.declared.frame.Entrance.TheVariants as entrance
use Rattle.pvs_elaboration.specs.declared.frame.Next.{Next}
use Rattle.pvs_elaboration.specs.Known.{Sources, place_in, Known, Grows, Site, site_in, IsHere, IsTypeOf, AreKnownNumbers, Failed, IsFault}
use Rattle.pvs_elaboration.specs.Meanings.{Meaning, Typed, Term, Formed, Done, typed_at, typed_answer, fault_of}
use Rattle.pvs_elaboration.specs.Choice.{FindsShared, Places, places_of, join_made, join_second, join_first, join_shared, join_above, join_types, join, first_shared, branch_second, branch_negation, branch_first, choice_answer, choice_numbers}
use Rattle.pvs_elaboration.specs.Machine.{made_answer, Follows, Steps}
use Rattle.pvs_elaboration.proofs.KnownLaws.{grows_trans, number_stays, tree_stays, numbers_stay, failed_then}
use Rattle.pvs_elaboration.proofs.MachineLaws.{then_same, then_two, then_alike, coerced_unused, frame_stays, failed_same}
use Rattle.pvs_elaboration.proofs.StepLaws.{given, follows_at_once, steps_same, type_found, type_refused, typing_failed, refusal_fault}

-- The definition of a choice, with places for those of its branches.

shared_is : (z : Site) (g : Places) (p : Tree) (a : TypedTree) (n : Tree) (b : TypedTree) (o : Option Tree)
    → (definition.shared_type z.lookups g.first g.second g.join (Hypothesis p ∷ z.here.context) (Hypothesis n ∷ z.here.context) a b o >>= join_made g p a b) ≡ join_shared z g p a n b o
shared_is z g p a n b (Some u) = refl
shared_is z g p a n b None =
    let common = from_outcome g.first (from_result (most z.lookups a.ty)) in
    let one : Tree → Answer (Unit {0}) = λ u. from_outcome_at g.first g.join (coerce z.lookups (Hypothesis p ∷ z.here.context) a.tree a.ty u) in
    let two : Tree → Answer (Unit {0}) = λ u. from_outcome_at g.second g.join (coerce z.lookups (Hypothesis n ∷ z.here.context) b.tree b.ty u) in
    then_two common (λ u. one u >>= (λ _. two u >>= (λ _. Ok u))) (join_made g p a b)
    ∙ then_alike common (λ u. (one u >>= (λ _. two u >>= (λ _. Ok u))) >>= join_made g p a b) (join_first z g p a n b)
    (λ u. then_two (one u) (λ _. two u >>= (λ _. Ok u)) (join_made g p a b) ∙ then_alike (one u) (λ _. (two u >>= (λ _. Ok u)) >>= join_made g p a b) (λ _. join_second z g p a n b u) (λ _. then_two (two u) (λ _. Ok u) (join_made g p a b)))

types_are : (z : Site) (g : Places) (p : Tree) (a : TypedTree) (n : Tree) (b : TypedTree)
    → (definition.join_type z.lookups g.first g.second g.join (Hypothesis p ∷ z.here.context) (Hypothesis n ∷ z.here.context) a b >>= join_made g p a b) ≡ join_types z g p a n b
types_are z g p a n b =
    let one = from_outcome g.first (from_result (up z.lookups a.ty)) in
    let two = from_outcome g.second (from_result (up z.lookups b.ty)) in
    let shared : List Tree → List Tree → Answer Tree = λ us vs. definition.shared_type z.lookups g.first g.second g.join (Hypothesis p ∷ z.here.context) (Hypothesis n ∷ z.here.context) a b (first_among us vs) in
    then_two one (λ us. two >>= shared us) (join_made g p a b)
    ∙ then_alike one (λ us. (two >>= shared us) >>= join_made g p a b) (join_above z g p a n b)
    (λ us. then_two two (shared us) (join_made g p a b) ∙ then_alike two (λ vs. shared us vs >>= join_made g p a b) (λ vs. join_shared z g p a n b (first_among us vs)) (λ vs. shared_is z g p a n b (first_among us vs)))

join_is : (z : Site) (early : Bool) (g : Places) (p : Tree) (a : TypedTree) (n : Tree) (b : TypedTree) → definition.choice_join z.lookups early g.first g.second g.join g.at z.here p a n b ≡ join z early g p a n b
join_is z true g p a n b = ap (λ (q : Answer TypedTree). within_limits_at g.at (If p a.tree b.tree) >>= (λ _. q)) (types_are z g p a n b)
join_is z false g p a n b = types_are z g p a n b

pub branches_are : (z : Site) (early : Bool) (x y : Elab) (join_at at : Pos) (p : Tree)
    → definition.choice_first z.lookups early x y join_at at z.here p ≡ branch_first z early (record { first = x.place; second = y.place; join = join_at; at = at }) x y p
branches_are z early x y join_at at p =
    let g : Places = record { first = x.place; second = y.place; join = join_at; at = at } in
    then_alike (x.infer (under_hypothesis p z.here)) (definition.choice_negation z.lookups early x.place y join_at at z.here p) (branch_negation z early g y p)
    (λ a. then_alike (within_limits_at at (negation p)) (definition.choice_second z.lookups early x.place y join_at at z.here p a) (branch_second z early g y p a)
    (λ n. then_alike (y.infer (under_hypothesis n z.here)) (definition.choice_join z.lookups early x.place y.place join_at at z.here p a n) (join z early g p a n) (join_is z early g p a n)))

-- the tree of an early choice is made first

pub join_early_row : (k j : Known) (text : Sources) (h : Here) (b : Branches) (p : ℕ) (a : here.Typed) (n : ℕ) (c : here.Typed) (res : Result Next ElabFault) → b.early ≡ true
    → Steps k j text h (made_answer (site_in k text h) k.stored text b.at (node_tree k.stored (node.If p a.tree c.tree)) (frame.Choice (Types p a n c) b)) res
    → Steps k j text h (choice_answer (site_in k text h) k.stored text (Join p a n) b (Typed (typed_at k.stored c))) res
join_early_row k j text h b p a n c res e t =
    let z = site_in k text h in
    let types = join_types z (places_of text b) (tree_at k.stored p) (typed_at k.stored a) (tree_at k.stored n) (typed_at k.stored c) in
    let tree = within_limits_at (place_in text b.at) (If (tree_at k.stored p) (tree_at k.stored a.tree) (tree_at k.stored c.tree)) in
    steps_same k j text h _ _ res (ap (λ (early : Bool). typed_answer (if early then tree >>= (λ _. types) else types)) e ∙ then_same tree (λ _. types) (λ (u : TypedTree). Ok (Typed u))) t

pub join_follows : {k : Known} (text : Sources) (h : Here) (b : Branches) (p : ℕ) (a : here.Typed) (n : ℕ) (c : here.Typed) → b.early ≡ false → AreKnownNumbers k (choice_numbers (Types p a n c))
    → Follows k k text h (choice_answer (site_in k text h) k.stored text (Join p a n) b (Typed (typed_at k.stored c))) (given (value.Term p) (frame.Choice (Types p a n c) b))
join_follows {k} text h b p a n c e m =
    let z = site_in k text h in
    let types = join_types z (places_of text b) (tree_at k.stored p) (typed_at k.stored a) (tree_at k.stored n) (typed_at k.stored c) in
    let tree = within_limits_at (place_in text b.at) (If (tree_at k.stored p) (tree_at k.stored a.tree) (tree_at k.stored c.tree)) in
    follows_at_once text h _ _ (record { entrance = tt; control = (m.0, tt); frame = m }) (ap (λ (early : Bool). typed_answer (if early then tree >>= (λ _. types) else types)) e)

-- The first type that is above both.

pub shared_found : {a b : Known} (at : Pos) (is js : List ℕ) (i : ℕ) (o : Option ℕ) → Grows a b → AreKnown a.stored a.declares OfType is → up a.lookups (tree_at a.stored i) ≡ Ok (all_at b.stored js) → IsOptionKnown b.stored b.declares o
    → tree_option b.stored o ≡ first_among (all_at b.stored is) (all_at b.stored js) → FindsShared a b (first_shared a.lookups at (all_at a.stored is) (tree_at a.stored i)) o
shared_found {a} {b} at is js i o g n d m e = record {
  kept = g;
  known = m;
  is = ap (λ (q : Result (List Tree) Code). from_outcome at (from_result q) >>= (λ (vs : List Tree). Ok (first_among (all_at a.stored is) vs))) d
      ∙ ap (λ (us : List Tree). Ok (first_among us (all_at b.stored js))) (sym (trees_kept OfType is g.keeps n)) ∙ ap Ok (sym e);
}

pub shared_refused : {a b : Known} (at : Pos) (us : List Tree) (t : Tree) (e : TypeFault) → Grows a b → IsRefusal (up a.lookups t) e → Failed a b (first_shared a.lookups at us t) (fault_of at at e)
shared_refused {a} at us t e g x = typing_failed at at (from_result (up a.lookups t)) (λ (vs : List Tree). Ok (first_among us vs)) e g (refusal_fault (up a.lookups t) e x)

-- the same from a store that has grown
pub shared_stays : {a b : Known} (at : Pos) (us : List Tree) {i : ℕ} → Grows a b → IsTypeOf a i → first_shared b.lookups at us (tree_at b.stored i) ≡ first_shared a.lookups at us (tree_at a.stored i)
shared_stays at us g n = rw (g.keeps.lookups, tree_stays g n) refl

pub shared_kept : {a m b : Known} (at : Pos) (us : List Tree) {i : ℕ} (o : Option ℕ) → Grows a m → IsTypeOf a i → FindsShared m b (first_shared m.lookups at us (tree_at m.stored i)) o → FindsShared a b (first_shared a.lookups at us (tree_at a.stored i)) o
shared_kept at us o g n f = record { kept = grows_trans g f.kept; known = f.known; is = sym (shared_stays at us g n) ∙ f.is }

pub shared_fault_kept : {a m b : Known} (at : Pos) (us : List Tree) {i : ℕ} (e : ElabFault) → Grows a m → IsTypeOf a i → Failed m b (first_shared m.lookups at us (tree_at m.stored i)) e → Failed a b (first_shared a.lookups at us (tree_at a.stored i)) e
shared_fault_kept at us e g n f = record { kept = grows_trans g f.kept; is = subst (λ (q : Answer (Option Tree)). IsFault q e) (shared_stays at us g n) f.is }

-- what a `?` hands on
pub result_err : {V : Type 0} {e : ElabFault} (r : Result V ElabFault) → IsErrAnd r (λ (y : ElabFault). y ≡ e) → r ≡ Err e
result_err r h = let p = err_from_is_err_and r h in p.1 ∙ ap Err p.2

-- A type above both, if there is one.

types_found : (z : Site) (g : Places) (p : Tree) (a : TypedTree) (n : Tree) (b : TypedTree) (us : List Tree) (o : Option Tree) → up z.lookups a.ty ≡ Ok us → first_shared z.lookups g.second us b.ty ≡ Ok o
    → join_types z g p a n b ≡ join_shared z g p a n b o
types_found z g p a n b us o d e =
    ap (λ (q : Result (List Tree) Code). from_outcome g.first (from_result q) >>= join_above z g p a n b) d
    ∙ sym (then_two (from_outcome g.second (from_result (up z.lookups b.ty))) (λ (vs : List Tree). Ok (first_among us vs)) (join_shared z g p a n b))
    ∙ ap (λ (q : Answer (Option Tree)). q >>= join_shared z g p a n b) e

pub types_shared : {a b : Known} (text : Sources) (h : Here) (br : Branches) (p : ℕ) (q : here.Typed) (n : ℕ) (c : here.Typed) (t u : ℕ) (us : List Tree) → Grows a b → IsHere a h
    → AreKnownNumbers a (choice_numbers (Types p q n c)) → IsTypeOf b u → up a.lookups (tree_at a.stored q.ty) ≡ Ok us → first_shared a.lookups (place_in text br.second_at) us (tree_at a.stored c.ty) ≡ Ok (Some (tree_at b.stored u))
    → Follows a b text h (choice_answer (site_in a text h) a.stored text (Types p q n c) br (Term (tree_at a.stored t))) (given (value.Term p) (frame.Choice (Made p q c u) br))
unfolding site_in
types_shared {a} {b} text h br p q n c t u us g i m k d e =
    let z = site_in a text h in
    record {
      kept = g;
      known = record { entrance = tt; control = (number_stays g m.0, tt); frame = (number_stays g m.0, (number_stays g m.1.0, (number_stays g m.1.1.0, (number_stays g m.1.1.1.1.0, (number_stays g m.1.1.1.1.1.0, (k, tt)))))) };
      is = ap typed_answer (types_found z (places_of text br) (tree_at a.stored p) (typed_at a.stored q) (tree_at a.stored n) (typed_at a.stored c) us (Some (tree_at b.stored u)) d e)
          ∙ made_stays text br p q c u (tree_at b.stored u) g (m.0, (m.1.0, (m.1.1.0, (m.1.1.1.1.0, (m.1.1.1.1.1.0, tt)))));
    }
  where
    made_stays : {a b : Known} (text : Sources) (br : Branches) (p : ℕ) (q c : here.Typed) (u : ℕ) (v : Tree) → Grows a b → AreKnownNumbers a ((OfTerm, p) ∷ (OfTerm, q.tree) ∷ (OfType, q.ty) ∷ (OfTerm, c.tree) ∷ (OfType, c.ty) ∷ [])
        → typed_answer (join_made (places_of text br) (tree_at a.stored p) (typed_at a.stored q) (typed_at a.stored c) v) ≡ typed_answer (join_made (places_of text br) (tree_at b.stored p) (typed_at b.stored q) (typed_at b.stored c) v)
    made_stays text br p q c u v g m = rw (tree_stays g m.0, tree_stays g m.1.0, tree_stays g m.1.1.1.0) refl

pub types_apart : {a b : Known} (text : Sources) (h : Here) (br : Branches) (p : ℕ) (q : here.Typed) (n : ℕ) (c : here.Typed) (t : ℕ) (us : List Tree) → Grows a b → IsHere a h
    → AreKnownNumbers a (choice_numbers (Types p q n c)) → up a.lookups (tree_at a.stored q.ty) ≡ Ok us → first_shared a.lookups (place_in text br.second_at) us (tree_at a.stored c.ty) ≡ Ok None
    → Follows a b text h (choice_answer (site_in a text h) a.stored text (Types p q n c) br (Term (tree_at a.stored t))) (given value.Done (frame.Choice (General p q n c) br))
unfolding site_in
types_apart {a} {b} text h br p q n c t us g i m d e =
    let z = site_in a text h in
    record {
      kept = g;
      known = record { entrance = tt; control = tt; frame = numbers_stay (choice_numbers (General p q n c)) g m };
      is = ap typed_answer (types_found z (places_of text br) (tree_at a.stored p) (typed_at a.stored q) (tree_at a.stored n) (typed_at a.stored c) us None d e)
          ∙ sym (ap (λ (w : Meaning → Answer Meaning). w Done) (frame_stays text h (frame.Choice (General p q n c) br) g i m));
    }

pub first_type_refused : {a b : Known} (text : Sources) (h : Here) (br : Branches) (p : ℕ) (q : here.Typed) (n : ℕ) (c : here.Typed) (t : ℕ) (e : TypeFault) → Grows a b → IsRefusal (up a.lookups (tree_at a.stored q.ty)) e
    → Failed a b (choice_answer (site_in a text h) a.stored text (Types p q n c) br (Term (tree_at a.stored t))) (fault_of (place_in text br.first_at) (place_in text br.first_at) e)
unfolding site_in
first_type_refused {a} text h br p q n c t e g x =
    let z = site_in a text h in
    failed_then (λ (u : TypedTree). Ok (Typed u)) (fault_of (place_in text br.first_at) (place_in text br.first_at) e)
    (typing_failed (place_in text br.first_at) (place_in text br.first_at) (from_result (up a.lookups (tree_at a.stored q.ty))) (join_above z (places_of text br) (tree_at a.stored p) (typed_at a.stored q) (tree_at a.stored n) (typed_at a.stored c)) e g
    (refusal_fault (up a.lookups (tree_at a.stored q.ty)) e x))

pub second_type_refused : {a b : Known} (text : Sources) (h : Here) (br : Branches) (p : ℕ) (q : here.Typed) (n : ℕ) (c : here.Typed) (t : ℕ) (us : List Tree) (e : ElabFault) → up a.lookups (tree_at a.stored q.ty) ≡ Ok us
    → Failed a b (first_shared a.lookups (place_in text br.second_at) us (tree_at a.stored c.ty)) e
    → Failed a b (choice_answer (site_in a text h) a.stored text (Types p q n c) br (Term (tree_at a.stored t))) e
unfolding site_in
second_type_refused {a} {b} text h br p q n c t us e d x =
    let z = site_in a text h in
    let found = from_outcome (place_in text br.second_at) (from_result (up a.lookups (tree_at a.stored c.ty))) in
    let shared = join_shared z (places_of text br) (tree_at a.stored p) (typed_at a.stored q) (tree_at a.stored n) (typed_at a.stored c) in
    let above = join_above z (places_of text br) (tree_at a.stored p) (typed_at a.stored q) (tree_at a.stored n) (typed_at a.stored c) in
    failed_same _ _ e
    (ap (λ (r : Result (List Tree) Code). typed_answer (from_outcome (place_in text br.first_at) (from_result r) >>= above)) d
    ∙ ap typed_answer (sym (then_two found (λ (vs : List Tree). Ok (first_among us vs)) shared)))
    (failed_then (λ (u : TypedTree). Ok (Typed u)) e (failed_then shared e x))

-- The most general type of the first branch, and both branches as ones of it.

pub general_follows : {a b : Known} (text : Sources) (h : Here) (br : Branches) (p : ℕ) (q : here.Typed) (n : ℕ) (c : here.Typed) (i : ℕ) → Grows a b → IsHere a h → AreKnownNumbers a (choice_numbers (General p q n c)) → IsTypeOf b i
    → most a.lookups (tree_at a.stored q.ty) ≡ Ok (tree_at b.stored i)
    → Follows a b text h (choice_answer (site_in a text h) a.stored text (General p q n c) br Done) (given (value.Formed i) (frame.Choice (JoinFirst p q n c) br))
unfolding site_in
general_follows {a} text h br p q n c i g m x t e =
    type_found text h (place_in text br.first_at) (most a.lookups (tree_at a.stored q.ty)) (join_first (site_in a text h) (places_of text br) (tree_at a.stored p) (typed_at a.stored q) (tree_at a.stored n) (typed_at a.stored c))
    (λ (u : TypedTree). Ok (Typed u)) (frame.Choice (JoinFirst p q n c) br) i g m x t e (λ u. refl)

pub general_refused : {a b : Known} (text : Sources) (h : Here) (br : Branches) (p : ℕ) (q : here.Typed) (n : ℕ) (c : here.Typed) (e : TypeFault) → Grows a b → IsRefusal (most a.lookups (tree_at a.stored q.ty)) e
    → Failed a b (choice_answer (site_in a text h) a.stored text (General p q n c) br Done) (fault_of (place_in text br.first_at) (place_in text br.first_at) e)
unfolding site_in
general_refused {a} text h br p q n c e g x =
    type_refused (place_in text br.first_at) (most a.lookups (tree_at a.stored q.ty)) (join_first (site_in a text h) (places_of text br) (tree_at a.stored p) (typed_at a.stored q) (tree_at a.stored n) (typed_at a.stored c)) (λ (u : TypedTree). Ok (Typed u)) e g x

-- what coerces under a hypothesis, with a place for a fault and another for TooLarge
abbrev pub joins_under : ℕ → here.Typed → ℕ → ℕ → ℕ → Frame → Next
joins_under p t large at u f = record { entrance = entrance.Hypothesis p; control = control.Coerce t large at u; frame = f }

pub join_first_follows : {k : Known} (text : Sources) (h : Here) (br : Branches) (p : ℕ) (q : here.Typed) (n : ℕ) (c : here.Typed) (i : ℕ) → IsTypeOf k i → AreKnownNumbers k (choice_numbers (JoinFirst p q n c))
    → Follows k k text h (choice_answer (site_in k text h) k.stored text (JoinFirst p q n c) br (Formed (tree_at k.stored i))) (joins_under p q br.first_at br.join i (frame.Choice (JoinSecond p q n c i) br))
join_first_follows {k} text h br p q n c i t m =
    let z = site_in k text h in
    follows_at_once text h _ _ (record { entrance = (m.0, tt); control = (m.1.0, (m.1.1.0, (t, tt))); frame = (m.0, (m.1.0, (m.1.1.0, (m.1.1.1.0, (m.1.1.1.1.0, (m.1.1.1.1.1.0, (t, tt))))))) })
    (coerced_unused (from_outcome_at (place_in text br.first_at) (place_in text br.join) (coerce z.lookups (Hypothesis (tree_at k.stored p) ∷ z.here.context) (tree_at k.stored q.tree) (tree_at k.stored q.ty) (tree_at k.stored i))) (tree_at k.stored q.tree)
    (join_second z (places_of text br) (tree_at k.stored p) (typed_at k.stored q) (tree_at k.stored n) (typed_at k.stored c) (tree_at k.stored i)) (λ (u : TypedTree). Ok (Typed u)))

pub join_second_follows : {k : Known} (text : Sources) (h : Here) (br : Branches) (p : ℕ) (q : here.Typed) (n : ℕ) (c : here.Typed) (i t : ℕ) → AreKnownNumbers k (choice_numbers (JoinSecond p q n c i))
    → Follows k k text h (choice_answer (site_in k text h) k.stored text (JoinSecond p q n c i) br (Term (tree_at k.stored t))) (joins_under n c br.second_at br.join i (frame.Choice (Made p q c i) br))
join_second_follows {k} text h br p q n c i t m =
    let z = site_in k text h in
    follows_at_once text h _ _ (record { entrance = (m.1.1.1.0, tt); control = (m.1.1.1.1.0, (m.1.1.1.1.1.0, (m.1.1.1.1.1.1.0, tt))); frame = (m.0, (m.1.0, (m.1.1.0, (m.1.1.1.1.0, (m.1.1.1.1.1.0, (m.1.1.1.1.1.1.0, tt)))))) })
    (coerced_unused (from_outcome_at (place_in text br.second_at) (place_in text br.join) (coerce z.lookups (Hypothesis (tree_at k.stored n) ∷ z.here.context) (tree_at k.stored c.tree) (tree_at k.stored c.ty) (tree_at k.stored i))) (tree_at k.stored c.tree)
    (join_made (places_of text br) (tree_at k.stored p) (typed_at k.stored q) (typed_at k.stored c) (tree_at k.stored i)) (λ (u : TypedTree). Ok (Typed u)))

pub made_row : (k j : Known) (text : Sources) (h : Here) (br : Branches) (p : ℕ) (q c : here.Typed) (u t : ℕ) (res : Result Next ElabFault)
    → Steps k j text h (made_answer (site_in k text h) k.stored text br.at (node_tree k.stored (node.If p q.tree c.tree)) (frame.WithType u)) res
    → Steps k j text h (choice_answer (site_in k text h) k.stored text (Made p q c u) br (Term (tree_at k.stored t))) res
made_row k j text h br p q c u t res s =
    steps_same k j text h _ _ res
    (then_same (within_limits_at (place_in text br.at) (If (tree_at k.stored p) (tree_at k.stored q.tree) (tree_at k.stored c.tree))) (λ (v : Tree). Ok (record { tree = v; ty = tree_at k.stored u })) (λ (v : TypedTree). Ok (Typed v))) s
