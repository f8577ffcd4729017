-- Whether a type is known to be nonempty, by the types that are left to ask.
use Rattle.std.proofs.Common.{◌≡◌, ℕ, ◌+◌, ◌<◌, Bool, true, false, List, [], ◌∷◌, ◌++◌, Option, Some, None, Result, Ok, Err, refl, ap, ap₂, ◌∙◌, sym, subst, arith}
use Rattle.pvs_base.specs.Answers.{◌>>=◌}
use Rattle.pvs_base.specs.declared.code.Code.{Code}
use Rattle.pvs_base.specs.declared.code.Code.TheVariants as code
use Rattle.pvs_terms.specs.Tree.{Tree, Ref, Text, Trees, Inst, TBool, TName, TFun, TPair}
use Rattle.pvs_terms.specs.declared.node.Node.{Node}
use Rattle.pvs_terms.specs.declared.node.Node.TheVariants as node
use Rattle.pvs_terms.specs.declared.shape.Sort.{Sort}
use Rattle.pvs_terms.specs.declared.shape.Sort.TheVariants.{OfType}
use Rattle.pvs_terms.specs.Stored.{Stored, text_at, tree_at, node_tree}
use Rattle.pvs_subst.specs.declared.fault.SubstFault.{SubstFault}
use Rattle.pvs_subst.specs.declared.fault.SubstFault.TheVariants as replaced
use Rattle.pvs_sig.specs.Signature.{Kind, TypeSig, ConstSig, VarSig, FormulaSig, kind_in, instantiate_found}
use Rattle.pvs_sig.specs.Development.{Development, theory_named}
use Rattle.pvs_sig.specs.LookupsOf.{is_nonempty_kind}
use Rattle.pvs_sig.specs.Lookups.{Lookups, type_size, IsOrdered}
use Rattle.pvs_types.specs.Forms.{body, by_body, is_known_nonempty, nonempty_by}
use Rattle.pvs_types.proofs.FormsLaws.{nonempty_step, body_is}
use Rattle.pvs_instantiate.specs.InstancesView.{InstancesView, development}
use Rattle.pvs_instantiate.specs.Parts.{kind_by, kind_from}
use Rattle.pvs_instantiate.proofs.TheoryLaws.{itself}
use Rattle.pvs_typing.specs.declared.fault.TypeFault.{TypeFault}
use Rattle.pvs_typing.specs.declared.fault.TypeFault.TheVariants as fault
use Rattle.pvs_typing.specs.Answers.{IsRefusal, of_subst, tree_option}
use Rattle.pvs_typing.specs.Growth.{AreKnown, IsKnown, Keeps}
use Rattle.pvs_typing.proofs.GrowthLaws.{all_kept}
use Rattle.pvs_typing.proofs.TaskLaws.{size_positive}
use Rattle.pvs_place.specs.Place.{IsLatest, lookups_in}
use Rattle.pvs_place.specs.declared.nonempty.Nonempty.{Nonempty}
use Rattle.pvs_place.specs.declared.nonempty.Nonempty.TheVariants.{Always, If, IfBoth, Never}
use Rattle.pvs_place.specs.code.Nonempty.{Reduces, are_nonempty, both, needed_types, nonempty_result, types_work}

-- an instance of a type is declared nonempty where the type is
instance_nonempty : (k : Option Kind) (th : Text) (xs : Trees) → is_nonempty_kind (instantiate_found k th xs) ≡ is_nonempty_kind k
instance_nonempty None th xs = refl
instance_nonempty (Some (TypeSig b t)) th xs = refl
instance_nonempty (Some (ConstSig t u)) th xs = refl
instance_nonempty (Some (VarSig t)) th xs = refl
instance_nonempty (Some (FormulaSig c t o)) th xs = refl

instance_read : (v : InstancesView) (n : ℕ) (r : Ref) (th : Text) (k : ℕ) (xs : Trees) → IsLatest v n → r ≡ Inst th k xs
    → is_nonempty_kind (kind_from (development v) (text_at v.store n) r) ≡ is_nonempty_kind (kind_in (theory_named (development v) th) k)
instance_read v n r th k xs h e =
    rw (e, h.reads, h.name)
    (ap (λ z. is_nonempty_kind (kind_by (h.signature ∷ h.others) z (Inst th k xs))) (itself h.signature h.others)
    ∙ instance_nonempty (kind_in (theory_named (h.signature ∷ h.others) th) k) th xs)

pub instance_answer : (v : InstancesView) (n : ℕ) (r : Ref) (th : Text) (k : ℕ) (xs : Trees) (b : Bool) → IsLatest v n → r ≡ Inst th k xs
    → (lookups_in (development v)).is_nonempty r ≡ is_nonempty_kind (kind_from (development v) (text_at v.store n) r) → b ≡ is_nonempty_kind (kind_in (theory_named (development v) th) k)
    → b ≡ (lookups_in (development v)).is_nonempty r
instance_answer v n r th k xs b h e x y = y ∙ sym (x ∙ instance_read v n r th k xs h e)

-- Answers in order.

both_yes : (x : Result Bool Code) → both x (Ok true) ≡ x
both_yes (Ok true) = refl
both_yes (Ok false) = refl
both_yes (Err c) = refl

both_assoc : (x y z : Result Bool Code) → both (both x y) z ≡ both x (both y z)
both_assoc (Ok true) y z = refl
both_assoc (Ok false) y z = refl
both_assoc (Err c) y z = refl

pub are_nonempty-append : (l : Lookups) (s : Stored) (is js : List ℕ) → are_nonempty l s (is ++ js) ≡ both (are_nonempty l s js) (are_nonempty l s is)
are_nonempty-append l s [] js = sym (both_yes (are_nonempty l s js))
are_nonempty-append l s (i ∷ is) js =
    ap (λ x. both x (is_known_nonempty l (tree_at s i))) (are_nonempty-append l s is js)
    ∙ both_assoc (are_nonempty l s js) (are_nonempty l s is) (is_known_nonempty l (tree_at s i))

pub types_work-append : (l : Lookups) (s : Stored) (is js : List ℕ) → types_work l s (is ++ js) ≡ types_work l s is + types_work l s js
types_work-append l s [] js = omega arith
types_work-append l s (i ∷ is) js = let h = types_work-append l s is js in omega arith

pub known_types-append : (s : Stored) (P : Sort → Ref → Type 0) (is js : List ℕ) → AreKnown s P OfType is → AreKnown s P OfType js → AreKnown s P OfType (is ++ js)
known_types-append s P [] js h k = k
known_types-append s P (i ∷ is) js h k = (h.0, known_types-append s P is js h.1 k)

pub known_types-split : (s : Stored) (P : Sort → Ref → Type 0) (is js : List ℕ) → AreKnown s P OfType (is ++ js) → AreKnown s P OfType is × AreKnown s P OfType js
known_types-split s P [] js h = (tt, h)
known_types-split s P (i ∷ is) js h = let r = known_types-split s P is js h.1 in ((h.0, r.0), r.1)

-- Where the store grows.

module _ {s t : Stored} {P Q : Sort → Ref → Type 0} {l m : Lookups} {D E : Development} (k : Keeps s P l t Q m D E) where
  pub are_nonempty_same : (n : Lookups) (is : List ℕ) → AreKnown s P OfType is → are_nonempty n t is ≡ are_nonempty n s is
  are_nonempty_same n [] h = refl
  are_nonempty_same n (i ∷ is) h = ap₂ both (are_nonempty_same n is h.1) (ap (is_known_nonempty n) (k.stored.trees i h.0.node))

  pub types_work_same : (n : Lookups) (is : List ℕ) → AreKnown s P OfType is → types_work n t is ≡ types_work n s is
  types_work_same n [] h = refl
  types_work_same n (i ∷ is) h = ap₂ ◌+◌ (ap (type_size n.rank) (k.stored.trees i h.0.node)) (types_work_same n is h.1)

-- The forms.

abbrev pub IsOther : Node → Type 0
IsOther n = (n ≡ node.TBool → ⊥) × ((r : ℕ) → n ≡ node.TName r → ⊥) × ((a b : ℕ) → n ≡ node.TFun a b → ⊥) × ((k a b : ℕ) → n ≡ node.TPair k a b → ⊥)

other_case : (l : Lookups) (s : Stored) (go : Tree → Result Bool Code) (n : Node) → IsOther n → nonempty_by l go (node_tree s n) ≡ Ok false
other_case l s go node.TBool h = absurd (h.0 refl)
other_case l s go (node.TName r) h = absurd (h.1 r refl)
other_case l s go (node.TFun a b) h = absurd (h.2 a b refl)
other_case l s go (node.TPair k a b) h = absurd (h.3 k a b refl)
other_case l s go (node.TSub a p) h = refl
other_case l s go (node.Var n) h = refl
other_case l s go (node.Const r) h = refl
other_case l s go node.True h = refl
other_case l s go node.False h = refl
other_case l s go (node.Lam a b) h = refl
other_case l s go (node.App a b) h = refl
other_case l s go (node.Tup k a b) h = refl
other_case l s go (node.Fst k a) h = refl
other_case l s go (node.Snd k a) h = refl
other_case l s go (node.If a b c) h = refl
other_case l s go (node.Eq a b) h = refl

module _ (l : Lookups) (ordered : IsOrdered l) where
  pub truth_reduces : (s : Stored) (P : Sort → Ref → Type 0) (t : Tree) → t ≡ TBool → Reduces l s P t Always
  truth_reduces s P t e = record {
    known = tt;
    result = nonempty_step l ordered t ∙ ap (nonempty_by l (is_known_nonempty l)) e;
    less = size_positive l.rank t;
  }

  pub function_reduces : (s : Stored) (P : Sort → Ref → Type 0) (t : Tree) (a b : ℕ) → t ≡ TFun (tree_at s a) (tree_at s b) → IsKnown s P OfType b → Reduces l s P t (If b)
  function_reduces s P t a b e h = record {
    known = (h, tt);
    result = nonempty_step l ordered t ∙ ap (nonempty_by l (is_known_nonempty l)) e;
    less = rw e (omega arith);
  }

  pub pair_reduces : (s : Stored) (P : Sort → Ref → Type 0) (t : Tree) (k a b : ℕ) → t ≡ TPair k (tree_at s a) (tree_at s b) → IsKnown s P OfType a → IsKnown s P OfType b → Reduces l s P t (IfBoth a b)
  pair_reduces s P t k a b e h i = record {
    known = (i, (h, tt));
    result = nonempty_step l ordered t ∙ ap (nonempty_by l (is_known_nonempty l)) e;
    less = rw e (omega arith);
  }

  pub other_reduces : (s u : Stored) (P : Sort → Ref → Type 0) (t : Tree) (n : Node) → t ≡ node_tree s n → IsOther n → Reduces l u P t Never
  other_reduces s u P t n e h = record {
    known = tt;
    result = nonempty_step l ordered t ∙ rw e (other_case l s (is_known_nonempty l) n h);
    less = size_positive l.rank t;
  }

  name_step : (r : Ref) → is_known_nonempty l (TName r) ≡ (body l r >>= by_body (is_known_nonempty l) (Ok (l.is_nonempty r)))
  name_step r = nonempty_step l ordered (TName r)

  pub body_reduces : (s : Stored) (P : Sort → Ref → Type 0) (r : Ref) (i : ℕ) → body l r ≡ Ok (tree_option s (Some i)) → IsKnown s P OfType i → Reduces l s P (TName r) (If i)
  body_reduces s P r i e h = record {
    known = (h, tt);
    result = name_step r ∙ ap (λ x. x >>= by_body (is_known_nonempty l) (Ok (l.is_nonempty r))) e;
    less = let q = ordered r (tree_at s i) (body_is l r (Some (tree_at s i)) e) in omega arith;
  }

  pub declared_reduces : (s : Stored) (P : Sort → Ref → Type 0) (r : Ref) → body l r ≡ Ok (tree_option s None) → true ≡ l.is_nonempty r → Reduces l s P (TName r) Always
  declared_reduces s P r e h = record {
    known = tt;
    result = name_step r ∙ ap (λ x. x >>= by_body (is_known_nonempty l) (Ok (l.is_nonempty r))) e ∙ ap Ok (sym h);
    less = omega arith;
  }

  pub undeclared_reduces : (s : Stored) (P : Sort → Ref → Type 0) (r : Ref) → body l r ≡ Ok (tree_option s None) → false ≡ l.is_nonempty r → Reduces l s P (TName r) Never
  undeclared_reduces s P r e h = record {
    known = tt;
    result = name_step r ∙ ap (λ x. x >>= by_body (is_known_nonempty l) (Ok (l.is_nonempty r))) e ∙ ap Ok (sym h);
    less = omega arith;
  }

  pub body_fault : {X : Type 0} (r : Ref) (e : SubstFault) → (◌≡◌ {A = Result X SubstFault} (Err e) (Err replaced.TooLarge) → body l r ≡ Err code.TooLarge) → IsRefusal (is_known_nonempty l (TName r)) (of_subst e)
  body_fault r replaced.TooLarge h = name_step r ∙ ap (λ x. x >>= by_body (is_known_nonempty l) (Ok (l.is_nonempty r))) (h refl)
  body_fault r replaced.Memory h = tt

-- The loop: the answer is that of the types that are left.

pub record Left (l : Lookups) (s : Stored) (P : Sort → Ref → Type 0) (r : Result Bool Code) (is : List ℕ) : Type 0 where
  pub known : AreKnown s P OfType is
  pub result : r ≡ are_nonempty l s is

needed_result : (l : Lookups) (s : Stored) (x : Nonempty) → (x ≡ Never → ⊥) → nonempty_result l s x ≡ are_nonempty l s (needed_types x)
needed_result l s Always h = refl
needed_result l s (If i) h = refl
needed_result l s (IfBoth i j) h = refl
needed_result l s Never h = absurd (h refl)

pub left_begins : (l : Lookups) (s : Stored) (P : Sort → Ref → Type 0) (is : List ℕ) (i : ℕ) → is ≡ i ∷ [] → IsKnown s P OfType i → Left l s P (is_known_nonempty l (tree_at s i)) is
left_begins l s P is i e h = rw e (record { known = (h, tt); result = refl })

module _ {s : Stored} {P : Sort → Ref → Type 0} {l : Lookups} {r : Result Bool Code} (is js : List ℕ) (i : ℕ) (left : Left l s P r js) (e : js ≡ is ++ i ∷ []) where
  last_known : AreKnown s P OfType is × IsKnown s P OfType i
  last_known = let h = known_types-split s P is (i ∷ []) (subst (AreKnown s P OfType) e left.known) in (h.0, h.1.0)

  last_result : r ≡ both (is_known_nonempty l (tree_at s i)) (are_nonempty l s is)
  last_result = left.result ∙ ap (are_nonempty l s) e ∙ are_nonempty-append l s is (i ∷ [])

  pub left_form : IsKnown s P OfType i
  left_form = last_known.1

  pub left_fault : {m : Lookups} (f : TypeFault) → m ≡ l → IsRefusal (is_known_nonempty m (tree_at s i)) f → IsRefusal r f
  left_fault (fault.Refused c) h x = last_result ∙ ap (λ y. both y (are_nonempty l s is)) (subst (λ z. is_known_nonempty z (tree_at s i) ≡ Err c) h x)
  left_fault fault.Memory h x = tt

  module _ {t : Stored} {Q : Sort → Ref → Type 0} {m n : Lookups} {D E : Development} (k : Keeps s P n t Q m D E) (same : n ≡ l) where
    pub left_never : {x : Nonempty} → Reduces n t Q (tree_at s i) x → x ≡ Never → r ≡ Ok false
    left_never {x} h z =
        let x : is_known_nonempty l (tree_at s i) ≡ nonempty_result l t Never = rw (same, z) at h.result in
        last_result ∙ ap (λ y. both y (are_nonempty l s is)) x

    pub left_goes_on : {x : Nonempty} (ks : List ℕ) → Reduces n t Q (tree_at s i) x → (x ≡ Never → ⊥) → ks ≡ is ++ needed_types x → Left l t Q r ks
    left_goes_on {x} ks h z f =
        let y : is_known_nonempty l (tree_at s i) ≡ nonempty_result l t x = rw same at h.result in
        let kept : AreKnown t Q OfType is = all_kept OfType is k last_known.0 in
        rw f (record {
          known = known_types-append t Q is (needed_types x) kept h.known;
          result = last_result ∙ ap₂ both (y ∙ needed_result l t x z) (sym (are_nonempty_same k l is last_known.0)) ∙ sym (are_nonempty-append l t is (needed_types x));
        })

    pub left_less : {x : Nonempty} (ks : List ℕ) → Reduces n t Q (tree_at s i) x → ks ≡ is ++ needed_types x → types_work l t ks < types_work l s js
    left_less {x} ks h f =
        let a : types_work l t ks ≡ types_work l t is + types_work l t (needed_types x) = ap (types_work l t) f ∙ types_work-append l t is (needed_types x) in
        let b : types_work l t is ≡ types_work l s is = types_work_same k l is last_known.0 in
        let c : types_work l s js ≡ types_work l s is + types_work l s (i ∷ []) = ap (types_work l s) e ∙ types_work-append l s is (i ∷ []) in
        let d : types_work l t (needed_types x) < type_size l.rank (tree_at s i) = rw same at h.less in
        omega arith
