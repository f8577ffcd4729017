-- The theory of the tests may stand, and its references are there.
use Rattle.std.proofs.Common.{◌≡◌, ◌<◌, inl, inr, ℕ, zero, suc, cond, None, Some, Option, List, [], ◌∷◌, length, map, slice_get, false, true≢false, refl, sym, ap, ap₂, ◌∙◌, subst, arith}
use Rattle.std.specs.Prelude.{option_map, IsSome, bytes_eq}
use Rattle.pvs_terms.specs.Tree.{Text, Tree, Formal, Inst, TBool, TName, True, False, none, more}
use Rattle.pvs_terms.specs.declared.shape.Plain.TheVariants.{No}
use Rattle.pvs_terms.specs.declared.shape.Sort.{Sort}
use Rattle.pvs_terms.specs.declared.shape.Sort.TheVariants.{OfType, OfTerm}
use Rattle.pvs_terms.specs.Stored.{Stored, Extends, Stands, StandsRef, IsName, IsNode, text_at, tree_at, ref_at}
use Rattle.pvs_terms.proofs.StoredLaws.{extends_trans}
use Rattle.pvs_sig.specs.declared.signature.Class.TheVariants.{Lemma}
use Rattle.pvs_sig.specs.declared.signature.Signature as numbers
use Rattle.pvs_sig.specs.Signature.{Signature, Entry, Kind, TypeSig, ConstSig, VarSig, FormulaSig, entry_kind, formal_kind, kind_at, kind_in, formals_in, instantiate_found}
use Rattle.pvs_sig.specs.SignatureAt.{AllIn, signature_at, formal_sig_at, entry_at, import_at, SignatureIn, FormalIn, EntryIn, ImportIn}
use Rattle.pvs_sig.specs.References.{EachRef, KindEach}
use Rattle.pvs_sig.specs.Laws.{without, Avoids}
use Rattle.pvs_sig.specs.Development.{Development, theory_named, IsSignatureOver, IsTreeOver, IsKindOver, HasSort, MatchFormals, IsBefore, seen_by, In}
use Rattle.pvs_instantiate.specs.InstancesView.{InstancesView, development, Leaves}
use Rattle.pvs_instantiate.specs.Visible.{HasNoImports, LacksImports}
use Rattle.pvs_instantiate.specs.Grown.{IsAlone, MayGrow, MayBecome, grown, become, with_entry}
use Rattle.pvs_instantiate.specs.Parts.{IsRefBy, IsRefFrom, IsConstant, IsFormula, kind_by, kind_from}
use Rattle.pvs_instantiate.specs.code.Examples.{IsSimple, IsSimpleKind, AreExampleTrees, AreExampleRefs, IsExampleOf, IsExample, HasExample}
use Rattle.pvs_instantiate.proofs.ListLaws.{all_append}
use Rattle.pvs_instantiate.proofs.TheoryLaws.{text_itself, itself}
use Rattle.pvs_instantiate.proofs.GrowLaws.{kinds_append}

simple_tree : (d : Development) (s : Signature) (th : Text) (o : Sort) (t : Tree) → s.formals ≡ record { name = th; nonempty = false; ty = None } ∷ [] → IsSimple o t → IsTreeOver d s o t
simple_tree d s th o t f (inl (x, e, k)) = subst (IsTreeOver d s o) (sym e) (record { sort = k; closed = refl; sorted = tt; declared = tt })
simple_tree d s th o t f (inr (e, k)) =
    subst (λ u. IsTreeOver d s o u) (sym e) (record { sort = sym k; closed = refl; sorted = tt; declared = subst (λ l. HasSort OfType (option_map formal_kind (slice_get l 0))) (sym f) tt })

simple_before : (f n : ℕ) (o : Sort) (t : Tree) → 0 < f → IsSimple o t → EachRef (IsBefore f n) t
simple_before f n o t h (inl (x, e, k)) = subst (EachRef (IsBefore f n)) (sym e) tt
simple_before f n o t h (inr (e, k)) = subst (EachRef (IsBefore f n)) (sym e) (h, tt)

simple_kind : (d : Development) (s : Signature) (th : Text) (k : Kind) → s.formals ≡ record { name = th; nonempty = false; ty = None } ∷ [] → IsSimpleKind k → IsKindOver d s k
simple_kind d s th (TypeSig b body) f h = absurd h
simple_kind d s th (ConstSig t None) f h = absurd h
simple_kind d s th (ConstSig t (Some b)) f h = (simple_tree d s th OfType t f h.0, simple_tree d s th OfTerm b f h.1)
simple_kind d s th (VarSig t) f h = absurd h
simple_kind d s th (FormulaSig c t o) f h = simple_tree d s th OfTerm t f h.1

kind_before : (all n : ℕ) (k : Kind) → 0 < all → IsSimpleKind k → KindEach (IsBefore (seen_by all (Some k)) n) k
kind_before all n (TypeSig b body) p h = absurd h
kind_before all n (ConstSig t None) p h = absurd h
kind_before all n (ConstSig t (Some b)) p h = (simple_before all n OfType t p h.0, simple_before all n OfTerm b p h.1)
kind_before all n (VarSig t) p h = absurd h
kind_before all n (FormulaSig c t o) p h = subst (λ z. EachRef (IsBefore (seen_by all (Some (FormulaSig z t o))) n) t) (sym h.0) (simple_before all n OfTerm t p h.1)

entry_simple : (es : List Entry) (n : ℕ) (k : Kind) → AllIn (λ e. IsSimpleKind e.kind) es → option_map entry_kind (slice_get es n) ≡ Some k → IsSimpleKind k
entry_simple [] n k h e = cc
entry_simple (x ∷ xs) zero k h e =
    let at : x.kind ≡ k = cc in
    subst IsSimpleKind at h.0
entry_simple (x ∷ xs) (suc n) k h e = entry_simple xs n k h.1 e

formal_only : (th : Text) (n : ℕ) (k : Kind) → option_map formal_kind (slice_get (record { name = th; nonempty = false; ty = None } ∷ []) n) ≡ Some k → TypeSig false None ≡ k
formal_only th zero k e = cc
formal_only th (suc n) k e = cc

pub simple_over : (d : Development) (s : Signature) (th : Text) → s.formals ≡ record { name = th; nonempty = false; ty = None } ∷ [] → s.imports ≡ [] → AllIn (λ e. IsSimpleKind e.kind) s.entries → IsSignatureOver d s
simple_over d s th f i h = record {
  entries = λ n k e. simple_kind d s th k f (entry_simple s.entries n k h e);
  formals = λ n k e. subst (IsKindOver d s) (formal_only th n k (subst (λ l. option_map formal_kind (slice_get l n) ≡ Some k) f e)) tt;
  imports = λ x q. absurd (subst (In x) i q);
  places = λ x q. absurd (subst (In x) i q);
  earlier_entries = λ n k e. subst (λ z. KindEach (IsBefore (seen_by (length s.formals) z) n) k) (sym e) (kind_before (length s.formals) n k (subst (λ l. 0 < length l) (sym f) (omega arith)) (entry_simple s.entries n k h e));
  earlier_formals = λ n k e. subst (KindEach (IsBefore n 0)) (formal_only th n k (subst (λ l. option_map formal_kind (slice_get l n) ≡ Some k) f e)) tt;
  earlier_actuals = λ x q. absurd (subst (In x) i q);
}

-- what the example has, as it is made and in a later store
pub trees_later : (s t : Stored) (b y n f : ℕ) → Extends s t → AreExampleTrees s b y n f → AreExampleTrees t b y n f
trees_later s t b y n f l h = record {
  boolean_in = l.nodes b h.boolean_in;
  truth_in = l.nodes y h.truth_in;
  falsity_in = l.nodes n h.falsity_in;
  formal_in = l.nodes f h.formal_in;
  boolean_is = l.trees b h.boolean_in ∙ h.boolean_is;
  truth_is = l.trees y h.truth_in ∙ h.truth_is;
  falsity_is = l.trees n h.falsity_in ∙ h.falsity_is;
  formal_is = l.trees f h.formal_in ∙ h.formal_is;
}

pub trees_kept : (s t : Stored) (b y n f : ℕ) → t ≡ s → AreExampleTrees s b y n f → AreExampleTrees t b y n f
trees_kept s t b y n f e h = subst (λ z. AreExampleTrees z b y n f) (sym e) h

pub trees_made : (p q r s : Stored) (b y n f : ℕ) → Stands p TBool b → Extends p q → Stands q True y → Extends q r → Stands r False n → Extends r s → Stands s (TName (Formal 0)) f → AreExampleTrees s b y n f
trees_made p q r s b y n f hb l hy m hn k hf =
    let later = extends_trans m k in
    let whole = extends_trans l later in
    record {
      boolean_in = whole.nodes b hb.node;
      truth_in = later.nodes y hy.node;
      falsity_in = k.nodes n hn.node;
      formal_in = hf.node;
      boolean_is = whole.trees b hb.node ∙ hb.tree;
      truth_is = later.trees y hy.node ∙ hy.tree;
      falsity_is = k.trees n hn.node ∙ hn.tree;
      formal_is = hf.tree;
    }

pub refs_later : (s t : Stored) (th c m : ℕ) → Extends s t → AreExampleRefs s th c m → AreExampleRefs t th c m
refs_later s t th c m l h = record {
  theory_in = l.names th h.theory_in;
  constant_in = l.refs c h.constant_in;
  lemma_in = l.refs m h.lemma_in;
  constant_is = l.references c h.constant_in ∙ h.constant_is ∙ ap (λ x. Inst x 0 (more TBool none)) (sym (l.texts th h.theory_in));
  lemma_is = l.references m h.lemma_in ∙ h.lemma_is ∙ ap (λ x. Inst x 1 (more TBool none)) (sym (l.texts th h.theory_in));
}

pub refs_made : (p q r s : Stored) (b th c m : ℕ) → IsNode p b → tree_at p b ≡ TBool → Extends p q → IsName q th → Extends q r → StandsRef r (Inst (text_at q th) 0 (more (tree_at q b) none)) c → Extends r s
    → StandsRef s (Inst (text_at r th) 1 (more (tree_at r b) none)) m → AreExampleRefs s th c m
refs_made p q r s b th c m hb eb l hth lr hc ls hm =
    let boolean : tree_at q b ≡ TBool = l.trees b hb ∙ eb in
    let later : tree_at r b ≡ TBool = lr.trees b (l.nodes b hb) ∙ boolean in
    let text_r : text_at r th ≡ text_at q th = lr.texts th hth in
    let text_s : text_at s th ≡ text_at r th = ls.texts th (lr.names th hth) in
    record {
      theory_in = ls.names th (lr.names th hth);
      constant_in = ls.refs c hc.ref;
      lemma_in = hm.ref;
      constant_is = ls.references c hc.ref ∙ hc.is ∙ ap₂ (λ x t. Inst x 0 (more t none)) (sym (text_s ∙ text_r)) boolean;
      lemma_is = hm.is ∙ ap₂ (λ x t. Inst x 1 (more t none)) (sym text_s) later;
    }

pub leaves_then : (a b c : InstancesView) → Leaves a b → Leaves b c → Leaves a c
leaves_then a b c l m = record { store = extends_trans l.store m.store; development = m.development ∙ l.development; stamps = m.stamps ∙ l.stamps }

pub example_later : (v w : InstancesView) (th : ℕ) → Leaves v w → IsName v.store th → HasExample v th → HasExample w th
example_later v w th l k h = record {
  signature = h.signature;
  alone = l.development ∙ h.alone;
  is = subst (IsExample h.signature) (sym (l.store.texts th k)) h.is;
}

-- the signature that is added
module _ (s : Stored) (g : numbers.Signature) (th b y n f body : ℕ) (is : IsExampleOf g th f body n) (trees : AreExampleTrees s b y n f) (within : IsNode s body) (simple : IsSimple OfTerm (tree_at s body)) where
  formals_at : (signature_at s g).formals ≡ record { name = text_at s th; nonempty = false; ty = None } ∷ []
  formals_at = ap (map (formal_sig_at s)) is.formals

  entries_at : (signature_at s g).entries ≡ record { name = text_at s th; kind = ConstSig (tree_at s f) (Some (tree_at s body)) } ∷ record { name = text_at s th; kind = FormulaSig Lemma (tree_at s n) 0 } ∷ []
  entries_at = ap (map (entry_at s)) is.entries

  pub example_made : IsExample (signature_at s g) (text_at s th)
  example_made = record {
    name = ap (text_at s) is.name;
    formals = formals_at;
    imports = ap (map (import_at s)) is.imports;
    simple = subst (AllIn (λ e. IsSimpleKind e.kind)) (sym entries_at) ((inr (trees.formal_is, refl), simple), ((refl, inl (No, trees.falsity_is, refl)), tt));
    ty = tree_at s f;
    body = tree_at s body;
    formula = tree_at s n;
    constant = ap (λ l. option_map entry_kind (slice_get l 0)) entries_at;
    lemma = ap (λ l. option_map entry_kind (slice_get l 1)) entries_at;
  }

  pub example_stored : IsName s th → SignatureIn s g
  example_stored k = record {
    name = subst (IsName s) (sym is.name) k;
    formals = subst (AllIn (FormalIn s)) (sym is.formals) ((k, tt), tt);
    entries = subst (AllIn (EntryIn s)) (sym is.entries) ((k, (trees.formal_in, within)), ((k, trees.falsity_in), tt));
    imports = subst (AllIn (ImportIn s)) (sym is.imports) tt;
  }

pub is_example_over : (d : Development) (s : Signature) (th : Text) → IsExample s th → IsSignatureOver d s
is_example_over d s th h = simple_over d s th h.formals h.imports h.simple

pub example_stands : (v : InstancesView) (s : Signature) (th : ℕ) → development v ≡ s ∷ [] → IsExample s (text_at v.store th) → HasExample v th
example_stands v s th d h = record { signature = s; alone = d; is = h }

-- the example, which stands alone
module _ (v : InstancesView) (th : ℕ) (h : HasExample v th) where
  example_named : theory_named (development v) (text_at v.store th) ≡ Some h.signature
  example_named = subst (λ d. theory_named d (text_at v.store th) ≡ Some h.signature) (sym h.alone) (subst (λ t. theory_named (h.signature ∷ []) t ≡ Some h.signature) h.is.name (itself h.signature []))

  pub example_lacks : HasNoImports (development v) (text_at v.store th)
  example_lacks = subst LacksImports (sym example_named) h.is.imports

  pub example_removed : without (text_at v.store th) (development v) ≡ []
  example_removed = ap (without (text_at v.store th)) h.alone ∙ ap (λ b. cond b [] (h.signature ∷ [])) (text_itself h.signature.name (text_at v.store th) h.is.name)

  pub example_alone : IsAlone (text_at v.store th) (development v)
  example_alone = λ t i q. by t (subst (In t) h.alone i) q
    where
      by : (t : Signature) → In t (h.signature ∷ []) → bytes_eq t.name (text_at v.store th) ≡ false → Avoids (text_at v.store th) t
      by t (inl e) q = absurd (true≢false (sym (text_itself t.name (text_at v.store th) (ap (λ z. z.name) e ∙ h.is.name)) ∙ q))
      by t (inr i) q = absurd i

  -- one entry more
  module _ (e : Entry) (simple : IsSimpleKind e.kind) where
    with_more : IsExample (with_entry e h.signature) (text_at v.store th)
    with_more = record {
      name = h.is.name;
      formals = h.is.formals;
      imports = h.is.imports;
      simple = all_append (λ x. IsSimpleKind x.kind) h.signature.entries (e ∷ []) h.is.simple (simple, tt);
      ty = h.is.ty;
      body = h.is.body;
      formula = h.is.formula;
      constant = kinds_append h.signature.entries (e ∷ []) 0 _ h.is.constant;
      lemma = kinds_append h.signature.entries (e ∷ []) 1 _ h.is.lemma;
    }

    pub example_may_grow : MayGrow (development v) (text_at v.store th) (with_entry e)
    example_may_grow = subst (λ z. MayBecome (without (text_at v.store th) (development v)) z (with_entry e)) (sym example_named) (is_example_over _ (with_entry e h.signature) (text_at v.store th) with_more)

    pub example_grown : (w : InstancesView) → w.store ≡ v.store → development w ≡ grown (development v) (text_at v.store th) (with_entry e) → HasExample w th
    example_grown w s g = record {
      signature = with_entry e h.signature;
      alone = g ∙ ap₂ (λ d z. become d z (with_entry e)) example_removed example_named;
      is = subst (λ x. IsExample (with_entry e h.signature) (text_at x th)) (sym s) with_more;
    }

  -- its references in the instance with BOOLEAN
  pub example_over : (n r : ℕ) → ref_at v.store r ≡ Inst (text_at v.store th) n (more TBool none) → IsRefFrom (development v) (text_at v.store th) (ref_at v.store r)
  example_over n r e =
      subst (IsRefFrom (development v) (text_at v.store th)) (sym e)
      (subst (λ z. IsRefBy (development v) z (Inst (text_at v.store th) n (more TBool none))) (sym example_named)
      (subst (λ z. IsSome z × MatchFormals (development v) h.signature (formals_in z) (more TBool none)) (sym example_named)
      (refl, subst (λ l. MatchFormals (development v) h.signature l (more TBool none)) (sym h.is.formals) (refl, refl, tt, tt, tt))))

  kind_is : (n r : ℕ) (k : Option Kind) → ref_at v.store r ≡ Inst (text_at v.store th) n (more TBool none) → kind_at h.signature n ≡ k → instantiate_found k (text_at v.store th) (more TBool none) ≡ kind_from (development v) (text_at v.store th) (ref_at v.store r)
  kind_is n r k e q =
      ap (λ z. instantiate_found z (text_at v.store th) (more TBool none)) (sym q)
      ∙ ap (λ z. instantiate_found (kind_in z n) (text_at v.store th) (more TBool none)) (sym example_named)
      ∙ ap (λ z. kind_by (development v) z (Inst (text_at v.store th) n (more TBool none))) (sym example_named)
      ∙ ap (kind_from (development v) (text_at v.store th)) (sym e)

  pub example_constant : (r : ℕ) → ref_at v.store r ≡ Inst (text_at v.store th) 0 (more TBool none) → IsConstant (kind_from (development v) (text_at v.store th) (ref_at v.store r))
  example_constant r e = subst IsConstant (kind_is 0 r _ e h.is.constant) tt

  pub example_lemma : (r : ℕ) → ref_at v.store r ≡ Inst (text_at v.store th) 1 (more TBool none) → IsFormula (kind_from (development v) (text_at v.store th) (ref_at v.store r))
  example_lemma r e = subst IsFormula (kind_is 1 r _ e h.is.lemma) tt
