-- The parts of entries, of formals and of entries of instances.
use Rattle.std.proofs.Common.{◌≡◌, ◌≤◌, inl, inr, ◌⊎◌, ℕ, Option, None, Some, [], ◌∷◌, slice_get, refl, sym, ap, ap₂, ◌∙◌, subst, Contains}
use Rattle.std.specs.Map.{keys_of, values_of}
use Rattle.pvs_terms.specs.Tree.{Text, Tree, Ref, Own, Formal, Inst, Trees, ref_actuals, IsWithinLimits}
use Rattle.pvs_terms.specs.Stored.{Stored, tree_at, ref_at, text_at, IsRef, Stands, Extends}
use Rattle.pvs_terms.specs.declared.shape.Sort.{Sort}
use Rattle.pvs_terms.specs.declared.shape.Sort.TheVariants.{OfType, OfTerm}
use Rattle.pvs_subst.specs.Instance.{instantiate, HasActuals}
use Rattle.pvs_cache.specs.Kept.{Pairs}
use Rattle.pvs_cache.specs.declared.key.JudgeKey.{JudgeKey}
use Rattle.pvs_cache.specs.declared.key.Part.{Part}
use Rattle.pvs_cache.specs.declared.key.Part.TheVariants as part
use Rattle.pvs_sig.specs.Signature.{Signature, Kind, TypeSig, ConstSig, VarSig, FormulaSig, kind_at, formal_at, kind_in, formals_in, instantiate_found}
use Rattle.pvs_sig.specs.SignatureAt.{option_at, signature_at, AllIn}
use Rattle.pvs_sig.specs.Development.{Development, theory_named, kind_of, IsRefOver, IsKindOver, IsTreeOver, IsSignatureOver, MatchFormals}
use Rattle.pvs_sig.proofs.SignatureAtLaws.{signature_same}
use Rattle.pvs_sig.proofs.DeclaredLaws.{has_actuals}
use Rattle.pvs_sig.proofs.DevelopmentLaws.{theory_stands}
use Rattle.pvs_instantiate.specs.declared.theories.Theory.{Theory}
use Rattle.pvs_instantiate.specs.Standing.{Entries}
use Rattle.pvs_instantiate.specs.Parts.{part_tree, kind_by, instance_kind, IsRefBy, GivesOption, PassesLimit}
use Rattle.pvs_instantiate.specs.code.KeptTrees.{FindsTree, KeepsTree}
use Rattle.pvs_instantiate.specs.InstancesView.{InstancesView, development, Leaves}
use Rattle.pvs_instantiate.specs.Soundness.{IsValue, HasValues, IsSound}
use Rattle.pvs_instantiate.proofs.ListLaws.{all_get}
use Rattle.pvs_instantiate.proofs.LookupLaws.{found_at, theory_found}
use Rattle.pvs_instantiate.proofs.ChangeLaws.{differ_one}
use Rattle.pvs_instantiate.proofs.SoundLaws.{is_later}

pub part_none : (p : Part) → part_tree p None ≡ None
part_none part.TypeOf = refl
part_none part.BodyOf = refl
part_none part.FormulaOf = refl

none_some_tree : (t : Tree) → None ≡ Some t → ⊥
none_some_tree t e = cc

option_instance : (k : Option Tree) (u t : Tree) (th : Text) (xs : Trees) → k ≡ Some t → Some u ≡ Some t → Some (instantiate u th xs) ≡ Some (instantiate t th xs)
option_instance k u t th xs h e =
    let at : u ≡ t = cc in
    ap (λ z. Some (instantiate z th xs)) at

-- the part of an instance is the part with the actuals put in
pub part_instance : (p : Part) (k : Option Kind) (t : Tree) (th : Text) (xs : Trees) → part_tree p k ≡ Some t → part_tree p (instantiate_found k th xs) ≡ Some (instantiate t th xs)
part_instance part.TypeOf None t th xs h = cc
part_instance part.TypeOf (Some (TypeSig b body)) t th xs h = cc
part_instance part.TypeOf (Some (ConstSig u body)) t th xs h = option_instance (Some u) u t th xs h h
part_instance part.TypeOf (Some (VarSig u)) t th xs h = cc
part_instance part.TypeOf (Some (FormulaSig c u o)) t th xs h = cc
part_instance part.BodyOf None t th xs h = cc
part_instance part.BodyOf (Some (TypeSig b None)) t th xs h = cc
part_instance part.BodyOf (Some (TypeSig b (Some u))) t th xs h = option_instance (Some u) u t th xs h h
part_instance part.BodyOf (Some (ConstSig v None)) t th xs h = cc
part_instance part.BodyOf (Some (ConstSig v (Some u))) t th xs h = option_instance (Some u) u t th xs h h
part_instance part.BodyOf (Some (VarSig u)) t th xs h = cc
part_instance part.BodyOf (Some (FormulaSig c u o)) t th xs h = cc
part_instance part.FormulaOf None t th xs h = cc
part_instance part.FormulaOf (Some (TypeSig b body)) t th xs h = cc
part_instance part.FormulaOf (Some (ConstSig u body)) t th xs h = cc
part_instance part.FormulaOf (Some (VarSig u)) t th xs h = cc
part_instance part.FormulaOf (Some (FormulaSig c u o)) t th xs h = option_instance (Some u) u t th xs h h

pub no_part_instance : (p : Part) (k : Option Kind) (th : Text) (xs : Trees) → part_tree p k ≡ None → part_tree p (instantiate_found k th xs) ≡ None
no_part_instance part.TypeOf None th xs h = refl
no_part_instance part.TypeOf (Some (TypeSig b body)) th xs h = refl
no_part_instance part.TypeOf (Some (ConstSig u body)) th xs h = cc
no_part_instance part.TypeOf (Some (VarSig u)) th xs h = refl
no_part_instance part.TypeOf (Some (FormulaSig c u o)) th xs h = refl
no_part_instance part.BodyOf None th xs h = refl
no_part_instance part.BodyOf (Some (TypeSig b None)) th xs h = refl
no_part_instance part.BodyOf (Some (TypeSig b (Some u))) th xs h = cc
no_part_instance part.BodyOf (Some (ConstSig v None)) th xs h = refl
no_part_instance part.BodyOf (Some (ConstSig v (Some u))) th xs h = cc
no_part_instance part.BodyOf (Some (VarSig u)) th xs h = refl
no_part_instance part.BodyOf (Some (FormulaSig c u o)) th xs h = refl
no_part_instance part.FormulaOf None th xs h = refl
no_part_instance part.FormulaOf (Some (TypeSig b body)) th xs h = refl
no_part_instance part.FormulaOf (Some (ConstSig u body)) th xs h = refl
no_part_instance part.FormulaOf (Some (VarSig u)) th xs h = refl
no_part_instance part.FormulaOf (Some (FormulaSig c u o)) th xs h = cc

-- the tree of a part has declared references alone, so the formals in it have actuals
module _ (d : Development) (s c : Signature) (th : Text) (xs : Trees) (stands : theory_named d th ≡ Some c) (given : MatchFormals d s c.formals xs) where
  tree_actuals : (o : Sort) (u t : Tree) → IsTreeOver d c o u → Some u ≡ Some t → HasActuals xs t
  tree_actuals o u t h e =
      let at : u ≡ t = cc in
      subst (HasActuals xs) at (has_actuals d s c th xs stands given u h.declared)

  kind_actuals : (p : Part) (k : Kind) (t : Tree) → IsKindOver d c k → part_tree p (Some k) ≡ Some t → HasActuals xs t
  kind_actuals part.TypeOf (TypeSig b body) t h e = cc
  kind_actuals part.TypeOf (ConstSig u body) t h e = tree_actuals OfType u t h.0 e
  kind_actuals part.TypeOf (VarSig u) t h e = cc
  kind_actuals part.TypeOf (FormulaSig k u o) t h e = cc
  kind_actuals part.BodyOf (TypeSig b None) t h e = cc
  kind_actuals part.BodyOf (TypeSig b (Some u)) t h e = tree_actuals OfType u t h e
  kind_actuals part.BodyOf (ConstSig v None) t h e = cc
  kind_actuals part.BodyOf (ConstSig v (Some u)) t h e = tree_actuals OfTerm u t h.1 e
  kind_actuals part.BodyOf (VarSig u) t h e = cc
  kind_actuals part.BodyOf (FormulaSig k u o) t h e = cc
  kind_actuals part.FormulaOf (TypeSig b body) t h e = cc
  kind_actuals part.FormulaOf (ConstSig u body) t h e = cc
  kind_actuals part.FormulaOf (VarSig u) t h e = cc
  kind_actuals part.FormulaOf (FormulaSig k u o) t h e = tree_actuals OfTerm u t h e

  pub part_actuals : IsSignatureOver d c → (p : Part) (n : ℕ) (t : Tree) → part_tree p (kind_at c n) ≡ Some t → HasActuals xs t
  part_actuals over p n t e = by (kind_at c n) refl e
    where
      by : (z : Option Kind) → kind_at c n ≡ z → part_tree p z ≡ Some t → HasActuals xs t
      by None q e = absurd (none_some_tree t (sym (part_none p) ∙ e))
      by (Some k) q e = kind_actuals p k t (over.entries n k q) e

-- what an entry of an instance has, asked of a theory at a place
module _ (v : InstancesView) (i name : ℕ) (t : Theory) (sound : IsSound v) (found : slice_get v.entries i ≡ Some (name, t)) (p : Part) (n r id : ℕ)
    (is : ref_at v.store r ≡ Inst (text_at v.store name) n (ref_actuals (ref_at v.store r)))
    (tree : Some (tree_at v.store id) ≡ part_tree p (kind_at (signature_at v.store t.signature) n)) where
  -- the tree of the part
  pub part_is : part_tree p (instance_kind (development v) (text_at v.store name) n (ref_actuals (ref_at v.store r))) ≡ Some (instantiate (tree_at v.store id) (text_at v.store name) (ref_actuals (ref_at v.store r)))
  part_is = ap (λ z. part_tree p (instantiate_found (kind_in z n) (text_at v.store name) (ref_actuals (ref_at v.store r)))) (theory_found v.store v.entries i name t sound.standing found).stands
      ∙ part_instance p (kind_at (signature_at v.store t.signature) n) (tree_at v.store id) (text_at v.store name) (ref_actuals (ref_at v.store r)) (sym tree)

  pub formals_have : (s : Signature) → MatchFormals (development v) s (formals_in (theory_named (development v) (text_at v.store name))) (ref_actuals (ref_at v.store r)) → HasActuals (ref_actuals (ref_at v.store r)) (tree_at v.store id)
  formals_have s h =
      let stands = (theory_found v.store v.entries i name t sound.standing found).stands in
      let c = signature_at v.store t.signature in
      part_actuals (development v) s c (text_at v.store name) (ref_actuals (ref_at v.store r)) stands
      (subst (λ z. MatchFormals (development v) s (formals_in z) (ref_actuals (ref_at v.store r))) stands h)
      (theory_stands (development v) sound.standing.over (text_at v.store name) c stands).over p n (tree_at v.store id) (sym tree)

  same_reference : (m : ℕ) (xs : Trees) → ref_at v.store r ≡ Inst (text_at v.store t.signature.name) m xs → (m ≡ n) × (xs ≡ ref_actuals (ref_at v.store r))
  same_reference m xs e =
      let both : Inst (text_at v.store t.signature.name) m xs ≡ Inst (text_at v.store name) n (ref_actuals (ref_at v.store r)) = sym e ∙ is in
      let number : m ≡ n = cc in
      let actuals : xs ≡ ref_actuals (ref_at v.store r) = cc in
      (number, actuals)

  pub finds : FindsTree v.store v.kept (record { stamp = t.stamp; part = p; item = r }) (instantiate (tree_at v.store id) (text_at v.store name) (ref_actuals (ref_at v.store r)))
  finds = λ j c.
      let value = all_get (HasValues v.store v.kept) v.entries i (name, t) sound.values found (record { stamp = t.stamp; part = p; item = r }, j) c refl in
      let named = (theory_found v.store v.entries i name t sound.standing found).named in
      let same = same_reference value.number value.actuals value.reference in
      let k = kind_at (signature_at v.store t.signature) in
      let whole : Some (tree_at v.store j) ≡ Some (instantiate (tree_at v.store id) (text_at v.store name) (ref_actuals (ref_at v.store r)))
      = sym value.tree
      ∙ ap (λ z. part_tree p (instantiate_found (k value.number) (text_at v.store z) value.actuals)) named
      ∙ ap₂ (λ m xs. part_tree p (instantiate_found (k m) (text_at v.store name) xs)) same.0 same.1
      ∙ part_instance p (k n) (tree_at v.store id) (text_at v.store name) (ref_actuals (ref_at v.store r)) (sym tree) in
      let it : tree_at v.store j ≡ instantiate (tree_at v.store id) (text_at v.store name) (ref_actuals (ref_at v.store r)) = cc in
      (value.value, it)

  -- after the part is given, with what is kept then
  module _ (s : Stored) (kept : Pairs) (known : IsRef v.store r) (later : Extends v.store s) (pairs : KeepsTree s v.kept kept (record { stamp = t.stamp; part = p; item = r }) (instantiate (tree_at v.store id) (text_at v.store name) (ref_actuals (ref_at v.store r)))) where
    new_value : (q : JudgeKey × ℕ) → q.0 ≡ record { stamp = t.stamp; part = p; item = r } → Stands s (instantiate (tree_at v.store id) (text_at v.store name) (ref_actuals (ref_at v.store r))) q.1 → IsValue s t.signature q
    new_value q e h =
        let item : q.0.item ≡ r = ap (λ z. z.item) e in
        let which : q.0.part ≡ p = ap (λ z. z.part) e in
        let at = theory_found v.store v.entries i name t sound.standing found in
        let text : text_at s t.signature.name ≡ text_at v.store name = later.texts t.signature.name at.stored.name ∙ ap (text_at v.store) at.named in
        let whole = signature_same v.store s later t.signature at.stored in
        record {
          item = subst (IsRef s) (sym item) (later.refs r known);
          value = h.node;
          number = n;
          actuals = ref_actuals (ref_at v.store r);
          reference = ap (ref_at s) item ∙ later.references r known ∙ is ∙ ap (λ z. Inst z n (ref_actuals (ref_at v.store r))) (sym text);
          tree = ap (λ z. part_tree z (instantiate_found (kind_at (signature_at s t.signature) n) (text_at s t.signature.name) (ref_actuals (ref_at v.store r)))) which
              ∙ ap₂ (λ x y. part_tree p (instantiate_found (kind_at x n) y (ref_actuals (ref_at v.store r)))) whole text
              ∙ part_instance p (kind_at (signature_at v.store t.signature) n) (tree_at v.store id) (text_at v.store name) (ref_actuals (ref_at v.store r)) (sym tree)
              ∙ ap Some (sym h.tree);
        }

    all_values : (es : Entries) → AllIn (HasValues s v.kept) es → AllIn (λ f. f.1.stamp ≡ t.stamp → f ≡ (name, t)) es → AllIn (HasValues s kept) es
    all_values [] h k = tt
    all_values (e ∷ es) h k = (λ q c g. by q g (pairs q c), all_values es h.1 k.1)
      where
        by : (q : JudgeKey × ℕ) → q.0.stamp ≡ e.1.stamp → Contains v.kept q ⊎ ((q.0 ≡ record { stamp = t.stamp; part = p; item = r }) × Stands s (instantiate (tree_at v.store id) (text_at v.store name) (ref_actuals (ref_at v.store r))) q.1) → IsValue s e.1.signature q
        by q g (inl c) = h.0 q c g
        by q g (inr x) = subst (λ f. IsValue s f.1.signature q) (sym (k.0 (sym g ∙ ap (λ z. z.stamp) x.0))) (new_value q x.0 x.1)

    stamp_below : t.stamp ≤ v.last_stamp
    stamp_below = all_get (λ e. e.1.stamp ≤ v.last_stamp) v.entries i (name, t) sound.stamps_below found

    pub sound_after : IsSound (record { store = s; entries = v.entries; last_stamp = v.last_stamp; kept = kept })
    sound_after =
        let grown = (is_later v s sound later).sound in
        record {
          standing = grown.standing;
          stamps_below = grown.stamps_below;
          stamps_differ = grown.stamps_differ;
          kept_below = λ q c. by q (pairs q c);
          values = all_values v.entries grown.values (differ_one v.entries i (name, t) sound.stamps_differ found);
        }
      where
        by : (q : JudgeKey × ℕ) → Contains v.kept q ⊎ ((q.0 ≡ record { stamp = t.stamp; part = p; item = r }) × Stands s (instantiate (tree_at v.store id) (text_at v.store name) (ref_actuals (ref_at v.store r))) q.1) → q.0.stamp ≤ v.last_stamp
        by q (inl c) = sound.kept_below q c
        by q (inr x) = subst (λ z. z ≤ v.last_stamp) (sym (ap (λ z. z.stamp) x.0)) stamp_below

    pub leaves_after : Leaves v (record { store = s; entries = v.entries; last_stamp = v.last_stamp; kept = kept })
    leaves_after =
        let l = (is_later v s sound later).leaves in
        record { store = l.store; development = l.development; stamps = l.stamps }

  -- the part as it is found or made
  pub gives_made : (s : Stored) (made : ℕ) → Stands s (instantiate (tree_at v.store id) (text_at v.store name) (ref_actuals (ref_at v.store r))) made → GivesOption s (part_tree p (instance_kind (development v) (text_at v.store name) n (ref_actuals (ref_at v.store r)))) (Some made)
  gives_made s made h = subst (λ z. GivesOption s z (Some made)) (sym part_is) h

  pub passes_made : ¬ IsWithinLimits (instantiate (tree_at v.store id) (text_at v.store name) (ref_actuals (ref_at v.store r))) → PassesLimit (part_tree p (instance_kind (development v) (text_at v.store name) n (ref_actuals (ref_at v.store r))))
  passes_made h = subst PassesLimit (sym part_is) h

-- a theory that does not stand has no part, nor has an entry without one
pub gives_none : (s : Stored) (p : Part) (d : Development) (th : Text) (r : Ref) → theory_named d th ≡ None → GivesOption s (part_tree p (kind_by d (theory_named d th) r)) None
gives_none s p d th r e = subst (λ z. GivesOption s (part_tree p (kind_by d z r)) None) (sym e) (subst (λ z. GivesOption s z None) (sym (part_none p)) tt)

pub no_instance : (s : Stored) (p : Part) (d : Development) (th : Text) (n : ℕ) (xs : Trees) → theory_named d th ≡ None → GivesOption s (part_tree p (instance_kind d th n xs)) None
no_instance s p d th n xs e = subst (λ z. GivesOption s (part_tree p (instantiate_found (kind_in z n) th xs)) None) (sym e) (subst (λ z. GivesOption s z None) (sym (part_none p)) tt)

pub no_part : (v : InstancesView) (i name : ℕ) (t : Theory) (p : Part) (n : ℕ) (xs : Trees) → IsSound v → slice_get (keys_of v.entries) i ≡ Some name → slice_get (values_of v.entries) i ≡ Some t → None ≡ part_tree p (kind_at (signature_at v.store t.signature) n)
    → GivesOption v.store (part_tree p (instance_kind (development v) (text_at v.store name) n xs)) None
no_part v i name t p n xs sound k h e =
    subst (λ z. GivesOption v.store (part_tree p (instantiate_found (kind_in z n) (text_at v.store name) xs)) None) (sym (found_at v.store v.entries i name t sound.standing k h).stands)
    (subst (λ z. GivesOption v.store z None) (sym (no_part_instance p (kind_at (signature_at v.store t.signature) n) (text_at v.store name) xs (sym e))) tt)

-- the part of an own entry and of a formal
pub gives_own : (v : InstancesView) (i name : ℕ) (t : Theory) (p : Part) (n : ℕ) (o r : Option ℕ) → IsSound v → slice_get (keys_of v.entries) i ≡ Some name → slice_get (values_of v.entries) i ≡ Some t
    → option_at v.store o ≡ part_tree p (kind_at (signature_at v.store t.signature) n) → GivesOption v.store (option_at v.store o) r → GivesOption v.store (part_tree p (kind_by (development v) (theory_named (development v) (text_at v.store name)) (Own n))) r
gives_own v i name t p n o r sound k h e g =
    subst (λ z. GivesOption v.store (part_tree p (kind_by (development v) z (Own n))) r) (sym (found_at v.store v.entries i name t sound.standing k h).stands)
    (subst (λ z. GivesOption v.store z r) e g)

pub gives_formal : (v : InstancesView) (i name : ℕ) (t : Theory) (p : Part) (n : ℕ) (o r : Option ℕ) → IsSound v → slice_get (keys_of v.entries) i ≡ Some name → slice_get (values_of v.entries) i ≡ Some t
    → option_at v.store o ≡ part_tree p (formal_at (signature_at v.store t.signature) n) → GivesOption v.store (option_at v.store o) r → GivesOption v.store (part_tree p (kind_by (development v) (theory_named (development v) (text_at v.store name)) (Formal n))) r
gives_formal v i name t p n o r sound k h e g =
    subst (λ z. GivesOption v.store (part_tree p (kind_by (development v) z (Formal n))) r) (sym (found_at v.store v.entries i name t sound.standing k h).stands)
    (subst (λ z. GivesOption v.store z r) e g)

-- a reference to an entry of an instance is one in the terms of some theory
pub over_some : (d : Development) (z : Option Signature) (q : Ref) (th : Text) (n : ℕ) (xs : Trees) → IsRefBy d z q → q ≡ Inst th n xs → (s : Signature) × (z ≡ Some s) × MatchFormals d s (formals_in (theory_named d th)) xs
over_some d None q th n xs h e = absurd h
over_some d (Some s) q th n xs h e = (s, refl, (subst (IsRefOver d s) e h).1)

pub kind_instance : (d : Development) (z : Option Signature) (q : Ref) (th : Text) (n : ℕ) (xs : Trees) → IsRefBy d z q → q ≡ Inst th n xs → kind_by d z q ≡ instance_kind d th n xs
kind_instance d None q th n xs h e = absurd h
kind_instance d (Some s) q th n xs h e = ap (kind_of d s) e
