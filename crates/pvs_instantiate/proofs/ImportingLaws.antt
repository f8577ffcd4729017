-- The theories of the tests of growing may stand, and the one that imports the other may grow.
use Rattle.std.proofs.Common.{◌≡◌, inl, inr, ℕ, zero, suc, Bool, cond, None, Some, List, [], ◌∷◌, length, map, slice_get, false, true≢false, refl, sym, ap, ap₂, ◌∙◌, subst, arith}
use Rattle.std.specs.Prelude.{option_map, IsSome, bytes_eq}
use Rattle.pvs_terms.specs.Tree.{Text, none}
use Rattle.pvs_terms.specs.Stored.{Stored, IsName, AreNodes, text_at, trees_at}
use Rattle.pvs_sig.specs.declared.signature.Signature as numbers
use Rattle.pvs_sig.specs.declared.signature.Import as numbers_import
use Rattle.pvs_sig.specs.Signature.{Signature, FormalSig, Import, Kind, TypeSig, entry_kind, formal_kind, unbound_kind, kind_at, formal_at, formals_in}
use Rattle.pvs_sig.specs.SignatureAt.{AllIn, signature_at, formal_sig_at, entry_at, import_at, SignatureIn, FormalIn, EntryIn, ImportIn}
use Rattle.pvs_sig.specs.References.{EachOf, KindEach}
use Rattle.pvs_sig.specs.Laws.{without, Avoids}
use Rattle.pvs_sig.specs.Development.{Development, theory_named, IsSignatureOver, IsKindOver, IsInstanceOver, MatchFormals, IsBefore, In}
use Rattle.pvs_instantiate.specs.InstancesView.{InstancesView, development}
use Rattle.pvs_instantiate.specs.Grown.{IsAlone, MayGrow, MayBecome, grown, become, with_formal, with_import}
use Rattle.pvs_instantiate.specs.code.Importing.{IsEmptyOf, IsEmpty, IsTypeFormal, IsImportOf, IsImportBy, IsImporter, HasEmpty, HasBoth}
use Rattle.pvs_instantiate.proofs.ListLaws.{all_append}
use Rattle.pvs_instantiate.proofs.TheoryLaws.{text_itself, itself}

no_entry : (s : Signature) (n : ℕ) (k : Kind) → s.entries ≡ [] → kind_at s n ≡ Some k → ⊥
no_entry s n k f e =
    let at : option_map entry_kind (slice_get [] n) ≡ Some k = subst (λ l. option_map entry_kind (slice_get l n) ≡ Some k) f e in
    cc

no_formal : (s : Signature) (n : ℕ) (k : Kind) → s.formals ≡ [] → formal_at s n ≡ Some k → ⊥
no_formal s n k f e =
    let at : option_map formal_kind (slice_get [] n) ≡ Some k = subst (λ l. option_map formal_kind (slice_get l n) ≡ Some k) f e in
    cc

type_formal : (fs : List FormalSig) (n : ℕ) (k : Kind) → AllIn IsTypeFormal fs → option_map formal_kind (slice_get fs n) ≡ Some k → (b : Bool) × (TypeSig b None ≡ k)
type_formal [] n k h e = cc
type_formal (f ∷ fs) zero k h e =
    let at : formal_kind f ≡ k = cc in
    (f.nonempty, ap (unbound_kind f.nonempty) (sym h.0) ∙ at)
type_formal (f ∷ fs) (suc n) k h e = type_formal fs n k h.1 e

import_of : (th : Text) (xs : List Import) (x : Import) → AllIn (IsImportOf th) xs → In x xs → IsImportOf th x
import_of th [] x h i = absurd i
import_of th (y ∷ ys) x h (inl e) = subst (IsImportOf th) (sym e) h.0
import_of th (y ∷ ys) x h (inr i) = import_of th ys x h.1 i

-- a signature that imports only this instance of a theory without formals
importer_over : (d : Development) (s : Signature) (name other : Text) → IsImporter s name other → ((x : Import) → In x s.imports → IsInstanceOver d s other none) → IsSignatureOver d s
importer_over d s name other h stands = record {
  entries = λ n k e. absurd (no_entry s n k h.entries e);
  formals = λ n k e. let f = type_formal s.formals n k h.formals e in subst (IsKindOver d s) f.1 tt;
  imports = λ x i.
      let is = import_of other s.imports x h.imports i in
      subst (λ t. IsInstanceOver d s t x.actuals) (sym is.theory) (subst (IsInstanceOver d s other) (sym is.actuals) (stands x i));
  places = λ x i. let is = import_of other s.imports x h.imports i in omega (arith, is.place);
  earlier_entries = λ n k e. absurd (no_entry s n k h.entries e);
  earlier_formals = λ n k e. let f = type_formal s.formals n k h.formals e in subst (KindEach (IsBefore n 0)) f.1 tt;
  earlier_actuals = λ x i. let is = import_of other s.imports x h.imports i in subst (EachOf (IsBefore (length s.formals) x.place)) (sym is.actuals) tt;
}

empty_importer : (s : Signature) (name other : Text) → IsEmpty s name → IsImporter s name other
empty_importer s name other h = record {
  name = h.name;
  formals = subst (AllIn IsTypeFormal) (sym h.formals) tt;
  entries = h.entries;
  imports = subst (AllIn (IsImportOf other)) (sym h.imports) tt;
}

pub empty_over : (d : Development) (s : Signature) (name : Text) → IsEmpty s name → IsSignatureOver d s
empty_over d s name h = importer_over d s name name (empty_importer s name name h) (λ x i. absurd (subst (In x) h.imports i))

-- an empty signature that is added
module _ (s : Stored) (g : numbers.Signature) (n : ℕ) (is : IsEmptyOf g n) where
  pub empty_made : IsEmpty (signature_at s g) (text_at s n)
  empty_made = record {
    name = ap (text_at s) is.name;
    formals = ap (map (formal_sig_at s)) is.formals;
    entries = ap (map (entry_at s)) is.entries;
    imports = ap (map (import_at s)) is.imports;
  }

  pub empty_stored : IsName s n → SignatureIn s g
  empty_stored k = record {
    name = subst (IsName s) (sym is.name) k;
    formals = subst (AllIn (FormalIn s)) (sym is.formals) tt;
    entries = subst (AllIn (EntryIn s)) (sym is.entries) tt;
    imports = subst (AllIn (ImportIn s)) (sym is.imports) tt;
  }

-- an importing that is added
pub import_made : (s : Stored) (x : numbers_import.Import) (n : ℕ) → IsImportBy x n → IsImportOf (text_at s n) (import_at s x)
import_made s x n is = record { theory = ap (text_at s) is.theory; actuals = ap (trees_at s) is.actuals; place = is.place }

pub import_stored : (s : Stored) (x : numbers_import.Import) (n : ℕ) → IsImportBy x n → IsName s n → ImportIn s x
import_stored s x n is k = (subst (IsName s) (sym is.theory) k, subst (AreNodes s) (sym is.actuals) tt)

-- the first one
pub empty_stands : (v w : InstancesView) (g : numbers.Signature) (n : ℕ) → IsEmptyOf g n → w.store ≡ v.store → development v ≡ [] → development w ≡ signature_at v.store g ∷ development v → HasEmpty w n
empty_stands v w g n is same none_stands e = record {
  signature = signature_at v.store g;
  alone = e ∙ ap (λ d. signature_at v.store g ∷ d) none_stands;
  is = subst (λ z. IsEmpty (signature_at v.store g) (text_at z n)) (sym same) (empty_made v.store g n is);
}

-- another beside it
module _ (v : InstancesView) (lower upper : ℕ) (h : HasEmpty v lower) (apart : bytes_eq (text_at v.store lower) (text_at v.store upper) ≡ false) where
  pub other_is_new : (g : numbers.Signature) → g.name ≡ upper → theory_named (development v) (text_at v.store g.name) ≡ None
  other_is_new g e =
      ap₂ theory_named h.alone (ap (text_at v.store) e)
      ∙ ap (λ b. cond b (Some h.signature) None) (ap (λ t. bytes_eq t (text_at v.store upper)) h.is.name ∙ apart)

  pub both_stand : (w : InstancesView) (g : numbers.Signature) → IsEmptyOf g upper → w.store ≡ v.store → development w ≡ signature_at v.store g ∷ development v → HasBoth w lower upper
  both_stand w g is same e = record {
    importer = signature_at v.store g;
    imported = h.signature;
    both = e ∙ ap (λ d. signature_at v.store g ∷ d) h.alone;
    importer_is = subst (λ z. IsImporter (signature_at v.store g) (text_at z upper) (text_at z lower)) (sym same) (empty_importer _ (text_at v.store upper) (text_at v.store lower) (empty_made v.store g upper is));
    imported_is = subst (λ z. IsEmpty h.signature (text_at z lower)) (sym same) h.is;
    apart = subst (λ z. bytes_eq (text_at z lower) (text_at z upper) ≡ false) (sym same) apart;
  }

-- growing
module _ (v : InstancesView) (lower upper : ℕ) (h : HasBoth v lower upper) where
  upper_named : theory_named (development v) (text_at v.store upper) ≡ Some h.importer
  upper_named =
      subst (λ d. theory_named d (text_at v.store upper) ≡ Some h.importer) (sym h.both)
      (subst (λ t. theory_named (h.importer ∷ h.imported ∷ []) t ≡ Some h.importer) h.importer_is.name (itself h.importer (h.imported ∷ [])))

  upper_left_out : without (text_at v.store upper) (development v) ≡ h.imported ∷ []
  upper_left_out =
      ap (without (text_at v.store upper)) h.both
      ∙ ap (λ b. cond b (h.imported ∷ []) (h.importer ∷ without (text_at v.store upper) (h.imported ∷ []))) (text_itself h.importer.name (text_at v.store upper) h.importer_is.name)

  lower_avoids : Avoids (text_at v.store upper) h.imported
  lower_avoids = record {
    entries = λ n k e. absurd (no_entry h.imported n k h.imported_is.entries e);
    formals = λ n k e. absurd (no_formal h.imported n k h.imported_is.formals e);
    imports = λ x i. absurd (subst (In x) h.imported_is.imports i);
  }

  pub upper_alone : IsAlone (text_at v.store upper) (development v)
  upper_alone = λ t i q. by t (subst (In t) h.both i) q
    where
      by : (t : Signature) → In t (h.importer ∷ h.imported ∷ []) → bytes_eq t.name (text_at v.store upper) ≡ false → Avoids (text_at v.store upper) t
      by t (inl e) q = absurd (true≢false (sym (text_itself t.name (text_at v.store upper) (ap (λ z. z.name) e ∙ h.importer_is.name)) ∙ q))
      by t (inr (inl e)) q = subst (Avoids (text_at v.store upper)) (sym e) lower_avoids
      by t (inr (inr i)) q = absurd i

  lower_instance : (s : Signature) → IsInstanceOver (h.imported ∷ []) s (text_at v.store lower) none
  lower_instance s =
      subst (λ z. IsSome z × MatchFormals (h.imported ∷ []) s (formals_in z) none) (sym found)
      (refl, subst (λ fs. MatchFormals (h.imported ∷ []) s fs none) (sym h.imported_is.formals) tt)
    where
      found : theory_named (h.imported ∷ []) (text_at v.store lower) ≡ Some h.imported
      found = subst (λ t. theory_named (h.imported ∷ []) t ≡ Some h.imported) h.imported_is.name (itself h.imported [])

  -- to another signature of this form
  module _ (f : Signature → Signature) (is : IsImporter (f h.importer) (text_at v.store upper) (text_at v.store lower)) where
    may_become : MayGrow (development v) (text_at v.store upper) f
    may_become =
        subst (λ z. MayBecome (without (text_at v.store upper) (development v)) z f) (sym upper_named)
        (subst (λ d. IsSignatureOver d (f h.importer)) (sym upper_left_out)
        (importer_over (h.imported ∷ []) (f h.importer) (text_at v.store upper) (text_at v.store lower) is (λ x i. lower_instance (f h.importer))))

    becomes : (w : InstancesView) → w.store ≡ v.store → development w ≡ grown (development v) (text_at v.store upper) f → HasBoth w lower upper
    becomes w same e = record {
      importer = f h.importer;
      imported = h.imported;
      both = e ∙ ap₂ (λ d z. become d z f) upper_left_out upper_named;
      importer_is = subst (λ z. IsImporter (f h.importer) (text_at z upper) (text_at z lower)) (sym same) is;
      imported_is = subst (λ z. IsEmpty h.imported (text_at z lower)) (sym same) h.imported_is;
      apart = subst (λ z. bytes_eq (text_at z lower) (text_at z upper) ≡ false) (sym same) h.apart;
    }

  -- by a formal type
  module _ (x : FormalSig) (ty : IsTypeFormal x) where
    formal_more : IsImporter (with_formal x h.importer) (text_at v.store upper) (text_at v.store lower)
    formal_more = record {
      name = h.importer_is.name;
      formals = all_append IsTypeFormal h.importer.formals (x ∷ []) h.importer_is.formals (ty, tt);
      entries = h.importer_is.entries;
      imports = h.importer_is.imports;
    }

    pub may_have_formal : MayGrow (development v) (text_at v.store upper) (with_formal x)
    may_have_formal = may_become (with_formal x) formal_more

    pub has_formal : (w : InstancesView) → w.store ≡ v.store → development w ≡ grown (development v) (text_at v.store upper) (with_formal x) → HasBoth w lower upper
    has_formal = becomes (with_formal x) formal_more

  -- by an importing
  module _ (x : Import) (of : IsImportOf (text_at v.store lower) x) where
    import_more : IsImporter (with_import x h.importer) (text_at v.store upper) (text_at v.store lower)
    import_more = record {
      name = h.importer_is.name;
      formals = h.importer_is.formals;
      entries = h.importer_is.entries;
      imports = all_append (IsImportOf (text_at v.store lower)) h.importer.imports (x ∷ []) h.importer_is.imports (of, tt);
    }

    pub may_import : MayGrow (development v) (text_at v.store upper) (with_import x)
    may_import = may_become (with_import x) import_more

    pub imports_it : (w : InstancesView) → w.store ≡ v.store → development w ≡ grown (development v) (text_at v.store upper) (with_import x) → HasBoth w lower upper
    imports_it = becomes (with_import x) import_more
