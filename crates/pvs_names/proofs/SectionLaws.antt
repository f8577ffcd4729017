-- The members of a section: own formals and entries, and entries of instances.
use Rattle.std.proofs.Common.{◌≡◌, ℕ, Bool, true, false, ◌&&◌, cond, eqb, List, [], ◌∷◌, ◌++◌, Option, refl, sym, ap, ap₂, subst, ◌∙◌}
use Rattle.std.proofs.lemmas.Bool.{eqb-true}
use Rattle.std.specs.Prelude.{bytes_eq}
use Rattle.pvs_terms.specs.Tree.{Text, Ref, Own, Formal, Inst, Trees, trees_eq}
use Rattle.pvs_terms.specs.Stored.{Stored, ref_at, text_at, IsName, IsRef, Extends}
use Rattle.pvs_terms.proofs.TreeLaws.{both, all_true, trees_eq-true, trees_eq-same}
use Rattle.pvs_names.specs.declared.kind.NameKind.{NameKind}
use Rattle.pvs_names.specs.declared.key.Section.{Section}
use Rattle.pvs_names.specs.declared.key.Section.TheVariants as section
use Rattle.pvs_names.specs.declared.key.Key.{Key}
use Rattle.pvs_names.specs.declared.index.Found.{Found}
use Rattle.pvs_names.specs.Members.{Member, kind_eq, is_called}
use Rattle.pvs_names.specs.Resolve.{is_entry_of, is_entry_at}
use Rattle.pvs_names.specs.code.Index.{section_eq, key_eq, found_of, with_reference, Notes, is_beside, is_in, IsFirst, IsSectionIn, IsKeyIn, Finds, IsDistinct, Indexes, IsMemberOf, IsFormal, IsOwnEntry, IsEntryOf}
use Rattle.pvs_names.proofs.MemberLaws.{same_bool, bytes_same, bytes_true, eqb_from, kind_flip, finds_more}

abbrev key : Section → NameKind → ℕ → Key
key x kind name = record { section = x; kind = kind; name = name }

-- the sections of an own entry, and of an entry of an instance
abbrev has_entry : Section → Bool
has_entry section.Own = true
has_entry section.OwnEntries = true
has_entry _ = false

abbrev has_instance : ℕ → ℕ → Section → Bool
has_instance th first section.Imported = true
has_instance th first (section.OfTheory a) = eqb th a
has_instance th first (section.OfInstance q) = eqb first q
has_instance th first _ = false

two_notes : (x : Section) (n : Bool) (o : Option Found) (r : ℕ) → with_reference (section_eq section.OwnEntries x && n) (with_reference (section_eq section.Own x && n) o r) r ≡ with_reference (has_entry x && n) o r
two_notes section.Own n o r = refl
two_notes section.OwnEntries n o r = refl
two_notes section.Imported n o r = refl
two_notes (section.OfTheory a) n o r = refl
two_notes (section.OfInstance q) n o r = refl

three_notes : (th first : ℕ) (x : Section) (n : Bool) (o : Option Found) (r : ℕ)
    → with_reference (section_eq (section.OfInstance first) x && n) (with_reference (section_eq (section.OfTheory th) x && n) (with_reference (section_eq section.Imported x && n) o r) r) r ≡ with_reference (has_instance th first x && n) o r
three_notes th first section.Own n o r = refl
three_notes th first section.OwnEntries n o r = refl
three_notes th first section.Imported n o r = refl
three_notes th first (section.OfTheory a) n o r = refl
three_notes th first (section.OfInstance q) n o r = refl

abbrev inst_theory : Ref → Text → Text
inst_theory (Inst th n xs) d = th
inst_theory _ d = d

abbrev inst_actuals : Ref → Trees → Trees
inst_actuals (Inst th n xs) d = xs
inst_actuals _ d = d

module _ (t : Stored) (d : IsDistinct t) where
  beside_first : (q : ℕ) (h : IsFirst t q) (r : Ref) → is_beside (ref_at t q) r ≡ is_entry_at h.theory h.actuals r
  beside_first q h r = ap (λ z. is_beside z r) h.is

  formal_in : (x : Section) → IsSectionIn t x → (r : Ref) → IsFormal r → is_in t x r ≡ section_eq section.Own x
  formal_in section.Own h (Formal n) k = refl
  formal_in section.OwnEntries h (Formal n) k = refl
  formal_in section.Imported h (Formal n) k = refl
  formal_in (section.OfTheory a) h (Formal n) k = refl
  formal_in (section.OfInstance q) h (Formal n) k = beside_first q h (Formal n)
  formal_in x h (Own n) k = absurd k
  formal_in x h (Inst a n xs) k = absurd k

  entry_in : (x : Section) → IsSectionIn t x → (r : Ref) → IsOwnEntry r → is_in t x r ≡ has_entry x
  entry_in section.Own h (Own n) k = refl
  entry_in section.OwnEntries h (Own n) k = refl
  entry_in section.Imported h (Own n) k = refl
  entry_in (section.OfTheory a) h (Own n) k = refl
  entry_in (section.OfInstance q) h (Own n) k = beside_first q h (Own n)
  entry_in x h (Formal n) k = absurd k
  entry_in x h (Inst a n xs) k = absurd k

  pub name_same : (m n : ℕ) → IsName t m → IsName t n → eqb m n ≡ bytes_eq (text_at t n) (text_at t m)
  name_same m n h k = same_bool (eqb m n) (bytes_eq (text_at t n) (text_at t m))
      (λ e. bytes_same (text_at t n) (text_at t m) (ap (text_at t) (sym (eqb-true m n e))))
      (λ e. eqb_from m n (d.names m n h k (sym (bytes_true (text_at t n) (text_at t m) e))))

  pub first_same : (th first r q : ℕ) (e : IsEntryOf t th first r) (h : IsFirst t q) → (bytes_eq h.theory (text_at t th) && trees_eq h.actuals e.actuals) ≡ eqb first q
  first_same th first r q e h = same_bool (bytes_eq h.theory (text_at t th) && trees_eq h.actuals e.actuals) (eqb first q)
      (λ p. let x = both (bytes_eq h.theory (text_at t th)) (trees_eq h.actuals e.actuals) p in
      eqb_from first q (d.references first q e.first_in h.reference (e.first_is ∙ ap₂ (λ a xs. Inst a 0 xs) (sym (bytes_true h.theory (text_at t th) x.0)) (sym (trees_eq-true h.actuals e.actuals x.1)) ∙ sym h.is)))
      (λ p. let same : Inst h.theory 0 h.actuals ≡ Inst (text_at t th) 0 e.actuals = sym h.is ∙ ap (ref_at t) (sym (eqb-true first q p)) ∙ e.first_is in
      all_true (bytes_same h.theory (text_at t th) (ap (λ z. inst_theory z h.theory) same)) (subst (λ z. trees_eq h.actuals z ≡ true) (ap (λ z. inst_actuals z h.actuals) same) (trees_eq-same h.actuals)))

  instance_in : (th first r : ℕ) (e : IsEntryOf t th first r) (x : Section) → IsSectionIn t x → is_in t x (Inst (text_at t th) e.number e.actuals) ≡ has_instance th first x
  instance_in th first r e section.Own h = refl
  instance_in th first r e section.OwnEntries h = refl
  instance_in th first r e section.Imported h = refl
  instance_in th first r e (section.OfTheory a) h = sym (name_same th a e.theory_in h)
  instance_in th first r e (section.OfInstance q) h = beside_first q h (Inst (text_at t th) e.number e.actuals) ∙ first_same th first r q e h

  module _ (kind : NameKind) (name r : ℕ) (m : Member) (i : IsMemberOf t kind name r m) where
    called : (k : Key) → IsName t k.name → (kind_eq k.kind m.kind && bytes_eq (text_at t k.name) m.name) ≡ (kind_eq kind k.kind && eqb name k.name)
    called k h = ap₂ (λ a b. a && b) (ap (kind_eq k.kind) i.kind_is ∙ kind_flip k.kind kind) (ap (bytes_eq (text_at t k.name)) i.name_is ∙ sym (name_same name k.name i.name_in h))

    -- one key, where the sections of the member are these
    section_added : (old new : List (Key × Found)) (ms : List Member) (k : Key) (b : Bool) → IsKeyIn t k → Finds t old ms k
        → is_in t k.section m.reference ≡ b → found_of new k ≡ with_reference (b && (kind_eq kind k.kind && eqb name k.name)) (found_of old k) r → Finds t new (ms ++ m ∷ []) k
    section_added old new ms k b h f e n = finds_more t old new ms m k r (b && (kind_eq kind k.kind && eqb name k.name)) i.reference_in i.reference_is n (ap₂ (λ x y. x && y) e (called k h.1)) f

member_extends : {s t : Stored} {kind : NameKind} {name r : ℕ} {m : Member} → Extends s t → IsMemberOf s kind name r m → IsMemberOf t kind name r m
member_extends {s} {t} {kind} {name} {r} {m} x i = record {
  name_in = x.names name i.name_in;
  name_is = i.name_is ∙ sym (x.texts name i.name_in);
  kind_is = i.kind_is;
  reference_in = x.refs r i.reference_in;
  reference_is = i.reference_is ∙ sym (x.references r i.reference_in);
}

entry_extends : {s t : Stored} {th first r : ℕ} → Extends s t → IsRef s r → IsEntryOf s th first r → IsEntryOf t th first r
entry_extends {s} {t} {th} {first} {r} x h e = record {
  theory_in = x.names th e.theory_in;
  first_in = x.refs first e.first_in;
  actuals = e.actuals;
  number = e.number;
  first_is = x.references first e.first_in ∙ e.first_is ∙ ap (λ z. Inst z 0 e.actuals) (sym (x.texts th e.theory_in));
  reference_is = x.references r h ∙ e.reference_is ∙ ap (λ z. Inst z e.number e.actuals) (sym (x.texts th e.theory_in));
}

pub formal_added : (old new : List (Key × Found)) (kind : NameKind) (name r : ℕ) → Notes old new (key section.Own kind name) r
    → (s : Stored) (ms : List Member) (m : Member) → IsMemberOf s kind name r m → IsFormal m.reference → Indexes s old ms → Indexes s new (ms ++ m ∷ [])
formal_added old new kind name r n s ms m i f ix t x d k h =
    section_added t d kind name r m (member_extends x i) old new ms k (section_eq section.Own k.section) h (ix t x d k h) (formal_in t d k.section h.0 m.reference f) (n k)

pub entry_added : (old mid new : List (Key × Found)) (kind : NameKind) (name r : ℕ) → Notes old mid (key section.Own kind name) r → Notes mid new (key section.OwnEntries kind name) r
    → (s : Stored) (ms : List Member) (m : Member) → IsMemberOf s kind name r m → IsOwnEntry m.reference → Indexes s old ms → Indexes s new (ms ++ m ∷ [])
entry_added old mid new kind name r n1 n2 s ms m i f ix t x d k h =
    section_added t d kind name r m (member_extends x i) old new ms k (has_entry k.section) h (ix t x d k h) (entry_in t d k.section h.0 m.reference f)
    (n2 k ∙ ap (λ o. with_reference (section_eq section.OwnEntries k.section && (kind_eq kind k.kind && eqb name k.name)) o r) (n1 k)
    ∙ two_notes k.section (kind_eq kind k.kind && eqb name k.name) (found_of old k) r)

pub instance_added : (old one two new : List (Key × Found)) (kind : NameKind) (name r th first : ℕ)
    → Notes old one (key section.Imported kind name) r → Notes one two (key (section.OfTheory th) kind name) r → Notes two new (key (section.OfInstance first) kind name) r
    → (s : Stored) (ms : List Member) (m : Member) → IsMemberOf s kind name r m → IsEntryOf s th first r → Indexes s old ms → Indexes s new (ms ++ m ∷ [])
instance_added old one two new kind name r th first n1 n2 n3 s ms m i e ix t x d k h =
    let here = entry_extends x i.reference_in e in
    let at = member_extends x i in
    section_added t d kind name r m at old new ms k (has_instance th first k.section) h (ix t x d k h)
    (ap (is_in t k.section) (at.reference_is ∙ here.reference_is) ∙ instance_in t d th first r here k.section h.0)
    (n3 k ∙ ap (λ o. with_reference (section_eq (section.OfInstance first) k.section && (kind_eq kind k.kind && eqb name k.name)) o r)
    (n2 k ∙ ap (λ o. with_reference (section_eq (section.OfTheory th) k.section && (kind_eq kind k.kind && eqb name k.name)) o r) (n1 k))
    ∙ three_notes th first k.section (kind_eq kind k.kind && eqb name k.name) (found_of old k) r)
