-- What the next place of a theory sees, once one more entry stands.
use Rattle.std.proofs.Common.{◌≡◌, inl, inr, ℕ, zero, suc, ◌+◌, ◌<◌, ◌≤◌, Bool, true, false, ◌||◌, List, [], ◌∷◌, ◌++◌, Option, Some, length, refl, ap, ap₂, sym, subst, ◌∙◌, arith, length-append, append_assoc}
use Rattle.std.proofs.lemmas.Bool.{eqb-true}
use Rattle.std.proofs.lemmas.Option.{slice_get_past}
use Rattle.std.specs.Prelude.{slice_get, option_map, nat_eq, if◌then◌else◌}
use Rattle.pvs_terms.specs.Tree.{Text, Ref, Own, Formal, Inst, Trees, ref_eq}
use Rattle.pvs_sig.specs.Signature.{Signature, Entry, Import, entry_kind}
use Rattle.pvs_sig.specs.Development.{Development, theory_named, In, formals_seen, seen_by}
use Rattle.pvs_sig.specs.Scope.{ref_instance, is_exported, imported_refs, is_among, without_repeats, formals_below, imported_refs_at, entries_below, whole_scope, scope}
use Rattle.pvs_names.specs.Members.{name_kind, of_entry, member_of, members}
use Rattle.pvs_names.specs.Resolve.{visible_members}
use Rattle.pvs_names.specs.Laws.{with_entry}

-- own entries below n alone
abbrev pub IsOld : ℕ → Ref → Type 0
IsOld n (Own k) = k < n
IsOld n (Formal k) = Unit {0}
IsOld n (Inst th k xs) = Unit {0}

abbrev pub AreOld : ℕ → List Ref → Type 0
AreOld n [] = Unit {0}
AreOld n (r ∷ rs) = IsOld n r × AreOld n rs

pub old_append : (n : ℕ) (rs ss : List Ref) → AreOld n rs → AreOld n ss → AreOld n (rs ++ ss)
old_append n [] ss h k = k
old_append n (r ∷ rs) ss h k = (h.0, old_append n rs ss h.1 k)

formals_old : (n k : ℕ) → AreOld n (formals_below k)
formals_old n zero = tt
formals_old n (suc k) = old_append n (formals_below k) (Formal k ∷ []) (formals_old n k) (tt, tt)

instance_old : (n : ℕ) (r : Ref) (th : Text) (xs : Trees) → IsOld n (ref_instance r th xs)
instance_old n (Own k) th xs = tt
instance_old n (Formal k) th xs = tt
instance_old n (Inst a k ys) th xs = tt

pub old_if : (n : ℕ) (b : Bool) (rs ss : List Ref) → AreOld n rs → AreOld n ss → AreOld n (if b then rs else ss)
old_if n true rs ss h k = h
old_if n false rs ss h k = k

imported_old : (n : ℕ) (s : Option Signature) (th : Text) (xs : Trees) (rs : List Ref) → AreOld n (imported_refs s th xs rs)
imported_old n s th xs [] = tt
imported_old n s th xs (r ∷ rs) =
    let h = imported_old n s th xs rs in
    old_if n (is_exported s r) (ref_instance r th xs ∷ imported_refs s th xs rs) (imported_refs s th xs rs) (instance_old n r th xs, h) h

module _ (n : ℕ) (brings : Import → List Ref) (old : (x : Import) → AreOld n (brings x)) where
  imported_at_old : (xs : List Import) (p : ℕ) → AreOld n (imported_refs_at brings xs p)
  imported_at_old [] p = tt
  imported_at_old (x ∷ xs) p = old_append n (if nat_eq x.place p then brings x else []) (imported_refs_at brings xs p) (old_if n (nat_eq x.place p) (brings x) [] (old x) tt) (imported_at_old xs p)

  entries_old : (xs : List Import) (k : ℕ) → k ≤ n → AreOld n (entries_below brings xs k)
  entries_old xs zero l = imported_at_old xs zero
  entries_old xs (suc k) l = old_append n (entries_below brings xs k) (Own k ∷ imported_refs_at brings xs (suc k)) (entries_old xs k (omega (arith, l))) (omega (arith, l), imported_at_old xs (suc k))

-- after all places nothing is brought
pub not_at : (k n : ℕ) → k ≤ n → nat_eq k (suc n) ≡ false
not_at k n l = go (nat_eq k (suc n)) refl where
  go : (b : Bool) → nat_eq k (suc n) ≡ b → b ≡ false
  go true e = absurd (omega (arith, l, eqb-true k (suc n) e))
  go false e = refl

none_at : (brings : Import → List Ref) (xs : List Import) (n : ℕ) → ((x : Import) → In x xs → x.place ≤ n) → imported_refs_at brings xs (suc n) ≡ []
none_at brings [] n h = refl
none_at brings (x ∷ xs) n h = ap₂ (λ b rs. (if b then brings x else []) ++ rs) (not_at x.place n (h x (inl refl))) (none_at brings xs n (λ y k. h y (inr k)))

new_eq : (n : ℕ) (r : Ref) → IsOld n r → ref_eq (Own n) r ≡ false
new_eq n (Own k) l = go (nat_eq n k) refl where
  go : (b : Bool) → nat_eq n k ≡ b → b ≡ false
  go true e = absurd (omega (arith, l, eqb-true n k e))
  go false e = refl
new_eq n (Formal k) l = refl
new_eq n (Inst th k xs) l = refl

new_among : (n : ℕ) (rs : List Ref) → AreOld n rs → is_among (Own n) rs ≡ false
new_among n [] h = refl
new_among n (r ∷ rs) h = ap₂ (λ a b. a || b) (new_eq n r h.0) (new_among n rs h.1)

-- a new own entry comes once
pushed_if : (b : Bool) (r x : Ref) (ps bs cs ds : List Ref) → ps ≡ bs ++ r ∷ [] → cs ≡ ds ++ r ∷ [] → (if b then ps else x ∷ cs) ≡ ((if b then bs else x ∷ ds) ++ r ∷ [])
pushed_if true r x ps bs cs ds h k = h
pushed_if false r x ps bs cs ds h k = ap (λ z. x ∷ z) k

pushed : (n : ℕ) (before rs : List Ref) → AreOld n before → AreOld n rs → without_repeats before (rs ++ Own n ∷ []) ≡ without_repeats before rs ++ Own n ∷ []
pushed n before [] h k = ap (λ b. if b then [] else Own n ∷ []) (new_among n before h)
pushed n before (x ∷ rs) h k = pushed_if (is_among x before) (Own n) x _ _ _ _ (pushed n before rs h k.1) (pushed n (x ∷ before) rs (k.0, h) k.1)

pub kept_old : (n : ℕ) (before rs : List Ref) → AreOld n rs → AreOld n (without_repeats before rs)
kept_old n before [] h = tt
kept_old n before (x ∷ rs) h = old_if n (is_among x before) (without_repeats before rs) (x ∷ without_repeats (x ∷ before) rs) (kept_old n before rs h.1) (h.0, kept_old n (x ∷ before) rs h.1)

pub get_before : {A : Type 0} (xs : List A) (x : A) (k : ℕ) → k < length xs → slice_get (xs ++ x ∷ []) k ≡ slice_get xs k
get_before [] x k l = absurd (omega (arith, l))
get_before (y ∷ xs) x zero l = refl
get_before (y ∷ xs) x (suc k) l = get_before xs x k (omega (arith, l))

pub get_last : {A : Type 0} (xs : List A) (x : A) → slice_get (xs ++ x ∷ []) (length xs) ≡ Some x
get_last [] x = refl
get_last (y ∷ xs) x = get_last xs x

pub members_append : (d : Development) (s : Signature) (rs ss : List Ref) → members d s (rs ++ ss) ≡ members d s rs ++ members d s ss
members_append d s [] ss = refl
members_append d s (r ∷ rs) ss = ap (λ z. member_of d s r ++ z) (members_append d s rs ss) ∙ sym (append_assoc (member_of d s r) (members d s rs) (members d s ss))

-- the place after all entries sees all formals
pub seen_at_end : (s : Signature) (i : ℕ) → length s.entries ≤ i → formals_seen s i ≡ length s.formals
seen_at_end s i l = ap (λ o. seen_by (length s.formals) (option_map entry_kind o)) (slice_get_past s.entries i l)

module _ (d : Development) (s : Signature) where
  abbrev brings : Import → List Ref
  brings x = imported_refs (theory_named d x.theory) x.theory x.actuals (whole_scope d x.theory)

  -- own entries and what importings bring, up to the end
  abbrev pub entries_at_end : List Ref
  entries_at_end = entries_below brings s.imports (length s.entries)

  abbrev refs : List Ref
  refs = formals_below (length s.formals) ++ entries_at_end

  refs_old : AreOld (length s.entries) refs
  refs_old = old_append (length s.entries) (formals_below (length s.formals)) entries_at_end (formals_old (length s.entries) (length s.formals))
      (entries_old (length s.entries) brings (λ x. imported_old (length s.entries) (theory_named d x.theory) x.theory x.actuals (whole_scope d x.theory)) s.imports (length s.entries) (omega arith))

  pub scope_is : scope d s (length s.entries) ≡ without_repeats [] (formals_below (length s.formals) ++ entries_at_end)
  scope_is = ap (λ f. without_repeats [] (formals_below f ++ entries_at_end)) (seen_at_end s (length s.entries) (omega arith))

  pub scope_old : AreOld (length s.entries) (scope d s (length s.entries))
  scope_old = subst (AreOld (length s.entries)) (sym scope_is) (kept_old (length s.entries) [] refs refs_old)

module _ (d : Development) (s : Signature) (e : Entry) where
  abbrev n : ℕ
  n = length s.entries

  member_kept : (r : Ref) → IsOld n r → member_of d (with_entry s e) r ≡ member_of d s r
  member_kept (Own k) l = ap (of_entry (Own k)) (get_before s.entries e k l)
  member_kept (Formal k) l = refl
  member_kept (Inst th k xs) l = refl

  members_kept : (rs : List Ref) → AreOld n rs → members d (with_entry s e) rs ≡ members d s rs
  members_kept [] h = refl
  members_kept (r ∷ rs) h = ap₂ (λ x y. x ++ y) (member_kept r h.0) (members_kept rs h.1)

  length_is : length (with_entry s e).entries ≤ suc n
  length_is = let h : length (s.entries ++ e ∷ []) ≡ n + 1 = length-append s.entries (e ∷ []) in omega (arith, h)

  pub grown_scope : ((x : Import) → In x s.imports → x.place ≤ n) → scope d (with_entry s e) (suc n) ≡ scope d s n ++ Own n ∷ []
  grown_scope places =
      ap (λ f. without_repeats [] (formals_below f ++ entries_below (brings d s) s.imports (suc n))) (seen_at_end (with_entry s e) (suc n) length_is)
      ∙ ap (λ z. without_repeats [] (formals_below (length s.formals) ++ (entries_at_end d s ++ Own n ∷ z))) (none_at (brings d s) s.imports n places)
      ∙ ap (without_repeats []) (sym (append_assoc (formals_below (length s.formals)) (entries_at_end d s) (Own n ∷ [])))
      ∙ pushed n [] (refs d s) tt (refs_old d s)
      ∙ ap (λ z. z ++ Own n ∷ []) (sym (scope_is d s))

  pub members_grow : ((x : Import) → In x s.imports → x.place ≤ n) → visible_members d (with_entry s e) (suc n) ≡ visible_members d s n ++ record { name = e.name; kind = name_kind e.kind; reference = Own n } ∷ []
  members_grow places =
      ap (members d (with_entry s e)) (grown_scope places)
      ∙ members_append d (with_entry s e) (scope d s n) (Own n ∷ [])
      ∙ ap₂ (λ x y. x ++ (y ++ [])) (members_kept (scope d s n) (scope_old d s)) (ap (of_entry (Own n)) (get_last s.entries e))
