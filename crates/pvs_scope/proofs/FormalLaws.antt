-- What the next place of a theory sees, once one more formal stands.
use Rattle.std.proofs.Common.{◌≡◌, ◌⊎◌, inl, inr, ℕ, zero, suc, ◌+◌, ◌<◌, Bool, true, false, ◌||◌, cond, List, [], ◌∷◌, ◌++◌, Option, Some, length, refl, ap, ap₂, sym, subst, ◌∙◌, arith, length-append, append_assoc}
use Rattle.std.proofs.lemmas.Bool.{eqb-true}
use Rattle.std.proofs.lemmas.List.Elements.{filter-append}
use Rattle.std.specs.Prelude.{option_map, nat_eq, if◌then◌else◌}
use Rattle.std.specs.List.{filter}
use Rattle.pvs_terms.specs.Tree.{Text, Ref, Own, Formal, Inst, Trees, ref_eq}
use Rattle.pvs_sig.specs.Signature.{Signature, FormalSig, Import, formal_kind}
use Rattle.pvs_sig.specs.Development.{Development, theory_named, In, kind_of}
use Rattle.pvs_sig.specs.Scope.{ref_instance, is_exported, imported_refs, is_among, without_repeats, formals_below, imported_refs_at, entries_below, whole_scope, scope}
use Rattle.pvs_sig.proofs.ScopeLaws.{in_left, in_right, in_split}
use Rattle.pvs_instantiate.specs.Grown.{with_formal}
use Rattle.pvs_names.specs.declared.kind.NameKind.{NameKind}
use Rattle.pvs_names.specs.Members.{Member, name_kind, of_formal, member_of, members, is_called, the_one, find}
use Rattle.pvs_names.specs.Resolve.{visible_members}
use Rattle.pvs_names.specs.Laws.{one_more}
use Rattle.pvs_names.proofs.MemberLaws.{find_more}
use Rattle.pvs_names.proofs.GrowthLaws.{get_before, get_last, members_append, entries_at_end, scope_is}

-- formals below n alone
abbrev pub IsBelow : ℕ → Ref → Type 0
IsBelow n (Own k) = Unit {0}
IsBelow n (Formal k) = k < n
IsBelow n (Inst th k xs) = Unit {0}

abbrev pub AreBelow : ℕ → List Ref → Type 0
AreBelow n [] = Unit {0}
AreBelow n (r ∷ rs) = IsBelow n r × AreBelow n rs

below_append : (n : ℕ) (rs ss : List Ref) → AreBelow n rs → AreBelow n ss → AreBelow n (rs ++ ss)
below_append n [] ss h k = k
below_append n (r ∷ rs) ss h k = (h.0, below_append n rs ss h.1 k)

below_if : (n : ℕ) (b : Bool) (rs ss : List Ref) → AreBelow n rs → AreBelow n ss → AreBelow n (if b then rs else ss)
below_if n true rs ss h k = h
below_if n false rs ss h k = k

-- a reference of a list of these
pub below_in : (n : ℕ) (rs : List Ref) → AreBelow n rs → (r : Ref) → In r rs → IsBelow n r
below_in n [] h r k = absurd k
below_in n (x ∷ rs) h r (inl e) = subst (IsBelow n) (sym e) h.0
below_in n (x ∷ rs) h r (inr k) = below_in n rs h.1 r k

formal_more : (n : ℕ) (rs : List Ref) → AreBelow n rs → AreBelow (suc n) rs
formal_more n [] h = tt
formal_more n (Own k ∷ rs) h = (tt, formal_more n rs h.1)
formal_more n (Formal k ∷ rs) h = (omega (arith, h.0), formal_more n rs h.1)
formal_more n (Inst th k xs ∷ rs) h = (tt, formal_more n rs h.1)

formals_are_below : (n : ℕ) → AreBelow n (formals_below n)
formals_are_below zero = tt
formals_are_below (suc n) = below_append (suc n) (formals_below n) (Formal n ∷ []) (formal_more n (formals_below n) (formals_are_below n)) (omega arith, tt)

-- no formal is exported
exported_if : (n : ℕ) (b : Bool) (r : Ref) (rs : List Ref) → (b ≡ true → IsBelow n r) → AreBelow n rs → AreBelow n (if b then r ∷ rs else rs)
exported_if n true r rs f h = (f refl, h)
exported_if n false r rs f h = h

exported_below : (n : ℕ) (s : Option Signature) (r : Ref) (th : Text) (xs : Trees) → is_exported s r ≡ true → IsBelow n (ref_instance r th xs)
exported_below n s (Own k) th xs e = tt
exported_below n s (Formal k) th xs e = absurd (cc)
exported_below n s (Inst a k ys) th xs e = tt

imported_below : (n : ℕ) (s : Option Signature) (th : Text) (xs : Trees) (rs : List Ref) → AreBelow n (imported_refs s th xs rs)
imported_below n s th xs [] = tt
imported_below n s th xs (r ∷ rs) = exported_if n (is_exported s r) (ref_instance r th xs) (imported_refs s th xs rs) (exported_below n s r th xs) (imported_below n s th xs rs)

module _ (n : ℕ) (brings : Import → List Ref) (below : (x : Import) → AreBelow n (brings x)) where
  imported_at_below : (xs : List Import) (p : ℕ) → AreBelow n (imported_refs_at brings xs p)
  imported_at_below [] p = tt
  imported_at_below (x ∷ xs) p = below_append n (if nat_eq x.place p then brings x else []) (imported_refs_at brings xs p) (below_if n (nat_eq x.place p) (brings x) [] (below x) tt) (imported_at_below xs p)

  entries_are_below : (xs : List Import) (k : ℕ) → AreBelow n (entries_below brings xs k)
  entries_are_below xs zero = imported_at_below xs zero
  entries_are_below xs (suc k) = below_append n (entries_below brings xs k) (Own k ∷ imported_refs_at brings xs (suc k)) (entries_are_below xs k) (tt, imported_at_below xs (suc k))

-- the formal n is none of these
new_eq : (n : ℕ) (r : Ref) → IsBelow n r → ref_eq (Formal n) r ≡ false
new_eq n (Own k) l = refl
new_eq n (Formal k) l = go (nat_eq n k) refl where
  go : (b : Bool) → nat_eq n k ≡ b → b ≡ false
  go true e = absurd (omega (arith, l, eqb-true n k e))
  go false e = refl
new_eq n (Inst th k xs) l = refl

eq_new : (n : ℕ) (r : Ref) → IsBelow n r → ref_eq r (Formal n) ≡ false
eq_new n (Own k) l = refl
eq_new n (Formal k) l = go (nat_eq k n) refl where
  go : (b : Bool) → nat_eq k n ≡ b → b ≡ false
  go true e = absurd (omega (arith, l, eqb-true k n e))
  go false e = refl
eq_new n (Inst th k xs) l = refl

new_among : (n : ℕ) (rs : List Ref) → AreBelow n rs → is_among (Formal n) rs ≡ false
new_among n [] h = refl
new_among n (r ∷ rs) h = ap₂ (λ a b. a || b) (new_eq n r h.0) (new_among n rs h.1)

-- that the formal n was met before matters to none of these
among_without : (n : ℕ) (x : Ref) (ps qs : List Ref) → IsBelow n x → is_among x (ps ++ Formal n ∷ qs) ≡ is_among x (ps ++ qs)
among_without n x [] qs h = ap (λ b. b || is_among x qs) (eq_new n x h)
among_without n x (p ∷ ps) qs h = ap (λ b. ref_eq x p || b) (among_without n x ps qs h)

same_if : (b c : Bool) (x : Ref) (ps qs rs ss : List Ref) → b ≡ c → ps ≡ qs → rs ≡ ss → (if b then ps else x ∷ rs) ≡ (if c then qs else x ∷ ss)
same_if b c x ps qs rs ss e f g = ap (λ z. if z then ps else x ∷ rs) e ∙ ap₂ (λ y z. if c then y else x ∷ z) f g

met_before : (n : ℕ) (ps qs rs : List Ref) → AreBelow n rs → without_repeats (ps ++ Formal n ∷ qs) rs ≡ without_repeats (ps ++ qs) rs
met_before n ps qs [] h = refl
met_before n ps qs (x ∷ rs) h = same_if (is_among x (ps ++ Formal n ∷ qs)) (is_among x (ps ++ qs)) x _ _ _ _ (among_without n x ps qs h.0) (met_before n ps qs rs h.1) (met_before n (x ∷ ps) qs rs h.1)

-- the second list is the first with one more reference in it
pub record IsSplit (r : Ref) (xs ys : List Ref) : Type 0 where
  pub left : List Ref
  pub right : List Ref
  pub without : xs ≡ left ++ right
  pub together : ys ≡ left ++ r ∷ right

split_cons : (r x : Ref) (xs ys : List Ref) → IsSplit r xs ys → IsSplit r (x ∷ xs) (x ∷ ys)
split_cons r x xs ys p = record { left = x ∷ p.left; right = p.right; without = ap (λ z. x ∷ z) p.without; together = ap (λ z. x ∷ z) p.together }

split_if : (b : Bool) (r x : Ref) (xs ys us vs : List Ref) → IsSplit r xs ys → IsSplit r us vs → IsSplit r (if b then xs else x ∷ us) (if b then ys else x ∷ vs)
split_if true r x xs ys us vs p q = p
split_if false r x xs ys us vs p q = split_cons r x us vs q

first_if : (b : Bool) (r : Ref) (xs ys zs : List Ref) → b ≡ false → zs ≡ ys → IsSplit r ys (if b then xs else r ∷ zs)
first_if true r xs ys zs e f = absurd (cc)
first_if false r xs ys zs e f = record { left = []; right = ys; without = refl; together = ap (λ z. r ∷ z) f }

inserted : (n : ℕ) (before rs ss : List Ref) → AreBelow n before → AreBelow n rs → AreBelow n ss → IsSplit (Formal n) (without_repeats before (rs ++ ss)) (without_repeats before (rs ++ Formal n ∷ ss))
inserted n before [] ss h k l = first_if (is_among (Formal n) before) (Formal n) (without_repeats before ss) (without_repeats before ss) (without_repeats (Formal n ∷ before) ss) (new_among n before h) (met_before n [] before ss l)
inserted n before (x ∷ rs) ss h k l = split_if (is_among x before) (Formal n) x _ _ _ _ (inserted n before rs ss h k.1 l) (inserted n (x ∷ before) rs ss (k.0, h) k.1 l)

-- a member between others is found as one at the end
middle : (ls rs : List Member) (m : Member) → the_one (ls ++ m ∷ rs) ≡ one_more (the_one (ls ++ rs)) m.reference
middle [] [] m = refl
middle [] (a ∷ []) m = refl
middle [] (a ∷ b ∷ rs) m = refl
middle (x ∷ []) [] m = refl
middle (x ∷ []) (a ∷ rs) m = refl
middle (x ∷ y ∷ ls) rs m = refl

middle_if : (b : Bool) (ls rs : List Member) (m : Member) → the_one (ls ++ cond b (m ∷ rs) rs) ≡ (if b then one_more (the_one (ls ++ rs)) m.reference else the_one (ls ++ rs))
middle_if true ls rs m = middle ls rs m
middle_if false ls rs m = refl

find_middle : (is : Ref → Bool) (kind : NameKind) (name : Text) (ls rs : List Member) (m : Member) → find is kind name (ls ++ m ∷ rs) ≡ find is kind name ((ls ++ rs) ++ m ∷ [])
find_middle is kind name ls rs m =
    let p : Member → Bool = is_called is kind name in
    ap the_one (filter-append p ls (m ∷ rs))
    ∙ middle_if (p m) (filter p ls) (filter p rs) m
    ∙ ap (λ z. if p m then one_more (the_one z) m.reference else the_one z) (sym (filter-append p ls rs))
    ∙ sym (find_more is kind name (ls ++ rs) m)

module _ (d : Development) (s : Signature) (f : FormalSig) where
  abbrev n : ℕ
  n = length s.formals

  abbrev i : ℕ
  i = length s.entries

  abbrev new : Signature
  new = with_formal f s

  abbrev pub formal_member : Member
  formal_member = record { name = f.name; kind = name_kind (formal_kind f); reference = Formal n }

  member_kept : (r : Ref) → IsBelow n r → member_of d new r ≡ member_of d s r
  member_kept (Own k) l = refl
  member_kept (Formal k) l = ap (of_formal (Formal k)) (get_before s.formals f k l)
  member_kept (Inst th k xs) l = refl

  members_kept : (rs : List Ref) → AreBelow n rs → members d new rs ≡ members d s rs
  members_kept [] h = refl
  members_kept (r ∷ rs) h = ap₂ (λ x y. x ++ y) (member_kept r h.0) (members_kept rs h.1)

  -- a reference other than the new formal is what it was
  pub kind_kept : (r : Ref) → IsBelow n r → kind_of d new r ≡ kind_of d s r
  kind_kept (Own k) l = refl
  kind_kept (Formal k) l = ap (option_map formal_kind) (get_before s.formals f k l)
  kind_kept (Inst th k xs) l = refl

  pub new_kind : kind_of d new (Formal n) ≡ Some (formal_kind f)
  new_kind = ap (option_map formal_kind) (get_last s.formals f)

  length_is : length (s.formals ++ f ∷ []) ≡ suc n
  length_is = let h : length (s.formals ++ f ∷ []) ≡ n + 1 = length-append s.formals (f ∷ []) in omega (arith, h)

  entries_are : AreBelow n (entries_at_end d s)
  entries_are = entries_are_below n _ (λ x. imported_below n (theory_named d x.theory) x.theory x.actuals (whole_scope d x.theory)) s.imports i

  new_scope : scope d new i ≡ without_repeats [] (formals_below n ++ Formal n ∷ entries_at_end d s)
  new_scope =
      scope_is d new
      ∙ ap (λ k. without_repeats [] (formals_below k ++ entries_at_end d s)) length_is
      ∙ ap (without_repeats []) (append_assoc (formals_below n) (Formal n ∷ []) (entries_at_end d s))

  pub split : IsSplit (Formal n) (scope d s i) (scope d new i)
  split =
      subst (λ z. IsSplit (Formal n) z (scope d new i)) (sym (scope_is d s))
      (subst (IsSplit (Formal n) (without_repeats [] (formals_below n ++ entries_at_end d s))) (sym new_scope)
      (inserted n [] (formals_below n) (entries_at_end d s) tt (formals_are_below n) entries_are))

  kept_below : (before rs : List Ref) → AreBelow n rs → AreBelow n (without_repeats before rs)
  kept_below before [] h = tt
  kept_below before (x ∷ rs) h = below_if n (is_among x before) (without_repeats before rs) (x ∷ without_repeats (x ∷ before) rs) (kept_below before rs h.1) (h.0, kept_below (x ∷ before) rs h.1)

  pub scope_below : AreBelow n (scope d s i)
  scope_below = subst (AreBelow n) (sym (scope_is d s)) (kept_below [] (formals_below n ++ entries_at_end d s) (below_append n (formals_below n) (entries_at_end d s) (formals_are_below n) entries_are))

  -- the place sees the new formal and what it saw
  pub seen : (r : Ref) → In r (scope d new i) → In r (scope d s i) ⊎ (r ≡ Formal n)
  seen r h = elim (in_split r split.left (Formal n ∷ split.right) (subst (In r) split.together h)) [
    | inl a ↦ inl (subst (In r) (sym split.without) (in_left r split.left split.right a))
    | inr b ↦ elim b [
      | inl e ↦ inr e
      | inr c ↦ inl (subst (In r) (sym split.without) (in_right r split.left split.right c))
    ]
  ]

  below_left : (ls rs : List Ref) → AreBelow n (ls ++ rs) → AreBelow n ls × AreBelow n rs
  below_left [] rs h = (tt, h)
  below_left (x ∷ ls) rs h = let p = below_left ls rs h.1 in ((h.0, p.0), p.1)

  -- names are found as if the formal were the last member
  pub formal_found : (is : Ref → Bool) (kind : NameKind) (name : Text) → find is kind name (visible_members d new i) ≡ find is kind name (visible_members d s i ++ formal_member ∷ [])
  formal_found is kind name =
      let ls = split.left in
      let rs = split.right in
      let b = below_left ls rs (subst (AreBelow n) split.without scope_below) in
      ap (λ z. find is kind name (members d new z)) split.together
      ∙ ap (find is kind name) (members_append d new ls (Formal n ∷ rs)
      ∙ ap₂ (λ x y. x ++ y) (members_kept ls b.0) (ap₂ (λ x y. x ++ y) (ap (of_formal (Formal n)) (get_last s.formals f)) (members_kept rs b.1)))
      ∙ find_middle is kind name (members d s ls) (members d s rs) formal_member
      ∙ ap (λ z. find is kind name (z ++ formal_member ∷ [])) (sym (members_append d s ls rs) ∙ ap (members d s) (sym split.without))
