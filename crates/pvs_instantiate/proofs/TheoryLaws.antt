-- Look-ups of theories by name in the list of those that stand.
use Rattle.std.proofs.Common.{◌≡◌, ℕ, zero, suc, Bool, true, false, cond, Option, Some, None, List, [], ◌∷◌, ◌++◌, slice_get, remove, refl, sym, ap, subst, ◌∙◌, true≢false}
use Rattle.std.specs.Prelude.{bytes_eq, IsSome}
use Rattle.std.proofs.lemmas.Slice.Eq.{bytes_eq-Decides}
use Rattle.pvs_terms.specs.Tree.{Text}
use Rattle.pvs_sig.specs.Signature.{Signature}
use Rattle.pvs_sig.specs.SignatureAt.{AllIn}
use Rattle.pvs_sig.specs.Development.{Development, theory_named, IsDevelopment}
use Rattle.pvs_sig.specs.Laws.{without}
use Rattle.pvs_sig.proofs.DeclaredLaws.{same_look_up}
use Rattle.pvs_instantiate.specs.Standing.{theories_after}
use Rattle.pvs_instantiate.proofs.ListLaws.{all_get}

same_text : (a b : Text) → bytes_eq a b ≡ true → a ≡ b
same_text a b h = (bytes_eq-Decides a b).0 h

pub text_itself : (a b : Text) → a ≡ b → bytes_eq a b ≡ true
text_itself a b h = (bytes_eq-Decides a b).1 h

none_some : (z : Option Signature) → z ≡ None → IsSome z → ⊥
none_some None e k = cc
none_some (Some s) e k = cc

-- a theory more is the latest
pub after_append : (d : Development) (xs : List Signature) (x : Signature) → theories_after d (xs ++ x ∷ []) ≡ x ∷ theories_after d xs
after_append d [] x = refl
after_append d (y ∷ ys) x = after_append (y ∷ d) ys x

pub below_stands : (d : Development) (xs : List Signature) → IsDevelopment (theories_after d xs) → IsDevelopment d
below_stands d [] h = h
below_stands d (x ∷ xs) h = (below_stands (x ∷ d) xs h).2

still_named : (d : Development) (xs : List Signature) (th : Text) (s : Signature) → IsDevelopment (theories_after d xs) → theory_named d th ≡ Some s → theory_named (theories_after d xs) th ≡ Some s
still_named d [] th s h e = e
still_named d (x ∷ xs) th s h e = still_named (x ∷ d) xs th s h (same_look_up x d th (below_stands (x ∷ d) xs h).0 (subst IsSome (sym e) refl) ∙ e)

pub itself : (x : Signature) (d : Development) → theory_named (x ∷ d) x.name ≡ Some x
itself x d = ap (λ b. cond b (Some x) (theory_named d x.name)) (text_itself x.name x.name refl)

-- a theory of the list is found by its name
pub named_at : (d : Development) (xs : List Signature) (i : ℕ) (s : Signature) → IsDevelopment (theories_after d xs) → slice_get xs i ≡ Some s → theory_named (theories_after d xs) s.name ≡ Some s
named_at d [] i s h e = cc
named_at d (x ∷ xs) zero s h e =
    let at : x ≡ s = cc in
    subst (λ z. theory_named (theories_after (x ∷ d) xs) z.name ≡ Some z) at (still_named (x ∷ d) xs x.name x h (itself x d))
named_at d (x ∷ xs) (suc i) s h e = named_at (x ∷ d) xs i s h e

-- a name that is that of no theory of the list
pub not_named : (d : Development) (xs : List Signature) (th : Text) → theory_named d th ≡ None → AllIn (λ s. bytes_eq s.name th ≡ false) xs → theory_named (theories_after d xs) th ≡ None
not_named d [] th e h = e
not_named d (x ∷ xs) th e h = not_named (x ∷ d) xs th (ap (λ b. cond b (Some x) (theory_named d th)) h.0 ∙ e) h.1

others_differ : (th : Text) (d : Development) (xs : List Signature) → IsSome (theory_named d th) → IsDevelopment (theories_after d xs) → AllIn (λ y. bytes_eq y.name th ≡ false) xs
others_differ th d [] m h = tt
others_differ th d (y ∷ ys) m h = (by (bytes_eq y.name th) refl, others_differ th (y ∷ d) ys (subst IsSome (sym (same_look_up y d th new m)) m) h)
  where
    new : theory_named d y.name ≡ None
    new = (below_stands (y ∷ d) ys h).0

    by : (b : Bool) → bytes_eq y.name th ≡ b → bytes_eq y.name th ≡ false
    by true e = absurd (none_some (theory_named d y.name) new (subst (λ z. IsSome (theory_named d z)) (sym (same_text y.name th e)) m))
    by false e = e

without_others : (th : Text) (d : Development) (xs : List Signature) → AllIn (λ s. bytes_eq s.name th ≡ false) xs → without th (theories_after d xs) ≡ theories_after (without th d) xs
without_others th d [] h = refl
without_others th d (x ∷ xs) h = without_others th (x ∷ d) xs h.1 ∙ ap (λ b. theories_after (cond b d (x ∷ without th d)) xs) h.0

-- without the theory at this place of the list
pub without_at : (d : Development) (xs : List Signature) (i : ℕ) (s : Signature) → IsDevelopment (theories_after d xs) → slice_get xs i ≡ Some s → without s.name (theories_after d xs) ≡ theories_after d (remove xs i)
without_at d [] i s h e = cc
without_at d (x ∷ xs) zero s h e =
    let at : x ≡ s = cc in
    subst (λ z. without z.name (theories_after (x ∷ d) xs) ≡ theories_after d xs) at
    (without_others x.name (x ∷ d) xs (others_differ x.name (x ∷ d) xs (subst IsSome (sym (itself x d)) refl) h)
    ∙ ap (λ b. theories_after (cond b d (x ∷ without x.name d)) xs) (text_itself x.name x.name refl))
without_at d (x ∷ xs) (suc i) s h e = without_at (x ∷ d) xs i s h e

pub without_none : (th : Text) (d : Development) → IsDevelopment d → theory_named (without th d) th ≡ None
without_none th [] h = refl
without_none th (s ∷ d) h = by (bytes_eq s.name th) refl (without_none th d h.2)
  where
    by : (b : Bool) → bytes_eq s.name th ≡ b → theory_named (without th d) th ≡ None → theory_named (cond b d (s ∷ without th d)) th ≡ None
    by true e ih = ap (theory_named d) (sym (same_text s.name th e)) ∙ h.0
    by false e ih = ap (λ b. cond b (Some s) (theory_named (without th d) th)) e ∙ ih

-- the others have other names
pub others_at : (d : Development) (xs : List Signature) (i : ℕ) (s : Signature) → IsDevelopment (theories_after d xs) → slice_get xs i ≡ Some s → AllIn (λ y. bytes_eq y.name s.name ≡ false) (remove xs i)
others_at d [] i s h e = cc
others_at d (x ∷ xs) zero s h e =
    let at : x ≡ s = cc in
    subst (λ z. AllIn (λ y. bytes_eq y.name z.name ≡ false) xs) at (others_differ x.name (x ∷ d) xs (subst IsSome (sym (itself x d)) refl) h)
others_at d (x ∷ xs) (suc i) s h e = (by (bytes_eq x.name s.name) refl, others_at (x ∷ d) xs i s h e)
  where
    other : bytes_eq s.name x.name ≡ false
    other = all_get (λ y. bytes_eq y.name x.name ≡ false) xs i s (others_differ x.name (x ∷ d) xs (subst IsSome (sym (itself x d)) refl) h) e

    by : (b : Bool) → bytes_eq x.name s.name ≡ b → bytes_eq x.name s.name ≡ false
    by true q = absurd (true≢false (sym (text_itself s.name x.name (sym (same_text x.name s.name q))) ∙ other))
    by false q = q

-- where no theory has the name, each has another
pub absent_differ : (d : Development) (xs : List Signature) (th : Text) → IsDevelopment (theories_after d xs) → theory_named (theories_after d xs) th ≡ None → AllIn (λ y. bytes_eq y.name th ≡ false) xs
absent_differ d [] th h e = tt
absent_differ d (x ∷ xs) th h e = (by (bytes_eq x.name th) refl, absent_differ (x ∷ d) xs th h e)
  where
    by : (b : Bool) → bytes_eq x.name th ≡ b → bytes_eq x.name th ≡ false
    by true q = absurd (none_some (theory_named (theories_after (x ∷ d) xs) th) e (subst IsSome (sym (still_named (x ∷ d) xs th x h (ap (λ b. cond b (Some x) (theory_named d th)) q))) refl))
    by false q = q
