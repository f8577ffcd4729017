-- A type that several bindings share finds nothing new after the first of them.
use Rattle.std.proofs.Common.{◌≡◌, ◌<◌, ◌≤◌, ◌+◌, ◌*◌, ℕ, zero, suc, Bool, true, false, cond, ◌||◌, List, [], ◌∷◌, ◌++◌, drop, get_or, length, refl, sym, ap, ◌∙◌, append_assoc, append-nil, arith}
use Rattle.std.specs.Prelude.{bytes_eq, ⊤, is_none, is_ok, Option, Some, None}
use Rattle.std.proofs.lemmas.Bool.{false≢true}
use Rattle.std.proofs.Math.ListN.{drop_of_length-le}
use Rattle.std.proofs.lemmas.List.{drop_more, map-append}
use Rattle.std.proofs.lemmas.List.Folds.{list_any-append}
use Rattle.pvs_base.specs.declared.place.Pos.{Pos}
use Rattle.pvs_syntax.specs.declared.expression.Binding.{Binding, out-Binding}
use Rattle.pvs_syntax.specs.declared.expression.TypeExpr.{TypeExpr}
use Rattle.pvs_terms.specs.Tree.{Text}
use Rattle.pvs_elab.specs.Desugar.{Bound, all_of, some_of, domain, names, type_from, type_of, type_or, type_phrase}
use Rattle.pvs_elab.specs.Formula.{Occurs, is_in, occurrences}
use Rattle.pvs_elab.specs.Names.{Names}
use Rattle.pvs_elab.specs.Phrase.{Phrase, Name, Truth, Apply, Tuple, Part, Group, Choice, Not, Equal, Iff, All as Forall, Lambda, Let, LetAs, TypeOf, Sub, Predicate, Function, Product, Other}
use Rattle.pvs_phrases.specs.Parts.{bounds}
use Rattle.pvs_phrases.specs.Size.{size}
use Rattle.pvs_phrases.proofs.BindingLaws.{next_written, next_unwritten}
use Rattle.pvs_free_variables.specs.code.Bindings.{names_onto, type_occurrences, shared_occurrences, bindings_work}
use Rattle.pvs_free_variables.specs.code.Finding.{add_all, add_first, names_of}
use Rattle.pvs_free_variables.proofs.CountLaws.{bytes_same, bytes_true}
use Rattle.pvs_free_variables.proofs.FindingLaws.{add_all_append}

-- The type that is written next.

pub written_at : (text x : Text) (pos : Pos) (bs : List Binding) (k : ℕ) (b : Binding) (a : TypeExpr) → k < length bs → b ≡ get_or bs k b → (out-Binding b).ty ≡ Some a
    → type_from x pos (bounds text (drop k bs)) ≡ type_phrase text a
written_at text x pos bs k b a h e t = next_written text x pos (drop k bs) (drop (k + 1) bs) b a (drop_more bs k b h ∙ ap (λ c. c ∷ drop (k + 1) bs) (sym e)) t

pub unwritten_at : (text x : Text) (pos : Pos) (bs : List Binding) (k : ℕ) (b : Binding) → k < length bs → b ≡ get_or bs k b → (out-Binding b).ty ≡ None
    → type_from x pos (bounds text (drop k bs)) ≡ type_from x pos (bounds text (drop (k + 1) bs))
unwritten_at text x pos bs k b h e t = next_unwritten text x pos (drop k bs) (drop (k + 1) bs) b (drop_more bs k b h ∙ ap (λ c. c ∷ drop (k + 1) bs) (sym e)) t

pub unwritten_after : (text x : Text) (pos : Pos) (bs : List Binding) (k : ℕ) → length bs ≤ k → type_from x pos (bounds text (drop k bs)) ≡ TypeOf x pos
unwritten_after text x pos bs k h = ap (λ cs. type_from x pos (bounds text cs)) (drop_of_length-le bs h)

-- Names that are among others.

abbrev AreAmong : List Text → List Text → Type 0
AreAmong ys xs = (x : Text) → is_in x xs ≡ true → is_in x ys ≡ true

either_way : (a b c d : Bool) → (a ≡ true → c ≡ true) → (b ≡ true → d ≡ true) → (a || b) ≡ true → (c || d) ≡ true
either_way true b c d p q e = rw (p refl) refl
either_way false b true d p q e = refl
either_way false b false d p q e = q e

one_more : (x : Text) (xs ys : List Text) → AreAmong ys xs → AreAmong (x ∷ ys) (x ∷ xs)
one_more x xs ys h y = either_way (bytes_eq y x) (is_in y xs) (bytes_eq y x) (is_in y ys) (λ e. e) (h y)

several_more : (zs xs ys : List Text) → AreAmong ys xs → AreAmong (zs ++ ys) (zs ++ xs)
several_more [] xs ys h = h
several_more (z ∷ zs) xs ys h = one_more z (zs ++ xs) (zs ++ ys) (several_more zs xs ys h)

-- Occurrences whose names are among those of others.

abbrev Covers : List Occurs → List Occurs → Type 0
Covers ps os = AreAmong (names_of ps) (names_of os)

is_in_append : (x : Text) (os ps : List Occurs) → is_in x (names_of (os ++ ps)) ≡ (is_in x (names_of os) || is_in x (names_of ps))
is_in_append x os ps = ap (is_in x) (map-append (λ (p : Occurs). p.name) os ps) ∙ list_any-append (bytes_eq x) (names_of os) (names_of ps)

both : (os ps qs rs : List Occurs) → Covers qs os → Covers rs ps → Covers (qs ++ rs) (os ++ ps)
both os ps qs rs h k x e = is_in_append x qs rs ∙ either_way (is_in x (names_of os)) (is_in x (names_of ps)) (is_in x (names_of qs)) (is_in x (names_of rs)) (h x) (k x) (sym (is_in_append x os ps) ∙ e)

fewer : (a b : Bool) (os : List Occurs) → (b ≡ true → a ≡ true) → Covers (cond b [] os) (cond a [] os)
fewer true b os h x e = absurd (false≢true e)
fewer false true os h x e = absurd (false≢true (h refl))
fewer false false os h x e = e

-- under more names there are no other occurrences
under_more : (ns : Names) (b : Bool) (e : Phrase) (xs ys : List Text) → AreAmong ys xs → Covers (occurrences ns b xs e) (occurrences ns b ys e)
under_more ns true (Name x pos) xs ys h = fewer (is_in x ys) (is_in x xs) (cond (is_ok (ns.variable_named x)) (record { name = x; pos = pos } ∷ []) []) (h x)
under_more ns false (Name x pos) xs ys h = λ y e. e
under_more ns b (Truth v pos) xs ys h = λ y e. e
under_more ns b (Apply f x) xs ys h = both (occurrences ns true ys f) (occurrences ns true ys x) (occurrences ns true xs f) (occurrences ns true xs x) (under_more ns true f xs ys h) (under_more ns true x xs ys h)
under_more ns b (Tuple k x y pos) xs ys h = both (occurrences ns true ys x) (occurrences ns true ys y) (occurrences ns true xs x) (occurrences ns true xs y) (under_more ns true x xs ys h) (under_more ns true y xs ys h)
under_more ns b (Part x i pos) xs ys h = under_more ns true x xs ys h
under_more ns b (Group x pos) xs ys h = under_more ns true x xs ys h
under_more ns b (Choice early c x y join pos) xs ys h =
    both (occurrences ns true ys c) (occurrences ns true ys x ++ occurrences ns true ys y) (occurrences ns true xs c) (occurrences ns true xs x ++ occurrences ns true xs y) (under_more ns true c xs ys h)
    (both (occurrences ns true ys x) (occurrences ns true ys y) (occurrences ns true xs x) (occurrences ns true xs y) (under_more ns true x xs ys h) (under_more ns true y xs ys h))
under_more ns b (Not x pos) xs ys h = under_more ns true x xs ys h
under_more ns b (Equal x y) xs ys h = both (occurrences ns true ys x) (occurrences ns true ys y) (occurrences ns true xs x) (occurrences ns true xs y) (under_more ns true x xs ys h) (under_more ns true y xs ys h)
under_more ns b (Iff x y) xs ys h = both (occurrences ns true ys x) (occurrences ns true ys y) (occurrences ns true xs x) (occurrences ns true xs y) (under_more ns true x xs ys h) (under_more ns true y xs ys h)
under_more ns b (Forall x a p pos) xs ys h =
    both (occurrences ns false ys a) (occurrences ns true (x ∷ ys) p) (occurrences ns false xs a) (occurrences ns true (x ∷ xs) p) (under_more ns false a xs ys h) (under_more ns true p (x ∷ xs) (x ∷ ys) (one_more x xs ys h))
under_more ns b (Lambda d zs e pos) xs ys h =
    both (occurrences ns false ys d) (occurrences ns true (zs ++ ys) e) (occurrences ns false xs d) (occurrences ns true (zs ++ xs) e) (under_more ns false d xs ys h)
    (under_more ns true e (zs ++ xs) (zs ++ ys) (several_more zs xs ys h))
under_more ns b (Let x v e pos) xs ys h =
    both (occurrences ns true ys v) (occurrences ns true (x ∷ ys) e) (occurrences ns true xs v) (occurrences ns true (x ∷ xs) e) (under_more ns true v xs ys h) (under_more ns true e (x ∷ xs) (x ∷ ys) (one_more x xs ys h))
under_more ns b (LetAs x a v e pos) xs ys h =
    both (occurrences ns false ys a) (occurrences ns true ys v ++ occurrences ns true (x ∷ ys) e) (occurrences ns false xs a) (occurrences ns true xs v ++ occurrences ns true (x ∷ xs) e) (under_more ns false a xs ys h)
    (both (occurrences ns true ys v) (occurrences ns true (x ∷ ys) e) (occurrences ns true xs v) (occurrences ns true (x ∷ xs) e) (under_more ns true v xs ys h) (under_more ns true e (x ∷ xs) (x ∷ ys) (one_more x xs ys h)))
under_more ns b (TypeOf x pos) xs ys h = λ y e. e
under_more ns b (Sub x a p pos) xs ys h =
    both (occurrences ns false ys a) (occurrences ns true (x ∷ ys) p) (occurrences ns false xs a) (occurrences ns true (x ∷ xs) p) (under_more ns false a xs ys h) (under_more ns true p (x ∷ xs) (x ∷ ys) (one_more x xs ys h))
under_more ns b (Predicate q pos) xs ys h = under_more ns true q xs ys h
under_more ns b (Function d zs e pos) xs ys h =
    both (occurrences ns false ys d) (occurrences ns false (zs ++ ys) e) (occurrences ns false xs d) (occurrences ns false (zs ++ xs) e) (under_more ns false d xs ys h)
    (under_more ns false e (zs ++ xs) (zs ++ ys) (several_more zs xs ys h))
under_more ns b (Product k x a e pos) xs ys h =
    both (occurrences ns false ys a) (occurrences ns false (x ∷ ys) e) (occurrences ns false xs a) (occurrences ns false (x ∷ xs) e) (under_more ns false a xs ys h)
    (under_more ns false e (x ∷ xs) (x ∷ ys) (one_more x xs ys h))
under_more ns b (Other pos) xs ys h = λ y e. e

-- What is found already.

itself : (x : Text) (xs : List Text) → is_in x (x ∷ xs) ≡ true
itself x xs = rw (bytes_same x) refl

found_stays : (x : Text) (found os : List Occurs) → is_in x (names_of found) ≡ true → is_in x (names_of (add_all found os)) ≡ true
found_stays x found [] e = e
found_stays x found (o ∷ os) e = found_stays x (add_first found o) os (at (is_in o.name (names_of found))) where
  at : (b : Bool) → is_in x (names_of (cond b found (found ++ o ∷ []))) ≡ true
  at true = e
  at false = is_in_append x found (o ∷ []) ∙ rw e refl

added : (found : List Occurs) (o : Occurs) → is_in o.name (names_of (add_first found o)) ≡ true
added found o = at (is_in o.name (names_of found)) refl where
  at : (b : Bool) → is_in o.name (names_of found) ≡ b → is_in o.name (names_of (cond b found (found ++ o ∷ []))) ≡ true
  at true e = e
  at false e = is_in_append o.name found (o ∷ []) ∙ rw (e, bytes_same o.name) refl

all_added : (found os : List Occurs) → Covers (add_all found os) os
all_added found [] x e = absurd (false≢true e)
all_added found (o ∷ os) x e = at (bytes_eq x o.name) refl (all_added (add_first found o) os x) e where
  at : (b : Bool) → bytes_eq x o.name ≡ b → (is_in x (names_of os) ≡ true → is_in x (names_of (add_all (add_first found o) os)) ≡ true)
      → (b || is_in x (names_of os)) ≡ true → is_in x (names_of (add_all (add_first found o) os)) ≡ true
  at true p h q = found_stays x (add_first found o) os (rw (bytes_true x o.name p) (added found o))
  at false p h q = h q

or_true : (b : Bool) → (b || true) ≡ true
or_true true = refl
or_true false = refl

later : (x y : Text) (ys : List Text) → is_in x ys ≡ true → is_in x (y ∷ ys) ≡ true
later x y ys e = rw e (or_true (bytes_eq x y))

covered : (found os : List Occurs) → Covers found os → add_all found os ≡ found
covered found [] h = refl
covered found (o ∷ os) h = rw (h o.name (itself o.name (names_of os))) (covered found os (λ x e. h x (later x o.name (names_of os) e)))

-- A type that is shared.

same_type : (ns : Names) (bound : List Text) (x y : Text) (p q : Pos) (bs : List Bound) → occurrences ns false bound (type_from x p bs) ≡ occurrences ns false bound (type_from y q bs)
same_type ns bound x y p q [] = refl
same_type ns bound x y p q (b ∷ bs) = at b.ty (same_type ns bound x y p q bs) where
  at : (t : Option Phrase) → occurrences ns false bound (type_from x p bs) ≡ occurrences ns false bound (type_from y q bs)
      → occurrences ns false bound (type_or (type_from x p bs) t) ≡ occurrences ns false bound (type_or (type_from y q bs) t)
  at None e = e
  at (Some a) e = refl

-- the type of the first of these bindings finds nothing new
IsFound : Names → List Text → List Occurs → List Bound → Type 0
IsFound ns bound found [] = ⊤
IsFound ns bound found (b ∷ bs) = Covers found (occurrences ns false bound (type_of b bs))

none_is : (t : Option Phrase) → is_none t ≡ true → t ≡ None
none_is None e = refl
none_is (Some a) e = absurd (false≢true e)

next_found : (ns : Names) (bound : List Text) (found : List Occurs) (b : Bound) (bs : List Bound) → Covers found (occurrences ns false bound (type_of b bs)) → is_none b.ty ≡ true
    → IsFound ns (b.name ∷ bound) found bs
unfolding IsFound
next_found ns bound found b [] h n = tt
next_found ns bound found b (c ∷ cs) h n = λ x e. h x (rw is (under_more ns false (type_of c cs) bound (b.name ∷ bound) (λ y i. later y b.name bound i) x e)) where
  is : occurrences ns false bound (type_of b (c ∷ cs)) ≡ occurrences ns false bound (type_of c cs)
  is = ap (λ t. occurrences ns false bound (type_or (type_from b.name b.pos (c ∷ cs)) t)) (none_is b.ty n) ∙ same_type ns bound b.name c.name b.pos c.pos (c ∷ cs)

shared_same : (ns : Names) (searched : Bool) (bound : List Text) (bs : List Bound) (found : List Occurs) → (searched ≡ true → IsFound ns bound found bs)
    → add_all found (shared_occurrences ns searched bound bs) ≡ add_all found (type_occurrences ns bound bs)
unfolding IsFound
shared_same ns searched bound [] found h = refl
shared_same ns true bound (b ∷ bs) found h =
    let os = occurrences ns false bound (type_of b bs) in
    shared_same ns (is_none b.ty) (b.name ∷ bound) bs found (next_found ns bound found b bs (h refl))
    ∙ ap (λ ps. add_all ps (type_occurrences ns (b.name ∷ bound) bs)) (sym (covered found os (h refl)))
    ∙ sym (add_all_append found os (type_occurrences ns (b.name ∷ bound) bs))
shared_same ns false bound (b ∷ bs) found h =
    let os = occurrences ns false bound (type_of b bs) in
    add_all_append found os (shared_occurrences ns (is_none b.ty) (b.name ∷ bound) bs)
    ∙ shared_same ns (is_none b.ty) (b.name ∷ bound) bs (add_all found os) (next_found ns bound (add_all found os) b bs (all_added found os))
    ∙ sym (add_all_append found os (type_occurrences ns (b.name ∷ bound) bs))

-- in the place of all these types
pub shared_first : (ns : Names) (bound : List Text) (bs : List Bound) (found rest : List Occurs) → add_all found (shared_occurrences ns false bound bs ++ rest) ≡ add_all found (type_occurrences ns bound bs ++ rest)
unfolding IsFound
shared_first ns bound bs found rest =
    add_all_append found (shared_occurrences ns false bound bs) rest
    ∙ ap (λ ps. add_all ps rest) (shared_same ns false bound bs found (λ e. absurd (false≢true e)))
    ∙ sym (add_all_append found (type_occurrences ns bound bs) rest)

-- The forms with bindings.

pub all_occurrences : (ns : Names) (pos : Pos) (body : Phrase) (bs : List Bound) (bound : List Text) → occurrences ns true bound (all_of pos body bs) ≡ type_occurrences ns bound bs ++ occurrences ns true (names_onto bound bs) body
all_occurrences ns pos body [] bound = refl
all_occurrences ns pos body (b ∷ bs) bound =
    ap (λ os. occurrences ns false bound (type_of b bs) ++ os) (all_occurrences ns pos body bs (b.name ∷ bound))
    ∙ sym (append_assoc (occurrences ns false bound (type_of b bs)) (type_occurrences ns (b.name ∷ bound) bs) (occurrences ns true (names_onto bound (b ∷ bs)) body))

pub some_occurrences : (ns : Names) (pos : Pos) (body : Phrase) (bs : List Bound) (bound : List Text) → occurrences ns true bound (some_of pos body bs) ≡ type_occurrences ns bound bs ++ occurrences ns true (names_onto bound bs) body
some_occurrences ns pos body [] bound = refl
some_occurrences ns pos body (b ∷ bs) bound =
    ap (λ os. occurrences ns false bound (type_of b bs) ++ os) (some_occurrences ns pos body bs (b.name ∷ bound))
    ∙ sym (append_assoc (occurrences ns false bound (type_of b bs)) (type_occurrences ns (b.name ∷ bound) bs) (occurrences ns true (names_onto bound (b ∷ bs)) body))

pub domain_occurrences : (ns : Names) (pos : Pos) (bs : List Bound) (bound : List Text) → occurrences ns false bound (domain pos bs) ≡ type_occurrences ns bound bs
domain_occurrences ns pos [] bound = refl
domain_occurrences ns pos (b ∷ []) bound = sym (append-nil (occurrences ns false bound (type_of b [])))
domain_occurrences ns pos (b ∷ c ∷ bs) bound = ap (λ os. occurrences ns false bound (type_of b (c ∷ bs)) ++ os) (domain_occurrences ns pos (c ∷ bs) (b.name ∷ bound))

pub drop_one : (xs : List Text) (i : ℕ) → drop 1 (drop i xs) ≡ drop (suc i) xs
drop_one [] zero = refl
drop_one [] (suc i) = refl
drop_one (x ∷ xs) zero = refl
drop_one (x ∷ xs) (suc i) = drop_one xs i

pub leave_names : (bound : List Text) (bs : List Bound) → drop (length bs) (names_onto bound bs) ≡ bound
leave_names bound [] = refl
leave_names bound (b ∷ bs) = sym (drop_one (names_onto (b.name ∷ bound) bs) (length bs)) ∙ ap (drop 1) (leave_names (b.name ∷ bound) bs)

pub leave_all : (bound : List Text) (bs : List Bound) → drop (length bs) (names bs ++ bound) ≡ bound
leave_all bound [] = refl
leave_all bound (b ∷ bs) = leave_all bound bs

-- Their work.

pub all_work : (pos : Pos) (body : Phrase) (bs : List Bound) → bindings_work bs + 6 * length bs + 8 * size body ≤ 1 + 8 * size (all_of pos body bs)
all_work pos body [] = omega arith
all_work pos body (b ∷ bs) = omega (arith, all_work pos body bs)

pub some_work : (pos : Pos) (body : Phrase) (bs : List Bound) → bindings_work bs + 6 * length bs + 8 * size body ≤ 1 + 8 * size (some_of pos body bs)
some_work pos body [] = omega arith
some_work pos body (b ∷ bs) = omega (arith, some_work pos body bs)

pub domain_work : (pos : Pos) (bs : List Bound) → bindings_work bs + 6 * length bs ≤ 9 + 8 * size (domain pos bs)
domain_work pos [] = omega arith
domain_work pos (b ∷ []) = omega arith
domain_work pos (b ∷ c ∷ bs) = omega (arith, domain_work pos (c ∷ bs))
