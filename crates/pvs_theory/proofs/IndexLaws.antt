-- What a name that is added does to an index.
use Rattle.std.proofs.Common.{◌≡◌, ◌∙◌, ◌&&◌, ◌||◌, ℕ, Bool, true, false, cond, List, [], ◌∷◌, ◌++◌, Option, Some, None, is_some, bytes_eq, if◌then◌else◌, Ordering, Less, Equal, Greater, refl, sym, ap, ap₂}
use Rattle.std.specs.List.{list_any}
use Rattle.std.specs.Cmp.Lexicographic.{bytes_decides, slice_cmp}
use Rattle.std.specs.Ordering.{is_eq, nat_cmp, ordering_then}
use Rattle.std.specs.Option.{option_or}
use Rattle.std.proofs.lemmas.Bool.{and_parts}
use Rattle.std.proofs.lemmas.Cmp.{nat_list_eq_equiv}
use Rattle.std.proofs.lemmas.List.Folds.{list_any-append}
use Rattle.std.proofs.lemmas.Map.Text.{is_eq-slice_cmp}
use Rattle.pvs_theory.specs.Names.{FormulaName, is_same}

pub option_or-None : {X : Type 0} (o : Option X) → option_or o None ≡ o
option_or-None None = refl
option_or-None (Some x) = refl

-- one value more, of a key that had none
pub value_more : {K V : Type 0} (old : K → Option V) (key other : K) (n : V) (same : Bool) → (same ≡ true → key ≡ other) → old key ≡ None → cond same (Some n) (old other) ≡ option_or (old other) (if same then Some n else None)
value_more old key other n true tells none = sym (ap (λ o. option_or o (Some n)) (ap old (sym (tells refl)) ∙ none))
value_more old key other n false tells none = sym (option_or-None (old other))

-- one value more where there was one
pub value_stays : {V : Type 0} (old : Option V) (n : V) (same : Bool) → is_some old ≡ true → old ≡ option_or old (if same then Some n else None)
value_stays (Some m) n same h = refl
value_stays None n same h = cc

pub same_name : (name other : List ℕ) → bytes_eq name other ≡ true → name ≡ other
same_name name other h = (bytes_decides name other).0 h

pub same_formula : (n other : FormulaName) → is_same n other ≡ true → n ≡ other
same_formula n other h =
    let both = and_parts (bytes_eq n.theory other.theory) (bytes_eq n.formula other.formula) h in
    ap₂ (λ (t f : List ℕ). let m : FormulaName = record { theory = t; formula = f } in m) (same_name n.theory other.theory both.0) (same_name n.formula other.formula both.1)

pub is_same-itself : (n : FormulaName) → is_same n n ≡ true
is_same-itself n = ap₂ (λ (a b : Bool). a && b) ((bytes_decides n.theory n.theory).1 refl) ((bytes_decides n.formula n.formula).1 refl)

pub is_same-symm : (n m : FormulaName) → is_same n m ≡ is_same m n
is_same-symm n m = ap₂ (λ (a b : Bool). a && b) (nat_list_eq_equiv.symm n.theory m.theory) (nat_list_eq_equiv.symm n.formula m.formula)

is_eq-then : (a b : Ordering) → is_eq (ordering_then a b) ≡ is_eq a && is_eq b
is_eq-then Less b = refl
is_eq-then Equal b = refl
is_eq-then Greater b = refl

-- the test of a key is that of its names
pub is_eq-formula : (n m : FormulaName) → is_eq (ordering_then (slice_cmp nat_cmp n.theory m.theory) (slice_cmp nat_cmp n.formula m.formula)) ≡ is_same n m
is_eq-formula n m = is_eq-then (slice_cmp nat_cmp n.theory m.theory) (slice_cmp nat_cmp n.formula m.formula) ∙ ap₂ (λ (a b : Bool). a && b) (is_eq-slice_cmp n.theory m.theory) (is_eq-slice_cmp n.formula m.formula)

pub or_false : (b : Bool) → b || false ≡ b
or_false true = refl
or_false false = refl

-- a test of one more item at the end
pub any_push : {X : Type 0} (p : X → Bool) (xs : List X) (x : X) → list_any p (xs ++ x ∷ []) ≡ list_any p xs || p x
any_push p xs x = list_any-append p xs (x ∷ []) ∙ ap (λ (b : Bool). list_any p xs || b) (or_false (p x))

-- the keys that are seen with one more
pub seen_more : {K V : Type 0} (eq : K → K → Bool) (key other : K) → eq key other ≡ eq other key → (seen : List K) (old new : Option V) (v : V) → is_some old ≡ list_any (eq other) seen
    → new ≡ option_or old (if eq key other then Some v else None) → is_some new ≡ list_any (eq other) (seen ++ key ∷ [])
seen_more {K} {V} eq key other symm seen old new v was is =
    ap is_some is ∙ (cases old (eq key other)
    ∙ (ap₂ (λ (a b : Bool). a || b) was symm
    ∙ sym (any_push (eq other) seen key)))
  where
    cases : (o : Option V) (b : Bool) → is_some (option_or o (if b then Some v else None)) ≡ is_some o || b
    cases None true = refl
    cases None false = refl
    cases (Some m) b = refl

pub names_more : {V : Type 0} (name other : List ℕ) (seen : List (List ℕ)) (old new : Option V) (v : V) → is_some old ≡ list_any (bytes_eq other) seen
    → new ≡ option_or old (if bytes_eq name other then Some v else None) → is_some new ≡ list_any (bytes_eq other) (seen ++ name ∷ [])
names_more name other = seen_more bytes_eq name other (nat_list_eq_equiv.symm name other)

pub formulas_more : {V : Type 0} (n other : FormulaName) (seen : List FormulaName) (old new : Option V) (v : V) → is_some old ≡ list_any (is_same other) seen
    → new ≡ option_or old (if is_same n other then Some v else None) → is_some new ≡ list_any (is_same other) (seen ++ n ∷ [])
formulas_more n other = seen_more is_same n other (is_same-symm n other)
