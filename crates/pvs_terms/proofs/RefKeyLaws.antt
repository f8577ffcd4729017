-- Keys of references: equal keys have one kind and equal actuals, and what a list of entries shows.
use Rattle.std.proofs.Common.{◌≡◌, ℕ, zero, suc, ◌<◌, List, [], ◌∷◌, length, map, Bool, true, refl, sym, ap, ap₂, ◌∙◌, rules, arith, eqb, true≢false}
use Rattle.std.specs.Prelude.{slice_index_or}
use Rattle.std.specs.Cmp.Lexicographic.{pointwise}
use Rattle.std.specs.Map.{keys_of, values_of}
use Rattle.std.proofs.lemmas.Bool.{eqb-true}
use Rattle.pvs_terms.proofs.TreeLaws.{both, all_true}
use Rattle.pvs_terms.specs.declared.measure.Measure.{Measure}
use Rattle.pvs_terms.specs.declared.node.RefKind.{RefKind}
use Rattle.pvs_terms.specs.declared.node.RefKind.TheVariants.{Own, Formal, Inst}
use Rattle.pvs_terms.specs.declared.refs.RefKey.{RefKey}
use Rattle.pvs_terms.specs.contracts.node.RefKindPartialEq.TheImpl as kinds
use Rattle.pvs_terms.specs.contracts.refs.RefKeyPartialEq.TheImpl as keys
use Rattle.pvs_terms.specs.code.Refs.{Given, given_of, entry_of}

abbrev pub kind_eq : RefKind → RefKind → Bool
kind_eq = kinds.ghosts.eq

abbrev pub key_eq : RefKey → RefKey → Bool
key_eq = keys.ghosts.eq

kind_eq-true : (a b : RefKind) → kind_eq a b ≡ true → a ≡ b
kind_eq-true (Own m) (Own n) h = ap Own (eqb-true m n h)
kind_eq-true (Formal m) (Formal n) h = ap Formal (eqb-true m n h)
kind_eq-true (Inst a m) (Inst b n) h = let x = both (eqb a b) (eqb m n) h in ap₂ Inst (eqb-true a b x.0) (eqb-true m n x.1)
kind_eq-true _ _ h = absurd (true≢false (sym h))

kind_eq-same : (a : RefKind) → kind_eq a a ≡ true
kind_eq-same (Own n) = search rules
kind_eq-same (Formal n) = search rules
kind_eq-same (Inst a n) = search rules

numbers_eq-true : (xs ys : List ℕ) → pointwise eqb xs ys ≡ true → xs ≡ ys
numbers_eq-true [] [] h = refl
numbers_eq-true (x ∷ xs) (y ∷ ys) h = let z = both (eqb x y) (pointwise eqb xs ys) h in ap₂ ◌∷◌ (eqb-true x y z.0) (numbers_eq-true xs ys z.1)
numbers_eq-true _ _ h = absurd (true≢false (sym h))

numbers_eq-same : (xs : List ℕ) → pointwise eqb xs xs ≡ true
numbers_eq-same [] = refl
numbers_eq-same (x ∷ xs) = search (rules, numbers_eq-same xs)

pub key_eq-true : (a b : RefKey) → key_eq a b ≡ true → given_of a ≡ given_of b
key_eq-true a b h =
    let x = both (kind_eq a.kind b.kind) (pointwise eqb a.actuals.items b.actuals.items) h in
    ap₂ (λ k xs. record { kind = k; actuals = xs }) (kind_eq-true a.kind b.kind x.0) (numbers_eq-true a.actuals.items b.actuals.items x.1)

pub key_eq-same : (a b : RefKey) → given_of b ≡ given_of a → key_eq a b ≡ true
key_eq-same a b e =
    let kind : b.kind ≡ a.kind = ap (λ (g : Given). g.kind) e in
    let actuals : b.actuals.items ≡ a.actuals.items = ap (λ (g : Given). g.actuals) e in
    all_true (ap (kind_eq a.kind) kind ∙ kind_eq-same a.kind) (ap (pointwise eqb a.actuals.items) actuals ∙ numbers_eq-same a.actuals.items)

-- the keys that are seen of entries
pub seen_keys : (es : List (RefKey × Measure)) → keys_of (map entry_of es) ≡ map given_of (keys_of es)
seen_keys [] = refl
seen_keys (e ∷ es) = ap (λ l. given_of e.0 ∷ l) (seen_keys es)

-- an entry by its key and its measure
pub seen_entry : (es : List (RefKey × Measure)) (i : ℕ) (k : RefKey) (d : Measure) → i < length (map entry_of es) → k ≡ slice_index_or (keys_of es) i k → (given_of k, slice_index_or (values_of es) i d) ≡ slice_index_or (map entry_of es) i (given_of k, slice_index_or (values_of es) i d)
seen_entry [] i k d h e = absurd (omega (arith, h))
seen_entry (x ∷ xs) zero k d h e = ap (λ (y : RefKey). (given_of y, x.1)) e
seen_entry (x ∷ xs) (suc i) k d h e = seen_entry xs i k d (omega (arith, h)) e
