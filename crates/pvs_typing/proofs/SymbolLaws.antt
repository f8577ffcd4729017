-- The symbols of references and their actuals.
use Rattle.std.proofs.Common.{◌≡◌, ℕ, List, [], ◌∷◌, ◌++◌, Result, Ok, Err, append_assoc, refl, ap, ◌∙◌, sym}
use Rattle.std.specs.Prelude.{IfOk}
use Rattle.pvs_terms.specs.Tree.{Ref, Own, Formal, Inst, Trees, ref_actuals, ref_size, trees_size}
use Rattle.pvs_terms.specs.Stored.{Stored, IsRef, ref_at}
use Rattle.pvs_types.specs.Symbols.{all_symbols, symbols_within}
use Rattle.pvs_typing.specs.Owed.{AreRefs, refs_at}

within_actuals : (r : Ref) → symbols_within r ≡ all_symbols (ref_actuals r)
within_actuals (Own n) = refl
within_actuals (Formal n) = refl
within_actuals (Inst a n xs) = refl

pub actuals_size : (r : Ref) → ref_size r ≡ trees_size (ref_actuals r)
actuals_size (Own n) = refl
actuals_size (Formal n) = refl
actuals_size (Inst a n xs) = refl

refs_at-append : (s : Stored) (rs : List ℕ) (r : ℕ) → refs_at s (rs ++ r ∷ []) ≡ refs_at s rs ++ ref_at s r ∷ []
refs_at-append s [] r = refl
refs_at-append s (x ∷ rs) r = ap (λ ys. ref_at s x ∷ ys) (refs_at-append s rs r)

pub refs-append : (s : Stored) (rs : List ℕ) (r : ℕ) → AreRefs s rs → IsRef s r → AreRefs s (rs ++ r ∷ [])
refs-append s [] r h k = (k, tt)
refs-append s (x ∷ rs) r h k = (h.0, refs-append s rs r h.1 k)

-- a reference, and then those of its actuals
pub reference_added : (s : Stored) (us vs : List ℕ) (r : ℕ) (ts : Trees) → ts ≡ ref_actuals (ref_at s r) → refs_at s vs ≡ refs_at s (us ++ r ∷ []) ++ all_symbols ts
    → refs_at s vs ≡ refs_at s us ++ (ref_at s r ∷ symbols_within (ref_at s r))
reference_added s us vs r ts e h =
    h ∙ ap (λ x. x ++ all_symbols ts) (refs_at-append s us r) ∙ append_assoc (refs_at s us) (ref_at s r ∷ []) (all_symbols ts)
    ∙ ap (λ x. refs_at s us ++ (ref_at s r ∷ x)) (ap all_symbols e ∙ sym (within_actuals (ref_at s r)))

pub ok_weaker : {V E : Type 0} {P Q : V → Type 0} (r : Result V E) → ((v : V) → P v → Q v) → IfOk r P → IfOk r Q
ok_weaker (Ok v) f h = f v h
ok_weaker (Err e) f h = tt
