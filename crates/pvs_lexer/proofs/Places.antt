-- The place after two parts of a text.
use Rattle.std.proofs.Common.{◌≡◌, ℕ, List, [], ◌∷◌, ◌++◌, sym, ap, ap₂, ◌∙◌, append_assoc, append-nil}
use Rattle.std.proofs.Math.Nat.{add-zero}
use Rattle.pvs_base.specs.declared.place.Pos.{Pos}
use Rattle.pvs_base.specs.Place.{place_after}
use Rattle.pvs_base.proofs.PlaceLaws.{place_next, place_after_push}

pub place_here : (p : Pos) → place_after p [] ≡ p
place_here p = ap₂ (λ (l c : ℕ). let q : Pos = record { line = l; col = c } in q) (add-zero p.line) (add-zero p.col)

place_one : (p : Pos) (b : ℕ) → place_after p (b ∷ []) ≡ place_next p b
place_one p b = place_after_push p [] b ∙ ap (λ q. place_next q b) (place_here p)

place_push : (first : Pos) (before : List ℕ) (b : ℕ) → place_after first (before ++ b ∷ []) ≡ place_after (place_after first before) (b ∷ [])
place_push first before b = place_after_push first before b ∙ sym (place_one (place_after first before) b)

pub place_append : (first : Pos) (xs ys : List ℕ) → place_after first (xs ++ ys) ≡ place_after (place_after first xs) ys
place_append first xs [] = ap (place_after first) (append-nil xs) ∙ sym (place_here (place_after first xs))
place_append first xs (y ∷ ys) =
    ap (place_after first) (sym (append_assoc xs (y ∷ []) ys))
    ∙ place_append first (xs ++ y ∷ []) ys
    ∙ ap (λ q. place_after q ys) (place_push first xs y)
    ∙ sym (place_append (place_after first xs) (y ∷ []) ys)
