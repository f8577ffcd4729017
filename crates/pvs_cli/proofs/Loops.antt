-- What one more turn of a loop does to what is made of the items so far, and to a slice up to the end.
use Rattle.std.proofs.Common.{◌≡◌, ◌∙◌, ◌+◌, ◌-◌, ◌<◌, ℕ, List, [], ◌∷◌, ◌++◌, length, drop, take, map, get_or, sym, ap, arith, length-drop}
use Rattle.std.proofs.lemmas.List.{map-append, take_all, take_more}

-- the items so far with one more
pub shown_more : {X Y : Type 0} (f : X → Y) (xs : List X) (i : ℕ) (x : X) → i < length xs → x ≡ get_or xs i x → map f (take (i + 1) xs) ≡ map f (take i xs) ++ f x ∷ []
shown_more f xs i x h e = ap (map f) (take_more xs i x h) ∙ (map-append f (take i xs) (get_or xs i x ∷ []) ∙ ap (λ y. map f (take i xs) ++ f y ∷ []) (sym e))

-- a slice up to the end
pub rest_whole : {X : Type 0} (xs : List X) (i : ℕ) → take (length xs - i) (drop i xs) ≡ drop i xs
rest_whole xs i = take_all (length xs - i) (drop i xs) (omega (arith, length-drop i xs))
