-- Laws of lists: one item taken out of a reversed list, and the items that are left.
use Rattle.std.proofs.Common.{◌≡◌, ◌∙◌, ◌+◌, ◌-◌, ◌<◌, ℕ, zero, suc, List, [], ◌∷◌, ◌++◌, length, drop, remove, get_or, reverse, sym, ap, arith, append-nil, add-one}
use Rattle.std.proofs.Math.Seq.{drop-cons}
use Rattle.std.proofs.lemmas.Grind.{reverse_onto}
use Rattle.std.proofs.lemmas.List.{length-reverse}
use Rattle.std.proofs.lemmas.List.Edits.{remove-append_left, remove-append_right}

-- the item j, counted from the one end, is the item k from the other
pub remove-reverse : {X : Type 0} (xs : List X) (k j : ℕ) → k + suc j ≡ length xs → remove (reverse xs) k ≡ reverse (remove xs j)
remove-reverse [] k j h = absurd (omega arith)
remove-reverse {X} (x ∷ xs) k zero h =
    let n : length (reverse xs) ≡ k = length-reverse xs ∙ omega arith in
    ap (λ (ys : List X). remove ys k) (reverse_onto xs x [])
    ∙ remove-append_right (reverse xs) (x ∷ []) k k n (omega arith)
    ∙ rw (let z : k - k ≡ 0 = omega arith in z) (append-nil (reverse xs))
remove-reverse {X} (x ∷ xs) k (suc j) h =
    let n : k < length (reverse xs) = rw (length-reverse xs) (omega arith) in
    ap (λ (ys : List X). remove ys k) (reverse_onto xs x [])
    ∙ remove-append_left (reverse xs) (x ∷ []) k n
    ∙ ap (λ (ys : List X). ys ++ x ∷ []) (remove-reverse xs k j (omega arith))
    ∙ sym (reverse_onto (remove xs j) x [])

-- the first item that is left, and the others
pub drop_more : {X : Type 0} (xs : List X) (i : ℕ) (d : X) → i < length xs → drop i xs ≡ get_or xs i d ∷ drop (i + 1) xs
drop_more xs i d h = drop-cons xs i d h ∙ ap (λ (n : ℕ). get_or xs i d ∷ drop n xs) (sym (add-one i))
