-- The items of a list that are not written out yet.
use Rattle.std.specs.Prelude.{◌≡◌, ◌<◌, ◌≤◌, ℕ, List, [], ◌∷◌, drop, length, Option, Some, None}
use Rattle.pvs_phrases.specs.declared.list.Item.{Item}

-- the next of these items, after so many, and how many are left with it
pub record IsItem (T : Type 0) (items : List T) (from : ℕ) (n : Item T) : Type 0 where
  pub is : drop from items ≡ n.value.now ∷ drop n.from items
  pub within : from < length items
  pub left : n.left ≡ length (drop from items)

abbrev pub IsNext : {T : Type 0} → List T → ℕ → Option (Item T) → Type 0
IsNext items from None = (drop from items ≡ []) × (length items ≤ from)
IsNext {T} items from (Some n) = IsItem T items from n
