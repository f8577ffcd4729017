-- What a cache keeps: pairs of a key and the number of a tree.
use Rattle.std.specs.Prelude.{◌≡◌, ◌⊎◌, ℕ, List, Contains}
use Rattle.pvs_cache.specs.declared.key.JudgeKey.{JudgeKey}

abbrev pub Pairs : Type 0
Pairs = List (JudgeKey × ℕ)

-- each pair of new was in old
abbrev pub KeepsOnly : Pairs → Pairs → Type 0
KeepsOnly old new = (p : JudgeKey × ℕ) → Contains new p → Contains old p

-- each pair of new was in old, or is this one
abbrev pub AddsOnly : Pairs → Pairs → JudgeKey × ℕ → Type 0
AddsOnly old new added = (p : JudgeKey × ℕ) → Contains new p → Contains old p ⊎ (p ≡ added)
