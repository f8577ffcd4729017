-- The trees that a cache keeps for a key.
use Rattle.std.specs.Prelude.{◌≡◌, ◌⊎◌, ℕ, Contains}
use Rattle.pvs_terms.specs.Tree.{Tree}
use Rattle.pvs_terms.specs.Stored.{Stored, tree_at, IsNode, Stands}
use Rattle.pvs_cache.specs.Kept.{Pairs}
use Rattle.pvs_cache.specs.declared.key.JudgeKey.{JudgeKey}

-- each value that is kept for the key stands for this tree
abbrev pub FindsTree : Stored → Pairs → JudgeKey → Tree → Type 0
FindsTree s kept key t = (i : ℕ) → Contains kept (key, i) → IsNode s i × (tree_at s i ≡ t)

-- each pair was kept before, or is this tree under the key
abbrev pub KeepsTree : Stored → Pairs → Pairs → JudgeKey → Tree → Type 0
KeepsTree s old new key t = (p : JudgeKey × ℕ) → Contains new p → Contains old p ⊎ ((p.0 ≡ key) × Stands s t p.1)
