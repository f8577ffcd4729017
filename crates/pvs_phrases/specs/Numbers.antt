-- Numbers that the code keeps.
use Rattle.std.specs.Prelude.{ℕ, nat_le, if◌then◌else◌, Option, Some, None}

-- a number of 32 bits
abbrev pub in_range : ℕ → Option ℕ
in_range n = if nat_le n 4294967295 then Some n else None
