-- Look-ups cut down to a set of references.
use Rattle.std.specs.Prelude.{ℕ, Bool, false, ◌&&◌, if◌then◌else◌, nat_lt, None}
use Rattle.pvs_terms.specs.Tree.{Ref, Own, Formal, Inst}
use Rattle.pvs_sig.specs.Lookups.{Lookups}
use Rattle.pvs_soundness.specs.Vocabulary.{Vocabulary, vocabulary_of}

-- own entries below this number
abbrev pub is_own_below : ℕ → Ref → Bool
is_own_below n (Own k) = nat_lt k n
is_own_below n (Formal k) = false
is_own_below n (Inst th k xs) = false

abbrev pub entries_before : ℕ → Vocabulary
entries_before n = vocabulary_of (is_own_below n)

-- nothing is found for a reference that is not in the set
abbrev pub lookups_within : (Ref → Bool) → Lookups → Lookups
lookups_within p s = record {
  type_of = λ r. if p r then s.type_of r else None;
  body_of = λ r. if p r then s.body_of r else None;
  is_type = λ r. p r && s.is_type r;
  is_nonempty = λ r. p r && s.is_nonempty r;
  rank = s.rank;
}
