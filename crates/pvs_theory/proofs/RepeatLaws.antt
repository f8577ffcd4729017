-- What one more declaration does to the search for a name that is declared again.
use Rattle.std.proofs.Common.{◌≡◌, ◌∙◌, ◌+◌, ◌<◌, ℕ, true, false, List, [], length, drop, take, get_or, Option, Some, None, is_some, sym, ap}
use Rattle.std.specs.Option.{option_or}
use Rattle.pvs_syntax.specs.declared.unit.Decl.{Decl}
use Rattle.pvs_syntax.specs.declared.word.Word.{Word}
use Rattle.pvs_theory.specs.Theories.{declared_by, first_repeated, repeated}
use Rattle.pvs_theory.proofs.Loops.{first_more, left_more}

module _ (text : List ℕ) where
  -- the declarations that are left, where the first of them stands apart
  repeated_at : (ds : List Decl) (i : ℕ) (d : Decl) → i < length ds → d ≡ get_or ds i d
      → first_repeated text (take i ds) (drop i ds) ≡ option_or (repeated text (take i ds) (declared_by d)) (first_repeated text (take (i + 1) ds) (drop (i + 1) ds))
  repeated_at ds i d inside at =
      ap (first_repeated text (take i ds)) (left_more ds i d inside at)
      ∙ ap (λ (xs : List Decl). option_or (repeated text (take i ds) (declared_by d)) (first_repeated text xs (drop (i + 1) ds))) (sym (first_more ds i d inside at))

  -- a declaration that repeats no name
  pub repeated_more : (ds : List Decl) (i : ℕ) (d : Decl) → i < length ds → d ≡ get_or ds i d → (o : Option Word) → o ≡ repeated text (take i ds) (declared_by d) → is_some o ≡ false
      → first_repeated text (take i ds) (drop i ds) ≡ first_repeated text [] ds → first_repeated text (take (i + 1) ds) (drop (i + 1) ds) ≡ first_repeated text [] ds
  repeated_more ds i d inside at None is none so_far = ap (λ (o : Option Word). option_or o (first_repeated text (take (i + 1) ds) (drop (i + 1) ds))) is ∙ sym (repeated_at ds i d inside at) ∙ so_far
  repeated_more ds i d inside at (Some w) is none so_far = cc

  -- a declaration that repeats a name
  pub repeated_found : (ds : List Decl) (i : ℕ) (d : Decl) → i < length ds → d ≡ get_or ds i d → (o : Option Word) → o ≡ repeated text (take i ds) (declared_by d) → is_some o ≡ true
      → first_repeated text (take i ds) (drop i ds) ≡ first_repeated text [] ds → o ≡ first_repeated text [] ds
  repeated_found ds i d inside at None is some so_far = cc
  repeated_found ds i d inside at (Some w) is some so_far = ap (λ (o : Option Word). option_or o (first_repeated text (take (i + 1) ds) (drop (i + 1) ds))) is ∙ sym (repeated_at ds i d inside at) ∙ so_far
