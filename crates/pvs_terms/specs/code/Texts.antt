-- Lists of texts, each of which stands there once.
use Rattle.std.specs.Prelude.{◌≡◌, ℕ, ◌<◌, List, [], length, slice_index_or}
use Rattle.pvs_terms.specs.Tree.{Text}

-- no text stands there twice
abbrev pub AreDistinct : List Text → Type 0
AreDistinct ts = (m n : ℕ) → m < length ts → n < length ts → slice_index_or ts m [] ≡ slice_index_or ts n [] → m ≡ n

-- the text stands at this number and at no other
pub record IsOnly (ts : List Text) (t : Text) (n : ℕ) : Type 0 where
  pub within : n < length ts
  pub is : slice_index_or ts n [] ≡ t
  pub only : (m : ℕ) → m < length ts → slice_index_or ts m [] ≡ t → m ≡ n

-- every number keeps its text
pub record KeepsTexts (old new : List Text) : Type 0 where
  pub within : (n : ℕ) → n < length old → n < length new
  pub texts : (n : ℕ) → n < length old → slice_index_or new n [] ≡ slice_index_or old n []
