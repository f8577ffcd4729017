-- How the list of theories changes at one place.
use Rattle.std.specs.Prelude.{◌≡◌, ℕ, [], ◌∷◌, ◌++◌, Some, remove, slice_get}
use Rattle.indexmap.specs.IndexMap.{set_value_at}
use Rattle.pvs_instantiate.specs.declared.theories.Theory.{Theory}
use Rattle.pvs_instantiate.specs.Standing.{Entries}

-- the theory at this place has changed as R says, and stands last
pub record IsMoved (R : Theory → Theory → Type 0) (old new : Entries) (at : ℕ) : Type 0 where
  pub name : ℕ
  pub before : Theory
  pub after : Theory
  pub found : slice_get old at ≡ Some (name, before)
  pub moved : new ≡ remove old at ++ (name, after) ∷ []
  pub related : R before after

-- the theory at this place has changed as R says
pub record IsSet (R : Theory → Theory → Type 0) (old new : Entries) (at : ℕ) : Type 0 where
  pub name : ℕ
  pub before : Theory
  pub after : Theory
  pub found : slice_get old at ≡ Some (name, before)
  pub set : new ≡ set_value_at old at after
  pub related : R before after
