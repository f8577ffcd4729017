-- A theory that has changed, in its place and at the end.
use Rattle.std.proofs.Common.{◌≡◌, ℕ, [], ◌∷◌, ◌++◌, Some, slice_get, remove, ap, ◌∙◌}
use Rattle.std.specs.Map.{values_of}
use Rattle.indexmap.specs.IndexMap.{set_value_at}
use Rattle.pvs_instantiate.specs.declared.theories.Theory.{Theory}
use Rattle.pvs_instantiate.specs.Standing.{Entries}
use Rattle.pvs_instantiate.specs.code.Places.{IsMoved, IsSet}
use Rattle.pvs_instantiate.proofs.ListLaws.{set_found, set_then, set_removed}

pub is_moved : (R : Theory → Theory → Type 0) (es new : Entries) (at : ℕ) (v w : Theory) → slice_get (values_of es) at ≡ Some v → R v w → ((e : ℕ × Theory) → slice_get (set_value_at es at w) at ≡ Some e → new ≡ remove (set_value_at es at w) at ++ e ∷ []) → IsMoved R es new at
is_moved R es new at v w h r f =
    let k = set_found es at v h in
    record {
      name = k.0;
      before = v;
      after = w;
      found = k.1;
      moved = f (k.0, w) (set_then es at k.0 v w k.1) ∙ ap (λ l. l ++ (k.0, w) ∷ []) (set_removed es at w);
      related = r;
    }

pub is_set : (R : Theory → Theory → Type 0) (es new : Entries) (at : ℕ) (v w : Theory) → slice_get (values_of es) at ≡ Some v → R v w → new ≡ set_value_at es at w → IsSet R es new at
is_set R es new at v w h r e =
    let k = set_found es at v h in
    record { name = k.0; before = v; after = w; found = k.1; set = e; related = r }
