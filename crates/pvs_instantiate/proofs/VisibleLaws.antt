-- A theory without importings sees no instance.
use Rattle.std.proofs.Common.{◌≡◌, ℕ, Option, Some, None, [], refl, ap}
use Rattle.pvs_sig.specs.Signature.{Signature}
use Rattle.pvs_sig.specs.Development.{Development}
use Rattle.pvs_sig.specs.Instances.{first_instances, instances_up_to, all_instances}
use Rattle.pvs_instantiate.specs.Visible.{visible_in, LacksImports}

pub none_visible : (d : Development) (z : Option Signature) (i : ℕ) → LacksImports z → visible_in d z i ≡ []
none_visible d None i h = refl
none_visible d (Some s) i h = ap (λ l. first_instances [] (instances_up_to (all_instances d) l i)) h
