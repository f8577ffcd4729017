use Rattle.std.proofs.Common.{refl}
use Rattle.pvs_scope.proofs.PlaceLaws.{names_begin}
use Rattle.pvs_scope.proofs.place.PlaceNames.new.Goals as goal

pub returns : goal.returns
returns c s d g u = names_begin d g u s _ refl refl c.new.ensures c.new-2.ensures c.new-3.ensures
