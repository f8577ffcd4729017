use Rattle.std.proofs.Common.{sym, subst, length}
use Rattle.pvs_elab.specs.Names.{names_at}
use Rattle.pvs_scope.specs.Refers.{Refers}
use Rattle.pvs_scope.proofs.SearchLaws.{type_refers}
use Rattle.pvs_scope.proofs.place.PlaceNames.type_named.Goals as goal

pub returns : goal.returns
returns c s d g h = subst (λ r. Refers s r ((names_at d g (length g.entries)).type_named c.args.name.now)) (sym c.plain.ensures) (type_refers s c.args.self.now d g h c.args.name.now)
