use Rattle.std.proofs.Common.{sym, subst, length}
use Rattle.pvs_elab.specs.Names.{names_at}
use Rattle.pvs_scope.specs.Refers.{RefersTyped}
use Rattle.pvs_scope.proofs.SearchLaws.{variable_refers}
use Rattle.pvs_scope.proofs.place.PlaceNames.variable_named.Goals as goal

pub returns : goal.returns
returns c s d g h = subst (λ r. RefersTyped s r ((names_at d g (length g.entries)).variable_named c.args.name.now)) (sym c.variable.ensures) (variable_refers s c.args.self.now d g h c.args.name.now)
