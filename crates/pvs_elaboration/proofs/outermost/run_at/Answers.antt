use Rattle.std.proofs.Common.{refl}
use Rattle.pvs_elaboration.proofs.OutermostLaws.{tells_started}
use Rattle.pvs_elaboration.proofs.outermost.run_at.Goals as goal

pub returns-clause-tells : goal.returns-clause-tells
returns-clause-tells g c = λ t h.
    tells_started (g.S.Scope.known c.args.scope.now) (g.S.Scope.known c.run.new.scope) t c.args.here (record { here = c.args.here; entries = c.new.result }) c.args.control c.run.result refl c.new.ensures.items (c.run.ensures.tells t h)
