use Rattle.pvs_elaboration.proofs.OutermostLaws.{elaborate_is}
use Rattle.pvs_elaboration.proofs.outermost.elaborate.Goals as goal

pub returns : goal.returns
returns g c = elaborate_is (g.S.Scope.known c.args.scope.now) (g.S.Scope.known c.run_at.new.scope) c.in_ok-listing.listing c.run_at.new.listing c.args.text.now c.args.wanted c.run_at.result c.requires.here c.in_ok-listing.ensures.text c.in_ok-listing.ensures.parts c.in_ok-start.ensures c.mode_for.ensures c.run_at.ensures.more c.run_at.ensures.tells
