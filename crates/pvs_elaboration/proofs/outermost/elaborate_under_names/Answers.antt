use Rattle.pvs_elaboration.proofs.OutermostLaws.{elaborate_names}
use Rattle.pvs_elaboration.specs.Listing.{bytes_of}
use Rattle.pvs_elaboration.proofs.outermost.elaborate_under_names.Goals as goal

pub returns : goal.returns
returns g c =
    elaborate_names (g.S.Scope.known c.args.scope.now) (g.S.Scope.known c.run_at.new.scope) c.in_ok-listing.listing c.under_all.new.listing c.run_at.new.listing c.args.text.now (bytes_of c.args.names.now) c.args.types.now
    c.args.wanted c.run_at.result c.in_ok-listing.ensures.text c.in_ok-listing.ensures.parts c.in_ok-inner.ensures.under c.mode_for.ensures c.run_at.ensures.more c.run_at.ensures.tells
