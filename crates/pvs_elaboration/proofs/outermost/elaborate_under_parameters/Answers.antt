use Rattle.pvs_elaboration.proofs.OutermostLaws.{elaborate_bound}
use Rattle.pvs_elaboration.proofs.outermost.elaborate_under_parameters.Goals as goal

pub returns : goal.returns
returns g c =
    elaborate_bound (g.S.Scope.known c.args.scope.now) (g.S.Scope.known c.run_at.new.scope) c.in_ok-listing.listing c.list_names.new.listing c.run_at.new.listing c.args.text.now c.args.parameters.now c.in_ok-first.first c.len.result c.named_control-control.result
    c.args.wanted c.run_at.result c.requires.here c.in_ok-listing.ensures.text c.in_ok-listing.ensures.parts c.in_ok-inner.ensures.under c.in_ok-first.ensures c.len.ensures c.mode_for.ensures c.named_control-control.ensures c.run_at.ensures.more c.run_at.ensures.tells
