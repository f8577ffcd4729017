use Rattle.std.proofs.Common.{[]}
use Rattle.pvs_elaboration.proofs.OutermostLaws.{under_next, under_no_names}
use Rattle.pvs_elaboration.proofs.outermost.under_all.Goals as goal

pub loop-index-init : goal.loop-index-init
loop-index-init g c = under_no_names c.args.listing.now c.requires.here c.in_ok-inner.ensures

pub loop-index-preserved : goal.loop-index-preserved
loop-index-preserved g c =
    under_next c.args.names.now c.args.types.now c.loop-index.index (record { ref_ptr = (0, 0); now = [] }) c.index-types-index.result c.loop-index-test.true c.requires.same c.index-types-index.is
    c.requires.types c.loop-index.invariant c.in_ok-number.ensures c.in_ok-inner-2.ensures.under
