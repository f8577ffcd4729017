use Rattle.std.proofs.Common.{ap}
use Rattle.pvs_printer_tests.proofs.TreeLaws.{as_many_variables}
use Rattle.pvs_printer_tests.proofs.trees.sequent.Goals as goal

pub returns : goal.returns
returns c =
    let s = c.args.store.now in
    let g = c.in_ok-sequent.ensures in
    let p = c.in_ok-push_first.ensures.ok in
    record { nodes = p.nodes; variables = as_many_variables s _ c.push_first.new.self p (ap (λ z. z.variables) g.is) }
