use Rattle.pvs_terms.specs.Stored.{tree_at}
use Rattle.pvs_printer.specs.code.Steps.{component_list}
use Rattle.pvs_printer.specs.code.Tasks.{component_tasks}
use Rattle.pvs_printer.proofs.PushLaws.{more_components}
use Rattle.pvs_printer.proofs.expand.push_components.Goals as goal

pub returns-in-Some : goal.returns-in-Some
returns-in-Some c =
    let s = c.args.store.now in
    let n = c.in-Some.ensures.nodes in
    c.push-in-Some.ensures s (λ names. component_tasks c.args.depth (component_list c.args.k (tree_at s c.args.id))) (n.1, (n.0, (tt, (tt, (n.1, tt)))))
    (λ names. more_components c.args.depth c.saturating_sub.result c.args.k (tree_at s c.args.id) (tree_at s c.in-Some.found.0) (tree_at s c.in-Some.found.1) c.in-Some.ensures.some c.saturating_sub.ensures)
