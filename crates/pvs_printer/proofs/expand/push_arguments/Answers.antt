use Rattle.pvs_terms.specs.Stored.{tree_at}
use Rattle.pvs_printer.specs.code.Steps.{part_list}
use Rattle.pvs_printer.specs.code.Tasks.{argument_tasks}
use Rattle.pvs_printer.proofs.PushLaws.{more_arguments}
use Rattle.pvs_printer.proofs.expand.push_arguments.Goals as goal

pub returns-in-Some : goal.returns-in-Some
returns-in-Some c =
    let s = c.args.store.now in
    c.push-in-Some.ensures s (λ names. argument_tasks c.args.depth (part_list c.args.k (tree_at s c.args.id))) (c.in-Some.ensures.nodes.0, (tt, (tt, (c.in-Some.ensures.nodes.1, tt))))
    (λ names. more_arguments c.args.depth c.saturating_sub.result c.args.k (tree_at s c.args.id) (tree_at s c.in-Some.found.0) (tree_at s c.in-Some.found.1) c.in-Some.ensures.some c.saturating_sub.ensures)
