use Rattle.std.proofs.Common.{◌≡◌, map, drop}
use Rattle.pvs_terms.specs.Stored.{text_at, tree_at}
use Rattle.pvs_instantiate.specs.InstancesView.{development}
use Rattle.pvs_term_lines.specs.Lines.{formula_line, variable_line, lines_from}
use Rattle.pvs_printer.specs.code.TasksAt.{Progress}
use Rattle.pvs_term_lines.proofs.sequent.put_variables.Given as goal

-- the lines so far were added
abbrev pub invariant-loop-at : goal.invariant-loop-at
invariant-loop-at g l =
    let s = l.fn.instances.store in
    let line = variable_line (development l.fn.instances) (text_at s l.fn.theory) in
    Progress l.fn.out.items (lines_from line 0 (map (tree_at s) l.types)) l.out.items (lines_from line l.at (drop l.at (map (tree_at s) l.types)))
