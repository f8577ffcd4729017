use Rattle.std.proofs.Common.{codes}
use Rattle.pvs_terms.specs.Stored.{text_at, tree_at}
use Rattle.pvs_instantiate.specs.InstancesView.{development}
use Rattle.pvs_term_lines.specs.Lines.{tree_line}
use Rattle.pvs_term_lines.proofs.AddLaws.{err_holds, first_prefix}
use Rattle.pvs_term_lines.proofs.lines.put_term_line.Goals as goal

pub returns-in_err-put_text-clause-err : goal.returns-in_err-put_text-clause-err
returns-in_err-put_text-clause-err g c =
    let s = c.args.instances.now.store in
    err_holds _ (first_prefix c.args.out.now.items (codes "  ") (tree_line (development c.args.instances.now) (text_at s c.args.theory) 0 (tree_at s c.args.id)) c.put_text.new.out.items c.in_err-put_text.ensures.err)
