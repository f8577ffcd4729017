use Rattle.std.proofs.Common.{◌+◌, codes}
use Rattle.pvs_terms.specs.Stored.{text_at, tree_at}
use Rattle.pvs_instantiate.specs.InstancesView.{development}
use Rattle.pvs_term_lines.specs.Lines.{label, tree_line}
use Rattle.pvs_term_lines.proofs.AddLaws.{err_holds, err_weaker, first_prefix, both_prefix}
use Rattle.pvs_term_lines.proofs.lines.put_variable.Goals as goal

pub returns-in_err-put_label-clause-err : goal.returns-in_err-put_label-clause-err
returns-in_err-put_label-clause-err g c =
    let s = c.args.instances.now.store in
    err_holds _ (first_prefix c.args.out.now.items (label (codes "s!") (c.args.before + 1)) (tree_line (development c.args.instances.now) (text_at s c.args.theory) c.args.before (tree_at s c.args.ty)) c.put_label.new.out.items c.in_err-put_label.ensures.err)

pub returns-clause-err : goal.returns-clause-err
returns-clause-err g c =
    let s = c.args.instances.now.store in
    err_weaker c.put_type.result
    (λ p. both_prefix c.args.out.now.items (label (codes "s!") (c.args.before + 1)) (tree_line (development c.args.instances.now) (text_at s c.args.theory) c.args.before (tree_at s c.args.ty)) c.put_label.new.out.items c.put_type.new.out.items c.in_ok-put_label.ensures.ok p)
    c.put_type.ensures.err
