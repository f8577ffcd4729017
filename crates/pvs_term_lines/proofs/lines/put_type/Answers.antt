use Rattle.std.proofs.Common.{[], ◌∷◌}
use Rattle.pvs_terms.specs.Stored.{text_at, tree_at}
use Rattle.pvs_instantiate.specs.InstancesView.{development}
use Rattle.pvs_printer.specs.Text.{printed}
use Rattle.pvs_term_lines.proofs.AddLaws.{err_holds, err_weaker, first_prefix, both_prefix}
use Rattle.pvs_term_lines.proofs.lines.put_type.Goals as goal

pub returns-in_err-print_type-clause-err : goal.returns-in_err-print_type-clause-err
returns-in_err-print_type-clause-err g c =
    let s = c.args.instances.now.store in
    let text = printed (development c.args.instances.now) (text_at s c.args.theory) c.args.variables (tree_at s c.args.id) in
    err_holds _ (first_prefix c.args.out.now.items text (10 ∷ []) c.print_type.new.out.items c.in_err-print_type.ensures.err)

pub returns-clause-err : goal.returns-clause-err
returns-clause-err g c =
    let s = c.args.instances.now.store in
    let text = printed (development c.args.instances.now) (text_at s c.args.theory) c.args.variables (tree_at s c.args.id) in
    err_weaker c.put_text.result (λ p. both_prefix c.args.out.now.items text (10 ∷ []) c.print_type.new.out.items c.put_text.new.out.items c.in_ok-print_type.ensures.ok p) c.put_text.ensures.err
