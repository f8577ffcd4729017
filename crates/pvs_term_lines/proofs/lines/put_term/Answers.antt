use Rattle.std.proofs.Common.{[], ◌∷◌}
use Rattle.pvs_terms.specs.Stored.{text_at, tree_at}
use Rattle.pvs_instantiate.specs.InstancesView.{development}
use Rattle.pvs_printer.specs.Text.{printed}
use Rattle.pvs_term_lines.proofs.AddLaws.{err_holds, err_weaker, first_prefix, both_prefix}
use Rattle.pvs_term_lines.proofs.lines.put_term.Goals as goal

pub returns-in_err-print_term-clause-err : goal.returns-in_err-print_term-clause-err
returns-in_err-print_term-clause-err g c =
    let s = c.args.instances.now.store in
    let text = printed (development c.args.instances.now) (text_at s c.args.theory) c.args.variables (tree_at s c.args.id) in
    err_holds _ (first_prefix c.args.out.now.items text (10 ∷ []) c.print_term.new.out.items c.in_err-print_term.ensures.err)

pub returns-clause-err : goal.returns-clause-err
returns-clause-err g c =
    let s = c.args.instances.now.store in
    let text = printed (development c.args.instances.now) (text_at s c.args.theory) c.args.variables (tree_at s c.args.id) in
    err_weaker c.put_text.result (λ p. both_prefix c.args.out.now.items text (10 ∷ []) c.print_term.new.out.items c.put_text.new.out.items c.in_ok-print_term.ensures.ok p) c.put_text.ensures.err
