use Rattle.std.proofs.Common.{◌≡◌, ℕ, suc, ◌+◌, length, map, drop, sym, subst, add-one, rules}
use Rattle.std.specs.Prelude.{Some, slice_get}
use Rattle.pvs_terms.specs.Stored.{text_at, tree_at}
use Rattle.pvs_instantiate.specs.InstancesView.{development}
use Rattle.pvs_printer.specs.code.TasksAt.{Progress}
use Rattle.pvs_term_lines.specs.Lines.{formula_line, variable_line, lines_from}
use Rattle.pvs_term_lines.proofs.AddLaws.{err_holds, goes_on, stops}
use Rattle.pvs_term_lines.proofs.LineLaws.{next_line, below_get, at_get}
use Rattle.pvs_term_lines.proofs.sequent.put_variables.Goals as goal

pub put_variable-requires-clause-ty : goal.put_variable-requires-clause-ty
put_variable-requires-clause-ty g c =
    let e : slice_get c.args.types.now c.loop-at.at ≡ Some c.index-types-at.result = at_get c.args.types.now c.loop-at.at c.index-types-at.result (search rules) c.index-types-at.is in
    below_get (length c.args.instances.now.store.nodes) c.loop-at.at c.index-types-at.result c.args.types.now c.requires.types e

pub returns-in_err-put_variable-clause-err : goal.returns-in_err-put_variable-clause-err
returns-in_err-put_variable-clause-err g c =
    let s = c.args.instances.now.store in
    let line = variable_line (development c.args.instances.now) (text_at s c.args.theory) in
    let at = c.loop-at.at in
    let e : slice_get c.args.types.now at ≡ Some c.index-types-at.result = at_get c.args.types.now c.loop-at.at c.index-types-at.result (search rules) c.index-types-at.is in
    let xs = map (tree_at s) c.args.types.now in
    err_holds _ (stops c.args.out.now.items (lines_from line 0 xs) c.loop-at.out.items c.put_variable.new.out.items (lines_from line at (drop at xs)) (line at (tree_at s c.index-types-at.result)) (lines_from line (suc at) (drop (suc at) xs))
    c.loop-at.invariant (next_line line (tree_at s) at at c.index-types-at.result c.args.types.now e) c.in_err-put_variable.ensures.err)

pub loop-at-preserved : goal.loop-at-preserved
loop-at-preserved g c =
    let s = c.args.instances.now.store in
    let line = variable_line (development c.args.instances.now) (text_at s c.args.theory) in
    let at = c.loop-at.at in
    let e : slice_get c.args.types.now at ≡ Some c.index-types-at.result = at_get c.args.types.now c.loop-at.at c.index-types-at.result (search rules) c.index-types-at.is in
    let xs = map (tree_at s) c.args.types.now in
    subst (λ k. Progress c.args.out.now.items (lines_from line 0 xs) c.put_variable.new.out.items (lines_from line k (drop k xs))) (sym (add-one at))
    (goes_on c.args.out.now.items (lines_from line 0 xs) c.loop-at.out.items c.put_variable.new.out.items (lines_from line at (drop at xs)) (line at (tree_at s c.index-types-at.result)) (lines_from line (suc at) (drop (suc at) xs))
    c.loop-at.invariant (next_line line (tree_at s) at at c.index-types-at.result c.args.types.now e) c.in_ok-put_variable.ensures.ok)
