use Rattle.std.proofs.Common.{ap, ◌∙◌}
use Rattle.std.specs.Prelude.{nat_lt}
use Rattle.pvs_elab.specs.Formula.{is_in}
use Rattle.pvs_free_variables.specs.code.Binders.{innermost_first}
use Rattle.pvs_free_variables.proofs.CountLaws.{times_is_in}
use Rattle.pvs_free_variables.proofs.bound.Bound.contains.Goals as goal

pub returns : goal.returns
returns c =
    let x = c.args.name.now in
    ap (nat_lt 0) (c.count.ensures ∙ c.self.invariant x) ∙ times_is_in x (innermost_first c.self.inside.names.items) ∙ ap (is_in x) c.self.view_is
