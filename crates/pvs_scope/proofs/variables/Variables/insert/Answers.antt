use Rattle.std.proofs.Common.{◌≡◌, Some, cond, eqb, subst}
use Rattle.pvs_scope.specs.code.Tables.{type_of}
use Rattle.pvs_scope.proofs.variables.Variables.insert.Goals as goal

pub returns : goal.returns
returns c r =
    subst (λ m. type_of c.insert.new.self.entries r ≡ cond (eqb c.args.reference r) (Some c.args.ty) (type_of m r)) c.self.view_is (c.in_ok-insert.ensures.updates.0 r)
