use Rattle.pvs_place.proofs.NameLaws.{variable_found, variable_refused}
use Rattle.pvs_place.proofs.place.Place.variable.Goals as goal

pub returns-clause-ok : goal.returns-clause-ok
returns-clause-ok g c =
    rw (← c.self.view_is) (variable_found c.self.inside.instances c.self.inside.theory c.self.inside.names c.self.invariant c.soundness.ensures.standing.over c.args.name.now c.variable_named.result c.variable_named.ensures)

pub returns-clause-refused : goal.returns-clause-refused
returns-clause-refused g c =
    rw (← c.self.view_is) (variable_refused c.self.inside.instances c.self.inside.theory c.self.inside.names c.self.invariant c.soundness.ensures.standing.over c.args.name.now c.variable_named.result c.variable_named.ensures)
