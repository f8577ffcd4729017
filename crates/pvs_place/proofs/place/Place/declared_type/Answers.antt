use Rattle.pvs_place.proofs.NameLaws.{type_found, type_refused}
use Rattle.pvs_place.proofs.place.Place.declared_type.Goals as goal

pub returns-clause-ok : goal.returns-clause-ok
returns-clause-ok g c =
    rw (← c.self.view_is) (type_found c.self.inside.instances c.self.inside.theory c.self.inside.names c.self.invariant c.soundness.ensures.standing.over c.args.name.now c.type_named.result c.type_named.ensures)

pub returns-clause-refused : goal.returns-clause-refused
returns-clause-refused g c =
    rw (← c.self.view_is) (type_refused c.self.inside.instances c.self.inside.theory c.self.inside.names c.self.invariant c.soundness.ensures.standing.over c.args.name.now c.type_named.result c.type_named.ensures)
