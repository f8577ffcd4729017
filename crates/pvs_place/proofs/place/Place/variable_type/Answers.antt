use Rattle.pvs_place.proofs.NameLaws.{variable_is}
use Rattle.pvs_place.proofs.place.Place.variable_type.Goals as goal

pub returns-in-Ok-clause-ok : goal.returns-in-Ok-clause-ok
returns-in-Ok-clause-ok g c =
    let h = c.in-Ok.ensures.ok in
    (h.known, variable_is c.args.self.now c.args.name.now c.in-Ok.found h (rw (c.store.ensures, c.self.view_is) at c.view-node.ensures.fits))
