-- What the code's occurrences stand for.
use Rattle.std.specs.Prelude.{List, map}
use Rattle.pvs_elab.specs.Formula.{Occurs}
use Rattle.pvs_free_variables.specs.declared.found.Occurrence.{Occurrence}

abbrev pub occurs : Occurrence → Occurs
occurs o = record { name = o.name.now; pos = o.pos }

abbrev pub all_occurs : List Occurrence → List Occurs
all_occurs os = map occurs os
