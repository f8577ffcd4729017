use Rattle.std.proofs.Common.{OnOk, sym, subst}
use Rattle.pvs_instantiate.specs.code.Growing.{Adds}
use Rattle.pvs_instantiate.proofs.theories.add.Goals as goal

pub returns-in-Formal-clause-ok : goal.returns-in-Formal-clause-ok
returns-in-Formal-clause-ok c = subst (λ g. OnOk c.add_formal.result (Adds g c.args.theory.now c.add_formal.new.theory)) (sym c.in-Formal.is) c.add_formal.ensures.ok

pub returns-in-Entry-clause-ok : goal.returns-in-Entry-clause-ok
returns-in-Entry-clause-ok c = subst (λ g. OnOk c.add_entry.result (Adds g c.args.theory.now c.add_entry.new.theory)) (sym c.in-Entry.is) c.add_entry.ensures.ok

pub returns-in-Import-clause-ok : goal.returns-in-Import-clause-ok
returns-in-Import-clause-ok c = subst (λ g. OnOk c.add_import.result (Adds g c.args.theory.now c.add_import.new.theory)) (sym c.in-Import.is) c.add_import.ensures.ok
