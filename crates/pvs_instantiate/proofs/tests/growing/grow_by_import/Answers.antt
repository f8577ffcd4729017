use Rattle.pvs_instantiate.proofs.ImportingLaws.{upper_alone, import_made, import_stored, may_import, imports_it}
use Rattle.pvs_instantiate.proofs.tests.growing.grow_by_import.Goals as goal

pub grow_import-requires-clause-import : goal.grow_import-requires-clause-import
grow_import-requires-clause-import c = import_stored c.args.instances.now.store c.import_of-import.result c.args.lower c.import_of-import.ensures c.requires.lower

pub grow_import-requires-clause-alone : goal.grow_import-requires-clause-alone
grow_import-requires-clause-alone c = upper_alone c.args.instances.now c.args.lower c.args.upper c.requires.has

pub grow_import-requires-clause-over : goal.grow_import-requires-clause-over
grow_import-requires-clause-over c =
    may_import c.args.instances.now c.args.lower c.args.upper c.requires.has _ (import_made c.args.instances.now.store c.import_of-import.result c.args.lower c.import_of-import.ensures)

pub returns-clause-ok : goal.returns-clause-ok
returns-clause-ok c =
    imports_it c.args.instances.now c.args.lower c.args.upper c.requires.has _ (import_made c.args.instances.now.store c.import_of-import.result c.args.lower c.import_of-import.ensures) c.grow_import.new.self c.grow_import.ensures.store
    c.in_ok-grow_import.ensures.ok
