use Rattle.std.proofs.Common.{refl}
use Rattle.pvs_instantiate.proofs.ImportingLaws.{upper_alone, may_have_formal, has_formal}
use Rattle.pvs_instantiate.proofs.tests.growing.grow_by_formal.Goals as goal

pub grow_formal-requires-clause-alone : goal.grow_formal-requires-clause-alone
grow_formal-requires-clause-alone c = upper_alone c.args.instances.now c.args.lower c.args.upper c.requires.has

pub grow_formal-requires-clause-over : goal.grow_formal-requires-clause-over
grow_formal-requires-clause-over c = may_have_formal c.args.instances.now c.args.lower c.args.upper c.requires.has _ refl

pub returns-clause-ok : goal.returns-clause-ok
returns-clause-ok c =
    has_formal c.args.instances.now c.args.lower c.args.upper c.requires.has _ refl c.grow_formal.new.self c.grow_formal.ensures.store c.in_ok-grow_formal.ensures.ok
