use Rattle.std.proofs.Common.{Err, ap}
use Rattle.pvs_terms.specs.Stored.{ref_at}
use Rattle.pvs_typing.proofs.DevelopmentLaws.{gives_type, type_is_known, type_too_large}
use Rattle.pvs_typing.proofs.development.InstancesTheories.type_of.Goals as goal

pub returns-in-Ok-clause-ok : goal.returns-in-Ok-clause-ok
returns-in-Ok-clause-ok g c = gives_type c.args.self.now c.type_of.new.self c.args.theory (ref_at c.args.self.now.store c.args.r) c.requires.theory c.in-Ok.ensures.kept c.soundness.ensures.standing.over c.requires.declared c.in-Ok.id c.in-Ok.ensures.ok

pub returns-in-Ok-clause-known : goal.returns-in-Ok-clause-known
returns-in-Ok-clause-known g c = type_is_known c.args.self.now c.type_of.new.self c.args.theory (ref_at c.args.self.now.store c.args.r) c.requires.theory c.in-Ok.ensures.kept c.soundness.ensures.standing.over c.requires.declared c.in-Ok.id c.in-Ok.ensures.ok

pub returns-in-Err-TooLarge-clause-large : goal.returns-in-Err-TooLarge-clause-large
returns-in-Err-TooLarge-clause-large g c = λ _. type_too_large c.args.self.now c.type_of.new.self c.args.theory (ref_at c.args.self.now.store c.args.r) c.requires.theory c.in-Err-TooLarge.ensures.kept c.soundness.ensures.standing.over c.requires.declared (c.in-Err-TooLarge.ensures.large (ap Err c.in-Err-TooLarge.field-0-is))
