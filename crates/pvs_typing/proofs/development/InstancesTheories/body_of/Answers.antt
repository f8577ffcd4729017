use Rattle.std.proofs.Common.{Err, ap}
use Rattle.pvs_terms.specs.Stored.{ref_at}
use Rattle.pvs_typing.proofs.DevelopmentLaws.{gives_body, body_is_known, body_too_large}
use Rattle.pvs_typing.proofs.development.InstancesTheories.body_of.Goals as goal

pub returns-in-Ok-clause-ok : goal.returns-in-Ok-clause-ok
returns-in-Ok-clause-ok g c = gives_body c.args.self.now c.body_of.new.self c.args.theory (ref_at c.args.self.now.store c.args.r) c.requires.theory c.in-Ok.ensures.kept c.soundness.ensures.standing.over c.requires.declared c.in-Ok.body c.in-Ok.ensures.ok

pub returns-in-Ok-clause-known : goal.returns-in-Ok-clause-known
returns-in-Ok-clause-known g c = body_is_known c.args.self.now c.body_of.new.self c.args.theory (ref_at c.args.self.now.store c.args.r) c.requires.theory c.in-Ok.ensures.kept c.soundness.ensures.standing.over c.requires.declared c.in-Ok.body c.in-Ok.ensures.ok

pub returns-in-Err-TooLarge-clause-large : goal.returns-in-Err-TooLarge-clause-large
returns-in-Err-TooLarge-clause-large g c = λ _. body_too_large c.args.self.now c.body_of.new.self c.args.theory (ref_at c.args.self.now.store c.args.r) c.requires.theory c.in-Err-TooLarge.ensures.kept c.soundness.ensures.standing.over c.requires.declared (c.in-Err-TooLarge.ensures.large (ap Err c.in-Err-TooLarge.field-0-is))
