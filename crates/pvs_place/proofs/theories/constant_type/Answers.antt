use Rattle.std.proofs.Common.{Err, ap, sym, subst}
use Rattle.pvs_terms.specs.declared.shape.Sort.TheVariants.{OfType, OfTerm}
use Rattle.pvs_terms.specs.Stored.{ref_at}
use Rattle.pvs_typing.specs.Growth.{IsKnown}
use Rattle.pvs_place.specs.Place.{IsDeclaredIn}
use Rattle.pvs_place.proofs.ReadingLaws.{reads_at}
use Rattle.pvs_place.proofs.theories.constant_type.Goals as goal

pub type_of-requires-clause-over : goal.type_of-requires-clause-over
type_of-requires-clause-over g c =
    let v = c.args.instances.now in
    (reads_at v c.args.theory v.store (ref_at v.store c.args.r) c.requires.latest c.soundness.ensures.standing.over).is_ref OfTerm c.requires.declared

pub type_of-requires-clause-constant : goal.type_of-requires-clause-constant
type_of-requires-clause-constant g c =
    let v = c.args.instances.now in
    (reads_at v c.args.theory v.store (ref_at v.store c.args.r) c.requires.latest c.soundness.ensures.standing.over).constant c.requires.declared

pub returns-in-Ok-clause-ok : goal.returns-in-Ok-clause-ok
returns-in-Ok-clause-ok g c =
    let v = c.args.instances.now in
    (reads_at v c.args.theory c.type_of.new.self.store (ref_at v.store c.args.r) c.requires.latest c.soundness.ensures.standing.over).type_is c.requires.declared c.in-Ok.id c.in-Ok.ensures.ok

pub returns-in-Ok-clause-known : goal.returns-in-Ok-clause-known
returns-in-Ok-clause-known g c =
    let v = c.args.instances.now in
    subst (λ d. IsKnown c.type_of.new.self.store (IsDeclaredIn d) OfType c.in-Ok.id) (sym c.in-Ok.ensures.kept.development)
    ((reads_at v c.args.theory c.type_of.new.self.store (ref_at v.store c.args.r) c.requires.latest c.soundness.ensures.standing.over).type_known c.requires.declared c.in-Ok.id c.in-Ok.ensures.ok)

pub returns-in-Err-TooLarge-clause-large : goal.returns-in-Err-TooLarge-clause-large
returns-in-Err-TooLarge-clause-large g c =
    let v = c.args.instances.now in
    λ _. (reads_at v c.args.theory v.store (ref_at v.store c.args.r) c.requires.latest c.soundness.ensures.standing.over).type_large c.requires.declared (c.in-Err-TooLarge.ensures.large (ap Err c.in-Err-TooLarge.field-0-is))
