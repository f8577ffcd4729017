use Rattle.std.proofs.Common.{sym, subst}
use Rattle.pvs_sequent.specs.Counts.{IsCountOf}
use Rattle.pvs_sequent.proofs.CountLaws.{removed_count, stands_count}
use Rattle.pvs_sequent.proofs.counted.CountedIds.remove.Goals as goal

pub lower-requires : goal.lower-requires
lower-requires c = stands_count c.self.inside.counts.entries c.self.inside.list c.args.at c.remove-id.result c.remove-id.ensures.number c.self.invariant

pub invariant_of-self : goal.invariant_of-self
invariant_of-self c =
    subst (IsCountOf c.lower.new.counts.entries) (sym c.remove-id.ensures.rest)
    (removed_count c.self.inside.counts.entries c.lower.new.counts.entries c.self.inside.list c.args.at c.remove-id.result c.remove-id.ensures.number c.self.invariant c.lower.ensures)
