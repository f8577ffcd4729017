use Rattle.std.proofs.Common.{[], length, sym, ap, ◌∙◌, subst}
use Rattle.pvs_instantiate.specs.Standing.{signatures, theories_after}
use Rattle.pvs_instantiate.specs.InstancesView.{InstancesView}
use Rattle.pvs_instantiate.specs.Soundness.{IsSound}
use Rattle.pvs_instantiate.proofs.ChangeLaws.{renumbered_sound, renumbered_development}
use Rattle.pvs_instantiate.proofs.instances.Instances.leave_stamp.Goals as goal

pub invariant_of-self : goal.invariant_of-self
invariant_of-self g c =
    let v : InstancesView = record { store = c.self.inside.store; entries = c.self.inside.theories; last_stamp = c.self.inside.last_stamp; kept = g.J.Judgements.kept c.self.inside.cache } in
    subst (λ k. IsSound (record { store = c.self.inside.store; entries = c.renumber-self-inside.new.self; last_stamp = c.renumber-self-inside.result; kept = k })) (sym c.forget.ensures)
    (subst (λ n. IsSound (record { store = c.self.inside.store; entries = c.renumber-self-inside.new.self; last_stamp = n; kept = [] })) (sym c.renumber-self-inside.ensures.last)
    (subst (λ l. IsSound (record { store = c.self.inside.store; entries = l; last_stamp = length c.self.inside.theories; kept = [] })) (sym c.renumber-self-inside.ensures.numbered) (renumbered_sound v c.self.invariant)))

pub returns-then-self-clause-development : goal.returns-then-self-clause-development
returns-then-self-clause-development g c =
    let v : InstancesView = record { store = c.self.inside.store; entries = c.self.inside.theories; last_stamp = c.self.inside.last_stamp; kept = g.J.Judgements.kept c.self.inside.cache } in
    rw (← c.self.view_is) (ap (λ l. theories_after [] (signatures c.self.inside.store l)) c.renumber-self-inside.ensures.numbered ∙ renumbered_development v)
