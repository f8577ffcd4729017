use Rattle.std.proofs.Common.{◌≡◌, Some, slice_get, sym, subst}
use Rattle.std.specs.Map.{keys_of}
use Rattle.pvs_terms.specs.Tree.{Formal}
use Rattle.pvs_terms.specs.Stored.{text_at}
use Rattle.pvs_instantiate.specs.InstancesView.{InstancesView, development}
use Rattle.pvs_instantiate.proofs.ListLaws.{key_within}
use Rattle.pvs_instantiate.proofs.LookupLaws.{found_at}
use Rattle.pvs_instantiate.proofs.PartLaws.{gives_none, gives_formal}
use Rattle.pvs_instantiate.proofs.instances.Instances.formal_part.Goals as goal

pub theory-found-requires : goal.theory-found-requires
theory-found-requires g c =
    key_within c.self.inside.theories c.in-Some.at c.args.theory (subst (λ z. slice_get (keys_of z.entries) c.in-Some.at ≡ Some c.args.theory) (sym c.self.view_is) c.in-Some.ensures.some)

pub stored_option-requires : goal.stored_option-requires
stored_option-requires g c =
    let key = subst (λ z. slice_get (keys_of z.entries) c.in-Some.at ≡ Some c.args.theory) (sym c.self.view_is) c.in-Some.ensures.some in
    let f = found_at c.self.inside.store c.self.inside.theories c.in-Some.at c.args.theory c.theory-found.result.now c.self.invariant.standing key c.theory-found.ensures in
    c.part_of_formal.ensures.stored c.self.inside.store f.stored

pub returns-in-None : goal.returns-in-None
returns-in-None g c = gives_none c.args.self.now.store c.args.part (development c.args.self.now) (text_at c.args.self.now.store c.args.theory) (Formal c.args.number) c.in-None.ensures.none

pub returns-in-Some : goal.returns-in-Some
returns-in-Some g c =
    let v : InstancesView = record { store = c.self.inside.store; entries = c.self.inside.theories; last_stamp = c.self.inside.last_stamp; kept = g.J.Judgements.kept c.self.inside.cache } in
    let key = subst (λ z. slice_get (keys_of z.entries) c.in-Some.at ≡ Some c.args.theory) (sym c.self.view_is) c.in-Some.ensures.some in
    rw (← c.self.view_is)
    (gives_formal v c.in-Some.at c.args.theory c.theory-found.result.now c.args.part c.args.number c.part_of_formal.result c.stored_option.result c.self.invariant key c.theory-found.ensures (c.part_of_formal.ensures.tree c.self.inside.store) c.stored_option.ensures)
