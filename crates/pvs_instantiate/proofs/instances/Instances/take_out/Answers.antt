use Rattle.std.proofs.Common.{ap}
use Rattle.std.proofs.Common.{length, arith}
use Rattle.pvs_instantiate.specs.InstancesView.{InstancesView}
use Rattle.pvs_instantiate.proofs.ListLaws.{key_within}
use Rattle.pvs_instantiate.proofs.RestLaws.{removal}
use Rattle.pvs_instantiate.proofs.instances.Instances.take_out.Goals as goal

pub remove-signature-requires : goal.remove-signature-requires
remove-signature-requires g c = omega (arith, ap (λ z. length z.entries) c.self.view_is, key_within c.args.self.now.entries c.args.at c.args.theory c.requires.at)

pub invariant_of-self : goal.invariant_of-self
invariant_of-self g c =
    let v : InstancesView = record { store = c.self.inside.store; entries = c.self.inside.theories; last_stamp = c.self.inside.last_stamp; kept = g.J.Judgements.kept c.self.inside.cache } in
    (removal c.args.self.now v c.remove-signature.new.self c.args.at c.args.theory c.remove-signature.result c.self.view_is c.self.invariant c.requires.at c.remove-signature.ensures.theory c.requires.alone c.remove-signature.ensures.rest).sound

pub returns-clause-found : goal.returns-clause-found
returns-clause-found g c =
    let v : InstancesView = record { store = c.self.inside.store; entries = c.self.inside.theories; last_stamp = c.self.inside.last_stamp; kept = g.J.Judgements.kept c.self.inside.cache } in
    (removal c.args.self.now v c.remove-signature.new.self c.args.at c.args.theory c.remove-signature.result c.self.view_is c.self.invariant c.requires.at c.remove-signature.ensures.theory c.requires.alone c.remove-signature.ensures.rest).found

pub returns-clause-rest : goal.returns-clause-rest
returns-clause-rest g c =
    let v : InstancesView = record { store = c.self.inside.store; entries = c.self.inside.theories; last_stamp = c.self.inside.last_stamp; kept = g.J.Judgements.kept c.self.inside.cache } in
    (removal c.args.self.now v c.remove-signature.new.self c.args.at c.args.theory c.remove-signature.result c.self.view_is c.self.invariant c.requires.at c.remove-signature.ensures.theory c.requires.alone c.remove-signature.ensures.rest).rest

pub returns-clause-gone : goal.returns-clause-gone
returns-clause-gone g c =
    let v : InstancesView = record { store = c.self.inside.store; entries = c.self.inside.theories; last_stamp = c.self.inside.last_stamp; kept = g.J.Judgements.kept c.self.inside.cache } in
    (removal c.args.self.now v c.remove-signature.new.self c.args.at c.args.theory c.remove-signature.result c.self.view_is c.self.invariant c.requires.at c.remove-signature.ensures.theory c.requires.alone c.remove-signature.ensures.rest).gone

pub returns-clause-stamps : goal.returns-clause-stamps
returns-clause-stamps g c =
    let v : InstancesView = record { store = c.self.inside.store; entries = c.self.inside.theories; last_stamp = c.self.inside.last_stamp; kept = g.J.Judgements.kept c.self.inside.cache } in
    (removal c.args.self.now v c.remove-signature.new.self c.args.at c.args.theory c.remove-signature.result c.self.view_is c.self.invariant c.requires.at c.remove-signature.ensures.theory c.requires.alone c.remove-signature.ensures.rest).stamps
