use Rattle.pvs_instantiate.specs.InstancesView.{InstancesView}
use Rattle.pvs_instantiate.proofs.RestLaws.{grows}
use Rattle.pvs_instantiate.proofs.instances.Instances.grow.Goals as goal

pub invariant_of-self : goal.invariant_of-self
invariant_of-self g c =
    let v : InstancesView = record { store = c.self.inside.store; entries = c.self.inside.theories; last_stamp = c.self.inside.last_stamp; kept = g.J.Judgements.kept c.self.inside.cache } in
    (grows c.args.self.now v c.grow.new.self c.in-Some.at c.args.theory c.args.growth c.grow.result c.self.view_is c.self.invariant c.in-Some.ensures.some c.requires.within c.requires.alone c.requires.over c.grow.ensures.ok c.grow.ensures.err).sound

pub returns-clause-ok : goal.returns-clause-ok
returns-clause-ok g c =
    let v : InstancesView = record { store = c.self.inside.store; entries = c.self.inside.theories; last_stamp = c.self.inside.last_stamp; kept = g.J.Judgements.kept c.self.inside.cache } in
    (grows c.args.self.now v c.grow.new.self c.in-Some.at c.args.theory c.args.growth c.grow.result c.self.view_is c.self.invariant c.in-Some.ensures.some c.requires.within c.requires.alone c.requires.over c.grow.ensures.ok c.grow.ensures.err).ok

pub returns-clause-err : goal.returns-clause-err
returns-clause-err g c =
    let v : InstancesView = record { store = c.self.inside.store; entries = c.self.inside.theories; last_stamp = c.self.inside.last_stamp; kept = g.J.Judgements.kept c.self.inside.cache } in
    (grows c.args.self.now v c.grow.new.self c.in-Some.at c.args.theory c.args.growth c.grow.result c.self.view_is c.self.invariant c.in-Some.ensures.some c.requires.within c.requires.alone c.requires.over c.grow.ensures.ok c.grow.ensures.err).err

pub returns-clause-stamps : goal.returns-clause-stamps
returns-clause-stamps g c =
    let v : InstancesView = record { store = c.self.inside.store; entries = c.self.inside.theories; last_stamp = c.self.inside.last_stamp; kept = g.J.Judgements.kept c.self.inside.cache } in
    (grows c.args.self.now v c.grow.new.self c.in-Some.at c.args.theory c.args.growth c.grow.result c.self.view_is c.self.invariant c.in-Some.ensures.some c.requires.within c.requires.alone c.requires.over c.grow.ensures.ok c.grow.ensures.err).stamps
