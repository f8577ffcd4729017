use Rattle.std.proofs.Common.{◌≡◌, subst}
use Rattle.pvs_terms.specs.Tree.{Inst, ref_actuals}
use Rattle.pvs_terms.specs.Stored.{ref_at, text_at}
use Rattle.pvs_sig.specs.Development.{theory_named}
use Rattle.pvs_instantiate.specs.InstancesView.{development}
use Rattle.pvs_instantiate.proofs.PartLaws.{over_some}
use Rattle.pvs_instantiate.proofs.instances.Instances.part.Goals as goal

pub instance_part-requires-clause-formals : goal.instance_part-requires-clause-formals
instance_part-requires-clause-formals g c =
    let is : ref_at c.args.self.now.store c.args.r ≡ Inst (text_at c.args.self.now.store c.in-Inst.other) c.in-Inst.number (ref_actuals (ref_at c.args.self.now.store c.args.r)) =
    subst (λ z. ref_at z.store c.args.r ≡ Inst (text_at z.store c.in-Inst.other) c.in-Inst.number (ref_actuals (ref_at z.store c.args.r))) c.self.view_is c.in-Inst.ensures.ref_is in
    let s = over_some (development c.args.self.now) (theory_named (development c.args.self.now) (text_at c.args.self.now.store c.args.theory)) (ref_at c.args.self.now.store c.args.r) (text_at c.args.self.now.store c.in-Inst.other) c.in-Inst.number (ref_actuals (ref_at c.args.self.now.store c.args.r)) c.requires.over is in
    (s.0, s.2)
