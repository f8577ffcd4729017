use Rattle.pvs_terms.specs.Tree.{ref_actuals}
use Rattle.pvs_terms.specs.Stored.{ref_at, text_at}
use Rattle.pvs_place.proofs.ReadingLaws.{reads_at}
use Rattle.pvs_place.proofs.NonemptyLaws.{instance_answer}
use Rattle.pvs_place.proofs.nonempty.is_nonempty_reference.Goals as goal

pub returns-in-Inst : goal.returns-in-Inst
returns-in-Inst g c =
    let v = c.args.instances.now in
    let r = ref_at v.store c.args.r in
    instance_answer v c.args.theory r (text_at v.store c.in-Inst.other) c.in-Inst.number (ref_actuals r) c.is_nonempty_in-in-Inst.result c.requires.latest (rw c.store.ensures at c.in-Inst.ensures.ref_is)
    ((reads_at v c.args.theory v.store r c.requires.latest c.soundness.ensures.standing.over).is_nonempty c.requires.declared) c.is_nonempty_in-in-Inst.ensures
