use Rattle.std.proofs.Common.{◌≡◌, ◌<◌, ◌+◌, suc, Some, length, slice_get, refl, ap, ◌∙◌, subst, arith}
use Rattle.std.specs.Map.{values_of}
use Rattle.indexmap.specs.IndexMap.{set_value_at}
use Rattle.pvs_instantiate.specs.Standing.{numbered}
use Rattle.pvs_instantiate.proofs.NumberedLaws.{numbered_length, numbered_next}
use Rattle.pvs_instantiate.proofs.theories.Theories.renumber.Goals as goal

pub index_mut-theory-requires : goal.index_mut-theory-requires
index_mut-theory-requires c =
    let h : c.loop-i.i < length c.loop-i.self-inside.entries.entries = omega (arith, ap length c.loop-i.invariant.numbered, numbered_length 0 c.loop-i.i c.self.inside.entries.entries, c.loop-i.invariant.count, c.loop-i-test.true) in
    h

pub loop-i-preserved : goal.loop-i-preserved
loop-i-preserved c =
    let i = c.loop-i.i in
    let v = c.index_mut-theory.result.now in
    let es = c.self.inside.entries.entries in
    let n : suc i ≡ i + 1 = omega arith in
    record {
      count = c.loop-i.invariant.count;
      numbered = ap (λ l. set_value_at l i (record { signature = v.signature; stamp = i + 1 })) c.loop-i.invariant.numbered
          ∙ numbered_next 0 i (i + 1) es v (record { signature = v.signature; stamp = i + 1 }) (subst (λ l. slice_get (values_of l) i ≡ Some v) c.loop-i.invariant.numbered c.index_mut-theory.ensures.value) (omega arith) refl
          ∙ ap (λ k. numbered 0 k es) n;
    }
