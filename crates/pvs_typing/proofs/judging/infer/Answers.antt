use Rattle.pvs_terms.specs.Stored.{tree_at}
use Rattle.pvs_subst.specs.Contexts.{context_at}
use Rattle.pvs_types.proofs.UsesLaws.{typing_uses}
use Rattle.pvs_typing.proofs.JudgingLaws.{judged}
use Rattle.pvs_typing.proofs.judging.infer.Goals as goal

-- the symbols are those of the tree, in the store as it stands then
pub returns : goal.returns
returns g c =
    let x = g.T.Theories in
    let s = (x.state c.args.theories.now).stored in
    let l = (x.state c.args.theories.now).lookups c.args.theory in
    let h = c.in_ok-ty.ensures in
    let t = tree_at s c.args.term in
    let a = rw c.new-conditions.ensures.items at h.answer.is in
    let e = rw (c.store-2.ensures, h.kept.stored.trees c.args.term c.requires.term.node) at c.in_ok-uses.ensures.ok in
    record {
      ok = judged t c.in_ok-uses.uses.items a ((typing_uses l t).infer (context_at s c.args.g.now.items)) e;
      known = h.known;
      conditions = h.answer.is.conditions;
      uses = rw c.store-2.ensures at c.in_ok-uses.ensures.refs;
      refused = tt;
      kept = h.kept;
    }
