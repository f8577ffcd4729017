use Rattle.pvs_terms.specs.Stored.{tree_at}
use Rattle.pvs_subst.specs.Contexts.{context_at}
use Rattle.pvs_typing.proofs.TaskLaws.{other_done}
use Rattle.pvs_typing.proofs.steps.coerce_to.Goals as goal

pub returns-in_ok-same_head-in_default : goal.returns-in_ok-same_head-in_default
returns-in_ok-same_head-in_default g c =
    let t = g.T.Theories in
    let a = c.args in
    let s = (t.state a.theories.now).stored in
    let w = c.same_head.new.theories in
    let d = c.in_default in
    let h = c.in_ok-same_head-in_default.ensures in
    record {
      ok = other_done ((t.state a.theories.now).lookups a.theory) s (t.state w).stored ((t.state w).declares a.theory) (context_at s a.context.items) (tree_at s a.term) (tree_at s a.from) (tree_at s a.to) c.known_node.result
          c.known_node.ensures.tree c.requires.coercion.to.sort (d.not-TName, d.not-TSub, d.not-TPair, d.not-TFun) h.ok;
      refused = tt;
      kept = h.kept;
    }
