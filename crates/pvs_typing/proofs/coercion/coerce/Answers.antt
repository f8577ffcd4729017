use Rattle.pvs_terms.specs.Stored.{tree_at}
use Rattle.pvs_subst.specs.Contexts.{context_at}
use Rattle.pvs_types.specs.Coerce.{coerce}
use Rattle.pvs_types.proofs.UsesLaws.{coerce_silent}
use Rattle.pvs_typing.proofs.StackLaws.{owes_judges}
use Rattle.std.proofs.Common.{refl}
use Rattle.pvs_typing.proofs.coercion.coerce.Goals as goal

pub returns : goal.returns
returns g c =
    let t = g.T.Theories in
    let a = c.args in
    let s = (t.state a.theories.now).stored in
    let l = (t.state a.theories.now).lookups a.theory in
    record {
      ok = owes_judges s (t.state c.coerce_of.new.theories).stored (coerce l (context_at s a.g.now.items) (tree_at s a.term) (tree_at s a.from) (tree_at s a.to)) c.coerce_of.new.conditions.items c.new-conditions.result.items c.new.result.items
          (coerce_silent l (context_at s a.g.now.items) (tree_at s a.term) (tree_at s a.from) (tree_at s a.to)) c.in_ok-coerce_of.ensures.ok c.new-conditions.ensures.items c.new.ensures.items;
      ty = refl;
      conditions = c.in_ok-coerce_of.ensures.known;
      uses = rw c.new.ensures.items tt;
      refused = tt;
      kept = c.in_ok-coerce_of.ensures.kept;
    }
