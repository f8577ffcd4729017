use Rattle.pvs_typing.proofs.TaskLaws.{subtype_follows}
use Rattle.pvs_typing.proofs.GrowthLaws.{keeps_none}
use Rattle.pvs_typing.proofs.steps.to_subtype.Goals as goal

pub returns : goal.returns
returns g c =
    let t = g.T.Theories in
    let n = c.args._theory in
    let w = c.args.theories.now in
    record {
      ok = subtype_follows ((t.state w).lookups n) (t.state w).stored ((t.state w).declares n) c.in_ok-outer.outer c.args.context c.args.term c.args.from c.args.supertype c.args.predicate c.in_ok-outer.ensures c.requires.coercion c.requires.predicate;
      refused = tt;
      kept = keeps_none _ _ _;
    }
