use Rattle.pvs_typing.proofs.TaskLaws.{pairs_follow}
use Rattle.pvs_typing.proofs.steps.between_pairs.Goals as goal

pub returns : goal.returns
returns g c =
    record {
      ok = pairs_follow c.in_ok-outer.outer c.args.context c.args.components c.args.term c.in_ok-first.first c.args.first_from c.args.first_to c.args.others_from c.args.others_to c.in_ok-first.ensures.kept c.in_ok-outer.ensures c.requires.components
          c.requires.first c.requires.others c.in_ok-first.ensures.ok;
      refused = tt;
      kept = c.in_ok-first.ensures.kept;
    }
