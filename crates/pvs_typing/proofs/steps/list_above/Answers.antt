use Rattle.pvs_typing.proofs.AboveLaws.{listed_later}
use Rattle.pvs_typing.proofs.steps.list_above.Goals as goal

pub returns : goal.returns
returns g c = record {
  ok = listed_later (g.T.Theories.state c.args.theories.now) (g.T.Theories.state c.up_of.new.theories) c.args.theory (record { of = c.args.of; types = c.in_ok-types.types }) c.in_ok-types.ensures.kept c.requires.of c.in_ok-types.ensures.ok c.in_ok-types.ensures.known;
  refused = tt;
  kept = c.in_ok-types.ensures.kept;
}
