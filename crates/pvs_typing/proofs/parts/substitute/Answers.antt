use Rattle.pvs_terms.specs.declared.shape.Sort.TheVariants.{OfType}
use Rattle.pvs_typing.proofs.PartLaws.{put_gives}
use Rattle.pvs_typing.proofs.parts.substitute.Goals as goal

pub returns : goal.returns
returns g c =
    let h = c.in_ok-made.ensures in
    record {
      ok = put_gives OfType c.args.body c.args.arg c.in_ok-made.made (h.kept c.args._theory c.requires.theory) c.requires.body c.requires.arg h.ok;
      refused = tt;
      kept = h.kept c.args._theory c.requires.theory;
    }
