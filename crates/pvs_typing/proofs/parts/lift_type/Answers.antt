use Rattle.pvs_terms.specs.declared.shape.Sort.TheVariants.{OfType}
use Rattle.pvs_typing.proofs.PartLaws.{lifted_gives}
use Rattle.pvs_typing.proofs.parts.lift_type.Goals as goal

pub returns : goal.returns
returns g c =
    let h = c.in_ok-lifted.ensures in
    record {
      ok = lifted_gives OfType c.args.id c.in_ok-lifted.lifted (h.kept c.args._theory c.requires.theory) c.requires.id h.ok;
      refused = tt;
      kept = h.kept c.args._theory c.requires.theory;
    }
