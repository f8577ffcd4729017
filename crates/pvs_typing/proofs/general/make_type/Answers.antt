use Rattle.std.proofs.Common.{refl}
use Rattle.pvs_terms.specs.declared.shape.Sort.TheVariants.{OfType}
use Rattle.pvs_terms.specs.Stored.{node_tree}
use Rattle.pvs_typing.proofs.PartLaws.{made_gives}
use Rattle.pvs_typing.proofs.general.make_type.Goals as goal

pub returns : goal.returns
returns g c =
    let u = node_tree (g.T.Theories.state c.args.theories.now).stored c.args.node in
    let h = c.in_ok-made.ensures in
    record {
      ok = made_gives OfType u u c.in_ok-made.made (h.kept c.args._theory c.requires.theory) refl c.requires.ty c.requires.names h.ok;
      refused = tt;
      kept = h.kept c.args._theory c.requires.theory;
    }
