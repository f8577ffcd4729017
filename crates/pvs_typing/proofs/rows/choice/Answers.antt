use Rattle.std.proofs.Common.{refl}
use Rattle.pvs_terms.specs.Tree.{If}
use Rattle.pvs_terms.specs.Stored.{tree_at}
use Rattle.pvs_terms.specs.declared.shape.Sort.TheVariants.{OfTerm}
use Rattle.pvs_typing.proofs.PartLaws.{made_gives}
use Rattle.pvs_typing.proofs.rows.choice.Goals as goal

pub returns : goal.returns
returns g c =
    let s = (g.T.Theories.state c.args.theories.now).stored in
    let h = c.in_ok-made.ensures in
    let r = c.requires in
    let t = If (tree_at s c.args.condition) (tree_at s c.args.first) (tree_at s c.args.second) in
    record {
      ok = made_gives OfTerm t t c.in_ok-made.made (h.kept c.args.theory r.theory) refl refl (r.condition.names, r.first.names, r.second.names) h.ok;
      refused = tt;
      kept = h.kept c.args.theory r.theory;
    }
