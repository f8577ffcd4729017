use Rattle.std.proofs.Common.{refl}
use Rattle.pvs_terms.specs.Tree.{TFun}
use Rattle.pvs_terms.specs.Stored.{tree_at}
use Rattle.pvs_terms.specs.declared.shape.Sort.TheVariants.{OfType}
use Rattle.pvs_typing.proofs.PartLaws.{made_gives}
use Rattle.pvs_typing.proofs.rows.function_type.Goals as goal

pub returns : goal.returns
returns g c =
    let s = (g.T.Theories.state c.args.theories.now).stored in
    let h = c.in_ok-made.ensures in
    let r = c.requires in
    let t = TFun (tree_at s c.args.domain) (tree_at s c.args.range) in
    record {
      ok = made_gives OfType t t c.in_ok-made.made (h.kept c.args.theory r.theory) refl refl (r.domain.names, r.range.names) h.ok;
      refused = tt;
      kept = h.kept c.args.theory r.theory;
    }
