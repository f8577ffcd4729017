use Rattle.std.proofs.Common.{[]}
use Rattle.pvs_terms.specs.Stored.{ref_at}
use Rattle.pvs_typing.proofs.RowLaws.{constant_accepts}
use Rattle.pvs_typing.proofs.rows.constant_type.Goals as goal

pub returns : goal.returns
returns g c =
    let t = g.T.Theories in
    record {
      answer = record { is = constant_accepts (t.state c.type_of.new.self).stored ((t.state c.type_of.new.self).declares c.args.theory) ((t.state c.args.theories.now).lookups c.args.theory) [] (ref_at (t.state c.args.theories.now).stored c.args.r) c.in_ok-ty.ty c.in_ok-ty.ensures.ok };
      known = c.in_ok-ty.ensures.known;
      kept = c.in_ok-ty.ensures.kept;
    }
