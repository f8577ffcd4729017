use Rattle.std.proofs.Common.{◌≡◌, ◌+◌, suc, arith}
use Rattle.pvs_elaboration.proofs.SeveralLaws.{second_follows}
use Rattle.pvs_elaboration.proofs.several.name_second.Goals as goal

pub returns : goal.returns
returns g c =
    let e : c.args.name + 1 ≡ suc c.args.name = omega arith in
    λ t. rw c.name_others.ensures (second_follows t c.args.here.now c.args.first c.args.name (c.args.name + 1) c.args.others c.args.body c.args.second c.args.mode c.requires.first c.requires.second c.requires.mode e)
