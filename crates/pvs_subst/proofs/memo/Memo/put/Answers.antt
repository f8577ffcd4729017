use Rattle.std.proofs.Common.{◌≡◌, Some, cond, subst}
use Rattle.pvs_subst.specs.code.Memo.{part_eq, made_of}
use Rattle.pvs_subst.proofs.memo.Memo.put.Goals as goal

pub returns : goal.returns
returns c p =
    subst (λ m. made_of c.insert.new.self.entries p ≡ cond (part_eq (record { id = c.args.id; depth = c.args.depth }) p) (Some c.args.made) (made_of m p)) c.self.view_is (c.in_ok-insert.ensures.updates.0 p)
