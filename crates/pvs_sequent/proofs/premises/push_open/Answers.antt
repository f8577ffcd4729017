use Rattle.std.proofs.Common.{◌∙◌, sym}
use Rattle.pvs_sequent.proofs.PremiseLaws.{pushed_open}
use Rattle.pvs_sequent.proofs.premises.push_open.Goals as goal

pub returns-in_ok-push : goal.returns-in_ok-push
returns-in_ok-push c =
    pushed_open c.args.store.now c.args.premises.now.items c.push.new.self.items c.args.premise c.in_ok-push.ensures.items (sym c.is_closed.ensures ∙ c.if-not-is_closed.true) c.requires.premises c.requires.premise
