use Rattle.std.proofs.Common.{◌∙◌, ◌<◌, ℕ, List, length, reverse, remove, sym, ap, subst, arith}
use Rattle.std.proofs.lemmas.List.{length-reverse}
use Rattle.pvs_sequent.proofs.Lists.{remove-reverse}
use Rattle.pvs_sequent.proofs.list.IdList.remove.Goals as goal

pub returns-clause-rest : goal.returns-clause-rest
returns-clause-rest c =
    let n : c.args.at < length c.self.inside.reversed.items = subst (λ k. c.args.at < k) (ap length (sym c.self.view_is) ∙ length-reverse c.self.inside.reversed.items) c.requires in
    ap reverse c.remove.ensures.items ∙ sym (remove-reverse c.self.inside.reversed.items c.args.at _ (omega arith)) ∙ ap (λ (ys : List ℕ). remove ys c.args.at) c.self.view_is
