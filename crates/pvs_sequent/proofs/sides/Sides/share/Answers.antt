use Rattle.std.proofs.Common.{◌∙◌, ℕ, ap, eqb}
use Rattle.std.specs.List.{list_any}
use Rattle.pvs_sequent.specs.Counts.{BothSides, share_number}
use Rattle.pvs_sequent.proofs.CountLaws.{above_none}
use Rattle.pvs_sequent.proofs.sides.Sides.share.Goals as goal

pub returns : goal.returns
returns c =
    above_none (λ (i : ℕ). list_any (eqb i) c.self.inside.consequents) c.self.inside.antecedents c.self.inside.shared c.self.invariant
    ∙ ap (λ (s : BothSides). share_number s.antecedents s.consequents) c.self.view_is
