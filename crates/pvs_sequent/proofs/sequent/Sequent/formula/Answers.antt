use Rattle.std.proofs.Common.{◌∙◌, ap, subst, w64}
use Rattle.std.proofs.lemmas.Int.{to_z-of_z}
use Rattle.pvs_sequent.specs.Sequents.{formula_at, place_of}
use Rattle.pvs_sequent.specs.Numbers.{IsFormula, sequent_at}
use Rattle.pvs_sequent.proofs.sequent.Sequent.formula.Goals as goal

pub returns : goal.returns
returns c s h =
    subst (λ p. IsFormula s (formula_at (sequent_at s c.args.self.now) p) c.formula_at.result)
    (c.place_of.ensures ∙ ap place_of (to_z-of_z w64 c.args.number c.ranges.number)) (c.formula_at.ensures s h)
