use Rattle.std.proofs.Common.{◌≡◌, ℕ, suc, zero, List, [], ◌∷◌, drop, refl, ap, ◌∙◌, add-one}
use Rattle.pvs_terms.specs.Tree.{Text}
use Rattle.pvs_free_variables.proofs.bound.Bound.leave.Goals as goal

drop_one : (xs : List Text) (i : ℕ) → drop 1 (drop i xs) ≡ drop (suc i) xs
drop_one [] zero = refl
drop_one [] (suc i) = refl
drop_one (x ∷ xs) zero = refl
drop_one (x ∷ xs) (suc i) = drop_one xs i

pub loop-preserved : goal.loop-preserved
loop-preserved c = c.leave_one.ensures ∙ ap (drop 1) c.loop.invariant ∙ rw add-one (drop_one c.args.self.now c.loop.counter)
