-- How often names are there.
use Rattle.std.specs.Prelude.{ℕ, suc, List, [], ◌∷◌, cond, bytes_eq, unwrap_or}
use Rattle.std.specs.HashMap.{get_by}
use Rattle.pvs_terms.specs.Tree.{Text}
use Rattle.pvs_free_variables.specs.declared.counts.Counts.{Counts}

abbrev pub count_of : Counts → Text → ℕ
count_of c x = unwrap_or (get_by (λ k. bytes_eq x k.now) c.counts) 0

abbrev pub times : Text → List Text → ℕ
times x [] = 0
times x (y ∷ ys) = cond (bytes_eq y x) (suc (times x ys)) (times x ys)
