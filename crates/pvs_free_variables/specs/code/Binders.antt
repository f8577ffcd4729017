-- The names of binders.
use Rattle.std.specs.Prelude.{List, map, reverse}
use Rattle.std.specs.Borrow.{Bor}
use Rattle.pvs_terms.specs.Tree.{Text}

abbrev pub innermost_first : List (Bor Text) → List Text
innermost_first xs = reverse (map (λ x. x.now) xs)
