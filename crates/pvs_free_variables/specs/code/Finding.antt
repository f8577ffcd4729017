-- Occurrences that are found one after another.
use Rattle.std.specs.Prelude.{if◌then◌else◌, List, [], ◌∷◌, ◌++◌, map}
use Rattle.pvs_terms.specs.Tree.{Text}
use Rattle.pvs_elab.specs.Formula.{Occurs, is_in}

abbrev pub names_of : List Occurs → List Text
names_of os = map (λ o. o.name) os

-- the same with this one, unless one of its name is there
abbrev pub add_first : List Occurs → Occurs → List Occurs
add_first found o = if is_in o.name (names_of found) then found else found ++ o ∷ []

abbrev pub add_all : List Occurs → List Occurs → List Occurs
add_all found [] = found
add_all found (o ∷ os) = add_all (add_first found o) os
