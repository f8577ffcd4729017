-- Bindings that share a type.
use Rattle.std.specs.Prelude.{ℕ, ◌+◌, ◌*◌, Bool, false, if◌then◌else◌, List, [], ◌∷◌, ◌++◌, is_none}
use Rattle.pvs_terms.specs.Tree.{Text}
use Rattle.pvs_elab.specs.Desugar.{Bound, type_of}
use Rattle.pvs_elab.specs.Formula.{Occurs, occurrences}
use Rattle.pvs_elab.specs.Names.{Names}
use Rattle.pvs_phrases.specs.Size.{size}

-- the names after the scope of each has begun
abbrev pub names_onto : List Text → List Bound → List Text
names_onto bound [] = bound
names_onto bound (b ∷ bs) = names_onto (b.name ∷ bound) bs

-- the occurrences in the types, each in the scope of the names before it
abbrev pub type_occurrences : Names → List Text → List Bound → List Occurs
type_occurrences ns bound [] = []
type_occurrences ns bound (b ∷ bs) = occurrences ns false bound (type_of b bs) ++ type_occurrences ns (b.name ∷ bound) bs

-- the same, without a type that has been searched: the first, and each that is shared with the binding before
abbrev pub shared_occurrences : Names → Bool → List Text → List Bound → List Occurs
shared_occurrences ns searched bound [] = []
shared_occurrences ns searched bound (b ∷ bs) = (if searched then [] else occurrences ns false bound (type_of b bs)) ++ shared_occurrences ns (is_none b.ty) (b.name ∷ bound) bs

abbrev pub bindings_work : List Bound → ℕ
bindings_work [] = 1
bindings_work (b ∷ bs) = 2 + 8 * size (type_of b bs) + bindings_work bs
