-- The last of a list of open trees.
use Rattle.std.proofs.Common.{◌≡◌, ap, List, [], ◌∷◌, ◌++◌, Some, refl}
use Rattle.pvs_scripts.specs.declared.state.OpenTree.{OpenTree}
use Rattle.pvs_scripts.specs.code.States.{with_first, last_of}

pub last_push : (trees : List OpenTree) (tree : OpenTree) → last_of (trees ++ tree ∷ []) ≡ Some (trees, tree)
last_push [] tree = refl
last_push (t ∷ ts) tree = ap (λ o. Some (with_first t o)) (last_push ts tree)
