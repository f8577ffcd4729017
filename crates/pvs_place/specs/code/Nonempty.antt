-- What is left of whether a type is known to be nonempty: types each of which is to be, the last one asked first.
use Rattle.std.specs.Prelude.{◌≡◌, ◌<◌, ◌+◌, ℕ, Bool, true, false, if◌then◌else◌, List, [], ◌∷◌, Result, Ok}
use Rattle.pvs_base.specs.Answers.{◌>>=◌}
use Rattle.pvs_base.specs.declared.code.Code.{Code}
use Rattle.pvs_terms.specs.Tree.{Tree, Ref}
use Rattle.pvs_terms.specs.declared.shape.Sort.{Sort}
use Rattle.pvs_terms.specs.declared.shape.Sort.TheVariants.{OfType}
use Rattle.pvs_terms.specs.Stored.{Stored, tree_at}
use Rattle.pvs_sig.specs.Lookups.{Lookups, type_size}
use Rattle.pvs_types.specs.Forms.{is_known_nonempty}
use Rattle.pvs_typing.specs.Growth.{AreKnown}
use Rattle.pvs_place.specs.declared.nonempty.Nonempty.{Nonempty}
use Rattle.pvs_place.specs.declared.nonempty.Nonempty.TheVariants.{Always, If, IfBoth, Never}

-- one answer and then the other, which is asked only where the first is yes
abbrev pub both : Result Bool Code → Result Bool Code → Result Bool Code
both x y = x >>= (λ b. if b then y else Ok false)

-- whether each of these types is known to be nonempty
abbrev pub are_nonempty : Lookups → Stored → List ℕ → Result Bool Code
are_nonempty l s [] = Ok true
are_nonempty l s (i ∷ is) = both (are_nonempty l s is) (is_known_nonempty l (tree_at s i))

-- a bound on the steps that are left
abbrev pub types_work : Lookups → Stored → List ℕ → ℕ
types_work l s [] = 0
types_work l s (i ∷ is) = type_size l.rank (tree_at s i) + types_work l s is

-- the types that a type needs
abbrev pub needed_types : Nonempty → List ℕ
needed_types Always = []
needed_types (If i) = i ∷ []
needed_types (IfBoth i j) = j ∷ i ∷ []
needed_types Never = []

abbrev pub nonempty_result : Lookups → Stored → Nonempty → Result Bool Code
nonempty_result l s Never = Ok false
nonempty_result l s x = are_nonempty l s (needed_types x)

-- the answer of a type is that of the types that it needs, which are less work
pub record Reduces (l : Lookups) (s : Stored) (P : Sort → Ref → Type 0) (t : Tree) (x : Nonempty) : Type 0 where
  pub known : AreKnown s P OfType (needed_types x)
  pub result : is_known_nonempty l t ≡ nonempty_result l s x
  pub less : types_work l s (needed_types x) < type_size l.rank t
