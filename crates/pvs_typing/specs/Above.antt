-- One step up from a type, whether a type is above another, and the types above one by number.
use Rattle.std.specs.Prelude.{◌≡◌, ℕ, Bool, Option, Some, None, Result, Ok, IfOk, IfErr}
use Rattle.pvs_base.specs.Answers.{◌>>=◌}
use Rattle.pvs_base.specs.declared.code.Code.{Code}
use Rattle.pvs_terms.specs.Tree.{Tree, Name, Bind}
use Rattle.pvs_terms.specs.declared.shape.Sort.TheVariants.{OfType}
use Rattle.pvs_terms.specs.declared.shape.Binder.TheVariants.{Subtype}
use Rattle.pvs_terms.specs.Stored.{tree_at}
use Rattle.pvs_sig.specs.Lookups.{Lookups}
use Rattle.pvs_types.specs.Forms.{body, up, is_among}
use Rattle.pvs_typing.specs.declared.fault.TypeFault.{TypeFault}
use Rattle.pvs_typing.specs.declared.tasks.Above.{Above}
use Rattle.pvs_typing.specs.Growth.{all_at}
use Rattle.pvs_typing.specs.Answers.{IsRefusal}
use Rattle.pvs_typing.specs.State.{State, IsTypeOf, AreTypesOf, Grows}

-- the body of a defined name, or the supertype of a predicate subtype
abbrev pub next_above : Lookups → Tree → Result (Option Tree) Code
next_above s (Name OfType r) = body s r
next_above s (Bind Subtype a p) = Ok (Some a)
next_above s t = Ok None

-- whether the type `a` is `b` or above it
abbrev pub is_above : Lookups → Tree → Tree → Result Bool Code
is_above s b a = up s b >>= (λ types. Ok (is_among a types))

-- the numbers are the types above a type
pub record IsListed (k : State) (theory : ℕ) (x : Above) : Type 0 where
  pub listed : up (k.lookups theory) (tree_at k.stored x.of) ≡ Ok (all_at k.stored x.types.items)
  pub of : IsTypeOf k theory x.of
  pub known : AreTypesOf k theory x.types.items

-- the types above a type, from one state to the next
pub record Lists (k m : State) (theory of : ℕ) (r : Result Above TypeFault) : Type 0 where
  pub ok : IfOk r (IsListed m theory)
  pub refused : IfErr r (IsRefusal (up (k.lookups theory) (tree_at k.stored of)))
  pub kept : Grows k m theory
