-- What the answers by number stand for.
use Rattle.std.specs.Prelude.{◌≡◌, ℕ, Result, Ok, Err}
use Rattle.pvs_base.specs.declared.code.Code.{Code}
use Rattle.pvs_terms.specs.Tree.{Ref}
use Rattle.pvs_terms.specs.Stored.{Stored, IsRef, IsNode, ref_at, tree_at}
use Rattle.pvs_elab.specs.Names.{TypedVariable}

-- the number stands for the reference, or the code is that of the definition
abbrev pub Refers : Stored → Result ℕ Code → Result Ref Code → Type 0
Refers s (Ok r) x = IsRef s r × (x ≡ Ok (ref_at s r))
Refers s (Err c) x = x ≡ Err c

-- the numbers stand for a VAR and its type, or the code is that of the definition
abbrev pub RefersTyped : Stored → Result (ℕ × ℕ) Code → Result TypedVariable Code → Type 0
RefersTyped s (Ok v) x = IsRef s v.0 × IsNode s v.1 × (x ≡ Ok (record { reference = ref_at s v.0; ty = tree_at s v.1 }))
RefersTyped s (Err c) x = x ≡ Err c
