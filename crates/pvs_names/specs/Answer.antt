-- What a call answers beside what a definition gives: the same, unless memory ran out.
use Rattle.std.specs.Prelude.{◌≡◌, ℕ, Result, Ok, Err}
use Rattle.pvs_base.specs.declared.code.Code.{Code}
use Rattle.pvs_base.specs.declared.code.Code.TheVariants as code
use Rattle.pvs_terms.specs.Tree.{Ref}
use Rattle.pvs_terms.specs.Stored.{Stored, ref_at, IsRef}
use Rattle.pvs_names.specs.declared.fault.NameFault.{NameFault}
use Rattle.pvs_names.specs.declared.fault.NameFault.TheVariants.{Unknown, Ambiguous, NotImported, Memory}

abbrev pub Fails : NameFault → Result Ref Code → Type 0
Fails Unknown x = x ≡ Err code.Unknown
Fails Ambiguous x = x ≡ Err code.Ambiguous
Fails NotImported x = x ≡ Err code.NotImported
Fails Memory x = Unit {0}

-- the number stands for the reference, or the fault is that of the definition
abbrev pub Resolves : Stored → Result ℕ NameFault → Result Ref Code → Type 0
Resolves s (Ok r) x = IsRef s r × (x ≡ Ok (ref_at s r))
Resolves s (Err e) x = Fails e x
