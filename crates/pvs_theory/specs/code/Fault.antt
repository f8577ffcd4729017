-- What a call answers beside what a definition gives: the same, unless memory ran out.
use Rattle.std.specs.Prelude.{◌≡◌, Result, Ok, Err}
use Rattle.pvs_base.specs.declared.code.Fault.{Fault}
use Rattle.pvs_theory.specs.declared.fault.ElabFault.{ElabFault}
use Rattle.pvs_theory.specs.declared.fault.ElabFault.TheVariants as elab_fault

-- a value whose numbers are of a store, and which stands there for what a definition gives
pub record Elaborated {X Y : Type 0} (IsOf : X → Type 0) (view : X → Y) (r : Result Y Fault) (x : X) : Type 0 where
  pub nodes : IsOf x
  pub is : r ≡ Ok (view x)

abbrev pub FailsElab : {Y : Type 0} → ElabFault → Result Y Fault → Type 0
FailsElab elab_fault.Memory r = Unit {0}
FailsElab (elab_fault.At f) r = r ≡ Err f

-- what a definition gives, seen by view, or the first fault
abbrev pub GivesElab : {X Y : Type 0} → (X → Type 0) → (X → Y) → Result X ElabFault → Result Y Fault → Type 0
GivesElab IsOf view (Ok x) r = Elaborated IsOf view r x
GivesElab IsOf view (Err e) r = FailsElab e r
