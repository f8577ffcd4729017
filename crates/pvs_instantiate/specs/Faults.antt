-- The fault of an instance whose replacement is refused.
use Rattle.pvs_subst.specs.declared.fault.SubstFault.{SubstFault}
use Rattle.pvs_subst.specs.declared.fault.SubstFault.TheVariants as made
use Rattle.pvs_instantiate.specs.declared.fault.InstFault.{InstFault}
use Rattle.pvs_instantiate.specs.declared.fault.InstFault.TheVariants.{TooLarge, Memory}

abbrev pub fault_of : SubstFault → InstFault
fault_of made.TooLarge = TooLarge
fault_of made.Memory = Memory
