-- The fault of a replacement whose node is refused.
use Rattle.pvs_terms.specs.declared.fault.MakeFault.{MakeFault}
use Rattle.pvs_terms.specs.declared.fault.MakeFault.TheVariants as made
use Rattle.pvs_subst.specs.declared.fault.SubstFault.{SubstFault}
use Rattle.pvs_subst.specs.declared.fault.SubstFault.TheVariants.{TooLarge, Memory}

abbrev pub fault_of : MakeFault → SubstFault
fault_of made.TooLarge = TooLarge
fault_of made.Memory = Memory
