-- What a call answers that makes a term, at a place.
use Rattle.std.specs.Prelude.{ℕ, Result, IfOk, IfErr}
use Rattle.pvs_terms.specs.Tree.{Tree}
use Rattle.pvs_terms.specs.declared.shape.Sort.TheVariants.{OfTerm}
use Rattle.pvs_types.specs.Outcome.{within_limits}
use Rattle.pvs_typing.specs.Answers.{Gives, IsFault}
use Rattle.pvs_typing.specs.declared.fault.TypeFault.{TypeFault}
use Rattle.pvs_elaboration.specs.Known.{Known, Grows}

-- the number of this term, where it is within the limits
pub record MakesTerm (a b : Known) (t : Tree) (r : Result ℕ TypeFault) : Type 0 where
  pub ok : IfOk r (Gives b.stored b.declares OfTerm t)
  pub refused : IfErr r (IsFault (within_limits t))
  pub kept : Grows a b
