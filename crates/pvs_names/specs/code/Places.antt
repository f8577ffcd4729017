-- The index of a place of a theory.
use Rattle.std.specs.Prelude.{◌≡◌, ℕ, Option, Some, None, List}
use Rattle.pvs_terms.specs.Tree.{Text, Trees, AreClosed}
use Rattle.pvs_terms.specs.Stored.{Stored, IsName, AreNodes, text_at, trees_at}
use Rattle.pvs_sig.specs.Signature.{Signature}
use Rattle.pvs_sig.specs.Development.{Development}
use Rattle.pvs_sig.specs.Instances.{instances}
use Rattle.pvs_names.specs.Resolve.{Qualifier}
use Rattle.pvs_names.specs.declared.names.Names.{Names}
use Rattle.pvs_names.specs.code.Index.{IndexesVisible, IndexesOwn}
use Rattle.pvs_names.specs.code.Visible.{IndexesInstances, HasWithinLimits}

-- what entry i of g sees, and all own entries, where the theories of d stand
pub record IndexesPlace (s : Stored) (n : Names) (d : Development) (g : Signature) (i : ℕ) : Type 0 where
  pub theory_in : IsName s n.theory
  pub theory : text_at s n.theory ≡ g.name
  pub visible : IndexesVisible s n.visible d g i
  pub own : IndexesOwn s n.own d g
  pub instances_are : IndexesInstances s n.instances (instances d g i)
  pub limits : HasWithinLimits (instances d g i)
