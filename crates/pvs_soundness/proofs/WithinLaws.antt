-- Look-ups agree with what is left of them in a set, on that set.
use Rattle.std.proofs.Common.{◌≡◌, Bool, true, false, ◌&&◌, cond, Option, Some, None, refl, ap, sym}
use Rattle.pvs_terms.specs.Tree.{Tree, Ref}
use Rattle.pvs_sig.specs.Lookups.{Lookups, IsOrdered}
use Rattle.pvs_soundness.specs.Vocabulary.{Vocabulary}
use Rattle.pvs_soundness.specs.Local.{AgreesWith}
use Rattle.pvs_soundness.specs.Within.{lookups_within}

-- what is found in the set is found
pub found_within : (b : Bool) (o : Option Tree) (t : Tree) → cond b o None ≡ Some t → (b ≡ true) × (o ≡ Some t)
found_within true o t h = (refl, h)
found_within false o t h = cc

pub within_agrees : (V : Vocabulary) (s : Lookups) → AgreesWith V s (lookups_within V.has_reference s)
within_agrees V s = record {
  types = λ r h. ap (λ b. cond b (s.type_of r) None) (sym h);
  bodies = λ r h. ap (λ b. cond b (s.body_of r) None) (sym h);
  names = λ r h. ap (λ b. b && s.is_type r) (sym h);
  nonempty = λ r h. ap (λ b. b && s.is_nonempty r) (sym h);
}

pub within_ordered : (p : Ref → Bool) (s : Lookups) → IsOrdered s → IsOrdered (lookups_within p s)
within_ordered p s ordered r t h = ordered r t (found_within (p r) (s.body_of r) t h).1
