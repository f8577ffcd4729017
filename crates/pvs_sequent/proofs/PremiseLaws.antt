-- Laws of lists of sequents of numbers.
use Rattle.std.proofs.Common.{◌≡◌, ◌∙◌, refl, sym, ap, false, List, [], ◌∷◌, ◌++◌}
use Rattle.std.proofs.lemmas.List.{map-append}
use Rattle.pvs_terms.specs.Stored.{Stored}
use Rattle.pvs_sequent.specs.Sequents.{Sequent, is_closed}
use Rattle.pvs_sequent.specs.Premises.{still_open}
use Rattle.pvs_sequent.specs.Numbered.{Numbered}
use Rattle.pvs_sequent.specs.Numbers.{sequent_at, sequents_at, IsSequent, AreSequents, StandForAll}

pub sequents_push : (s : Stored) (qs : List Numbered) (q : Numbered) → AreSequents s qs → IsSequent s q → AreSequents s (qs ++ q ∷ [])
sequents_push s [] q h k = (k, tt)
sequents_push s (r ∷ qs) q h k = (h.0, sequents_push s qs q h.1 k)

pub sequents_at-push : (s : Stored) (qs : List Numbered) (q : Numbered) → sequents_at s (qs ++ q ∷ []) ≡ sequents_at s qs ++ sequent_at s q ∷ []
sequents_at-push s qs q = map-append (sequent_at s) qs (q ∷ [])

-- a premise that the rule axiom does not close
pub open_alone : (q : Sequent) → is_closed q ≡ false → still_open (q ∷ []) ≡ q ∷ []
open_alone q h = rw h refl

pub pushed_open : (s : Stored) (qs rs : List Numbered) (q : Numbered) → rs ≡ qs ++ q ∷ [] → is_closed (sequent_at s q) ≡ false → AreSequents s qs → IsSequent s q
    → StandForAll s (sequents_at s qs ++ still_open (sequent_at s q ∷ [])) rs
pushed_open s qs rs q e f h k = rw e (record {
  nodes = sequents_push s qs q h k;
  are = sequents_at-push s qs q ∙ ap (λ (ps : List Sequent). sequents_at s qs ++ ps) (sym (open_alone (sequent_at s q) f));
})
