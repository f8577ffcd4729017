-- A store that grows leaves sequents standing for what they stood for.
use Rattle.std.proofs.Common.{◌≡◌, ◌∙◌, refl, ap, ap₂, ℕ, List, [], ◌∷◌}
use Rattle.pvs_terms.specs.Tree.{Tree}
use Rattle.pvs_terms.specs.Stored.{Stored, AreNodes, Extends}
use Rattle.pvs_terms.proofs.StoredLaws.{nodes_extend}
use Rattle.pvs_sequent.specs.Sequents.{Sequent}
use Rattle.pvs_sequent.specs.Numbered.{Numbered}
use Rattle.pvs_sequent.specs.Numbers.{all_at, sequent_at, sequents_at, IsSequent, AreSequents}

pub all_at-extends : (s t : Stored) (ids : List ℕ) → Extends s t → AreNodes s ids → all_at t ids ≡ all_at s ids
all_at-extends s t [] x h = refl
all_at-extends s t (i ∷ ids) x h = ap₂ (λ (a : Tree) (ts : List Tree). a ∷ ts) (x.trees i h.0) (all_at-extends s t ids x h.1)

pub sequent_extends : (s t : Stored) (q : Numbered) → Extends s t → IsSequent s q → IsSequent t q
sequent_extends s t q x h = record {
  variables = nodes_extend s t q.variables x h.variables;
  antecedents = nodes_extend s t q.antecedents x h.antecedents;
  consequents = nodes_extend s t q.consequents x h.consequents;
}

pub sequent_at-extends : (s t : Stored) (q : Numbered) → Extends s t → IsSequent s q → sequent_at t q ≡ sequent_at s q
sequent_at-extends s t q x h =
    ap (λ (ts : List Tree). record { variables = ts; antecedents = all_at t q.antecedents; consequents = all_at t q.consequents }) (all_at-extends s t q.variables x h.variables)
    ∙ ap₂ (λ (ts us : List Tree). record { variables = all_at s q.variables; antecedents = ts; consequents = us }) (all_at-extends s t q.antecedents x h.antecedents) (all_at-extends s t q.consequents x h.consequents)

pub sequents_extend : (s t : Stored) (qs : List Numbered) → Extends s t → AreSequents s qs → AreSequents t qs
sequents_extend s t [] x h = tt
sequents_extend s t (q ∷ qs) x h = (sequent_extends s t q x h.0, sequents_extend s t qs x h.1)

pub sequents_at-extends : (s t : Stored) (qs : List Numbered) → Extends s t → AreSequents s qs → sequents_at t qs ≡ sequents_at s qs
sequents_at-extends s t [] x h = refl
sequents_at-extends s t (q ∷ qs) x h = ap₂ (λ (p : Sequent) (ps : List Sequent). p ∷ ps) (sequent_at-extends s t q x h.0) (sequents_at-extends s t qs x h.1)
