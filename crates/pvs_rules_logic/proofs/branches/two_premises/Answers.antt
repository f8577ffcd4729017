use Rattle.std.proofs.Common.{◌≡◌, ◌∙◌, refl, ap, ap₂, Bool, true, false, not, cond, List, [], ◌∷◌, ◌++◌}
use Rattle.pvs_sequent.specs.Sequents.{Sequent, is_closed}
use Rattle.pvs_sequent.specs.Premises.{still_open}
use Rattle.pvs_sequent.specs.Numbered.{Numbered}
use Rattle.pvs_sequent.specs.Numbers.{sequent_at}
use Rattle.pvs_rules_logic.specs.Branches.{with_branch}
use Rattle.pvs_rules_logic.proofs.branches.two_premises.Goals as goal

-- each of two premises is looked at alone
open_each : (p q : Sequent) → still_open (p ∷ []) ++ still_open (q ∷ []) ≡ still_open (p ∷ q ∷ [])
open_each p q = go (is_closed p)
  where
    go : (b : Bool) → cond (not b) (p ∷ []) [] ++ still_open (q ∷ []) ≡ cond (not b) (p ∷ still_open (q ∷ [])) (still_open (q ∷ []))
    go true = refl
    go false = refl

pub returns : goal.returns
returns c = record {
  nodes = c.in_ok-push_open.ensures.nodes;
  are = c.in_ok-push_open.ensures.are
      ∙ ap₂ (λ (ps : List Sequent) (r : Sequent). ps ++ still_open (r ∷ [])) c.in_ok-premises.ensures.are
      (c.in_ok-add_branch.ensures.is ∙ ap (λ (x : Numbered). with_branch c.args.store.now c.args.second.now (sequent_at c.args.store.now x)) c.in_ok-other.ensures)
      ∙ open_each (with_branch c.args.store.now c.args.first.now (sequent_at c.args.store.now c.args.sequent)) (with_branch c.args.store.now c.args.second.now (sequent_at c.args.store.now c.args.sequent));
}
