use Rattle.std.proofs.Common.{◌≡◌, ℕ, Some, slice_get, sym, subst, ◌∙◌}
use Rattle.std.proofs.lemmas.Bool.{eqb-true}
use Rattle.std.specs.Map.{keys_of}
use Rattle.pvs_terms.proofs.Keyed.{entered}
use Rattle.pvs_instantiate.proofs.theories.Theories.push.Goals as goal

pub returns-clause-ok : goal.returns-clause-ok
returns-clause-ok c =
    rw (← c.self.view_is)
    (c.in_ok-insert.ensures.entries ∙ entered _ c.args.name c.args.theory (λ x h. eqb-true c.args.name x h) c.self.inside.entries.entries (subst (λ l. (i : ℕ) → slice_get (keys_of l) i ≡ Some c.args.name → ⊥) (sym c.self.view_is) c.requires))
