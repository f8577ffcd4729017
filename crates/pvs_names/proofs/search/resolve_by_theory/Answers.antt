use Rattle.std.proofs.Common.{sym, ◌∙◌}
use Rattle.pvs_terms.specs.Stored.{text_at}
use Rattle.pvs_names.proofs.SearchLaws.{theory_seen}
use Rattle.pvs_names.proofs.search.resolve_by_theory.Goals as goal

pub returns-then-has_theory : goal.returns-then-has_theory
returns-then-has_theory c s d g i dis h n e vis ins =
    theory_seen s d g i dis c.args.instances.now ins c.args.kind (text_at s c.args.name) c.args.theory c.find_in.result h e (sym c.if-has_theory.true ∙ c.has_theory.ensures) (c.find_in.ensures s _ dis (h, n) vis)
