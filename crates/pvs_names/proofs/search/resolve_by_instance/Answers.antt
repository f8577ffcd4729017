use Rattle.std.proofs.Common.{sym, ◌∙◌}
use Rattle.pvs_terms.specs.Stored.{text_at}
use Rattle.pvs_names.proofs.SearchLaws.{instance_seen}
use Rattle.pvs_names.proofs.search.resolve_by_instance.Goals as goal

pub returns-then-has_instance : goal.returns-then-has_instance
returns-then-has_instance c s d g i h dis n vis ins =
    instance_seen s d g i dis c.args.instances.now ins c.args.kind (text_at s c.args.name) c.args.first c.find_in.result h (sym c.if-has_instance.true ∙ c.has_instance.ensures) (c.find_in.ensures s _ dis (h, n) vis)
