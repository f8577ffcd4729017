use Rattle.pvs_terms.specs.Tree.{ref_actuals}
use Rattle.pvs_terms.specs.Stored.{tree_at, ref_at, text_at}
use Rattle.pvs_subst.specs.Instance.{instantiate}
use Rattle.pvs_instantiate.proofs.SoundLaws.{kept_or_refused}
use Rattle.pvs_instantiate.proofs.parts.find_or_make.Goals as goal

pub view-node-requires : goal.view-node-requires
view-node-requires g c = (c.requires.found c.in-Some.value c.in-Some.ensures.found).0

pub returns-clause-pairs : goal.returns-clause-pairs
returns-clause-pairs g c =
    kept_or_refused c.make_and_keep.new.store (g.J.Judgements.kept c.args.cache.now) (g.J.Judgements.kept c.find.new.self) (g.J.Judgements.kept c.make_and_keep.new.cache)
    (record { stamp = c.args.stamp; part = c.args.part; item = c.args.r })
    (instantiate (tree_at c.args.store.now c.args.id) (text_at c.args.store.now c.args.theory) (ref_actuals (ref_at c.args.store.now c.args.r)))
    c.make_and_keep.result c.in_default.ensures.kept c.make_and_keep.ensures.ok c.make_and_keep.ensures.pair c.make_and_keep.ensures.pairs
