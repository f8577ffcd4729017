use Rattle.std.proofs.Common.{◌≡◌, ◌∙◌, ap, arith}
use Rattle.pvs_terms.specs.Stored.{tree_at}
use Rattle.pvs_subst.specs.Replace.{lift}
use Rattle.pvs_subst.proofs.ReplaceLaws.{lift-none}
use Rattle.pvs_subst.proofs.Kept.{stands_unchanged}
use Rattle.pvs_subst.proofs.lifting.lift.Goals as goal

pub returns-then-by-eq0-clause-ok : goal.returns-then-by-eq0-clause-ok
returns-then-by-eq0-clause-ok c =
    let none : c.args.by ≡ 0 = omega (arith, c.if-by-eq0.true) in
    stands_unchanged c.requires c.view-node.ensures.fits
    (ap (λ n. lift (tree_at c.args.store.now c.args.id) n c.args.from) none ∙ lift-none (tree_at c.args.store.now c.args.id) c.args.from)
