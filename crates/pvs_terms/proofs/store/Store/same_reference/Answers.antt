use Rattle.std.proofs.Common.{◌∙◌, sym, ap, eq-eqb}
use Rattle.std.proofs.lemmas.Bool.{eqb-true}
use Rattle.pvs_terms.proofs.TreeLaws.{ref_eq-decided, ref_eq_equal}
use Rattle.pvs_terms.specs.Stored.{ref_at}
use Rattle.pvs_terms.proofs.StoreLaws.{refs_differ}
use Rattle.pvs_terms.proofs.store.Store.same_reference.Goals as goal

pub returns-clause-value : goal.returns-clause-value
returns-clause-value c =
    let e = c.eq-equal.ensures in
    ref_eq-decided c.eq-equal.result (ref_at c.args.self.now c.args.r) (ref_at c.args.self.now c.args.q)
    (λ h. ap (ref_at c.args.self.now) (eqb-true c.args.r c.args.q (sym e ∙ h)))
    (λ h. e ∙ eq-eqb c.args.r c.args.q (refs_differ c.args.r c.args.q c.self.invariant c.self.view_is c.requires.first c.requires.second h))

pub returns-clause-equal : goal.returns-clause-equal
returns-clause-equal c = ref_eq_equal c.eq-equal.result (ref_at c.args.self.now c.args.r) (ref_at c.args.self.now c.args.q) (returns-clause-value c)
