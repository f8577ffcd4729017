use Rattle.std.proofs.Common.{◌∙◌, sym, ap, eq-eqb}
use Rattle.std.proofs.lemmas.Bool.{eqb-true}
use Rattle.pvs_terms.proofs.TreeLaws.{tree_eq-decided, tree_eq_equal}
use Rattle.pvs_terms.specs.Stored.{tree_at}
use Rattle.pvs_terms.proofs.StoreLaws.{nodes_differ}
use Rattle.pvs_terms.proofs.store.Store.same.Goals as goal

pub returns-clause-value : goal.returns-clause-value
returns-clause-value c =
    let e = c.eq-equal.ensures in
    tree_eq-decided c.eq-equal.result (tree_at c.args.self.now c.args.a) (tree_at c.args.self.now c.args.b)
    (λ h. ap (tree_at c.args.self.now) (eqb-true c.args.a c.args.b (sym e ∙ h)))
    (λ h. e ∙ eq-eqb c.args.a c.args.b (nodes_differ c.args.a c.args.b c.self.invariant c.self.view_is c.requires.first c.requires.second h))

pub returns-clause-equal : goal.returns-clause-equal
returns-clause-equal c = tree_eq_equal c.eq-equal.result (tree_at c.args.self.now c.args.a) (tree_at c.args.self.now c.args.b) (returns-clause-value c)
