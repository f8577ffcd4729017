use Rattle.std.proofs.Common.{◌∙◌, sym, eq-eqb}
use Rattle.std.proofs.lemmas.Bool.{eqb-true}
use Rattle.pvs_typing.proofs.NodeLaws.{same_decided}
use Rattle.pvs_elaboration.proofs.join.is_same.Goals as goal

pub returns : goal.returns
returns g c =
    let e = c.store.ensures in
    same_decided (g.S.Scope.known c.args.scope.now).stored c.eq.result c.args.first c.args.second
    (λ h. eqb-true c.args.first c.args.second (sym c.eq.ensures ∙ h)) (λ h. c.eq.ensures ∙ eq-eqb c.args.first c.args.second h)
    (rw e at (c.one_node_per_tree.ensures c.args.first c.args.second (rw e c.requires.first.node) (rw e c.requires.second.node)))
