use Rattle.std.proofs.Common.{◌∙◌, sym, eq-eqb}
use Rattle.std.proofs.lemmas.Bool.{eqb-true}
use Rattle.pvs_typing.proofs.NodeLaws.{same_decided}
use Rattle.pvs_typing.proofs.nodes.is_same.Goals as goal

pub returns : goal.returns
returns g c =
    let e = c.store.ensures in
    same_decided (g.T.Theories.state c.args.theories.now).stored c.eq.result c.args.a c.args.b
    (λ h. eqb-true c.args.a c.args.b (sym c.eq.ensures ∙ h)) (λ h. c.eq.ensures ∙ eq-eqb c.args.a c.args.b h)
    (rw e at (c.one_node_per_tree.ensures c.args.a c.args.b (rw e c.requires.first) (rw e c.requires.second)))
