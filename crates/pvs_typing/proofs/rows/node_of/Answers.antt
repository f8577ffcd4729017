use Rattle.pvs_typing.proofs.NodeLaws.{known_parts_at}
use Rattle.pvs_typing.proofs.rows.node_of.Goals as goal

pub returns-clause-parts : goal.returns-clause-parts
returns-clause-parts g c =
    let e = c.store.ensures in
    let v = c.view.ensures in
    known_parts_at (g.T.Theories.state c.args.theories.now).stored ((g.T.Theories.state c.args.theories.now).declares c.args.theory) c.args.id c.view.result c.requires.node
    (rw e at v.tree) (rw e at v.parts) c.requires.names (rw e at v.sorted)
