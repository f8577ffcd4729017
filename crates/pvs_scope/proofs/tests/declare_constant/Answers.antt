use Rattle.pvs_scope.proofs.tests.declare_constant.Goals as goal

pub add_entry-requires : goal.add_entry-requires
add_entry-requires g c = (c.in_ok-name.ensures.ok.name, (c.in_ok-name.ensures.kept.store.nodes c.in_ok-ty.ty c.in_ok-ty.ensures.ok.node, tt))
