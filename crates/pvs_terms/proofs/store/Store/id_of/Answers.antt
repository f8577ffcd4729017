use Rattle.std.proofs.Common.{◌∙◌, sym, subst}
use Rattle.pvs_terms.specs.Stored.{Stands, node_tree}
use Rattle.pvs_terms.proofs.StoreLaws.{found_stands, nodes_differ}
use Rattle.pvs_terms.proofs.LookupLaws.{absent_stands}
use Rattle.pvs_terms.proofs.store.Store.id_of.Goals as goal
use Rattle.pvs_terms.proofs.store.Store.id_of.Goals.{After-new}

found : (c : After-new) → Stands c.args.self.now (node_tree c.args.self.now c.args.node) c.new.result
found c = subst (Stands c.args.self.now (node_tree c.args.self.now c.args.node)) (sym c.new.ensures) (found_stands c.in-Some.at c.args.node c.self.invariant c.self.view_is c.in-Some.ensures.some)

pub returns-in-Some-clause-some : goal.returns-in-Some-clause-some
returns-in-Some-clause-some c = found c

pub returns-in-Some-clause-only : goal.returns-in-Some-clause-only
returns-in-Some-clause-only c j h e = nodes_differ j c.new.result c.self.invariant c.self.view_is h (found c).node (e ∙ sym (found c).tree)

pub returns-in-None-clause-none : goal.returns-in-None-clause-none
returns-in-None-clause-none c j = absent_stands c.args.node c.self.invariant c.self.view_is c.requires c.in-None.ensures.none j
