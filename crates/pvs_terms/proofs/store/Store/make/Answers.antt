use Rattle.std.proofs.Common.{rules, ◌∙◌, sym, subst, refl}
use Rattle.pvs_terms.specs.Stored.{Stands, node_tree}
use Rattle.pvs_terms.specs.code.StoreView.{stored}
use Rattle.pvs_terms.specs.code.Measures.{IsSmall}
use Rattle.pvs_terms.proofs.StoreLaws.{pushed_is, IsPushed, found_stands, nodes_differ}
use Rattle.pvs_terms.proofs.store.Store.make.Goals as goal
use Rattle.pvs_terms.proofs.store.Store.make.Goals.{After-new, After-new-2}

found : (c : After-new) → Stands c.args.self.now (node_tree c.args.self.now c.args.node) c.new.result
found c = subst (Stands c.args.self.now (node_tree c.args.self.now c.args.node)) (sym c.new.ensures) (found_stands c.in-Some.at c.args.node c.self.invariant c.self.view_is c.in-Some.ensures.some)

pub returns-in-Some-clause-ok : goal.returns-in-Some-clause-ok
returns-in-Some-clause-ok c = found c

pub returns-in-Some-clause-only : goal.returns-in-Some-clause-only
returns-in-Some-clause-only c j h e = nodes_differ j c.new.result c.self.invariant c.self.view_is h (found c).node (e ∙ sym (found c).tree)

made : (c : After-new-2) → IsPushed c.args.self.now (stored c.self.inside.names c.push.new.self c.self.inside.refs) c.args.node c.self.inside.names c.push.new.self c.self.inside.refs c.new-2.result
made c =
    let small : IsSmall c.measure-measure.result = search rules in
    pushed_is (c.args.node, c.measure-measure.result) c.self.invariant c.self.view_is c.in_ok-at.ensures.ok c.requires.parts c.in_default.ensures.none c.requires.sorted c.measure-measure.ensures small (c.new-2.ensures ∙ c.in_ok-at.ensures.number)

pub invariant_of-self-2 : goal.invariant_of-self-2
invariant_of-self-2 c = (made c).sound

pub returns-clause-ok : goal.returns-clause-ok
returns-clause-ok c = (made c).stands

pub returns-clause-only : goal.returns-clause-only
returns-clause-only c j h e =
    let m = made c in
    nodes_differ j c.new-2.result m.sound refl h m.stands.node (e ∙ sym m.stands.tree)

pub returns-clause-kept : goal.returns-clause-kept
returns-clause-kept c = (made c).extends
