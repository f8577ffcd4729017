use Rattle.std.proofs.Common.{refl, sym, ◌∙◌}
use Rattle.pvs_terms.specs.code.Refs.{given_of}
use Rattle.pvs_terms.specs.code.StoreView.{stored}
use Rattle.pvs_terms.proofs.StoreLaws.{pushed_ref_is, IsPushedRef, refs_differ, new_ref}
use Rattle.pvs_terms.proofs.store.Store.push_reference.Goals as goal

pub push-requires : goal.push-requires
push-requires c = new_ref (given_of c.args.key) c.self.invariant c.self.view_is c.requires

made : (c : goal.After-new) → IsPushedRef c.args.self.now (stored c.self.inside.names c.self.inside.nodes c.push.new.self) c.args.key.kind c.args.key.actuals.items c.self.inside.names c.self.inside.nodes c.push.new.self c.new.result
made c = pushed_ref_is (given_of c.args.key, c.args.measure) c.self.invariant c.self.view_is c.in_ok-at.ensures.ok c.requires (c.new.ensures ∙ c.in_ok-at.ensures.number)

pub invariant_of-self-2 : goal.invariant_of-self-2
invariant_of-self-2 c = (made c).sound

pub returns-clause-ok : goal.returns-clause-ok
returns-clause-ok c = (made c).stands

pub returns-clause-kept : goal.returns-clause-kept
returns-clause-kept c = (made c).extends

pub returns-clause-only : goal.returns-clause-only
returns-clause-only c q h e =
    let m = made c in
    refs_differ q c.new.result m.sound refl h m.stands.ref (e ∙ sym m.stands.is)
