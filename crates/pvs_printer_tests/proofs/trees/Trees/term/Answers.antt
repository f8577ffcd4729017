use Rattle.std.proofs.Common.{is_ok, sym, subst, rules}
use Rattle.pvs_terms.specs.Stored.{node_tree}
use Rattle.pvs_terms.specs.declared.shape.Sort.TheVariants.{OfType, OfTerm}
use Rattle.pvs_printer_tests.specs.Known.{AllOf, IsMakeable}
use Rattle.pvs_printer_tests.proofs.TreeLaws.{all_of_kept, all_of-after, made_of}
use Rattle.pvs_printer_tests.proofs.trees.Trees.term.Goals as goal

pub invariant_of-self : goal.invariant_of-self
invariant_of-self c =
    let me = c.args.self.now in
    let k = c.make.ensures.kept.store in
    let u = c.make.new.self.store in
    record {
      named = k.names me.theory me.named;
      types_known = all_of_kept me.instances.store u OfType me.types.items k me.types_known;
      terms_known = all_of_kept me.instances.store u OfTerm me.terms.items k me.terms_known;
    }

pub invariant_of-self-2 : goal.invariant_of-self-2
invariant_of-self-2 c =
    let me = c.args.self.now in
    let k = c.make.ensures.kept.store in
    let u = c.make.new.self.store in
    let makes : IsMakeable me.instances.store OfTerm c.args.node = c.makes_term.ensures (search rules) in
    let made = made_of u (node_tree me.instances.store c.args.node) OfTerm c.in_ok-made.made c.in_ok-made.ensures.ok makes.sort in
    record {
      named = k.names me.theory me.named;
      types_known = all_of_kept me.instances.store u OfType me.types.items k me.types_known;
      terms_known = subst (AllOf u OfTerm) (sym c.push.ensures.items) (all_of-after u OfTerm me.terms.items c.in_ok-made.made (is_ok c.push.result) (all_of_kept me.instances.store u OfTerm me.terms.items k me.terms_known) made);
    }
