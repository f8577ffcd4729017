use Rattle.std.proofs.Common.{is_ok, sym, subst}
use Rattle.pvs_terms.specs.declared.shape.Sort.TheVariants.{OfType, OfTerm}
use Rattle.pvs_printer_tests.specs.Known.{AllOf}
use Rattle.pvs_printer_tests.proofs.TreeLaws.{all_of_kept, all_of-after}
use Rattle.pvs_printer_tests.proofs.trees.Trees.plain_instance.Goals as goal

pub invariant_of-self : goal.invariant_of-self
invariant_of-self c =
    let me = c.args.self.now in
    let k = c.plain_instance.ensures.kept in
    let u = c.plain_instance.new.instances.store in
    record {
      named = k.names me.theory me.named;
      types_known = all_of_kept me.instances.store u OfType me.types.items k me.types_known;
      terms_known = all_of_kept me.instances.store u OfTerm me.terms.items k me.terms_known;
    }

pub invariant_of-self-2 : goal.invariant_of-self-2
invariant_of-self-2 c =
    let me = c.args.self.now in
    let k = c.plain_instance.ensures.kept in
    let u = c.plain_instance.new.instances.store in
    record {
      named = k.names me.theory me.named;
      types_known = all_of_kept me.instances.store u OfType me.types.items k me.types_known;
      terms_known = subst (AllOf u OfTerm) (sym c.push.ensures.items) (all_of-after u OfTerm me.terms.items c.in_ok-term.term (is_ok c.push.result) (all_of_kept me.instances.store u OfTerm me.terms.items k me.terms_known) c.in_ok-term.ensures.ok);
    }
