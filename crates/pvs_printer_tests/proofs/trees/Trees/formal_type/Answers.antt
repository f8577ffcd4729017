use Rattle.std.proofs.Common.{is_ok, sym, subst}
use Rattle.pvs_terms.specs.declared.shape.Sort.TheVariants.{OfType, OfTerm}
use Rattle.pvs_printer_tests.specs.Known.{AllOf}
use Rattle.pvs_printer_tests.proofs.TreeLaws.{all_of_kept, all_of-after}
use Rattle.pvs_printer_tests.proofs.trees.Trees.formal_type.Goals as goal

pub invariant_of-self : goal.invariant_of-self
invariant_of-self c =
    let me = c.args.self.now in
    let k = c.formal_type.ensures.kept in
    let u = c.formal_type.new.instances.store in
    record {
      named = k.names me.theory me.named;
      types_known = all_of_kept me.instances.store u OfType me.types.items k me.types_known;
      terms_known = all_of_kept me.instances.store u OfTerm me.terms.items k me.terms_known;
    }

pub invariant_of-self-2 : goal.invariant_of-self-2
invariant_of-self-2 c =
    let me = c.args.self.now in
    let k = c.formal_type.ensures.kept in
    let u = c.formal_type.new.instances.store in
    record {
      named = k.names me.theory me.named;
      terms_known = all_of_kept me.instances.store u OfTerm me.terms.items k me.terms_known;
      types_known = subst (AllOf u OfType) (sym c.push.ensures.items) (all_of-after u OfType me.types.items c.in_ok-ty.ty (is_ok c.push.result) (all_of_kept me.instances.store u OfType me.types.items k me.types_known) c.in_ok-ty.ensures.ok);
    }
