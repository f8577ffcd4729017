use Rattle.std.proofs.Common.{◌∙◌, subst, sym}
use Rattle.pvs_terms.specs.Stored.{IsName}
use Rattle.pvs_printer_tests.proofs.TheoryLaws.{names_later}
use Rattle.pvs_printer_tests.proofs.theory.add_theory.Goals as goal

pub stand-requires-clause-names : goal.stand-requires-clause-names
stand-requires-clause-names c =
    let n = c.in_ok-names.names in
    names_later c.make_names.new.instances.store c.make_trees.new.instances.store n.theory n.formal n.constant c.in_ok-boolean.ensures.kept c.in_ok-names.ensures.names

pub stand-requires-clause-none : goal.stand-requires-clause-none
stand-requires-clause-none c = c.in_ok-boolean.ensures.theories ∙ c.in_ok-names.ensures.theories ∙ c.requires
