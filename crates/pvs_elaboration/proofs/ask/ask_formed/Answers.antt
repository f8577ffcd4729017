use Rattle.pvs_elaboration.proofs.ListingLaws.{failed_or_memory}
use Rattle.pvs_elaboration.proofs.PhraseLaws.{predicate_of_form, no_type_of_form}
use Rattle.pvs_elaboration.specs.Known.{phrase_at}
use Rattle.pvs_elaboration.proofs.ask.ask_formed.Goals as goal

pub returns-in-Group : goal.returns-in-Group
returns-in-Group g c = λ t l i s. rw c.ask_then-in-Group.ensures (predicate_of_form t c.args.here.now (phrase_at t c.args.part) c.args.form c.in-Group.predicate c.in-Group.start c.in-Group.at c.in-Group.is i)

pub returns-in_default : goal.returns-in_default
returns-in_default g c = λ t l i s.
    let d = c.in_default in
    failed_or_memory _ _ _ (c.fault_at-in_default.ensures t l)
    (no_type_of_form (g.S.Scope.known c.args.scope.now) t c.args.here.now (phrase_at t c.args.part) c.args.start c.args.form
    (record {
      name = d.not-Name;
      type_of = d.not-TypeOf;
      group = d.not-Group;
      function = d.not-Function;
      function_of = d.not-FunctionOf;
      subtype = d.not-Subtype;
      predicate = d.not-Predicate;
      product = d.not-Product;
      other = d.not-Other;
    })
    i s)
