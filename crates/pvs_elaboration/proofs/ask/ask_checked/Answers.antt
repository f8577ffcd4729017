use Rattle.pvs_elaboration.specs.declared.value.Mode.TheVariants as mode
use Rattle.pvs_elaboration.specs.Known.{phrase_at}
use Rattle.pvs_elaboration.proofs.NameLaws.{name_checked}
use Rattle.pvs_elaboration.proofs.PhraseLaws.{name_of_form, checked_by_type}
use Rattle.pvs_elaboration.proofs.ask.ask_checked.Goals as goal

pub returns-in-Some : goal.returns-in-Some
returns-in-Some g c =
    let k = g.S.Scope.known in
    let a = c.args in
    let x = c.in-Name in
    let w = c.in-Some.name.now in
    λ t l i s.
    name_of_form (k a.scope.now) (k c.named_term.new.scope) t a.here.now (mode.CheckAt a.at a.want) (phrase_at t a.part) x.name x.pos w _ c.named_term.result
    (rw x.is at i) (c.in-Some.ensures t l) (name_checked (k a.scope.now) t a.here.now w x.pos a.at a.want) (c.named_term.ensures t l)

pub returns-in_default : goal.returns-in_default
returns-in_default g c = λ t l i s.
    let a = c.args in
    let d = c.in_default in
    rw c.ask_then-in_default.ensures (checked_by_type t a.here.now a.part a.at a.want a.form c.requires.want
    (record {
      name = d.not-Name;
      type_of = d.not-TypeOf;
      group = d.not-Group;
      negation = d.not-Not;
      choice = d.not-Choice;
      function = d.not-Function;
      function_of = d.not-FunctionOf;
      subtype = d.not-Subtype;
      predicate = d.not-Predicate;
      product = d.not-Product;
      other = d.not-Other;
    })
    i)
