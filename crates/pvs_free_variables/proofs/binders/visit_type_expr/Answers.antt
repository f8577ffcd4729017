use Rattle.std.proofs.Common.{◌∙◌, ap, sym, subst, arith}
use Rattle.pvs_elab.specs.Desugar.{domain, names, type_phrase}
use Rattle.pvs_elab.specs.Phrase.{Function}
use Rattle.pvs_phrases.specs.Parts.{bounds}
use Rattle.pvs_phrases.specs.declared.part.Part.TheVariants as part
use Rattle.pvs_free_variables.specs.declared.task.Task.TheVariants as task
use Rattle.pvs_free_variables.specs.code.Searching.{Expands}
use Rattle.pvs_free_variables.specs.code.Tasks.{next_first}
use Rattle.pvs_free_variables.proofs.ScopeLaws.{after_success, function_expands, tuple_expands, function_phrase, tuple_phrase}
use Rattle.pvs_free_variables.proofs.binders.visit_type_expr.Goals as goal

pub returns-in-FunType : goal.returns-in-FunType
returns-in-FunType c =
    let text = c.args.text.now in
    let bs = c.in-FunType.bindings in
    let pos = c.in-FunType.field-2 in
    let ts = next_first c.args.tasks.now in
    let is = ap (type_phrase text) c.in-FunType.is ∙ function_phrase text bs c.in-FunType.range pos
    ∙ ap (λ a. Function (domain pos (bounds text bs)) (names (bounds text bs)) (type_phrase text a) pos) (sym c.get.ensures) in
    after_success c.push_scope.result (λ e. subst (λ us. Expands text (task.Type (part.Type c.args.ty)) ts us) (sym e) (function_expands text _ pos ts c.get.result c.args.ty is)) c.push_scope.ensures

pub returns-in-TupleType : goal.returns-in-TupleType
returns-in-TupleType c =
    let text = c.args.text.now in
    let ts = next_first c.args.tasks.now in
    let is = ap (type_phrase text) c.in-TupleType.is ∙ tuple_phrase text c.in-TupleType.bindings c.in-TupleType.field-1 in
    after_success c.push_tuple_type.result (λ e. subst (λ us. Expands text (task.Type (part.Type c.args.ty)) ts us) (sym e) (tuple_expands text _ c.in-TupleType.field-1 ts c.args.ty (omega arith) is)) c.push_tuple_type.ensures
