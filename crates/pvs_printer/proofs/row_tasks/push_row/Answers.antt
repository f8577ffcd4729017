use Rattle.std.proofs.Common.{sym, subst, ap, ◌∙◌, [], ◌∷◌}
use Rattle.pvs_printer.specs.code.Tasks.{Write, row_tasks}
use Rattle.pvs_printer.specs.code.RowsAt.{row_at, RowIn}
use Rattle.pvs_printer.proofs.PushLaws.{row_tasks_of}
use Rattle.pvs_printer.proofs.row_tasks.push_row.Goals as goal

pub returns-in-Variable : goal.returns-in-Variable
returns-in-Variable c =
    let s = c.args.store.now in
    c.push-in-Variable.ensures s (λ names. row_tasks names c.args.variables c.args.depth (row_at s c.args.row)) (c.variable.ensures.within s, tt)
    (λ names. ap (λ p. Write p ∷ []) (c.variable.ensures.is s names) ∙ ap (λ q. row_tasks names c.args.variables c.args.depth (row_at s q)) (sym c.in-Variable.is))

pub returns-in-Quantified : goal.returns-in-Quantified
returns-in-Quantified c =
    let s = c.args.store.now in
    let w = subst (λ q. RowIn s q) c.in-Quantified.is c.requires.within in
    row_tasks_of s c.args.variables c.args.depth c.args.row _ c.push_quantified.result c.args.stack.now.items c.push_quantified.new.stack.items c.in-Quantified.is (c.push_quantified.ensures s c.args.variables w.0 w.1)

pub returns-in-Infix : goal.returns-in-Infix
returns-in-Infix c =
    let s = c.args.store.now in
    let w = subst (λ q. RowIn s q) c.in-Infix.is c.requires.within in
    row_tasks_of s c.args.variables c.args.depth c.args.row _ c.push_infix.result c.args.stack.now.items c.push_infix.new.stack.items c.in-Infix.is (c.push_infix.ensures s c.args.variables w.0 w.1)

pub returns-in-Cond : goal.returns-in-Cond
returns-in-Cond c =
    let s = c.args.store.now in
    let w = subst (λ q. RowIn s q) c.in-Cond.is c.requires.within in
    row_tasks_of s c.args.variables c.args.depth c.args.row _ c.push_conditional.result c.args.stack.now.items c.push_conditional.new.stack.items c.in-Cond.is (c.push_conditional.ensures s c.args.variables w.0 w.1 w.2)

pub returns-in-Apply : goal.returns-in-Apply
returns-in-Apply c =
    let s = c.args.store.now in
    let w = subst (λ q. RowIn s q) c.in-Apply.is c.requires.within in
    row_tasks_of s c.args.variables c.args.depth c.args.row _ c.push_application.result c.args.stack.now.items c.push_application.new.stack.items c.in-Apply.is (c.push_application.ensures s c.args.variables w.0 w.1)

pub returns-in-Tuple : goal.returns-in-Tuple
returns-in-Tuple c =
    let s = c.args.store.now in
    let w = subst (λ q. RowIn s q) c.in-Tuple.is c.requires.within in
    row_tasks_of s c.args.variables c.args.depth c.args.row _ c.push_tuple.result c.args.stack.now.items c.push_tuple.new.stack.items c.in-Tuple.is (c.push_tuple.ensures s c.args.variables w.0 w.1)

pub returns-in-TaggedTuple : goal.returns-in-TaggedTuple
returns-in-TaggedTuple c =
    let s = c.args.store.now in
    let w = subst (λ q. RowIn s q) c.in-TaggedTuple.is c.requires.within in
    row_tasks_of s c.args.variables c.args.depth c.args.row _ c.push_tagged_tuple.result c.args.stack.now.items c.push_tagged_tuple.new.stack.items c.in-TaggedTuple.is (c.push_tagged_tuple.ensures s c.args.variables w.0 w.1)

pub returns-in-Part : goal.returns-in-Part
returns-in-Part c =
    let s = c.args.store.now in
    let w = subst (λ q. RowIn s q) c.in-Part.is c.requires.within in
    row_tasks_of s c.args.variables c.args.depth c.args.row _ c.push_component.result c.args.stack.now.items c.push_component.new.stack.items c.in-Part.is (c.push_component.ensures s c.args.variables w)

pub returns-in-Rest : goal.returns-in-Rest
returns-in-Rest c =
    let s = c.args.store.now in
    let w = subst (λ q. RowIn s q) c.in-Rest.is c.requires.within in
    row_tasks_of s c.args.variables c.args.depth c.args.row _ c.push_rest.result c.args.stack.now.items c.push_rest.new.stack.items c.in-Rest.is (c.push_rest.ensures s c.args.variables w)

pub returns-in-SubType : goal.returns-in-SubType
returns-in-SubType c =
    let s = c.args.store.now in
    let w = subst (λ q. RowIn s q) c.in-SubType.is c.requires.within in
    row_tasks_of s c.args.variables c.args.depth c.args.row _ c.push_subtype.result c.args.stack.now.items c.push_subtype.new.stack.items c.in-SubType.is (c.push_subtype.ensures s c.args.variables w.0 w.1)

pub returns-in-FunType : goal.returns-in-FunType
returns-in-FunType c =
    let s = c.args.store.now in
    let w = subst (λ q. RowIn s q) c.in-FunType.is c.requires.within in
    row_tasks_of s c.args.variables c.args.depth c.args.row _ c.push_function_type.result c.args.stack.now.items c.push_function_type.new.stack.items c.in-FunType.is (c.push_function_type.ensures s c.args.variables w.0 w.1)

pub returns-in-TupleType : goal.returns-in-TupleType
returns-in-TupleType c =
    let s = c.args.store.now in
    let w = subst (λ q. RowIn s q) c.in-TupleType.is c.requires.within in
    row_tasks_of s c.args.variables c.args.depth c.args.row _ c.push_tuple_type.result c.args.stack.now.items c.push_tuple_type.new.stack.items c.in-TupleType.is (c.push_tuple_type.ensures s c.args.variables w.0 w.1)

pub returns-in-TaggedType : goal.returns-in-TaggedType
returns-in-TaggedType c =
    let s = c.args.store.now in
    let w = subst (λ q. RowIn s q) c.in-TaggedType.is c.requires.within in
    row_tasks_of s c.args.variables c.args.depth c.args.row _ c.push_tagged_type.result c.args.stack.now.items c.push_tagged_type.new.stack.items c.in-TaggedType.is (c.push_tagged_type.ensures s c.args.variables w.0 w.1)
