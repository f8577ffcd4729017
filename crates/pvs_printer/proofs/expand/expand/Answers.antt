use Rattle.std.proofs.Common.{sym, subst, OnOk}
use Rattle.pvs_printer.specs.code.Tasks.{expand}
use Rattle.pvs_printer.specs.code.TasksAt.{Pushes, task_at}
use Rattle.pvs_printer.proofs.PushLaws.{print_depth, components_depth}
use Rattle.pvs_printer.proofs.expand.expand.Goals as goal

pub push_row-requires-clause-depth : goal.push_row-requires-clause-depth
push_row-requires-clause-depth c = print_depth c.args.store.now c.args.task c.in-Print.depth c.in-Print.id c.in-Print.is c.requires.room

pub push_components-requires-clause-depth : goal.push_components-requires-clause-depth
push_components-requires-clause-depth c = components_depth c.args.store.now c.args.task c.in-Components.depth c.in-Components.k c.in-Components.id c.in-Components.is c.requires.room

pub returns-in-Operand : goal.returns-in-Operand
returns-in-Operand c =
    let s = c.args.store.now in
    subst (λ q. OnOk c.push_operand.result (Pushes s (λ names. expand names c.args.variables (task_at s names q)) c.args.stack.now.items c.push_operand.new.stack.items)) (sym c.in-Operand.is) c.push_operand.ensures

pub returns-in-Arguments : goal.returns-in-Arguments
returns-in-Arguments c =
    let s = c.args.store.now in
    subst (λ q. OnOk c.push_arguments.result (Pushes s (λ names. expand names c.args.variables (task_at s names q)) c.args.stack.now.items c.push_arguments.new.stack.items)) (sym c.in-Arguments.is) c.push_arguments.ensures

pub returns-in-Components : goal.returns-in-Components
returns-in-Components c =
    let s = c.args.store.now in
    subst (λ q. OnOk c.push_components.result (Pushes s (λ names. expand names c.args.variables (task_at s names q)) c.args.stack.now.items c.push_components.new.stack.items)) (sym c.in-Components.is) c.push_components.ensures

pub returns-in-Actuals : goal.returns-in-Actuals
returns-in-Actuals c =
    let s = c.args.store.now in
    subst (λ q. OnOk c.push_actuals.result (Pushes s (λ names. expand names c.args.variables (task_at s names q)) c.args.stack.now.items c.push_actuals.new.stack.items)) (sym c.in-Actuals.is) c.push_actuals.ensures

pub returns-in-Binding : goal.returns-in-Binding
returns-in-Binding c =
    let s = c.args.store.now in
    subst (λ q. OnOk c.push_binding.result (Pushes s (λ names. expand names c.args.variables (task_at s names q)) c.args.stack.now.items c.push_binding.new.stack.items)) (sym c.in-Binding.is) c.push_binding.ensures
