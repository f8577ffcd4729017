use Rattle.pvs_printer.proofs.tasks.push.Goals as goal

pub returns : goal.returns
returns c = λ s ts h k. record { tasks = c.args.tasks.now; pushed = c.in_ok-push_all.ensures; within = h; stand = k }
