use Rattle.std.proofs.Common.{◌≡◌, List, [], ◌∷◌, ◌++◌, reverse, ap, ◌∙◌}
use Rattle.std.specs.Prelude.{Option, Some, None, IfSome, option_to_list}
use Rattle.std.proofs.lemmas.List.{reverse-append}
use Rattle.pvs_free_variables.specs.declared.task.Task.{Task}
use Rattle.pvs_free_variables.proofs.task.Tasks.pop.Goals as goal

last_first : (old new : List Task) (r : Option Task) → old ≡ new ++ option_to_list r → IfSome r (λ t. reverse old ≡ t ∷ reverse new)
last_first old new None e = tt
last_first old new (Some t) e = ap reverse e ∙ reverse-append new (t ∷ [])

pub returns-clause-some : goal.returns-clause-some
returns-clause-some c = last_first c.args.self.now.stack.items c.pop.new.self.items c.pop.result c.pop.ensures.items
