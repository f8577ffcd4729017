-- What a step of the search does.
use Rattle.std.specs.Prelude.{◌≡◌, ◌<◌, List, ◌∷◌}
use Rattle.pvs_terms.specs.Tree.{Text}
use Rattle.pvs_elab.specs.Formula.{Occurs}
use Rattle.pvs_elab.specs.Names.{Names}
use Rattle.pvs_free_variables.specs.declared.search.Search.{Search}
use Rattle.pvs_free_variables.specs.declared.task.Task.{Task}
use Rattle.pvs_free_variables.specs.code.Finding.{add_all}
use Rattle.pvs_free_variables.specs.code.Tasks.{task_occurrences, next_first, work}

-- tasks take the place of one: the same is found in the end, with less work
pub record Expands (text : Text) (t : Task) (old new : List Task) : Type 0 where
  pub same : (ns : Names) (bound : List Text) (found : List Occurs) → add_all found (task_occurrences text ns bound new) ≡ add_all found (task_occurrences text ns bound (t ∷ old))
  pub less : work text new < work text (t ∷ old)

-- what is found in the end, where these tasks are done first
abbrev pub outcome : Names → Search → List Task → List Occurs
outcome ns s ts = add_all s.found (task_occurrences s.text.now ns s.bound ts)

-- the outcome stays, and less is left to do
pub record Steps (ns : Names) (old : Search) (t : Task) (new : Search) : Type 0 where
  pub text : new.text.now ≡ old.text.now
  pub same : outcome ns new (next_first new.tasks) ≡ outcome ns old (t ∷ next_first old.tasks)
  pub less : work old.text.now (next_first new.tasks) < work old.text.now (t ∷ next_first old.tasks)

-- what was left is found
abbrev pub Finishes : Names → Search → Search → Type 0
Finishes ns old new = new.found ≡ outcome ns old (next_first old.tasks)
