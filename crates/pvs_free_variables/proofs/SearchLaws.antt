-- The whole outcome.
use Rattle.std.proofs.Common.{◌≡◌, true, [], ◌∷◌, ap, ◌∙◌, append-nil}
use Rattle.pvs_terms.specs.Tree.{Text}
use Rattle.pvs_elab.specs.Formula.{firsts, occurrences}
use Rattle.pvs_elab.specs.Names.{Names}
use Rattle.pvs_phrases.specs.declared.part.Part.{Part}
use Rattle.pvs_phrases.specs.Parts.{phrase_at}
use Rattle.pvs_free_variables.specs.declared.task.Task.TheVariants as task
use Rattle.pvs_free_variables.specs.code.Finding.{add_all}
use Rattle.pvs_free_variables.specs.code.Tasks.{task_occurrences}
use Rattle.pvs_free_variables.proofs.FindingLaws.{all_firsts}

pub outcome_firsts : (text : Text) (ns : Names) (p : Part) → add_all [] (task_occurrences text ns [] (task.Term p ∷ [])) ≡ firsts [] (occurrences ns true [] (phrase_at text p))
outcome_firsts text ns p = ap (add_all []) (append-nil (occurrences ns true [] (phrase_at text p))) ∙ all_firsts (occurrences ns true [] (phrase_at text p))
