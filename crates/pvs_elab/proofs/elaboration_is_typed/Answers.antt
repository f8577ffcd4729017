use Rattle.pvs_elab.proofs.elaboration_is_typed.Goals as goal
use Rattle.pvs_elab.proofs.ElabLaws.{elab_lawful}
use Rattle.pvs_elab.proofs.FinishedLaws.{inferred_typed, checked_typed, formed_typed, inferred_fault, checked_fault, formed_fault}
use Rattle.pvs_elab.proofs.NameLaws.{type_found, constant_found}
use Rattle.pvs_elab.proofs.SurfaceLaws.{by_forms}
use Rattle.pvs_elab.proofs.DeclarationLaws.{declaration_typed, formula_typed, declared_is, declared_fault}

pub returns : goal.returns
returns c = record {
  parts = λ s names e. elab_lawful s names e;
  answers = λ s names e h. (inferred_typed s names e h, checked_typed s names e h, formed_typed s names e h);
  faults = λ s names e h f. (inferred_fault s names e h f, checked_fault s names e h f, formed_fault s names e h f);
  declarations = λ s names text d. (declaration_typed s names text d, declared_is s names text d, declared_fault s names text d);
  formulas = λ s names e. formula_typed s names e;
  names = λ d s i development over x r. (type_found d s i development over x r, constant_found d s i development over x r);
  forms = by_forms;
}
