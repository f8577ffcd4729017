use Rattle.pvs_sem.specs.Interpretations.{model_of}
use Rattle.pvs_soundness.proofs.MentionedLaws.{elab_stays}
use Rattle.pvs_soundness.proofs.DeclaredLaws.{declaration_sound}
use Rattle.pvs_sem.proofs.AscendingLaws.{ascending_model}
use Rattle.pvs_soundness.proofs.StandingLaws.{accepted_stands}
use Rattle.pvs_soundness.proofs.TheorySound.{entry_inside}
use Rattle.pvs_soundness.specs.Theory.{empty_theory}
use Rattle.pvs_soundness.proofs.ReadLaws.{unread_plain, all_plain}
use Rattle.pvs_soundness.proofs.theories_are_sound.Goals as goal

pub returns : goal.returns
returns c = record {
  mentioned = λ p s names ordered closed each e. elab_stays p s names ordered closed each e;
  declarations = λ p s names ordered closed each vars text d. declaration_sound p s names ordered closed each vars text d;
  theories = λ d development text name xs t h. all_plain d development text (empty_theory name) (unread_plain d name) xs t h;
  standing = accepted_stands;
  entries = λ d s development plain m sets i x e f. entry_inside d s development plain (model_of m) (ascending_model m sets) i x e f;
}
