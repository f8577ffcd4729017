use Rattle.pvs_sem.proofs.OrderLaws.{same_sets}
use Rattle.pvs_sem.proofs.AscendingLaws.{ascending_mean, ascending_model}
use Rattle.pvs_sem.proofs.MeaningLaws.{mean-next, inside-next, mean-put_in, inside-put_in}
use Rattle.pvs_sem.proofs.ReductLaws.{mean-instantiate, inside-instantiate}
use Rattle.pvs_sem.proofs.ModelTruthLaws.{truth_is_value, true_terms_are_true, boolean_terms_are_truths}
use Rattle.pvs_sem.specs.Interpretations.{model_of}
use Rattle.pvs_sem.proofs.meaning_is_lawful.Goals as goal

pub returns : goal.returns
returns c = record {
  sets = same_sets;
  ascending = λ i h t e. ascending_mean (model_of i) (ascending_model i h) t e;
  lifting = λ m t e. (mean-next m t e, inside-next m t e);
  replacement = λ m t u e k. (mean-put_in m t u e k, inside-put_in m t u e k);
  instances = λ m th acts t e c h. (mean-instantiate m th acts c t e h, inside-instantiate m th acts c t e h);
  truths = truth_is_value;
  true_terms = true_terms_are_true;
  boolean_terms = boolean_terms_are_truths;
}
