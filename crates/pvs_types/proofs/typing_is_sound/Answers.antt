use Rattle.std.proofs.Common.{refl}
use Rattle.std.proofs.lemmas.Result.{IfOk-weaker, IfOk-at_ok}
use Rattle.pvs_sem.specs.Satisfies.{Satisfies, Above}
use Rattle.pvs_types.specs.Forms.{head, up, most}
use Rattle.pvs_types.specs.Coerce.{coerce}
use Rattle.pvs_types.specs.Typing.{infer, check, well_formed}
use Rattle.pvs_types.specs.Soundness.{IsValued}
use Rattle.pvs_types.specs.Laws.{IsTrueAbove}
use Rattle.pvs_types.proofs.OutcomeLaws.{provides_weaker}
use Rattle.pvs_types.proofs.Satisfaction.{satisfies_is, above_is, above_self}
use Rattle.pvs_types.proofs.FormsSound.{head_sound, up_sound, most_sound, nonempty_sound, HasMember}
use Rattle.pvs_types.proofs.CoerceSound.{coerce_sound}
use Rattle.pvs_types.proofs.TypingSound.{typing_sound}
use Rattle.pvs_types.proofs.typing_is_sound.Goals as goal

pub returns : goal.returns
returns c = record {
  infer = λ m s fits g e sat t. provides_weaker (IsTrueAbove m g e) (IsValued m s) _ _ (infer s g t)
      ((typing_sound m s fits (Above m g e) (above_is m g e sat) t).infer g) (λ a h. (h.term, h.in_each e (above_self m g e)));
  check = λ m s fits g e sat t a. provides_weaker (IsTrueAbove m g e) (IsValued m s) _ _ (check s g t a)
      ((typing_sound m s fits (Above m g e) (above_is m g e sat) t).check g a) (λ _ h. (h.term, h.in_each e (above_self m g e)));
  coerce = λ m s fits g e sat t b a k. provides_weaker (IsTrueAbove m g e) (IsValued m s) _ _ (coerce s g t b a)
      (coerce_sound m s fits (Above m g e) (above_is m g e sat) g t b a k) (λ _ h. h e (above_self m g e));
  well_formed = λ m s fits g e sat a. provides_weaker (IsTrueAbove m g e) (IsValued m s) _ _ (well_formed s g a)
      ((typing_sound m s fits (Above m g e) (above_is m g e sat) a).well_formed g) (λ _ h. h e (above_self m g e));
  everywhere = λ m s fits t. typing_sound m s fits (Satisfies m) (satisfies_is m) t;
  above = λ m s fits base at sat t. typing_sound m s fits (Above m base at) (above_is m base at sat) t;
  forms = λ m s fits b e v q. (
    IfOk-weaker (head s b) _ _ (λ a w. w e v q) (head_sound m s fits b),
    IfOk-weaker (up s b) _ _ (λ us w a h. w a h e v q) (up_sound m s fits b),
    IfOk-weaker (most s b) _ _ (λ a w. w e v q) (most_sound m s fits b),
  );
  nonempty = λ m s fits a e h. IfOk-at_ok (HasMember m s fits a) h (nonempty_sound m s fits a) refl e;
}
