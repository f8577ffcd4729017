use Rattle.std.proofs.Common.{◌≡◌, ◌∙◌, Bool, true, false, not, refl, ap, sym, subst}
use Rattle.std.proofs.lemmas.Result.{IfOk-weaker}
use Rattle.pvs_syntax.specs.Words.{spelling}
use Rattle.pvs_theory.specs.code.Shown.{IsPart}
use Rattle.pvs_theory.specs.Theories.{has_name, part_of, theory_names, theory_part, accepted_entries}
use Rattle.pvs_theory.proofs.theories.next_part.Goals as goal

not-not : (b : Bool) → not (not b) ≡ b
not-not true = refl
not-not false = refl

pub returns-in_ok-is_new-in-Theory-clause-part : goal.returns-in_ok-is_new-in-Theory-clause-part
returns-in_ok-is_new-in-Theory-clause-part c = λ earlier names.
    let text = c.args.text.now in
    let t = c.in-Theory.theory in
    let told = c.in_ok-is_new-in-Theory.ensures.is_new (theory_names text earlier) names in
    let again : not c.in_ok-is_new-in-Theory.is_new ≡ has_name (spelling text t.name) (theory_names text earlier) =
    ap not told ∙ not-not (has_name c.spelling_of.result.now (theory_names text earlier)) ∙ ap (λ n. has_name n (theory_names text earlier)) c.spelling_of.ensures in
    let same = ap (λ b. theory_part (spelling text t.name) (accepted_entries text b t)) again ∙ ap (part_of text earlier) (sym c.in-Theory.is) in
    let q = part_of text earlier c.args.item.now in
    IfOk-weaker c.theory_part.result _ (IsPart c.theory_part.new.store text q) (λ p h. subst (λ r. IsPart c.theory_part.new.store text r p) same h) c.theory_part.ensures.part
