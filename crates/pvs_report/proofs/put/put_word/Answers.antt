use Rattle.std.proofs.Common.{◌∙◌, ◌++◌, ap, sym}
use Rattle.std.proofs.lemmas.Result.{on_ok_weaker}
use Rattle.pvs_report.specs.Lines.{word_text}
use Rattle.pvs_report.specs.Printed.{word_shown}
use Rattle.pvs_report.proofs.LineLaws.{incomplete_text}
use Rattle.pvs_report.proofs.put.put_word.Goals as goal

pub returns-in-IncompleteWord : goal.returns-in-IncompleteWord
returns-in-IncompleteWord c =
    on_ok_weaker c.put-in-IncompleteWord.result
    (λ added. added ∙ ap (λ xs. c.args.out.now.items ++ xs) (incomplete_text c.in-IncompleteWord.theory.now c.in-IncompleteWord.formula.now ∙ ap (λ w. word_text (word_shown w)) (sym c.in-IncompleteWord.is)))
    c.put-in-IncompleteWord.ensures
