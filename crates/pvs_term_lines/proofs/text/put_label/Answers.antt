use Rattle.std.proofs.Common.{◌≡◌, ◌++◌, ◌∙◌, ap, subst, codes, decimal}
use Rattle.pvs_printer.specs.Text.{AddsPrefix}
use Rattle.pvs_term_lines.proofs.AddLaws.{err_holds, err_weaker, first_prefix, both_prefix}
use Rattle.pvs_term_lines.proofs.text.put_label.Goals as goal

pub returns-in_err-put_text-clause-err : goal.returns-in_err-put_text-clause-err
returns-in_err-put_text-clause-err c = err_holds _ (first_prefix c.args.out.now.items c.args.sign.now (decimal c.args.number ++ codes ": ") c.put_text.new.out.items c.in_err-put_text.ensures.err)

pub returns-in_err-put_text-2-clause-err : goal.returns-in_err-put_text-2-clause-err
returns-in_err-put_text-2-clause-err c =
    let t : c.as_bytes.result.now ≡ decimal c.args.number = c.as_bytes.ensures.value ∙ c.format.ensures.text in
    let new = c.put_text-2.new.out.items in
    err_holds _ (both_prefix c.args.out.now.items c.args.sign.now (decimal c.args.number ++ codes ": ") c.put_text.new.out.items new c.in_ok-put_text.ensures.ok
    (first_prefix c.put_text.new.out.items (decimal c.args.number) (codes ": ") new (subst (λ z. AddsPrefix c.put_text.new.out.items z new) t c.in_err-put_text-2.ensures.err)))

pub returns-clause-err : goal.returns-clause-err
returns-clause-err c =
    let t : c.as_bytes.result.now ≡ decimal c.args.number = c.as_bytes.ensures.value ∙ c.format.ensures.text in
    let mid = c.put_text.new.out.items in
    err_weaker c.put_text-3.result
    (λ p. both_prefix c.args.out.now.items c.args.sign.now (decimal c.args.number ++ codes ": ") mid c.put_text-3.new.out.items c.in_ok-put_text.ensures.ok
    (both_prefix mid (decimal c.args.number) (codes ": ") c.put_text-2.new.out.items c.put_text-3.new.out.items (c.in_ok-put_text-2.ensures.ok ∙ ap (λ z. mid ++ z) t) p))
    c.put_text-3.ensures.err
