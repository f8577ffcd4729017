use Rattle.std.proofs.Common.{sym, ◌∙◌, ap, arith}
use Rattle.std.specs.Borrow.{Bor}
use Rattle.pvs_elab.specs.Desugar.{decimal}
use Rattle.pvs_phrases.specs.Numbers.{in_range}
use Rattle.pvs_terms.specs.Tree.{Text}
use Rattle.pvs_elaboration.proofs.ListingLaws.{word_listed}
use Rattle.pvs_elaboration.proofs.parts.index_of.Goals as goal

pub returns : goal.returns
returns c = λ t h.
    let l = c.args.listing.now in
    let x = c.index.result.now in
    ap (λ (y : Text). in_range (decimal 0 y)) (word_listed l t c.args.digits x h (omega (arith, c.if-digits-len.false, c.len.ensures)) ∙ ap (λ (y : Bor Text). y.now) (sym c.index.ensures)) ∙ sym c.projection_number.ensures
