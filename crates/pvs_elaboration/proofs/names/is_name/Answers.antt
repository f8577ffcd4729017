use Rattle.std.proofs.Common.{sym, ◌∙◌, ap, arith}
use Rattle.std.specs.Prelude.{bytes_eq}
use Rattle.std.specs.Borrow.{Bor}
use Rattle.pvs_terms.specs.Tree.{Text}
use Rattle.pvs_elaboration.proofs.ListingLaws.{word_listed}
use Rattle.pvs_elaboration.proofs.names.is_name.Goals as goal

pub returns-clause-ok : goal.returns-clause-ok
returns-clause-ok c = λ t h.
    let l = c.args.listing.now in
    let x = c.index.result.now in
    ap (bytes_eq c.args.name.now) (word_listed l t c.args.number x h (omega (arith, c.if-number-len.false, c.len.ensures)) ∙ ap (λ (y : Bor Text). y.now) (sym c.index.ensures)) ∙ sym c.eq.ensures
