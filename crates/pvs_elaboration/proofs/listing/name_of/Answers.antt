use Rattle.std.proofs.Common.{sym, ◌∙◌, ap, arith}
use Rattle.std.specs.Borrow.{Bor}
use Rattle.pvs_terms.specs.Tree.{Text}
use Rattle.pvs_elaboration.proofs.ListingLaws.{word_listed}
use Rattle.pvs_elaboration.proofs.listing.name_of.Goals as goal

pub returns : goal.returns
returns c = λ t h. let a = c.index.ensures in word_listed c.args.listing.now t c.args.number c.index.result.now h (omega (arith, c.if-number-len.false, c.len.ensures)) ∙ ap (λ (y : Bor Text). y.now) (sym c.index.ensures)
