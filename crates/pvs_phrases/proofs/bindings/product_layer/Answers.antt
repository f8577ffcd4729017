use Rattle.std.proofs.Common.{drop}
use Rattle.pvs_phrases.proofs.BindingLaws.{domain_more}
use Rattle.pvs_phrases.proofs.bindings.product_layer.Goals as goal

pub returns-in-Some : goal.returns-in-Some
returns-in-Some c =
    let item = c.in-Some.ensures in
    rw c.spelling_of.ensures (domain_more c.args.text.now c.args.pos (drop c.args.from c.args.bindings.now) (drop c.in-Some.first.from c.args.bindings.now) c.in-Some.first.value.now c.in-Some.first.left item.is item.left c.requires)
