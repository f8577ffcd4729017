use Rattle.std.proofs.Common.{◌≡◌, ◌-◌, ◌<◌, length, sym, subst, ◌∙◌, rules}
use Rattle.std.proofs.lemmas.List.{get_or_read}
use Rattle.pvs_printer_tests.specs.Known.{IsOf}
use Rattle.pvs_printer_tests.proofs.trees.is_among.Goals as goal

pub returns-then-eq : goal.returns-then-eq
returns-then-eq c =
    let k = c.loop-left.left - 1 in
    let e : c.index-ids-left.result ≡ c.args.id = search rules in
    let l : k < length c.args.ids.now = search rules in
    let r = get_or_read c.args.ids.now k c.index-ids-left.result l c.index-ids-left.is 0 in
    λ _. subst (IsOf c.args.store.now c.args.sort) (sym r ∙ e) (c.requires k l)
