use Rattle.std.proofs.Common.{◌≡◌, ◌-◌, ◌<◌, length, sym, subst, ◌∙◌, rules}
use Rattle.std.proofs.lemmas.List.{get_or_read}
use Rattle.pvs_typing_tests.specs.Example.{IsOf}
use Rattle.pvs_typing_tests.proofs.ExampleLaws.{known_of}
use Rattle.pvs_typing_tests.proofs.trees.is_among.Goals as goal

pub returns-then-eq : goal.returns-then-eq
returns-then-eq c =
    let k = c.loop-left.left - 1 in
    let e : c.index-ids-left.result ≡ c.args.id = search rules in
    let l : k < length c.args.ids.now = search rules in
    let r = get_or_read c.args.ids.now k c.index-ids-left.result l c.index-ids-left.is 0 in
    λ _. known_of c.args.store.now c.args.sort c.args.id (subst (IsOf c.args.store.now c.args.sort) (sym r ∙ e) (c.requires k l))
