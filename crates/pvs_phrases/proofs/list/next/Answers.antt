use Rattle.std.proofs.Common.{sym, ◌∙◌, ap, ◌-◌}
use Rattle.pvs_phrases.proofs.ListLaws.{none_all, none_next, some_next, drop_left}
use Rattle.pvs_phrases.proofs.list.next.Goals as goal

pub returns-in-Some : goal.returns-in-Some
returns-in-Some g c = record {
  is = some_next c.args.items.now c.args.from c.in-Some.value.now (sym c.in-Some.ensures.value);
  within = c.in-Some.ensures.within;
  left = ap (λ n. n - c.args.from) c.len-len.ensures ∙ drop_left c.args.items.now c.args.from;
}

pub returns-in-None : goal.returns-in-None
returns-in-None g c = (none_next c.args.items.now c.args.from (sym c.in-None.ensures.value), none_all c.args.items.now c.args.from (sym c.in-None.ensures.value))
