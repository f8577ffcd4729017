use Rattle.std.proofs.Common.{◌∙◌, sym, ap, refl}
use Rattle.pvs_sequent.specs.Numbers.{sequent_at}
use Rattle.pvs_rules_logic.specs.Step.{step}
use Rattle.pvs_replay.specs.Logic.{effect_at}
use Rattle.pvs_replay.proofs.logic.LogicRulesRules.apply.Goals as goal

pub returns-in-Ok-clause-ok : goal.returns-in-Ok-clause-ok
returns-in-Ok-clause-ok c =
    let e = ap (step (sequent_at c.args.self.now.store.now c.args.sequent)) (sym (c.logic_rule.ensures c.args.self.now.store.now)) ∙ c.in-Ok.ensures.ok.are in
    record {
      premises = c.in-Ok.ensures.ok.nodes;
      left_open = tt;
      cited = rw c.new.ensures.items tt;
      uses = rw c.new-in-Ok.ensures.items tt;
      is = ap (effect_at c.args.step.now.pos) e ∙ rw (c.new.ensures.items, c.new-in-Ok.ensures.items) refl;
    }

pub returns-in-Err-Refused-clause-refused : goal.returns-in-Err-Refused-clause-refused
returns-in-Err-Refused-clause-refused c =
    let h = rw c.in-Err-Refused.field-0-is at c.in-Err-Refused.ensures.refused in
    let e = ap (step (sequent_at c.args.self.now.store.now c.args.sequent)) (sym (c.logic_rule.ensures c.args.self.now.store.now)) ∙ h in
    rw c.in-Err-Refused.code-is (ap (effect_at c.args.step.now.pos) e)
