-- What rules by number stand for, in a store.
use Rattle.pvs_terms.specs.Stored.{Stored}
use Rattle.pvs_rules_logic.specs.declared.rule.LogicRule.{LogicRule}
use Rattle.pvs_rules_logic.specs.declared.rule.LogicRule.TheVariants as logic_rule
use Rattle.pvs_rules_logic.specs.Rules.{Rule, Axiom, If}

abbrev pub rule_at : Stored → LogicRule → Rule
rule_at s logic_rule.Axiom = Axiom
rule_at s (logic_rule.If n) = If n
