-- The effect of the steps by rules of logic.
use Rattle.std.specs.Prelude.{List, [], None, Result, Ok, Err}
use Rattle.pvs_base.specs.declared.place.Pos.{Pos}
use Rattle.pvs_base.specs.declared.code.Fault.{Fault}
use Rattle.pvs_base.specs.declared.code.Code.{Code}
use Rattle.pvs_script.specs.declared.tree.Rule as script
use Rattle.pvs_script.specs.declared.tree.Rule.TheVariants as script_rule
use Rattle.pvs_sequent.specs.Sequents.{Sequent}
use Rattle.pvs_rules_logic.specs.Rules.{Rule, Axiom, If}
use Rattle.pvs_rules_logic.specs.Step.{step}
use Rattle.pvs_replay.specs.Effects.{Effect, Effects}

abbrev pub rule_of : script.Rule → Rule
rule_of script_rule.Axiom = Axiom
rule_of (script_rule.If n) = If n

-- a step by logic alone cites nothing and uses nothing; a code is reported at the step
abbrev pub effect_at : Pos → Result (List Sequent) Code → Result Effect Fault
effect_at at (Ok ps) = Ok (record { premises = ps; left_open = None; cited = []; uses = [] })
effect_at at (Err c) = Err (record { pos = at; code = c })

abbrev pub logic_effect : Effects
logic_effect x q = effect_at x.pos (step q (rule_of x.rule))
