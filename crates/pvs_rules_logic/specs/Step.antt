-- A step by a rule of logic: its premises, or why it has none.
use Rattle.std.specs.Prelude.{List, Result}
use Rattle.pvs_base.specs.declared.code.Code.{Code}
use Rattle.pvs_sequent.specs.Sequents.{Sequent}
use Rattle.pvs_sequent.specs.Premises.{finished}
use Rattle.pvs_rules_logic.specs.Rules.{Rule}
use Rattle.pvs_rules_logic.specs.Rows.{row}

abbrev pub step : Sequent → Rule → Result (List Sequent) Code
step q r = finished q (row q r)
