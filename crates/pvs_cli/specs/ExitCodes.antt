-- The exit codes of the program.
use Rattle.std.specs.Prelude.{ℕ}
use Rattle.pvs_cli.specs.declared.status.Status.{Status}
use Rattle.pvs_cli.specs.declared.status.Status.TheVariants as status

-- the code with which the program exits after a run that ended so
abbrev pub exit_code : Status → ℕ
exit_code status.Clean = 0
exit_code status.Unfinished = 1
exit_code status.BadWords = 2
exit_code status.InputFault = 3
exit_code status.OutputFault = 4
exit_code status.BadStream = 5
exit_code status.TooMuchInput = 6
exit_code status.Memory = 7
