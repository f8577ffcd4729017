use Rattle.std.proofs.Common.{◌≡◌, take, map}
use Rattle.pvs_parser.specs.Units.{type_formal}
use Rattle.pvs_parser.proofs.formals.type_formals.Given as goal

abbrev pub invariant-loop-name : goal.invariant-loop-name
invariant-loop-name l = l.found ≡ map (type_formal l.nonempty) (take l.name-index l.names)
