use Rattle.std.proofs.Common.{◌≡◌, take, map}
use Rattle.pvs_parser.specs.Units.{type_decl}
use Rattle.pvs_parser.proofs.declarations.type_decls.Given as goal

abbrev pub invariant-loop-name : goal.invariant-loop-name
invariant-loop-name l = l.found ≡ map (type_decl l.nonempty) (take l.name-index l.names)
