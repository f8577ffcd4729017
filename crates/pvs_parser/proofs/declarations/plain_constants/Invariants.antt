use Rattle.std.proofs.Common.{◌≡◌, ◌<◌, take, Ok}
use Rattle.pvs_parser.specs.Language.{language_limit, outermost}
use Rattle.pvs_parser.specs.Units.{const_decl}
use Rattle.pvs_parser.specs.code.UnitDescent as spec
use Rattle.pvs_parser.proofs.Each.{Are, rest_of}
use Rattle.pvs_parser.proofs.declarations.plain_constants.Given as goal

abbrev pub invariant-loop-name : goal.invariant-loop-name
invariant-loop-name l = record {
  found : Are const_decl (take l.name-index l.names) (spec.type language_limit outermost l.tokens) l.found;
  rest : 0 < l.name-index → rest_of (spec.type language_limit outermost l.tokens) ≡ Ok l.rest;
}
