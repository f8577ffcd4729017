use Rattle.std.proofs.Common.{◌≡◌, ◌<◌, take, Ok}
use Rattle.pvs_parser.specs.Language.{language_limit, in_frame, outermost}
use Rattle.pvs_parser.specs.Units.{const_formal}
use Rattle.pvs_parser.specs.code.UnitDescent as spec
use Rattle.pvs_parser.proofs.Each.{Are, rest_of}
use Rattle.pvs_parser.proofs.formals.const_formals.Given as goal

abbrev pub invariant-loop-name : goal.invariant-loop-name
invariant-loop-name l = record {
  found : Are const_formal (take l.name-index l.names) (spec.type language_limit (in_frame outermost) l.tokens) l.found;
  rest : 0 < l.name-index → rest_of (spec.type language_limit (in_frame outermost) l.tokens) ≡ Ok l.rest;
}
