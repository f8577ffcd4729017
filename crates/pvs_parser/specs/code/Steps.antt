-- What single steps of reading give, where the definitions of reading have them inside others.
use Rattle.std.specs.Prelude.{List, map, Ok}
use Rattle.pvs_parser.specs.declared.declarations.TheoryPart.{TheoryPart}
use Rattle.pvs_parser.specs.declared.declarations.TheoryPart.TheVariants as part
use Rattle.pvs_syntax.specs.declared.word.Word.{Word}
use Rattle.pvs_syntax.specs.declared.expression.TypeExpr.{TypeExpr}
use Rattle.pvs_syntax.specs.declared.unit.Decl.{Decl}
use Rattle.pvs_parser.specs.Language.{Limit, Tokens}
use Rattle.pvs_parser.specs.code.Descent.{Answer}
use Rattle.pvs_base.specs.Answers.{◌>>=◌}
use Rattle.pvs_parser.specs.code.UnitDescent.{declaration, assuming_decl}

-- a declaration of a part of a theory
abbrev pub declaration_in : Limit → TheoryPart → Tokens → Answer (List Decl × Tokens)
declaration_in limit part.Assuming = assuming_decl limit
declaration_in limit part.Body = declaration limit

-- an entry for each of these names, of the type that is read
abbrev pub each : {D : Type 0} → (TypeExpr → Word → D) → List Word → Answer (TypeExpr × Tokens) → Answer (List D × Tokens)
each make ws read = read >>= λ p. Ok (map (make p.0) ws, p.1)
