-- Reading units from left to right. Where the tokens do not go on as a unit, or nest too deep, reading stops.
use Rattle.std.specs.Prelude.{ℕ, zero, suc, ◌+◌, Bool, true, false, bytes_eq, if◌then◌else◌, List, [], ◌∷◌, ◌++◌, length, map, Option, Some, None, Ok, Err}
use Rattle.pvs_parser.specs.declared.failure.Reason.TheVariants as reason
use Rattle.pvs_parser.specs.declared.nesting.Nesting.{Nesting}
use Rattle.pvs_parser.specs.declared.terminal.Terminal.{Terminal}
use Rattle.pvs_parser.specs.declared.terminal.TerminalKind.{TerminalKind}
use Rattle.pvs_parser.specs.declared.terminal.TerminalKind.TheVariants as kind
use Rattle.pvs_syntax.specs.declared.word.Word.{Word}
use Rattle.pvs_syntax.specs.declared.expression.Actual.{Actual}
use Rattle.pvs_syntax.specs.declared.expression.Binding.{Binding}
use Rattle.pvs_syntax.specs.declared.expression.Expr.{Expr}
use Rattle.pvs_syntax.specs.declared.expression.InstExpr.{InstExpr}
use Rattle.pvs_syntax.specs.declared.expression.TypeExpr.{TypeExpr}
use Rattle.pvs_syntax.specs.declared.unit.Decl.{Decl}
use Rattle.pvs_syntax.specs.declared.unit.Decl.TheVariants as decl
use Rattle.pvs_syntax.specs.declared.unit.Formal.{Formal}
use Rattle.pvs_syntax.specs.declared.unit.FormulaWord.{FormulaWord}
use Rattle.pvs_syntax.specs.declared.unit.FormulaWord.TheVariants as formula_word
use Rattle.pvs_syntax.specs.declared.unit.Item.{Item}
use Rattle.pvs_syntax.specs.declared.unit.Item.TheVariants as item
use Rattle.pvs_syntax.specs.declared.unit.Proof.{Proof}
use Rattle.pvs_syntax.specs.declared.unit.Theory.{Theory}
use Rattle.pvs_syntax.specs.declared.unit.Unit as tree
use Rattle.pvs_parser.specs.Terminals.{is_id}
use Rattle.pvs_parser.specs.Language.{Limit, Parameter, Variable, Tokens, instance, outermost, in_frame}
use Rattle.pvs_parser.specs.Units.{type_formal, const_formal, type_decl, var_decl, const_decl, formula_of}
use Rattle.pvs_syntax.specs.Words.{spelling}
use Rattle.pvs_parser.specs.code.Descent.{Answer, either, Read, stop, too_deep, after, expect, id, is_below, enter, Readers, nested_expr, end_of_list, list_from, entries, framed_with, reader}
use Rattle.pvs_base.specs.Answers.{◌>>=◌}

-- how expressions and types in these tokens are read
abbrev pub whole_reader : Limit → Tokens → Readers
whole_reader limit ts = reader limit (length ts + 1)

-- a whole expression of a declaration, and the tokens after it
abbrev pub expr : Limit → Tokens → Answer (Expr × Tokens)
expr limit ts = nested_expr (whole_reader limit ts) outermost ts >>= λ p. Ok (p.0, p.2)

-- a type, where the nesting is this one
abbrev pub type : Limit → Nesting → Tokens → Answer (TypeExpr × Tokens)
type limit l ts = (whole_reader limit ts).type l ts >>= λ p. Ok (p.0, p.2)

-- ---- Names and instances.

abbrev pub name : Nesting → Tokens → Read Word
name l ts = id ts >>= λ p. Ok (p.0, l, p.1)

-- identifiers with commas between them
abbrev pub ids : Limit → Tokens → Answer (List Word × Tokens)
ids limit ts = list_from is_id name (entries limit ts) [] outermost ts >>= λ p. Ok (p.0, p.2)

-- actuals after a bracket
abbrev pub actuals : Limit → Tokens → Answer (List Actual × Tokens)
actuals limit ts = framed_with (whole_reader limit ts) Parameter kind.CloseBracket outermost ts

abbrev pub inst : Limit → Tokens → Answer (InstExpr × Tokens)
inst limit ts = id ts >>= λ p. either (after kind.OpenBracket p.1) (λ us. actuals limit us >>= λ q. Ok (instance p.0 q.0, q.1)) (Ok (instance p.0 [], p.1))

-- instances with commas between them, after those found; the number bounds the turns, and each turn takes a token
unfoldable pub instances_from : Limit → ℕ → List InstExpr → Tokens → Answer (List InstExpr × Tokens)
instances_from limit zero found ts = stop ts
instances_from limit (suc n) found ts = inst limit ts >>= λ p. either (after kind.Comma p.1) (λ us. instances_from limit n (found ++ p.0 ∷ []) us) (Ok (found ++ p.0 ∷ [], p.1))

-- after IMPORTING
abbrev pub importing : Limit → Tokens → Answer (List Decl × Tokens)
importing limit ts = instances_from limit (length ts + 1) [] ts >>= λ p. Ok (map decl.Importing p.0, p.1)

-- ---- Formal parameters.

-- after TYPE, whether the type is declared nonempty
abbrev pub plus : Tokens → Bool × Tokens
plus ts = either (after kind.Plus ts) (λ us. (true, us)) (false, ts)

-- what the names before a colon are
abbrev pub formal_of : Limit → List Word → Terminal → Tokens → TerminalKind → Answer (List Formal × Tokens)
formal_of limit ws t ts kind.Type = Ok (map (type_formal (plus ts).0) ws, (plus ts).1)
formal_of limit ws t ts kind.NonemptyType = Ok (map (type_formal true) ws, ts)
formal_of limit ws t ts _ = type limit (in_frame outermost) (t ∷ ts) >>= λ p. Ok (map (const_formal p.0) ws, p.1)

abbrev pub formal_after : Limit → List Word → Tokens → Answer (List Formal × Tokens)
formal_after limit ws [] = stop []
formal_after limit ws (t ∷ ts) = formal_of limit ws t ts t.kind

abbrev pub formal : Limit → Tokens → Answer (List Formal × Tokens)
formal limit ts = ids limit ts >>= λ p. expect kind.Colon p.1 >>= λ us. formal_after limit p.0 us

-- formals with commas between them, after those found; at most so many
unfoldable pub formals_from : Limit → ℕ → List Formal → Tokens → Answer (List Formal × Tokens)
formals_from limit zero found ts = end_of_list is_id ts
formals_from limit (suc room) found ts = formal limit ts >>= λ p. either (after kind.Comma p.1) (λ us. formals_from limit room (found ++ p.0) us) (Ok (found ++ p.0, p.1))

-- formals after a bracket
abbrev pub formals : Limit → Tokens → Answer (List Formal × Tokens)
formals limit ts = enter limit outermost ts >>= λ l. formals_from limit (entries limit ts) [] ts >>= λ p. expect kind.CloseBracket p.1 >>= λ us. Ok (p.0, us)

abbrev pub formal_part : Limit → Tokens → Answer (List Formal × Tokens)
formal_part limit ts = either (after kind.OpenBracket ts) (λ us. formals limit us) (Ok ([], ts))

-- ---- Declarations.

-- after names, a colon and VAR
abbrev pub variables : Limit → List Word → Tokens → Answer (List Decl × Tokens)
variables limit ws ts = type limit outermost ts >>= λ p. Ok (map (var_decl p.0) ws, p.1)

-- [ "=" expr ]
abbrev pub body : Limit → Tokens → Answer (Option Expr × Tokens)
body limit ts = either (after kind.Equal ts) (λ us. expr limit us >>= λ p. Ok (Some p.0, p.1)) (Ok (None, ts))

-- the type of a constant with these parameters, and its definition
abbrev pub constant : Limit → Word → List Binding → Tokens → Answer (List Decl × Tokens)
constant limit w bs ts = type limit outermost ts >>= λ p. body limit p.1 >>= λ q. Ok (decl.ConstDecl w bs p.0 q.0 ∷ [], q.1)

-- after a name and a parenthesis
abbrev pub function : Limit → Word → Tokens → Answer (List Decl × Tokens)
function limit w ts = framed_with (whole_reader limit ts) Variable kind.Close outermost ts >>= λ p. expect kind.Colon p.1 >>= λ us. constant limit w p.0 us

-- the type of names
abbrev pub constants : Limit → List Word → Tokens → Answer (List Decl × Tokens)
constants limit (w ∷ []) ts = constant limit w [] ts
constants limit ws ts = type limit outermost ts >>= λ p. Ok (map (const_decl p.0) ws, p.1)

-- after a name, a colon, TYPE and =
abbrev pub type_definition : Limit → Word → Tokens → Answer (List Decl × Tokens)
type_definition limit w ts = type limit outermost ts >>= λ p. Ok (decl.TypeDef w p.0 ∷ [], p.1)

-- types without a definition, after TYPE
abbrev pub type_decls : List Word → Tokens → Answer (List Decl × Tokens)
type_decls ws ts = Ok (map (type_decl (plus ts).0) ws, (plus ts).1)

-- after names, a colon and TYPE: one name may have a definition
abbrev pub types : Limit → List Word → Tokens → Answer (List Decl × Tokens)
types limit (w ∷ []) ts = either (after kind.Equal ts) (λ us. type_definition limit w us) (type_decls (w ∷ []) ts)
types limit ws ts = type_decls ws ts

-- after a name, a colon and the word of a formula
abbrev pub formula : Limit → Word → FormulaWord → Tokens → Answer (List Decl × Tokens)
formula limit w f ts = expr limit ts >>= λ p. Ok (decl.Formula w f p.0 ∷ [], p.1)

-- the word of a formula comes first of these tokens, after names and a colon: there is one name
abbrev pub formulas : Limit → List Word → FormulaWord → Tokens → Tokens → Answer (List Decl × Tokens)
formulas limit (w ∷ []) f ts us = formula limit w f us
formulas limit ws f ts us = stop ts

-- what no word of a type begins, after names and a colon
abbrev pub formulas_or_constants : Limit → List Word → Terminal → Tokens → Option FormulaWord → Answer (List Decl × Tokens)
formulas_or_constants limit ws t ts (Some f) = formulas limit ws f (t ∷ ts) ts
formulas_or_constants limit ws t ts None = constants limit ws (t ∷ ts)

-- what the names before a colon are
abbrev pub decls_of_kind : Limit → List Word → Terminal → Tokens → TerminalKind → Answer (List Decl × Tokens)
decls_of_kind limit ws t ts kind.Type = types limit ws ts
decls_of_kind limit ws t ts kind.NonemptyType = Ok (map (type_decl true) ws, ts)
decls_of_kind limit ws t ts kind.Var = variables limit ws ts
decls_of_kind limit ws t ts k = formulas_or_constants limit ws t ts (formula_of k)

abbrev pub decls_after_colon : Limit → List Word → Tokens → Answer (List Decl × Tokens)
decls_after_colon limit ws [] = stop []
decls_after_colon limit ws (t ∷ ts) = decls_of_kind limit ws t ts t.kind

-- names, a colon, and what they are
abbrev pub declaration_of_names : Limit → Tokens → Answer (List Decl × Tokens)
declaration_of_names limit ts = ids limit ts >>= λ p. expect kind.Colon p.1 >>= λ us. decls_after_colon limit p.0 us

-- what an identifier begins
abbrev pub declaration_from_id : Limit → Tokens → Answer (List Decl × Tokens)
declaration_from_id limit ts = id ts >>= λ p. either (after kind.Open p.1) (λ us. function limit p.0 us) (declaration_of_names limit ts)

abbrev pub declaration : Limit → Tokens → Answer (List Decl × Tokens)
declaration limit ts = either (after kind.Importing ts) (λ us. importing limit us) (declaration_from_id limit ts)

-- what the names before a colon are in an assuming part
abbrev pub assuming_decls_of_kind : Limit → List Word → Terminal → Tokens → TerminalKind → Answer (List Decl × Tokens)
assuming_decls_of_kind limit ws t ts kind.Var = variables limit ws ts
assuming_decls_of_kind limit ws t ts kind.Assumption = formulas limit ws formula_word.Assumption (t ∷ ts) ts
assuming_decls_of_kind limit ws t ts _ = stop (t ∷ ts)

abbrev pub assuming_decls_after_colon : Limit → List Word → Tokens → Answer (List Decl × Tokens)
assuming_decls_after_colon limit ws [] = stop []
assuming_decls_after_colon limit ws (t ∷ ts) = assuming_decls_of_kind limit ws t ts t.kind

abbrev pub assuming_decl : Limit → Tokens → Answer (List Decl × Tokens)
assuming_decl limit ts = either (after kind.Importing ts) (λ us. importing limit us) (ids limit ts >>= λ p. expect kind.Colon p.1 >>= λ us. assuming_decls_after_colon limit p.0 us)

-- whether a declaration comes next
abbrev pub comes_kind : TerminalKind → Bool
comes_kind kind.Importing = true
comes_kind k = is_id k

abbrev pub comes_decl : Tokens → Bool
comes_decl [] = false
comes_decl (t ∷ ts) = comes_kind t.kind

-- after a semicolon, where one comes next
abbrev pub past_semicolon : Tokens → Tokens
past_semicolon ts = either (after kind.Semicolon ts) (λ us. us) ts

-- declarations as long as one comes next, after those found; the number bounds the turns, and each turn takes a token
unfoldable pub many_from : (Tokens → Answer (List Decl × Tokens)) → ℕ → List Decl → Tokens → Answer (List Decl × Tokens)
many_from reads zero found ts = Ok (found, ts)
many_from reads (suc n) found ts = if comes_decl ts then (reads ts >>= λ p. many_from reads n (found ++ p.0) (past_semicolon p.1)) else Ok (found, ts)

abbrev pub declarations : Limit → Tokens → Answer (List Decl × Tokens)
declarations limit ts = many_from (declaration limit) (length ts) [] ts

-- ---- Theories.

-- after ASSUMING
abbrev pub assumptions : Limit → Tokens → Answer (List Decl × Tokens)
assumptions limit ts = many_from (assuming_decl limit) (length ts) [] ts >>= λ p. expect kind.EndAssuming p.1 >>= λ us. Ok (p.0, us)

abbrev pub assuming_part : Limit → Tokens → Answer (List Decl × Tokens)
assuming_part limit ts = either (after kind.Assuming ts) (λ us. assumptions limit us) (Ok ([], ts))

-- the name and the formals of a theory, up to BEGIN
abbrev pub heading : Limit → Tokens → Answer (Word × List Formal × Tokens)
heading limit ts = id ts >>= λ p. formal_part limit p.1 >>= λ q. expect kind.Colon q.1 >>= λ us. expect kind.Theory us >>= λ vs. expect kind.Begin vs >>= λ ws. Ok (p.0, q.0, ws)

-- an identifier in the place of the name of a theory after END, before these tokens; it has to be this name
abbrev pub same_name : List ℕ → Word → Word × Tokens → Answer (Word × Tokens)
same_name text w p = if bytes_eq (spelling text w) (spelling text p.0) then Ok p else Err (record { left = length p.1 + 1; reason = reason.WrongEnd })

-- END and the name of the theory
abbrev pub ending : List ℕ → Word → Tokens → Answer (Word × Tokens)
ending text w ts = expect kind.End ts >>= λ us. id us >>= λ p. same_name text w p

abbrev pub theory : Limit → List ℕ → Tokens → Answer (Theory × Tokens)
theory limit text ts = heading limit ts >>= λ p. assuming_part limit p.2 >>= λ q. declarations limit q.1 >>= λ r. ending text p.0 r.1 >>= λ e.
    Ok (record { name = p.0; formals = p.1; assuming = q.0; decls = r.0; end = e.0.end }, e.1)

-- ---- Proofs.

-- The tokens up to the parenthesis that closes the outermost one, where so many more are open. What stands after a token is handed in.
abbrev pub closing_parenthesis_of : Limit → ℕ → Terminal → Tokens → (ℕ → Answer (Word × Tokens)) → TerminalKind → Answer (Word × Tokens)
closing_parenthesis_of limit n t ts go kind.Open = if is_below limit (suc n) then go (suc n) else too_deep ts
closing_parenthesis_of limit zero t ts go kind.Close = Ok (t.word, ts)
closing_parenthesis_of limit (suc n) t ts go kind.Close = go n
closing_parenthesis_of limit n t ts go _ = go n

unfoldable pub closing_parenthesis : Limit → ℕ → Tokens → Answer (Word × Tokens)
closing_parenthesis limit n [] = stop []
closing_parenthesis limit n (t ∷ ts) = closing_parenthesis_of limit n t ts (λ m. closing_parenthesis limit m ts) t.kind

-- a script, from its parenthesis on
abbrev pub script : Limit → Tokens → Answer (Word × Word × Tokens)
script limit [] = stop []
script limit (t ∷ ts) = expect kind.Open (t ∷ ts) >>= λ us. if is_below limit 0 then (closing_parenthesis limit 0 us >>= λ p. Ok (t.word, p.0, p.1)) else too_deep us

-- the names of a theory and of a formula, after a parenthesis
abbrev pub target : Tokens → Answer (Word × Word × Tokens)
target ts = expect kind.Proof ts >>= λ us. id us >>= λ p. expect kind.Dot p.1 >>= λ vs. id vs >>= λ q. Ok (p.0, q.0, q.1)

-- after a parenthesis
abbrev pub proof : Limit → Tokens → Answer (Proof × Tokens)
proof limit ts = target ts >>= λ p. script limit p.2 >>= λ q. expect kind.Close q.2 >>= λ us.
    Ok (record { theory = p.0; formula = p.1; start = q.0.start; end = q.1.end; pos = q.0.pos }, us)

-- ---- Units.

abbrev pub one_item : Limit → List ℕ → Tokens → Answer (Item × Tokens)
one_item limit text ts = either (after kind.Open ts) (λ us. proof limit us >>= λ p. Ok (item.Proof p.0, p.1)) (theory limit text ts >>= λ p. Ok (item.Theory p.0, p.1))

-- theories and proofs up to the end of the tokens, after those found; the number bounds the turns, and each turn takes a token
unfoldable pub items_from : Limit → List ℕ → ℕ → List Item → Tokens → Answer (List Item)
items_from limit text n found [] = Ok found
items_from limit text zero found (t ∷ ts) = stop (t ∷ ts)
items_from limit text (suc n) found (t ∷ ts) = one_item limit text (t ∷ ts) >>= λ p. items_from limit text n (found ++ p.0 ∷ []) p.1

-- all the tokens of a text
abbrev pub unit : Limit → List ℕ → Tokens → Answer tree.Unit
unit limit text ts = items_from limit text (length ts) [] ts >>= λ is. Ok (record { items = is })
