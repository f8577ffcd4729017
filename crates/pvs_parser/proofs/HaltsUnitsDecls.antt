-- Declarations: where their reading stops, the tokens before the stop can be completed.
use Rattle.std.proofs.Common.{◌≡◌, ◌+◌, false, List, [], ◌∷◌, ◌++◌, length, Option, Some, None, refl, sym, ap, subst}
use Rattle.pvs_parser.specs.declared.nesting.Nesting.{Nesting}
use Rattle.pvs_parser.specs.declared.terminal.Connective.TheVariants as connective
use Rattle.pvs_parser.specs.declared.terminal.Terminal.{Terminal}
use Rattle.pvs_parser.specs.declared.terminal.TerminalKind.{TerminalKind}
use Rattle.pvs_parser.specs.declared.terminal.TerminalKind.TheVariants as kind
use Rattle.pvs_syntax.specs.declared.word.Word.{Word}
use Rattle.pvs_syntax.specs.declared.expression.Binding.{Binding}
use Rattle.pvs_syntax.specs.declared.expression.TypeExpr.{TypeExpr}
use Rattle.pvs_syntax.specs.declared.unit.FormulaWord.{FormulaWord}
use Rattle.pvs_syntax.specs.declared.unit.FormulaWord.TheVariants as formula_word
use Rattle.pvs_parser.specs.Terminals.{Is, IsId}
use Rattle.pvs_parser.specs.Language as l
use Rattle.pvs_parser.specs.Language.{Limit, Tokens, IsBelow, HasRoom, Derives, Form, Item, type_, outermost, in_frame}
use Rattle.pvs_parser.specs.Units.{DerivesIds, DerivesTypeWord, DerivesVariables, DerivesParameters, DerivesBody, DerivesDecl, DerivesAssumed, formula_of}
use Rattle.pvs_parser.specs.code.Descent.{expect}
use Rattle.pvs_base.specs.Answers.{◌>>=◌}
use Rattle.pvs_parser.specs.code.UnitDescent.{type, ids, variables, body, constant, function, constants, types, formulas, formulas_or_constants, decls_of_kind, decls_after_colon, declaration_of_names, declaration_from_id, declaration, assuming_decls_of_kind, assuming_decls_after_colon, assuming_decl}
use Rattle.pvs_parser.proofs.Gets.{both}
use Rattle.pvs_parser.proofs.DescentSteps.{after_yields, glue, put, alone, nothing}
use Rattle.pvs_parser.proofs.DescentSound.{moved}
use Rattle.pvs_parser.proofs.Deeper.{type_sound, framed_sound}
use Rattle.pvs_parser.proofs.Ids.{ids_sound, ids_one}
use Rattle.pvs_parser.proofs.Halts.{Stops, goes, stopped, bind, then_, cases, expect_then, id_then, Wider, any, no_comma, Halts, unexpected, nested, Place, first, behind, past, upto, onto, into}
use Rattle.pvs_parser.proofs.HaltsWiden.{wider}
use Rattle.pvs_parser.proofs.HaltsBegins.{Completes, Begun, extend, tok, id_tokens, id_tree, id_type, some_list}
use Rattle.pvs_parser.proofs.HaltsWholes.{read_list_stops}
use Rattle.pvs_parser.proofs.HaltsUnitsWiden.{widen_ids, widen_parameters}
use Rattle.pvs_parser.proofs.HaltsUnitsParts.{Starts, started, whole_of, other_form, beyond, turns, expr_stops, type_stops, NamesBegun, some_names, ids_stops, importing_stops}

-- tokens that can be completed to a declaration, and to one of an assuming part
abbrev pub DeclBegun : Limit → Tokens → Type 0
DeclBegun w p = Starts (DerivesDecl w) p

abbrev pub AssumedBegun : Limit → Tokens → Type 0
AssumedBegun w p = Starts (DerivesAssumed w) p

abbrev ExprBegun : Limit → Tokens → Type 0
ExprBegun w p = Begun w (λ e. Form.Chain connective.Iff e) outermost p

abbrev TypeBegun : Limit → Tokens → Type 0
TypeBegun w p = Completes w type_ outermost p

-- ---- completions

-- names, before the colon
decl_names : {w : Limit} {p : Tokens} → NamesBegun w p → DeclBegun w p
decl_names g = started _ (extend (tok kind.Colon ∷ tok kind.Type ∷ []) g.split) (DerivesDecl.types g.all (tok kind.Type ∷ []) g.tree false (tok kind.Colon) g.derives refl (DerivesTypeWord.type (tok kind.Type) refl))

decl_colon : {w : Limit} {ns : Tokens} {ws : List Word} (u : Terminal) → DerivesIds w ns ws → Is kind.Colon u → DeclBegun w (ns ++ u ∷ [])
decl_colon {ns = ns} {ws = ws} u d colon = started _ (glue both (alone refl)) (DerivesDecl.types ns (tok kind.Type ∷ []) ws false u d colon (DerivesTypeWord.type (tok kind.Type) refl))

decl_type : {w : Limit} {ns p : Tokens} {ws : List Word} (u : Terminal) → DerivesIds w ns ws → Is kind.Colon u → TypeBegun w p → DeclBegun w (ns ++ u ∷ p)
decl_type {ns = ns} {ws = ws} u d colon c = started _ (glue both (put refl c.split)) (DerivesDecl.constants ns c.all ws c.tree c.behind u d colon c.derives)

variables_begun : {w : Limit} {ns p : Tokens} {ws : List Word} (u t : Terminal) → DerivesIds w ns ws → Is kind.Colon u → Is kind.Var t → TypeBegun w p → Starts (DerivesVariables w) (ns ++ u ∷ t ∷ p)
variables_begun {ns = ns} {ws = ws} u t d colon var c = started _ (glue both (put refl (put refl c.split))) (DerivesVariables.variables ns c.all ws c.tree c.behind u t d colon var c.derives)

body_begun : {w : Limit} {p : Tokens} (t : Terminal) → Is kind.Equal t → ExprBegun w p → Starts (DerivesBody w) (t ∷ p)
body_begun t is g = let c = g.1 in started _ (put refl c.split) (DerivesBody.body g.0 c.all c.tree c.behind t is c.derives)

-- a name and its parameters, before the colon
constant_name : {w : Limit} {ps : Tokens} {bs : List Binding} (t : Terminal) → IsId t → DerivesParameters w ps bs → DeclBegun w (t ∷ ps)
constant_name {w = w} {ps = ps} {bs = bs} t is d = started _ (put refl both) (DerivesDecl.constant ps id_tokens [] bs id_tree None outermost t (tok kind.Colon) is d refl (id_type w outermost) DerivesBody.none)

constant_type : {w : Limit} {ps p : Tokens} {bs : List Binding} (t u : Terminal) → IsId t → DerivesParameters w ps bs → Is kind.Colon u → TypeBegun w p → DeclBegun w (t ∷ (ps ++ u ∷ p))
constant_type {ps = ps} {bs = bs} t u is d colon c = started _ (put refl (glue both (put refl (extend [] c.split)))) (DerivesDecl.constant ps c.all [] bs c.tree None c.behind t u is d colon c.derives DerivesBody.none)

constant_body : {w : Limit} {ps us p : Tokens} {bs : List Binding} {a : TypeExpr} {m : Nesting} (t u : Terminal) → IsId t → DerivesParameters w ps bs → Is kind.Colon u → Derives w type_ outermost us a m → Starts (DerivesBody w) p
    → DeclBegun w (t ∷ (ps ++ u ∷ (us ++ p)))
constant_body {ps = ps} {us = us} {bs = bs} {a = a} {m = m} t u is d colon e g =
    started _ (put refl (glue both (put refl (glue both g.split)))) (DerivesDecl.constant ps us g.all bs a g.tree m t u is d colon e g.derives)

function_begun : {w : Limit} {p : Tokens} (t v : Terminal) → IsId t → Is kind.Open v → HasRoom w outermost → Completes w (l.list Item.Variable) (in_frame outermost) p → DeclBegun w (t ∷ v ∷ p)
function_begun {w = w} t v is opened lt c =
    started _ (put refl (put refl (extend (tok kind.Colon ∷ (id_tokens ++ [])) (extend (tok kind.Close ∷ []) c.split))))
    (DerivesDecl.constant (v ∷ (c.all ++ tok kind.Close ∷ [])) id_tokens [] c.tree id_tree None outermost t (tok kind.Colon) is (DerivesParameters.parameters c.all c.tree c.behind v (tok kind.Close) opened lt c.derives refl) refl (id_type w outermost) DerivesBody.none)

definition_begun : {w : Limit} {p : Tokens} (v u t c : Terminal) → IsId v → Is kind.Colon u → Is kind.Type t → Is kind.Equal c → TypeBegun w p → DeclBegun w (v ∷ u ∷ t ∷ c ∷ p)
definition_begun v u t c is colon type equal g = started _ (put refl (put refl (put refl (put refl g.split)))) (DerivesDecl.type_definition g.all g.tree g.behind v u t c is colon type equal g.derives)

formula_begun : {w : Limit} {p : Tokens} {f : FormulaWord} (v u t : Terminal) → IsId v → Is kind.Colon u → formula_of t.kind ≡ Some f → ExprBegun w p → DeclBegun w (v ∷ u ∷ t ∷ p)
formula_begun {f = f} v u t is colon word g = let c = g.1 in started _ (put refl (put refl (put refl c.split))) (DerivesDecl.formula g.0 c.all c.tree f c.behind v u t is colon word c.derives)

assumed_names : {w : Limit} {p : Tokens} → NamesBegun w p → AssumedBegun w p
assumed_names {w = w} g =
    started _ (extend (tok kind.Colon ∷ tok kind.Var ∷ id_tokens) g.split) (DerivesAssumed.variables _ _ (DerivesVariables.variables g.all id_tokens g.tree id_tree outermost (tok kind.Colon) (tok kind.Var) g.derives refl refl (id_type w outermost)))

assumed_colon : {w : Limit} {ns : Tokens} {ws : List Word} (u : Terminal) → DerivesIds w ns ws → Is kind.Colon u → AssumedBegun w (ns ++ u ∷ [])
assumed_colon {w = w} {ns = ns} {ws = ws} u d colon =
    started _ (glue both (alone refl)) (DerivesAssumed.variables _ _ (DerivesVariables.variables ns id_tokens ws id_tree outermost u (tok kind.Var) d colon refl (id_type w outermost)))

assumption_begun : {w : Limit} {p : Tokens} (v u t : Terminal) → IsId v → Is kind.Colon u → Is kind.Assumption t → ExprBegun w p → AssumedBegun w (v ∷ u ∷ t ∷ p)
assumption_begun v u t is colon word g = let c = g.1 in started _ (put refl (put refl (put refl c.split))) (DerivesAssumed.assumption_of g.0 c.all c.tree c.behind v u t is colon word c.derives)

-- ---- what stands after names and a colon

-- the place after one name is that after its terminal
one_place : {all ts ns : Tokens} (u t : Terminal) → ns ≡ t ∷ [] → Place all (λ p. ns ++ u ∷ p) ts → Place all (λ p. t ∷ u ∷ p) ts
one_place {all = all} {ts = ts} u t e place = subst (λ z. Place all (λ p. z ++ u ∷ p) ts) e place

variables_stops : (limit : Limit) (ns : Tokens) (ws : List Word) (u t : Terminal) → DerivesIds limit ns ws → Is kind.Colon u → Is kind.Var t → {all ts : Tokens} → Place all (λ p. ns ++ u ∷ t ∷ p) ts
    → Stops (variables limit ws ts) (Halts limit (λ w p. Starts (DerivesVariables w) p) all)
variables_stops limit ns ws u t d colon var {ts = ts} place = then_ (into (type_stops limit outermost ts) place (λ w wide p g. variables_begun u t (widen_ids wide ns ws d) colon var g)) (λ p. goes)

body_stops : (limit : Limit) (ts : Tokens) → Stops (body limit ts) (Halts limit (λ w p. Starts (DerivesBody w) p) ts)
body_stops limit ts = cases
    (λ us a. let c = (after_yields kind.Equal ts).holds us a in then_ (into (expr_stops limit us) (behind c.1 first) (λ w wide p g. body_begun c.0 c.2 g)) (λ p. goes))
    (λ a. goes)

constant_stops : (limit : Limit) (t u : Terminal) (w : Word) (ps : Tokens) (bs : List Binding) → IsId t → DerivesParameters limit ps bs → Is kind.Colon u → {all ts : Tokens} → Place all (λ p. t ∷ (ps ++ u ∷ p)) ts
    → Stops (constant limit w bs ts) (Halts limit DeclBegun all)
constant_stops limit t u w ps bs is d colon {ts = ts} place =
    bind (type_sound limit outermost ts) (into (type_stops limit outermost ts) place (λ v wide p g. constant_type t u is (widen_parameters wide ps bs d) colon g)) (λ p f.
    then_ (into (body_stops limit p.1) (beyond place f.1) (λ v wide q g. constant_body t u is (widen_parameters wide ps bs d) colon (wider wide f.2.1) g)) (λ q. goes))

function_stops : (limit : Limit) (t v : Terminal) (ts us rest : Tokens) → ts ≡ t ∷ us → IsId t → us ≡ v ∷ rest → Is kind.Open v → Stops (function limit t.word rest) (Halts limit DeclBegun ts)
function_stops limit t v ts us rest e is e2 opened =
    bind (framed_sound limit Item.Variable kind.Close rest)
    (read_list_stops limit (length rest + 1) Item.Variable kind.Close outermost (behind e (behind e2 first))
    (nested (moved (alone e) e2) (no_comma v refl opened) (λ w wide. constant_name t is DerivesParameters.none) (function_begun t v is opened (any 0) (some_list Item.Variable)))
    (λ lt w wide p g. function_begun t v is opened (wide.below 0 lt) g) (turns rest)) (λ p f.
    let d : DerivesParameters limit (v ∷ f.0) p.0 = subst (λ z. DerivesParameters limit (v ∷ z) p.0) (sym f.2.3) (DerivesParameters.parameters f.2.0 p.0 f.2.2 v f.2.1 opened f.2.4 f.2.5 f.2.6) in
    expect_then kind.Colon p.1 _ (unexpected (put e (put e2 f.1)) (λ w wide. constant_name t is (widen_parameters wide (v ∷ f.0) p.0 d))) (λ vs c.
    constant_stops limit t c.0 t.word (v ∷ f.0) p.0 is d c.2 (behind e (behind e2 (past f.1 (behind c.1 first))))))

many_constants_stops : (limit : Limit) (ns : Tokens) (ws : List Word) (u : Terminal) → DerivesIds limit ns ws → Is kind.Colon u → {all ts : Tokens} → Place all (λ p. ns ++ u ∷ p) ts → Stops (type limit outermost ts) (Halts limit DeclBegun all)
many_constants_stops limit ns ws u d colon {ts = ts} place = into (type_stops limit outermost ts) place (λ w wide p g. decl_type u (widen_ids wide ns ws d) colon g)

constants_stops : (limit : Limit) (ns : Tokens) (ws : List Word) (u : Terminal) → DerivesIds limit ns ws → Is kind.Colon u → {all ts : Tokens} → Place all (λ p. ns ++ u ∷ p) ts → Stops (constants limit ws ts) (Halts limit DeclBegun all)
constants_stops limit ns [] u d colon place = then_ (many_constants_stops limit ns [] u d colon place) (λ p. goes)
constants_stops limit ns (w ∷ []) u d colon place = let o = ids_one limit ns (w ∷ []) d w refl in constant_stops limit o.0 u w [] [] o.2 DerivesParameters.none colon (one_place u o.0 o.1 place)
constants_stops limit ns (w ∷ v ∷ ws) u d colon place = then_ (many_constants_stops limit ns (w ∷ v ∷ ws) u d colon place) (λ p. goes)

types_stops : (limit : Limit) (ns : Tokens) (ws : List Word) (u t : Terminal) → DerivesIds limit ns ws → Is kind.Colon u → Is kind.Type t → {all ts : Tokens} → Place all (λ p. ns ++ u ∷ p) (t ∷ ts) → Stops (types limit ws ts) (Halts limit DeclBegun all)
types_stops limit ns [] u t d colon is place = goes
types_stops limit ns (w ∷ []) u t d colon is {ts = ts} place =
    let o = ids_one limit ns (w ∷ []) d w refl in
    cases
    (λ us a. let c = (after_yields kind.Equal ts).holds us a in
    then_ (into (type_stops limit outermost us) (onto (onto (one_place u o.0 o.1 place) refl) c.1) (λ w wide p g. definition_begun o.0 u t c.0 o.2 colon is c.2 g)) (λ p. goes))
    (λ a. goes)
types_stops limit ns (w ∷ v ∷ ws) u t d colon is place = goes

-- the word of a formula stands first, after names and a colon
formulas_stops : (limit : Limit) (ns : Tokens) (ws : List Word) (u t : Terminal) (f : FormulaWord) {K : Limit → Tokens → Type 0} → DerivesIds limit ns ws → {all ts : Tokens} → Place all (λ p. ns ++ u ∷ p) (t ∷ ts) → ((w : Limit) → Wider limit w → K w (ns ++ u ∷ []))
    → ((v : Terminal) → IsId v → (w : Limit) → Wider limit w → (p : Tokens) → ExprBegun w p → K w (v ∷ u ∷ t ∷ p)) → Stops (formulas limit ws f (t ∷ ts) ts) (Halts limit K all)
formulas_stops limit ns [] u t f d place before k = stopped (unexpected (upto place nothing) before)
formulas_stops limit ns (w ∷ []) u t f d {ts = ts} place before k =
    let o = ids_one limit ns (w ∷ []) d w refl in then_ (into (expr_stops limit ts) (onto (one_place u o.0 o.1 place) refl) (λ v wide p g. k o.0 o.2 v wide p g)) (λ p. goes)
formulas_stops limit ns (w ∷ v ∷ ws) u t f d place before k = stopped (unexpected (upto place nothing) before)

stated_stops : (limit : Limit) (ns : Tokens) (ws : List Word) (u t : Terminal) (ts : Tokens) → DerivesIds limit ns ws → Is kind.Colon u → {all : Tokens} → Place all (λ p. ns ++ u ∷ p) (t ∷ ts) → (o : Option FormulaWord) → formula_of t.kind ≡ o
    → Stops (formulas_or_constants limit ws t ts o) (Halts limit DeclBegun all)
stated_stops limit ns ws u t ts d colon place (Some f) is =
    formulas_stops limit ns ws u t f d place (λ w wide. decl_colon u (widen_ids wide ns ws d) colon) (λ v id w wide p g. formula_begun v u t id colon is g)
stated_stops limit ns ws u t ts d colon place None is = constants_stops limit ns ws u d colon place

-- ---- one declaration

declared_of_stops : (limit : Limit) (ns : Tokens) (ws : List Word) (u t : Terminal) (ts : Tokens) → DerivesIds limit ns ws → Is kind.Colon u → {all : Tokens} → Place all (λ p. ns ++ u ∷ p) (t ∷ ts) → (k : TerminalKind) → t.kind ≡ k
    → Stops (decls_of_kind limit ws t ts k) (Halts limit DeclBegun all)
declared_of_stops limit ns ws u t ts d colon place kind.Type is = types_stops limit ns ws u t d colon is place
declared_of_stops limit ns ws u t ts d colon place kind.NonemptyType is = goes
declared_of_stops limit ns ws u t ts d colon place kind.Var is =
    into (variables_stops limit ns ws u t d colon is (onto place refl)) first (λ w wide p g. other_form (λ x. x) (λ ts ds d. DerivesDecl.variables ts ds d) g)
declared_of_stops limit ns ws u t ts d colon place k is = stated_stops limit ns ws u t ts d colon place (formula_of k) (ap formula_of is)

declared_stops : (limit : Limit) (ns : Tokens) (ws : List Word) (u : Terminal) (ts : Tokens) → DerivesIds limit ns ws → Is kind.Colon u → {all : Tokens} → Place all (λ p. ns ++ u ∷ p) ts → Stops (decls_after_colon limit ws ts) (Halts limit DeclBegun all)
declared_stops limit ns ws u [] d colon place = stopped (unexpected (upto place nothing) (λ w wide. decl_colon u (widen_ids wide ns ws d) colon))
declared_stops limit ns ws u (t ∷ ts) d colon place = declared_of_stops limit ns ws u t ts d colon place t.kind refl

named_stops : (limit : Limit) → IsBelow limit 0 → (ts : Tokens) → Stops (declaration_of_names limit ts) (Halts limit DeclBegun ts)
named_stops limit some ts = bind (ids_sound limit ts) (into (ids_stops limit some ts) first (λ w wide p g. decl_names g)) (λ p f.
    expect_then kind.Colon p.1 _ (unexpected f.1 (λ w wide. decl_names (whole_of _ (widen_ids wide f.0 p.0 f.2)))) (λ us c.
    declared_stops limit f.0 p.0 c.0 us f.2 c.2 (past f.1 (behind c.1 first))))

begun_stops : (limit : Limit) → IsBelow limit 0 → (ts : Tokens) → Stops (declaration_from_id limit ts) (Halts limit DeclBegun ts)
begun_stops limit some ts = id_then ts _ (unexpected nothing (λ w wide. decl_names some_names)) (λ t us e is. cases
    (λ vs a. let c = (after_yields kind.Open us).holds vs a in function_stops limit t c.0 ts us vs e is c.1 c.2)
    (λ a. named_stops limit some ts))

pub declaration_stops : (limit : Limit) → IsBelow limit 0 → (ts : Tokens) → Stops (declaration limit ts) (Halts limit DeclBegun ts)
declaration_stops limit some ts = cases
    (λ us a. let c = (after_yields kind.Importing ts).holds us a in into (importing_stops limit c.0 ts us c.1 c.2) first (λ w wide p g. other_form (λ x. x) (λ ts ds d. DerivesDecl.importing ts ds d) g))
    (λ a. begun_stops limit some ts)

-- ---- one declaration of an assuming part

assumed_of_stops : (limit : Limit) (ns : Tokens) (ws : List Word) (u t : Terminal) (ts : Tokens) → DerivesIds limit ns ws → Is kind.Colon u → {all : Tokens} → Place all (λ p. ns ++ u ∷ p) (t ∷ ts) → (k : TerminalKind) → t.kind ≡ k
    → Stops (assuming_decls_of_kind limit ws t ts k) (Halts limit AssumedBegun all)
assumed_of_stops limit ns ws u t ts d colon place kind.Var is =
    into (variables_stops limit ns ws u t d colon is (onto place refl)) first (λ w wide p g. other_form (λ x. x) (λ ts ds d. DerivesAssumed.variables ts ds d) g)
assumed_of_stops limit ns ws u t ts d colon place kind.Assumption is =
    formulas_stops limit ns ws u t formula_word.Assumption d place (λ w wide. assumed_colon u (widen_ids wide ns ws d) colon) (λ v id w wide p g. assumption_begun v u t id colon is g)
assumed_of_stops limit ns ws u t ts d colon place _ is = stopped (unexpected (upto place nothing) (λ w wide. assumed_colon u (widen_ids wide ns ws d) colon))

assumed_after_stops : (limit : Limit) (ns : Tokens) (ws : List Word) (u : Terminal) (ts : Tokens) → DerivesIds limit ns ws → Is kind.Colon u → {all : Tokens} → Place all (λ p. ns ++ u ∷ p) ts → Stops (assuming_decls_after_colon limit ws ts) (Halts limit AssumedBegun all)
assumed_after_stops limit ns ws u [] d colon place = stopped (unexpected (upto place nothing) (λ w wide. assumed_colon u (widen_ids wide ns ws d) colon))
assumed_after_stops limit ns ws u (t ∷ ts) d colon place = assumed_of_stops limit ns ws u t ts d colon place t.kind refl

assumed_named_stops : (limit : Limit) → IsBelow limit 0 → (ts : Tokens) → Stops (ids limit ts >>= λ p. expect kind.Colon p.1 >>= λ us. assuming_decls_after_colon limit p.0 us) (Halts limit AssumedBegun ts)
assumed_named_stops limit some ts = bind (ids_sound limit ts) (into (ids_stops limit some ts) first (λ w wide p g. assumed_names g)) (λ p f.
    expect_then kind.Colon p.1 _ (unexpected f.1 (λ w wide. assumed_names (whole_of _ (widen_ids wide f.0 p.0 f.2)))) (λ us c.
    assumed_after_stops limit f.0 p.0 c.0 us f.2 c.2 (past f.1 (behind c.1 first))))

pub assumed_stops : (limit : Limit) → IsBelow limit 0 → (ts : Tokens) → Stops (assuming_decl limit ts) (Halts limit AssumedBegun ts)
assumed_stops limit some ts = cases
    (λ us a. let c = (after_yields kind.Importing ts).holds us a in into (importing_stops limit c.0 ts us c.1 c.2) first (λ w wide p g. other_form (λ x. x) (λ ts ds d. DerivesAssumed.importing ts ds d) g))
    (λ a. assumed_named_stops limit some ts)
