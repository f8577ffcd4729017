-- Declarations that are read are in the grammar.
use Rattle.std.proofs.Common.{◌≡◌, true, List, [], ◌∷◌, ◌++◌, map, Option, Some, None, Ok, refl, sym, ap, subst}
use Rattle.pvs_parser.specs.declared.nesting.Nesting.{Nesting}
use Rattle.pvs_parser.specs.declared.terminal.Terminal.{Terminal}
use Rattle.pvs_parser.specs.declared.terminal.TerminalKind.{TerminalKind}
use Rattle.pvs_parser.specs.declared.terminal.TerminalKind.TheVariants as kind
use Rattle.pvs_syntax.specs.declared.word.Word.{Word}
use Rattle.pvs_syntax.specs.declared.expression.Binding.{Binding}
use Rattle.pvs_syntax.specs.declared.unit.Decl.{Decl}
use Rattle.pvs_syntax.specs.declared.unit.Decl.TheVariants as decl
use Rattle.pvs_syntax.specs.declared.unit.FormulaWord.{FormulaWord}
use Rattle.pvs_syntax.specs.declared.unit.FormulaWord.TheVariants as formula_word
use Rattle.pvs_parser.specs.Terminals.{Is, IsId}
use Rattle.pvs_parser.specs.Language as l
use Rattle.pvs_parser.specs.Language.{Limit, Item, Tokens, Derives, outermost}
use Rattle.pvs_parser.specs.Units.{DerivesIds, DerivesTypeWord, DerivesVariables, DerivesParameters, DerivesBody, DerivesDecl, DerivesAssumed, const_decl, formula_of}
use Rattle.pvs_base.specs.Answers.{◌>>=◌}
use Rattle.pvs_parser.specs.code.UnitDescent.{type, plus, variables, body, constant, function, constants, type_definition, type_decls, types, formula, formulas, formulas_or_constants, decls_of_kind, decls_after_colon, declaration_of_names, declaration_from_id, declaration, assuming_decls_of_kind, assuming_decls_after_colon, assuming_decl}
use Rattle.pvs_parser.proofs.Yields.{Yields, here, none, bind, cases, weaken}
use Rattle.pvs_parser.proofs.DescentSteps.{after_yields, expect_yields, id_bind, Splits, glue, put, alone, nothing}
use Rattle.pvs_parser.proofs.Deeper.{Fore, expr_sound, type_sound, framed_sound}
use Rattle.pvs_parser.proofs.Ids.{ids_sound, ids_one}
use Rattle.pvs_parser.proofs.FormalLists.{plus_sound}
use Rattle.pvs_parser.proofs.Instances.{importing_sound}

-- what stands after names and a colon
abbrev Behind : (Tokens → List Decl → Type 0) → Tokens → Terminal → Tokens → List Decl × Tokens → Type 0
Behind D ns u ts p = (vs : Tokens) × Splits ts vs p.1 × D (ns ++ u ∷ vs) p.0

variables_sound : (limit : Limit) (ns : Tokens) (ws : List Word) (u t : Terminal) (ts : Tokens) → DerivesIds limit ns ws → Is kind.Colon u → Is kind.Var t → Yields (variables limit ws ts) (Behind (DerivesVariables limit) ns u (t ∷ ts))
variables_sound limit ns ws u t ts d colon var =
    bind (type_sound limit outermost ts) (λ p f. here (t ∷ f.0, put refl f.1, DerivesVariables.variables ns f.0 ws p.0 f.2.0 u t d colon var f.2.1))

body_sound : (limit : Limit) (ts : Tokens) → Yields (body limit ts) (Fore (DerivesBody limit) ts)
body_sound limit ts = cases
    (λ us a. let c = (after_yields kind.Equal ts).holds us a in bind (expr_sound limit us) (λ p f. here (c.0 ∷ f.0, put c.1 f.1, DerivesBody.body f.2.0 f.0 p.0 f.2.1 c.0 c.2 f.2.2)))
    (λ a. here ([], nothing, DerivesBody.none))

-- the type of a constant with its parameters, and its definition
constant_sound : (limit : Limit) (t u : Terminal) (w : Word) (ps : Tokens) (bs : List Binding) (ts : Tokens) → IsId t → t.word ≡ w → DerivesParameters limit ps bs → Is kind.Colon u
    → Yields (constant limit w bs ts) (Behind (DerivesDecl limit) (t ∷ ps) u ts)
constant_sound limit t u w ps bs ts is same d colon =
    bind (type_sound limit outermost ts) (λ p f. bind (body_sound limit p.1) (λ q g. here (
      f.0 ++ g.0,
      glue f.1 g.1,
      subst (λ z. DerivesDecl limit (t ∷ (ps ++ u ∷ (f.0 ++ g.0))) (decl.ConstDecl z bs p.0 q.0 ∷ [])) same (DerivesDecl.constant ps f.0 g.0 bs p.0 q.0 f.2.0 t u is d colon f.2.1 g.2),
    )))

function_sound : (limit : Limit) (t v : Terminal) (ts us rest : Tokens) → ts ≡ t ∷ us → IsId t → us ≡ v ∷ rest → Is kind.Open v → Yields (function limit t.word rest) (Fore (DerivesDecl limit) ts)
function_sound limit t v ts us rest e is e2 opened =
    bind (framed_sound limit Item.Variable kind.Close rest) (λ p f. bind (expect_yields kind.Colon p.1) (λ vs a.
    let d : DerivesParameters limit (v ∷ f.0) p.0 = subst (λ z. DerivesParameters limit (v ∷ z) p.0) (sym f.2.3) (DerivesParameters.parameters f.2.0 p.0 f.2.2 v f.2.1 opened f.2.4 f.2.5 f.2.6) in
    weaken (λ q g. (t ∷ v ∷ (f.0 ++ a.0 ∷ g.0), put e (put e2 (glue f.1 (put a.1 g.1))), g.2)) (constant_sound limit t a.0 t.word (v ∷ f.0) p.0 vs is refl d a.2)))

-- what is read after one name is what is read after its terminal
one_of : (limit : Limit) (ns : Tokens) (w : Word) (u : Terminal) (ts : Tokens) (D : Tokens → List Decl → Type 0) (p : List Decl × Tokens) → (t : Terminal) → ns ≡ t ∷ [] → Behind D (t ∷ []) u ts p → Behind D ns u ts p
one_of limit ns w u ts D p t e b = subst (λ z. Behind D z u ts p) (sym e) b

many_constants : (limit : Limit) (ns : Tokens) (ws : List Word) (u : Terminal) (ts : Tokens) → DerivesIds limit ns ws → Is kind.Colon u → Yields (type limit outermost ts >>= λ p. Ok (map (const_decl p.0) ws, p.1)) (Behind (DerivesDecl limit) ns u ts)
many_constants limit ns ws u ts d colon = bind (type_sound limit outermost ts) (λ p f. here (f.0, f.1, DerivesDecl.constants ns f.0 ws p.0 f.2.0 u d colon f.2.1))

constants_sound : (limit : Limit) (ns : Tokens) (ws : List Word) (u : Terminal) (ts : Tokens) → DerivesIds limit ns ws → Is kind.Colon u → Yields (constants limit ws ts) (Behind (DerivesDecl limit) ns u ts)
constants_sound limit ns [] u ts d colon = many_constants limit ns [] u ts d colon
constants_sound limit ns (w ∷ []) u ts d colon =
    let o = ids_one limit ns (w ∷ []) d w refl in
    weaken (λ p b. one_of limit ns w u ts (DerivesDecl limit) p o.0 o.1 b) (constant_sound limit o.0 u w [] [] ts o.2 o.3 DerivesParameters.none colon)
constants_sound limit ns (w ∷ v ∷ ws) u ts d colon = many_constants limit ns (w ∷ v ∷ ws) u ts d colon

type_decls_sound : (limit : Limit) (ns : Tokens) (ws : List Word) (u t : Terminal) (ts : Tokens) → DerivesIds limit ns ws → Is kind.Colon u → Is kind.Type t → Yields (type_decls ws ts) (Behind (DerivesDecl limit) ns u (t ∷ ts))
type_decls_sound limit ns ws u t ts d colon is = let f = plus_sound t is ts in here (f.0, f.1, DerivesDecl.types ns f.0 ws (plus ts).0 u d colon f.2)

type_definition_sound : (limit : Limit) (v u t : Terminal) (w : Word) (ts us : Tokens) (c : Terminal) → IsId v → v.word ≡ w → Is kind.Colon u → Is kind.Type t → ts ≡ c ∷ us → Is kind.Equal c
    → Yields (type_definition limit w us) (Behind (DerivesDecl limit) (v ∷ []) u (t ∷ ts))
type_definition_sound limit v u t w ts us c is same colon type e equal =
    bind (type_sound limit outermost us) (λ p f. here (
      t ∷ c ∷ f.0,
      put refl (put e f.1),
      subst (λ z. DerivesDecl limit (v ∷ u ∷ t ∷ c ∷ f.0) (decl.TypeDef z p.0 ∷ [])) same (DerivesDecl.type_definition f.0 p.0 f.2.0 v u t c is colon type equal f.2.1),
    ))

types_sound : (limit : Limit) (ns : Tokens) (ws : List Word) (u t : Terminal) (ts : Tokens) → DerivesIds limit ns ws → Is kind.Colon u → Is kind.Type t → Yields (types limit ws ts) (Behind (DerivesDecl limit) ns u (t ∷ ts))
types_sound limit ns [] u t ts d colon is = type_decls_sound limit ns [] u t ts d colon is
types_sound limit ns (w ∷ []) u t ts d colon is =
    let o = ids_one limit ns (w ∷ []) d w refl in
    cases
    (λ us a. let c = (after_yields kind.Equal ts).holds us a in
    weaken (λ p b. one_of limit ns w u (t ∷ ts) (DerivesDecl limit) p o.0 o.1 b) (type_definition_sound limit o.0 u t w ts us c.0 o.2 o.3 colon is c.1 c.2))
    (λ a. type_decls_sound limit ns (w ∷ []) u t ts d colon is)
types_sound limit ns (w ∷ v ∷ ws) u t ts d colon is = type_decls_sound limit ns (w ∷ v ∷ ws) u t ts d colon is

-- ---- formulas

formula_sound : (limit : Limit) (v u t : Terminal) (w : Word) (f : FormulaWord) (ts : Tokens) (D : Tokens → List Decl → Type 0)
    → ((e : l.Ending) (vs : Tokens) (x : _) (m : Nesting) → Derives limit (l.whole e) outermost vs x m → D (v ∷ u ∷ t ∷ vs) (decl.Formula v.word f x ∷ [])) → v.word ≡ w → Yields (formula limit w f ts) (Behind D (v ∷ []) u (t ∷ ts))
formula_sound limit v u t w f ts D made same =
    bind (expr_sound limit ts) (λ p g. here (t ∷ g.0, put refl g.1, subst (λ z. D (v ∷ u ∷ t ∷ g.0) (decl.Formula z f p.0 ∷ [])) same (made g.2.0 g.0 p.0 g.2.1 g.2.2)))

formulas_sound : (limit : Limit) (ns : Tokens) (ws : List Word) (u t : Terminal) (f : FormulaWord) (ts : Tokens) (D : Tokens → List Decl → Type 0) → DerivesIds limit ns ws
    → ((v : Terminal) (e : l.Ending) (vs : Tokens) (x : _) (m : Nesting) → IsId v → Derives limit (l.whole e) outermost vs x m → D (v ∷ u ∷ t ∷ vs) (decl.Formula v.word f x ∷ [])) → Yields (formulas limit ws f (t ∷ ts) ts) (Behind D ns u (t ∷ ts))
formulas_sound limit ns [] u t f ts D d made = none
formulas_sound limit ns (w ∷ []) u t f ts D d made =
    let o = ids_one limit ns (w ∷ []) d w refl in
    weaken (λ p b. one_of limit ns w u (t ∷ ts) D p o.0 o.1 b) (formula_sound limit o.0 u t w f ts D (λ e vs x m d. made o.0 e vs x m o.2 d) o.3)
formulas_sound limit ns (w ∷ v ∷ ws) u t f ts D d made = none

stated_sound : (limit : Limit) (ns : Tokens) (ws : List Word) (u t : Terminal) (ts : Tokens) → DerivesIds limit ns ws → Is kind.Colon u → (o : Option FormulaWord) → formula_of t.kind ≡ o
    → Yields (formulas_or_constants limit ws t ts o) (Behind (DerivesDecl limit) ns u (t ∷ ts))
stated_sound limit ns ws u t ts d colon (Some f) is = formulas_sound limit ns ws u t f ts (DerivesDecl limit) d (λ v e vs x m id d. DerivesDecl.formula e vs x f m v u t id colon is d)
stated_sound limit ns ws u t ts d colon None is = constants_sound limit ns ws u (t ∷ ts) d colon

-- ---- one declaration

declared_of_sound : (limit : Limit) (ns : Tokens) (ws : List Word) (u t : Terminal) (ts : Tokens) → DerivesIds limit ns ws → Is kind.Colon u → (k : TerminalKind) → t.kind ≡ k
    → Yields (decls_of_kind limit ws t ts k) (Behind (DerivesDecl limit) ns u (t ∷ ts))
declared_of_sound limit ns ws u t ts d colon kind.Type is = types_sound limit ns ws u t ts d colon is
declared_of_sound limit ns ws u t ts d colon kind.NonemptyType is = here (t ∷ [], alone refl, DerivesDecl.types ns (t ∷ []) ws true u d colon (DerivesTypeWord.nonempty_type t is))
declared_of_sound limit ns ws u t ts d colon kind.Var is = weaken (λ p f. (f.0, f.1, DerivesDecl.variables (ns ++ u ∷ f.0) p.0 f.2)) (variables_sound limit ns ws u t ts d colon is)
declared_of_sound limit ns ws u t ts d colon k is = stated_sound limit ns ws u t ts d colon (formula_of k) (ap formula_of is)

declared_sound : (limit : Limit) (ns : Tokens) (ws : List Word) (u : Terminal) (ts : Tokens) → DerivesIds limit ns ws → Is kind.Colon u → Yields (decls_after_colon limit ws ts) (Behind (DerivesDecl limit) ns u ts)
declared_sound limit ns ws u [] d colon = none
declared_sound limit ns ws u (t ∷ ts) d colon = declared_of_sound limit ns ws u t ts d colon t.kind refl

named_sound : (limit : Limit) (ts : Tokens) → Yields (declaration_of_names limit ts) (Fore (DerivesDecl limit) ts)
named_sound limit ts =
    bind (ids_sound limit ts) (λ p f. bind (expect_yields kind.Colon p.1) (λ us a. weaken (λ q g. (f.0 ++ a.0 ∷ g.0, glue f.1 (put a.1 g.1), g.2)) (declared_sound limit f.0 p.0 a.0 us f.2 a.2)))

begun_sound : (limit : Limit) (ts : Tokens) → Yields (declaration_from_id limit ts) (Fore (DerivesDecl limit) ts)
begun_sound limit ts = id_bind ts _ (λ t us e is. cases
    (λ vs a. let c = (after_yields kind.Open us).holds vs a in function_sound limit t c.0 ts us vs e is c.1 c.2)
    (λ a. named_sound limit ts))

pub declaration_sound : (limit : Limit) (ts : Tokens) → Yields (declaration limit ts) (Fore (DerivesDecl limit) ts)
declaration_sound limit ts = cases
    (λ us a. let c = (after_yields kind.Importing ts).holds us a in weaken (λ p f. (f.0, f.1, DerivesDecl.importing f.0 p.0 f.2)) (importing_sound limit c.0 ts us c.1 c.2))
    (λ a. begun_sound limit ts)

-- ---- one declaration of an assuming part

assumed_of_sound : (limit : Limit) (ns : Tokens) (ws : List Word) (u t : Terminal) (ts : Tokens) → DerivesIds limit ns ws → Is kind.Colon u → (k : TerminalKind) → t.kind ≡ k
    → Yields (assuming_decls_of_kind limit ws t ts k) (Behind (DerivesAssumed limit) ns u (t ∷ ts))
assumed_of_sound limit ns ws u t ts d colon kind.Var is = weaken (λ p f. (f.0, f.1, DerivesAssumed.variables (ns ++ u ∷ f.0) p.0 f.2)) (variables_sound limit ns ws u t ts d colon is)
assumed_of_sound limit ns ws u t ts d colon kind.Assumption is =
    formulas_sound limit ns ws u t formula_word.Assumption ts (DerivesAssumed limit) d (λ v e vs x m id d. DerivesAssumed.assumption_of e vs x m v u t id colon is d)
assumed_of_sound limit ns ws u t ts d colon _ is = none

assumed_after_sound : (limit : Limit) (ns : Tokens) (ws : List Word) (u : Terminal) (ts : Tokens) → DerivesIds limit ns ws → Is kind.Colon u → Yields (assuming_decls_after_colon limit ws ts) (Behind (DerivesAssumed limit) ns u ts)
assumed_after_sound limit ns ws u [] d colon = none
assumed_after_sound limit ns ws u (t ∷ ts) d colon = assumed_of_sound limit ns ws u t ts d colon t.kind refl

pub assumed_sound : (limit : Limit) (ts : Tokens) → Yields (assuming_decl limit ts) (Fore (DerivesAssumed limit) ts)
assumed_sound limit ts = cases
    (λ us a. let c = (after_yields kind.Importing ts).holds us a in weaken (λ p f. (f.0, f.1, DerivesAssumed.importing f.0 p.0 f.2)) (importing_sound limit c.0 ts us c.1 c.2))
    (λ a. bind (ids_sound limit ts) (λ p f. bind (expect_yields kind.Colon p.1) (λ us a. weaken (λ q g. (f.0 ++ a.0 ∷ g.0, glue f.1 (put a.1 g.1), g.2)) (assumed_after_sound limit f.0 p.0 a.0 us f.2 a.2))))
