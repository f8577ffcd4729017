-- Declarations of the grammar are read, whatever follows them that does not go on with them.
use Rattle.std.proofs.Common.{◌≡◌, ◌∙◌, Bool, true, List, [], ◌∷◌, ◌++◌, map, Option, Some, None, Ok, refl, sym, ap, subst, append_assoc}
use Rattle.pvs_parser.specs.declared.nesting.Nesting.{Nesting}
use Rattle.pvs_parser.specs.declared.terminal.Terminal.{Terminal}
use Rattle.pvs_parser.specs.declared.terminal.TerminalKind.{TerminalKind}
use Rattle.pvs_parser.specs.declared.terminal.TerminalKind.TheVariants as kind
use Rattle.pvs_syntax.specs.declared.word.Word.{Word}
use Rattle.pvs_syntax.specs.declared.expression.Binding.{Binding}
use Rattle.pvs_syntax.specs.declared.expression.Expr.{Expr}
use Rattle.pvs_syntax.specs.declared.expression.TypeExpr.{TypeExpr}
use Rattle.pvs_syntax.specs.declared.unit.Decl.{Decl}
use Rattle.pvs_syntax.specs.declared.unit.Decl.TheVariants as decl
use Rattle.pvs_syntax.specs.declared.unit.FormulaWord.{FormulaWord}
use Rattle.pvs_syntax.specs.declared.unit.FormulaWord.TheVariants as formula_word
use Rattle.pvs_parser.specs.Terminals.{Is, IsId, is_id}
use Rattle.pvs_parser.specs.Language.{Limit, IsBelow, Tokens, Derives, type_, outermost}
use Rattle.pvs_parser.specs.Units.{DerivesIds, DerivesTypeWord, DerivesImporting, DerivesVariables, DerivesParameters, DerivesBody, DerivesDecl, DerivesAssumed, type_decl, var_decl, const_decl, formula_of}
use Rattle.pvs_parser.specs.code.Descent.{Answer, after, starts_type}
use Rattle.pvs_parser.specs.code.UnitDescent.{type, variables, body, constant, constants, type_decls, types, formula, formulas_or_constants, decls_of_kind, decls_after_colon, declaration_of_names, declaration, assuming_decls_of_kind, assuming_decls_after_colon, assuming_decl, comes_kind}
use Rattle.pvs_parser.proofs.Follows.{Ends}
use Rattle.pvs_parser.proofs.Gets.{Gets, found, then_, there, absent, takes, names, after_is, both, unglue}
use Rattle.pvs_parser.proofs.DescentSteps.{Splits}
use Rattle.pvs_parser.proofs.Wholes.{type_first}
use Rattle.pvs_parser.proofs.Deeper.{IsExpr, expr_complete, type_complete, bindings_complete}
use Rattle.pvs_parser.proofs.Ids.{ids_complete, ids_front}
use Rattle.pvs_parser.proofs.Behind.{DeclEnds, decl_part, part_whole, part_plus, part_equal, equal_ends, colon_comma, colon_open, plus_equal, id_importing}
use Rattle.pvs_parser.proofs.FormalLists.{plus_goes, plus_stops}
use Rattle.pvs_parser.proofs.Instances.{importing_complete}

same : {A : Type 0} {o p : Answer A} {y : A} → o ≡ p → Gets p y → Gets o y
same e g = record { is = e ∙ g.is }

-- ---- what stands after names and a colon

-- what is read of a declaration, after its names and the colon
abbrev Declares : Limit → List Word → Tokens → List Decl → Tokens → Type 0
Declares limit ws all ds us = Gets (decls_after_colon limit ws all) (ds, us)

types_go : (limit : Limit) (ws : List Word) (ts : Tokens) → after kind.Equal ts ≡ None → types limit ws ts ≡ type_decls ws ts
types_go limit [] ts e = refl
types_go limit (w ∷ []) ts e = (absent {o = after kind.Equal ts} {d = type_decls (w ∷ []) ts} _ e (record { is = refl })).is
types_go limit (w ∷ v ∷ ws) ts e = refl

declares_types : (limit : Limit) (ts : Tokens) (nonempty : Bool) → DerivesTypeWord ts nonempty → (ws : List Word) (us : Tokens) → DeclEnds us → Declares limit ws (ts ++ us) (map (type_decl nonempty) ws) us
declares_types limit _ _ (DerivesTypeWord.type t is) ws us ends =
    record { is = ap (decls_of_kind limit ws t us) is ∙ types_go limit ws us (part_equal us (decl_part us ends)) ∙ ap (λ z. Ok (map (type_decl z.0) ws, z.1)) (plus_stops us (part_plus us (decl_part us ends))) }
declares_types limit _ _ (DerivesTypeWord.type_plus t u is sign) ws us ends =
    record { is = ap (decls_of_kind limit ws t (u ∷ us)) is ∙ types_go limit ws (u ∷ us) (plus_equal u us sign) ∙ ap (λ z. Ok (map (type_decl z.0) ws, z.1)) (plus_goes u us sign) }
declares_types limit _ _ (DerivesTypeWord.nonempty_type t is) ws us ends = record { is = ap (decls_of_kind limit ws t us) is }

variables_go : (limit : Limit) (ws : List Word) (ts : Tokens) (a : TypeExpr) (m : Nesting) → Derives limit type_ outermost ts a m → (us : Tokens) → DeclEnds us → Gets (variables limit ws (ts ++ us)) (map (var_decl a) ws, us)
variables_go limit ws ts a m d us ends = then_ _ (type_complete limit outermost ts a (m, d) (ts ++ us) us both (part_whole us (decl_part us ends)).1) found

body_stops : (limit : Limit) (ts : Tokens) (x : Option Expr) → DerivesBody limit ts x → (us : Tokens) → DeclEnds us → Ends (ts ++ us)
body_stops limit _ _ DerivesBody.none us ends = (part_whole us (decl_part us ends)).1
body_stops limit _ _ (DerivesBody.body e ts x m t is d) us ends = equal_ends t (ts ++ us) is

body_goes : (limit : Limit) (ts : Tokens) (x : Option Expr) → DerivesBody limit ts x → (us : Tokens) → DeclEnds us → Gets (body limit (ts ++ us)) (x, us)
body_goes limit _ _ DerivesBody.none us ends = absent _ (part_equal us (decl_part us ends)) found
body_goes limit _ _ (DerivesBody.body e ts x m t is d) us ends =
    there _ _ (after_is kind.Equal t (ts ++ us) is) (then_ _ (expr_complete limit ts x (e, m, d) (ts ++ us) us both (part_whole us (decl_part us ends))) found)

constant_goes : (limit : Limit) (w : Word) (bs : List Binding) (ts vs : Tokens) (a : TypeExpr) (m : Nesting) (x : Option Expr) → Derives limit type_ outermost ts a m → DerivesBody limit vs x → (all us : Tokens) → Splits all ts (vs ++ us) → DeclEnds us
    → Gets (constant limit w bs all) (decl.ConstDecl w bs a x ∷ [], us)
constant_goes limit w bs ts vs a m x d e all us s ends = then_ _ (type_complete limit outermost ts a (m, d) all (vs ++ us) s (body_stops limit vs x e us ends)) (then_ _ (body_goes limit vs x e us ends) found)

-- the first terminal of a type, after names and a colon
declared_type : (limit : Limit) (ws : List Word) (t : Terminal) (ts : Tokens) (k : TerminalKind) → starts_type k ≡ true → decls_of_kind limit ws t ts k ≡ constants limit ws (t ∷ ts)
declared_type limit ws t ts kind.Type e = cc
declared_type limit ws t ts kind.NonemptyType e = cc
declared_type limit ws t ts kind.Var e = cc
declared_type limit ws t ts kind.Axiom e = cc
declared_type limit ws t ts kind.Lemma e = cc
declared_type limit ws t ts _ e = refl

-- a type, after names and a colon
declares_type : (limit : Limit) (ws : List Word) (ts : Tokens) (a : TypeExpr) (m : Nesting) → Derives limit type_ outermost ts a m → (all us : Tokens) → Splits all ts us → (ds : List Decl) (rest : Tokens)
    → Gets (constants limit ws all) (ds, rest) → Declares limit ws all ds rest
declares_type limit ws ts a m d all us s ds rest g =
    let b = type_first outermost ts a m d in
    let e : all ≡ b.0 ∷ (b.1 ++ us) = s.same ∙ ap (λ z. z ++ us) b.2 in
    subst (λ z. Declares limit ws z ds rest) (sym e) (same (declared_type limit ws b.0 (b.1 ++ us) b.0.kind b.3) (subst (λ z. Gets (constants limit ws z) (ds, rest)) e g))

constants_go : (limit : Limit) (ws : List Word) (ts : Tokens) (a : TypeExpr) (m : Nesting) → Derives limit type_ outermost ts a m → (us : Tokens) → DeclEnds us → Gets (constants limit ws (ts ++ us)) (map (const_decl a) ws, us)
constants_go limit [] ts a m d us ends = then_ _ (type_complete limit outermost ts a (m, d) (ts ++ us) us both (part_whole us (decl_part us ends)).1) found
constants_go limit (w ∷ []) ts a m d us ends = constant_goes limit w [] ts [] a m None d DerivesBody.none (ts ++ us) us both ends
constants_go limit (w ∷ v ∷ ws) ts a m d us ends = then_ _ (type_complete limit outermost ts a (m, d) (ts ++ us) us both (part_whole us (decl_part us ends)).1) found

declared_formula : (limit : Limit) (ws : List Word) (t : Terminal) (ts : Tokens) (f : FormulaWord) (k : TerminalKind) → formula_of k ≡ Some f → decls_of_kind limit ws t ts k ≡ formulas_or_constants limit ws t ts (Some f)
declared_formula limit ws t ts f kind.Axiom e = ap (formulas_or_constants limit ws t ts) e
declared_formula limit ws t ts f kind.Lemma e = ap (formulas_or_constants limit ws t ts) e
declared_formula limit ws t ts f _ e = cc

formula_goes : (limit : Limit) (w : Word) (f : FormulaWord) (ts : Tokens) (x : Expr) → IsExpr limit ts x → (us : Tokens) → DeclEnds us → Gets (formula limit w f (ts ++ us)) (decl.Formula w f x ∷ [], us)
formula_goes limit w f ts x d us ends = then_ _ (expr_complete limit ts x d (ts ++ us) us both (part_whole us (decl_part us ends))) found

-- ---- one declaration

-- names, a colon and what they are
named_goes : (limit : Limit) → IsBelow limit 0 → (ns : Tokens) (ws : List Word) → DerivesIds limit ns ws → (u : Terminal) → Is kind.Colon u → (all vs : Tokens) → Splits all ns (u ∷ vs) → (ds : List Decl) (us : Tokens) → Declares limit ws vs ds us
    → Gets (declaration_of_names limit all) (ds, us)
named_goes limit some ns ws d u colon all vs s ds us g = then_ _ (ids_complete limit some ns ws d all (u ∷ vs) s (colon_comma u vs colon)) (takes kind.Colon u vs _ colon g)

declaration_goes : (limit : Limit) → IsBelow limit 0 → (ns : Tokens) (ws : List Word) → DerivesIds limit ns ws → (u : Terminal) → Is kind.Colon u → (all vs : Tokens) → Splits all ns (u ∷ vs) → (ds : List Decl) (us : Tokens) → Declares limit ws vs ds us
    → Gets (declaration limit all) (ds, us)
declaration_goes limit some ns ws d u colon all vs s ds us g =
    let b = ids_front limit ns ws d in
    let e : all ≡ b.0 ∷ (b.1 ++ u ∷ vs) = s.same ∙ ap (λ z. z ++ u ∷ vs) b.2 in
    let h : Gets (declaration_of_names limit (b.0 ∷ (b.1 ++ u ∷ vs))) (ds, us) = subst (λ z. Gets (declaration_of_names limit z) (ds, us)) e (named_goes limit some ns ws d u colon all vs s ds us g) in
    subst (λ z. Gets (declaration limit z) (ds, us)) (sym e)
    (absent _ (id_importing b.0 (b.1 ++ u ∷ vs) b.3) (names b.0 (b.1 ++ u ∷ vs) _ b.3 (absent _ (b.4 (u ∷ vs) (colon_open u vs colon)) h)))

-- a constant with parameters or without
constant_decl : (limit : Limit) → IsBelow limit 0 → (ps : Tokens) (bs : List Binding) → DerivesParameters limit ps bs → (t u : Terminal) → IsId t → Is kind.Colon u → (ts vs : Tokens) (a : TypeExpr) (m : Nesting) (x : Option Expr) → Derives limit type_ outermost ts a m
    → DerivesBody limit vs x → (us : Tokens) → DeclEnds us → Gets (declaration limit (t ∷ (ps ++ u ∷ (ts ++ (vs ++ us))))) (decl.ConstDecl t.word bs a x ∷ [], us)
constant_decl limit some _ _ DerivesParameters.none t u is colon ts vs a m x d e us ends =
    declaration_goes limit some (t ∷ []) (t.word ∷ []) (DerivesIds.one t is) u colon (t ∷ u ∷ (ts ++ (vs ++ us))) (ts ++ (vs ++ us)) both (decl.ConstDecl t.word [] a x ∷ []) us
    (declares_type limit (t.word ∷ []) ts a m d (ts ++ (vs ++ us)) (vs ++ us) both (decl.ConstDecl t.word [] a x ∷ []) us (constant_goes limit t.word [] ts vs a m x d e (ts ++ (vs ++ us)) us both ends))
constant_decl limit some _ _ (DerivesParameters.parameters ps bs k o c opened lt b close) t u is colon ts vs a m x d e us ends =
    absent _ (id_importing t ((o ∷ (ps ++ c ∷ [])) ++ u ∷ (ts ++ (vs ++ us))) is)
    (names t ((o ∷ (ps ++ c ∷ [])) ++ u ∷ (ts ++ (vs ++ us))) _ is (there _ _ (after_is kind.Open o ((ps ++ c ∷ []) ++ u ∷ (ts ++ (vs ++ us))) opened)
    (then_ _ (bindings_complete limit ps bs k c lt b close ((ps ++ c ∷ []) ++ u ∷ (ts ++ (vs ++ us))) (u ∷ (ts ++ (vs ++ us))) (unglue ps (c ∷ []) both))
    (takes kind.Colon u (ts ++ (vs ++ us)) _ colon (constant_goes limit t.word bs ts vs a m x d e (ts ++ (vs ++ us)) us both ends)))))

pub declaration_complete : (limit : Limit) → IsBelow limit 0 → (ts : Tokens) (ds : List Decl) → DerivesDecl limit ts ds → (us : Tokens) → DeclEnds us → Gets (declaration limit (ts ++ us)) (ds, us)
declaration_complete limit some _ _ (DerivesDecl.importing ts ds d) us ends =
    let b = importing_complete limit ts ds d us ends in
    subst (λ z. Gets (declaration limit (z ++ us)) (ds, us)) (sym b.2) (there _ _ (after_is kind.Importing b.0 (b.1 ++ us) b.3) b.4)
declaration_complete limit some _ _ (DerivesDecl.types ts vs ws nonempty t d colon e) us ends =
    declaration_goes limit some ts ws d t colon ((ts ++ t ∷ vs) ++ us) (vs ++ us) (unglue ts (t ∷ vs) both) (map (type_decl nonempty) ws) us (declares_types limit vs nonempty e ws us ends)
declaration_complete limit some _ _ (DerivesDecl.variables _ _ (DerivesVariables.variables ts vs ws a m t u d colon var e)) us ends =
    declaration_goes limit some ts ws d t colon ((ts ++ t ∷ u ∷ vs) ++ us) (u ∷ (vs ++ us)) (unglue ts (t ∷ u ∷ vs) both) (map (var_decl a) ws) us
    (same (ap (decls_of_kind limit ws u (vs ++ us)) var) (variables_go limit ws vs a m e us ends))
declaration_complete limit some _ _ (DerivesDecl.constants ts vs ws a m t d colon e) us ends =
    declaration_goes limit some ts ws d t colon ((ts ++ t ∷ vs) ++ us) (vs ++ us) (unglue ts (t ∷ vs) both) (map (const_decl a) ws) us
    (declares_type limit ws vs a m e (vs ++ us) us both (map (const_decl a) ws) us (constants_go limit ws vs a m e us ends))
declaration_complete limit some _ _ (DerivesDecl.type_definition ts a m t u v w is colon type equal d) us ends =
    declaration_goes limit some (t ∷ []) (t.word ∷ []) (DerivesIds.one t is) u colon (t ∷ u ∷ v ∷ w ∷ (ts ++ us)) (v ∷ w ∷ (ts ++ us)) both (decl.TypeDef t.word a ∷ []) us
    (same (ap (decls_of_kind limit (t.word ∷ []) v (w ∷ (ts ++ us))) type)
    (there _ _ (after_is kind.Equal w (ts ++ us) equal) (then_ _ (type_complete limit outermost ts a (m, d) (ts ++ us) us both (part_whole us (decl_part us ends)).1) found)))
declaration_complete limit some _ _ (DerivesDecl.constant ps ts vs bs a x m t u is b colon d e) us ends =
    subst (λ z. Gets (declaration limit (t ∷ z)) (decl.ConstDecl t.word bs a x ∷ [], us)) (sym (append_assoc ps (u ∷ (ts ++ vs)) us ∙ ap (λ z. ps ++ u ∷ z) (append_assoc ts vs us)))
    (constant_decl limit some ps bs b t u is colon ts vs a m x d e us ends)
declaration_complete limit some _ _ (DerivesDecl.formula e ts x w m t u v is colon word d) us ends =
    declaration_goes limit some (t ∷ []) (t.word ∷ []) (DerivesIds.one t is) u colon (t ∷ u ∷ v ∷ (ts ++ us)) (v ∷ (ts ++ us)) both (decl.Formula t.word w x ∷ []) us
    (same (declared_formula limit (t.word ∷ []) v (ts ++ us) w v.kind word) (formula_goes limit t.word w ts x (e, m, d) us ends))

-- ---- one declaration of an assuming part

assumed_goes : (limit : Limit) → IsBelow limit 0 → (ns : Tokens) (ws : List Word) → DerivesIds limit ns ws → (u : Terminal) → Is kind.Colon u → (all vs : Tokens) → Splits all ns (u ∷ vs) → (ds : List Decl) (us : Tokens)
    → Gets (assuming_decls_after_colon limit ws vs) (ds, us) → Gets (assuming_decl limit all) (ds, us)
assumed_goes limit some ns ws d u colon all vs s ds us g =
    let b = ids_front limit ns ws d in
    let e : all ≡ b.0 ∷ (b.1 ++ u ∷ vs) = s.same ∙ ap (λ z. z ++ u ∷ vs) b.2 in
    absent _ (ap (after kind.Importing) e ∙ id_importing b.0 (b.1 ++ u ∷ vs) b.3) (then_ _ (ids_complete limit some ns ws d all (u ∷ vs) s (colon_comma u vs colon)) (takes kind.Colon u vs _ colon g))

pub assumed_complete : (limit : Limit) → IsBelow limit 0 → (ts : Tokens) (ds : List Decl) → DerivesAssumed limit ts ds → (us : Tokens) → DeclEnds us → Gets (assuming_decl limit (ts ++ us)) (ds, us)
assumed_complete limit some _ _ (DerivesAssumed.importing ts ds d) us ends =
    let b = importing_complete limit ts ds d us ends in
    subst (λ z. Gets (assuming_decl limit (z ++ us)) (ds, us)) (sym b.2) (there _ _ (after_is kind.Importing b.0 (b.1 ++ us) b.3) b.4)
assumed_complete limit some _ _ (DerivesAssumed.variables _ _ (DerivesVariables.variables ts vs ws a m t u d colon var e)) us ends =
    assumed_goes limit some ts ws d t colon ((ts ++ t ∷ u ∷ vs) ++ us) (u ∷ (vs ++ us)) (unglue ts (t ∷ u ∷ vs) both) (map (var_decl a) ws) us
    (same (ap (assuming_decls_of_kind limit ws u (vs ++ us)) var) (variables_go limit ws vs a m e us ends))
assumed_complete limit some _ _ (DerivesAssumed.assumption_of e ts x m t u v is colon word d) us ends =
    assumed_goes limit some (t ∷ []) (t.word ∷ []) (DerivesIds.one t is) u colon (t ∷ u ∷ v ∷ (ts ++ us)) (v ∷ (ts ++ us)) both (decl.Formula t.word formula_word.Assumption x ∷ []) us
    (same (ap (assuming_decls_of_kind limit (t.word ∷ []) v (ts ++ us)) word) (formula_goes limit t.word formula_word.Assumption ts x (e, m, d) us ends))

-- ---- how a declaration begins

importing_begins : (k : TerminalKind) → k ≡ kind.Importing → comes_kind k ≡ true
importing_begins k e = ap comes_kind e

id_begins : (k : TerminalKind) → is_id k ≡ true → comes_kind k ≡ true
id_begins kind.Id e = refl
id_begins kind.Proof e = refl
id_begins _ e = cc

-- a declaration comes next
abbrev pub DeclComes : Tokens → Type 0
DeclComes ts = (t : Terminal) × (vs : Tokens) × (ts ≡ t ∷ vs) × (comes_kind t.kind ≡ true)

ids_come : (limit : Limit) (ns : Tokens) (ws : List Word) → DerivesIds limit ns ws → (vs : Tokens) → DeclComes (ns ++ vs)
ids_come limit ns ws d vs = let b = ids_front limit ns ws d in (b.0, b.1 ++ vs, ap (λ z. z ++ vs) b.2, id_begins b.0.kind b.3)

importing_comes : (limit : Limit) (ts : Tokens) (ds : List Decl) → DerivesImporting limit ts ds → DeclComes ts
importing_comes limit _ _ (DerivesImporting.importing ts is t word d) = (t, ts, refl, importing_begins t.kind word)

variables_come : (limit : Limit) (ts : Tokens) (ds : List Decl) → DerivesVariables limit ts ds → DeclComes ts
variables_come limit _ _ (DerivesVariables.variables ts vs ws a m t u d colon var e) = ids_come limit ts ws d (t ∷ u ∷ vs)

pub decl_comes : (limit : Limit) (ts : Tokens) (ds : List Decl) → DerivesDecl limit ts ds → DeclComes ts
decl_comes limit _ _ (DerivesDecl.importing ts ds d) = importing_comes limit ts ds d
decl_comes limit _ _ (DerivesDecl.types ts vs ws nonempty t d colon e) = ids_come limit ts ws d (t ∷ vs)
decl_comes limit _ _ (DerivesDecl.variables ts ds d) = variables_come limit ts ds d
decl_comes limit _ _ (DerivesDecl.constants ts vs ws a m t d colon e) = ids_come limit ts ws d (t ∷ vs)
decl_comes limit _ _ (DerivesDecl.type_definition ts a m t u v w is colon type equal d) = (t, _, refl, id_begins t.kind is)
decl_comes limit _ _ (DerivesDecl.constant ps ts vs bs a x m t u is b colon d e) = (t, _, refl, id_begins t.kind is)
decl_comes limit _ _ (DerivesDecl.formula e ts x w m t u v is colon word d) = (t, _, refl, id_begins t.kind is)

pub assumed_comes : (limit : Limit) (ts : Tokens) (ds : List Decl) → DerivesAssumed limit ts ds → DeclComes ts
assumed_comes limit _ _ (DerivesAssumed.importing ts ds d) = importing_comes limit ts ds d
assumed_comes limit _ _ (DerivesAssumed.variables ts ds d) = variables_come limit ts ds d
assumed_comes limit _ _ (DerivesAssumed.assumption_of e ts x m t u v is colon word d) = (t, _, refl, id_begins t.kind is)
