-- No END stands in an expression, a type or a declaration; and whether tokens end in END.
use Rattle.std.proofs.Common.{◌≡◌, ◌∙◌, Bool, true, false, ℕ, List, [], ◌∷◌, ◌++◌, Option, Some, refl, ap}
use Rattle.pvs_parser.specs.declared.nesting.Nesting.{Nesting}
use Rattle.pvs_parser.specs.declared.terminal.Connective.{Connective}
use Rattle.pvs_parser.specs.declared.terminal.Connective.TheVariants as connective
use Rattle.pvs_parser.specs.declared.terminal.Terminal.{Terminal}
use Rattle.pvs_parser.specs.declared.terminal.TerminalKind.{TerminalKind}
use Rattle.pvs_parser.specs.declared.terminal.TerminalKind.TheVariants as kind
use Rattle.pvs_syntax.specs.declared.word.Word.{Word}
use Rattle.pvs_syntax.specs.declared.expression.Binding.{Binding}
use Rattle.pvs_syntax.specs.declared.expression.BinderWord.{BinderWord}
use Rattle.pvs_syntax.specs.declared.expression.Expr.{Expr}
use Rattle.pvs_syntax.specs.declared.expression.InfixWord.{InfixWord}
use Rattle.pvs_syntax.specs.declared.expression.InstExpr.{InstExpr}
use Rattle.pvs_syntax.specs.declared.unit.Decl.{Decl}
use Rattle.pvs_syntax.specs.declared.unit.Formal.{Formal}
use Rattle.pvs_syntax.specs.declared.unit.FormulaWord.{FormulaWord}
use Rattle.pvs_parser.specs.Terminals.{IsId, is_id}
use Rattle.pvs_parser.specs.Language.{Limit, Tokens, Derives, Plain, Form, Item, Nonterminal, form, item, list, name, inst, type_, TreeOf, with_lasting_mark, without_marks, in_frame, with_mark, before_call, operand_form, sign, comparison, binder_word, whole, outermost}
use Rattle.pvs_parser.specs.Units.{DerivesIds, DerivesTypeWord, DerivesFormal, DerivesFormals, DerivesFormalPart, DerivesInstances, DerivesImporting, DerivesVariables, DerivesParameters, DerivesBody, DerivesDecl, DerivesAssumed, DerivesSemicolon, DerivesMany, DerivesAssuming, formula_of}

-- ---- tokens of which none is END

abbrev pub is_end : TerminalKind → Bool
is_end kind.End = true
is_end _ = false

abbrev pub NoEnd : Tokens → Type 0
NoEnd [] = Unit {0}
NoEnd (t ∷ ts) = (is_end t.kind ≡ false) × NoEnd ts

pub joined : (ts us : Tokens) → NoEnd ts → NoEnd us → NoEnd (ts ++ us)
joined [] us a b = b
joined (t ∷ ts) us a b = (a.0, joined ts us a.1 b)

pub front_of : (ts us : Tokens) → NoEnd (ts ++ us) → NoEnd ts
front_of [] us a = tt
front_of (t ∷ ts) us a = (a.0, front_of ts us a.1)

id_kind : (k : TerminalKind) → is_id k ≡ true → is_end k ≡ false
id_kind kind.Id e = refl
id_kind kind.Proof e = refl
id_kind _ e = cc

pub id_is_no_end : (t : Terminal) → IsId t → is_end t.kind ≡ false
id_is_no_end t is = id_kind t.kind is

comparison_kind : (k : TerminalKind) (w : InfixWord) → comparison k ≡ Some w → is_end k ≡ false
comparison_kind kind.End w e = cc
comparison_kind _ w e = refl

binder_kind : (k : TerminalKind) (w : BinderWord) → binder_word k ≡ Some w → is_end k ≡ false
binder_kind kind.End w e = cc
binder_kind _ w e = refl

formula_kind : (k : TerminalKind) (w : FormulaWord) → formula_of k ≡ Some w → is_end k ≡ false
formula_kind kind.End w e = cc
formula_kind _ w e = refl

sign_kind : (c : Connective) → is_end (sign c) ≡ false
sign_kind connective.Iff = refl
sign_kind connective.Implies = refl
sign_kind connective.Or = refl
sign_kind connective.And = refl

-- ---- expressions and types

pub no_end : {limit : Limit} (s : Nonterminal) (l : Nesting) (ts : Tokens) (x : TreeOf s) (m : Nesting) → Derives limit s l ts x m → NoEnd ts
no_end _ _ _ _ _ (Derives.one i l m ts x d) = no_end (item i) l ts x m d
no_end _ _ _ _ _ (Derives.more i l k m ts us x xs t d is e lt) = joined ts (t ∷ us) (no_end (item i) l ts x k d) (ap is_end is, no_end (list i) (without_marks k) us xs m e)
no_end _ _ _ _ _ (Derives.expression e l m ts x d) = no_end (whole e) l ts x m d
no_end _ _ _ _ _ (Derives.alone c e l m ts x d) = no_end (form (operand_form c e)) l ts x m d
no_end _ _ _ _ _ (Derives.joined c e l k m ts us x y t d is lt f) =
    joined ts (t ∷ us) (no_end (form (operand_form c Plain)) l ts x k d) (ap is_end is ∙ sign_kind c, no_end (form (Form.Chain c e)) (with_mark k) us y m f)
no_end _ _ _ _ _ (Derives.compared l m ts x d) = no_end (form Form.Comparisons) l ts x m d
no_end _ _ _ _ _ (Derives.prefixed e l m ts x d) = no_end (form (Form.Prefixed e)) l ts x m d
no_end _ _ _ _ _ (Derives.compared_prefixed e l k m ts us x y w t d is lt f) =
    joined ts (t ∷ us) (no_end (form Form.Comparisons) l ts x k d) (comparison_kind t.kind w is, no_end (form (Form.Prefixed e)) (with_mark k) us y m f)
no_end _ _ _ _ _ (Derives.term b l m ts x d) = no_end (form (Form.Term b)) l ts x m d
no_end _ _ _ _ _ (Derives.compares b l k m ts us x y w t d is lt f) =
    joined ts (t ∷ us) (no_end (form Form.Comparisons) l ts x k d) (comparison_kind t.kind w is, no_end (form (Form.Term b)) (with_mark k) us y m f)
no_end _ _ _ _ _ (Derives.not e l m ts x t is lt d) = (ap is_end is, no_end (form (Form.Operand e)) (with_mark l) ts x m d)
no_end _ _ _ _ _ (Derives.binder e l k m ts us bs x w t u v c is lt opened lt2 d close colon f) =
    (binder_kind t.kind w is, (ap is_end opened, joined ts (v ∷ c ∷ us) (no_end (list Item.Variable) (in_frame (with_lasting_mark l)) ts bs k d) (ap is_end close, (ap is_end colon, no_end (whole e) (with_lasting_mark l) us x m f))))
no_end _ _ _ _ _ (Derives.bare_binder e l k m ts us bs x w t c is lt d colon f) =
    (binder_kind t.kind w is, joined ts (c ∷ us) (no_end (list Item.BareVariable) (with_lasting_mark l) ts bs k d) (ap is_end colon, no_end (whole e) k us x m f))
no_end _ _ _ _ _ (Derives.let_in e l k m ts us ps x t u is lt d in_ f) =
    (ap is_end is, joined ts (u ∷ us) (no_end (list Item.Definition) (with_lasting_mark l) ts ps k d) (ap is_end in_, no_end (whole e) k us x m f))
no_end _ _ _ _ _ (Derives.truth l t is) = (ap is_end is, tt)
no_end _ _ _ _ _ (Derives.falsity l t is) = (ap is_end is, tt)
no_end _ _ _ _ _ (Derives.name_term l m ts x d) = no_end name l ts x m d
no_end _ _ _ _ _ (Derives.group l k ts xs t u is lt d close) = (ap is_end is, joined ts (u ∷ []) (no_end (list Item.Expression) (in_frame l) ts xs k d) (ap is_end close, tt))
no_end _ _ _ _ _ (Derives.cond l k j m ts us vs c x y t u is lt d behind e f) =
    (ap is_end is, joined ts (u ∷ (us ++ vs)) (no_end (item Item.Expression) (in_frame l) ts c k d) (ap is_end behind, joined us vs (no_end (item Item.Expression) (without_marks k) us x j e) (no_end (form Form.Otherwise) j vs y m f)))
no_end _ _ _ _ _ (Derives.else_ l m ts x t u is d end) = (ap is_end is, joined ts (u ∷ []) (no_end (item Item.Expression) (without_marks l) ts x m d) (ap is_end end, tt))
no_end _ _ _ _ _ (Derives.elsif l k j m ts us vs c x y t u is lt d behind e f) =
    (ap is_end is, joined ts (u ∷ (us ++ vs)) (no_end (item Item.Expression) (with_lasting_mark (without_marks l)) ts c k d) (ap is_end behind, joined us vs (no_end (item Item.Expression) (without_marks k) us x j e) (no_end (form Form.Otherwise) j vs y m f)))
no_end _ _ _ _ _ (Derives.call b l k j ts us f xs t u d is lt e close) =
    joined ts (t ∷ (us ++ u ∷ [])) (no_end (form (Form.Term b)) l ts f k d) (ap is_end is, joined us (u ∷ []) (no_end (list Item.Expression) (in_frame (before_call b k)) us xs j e) (ap is_end close, tt))
no_end _ _ _ _ _ (Derives.project b l k ts x t u d is lt number) = joined ts (t ∷ u ∷ []) (no_end (form (Form.Term b)) l ts x k d) (ap is_end is, (ap is_end number, tt))
no_end _ _ _ _ _ (Derives.plain_name l t is) = (id_is_no_end t is, tt)
no_end _ _ _ _ _ (Derives.qualified_name l m ts i t u d dot is) = joined ts (t ∷ u ∷ []) (no_end inst l ts i m d) (ap is_end dot, (id_is_no_end u is, tt))
no_end _ _ _ _ _ (Derives.plain_inst l t is) = (id_is_no_end t is, tt)
no_end _ _ _ _ _ (Derives.inst_with l k ts xs t u v is opened lt d close) =
    (id_is_no_end t is, (ap is_end opened, joined ts (v ∷ []) (no_end (list Item.Parameter) (in_frame l) ts xs k d) (ap is_end close, tt)))
no_end _ _ _ _ _ (Derives.expr_actual e l m ts x d) = no_end (whole e) l ts x m d
no_end _ _ _ _ _ (Derives.type_actual l m ts a t is d) = no_end type_ l (t ∷ ts) a m d
no_end _ _ _ _ _ (Derives.name_type l m ts x d) = no_end name l ts x m d
no_end _ _ _ _ _ (Derives.pred_type l k ts x t u is lt d close) = (ap is_end is, joined ts (u ∷ []) (no_end (item Item.Expression) (in_frame l) ts x k d) (ap is_end close, tt))
no_end _ _ _ _ _ (Derives.sub_type l k m ts us a x t u v w y is lt id colon d bar e close) =
    (ap is_end is, (id_is_no_end u id, (ap is_end colon, joined ts (w ∷ (us ++ y ∷ [])) (no_end type_ (in_frame l) ts a k d) (ap is_end bar, joined us (y ∷ []) (no_end (item Item.Expression) k us x m e) (ap is_end close, tt)))))
no_end _ _ _ _ _ (Derives.tuple_type l k ts b c bs t u is lt d close) = (ap is_end is, joined ts (u ∷ []) (no_end (list Item.Component) (in_frame l) ts (b ∷ c ∷ bs) k d) (ap is_end close, tt))
no_end _ _ _ _ _ (Derives.fun_type l k m ts us bs a t u v is lt d arrow e close) =
    (ap is_end is, joined ts (u ∷ (us ++ v ∷ [])) (no_end (list Item.Component) (in_frame l) ts bs k d) (ap is_end arrow, joined us (v ∷ []) (no_end type_ k us a m e) (ap is_end close, tt)))
no_end _ _ _ _ _ (Derives.named_component l m ts a t u is colon d) = (id_is_no_end t is, (ap is_end colon, no_end type_ l ts a m d))
no_end _ _ _ _ _ (Derives.component l m ts a t d) = no_end type_ l (t ∷ ts) a m d
no_end _ _ _ _ _ (Derives.untyped_variable l t is) = (id_is_no_end t is, tt)
no_end _ _ _ _ _ (Derives.typed_variable l m ts a t u is colon d) = (id_is_no_end t is, (ap is_end colon, no_end type_ l ts a m d))
no_end _ _ _ _ _ (Derives.bare_variable l t is) = (id_is_no_end t is, tt)
no_end _ _ _ _ _ (Derives.untyped_part e l m ts x t u is equal d) = (id_is_no_end t is, (ap is_end equal, no_end (whole e) l ts x m d))
no_end _ _ _ _ _ (Derives.typed_part e l k m ts us a x t u v is colon d equal f) =
    (id_is_no_end t is, (ap is_end colon, joined ts (v ∷ us) (no_end type_ l ts a k d) (ap is_end equal, no_end (whole e) k us x m f)))

-- ---- formal parameters and instances

pub ids_no_end : {limit : Limit} (ts : Tokens) (ws : List Word) → DerivesIds limit ts ws → NoEnd ts
ids_no_end _ _ (DerivesIds.one t is) = (id_is_no_end t is, tt)
ids_no_end _ _ (DerivesIds.more t u ts ws is comma d lt) = (id_is_no_end t is, (ap is_end comma, ids_no_end ts ws d))

type_word_no_end : (ts : Tokens) (nonempty : Bool) → DerivesTypeWord ts nonempty → NoEnd ts
type_word_no_end _ _ (DerivesTypeWord.type t is) = (ap is_end is, tt)
type_word_no_end _ _ (DerivesTypeWord.type_plus t u is plus) = (ap is_end is, (ap is_end plus, tt))
type_word_no_end _ _ (DerivesTypeWord.nonempty_type t is) = (ap is_end is, tt)

formal_no_end : {limit : Limit} (ts : Tokens) (fs : List Formal) → DerivesFormal limit ts fs → NoEnd ts
formal_no_end _ _ (DerivesFormal.types ts us ws nonempty t d colon e) = joined ts (t ∷ us) (ids_no_end ts ws d) (ap is_end colon, type_word_no_end us nonempty e)
formal_no_end _ _ (DerivesFormal.constants ts us ws a m t d colon e) = joined ts (t ∷ us) (ids_no_end ts ws d) (ap is_end colon, no_end type_ (in_frame outermost) us a m e)

formals_no_end : {limit : Limit} (n : ℕ) (ts : Tokens) (fs : List Formal) → DerivesFormals limit n ts fs → NoEnd ts
formals_no_end _ _ _ (DerivesFormals.one ts fs d) = formal_no_end ts fs d
formals_no_end _ _ _ (DerivesFormals.more n ts us fs gs t d comma e lt) = joined ts (t ∷ us) (formal_no_end ts fs d) (ap is_end comma, formals_no_end n us gs e)

pub formal_part_no_end : {limit : Limit} (ts : Tokens) (fs : List Formal) → DerivesFormalPart limit ts fs → NoEnd ts
formal_part_no_end _ _ DerivesFormalPart.none = tt
formal_part_no_end _ _ (DerivesFormalPart.formals n ts fs t u is lt d close) = (ap is_end is, joined ts (u ∷ []) (formals_no_end n ts fs d) (ap is_end close, tt))

instances_no_end : {limit : Limit} (ts : Tokens) (is : List InstExpr) → DerivesInstances limit ts is → NoEnd ts
instances_no_end _ _ (DerivesInstances.one ts i m d) = no_end inst outermost ts i m d
instances_no_end _ _ (DerivesInstances.more ts us i is m t d comma e) = joined ts (t ∷ us) (no_end inst outermost ts i m d) (ap is_end comma, instances_no_end us is e)

importing_no_end : {limit : Limit} (ts : Tokens) (ds : List Decl) → DerivesImporting limit ts ds → NoEnd ts
importing_no_end _ _ (DerivesImporting.importing ts is t word d) = (ap is_end word, instances_no_end ts is d)

-- ---- declarations

variables_no_end : {limit : Limit} (ts : Tokens) (ds : List Decl) → DerivesVariables limit ts ds → NoEnd ts
variables_no_end _ _ (DerivesVariables.variables ts us ws a m t u d colon var e) = joined ts (t ∷ u ∷ us) (ids_no_end ts ws d) (ap is_end colon, (ap is_end var, no_end type_ outermost us a m e))

parameters_no_end : {limit : Limit} (ts : Tokens) (bs : List Binding) → DerivesParameters limit ts bs → NoEnd ts
parameters_no_end _ _ DerivesParameters.none = tt
parameters_no_end _ _ (DerivesParameters.parameters ts bs k t u is lt d close) = (ap is_end is, joined ts (u ∷ []) (no_end (list Item.Variable) (in_frame outermost) ts bs k d) (ap is_end close, tt))

body_no_end : {limit : Limit} (ts : Tokens) (x : Option Expr) → DerivesBody limit ts x → NoEnd ts
body_no_end _ _ DerivesBody.none = tt
body_no_end _ _ (DerivesBody.body e ts x m t is d) = (ap is_end is, no_end (whole e) outermost ts x m d)

pub decl_no_end : {limit : Limit} (ts : Tokens) (ds : List Decl) → DerivesDecl limit ts ds → NoEnd ts
decl_no_end _ _ (DerivesDecl.importing ts ds d) = importing_no_end ts ds d
decl_no_end _ _ (DerivesDecl.types ts us ws nonempty t d colon e) = joined ts (t ∷ us) (ids_no_end ts ws d) (ap is_end colon, type_word_no_end us nonempty e)
decl_no_end _ _ (DerivesDecl.variables ts ds d) = variables_no_end ts ds d
decl_no_end _ _ (DerivesDecl.constants ts us ws a m t d colon e) = joined ts (t ∷ us) (ids_no_end ts ws d) (ap is_end colon, no_end type_ outermost us a m e)
decl_no_end _ _ (DerivesDecl.type_definition ts a m t u v w is colon type equal d) =
    (id_is_no_end t is, (ap is_end colon, (ap is_end type, (ap is_end equal, no_end type_ outermost ts a m d))))
decl_no_end _ _ (DerivesDecl.constant ts us vs bs a x m t u is d colon e f) =
    (id_is_no_end t is, joined ts (u ∷ (us ++ vs)) (parameters_no_end ts bs d) (ap is_end colon, joined us vs (no_end type_ outermost us a m e) (body_no_end vs x f)))
decl_no_end _ _ (DerivesDecl.formula e ts x w m t u v is colon word d) = (id_is_no_end t is, (ap is_end colon, (formula_kind v.kind w word, no_end (whole e) outermost ts x m d)))

pub assumed_no_end : {limit : Limit} (ts : Tokens) (ds : List Decl) → DerivesAssumed limit ts ds → NoEnd ts
assumed_no_end _ _ (DerivesAssumed.importing ts ds d) = importing_no_end ts ds d
assumed_no_end _ _ (DerivesAssumed.variables ts ds d) = variables_no_end ts ds d
assumed_no_end _ _ (DerivesAssumed.assumption_of e ts x m t u v is colon word d) = (id_is_no_end t is, (ap is_end colon, (ap is_end word, no_end (whole e) outermost ts x m d)))

semicolon_no_end : (ts : Tokens) → DerivesSemicolon ts → NoEnd ts
semicolon_no_end _ DerivesSemicolon.none = tt
semicolon_no_end _ (DerivesSemicolon.semicolon t is) = (ap is_end is, tt)

pub many_no_end : {D : Tokens → List Decl → Type 0} → ((ts : Tokens) (ds : List Decl) → D ts ds → NoEnd ts) → (ts : Tokens) (ds : List Decl) → DerivesMany D ts ds → NoEnd ts
many_no_end f _ _ DerivesMany.none = tt
many_no_end f _ _ (DerivesMany.more ts ss us ds es d s e) = joined ts (ss ++ us) (f ts ds d) (joined ss us (semicolon_no_end ss s) (many_no_end f us es e))

pub assuming_no_end : {limit : Limit} (ts : Tokens) (ds : List Decl) → DerivesAssuming limit ts ds → NoEnd ts
assuming_no_end _ _ DerivesAssuming.none = tt
assuming_no_end _ _ (DerivesAssuming.assuming ts ds t u is d end) = (ap is_end is, joined ts (u ∷ []) (many_no_end (λ ts ds d. assumed_no_end ts ds d) ts ds d) (ap is_end end, tt))

-- ---- the last of the tokens

-- whether the last of the tokens is END; where there are none, what is handed in
abbrev pub last_is_end : Bool → Tokens → Bool
last_is_end b [] = b
last_is_end b (t ∷ ts) = last_is_end (is_end t.kind) ts

pub last_of : (b : Bool) (ts us : Tokens) → last_is_end b (ts ++ us) ≡ last_is_end (last_is_end b ts) us
last_of b [] us = refl
last_of b (t ∷ ts) us = last_of (is_end t.kind) ts us

pub last_plain : (ts : Tokens) → NoEnd ts → last_is_end false ts ≡ false
last_plain [] a = refl
last_plain (t ∷ ts) a = ap (λ b. last_is_end b ts) a.0 ∙ last_plain ts a.1

-- after a terminal
pub last_behind : (t : Terminal) (ts : Tokens) → is_end t.kind ≡ false → NoEnd ts → last_is_end true (t ∷ ts) ≡ false
last_behind t ts e a = ap (λ b. last_is_end b ts) e ∙ last_plain ts a

-- where there are tokens, what is handed in does not count
pub last_any : (b : Bool) (ts : Tokens) → last_is_end true ts ≡ false → last_is_end b ts ≡ false
last_any true ts e = e
last_any false [] e = cc
last_any false (t ∷ ts) e = e
