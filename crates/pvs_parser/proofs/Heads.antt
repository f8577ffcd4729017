-- The first terminal of a form.
use Rattle.std.proofs.Common.{◌≡◌, true, false, [], ◌∷◌, ◌++◌, refl, ap, Some}
use Rattle.pvs_parser.specs.declared.nesting.Nesting.{Nesting}
use Rattle.pvs_parser.specs.declared.terminal.Terminal.{Terminal}
use Rattle.pvs_parser.specs.declared.terminal.TerminalKind.{TerminalKind}
use Rattle.pvs_parser.specs.declared.terminal.TerminalKind.TheVariants as kind
use Rattle.pvs_syntax.specs.declared.expression.BinderWord.{BinderWord}
use Rattle.pvs_parser.specs.Terminals.{IsId, is_id}
use Rattle.pvs_parser.specs.Language.{Limit, Tokens, Derives, Plain, Form, Item, Nonterminal, form, item, list, name, inst, type_, TreeOf, operand_form, begins_type, binder_word}
use Rattle.pvs_parser.specs.code.Descent.{starts_type}

-- an identifier stands first
abbrev pub IdFirst : Tokens → Type 0
IdFirst ts = (t : Terminal) × (us : Tokens) × (ts ≡ t ∷ us) × IsId t

-- no bracket or brace stands first
abbrev pub NoTypeFirst : Tokens → Type 0
NoTypeFirst ts = (t : Terminal) × (us : Tokens) × (ts ≡ t ∷ us) × (begins_type t.kind ≡ false)

-- a terminal that may begin a type stands first
abbrev pub TypeFirst : Tokens → Type 0
TypeFirst ts = (t : Terminal) × (us : Tokens) × (ts ≡ t ∷ us) × (starts_type t.kind ≡ true)

abbrev pub Heads : Nonterminal → Tokens → Type 0
Heads (form f) ts = NoTypeFirst ts
Heads name ts = IdFirst ts
Heads inst ts = IdFirst ts
Heads type_ ts = TypeFirst ts
Heads (item Item.BareVariable) ts = IdFirst ts
Heads (list Item.BareVariable) ts = IdFirst ts
Heads _ ts = Unit {0}

id_no_type : (k : TerminalKind) → is_id k ≡ true → begins_type k ≡ false
id_no_type kind.Id e = refl
id_no_type kind.Proof e = refl
id_no_type _ e = cc

id_type : (k : TerminalKind) → is_id k ≡ true → starts_type k ≡ true
id_type kind.Id e = refl
id_type kind.Proof e = refl
id_type _ e = cc

binder_no_type : (k : TerminalKind) (w : BinderWord) → binder_word k ≡ Some w → begins_type k ≡ false
binder_no_type kind.OpenBracket w e = cc
binder_no_type kind.OpenBrace w e = cc
binder_no_type _ w e = refl

front : (ts us : Tokens) → NoTypeFirst ts → NoTypeFirst (ts ++ us)
front ts us f = (f.0, f.1 ++ us, ap (λ z. z ++ us) f.2, f.3)

id_front : (ts us : Tokens) → IdFirst ts → IdFirst (ts ++ us)
id_front ts us f = (f.0, f.1 ++ us, ap (λ z. z ++ us) f.2, f.3)

one_heads : (i : Item) (ts us : Tokens) → Heads (item i) ts → Heads (list i) (ts ++ us)
one_heads Item.Expression ts us f = tt
one_heads Item.Parameter ts us f = tt
one_heads Item.Component ts us f = tt
one_heads Item.Variable ts us f = tt
one_heads Item.BareVariable ts us f = id_front ts us f
one_heads Item.Definition ts us f = tt

alone_heads : (i : Item) (ts : Tokens) → Heads (item i) ts → Heads (list i) ts
alone_heads Item.Expression ts f = tt
alone_heads Item.Parameter ts f = tt
alone_heads Item.Component ts f = tt
alone_heads Item.Variable ts f = tt
alone_heads Item.BareVariable ts f = f
alone_heads Item.Definition ts f = tt

pub heads : {limit : Limit} (s : Nonterminal) (l : Nesting) (ts : Tokens) (x : TreeOf s) (m : Nesting) → Derives limit s l ts x m → Heads s ts
heads _ _ _ _ _ (Derives.one i l m ts x d) = alone_heads i ts (heads (item i) l ts x m d)
heads _ _ _ _ _ (Derives.more i l k m ts us x xs t d is e lt) = one_heads i ts (t ∷ us) (heads (item i) l ts x k d)
heads _ _ _ _ _ (Derives.alone c e l m ts x d) = heads (form (operand_form c e)) l ts x m d
heads _ _ _ _ _ (Derives.joined c e l k m ts us x y t d is lt f) = front ts (t ∷ us) (heads (form (operand_form c Plain)) l ts x k d)
heads _ _ _ _ _ (Derives.compared l m ts x d) = heads (form Form.Comparisons) l ts x m d
heads _ _ _ _ _ (Derives.prefixed e l m ts x d) = heads (form (Form.Prefixed e)) l ts x m d
heads _ _ _ _ _ (Derives.compared_prefixed e l k m ts us x y w t d is lt f) = front ts (t ∷ us) (heads (form Form.Comparisons) l ts x k d)
heads _ _ _ _ _ (Derives.term b l m ts x d) = heads (form (Form.Term b)) l ts x m d
heads _ _ _ _ _ (Derives.compares b l k m ts us x y w t d is lt f) = front ts (t ∷ us) (heads (form Form.Comparisons) l ts x k d)
heads _ _ _ _ _ (Derives.not e l m ts x t is lt d) = (t, ts, refl, ap begins_type is)
heads _ _ _ _ _ (Derives.binder e l k m ts us bs x w t u v c is lt opened lt2 d close colon f) = (t, _, refl, binder_no_type t.kind w is)
heads _ _ _ _ _ (Derives.bare_binder e l k m ts us bs x w t c is lt d colon f) = (t, _, refl, binder_no_type t.kind w is)
heads _ _ _ _ _ (Derives.let_in e l k m ts us ps x t u is lt d in_ f) = (t, _, refl, ap begins_type is)
heads _ _ _ _ _ (Derives.truth l t is) = (t, [], refl, ap begins_type is)
heads _ _ _ _ _ (Derives.falsity l t is) = (t, [], refl, ap begins_type is)
heads _ _ _ _ _ (Derives.name_term l m ts x d) = let f = heads name l ts x m d in (f.0, f.1, f.2, id_no_type f.0.kind f.3)
heads _ _ _ _ _ (Derives.group l k ts xs t u is lt d close) = (t, _, refl, ap begins_type is)
heads _ _ _ _ _ (Derives.cond l k j m ts us vs c x y t u is lt d behind e f) = (t, _, refl, ap begins_type is)
heads _ _ _ _ _ (Derives.else_ l m ts x t u is d end) = (t, _, refl, ap begins_type is)
heads _ _ _ _ _ (Derives.elsif l k j m ts us vs c x y t u is lt d behind e f) = (t, _, refl, ap begins_type is)
heads _ _ _ _ _ (Derives.call b l k j ts us f xs t u d is lt e close) = front ts (t ∷ (us ++ u ∷ [])) (heads (form (Form.Term b)) l ts f k d)
heads _ _ _ _ _ (Derives.project b l k ts x t u d is lt number) = front ts (t ∷ u ∷ []) (heads (form (Form.Term b)) l ts x k d)
heads _ _ _ _ _ (Derives.plain_name l t is) = (t, [], refl, is)
heads _ _ _ _ _ (Derives.qualified_name l m ts i t u d dot is) = id_front ts (t ∷ u ∷ []) (heads inst l ts i m d)
heads _ _ _ _ _ (Derives.plain_inst l t is) = (t, [], refl, is)
heads _ _ _ _ _ (Derives.inst_with l k ts xs t u v is opened lt d close) = (t, _, refl, is)
heads _ _ _ _ _ (Derives.name_type l m ts x d) = let f = heads name l ts x m d in (f.0, f.1, f.2, id_type f.0.kind f.3)
heads _ _ _ _ _ (Derives.pred_type l k ts x t u is lt d close) = (t, _, refl, ap starts_type is)
heads _ _ _ _ _ (Derives.sub_type l k m ts us a x t u v w y is lt id colon d bar e close) = (t, _, refl, ap starts_type is)
heads _ _ _ _ _ (Derives.tuple_type l k ts b c bs t u is lt d close) = (t, _, refl, ap starts_type is)
heads _ _ _ _ _ (Derives.fun_type l k m ts us bs a t u v is lt d arrow e close) = (t, _, refl, ap starts_type is)
heads _ _ _ _ _ (Derives.bare_variable l t is) = (t, [], refl, is)
heads _ _ _ _ _ _ = tt
