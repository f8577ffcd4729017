-- No form of the grammar is empty.
use Rattle.std.proofs.Common.{◌≡◌, [], ◌∷◌, ◌++◌, refl, ap}
use Rattle.pvs_parser.specs.declared.nesting.Nesting.{Nesting}
use Rattle.pvs_parser.specs.declared.terminal.Connective.TheVariants as connective
use Rattle.pvs_parser.specs.declared.terminal.Terminal.{Terminal}
use Rattle.pvs_parser.specs.Language.{Limit, Tokens, Derives, Plain, Form, Nonterminal, form, item, name, inst, TreeOf, operand_form}

abbrev pub Nonempty : Tokens → Type 0
Nonempty ts = (t : Terminal) × (us : Tokens) × (ts ≡ t ∷ us)

front : (ts us : Tokens) → Nonempty ts → Nonempty (ts ++ us)
front ts us f = (f.0, f.1 ++ us, ap (λ z. z ++ us) f.2)

pub nonempty : {limit : Limit} (s : Nonterminal) (l : Nesting) (ts : Tokens) (x : TreeOf s) (m : Nesting) → Derives limit s l ts x m → Nonempty ts
nonempty _ _ _ _ _ (Derives.one i l m ts x d) = nonempty (item i) l ts x m d
nonempty _ _ _ _ _ (Derives.more i l k m ts us x xs t d is e lt) = front ts (t ∷ us) (nonempty (item i) l ts x k d)
nonempty _ _ _ _ _ (Derives.expression e l m ts x d) = nonempty (form (Form.Chain connective.Iff e)) l ts x m d
nonempty _ _ _ _ _ (Derives.alone c e l m ts x d) = nonempty (form (operand_form c e)) l ts x m d
nonempty _ _ _ _ _ (Derives.joined c e l k m ts us x y t d is lt f) = front ts (t ∷ us) (nonempty (form (operand_form c Plain)) l ts x k d)
nonempty _ _ _ _ _ (Derives.compared l m ts x d) = nonempty (form Form.Comparisons) l ts x m d
nonempty _ _ _ _ _ (Derives.prefixed e l m ts x d) = nonempty (form (Form.Prefixed e)) l ts x m d
nonempty _ _ _ _ _ (Derives.compared_prefixed e l k m ts us x y w t d is lt f) = front ts (t ∷ us) (nonempty (form Form.Comparisons) l ts x k d)
nonempty _ _ _ _ _ (Derives.term b l m ts x d) = nonempty (form (Form.Term b)) l ts x m d
nonempty _ _ _ _ _ (Derives.compares b l k m ts us x y w t d is lt f) = front ts (t ∷ us) (nonempty (form Form.Comparisons) l ts x k d)
nonempty _ _ _ _ _ (Derives.not e l m ts x t is lt d) = (t, ts, refl)
nonempty _ _ _ _ _ (Derives.binder e l k m ts us bs x w t u v c is lt opened lt2 d close colon f) = (t, _, refl)
nonempty _ _ _ _ _ (Derives.bare_binder e l k m ts us bs x w t c is lt d colon f) = (t, _, refl)
nonempty _ _ _ _ _ (Derives.let_in e l k m ts us ps x t u is lt d in_ f) = (t, _, refl)
nonempty _ _ _ _ _ (Derives.truth l t is) = (t, [], refl)
nonempty _ _ _ _ _ (Derives.falsity l t is) = (t, [], refl)
nonempty _ _ _ _ _ (Derives.name_term l m ts x d) = nonempty name l ts x m d
nonempty _ _ _ _ _ (Derives.group l k ts xs t u is lt d close) = (t, _, refl)
nonempty _ _ _ _ _ (Derives.cond l k j m ts us vs c x y t u is lt d behind e f) = (t, _, refl)
nonempty _ _ _ _ _ (Derives.else_ l m ts x t u is d end) = (t, _, refl)
nonempty _ _ _ _ _ (Derives.elsif l k j m ts us vs c x y t u is lt d behind e f) = (t, _, refl)
nonempty _ _ _ _ _ (Derives.call b l k j ts us f xs t u d is lt e close) = front ts (t ∷ (us ++ u ∷ [])) (nonempty (form (Form.Term b)) l ts f k d)
nonempty _ _ _ _ _ (Derives.project b l k ts x t u d is lt number) = front ts (t ∷ u ∷ []) (nonempty (form (Form.Term b)) l ts x k d)
nonempty _ _ _ _ _ (Derives.plain_name l t is) = (t, [], refl)
nonempty _ _ _ _ _ (Derives.qualified_name l m ts i t u d dot is) = front ts (t ∷ u ∷ []) (nonempty inst l ts i m d)
nonempty _ _ _ _ _ (Derives.plain_inst l t is) = (t, [], refl)
nonempty _ _ _ _ _ (Derives.inst_with l k ts xs t u v is opened lt d close) = (t, _, refl)
nonempty _ _ _ _ _ (Derives.expr_actual e l m ts x d) = nonempty (form (Form.Chain connective.Iff e)) l ts x m d
nonempty _ _ _ _ _ (Derives.type_actual l m ts a t is d) = (t, ts, refl)
nonempty _ _ _ _ _ (Derives.name_type l m ts x d) = nonempty name l ts x m d
nonempty _ _ _ _ _ (Derives.pred_type l k ts x t u is lt d close) = (t, _, refl)
nonempty _ _ _ _ _ (Derives.sub_type l k m ts us a x t u v w y is lt id colon d bar e close) = (t, _, refl)
nonempty _ _ _ _ _ (Derives.tuple_type l k ts b c bs t u is lt d close) = (t, _, refl)
nonempty _ _ _ _ _ (Derives.fun_type l k m ts us bs a t u v is lt d arrow e close) = (t, _, refl)
nonempty _ _ _ _ _ (Derives.named_component l m ts a t u is colon d) = (t, _, refl)
nonempty _ _ _ _ _ (Derives.component l m ts a t d) = (t, ts, refl)
nonempty _ _ _ _ _ (Derives.untyped_variable l t is) = (t, [], refl)
nonempty _ _ _ _ _ (Derives.typed_variable l m ts a t u is colon d) = (t, _, refl)
nonempty _ _ _ _ _ (Derives.bare_variable l t is) = (t, [], refl)
nonempty _ _ _ _ _ (Derives.untyped_part e l m ts x t u is equal d) = (t, _, refl)
nonempty _ _ _ _ _ (Derives.typed_part e l k m ts us a x t u v is colon d equal f) = (t, _, refl)
