-- What is derived within a limit is derived within a wider one.
use Rattle.std.proofs.Common.{length}
use Rattle.pvs_parser.specs.declared.nesting.Nesting.{Nesting}
use Rattle.pvs_parser.specs.Language.{Limit, Tokens, Derives, Plain, Form, Item, Nonterminal, form, item, list, name, inst, type_, TreeOf, level, with_lasting_mark, without_marks, in_frame, with_mark, before_call, operand_form, whole}
use Rattle.pvs_parser.proofs.Halts.{Wider}

pub widen : {limit w : Limit} → Wider limit w → (s : Nonterminal) (l : Nesting) (ts : Tokens) (x : TreeOf s) (m : Nesting) → Derives limit s l ts x m → Derives w s l ts x m
widen wide _ _ _ _ _ (Derives.one i l m ts x d) = Derives.one i l m ts x (widen wide (item i) l ts x m d)
widen wide _ _ _ _ _ (Derives.more i l k m ts us x xs t d is e lt) = Derives.more i l k m ts us x xs t (widen wide (item i) l ts x k d) is (widen wide (list i) (without_marks k) us xs m e) (wide.below (length xs) lt)
widen wide _ _ _ _ _ (Derives.expression e l m ts x d) = Derives.expression e l m ts x (widen wide (whole e) l ts x m d)
widen wide _ _ _ _ _ (Derives.alone c e l m ts x d) = Derives.alone c e l m ts x (widen wide (form (operand_form c e)) l ts x m d)
widen wide _ _ _ _ _ (Derives.joined c e l k m ts us x y t d is lt f) =
    Derives.joined c e l k m ts us x y t (widen wide (form (operand_form c Plain)) l ts x k d) is (wide.below (level k) lt) (widen wide (form (Form.Chain c e)) (with_mark k) us y m f)
widen wide _ _ _ _ _ (Derives.compared l m ts x d) = Derives.compared l m ts x (widen wide (form Form.Comparisons) l ts x m d)
widen wide _ _ _ _ _ (Derives.prefixed e l m ts x d) = Derives.prefixed e l m ts x (widen wide (form (Form.Prefixed e)) l ts x m d)
widen wide _ _ _ _ _ (Derives.compared_prefixed e l k m ts us x y w t d is lt f) =
    Derives.compared_prefixed e l k m ts us x y w t (widen wide (form Form.Comparisons) l ts x k d) is (wide.below (level k) lt) (widen wide (form (Form.Prefixed e)) (with_mark k) us y m f)
widen wide _ _ _ _ _ (Derives.term b l m ts x d) = Derives.term b l m ts x (widen wide (form (Form.Term b)) l ts x m d)
widen wide _ _ _ _ _ (Derives.compares b l k m ts us x y w t d is lt f) =
    Derives.compares b l k m ts us x y w t (widen wide (form Form.Comparisons) l ts x k d) is (wide.below (level k) lt) (widen wide (form (Form.Term b)) (with_mark k) us y m f)
widen wide _ _ _ _ _ (Derives.not e l m ts x t is lt d) = Derives.not e l m ts x t is (wide.below (level l) lt) (widen wide (form (Form.Operand e)) (with_mark l) ts x m d)
widen wide _ _ _ _ _ (Derives.binder e l k m ts us bs x w t u v c is lt opened lt2 d close colon f) =
    Derives.binder e l k m ts us bs x w t u v c is (wide.below (level l) lt) opened (wide.below (level (with_lasting_mark l)) lt2) (widen wide (list Item.Variable) (in_frame (with_lasting_mark l)) ts bs k d) close colon (widen wide (whole e) (with_lasting_mark l) us x m f)
widen wide _ _ _ _ _ (Derives.bare_binder e l k m ts us bs x w t c is lt d colon f) =
    Derives.bare_binder e l k m ts us bs x w t c is (wide.below (level l) lt) (widen wide (list Item.BareVariable) (with_lasting_mark l) ts bs k d) colon (widen wide (whole e) k us x m f)
widen wide _ _ _ _ _ (Derives.let_in e l k m ts us ps x t u is lt d in_ f) =
    Derives.let_in e l k m ts us ps x t u is (wide.below (level l) lt) (widen wide (list Item.Definition) (with_lasting_mark l) ts ps k d) in_ (widen wide (whole e) k us x m f)
widen wide _ _ _ _ _ (Derives.truth l t is) = Derives.truth l t is
widen wide _ _ _ _ _ (Derives.falsity l t is) = Derives.falsity l t is
widen wide _ _ _ _ _ (Derives.name_term l m ts x d) = Derives.name_term l m ts x (widen wide name l ts x m d)
widen wide _ _ _ _ _ (Derives.group l k ts xs t u is lt d close) = Derives.group l k ts xs t u is (wide.below (level l) lt) (widen wide (list Item.Expression) (in_frame l) ts xs k d) close
widen wide _ _ _ _ _ (Derives.cond l k j m ts us vs c x y t u is lt d behind e f) =
    Derives.cond l k j m ts us vs c x y t u is (wide.below (level l) lt) (widen wide (item Item.Expression) (in_frame l) ts c k d) behind (widen wide (item Item.Expression) (without_marks k) us x j e) (widen wide (form Form.Otherwise) j vs y m f)
widen wide _ _ _ _ _ (Derives.else_ l m ts x t u is d end) = Derives.else_ l m ts x t u is (widen wide (item Item.Expression) (without_marks l) ts x m d) end
widen wide _ _ _ _ _ (Derives.elsif l k j m ts us vs c x y t u is lt d behind e f) =
    Derives.elsif l k j m ts us vs c x y t u is (wide.below (level (without_marks l)) lt) (widen wide (item Item.Expression) (with_lasting_mark (without_marks l)) ts c k d) behind (widen wide (item Item.Expression) (without_marks k) us x j e) (widen wide (form Form.Otherwise) j vs y m f)
widen wide _ _ _ _ _ (Derives.call b l k j ts us f xs t u d is lt e close) =
    Derives.call b l k j ts us f xs t u (widen wide (form (Form.Term b)) l ts f k d) is (wide.below (level (before_call b k)) lt) (widen wide (list Item.Expression) (in_frame (before_call b k)) us xs j e) close
widen wide _ _ _ _ _ (Derives.project b l k ts x t u d is lt number) = Derives.project b l k ts x t u (widen wide (form (Form.Term b)) l ts x k d) is (wide.below (level k) lt) number
widen wide _ _ _ _ _ (Derives.plain_name l t is) = Derives.plain_name l t is
widen wide _ _ _ _ _ (Derives.qualified_name l m ts i t u d dot is) = Derives.qualified_name l m ts i t u (widen wide inst l ts i m d) dot is
widen wide _ _ _ _ _ (Derives.plain_inst l t is) = Derives.plain_inst l t is
widen wide _ _ _ _ _ (Derives.inst_with l k ts xs t u v is opened lt d close) = Derives.inst_with l k ts xs t u v is opened (wide.below (level l) lt) (widen wide (list Item.Parameter) (in_frame l) ts xs k d) close
widen wide _ _ _ _ _ (Derives.expr_actual e l m ts x d) = Derives.expr_actual e l m ts x (widen wide (whole e) l ts x m d)
widen wide _ _ _ _ _ (Derives.type_actual l m ts a t is d) = Derives.type_actual l m ts a t is (widen wide type_ l _ a m d)
widen wide _ _ _ _ _ (Derives.name_type l m ts x d) = Derives.name_type l m ts x (widen wide name l ts x m d)
widen wide _ _ _ _ _ (Derives.pred_type l k ts x t u is lt d close) = Derives.pred_type l k ts x t u is (wide.below (level l) lt) (widen wide (item Item.Expression) (in_frame l) ts x k d) close
widen wide _ _ _ _ _ (Derives.sub_type l k m ts us a x t u v w y is lt id colon d bar e close) =
    Derives.sub_type l k m ts us a x t u v w y is (wide.below (level l) lt) id colon (widen wide type_ (in_frame l) ts a k d) bar (widen wide (item Item.Expression) k us x m e) close
widen wide _ _ _ _ _ (Derives.tuple_type l k ts b c bs t u is lt d close) = Derives.tuple_type l k ts b c bs t u is (wide.below (level l) lt) (widen wide (list Item.Component) (in_frame l) ts _ k d) close
widen wide _ _ _ _ _ (Derives.fun_type l k m ts us bs a t u v is lt d arrow e close) =
    Derives.fun_type l k m ts us bs a t u v is (wide.below (level l) lt) (widen wide (list Item.Component) (in_frame l) ts bs k d) arrow (widen wide type_ k us a m e) close
widen wide _ _ _ _ _ (Derives.named_component l m ts a t u is colon d) = Derives.named_component l m ts a t u is colon (widen wide type_ l ts a m d)
widen wide _ _ _ _ _ (Derives.component l m ts a t d) = Derives.component l m ts a t (widen wide type_ l _ a m d)
widen wide _ _ _ _ _ (Derives.untyped_variable l t is) = Derives.untyped_variable l t is
widen wide _ _ _ _ _ (Derives.typed_variable l m ts a t u is colon d) = Derives.typed_variable l m ts a t u is colon (widen wide type_ l ts a m d)
widen wide _ _ _ _ _ (Derives.bare_variable l t is) = Derives.bare_variable l t is
widen wide _ _ _ _ _ (Derives.untyped_part e l m ts x t u is equal d) = Derives.untyped_part e l m ts x t u is equal (widen wide (whole e) l ts x m d)
widen wide _ _ _ _ _ (Derives.typed_part e l k m ts us a x t u v is colon d equal f) =
    Derives.typed_part e l k m ts us a x t u v is colon (widen wide type_ l ts a k d) equal (widen wide (whole e) k us x m f)

-- the same, where the derivation shows what is derived
pub wider : {limit w : Limit} {s : Nonterminal} {l m : Nesting} {ts : Tokens} {x : TreeOf s} → Wider limit w → Derives limit s l ts x m → Derives w s l ts x m
wider {s = s} {l = l} {m = m} {ts = ts} {x = x} wide d = widen wide s l ts x m d
