-- The tokens of a form begin with a token at the place of its tree.
use Rattle.std.proofs.Common.{◌≡◌, ◌∙◌, refl, sym, ap, List, [], ◌∷◌, ◌++◌}
use Rattle.pvs_base.specs.declared.place.Pos.{Pos}
use Rattle.pvs_syntax.specs.declared.expression.Expr.{Expr}
use Rattle.pvs_syntax.specs.declared.expression.NameExpr.{NameExpr}
use Rattle.pvs_syntax.specs.declared.expression.TypeExpr.{TypeExpr}
use Rattle.pvs_syntax.specs.Places.{place_of, place_of_type, place_of_inst, place_of_name}
use Rattle.pvs_syntax.proofs.PlaceLaws.{truth_place, name_term_place, apply_place, project_place, paren_place, tuple_place, cond_place, binder_place, let_place, not_place, infix_place, name_type_place, fun_type_place, tuple_type_place, sub_type_place, pred_type_place, inst_place, simple_name_place, name_with_theory_place}
use Rattle.pvs_parser.specs.declared.nesting.Nesting.{Nesting}
use Rattle.pvs_parser.specs.declared.terminal.Connective.{Connective}
use Rattle.pvs_parser.specs.declared.terminal.Connective.TheVariants as connective
use Rattle.pvs_parser.specs.Language.{Limit, Tokens, Derives, Plain, Form, Ending, Nonterminal, form, name, inst, type_, TreeOf, operand_form, whole, group_tree, operator}
use Rattle.pvs_parser.specs.FirstTokens.{StartsAt}

pub front : (ts us : Tokens) (pos : Pos) → StartsAt ts pos → StartsAt (ts ++ us) pos
front ts us pos f = (f.0, f.1 ++ us, ap (λ z. z ++ us) f.2, f.3)

pub moved : (ts : Tokens) (pos at : Pos) → at ≡ pos → StartsAt ts pos → StartsAt ts at
moved ts pos at e f = (f.0, f.1, f.2, f.3 ∙ sym e)

-- what stands after THEN and an expression may begin with ELSE, and a list has no place
abbrev Begins : (s : Nonterminal) → Tokens → TreeOf s → Type 0
Begins (form Form.Otherwise) ts x = Unit {0}
Begins (form f) ts x = StartsAt ts (place_of x)
Begins name ts x = StartsAt ts (place_of_name x)
Begins inst ts x = StartsAt ts (place_of_inst x)
Begins type_ ts x = StartsAt ts (place_of_type x)
Begins _ ts x = Unit {0}

operand_begins : (c : Connective) (e : Ending) (ts : Tokens) (x : Expr) → Begins (form (operand_form c e)) ts x → StartsAt ts (place_of x)
operand_begins connective.Iff e ts x h = h
operand_begins connective.Implies e ts x h = h
operand_begins connective.Or e ts x h = h
operand_begins connective.And e ts x h = h

group_place : (pos : Pos) (xs : List Expr) → place_of (group_tree pos xs) ≡ pos
group_place pos [] = tuple_place [] pos
group_place pos (x ∷ []) = paren_place x pos
group_place pos (x ∷ y ∷ xs) = tuple_place (x ∷ y ∷ xs) pos

begins : {limit : Limit} (s : Nonterminal) (l : Nesting) (ts : Tokens) (x : TreeOf s) (m : Nesting) → Derives limit s l ts x m
    → Begins s ts x
begins _ _ _ _ _ (Derives.alone c e l m ts x d) = operand_begins c e ts x (begins (form (operand_form c e)) l ts x m d)
begins _ _ _ _ _ (Derives.joined c e l k m ts us x y t d is lt f) =
    moved _ _ _ (infix_place (operator c) x y) (front ts (t ∷ us) _ (operand_begins c Plain ts x (begins (form (operand_form c Plain)) l ts x k d)))
begins _ _ _ _ _ (Derives.compared l m ts x d) = begins (form Form.Comparisons) l ts x m d
begins _ _ _ _ _ (Derives.prefixed e l m ts x d) = begins (form (Form.Prefixed e)) l ts x m d
begins _ _ _ _ _ (Derives.compared_prefixed e l k m ts us x y w t d is lt f) =
    moved _ _ _ (infix_place w x y) (front ts (t ∷ us) _ (begins (form Form.Comparisons) l ts x k d))
begins _ _ _ _ _ (Derives.term b l m ts x d) = begins (form (Form.Term b)) l ts x m d
begins _ _ _ _ _ (Derives.compares b l k m ts us x y w t d is lt f) =
    moved _ _ _ (infix_place w x y) (front ts (t ∷ us) _ (begins (form Form.Comparisons) l ts x k d))
begins _ _ _ _ _ (Derives.not e l m ts x t is lt d) = (t, ts, refl, sym (not_place x t.word.pos))
begins _ _ _ _ _ (Derives.binder e l k m ts us bs x w t u v c is lt opened lt2 d close colon f) =
    (t, _, refl, sym (binder_place w bs x t.word.pos))
begins _ _ _ _ _ (Derives.bare_binder e l k m ts us bs x w t c is lt d colon f) = (t, _, refl, sym (binder_place w bs x t.word.pos))
begins _ _ _ _ _ (Derives.let_in e l k m ts us ps x t u is lt d in_ f) = (t, _, refl, sym (let_place ps x t.word.pos))
begins _ _ _ _ _ (Derives.truth l t is) = (t, [], refl, sym (truth_place _ t.word.pos))
begins _ _ _ _ _ (Derives.falsity l t is) = (t, [], refl, sym (truth_place _ t.word.pos))
begins _ _ _ _ _ (Derives.name_term l m ts x d) = moved _ _ _ (name_term_place x) (begins name l ts x m d)
begins _ _ _ _ _ (Derives.group l k ts xs t u is lt d close) = (t, _, refl, sym (group_place t.word.pos xs))
begins _ _ _ _ _ (Derives.cond l k j m ts us vs c x y t u is lt d then_ e f) = (t, _, refl, sym (cond_place c x y t.word.pos))
begins _ _ _ _ _ (Derives.call b l k j ts us f xs t u d is lt e close) =
    moved _ _ _ (apply_place f xs) (front ts (t ∷ (us ++ u ∷ [])) _ (begins (form (Form.Term b)) l ts f k d))
begins _ _ _ _ _ (Derives.project b l k ts x t u d is lt number) =
    moved _ _ _ (project_place x u.word) (front ts (t ∷ u ∷ []) _ (begins (form (Form.Term b)) l ts x k d))
begins _ _ _ _ _ (Derives.plain_name l t is) = (t, [], refl, sym (simple_name_place t.word))
begins _ _ _ _ _ (Derives.qualified_name l m ts i t u d dot is) =
    moved _ _ _ (name_with_theory_place i u.word) (front ts (t ∷ u ∷ []) _ (begins inst l ts i m d))
begins _ _ _ _ _ (Derives.plain_inst l t is) = (t, [], refl, sym (inst_place t.word []))
begins _ _ _ _ _ (Derives.inst_with l k ts xs t u v is opened lt d close) = (t, _, refl, sym (inst_place t.word xs))
begins _ _ _ _ _ (Derives.name_type l m ts x d) = moved _ _ _ (name_type_place x) (begins name l ts x m d)
begins _ _ _ _ _ (Derives.pred_type l k ts x t u is lt d close) = (t, _, refl, sym (pred_type_place x t.word.pos))
begins _ _ _ _ _ (Derives.sub_type l k m ts us a x t u v w y is lt id colon d bar e close) =
    (t, _, refl, sym (sub_type_place u.word a x t.word.pos))
begins _ _ _ _ _ (Derives.tuple_type l k ts b c bs t u is lt d close) = (t, _, refl, sym (tuple_type_place (b ∷ c ∷ bs) t.word.pos))
begins _ _ _ _ _ (Derives.fun_type l k m ts us bs a t u v is lt d arrow e close) = (t, _, refl, sym (fun_type_place bs a t.word.pos))
begins _ _ _ _ _ _ = tt

pub expr_starts : (limit : Limit) (e : Ending) (l m : Nesting) (ts : Tokens) (x : Expr) → Derives limit (whole e) l ts x m
    → StartsAt ts (place_of x)
expr_starts limit e l m ts x d = begins (whole e) l ts x m d

pub type_starts : (limit : Limit) (l m : Nesting) (ts : Tokens) (a : TypeExpr) → Derives limit type_ l ts a m
    → StartsAt ts (place_of_type a)
type_starts limit l m ts a d = begins type_ l ts a m d

pub name_starts : (limit : Limit) (l m : Nesting) (ts : Tokens) (n : NameExpr) → Derives limit name l ts n m → StartsAt ts (place_of_name n)
name_starts limit l m ts n d = begins name l ts n m d
