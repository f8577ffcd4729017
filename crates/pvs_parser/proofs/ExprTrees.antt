-- What the grammar derives of the terminals of a text is a tree of the text.
use Rattle.std.proofs.Common.{◌≡◌, ◌∙◌, ◌≤◌, ◌&&◌, ℕ, Bool, true, false, List, [], ◌∷◌, ◌++◌, length, refl, ap, arith}
use Rattle.std.specs.Cmp.Derive.{both_true}
use Rattle.std.specs.List.{list_all}
use Rattle.std.proofs.lemmas.Bool.{lt-ltb, le-leb, eq-eqb, or_left, or_right}
use Rattle.pvs_base.specs.declared.place.Pos.{Pos}
use Rattle.pvs_syntax.specs.declared.expression.Expr.{Expr}
use Rattle.pvs_syntax.specs.Trees.{Origin, has_entries, is_missing_name_in, is_actual_in, is_expr_in, type_in, binding_in, inst_in, is_part_in, name_in}
use Rattle.pvs_syntax.proofs.TreeLaws.{truth_is, name_term_is, apply_is, project_is, paren_is, tuple_is, cond_is, binder_is, let_is, not_is, infix_is, name_type_is, fun_type_is, tuple_type_is, sub_type_is, pred_type_is, expr_actual_is, type_actual_is, untyped_is, typed_is, inst_is, untyped_part_is, typed_part_is, simple_name_is, name_with_theory_is}
use Rattle.pvs_parser.specs.declared.nesting.Nesting.{Nesting}
use Rattle.pvs_parser.specs.declared.terminal.Terminal.{Terminal}
use Rattle.pvs_parser.specs.Language.{Tokens, Derives, Plain, Form, Item, ItemTree, Nonterminal, form, item, list, name, inst, type_, TreeOf, language_limit, operand_form, whole, operator, group_tree, empty_word}
use Rattle.pvs_parser.specs.FirstTokens.{StartsAt}
use Rattle.pvs_parser.proofs.FirstTokens.{front, moved}
use Rattle.pvs_parser.proofs.TreeTokens.{IsTerminalOf, AreTerminalsOf, prefix_are, rest_are, identifier_in, number_in, same_places}

-- an item of a list is one of the text
abbrev pub is_item_in : Origin → (i : Item) → ItemTree i → Bool
is_item_in o Item.Expression x = is_expr_in o x
is_item_in o Item.Parameter a = is_actual_in o a
is_item_in o Item.Component b = (binding_in o b).0
is_item_in o Item.Variable b = (binding_in o b).1
is_item_in o Item.BareVariable b = (binding_in o b).1
is_item_in o Item.Definition p = is_part_in o p

-- a list of the text, of one item to 200
pub record IsListIn (o : Origin) (i : Item) (xs : List (ItemTree i)) : Type 0 where
  pub some : 1 ≤ length xs
  pub most : length xs ≤ 200
  pub items : list_all (is_item_in o i) xs ≡ true

-- a tree of the text; a type, an instance and a name have the place of their first token
abbrev pub IsIn : Origin → (s : Nonterminal) → Tokens → TreeOf s → Type 0
IsIn o (form f) ts x = is_expr_in o x ≡ true
IsIn o (item i) ts x = is_item_in o i x ≡ true
IsIn o (list i) ts xs = IsListIn o i xs
IsIn o name ts n = ((name_in o n).0 ≡ true) × StartsAt ts (name_in o n).1
IsIn o inst ts i = ((inst_in o i).0 ≡ true) × StartsAt ts (inst_in o i).1
IsIn o type_ ts a = ((type_in o a).0 ≡ true) × StartsAt ts (type_in o a).1

-- ---- Lists.

entries : (n size : ℕ) → n ≤ size → size ≤ 200 → has_entries n size ≡ true
entries n size some most = both_true (le-leb n size some) (le-leb size 200 most)

group_in : (o : Origin) (pos : Pos) (xs : List Expr) → IsListIn o Item.Expression xs → is_expr_in o (group_tree pos xs) ≡ true
group_in o pos [] h = absurd (let some = h.some in omega arith)
group_in o pos (x ∷ []) h = paren_is o x pos ∙ first_item (is_expr_in o x) h.items
  where
    first_item : (b : Bool) → (b && true) ≡ true → b ≡ true
    first_item true e = refl
    first_item false e = e
group_in o pos (x ∷ y ∷ xs) h = tuple_is o (x ∷ y ∷ xs) pos ∙ both_true (entries 2 (length (x ∷ y ∷ xs)) (omega arith) h.most) h.items

-- ---- Types and names.

starts : (ts : Tokens) (p q : Bool × Pos) → p ≡ q → q.0 ≡ true → StartsAt ts q.1 → (p.0 ≡ true) × StartsAt ts p.1
starts ts p q e is s = (ap (λ z. z.0) e ∙ is, moved ts q.1 p.1 (ap (λ z. z.1) e) s)

-- the empty word before the first token of a component
missing_in : (o : Origin) (t : Terminal) (ts : Tokens) (at : Pos) → IsTerminalOf o t → StartsAt (t ∷ ts) at
    → is_missing_name_in o (empty_word t.word) at ≡ true
missing_in o t ts at h s =
    both_true (both_true (eq-eqb t.word.start t.word.start refl) (lt-ltb t.word.start (length o.text) (omega (arith, h.order, h.end))))
    (both_true (same_places t.word.pos (o.place t.word.start) h.pos) (same_places t.word.pos at (ap (λ (z : Terminal). z.word.pos) (first_same s.2) ∙ s.3)))
  where
    first_same : {a b : Terminal} {us vs : Tokens} → a ∷ us ≡ b ∷ vs → a ≡ b
    first_same e = cc

-- ---- The grammar.

pub is_in : (o : Origin) (s : Nonterminal) (l : Nesting) (ts : Tokens) (x : TreeOf s) (m : Nesting) → Derives language_limit s l ts x m
    → AreTerminalsOf o ts → IsIn o s ts x
is_in o _ _ _ _ _ (Derives.one i l m ts x d) h =
    record { some = omega arith; most = omega arith; items = both_true (is_in o (item i) l ts x m d h) refl }
is_in o _ _ _ _ _ (Derives.more i l k m ts us x xs t d is e lt) h =
    let a = rest_are o ts (t ∷ us) h in
    let r = is_in o (list i) _ us xs m e a.1 in
    record { some = omega arith; most = omega (arith, lt); items = both_true (is_in o (item i) l ts x k d (prefix_are o ts (t ∷ us) h)) r.items }
is_in o _ _ _ _ _ (Derives.expression e l m ts x d) h = is_in o (whole e) l ts x m d h
is_in o _ _ _ _ _ (Derives.alone c e l m ts x d) h = is_in o (form (operand_form c e)) l ts x m d h
is_in o _ _ _ _ _ (Derives.joined c e l k m ts us x y t d is lt f) h =
    infix_is o (operator c) x y ∙ both_true (is_in o (form (operand_form c Plain)) l ts x k d (prefix_are o ts (t ∷ us) h)) (is_in o (form (Form.Chain c e)) _ us y m f (rest_are o ts (t ∷ us) h).1)
is_in o _ _ _ _ _ (Derives.compared l m ts x d) h = is_in o (form Form.Comparisons) l ts x m d h
is_in o _ _ _ _ _ (Derives.prefixed e l m ts x d) h = is_in o (form (Form.Prefixed e)) l ts x m d h
is_in o _ _ _ _ _ (Derives.compared_prefixed e l k m ts us x y w t d is lt f) h =
    infix_is o w x y ∙ both_true (is_in o (form Form.Comparisons) l ts x k d (prefix_are o ts (t ∷ us) h)) (is_in o (form (Form.Prefixed e)) _ us y m f (rest_are o ts (t ∷ us) h).1)
is_in o _ _ _ _ _ (Derives.term b l m ts x d) h = is_in o (form (Form.Term b)) l ts x m d h
is_in o _ _ _ _ _ (Derives.compares b l k m ts us x y w t d is lt f) h =
    infix_is o w x y ∙ both_true (is_in o (form Form.Comparisons) l ts x k d (prefix_are o ts (t ∷ us) h)) (is_in o (form (Form.Term b)) _ us y m f (rest_are o ts (t ∷ us) h).1)
is_in o _ _ _ _ _ (Derives.not e l m ts x t is lt d) h = not_is o x t.word.pos ∙ is_in o (form (Form.Operand e)) _ ts x m d h.1
is_in o _ _ _ _ _ (Derives.binder e l k m ts us bs x w t u v c is lt opened lt2 d close colon f) h =
    let b = is_in o (list Item.Variable) _ ts bs k d (prefix_are o ts (v ∷ c ∷ us) h.1.1) in
    binder_is o w bs x t.word.pos ∙ both_true (both_true (entries 1 (length bs) b.some b.most) b.items) (is_in o (whole e) _ us x m f (rest_are o ts (v ∷ c ∷ us) h.1.1).1.1)
is_in o _ _ _ _ _ (Derives.bare_binder e l k m ts us bs x w t c is lt d colon f) h =
    let b = is_in o (list Item.BareVariable) _ ts bs k d (prefix_are o ts (c ∷ us) h.1) in
    binder_is o w bs x t.word.pos ∙ both_true (both_true (entries 1 (length bs) b.some b.most) b.items) (is_in o (whole e) _ us x m f (rest_are o ts (c ∷ us) h.1).1)
is_in o _ _ _ _ _ (Derives.let_in e l k m ts us ps x t u is lt d in_ f) h =
    let b = is_in o (list Item.Definition) _ ts ps k d (prefix_are o ts (u ∷ us) h.1) in
    let_is o ps x t.word.pos ∙ both_true (both_true (entries 1 (length ps) b.some b.most) b.items) (is_in o (whole e) _ us x m f (rest_are o ts (u ∷ us) h.1).1)
is_in o _ _ _ _ _ (Derives.truth l t is) h = truth_is o true t.word.pos
is_in o _ _ _ _ _ (Derives.falsity l t is) h = truth_is o false t.word.pos
is_in o _ _ _ _ _ (Derives.name_term l m ts x d) h = name_term_is o x ∙ (is_in o name l ts x m d h).0
is_in o _ _ _ _ _ (Derives.group l k ts xs t u is lt d close) h =
    group_in o t.word.pos xs (is_in o (list Item.Expression) _ ts xs k d (prefix_are o ts (u ∷ []) h.1))
is_in o _ _ _ _ _ (Derives.cond l k j m ts us vs c x y t u is lt d then_ e f) h =
    let a = (rest_are o ts (u ∷ (us ++ vs)) h.1).1 in
    cond_is o c x y t.word.pos
    ∙ both_true (is_in o (item Item.Expression) _ ts c k d (prefix_are o ts (u ∷ (us ++ vs)) h.1))
    (both_true (is_in o (item Item.Expression) _ us x j e (prefix_are o us vs a)) (is_in o (form Form.Otherwise) _ vs y m f (rest_are o us vs a)))
is_in o _ _ _ _ _ (Derives.else_ l m ts x t u is d end) h = is_in o (item Item.Expression) _ ts x m d (prefix_are o ts (u ∷ []) h.1)
is_in o _ _ _ _ _ (Derives.elsif l k j m ts us vs c x y t u is lt d then_ e f) h =
    let a = (rest_are o ts (u ∷ (us ++ vs)) h.1).1 in
    cond_is o c x y t.word.pos
    ∙ both_true (is_in o (item Item.Expression) _ ts c k d (prefix_are o ts (u ∷ (us ++ vs)) h.1))
    (both_true (is_in o (item Item.Expression) _ us x j e (prefix_are o us vs a)) (is_in o (form Form.Otherwise) _ vs y m f (rest_are o us vs a)))
is_in o _ _ _ _ _ (Derives.call b l k j ts us f xs t u d is lt e close) h =
    let a = (rest_are o ts (t ∷ (us ++ u ∷ [])) h).1 in
    let r = is_in o (list Item.Expression) _ us xs j e (prefix_are o us (u ∷ []) a) in
    apply_is o f xs ∙ both_true (is_in o (form (Form.Term b)) l ts f k d (prefix_are o ts (t ∷ (us ++ u ∷ [])) h)) (both_true (entries 1 (length xs) r.some r.most) r.items)
is_in o _ _ _ _ _ (Derives.project b l k ts x t u d is lt number) h =
    project_is o x u.word ∙ both_true (is_in o (form (Form.Term b)) l ts x k d (prefix_are o ts (t ∷ u ∷ []) h)) (number_in o u (rest_are o ts (t ∷ u ∷ []) h).1.0 number)
is_in o _ _ _ _ _ (Derives.plain_name l t is) h =
    starts (t ∷ []) _ _ (simple_name_is o t.word) (both_true refl (identifier_in o t h.0 is)) (t, [], refl, refl)
is_in o _ _ _ _ _ (Derives.qualified_name l m ts i t u d dot is) h =
    let r = is_in o inst l ts i m d (prefix_are o ts (t ∷ u ∷ []) h) in
    starts (ts ++ t ∷ u ∷ []) _ _ (name_with_theory_is o i u.word) (both_true r.0 (identifier_in o u (rest_are o ts (t ∷ u ∷ []) h).1.0 is)) (front ts (t ∷ u ∷ []) _ r.1)
is_in o _ _ _ _ _ (Derives.plain_inst l t is) h =
    starts (t ∷ []) _ _ (inst_is o t.word []) (both_true (identifier_in o t h.0 is) refl) (t, [], refl, refl)
is_in o _ _ _ _ _ (Derives.inst_with l k ts xs t u v is opened lt d close) h =
    let r = is_in o (list Item.Parameter) _ ts xs k d (prefix_are o ts (v ∷ []) h.1.1) in
    starts (t ∷ u ∷ (ts ++ v ∷ [])) _ _ (inst_is o t.word xs) (both_true (identifier_in o t h.0 is) (both_true (entries 0 (length xs) (omega arith) r.most) r.items)) (t, u ∷ (ts ++ v ∷ []), refl, refl)
is_in o _ _ _ _ _ (Derives.expr_actual e l m ts x d) h = expr_actual_is o x ∙ is_in o (whole e) l ts x m d h
is_in o _ _ _ _ _ (Derives.type_actual l m ts a t is d) h = type_actual_is o a ∙ (is_in o type_ l (t ∷ ts) a m d h).0
is_in o _ _ _ _ _ (Derives.name_type l m ts x d) h = let r = is_in o name l ts x m d h in starts ts _ _ (name_type_is o x) r.0 r.1
is_in o _ _ _ _ _ (Derives.pred_type l k ts x t u is lt d close) h =
    starts _ _ _ (pred_type_is o x t.word.pos) (is_in o (item Item.Expression) _ ts x k d (prefix_are o ts (u ∷ []) h.1)) (t, ts ++ u ∷ [], refl, refl)
is_in o _ _ _ _ _ (Derives.sub_type l k m ts us a x t u v w y is lt id colon d bar e close) h =
    let b = h.1.1.1 in
    let q = (rest_are o ts (w ∷ (us ++ y ∷ [])) b).1 in
    starts _ _ _ (sub_type_is o u.word a x t.word.pos)
    (both_true (identifier_in o u h.1.0 id) (both_true (is_in o type_ _ ts a k d (prefix_are o ts (w ∷ (us ++ y ∷ [])) b)).0 (is_in o (item Item.Expression) k us x m e (prefix_are o us (y ∷ []) q))))
    (t, u ∷ v ∷ (ts ++ w ∷ (us ++ y ∷ [])), refl, refl)
is_in o _ _ _ _ _ (Derives.tuple_type l k ts b c bs t u is lt d close) h =
    let r = is_in o (list Item.Component) _ ts (b ∷ c ∷ bs) k d (prefix_are o ts (u ∷ []) h.1) in
    starts _ _ _ (tuple_type_is o (b ∷ c ∷ bs) t.word.pos) (both_true (entries 2 (length (b ∷ c ∷ bs)) (omega arith) r.most) r.items) (t, ts ++ u ∷ [], refl, refl)
is_in o _ _ _ _ _ (Derives.fun_type l k m ts us bs a t u v is lt d arrow e close) h =
    let r = is_in o (list Item.Component) _ ts bs k d (prefix_are o ts (u ∷ (us ++ v ∷ [])) h.1) in
    let q = (rest_are o ts (u ∷ (us ++ v ∷ [])) h.1).1 in
    starts _ _ _ (fun_type_is o bs a t.word.pos) (both_true (both_true (entries 1 (length bs) r.some r.most) r.items) (is_in o type_ k us a m e (prefix_are o us (v ∷ []) q)).0) (t, ts ++ u ∷ (us ++ v ∷ []), refl, refl)
is_in o _ _ _ _ _ (Derives.named_component l m ts a t u is colon d) h =
    ap (λ z. z.0) (typed_is o t.word a) ∙ both_true (or_left _ _ (identifier_in o t h.0 is)) (is_in o type_ l ts a m d h.1.1).0
is_in o _ _ _ _ _ (Derives.component l m ts a t d) h =
    let r = is_in o type_ l (t ∷ ts) a m d h in
    ap (λ z. z.0) (typed_is o (empty_word t.word) a) ∙ both_true (or_right _ _ (missing_in o t ts _ h.0 r.1)) r.0
is_in o _ _ _ _ _ (Derives.untyped_variable l t is) h = ap (λ z. z.1) (untyped_is o t.word) ∙ both_true (identifier_in o t h.0 is) refl
is_in o _ _ _ _ _ (Derives.typed_variable l m ts a t u is colon d) h =
    ap (λ z. z.1) (typed_is o t.word a) ∙ both_true (identifier_in o t h.0 is) (is_in o type_ l ts a m d h.1.1).0
is_in o _ _ _ _ _ (Derives.bare_variable l t is) h = ap (λ z. z.1) (untyped_is o t.word) ∙ both_true (identifier_in o t h.0 is) refl
is_in o _ _ _ _ _ (Derives.untyped_part e l m ts x t u is equal d) h =
    untyped_part_is o t.word x ∙ both_true (identifier_in o t h.0 is) (both_true refl (is_in o (whole e) l ts x m d h.1.1))
is_in o _ _ _ _ _ (Derives.typed_part e l k m ts us a x t u v is colon d equal f) h =
    let q = h.1.1 in
    typed_part_is o t.word a x
    ∙ both_true (identifier_in o t h.0 is) (both_true (is_in o type_ l ts a k d (prefix_are o ts (v ∷ us) q)).0 (is_in o (whole e) k us x m f (rest_are o ts (v ∷ us) q).1))
