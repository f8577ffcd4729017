-- Tasks that are replaced by smaller ones: the pieces stay, and there is less to do.
use Rattle.std.proofs.Common.{◌≡◌, ℕ, suc, ◌+◌, ◌<◌, ◌≤◌, Bool, true, false, ◌==◌, List, [], ◌∷◌, ◌++◌, map, Option, Some, None, refl, sym, ap, ◌∙◌, append_assoc, append-nil, arith}
use Rattle.pvs_terms.specs.Tree as t
use Rattle.pvs_terms.specs.Tree.{Tree, Ref, Trees, size, trees_size}
use Rattle.pvs_printer.specs.declared.words.BinderWord.{BinderWord}
use Rattle.pvs_printer.specs.declared.words.BinderWord.TheVariants as binder_word
use Rattle.pvs_printer.specs.declared.words.InfixWord.{InfixWord}
use Rattle.pvs_printer.specs.declared.words.InfixWord.TheVariants as infix_word
use Rattle.pvs_printer.specs.declared.words.Sign.TheVariants as sign
use Rattle.pvs_printer.specs.Form as f
use Rattle.pvs_printer.specs.Form.{Form, Bound}
use Rattle.pvs_printer.specs.Mentions.{mentioned}
use Rattle.pvs_printer.specs.Names.{Names}
use Rattle.pvs_printer.specs.Pieces.{Piece, Space, Fixed, Named, binder_sign, infix_sign, guarded, is_tight, pieces, piece_bytes, spell}
use Rattle.pvs_printer.specs.Row as r
use Rattle.pvs_printer.specs.Row.{Row, row, climb, climbed, second_row, type_row, apply_row, tuple_row, equal_row, not_row, forall_of, exists_in, components, parts, arguments}
use Rattle.pvs_printer.specs.RowTree.{tuple, tuple_type, quantified, infix_tree}
use Rattle.pvs_printer.specs.TreeForm.{form, row_form}
use Rattle.pvs_printer.specs.code.Tasks.{Task, Write, Print, Operand, Arguments, Components, Actuals, Binding, task_pieces, all_pieces, row_tasks, is_tight_row, operand_tasks, argument_tasks, component_tasks, actual_tasks, binding_tasks, expand, onto, left_bytes, work, trees_work, arguments_work, components_work, task_work, all_work, HasRoom, AllRoomy, AllHaveRoom, ComponentsHaveRoom, ActualsHaveRoom, IsCompound}
use Rattle.pvs_printer.proofs.RowLaws.{IsOf, row_of}
use Rattle.pvs_printer.proofs.FormLaws.{form_rule, Parts, AllOf, AllTrees, parts_small}

pub spell-append : (ps qs : List Piece) → spell (ps ++ qs) ≡ spell ps ++ spell qs
spell-append [] qs = refl
spell-append (p ∷ ps) qs = ap (λ z. piece_bytes p ++ z) (spell-append ps qs) ∙ sym (append_assoc (piece_bytes p) (spell ps) (spell qs))

-- ---- The pieces stay.

module _ (names : Names) (vars : ℕ) where
  -- the pieces of a tree under so many binders
  abbrev P : ℕ → Tree → List Piece
  P d x = pieces (form names vars x d)

  abbrev go : ℕ → Tree → Form
  go e u = form names vars u e

  abbrev O : ℕ → Tree → List Piece
  O d x = guarded (is_tight (form names vars x d)) (P d x)

  row_pieces : (d : ℕ) (q : Row) → all_pieces names vars (row_tasks names vars d q) ≡ pieces (row_form names vars go d q)
  row_pieces d (r.Truth true) = refl
  row_pieces d (r.Truth false) = refl
  row_pieces d (r.Variable n) = refl
  row_pieces d (r.Named s (t.Own n)) = refl
  row_pieces d (r.Named s (t.Formal n)) = refl
  row_pieces d (r.Named s (t.Inst th n t.none)) = refl
  row_pieces d (r.Named s (t.Inst th n (t.more x xs))) = ap (λ z. Named (f.Declared th) ∷ Fixed sign.OpenBracket ∷ z) (sym (append_assoc (task_pieces names vars (Actuals (t.more x xs))) (Fixed sign.CloseBracket ∷ []) (Fixed sign.Dot ∷ Named (f.Declared (names.entry th n)) ∷ [])))
  row_pieces d (r.Quantified w a p) =
      ap (λ z. Fixed (binder_sign w) ∷ Space ∷ Fixed sign.Open ∷ Named (Bound (d + 1)) ∷ Fixed sign.Colon ∷ Space ∷ (P d a ++ Fixed sign.Close ∷ Fixed sign.Colon ∷ Space ∷ z)) (append-nil (P (d + 1) p))
  row_pieces d (r.Not a) = ap (λ z. Fixed sign.Not ∷ Space ∷ z) (append-nil (O d a))
  row_pieces d (r.Infix w a b) = ap (λ z. O d a ++ Space ∷ Fixed (infix_sign w) ∷ Space ∷ z) (append-nil (O d b))
  row_pieces d (r.Cond c a b) = refl
  row_pieces d (r.Apply g x xs) = refl
  row_pieces d (r.Tuple x y ys) = refl
  row_pieces d (r.Part a i) = refl
  row_pieces d r.Boolean = refl
  row_pieces d (r.SubType a p) = refl
  row_pieces d (r.FunType a b) = refl
  row_pieces d (r.TupleType a b bs) = refl
  row_pieces d (r.TaggedTuple k a b) = refl
  row_pieces d (r.Rest a) = refl
  row_pieces d (r.TaggedType k a b) = refl

  print_pieces : (d : ℕ) (x : Tree) → all_pieces names vars (row_tasks names vars d (row x)) ≡ P d x
  print_pieces d x = row_pieces d (row x) ∙ sym (ap pieces (form_rule names vars x d))

  tight_row : (d : ℕ) (q : Row) → is_tight (row_form names vars go d q) ≡ is_tight_row q
  tight_row d (r.Named s (t.Own n)) = refl
  tight_row d (r.Named s (t.Formal n)) = refl
  tight_row d (r.Named s (t.Inst th n xs)) = refl
  tight_row d (r.Quantified w a p) = refl
  tight_row d (r.Not a) = refl
  tight_row d (r.Infix w a b) = refl
  tight_row d _ = refl

  tight_is : (d : ℕ) (x : Tree) → is_tight (form names vars x d) ≡ is_tight_row (row x)
  tight_is d x = ap is_tight (form_rule names vars x d) ∙ tight_row d (row x)

  operand_by : (b : Bool) (d : ℕ) (x : Tree) → all_pieces names vars (operand_tasks b d x) ≡ guarded b (P d x)
  operand_by true d x = append-nil (P d x)
  operand_by false d x = refl

  operand_pieces : (d : ℕ) (x : Tree) → all_pieces names vars (operand_tasks (is_tight_row (row x)) d x) ≡ O d x
  operand_pieces d x = operand_by (is_tight_row (row x)) d x ∙ ap (λ b. guarded b (P d x)) (sym (tight_is d x))

  argument_pieces : (d : ℕ) (xs : List Tree) → all_pieces names vars (argument_tasks d xs) ≡ task_pieces names vars (Arguments d xs)
  argument_pieces d [] = refl
  argument_pieces d (x ∷ []) = append-nil (P d x)
  argument_pieces d (x ∷ y ∷ ys) = ap (λ z. P d x ++ Fixed sign.Comma ∷ Space ∷ z) (append-nil (task_pieces names vars (Arguments d (y ∷ ys))))

  component_pieces : (d : ℕ) (xs : List Tree) → all_pieces names vars (component_tasks d xs) ≡ task_pieces names vars (Components d xs)
  component_pieces d [] = refl
  component_pieces d (x ∷ []) = append-nil (P d x)
  component_pieces d (x ∷ y ∷ ys) =
      ap (λ z. task_pieces names vars (Binding (mentioned 0 (y ∷ ys)) (d + 1)) ++ (P d x ++ Fixed sign.Comma ∷ Space ∷ z)) (append-nil (task_pieces names vars (Components (d + 1) (y ∷ ys))))

  actual_pieces : (xs : Trees) → all_pieces names vars (actual_tasks xs) ≡ task_pieces names vars (Actuals xs)
  actual_pieces t.none = refl
  actual_pieces (t.more x t.none) = append-nil (P 0 x)
  actual_pieces (t.more x (t.more y ys)) = ap (λ z. P 0 x ++ Fixed sign.Comma ∷ Space ∷ z) (append-nil (task_pieces names vars (Actuals (t.more y ys))))

  binding_pieces : (b : Bool) (n : ℕ) → all_pieces names vars (binding_tasks b n) ≡ task_pieces names vars (Binding b n)
  binding_pieces true n = refl
  binding_pieces false n = refl

  pub expand_pieces : (x : Task) → IsCompound x → all_pieces names vars (expand names vars x) ≡ task_pieces names vars x
  expand_pieces (Write p) h = absurd h
  expand_pieces (Print d x) h = print_pieces d x
  expand_pieces (Operand d x) h = operand_pieces d x
  expand_pieces (Arguments d xs) h = argument_pieces d xs
  expand_pieces (Components d xs) h = component_pieces d xs
  expand_pieces (Actuals xs) h = actual_pieces xs
  expand_pieces (Binding b n) h = binding_pieces b n

-- ---- There is less to do.

positive : (x : Tree) → 20 ≤ work x
positive (t.Leaf o) = omega arith
positive (t.Var n) = omega arith
positive (t.Name s q) = omega arith
positive (t.Bind o a b) = omega arith
positive (t.Join o a b) = omega arith
positive (t.Project o a) = omega arith
positive (t.If a b c) = omega arith

arguments_less : (x : Tree) (xs : List Tree) → arguments_work (x ∷ xs) ≤ 5 + work (tuple x xs)
arguments_less x [] = omega arith
arguments_less x (y ∷ ys) = let h : arguments_work (y ∷ ys) ≤ 5 + work (tuple y ys) = arguments_less y ys in omega (arith, h)

components_less : (x : Tree) (xs : List Tree) → components_work (x ∷ xs) ≤ 9 + work (tuple_type x xs)
components_less x [] = omega arith
components_less x (y ∷ ys) = let h : components_work (y ∷ ys) ≤ 9 + work (tuple_type y ys) = components_less y ys in omega (arith, h)

-- what the row of a projection is of
abbrev work_below : Row → Tree → Type 0
work_below (r.Part y i) x = 20 + work y ≤ work x
work_below (r.Rest y) x = 20 + work y ≤ work x
work_below _ x = Unit {0}

climbed_work : (b : Bool) (j : ℕ) (x : Tree) (q : Tree × ℕ) → work q.0 ≤ work x → work (climbed b (t.Snd j x) q).0 ≤ work (t.Snd j x)
climbed_work true j x q h = omega (arith, h)
climbed_work false j x q h = omega arith

climb_work : (k : ℕ) (x : Tree) → work (climb k x).0 ≤ work x
climb_work k (t.Snd j x) = climbed_work (j == k) j x (climb (suc k) x) (climb_work (suc k) x)
climb_work k (t.Fst j x) = omega arith
climb_work k (t.Leaf o) = omega arith
climb_work k (t.Var n) = omega arith
climb_work k (t.Name s q) = omega arith
climb_work k (t.Bind o a b) = omega arith
climb_work k (t.Join o a b) = omega arith
climb_work k (t.If a b c) = omega arith

quantified_less : (names : Names) (vars d : ℕ) (w : BinderWord) (a p : Tree) → all_work (row_tasks names vars d (r.Quantified w a p)) < work (quantified w a p)
quantified_less names vars d binder_word.Forall a p = omega arith
quantified_less names vars d binder_word.Exists a p = omega arith
quantified_less names vars d binder_word.Lambda a p = omega arith

infix_less : (names : Names) (vars d : ℕ) (w : InfixWord) (a b : Tree) → all_work (row_tasks names vars d (r.Infix w a b)) < work (infix_tree w a b)
infix_less names vars d infix_word.And a b = omega arith
infix_less names vars d infix_word.Or a b = omega arith
infix_less names vars d infix_word.Implies a b = omega arith
infix_less names vars d infix_word.Equal a b = omega arith

module _ (names : Names) (vars : ℕ) where
  row_less : (d : ℕ) (q : Row) (x : Tree) → IsOf q x → work_below q x → all_work (row_tasks names vars d q) < work x
  row_less d (r.Truth true) x h k = omega (arith, positive x)
  row_less d (r.Truth false) x h k = omega (arith, positive x)
  row_less d (r.Variable n) x h k = omega (arith, positive x)
  row_less d (r.Named s (t.Own n)) x h k = omega (arith, positive x)
  row_less d (r.Named s (t.Formal n)) x h k = omega (arith, positive x)
  row_less d (r.Named s (t.Inst th n t.none)) x h k = omega (arith, positive x)
  row_less d (r.Named s (t.Inst th n (t.more y ys))) x h k = let e : work x ≡ 20 + trees_work (t.more y ys) = ap work h in omega (arith, e)
  row_less d (r.Quantified w a p) x h k = let e : work x ≡ work (quantified w a p) = ap work h in let l = quantified_less names vars d w a p in omega (arith, e, l)
  row_less d (r.Not a) x h k = let e : work x ≡ 20 + (work a + (20 + 20)) = ap work h in omega (arith, e)
  row_less d (r.Infix w a b) x h k = let e : work x ≡ work (infix_tree w a b) = ap work h in let l = infix_less names vars d w a b in omega (arith, e, l)
  row_less d (r.Cond c a b) x h k = let e : work x ≡ 20 + (work c + (work a + work b)) = ap work h in omega (arith, e)
  row_less d (r.Apply g y ys) x h k = let e : work x ≡ 20 + (work g + work (tuple y ys)) = ap work h in let l : arguments_work (y ∷ ys) ≤ 5 + work (tuple y ys) = arguments_less y ys in omega (arith, e, l)
  row_less d (r.Tuple y z zs) x h k = let e : work x ≡ 20 + (work y + work (tuple z zs)) = ap work h in let l : arguments_work (z ∷ zs) ≤ 5 + work (tuple z zs) = arguments_less z zs in omega (arith, e, l)
  row_less d (r.Part y i) x h k = omega (arith, k)
  row_less d r.Boolean x h k = omega (arith, positive x)
  row_less d (r.SubType a p) x h k = let e : work x ≡ 20 + (work a + work p) = ap work h in omega (arith, e)
  row_less d (r.FunType a b) x h k = let e : work x ≡ 20 + (work a + work b) = ap work h in omega (arith, e)
  row_less d (r.TupleType y z zs) x h k = let e : work x ≡ 20 + (work y + work (tuple_type z zs)) = ap work h in let l : components_work (z ∷ zs) ≤ 9 + work (tuple_type z zs) = components_less z zs in omega (arith, e, l)
  row_less d (r.TaggedTuple j a b) x h k = let e : work x ≡ 20 + (work a + work b) = ap work h in omega (arith, e)
  row_less d (r.Rest y) x h k = omega (arith, k)
  row_less d (r.TaggedType j a b) x h k = let e : work x ≡ 20 + (work a + work b) = ap work h in omega (arith, e)

work_row : (x : Tree) → work_below (row x) x
work_row (t.Fst k x) = let h = climb_work (suc k) x in omega (arith, h)
work_row (t.Snd k x) = second (k == 2) k x
  where
    second : (b : Bool) (k : ℕ) (x : Tree) → work_below (second_row b x (climb (suc k) x)) (t.Snd k x)
    second true k x = let h = climb_work (suc k) x in omega (arith, h)
    second false k x = omega arith
work_row t.TBool = tt
work_row t.True = tt
work_row t.False = tt
work_row (t.Var n) = tt
work_row (t.Name s q) = tt
work_row (t.TSub a p) = tt
work_row (t.TFun a b) = tt
work_row (t.TPair k a b) = by (components k (t.TPair k a b))
  where
    by : (o : Option (List Tree)) → work_below (type_row k a b o) (t.TPair k a b)
    by None = tt
    by (Some []) = tt
    by (Some (y ∷ [])) = tt
    by (Some (y ∷ z ∷ zs)) = tt
work_row (t.Lam a b) = tt
work_row (t.App g a) = by (arguments a)
  where
    by : (o : Option (List Tree)) → work_below (apply_row g a o) (t.App g a)
    by None = tt
    by (Some []) = tt
    by (Some (y ∷ ys)) = tt
work_row (t.Tup k a b) = by (parts k (t.Tup k a b))
  where
    by : (o : Option (List Tree)) → work_below (tuple_row k a b o) (t.Tup k a b)
    by None = tt
    by (Some []) = tt
    by (Some (y ∷ [])) = tt
    by (Some (y ∷ z ∷ zs)) = tt
work_row (t.Eq a b) = by (forall_of (t.Eq a b))
  where
    by : (o : Option (Tree × Tree)) → work_below (equal_row a b o) (t.Eq a b)
    by None = tt
    by (Some q) = tt
work_row (t.If c t.False t.True) = by (exists_in (forall_of c))
  where
    by : (o : Option (Tree × Tree)) → work_below (not_row c o) (t.If c t.False t.True)
    by None = tt
    by (Some q) = tt
work_row (t.If c a t.False) = tt
work_row (t.If c t.True b) = tt
work_row (t.If c a t.True) = tt
work_row (t.If c a b) = tt

module _ (names : Names) (vars : ℕ) where
  operand_less : (b : Bool) (d : ℕ) (x : Tree) → all_work (operand_tasks b d x) < 3 + work x
  operand_less true d x = omega arith
  operand_less false d x = omega arith

  argument_less : (d : ℕ) (xs : List Tree) → all_work (argument_tasks d xs) < arguments_work xs
  argument_less d [] = omega arith
  argument_less d (x ∷ []) = omega arith
  argument_less d (x ∷ y ∷ ys) = omega arith

  component_less : (d : ℕ) (xs : List Tree) → all_work (component_tasks d xs) < components_work xs
  component_less d [] = omega arith
  component_less d (x ∷ []) = omega arith
  component_less d (x ∷ y ∷ ys) = omega arith

  actual_less : (xs : Trees) → all_work (actual_tasks xs) < trees_work xs
  actual_less t.none = omega arith
  actual_less (t.more x t.none) = omega arith
  actual_less (t.more x (t.more y ys)) = omega arith

  binding_less : (b : Bool) (n : ℕ) → all_work (binding_tasks b n) < 4
  binding_less true n = omega arith
  binding_less false n = omega arith

  pub expand_less : (x : Task) → IsCompound x → all_work (expand names vars x) < task_work x
  expand_less (Write p) h = absurd h
  expand_less (Print d x) h = row_less names vars d (row x) x (row_of x) (work_row x)
  expand_less (Operand d x) h = operand_less (is_tight_row (row x)) d x
  expand_less (Arguments d xs) h = argument_less d xs
  expand_less (Components d xs) h = component_less d xs
  expand_less (Actuals xs) h = actual_less xs
  expand_less (Binding b n) h = binding_less b n

-- ---- The numbers of binders have their range.

list_room : (d n : ℕ) (xs : List Tree) → d + n ≤ 1000000 → AllOf (λ u. size u < n) xs → AllHaveRoom d xs
list_room d n [] h k = tt
list_room d n (x ∷ xs) h k = let l : size x < n = k.0 in (omega (arith, h, l), list_room d n xs h k.1)

components_room : (d : ℕ) (x : Tree) (xs : List Tree) → d + size (tuple_type x xs) ≤ 1000000 → ComponentsHaveRoom d (x ∷ xs)
components_room d x [] h = (h, tt)
components_room d x (y ∷ ys) h =
    let e : d + (1 + (size x + size (tuple_type y ys))) ≤ 1000000 = h in
    (omega (arith, e), components_room (d + 1) y ys (omega (arith, e)))

actuals_room : (n : ℕ) (xs : Trees) → n ≤ 1000000 → AllTrees (λ u. size u < n) xs → ActualsHaveRoom xs
actuals_room n t.none h k = tt
actuals_room n (t.more x xs) h k = let l : size x < n = k.0 in (omega (arith, h, l), actuals_room n xs h k.1)

module _ (names : Names) (vars : ℕ) where
  row_room : (d : ℕ) (q : Row) (x : Tree) → IsOf q x → Parts (λ u. size u < size x) q → d + size x ≤ 1000000 → AllRoomy (row_tasks names vars d q)
  row_room d (r.Truth true) x e k h = (tt, tt)
  row_room d (r.Truth false) x e k h = (tt, tt)
  row_room d (r.Variable n) x e k h = (tt, tt)
  row_room d (r.Named s (t.Own n)) x e k h = (tt, tt)
  row_room d (r.Named s (t.Formal n)) x e k h = (tt, tt)
  row_room d (r.Named s (t.Inst th n t.none)) x e k h = (tt, (tt, (tt, tt)))
  row_room d (r.Named s (t.Inst th n (t.more y ys))) x e k h = (tt, (tt, (actuals_room (size x) (t.more y ys) (omega (arith, h)) k, (tt, (tt, (tt, tt))))))
  row_room d (r.Quantified w a p) x e k h = let i : size a < size x = k.0 in let j : size p < size x = k.1 in (tt, (tt, (tt, (tt, (tt, (tt, (omega (arith, h, i), (tt, (tt, (tt, (omega (arith, h, j), tt)))))))))))
  row_room d (r.Not a) x e k h = let i : size a < size x = k in (tt, (tt, (omega (arith, h, i), tt)))
  row_room d (r.Infix w a b) x e k h = let i : size a < size x = k.0 in let j : size b < size x = k.1 in (omega (arith, h, i), (tt, (tt, (tt, (omega (arith, h, j), tt)))))
  row_room d (r.Cond c a b) x e k h =
      let g : size c < size x = k.0 in let i : size a < size x = k.1 in let j : size b < size x = k.2 in
      (tt, (tt, (omega (arith, h, g), (tt, (tt, (tt, (omega (arith, h, i), (tt, (tt, (tt, (omega (arith, h, j), (tt, (tt, tt)))))))))))))
  row_room d (r.Apply g y ys) x e k h = let i : size g < size x = k.0 in (omega (arith, h, i), (tt, (list_room d (size x) (y ∷ ys) h (k.1, k.2), (tt, tt))))
  row_room d (r.Tuple y z zs) x e k h = let i : size y < size x = k.0 in (tt, (omega (arith, h, i), (tt, (tt, (list_room d (size x) (z ∷ zs) h (k.1, k.2), (tt, tt))))))
  row_room d (r.Part y i) x e k h = let l : size y < size x = k in (omega (arith, h, l), (tt, (tt, tt)))
  row_room d r.Boolean x e k h = (tt, tt)
  row_room d (r.SubType a p) x e k h = let i : size a < size x = k.0 in let j : size p < size x = k.1 in (tt, (tt, (tt, (tt, (omega (arith, h, i), (tt, (tt, (tt, (omega (arith, h, j), (tt, tt))))))))))
  row_room d (r.FunType a b) x e k h = let i : size a < size x = k.0 in let j : size b < size x = k.1 in (tt, (tt, (omega (arith, h, i), (tt, (tt, (tt, (omega (arith, h, j), (tt, tt))))))))
  row_room d (r.TupleType y z zs) x e k h =
      let i : size y < size x = k.0 in
      let s : size x ≡ 1 + (size y + size (tuple_type z zs)) = ap size e in
      (tt, (tt, (omega (arith, h, i), (tt, (tt, (components_room (d + 1) z zs (omega (arith, h, s)), (tt, tt)))))))
  row_room d (r.TaggedTuple m a b) x e k h = let i : size a < size x = k.0 in let j : size b < size x = k.1 in (tt, (tt, (tt, (tt, (omega (arith, h, i), (tt, (tt, (omega (arith, h, j), (tt, tt)))))))))
  row_room d (r.Rest y) x e k h = let l : size y < size x = k in (omega (arith, h, l), (tt, (tt, tt)))
  row_room d (r.TaggedType m a b) x e k h = let i : size a < size x = k.0 in let j : size b < size x = k.1 in (tt, (tt, (tt, (tt, (tt, (omega (arith, h, i), (tt, (tt, (omega (arith, h, j), (tt, tt))))))))))

  operand_room : (b : Bool) (d : ℕ) (x : Tree) → d + size x ≤ 1000000 → AllRoomy (operand_tasks b d x)
  operand_room true d x h = (h, tt)
  operand_room false d x h = (tt, (h, (tt, tt)))

  argument_room : (d : ℕ) (xs : List Tree) → AllHaveRoom d xs → AllRoomy (argument_tasks d xs)
  argument_room d [] h = tt
  argument_room d (x ∷ []) h = (h.0, tt)
  argument_room d (x ∷ y ∷ ys) h = (h.0, (tt, (tt, (h.1, tt))))

  component_room : (d : ℕ) (xs : List Tree) → ComponentsHaveRoom d xs → AllRoomy (component_tasks d xs)
  component_room d [] h = tt
  component_room d (x ∷ []) h = (h.0, tt)
  component_room d (x ∷ y ∷ ys) h = (tt, (h.0, (tt, (tt, (h.1, tt)))))

  actual_room : (xs : Trees) → ActualsHaveRoom xs → AllRoomy (actual_tasks xs)
  actual_room t.none h = tt
  actual_room (t.more x t.none) h = (h.0, tt)
  actual_room (t.more x (t.more y ys)) h = (h.0, (tt, (tt, (h.1, tt))))

  binding_room : (b : Bool) (n : ℕ) → AllRoomy (binding_tasks b n)
  binding_room true n = (tt, (tt, (tt, tt)))
  binding_room false n = tt

  pub expand_room : (x : Task) → HasRoom x → AllRoomy (expand names vars x)
  expand_room (Write p) h = tt
  expand_room (Print d x) h = row_room d (row x) x (row_of x) (parts_small (row x) x (row_of x)) h
  expand_room (Operand d x) h = operand_room (is_tight_row (row x)) d x h
  expand_room (Arguments d xs) h = argument_room d xs h
  expand_room (Components d xs) h = component_room d xs h
  expand_room (Actuals xs) h = actual_room xs h
  expand_room (Binding b n) h = binding_room b n

-- ---- Tasks on a stack.

pub map-append : {A B : Type 0} (f : A → B) (xs ys : List A) → map f (xs ++ ys) ≡ map f xs ++ map f ys
map-append f [] ys = refl
map-append f (x ∷ xs) ys = ap (λ zs. f x ∷ zs) (map-append f xs ys)

pub map-onto : {A B : Type 0} (f : A → B) (xs ys : List A) → map f (onto xs ys) ≡ onto (map f xs) (map f ys)
map-onto f xs [] = refl
map-onto f xs (y ∷ ys) = map-append f (onto xs ys) (y ∷ []) ∙ ap (λ zs. zs ++ f y ∷ []) (map-onto f xs ys)

module _ (names : Names) (vars : ℕ) where
  pub left-last : (xs : List Task) (y : Task) → left_bytes names vars (xs ++ y ∷ []) ≡ spell (task_pieces names vars y) ++ left_bytes names vars xs
  left-last [] y = sym (append-nil (spell (task_pieces names vars y)))
  left-last (x ∷ xs) y = ap (λ z. z ++ spell (task_pieces names vars x)) (left-last xs y) ∙ append_assoc (spell (task_pieces names vars y)) (left_bytes names vars xs) (spell (task_pieces names vars x))

  pub left-onto : (xs ys : List Task) → left_bytes names vars (onto xs ys) ≡ spell (all_pieces names vars ys) ++ left_bytes names vars xs
  left-onto xs [] = refl
  left-onto xs (y ∷ ys) =
      left-last (onto xs ys) y ∙ ap (λ z. spell (task_pieces names vars y) ++ z) (left-onto xs ys)
      ∙ sym (append_assoc (spell (task_pieces names vars y)) (spell (all_pieces names vars ys)) (left_bytes names vars xs))
      ∙ ap (λ z. z ++ left_bytes names vars xs) (sym (spell-append (task_pieces names vars y) (all_pieces names vars ys)))

pub work-last : (xs : List Task) (y : Task) → all_work (xs ++ y ∷ []) ≡ task_work y + all_work xs
work-last [] y = omega arith
work-last (x ∷ xs) y = let h = work-last xs y in omega (arith, h)

pub work-onto : (xs ys : List Task) → all_work (onto xs ys) ≡ all_work ys + all_work xs
work-onto xs [] = omega arith
work-onto xs (y ∷ ys) = let h = work-onto xs ys in let k = work-last (onto xs ys) y in omega (arith, h, k)

pub room-last : (xs : List Task) (y : Task) → AllRoomy xs → HasRoom y → AllRoomy (xs ++ y ∷ [])
room-last [] y h k = (k, tt)
room-last (x ∷ xs) y h k = (h.0, room-last xs y h.1 k)

pub room-onto : (xs ys : List Task) → AllRoomy xs → AllRoomy ys → AllRoomy (onto xs ys)
room-onto xs [] h k = h
room-onto xs (y ∷ ys) h k = room-last (onto xs ys) y (room-onto xs ys h k.1) k.0

pub room-parts : (xs : List Task) (y : Task) → AllRoomy (xs ++ y ∷ []) → AllRoomy xs × HasRoom y
room-parts [] y h = (tt, h.0)
room-parts (x ∷ xs) y h = let k = room-parts xs y h.1 in ((h.0, k.0), k.1)
