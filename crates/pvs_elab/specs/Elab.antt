-- Elaboration: a phrase becomes its core tree and type, or the first fault with its place. It is one recursion on phrases; a
-- row calls its parts from left to right, and the functions of typing on the trees that they gave. The rules of types are
-- those of typing (CSL-97-2); places, and the order of faults, are this checker's own.
use Rattle.std.specs.Prelude.{ℕ, zero, suc, pred, Bool, ◌||◌, bytes_eq, codes, nat_eq, nat_lt, if◌then◌else◌, List, [], ◌∷◌, ◌++◌, length, Option, Some, None, Result, Ok, Err}
use Rattle.pvs_base.specs.Answers.{◌>>=◌}
use Rattle.pvs_base.specs.declared.place.Pos.{Pos}
use Rattle.pvs_base.specs.declared.code.Code.{Code}
use Rattle.pvs_base.specs.declared.code.Code.TheVariants.{Unknown, NoSuchPart, NotTuple, NotPredicate, Mismatch, OutOfProfile}
use Rattle.pvs_terms.specs.Tree.{Text, Tree, Ref, Var, TBool, True, False, TName, Const, TSub, TFun, TPair, Lam, App, Tup, Fst, Snd, Eq, If}
use Rattle.pvs_subst.specs.Replace.{put_in}
use Rattle.pvs_subst.specs.Contexts.{Assumptions, Variable, Hypothesis}
use Rattle.pvs_sig.specs.Lookups.{Lookups}
use Rattle.pvs_types.specs.Outcome.{Outcome, Conditions, refuse, from_result}
use Rattle.pvs_types.specs.Outcome as outcome
use Rattle.pvs_types.specs.Forms.{head, up, most, first_among}
use Rattle.pvs_types.specs.Coerce.{lift_one, coerce}
use Rattle.pvs_types.specs.Typing.{function_of, tuple_of, is_forall, negation, typing, infer, check, well_formed}
use Rattle.pvs_elab.specs.Answer.{Answer, ◌>>◌, pure, fault, within_limits_at, from_outcome, from_outcome_at, from_part, from_text_or_outcome, from_name, judgement_at}
use Rattle.pvs_elab.specs.Names.{Names}
use Rattle.pvs_elab.specs.Names as named
use Rattle.pvs_syntax.specs.declared.expression.Expr.{Expr}
use Rattle.pvs_syntax.specs.declared.expression.TypeExpr.{TypeExpr}
use Rattle.pvs_elab.specs.Desugar.{phrase, type_phrase}
use Rattle.pvs_elab.specs.Phrase.{Phrase, Name, Truth, Apply, Tuple, Part, Group, Choice, Not, Equal, Iff, All, Lambda, Let, LetAs, TypeOf, Sub, Predicate, Function, Product, Other}

-- a local name and the term that it stands for
pub record Local : Type 0 where
  pub name : Text
  pub term : Tree

-- where an expression stands: local names, the innermost first, and the context
pub record Here : Type 0 where
  pub locals : List Local
  pub context : Assumptions

pub record TypedTree : Type 0 where
  pub tree : Tree
  pub ty : Tree

abbrev pub local_named : Text → List Local → Option Tree
local_named x [] = None
local_named x (l ∷ ls) = if bytes_eq x l.name then Some l.term else local_named x ls

abbrev pub lifted_locals : List Local → List Local
lifted_locals [] = []
lifted_locals (l ∷ ls) = record { name = l.name; term = lift_one l.term } ∷ lifted_locals ls

-- names for the parts of a tuple, the last one first; one name stands for the whole
abbrev pub parts_onto : List Local → Tree → List Text → List Local
parts_onto ls t [] = ls
parts_onto ls t (x ∷ []) = record { name = x; term = t } ∷ ls
parts_onto ls t (x ∷ y ∷ xs) = parts_onto (record { name = x; term = Fst (suc (suc (length xs))) t } ∷ ls) (Snd (suc (suc (length xs))) t) (y ∷ xs)

-- under a variable of this type, with these names for its parts
abbrev pub under_variable : List Text → Tree → Here → Here
under_variable xs a h = record { locals = parts_onto (lifted_locals h.locals) (Var 0) xs; context = Variable a ∷ h.context }

abbrev pub under_name : Text → Tree → Here → Here
under_name x a h = under_variable (x ∷ []) a h

abbrev pub under_hypothesis : Tree → Here → Here
under_hypothesis p h = record { locals = h.locals; context = Hypothesis p ∷ h.context }

-- What a phrase answers: as a term, as a term of a type, as a type, and as the left side of a universal formula. A check is
-- told the place of a mismatch, which parentheses move. The last answer serves for its fault alone: where typing refuses the
-- predicate of such a formula, this is the fault of its text.
pub record Elab : Type 0 where
  pub place : Pos
  pub infer : Here → Answer TypedTree
  pub check : Here → Pos → Tree → Answer Tree
  pub formed : Here → Answer Tree
  pub predicate : Here → Answer (Unit {0})

-- FORALL of a predicate on a type
abbrev pub universal : Tree → Tree → Tree
universal a p = Eq (Lam a p) (Lam a True)

-- a term that is checked by its own type
abbrev pub term_elab : Lookups → Pos → (Here → Answer TypedTree) → Elab
term_elab s pos infer = record {
  place = pos;
  infer = infer;
  check = λ h at a. do
    t ← infer h
    from_outcome at (coerce s h.context t.tree t.ty a)
    pure t.tree;
  formed = λ h. fault pos Unknown;
  predicate = λ h. pure tt;
}

abbrev pub type_elab : Pos → (Here → Answer Tree) → Elab
type_elab pos formed = record {
  place = pos;
  infer = λ h. fault pos Unknown;
  check = λ h at a. fault pos Unknown;
  formed = formed;
  predicate = λ h. pure tt;
}

-- the term that a name stands for
abbrev pub name_term : Names → Text → Pos → Option Tree → Answer Tree
name_term names x pos (Some t) = within_limits_at pos t
name_term names x pos None = do
  r ← from_name pos (names.constant_named x)
  within_limits_at pos (Const r)

abbrev pub is_bool : Text → Bool
is_bool x = bytes_eq x (codes "bool") || bytes_eq x (codes "boolean")

-- the type of a name; that it is one is asked of typing
abbrev pub named_type : Lookups → Names → Text → Pos → Here → Answer Tree
named_type s names x pos h = do
  r ← from_name pos (names.type_named x)
  t ← within_limits_at pos (TName r)
  from_outcome pos (well_formed s h.context t)
  pure t

abbrev pub name_type : Lookups → Names → Text → Pos → Here → Answer Tree
name_type s names x pos h = if is_bool x then pure TBool else named_type s names x pos h

-- a local name may stand for any term, so that typing alone knows how it is checked
abbrev pub name_elab : Lookups → Names → Text → Pos → Elab
name_elab s names x pos = record {
  place = pos;
  infer = λ h. do
    t ← name_term names x pos (local_named x h.locals)
    a ← from_outcome pos (infer s h.context t)
    pure (record { tree = t; ty = a });
  check = λ h at a. do
    t ← name_term names x pos (local_named x h.locals)
    from_outcome at (check s h.context t a)
    pure t;
  formed = name_type s names x pos;
  predicate = λ h. pure tt;
}

abbrev pub truth_elab : Lookups → Bool → Pos → Elab
truth_elab s b pos = term_elab s pos (λ h. pure (record { tree = if b then True else False; ty = TBool }))

abbrev pub apply_elab : Lookups → Elab → Elab → Elab
apply_elab s f x = term_elab s f.place λ h. do
  c ← f.infer h
  b ← from_outcome f.place (from_result (head s c.ty))
  d ← from_outcome f.place (function_of b)
  a ← x.check h x.place d.first
  t ← within_limits_at f.place (App c.tree a)
  u ← within_limits_at f.place (put_in d.second a)
  pure (record { tree = t; ty = u })

-- k + 2 parts
abbrev pub tuple_elab : Lookups → ℕ → Elab → Elab → Pos → Elab
tuple_elab s k x y pos = term_elab s pos λ h. do
  a ← x.infer h
  b ← y.infer h
  t ← within_limits_at pos (Tup (suc (suc k)) a.tree b.tree)
  u ← within_limits_at pos (TPair (suc (suc k)) a.ty (lift_one b.ty))
  pure (record { tree = t; ty = u })

-- the part with this number, counted from 1, of a tuple of so many parts
abbrev pub part_from : Lookups → Pos → Pos → ℕ → ℕ → Tree → Tree → Answer TypedTree
part_from s at number k zero t a = fault number NoSuchPart
part_from s at number k (suc zero) t a = do
  c ← from_outcome at (from_result (head s a))
  d ← from_part number at (tuple_of k c)
  u ← within_limits_at at (Fst k t)
  pure (record { tree = u; ty = d.first })
part_from s at number k (suc (suc i)) t a = do
  c ← from_outcome at (from_result (head s a))
  d ← from_part number at (tuple_of k c)
  u ← within_limits_at at (Snd k t)
  b ← within_limits_at at (put_in d.second (Fst k t))
  if nat_eq k 2 then pure (record { tree = u; ty = b }) else part_from s at number (pred k) (suc i) u b

abbrev pub tuple_size : Tree → Outcome ℕ
tuple_size (TPair k a b) = outcome.pure k
tuple_size t = refuse NotTuple

abbrev pub part_elab : Lookups → Elab → ℕ → Pos → Elab
part_elab s x i number = term_elab s x.place λ h. do
  t ← x.infer h
  a ← from_outcome x.place (from_result (head s t.ty))
  k ← from_outcome x.place (tuple_size a)
  if nat_lt k i then fault number NoSuchPart else part_from s x.place number k i t.tree t.ty

-- A choice, step by step: after the condition the first branch, the negation that the second one stands under, and the
-- second branch; then the type of both.

-- a type that both have, or the most general one of the first, to which both are coerced; what is too large is so at its
-- branch
abbrev pub shared_type : Lookups → Pos → Pos → Pos → Assumptions → Assumptions → TypedTree → TypedTree → Option Tree → Answer Tree
shared_type s one two join g h a b (Some u) = pure u
shared_type s one two join g h a b None = do
  common ← from_outcome one (from_result (most s a.ty))
  from_outcome_at one join (coerce s g a.tree a.ty common)
  from_outcome_at two join (coerce s h b.tree b.ty common)
  pure common

abbrev pub join_type : Lookups → Pos → Pos → Pos → Assumptions → Assumptions → TypedTree → TypedTree → Answer Tree
join_type s one two join g h a b = do
  above_a ← from_outcome one (from_result (up s a.ty))
  above_b ← from_outcome two (from_result (up s b.ty))
  shared_type s one two join g h a b (first_among above_a above_b)

abbrev pub choice_join : Lookups → Bool → Pos → Pos → Pos → Pos → Here → Tree → TypedTree → Tree → TypedTree → Answer TypedTree
choice_join s early one two join pos h p a n b = do
  (if early then within_limits_at pos (If p a.tree b.tree) else pure (If p a.tree b.tree))
  u ← join_type s one two join (Hypothesis p ∷ h.context) (Hypothesis n ∷ h.context) a b
  t ← within_limits_at pos (If p a.tree b.tree)
  pure (record { tree = t; ty = u })

abbrev pub choice_second : Lookups → Bool → Pos → Elab → Pos → Pos → Here → Tree → TypedTree → Tree → Answer TypedTree
choice_second s early one y join pos h p a n = y.infer (under_hypothesis n h) >>= choice_join s early one y.place join pos h p a n

abbrev pub choice_negation : Lookups → Bool → Pos → Elab → Pos → Pos → Here → Tree → TypedTree → Answer TypedTree
choice_negation s early one y join pos h p a = within_limits_at pos (negation p) >>= choice_second s early one y join pos h p a

abbrev pub choice_first : Lookups → Bool → Elab → Elab → Pos → Pos → Here → Tree → Answer TypedTree
choice_first s early x y join pos h p = x.infer (under_hypothesis p h) >>= choice_negation s early x.place y join pos h p

abbrev pub choice_infer : Lookups → Bool → Elab → Elab → Elab → Pos → Pos → Here → Answer TypedTree
choice_infer s early c x y join pos h = c.check h c.place TBool >>= choice_first s early x y join pos h

abbrev pub choice_check : Elab → Elab → Elab → Pos → Here → Tree → Answer Tree
choice_check c x y pos h u = do
  p ← c.check h c.place TBool
  a ← x.check (under_hypothesis p h) x.place u
  n ← within_limits_at pos (negation p)
  b ← y.check (under_hypothesis n h) y.place u
  within_limits_at pos (If p a b)

abbrev pub choice_elab : Lookups → Bool → Elab → Elab → Elab → Pos → Pos → Elab
choice_elab s early c x y join pos = record (term_elab s pos (choice_infer s early c x y join pos)) {
  check = λ h at u. choice_check c x y pos h u;
}

-- NOT of this tree
abbrev pub negation_at : Pos → Tree → Answer TypedTree
negation_at pos p = do
  n ← within_limits_at pos (negation p)
  pure (record { tree = n; ty = TBool })

-- and as one of a type: where the branches FALSE and TRUE are of it
abbrev pub negation_as : Lookups → Here → Pos → Pos → Tree → Tree → Answer Tree
negation_as s h pos at u p = do
  from_outcome at (coerce s (Hypothesis p ∷ h.context) False TBool u)
  n ← within_limits_at pos (negation p)
  from_outcome at (coerce s (Hypothesis n ∷ h.context) True TBool u)
  pure n

abbrev pub not_elab : Lookups → Elab → Pos → Elab
not_elab s x pos = record (term_elab s pos (λ h. x.check h x.place TBool >>= negation_at pos)) {
  check = λ h at u. x.check h x.place TBool >>= negation_as s h pos at u;
}

-- An equation of what both sides gave, step by step: each side is of the most general type of the left one.
abbrev pub equal_sides : Lookups → Pos → Pos → Here → TypedTree → TypedTree → Answer (Unit {0})
equal_sides s left right h a b = do
  common ← from_outcome left (from_result (most s a.ty))
  from_outcome right (coerce s h.context b.tree b.ty common)
  from_outcome_at left right (coerce s h.context a.tree a.ty common)

-- a universal formula is typed as one
abbrev pub equation_typing : Lookups → Elab → Elab → Here → TypedTree → TypedTree → Tree → Answer TypedTree
equation_typing s x y h a b t = do
  (if is_forall a.tree b.tree then from_text_or_outcome (x.predicate h) x.place ((typing s a.tree).predicate h.context) else equal_sides s x.place y.place h a b)
  pure (record { tree = t; ty = TBool })

abbrev pub equation : Lookups → Elab → Elab → Here → TypedTree → TypedTree → Answer TypedTree
equation s x y h a b = within_limits_at x.place (Eq a.tree b.tree) >>= equation_typing s x y h a b

abbrev pub equal_right : Lookups → Elab → Elab → Here → TypedTree → Answer TypedTree
equal_right s x y h a = y.infer h >>= equation s x y h a

abbrev pub equal_elab : Lookups → Elab → Elab → Elab
equal_elab s x y = term_elab s x.place (λ h. x.infer h >>= equal_right s x y h)

abbrev pub truth_type : Tree → Outcome (Unit {0})
truth_type TBool = outcome.pure tt
truth_type a = refuse Mismatch

abbrev pub iff_elab : Lookups → Elab → Elab → Elab
iff_elab s x y = term_elab s x.place λ h. do
  a ← x.infer h
  d ← from_outcome x.place (from_result (head s a.ty))
  from_outcome x.place (truth_type d)
  b ← y.infer h
  equation s x y h a b

abbrev pub all_elab : Lookups → Text → Elab → Elab → Pos → Elab
all_elab s x a p pos = term_elab s pos λ h. do
  c ← a.formed h
  q ← p.check (under_name x c h) p.place TBool
  t ← within_limits_at pos (universal c q)
  pure (record { tree = t; ty = TBool })

abbrev pub lambda_elab : Lookups → Elab → List Text → Elab → Pos → Elab
lambda_elab s d xs b pos = record (term_elab s pos (λ h. do
  c ← d.formed h
  e ← b.infer (under_variable xs c h)
  t ← within_limits_at pos (Lam c e.tree)
  u ← within_limits_at pos (TFun c e.ty)
  pure (record { tree = t; ty = u }))) {
    predicate = λ h. do
      c ← d.formed h
      b.check (under_variable xs c h) b.place TBool
      pure tt;
  }

-- the type of a value that has none written, and the value as one of it: both are asked of typing, since the text has no place for them
abbrev pub let_elab : Lookups → Text → Elab → Elab → Pos → Elab
let_elab s x v b pos = term_elab s pos λ h. do
  a ← v.infer h
  from_outcome v.place (well_formed s h.context a.ty)
  from_outcome v.place (check s h.context a.tree a.ty)
  e ← b.infer (under_name x a.ty h)
  t ← within_limits_at pos (App (Lam a.ty e.tree) a.tree)
  within_limits_at pos (TFun a.ty e.ty)
  u ← within_limits_at pos (put_in e.ty a.tree)
  pure (record { tree = t; ty = u })

abbrev pub let_as_elab : Lookups → Text → Elab → Elab → Elab → Pos → Elab
let_as_elab s x a v b pos = term_elab s pos λ h. do
  c ← a.formed h
  w ← v.check h v.place c
  e ← b.infer (under_name x c h)
  t ← within_limits_at pos (App (Lam c e.tree) w)
  within_limits_at pos (TFun c e.ty)
  u ← within_limits_at pos (put_in e.ty w)
  pure (record { tree = t; ty = u })

-- a tree that is a type, as typing sees it
abbrev pub formed_at : Lookups → Pos → Here → Tree → Answer Tree
formed_at s pos h a = do
  t ← within_limits_at pos a
  from_outcome pos (well_formed s h.context t)
  pure t

abbrev pub type_of_elab : Lookups → Names → Text → Pos → Elab
type_of_elab s names x pos = type_elab pos λ h. do
  v ← from_name pos (names.variable_named x)
  formed_at s pos h v.ty

abbrev pub sub_elab : Text → Elab → Elab → Pos → Elab
sub_elab x a p pos = type_elab pos λ h. do
  c ← a.formed h
  q ← p.check (under_name x c h) p.place TBool
  within_limits_at pos (TSub c q)

-- the domain of a type of predicates
abbrev pub domain_if : Tree → Tree → Outcome Tree
domain_if a TBool = outcome.pure a
domain_if a b = refuse NotPredicate

abbrev pub domain_of : Lookups → Tree → Outcome Tree
domain_of s (TFun a b) = outcome.◌>>=◌ (from_result (head s b)) (domain_if a)
domain_of s t = refuse NotPredicate

abbrev pub predicate_elab : Lookups → Elab → Pos → Elab
predicate_elab s q pos = type_elab pos λ h. do
  p ← q.infer h
  d ← from_outcome q.place (from_result (head s p.ty))
  a ← from_outcome q.place (domain_of s d)
  formed_at s pos h (TSub a (App (lift_one p.tree) (Var 0)))

abbrev pub function_elab : Elab → List Text → Elab → Pos → Elab
function_elab d xs b pos = type_elab pos λ h. do
  c ← d.formed h
  e ← b.formed (under_variable xs c h)
  within_limits_at pos (TFun c e)

-- k + 2 parts
abbrev pub product_elab : ℕ → Text → Elab → Elab → Pos → Elab
product_elab k x a b pos = type_elab pos λ h. do
  c ← a.formed h
  e ← b.formed (under_name x c h)
  within_limits_at pos (TPair (suc (suc k)) c e)

-- parentheses: a check is told their place; what they stand round may be a predicate where a type stands
abbrev pub group_elab : Lookups → Elab → Pos → Elab
group_elab s x pos = record {
  place = pos;
  infer = x.infer;
  check = x.check;
  formed = (predicate_elab s x pos).formed;
  predicate = x.predicate;
}

abbrev pub elab : Lookups → Names → Phrase → Elab
elab s names (Name x pos) = name_elab s names x pos
elab s names (Truth b pos) = truth_elab s b pos
elab s names (Apply f x) = apply_elab s (elab s names f) (elab s names x)
elab s names (Tuple k x y pos) = tuple_elab s k (elab s names x) (elab s names y) pos
elab s names (Part x i number) = part_elab s (elab s names x) i number
elab s names (Group x pos) = group_elab s (elab s names x) pos
elab s names (Choice early c x y join pos) = choice_elab s early (elab s names c) (elab s names x) (elab s names y) join pos
elab s names (Not x pos) = not_elab s (elab s names x) pos
elab s names (Equal x y) = equal_elab s (elab s names x) (elab s names y)
elab s names (Iff x y) = iff_elab s (elab s names x) (elab s names y)
elab s names (All x a p pos) = all_elab s x (elab s names a) (elab s names p) pos
elab s names (Lambda d xs b pos) = lambda_elab s (elab s names d) xs (elab s names b) pos
elab s names (Let x v b pos) = let_elab s x (elab s names v) (elab s names b) pos
elab s names (LetAs x a v b pos) = let_as_elab s x (elab s names a) (elab s names v) (elab s names b) pos
elab s names (TypeOf x pos) = type_of_elab s names x pos
elab s names (Sub x a p pos) = sub_elab x (elab s names a) (elab s names p) pos
elab s names (Predicate q pos) = predicate_elab s (elab s names q) pos
elab s names (Function d xs b pos) = function_elab (elab s names d) xs (elab s names b) pos
elab s names (Product k x a b pos) = product_elab k x (elab s names a) (elab s names b) pos
elab s names (Other pos) = type_elab pos (λ h. fault pos OutOfProfile)

-- The VARs that give types in a phrase, by their names. A type that several bindings share counts for each.
abbrev pub variables : Phrase → List Text
variables (Name x pos) = []
variables (Truth b pos) = []
variables (Apply f x) = variables f ++ variables x
variables (Tuple k x y pos) = variables x ++ variables y
variables (Part x i pos) = variables x
variables (Group x pos) = variables x
variables (Choice early c x y join pos) = variables c ++ (variables x ++ variables y)
variables (Not x pos) = variables x
variables (Equal x y) = variables x ++ variables y
variables (Iff x y) = variables x ++ variables y
variables (All x a p pos) = variables a ++ variables p
variables (Lambda d xs b pos) = variables d ++ variables b
variables (Let x v b pos) = variables v ++ variables b
variables (LetAs x a v b pos) = variables a ++ (variables v ++ variables b)
variables (TypeOf x pos) = x ∷ []
variables (Sub x a p pos) = variables a ++ variables p
variables (Predicate q pos) = variables q
variables (Function d xs b pos) = variables d ++ variables b
variables (Product k x a b pos) = variables a ++ variables b
variables (Other pos) = []

-- the references of VARs, by their names
abbrev pub variable_refs : Names → List Text → List Ref
variable_refs names [] = []
variable_refs names (x ∷ xs) = variable_ref (names.variable_named x) ++ variable_refs names xs where
  variable_ref : Result named.TypedVariable Code → List Ref
  variable_ref (Err c) = []
  variable_ref (Ok v) = v.reference ∷ []

-- a tree with its type, its conditions, and what it uses: the symbols of the tree and the VARs that gave types
pub record Elaborated : Type 0 where
  pub tree : Tree
  pub ty : Tree
  pub conditions : Conditions
  pub uses : List Ref

-- A finished term, a term of a wanted type, and a type, with what typing answers of the tree. Typing never refuses it: its
-- place is that of the phrase.
abbrev pub inferred_term : Lookups → Names → Phrase → Here → Answer Elaborated
inferred_term s names e h = do
  t ← (elab s names e).infer h
  j ← judgement_at (elab s names e).place (infer s h.context t.tree)
  pure (record { tree = t.tree; ty = j.value; conditions = j.conditions; uses = j.uses ++ variable_refs names (variables e) })

abbrev pub checked_term : Lookups → Names → Phrase → Here → Tree → Answer Elaborated
checked_term s names e h a = do
  t ← (elab s names e).check h (elab s names e).place a
  j ← judgement_at (elab s names e).place (check s h.context t a)
  pure (record { tree = t; ty = a; conditions = j.conditions; uses = j.uses ++ variable_refs names (variables e) })

abbrev pub well_formed_type : Lookups → Names → Phrase → Here → Answer Elaborated
well_formed_type s names e h = do
  t ← (elab s names e).formed h
  j ← judgement_at (elab s names e).place (well_formed s h.context t)
  pure (record { tree = t; ty = t; conditions = j.conditions; uses = j.uses ++ variable_refs names (variables e) })

-- an expression of a text, of a wanted type where there is one, and a type
abbrev pub elab_expr : Lookups → Names → Here → Text → Expr → Option Tree → Answer Elaborated
elab_expr s names h text e None = inferred_term s names (phrase text e) h
elab_expr s names h text e (Some a) = checked_term s names (phrase text e) h a

abbrev pub elab_type : Lookups → Names → Here → Text → TypeExpr → Answer Elaborated
elab_type s names h text a = well_formed_type s names (type_phrase text a) h
