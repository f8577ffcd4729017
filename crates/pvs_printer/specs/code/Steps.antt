-- The shapes that the rows look for, one step after another, as the code goes.
use Rattle.std.specs.Prelude.{ℕ, ◌-◌, Bool, true, false, ◌&&◌, if◌then◌else◌, List, [], ◌∷◌, Option, Some, None, nat_le}
use Rattle.pvs_terms.specs.Tree as t
use Rattle.pvs_terms.specs.Tree.{Tree, tree_eq}
use Rattle.pvs_printer.specs.declared.words.BinderWord.TheVariants as binder_word
use Rattle.pvs_printer.specs.declared.words.InfixWord.TheVariants as infix_word
use Rattle.pvs_printer.specs.Row.{Row, Quantified, Not, Infix, Cond}

infixl 10 ◌>>=◌
abbrev pub ◌>>=◌ : {A B : Type 0} → Option A → (A → Option B) → Option B
None >>= f = None
(Some x) >>= f = f x

abbrev pub lambda_of : Tree → Option (Tree × Tree)
lambda_of (t.Lam a b) = Some (a, b)
lambda_of _ = None

abbrev pub equal_of : Tree → Option (Tree × Tree)
equal_of (t.Eq a b) = Some (a, b)
equal_of _ = None

abbrev pub is_true : Tree → Bool
is_true t.True = true
is_true _ = false

abbrev pub forall_steps : Tree → Option (Tree × Tree)
forall_steps x = equal_of x >>= λ q. lambda_of q.0 >>= λ f. lambda_of q.1 >>= λ g. if is_true g.1 && tree_eq f.0 g.0 then Some f else None

abbrev pub is_false : Tree → Bool
is_false t.False = true
is_false _ = false

abbrev pub not_of : Tree → Option Tree
not_of (t.If c a b) = if is_false a && is_true b then Some c else None
not_of _ = None

abbrev pub exists_steps : Tree → Option (Tree × Tree)
exists_steps x = forall_steps x >>= λ q. not_of q.1 >>= λ p. Some (q.0, p)

abbrev pub negation_row : Tree → Option (Tree × Tree) → Row
negation_row c None = Not c
negation_row c (Some q) = Quantified binder_word.Exists q.0 q.1

abbrev pub if_steps : Tree → Tree → Tree → Row
if_steps c a b =
    if is_false a && is_true b then negation_row c (exists_steps c)
    else (if is_false b then Infix infix_word.And c a
    else (if is_true a then Infix infix_word.Or c b
    else (if is_true b then Infix infix_word.Implies c a else Cond c a b)))

abbrev pub equality_row : Tree → Tree → Option (Tree × Tree) → Row
equality_row a b None = Infix infix_word.Equal a b
equality_row a b (Some q) = Quantified binder_word.Forall q.0 q.1

-- ---- Tuples.

abbrev pub is_some : Option (List Tree) → Bool
is_some None = false
is_some (Some xs) = true

-- the tag of a tuple
abbrev pub tag_of : Tree → Option ℕ
tag_of (t.Tup k a b) = Some k
tag_of _ = None

-- the parts of a tuple of k parts, whatever its tags
abbrev pub listed_by : Bool → Tree → List Tree → List Tree
listed_by true x xs = xs
listed_by false x xs = x ∷ []

abbrev pub part_list : ℕ → Tree → List Tree
part_list k (t.Tup j a b) = listed_by (nat_le 2 k) (t.Tup j a b) (a ∷ part_list (k - 1) b)
part_list k x = x ∷ []

-- the components of a tuple type of k components, whatever its tags
abbrev pub component_list : ℕ → Tree → List Tree
component_list k (t.TPair j a b) = listed_by (nat_le 2 k) (t.TPair j a b) (a ∷ component_list (k - 1) b)
component_list k x = x ∷ []
