-- The trees that the words and signs of a row stand for: the table of rows read from right to left (CSL-97-2, where the connectives
-- and quantifiers are abbreviations).
use Rattle.std.specs.Prelude.{ℕ, zero, suc, ◌-◌, nat_lt, if◌then◌else◌, List, [], ◌∷◌, length}
use Rattle.pvs_terms.specs.Tree as t
use Rattle.pvs_terms.specs.Tree.{Tree}
use Rattle.pvs_printer.specs.declared.words.BinderWord.{BinderWord}
use Rattle.pvs_printer.specs.declared.words.BinderWord.TheVariants as binder_word
use Rattle.pvs_printer.specs.declared.words.InfixWord.{InfixWord}
use Rattle.pvs_printer.specs.declared.words.InfixWord.TheVariants as infix_word

-- a tuple of these parts, of which there are so many; and a tuple type
abbrev pub tuple : Tree → List Tree → Tree
tuple x [] = x
tuple x (y ∷ ys) = t.Tup (suc (suc (length ys))) x (tuple y ys)

abbrev pub tuple_type : Tree → List Tree → Tree
tuple_type x [] = x
tuple_type x (y ∷ ys) = t.TPair (suc (suc (length ys))) x (tuple_type y ys)

-- what the words stand for
abbrev pub negation : Tree → Tree
negation p = t.If p t.False t.True

abbrev pub quantified : BinderWord → Tree → Tree → Tree
quantified binder_word.Forall a p = t.Eq (t.Lam a p) (t.Lam a t.True)
quantified binder_word.Exists a p = negation (t.Eq (t.Lam a (negation p)) (t.Lam a t.True))
quantified binder_word.Lambda a b = t.Lam a b

abbrev pub infix_tree : InfixWord → Tree → Tree → Tree
infix_tree infix_word.And a b = t.If a b t.False
infix_tree infix_word.Or a b = t.If a t.True b
infix_tree infix_word.Implies a b = t.If a b t.True
infix_tree infix_word.Equal a b = t.Eq a b

-- so many Snd with the tags j, j + 1, .. round a tuple
abbrev pub seconds : ℕ → ℕ → Tree → Tree
seconds j zero x = x
seconds j (suc n) x = t.Snd j (seconds (suc j) n x)

-- the part with a number from 1, of a tuple with so many parts
abbrev pub projected : ℕ → ℕ → Tree → Tree
projected k i x = if nat_lt i k then t.Fst (suc (k - i)) (seconds (suc (suc (k - i))) (i - 1) x) else seconds 2 (k - 1) x
