-- The form of a tree under d binders. The variable of the binder under d others is v!(d + 1), and the type of a binder does not stand
-- under it. Each subtype, function type, component of a tuple type and abstraction around a place counts as a binder there, also
-- where its own variable is not written.
use Rattle.std.specs.Prelude.{ℕ, ◌+◌, ◌-◌, nat_lt, Bool, true, false, if◌then◌else◌, List, [], ◌∷◌, Option, Some, None}
use Rattle.pvs_terms.specs.Tree as t
use Rattle.pvs_terms.specs.Tree.{Tree, Ref, Trees, size}
use Rattle.pvs_printer.specs.BySize.{by_size}
use Rattle.pvs_printer.specs.Form as f
use Rattle.pvs_printer.specs.Form.{Single, Bound, Free, Form, Forms}
use Rattle.pvs_printer.specs.Mentions.{mentions, mentioned}
use Rattle.pvs_printer.specs.Names.{Names}
use Rattle.pvs_printer.specs.Row.{Row, row, Truth, Variable, Named, Quantified, Not, Infix, Cond, Apply, Tuple, Part, Boolean, SubType, FunType, TupleType, TaggedTuple, Rest, TaggedType}

-- the variable of this index under d binders, in a sequent with so many variables: v!(d - n) is that of the binder under d - n - 1
-- others, and the i-th variable of the sequent is s!i
abbrev pub single : ℕ → ℕ → ℕ → Single
single vars d n = if nat_lt n d then Bound (d - n) else Free (vars - (n - d))

-- the number of a variable, where it is mentioned
abbrev pub number_if : Bool → ℕ → Option ℕ
number_if true n = Some n
number_if false n = None

-- how trees that are smaller are printed, under so many binders
abbrev pub Printing : Type 0
Printing = ℕ → Tree → Form

abbrev pub exprs : Printing → ℕ → List Tree → Forms
exprs go d [] = f.none
exprs go d (x ∷ xs) = f.more None (go d x) (exprs go d xs)

-- within actuals binders are counted from 0 again
abbrev pub actuals : Printing → Trees → Forms
actuals go t.none = f.none
actuals go (t.more x xs) = f.more None (go 0 x) (actuals go xs)

abbrev pub components : Printing → ℕ → List Tree → Forms
components go d [] = f.none
components go d (x ∷ xs) = f.more (number_if (mentioned 0 xs) (d + 1)) (go d x) (components go (d + 1) xs)

-- the name of an own entry or a formal, or the name of an entry of an instance with the theory and its actuals before it
abbrev pub ref_form : Names → Printing → Ref → Form
ref_form names go (t.Own n) = f.Plain (f.Declared (names.own n))
ref_form names go (t.Formal n) = f.Plain (f.Declared (names.formal n))
ref_form names go (t.Inst th n xs) = f.Qualified th (actuals go xs) (names.entry th n)

abbrev pub row_form : Names → ℕ → Printing → ℕ → Row → Form
row_form names vars go d (Truth b) = f.Truth b
row_form names vars go d (Variable n) = f.Plain (single vars d n)
row_form names vars go d (Named s r) = ref_form names go r
row_form names vars go d (Quantified w a p) = f.Quantified w (d + 1) (go d a) (go (d + 1) p)
row_form names vars go d (Not a) = f.Not (go d a)
row_form names vars go d (Infix w a b) = f.Infix w (go d a) (go d b)
row_form names vars go d (Cond c a b) = f.Cond (go d c) (go d a) (go d b)
row_form names vars go d (Apply g x xs) = f.Apply (go d g) (exprs go d (x ∷ xs))
row_form names vars go d (Tuple x y ys) = f.Tuple (go d x) (exprs go d (y ∷ ys))
row_form names vars go d (Part a i) = f.Part (go d a) i
row_form names vars go d Boolean = f.Boolean
row_form names vars go d (SubType a p) = f.SubType (d + 1) (go d a) (go (d + 1) p)
row_form names vars go d (FunType a b) = f.FunType (number_if (mentions 0 b) (d + 1)) (go d a) (go (d + 1) b)
row_form names vars go d (TupleType a b bs) = f.TupleType (number_if (mentioned 0 (b ∷ bs)) (d + 1)) (go d a) (components go (d + 1) (b ∷ bs))
row_form names vars go d (TaggedTuple k a b) = f.TaggedTuple k (go d a) (go d b)
row_form names vars go d (Rest a) = f.Rest (go d a)
row_form names vars go d (TaggedType k a b) = f.TaggedType k (number_if (mentions 0 b) (d + 1)) (go d a) (go (d + 1) b)

-- one step, over how smaller trees are printed
abbrev pub form_by : Names → ℕ → (Tree → ℕ → Form) → Tree → ℕ → Form
form_by names vars go x d = row_form names vars (λ e u. go u e) d (row x)

abbrev pub no_form : Tree → ℕ → Form
no_form x d = f.Truth false

-- the form of a tree under so many binders
unfoldable pub form : Names → ℕ → Tree → ℕ → Form
form names vars = by_size size (form_by names vars) no_form
