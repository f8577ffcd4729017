-- Trees with their texts, by computation. T is a formal type, p an own constant, q a formal constant; s!1 and s!2 are the variables
-- of the sequent, of which index 0 is the second under no binder.
use Rattle.std.proofs.Common.{◌≡◌, codes, refl}
use Rattle.std.specs.Fmt.{digits}
use Rattle.pvs_terms.specs.Tree as t
use Rattle.pvs_terms.specs.Tree.{Text, Tree}
use Rattle.pvs_printer.specs.BySize.{by_size}
use Rattle.pvs_printer.specs.Names.{Names}
use Rattle.pvs_printer.specs.TreeForm.{form}
use Rattle.pvs_printer.specs.Text.{text_by}

abbrev names : Names
names = record { own = λ n. codes "p"; formal = λ n. codes "T"; entry = λ th n. codes "x" }

abbrev T : Tree
T = t.TName (t.Formal 0)

abbrev p : Tree
p = t.Const (t.Own 0)

abbrev neg : Tree → Tree
neg a = t.If a t.False t.True

abbrev all : Tree → Tree → Tree
all a b = t.Eq (t.Lam a b) (t.Lam a t.True)

abbrev text : Tree → Text
text x = text_by names 2 x

-- ---- Names, truth values, and variables of the sequent.

own_name : text p ≡ codes "p"
unfolding form by_size digits
own_name = refl

formal_name : text T ≡ codes "T"
unfolding form by_size digits
formal_name = refl

truth : text t.True ≡ codes "TRUE"
unfolding form by_size digits
truth = refl

falsity : text t.False ≡ codes "FALSE"
unfolding form by_size digits
falsity = refl

boolean : text t.TBool ≡ codes "bool"
unfolding form by_size digits
boolean = refl

last_variable : text (t.Var 0) ≡ codes "s!2"
unfolding form by_size digits
last_variable = refl

first_variable : text (t.Var 1) ≡ codes "s!1"
unfolding form by_size digits
first_variable = refl

-- an instance without actuals, and one with a type, a function type and a term
instance_without_actuals : text (t.Const (t.Inst (codes "th") 4 t.none)) ≡ codes "th.x"
unfolding form by_size digits
instance_without_actuals = refl

instance_with_actuals : text (t.Const (t.Inst (codes "th") 4 (t.more T (t.more (t.TFun T T) (t.more (t.Eq p p) t.none))))) ≡ codes "th[T, [T -> T], p = p].x"
unfolding form by_size digits
instance_with_actuals = refl

-- within actuals binders are counted from 0 again
actual_under_a_binder : text (t.Lam T (t.Const (t.Inst (codes "th") 0 (t.more (t.Lam T (t.Var 0)) t.none)))) ≡ codes "LAMBDA (v!1: T): th[LAMBDA (v!1: T): v!1].x"
unfolding form by_size digits
actual_under_a_binder = refl

-- ---- Quantifiers and NOT.

exists_before_not : text (neg (all T (neg (t.App p (t.Var 0))))) ≡ codes "EXISTS (v!1: T): p(v!1)"
unfolding form by_size digits
exists_before_not = refl

-- the body of the FORALL is no negation
not_of_forall : text (neg (all T (t.App p (t.Var 0)))) ≡ codes "NOT (FORALL (v!1: T): p(v!1))"
unfolding form by_size digits
not_of_forall = refl

forall_before_equality : text (all T p) ≡ codes "FORALL (v!1: T): p"
unfolding form by_size digits
forall_before_equality = refl

-- the two types differ
equality_of_abstractions : text (t.Eq (t.Lam T t.True) (t.Lam t.TBool t.True)) ≡ codes "(LAMBDA (v!1: T): TRUE) = (LAMBDA (v!1: bool): TRUE)"
unfolding form by_size digits
equality_of_abstractions = refl

-- each tree has its first row, from the outside
exists_of_forall : text (neg (all T (neg (all T (neg (t.App p (t.Var 1))))))) ≡ codes "EXISTS (v!1: T): FORALL (v!2: T): NOT p(v!1)"
unfolding form by_size digits
exists_of_forall = refl

not_before_implies : text (neg p) ≡ codes "NOT p"
unfolding form by_size digits
not_before_implies = refl

not_not : text (neg (neg p)) ≡ codes "NOT (NOT p)"
unfolding form by_size digits
not_not = refl

-- ---- AND before OR before IMPLIES before IF, and equality.

and_ : text (t.If p p t.False) ≡ codes "p AND p"
unfolding form by_size digits
and_ = refl

and_before_or : text (t.If p t.True t.False) ≡ codes "p AND TRUE"
unfolding form by_size digits
and_before_or = refl

or_ : text (t.If p t.True p) ≡ codes "p OR p"
unfolding form by_size digits
or_ = refl

or_before_implies : text (t.If p t.True t.True) ≡ codes "p OR TRUE"
unfolding form by_size digits
or_before_implies = refl

implies : text (t.If p p t.True) ≡ codes "p IMPLIES p"
unfolding form by_size digits
implies = refl

conditional : text (t.If p (t.Eq p p) p) ≡ codes "IF p THEN p = p ELSE p ENDIF"
unfolding form by_size digits
conditional = refl

equality : text (t.Eq p t.False) ≡ codes "p = FALSE"
unfolding form by_size digits
equality = refl

-- ---- Operands.

-- in parentheses: an infix, a negation, a quantifier
operands_in_parentheses : text (t.If (t.Eq (t.Var 0) (neg (t.Var 1))) t.True (t.If (t.Var 1) (all T p) t.False)) ≡ codes "(s!2 = (NOT s!1)) OR (s!1 AND (FORALL (v!1: T): p))"
unfolding form by_size digits
operands_in_parentheses = refl

abstraction_as_operand : text (neg (t.Lam T p)) ≡ codes "NOT (LAMBDA (v!1: T): p)"
unfolding form by_size digits
abstraction_as_operand = refl

-- without: a name, an instance, a variable, TRUE, FALSE
names_as_operands : text (t.If (t.If p (t.Var 0) t.False) t.True (t.If t.True (t.Const (t.Inst (codes "th") 0 t.none)) t.False)) ≡ codes "(p AND s!2) OR (TRUE AND th.x)"
unfolding form by_size digits
names_as_operands = refl

-- without: an application, a projection, a tuple, an IF
terms_as_operands : text (t.If (t.Eq (t.App p p) (t.Snd 2 p)) t.True (t.Eq (t.Tup 2 p p) (t.If p p p))) ≡ codes "(p(p) = p`2) OR ((p, p) = IF p THEN p ELSE p ENDIF)"
unfolding form by_size digits
terms_as_operands = refl

-- without: (k; a, b) and t`rest
tagged_operands : text (t.Eq (t.Tup 3 p p) (t.Snd 3 p)) ≡ codes "(3; p, p) = p`rest"
unfolding form by_size digits
tagged_operands = refl

-- the function of an application, and what a projection is of
function_in_parentheses : text (t.App (t.Lam T (t.Var 0)) (neg p)) ≡ codes "(LAMBDA (v!1: T): v!1)(NOT p)"
unfolding form by_size digits
function_in_parentheses = refl

function_without_parentheses : text (t.App (t.App p p) p) ≡ codes "p(p)(p)"
unfolding form by_size digits
function_without_parentheses = refl

projection_of_an_equality : text (t.Fst 2 (t.Eq p p)) ≡ codes "(p = p)`1"
unfolding form by_size digits
projection_of_an_equality = refl

projection_of_a_tuple : text (t.Fst 2 (t.Tup 2 p p)) ≡ codes "(p, p)`1"
unfolding form by_size digits
projection_of_a_tuple = refl

-- nothing else stands in parentheses: arguments, branches, bodies
loose_parts : text (t.App p (t.Tup 2 (neg p) (t.If (neg p) (t.Eq p p) (t.Lam T (neg p))))) ≡ codes "p(NOT p, IF NOT p THEN p = p ELSE LAMBDA (v!1: T): NOT p ENDIF)"
unfolding form by_size digits
loose_parts = refl

-- ---- Applications, tuples and projections.

one_argument : text (t.App p p) ≡ codes "p(p)"
unfolding form by_size digits
one_argument = refl

-- the last argument is a pair
arguments : text (t.App p (t.Tup 3 p (t.Tup 2 p (t.Tup 2 p p)))) ≡ codes "p(p, p, (p, p))"
unfolding form by_size digits
arguments = refl

-- one argument, which lacks a tag
tagged_argument : text (t.App p (t.Tup 3 p p)) ≡ codes "p((3; p, p))"
unfolding form by_size digits
tagged_argument = refl

triple : text (t.Tup 3 p (t.Tup 2 p p)) ≡ codes "(p, p, p)"
unfolding form by_size digits
triple = refl

pair_with_a_pair : text (t.Tup 2 p (t.Tup 2 p p)) ≡ codes "(p, (p, p))"
unfolding form by_size digits
pair_with_a_pair = refl

first_part : text (t.Fst 3 p) ≡ codes "p`1"
unfolding form by_size digits
first_part = refl

middle_part : text (t.Fst 2 (t.Snd 3 p)) ≡ codes "p`2"
unfolding form by_size digits
middle_part = refl

last_part : text (t.Snd 2 (t.Snd 3 p)) ≡ codes "p`3"
unfolding form by_size digits
last_part = refl

-- a projection of a projection
part_of_a_part : text (t.Fst 2 (t.Snd 2 p)) ≡ codes "p`2`1"
unfolding form by_size digits
part_of_a_part = refl

rest_of : text (t.Snd 3 p) ≡ codes "p`rest"
unfolding form by_size digits
rest_of = refl

rest_of_rest : text (t.Snd 4 (t.Snd 5 p)) ≡ codes "p`rest`rest"
unfolding form by_size digits
rest_of_rest = refl

-- ---- Types, and variables under 0, 1, 2 and 3 binders.

subtype : text (t.TSub T (t.App p (t.Var 0))) ≡ codes "{v!1: T | p(v!1)}"
unfolding form by_size digits
subtype = refl

plain_function : text (t.TFun T T) ≡ codes "[T -> T]"
unfolding form by_size digits
plain_function = refl

-- the variable of the function type is not written, but counts
function : text (t.TFun T (t.TSub T (t.App p (t.Var 0)))) ≡ codes "[T -> {v!2: T | p(v!2)}]"
unfolding form by_size digits
function = refl

dependent_function : text (t.TFun T (t.TSub T (t.Eq (t.Var 0) (t.Var 1)))) ≡ codes "[v!1: T -> {v!2: T | v!2 = v!1}]"
unfolding form by_size digits
dependent_function = refl

plain_tuple : text (t.TPair 3 T (t.TPair 2 T t.TBool)) ≡ codes "[T, T, bool]"
unfolding form by_size digits
plain_tuple = refl

-- the first variable is mentioned in the third component, the second in none
dependent_tuple : text (t.TPair 3 T (t.TPair 2 T (t.TSub T (t.Eq (t.Var 0) (t.Var 2))))) ≡ codes "[v!1: T, T, {v!3: T | v!3 = v!1}]"
unfolding form by_size digits
dependent_tuple = refl

tagged_tuple : text (t.TPair 3 T T) ≡ codes "[3; T, T]"
unfolding form by_size digits
tagged_tuple = refl

tagged_dependent_tuple : text (t.TPair 3 T (t.TSub T (t.Eq (t.Var 0) (t.Var 1)))) ≡ codes "[3; v!1: T, {v!2: T | v!2 = v!1}]"
unfolding form by_size digits
tagged_dependent_tuple = refl

-- a binder's own type does not stand under it
type_of_a_binder : text (t.Lam (t.TSub T (t.Var 0)) (t.Var 0)) ≡ codes "LAMBDA (v!1: {v!1: T | v!1}): v!1"
unfolding form by_size digits
type_of_a_binder = refl

three_binders : text (all T (t.Lam T (all T (t.App (t.App (t.Var 0) (t.Var 1)) (t.App (t.Var 2) (t.Var 3)))))) ≡ codes "FORALL (v!1: T): LAMBDA (v!2: T): FORALL (v!3: T): v!3(v!2)(v!1(s!2))"
unfolding form by_size digits
three_binders = refl
