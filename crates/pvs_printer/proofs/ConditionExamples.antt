-- Conditions and formulas of small theories with their texts, by computation. T is a type, p, q and same are constants, and c is a
-- constant of T.
use Rattle.std.proofs.Common.{◌≡◌, ℕ, zero, suc, codes, refl}
use Rattle.std.specs.Fmt.{digits}
use Rattle.pvs_terms.specs.Tree as t
use Rattle.pvs_terms.specs.Tree.{Text, Tree}
use Rattle.pvs_printer.specs.BySize.{by_size}
use Rattle.pvs_printer.specs.Names.{Names}
use Rattle.pvs_printer.specs.TreeForm.{form}
use Rattle.pvs_printer.specs.Text.{text_by}

abbrev name : ℕ → Text
name zero = codes "T"
name (suc zero) = codes "p"
name (suc (suc zero)) = codes "q"
name (suc (suc (suc zero))) = codes "c"
name (suc (suc (suc (suc n)))) = codes "same"

abbrev names : Names
names = record { own = name; formal = λ n. codes "S"; entry = λ th n. codes "equiv?" }

abbrev T : Tree
T = t.TName (t.Own 0)

abbrev p : Tree
p = t.Const (t.Own 1)

abbrev q : Tree
q = t.Const (t.Own 2)

abbrev neg : Tree → Tree
neg a = t.If a t.False t.True

abbrev all : Tree → Tree → Tree
all a b = t.Eq (t.Lam a b) (t.Lam a t.True)

-- in a sequent with so many variables
abbrev text : ℕ → Tree → Text
text vars x = text_by names vars x

-- an argument that is to be in the domain
argument_in_domain : text 0 (all T (t.App q (t.Var 0))) ≡ codes "FORALL (v!1: T): q(v!1)"
unfolding form by_size digits
argument_in_domain = refl

-- each element of one domain is to be in another
domain_in_domain : text 0 (all (t.TSub T (t.App p (t.Var 0))) (t.App q (t.Var 0))) ≡ codes "FORALL (v!1: {v!1: T | p(v!1)}): q(v!1)"
unfolding form by_size digits
domain_in_domain = refl

-- under the hypothesis of the second branch of an IF
under_a_hypothesis : text 0 (all T (t.If (neg (t.App p (t.Var 0))) (t.App p (t.Var 0)) t.True)) ≡ codes "FORALL (v!1: T): (NOT p(v!1)) IMPLIES p(v!1)"
unfolding form by_size digits
under_a_hypothesis = refl

-- a type is to be nonempty
existence : text 0 (neg (all T (neg t.True))) ≡ codes "EXISTS (v!1: T): TRUE"
unfolding form by_size digits
existence = refl

-- without variables
closed_condition : text 0 (t.App p (t.Const (t.Own 3))) ≡ codes "p(c)"
unfolding form by_size digits
closed_condition = refl

-- an assumption of an importing, in the instance
assumption_of_an_instance : text 0 (t.App (t.Const (t.Inst (codes "relations") 3 (t.more t.TBool t.none))) (t.Const (t.Own 4))) ≡ codes "relations[bool].equiv?(same)"
unfolding form by_size digits
assumption_of_an_instance = refl

-- a formula in which an abstraction stands for a name
abstraction_applied : text 0 (all t.TBool (t.App (t.Lam t.TBool (t.Eq (t.Var 0) (t.Var 0))) (t.Var 0))) ≡ codes "FORALL (v!1: bool): (LAMBDA (v!2: bool): v!2 = v!2)(v!1)"
unfolding form by_size digits
abstraction_applied = refl

-- a formula of a sequent with one variable, and of one without
formula_with_a_variable : text 1 (t.App p (t.Var 0)) ≡ codes "p(s!1)"
unfolding form by_size digits
formula_with_a_variable = refl

formula_without_variables : text 0 p ≡ codes "p"
unfolding form by_size digits
formula_without_variables = refl
