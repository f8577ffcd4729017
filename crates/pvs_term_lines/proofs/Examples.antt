-- Lines with their bytes, by computation. The theory t declares the type T and the constants p and q.
use Rattle.std.proofs.Common.{◌≡◌, List, [], ◌∷◌, ◌++◌, codes, refl, false}
use Rattle.std.specs.Prelude.{None}
use Rattle.std.specs.Fmt.{digits}
use Rattle.pvs_terms.specs.Tree as t
use Rattle.pvs_terms.specs.Tree.{Text, Tree}
use Rattle.pvs_sig.specs.Signature.{TypeSig, ConstSig}
use Rattle.pvs_sig.specs.Development.{Development}
use Rattle.pvs_sequent.specs.Sequents.{Sequent}
use Rattle.pvs_printer.specs.BySize.{by_size}
use Rattle.pvs_printer.specs.TreeForm.{form}
use Rattle.pvs_term_lines.specs.Lines.{sequent_text, term_line}

abbrev T : Tree
T = t.TName (t.Own 0)

abbrev p : Tree → Tree
p x = t.App (t.Const (t.Own 1)) x

abbrev q : Tree
q = t.Const (t.Own 2)

abbrev theories : Development
theories = record {
  name = codes "t";
  formals = [];
  entries = record { name = codes "T"; kind = TypeSig false None } ∷ record { name = codes "p"; kind = ConstSig (t.TFun T t.TBool) None } ∷ record { name = codes "q"; kind = ConstSig t.TBool None } ∷ [];
  imports = [];
} ∷ []

abbrev all : Tree → Tree → Tree
all a b = t.Eq (t.Lam a b) (t.Lam a t.True)

abbrev text : Sequent → Text
text s = sequent_text theories (codes "t") s

-- the line of a text
abbrev line : Text → Text
line x = x ++ 10 ∷ []

condition : term_line theories (codes "t") (all T (p (t.Var 0))) ≡ line (codes "  FORALL (v!1: T): p(v!1)")
unfolding form by_size digits
condition = refl

formula_alone : text (record { variables = []; antecedents = []; consequents = all T (p (t.Var 0)) ∷ [] }) ≡ line (codes "|-") ++ line (codes "1: FORALL (v!1: T): p(v!1)")
unfolding form by_size digits
formula_alone = refl

one_variable : text (record { variables = T ∷ []; antecedents = []; consequents = p (t.Var 0) ∷ [] }) ≡ line (codes "s!1: T") ++ line (codes "|-") ++ line (codes "1: p(s!1)")
unfolding form by_size digits
one_variable = refl

two_consequents : text (record { variables = []; antecedents = []; consequents = q ∷ q ∷ [] }) ≡ line (codes "|-") ++ line (codes "1: q") ++ line (codes "2: q")
unfolding form by_size digits
two_consequents = refl

no_consequent : text (record { variables = []; antecedents = q ∷ []; consequents = [] }) ≡ line (codes "-1: q") ++ line (codes "|-")
unfolding form by_size digits
no_consequent = refl

-- the second variable is the first in the list, and its type stands under the first variable
dependent_variables : text (record { variables = t.TSub T (t.Eq (t.Var 0) (t.Var 1)) ∷ T ∷ []; antecedents = p (t.Var 1) ∷ p (t.Var 0) ∷ []; consequents = t.Eq (t.Var 0) (t.Var 1) ∷ [] })
    ≡ line (codes "s!1: T") ++ line (codes "s!2: {v!1: T | v!1 = s!1}") ++ line (codes "-1: p(s!1)") ++ line (codes "-2: p(s!2)") ++ line (codes "|-") ++ line (codes "1: s!2 = s!1")
unfolding form by_size digits
dependent_variables = refl
