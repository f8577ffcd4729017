-- The shapes by steps are those of the rows.
use Rattle.std.proofs.Common.{◌≡◌, Option, Some, None, refl, ap, ◌∙◌}
use Rattle.pvs_terms.specs.Tree as t
use Rattle.pvs_terms.specs.Tree.{Tree}
use Rattle.pvs_printer.specs.code.Steps.{◌>>=◌}
use Rattle.pvs_printer.specs.Row as r
use Rattle.pvs_printer.specs.Row.{forall_of, exists_in, not_row, if_row, unnegated, equal_row}
use Rattle.pvs_printer.specs.code.Steps.{forall_steps, not_of, exists_steps, negation_row, if_steps, equality_row}

pub forall_by_steps : (x : Tree) → forall_steps x ≡ forall_of x
forall_by_steps (t.Eq (t.Lam a p) (t.Lam b t.True)) = refl
forall_by_steps _ = refl

not_by_steps : (x : Tree) → not_of x ≡ r.not_of x
not_by_steps (t.If c t.False t.True) = refl
not_by_steps _ = refl

paired : (a : Tree) (o : Option Tree) → (o >>= λ p. Some (a, p)) ≡ unnegated a o
paired a None = refl
paired a (Some p) = refl

exists_by : (o : Option (Tree × Tree)) → (o >>= λ q. not_of q.1 >>= λ p. Some (q.0, p)) ≡ exists_in o
exists_by None = refl
exists_by (Some q) = ap (λ o. o >>= λ p. Some (q.0, p)) (not_by_steps q.1) ∙ paired q.0 (r.not_of q.1)

pub exists_by_steps : (x : Tree) → exists_steps x ≡ exists_in (forall_of x)
exists_by_steps x = ap (λ o. o >>= λ q. not_of q.1 >>= λ p. Some (q.0, p)) (forall_by_steps x) ∙ exists_by (forall_of x)

negation_same : (c : Tree) (o : Option (Tree × Tree)) → negation_row c o ≡ not_row c o
negation_same c None = refl
negation_same c (Some q) = refl

pub if_by_steps : (c a b : Tree) → if_steps c a b ≡ if_row c a b
if_by_steps c t.False t.True = ap (negation_row c) (exists_by_steps c) ∙ negation_same c (exists_in (forall_of c))
if_by_steps c a t.False = refl
if_by_steps c t.True b = refl
if_by_steps c a t.True = refl
if_by_steps c a b = refl

pub equality_by_steps : (a b : Tree) (o : Option (Tree × Tree)) → equality_row a b o ≡ equal_row a b o
equality_by_steps a b None = refl
equality_by_steps a b (Some q) = refl
