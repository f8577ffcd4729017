-- A unit whose one lemma is reported open and is not true: p is a predicate on T, and the lemma l says that p holds of each x. The declarations, what
-- they make, and the interpretation in which the lemma is FALSE are those of the example of `pvs_proof_soundness`.
use Rattle.std.specs.Prelude.{[], ◌∷◌}
use Rattle.pvs_syntax.specs.declared.unit.Theory.{Theory}
use Rattle.pvs_syntax.specs.declared.unit.Item.TheVariants as item
use Rattle.pvs_syntax.specs.declared.unit.Unit as unit
use Rattle.pvs_proof_soundness.proofs.OpenExample.{word, type_decl, constant_p, variable_x, lemma_l}

abbrev pub small : Theory
small = record { name = word 0 1; formals = []; assuming = []; decls = type_decl ∷ constant_p ∷ variable_x ∷ lemma_l ∷ []; end = 67 }

-- the unit that the text reads as
abbrev pub whole : unit.Unit
whole = record { items = item.Theory small ∷ [] }
