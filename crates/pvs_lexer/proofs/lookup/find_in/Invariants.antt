use Rattle.std.proofs.Common.{◌≡◌, map, length}
use Rattle.pvs_lexer.specs.Keywords.{find}
use Rattle.pvs_lexer.proofs.lookup.find_in.Given as goal

abbrev pub invariant-loop-table : goal.invariant-loop-table
invariant-loop-table l = find (map (λ k. (k.0.now, k.1)) l.table) l.word ≡ find (map (λ k. (k.0.now, k.1)) l.initial.table) l.word

abbrev pub decreases-loop-table : goal.decreases-loop-table
decreases-loop-table l = length l.table
