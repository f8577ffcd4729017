use Rattle.std.proofs.Common.{◌≡◌}
use Rattle.pvs_elab.specs.Desugar.{phrase}
use Rattle.pvs_elab.specs.Phrase.{place}
use Rattle.pvs_phrases.proofs.places.first_place.Given as goal

abbrev pub invariant-loop-first : goal.invariant-loop-first
invariant-loop-first l = place (phrase l.text l.first) ≡ place (phrase l.text l.expr)
