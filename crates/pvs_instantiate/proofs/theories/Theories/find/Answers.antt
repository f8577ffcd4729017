use Rattle.std.proofs.Common.{sym, ◌∙◌, ap, is_some, rules, ◌≡◌, true, eqb}
use Rattle.std.proofs.lemmas.Bool.{eqb-true}
use Rattle.std.proofs.lemmas.Map.Made.{is_some-lookup}
use Rattle.std.specs.Map.{keys_of}
use Rattle.pvs_terms.proofs.Keyed.{found, not_found}
use Rattle.pvs_instantiate.proofs.theories.Theories.find.Goals as goal

pub returns-in-Some-clause-some : goal.returns-in-Some-clause-some
returns-in-Some-clause-some c =
    rw (← c.self.view_is) (found _ c.args.name (λ x h. eqb-true c.args.name x h) (keys_of c.self.inside.entries.entries) c.in-Some.at (sym c.get_index_of.ensures.index ∙ c.in-Some.is))

pub returns-in-None-clause-none : goal.returns-in-None-clause-none
returns-in-None-clause-none c =
    let same : eqb c.args.name c.args.name ≡ true = search rules in
    rw (← c.self.view_is)
    (not_found _ c.args.name same (keys_of c.self.inside.entries.entries) (sym (is_some-lookup _ c.self.inside.entries.entries) ∙ sym c.get_index_of.ensures.found ∙ ap is_some c.in-None.is))
