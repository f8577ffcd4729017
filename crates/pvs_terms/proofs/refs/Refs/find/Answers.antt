use Rattle.std.proofs.Common.{◌≡◌, ℕ, List, Some, slice_get, sym, subst, ◌∙◌, ap, is_some}
use Rattle.std.proofs.lemmas.Map.Made.{is_some-lookup}
use Rattle.std.specs.Map.{keys_of}
use Rattle.pvs_terms.specs.code.Refs.{Given, given_of}
use Rattle.pvs_terms.proofs.Keyed.{found_by, not_found_by}
use Rattle.pvs_terms.proofs.RefKeyLaws.{key_eq, key_eq-true, key_eq-same, seen_keys}
use Rattle.pvs_terms.proofs.refs.Refs.find.Goals as goal

pub returns-in-Some-clause-some : goal.returns-in-Some-clause-some
returns-in-Some-clause-some c =
    let key = c.args.key.now in
    let found = found_by given_of (key_eq key) (given_of key) (key_eq-true key) (keys_of c.self.inside.entries.entries) c.in-Some.at (sym c.get_index_of.ensures.index ∙ c.in-Some.is) in
    rw (← c.self.view_is) (subst (λ (l : List Given). slice_get l c.in-Some.at ≡ Some (given_of key)) (sym (seen_keys c.self.inside.entries.entries)) found)

pub returns-in-None-clause-none : goal.returns-in-None-clause-none
returns-in-None-clause-none c =
    let key = c.args.key.now in
    let absent = not_found_by given_of (key_eq key) (given_of key) (key_eq-same key) (keys_of c.self.inside.entries.entries) (sym (is_some-lookup _ c.self.inside.entries.entries) ∙ sym c.get_index_of.ensures.found ∙ ap is_some c.in-None.is) in
    rw (← c.self.view_is) (subst (λ (l : List Given). (i : ℕ) → slice_get l i ≡ Some (given_of key) → ⊥) (sym (seen_keys c.self.inside.entries.entries)) absent)
