use Rattle.std.proofs.Common.{◌≡◌, ℕ, List, [], ◌∷◌, Some, slice_get, map, sym, subst, ◌∙◌, ap}
use Rattle.std.specs.Map.{keys_of}
use Rattle.std.proofs.lemmas.List.{map-append}
use Rattle.pvs_terms.specs.code.Refs.{Given, RefEntry, given_of, entry_of}
use Rattle.pvs_terms.proofs.Keyed.{entered_by}
use Rattle.pvs_terms.proofs.RefKeyLaws.{key_eq, key_eq-true, seen_keys}
use Rattle.pvs_terms.proofs.refs.Refs.push.Goals as goal

pub returns-clause-ok : goal.returns-clause-ok
returns-clause-ok c =
    let es = c.self.inside.entries.entries in
    let key = c.args.key in
    let fresh = subst (λ (l : List RefEntry). (i : ℕ) → slice_get (keys_of l) i ≡ Some (given_of key) → ⊥) (sym c.self.view_is) c.requires in
    let new = subst (λ (l : List Given). (i : ℕ) → slice_get l i ≡ Some (given_of key) → ⊥) (seen_keys es) fresh in
    rw (← c.self.view_is)
    (ap (map entry_of) (c.in_ok-insert.ensures.entries ∙ entered_by given_of key_eq key c.args.measure (key_eq-true key) es new) ∙ map-append entry_of es ((key, c.args.measure) ∷ []))
