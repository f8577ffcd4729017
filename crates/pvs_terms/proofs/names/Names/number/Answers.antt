use Rattle.std.proofs.Common.{◌≡◌, false, ◌∷◌, [], ◌++◌, string_bytes, sym, ap, ◌∙◌, is_some, bytes_eq, if◌then◌else◌}
use Rattle.std.specs.List.{list_any}
use Rattle.std.proofs.lemmas.Slice.Eq.{bytes_eq-Decides}
use Rattle.pvs_terms.proofs.TextLaws.{found_is, taken_is, IsTaken}
use Rattle.pvs_terms.proofs.names.Names.number.Goals as goal

pub returns-in-Some-clause-ok : goal.returns-in-Some-clause-ok
returns-in-Some-clause-ok c = rw (← c.self.view_is) (found_is string_bytes c.self.inside.texts.keys c.args.text.now c.in-Some.at c.self.invariant (sym c.get_index_of.ensures.index ∙ c.in-Some.is))

taken : (c : goal.In_ok-at) → IsTaken string_bytes c.self.inside.texts.keys c.insert_full.new.self.keys c.args.text.now c.in_ok-at.at
taken c =
    let ks = c.self.inside.texts.keys in
    let owned = c.in_ok-owned.owned in
    let text : string_bytes owned ≡ c.args.text.now = c.in_ok-owned.ensures.ok in
    let absent : list_any (λ k. bytes_eq c.args.text.now (string_bytes k)) ks ≡ false = sym c.get_index_of.ensures.found ∙ ap is_some c.in_default.is in
    let pushed : c.insert_full.new.self.keys ≡ ks ++ owned ∷ [] =
    c.in_ok-at.ensures.keys ∙ ap (λ b. if b then ks else ks ++ owned ∷ []) (ap (λ t. list_any (λ k. bytes_eq t (string_bytes k)) ks) text ∙ absent) in
    let kept = c.in_ok-at.ensures.stored in
    taken_is string_bytes ks c.insert_full.new.self.keys owned kept.0 c.args.text.now c.in_ok-at.at c.self.invariant absent text pushed kept.1 c.in_ok-at.ensures.within
    (sym ((bytes_eq-Decides _ _).0 kept.2) ∙ text)

pub invariant_of-self-2 : goal.invariant_of-self-2
invariant_of-self-2 c = (taken c).distinct

pub returns-clause-ok : goal.returns-clause-ok
returns-clause-ok c = (taken c).only
