use Rattle.std.proofs.Common.{◌≡◌, ◌<◌, ◌∙◌, List, length, map, sym, subst}
use Rattle.std.specs.Prelude.{slice_index_or}
use Rattle.std.specs.Map.{keys_of, values_of}
use Rattle.pvs_terms.specs.code.Measures.{no_trees}
use Rattle.pvs_terms.specs.code.Refs.{RefEntry, entry_of}
use Rattle.pvs_terms.specs.declared.refs.RefKey.{RefKey}
use Rattle.pvs_terms.proofs.RefKeyLaws.{seen_entry}
use Rattle.pvs_terms.proofs.refs.Refs.entry.Goals as goal

pub returns : goal.returns
returns c =
    let es = c.self.inside.entries.entries in
    let n = c.args.number in
    let key = c.index-as_slice-at.result in
    let within : n < length (map entry_of es) = subst (λ (l : List RefEntry). n < length l) (sym c.self.view_is) c.requires in
    let keys : c.as_slice.result.now ≡ keys_of es = c.as_slice.ensures ∙ c.keys.ensures.rest in
    let values : c.as_slice-2.result.now ≡ values_of es = c.as_slice-2.ensures ∙ c.values.ensures.rest in
    let at : key ≡ slice_index_or (keys_of es) n key = subst (λ (l : List RefKey). key ≡ slice_index_or l n key) keys c.index-as_slice-at.is in
    rw (← c.self.view_is, values) (seen_entry es n key no_trees within at)
