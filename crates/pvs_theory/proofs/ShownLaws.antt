-- A store that grows leaves entries and parts standing for what they stood for.
use Rattle.std.proofs.Common.{◌≡◌, ◌∙◌, ◌<◌, refl, sym, ap, ap₂, subst, arith, ℕ, zero, suc, List, [], ◌∷◌, ◌++◌, length, get_or}
use Rattle.std.proofs.lemmas.List.{map-append}
use Rattle.pvs_syntax.specs.declared.unit.Item.{Item}
use Rattle.pvs_terms.specs.Tree.{Tree}
use Rattle.pvs_terms.specs.Sorts.{IsTerm}
use Rattle.pvs_terms.specs.Stored.{Stored, Extends}
use Rattle.pvs_syntax.specs.Words.{spelling}
use Rattle.pvs_theory.specs.declared.entries.Placed as program_placed
use Rattle.pvs_theory.specs.declared.entries.Entry as program
use Rattle.pvs_theory.specs.declared.entries.Entry.TheVariants as entry
use Rattle.pvs_theory.specs.declared.theories.Part as program_part
use Rattle.pvs_theory.specs.declared.theories.Part.TheVariants as part
use Rattle.pvs_theory.specs.Entries.{Entry, Formula, Placed}
use Rattle.pvs_theory.specs.Theories.{Part, Accepted, part_of, parts_of}
use Rattle.pvs_theory.proofs.PartLaws.{parts_push}
use Rattle.pvs_theory.specs.code.Shown.{AreEntriesOf, AreParts, ArePartsOf, IsEntryOf, IsPart, IsPartOf, IsPlacedOf, IsTermOf, entries_shown, entry_shown, part_shown, parts_shown, placed_at}

module _ (s t : Stored) (x : Extends s t) where
  pub term_extends : (i : ℕ) → IsTermOf s i → IsTermOf t i
  term_extends i h = record { node = x.nodes i h.node; term = subst IsTerm (sym (x.trees i h.node)) h.term }

  pub placed_extends : (p : program_placed.Placed) → IsPlacedOf s p → placed_at t p ≡ placed_at s p
  placed_extends p h = ap (λ (u : Tree). let q : Placed = record { at = p.at; tree = u } in q) (x.trees p.tree h.node)

  pub entry_extends : (e : program.Entry) → IsEntryOf s e → IsEntryOf t e
  entry_extends (entry.Constant w) h = tt
  entry_extends (entry.Formula w word i) h = x.nodes i h

  pub entry_shown-extends : (text : List ℕ) (e : program.Entry) → IsEntryOf s e → entry_shown t text e ≡ entry_shown s text e
  entry_shown-extends text (entry.Constant w) h = refl
  entry_shown-extends text (entry.Formula w word i) h = ap (λ (u : Tree). let f : Entry = record { name = spelling text w; kind = Formula word u } in f) (x.trees i h)

  pub entries_extend : (es : List program.Entry) → AreEntriesOf s es → AreEntriesOf t es
  entries_extend [] h = tt
  entries_extend (e ∷ es) h = (entry_extends e h.0, entries_extend es h.1)

  pub entries_shown-extend : (text : List ℕ) (es : List program.Entry) → AreEntriesOf s es → entries_shown t text es ≡ entries_shown s text es
  entries_shown-extend text [] h = refl
  entries_shown-extend text (e ∷ es) h =
      ap₂ (λ (f : Entry) (fs : List Entry). f ∷ fs) (entry_shown-extends text e h.0) (entries_shown-extend text es h.1)

  pub part_extends : (p : program_part.Part) → IsPartOf s p → IsPartOf t p
  part_extends (part.Accepted theory es) h = entries_extend es.items h
  part_extends (part.Rejected theory f) h = tt
  part_extends (part.Proving p) h = tt

  pub part_shown-extends : (text : List ℕ) (p : program_part.Part) → IsPartOf s p → part_shown t text p ≡ part_shown s text p
  part_shown-extends text (part.Accepted theory es) h = ap (Accepted (spelling text theory)) (entries_shown-extend text es.items h)
  part_shown-extends text (part.Rejected theory f) h = refl
  part_shown-extends text (part.Proving p) h = refl

  pub parts_extend : (ps : List program_part.Part) → ArePartsOf s ps → ArePartsOf t ps
  parts_extend [] h = tt
  parts_extend (p ∷ ps) h = (part_extends p h.0, parts_extend ps h.1)

  pub parts_shown-extend : (text : List ℕ) (ps : List program_part.Part) → ArePartsOf s ps → parts_shown t text ps ≡ parts_shown s text ps
  parts_shown-extend text [] h = refl
  parts_shown-extend text (p ∷ ps) h = ap₂ (λ (q : Part) (qs : List Part). q ∷ qs) (part_shown-extends text p h.0) (parts_shown-extend text ps h.1)

-- one more entry, and one more part
pub entries_push : (s : Stored) (es : List program.Entry) (e : program.Entry) → AreEntriesOf s es → IsEntryOf s e → AreEntriesOf s (es ++ e ∷ [])
entries_push s [] e h k = (k, tt)
entries_push s (d ∷ es) e h k = (h.0, entries_push s es e h.1 k)

-- an entry of a list
pub entry_known : (s : Stored) (es : List program.Entry) (i : ℕ) (e : program.Entry) → AreEntriesOf s es → i < length es → e ≡ get_or es i e → IsEntryOf s e
entry_known s [] i e h k q = absurd (omega arith)
entry_known s (d ∷ es) zero e h k q = subst (IsEntryOf s) (sym q) h.0
entry_known s (d ∷ es) (suc i) e h k q = entry_known s es i e h.1 (omega arith) q

pub part_known : (s : Stored) (ps : List program_part.Part) (i : ℕ) (p : program_part.Part) → ArePartsOf s ps → i < length ps → p ≡ get_or ps i p → IsPartOf s p
part_known s [] i p h k q = absurd (omega arith)
part_known s (r ∷ ps) zero p h k q = subst (IsPartOf s) (sym q) h.0
part_known s (r ∷ ps) (suc i) p h k q = part_known s ps i p h.1 (omega arith) q

parts_known-push : (s : Stored) (ps : List program_part.Part) (p : program_part.Part) → ArePartsOf s ps → IsPartOf s p → ArePartsOf s (ps ++ p ∷ [])
parts_known-push s [] p h k = (k, tt)
parts_known-push s (q ∷ ps) p h k = (h.0, parts_known-push s ps p h.1 k)

-- one more part, in a store that has grown
pub parts_added : (s t : Stored) (text : List ℕ) (before : List Item) (i : Item) (ps : List program_part.Part) (p : program_part.Part) → Extends s t
    → AreParts s text (parts_of text before) ps → IsPart t text (part_of text before i) p → AreParts t text (parts_of text (before ++ i ∷ [])) (ps ++ p ∷ [])
parts_added s t text before i ps p x h k = record {
  nodes = parts_known-push t ps p (parts_extend s t x ps h.nodes) k.nodes;
  are =
      map-append (part_shown t text) ps (p ∷ [])
      ∙ ap (λ (qs : List Part). qs ++ part_shown t text p ∷ []) (parts_shown-extend s t x text ps h.nodes ∙ h.are)
      ∙ ap (λ (q : Part). parts_of text before ++ q ∷ []) k.is
      ∙ sym (parts_push text before i);
}
