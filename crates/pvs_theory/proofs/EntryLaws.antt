-- The entries of a theory, declaration by declaration.
use Rattle.std.proofs.Common.{◌≡◌, ◌∙◌, sym, ap, subst, ℕ, List, [], ◌∷◌, ◌++◌, length, Some, None, Result, Ok, if◌then◌else◌}
use Rattle.std.proofs.Math.Path.{fun_ext}
use Rattle.std.specs.Option.{option_or}
use Rattle.std.proofs.lemmas.List.{length-map, map-append}
use Rattle.pvs_base.specs.declared.place.Pos.{Pos}
use Rattle.pvs_base.specs.declared.code.Fault.{Fault}
use Rattle.pvs_base.specs.Answers.{◌>>=◌}
use Rattle.pvs_syntax.specs.declared.unit.Decl.{Decl}
use Rattle.pvs_terms.specs.Stored.{Stored, Extends}
use Rattle.pvs_theory.specs.declared.entries.Placed as program_placed
use Rattle.pvs_theory.specs.declared.entries.Entry as program
use Rattle.pvs_theory.specs.declared.fault.ElabFault.{ElabFault}
use Rattle.pvs_theory.specs.declared.fault.ElabFault.TheVariants as elab_fault
use Rattle.pvs_theory.specs.declared.index.Index.{Index}
use Rattle.pvs_theory.specs.code.Fault.{Elaborated, FailsElab}
use Rattle.pvs_theory.specs.code.Index.{Indexes, value_of}
use Rattle.pvs_theory.specs.Entries.{Constants, Entry, Placed, entries_after, entries_of, entry_of, is_constant, resolve}
use Rattle.pvs_theory.specs.code.Shown.{AreEntriesOf, IsEntryOf, IsPlacedOf, entries_shown, entry_shown, placed_at}
use Rattle.pvs_theory.proofs.Resolving.{numbers_more}
use Rattle.pvs_theory.proofs.ShownLaws.{placed_extends, entries_extend, entries_shown-extend, entries_push}

-- what holds of the step after one that gives a value, or of its fault
pub after_value : {Y Z : Type 0} (P : Result Z Fault → Type 0) (f : Y → Result Z Fault) (r : Result Y Fault) (y : Y) → r ≡ Ok y → P (f y) → P (r >>= f)
after_value P f r y e h = subst (λ q. P (q >>= f)) (sym e) h

pub after_fault : {Y Z : Type 0} (f : Y → Result Z Fault) (r : Result Y Fault) (e : ElabFault) → FailsElab e r → FailsElab e (r >>= f)
after_fault f r elab_fault.Memory h = tt
after_fault f r (elab_fault.At q) h = ap (λ z. z >>= f) h

-- the same of a tree in a store that has grown since
pub after_tree : {Z : Type 0} (P : Result Z Fault → Type 0) (f : Placed → Result Z Fault) (s t : Stored) (r : Result Placed Fault) (p : program_placed.Placed) → Extends s t
    → Elaborated (IsPlacedOf s) (placed_at s) r p → P (f (placed_at t p)) → P (r >>= f)
after_tree P f s t r p x h k = after_value P f r (placed_at s p) h.is (subst (λ q. P (f q)) (placed_extends s t x p h.nodes) k)

-- the entries so far, the numbers of the constants among them, and the declarations that are left of all
pub record AreSoFar (s : Stored) (text : List ℕ) (at : Pos) (constants : Index ℕ) (es : List program.Entry) (left all : List Decl) : Type 0 where
  pub nodes : AreEntriesOf s es
  pub numbered : Indexes constants (resolve (entries_shown s text es))
  pub answer : entries_after text at (entries_shown s text es) left ≡ entries_of text at all

same_constants : (constants : Index ℕ) (es : List Entry) → Indexes constants (resolve es) → value_of constants ≡ resolve es
same_constants constants es h = fun_ext h

module _ (s t : Stored) (text : List ℕ) (at : Pos) (old new : Index ℕ) (es : List program.Entry) (d : Decl) (ds all : List Decl) (so_far : AreSoFar s text at old es (d ∷ ds) all) where
  -- the answer for the declaration, over the constants so far
  next_is : entries_after text at (entries_shown s text es) (d ∷ ds) ≡ (entry_of text at (value_of old) d >>= λ e. entries_after text at (entries_shown s text es ++ e ∷ []) ds)
  next_is = ap (λ (c : Constants). entry_of text at c d >>= λ e. entries_after text at (entries_shown s text es ++ e ∷ []) ds) (sym (same_constants old (entries_shown s text es) so_far.numbered))

  -- one more entry
  pub entry_added : Extends s t → (e : program.Entry) (n : ℕ) → n ≡ length es → Elaborated (IsEntryOf t) (entry_shown t text) (entry_of text at (value_of old) d) e
      → ((name : List ℕ) → value_of new name ≡ option_or (value_of old name) (if is_constant name (entry_shown t text e) then Some n else None))
      → AreSoFar t text at new (es ++ e ∷ []) ds all
  entry_added x e n count made names =
      let shown : entries_shown t text es ≡ entries_shown s text es = entries_shown-extend s t x text es so_far.nodes in
      let more : entries_shown t text (es ++ e ∷ []) ≡ entries_shown t text es ++ entry_shown t text e ∷ [] = map-append (entry_shown t text) es (e ∷ []) in
      record {
        nodes = entries_push t es e (entries_extend s t x es so_far.nodes) made.nodes;
        numbered = λ name.
            numbers_more (entries_shown t text es) (entry_shown t text e) name (value_of old name) (value_of new name) n (count ∙ sym (length-map es (entry_shown t text)))
            (so_far.numbered name ∙ ap (λ fs. resolve fs name) (sym shown)) (names name)
            ∙ ap (λ fs. resolve fs name) (sym more);
        answer =
            ap (λ fs. entries_after text at fs ds) (more ∙ ap (λ fs. fs ++ entry_shown t text e ∷ []) shown)
            ∙ sym (ap (λ r. r >>= λ f. entries_after text at (entries_shown s text es ++ f ∷ []) ds) made.is)
            ∙ sym next_is ∙ so_far.answer;
      }

  -- a declaration with a fault
  pub entry_faulty : (f : ElabFault) → FailsElab f (entry_of text at (value_of old) d) → FailsElab f (entries_of text at all)
  entry_faulty f h =
      subst (FailsElab f) (sym next_is ∙ so_far.answer) (after_fault (λ e. entries_after text at (entries_shown s text es ++ e ∷ []) ds) (entry_of text at (value_of old) d) f h)

-- no declaration is left
pub all_entries : (s : Stored) (text : List ℕ) (at : Pos) (constants : Index ℕ) (es : List program.Entry) (all : List Decl) → AreSoFar s text at constants es [] all
    → (AreEntriesOf s es) × (entries_of text at all ≡ Ok (entries_shown s text es))
all_entries s text at constants es all h = (h.nodes, sym h.answer)
