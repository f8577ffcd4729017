use Rattle.std.proofs.Common.{◌≡◌, ◌<◌, ◌≤◌, ◌∙◌, ◌+◌, ℕ, List, length, drop, Some, None, if◌then◌else◌, refl, rules, sym, subst}
use Rattle.std.proofs.lemmas.List.{drop_all}
use Rattle.std.proofs.lemmas.Result.{err_from_is_err_and}
use Rattle.std.specs.Option.{option_or}
use Rattle.pvs_base.specs.declared.place.Pos.{Pos}
use Rattle.pvs_terms.proofs.StoredLaws.{extends_trans}
use Rattle.pvs_theory.specs.Entries.{entry_of, is_constant}
use Rattle.pvs_theory.specs.code.Fault.{Elaborated, FailsElab}
use Rattle.pvs_theory.specs.code.Index.{value_of}
use Rattle.pvs_theory.specs.code.Shown.{IsEntryOf, entry_shown}
use Rattle.pvs_theory.proofs.EntryLaws.{AreSoFar, entry_added, entry_faulty}
use Rattle.pvs_theory.proofs.Loops.{left_more}
use Rattle.pvs_theory.proofs.entries.entries.Goals as goal

pub loop-decl-preserved : goal.loop-decl-preserved
loop-decl-preserved c =
    let text = c.args.text.now in
    let ds = c.args.decls.now in
    let i = c.loop-decl.decl-index in
    let d = c.decl-item.result in
    let seen = c.loop-decl.invariant in
    let s = c.loop-decl.store in
    let t = c.make_entry.new.store in
    let old = c.loop-decl.scope.constants in
    let new = c.push_entry.new.scope.constants in
    let es = c.loop-decl.entries.items in
    let e = c.in_ok-entry.entry in
    let inside : c.loop-decl.decl-index < length c.args.decls.now = search rules in
    let so_far = subst (λ xs. AreSoFar s text c.args.at old es xs ds) (left_more ds i d inside c.decl-item.is) seen.so_far in
    let made = subst (λ (p : Pos). Elaborated (IsEntryOf t) (entry_shown t text) (entry_of text p (value_of old) d) e) seen.place
    (subst (λ (u : List ℕ). Elaborated (IsEntryOf t) (entry_shown t u) (entry_of u c.loop-decl.scope.at (value_of old) d) e) seen.text c.in_ok-entry.ensures.entry) in
    let names = subst (λ (u : List ℕ). (name : List ℕ) → value_of new name ≡ option_or (value_of old name) (if is_constant name (entry_shown t u e) then Some (length c.loop-decl.entries.items) else None)) seen.text (c.in_ok-push_entry.ensures.names t) in
    record {
      kept = extends_trans seen.kept c.in_ok-entry.ensures.kept;
      text = c.in_ok-push_entry.ensures.text ∙ seen.text;
      place = c.in_ok-push_entry.ensures.at ∙ seen.place;
      so_far =
          subst (λ xs. AreSoFar t text c.args.at new xs (drop (i + 1) ds) ds) (sym c.in_ok-push_entry.ensures.entries)
          (entry_added s t text c.args.at old new es d (drop (i + 1) ds) ds so_far c.in_ok-entry.ensures.kept e (length es) refl made names);
    }

pub returns-clause-entries : goal.returns-clause-entries
returns-clause-entries c =
    let ds = c.args.decls.now in
    let past : length c.args.decls.now ≤ c.loop-decl.decl-index = search rules in
    let done = subst (λ xs. AreSoFar c.loop-decl.store c.args.text.now c.args.at c.loop-decl.scope.constants c.loop-decl.entries.items xs ds) (drop_all c.loop-decl.decl-index ds past) c.loop-decl.invariant.so_far in
    record { nodes = done.nodes; is = sym done.answer }

pub returns-in_err-entry-clause-kept : goal.returns-in_err-entry-clause-kept
returns-in_err-entry-clause-kept c = extends_trans c.loop-decl.invariant.kept c.in_err-entry.ensures.kept

pub returns-in_err-push_entry-clause-kept : goal.returns-in_err-push_entry-clause-kept
returns-in_err-push_entry-clause-kept c = extends_trans c.loop-decl.invariant.kept c.in_ok-entry.ensures.kept

pub returns-in_err-entry-clause-entries : goal.returns-in_err-entry-clause-entries
returns-in_err-entry-clause-entries c =
    let text = c.args.text.now in
    let ds = c.args.decls.now in
    let i = c.loop-decl.decl-index in
    let d = c.decl-item.result in
    let seen = c.loop-decl.invariant in
    let s = c.loop-decl.store in
    let old = c.loop-decl.scope.constants in
    let es = c.loop-decl.entries.items in
    let f = c.in_err-entry.field-0.0 in
    let inside : c.loop-decl.decl-index < length c.args.decls.now = search rules in
    let so_far = subst (λ xs. AreSoFar s text c.args.at old es xs ds) (left_more ds i d inside c.decl-item.is) seen.so_far in
    let faulty = subst (λ (p : Pos). FailsElab f (entry_of text p (value_of old) d)) seen.place
    (subst (λ (u : List ℕ). FailsElab f (entry_of u c.loop-decl.scope.at (value_of old) d)) seen.text c.in_err-entry.ensures.entry) in
    let p = err_from_is_err_and c.from_residual.result c.from_residual.ensures.1 in
    rw (p.1, p.2) (entry_faulty s s text c.args.at old old es d (drop (i + 1) ds) ds so_far f faulty)
