-- The lemma of an accepted theory is the one that its name finds in the unit.
use Rattle.std.proofs.Common.{◌≡◌, ◌∙◌, refl, sym, ap, append_assoc, append-nil, inl, inr, Contains, ℕ, Bool, true, false, not, ◌||◌, bytes_eq, if◌then◌else◌, List, [], ◌∷◌, ◌++◌, slice_get, Option, Some, None, Result, Ok, Err}
use Rattle.std.specs.Cmp.Lexicographic.{bytes_decides}
use Rattle.std.proofs.lemmas.Cmp.{nat_list_eq_equiv}
use Rattle.pvs_base.specs.declared.code.Fault.{Fault}
use Rattle.pvs_syntax.specs.declared.word.Word.{Word}
use Rattle.pvs_syntax.specs.declared.unit.Theory.{Theory}
use Rattle.pvs_syntax.specs.declared.unit.Item.{Item}
use Rattle.pvs_syntax.specs.declared.unit.Item.TheVariants as item
use Rattle.pvs_syntax.specs.declared.unit.FormulaWord.TheVariants as formula_word
use Rattle.pvs_terms.specs.Tree.{Tree}
use Rattle.pvs_theory.specs.Names.{FormulaName}
use Rattle.pvs_syntax.specs.Words.{spelling}
use Rattle.pvs_theory.specs.Forms.{is_built_theory}
use Rattle.pvs_theory.specs.Entries.{Entry, Formula, entries_of, out_of_profile}
use Rattle.pvs_theory.specs.Theories.{Part, Accepted, duplicate, first_repeated, has_name, unless_repeated, part_of, parts_after, parts_of, theory_entries, theory_names, theory_part, accepted_entries}
use Rattle.std.specs.Option.{option_or}
use Rattle.pvs_cli.specs.Verdicts.{lemma_in, lemma_named, part_lemma}
use Rattle.pvs_cli.proofs.LemmaLaws.{lemma_in-append}
use Rattle.pvs_cli.proofs.Members.{Has, has_contained}
use Rattle.pvs_theory.proofs.PartLaws.{parts_split}
use Rattle.pvs_cli.proofs.SoundNames.{are_distinct, distinct_names, entry_names, found_by_name, names_of_entries}

-- what is known of a theory that is accepted
pub record IsAccepted (text : List ℕ) (again : Bool) (t : Theory) (es : List Entry) : Type 0 where
  pub first : again ≡ false
  pub apart : first_repeated text [] t.decls ≡ None
  pub entries : entries_of text t.name.pos t.decls ≡ Ok es

pub entries_accepted : (text : List ℕ) (again : Bool) (t : Theory) (es : List Entry) → accepted_entries text again t ≡ Ok es → IsAccepted text again t es
entries_accepted text again t es h = built (is_built_theory text t) h
  where
    repeats : (o : Option Word) (r : Result (List Entry) Fault) → unless_repeated o r ≡ Ok es → (o ≡ None) × (r ≡ Ok es)
    repeats None r h = (refl, h)
    repeats (Some w) r h = cc

    named : (b : Bool) → (if b then Err (duplicate t.name) else unless_repeated (first_repeated text [] t.decls) (entries_of text t.name.pos t.decls)) ≡ Ok es → (b ≡ false) × (first_repeated text [] t.decls ≡ None) × (entries_of text t.name.pos t.decls ≡ Ok es)
    named true h = cc
    named false h = let r = repeats (first_repeated text [] t.decls) (entries_of text t.name.pos t.decls) h in (refl, r.0, r.1)

    built : (b : Bool) → (if not b then Err (out_of_profile t.name.pos) else (if again then Err (duplicate t.name) else unless_repeated (first_repeated text [] t.decls) (entries_of text t.name.pos t.decls))) ≡ Ok es → IsAccepted text again t es
    built true h = let r = named again h in record { first = r.0; apart = r.1; entries = r.2 }
    built false h = cc

-- a theory of another name has no lemma of this one
other_theory : (name : List ℕ) (n : FormulaName) (r : Result (List Entry) Fault) → bytes_eq n.theory name ≡ false → part_lemma (theory_part name r) n ≡ None
other_theory name n (Ok es) h = ap (λ (b : Bool). if b then lemma_named es n.formula else None) (nat_list_eq_equiv.symm name n.theory ∙ h)
other_theory name n (Err f) h = refl

neither : (a b : Bool) → a || b ≡ false → (a ≡ false) × (b ≡ false)
neither true b h = cc
neither false b h = (refl, h)

-- items without a theory of this name have none of its lemmas
pub none_before : (text : List ℕ) (n : FormulaName) (earlier is : List Item) → has_name n.theory (theory_names text is) ≡ false → lemma_in (parts_after text earlier is) n ≡ None
none_before text n earlier [] h = refl
none_before text n earlier (item.Theory t ∷ is) h =
    let both = neither (bytes_eq n.theory (spelling text t.name)) (has_name n.theory (theory_names text is)) h in
    ap (λ (o : Option Tree). option_or o (lemma_in (parts_after text (earlier ++ item.Theory t ∷ []) is) n)) (other_theory (spelling text t.name) n (theory_entries text earlier t) both.0)
    ∙ none_before text n (earlier ++ item.Theory t ∷ []) is both.1
none_before text n earlier (item.Proof p ∷ is) h = none_before text n (earlier ++ item.Proof p ∷ []) is h

option_or-Some : (o p : Option Tree) (t : Tree) → o ≡ Some t → option_or o p ≡ Some t
option_or-Some (Some s) p t h = h
option_or-Some None p t h = cc

-- an accepted theory among the parts of items, with the items before and after it
pub record IsTheoryAt (text : List ℕ) (earlier is : List Item) (theory : List ℕ) (es : List Entry) : Type 0 where
  pub before : List Item
  pub after : List Item
  pub declared : Theory
  pub split : is ≡ before ++ item.Theory declared ∷ after
  pub name : spelling text declared.name ≡ theory
  pub entries : theory_entries text (earlier ++ before) declared ≡ Ok es

accepted_here : (text : List ℕ) (earlier is : List Item) (t : Theory) (theory : List ℕ) (es : List Entry) (r : Result (List Entry) Fault) → theory_entries text earlier t ≡ r
    → theory_part (spelling text t.name) r ≡ Accepted theory es → IsTheoryAt text earlier (item.Theory t ∷ is) theory es
accepted_here text earlier is t theory es (Err f) h e = cc
accepted_here text earlier is t theory es (Ok fs) h e =
    let names : spelling text t.name ≡ theory = cc in
    let same : fs ≡ es = cc in
    record { before = []; after = is; declared = t; split = refl; name = names; entries = ap (λ (xs : List Item). theory_entries text xs t) (append-nil earlier) ∙ h ∙ ap Ok same }

accepted_later : (text : List ℕ) (earlier is : List Item) (i : Item) (theory : List ℕ) (es : List Entry) → IsTheoryAt text (earlier ++ i ∷ []) is theory es → IsTheoryAt text earlier (i ∷ is) theory es
accepted_later text earlier is i theory es a = record {
  before = i ∷ a.before;
  after = a.after;
  declared = a.declared;
  split = ap (λ (xs : List Item). i ∷ xs) a.split;
  name = a.name;
  entries = ap (λ (xs : List Item). theory_entries text xs a.declared) (sym (append_assoc earlier (i ∷ []) a.before)) ∙ a.entries;
}

pub theory_at : (text : List ℕ) (earlier is : List Item) (theory : List ℕ) (es : List Entry) → Has (Accepted theory es) (parts_after text earlier is) → IsTheoryAt text earlier is theory es
theory_at text earlier [] theory es h = absurd h
theory_at text earlier (item.Theory t ∷ is) theory es (inl e) = accepted_here text earlier is t theory es (theory_entries text earlier t) refl e
theory_at text earlier (item.Proof p ∷ is) theory es (inl e) = cc
theory_at text earlier (i ∷ is) theory es (inr h) = accepted_later text earlier is i theory es (theory_at text (earlier ++ i ∷ []) is theory es h)

-- the lemma of a theory between other items
lemma_split : (text : List ℕ) (before after : List Item) (t : Theory) (es : List Entry) (x : ℕ) (name : List ℕ) (body : Tree) → theory_entries text before t ≡ Ok es
    → slice_get es x ≡ Some (record { name = name; kind = Formula formula_word.Lemma body })
    → lemma_in (parts_of text (before ++ item.Theory t ∷ after)) (record { theory = spelling text t.name; formula = name }) ≡ Some body
lemma_split text before after t es x name body h e =
    let n : FormulaName = record { theory = spelling text t.name; formula = name } in
    let a = entries_accepted text (has_name (spelling text t.name) (theory_names text before)) t es h in
    let distinct : are_distinct (entry_names es) ≡ true = ap are_distinct (names_of_entries text t.name.pos t.decls es a.entries) ∙ distinct_names text t.decls a.apart in
    let found : lemma_named es name ≡ Some body = found_by_name es x name body distinct e in
    let here : part_lemma (part_of text before (item.Theory t)) n ≡ Some body =
    ap (λ (r : Result (List Entry) Fault). part_lemma (theory_part (spelling text t.name) r) n) h
    ∙ (ap (λ (b : Bool). if b then lemma_named es name else None) ((bytes_decides (spelling text t.name) (spelling text t.name)).1 refl) ∙ found) in
    let rest = parts_after text (before ++ item.Theory t ∷ []) after in
    ap (λ (ps : List Part). lemma_in ps n) (parts_split text [] before after (item.Theory t))
    ∙ (lemma_in-append (parts_of text before) (part_of text before (item.Theory t) ∷ rest) n
    ∙ (ap (λ (o : Option Tree). option_or o (option_or (part_lemma (part_of text before (item.Theory t)) n) (lemma_in rest n))) (none_before text n [] before a.first)
    ∙ option_or-Some (part_lemma (part_of text before (item.Theory t)) n) (lemma_in rest n) body here))

-- the lemma at a place of an accepted theory is the one that its name finds
pub lemma_found : (text : List ℕ) (items : List Item) (theory : List ℕ) (es : List Entry) (x : ℕ) (name : List ℕ) (body : Tree) → Contains (parts_of text items) (Accepted theory es)
    → slice_get es x ≡ Some (record { name = name; kind = Formula formula_word.Lemma body })
    → lemma_in (parts_of text items) (record { theory = theory; formula = name }) ≡ Some body
lemma_found text items theory es x name body h e =
    let a = theory_at text [] items theory es (has_contained (parts_of text items) (Accepted theory es) h) in
    ap (λ (is : List Item). lemma_in (parts_of text is) (record { theory = theory; formula = name })) a.split
    ∙ ap (λ (u : List ℕ). lemma_in (parts_of text (a.before ++ item.Theory a.declared ∷ a.after)) (record { theory = u; formula = name })) (sym a.name)
    ∙ lemma_split text a.before a.after a.declared es x name body a.entries e
