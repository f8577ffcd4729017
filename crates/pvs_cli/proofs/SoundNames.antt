-- The names of formulas: where none is declared again, a lemma is found by its name.
use Rattle.std.proofs.Common.{◌≡◌, ◌∙◌, refl, sym, ap, subst, ◌||◌, ◌&&◌, ℕ, zero, suc, Bool, true, false, not, bytes_eq, if◌then◌else◌, List, [], ◌∷◌, ◌++◌, slice_get, append_assoc, append-nil, Option, Some, None, Result, Ok, Err}
use Rattle.std.specs.List.{list_any}
use Rattle.std.specs.Option.{option_or}
use Rattle.std.proofs.lemmas.Bool.{and_parts, or_left, or_right}
use Rattle.std.proofs.lemmas.Cmp.{nat_list_eq_equiv}
use Rattle.std.proofs.lemmas.Slice.Eq.{bytes_eq-Decides}
use Rattle.pvs_base.specs.declared.code.Fault.{Fault}
use Rattle.pvs_base.specs.declared.place.Pos.{Pos}
use Rattle.pvs_syntax.specs.declared.word.Word.{Word}
use Rattle.pvs_syntax.specs.declared.unit.Decl.{Decl}
use Rattle.pvs_syntax.specs.declared.unit.Decl.TheVariants as decl
use Rattle.pvs_syntax.specs.declared.unit.FormulaWord.{FormulaWord}
use Rattle.pvs_syntax.specs.declared.unit.FormulaWord.TheVariants as formula_word
use Rattle.pvs_terms.specs.Tree.{Tree}
use Rattle.pvs_theory.specs.declared.distinct.Declared.{Declared}
use Rattle.pvs_theory.specs.declared.distinct.Declared.TheVariants as declared
use Rattle.pvs_syntax.specs.Words.{spelling}
use Rattle.pvs_theory.specs.Entries.{Entry, EntryKind, Constant, Formula, Placed, core, named, entries_after, entries_of, resolve}
use Rattle.pvs_base.specs.Answers.{◌>>=◌}
use Rattle.pvs_theory.specs.Theories.{declared_by, first_repeated, formula_name, formula_names, has_name, repeated}
use Rattle.pvs_cli.specs.Verdicts.{lemma_of, lemma_named}
use Rattle.pvs_theory.proofs.IndexLaws.{any_push}
use Rattle.pvs_theory.proofs.Loops.{flat_push}

-- whether no two of the names are the same
abbrev pub are_distinct : List (List ℕ) → Bool
are_distinct [] = true
are_distinct (n ∷ ns) = not (list_any (bytes_eq n) ns) && are_distinct ns

-- one more name that is not among those before
distinct_push : (ns : List (List ℕ)) (n : List ℕ) → list_any (bytes_eq n) ns ≡ false → are_distinct ns ≡ true → are_distinct (ns ++ n ∷ []) ≡ true
distinct_push [] n apart h = refl
distinct_push (m ∷ ns) n apart h = by_cases (bytes_eq n m) (list_any (bytes_eq m) ns) refl refl apart h (distinct_push ns n)
  where
    by_cases : (b c : Bool) → bytes_eq n m ≡ b → list_any (bytes_eq m) ns ≡ c → b || list_any (bytes_eq n) ns ≡ false → not c && are_distinct ns ≡ true → (list_any (bytes_eq n) ns ≡ false → are_distinct ns ≡ true → are_distinct (ns ++ n ∷ []) ≡ true) → not (list_any (bytes_eq m) (ns ++ n ∷ [])) && are_distinct (ns ++ n ∷ []) ≡ true
    by_cases true c same among none all rest = cc
    by_cases false true same among none all rest = cc
    by_cases false false same among none all rest = rw (any_push (bytes_eq m) ns n, among, nat_list_eq_equiv.symm m n, same) (rest none all)

module _ (text : List ℕ) where
  -- a name more that is not among those before
  distinct_more : (earlier : List Decl) (d : Declared) → repeated text earlier d ≡ None → are_distinct (formula_names text earlier) ≡ true → are_distinct (formula_names text earlier ++ formula_name text d) ≡ true
  distinct_more earlier (declared.Constant w) none h = ap are_distinct (append-nil (formula_names text earlier)) ∙ h
  distinct_more earlier (declared.Formula w) none h = distinct_push (formula_names text earlier) (spelling text w) (go (has_name (spelling text w) (formula_names text earlier)) none) h
    where
      go : (b : Bool) → (if b then Some w else None) ≡ None → b ≡ false
      go true h = cc
      go false h = refl
  distinct_more earlier declared.Other none h = ap are_distinct (append-nil (formula_names text earlier)) ∙ h

  both_none : (a b : Option Word) → option_or a b ≡ None → (a ≡ None) × (b ≡ None)
  both_none None b h = (refl, h)
  both_none (Some w) b h = cc

  distinct_after : (earlier ds : List Decl) → first_repeated text earlier ds ≡ None → are_distinct (formula_names text earlier) ≡ true → are_distinct (formula_names text (earlier ++ ds)) ≡ true
  distinct_after earlier [] none h = ap (λ (xs : List Decl). are_distinct (formula_names text xs)) (append-nil earlier) ∙ h
  distinct_after earlier (d ∷ ds) none h =
      let both = both_none (repeated text earlier (declared_by d)) (first_repeated text (earlier ++ d ∷ []) ds) none in
      let more : are_distinct (formula_names text (earlier ++ d ∷ [])) ≡ true = ap are_distinct (flat_push (λ e. formula_name text (declared_by e)) earlier d) ∙ distinct_more earlier (declared_by d) both.0 h in
      ap (λ (xs : List Decl). are_distinct (formula_names text xs)) (sym (append_assoc earlier (d ∷ []) ds)) ∙ distinct_after (earlier ++ d ∷ []) ds both.1 more

  -- where none is declared again, no two formulas have one name
  pub distinct_names : (ds : List Decl) → first_repeated text [] ds ≡ None → are_distinct (formula_names text ds) ≡ true
  distinct_names ds none = distinct_after [] ds none refl

-- the names of the entries that are formulas, in order
abbrev pub kind_names : List ℕ → EntryKind → List (List ℕ)
kind_names name Constant = []
kind_names name (Formula w t) = name ∷ []

abbrev pub entry_names : List Entry → List (List ℕ)
entry_names [] = []
entry_names (e ∷ es) = kind_names e.name e.kind ++ entry_names es

pub entry_names_append : (es fs : List Entry) → entry_names (es ++ fs) ≡ entry_names es ++ entry_names fs
entry_names_append [] fs = refl
entry_names_append (e ∷ es) fs = ap (λ (ns : List (List ℕ)). kind_names e.name e.kind ++ ns) (entry_names_append es fs) ∙ sym (append_assoc (kind_names e.name e.kind) (entry_names es) (entry_names fs))

-- one more entry, and the names of the declarations after it
pub entry_names_more : (es : List Entry) (e : Entry) (ns : List (List ℕ)) → entry_names (es ++ e ∷ []) ++ ns ≡ entry_names es ++ (kind_names e.name e.kind ++ ns)
entry_names_more es e ns =
    ap (λ (xs : List (List ℕ)). xs ++ ns) (entry_names_append es (e ∷ []))
    ∙ append_assoc (entry_names es) (kind_names e.name e.kind ++ []) ns
    ∙ ap (λ (xs : List (List ℕ)). entry_names es ++ (xs ++ ns)) (append-nil (kind_names e.name e.kind))

-- the names of formulas are those of the declarations, in order
pub names_after : (text : List ℕ) (at : Pos) (es : List Entry) (ds : List Decl) (fs : List Entry) → entries_after text at es ds ≡ Ok fs → entry_names fs ≡ entry_names es ++ formula_names text ds
names_after text at es [] fs h = let e : es ≡ fs = cc in ap entry_names (sym e) ∙ sym (append-nil (entry_names es))
names_after text at es (decl.ConstDecl w params ty body ∷ ds) fs h =
    names_after text at (es ++ named text w Constant ∷ []) ds fs h
    ∙ entry_names_more es (named text w Constant) (formula_names text ds)
names_after text at es (decl.Formula w word x ∷ ds) fs h = go (core text at (resolve es) x) (λ e. names_after text at (es ++ e ∷ []) ds fs) h
  where
    go : (r : Result Placed Fault)
        → ((e : Entry) → entries_after text at (es ++ e ∷ []) ds ≡ Ok fs → entry_names fs ≡ entry_names (es ++ e ∷ []) ++ formula_names text ds)
        → ((r >>= λ p. Ok (named text w (Formula word p.tree))) >>= λ e. entries_after text at (es ++ e ∷ []) ds) ≡ Ok fs
        → entry_names fs ≡ entry_names es ++ (spelling text w ∷ formula_names text ds)
    go (Err f) k h = cc
    go (Ok p) k h = k (named text w (Formula word p.tree)) h ∙ entry_names_more es (named text w (Formula word p.tree)) (formula_names text ds)
names_after text at es (_ ∷ ds) fs h = cc

pub names_of_entries : (text : List ℕ) (at : Pos) (ds : List Decl) (es : List Entry) → entries_of text at ds ≡ Ok es → entry_names es ≡ formula_names text ds
names_of_entries text at ds es h = names_after text at [] ds es h

-- the name of an entry that is a lemma is among the names
pub name_listed : (es : List Entry) (x : ℕ) (name : List ℕ) (w : FormulaWord) (t : Tree) → slice_get es x ≡ Some (record { name = name; kind = Formula w t }) → list_any (bytes_eq name) (entry_names es) ≡ true
name_listed [] x name w t h = cc
name_listed (e ∷ es) zero name w t h =
    let q : e ≡ record { name = name; kind = Formula w t } = cc in
    subst (λ (f : Entry). list_any (bytes_eq name) (kind_names f.name f.kind ++ entry_names es) ≡ true) (sym q)
    (or_left (bytes_eq name name) (list_any (bytes_eq name) (entry_names es)) ((bytes_eq-Decides name name).1 refl))
name_listed (e ∷ es) (suc x) name w t h = go e.kind (name_listed es x name w t h)
  where
    go : (k : EntryKind) → list_any (bytes_eq name) (entry_names es) ≡ true → list_any (bytes_eq name) (kind_names e.name k ++ entry_names es) ≡ true
    go Constant h = h
    go (Formula u s) h = or_right (bytes_eq name e.name) (list_any (bytes_eq name) (entry_names es)) h

-- an entry before a formula of another name is not found by that name
pub not_found_before : (n name : List ℕ) (k : EntryKind) (ns : List (List ℕ)) (o : Option Tree) → list_any (bytes_eq name) ns ≡ true → are_distinct (kind_names n k ++ ns) ≡ true
    → (option_or (lemma_of name n k) o ≡ o) × (are_distinct ns ≡ true)
not_found_before n name Constant ns o h d = (refl, d)
not_found_before n name (Formula w t) ns o h d = (of_word w, both.1)
  where
    both : (not (list_any (bytes_eq n) ns) ≡ true) × (are_distinct ns ≡ true)
    both = and_parts (not (list_any (bytes_eq n) ns)) (are_distinct ns) d

    go : (b : Bool) → bytes_eq n name ≡ b → option_or (if b then Some t else None) o ≡ o
    go true e =
        let q : list_any (bytes_eq n) ns ≡ true = subst (λ (u : List ℕ). list_any (bytes_eq u) ns ≡ true) (sym ((bytes_eq-Decides n name).0 e)) h in
        let r : not true ≡ true = sym (ap not q) ∙ both.0 in cc
    go false e = refl

    of_word : (u : FormulaWord) → option_or (lemma_of name n (Formula u t)) o ≡ o
    of_word formula_word.Axiom = refl
    of_word formula_word.Assumption = refl
    of_word formula_word.Lemma = go (bytes_eq n name) refl

-- the lemma at a place is the one that its name finds
pub found_by_name : (es : List Entry) (x : ℕ) (name : List ℕ) (body : Tree) → are_distinct (entry_names es) ≡ true
    → slice_get es x ≡ Some (record { name = name; kind = Formula formula_word.Lemma body }) → lemma_named es name ≡ Some body
found_by_name [] x name body d h = cc
found_by_name (e ∷ es) zero name body d h =
    let q : e ≡ record { name = name; kind = Formula formula_word.Lemma body } = cc in
    subst (λ (f : Entry). option_or (lemma_of name f.name f.kind) (lemma_named es name) ≡ Some body) (sym q)
    (ap (λ (b : Bool). option_or (if b then Some body else None) (lemma_named es name)) ((bytes_eq-Decides name name).1 refl))
found_by_name (e ∷ es) (suc x) name body d h =
    let n = not_found_before e.name name e.kind (entry_names es) (lemma_named es name) (name_listed es x name formula_word.Lemma body h) d in
    n.0 ∙ found_by_name es x name body n.1 h
