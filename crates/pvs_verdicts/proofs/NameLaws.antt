-- The names of formulas: where none is declared again, no two declarations of formulas have one name.
use Rattle.std.proofs.Common.{◌≡◌, ◌∙◌, refl, sym, ap, ap₂, ◌||◌, ◌&&◌, Bool, true, false, not, bytes_eq, flat_map, if◌then◌else◌, List, [], ◌∷◌, ◌++◌, append_assoc, append-nil, Option, Some, None}
use Rattle.std.specs.List.{list_any}
use Rattle.std.specs.Option.{option_or}
use Rattle.std.proofs.lemmas.Bool.{and_parts}
use Rattle.std.proofs.lemmas.Cmp.{nat_list_eq_equiv}
use Rattle.std.proofs.lemmas.Grind.{flat_map-append}
use Rattle.std.proofs.lemmas.List.Folds.{list_any-append}
use Rattle.std.proofs.lemmas.Slice.Eq.{bytes_eq-Decides}
use Rattle.pvs_terms.specs.Tree.{Text}
use Rattle.pvs_syntax.specs.Words.{spelling}
use Rattle.pvs_syntax.specs.declared.word.Word.{Word}
use Rattle.pvs_syntax.specs.declared.unit.Decl.{Decl}
use Rattle.pvs_names.specs.declared.kind.NameKind.{NameKind}
use Rattle.pvs_names.specs.declared.kind.NameKind.TheVariants as kind
use Rattle.pvs_verdicts.specs.Names.{FormulaName, is_same}
use Rattle.pvs_verdicts.specs.Duplicates.{Declared, built_in_names, declared_by, declared_names, first_repeated, has_name, is_same_kind, name_of_kind, repeated, repeated_in}

-- what is made of one more item
pub flat_push : {X Y : Type 0} (f : X → List Y) (xs : List X) (x : X) → flat_map f (xs ++ x ∷ []) ≡ flat_map f xs ++ f x
flat_push {X} {Y} f xs x = flat_map-append f xs (x ∷ []) ∙ ap (λ (ys : List Y). flat_map f xs ++ ys) (append-nil (f x))

or_false : (b : Bool) → b || false ≡ b
or_false true = refl
or_false false = refl

pub any_push : {X : Type 0} (p : X → Bool) (xs : List X) (x : X) → list_any p (xs ++ x ∷ []) ≡ list_any p xs || p x
any_push p xs x = list_any-append p xs (x ∷ []) ∙ ap (λ (b : Bool). list_any p xs || b) (or_false (p x))

-- formulas of the same names are one
pub same_formula : (n other : FormulaName) → is_same n other ≡ true → n ≡ other
same_formula n other h =
    let both = and_parts (bytes_eq n.theory other.theory) (bytes_eq n.formula other.formula) h in
    ap₂ (λ (t f : Text). let m : FormulaName = record { theory = t; formula = f } in m) ((bytes_eq-Decides n.theory other.theory).0 both.0) ((bytes_eq-Decides n.formula other.formula).0 both.1)

-- whether no two of the names are the same
abbrev pub are_distinct : List Text → Bool
are_distinct [] = true
are_distinct (n ∷ ns) = not (list_any (bytes_eq n) ns) && are_distinct ns

-- one more name that is not among those before
distinct_push : (ns : List Text) (n : Text) → list_any (bytes_eq n) ns ≡ false → are_distinct ns ≡ true → are_distinct (ns ++ n ∷ []) ≡ true
distinct_push [] n apart h = refl
distinct_push (m ∷ ns) n apart h = by_cases (bytes_eq n m) (list_any (bytes_eq m) ns) refl refl apart h (distinct_push ns n)
  where
    by_cases : (b c : Bool) → bytes_eq n m ≡ b → list_any (bytes_eq m) ns ≡ c → b || list_any (bytes_eq n) ns ≡ false → not c && are_distinct ns ≡ true → (list_any (bytes_eq n) ns ≡ false → are_distinct ns ≡ true → are_distinct (ns ++ n ∷ []) ≡ true) → not (list_any (bytes_eq m) (ns ++ n ∷ [])) && are_distinct (ns ++ n ∷ []) ≡ true
    by_cases true c same among none all rest = cc
    by_cases false true same among none all rest = cc
    by_cases false false same among none all rest = rw (any_push (bytes_eq m) ns n, among, nat_list_eq_equiv.symm m n, same) (rest none all)

module _ (text : Text) where
  -- the names of the formulas that are declared
  abbrev pub formula_names : List Decl → List Text
  formula_names ds = declared_names text kind.FormulaName ds

  not_among : (w : Word) (b : Bool) → (if b then Some w else None) ≡ None → b ≡ false
  not_among w true h = cc
  not_among w false h = refl

  -- a name more that is not declared before
  distinct_word : (earlier : List Decl) (k : NameKind) (w : Word) → repeated_in text (built_in_names k ++ declared_names text k earlier) w ≡ None → are_distinct (formula_names earlier) ≡ true
      → are_distinct (formula_names earlier ++ (if is_same_kind kind.FormulaName k then spelling text w ∷ [] else [])) ≡ true
  distinct_word earlier kind.TypeName w none h = ap are_distinct (append-nil (formula_names earlier)) ∙ h
  distinct_word earlier kind.Constant w none h = ap are_distinct (append-nil (formula_names earlier)) ∙ h
  distinct_word earlier kind.FormulaName w none h = distinct_push (formula_names earlier) (spelling text w) (not_among w (has_name (spelling text w) (formula_names earlier)) none) h

  distinct_more : (earlier : List Decl) (o : Option Declared) → repeated text earlier o ≡ None → are_distinct (formula_names earlier) ≡ true
      → are_distinct (formula_names earlier ++ name_of_kind text kind.FormulaName o) ≡ true
  distinct_more earlier None none h = ap are_distinct (append-nil (formula_names earlier)) ∙ h
  distinct_more earlier (Some n) none h = distinct_word earlier n.kind n.word none h

  both_none : (a b : Option Word) → option_or a b ≡ None → (a ≡ None) × (b ≡ None)
  both_none None b h = (refl, h)
  both_none (Some w) b h = cc

  distinct_after : (earlier ds : List Decl) → first_repeated text earlier ds ≡ None → are_distinct (formula_names earlier) ≡ true → are_distinct (formula_names (earlier ++ ds)) ≡ true
  distinct_after earlier [] none h = ap (λ (xs : List Decl). are_distinct (formula_names xs)) (append-nil earlier) ∙ h
  distinct_after earlier (d ∷ ds) none h =
      let both = both_none (repeated text earlier (declared_by d)) (first_repeated text (earlier ++ d ∷ []) ds) none in
      let more : are_distinct (formula_names (earlier ++ d ∷ [])) ≡ true = ap are_distinct (flat_push (λ e. name_of_kind text kind.FormulaName (declared_by e)) earlier d) ∙ distinct_more earlier (declared_by d) both.0 h in
      ap (λ (xs : List Decl). are_distinct (formula_names xs)) (sym (append_assoc earlier (d ∷ []) ds)) ∙ distinct_after (earlier ++ d ∷ []) ds both.1 more

  -- where none is declared again, no two formulas have one name
  pub distinct_names : (ds : List Decl) → first_repeated text [] ds ≡ None → are_distinct (formula_names ds) ≡ true
  distinct_names ds none = distinct_after [] ds none refl
