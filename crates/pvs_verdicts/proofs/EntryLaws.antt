-- The formulas among the entries of a theory: their names are those of the declarations, and a lemma is found by its name where these are distinct.
use Rattle.std.proofs.Common.{◌≡◌, ◌∙◌, refl, sym, ap, subst, ℕ, zero, suc, Bool, true, false, not, bytes_eq, if◌then◌else◌, List, [], ◌∷◌, ◌++◌, slice_get, append_assoc, append-nil, map, Option, Some, None, Ok, Err}
use Rattle.std.specs.List.{list_any}
use Rattle.std.specs.Option.{option_or}
use Rattle.std.proofs.lemmas.Bool.{and_parts, or_left, or_right}
use Rattle.std.proofs.lemmas.Slice.Eq.{bytes_eq-Decides}
use Rattle.pvs_base.specs.Answers.{◌>>=◌}
use Rattle.pvs_base.specs.declared.place.Pos.{Pos}
use Rattle.pvs_terms.specs.Tree.{Text, Tree, TFun, Lam}
use Rattle.pvs_syntax.specs.declared.unit.Decl.{Decl}
use Rattle.pvs_syntax.specs.declared.unit.Decl.TheVariants as decl
use Rattle.pvs_sig.specs.declared.signature.Class.{Class}
use Rattle.pvs_sig.specs.declared.signature.Class.TheVariants.{Lemma}
use Rattle.pvs_sig.specs.Signature.{Entry, Kind, TypeSig, ConstSig, VarSig, FormulaSig}
use Rattle.pvs_sig.specs.Development.{Development}
use Rattle.pvs_sig.specs.Lookups.{Lookups}
use Rattle.pvs_names.specs.declared.kind.NameKind.TheVariants as kind
use Rattle.pvs_elab.specs.Answer.{Answer}
use Rattle.pvs_elab.specs.Names.{Names}
use Rattle.pvs_elab.specs.Phrase.{Phrase, Function, place}
use Rattle.pvs_elab.specs.Desugar.{Bound, bound_of, domain, names, phrase, type_phrase}
use Rattle.pvs_elab.specs.Elab.{elab, under_variable}
use Rattle.pvs_elab.specs.Formula.{formula}
use Rattle.pvs_elab.specs.Declaration.{CheckedEntry, ElaboratedDecl, body_of, class_of, constant, constant_decl, declaration, decl_place, definition, elab_decl, existence, formula_decl, function, top_level, type_definition}
use Rattle.pvs_elab.specs.Laws.{Holds}
use Rattle.pvs_elab.proofs.AnswerLaws.{holds_then, within_limits_then, outcome_then}
use Rattle.pvs_elab.proofs.DeclarationLaws.{declared_is}
use Rattle.pvs_types.specs.Outcome.{Conditions}
use Rattle.pvs_soundness.specs.Theory.{CheckedTheory, declared_name, lookups_after, names_after, with_declaration, with_declarations, with_elaborated, with_entry, without_conditions}
use Rattle.pvs_verdicts.specs.Duplicates.{declared_by, declared_names, name_of_kind}
use Rattle.pvs_verdicts.specs.Verdicts.{lemma_of, lemma_named}
use Rattle.pvs_verdicts.proofs.NameLaws.{are_distinct}

-- the names of the entries that are formulas, in order
abbrev pub kind_names : Text → Kind → List Text
kind_names name (TypeSig b a) = []
kind_names name (ConstSig a t) = []
kind_names name (VarSig a) = []
kind_names name (FormulaSig c t o) = name ∷ []

abbrev pub entry_names : List Entry → List Text
entry_names [] = []
entry_names (e ∷ es) = kind_names e.name e.kind ++ entry_names es

-- ---- They are those of the declarations.

anything : {A : Type 0} (r : Answer A) → Holds (λ a. Unit {0}) r
anything (Ok a) = tt
anything (Err f) = tt

module _ (s : Lookups) (scope : Names) where
  -- the entry is no formula
  abbrev IsNoFormula : CheckedEntry → Type 0
  IsNoFormula e = (name : Text) → kind_names name e.kind ≡ []

  constant_names : (a : Phrase) (pos : Pos) → Holds IsNoFormula (constant s scope a pos)
  constant_names a pos =
      holds_then (λ t. Unit {0}) IsNoFormula ((elab s scope a).formed top_level) _ (anything _) (λ t p.
      outcome_then IsNoFormula pos pos (existence s t) _ (λ u gu name. refl))

  definition_names : (a e : Phrase) → Holds IsNoFormula (definition s scope a e)
  definition_names a e =
      holds_then (λ t. Unit {0}) IsNoFormula ((elab s scope a).formed top_level) _ (anything _) (λ t p.
      holds_then (λ b. Unit {0}) IsNoFormula ((elab s scope e).check top_level (place e) t) _ (anything _) (λ b q name. refl))

  function_names : (d : Phrase) (pos : Pos) (xs : List Text) (a e : Phrase) → Holds IsNoFormula (function s scope d pos xs a e)
  function_names d pos xs a e =
      holds_then (λ c. Unit {0}) IsNoFormula ((elab s scope d).formed top_level) _ (anything _) (λ c p.
      holds_then (λ t. Unit {0}) IsNoFormula ((elab s scope a).formed (under_variable xs c top_level)) _ (anything _) (λ t q.
      within_limits_then IsNoFormula pos (TFun c t) _ (λ w.
      holds_then (λ b. Unit {0}) IsNoFormula ((elab s scope e).check (under_variable xs c top_level) (place e) t) _ (anything _) (λ b r.
      within_limits_then IsNoFormula (place e) (Lam c b) _ (λ v name. refl)))))

  constant_decl_names : (bs : List Bound) (a : Phrase) (e : Option Phrase) → Holds IsNoFormula (constant_decl s scope bs a e)
  constant_decl_names [] a None = constant_names a (place a)
  constant_decl_names [] a (Some e) = definition_names a e
  constant_decl_names (b ∷ bs) a None = constant_names (Function (domain b.pos (b ∷ bs)) (names (b ∷ bs)) a b.pos) b.pos
  constant_decl_names (b ∷ bs) a (Some e) = function_names (domain b.pos (b ∷ bs)) b.pos (names (b ∷ bs)) a e

  type_names : (a : Phrase) (kind : Tree → Kind) → ((t : Tree) (name : Text) → kind_names name (kind t) ≡ []) → Holds IsNoFormula (type_definition s scope a kind)
  type_names a kind k = holds_then (λ t. Unit {0}) IsNoFormula ((elab s scope a).formed top_level) _ (anything _) (λ t p. k t)

  formula_names : (c : Class) (e : Phrase) → Holds (λ (x : CheckedEntry). (name : Text) → kind_names name x.kind ≡ name ∷ []) (formula_decl s scope c e)
  formula_names c e = holds_then (λ f. Unit {0}) (λ (x : CheckedEntry). (name : Text) → kind_names name x.kind ≡ name ∷ []) (formula s scope e) _ (anything _) (λ f p name. refl)

  -- the entry of a declaration is a formula where it declares one, with its name
  abbrev IsNamedBy : Text → Decl → CheckedEntry → Type 0
  IsNamedBy text d e = kind_names (declared_name text d) e.kind ≡ name_of_kind text kind.FormulaName (declared_by d)

  at_name : (name : Text) (ns : List Text) (r : Answer CheckedEntry) → Holds (λ (e : CheckedEntry). (n : Text) → kind_names n e.kind ≡ ns) r → Holds (λ (e : CheckedEntry). kind_names name e.kind ≡ ns) r
  at_name name ns (Ok e) h = h name
  at_name name ns (Err f) h = tt

  declaration_named : (text : Text) (d : Decl) → Holds (IsNamedBy text d) (declaration s scope text d)
  declaration_named text (decl.Importing i) = tt
  declaration_named text (decl.TypeDecl w nonempty) = refl
  declaration_named text (decl.TypeDef w a) = at_name _ [] _ (type_names (type_phrase text a) (λ t. TypeSig false (Some t)) (λ t name. refl))
  declaration_named text (decl.VarDecl w a) = at_name _ [] _ (type_names (type_phrase text a) VarSig (λ t name. refl))
  declaration_named text (decl.ConstDecl w bs a e) = at_name _ [] _ (constant_decl_names (map (bound_of text) bs) (type_phrase text a) (body_of text e))
  declaration_named text (decl.Formula w word e) = named (formula_decl s scope (class_of word) (phrase text e)) (formula_names (class_of word) (phrase text e))
    where
      named : (r : Answer CheckedEntry) → Holds (λ (x : CheckedEntry). (name : Text) → kind_names name x.kind ≡ name ∷ []) r → Holds (IsNamedBy text (decl.Formula w word e)) r
      named (Ok x) h = h (declared_name text (decl.Formula w word e))
      named (Err f) h = tt

pub entry_names_append : (es fs : List Entry) → entry_names (es ++ fs) ≡ entry_names es ++ entry_names fs
entry_names_append [] fs = refl
entry_names_append (e ∷ es) fs = ap (λ (ns : List Text). kind_names e.name e.kind ++ ns) (entry_names_append es fs) ∙ sym (append_assoc (kind_names e.name e.kind) (entry_names es) (entry_names fs))

-- A theory with more declarations has the formulas of these too, and the same name.
pub record IsNamedTheory (t u : CheckedTheory) (ns : List Text) : Type 0 where
  pub name : u.signature.name ≡ t.signature.name
  pub formulas : entry_names u.signature.entries ≡ entry_names t.signature.entries ++ ns

module _ (d : Development) (text : Text) (t : CheckedTheory) (x : Decl) where
  entry_added : (o : Option Kind) (k : Kind) → o ≡ Some k → kind_names (declared_name text x) k ≡ name_of_kind text kind.FormulaName (declared_by x)
      → ((with_entry (declared_name text x) o t.signature).name ≡ t.signature.name)
      × (entry_names (with_entry (declared_name text x) o t.signature).entries ≡ entry_names t.signature.entries ++ name_of_kind text kind.FormulaName (declared_by x))
  entry_added None k e h = cc
  entry_added (Some j) k e h =
      let same : j ≡ k = cc in (
        refl,
        entry_names_append t.signature.entries (record { name = declared_name text x; kind = j } ∷ [])
            ∙ ap (λ (ns : List Text). entry_names t.signature.entries ++ ns) (append-nil (kind_names (declared_name text x) j) ∙ ap (kind_names (declared_name text x)) same ∙ h),
      )

  elaborated_named : (e : ElaboratedDecl) → elab_decl (lookups_after d t) (names_after d t) text x ≡ Ok e → IsNamedTheory t (with_elaborated text x t e) (name_of_kind text kind.FormulaName (declared_by x))
  elaborated_named e h =
      let i = declared_is (lookups_after d t) (names_after d t) text x e h in
      let named : kind_names (declared_name text x) i.entered.kind ≡ name_of_kind text kind.FormulaName (declared_by x) =
      subst (Holds (λ (z : CheckedEntry). kind_names (declared_name text x) z.kind ≡ name_of_kind text kind.FormulaName (declared_by x))) i.found (declaration_named (lookups_after d t) (names_after d t) text x) in
      let added = entry_added e.entry i.entered.kind i.entry named in
      record { name = added.0; formulas = added.1 }

  clear_named : (e : ElaboratedDecl) (cs : Conditions) (u : CheckedTheory) → (without_conditions (decl_place x) e cs >>= (λ y. Ok (with_elaborated text x t y))) ≡ Ok u → with_elaborated text x t e ≡ u
  clear_named e [] u h = cc
  clear_named e (c ∷ cs) u h = cc

  with_declaration_named : (u : CheckedTheory) → with_declaration d text t x ≡ Ok u → IsNamedTheory t u (name_of_kind text kind.FormulaName (declared_by x))
  with_declaration_named u h = go (elab_decl (lookups_after d t) (names_after d t) text x) refl h
    where
      go : (r : Answer ElaboratedDecl) → elab_decl (lookups_after d t) (names_after d t) text x ≡ r
          → (r >>= (λ e. without_conditions (decl_place x) e e.conditions >>= (λ y. Ok (with_elaborated text x t y)))) ≡ Ok u → IsNamedTheory t u (name_of_kind text kind.FormulaName (declared_by x))
      go (Err f) k q = cc
      go (Ok e) k q = subst (λ (w : CheckedTheory). IsNamedTheory t w (name_of_kind text kind.FormulaName (declared_by x))) (clear_named e e.conditions u q) (elaborated_named e k)

-- with all its declarations
pub declarations_named : (d : Development) (text : Text) (t : CheckedTheory) (xs : List Decl) (u : CheckedTheory) → with_declarations d text t xs ≡ Ok u
    → IsNamedTheory t u (declared_names text kind.FormulaName xs)
declarations_named d text t [] u h =
    let e : t ≡ u = cc in
    subst (λ (w : CheckedTheory). IsNamedTheory t w []) e (record { name = refl; formulas = sym (append-nil (entry_names t.signature.entries)) })
declarations_named d text t (x ∷ xs) u h = go (with_declaration d text t x) refl (λ w q. declarations_named d text w xs u q) h
  where
    go : (r : Answer CheckedTheory) → with_declaration d text t x ≡ r → ((w : CheckedTheory) → with_declarations d text w xs ≡ Ok u → IsNamedTheory w u (declared_names text kind.FormulaName xs))
        → (r >>= (λ w. with_declarations d text w xs)) ≡ Ok u → IsNamedTheory t u (declared_names text kind.FormulaName (x ∷ xs))
    go (Err f) k later q = cc
    go (Ok w) k later q =
        let first = with_declaration_named d text t x w k in
        let rest = later w q in
        let one = name_of_kind text kind.FormulaName (declared_by x) in
        record {
          name = rest.name ∙ first.name;
          formulas = rest.formulas ∙ ap (λ (ns : List Text). ns ++ declared_names text kind.FormulaName xs) first.formulas ∙ append_assoc (entry_names t.signature.entries) one (declared_names text kind.FormulaName xs);
        }

-- ---- A lemma is found by its name.

-- the name of an entry that is a formula is among the names
name_listed : (es : List Entry) (x : ℕ) (name : Text) (c : Class) (t : Tree) (o : ℕ) → slice_get es x ≡ Some (record { name = name; kind = FormulaSig c t o }) → list_any (bytes_eq name) (entry_names es) ≡ true
name_listed [] x name c t o h = cc
name_listed (e ∷ es) zero name c t o h =
    let q : e ≡ record { name = name; kind = FormulaSig c t o } = cc in
    subst (λ (f : Entry). list_any (bytes_eq name) (kind_names f.name f.kind ++ entry_names es) ≡ true) (sym q)
    (or_left (bytes_eq name name) (list_any (bytes_eq name) (entry_names es)) ((bytes_eq-Decides name name).1 refl))
name_listed (e ∷ es) (suc x) name c t o h = go e.kind (name_listed es x name c t o h)
  where
    go : (k : Kind) → list_any (bytes_eq name) (entry_names es) ≡ true → list_any (bytes_eq name) (kind_names e.name k ++ entry_names es) ≡ true
    go (FormulaSig d u p) h = or_right (bytes_eq name e.name) (list_any (bytes_eq name) (entry_names es)) h
    go (TypeSig b a) h = h
    go (ConstSig a u) h = h
    go (VarSig a) h = h

-- an entry before a formula of another name is not found by that name
not_found_before : (n name : Text) (k : Kind) (ns : List Text) (o : Option Tree) → list_any (bytes_eq name) ns ≡ true → are_distinct (kind_names n k ++ ns) ≡ true
    → (option_or (lemma_of name n k) o ≡ o) × (are_distinct ns ≡ true)
not_found_before n name (TypeSig b a) ns o h d = (refl, d)
not_found_before n name (ConstSig a u) ns o h d = (refl, d)
not_found_before n name (VarSig a) ns o h d = (refl, d)
not_found_before n name (FormulaSig c t owner) ns o h d = (of_class c, both.1)
  where
    both : (not (list_any (bytes_eq n) ns) ≡ true) × (are_distinct ns ≡ true)
    both = and_parts (not (list_any (bytes_eq n) ns)) (are_distinct ns) d

    go : (b : Bool) → bytes_eq n name ≡ b → option_or (if b then Some t else None) o ≡ o
    go true e =
        let q : list_any (bytes_eq n) ns ≡ true = subst (λ (u : Text). list_any (bytes_eq u) ns ≡ true) (sym ((bytes_eq-Decides n name).0 e)) h in
        let r : not true ≡ true = sym (ap not q) ∙ both.0 in cc
    go false e = refl

    of_class : (k : Class) → option_or (lemma_of name n (FormulaSig k t owner)) o ≡ o
    of_class Lemma = go (bytes_eq n name) refl
    of_class _ = refl

-- the lemma at a place is the one that its name finds
pub found_by_name : (es : List Entry) (x : ℕ) (name : Text) (body : Tree) (owner : ℕ) → are_distinct (entry_names es) ≡ true
    → slice_get es x ≡ Some (record { name = name; kind = FormulaSig Lemma body owner }) → lemma_named es name ≡ Some body
found_by_name [] x name body owner d h = cc
found_by_name (e ∷ es) zero name body owner d h =
    let q : e ≡ record { name = name; kind = FormulaSig Lemma body owner } = cc in
    subst (λ (f : Entry). option_or (lemma_of name f.name f.kind) (lemma_named es name) ≡ Some body) (sym q)
    (ap (λ (b : Bool). option_or (if b then Some body else None) (lemma_named es name)) ((bytes_eq-Decides name name).1 refl))
found_by_name (e ∷ es) (suc x) name body owner d h =
    let n = not_found_before e.name name e.kind (entry_names es) (lemma_named es name) (name_listed es x name Lemma body owner h) d in
    n.0 ∙ found_by_name es x name body owner n.1 h
