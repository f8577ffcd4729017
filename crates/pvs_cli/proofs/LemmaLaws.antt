-- What one more entry, and one more part, do to the lemmas of a unit.
use Rattle.std.proofs.Common.{◌≡◌, ◌∙◌, ℕ, Bool, true, false, List, [], ◌∷◌, ◌++◌, Option, Some, None, bytes_eq, if◌then◌else◌, refl, sym, ap}
use Rattle.std.specs.Option.{option_or}
use Rattle.pvs_terms.specs.Tree.{Tree}
use Rattle.pvs_theory.specs.Names.{FormulaName}
use Rattle.pvs_theory.specs.Entries.{Entry}
use Rattle.pvs_theory.specs.Theories.{Part, Accepted}
use Rattle.pvs_cli.specs.Verdicts.{lemma_in, lemma_named, lemma_of, part_lemma}

option_or-None : (o : Option Tree) → option_or o None ≡ o
option_or-None None = refl
option_or-None (Some t) = refl

option_or-assoc : (a b c : Option Tree) → option_or (option_or a b) c ≡ option_or a (option_or b c)
option_or-assoc None b c = refl
option_or-assoc (Some t) b c = refl

lemma_named-append : (es fs : List Entry) (name : List ℕ) → lemma_named (es ++ fs) name ≡ option_or (lemma_named es name) (lemma_named fs name)
lemma_named-append [] fs name = refl
lemma_named-append (x ∷ es) fs name = ap (λ (o : Option Tree). option_or (lemma_of name x.name x.kind) o) (lemma_named-append es fs name) ∙ sym (option_or-assoc (lemma_of name x.name x.kind) (lemma_named es name) (lemma_named fs name))

theory_lemma-append : (theory : List ℕ) (es fs : List Entry) (n : FormulaName) → part_lemma (Accepted theory (es ++ fs)) n ≡ option_or (part_lemma (Accepted theory es) n) (part_lemma (Accepted theory fs) n)
theory_lemma-append theory es fs n = by_cases (bytes_eq theory n.theory)
  where
    by_cases : (b : Bool) → (if b then lemma_named (es ++ fs) n.formula else None) ≡ option_or (if b then lemma_named es n.formula else None) (if b then lemma_named fs n.formula else None)
    by_cases true = lemma_named-append es fs n.formula
    by_cases false = refl

-- a theory without entries has no lemma
pub no_lemma : (theory : List ℕ) (n : FormulaName) → part_lemma (Accepted theory []) n ≡ None
no_lemma theory n = by_cases (bytes_eq theory n.theory)
  where
    by_cases : (b : Bool) → (if b then (let o : Option Tree = None in o) else None) ≡ None
    by_cases true = refl
    by_cases false = refl

-- a theory without entries adds no lemma
pub no_more : (theory : List ℕ) (n : FormulaName) (o : Option Tree) → o ≡ option_or o (part_lemma (Accepted theory []) n)
no_more theory n o = sym (ap (option_or o) (no_lemma theory n) ∙ option_or-None o)

pub lemma_in-append : (ps qs : List Part) (n : FormulaName) → lemma_in (ps ++ qs) n ≡ option_or (lemma_in ps n) (lemma_in qs n)
lemma_in-append [] qs n = refl
lemma_in-append (p ∷ ps) qs n = ap (λ (o : Option Tree). option_or (part_lemma p n) o) (lemma_in-append ps qs n) ∙ sym (option_or-assoc (part_lemma p n) (lemma_in ps n) (lemma_in qs n))

-- one more entry of a theory
pub entries_more : (theory : List ℕ) (es : List Entry) (e : Entry) (n : FormulaName) (first old new : Option Tree) → old ≡ option_or first (part_lemma (Accepted theory es) n)
    → new ≡ option_or old (part_lemma (Accepted theory (e ∷ [])) n) → new ≡ option_or first (part_lemma (Accepted theory (es ++ e ∷ [])) n)
entries_more theory es e n first old new was is =
    is ∙ (ap (λ (o : Option Tree). option_or o (part_lemma (Accepted theory (e ∷ [])) n)) was
    ∙ (option_or-assoc first (part_lemma (Accepted theory es) n) (part_lemma (Accepted theory (e ∷ [])) n)
    ∙ ap (option_or first) (sym (theory_lemma-append theory es (e ∷ []) n))))

-- one more part of a unit
pub parts_more : (ps : List Part) (p : Part) (n : FormulaName) (old new : Option Tree) → old ≡ lemma_in ps n → new ≡ option_or old (part_lemma p n) → new ≡ lemma_in (ps ++ p ∷ []) n
parts_more ps p n old new was is =
    is ∙ (ap (λ (o : Option Tree). option_or o (part_lemma p n)) was
    ∙ (ap (option_or (lemma_in ps n)) (sym (option_or-None (part_lemma p n)))
    ∙ sym (lemma_in-append ps (p ∷ []) n)))
