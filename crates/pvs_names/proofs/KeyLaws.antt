-- Keys of an index of names: when two are equal.
use Rattle.std.proofs.Common.{◌≡◌, ℕ, Bool, true, false, ◌&&◌, cond, eqb, List, [], ◌∷◌, Option, Some, refl, sym, ap, ap₂, ◌∙◌}
use Rattle.std.specs.Map.{lookup}
use Rattle.std.specs.HashMap as hash
use Rattle.pvs_names.specs.declared.kind.NameKind.{NameKind}
use Rattle.pvs_names.specs.declared.kind.NameKind.TheVariants.{TypeName, Constant, FormulaName}
use Rattle.pvs_names.specs.declared.key.Section.{Section}
use Rattle.pvs_names.specs.declared.key.Section.TheVariants.{Own, OwnEntries, Imported, OfTheory, OfInstance}
use Rattle.pvs_names.specs.declared.key.Key.{Key}
use Rattle.pvs_names.specs.contracts.kind.NameKindPartialEq.TheImpl as kinds
use Rattle.pvs_names.specs.contracts.key.SectionPartialEq.TheImpl as sections
use Rattle.pvs_names.specs.contracts.key.KeyPartialEq.TheImpl as keys
use Rattle.pvs_names.specs.Members.{kind_eq}
use Rattle.pvs_names.specs.code.Index.{section_eq, key_eq}

section_same : (a b : Section) → sections.ghosts.eq a b ≡ section_eq a b
section_same Own Own = refl
section_same Own OwnEntries = refl
section_same Own Imported = refl
section_same Own (OfTheory n) = refl
section_same Own (OfInstance n) = refl
section_same OwnEntries Own = refl
section_same OwnEntries OwnEntries = refl
section_same OwnEntries Imported = refl
section_same OwnEntries (OfTheory n) = refl
section_same OwnEntries (OfInstance n) = refl
section_same Imported Own = refl
section_same Imported OwnEntries = refl
section_same Imported Imported = refl
section_same Imported (OfTheory n) = refl
section_same Imported (OfInstance n) = refl
section_same (OfTheory m) Own = refl
section_same (OfTheory m) OwnEntries = refl
section_same (OfTheory m) Imported = refl
section_same (OfTheory m) (OfTheory n) = refl
section_same (OfTheory m) (OfInstance n) = refl
section_same (OfInstance m) Own = refl
section_same (OfInstance m) OwnEntries = refl
section_same (OfInstance m) Imported = refl
section_same (OfInstance m) (OfTheory n) = refl
section_same (OfInstance m) (OfInstance n) = refl

kind_same : (a b : NameKind) → kinds.ghosts.eq a b ≡ kind_eq a b
kind_same TypeName TypeName = refl
kind_same TypeName Constant = refl
kind_same TypeName FormulaName = refl
kind_same Constant TypeName = refl
kind_same Constant Constant = refl
kind_same Constant FormulaName = refl
kind_same FormulaName TypeName = refl
kind_same FormulaName Constant = refl
kind_same FormulaName FormulaName = refl

pub key_same : (a b : Key) → keys.ghosts.eq a b ≡ key_eq a b
key_same a b = ap₂ (λ x y. x && y) (section_same a.section b.section) (ap (λ x. x && eqb a.name b.name) (kind_same a.kind b.kind))

pub lookup_same : {K X : Type 0} (p q : K → Bool) → ((k : K) → p k ≡ q k) → (es : List (K × X)) → lookup p es ≡ lookup q es
lookup_same p q h [] = refl
lookup_same p q h (e ∷ es) = ap₂ (λ b o. cond b (Some e.1) o) (h e.0) (lookup_same p q h es)
