-- What elaboration promises: where it meets no fault, typing accepts the tree, with the same type.
use Rattle.std.specs.Prelude.{◌≡◌, ℕ, true, List, ◌++◌, Some, None, IsSome, Ok, Err}
use Rattle.pvs_base.specs.declared.place.Pos.{Pos}
use Rattle.pvs_base.specs.declared.code.Fault.{Fault}
use Rattle.pvs_terms.specs.Tree.{Text, Tree, Ref, TBool}
use Rattle.pvs_syntax.specs.declared.unit.Decl.{Decl}
use Rattle.pvs_sig.specs.Signature.{Signature}
use Rattle.pvs_sig.specs.Development.{Development, IsDevelopment, IsSignatureOver}
use Rattle.pvs_sig.specs.Lookups.{Lookups}
use Rattle.pvs_sig.specs.LookupsOf.{lookups_of}
use Rattle.pvs_types.specs.Outcome.{Outcome, Refused, Accepted}
use Rattle.pvs_types.specs.Symbols.{symbols}
use Rattle.pvs_types.specs.Typing.{infer, check, well_formed}
use Rattle.pvs_types.specs.Uses.{AreSameSymbols}
use Rattle.pvs_elab.specs.Answer.{Answer}
use Rattle.pvs_elab.specs.Names.{Names, names_at}
use Rattle.pvs_elab.specs.Phrase.{Phrase}
use Rattle.pvs_elab.specs.Elab.{Here, Elab, Elaborated, elab, inferred_term, checked_term, well_formed_type, variables, variable_refs}
use Rattle.pvs_elab.specs.Formula.{Formula, formula, binders_of, closure}
use Rattle.pvs_elab.specs.Declaration.{ElaboratedDecl, CheckedEntry, declaration, elab_decl, kind_symbols}

-- typing accepts, with this result and some conditions
abbrev pub Gives : {A : Type 0} → Outcome A → A → Type 0
Gives (Refused c) a = ⊥
Gives (Accepted b cs rs) a = b ≡ a

-- what is answered has this property, where it is no fault
abbrev pub Holds : {A : Type 0} → (A → Type 0) → Answer A → Type 0
Holds P (Ok a) = P a
Holds P (Err f) = Unit {0}

pub record IsLawful (s : Lookups) (e : Elab) : Type 0 where
  pub infer : (h : Here) → Holds (λ t. Gives (infer s h.context t.tree) t.ty) (e.infer h)
  pub check : (h : Here) (at : Pos) (a : Tree) → Holds (λ t. Gives (check s h.context t a) tt) (e.check h at a)
  pub formed : (h : Here) → Holds (λ t. Gives (well_formed s h.context t) tt) (e.formed h)

-- every phrase, in every context
abbrev pub ElaborationIsTyped : Type 0
ElaborationIsTyped = (s : Lookups) (names : Names) (e : Phrase) → IsLawful s (elab s names e)

-- The finished answers. What typing answers of the tree is what is answered, with the type that was found; and the uses are
-- the symbols of the tree and the VARs that gave types.
pub record IsInferred (s : Lookups) (names : Names) (e : Phrase) (h : Here) (x : Elaborated) : Type 0 where
  pub used : List Ref
  pub typed : infer s h.context x.tree ≡ Accepted x.ty x.conditions used
  pub met : (elab s names e).infer h ≡ Ok (record { tree = x.tree; ty = x.ty })
  pub uses : AreSameSymbols x.uses (symbols x.tree ++ variable_refs names (variables e))

pub record IsChecked (s : Lookups) (names : Names) (e : Phrase) (h : Here) (a : Tree) (x : Elaborated) : Type 0 where
  pub used : List Ref
  pub typed : check s h.context x.tree a ≡ Accepted tt x.conditions used
  pub type_is : x.ty ≡ a
  pub met : (elab s names e).check h (elab s names e).place a ≡ Ok x.tree
  pub uses : AreSameSymbols x.uses (symbols x.tree ++ variable_refs names (variables e))

pub record IsFormed (s : Lookups) (names : Names) (e : Phrase) (h : Here) (x : Elaborated) : Type 0 where
  pub used : List Ref
  pub typed : well_formed s h.context x.tree ≡ Accepted tt x.conditions used
  pub type_is : x.ty ≡ x.tree
  pub met : (elab s names e).formed h ≡ Ok x.tree
  pub uses : AreSameSymbols x.uses (symbols x.tree ++ variable_refs names (variables e))

abbrev pub AnswersAreTyped : Type 0
AnswersAreTyped = (s : Lookups) (names : Names) (e : Phrase) (h : Here)
    → ((x : Elaborated) → inferred_term s names e h ≡ Ok x → IsInferred s names e h x)
    × ((a : Tree) (x : Elaborated) → checked_term s names e h a ≡ Ok x → IsChecked s names e h a x)
    × ((x : Elaborated) → well_formed_type s names e h ≡ Ok x → IsFormed s names e h x)

-- a fault is one that elaboration meets: typing of the finished tree has none
abbrev pub FaultsAreMet : Type 0
FaultsAreMet = (s : Lookups) (names : Names) (e : Phrase) (h : Here) (f : Fault)
    → (inferred_term s names e h ≡ Err f → (elab s names e).infer h ≡ Err f)
    × ((a : Tree) → checked_term s names e h a ≡ Err f → (elab s names e).check h (elab s names e).place a ≡ Err f)
    × (well_formed_type s names e h ≡ Err f → (elab s names e).formed h ≡ Err f)

-- a declaration: typing owes the conditions for the trees of its entry, and has no fault of its own
pub record IsDeclared (s : Lookups) (names : Names) (text : Text) (d : Decl) (x : ElaboratedDecl) : Type 0 where
  pub entered : CheckedEntry
  pub found : declaration s names text d ≡ Ok entered
  pub entry : x.entry ≡ Some entered.kind
  pub import : x.import ≡ None
  pub used : List Ref
  pub typing : entered.typing ≡ Accepted tt x.conditions used
  pub uses : x.uses ≡ kind_symbols entered.kind ++ entered.variables

abbrev pub DeclarationsAreTyped : Type 0
DeclarationsAreTyped = (s : Lookups) (names : Names) (text : Text) (d : Decl)
    → Holds (λ (e : CheckedEntry). Gives e.typing tt) (declaration s names text d)
    × ((x : ElaboratedDecl) → elab_decl s names text d ≡ Ok x → IsDeclared s names text d x)
    × ((f : Fault) → elab_decl s names text d ≡ Err f → declaration s names text d ≡ Err f)

-- a formula is a truth value under its free VARs, and its tree is its closure over them
pub record IsFormula (s : Lookups) (f : Formula) : Type 0 where
  pub typed : Gives (check s (binders_of f.variables) f.open_tree TBool) tt
  pub closed : f.tree ≡ closure f.variables f.open_tree

abbrev pub FormulasAreTyped : Type 0
FormulasAreTyped = (s : Lookups) (names : Names) (e : Phrase) → Holds (IsFormula s) (formula s names e)

-- In a development the names of a place are what typing knows: what is found as a type is a type, and what is found as a
-- constant has a type.
abbrev pub NamesAreTyped : Type 0
NamesAreTyped = (d : Development) (s : Signature) (i : ℕ) → IsDevelopment d → IsSignatureOver d s → (x : Text) (r : Ref)
    → ((names_at d s i).type_named x ≡ Ok r → (lookups_of d s).is_type r ≡ true)
    × ((names_at d s i).constant_named x ≡ Ok r → IsSome ((lookups_of d s).type_of r))
