-- Names that are declared again (PVS Language Reference, Declarations). There is no overloading: a theory may declare a name once as a type, once as
-- a constant or a VAR, and once as a formula.
use Rattle.std.specs.Prelude.{Bool, true, false, bytes_eq, codes, flat_map, if◌then◌else◌, List, [], ◌∷◌, ◌++◌, Option, Some, None}
use Rattle.std.specs.List.{list_any}
use Rattle.std.specs.Option.{option_or}
use Rattle.pvs_terms.specs.Tree.{Text}
use Rattle.pvs_syntax.specs.Words.{spelling}
use Rattle.pvs_syntax.specs.declared.word.Word.{Word}
use Rattle.pvs_syntax.specs.declared.unit.Decl.{Decl}
use Rattle.pvs_syntax.specs.declared.unit.Decl.TheVariants as decl
use Rattle.pvs_names.specs.declared.kind.NameKind.{NameKind}
use Rattle.pvs_names.specs.declared.kind.NameKind.TheVariants as kind

abbrev pub has_name : Text → List Text → Bool
has_name name names = list_any (bytes_eq name) names

-- a name that is declared, with its kind: constants and VARs are of one kind
pub record Declared : Type 0 where
  pub kind : NameKind
  pub word : Word

abbrev pub declared : NameKind → Word → Option Declared
declared k w = Some (record { kind = k; word = w })

-- what a declaration declares; an importing declares no name
abbrev pub declared_by : Decl → Option Declared
declared_by (decl.Importing i) = None
declared_by (decl.TypeDecl w nonempty) = declared kind.TypeName w
declared_by (decl.TypeDef w a) = declared kind.TypeName w
declared_by (decl.VarDecl w a) = declared kind.Constant w
declared_by (decl.ConstDecl w bs a e) = declared kind.Constant w
declared_by (decl.Formula w word e) = declared kind.FormulaName w

abbrev pub is_same_kind : NameKind → NameKind → Bool
is_same_kind kind.TypeName kind.TypeName = true
is_same_kind kind.Constant kind.Constant = true
is_same_kind kind.FormulaName kind.FormulaName = true
is_same_kind _ _ = false

-- the name that is declared, where it is of this kind
abbrev pub name_of_kind : Text → NameKind → Option Declared → List Text
name_of_kind text k None = []
name_of_kind text k (Some n) = if is_same_kind k n.kind then spelling text n.word ∷ [] else []

-- the names of a kind that are declared, in order
abbrev pub declared_names : Text → NameKind → List Decl → List Text
declared_names text k ds = flat_map (λ d. name_of_kind text k (declared_by d)) ds

-- the names of a kind that stand before each theory: the type of truth values has two
abbrev pub built_in_names : NameKind → List Text
built_in_names kind.TypeName = codes "bool" ∷ codes "boolean" ∷ []
built_in_names _ = []

-- a word whose name is among these
abbrev pub repeated_in : Text → List Text → Word → Option Word
repeated_in text names w = if has_name (spelling text w) names then Some w else None

-- the word that is declared, where its name stands before the theory or is declared earlier as the same kind
abbrev pub repeated : Text → List Decl → Option Declared → Option Word
repeated text earlier None = None
repeated text earlier (Some n) = repeated_in text (built_in_names n.kind ++ declared_names text n.kind earlier) n.word

-- the first such word among declarations that follow earlier ones
abbrev pub first_repeated : Text → List Decl → List Decl → Option Word
first_repeated text earlier [] = None
first_repeated text earlier (d ∷ ds) = option_or (repeated text earlier (declared_by d)) (first_repeated text (earlier ++ d ∷ []) ds)
