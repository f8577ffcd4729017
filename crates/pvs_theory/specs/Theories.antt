-- Which theories of a unit are accepted.
use Rattle.std.specs.Prelude.{ℕ, Bool, bytes_eq, flat_map, not, if◌then◌else◌, List, [], ◌∷◌, ◌++◌, Option, Some, None, Result, Ok, Err}
use Rattle.std.specs.List.{list_any}
use Rattle.std.specs.Option.{option_or}
use Rattle.pvs_base.specs.declared.code.Fault.{Fault}
use Rattle.pvs_base.specs.declared.code.Code.TheVariants as code
use Rattle.pvs_syntax.specs.declared.word.Word.{Word}
use Rattle.pvs_syntax.specs.declared.unit.Decl.{Decl}
use Rattle.pvs_syntax.specs.declared.unit.Decl.TheVariants as decl
use Rattle.pvs_syntax.specs.declared.unit.Theory.{Theory}
use Rattle.pvs_syntax.specs.declared.unit.Proof.{Proof}
use Rattle.pvs_syntax.specs.declared.unit.Item.{Item}
use Rattle.pvs_syntax.specs.declared.unit.Item.TheVariants as item
use Rattle.pvs_theory.specs.declared.distinct.Declared.{Declared}
use Rattle.pvs_theory.specs.declared.distinct.Declared.TheVariants as declared
use Rattle.pvs_syntax.specs.Words.{spelling}
use Rattle.pvs_theory.specs.Forms.{is_built_theory}
use Rattle.pvs_theory.specs.Entries.{Entry, entries_of, out_of_profile}

abbrev pub has_name : List ℕ → List (List ℕ) → Bool
has_name name names = list_any (bytes_eq name) names

-- what a declaration declares a name for, as far as it is built
abbrev pub declared_by : Decl → Declared
declared_by (decl.ConstDecl w params ty body) = declared.Constant w
declared_by (decl.Formula w word x) = declared.Formula w
declared_by _ = declared.Other

-- the name of a constant, and of a formula
abbrev pub constant_name : List ℕ → Declared → List (List ℕ)
constant_name text (declared.Constant w) = spelling text w ∷ []
constant_name text _ = []

abbrev pub formula_name : List ℕ → Declared → List (List ℕ)
formula_name text (declared.Formula w) = spelling text w ∷ []
formula_name text _ = []

-- the names of the constants that are declared, and those of the formulas
abbrev pub constant_names : List ℕ → List Decl → List (List ℕ)
constant_names text ds = flat_map (λ d. constant_name text (declared_by d)) ds

abbrev pub formula_names : List ℕ → List Decl → List (List ℕ)
formula_names text ds = flat_map (λ d. formula_name text (declared_by d)) ds

-- a word whose name is among these
abbrev pub repeated_in : List ℕ → List (List ℕ) → Word → Option Word
repeated_in text names w = if has_name (spelling text w) names then Some w else None

-- the word that is declared where earlier declarations of its kind have its name: constants are one kind, and formulas another
abbrev pub repeated : List ℕ → List Decl → Declared → Option Word
repeated text earlier (declared.Constant w) = repeated_in text (constant_names text earlier) w
repeated text earlier (declared.Formula w) = repeated_in text (formula_names text earlier) w
repeated text earlier declared.Other = None

-- the first such word among declarations that follow earlier ones
abbrev pub first_repeated : List ℕ → List Decl → List Decl → Option Word
first_repeated text earlier [] = None
first_repeated text earlier (d ∷ ds) = option_or (repeated text earlier (declared_by d)) (first_repeated text (earlier ++ d ∷ []) ds)

-- a name that is declared again
abbrev pub duplicate : Word → Fault
duplicate w = record { pos = w.pos; code = code.Duplicate }

-- the entries of a theory where no name is repeated in it
abbrev pub unless_repeated : Option Word → Result (List Entry) Fault → Result (List Entry) Fault
unless_repeated None r = r
unless_repeated (Some w) r = Err (duplicate w)

-- the entries of a theory, or its first fault, given whether an earlier theory has its name
abbrev pub accepted_entries : List ℕ → Bool → Theory → Result (List Entry) Fault
accepted_entries text again t =
    if not (is_built_theory text t) then Err (out_of_profile t.name.pos)
    else (if again then Err (duplicate t.name) else unless_repeated (first_repeated text [] t.decls) (entries_of text t.name.pos t.decls))

abbrev pub theory_name : List ℕ → Item → List (List ℕ)
theory_name text (item.Theory t) = spelling text t.name ∷ []
theory_name text (item.Proof p) = []

-- the names of the theories of a unit, accepted or refused
abbrev pub theory_names : List ℕ → List Item → List (List ℕ)
theory_names text items = flat_map (theory_name text) items

-- the entries of a theory that follows earlier items of its unit, or its first fault
abbrev pub theory_entries : List ℕ → List Item → Theory → Result (List Entry) Fault
theory_entries text earlier t = accepted_entries text (has_name (spelling text t.name) (theory_names text earlier)) t

-- a part of a unit
pub data Part : Type 0 where
  -- an accepted theory of this name, with its entries
  Accepted : List ℕ → List Entry → Part
  -- a theory of this name, with its first fault
  Rejected : List ℕ → Fault → Part
  -- a proof, with the text that its span lies in
  Proving : List ℕ → Proof → Part

abbrev pub theory_part : List ℕ → Result (List Entry) Fault → Part
theory_part name (Ok es) = Accepted name es
theory_part name (Err f) = Rejected name f

-- the part that an item is after earlier ones
abbrev pub part_of : List ℕ → List Item → Item → Part
part_of text earlier (item.Theory t) = theory_part (spelling text t.name) (theory_entries text earlier t)
part_of text earlier (item.Proof p) = Proving text p

abbrev pub parts_after : List ℕ → List Item → List Item → List Part
parts_after text earlier [] = []
parts_after text earlier (i ∷ is) = part_of text earlier i ∷ parts_after text (earlier ++ i ∷ []) is

-- the parts of a unit
abbrev pub parts_of : List ℕ → List Item → List Part
parts_of text items = parts_after text [] items
