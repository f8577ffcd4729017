-- How names are looked up, by number.
use Rattle.std.specs.Prelude.{ℕ, Option, Some, None, List, Result, Ok, Err, if◌then◌else◌}
use Rattle.pvs_base.specs.Answers.{◌>>=◌}
use Rattle.pvs_base.specs.declared.code.Code.{Code}
use Rattle.pvs_base.specs.declared.code.Code.TheVariants.{Unknown, Ambiguous, OutOfProfile}
use Rattle.pvs_terms.specs.Tree.{Text}
use Rattle.pvs_names.specs.declared.kind.NameKind.{NameKind}
use Rattle.pvs_names.specs.declared.kind.NameKind.TheVariants.{Constant}
use Rattle.pvs_names.specs.declared.key.Section.{Section}
use Rattle.pvs_names.specs.declared.key.Section.TheVariants as section
use Rattle.pvs_names.specs.declared.key.Key.{Key}
use Rattle.pvs_names.specs.declared.index.Found.{Found}
use Rattle.pvs_names.specs.declared.index.Found.TheVariants.{One, Several}
use Rattle.pvs_names.specs.Resolve.{is_outside}
use Rattle.pvs_names.specs.code.Index.{found_of}
use Rattle.pvs_scope.specs.declared.place.PlaceNames.{PlaceNames}
use Rattle.pvs_scope.specs.code.Tables.{name_of, type_of}

abbrev pub code_of : Option Found → Result ℕ Code
code_of None = Err Unknown
code_of (Some (One r)) = Ok r
code_of (Some Several) = Err Ambiguous

-- what has the name of this number, where its text has a number
abbrev pub found_by_name : List (Key × Found) → Section → NameKind → Option ℕ → Option Found
found_by_name m part kind None = None
found_by_name m part kind (Some k) = found_of m (record { section = part; kind = kind; name = k })

abbrev pub found_by_text : PlaceNames → Section → NameKind → Text → Option Found
found_by_text n part kind x = found_by_name n.visible part kind (name_of n.texts x)

-- the second answer where the first is that there is none
abbrev pub first_of : Result ℕ Code → Result ℕ Code → Result ℕ Code
first_of (Err Unknown) r = r
first_of q r = q

abbrev pub absent : Text → Result ℕ Code
absent x = if is_outside x then Err OutOfProfile else Err Unknown

abbrev pub plain_answer : PlaceNames → NameKind → Text → Result ℕ Code
plain_answer n kind x = first_of (first_of (code_of (found_by_text n section.Own kind x)) (code_of (found_by_text n section.Imported kind x))) (absent x)

-- a VAR is no constant
abbrev pub constant_or_absent : Text → ℕ → Option ℕ → Result ℕ Code
constant_or_absent x r None = Ok r
constant_or_absent x r (Some t) = absent x

abbrev pub constant_answer : PlaceNames → Text → Result ℕ Code
constant_answer n x = plain_answer n Constant x >>= (λ r. constant_or_absent x r (type_of n.variables r))

abbrev pub with_type : ℕ → Option ℕ → Result (ℕ × ℕ) Code
with_type r None = Err Unknown
with_type r (Some t) = Ok (r, t)

abbrev pub variable_answer : PlaceNames → Text → Result (ℕ × ℕ) Code
variable_answer n x = code_of (found_by_text n section.Own Constant x) >>= (λ r. with_type r (type_of n.variables r))
