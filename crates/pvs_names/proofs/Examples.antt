-- Worked examples, by computation, over these theories:
--   th [S: TYPE]: k: [S -> bool]  v: VAR S  l: LEMMA TRUE  T: TYPE
--   a: T: TYPE  IMPORTING th[bool], th[T]  k: VAR T  c: T  l: LEMMA TRUE  m: LEMMA TRUE
--   b: IMPORTING th[bool]  l: LEMMA TRUE
use Rattle.std.proofs.Common.{◌≡◌, false, Some, None, [], ◌∷◌, Ok, Err, refl}
use Rattle.std.specs.Prelude.{codes}
use Rattle.pvs_base.specs.declared.code.Code.TheVariants.{Unknown, Ambiguous, NotImported, OutOfProfile}
use Rattle.pvs_terms.specs.Tree.{Text, TBool, True, TName, TFun, Own, Formal, Inst, Trees, none, more}
use Rattle.pvs_sig.specs.declared.signature.Class.TheVariants.{Lemma}
use Rattle.pvs_sig.specs.Signature.{Signature, TypeSig, ConstSig, VarSig, FormulaSig}
use Rattle.pvs_sig.specs.Development.{Development}
use Rattle.pvs_names.specs.declared.kind.NameKind.TheVariants.{TypeName, Constant, FormulaName}
use Rattle.pvs_names.specs.Resolve.{Qualifier, resolve, resolve_plain}

abbrev th : Signature
th = record {
  name = codes "th";
  formals = record { name = codes "S"; nonempty = false; ty = None } ∷ [];
  entries = record { name = codes "k"; kind = ConstSig (TFun (TName (Formal 0)) TBool) None }
      ∷ record { name = codes "v"; kind = VarSig (TName (Formal 0)) }
      ∷ record { name = codes "l"; kind = FormulaSig Lemma True 0 }
      ∷ record { name = codes "T"; kind = TypeSig false None } ∷ [];
  imports = [];
}

abbrev of_bool : Trees
of_bool = more TBool none

abbrev of_t : Trees
of_t = more (TName (Own 0)) none

abbrev a : Signature
a = record {
  name = codes "a";
  formals = [];
  entries = record { name = codes "T"; kind = TypeSig false None }
      ∷ record { name = codes "k"; kind = VarSig (TName (Own 0)) }
      ∷ record { name = codes "c"; kind = ConstSig (TName (Own 0)) None }
      ∷ record { name = codes "l"; kind = FormulaSig Lemma True 0 }
      ∷ record { name = codes "m"; kind = FormulaSig Lemma True 0 } ∷ [];
  imports = record { theory = codes "th"; actuals = of_bool; place = 1 } ∷ record { theory = codes "th"; actuals = of_t; place = 1 } ∷ [];
}

abbrev b : Signature
b = record {
  name = codes "b";
  formals = [];
  entries = record { name = codes "l"; kind = FormulaSig Lemma True 0 } ∷ [];
  imports = record { theory = codes "th"; actuals = of_bool; place = 0 } ∷ [];
}

abbrev d : Development
d = th ∷ []

abbrev by : Text → Qualifier
by x = record { theory = x; actuals = None }

abbrev at : Text → Trees → Qualifier
at x acts = record { theory = x; actuals = Some acts }

-- Plain names. An own entry hides what importings bring, a VAR a constant of its name; of two instances that bring a name
-- none has it.

own_type : resolve d a 5 TypeName None (codes "T") ≡ Ok (Own 0)
own_type = refl

two_instances : resolve d a 1 Constant None (codes "k") ≡ Err Ambiguous
two_instances = refl

one_instance : resolve d b 0 Constant None (codes "k") ≡ Ok (Inst (codes "th") 0 of_bool)
one_instance = refl

own_variable : resolve d a 2 Constant None (codes "k") ≡ Ok (Own 1)
own_variable = refl

-- A later entry is not seen, and one of another kind does not count.

later_constant : resolve d a 2 Constant None (codes "c") ≡ Err Unknown
later_constant = refl

earlier_constant : resolve d a 3 Constant None (codes "c") ≡ Ok (Own 2)
earlier_constant = refl

other_kind : resolve d a 3 Constant None (codes "T") ≡ Err Unknown
other_kind = refl

-- VARs and formals are not brought.

variable_elsewhere : resolve d b 0 Constant None (codes "v") ≡ Err Unknown
variable_elsewhere = refl

formal_elsewhere : resolve d b 0 TypeName None (codes "S") ≡ Err Unknown
formal_elsewhere = refl

formal : resolve [] th 0 TypeName None (codes "S") ≡ Ok (Formal 0)
formal = refl

-- A formula that nothing else has is the own one at the place or later; importings come before it, once or twice.

later_formula : resolve d a 2 FormulaName None (codes "m") ≡ Ok (Own 4)
later_formula = refl

brought_formula : resolve d b 0 FormulaName None (codes "l") ≡ Ok (Inst (codes "th") 2 of_bool)
brought_formula = refl

brought_twice : resolve d a 3 FormulaName None (codes "l") ≡ Err Ambiguous
brought_twice = refl

own_formula : resolve d b 1 FormulaName None (codes "l") ≡ Ok (Own 0)
own_formula = refl

-- By the theory itself: own entries, and no formals.

by_itself : resolve d a 5 TypeName (Some (by (codes "a"))) (codes "T") ≡ Ok (Own 0)
by_itself = refl

later_by_itself : resolve d a 3 FormulaName (Some (by (codes "a"))) (codes "l") ≡ Ok (Own 3)
later_by_itself = refl

formal_by_itself : resolve [] th 4 TypeName (Some (by (codes "th"))) (codes "S") ≡ Err Unknown
formal_by_itself = refl

instance_of_itself : resolve d a 5 TypeName (Some (at (codes "a") of_bool)) (codes "T") ≡ Err NotImported
instance_of_itself = refl

-- By another theory: the entries of its visible instances.

resolve_by_theory : resolve d b 1 TypeName (Some (by (codes "th"))) (codes "T") ≡ Ok (Inst (codes "th") 3 of_bool)
resolve_by_theory = refl

by_theory_twice : resolve d a 5 TypeName (Some (by (codes "th"))) (codes "T") ≡ Err Ambiguous
by_theory_twice = refl

resolve_by_instance : resolve d a 5 TypeName (Some (at (codes "th") of_t)) (codes "T") ≡ Ok (Inst (codes "th") 3 of_t)
resolve_by_instance = refl

other_instance : resolve d b 1 TypeName (Some (at (codes "th") of_t)) (codes "T") ≡ Err NotImported
other_instance = refl

before_importing : resolve d a 0 TypeName (Some (by (codes "th"))) (codes "T") ≡ Err NotImported
before_importing = refl

not_imported : resolve d b 1 TypeName (Some (by (codes "a"))) (codes "T") ≡ Err NotImported
not_imported = refl

not_declared : resolve d b 1 Constant (Some (by (codes "th"))) (codes "v") ≡ Err Unknown
not_declared = refl

-- Names that PVS has and this profile lacks.

outside : resolve_plain d b 1 TypeName (codes "nat") ≡ Err OutOfProfile
outside = refl

inside : resolve_plain d b 1 TypeName (codes "T") ≡ Ok (Inst (codes "th") 3 of_bool)
inside = refl

unknown : resolve_plain d b 1 TypeName (codes "natural") ≡ Err Unknown
unknown = refl

qualified_outside : resolve d b 1 TypeName (Some (by (codes "th"))) (codes "nat") ≡ Err Unknown
qualified_outside = refl
