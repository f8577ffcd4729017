-- Worked examples, by computation, over these declarations; places are columns of a line that is written above each example:
--   T: TYPE  p: bool  c: T  f: [T -> bool]  x: VAR T  q: [T, T]
--   S: TYPE = {y: T | f(y)}  d: S  g: [S -> T]  h: [T, T -> bool]  u: VAR bool  t: [T, bool, T]
use Rattle.std.proofs.Common.{◌≡◌, ℕ, zero, suc, true, false, [], ◌∷◌, List, refl}
use Rattle.std.specs.Prelude.{Option, Some, None, Ok, codes}
use Rattle.pvs_base.specs.declared.place.Pos.{Pos}
use Rattle.pvs_base.specs.declared.code.Code.TheVariants.{Mismatch, NotFunction, NotTuple, NoSuchPart, NotPredicate, OutOfProfile, Unknown, TooLarge}
use Rattle.pvs_syntax.specs.declared.expression.BinderWord.TheVariants as binder_word
use Rattle.pvs_syntax.specs.declared.expression.InfixWord.TheVariants as infix_word
use Rattle.pvs_terms.specs.Tree.{Text, Tree, Var, True, False, TBool, TName, Const, TSub, TFun, TPair, Lam, App, Tup, Fst, Snd, Eq, If, Ref, Own}
use Rattle.pvs_subst.specs.Contexts.{Assumptions, Variable, Hypothesis}
use Rattle.pvs_sig.specs.declared.signature.Class.TheVariants as class
use Rattle.pvs_sig.specs.Signature.{Signature, Entry, Kind, TypeSig, ConstSig, VarSig, FormulaSig}
use Rattle.pvs_sig.specs.Lookups.{Lookups}
use Rattle.pvs_sig.specs.LookupsOf.{lookups_of}
use Rattle.pvs_types.specs.Outcome.{Condition, Outcome, Accepted}
use Rattle.pvs_types.specs.BySize.{by_size}
use Rattle.pvs_types.specs.Forms.{head, up, most, is_known_nonempty}
use Rattle.pvs_types.specs.Coerce.{coerce}
use Rattle.pvs_types.specs.Typing.{negation}
use Rattle.pvs_elab.specs.Answer.{Answer, fault}
use Rattle.pvs_elab.specs.Names.{Names, names_at}
use Rattle.pvs_elab.specs.Phrase.{Phrase, Name, Truth, Apply, Part, Group, Choice, Not, Equal, Lambda, Sub, Predicate, Function}
use Rattle.pvs_elab.specs.Desugar.{Bound, Value, operator, quantified, arguments, tuple_term, lets_term, domain}
use Rattle.pvs_elab.specs.Elab.{Here, Elaborated, elab, universal}
use Rattle.pvs_elab.specs.Elab as elaboration
use Rattle.pvs_elab.specs.Formula.{formula}
use Rattle.pvs_elab.specs.Declaration.{existential, constant_decl, formula_decl}

abbrev at : ℕ → Pos
at n = record { line = 1; col = n }

abbrev t : Tree
t = TName (Own 0)

abbrev s : Tree
s = TName (Own 6)

abbrev p : Tree
p = Const (Own 1)

abbrev c : Tree
c = Const (Own 2)

abbrev f : Tree → Tree
f a = App (Const (Own 3)) a

abbrev q : Tree
q = Const (Own 5)

abbrev entry : Text → Kind → Entry
entry name kind = record { name = name; kind = kind }

abbrev theory : Signature
theory = record {
  name = codes "th";
  formals = [];
  entries = entry (codes "T") (TypeSig false None)
      ∷ entry (codes "p") (ConstSig TBool None)
      ∷ entry (codes "c") (ConstSig t None)
      ∷ entry (codes "f") (ConstSig (TFun t TBool) None)
      ∷ entry (codes "x") (VarSig t)
      ∷ entry (codes "q") (ConstSig (TPair 2 t t) None)
      ∷ entry (codes "S") (TypeSig false (Some (TSub t (f (Var 0)))))
      ∷ entry (codes "d") (ConstSig s None)
      ∷ entry (codes "g") (ConstSig (TFun s t) None)
      ∷ entry (codes "h") (ConstSig (TFun (TPair 2 t t) TBool) None)
      ∷ entry (codes "u") (VarSig TBool)
      ∷ entry (codes "t") (ConstSig (TPair 3 t (TPair 2 TBool t)) None) ∷ [];
  imports = [];
}

abbrev look : Lookups
look = lookups_of [] theory

abbrev scope : Names
scope = names_at [] theory 12

abbrev empty : Here
empty = record { locals = []; context = [] }

abbrev inferred : Phrase → Answer Elaborated
inferred e = elaboration.inferred_term look scope e empty

abbrev checked : Phrase → Tree → Answer Elaborated
checked e a = elaboration.checked_term look scope e empty a

abbrev formed : Phrase → Answer Elaborated
formed e = elaboration.well_formed_type look scope e empty

-- an answer without conditions; one with them
abbrev is : Tree → Tree → List Ref → Answer Elaborated
is e a uses = Ok (record { tree = e; ty = a; conditions = []; uses = uses })

abbrev owes : Tree → Tree → List Condition → List Ref → Answer Elaborated
owes e a cs uses = Ok (record { tree = e; ty = a; conditions = cs; uses = uses })

abbrev owed : Assumptions → Tree → Condition
owed g goal = record { context = g; goal = goal }

-- what typing accepts of a declaration
abbrev accepted : List Condition → List Ref → Outcome (Unit {0})
accepted cs rs = Accepted tt cs rs

abbrev n : Text → ℕ → Phrase
n x k = Name x (at k)

-- a binding, with a type or without
abbrev binding : Text → ℕ → Option Phrase → Bound
binding x k a = record { name = x; pos = at k; ty = a }

abbrev value : Text → Option Phrase → Phrase → Value
value x a v = record { name = x; ty = a; value = v }

-- ---- Applications.

-- f(c)
apply : inferred (Apply (n (codes "f") 1) (n (codes "c") 3)) ≡ is (f c) TBool (Own 3 ∷ Own 2 ∷ [])
unfolding by_size head up most is_known_nonempty coerce
apply = refl

-- (p)(c): at the function, parentheses included
no_function : inferred (Apply (Group (n (codes "p") 2) (at 1)) (n (codes "c") 5)) ≡ fault (at 1) NotFunction
unfolding by_size head up most is_known_nonempty coerce
no_function = refl

-- (f)(c)
function_in_parentheses : inferred (Apply (Group (n (codes "f") 2) (at 1)) (n (codes "c") 5)) ≡ is (f c) TBool (Own 3 ∷ Own 2 ∷ [])
unfolding by_size head up most is_known_nonempty coerce
function_in_parentheses = refl

-- f(p)
wrong_argument : inferred (Apply (n (codes "f") 1) (n (codes "p") 3)) ≡ fault (at 3) Mismatch
unfolding by_size head up most is_known_nonempty coerce
wrong_argument = refl

-- f((NOT p)): at the parenthesis
wrong_argument_in_parentheses : inferred (Apply (n (codes "f") 1) (Group (Not (n (codes "p") 8) (at 4)) (at 3))) ≡ fault (at 3) Mismatch
unfolding by_size head up most is_known_nonempty coerce
wrong_argument_in_parentheses = refl

-- h(c, c)
several_arguments : inferred (arguments (n (codes "c") 3 ∷ n (codes "c") 6 ∷ []) (n (codes "h") 1)) ≡ is (App (Const (Own 9)) (Tup 2 c c)) TBool (Own 9 ∷ Own 2 ∷ Own 2 ∷ [])
unfolding by_size head up most is_known_nonempty coerce
several_arguments = refl

-- h(c, p): several arguments are checked as one tuple, at the first
wrong_second_argument : inferred (arguments (n (codes "c") 3 ∷ n (codes "p") 6 ∷ []) (n (codes "h") 1)) ≡ fault (at 3) Mismatch
unfolding by_size head up most is_known_nonempty coerce
wrong_second_argument = refl

-- g(c): owes f(c)
condition_of_argument : inferred (Apply (n (codes "g") 1) (n (codes "c") 3)) ≡ owes (App (Const (Own 8)) c) t (owed [] (f c) ∷ []) (Own 8 ∷ Own 2 ∷ [])
unfolding by_size head up most is_known_nonempty coerce
condition_of_argument = refl

-- g(d)
no_condition_of_argument : inferred (Apply (n (codes "g") 1) (n (codes "d") 3)) ≡ is (App (Const (Own 8)) (Const (Own 7))) t (Own 8 ∷ Own 7 ∷ [])
unfolding by_size head up most is_known_nonempty coerce
no_condition_of_argument = refl

-- ---- Names.

-- f(y)
unknown : inferred (Apply (n (codes "f") 1) (n (codes "y") 3)) ≡ fault (at 3) Unknown
unfolding by_size head up most is_known_nonempty coerce
unknown = refl

-- x, a VAR: its free use is Unknown but in a formula
free_variable : inferred (n (codes "x") 1) ≡ fault (at 1) Unknown
unfolding by_size head up most is_known_nonempty coerce
free_variable = refl

-- T, where a term stands
type_for_term : inferred (n (codes "T") 1) ≡ fault (at 1) Unknown
unfolding by_size head up most is_known_nonempty coerce
type_for_term = refl

-- c, where a type stands
term_for_type : formed (n (codes "c") 1) ≡ fault (at 1) Unknown
unfolding by_size head up most is_known_nonempty coerce
term_for_type = refl

-- S
type_name : formed (n (codes "S") 1) ≡ is s s (Own 6 ∷ [])
unfolding by_size head up most is_known_nonempty coerce
type_name = refl

-- boolean
boolean : formed (n (codes "boolean") 1) ≡ is TBool TBool []
unfolding by_size head up most is_known_nonempty coerce
boolean = refl

-- nat
outside : inferred (n (codes "nat") 1) ≡ fault (at 1) OutOfProfile
unfolding by_size head up most is_known_nonempty coerce
outside = refl

-- nat, where a type stands
outside_type : formed (n (codes "nat") 1) ≡ fault (at 1) OutOfProfile
unfolding by_size head up most is_known_nonempty coerce
outside_type = refl

-- LAMBDA (c: bool): c
local_hides_constant : inferred (quantified binder_word.Lambda (binding (codes "c") 9 (Some (n (codes "bool") 12)) ∷ []) (n (codes "c") 19) (at 1)) ≡ is (Lam TBool (Var 0)) (TFun TBool TBool) []
unfolding by_size head up most is_known_nonempty coerce
local_hides_constant = refl

-- LAMBDA (y: bool): c
no_local : inferred (quantified binder_word.Lambda (binding (codes "y") 9 (Some (n (codes "bool") 12)) ∷ []) (n (codes "c") 19) (at 1)) ≡ is (Lam TBool c) (TFun TBool t) (Own 2 ∷ [])
unfolding by_size head up most is_known_nonempty coerce
no_local = refl

-- LAMBDA (y: T): LAMBDA (y: bool): y
inner_hides_outer : inferred (quantified binder_word.Lambda (binding (codes "y") 9 (Some (n (codes "T") 12)) ∷ []) (quantified binder_word.Lambda (binding (codes "y") 24 (Some (n (codes "bool") 27)) ∷ []) (n (codes "y") 34) (at 16)) (at 1)) ≡ is (Lam t (Lam TBool (Var 0))) (TFun t (TFun TBool TBool)) (Own 0 ∷ [])
unfolding by_size head up most is_known_nonempty coerce
inner_hides_outer = refl

-- LAMBDA (y: T, y: bool): y
later_name_counts : inferred (quantified binder_word.Lambda (binding (codes "y") 9 (Some (n (codes "T") 12)) ∷ binding (codes "y") 15 (Some (n (codes "bool") 18)) ∷ []) (n (codes "y") 25) (at 1)) ≡ is (Lam (TPair 2 t TBool) (Snd 2 (Var 0))) (TFun (TPair 2 t TBool) TBool) (Own 0 ∷ [])
unfolding by_size head up most is_known_nonempty coerce
later_name_counts = refl

-- ---- Variables without a type.

-- FORALL x: f(x): by the VAR, which is used
type_of_variable : inferred (quantified binder_word.Forall (binding (codes "x") 8 None ∷ []) (Apply (n (codes "f") 11) (n (codes "x") 13)) (at 1)) ≡ is (universal t (f (Var 0))) TBool (Own 0 ∷ Own 3 ∷ Own 4 ∷ [])
unfolding by_size head up most is_known_nonempty coerce
type_of_variable = refl

-- FORALL y: f(y)
no_variable : inferred (quantified binder_word.Forall (binding (codes "y") 8 None ∷ []) (Apply (n (codes "f") 11) (n (codes "y") 13)) (at 1)) ≡ fault (at 8) Unknown
unfolding by_size head up most is_known_nonempty coerce
no_variable = refl

-- FORALL c: p
constant_is_no_variable : inferred (quantified binder_word.Forall (binding (codes "c") 8 None ∷ []) (n (codes "p") 11) (at 1)) ≡ fault (at 8) Unknown
unfolding by_size head up most is_known_nonempty coerce
constant_is_no_variable = refl

-- FORALL nat: p
outside_is_no_variable : inferred (quantified binder_word.Forall (binding (codes "nat") 8 None ∷ []) (n (codes "p") 13) (at 1)) ≡ fault (at 8) Unknown
unfolding by_size head up most is_known_nonempty coerce
outside_is_no_variable = refl

-- FORALL (u, y: T): f(u): u has the type T, and not that of its VAR
type_from_the_right : inferred (quantified binder_word.Forall (binding (codes "u") 9 None ∷ binding (codes "y") 12 (Some (n (codes "T") 15)) ∷ []) (Apply (n (codes "f") 19) (n (codes "u") 21)) (at 1)) ≡ is (universal t (universal t (f (Var 1)))) TBool (Own 0 ∷ Own 0 ∷ Own 3 ∷ [])
unfolding by_size head up most is_known_nonempty coerce
type_from_the_right = refl

-- FORALL (y: T, u): u
no_type_from_the_left : inferred (quantified binder_word.Forall (binding (codes "y") 9 (Some (n (codes "T") 12)) ∷ binding (codes "u") 15 None ∷ []) (n (codes "u") 19) (at 1)) ≡ is (universal t (universal TBool (Var 0))) TBool (Own 0 ∷ Own 10 ∷ [])
unfolding by_size head up most is_known_nonempty coerce
no_type_from_the_left = refl

-- ---- NOT, AND, OR, IMPLIES, IFF and IF.

-- NOT p
not : inferred (Not (n (codes "p") 5) (at 1)) ≡ is (negation p) TBool (Own 1 ∷ [])
unfolding by_size head up most is_known_nonempty coerce
not = refl

-- NOT c
not_of_term : inferred (Not (n (codes "c") 5) (at 1)) ≡ fault (at 5) Mismatch
unfolding by_size head up most is_known_nonempty coerce
not_of_term = refl

-- f(NOT p)
not_as_term : inferred (Apply (n (codes "f") 1) (Not (n (codes "p") 7) (at 3))) ≡ fault (at 3) Mismatch
unfolding by_size head up most is_known_nonempty coerce
not_as_term = refl

-- p AND p
and : inferred (operator infix_word.And (n (codes "p") 1) (n (codes "p") 7)) ≡ is (If p p False) TBool (Own 1 ∷ Own 1 ∷ [])
unfolding by_size head up most is_known_nonempty coerce
and = refl

-- c AND p
and_left : inferred (operator infix_word.And (n (codes "c") 1) (n (codes "p") 7)) ≡ fault (at 1) Mismatch
unfolding by_size head up most is_known_nonempty coerce
and_left = refl

-- p AND c
and_right : inferred (operator infix_word.And (n (codes "p") 1) (n (codes "c") 7)) ≡ fault (at 7) Mismatch
unfolding by_size head up most is_known_nonempty coerce
and_right = refl

-- f(p AND p): p is no T, at the right operand
and_as_term : inferred (Apply (n (codes "f") 1) (operator infix_word.And (n (codes "p") 3) (n (codes "p") 9))) ≡ fault (at 9) Mismatch
unfolding by_size head up most is_known_nonempty coerce
and_as_term = refl

-- p OR p
or : inferred (operator infix_word.Or (n (codes "p") 1) (n (codes "p") 6)) ≡ is (If p True p) TBool (Own 1 ∷ Own 1 ∷ [])
unfolding by_size head up most is_known_nonempty coerce
or = refl

-- c OR p
or_left : inferred (operator infix_word.Or (n (codes "c") 1) (n (codes "p") 6)) ≡ fault (at 1) Mismatch
unfolding by_size head up most is_known_nonempty coerce
or_left = refl

-- p OR c
or_right : inferred (operator infix_word.Or (n (codes "p") 1) (n (codes "c") 6)) ≡ fault (at 6) Mismatch
unfolding by_size head up most is_known_nonempty coerce
or_right = refl

-- f(p OR y): TRUE is no T, which is met before y is read
or_as_term : inferred (Apply (n (codes "f") 1) (operator infix_word.Or (n (codes "p") 3) (n (codes "y") 8))) ≡ fault (at 8) Mismatch
unfolding by_size head up most is_known_nonempty coerce
or_as_term = refl

-- p IMPLIES p
implies : inferred (operator infix_word.Implies (n (codes "p") 1) (n (codes "p") 11)) ≡ is (If p p True) TBool (Own 1 ∷ Own 1 ∷ [])
unfolding by_size head up most is_known_nonempty coerce
implies = refl

-- p IMPLIES c
implies_right : inferred (operator infix_word.Implies (n (codes "p") 1) (n (codes "c") 11)) ≡ fault (at 11) Mismatch
unfolding by_size head up most is_known_nonempty coerce
implies_right = refl

-- f(p IMPLIES c): c is a T, and TRUE is none
implies_as_term : inferred (Apply (n (codes "f") 1) (operator infix_word.Implies (n (codes "p") 3) (n (codes "c") 13))) ≡ fault (at 13) Mismatch
unfolding by_size head up most is_known_nonempty coerce
implies_as_term = refl

-- p AND (c AND p): at the part that fails
part_of_operand : inferred (operator infix_word.And (n (codes "p") 1) (Group (operator infix_word.And (n (codes "c") 8) (n (codes "p") 14)) (at 7))) ≡ fault (at 8) Mismatch
unfolding by_size head up most is_known_nonempty coerce
part_of_operand = refl

-- f(c) AND g(c) = c: the right side is checked under the left one
under_hypothesis : checked (operator infix_word.And (Apply (n (codes "f") 1) (n (codes "c") 3)) (Equal (Apply (n (codes "g") 10) (n (codes "c") 12)) (n (codes "c") 17))) TBool ≡ owes (If (f c) (Eq (App (Const (Own 8)) c) c) False) TBool (owed (Hypothesis (f c) ∷ []) (f c) ∷ []) (Own 3 ∷ Own 2 ∷ Own 8 ∷ Own 2 ∷ Own 2 ∷ [])
unfolding by_size head up most is_known_nonempty coerce
under_hypothesis = refl

-- p IFF p
iff : inferred (operator infix_word.Iff (n (codes "p") 1) (n (codes "p") 7)) ≡ is (Eq p p) TBool (Own 1 ∷ Own 1 ∷ [])
unfolding by_size head up most is_known_nonempty coerce
iff = refl

-- c IFF y: before y is read
iff_left : inferred (operator infix_word.Iff (n (codes "c") 1) (n (codes "y") 7)) ≡ fault (at 1) Mismatch
unfolding by_size head up most is_known_nonempty coerce
iff_left = refl

-- p IFF c
iff_right : inferred (operator infix_word.Iff (n (codes "p") 1) (n (codes "c") 7)) ≡ fault (at 7) Mismatch
unfolding by_size head up most is_known_nonempty coerce
iff_right = refl

-- IF p THEN c ELSE d ENDIF
conditional : inferred (Choice true (n (codes "p") 4) (n (codes "c") 11) (n (codes "d") 18) (at 18) (at 1)) ≡ is (If p c (Const (Own 7))) t (Own 1 ∷ Own 2 ∷ Own 7 ∷ [])
unfolding by_size head up most is_known_nonempty coerce
conditional = refl

-- IF p THEN c ELSE p ENDIF: at the else part
conditional_not_joined : inferred (Choice true (n (codes "p") 4) (n (codes "c") 11) (n (codes "p") 18) (at 18) (at 1)) ≡ fault (at 18) Mismatch
unfolding by_size head up most is_known_nonempty coerce
conditional_not_joined = refl

-- f((IF p THEN c ELSE p ENDIF)): at the branch, parentheses do not move it
conditional_checked : inferred (Apply (n (codes "f") 1) (Group (Choice true (n (codes "p") 7) (n (codes "c") 14) (n (codes "p") 21) (at 21) (at 4)) (at 3))) ≡ fault (at 21) Mismatch
unfolding by_size head up most is_known_nonempty coerce
conditional_checked = refl

-- IF c THEN c ELSE c ENDIF
conditional_of_term : inferred (Choice true (n (codes "c") 4) (n (codes "c") 11) (n (codes "c") 18) (at 18) (at 1)) ≡ fault (at 4) Mismatch
unfolding by_size head up most is_known_nonempty coerce
conditional_of_term = refl

-- ---- Equality.

-- c = d
equal : inferred (operator infix_word.Equal (n (codes "c") 1) (n (codes "d") 5)) ≡ is (Eq c (Const (Own 7))) TBool (Own 2 ∷ Own 7 ∷ [])
unfolding by_size head up most is_known_nonempty coerce
equal = refl

-- c = p
equal_mismatch : inferred (operator infix_word.Equal (n (codes "c") 1) (n (codes "p") 5)) ≡ fault (at 5) Mismatch
unfolding by_size head up most is_known_nonempty coerce
equal_mismatch = refl

-- c /= c
differs : inferred (operator infix_word.Differs (n (codes "c") 1) (n (codes "c") 6)) ≡ is (negation (Eq c c)) TBool (Own 2 ∷ Own 2 ∷ [])
unfolding by_size head up most is_known_nonempty coerce
differs = refl

-- c /= p
differs_mismatch : inferred (operator infix_word.Differs (n (codes "c") 1) (n (codes "p") 6)) ≡ fault (at 6) Mismatch
unfolding by_size head up most is_known_nonempty coerce
differs_mismatch = refl

-- f(c /= c): at the whole expression
differs_as_term : inferred (Apply (n (codes "f") 1) (operator infix_word.Differs (n (codes "c") 3) (n (codes "c") 8))) ≡ fault (at 3) Mismatch
unfolding by_size head up most is_known_nonempty coerce
differs_as_term = refl

-- ---- Two faults: the one that is met first counts.

-- f(p) = y
left_first : inferred (operator infix_word.Equal (Apply (n (codes "f") 1) (n (codes "p") 3)) (n (codes "y") 8)) ≡ fault (at 3) Mismatch
unfolding by_size head up most is_known_nonempty coerce
left_first = refl

-- y = f(p)
right_second : inferred (operator infix_word.Equal (n (codes "y") 1) (Apply (n (codes "f") 5) (n (codes "p") 7))) ≡ fault (at 1) Unknown
unfolding by_size head up most is_known_nonempty coerce
right_second = refl

-- c = f(p): the faults of both sides come before that of the equality
sides_before_join : inferred (operator infix_word.Equal (n (codes "c") 1) (Apply (n (codes "f") 5) (n (codes "p") 7))) ≡ fault (at 7) Mismatch
unfolding by_size head up most is_known_nonempty coerce
sides_before_join = refl

-- ---- Quantifiers.

-- EXISTS (y: T): f(y)
exists : inferred (quantified binder_word.Exists (binding (codes "y") 9 (Some (n (codes "T") 12)) ∷ []) (Apply (n (codes "f") 16) (n (codes "y") 18)) (at 1)) ≡ is (negation (universal t (negation (f (Var 0))))) TBool (Own 0 ∷ Own 3 ∷ [])
unfolding by_size head up most is_known_nonempty coerce
exists = refl

-- EXISTS (y: T): y
exists_mismatch : inferred (quantified binder_word.Exists (binding (codes "y") 9 (Some (n (codes "T") 12)) ∷ []) (n (codes "y") 16) (at 1)) ≡ fault (at 16) Mismatch
unfolding by_size head up most is_known_nonempty coerce
exists_mismatch = refl

-- f(EXISTS (y: T): p)
exists_as_term : inferred (Apply (n (codes "f") 1) (quantified binder_word.Exists (binding (codes "y") 11 (Some (n (codes "T") 14)) ∷ []) (n (codes "p") 18) (at 3))) ≡ fault (at 3) Mismatch
unfolding by_size head up most is_known_nonempty coerce
exists_as_term = refl

-- (LAMBDA (y: T): f(y)) = (LAMBDA (y: T): TRUE): it is typed as FORALL
two_lambdas : inferred (Equal (Group (Lambda (n (codes "T") 13) (codes "y" ∷ []) (Apply (n (codes "f") 17) (n (codes "y") 19)) (at 2)) (at 1)) (Group (Lambda (n (codes "T") 37) (codes "y" ∷ []) (Truth true (at 41)) (at 26)) (at 25))) ≡ is (universal t (f (Var 0))) TBool (Own 0 ∷ Own 3 ∷ [])
unfolding by_size head up most is_known_nonempty coerce
two_lambdas = refl

-- (LAMBDA (y: T): c) = (LAMBDA (y: T): TRUE): c is checked as the body of a FORALL, at its first token
two_lambdas_mismatch : inferred (Equal (Group (Lambda (n (codes "T") 13) (codes "y" ∷ []) (n (codes "c") 17) (at 2)) (at 1)) (Group (Lambda (n (codes "T") 33) (codes "y" ∷ []) (Truth true (at 37)) (at 22)) (at 21))) ≡ fault (at 17) Mismatch
unfolding by_size head up most is_known_nonempty coerce
two_lambdas_mismatch = refl

-- (LAMBDA (y: T): c) = (LAMBDA (y: T): c)
two_other_lambdas : inferred (Equal (Group (Lambda (n (codes "T") 13) (codes "y" ∷ []) (n (codes "c") 17) (at 2)) (at 1)) (Group (Lambda (n (codes "T") 33) (codes "y" ∷ []) (n (codes "c") 37) (at 22)) (at 21))) ≡ is (Eq (Lam t c) (Lam t c)) TBool (Own 0 ∷ Own 2 ∷ Own 0 ∷ Own 2 ∷ [])
unfolding by_size head up most is_known_nonempty coerce
two_other_lambdas = refl

-- (LAMBDA (y: T): c) = (LAMBDA (y: T): p): at the right operand
two_other_lambdas_mismatch : inferred (Equal (Group (Lambda (n (codes "T") 13) (codes "y" ∷ []) (n (codes "c") 17) (at 2)) (at 1)) (Group (Lambda (n (codes "T") 33) (codes "y" ∷ []) (n (codes "p") 37) (at 22)) (at 21))) ≡ fault (at 21) Mismatch
unfolding by_size head up most is_known_nonempty coerce
two_other_lambdas_mismatch = refl

-- ---- LET.

-- LET y = c IN f(y)
let_without_type : inferred (lets_term (at 1) (Apply (n (codes "f") 14) (n (codes "y") 16)) (value (codes "y") None (n (codes "c") 9) ∷ [])) ≡ is (App (Lam t (f (Var 0))) c) TBool (Own 0 ∷ Own 3 ∷ Own 2 ∷ [])
unfolding by_size head up most is_known_nonempty coerce
let_without_type = refl

-- LET y: S = c IN g(y)
let_with_type : inferred (lets_term (at 1) (Apply (n (codes "g") 17) (n (codes "y") 19)) (value (codes "y") (Some (n (codes "S") 8)) (n (codes "c") 12) ∷ [])) ≡ owes (App (Lam s (App (Const (Own 8)) (Var 0))) c) t (owed [] (f c) ∷ []) (Own 6 ∷ Own 8 ∷ Own 2 ∷ [])
unfolding by_size head up most is_known_nonempty coerce
let_with_type = refl

-- LET y: bool = c IN y
let_mismatch : inferred (lets_term (at 1) (n (codes "y") 20) (value (codes "y") (Some (n (codes "bool") 8)) (n (codes "c") 15) ∷ [])) ≡ fault (at 15) Mismatch
unfolding by_size head up most is_known_nonempty coerce
let_mismatch = refl

-- LET y: w = z IN y
let_type_before_value : inferred (lets_term (at 1) (n (codes "y") 18) (value (codes "y") (Some (n (codes "w") 8)) (n (codes "z") 12) ∷ [])) ≡ fault (at 8) Unknown
unfolding by_size head up most is_known_nonempty coerce
let_type_before_value = refl

-- LET y = z IN w
let_value_before_body : inferred (lets_term (at 1) (n (codes "w") 14) (value (codes "y") None (n (codes "z") 9) ∷ [])) ≡ fault (at 9) Unknown
unfolding by_size head up most is_known_nonempty coerce
let_value_before_body = refl

-- LET y = c IN w
let_body : inferred (lets_term (at 1) (n (codes "w") 14) (value (codes "y") None (n (codes "c") 9) ∷ [])) ≡ fault (at 14) Unknown
unfolding by_size head up most is_known_nonempty coerce
let_body = refl

-- LET y = c, z = y IN z
let_sees_earlier : inferred (lets_term (at 1) (n (codes "z") 20) (value (codes "y") None (n (codes "c") 9) ∷ value (codes "z") None (n (codes "y") 16) ∷ [])) ≡ is (App (Lam t (App (Lam t (Var 0)) (Var 0))) c) t (Own 0 ∷ Own 0 ∷ Own 2 ∷ [])
unfolding by_size head up most is_known_nonempty coerce
let_sees_earlier = refl

-- ---- Tuples and projections.

-- (c, p, c)
tuple : inferred (tuple_term (at 1) (n (codes "c") 2 ∷ n (codes "p") 5 ∷ n (codes "c") 8 ∷ [])) ≡ is (Tup 3 c (Tup 2 p c)) (TPair 3 t (TPair 2 TBool t)) (Own 2 ∷ Own 1 ∷ Own 2 ∷ [])
unfolding by_size head up most is_known_nonempty coerce
tuple = refl

-- t`1
first : inferred (Part (n (codes "t") 1) 1 (at 3)) ≡ is (Fst 3 (Const (Own 11))) t (Own 11 ∷ [])
unfolding by_size head up most is_known_nonempty coerce
first = refl

-- t`2
second : inferred (Part (n (codes "t") 1) 2 (at 3)) ≡ is (Fst 2 (Snd 3 (Const (Own 11)))) TBool (Own 11 ∷ [])
unfolding by_size head up most is_known_nonempty coerce
second = refl

-- t`3
third : inferred (Part (n (codes "t") 1) 3 (at 3)) ≡ is (Snd 2 (Snd 3 (Const (Own 11)))) t (Own 11 ∷ [])
unfolding by_size head up most is_known_nonempty coerce
third = refl

-- t`4
no_fourth : inferred (Part (n (codes "t") 1) 4 (at 3)) ≡ fault (at 3) NoSuchPart
unfolding by_size head up most is_known_nonempty coerce
no_fourth = refl

-- t`0
no_part_zero : inferred (Part (n (codes "t") 1) 0 (at 3)) ≡ fault (at 3) NoSuchPart
unfolding by_size head up most is_known_nonempty coerce
no_part_zero = refl

-- (c)`0: at the operand, before the number
no_tuple : inferred (Part (Group (n (codes "c") 2) (at 1)) 0 (at 5)) ≡ fault (at 1) NotTuple
unfolding by_size head up most is_known_nonempty coerce
no_tuple = refl

-- q`2
pair : inferred (Part (n (codes "q") 1) 2 (at 3)) ≡ is (Snd 2 q) t (Own 5 ∷ [])
unfolding by_size head up most is_known_nonempty coerce
pair = refl

-- ---- Types.

-- {y: T | f(y)}
subtype : formed (Sub (codes "y") (n (codes "T") 5) (Apply (n (codes "f") 9) (n (codes "y") 11)) (at 1)) ≡ is (TSub t (f (Var 0))) (TSub t (f (Var 0))) (Own 0 ∷ Own 3 ∷ [])
unfolding by_size head up most is_known_nonempty coerce
subtype = refl

-- {y: T | y}
subtype_mismatch : formed (Sub (codes "y") (n (codes "T") 5) (n (codes "y") 9) (at 1)) ≡ fault (at 9) Mismatch
unfolding by_size head up most is_known_nonempty coerce
subtype_mismatch = refl

-- (f)
predicate_type : formed (Predicate (n (codes "f") 2) (at 1)) ≡ is (TSub t (f (Var 0))) (TSub t (f (Var 0))) (Own 0 ∷ Own 3 ∷ [])
unfolding by_size head up most is_known_nonempty coerce
predicate_type = refl

-- (c): at the expression in the parentheses
no_predicate : formed (Predicate (n (codes "c") 2) (at 1)) ≡ fault (at 2) NotPredicate
unfolding by_size head up most is_known_nonempty coerce
no_predicate = refl

-- (g), whose values are no truth values
no_predicate_function : formed (Predicate (n (codes "g") 2) (at 1)) ≡ fault (at 2) NotPredicate
unfolding by_size head up most is_known_nonempty coerce
no_predicate_function = refl

-- [y: T -> {z: T | z = y}]
dependent_function : formed (Function (domain (at 1) (binding (codes "y") 2 (Some (n (codes "T") 5)) ∷ [])) (codes "y" ∷ []) (Sub (codes "z") (n (codes "T") 14) (Equal (n (codes "z") 18) (n (codes "y") 22)) (at 10)) (at 1)) ≡ is (TFun t (TSub t (Eq (Var 0) (Var 1)))) (TFun t (TSub t (Eq (Var 0) (Var 1)))) (Own 0 ∷ Own 0 ∷ [])
unfolding by_size head up most is_known_nonempty coerce
dependent_function = refl

-- [T, bool, T]
tuple_type : formed (domain (at 1) (binding [] 2 (Some (n (codes "T") 2)) ∷ binding [] 5 (Some (n (codes "bool") 5)) ∷ binding [] 11 (Some (n (codes "T") 11)) ∷ [])) ≡ is (TPair 3 t (TPair 2 TBool t)) (TPair 3 t (TPair 2 TBool t)) (Own 0 ∷ Own 0 ∷ [])
unfolding by_size head up most is_known_nonempty coerce
tuple_type = refl

-- ---- Trees that pass a limit: a local name y of a type that mentions a variable of a high index, which is one higher where y is used.

abbrev with_y : ℕ → Here
with_y k = record {
  locals = record { name = codes "y"; term = Var 0 } ∷ [];
  context = Variable (TSub t (Eq (Var 0) (Var k))) ∷ [];
}

-- NOT c = y
too_large : elaboration.inferred_term look scope (Not (Equal (n (codes "c") 5) (n (codes "y") 9)) (at 1)) (with_y 1000000) ≡ fault (at 9) TooLarge
unfolding by_size head up most is_known_nonempty coerce
too_large = refl

-- y
not_too_large : elaboration.inferred_term look scope (n (codes "y") 1) (with_y 999999) ≡ is (Var 0) (TSub t (Eq (Var 0) (Var 1000000))) []
unfolding by_size head up most is_known_nonempty coerce
not_too_large = refl

-- a function type of this depth but one, and a local name of it
abbrev deep : ℕ → Tree
deep zero = TBool
deep (suc k) = TFun TBool (deep k)

abbrev with_deep : ℕ → Here
with_deep k = record { locals = record { name = codes "y"; term = Var 0 } ∷ []; context = Variable (deep k) ∷ [] }

-- LAMBDA (z: bool): y: the type is made at the LAMBDA
too_deep_function : elaboration.inferred_term look scope (quantified binder_word.Lambda (binding (codes "z") 9 (Some (n (codes "bool") 12)) ∷ []) (n (codes "y") 19) (at 1)) (with_deep 999) ≡ fault (at 1) TooLarge
unfolding by_size head up most is_known_nonempty coerce
too_deep_function = refl

-- the same with one level less
not_too_deep : elaboration.inferred_term look scope (quantified binder_word.Lambda (binding (codes "z") 9 (Some (n (codes "bool") 12)) ∷ []) (n (codes "y") 19) (at 1)) (with_deep 998) ≡ is (Lam TBool (Var 1)) (deep 999) []
unfolding by_size head up most is_known_nonempty coerce
not_too_deep = refl

-- (c, y)
too_deep_tuple : elaboration.inferred_term look scope (tuple_term (at 1) (n (codes "c") 2 ∷ n (codes "y") 5 ∷ [])) (with_deep 999) ≡ fault (at 1) TooLarge
unfolding by_size head up most is_known_nonempty coerce
too_deep_tuple = refl

-- h(c, y): at the first argument, before the mismatch
too_deep_arguments : elaboration.inferred_term look scope (arguments (n (codes "c") 3 ∷ n (codes "y") 6 ∷ []) (n (codes "h") 1)) (with_deep 999) ≡ fault (at 3) TooLarge
unfolding by_size head up most is_known_nonempty coerce
too_deep_arguments = refl

-- LET z = y IN p
too_deep_let : elaboration.inferred_term look scope (lets_term (at 1) (n (codes "p") 14) (value (codes "z") None (n (codes "y") 9) ∷ [])) (with_deep 999) ≡ fault (at 1) TooLarge
unfolding by_size head up most is_known_nonempty coerce
too_deep_let = refl

-- a function on a type that mentions a variable of a high index, which is one higher where a domain is compared
abbrev with_function : ℕ → Here
with_function k = record {
  locals = record { name = codes "y"; term = Var 0 } ∷ [];
  context = Variable (TFun (TSub t (Eq (Var 0) (Var k))) t) ∷ [];
}

-- g = y: at the side whose coercion passes the limit
too_large_side : elaboration.inferred_term look scope (operator infix_word.Equal (n (codes "g") 1) (n (codes "y") 5)) (with_function 999999) ≡ fault (at 5) TooLarge
unfolding by_size head up most is_known_nonempty coerce
too_large_side = refl

-- (y) = g: the right side is coerced to the type of the left one
too_large_left_side : elaboration.inferred_term look scope (operator infix_word.Equal (Group (n (codes "y") 2) (at 1)) (n (codes "g") 6)) (with_function 999999) ≡ fault (at 6) TooLarge
unfolding by_size head up most is_known_nonempty coerce
too_large_left_side = refl

-- IF p THEN g ELSE y ENDIF: at the branch that is coerced
too_large_branch : elaboration.inferred_term look scope (Choice true (n (codes "p") 4) (n (codes "g") 11) (n (codes "y") 18) (at 18) (at 1)) (with_function 999999) ≡ fault (at 18) TooLarge
unfolding by_size head up most is_known_nonempty coerce
too_large_branch = refl

-- (y), checked against [S -> T]: at the parenthesis
too_large_check : elaboration.checked_term look scope (Group (n (codes "y") 2) (at 1)) (with_function 999999) (TFun s t) ≡ fault (at 1) TooLarge
unfolding by_size head up most is_known_nonempty coerce
too_large_check = refl

-- IF c THEN g ELSE y ENDIF: an earlier fault comes first
too_large_after_condition : elaboration.inferred_term look scope (Choice true (n (codes "c") 4) (n (codes "g") 11) (n (codes "y") 18) (at 18) (at 1)) (with_function 999999) ≡ fault (at 4) Mismatch
unfolding by_size head up most is_known_nonempty coerce
too_large_after_condition = refl

-- ---- Formulas: free VARs are bound in the order of their first occurrence.

-- (u AND f(x)) AND u: u, then x
free_variables : formula look scope (operator infix_word.And (Group (operator infix_word.And (n (codes "u") 2) (Apply (n (codes "f") 8) (n (codes "x") 10))) (at 1)) (n (codes "u") 18)) ≡ Ok (record { variables = record { name = codes "x"; reference = Own 4; ty = t } ∷ record { name = codes "u"; reference = Own 10; ty = TBool } ∷ []; open_tree = If (If (Var 1) (f (Var 0)) False) (Var 1) False; tree = universal TBool (universal t (If (If (Var 1) (f (Var 0)) False) (Var 1) False)) })
unfolding by_size head up most is_known_nonempty coerce
free_variables = refl

-- f(x) AND u: x, then u
other_order : formula look scope (operator infix_word.And (Apply (n (codes "f") 1) (n (codes "x") 3)) (n (codes "u") 10)) ≡ Ok (record { variables = record { name = codes "u"; reference = Own 10; ty = TBool } ∷ record { name = codes "x"; reference = Own 4; ty = t } ∷ []; open_tree = If (f (Var 1)) (Var 0) False; tree = universal t (universal TBool (If (f (Var 1)) (Var 0) False)) })
unfolding by_size head up most is_known_nonempty coerce
other_order = refl

-- FORALL (x: bool): x
bound_is_not_free : formula look scope (quantified binder_word.Forall (binding (codes "x") 9 (Some (n (codes "bool") 12)) ∷ []) (n (codes "x") 19) (at 1)) ≡ Ok (record { variables = []; open_tree = universal TBool (Var 0); tree = universal TBool (Var 0) })
unfolding by_size head up most is_known_nonempty coerce
bound_is_not_free = refl

-- FORALL (x: {y: T | y = x}): p: the x in its own type is the VAR
free_in_own_type : formula look scope (quantified binder_word.Forall (binding (codes "x") 9 (Some (Sub (codes "y") (n (codes "T") 16) (Equal (n (codes "y") 20) (n (codes "x") 24)) (at 12))) ∷ []) (n (codes "p") 28) (at 1)) ≡ Ok (record { variables = record { name = codes "x"; reference = Own 4; ty = t } ∷ []; open_tree = universal (TSub t (Eq (Var 0) (Var 1))) p; tree = universal t (universal (TSub t (Eq (Var 0) (Var 1))) p) })
unfolding by_size head up most is_known_nonempty coerce
free_in_own_type = refl

-- g(x)
no_formula : formula look scope (Apply (n (codes "g") 1) (n (codes "x") 3)) ≡ fault (at 1) Mismatch
unfolding by_size head up most is_known_nonempty coerce
no_formula = refl

-- ---- Declarations.

-- k: bool: known to have a member
undefined_constant : constant_decl look scope [] (n (codes "bool") 4) None ≡ Ok (record { kind = ConstSig TBool None; typing = accepted [] []; variables = [] })
unfolding by_size head up most is_known_nonempty coerce
undefined_constant = refl

-- k: T: owes that T has a member
constant_of_subtype : constant_decl look scope [] (n (codes "T") 4) None ≡ Ok (record { kind = ConstSig t None; typing = accepted (owed [] (existential t) ∷ []) (Own 0 ∷ []); variables = [] })
unfolding by_size head up most is_known_nonempty coerce
constant_of_subtype = refl

-- k: S = c: owes f(c)
defined_constant : constant_decl look scope [] (n (codes "S") 4) (Some (n (codes "c") 8)) ≡ Ok (record { kind = ConstSig s (Some c); typing = accepted (owed [] (f c) ∷ []) (Own 6 ∷ Own 2 ∷ []); variables = [] })
unfolding by_size head up most is_known_nonempty coerce
defined_constant = refl

-- k: S = p
defined_mismatch : constant_decl look scope [] (n (codes "S") 4) (Some (n (codes "p") 8)) ≡ fault (at 8) Mismatch
unfolding by_size head up most is_known_nonempty coerce
defined_mismatch = refl

-- k(x): S = x: the VAR gives the type of the parameter; owes f(x)
function : constant_decl look scope (binding (codes "x") 3 None ∷ []) (n (codes "S") 7) (Some (n (codes "x") 11)) ≡ Ok (record { kind = ConstSig (TFun t s) (Some (Lam t (Var 0))); typing = accepted (owed (Variable t ∷ []) (f (Var 0)) ∷ []) (Own 0 ∷ Own 6 ∷ []); variables = Own 4 ∷ [] })
unfolding by_size head up most is_known_nonempty coerce
function = refl

-- k(y, z: T): bool = y = z
function_of_two : constant_decl look scope (binding (codes "y") 3 None ∷ binding (codes "z") 6 (Some (n (codes "T") 9)) ∷ []) (n (codes "bool") 13) (Some (Equal (n (codes "y") 20) (n (codes "z") 24))) ≡ Ok (record { kind = ConstSig (TFun (TPair 2 t t) TBool) (Some (Lam (TPair 2 t t) (Eq (Fst 2 (Var 0)) (Snd 2 (Var 0))))); typing = accepted [] (Own 0 ∷ Own 0 ∷ []); variables = [] })
unfolding by_size head up most is_known_nonempty coerce
function_of_two = refl

-- k(y: T): T: owes that [T -> T] has a member
undefined_function : constant_decl look scope (binding (codes "y") 3 (Some (n (codes "T") 6)) ∷ []) (n (codes "T") 10) None ≡ Ok (record { kind = ConstSig (TFun t t) None; typing = accepted (owed [] (existential (TFun t t)) ∷ []) (Own 0 ∷ Own 0 ∷ []); variables = [] })
unfolding by_size head up most is_known_nonempty coerce
undefined_function = refl

-- k: T = x: a VAR is free in formulas alone
free_in_definition : constant_decl look scope [] (n (codes "T") 4) (Some (n (codes "x") 8)) ≡ fault (at 8) Unknown
unfolding by_size head up most is_known_nonempty coerce
free_in_definition = refl

-- k: LEMMA f(g(x))
formula_declared : formula_decl look scope class.Lemma (Apply (n (codes "f") 10) (Apply (n (codes "g") 12) (n (codes "x") 14))) ≡ Ok (record { kind = FormulaSig class.Lemma (universal t (f (App (Const (Own 8)) (Var 0)))) 0; typing = accepted (owed (Variable t ∷ []) (f (Var 0)) ∷ []) (Own 3 ∷ Own 8 ∷ []); variables = Own 4 ∷ [] })
unfolding by_size head up most is_known_nonempty coerce
formula_declared = refl
