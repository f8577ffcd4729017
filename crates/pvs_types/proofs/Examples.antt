-- Worked examples, by computation, over these declarations:
--   T: TYPE
--   p: [T -> bool]
--   S: TYPE = {x: T | p(x)}
--   q: [T -> bool]
--   U: TYPE = {x: S | q(x)}
--   c: S
--   f: [S -> S]
--   g: [T -> T]
use Rattle.std.proofs.Common.{◌≡◌, refl, List, [], ◌∷◌, Some, None, true, false, Ok}
use Rattle.std.specs.Prelude.{slice_index_or}
use Rattle.pvs_base.specs.declared.code.Code.TheVariants.{NotFunction, NotTuple, NoSuchPart, Mismatch, Unknown, TooLarge}
use Rattle.pvs_terms.specs.Tree.{Tree, Ref, Var, If, Own, Formal, Inst, TBool, True, TName, Const, TSub, TFun, TPair, Lam, App, Tup, Eq, Fst, Snd}
use Rattle.pvs_subst.specs.Contexts.{Assumptions, Variable, Hypothesis}
use Rattle.pvs_sig.specs.Lookups.{Lookups}
use Rattle.pvs_types.specs.Outcome.{Condition, Refused, Accepted}
use Rattle.pvs_types.specs.BySize.{by_size}
use Rattle.pvs_types.specs.Forms.{head, up, most, is_known_nonempty}
use Rattle.pvs_types.specs.Coerce.{coerce}
use Rattle.pvs_types.specs.Typing.{infer, check, well_formed, negation}

abbrev pub t : Tree
t = TName (Own 0)

abbrev pub s : Tree
s = TName (Own 2)

abbrev u : Tree
u = TName (Own 4)

abbrev pub p : Tree → Tree
p x = App (Const (Own 1)) x

abbrev pub q : Tree → Tree
q x = App (Const (Own 3)) x

abbrev c : Tree
c = Const (Own 5)

abbrev f : Tree → Tree
f x = App (Const (Own 6)) x

abbrev g : Tree → Tree
g x = App (Const (Own 7)) x

abbrev of_own : {A : Type 0} → List A → A → Ref → A
of_own xs other (Own n) = slice_index_or xs n other
of_own xs other (Formal n) = other
of_own xs other (Inst a n acts) = other

abbrev pub declared : Lookups
declared = record {
  type_of = of_own (None ∷ Some (TFun t TBool) ∷ None ∷ Some (TFun t TBool) ∷ None ∷ Some s ∷ Some (TFun s s) ∷ Some (TFun t t) ∷ []) None;
  body_of = of_own (None ∷ None ∷ Some (TSub t (p (Var 0))) ∷ None ∷ Some (TSub s (q (Var 0))) ∷ []) None;
  is_type = of_own (true ∷ false ∷ true ∷ false ∷ true ∷ []) false;
  is_nonempty = λ r. false;
  rank = of_own (0 ∷ 0 ∷ 2 ∷ 0 ∷ 4 ∷ []) 0;
}

abbrev owed : Assumptions → Tree → Condition
owed h x = record { context = h; goal = x }

-- A defined name whose body is a subtype of another one.

head_of_name : head declared u ≡ Ok t
unfolding by_size head up most is_known_nonempty coerce
head_of_name = refl

types_above : up declared u ≡ Ok (u ∷ TSub s (q (Var 0)) ∷ s ∷ TSub t (p (Var 0)) ∷ t ∷ [])
unfolding by_size head up most is_known_nonempty coerce
types_above = refl

most_of_name : most declared u ≡ Ok t
unfolding by_size head up most is_known_nonempty coerce
most_of_name = refl

-- The domain of a function stays; a component does where the other one mentions its variable.

most_of_function : most declared (TFun s s) ≡ Ok (TFun s t)
unfolding by_size head up most is_known_nonempty coerce
most_of_function = refl

most_of_pair : most declared (TPair 2 s (TSub s (Eq (Var 0) (Var 1)))) ≡ Ok (TPair 2 t t)
unfolding by_size head up most is_known_nonempty coerce
most_of_pair = refl

most_of_dependent_pair : most declared (TPair 2 s (TFun (TSub s (Eq (Var 0) (Var 1))) s)) ≡ Ok
    (TPair 2 s (TFun (TSub s (Eq (Var 0) (Var 1))) t))
unfolding by_size head up most is_known_nonempty coerce
most_of_dependent_pair = refl

nonempty_function : is_known_nonempty declared (TFun t TBool) ≡ Ok true
unfolding by_size head up most is_known_nonempty coerce
nonempty_function = refl

nonempty_pair : is_known_nonempty declared (TPair 2 TBool t) ≡ Ok false
unfolding by_size head up most is_known_nonempty coerce
nonempty_pair = refl

-- The cases of coercion. The type that is wanted is above the given one:

above : coerce declared [] c u t ≡ Accepted tt [] []
unfolding by_size head up most is_known_nonempty coerce
above = refl

-- a defined name, as for its body; and a subtype, first what its supertype owes:

name : coerce declared [] (g c) t s ≡ Accepted tt (owed [] (p (g c)) ∷ []) []
unfolding by_size head up most is_known_nonempty coerce
name = refl

subtype : coerce declared [] (g c) t u ≡ Accepted tt (owed [] (p (g c)) ∷ owed [] (q (g c)) ∷ []) []
unfolding by_size head up most is_known_nonempty coerce
subtype = refl

-- TBool and undefined names, whose head is another one (where it is the same, the wanted type is above the given one):

other_head : coerce declared [] c s TBool ≡ Refused Mismatch
unfolding by_size head up most is_known_nonempty coerce
other_head = refl

other_name : coerce declared [] True TBool t ≡ Refused Mismatch
unfolding by_size head up most is_known_nonempty coerce
other_name = refl

-- tuple types, the first part and then the second, which are projections or the parts of a tuple:

pair : coerce declared (Variable (TPair 2 t t) ∷ []) (Var 0) (TPair 2 t t) (TPair 2 s u)
    ≡ Accepted tt (owed (Variable (TPair 2 t t) ∷ []) (p (Fst 2 (Var 0))) ∷ owed (Variable (TPair 2 t t) ∷ []) (p (Snd 2 (Var 0))) ∷ owed
    (Variable (TPair 2 t t) ∷ []) (q (Snd 2 (Var 0))) ∷ []) []
unfolding by_size head up most is_known_nonempty coerce
pair = refl

pair_of_parts : coerce declared [] (Tup 2 c (g c)) (TPair 2 s t) (TPair 2 u s) ≡ Accepted tt (owed [] (q c) ∷ owed [] (p (g c)) ∷ []) []
unfolding by_size head up most is_known_nonempty coerce
pair_of_parts = refl

dependent_pair : coerce declared [] (Tup 2 c (g c)) (TPair 2 t t) (TPair 2 t (TSub t (Eq (Var 0) (Var 1)))) ≡ Accepted tt
    (owed [] (Eq (g c) c) ∷ []) []
unfolding by_size head up most is_known_nonempty coerce
dependent_pair = refl

other_tag : coerce declared [] c (TPair 3 t (TPair 2 t t)) (TPair 2 t (TPair 2 t t)) ≡ Refused Mismatch
unfolding by_size head up most is_known_nonempty coerce
other_tag = refl

-- function types, the domains both ways and then the result, which is an application or the body of an abstraction:

wider_domain : coerce declared [] (Const (Own 6)) (TFun s s) (TFun t t) ≡ Accepted tt (owed (Variable t ∷ []) (p (Var 0)) ∷ []) []
unfolding by_size head up most is_known_nonempty coerce
wider_domain = refl

smaller_domain : coerce declared [] (Const (Own 7)) (TFun t t) (TFun s s)
    ≡ Accepted tt (owed (Variable t ∷ []) (p (Var 0)) ∷ owed (Variable t ∷ []) (p (g (Var 0))) ∷ []) []
unfolding by_size head up most is_known_nonempty coerce
smaller_domain = refl

abstraction : coerce declared [] (Lam t (g (Var 0))) (TFun t t) (TFun t s) ≡ Accepted tt (owed (Variable t ∷ []) (p (g (Var 0))) ∷ []) []
unfolding by_size head up most is_known_nonempty coerce
abstraction = refl

-- and no other type.

function_for_pair : coerce declared [] c (TFun t t) (TPair 2 t t) ≡ Refused Mismatch
unfolding by_size head up most is_known_nonempty coerce
function_for_pair = refl

-- Applications: the symbols of the term are used, and a member of the subtype owes nothing where a T is wanted.

down : infer declared [] (g c) ≡ Accepted t [] (Own 7 ∷ Own 5 ∷ [])
unfolding by_size head up most is_known_nonempty coerce
down = refl

back : infer declared [] (f (g c)) ≡ Accepted s (owed [] (p (g c)) ∷ []) (Own 6 ∷ Own 7 ∷ Own 5 ∷ [])
unfolding by_size head up most is_known_nonempty coerce
back = refl

no_function : infer declared [] (App c c) ≡ Refused NotFunction
unfolding by_size head up most is_known_nonempty coerce
no_function = refl

-- The branches of an IF join at the first type above the one that is above the other,

join_above : infer declared (Variable t ∷ []) (If (p (Var 0)) (Var 0) c) ≡ Accepted t [] (Own 1 ∷ Own 5 ∷ [])
unfolding by_size head up most is_known_nonempty coerce
join_above = refl

-- or at the most general form of the first, to which the first branch is coerced and then the second.

join_most : infer declared (Variable (TFun t s) ∷ Variable (TFun t u) ∷ []) (If True (Var 0) (Var 1)) ≡ Accepted (TFun t t) [] []
unfolding by_size head up most is_known_nonempty coerce
join_most = refl

join_at_conditions : infer declared (Variable (TSub (TFun t t) True) ∷ Variable (TFun s t) ∷ []) (If True (Var 0) (Var 1))
    ≡ Accepted (TFun t t) (owed (Variable t ∷ Hypothesis (negation True) ∷ Variable (TSub (TFun t t) True) ∷ Variable (TFun s t) ∷ [])
    (p (Var 0)) ∷ []) []
unfolding by_size head up most is_known_nonempty coerce
join_at_conditions = refl

no_join : infer declared [] (If True c True) ≡ Refused Mismatch
unfolding by_size head up most is_known_nonempty coerce
no_join = refl

-- Each branch is checked under its own hypothesis.

branches : check declared (Variable t ∷ []) (If (p (Var 0)) (Var 0) (g c)) s
    ≡ Accepted tt (owed (Hypothesis (p (Var 0)) ∷ Variable t ∷ []) (p (Var 0)) ∷ owed
    (Hypothesis (negation (p (Var 0))) ∷ Variable t ∷ []) (p (g c)) ∷ []) (Own 1 ∷ Own 7 ∷ Own 5 ∷ [])
unfolding by_size head up most is_known_nonempty coerce
branches = refl

-- The form of FORALL: its type is well formed, and its predicate is a truth value for each member; p is on T, and its
-- argument is an S. The symbols of the type are used once.

for_all : infer declared [] (Eq (Lam s (p (Var 0))) (Lam s True)) ≡ Accepted TBool [] (Own 2 ∷ Own 1 ∷ [])
unfolding by_size head up most is_known_nonempty coerce
for_all = refl

-- An equality of other functions coerces both, first the right one, to the most general form of the left one's type.

equal_functions : infer declared [] (Eq (Lam s (g (Var 0))) (Const (Own 6))) ≡ Accepted TBool [] (Own 2 ∷ Own 7 ∷ Own 6 ∷ [])
unfolding by_size head up most is_known_nonempty coerce
equal_functions = refl

-- A dependent pair: what its second type says of the first part is owed.

dependent_tuple : check declared (Variable t ∷ []) (Tup 2 (Var 0) (g (Var 0))) (TPair 2 t (TSub t (Eq (Var 0) (Var 1))))
    ≡ Accepted tt (owed (Variable t ∷ []) (Eq (g (Var 0)) (Var 0)) ∷ []) (Own 7 ∷ [])
unfolding by_size head up most is_known_nonempty coerce
dependent_tuple = refl

dependent_second : infer declared (Variable (TPair 2 t (TSub t (Eq (Var 0) (Var 1)))) ∷ []) (Snd 2 (Var 0))
    ≡ Accepted (TSub t (Eq (Var 0) (Fst 2 (Var 1)))) [] []
unfolding by_size head up most is_known_nonempty coerce
dependent_second = refl

no_such_part : infer declared (Variable (TPair 2 t t) ∷ []) (Fst 3 (Var 0)) ≡ Refused NoSuchPart
unfolding by_size head up most is_known_nonempty coerce
no_such_part = refl

no_tuple : infer declared [] (Fst 2 c) ≡ Refused NotTuple
unfolding by_size head up most is_known_nonempty coerce
no_tuple = refl

-- Well-formed types, and names that are no types.

formed : well_formed declared [] (TFun u (TSub t (p (Var 0)))) ≡ Accepted tt [] (Own 4 ∷ Own 0 ∷ Own 1 ∷ [])
unfolding by_size head up most is_known_nonempty coerce
formed = refl

no_type : well_formed declared [] (TName (Own 1)) ≡ Refused Unknown
unfolding by_size head up most is_known_nonempty coerce
no_type = refl

-- Trees that pass a limit: the type of a variable, lifted over it; a function, lifted for its application, but only
-- after the domains.

large_type : infer declared (Variable (TSub t (Eq (Var 0) (Var 1000000))) ∷ []) (Var 0) ≡ Refused TooLarge
unfolding by_size head up most is_known_nonempty coerce
large_type = refl

large_result : coerce declared [] (Var 1000000) (TFun t t) (TFun s t) ≡ Refused TooLarge
unfolding by_size head up most is_known_nonempty coerce
large_result = refl

mismatch_first : coerce declared [] (Var 1000000) (TFun TBool t) (TFun s t) ≡ Refused Mismatch
unfolding by_size head up most is_known_nonempty coerce
mismatch_first = refl
