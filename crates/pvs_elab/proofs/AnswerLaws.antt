-- What is answered, step by step, against what typing accepts, step by step.
use Rattle.std.proofs.Common.{◌≡◌, Bool, true, false, cond, List, refl, sym, subst}
use Rattle.std.specs.Prelude.{Result, Ok, Err, if◌then◌else◌}
use Rattle.pvs_base.specs.Answers.{◌>>=◌}
use Rattle.pvs_base.specs.declared.place.Pos.{Pos}
use Rattle.pvs_base.specs.declared.code.Code.{Code}
use Rattle.pvs_base.specs.declared.code.Code.TheVariants.{TooLarge}
use Rattle.pvs_terms.specs.Tree.{Tree, Ref}
use Rattle.pvs_types.specs.Limits.{is_within_limits}
use Rattle.pvs_types.specs.Outcome.{Outcome, Refused, Accepted, Conditions, outcome_after, within_limits}
use Rattle.pvs_types.specs.Outcome as outcome
use Rattle.pvs_elab.specs.Answer.{Answer, within_limits_at, from_outcome_at, from_part, from_text_or_outcome, from_name}
use Rattle.pvs_elab.specs.Laws.{Gives, Holds}

pub gives_after : {A : Type 0} (cs : Conditions) (rs : List Ref) (o : Outcome A) (a : A) → Gives o a → Gives (outcome_after cs rs o) a
gives_after cs rs (Refused c) a g = g
gives_after cs rs (Accepted b ds ss) a g = g

pub gives_then : {A B : Type 0} (o : Outcome A) (f : A → Outcome B) (a : A) (b : B) → Gives o a → Gives (f a) b → Gives (outcome.◌>>=◌ o f) b
gives_then (Refused c) f a b g k = absurd g
gives_then (Accepted x cs rs) f a b g k = gives_after cs rs (f x) b (subst (λ y. Gives (f y) b) (sym g) k)

pub gives_within : (t : Tree) → is_within_limits t ≡ true → Gives (within_limits t) t
gives_within t e = subst (λ b. Gives (cond b (outcome.pure t) (outcome.refuse TooLarge)) t) (sym e) refl

pub holds_then : {A B : Type 0} (P : A → Type 0) (Q : B → Type 0) (r : Answer A) (f : A → Answer B) → Holds P r → ((a : A) → P a → Holds Q (f a)) → Holds Q (r >>= f)
holds_then P Q (Ok a) f p k = k a p
holds_then P Q (Err e) f p k = tt

pub holds_if : {A : Type 0} (P : A → Type 0) (b : Bool) (x y : Answer A) → Holds P x → Holds P y → Holds P (if b then x else y)
holds_if P true x y p q = p
holds_if P false x y p q = q

if_then : {A : Type 0} (Q : A → Type 0) (b : Bool) (at : Pos) (t : Tree) (f : Tree → Answer A) (e : Code) → (b ≡ true → Holds Q (f t)) → Holds Q ((if b then Ok t else Err (record { pos = at; code = e })) >>= f)
if_then Q true at t f e k = k refl
if_then Q false at t f e k = tt

-- a tree that is made is within the limits
pub within_limits_then : {A : Type 0} (Q : A → Type 0) (at : Pos) (t : Tree) (f : Tree → Answer A) → (is_within_limits t ≡ true → Holds Q (f t)) → Holds Q (within_limits_at at t >>= f)
within_limits_then Q at t f k = if_then Q (is_within_limits t) at t f _ k

within_limits_if : (Q : Tree → Type 0) (b : Bool) (at : Pos) (t : Tree) (e : Code) → Q t → Holds Q (if b then Ok t else Err (record { pos = at; code = e }))
within_limits_if Q true at t e k = k
within_limits_if Q false at t e k = tt

pub within_limits_last : (Q : Tree → Type 0) (at : Pos) (t : Tree) → Q t → Holds Q (within_limits_at at t)
within_limits_last Q at t k = within_limits_if Q (is_within_limits t) at t _ k

pub outcome_then : {A B : Type 0} (Q : B → Type 0) (large at : Pos) (o : Outcome A) (f : A → Answer B) → ((a : A) → Gives o a → Holds Q (f a)) → Holds Q (from_outcome_at large at o >>= f)
outcome_then Q large at (Refused c) f k = tt
outcome_then Q large at (Accepted a cs rs) f k = k a refl

pub outcome_last : {A : Type 0} (Q : A → Type 0) (large at : Pos) (o : Outcome A) → ((a : A) → Gives o a → Q a) → Holds Q (from_outcome_at large at o)
outcome_last Q large at (Refused c) k = tt
outcome_last Q large at (Accepted a cs rs) k = k a refl

pub part_then : {A B : Type 0} (Q : B → Type 0) (number at : Pos) (o : Outcome A) (f : A → Answer B) → ((a : A) → Gives o a → Holds Q (f a)) → Holds Q (from_part number at o >>= f)
part_then Q number at (Refused c) f k = tt
part_then Q number at (Accepted a cs rs) f k = k a refl

pub text_or_outcome_then : {A B C : Type 0} (Q : C → Type 0) (r : Answer A) (at : Pos) (o : Outcome B) (f : B → Answer C) → ((b : B) → Gives o b → Holds Q (f b)) → Holds Q (from_text_or_outcome r at o >>= f)
text_or_outcome_then Q (Ok a) at (Refused c) f k = tt
text_or_outcome_then Q (Err e) at (Refused c) f k = tt
text_or_outcome_then Q (Ok a) at (Accepted b cs rs) f k = k b refl
text_or_outcome_then Q (Err e) at (Accepted b cs rs) f k = k b refl

pub name_then : {A B : Type 0} (Q : B → Type 0) (at : Pos) (r : Result A Code) (f : A → Answer B) → ((a : A) → Holds Q (f a)) → Holds Q (from_name at r >>= f)
name_then Q at (Ok a) f k = k a
name_then Q at (Err c) f k = tt

pub holds_weaker : {A : Type 0} (P Q : A → Type 0) (r : Answer A) → Holds P r → ((a : A) → P a → Q a) → Holds Q r
holds_weaker P Q (Ok a) p k = k a p
holds_weaker P Q (Err e) p k = tt
