-- What an outcome provides, from what its steps provide.
use Rattle.std.proofs.Common.{◌≡◌, Bool, true, false, cond, List, [], ◌∷◌, ◌++◌, Option, Some, None, Result, Ok, Err, refl}
use Rattle.pvs_base.specs.declared.code.Code.{Code}
use Rattle.pvs_base.specs.declared.code.Code.TheVariants.{TooLarge}
use Rattle.pvs_terms.specs.Tree.{Tree, Ref}
use Rattle.pvs_types.specs.Limits.{is_within_limits}
use Rattle.pvs_types.specs.Outcome.{Condition, Conditions, Outcome, Refused, Accepted, outcome_after, ◌>>=◌, pure, refuse, from_option, from_result, within_limits}
use Rattle.pvs_types.specs.Soundness.{AllHold, Provides}

-- a tree that a case needs is that tree, or too large
pub within_cases : (P : Outcome Tree → Type 0) (t : Tree) → P (pure t) → P (refuse TooLarge) → P (within_limits t)
within_cases P t h k = go (is_within_limits t)
  where
    go : (b : Bool) → P (cond b (pure t) (refuse TooLarge))
    go true = h
    go false = k

all_split : {A : Type 0} (H : A → Type 0) (xs ys : List A) → AllHold H (xs ++ ys) → AllHold H xs × AllHold H ys
all_split H [] ys h = (tt, h)
all_split H (x ∷ xs) ys h = let r = all_split H xs ys h.1 in ((h.0, r.0), r.1)

-- H is what holds of each condition, and V of each symbol used
module _ (H : Condition → Type 0) (V : Ref → Type 0) where
  provides_after : {A : Type 0} (Q : A → Type 0) (cs : Conditions) (rs : List Ref) (o : Outcome A)
      → (AllHold H cs → AllHold V rs → Provides H V Q o)
      → Provides H V Q (outcome_after cs rs o)
  provides_after Q cs rs (Refused c) h = tt
  provides_after Q cs rs (Accepted a ds ss) h = λ t u.
      let x = all_split H cs ds t in
      let y = all_split V rs ss u in
      h x.0 y.0 x.1 y.1

  pub provides_then : {A B : Type 0} (P : A → Type 0) (Q : B → Type 0) (o : Outcome A) (f : A → Outcome B) → Provides H V P o
      → ((a : A) → P a → Provides H V Q (f a)) → Provides H V Q (o >>= f)
  provides_then P Q (Refused c) f h k = tt
  provides_then P Q (Accepted a cs rs) f h k = provides_after Q cs rs (f a) (λ t u. k a (h t u))

  pub provides_weaker : {A : Type 0} (P Q : A → Type 0) (o : Outcome A) → Provides H V P o → ((a : A) → P a → Q a) → Provides H V Q o
  provides_weaker P Q (Refused c) h k = tt
  provides_weaker P Q (Accepted a cs rs) h k = λ t u. k a (h t u)

  pub provides_any : {A : Type 0} (o : Outcome A) → Provides H V (λ _. Unit {0}) o
  provides_any (Refused c) = tt
  provides_any (Accepted a cs rs) = λ _ _. tt

  -- steps that owe nothing and use nothing
  pub provides_option : {A B : Type 0} (Q : B → Type 0) (c : Code) (o : Option A) (f : A → Outcome B)
      → ((a : A) → o ≡ Some a → Provides H V Q (f a)) → Provides H V Q (from_option c o >>= f)
  provides_option Q c None f h = tt
  provides_option Q c (Some a) f h = provides_after Q [] [] (f a) (λ _ _. h a refl)

  pub provides_result : {A B : Type 0} (Q : B → Type 0) (x : Result A Code) (f : A → Outcome B)
      → ((a : A) → x ≡ Ok a → Provides H V Q (f a)) → Provides H V Q (from_result x >>= f)
  provides_result Q (Err c) f h = tt
  provides_result Q (Ok a) f h = provides_after Q [] [] (f a) (λ _ _. h a refl)

  pub provides_within : {B : Type 0} (Q : B → Type 0) (t : Tree) (f : Tree → Outcome B) → Provides H V Q (f t)
      → Provides H V Q (within_limits t >>= f)
  provides_within Q t f h = within_cases (λ o. Provides H V Q (o >>= f)) t (provides_after Q [] [] (f t) (λ _ _. h)) tt

  -- a last step
  pub provides_last : (Q : Tree → Type 0) (t : Tree) → Q t → Provides H V Q (within_limits t)
  provides_last Q t h = within_cases (Provides H V Q) t (λ _ _. h) tt

  pub provides_if : {A : Type 0} (P : A → Type 0) (b : Bool) (o u : Outcome A) → (b ≡ true → Provides H V P o)
      → (b ≡ false → Provides H V P u)
      → Provides H V P (cond b o u)
  provides_if P true o u h k = h refl
  provides_if P false o u h k = k refl
