-- What is read, and what comes next, satisfies.
use Rattle.std.proofs.Common.{◌≡◌, Option, Some, None, Ok, Err, refl, subst}
use Rattle.pvs_parser.specs.declared.failure.Stop.{Stop}
use Rattle.pvs_parser.specs.code.Descent.{Answer, either}
use Rattle.pvs_base.specs.Answers.{◌>>=◌}

-- what an answer that is good satisfies
pub record Yields {A : Type 0} (o : Answer A) (Q : A → Type 0) : Type 0 where
  pub holds : (y : A) → o ≡ Ok y → Q y

-- what a value that is there satisfies
pub record Finds {A : Type 0} (o : Option A) (Q : A → Type 0) : Type 0 where
  pub holds : (y : A) → o ≡ Some y → Q y

abbrev answer : {A : Type 0} → Answer A → Answer A
answer o = o

ok_same : {A : Type 0} (x y : A) → answer (Ok x) ≡ Ok y → x ≡ y
ok_same x y e = cc

some_same : {A : Type 0} (x y : A) → Some x ≡ Some y → x ≡ y
some_same x y e = cc

pub here : {A : Type 0} {x : A} {Q : A → Type 0} → Q x → Yields (Ok x) Q
here {A} {x} {Q} q = record { holds = λ y e. subst Q (ok_same x y e) q }

pub it : {A : Type 0} {x : A} {Q : A → Type 0} → Q x → Finds (Some x) Q
it {A} {x} {Q} q = record { holds = λ y e. subst Q (some_same x y e) q }

err_is : {A : Type 0} (s : Stop) (y : A) → answer (Err s) ≡ Ok y → ⊥
err_is s y e = cc

none_has : {A : Type 0} (y : A) → None ≡ Some y → ⊥
none_has y e = cc

-- reading that stops
pub none : {A : Type 0} {s : Stop} {Q : A → Type 0} → Yields (Err s) Q
none {A} {s} {Q} = record { holds = λ y e. absurd (err_is s y e) }

-- nothing there
pub missing : {A : Type 0} {Q : A → Type 0} → Finds None Q
missing {A} {Q} = record { holds = λ y e. absurd (none_has y e) }

bind_of : {A B : Type 0} (o : Answer A) (f : A → Answer B) {P : A → Type 0} (Q : B → Type 0) → Yields o P → ((x : A) → P x → Yields (f x) Q) → Yields (o >>= f) Q
bind_of (Ok x) f Q g h = h x (g.holds x refl)
bind_of (Err s) f Q g h = none

pub bind : {A B : Type 0} {o : Answer A} {f : A → Answer B} {P : A → Type 0} {Q : B → Type 0} → Yields o P → ((x : A) → P x → Yields (f x) Q) → Yields (o >>= f) Q
bind {o = o} {f = f} {Q = Q} g h = bind_of o f Q g h

cases_of : {A B : Type 0} (o : Option A) (f : A → Answer B) (d : Answer B) (Q : B → Type 0) → ((x : A) → o ≡ Some x → Yields (f x) Q) → (o ≡ None → Yields d Q) → Yields (either o f d) Q
cases_of (Some x) f d Q g h = g x refl
cases_of None f d Q g h = h refl

pub cases : {A B : Type 0} {o : Option A} {f : A → Answer B} {d : Answer B} {Q : B → Type 0} → ((x : A) → o ≡ Some x → Yields (f x) Q) → (o ≡ None → Yields d Q) → Yields (either o f d) Q
cases {o = o} {f = f} {d = d} {Q = Q} g h = cases_of o f d Q g h

pub weaken : {A : Type 0} {o : Answer A} {P Q : A → Type 0} → ((x : A) → P x → Q x) → Yields o P → Yields o Q
weaken f g = record { holds = λ y e. f y (g.holds y e) }
