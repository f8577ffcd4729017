-- Laws of outcomes: one part of a script after the other.
use Rattle.std.proofs.Common.{◌≡◌, refl, sym, ap, ap₂, List, [], ◌++◌, append_assoc, append-nil}
use Rattle.pvs_terms.specs.Tree.{Ref}
use Rattle.pvs_sequent.specs.Sequents.{Sequent}
use Rattle.pvs_replay.specs.Replaying.{Outcome, Proved, Open, Refused, both, Run, Leaves, Stops, after, finish}

pub both_nothing : (o : Outcome) → both o (Proved [] []) ≡ o
both_nothing (Proved fs rs) = ap₂ (λ (gs qs : List Ref). Proved gs qs) (append-nil fs) (append-nil rs)
both_nothing (Open q) = refl
both_nothing (Refused f) = refl

pub nothing_both : (o : Outcome) → both (Proved [] []) o ≡ o
nothing_both (Proved fs rs) = refl
nothing_both (Open q) = refl
nothing_both (Refused f) = refl

pub both_assoc : (o p q : Outcome) → both (both o p) q ≡ both o (both p q)
both_assoc (Refused f) p q = refl
both_assoc (Proved a b) (Proved c d) (Proved e f) = ap₂ (λ (gs qs : List Ref). Proved gs qs) (append_assoc a c e) (append_assoc b d f)
both_assoc (Proved a b) (Proved c d) (Open r) = refl
both_assoc (Proved a b) (Proved c d) (Refused f) = refl
both_assoc (Proved a b) (Open r) (Proved c d) = refl
both_assoc (Proved a b) (Open r) (Open s) = refl
both_assoc (Proved a b) (Open r) (Refused f) = refl
both_assoc (Proved a b) (Refused f) q = refl
both_assoc (Open r) (Proved a b) (Proved c d) = refl
both_assoc (Open r) (Proved a b) (Open s) = refl
both_assoc (Open r) (Proved a b) (Refused f) = refl
both_assoc (Open r) (Open s) (Proved c d) = refl
both_assoc (Open r) (Open s) (Open t) = refl
both_assoc (Open r) (Open s) (Refused f) = refl
both_assoc (Open r) (Refused f) q = refl

pub nothing_after : (r : Run) → after (Proved [] []) r ≡ r
nothing_after (Leaves o at qs) = ap (λ (p : Outcome). Leaves p at qs) (nothing_both o)
nothing_after (Stops o) = ap Stops (nothing_both o)

pub after_assoc : (o p : Outcome) (r : Run) → after (both o p) r ≡ after o (after p r)
after_assoc o p (Leaves q at qs) = ap (λ (x : Outcome). Leaves x at qs) (both_assoc o p q)
after_assoc o p (Stops q) = ap Stops (both_assoc o p q)

pub finish_after : (fs : List (Sequent → Outcome)) (o : Outcome) (r : Run) → finish fs (after o r) ≡ both o (finish fs r)
finish_after fs o (Leaves p at qs) = both_assoc o p _
finish_after fs o (Stops p) = refl

-- two parts are proved only where each is
pub record BothProved (o p : Outcome) (fs rs : List Ref) : Type 0 where
  pub first_cited : List Ref
  pub first_uses : List Ref
  pub second_cited : List Ref
  pub second_uses : List Ref
  pub first : o ≡ Proved first_cited first_uses
  pub second : p ≡ Proved second_cited second_uses
  pub cited : fs ≡ first_cited ++ second_cited

pub both_proved : (o p : Outcome) (fs rs : List Ref) → both o p ≡ Proved fs rs → BothProved o p fs rs
both_proved (Proved a b) (Proved c d) fs rs h = record { first_cited = a; first_uses = b; second_cited = c; second_uses = d; first = refl; second = refl; cited = let e : a ++ c ≡ fs = cc in sym e }
both_proved (Proved a b) (Open q) fs rs h = cc
both_proved (Proved a b) (Refused f) fs rs h = cc
both_proved (Open q) (Proved c d) fs rs h = cc
both_proved (Open q) (Open r) fs rs h = cc
both_proved (Open q) (Refused f) fs rs h = cc
both_proved (Refused f) p fs rs h = cc
