-- The formula that a type has a member, by the terms that it is made of.
use Rattle.std.proofs.Common.{◌≡◌, ℕ, Bool, true, false, cond, refl, sym, ap, ◌∙◌, subst, Result, Err, arith}
use Rattle.pvs_base.specs.declared.code.Code.TheVariants.{TooLarge}
use Rattle.pvs_terms.specs.Tree.{Tree, Ref, True, False, Lam, Eq, If, IsWithinLimits}
use Rattle.pvs_terms.specs.declared.shape.Sort.{Sort}
use Rattle.pvs_terms.specs.declared.shape.Sort.TheVariants.{OfTerm}
use Rattle.pvs_terms.specs.Stored.{Stored, tree_at}
use Rattle.pvs_types.specs.Limits.{is_within_limits}
use Rattle.pvs_types.specs.Outcome.{pure, refuse, within_limits}
use Rattle.pvs_types.specs.Outcome as outcome
use Rattle.pvs_types.specs.Typing.{negation}
use Rattle.pvs_types.proofs.LimitsLaws.{limits_decided}
use Rattle.pvs_typing.specs.Answers.{Gives, IsFault}
use Rattle.pvs_typing.specs.declared.fault.TypeFault.{TypeFault}
use Rattle.pvs_typing.specs.declared.fault.TypeFault.TheVariants as fault
use Rattle.pvs_typing.proofs.PartLaws.{large_refused}
use Rattle.pvs_elab.specs.Declaration.{existential}
use Rattle.pvs_elab.specs.Elab.{universal}
use Rattle.pvs_elaboration.specs.declared.here.Here.{Here}
use Rattle.pvs_elaboration.specs.Known.{Known, Grows, IsHere, IsTypeOf}
use Rattle.pvs_elaboration.proofs.KnownLaws.{grows_trans, tree_stays}
use Rattle.pvs_place.specs.code.Existence.{MakesTerm}

-- a tree is past the limits where a part of it is
part_fault : (t u : Tree) (e : TypeFault) → (IsWithinLimits u → IsWithinLimits t) → IsFault (within_limits t) e → IsFault (within_limits u) e
part_fault t u (fault.Refused c) h k = go (is_within_limits t) refl k
  where
    go : (b : Bool) → is_within_limits t ≡ b → cond b (pure t) (refuse TooLarge) ≡ outcome.Refused c → within_limits u ≡ outcome.Refused c
    go true e k = cc
    go false e k = large_refused u (λ f. let e2 : is_within_limits t ≡ true = (limits_decided t).1 (h f) in cc) ∙ k
part_fault t u fault.Memory h k = tt

-- the last term that is made, and one that is not
pub makes_last : {a b c : Known} {t u : Tree} {r : Result ℕ TypeFault} → Grows a b → MakesTerm b c t r → t ≡ u → MakesTerm a c u r
makes_last {a} {b} {c} {r = r} g h e = subst (λ x. MakesTerm a c x r) e (record { ok = h.ok; refused = h.refused; kept = grows_trans g h.kept })

pub makes_none : {a b c : Known} {t : Tree} (u : Tree) (e : TypeFault) → Grows a b → MakesTerm b c t (Err e) → (IsWithinLimits u → IsWithinLimits t) → MakesTerm a c u (Err e)
makes_none {t = t} u e g h k = record { ok = tt; refused = part_fault t u e k h.refused; kept = grows_trans g h.kept }

right_fits : (l r : Tree) → IsWithinLimits (Eq l r) → IsWithinLimits r
right_fits l r h = record { deep = omega (arith, h.deep); large = omega (arith, h.large); index = omega (arith, h.index) }

first_fits : (p q r : Tree) → IsWithinLimits (If p q r) → IsWithinLimits p
first_fits p q r h = record { deep = omega (arith, h.deep); large = omega (arith, h.large); index = omega (arith, h.index) }

-- A universal formula: the predicate, then the one that is TRUE everywhere, then their equation.
module _ {a b : Known} {h : Here} (i f : ℕ) (here : IsHere a h) (ty : IsTypeOf a i) (g : Grows a b) where
  always_is : Lam (tree_at b.stored i) (tree_at b.stored h.yes) ≡ Lam (tree_at a.stored i) True
  always_is = rw (tree_stays g ty, tree_stays g here.yes, here.is_yes) refl

  pub always_part : IsWithinLimits (universal (tree_at a.stored i) (tree_at a.stored f)) → IsWithinLimits (Lam (tree_at b.stored i) (tree_at b.stored h.yes))
  always_part k = subst IsWithinLimits (sym always_is) (right_fits (Lam (tree_at a.stored i) (tree_at a.stored f)) (Lam (tree_at a.stored i) True) k)

  pub equation_is : {c : Known} (p q : ℕ) → Grows b c → Gives b.stored b.declares OfTerm (Lam (tree_at a.stored i) (tree_at a.stored f)) p → Gives c.stored c.declares OfTerm (Lam (tree_at b.stored i) (tree_at b.stored h.yes)) q
      → Eq (tree_at c.stored p) (tree_at c.stored q) ≡ universal (tree_at a.stored i) (tree_at a.stored f)
  equation_is {c} p q k x y = rw (tree_stays k x.known, x.tree, y.tree, always_is) refl

-- The formula that there is a member: the negation of TRUE, then that it holds of each, then the negation of that.
module _ {a b : Known} {h : Here} (i n : ℕ) (here : IsHere a h) (ty : IsTypeOf a i) (g : Grows a b) (x : Gives b.stored b.declares OfTerm (negation (tree_at a.stored h.yes)) n) where
  empty_is : universal (tree_at b.stored i) (tree_at b.stored n) ≡ universal (tree_at a.stored i) (negation True)
  empty_is = rw (tree_stays g ty, x.tree, here.is_yes) refl

  pub empty_part : IsWithinLimits (existential (tree_at a.stored i)) → IsWithinLimits (universal (tree_at b.stored i) (tree_at b.stored n))
  empty_part k = subst IsWithinLimits (sym empty_is) (first_fits (universal (tree_at a.stored i) (negation True)) False True k)

  pub inhabited_is : {s : Stored} {P : Sort → Ref → Type 0} (m : ℕ) → Gives s P OfTerm (universal (tree_at b.stored i) (tree_at b.stored n)) m → negation (tree_at s m) ≡ existential (tree_at a.stored i)
  inhabited_is m y = ap negation (y.tree ∙ empty_is)
