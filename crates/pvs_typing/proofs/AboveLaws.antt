-- The types above the type that a coercion starts from.
use Rattle.std.proofs.Common.{◌≡◌, ℕ, List, Result, Ok, Err, IfOk, IfErr, refl, ap, ◌∙◌, subst}
use Rattle.pvs_terms.specs.Tree.{Ref}
use Rattle.pvs_terms.specs.declared.shape.Sort.{Sort}
use Rattle.pvs_terms.specs.declared.shape.Sort.TheVariants.{OfType, OfTerm}
use Rattle.pvs_terms.specs.Stored.{Stored, tree_at}
use Rattle.pvs_subst.specs.Contexts.{context_at}
use Rattle.pvs_subst.specs.declared.context.Assumed.{Assumed}
use Rattle.pvs_subst.specs.declared.context.Condition.{Condition}
use Rattle.pvs_sig.specs.Development.{Development}
use Rattle.pvs_sig.specs.Lookups.{Lookups}
use Rattle.pvs_base.specs.Answers as answers
use Rattle.pvs_base.specs.declared.code.Code.{Code}
use Rattle.pvs_terms.specs.Tree.{Tree}
use Rattle.pvs_types.specs.Forms.{up, is_among}
use Rattle.pvs_types.specs.Coerce.{coerce}
use Rattle.pvs_typing.specs.declared.fault.TypeFault.{TypeFault}
use Rattle.pvs_typing.specs.declared.fault.TypeFault.TheVariants as fault
use Rattle.pvs_typing.specs.declared.tasks.Above.{Above}
use Rattle.pvs_typing.specs.Above.{is_above, IsListed}
use Rattle.pvs_typing.specs.Answers.{IsRefusal, IsFault}
use Rattle.pvs_typing.specs.Growth.{IsKnown, IsKnownContext, Keeps, all_at}
use Rattle.pvs_typing.specs.Judging.{Coerces}
use Rattle.pvs_typing.specs.Owed.{Owes, conditions_at}
use Rattle.pvs_typing.specs.State.{State, IsTypeOf, AreTypesOf, IsTermOf, IsContextOf, AreConditionsOf, Grows}
use Rattle.pvs_typing.proofs.GrowthLaws.{keeps_trans, known_kept, all_kept, trees_kept}
use Rattle.pvs_typing.proofs.OwedLaws.{context_same, conditions_same}

pub listed_kept : {k m : State} (theory : ℕ) (x : Above) → Grows k m theory → IsListed k theory x → IsListed m theory x
listed_kept {k} {m} theory x g h = record {
  listed = rw (g.lookups, g.stored.trees x.of h.of.node, trees_kept OfType x.types.items g h.known) h.listed;
  of = known_kept OfType x.of g h.of;
  known = all_kept OfType x.types.items g h.known;
}

-- a type is looked for among those that are listed
pub among_listed : (l : Lookups) (s : Stored) (b a : Tree) (types : List ℕ) → up l b ≡ Ok (all_at s types) → is_above l b a ≡ Ok (is_among a (all_at s types))
among_listed l s b a types h = ap (λ (x : Result (List Tree) Code). answers.◌>>=◌ x (λ ts. Ok (is_among a ts))) h

-- where the types above one are refused, so is the question whether another is above it
pub up_refused : (l : Lookups) (b a : Tree) (e : TypeFault) → IsRefusal (up l b) e → IsRefusal (is_above l b a) e
up_refused l b a (fault.Refused c) h = ap (λ (x : Result (List Tree) Code). answers.◌>>=◌ x (λ ts. Ok (is_among a ts))) h
up_refused l b a fault.Memory h = tt

coercion_same : {s t : Stored} {P Q : Sort → Ref → Type 0} {l m : Lookups} {D E : Development} (g : List Assumed) (a b c : ℕ) → Keeps s P l t Q m D E → IsKnownContext s P g → IsKnown s P OfTerm a → IsKnown s P OfType b → IsKnown s P OfType c
    → coerce m (context_at t g) (tree_at t a) (tree_at t b) (tree_at t c) ≡ coerce l (context_at s g) (tree_at s a) (tree_at s b) (tree_at s c)
coercion_same g a b c k h i j n = rw (k.lookups, context_same g k h, k.stored.trees a i.node, k.stored.trees b j.node, k.stored.trees c n.node) refl

-- a coercion in a later state is that of the earlier one
pub coerces_later : {k m n : State} (theory : ℕ) (g : List Assumed) (a b c : ℕ) (cs ds : List Condition) (r : Result (Unit {0}) TypeFault) → Grows k m theory
    → IsContextOf k theory g → IsTermOf k theory a → IsTypeOf k theory b → IsTypeOf k theory c → AreConditionsOf k theory cs
    → Coerces m n theory cs ds (λ s l. coerce l (context_at s g) (tree_at s a) (tree_at s b) (tree_at s c)) r
    → Coerces k n theory cs ds (λ s l. coerce l (context_at s g) (tree_at s a) (tree_at s b) (tree_at s c)) r
coerces_later {k} {m} {n} theory g a b c cs ds r w context term from to conditions h =
    let o = coerce (m.lookups theory) (context_at m.stored g) (tree_at m.stored a) (tree_at m.stored b) (tree_at m.stored c) in
    let e = coercion_same g a b c w context term from to in
    let d = conditions_same cs w conditions in
    record {
      ok = subst (λ x. IfOk r (λ _. Owes n.stored (conditions_at k.stored cs) x tt ds)) e (subst (λ x. IfOk r (λ _. Owes n.stored x o tt ds)) d h.ok);
      known = h.known;
      refused = subst (λ x. IfErr r (IsFault x)) e h.refused;
      kept = keeps_trans w h.kept;
    }

-- types that were listed in an earlier state
pub listed_later : (k m : State) (theory : ℕ) (x : Above) → Grows k m theory → IsTypeOf k theory x.of → up (k.lookups theory) (tree_at k.stored x.of) ≡ Ok (all_at m.stored x.types.items) → AreTypesOf m theory x.types.items → IsListed m theory x
listed_later k m theory x g of e known = record {
  listed = rw (g.lookups, g.stored.trees x.of of.node) e;
  of = known_kept OfType x.of g of;
  known = known;
}
