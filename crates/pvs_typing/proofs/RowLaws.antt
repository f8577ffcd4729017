-- Laws of the rows of typing.
use Rattle.std.proofs.Common.{◌≡◌, List, [], ◌++◌, Option, Some, None, Result, Ok, Err, refl, ap, ◌∙◌, subst, arith}
use Rattle.std.proofs.Common.{ℕ, zero, suc, ◌+◌, ◌∷◌, true, cond, add-one}
use Rattle.pvs_base.specs.declared.code.Code.{Code}
use Rattle.pvs_base.specs.declared.code.Code.TheVariants.{Unknown}
use Rattle.pvs_terms.specs.declared.shape.Plain.TheVariants.{BoolType, Yes, No}
use Rattle.pvs_terms.specs.declared.shape.Binder.TheVariants.{Subtype, Function, Product, Lambda}
use Rattle.pvs_terms.specs.declared.shape.Sort.{Sort}
use Rattle.pvs_terms.specs.declared.shape.Sort.TheVariants.{OfType}
use Rattle.pvs_terms.specs.Stored.{Stored, Stands, tree_at}
use Rattle.pvs_terms.specs.Tree.{Leaf, Var, Name, Bind, Join, Project, If, Ref, Lam, Const}
use Rattle.pvs_subst.specs.Contexts.{context_at}
use Rattle.pvs_subst.specs.Replace.{lift}
use Rattle.pvs_subst.specs.declared.context.Assumed.{Assumed}
use Rattle.pvs_subst.specs.declared.context.Assumed.TheVariants as assumed
use Rattle.pvs_subst.proofs.SortLaws.{sort_of-lift}
use Rattle.pvs_types.specs.Symbols.{symbols}
use Rattle.pvs_types.specs.Typing.{binder_type, lift_option, variable_infer, constant_infer, is_forall}
use Rattle.pvs_types.specs.Outcome.{from_option, uses, within_limits}
use Rattle.pvs_typing.specs.Answers.{IsType, Gives, tree_option}
use Rattle.pvs_typing.specs.Growth.{IsKnown, IsKnownContext, Keeps}
use Rattle.pvs_subst.specs.declared.context.Condition.{Condition}
use Rattle.pvs_terms.specs.Tree.{TName}
use Rattle.pvs_types.specs.Outcome.{refuse}
use Rattle.pvs_types.specs.Typing.{well_formed}
use Rattle.pvs_typing.specs.Owed.{conditions_at, AreKnownConditions}
use Rattle.pvs_typing.specs.Judging.{Accepts, Answers}
use Rattle.pvs_typing.proofs.JudgingLaws.{append_none}
use Rattle.pvs_typing.specs.code.Rows.{binder_at, is_true_on}
use Rattle.pvs_typing.proofs.GrowthLaws.{each-lift}
use Rattle.pvs_typing.proofs.PartLaws.{fits_within, made_gives}
use Rattle.pvs_terms.specs.Tree.{Tree, True, False, TPair, IsWithinLimits}
use Rattle.pvs_subst.specs.Contexts.{Assumptions}
use Rattle.pvs_sig.specs.Development.{Development}
use Rattle.pvs_sig.specs.Lookups.{Lookups}
use Rattle.pvs_types.specs.Outcome.{Outcome, Refused, Accepted, outcome_after, ◌>>=◌, pure, from_result}
use Rattle.pvs_types.specs.Forms.{up, first_among}
use Rattle.pvs_types.specs.Typing.{common_type}
use Rattle.pvs_typing.specs.declared.fault.TypeFault.{TypeFault}
use Rattle.pvs_typing.specs.declared.fault.TypeFault.TheVariants as fault
use Rattle.pvs_typing.specs.Answers.{IsFault, IsRefusal}
use Rattle.pvs_typing.specs.code.Rows.{common_above, joined}
use Rattle.pvs_typing.proofs.OwedLaws.{after_none}

pub true_fits : IsWithinLimits True
true_fits = record { deep = omega arith; large = omega arith; index = omega arith }

pub false_fits : IsWithinLimits False
false_fits = record { deep = omega arith; large = omega arith; index = omega arith }

-- a component of a tuple type is no larger than it
pub pair_fits : (k : ℕ) (a b : Tree) → IsWithinLimits (TPair k a b) → IsWithinLimits b
pair_fits k a b h = record { deep = omega (arith, h.deep); large = omega (arith, h.large); index = omega (arith, h.index) }

-- a type above both types
pub common_at : (l : Lookups) (c d : Tree) (us ws : List Tree) (o : Option Tree) → up l c ≡ Ok us → up l d ≡ Ok ws → o ≡ first_among us ws → common_above l c d ≡ pure o
common_at l c d us ws o h k e = go (up l c) (up l d) h k
  where
    go : (x y : Result (List Tree) Code) → x ≡ Ok us → y ≡ Ok ws → (from_result x >>= (λ us. from_result y >>= (λ bs. pure (first_among us bs)))) ≡ pure o
    go x y h k = rw (h, k, e) refl

pub common_fault : (l : Lookups) (c d : Tree) (us : List Tree) (e : TypeFault) → up l c ≡ Ok us → IsRefusal (up l d) e → IsFault (common_above l c d) e
common_fault l c d us (fault.Refused q) h k = go (up l c) (up l d) h k
  where
    go : (x y : Result (List Tree) Code) → x ≡ Ok us → y ≡ Err q → (from_result x >>= (λ us. from_result y >>= (λ bs. pure (first_among us bs)))) ≡ Refused q
    go x y h k = rw (h, k) refl
common_fault l c d us fault.Memory h k = tt

-- a type of both branches, by a type above both types
pub joined_common : (l : Lookups) (g h : Assumptions) (a b c d : Tree) → joined l g h a b c d ≡ (common_above l c d >>= common_type l g h a b c d)
joined_common l g h a b c d = go (up l c) (up l d)
  where
    go : (x y : Result (List Tree) Code) → (from_result x >>= (λ us. from_result y >>= (λ bs. common_type l g h a b c d (first_among us bs)))) ≡ ((from_result x >>= (λ us. from_result y >>= (λ bs. pure (first_among us bs)))) >>= common_type l g h a b c d)
    go (Err q) y = refl
    go (Ok us) (Err q) = refl
    go (Ok us) (Ok ws) = after_none (outcome_after [] [] (common_type l g h a b c d (first_among us ws)))

-- a constant with its type
pub constant_accepts : (s : Stored) (P : Sort → Ref → Type 0) (l : Lookups) (g : Assumptions) (r : Ref) (i : ℕ) → IsType s l.type_of r i → Accepts s P [] (constant_infer l r g) (tree_at s i) []
constant_accepts s P l g r i h = record {
  owes = record { symbols = symbols (Const r) ++ []; is = go (l.type_of r) (within_limits (tree_at s i)) h.is (fits_within (tree_at s i) h.fits) };
  conditions = tt;
}
  where
    go : (x : Option Tree) (o : Outcome Tree) → x ≡ Some (tree_at s i) → within_limits (tree_at s i) ≡ pure (tree_at s i)
        → outcome_after [] [] (uses (symbols (Const r)) >>= (λ _. from_option Unknown x >>= within_limits)) ≡ Accepted (tree_at s i) [] (symbols (Const r) ++ [])
    go x o e f = rw (e, f) refl

-- The type of a variable.

binder_tree : (s : Stored) (g : List Assumed) (n : ℕ) → binder_type (context_at s g) n ≡ tree_option s (binder_at g n)
binder_tree s [] n = refl
binder_tree s (assumed.Bind i ∷ g) zero = refl
binder_tree s (assumed.Bind i ∷ g) (suc n) = binder_tree s g n
binder_tree s (assumed.Hyp i ∷ g) n = binder_tree s g n

pub binder_known : (s : Stored) (P : Sort → Ref → Type 0) (g : List Assumed) (n i : ℕ) → IsKnownContext s P g → binder_at g n ≡ Some i → IsKnown s P OfType i
binder_known s P [] n i h e = absurd (cc)
binder_known s P (assumed.Bind j ∷ g) zero i h e = let k : j ≡ i = cc in subst (IsKnown s P OfType) k h.0
binder_known s P (assumed.Bind j ∷ g) (suc n) i h e = binder_known s P g n i h.1 e
binder_known s P (assumed.Hyp j ∷ g) n i h e = binder_known s P g n i h.1 e

pub variable_none : (s : Stored) (g : List Assumed) (n : ℕ) → binder_at g n ≡ None → variable_infer n (context_at s g) ≡ Refused Unknown
variable_none s g n e = go (binder_type (context_at s g) n) (binder_tree s g n ∙ ap (tree_option s) e)
  where
    go : (x : Option Tree) → x ≡ None → (from_option Unknown (lift_option (suc n) x) >>= within_limits) ≡ Refused Unknown
    go x h = rw h refl

pub variable_some : (s : Stored) (g : List Assumed) (n i : ℕ) → binder_at g n ≡ Some i → variable_infer n (context_at s g) ≡ within_limits (lift (tree_at s i) (n + 1) 0)
variable_some s g n i e = go (binder_type (context_at s g) n) (binder_tree s g n ∙ ap (tree_option s) e)
  where
    go : (x : Option Tree) → x ≡ Some (tree_at s i) → (from_option Unknown (lift_option (suc n) x) >>= within_limits) ≡ within_limits (lift (tree_at s i) (n + 1) 0)
    go x h = rw (h, add-one) (after_none (within_limits (lift (tree_at s i) (suc n) 0)))

pub lifted_by_gives : {s t : Stored} {P Q : Sort → Ref → Type 0} {l m : Lookups} {D E : Development} (by i j : ℕ) → Keeps s P l t Q m D E → IsKnown s P OfType i → Stands t (lift (tree_at s i) by 0) j → Gives t Q OfType (lift (tree_at s i) by 0) j
lifted_by_gives {s} {P = P} by i j k h n = made_gives OfType (lift (tree_at s i) by 0) (lift (tree_at s i) by 0) j k refl (sort_of-lift (tree_at s i) by 0 ∙ h.sort) (each-lift P (tree_at s i) by 0 h.names) n

-- The two sides of a FORALL.

true_on : (a b t : Tree) → is_forall (Lam a True) (Lam b t) ≡ is_true_on a (Lam b t)
true_on a b (Leaf BoolType) = refl
true_on a b (Leaf Yes) = refl
true_on a b (Leaf No) = refl
true_on a b (Var n) = refl
true_on a b (Name o r) = refl
true_on a b (Bind o x y) = refl
true_on a b (Join o x y) = refl
true_on a b (Project o x) = refl
true_on a b (If x y z) = refl

pub forall_on : (a p t : Tree) → is_forall (Lam a p) t ≡ is_true_on a t
forall_on a p (Leaf o) = refl
forall_on a p (Var n) = refl
forall_on a p (Name o r) = refl
forall_on a p (Bind Subtype x y) = refl
forall_on a p (Bind Function x y) = refl
forall_on a p (Bind (Product k) x y) = refl
forall_on a p (Bind Lambda x y) = true_on a x y
forall_on a p (Join o x y) = refl
forall_on a p (Project o x) = refl
forall_on a p (If x y z) = refl

-- a type's name
pub name_formed : (s : Stored) (P : Sort → Ref → Type 0) (l : Lookups) (g : Assumptions) (r : Ref) (cs : List Condition) → AreKnownConditions s P cs → l.is_type r ≡ true
    → Answers {V = Unit {0}} (λ _. tt) s P (conditions_at s cs) (well_formed l g (TName r)) cs (Ok tt)
name_formed s P l g r cs h e = record {
  is = record {
    owes = record {
      symbols = symbols (TName r);
      is = ap (λ b. outcome_after (conditions_at s cs) [] (cond b (uses (symbols (TName r))) (refuse Unknown))) e ∙ ap (λ x. Accepted tt x (symbols (TName r))) (append_none (conditions_at s cs));
    };
    conditions = h;
  };
}
