-- Entries that typing accepted over those before them stand after the theories: their trees are sorted and closed, and
-- mention only what is declared before.
use Rattle.std.proofs.Common.{◌≡◌, ℕ, suc, ◌<◌, ◌≤◌, true, List, [], ◌∷◌, Option, Some, None, refl, sym, subst, arith}
use Rattle.std.specs.Prelude.{slice_get, option_map}
use Rattle.std.proofs.lemmas.Bool.{ltb-true}
use Rattle.pvs_terms.specs.Tree.{Tree, Leaf, Var, Name, Bind, Join, Project, If, Ref, Own, Formal, Inst, TBool}
use Rattle.pvs_terms.specs.Sorts.{sort_of, BinderTag, JointTag, ProjectionTag, IsSorted}
use Rattle.pvs_terms.specs.declared.shape.Sort.{Sort}
use Rattle.pvs_terms.specs.declared.shape.Sort.TheVariants.{OfType, OfTerm}
use Rattle.pvs_terms.specs.declared.shape.Binder.{Binder}
use Rattle.pvs_terms.specs.declared.shape.Binder.TheVariants.{Subtype, Function, Product, Lambda}
use Rattle.pvs_terms.specs.declared.shape.Joint.{Joint}
use Rattle.pvs_terms.specs.declared.shape.Joint.TheVariants.{Apply, Tuple, Equal}
use Rattle.pvs_terms.specs.declared.shape.Projection.{Projection}
use Rattle.pvs_terms.specs.declared.shape.Projection.TheVariants.{First, Second}
use Rattle.pvs_subst.specs.Contexts.{Assumptions, Variable}
use Rattle.pvs_sig.specs.LookupsOf.{lookups_of, constant_type, is_type_kind}
use Rattle.pvs_sig.specs.References.{EachRef, KindEach}
use Rattle.pvs_sig.specs.Signature.{Signature, FormalSig, Import, Kind, TypeSig, ConstSig, VarSig, FormulaSig, kind_at, formal_kind}
use Rattle.pvs_sig.specs.Development.{Development, HasSort, IsDeclared, AreDeclared, IsTreeOver, IsKindOver, IsBefore, IsSignatureOver, In, formals_seen}
use Rattle.pvs_types.specs.Typing.{check, well_formed}
use Rattle.pvs_elab.specs.Elab.{universal}
use Rattle.pvs_elab.specs.Formula.{FreeVariable, binders_of, closure}
use Rattle.pvs_soundness.specs.Vocabulary.{BinderArity, JointArity, ProjectionArity, IsOver}
use Rattle.pvs_soundness.specs.Scoped.{IsScoped, variables_in}
use Rattle.pvs_soundness.specs.WellSorted.{IsWellSorted}
use Rattle.pvs_soundness.specs.Within.{entries_before}
use Rattle.pvs_soundness.specs.Checked.{IsFormedBy, IsCheckedBy, IsDefinedBy, plainly, under_parameter, AreFormedBy, IsFormulaBy, IsKindBy}
use Rattle.pvs_soundness.specs.Laws.{AcceptedSignaturesStand}
use Rattle.pvs_soundness.proofs.AcceptedLaws.{IsKept, typing_kept}
use Rattle.pvs_soundness.proofs.ScopedLaws.{InScope, scope_kept, closed_within}
use Rattle.pvs_soundness.proofs.WellSortedLaws.{accepted_sorted}
use Rattle.pvs_soundness.proofs.KindSound.{was_accepted}

-- tuples of two components or more
binder_tag : (n : ℕ) (o : Binder) → BinderArity (entries_before n) o → BinderTag o
binder_tag n Subtype h = tt
binder_tag n Function h = tt
binder_tag n (Product k) h = let l = ltb-true 1 k h in omega (arith, l)
binder_tag n Lambda h = tt

joint_tag : (n : ℕ) (o : Joint) → JointArity (entries_before n) o → JointTag o
joint_tag n Apply h = tt
joint_tag n (Tuple k) h = let l = ltb-true 1 k h in omega (arith, l)
joint_tag n Equal h = tt

projection_tag : (n : ℕ) (o : Projection) → ProjectionArity (entries_before n) o → ProjectionTag o
projection_tag n (First k) h = let l = ltb-true 1 k h in omega (arith, l)
projection_tag n (Second k) h = let l = ltb-true 1 k h in omega (arith, l)

-- a tree over own entries has no actuals
sorted_over : (n : ℕ) (t : Tree) → IsWellSorted t → IsOver (entries_before n) t → IsSorted t
sorted_over n (Leaf o) s h = tt
sorted_over n (Var k) s h = tt
sorted_over n (Name o (Own k)) s h = tt
sorted_over n (Name o (Formal k)) s h = tt
sorted_over n (Name o (Inst th k xs)) s h = cc
sorted_over n (Bind o a b) s h = ((binder_tag n o h.2, s.0, s.1), sorted_over n a s.2 h.0, sorted_over n b s.3 h.1)
sorted_over n (Join o a b) s h = ((joint_tag n o h.2, s.0, s.1), sorted_over n a s.2 h.0, sorted_over n b s.3 h.1)
sorted_over n (Project o a) s h = ((projection_tag n o h.1, s.0), sorted_over n a s.1 h.0)
sorted_over n (If c a b) s h = ((s.0, s.1, s.2), sorted_over n c s.3 h.0, sorted_over n a s.4 h.1, sorted_over n b s.5 h.2)

each_before : (f n : ℕ) (t : Tree) → IsOver (entries_before n) t → EachRef (IsBefore f n) t
each_before f n (Leaf o) h = tt
each_before f n (Var k) h = tt
each_before f n (Name o (Own k)) h = (ltb-true k n h.0, tt)
each_before f n (Name o (Formal k)) h = cc
each_before f n (Name o (Inst th k xs)) h = cc
each_before f n (Bind o a b) h = (each_before f n a h.0, each_before f n b h.1)
each_before f n (Join o a b) h = (each_before f n a h.0, each_before f n b h.1)
each_before f n (Project o a) h = each_before f n a h.0
each_before f n (If c a b) h = (each_before f n c h.0, each_before f n a h.1, each_before f n b h.2)

scoped_more : (m n : ℕ) (t : Tree) → m ≤ n → IsScoped m t → IsScoped n t
scoped_more m n (Leaf o) l h = tt
scoped_more m n (Var k) l h = omega (arith, l, h)
scoped_more m n (Name o r) l h = tt
scoped_more m n (Bind o a b) l h = (scoped_more m n a l h.0, scoped_more (suc m) (suc n) b (omega (arith, l)) h.1)
scoped_more m n (Join o a b) l h = (scoped_more m n a l h.0, scoped_more m n b l h.1)
scoped_more m n (Project o a) l h = scoped_more m n a l h
scoped_more m n (If c a b) l h = (scoped_more m n c l h.0, scoped_more m n a l h.1, scoped_more m n b l h.2)

-- what is found as a type or as a constant has that sort
type_sort : (x : Option Kind) → is_type_kind x ≡ true → HasSort OfType x
type_sort (Some (TypeSig b a)) h = tt
type_sort (Some (ConstSig a t)) h = cc
type_sort (Some (VarSig a)) h = cc
type_sort (Some (FormulaSig c t o)) h = cc
type_sort None h = cc

constant_sort : (x : Option Kind) (a : Tree) → constant_type x ≡ Some a → HasSort OfTerm x
constant_sort (Some (ConstSig b t)) a h = tt
constant_sort (Some (TypeSig b t)) a h = cc
constant_sort (Some (VarSig b)) a h = cc
constant_sort (Some (FormulaSig c t o)) a h = cc
constant_sort None a h = cc

-- the first n entries of s stand in v too
module _ (d : Development) (s v : Signature) (n : ℕ) (alike : (j : ℕ) → j < n → kind_at s j ≡ kind_at v j) where
  abbrev Declared : Assumptions → Tree → Type 0
  Declared g t = IsOver (entries_before n) t → AreDeclared d v t

  type_declared : (r : Ref) → (lookups_of d s).is_type r ≡ true → IsOver (entries_before n) (Name OfType r) → IsDeclared d v OfType r
  type_declared (Own j) e h = subst (HasSort OfType) (alike j (ltb-true j n h.0)) (type_sort (kind_at s j) e)
  type_declared (Formal j) e h = cc
  type_declared (Inst th j xs) e h = cc

  constant_declared : (r : Ref) (a : Tree) → (lookups_of d s).type_of r ≡ Some a → IsOver (entries_before n) (Name OfTerm r) → IsDeclared d v OfTerm r
  constant_declared (Own j) a e h = subst (HasSort OfTerm) (alike j (ltb-true j n h.0)) (constant_sort (kind_at s j) a e)
  constant_declared (Formal j) a e h = cc
  constant_declared (Inst th j xs) a e h = cc

  declared_kept : IsKept (lookups_of d s) Declared Declared
  declared_kept = record {
    truth = λ g q. tt;
    yes = λ g q. tt;
    no = λ g q. tt;
    variable = λ g k a e q. tt;
    constant = λ g r a e q. constant_declared r a e q;
    name = λ g r e q. type_declared r e q;
    subtype = λ g a p h k q. (h q.0, k q.1);
    function = λ g a b h k q. (h q.0, k q.1);
    product = λ g j a b h k q. (h q.0, k q.1);
    abstraction = λ g a b h k q. (h q.0, k q.1);
    application = λ g a b h k q. (h q.0, k q.1);
    tuple = λ g j a b h k q. (h q.0, k q.1);
    equation = λ g a b h k q. (h q.0, k q.1);
    universal = λ g a p h q. (h q.0, ((h q.0).0, tt));
    projection = λ g o a h q. h q.0;
    choice = λ g t a b h j k q. (h q.0, j q.1, k q.2);
  }

  -- a tree that was accepted in a context
  record Stands (g : Assumptions) (o : Sort) (t : Tree) : Type 0 where
    pub sort : sort_of t ≡ o
    pub scoped : IsScoped (variables_in g) t
    pub sorted : IsSorted t
    pub declared : AreDeclared d v t
    pub over : IsOver (entries_before n) t

  formed_stands : (g : Assumptions) (a : Tree) → IsFormedBy (entries_before n) (lookups_of d s) g a → Stands g OfType a
  formed_stands g a h =
      let outcome = well_formed (lookups_of d s) g a in
      let sorts = was_accepted _ outcome tt h.used h.accepted (accepted_sorted (lookups_of d s) g a a).2 in
      record {
        sort = sorts.0;
        scoped = was_accepted _ outcome tt h.used h.accepted ((typing_kept (lookups_of d s) InScope InScope (scope_kept (lookups_of d s)) a).well_formed g);
        sorted = sorted_over n a sorts.1 h.each;
        declared = (was_accepted _ outcome tt h.used h.accepted ((typing_kept (lookups_of d s) Declared Declared declared_kept a).well_formed g)) h.each;
        over = h.each;
      }

  checked_stands : (g : Assumptions) (t a : Tree) → IsCheckedBy (entries_before n) (lookups_of d s) g t a → Stands g OfTerm t
  checked_stands g t a h =
      let outcome = check (lookups_of d s) g t a in
      let sorts = was_accepted _ outcome tt h.used h.accepted (accepted_sorted (lookups_of d s) g t a).1 in
      record {
        sort = sorts.0;
        scoped = was_accepted _ outcome tt h.used h.accepted ((typing_kept (lookups_of d s) InScope InScope (scope_kept (lookups_of d s)) t).check g a);
        sorted = sorted_over n t sorts.1 h.each;
        declared = (was_accepted _ outcome tt h.used h.accepted ((typing_kept (lookups_of d s) Declared Declared declared_kept t).check g a)) h.each;
        over = h.each;
      }

  abstraction_stands : (c b : Tree) → Stands [] OfType c → Stands (Variable c ∷ []) OfTerm b → Stands [] OfTerm (Bind Lambda c b)
  abstraction_stands c b h k = record {
    sort = refl;
    scoped = (h.scoped, k.scoped);
    sorted = ((tt, h.sort, k.sort), h.sorted, k.sorted);
    declared = (h.declared, k.declared);
    over = (h.over, k.over, tt);
  }

  defined_stands : (t a : Tree) → IsDefinedBy (entries_before n) (lookups_of d s) t a → Stands [] OfTerm t
  defined_stands t a (plainly h) = checked_stands [] t a h
  defined_stands t a (under_parameter c b r ea et hc h) =
      subst (Stands [] OfTerm) (sym et) (abstraction_stands c b (formed_stands [] c hc) (checked_stands (Variable c ∷ []) b r h))

  -- FORALL over a variable of a closed type
  universal_stands : (g : Assumptions) (a p : Tree) → Stands [] OfType a → Stands (Variable a ∷ g) OfTerm p → Stands g OfTerm (universal a p)
  universal_stands g a p h k =
      let wider = scoped_more 0 (variables_in g) a (omega arith) h.scoped in
      record {
        sort = refl;
        scoped = ((wider, k.scoped), (wider, tt));
        sorted = ((tt, refl, refl), ((tt, h.sort, k.sort), h.sorted, k.sorted), ((tt, h.sort, refl), h.sorted, tt));
        declared = ((h.declared, k.declared), (h.declared, tt));
        over = ((h.over, k.over, tt), (h.over, tt, tt), tt);
      }

  closure_stands : (bs : List FreeVariable) (t : Tree) → AreFormedBy (entries_before n) (lookups_of d s) bs → Stands (binders_of bs) OfTerm t → Stands [] OfTerm (closure bs t)
  closure_stands [] t f h = h
  closure_stands (b ∷ bs) t f h = closure_stands bs (universal b.ty t) f.1 (universal_stands (binders_of bs) b.ty t (formed_stands [] b.ty f.0) h)

  formula_stands : (t : Tree) → IsFormulaBy (entries_before n) (lookups_of d s) t → Stands [] OfTerm t
  formula_stands t h =
      subst (Stands [] OfTerm) (sym h.closed) (closure_stands h.variables h.open_tree h.formed (checked_stands (binders_of h.variables) h.open_tree TBool h.checked))

  tree_over : (o : Sort) (t : Tree) → Stands [] o t → IsTreeOver d v o t
  tree_over o t h = record { sort = h.sort; closed = closed_within t h.scoped; sorted = h.sorted; declared = h.declared }

  type_over : (a : Tree) → IsFormedBy (entries_before n) (lookups_of d s) [] a → IsTreeOver d v OfType a
  type_over a h = tree_over OfType a (formed_stands [] a h)

  pub kind_over : (x : Kind) → IsKindBy (entries_before n) (lookups_of d s) x → IsKindOver d v x
  kind_over (TypeSig b None) h = tt
  kind_over (TypeSig b (Some a)) h = type_over a h
  kind_over (ConstSig a None) h = (type_over a h, tt)
  kind_over (ConstSig a (Some t)) h = (type_over a h.0, tree_over OfTerm t (defined_stands t a h.1))
  kind_over (VarSig a) h = type_over a h
  kind_over (FormulaSig c t o) h = tree_over OfTerm t (formula_stands t h)

  pub mentions_before : (f : ℕ) (x : Kind) → IsKindBy (entries_before n) (lookups_of d s) x → KindEach (IsBefore f n) x
  mentions_before f (TypeSig b None) h = tt
  mentions_before f (TypeSig b (Some a)) h = each_before f n a h.each
  mentions_before f (ConstSig a None) h = (each_before f n a h.each, tt)
  mentions_before f (ConstSig a (Some t)) h = (each_before f n a h.0.each, each_before f n t (defined_stands t a h.1).over)
  mentions_before f (VarSig a) h = each_before f n a h.each
  mentions_before f (FormulaSig c t o) h = each_before f n t (formula_stands t h).over

no_formal : (fs : List FormalSig) (n : ℕ) (k : Kind) → fs ≡ [] → option_map formal_kind (slice_get fs n) ≡ Some k → ⊥
no_formal [] n k e h = cc
no_formal (f ∷ fs) n k e h = cc

-- a signature without formals and importings, where each entry stands and mentions what is before it
pub plain_stands : (d : Development) (s : Signature) → s.formals ≡ [] → s.imports ≡ []
    → ((n : ℕ) (x : Kind) → kind_at s n ≡ Some x → IsKindOver d s x × ((f : ℕ) → KindEach (IsBefore f n) x)) → IsSignatureOver d s
plain_stands d s formals imports entries = record {
  entries = λ n x e. (entries n x e).0;
  formals = λ n x e. absurd (no_formal s.formals n x formals e);
  imports = λ x h. absurd (no_import x h);
  places = λ x h. absurd (no_import x h);
  earlier_entries = λ n x e. (entries n x e).1 (formals_seen s n);
  earlier_formals = λ n x e. absurd (no_formal s.formals n x formals e);
  earlier_actuals = λ x h. absurd (no_import x h);
}
  where
    no_import : (x : Import) → In x s.imports → ⊥
    no_import x h = subst (In x) imports h

pub accepted_stands : AcceptedSignaturesStand
accepted_stands d s plain = plain_stands d s plain.formals plain.imports (λ n x e.
    let h = plain.entries n x e in
    (kind_over d s s n (λ j l. refl) x h, λ f. mentions_before d s s n (λ j l. refl) f x h))
