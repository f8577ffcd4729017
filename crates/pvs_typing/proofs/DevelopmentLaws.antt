-- What a development declares and looks up, in the terms of a theory, is what typing needs of it.
use Rattle.std.proofs.Common.{◌≡◌, ℕ, Bool, true, false, Option, Some, None, Ok, Err, refl, sym, ap, ap₂, ◌∙◌, subst}
use Rattle.pvs_base.specs.declared.code.Code.TheVariants as code
use Rattle.pvs_terms.specs.Tree.{Text, Tree, Leaf, Var, Name, Bind, Join, Project, If, Ref, Own, Formal, Inst, Trees, IsWithinLimits}
use Rattle.pvs_terms.specs.Sorts.{sort_of}
use Rattle.pvs_terms.specs.declared.shape.Sort.{Sort}
use Rattle.pvs_terms.specs.declared.shape.Sort.TheVariants.{OfType, OfTerm}
use Rattle.pvs_terms.specs.Stored.{Stands, IsName, text_at}
use Rattle.pvs_sig.specs.Signature.{Signature, Kind, TypeSig, ConstSig, VarSig, FormulaSig, kind_in, instantiate_found}
use Rattle.pvs_sig.specs.Development.{Development, IsDevelopment, IsDeclared, AreDeclared, HasSort, IsRefOver, IsTreeOver, IsKindOver, theory_named, kind_of}
use Rattle.pvs_sig.specs.Lookups.{IsOrdered}
use Rattle.pvs_sig.specs.LookupsOf.{constant_type, is_type_kind}
use Rattle.pvs_sig.specs.Ranks.{type_body}
use Rattle.pvs_sig.proofs.AdditionLaws.{is_over_all, kinds_are_over}
use Rattle.pvs_sig.proofs.DeclaredLaws.{sort_stands}
use Rattle.pvs_sig.proofs.RankLaws.{lookups_are_ordered, finds_kinds}
use Rattle.pvs_types.specs.Forms.{body, small_body}
use Rattle.pvs_types.specs.Limits.{is_within_limits}
use Rattle.pvs_types.proofs.LimitsLaws.{limits_decided}
use Rattle.pvs_instantiate.specs.InstancesView.{InstancesView, development, Leaves}
use Rattle.pvs_instantiate.specs.Parts.{IsRefBy, IsRefFrom, GivesTree, GivesOption, PassesLimit, definition, kind_by, kind_from}
use Rattle.pvs_typing.specs.Growth.{EachName, IsKnown}
use Rattle.pvs_typing.specs.Answers.{IsType, IsTooLarge, IsOptionKnown, tree_option}
use Rattle.pvs_typing.specs.Development.{lookups_by, lookups_from, IsDeclaredBy, IsDeclaredFrom}

-- what is declared is a reference over the development, and is of its sort there
pub declared_ref : (d : Development) (s : Signature) (o : Sort) (r : Ref) → IsDeclared d s o r → IsRefOver d s r
declared_ref d s o (Own n) h = tt
declared_ref d s o (Formal n) h = tt
declared_ref d s o (Inst th n xs) h = (sort_stands o (theory_named d th) n h.0, h.1)

sort_instance : (o : Sort) (k : Option Kind) (th : Text) (xs : Trees) → HasSort o k → HasSort o (instantiate_found k th xs)
sort_instance OfType None th xs h = h
sort_instance OfType (Some (TypeSig b body)) th xs h = tt
sort_instance OfType (Some (ConstSig t body)) th xs h = h
sort_instance OfType (Some (VarSig t)) th xs h = h
sort_instance OfType (Some (FormulaSig c t o)) th xs h = h
sort_instance OfTerm None th xs h = h
sort_instance OfTerm (Some (TypeSig b body)) th xs h = h
sort_instance OfTerm (Some (ConstSig t body)) th xs h = tt
sort_instance OfTerm (Some (VarSig t)) th xs h = h
sort_instance OfTerm (Some (FormulaSig c t o)) th xs h = h

pub declared_kind : (d : Development) (s : Signature) (o : Sort) (r : Ref) → IsDeclared d s o r → HasSort o (kind_of d s r)
declared_kind d s o (Own n) h = h
declared_kind d s o (Formal n) h = h
declared_kind d s o (Inst th n xs) h = sort_instance o (kind_in (theory_named d th) n) th xs h.0

-- of the theory of a name
declared_ref_by : (d : Development) (z : Option Signature) (o : Sort) (r : Ref) → IsDeclaredBy d z o r → IsRefBy d z r
declared_ref_by d None o r h = h
declared_ref_by d (Some s) o r h = declared_ref d s o r h

declared_kind_by : (d : Development) (z : Option Signature) (o : Sort) (r : Ref) → IsDeclaredBy d z o r → HasSort o (kind_by d z r)
declared_kind_by d None o r h = absurd h
declared_kind_by d (Some s) o r h = declared_kind d s o r h

pub declared_is_ref : (d : Development) (th : Text) (o : Sort) (r : Ref) → IsDeclaredFrom d th o r → IsRefFrom d th r
declared_is_ref d th o r h = declared_ref_by d (theory_named d th) o r h

pub declared_has_sort : (d : Development) (th : Text) (o : Sort) (r : Ref) → IsDeclaredFrom d th o r → HasSort o (kind_from d th r)
declared_has_sort d th o r h = declared_kind_by d (theory_named d th) o r h

-- what is looked up of it is what it is
type_by : (d : Development) (z : Option Signature) (r : Ref) → IsRefBy d z r → (lookups_by d z).type_of r ≡ constant_type (kind_by d z r)
type_by d None r h = refl
type_by d (Some s) r h = ap constant_type (finds_kinds d s r h)

body_by : (d : Development) (z : Option Signature) (r : Ref) → IsRefBy d z r → (lookups_by d z).body_of r ≡ type_body (kind_by d z r)
body_by d None r h = refl
body_by d (Some s) r h = ap type_body (finds_kinds d s r h)

is_type_by : (d : Development) (z : Option Signature) (r : Ref) → IsRefBy d z r → (lookups_by d z).is_type r ≡ is_type_kind (kind_by d z r)
is_type_by d None r h = refl
is_type_by d (Some s) r h = ap is_type_kind (finds_kinds d s r h)

pub definition_of_type : (k : Option Kind) → HasSort OfType k → type_body k ≡ definition k
definition_of_type None h = refl
definition_of_type (Some (TypeSig b body)) h = refl
definition_of_type (Some (ConstSig t body)) h = absurd h
definition_of_type (Some (VarSig t)) h = refl
definition_of_type (Some (FormulaSig c t o)) h = refl

pub type_kind : (k : Option Kind) → HasSort OfType k → is_type_kind k ≡ true
type_kind None h = absurd h
type_kind (Some (TypeSig b body)) h = refl
type_kind (Some (ConstSig t body)) h = absurd h
type_kind (Some (VarSig t)) h = absurd h
type_kind (Some (FormulaSig c t o)) h = absurd h

pub declared_type : (d : Development) (th : Text) (r : Ref) → IsDeclaredFrom d th OfTerm r → (lookups_from d th).type_of r ≡ constant_type (kind_from d th r)
declared_type d th r h = type_by d (theory_named d th) r (declared_is_ref d th OfTerm r h)

pub declared_body : (d : Development) (th : Text) (r : Ref) → IsDeclaredFrom d th OfType r → (lookups_from d th).body_of r ≡ definition (kind_from d th r)
declared_body d th r h = body_by d (theory_named d th) r (declared_is_ref d th OfType r h) ∙ definition_of_type (kind_from d th r) (declared_has_sort d th OfType r h)

pub declared_is_type : (d : Development) (th : Text) (r : Ref) → IsDeclaredFrom d th OfType r → (lookups_from d th).is_type r ≡ true
declared_is_type d th r h = is_type_by d (theory_named d th) r (declared_is_ref d th OfType r h) ∙ type_kind (kind_from d th r) (declared_has_sort d th OfType r h)

-- the trees of what is declared mention declared things alone
pub each_name : (d : Development) (s : Signature) (t : Tree) → AreDeclared d s t → EachName (IsDeclared d s) t
each_name d s (Leaf o) h = tt
each_name d s (Var n) h = tt
each_name d s (Name o r) h = h
each_name d s (Bind o a b) h = (each_name d s a h.0, each_name d s b h.1)
each_name d s (Join o a b) h = (each_name d s a h.0, each_name d s b h.1)
each_name d s (Project o a) h = each_name d s a h
each_name d s (If a b c) h = (each_name d s a h.0, each_name d s b h.1, each_name d s c h.2)

-- a type whose names are declared
pub record IsDeclaredType (d : Development) (z : Option Signature) (t : Tree) : Type 0 where
  pub sort : sort_of t ≡ OfType
  pub names : EachName (IsDeclaredBy d z) t

declared_tree : (d : Development) (s : Signature) (u t : Tree) → u ≡ t → IsTreeOver d s OfType u → IsDeclaredType d (Some s) t
declared_tree d s u t e h = subst (IsDeclaredType d (Some s)) e (record { sort = h.sort; names = each_name d s u h.declared })

pub kind_type : (d : Development) (s : Signature) (k : Kind) (t : Tree) → IsKindOver d s k → constant_type (Some k) ≡ Some t → IsDeclaredType d (Some s) t
kind_type d s (TypeSig b body) t h e = cc
kind_type d s (ConstSig u body) t h e = let k : u ≡ t = cc in declared_tree d s u t k h.0
kind_type d s (VarSig u) t h e = cc
kind_type d s (FormulaSig c u o) t h e = cc

pub kind_body : (d : Development) (s : Signature) (k : Kind) (t : Tree) → IsKindOver d s k → type_body (Some k) ≡ Some t → IsDeclaredType d (Some s) t
kind_body d s (TypeSig b None) t h e = cc
kind_body d s (TypeSig b (Some u)) t h e = let k : u ≡ t = cc in declared_tree d s u t k h
kind_body d s (ConstSig u body) t h e = cc
kind_body d s (VarSig u) t h e = cc
kind_body d s (FormulaSig c u o) t h e = cc

module _ (d : Development) (standing : IsDevelopment d) (th : Text) where
  kind_is_over : (s : Signature) (r : Ref) (k : Kind) → theory_named d th ≡ Some s → IsRefOver d s r → kind_of d s r ≡ Some k → IsKindOver d s k
  kind_is_over s r k e h q = kinds_are_over d s r k standing (is_over_all d th s standing e) h q

  type_declared_by : (z : Option Signature) (r : Ref) (t : Tree) → theory_named d th ≡ z → IsRefBy d z r → constant_type (kind_by d z r) ≡ Some t → IsDeclaredType d z t
  type_declared_by None r t e h q = absurd h
  type_declared_by (Some s) r t e h q = by (kind_of d s r) refl q
    where
      by : (k : Option Kind) → kind_of d s r ≡ k → constant_type k ≡ Some t → IsDeclaredType d (Some s) t
      by None i q = cc
      by (Some k) i q = kind_type d s k t (kind_is_over s r k e h i) q

  body_declared_by : (z : Option Signature) (r : Ref) (t : Tree) → theory_named d th ≡ z → IsRefBy d z r → type_body (kind_by d z r) ≡ Some t → IsDeclaredType d z t
  body_declared_by None r t e h q = absurd h
  body_declared_by (Some s) r t e h q = by (kind_of d s r) refl q
    where
      by : (k : Option Kind) → kind_of d s r ≡ k → type_body k ≡ Some t → IsDeclaredType d (Some s) t
      by None i q = cc
      by (Some k) i q = kind_body d s k t (kind_is_over s r k e h i) q

  pub type_declared : (r : Ref) (t : Tree) → IsDeclaredFrom d th OfTerm r → constant_type (kind_from d th r) ≡ Some t → IsDeclaredType d (theory_named d th) t
  type_declared r t h q = type_declared_by (theory_named d th) r t refl (declared_is_ref d th OfTerm r h) q

  pub body_declared : (r : Ref) (t : Tree) → IsDeclaredFrom d th OfType r → definition (kind_from d th r) ≡ Some t → IsDeclaredType d (theory_named d th) t
  body_declared r t h q = body_declared_by (theory_named d th) r t refl (declared_is_ref d th OfType r h) (definition_of_type (kind_from d th r) (declared_has_sort d th OfType r h) ∙ q)

  ordered_by : (z : Option Signature) → theory_named d th ≡ z → IsOrdered (lookups_by d z)
  ordered_by None e = λ r t h. cc
  ordered_by (Some s) e = lookups_are_ordered d s standing (is_over_all d th s standing e)

  pub ordered_from : IsOrdered (lookups_from d th)
  ordered_from = ordered_by (theory_named d th) refl

-- the answers, by what is left
module _ (v w : InstancesView) (n : ℕ) (r : Ref) (named : IsName v.store n) (leaves : Leaves v w) (standing : IsDevelopment (development v)) where
  known_after : (i : ℕ) (t : Tree) → Stands w.store t i → IsDeclaredType (development v) (theory_named (development v) (text_at v.store n)) t → IsKnown w.store (IsDeclaredFrom (development w) (text_at w.store n)) OfType i
  known_after i t h k =
      let declares = ap₂ (λ d x. IsDeclaredFrom d x) leaves.development (leaves.store.texts n named) in
      subst (λ P. IsKnown w.store P OfType i) (sym declares)
      (record { node = h.node; sort = ap sort_of h.tree ∙ k.sort; names = subst (EachName (IsDeclaredFrom (development v) (text_at v.store n))) (sym h.tree) k.names })

  module _ (declared : IsDeclaredFrom (development v) (text_at v.store n) OfTerm r) where
    pub gives_type : (i : ℕ) → GivesTree w.store (constant_type (kind_from (development v) (text_at v.store n) r)) i → IsType w.store (lookups_from (development v) (text_at v.store n)).type_of r i
    gives_type i h = by (constant_type (kind_from (development v) (text_at v.store n) r)) (declared_type (development v) (text_at v.store n) r declared) h
      where
        by : (z : Option Tree) → (lookups_from (development v) (text_at v.store n)).type_of r ≡ z → GivesTree w.store z i → IsType w.store (lookups_from (development v) (text_at v.store n)).type_of r i
        by None e h = absurd h
        by (Some t) e h = record { is = e ∙ ap Some (sym h.tree); fits = subst IsWithinLimits (sym h.tree) h.fits }

    pub type_is_known : (i : ℕ) → GivesTree w.store (constant_type (kind_from (development v) (text_at v.store n) r)) i → IsKnown w.store (IsDeclaredFrom (development w) (text_at w.store n)) OfType i
    type_is_known i h = by (constant_type (kind_from (development v) (text_at v.store n) r)) refl h
      where
        by : (z : Option Tree) → constant_type (kind_from (development v) (text_at v.store n) r) ≡ z → GivesTree w.store z i → IsKnown w.store (IsDeclaredFrom (development w) (text_at w.store n)) OfType i
        by None e h = absurd h
        by (Some t) e h = known_after i t h (type_declared (development v) standing (text_at v.store n) r t declared e)

    pub type_too_large : PassesLimit (constant_type (kind_from (development v) (text_at v.store n) r)) → IsTooLarge ((lookups_from (development v) (text_at v.store n)).type_of r)
    type_too_large h = subst IsTooLarge (sym (declared_type (development v) (text_at v.store n) r declared)) (by (constant_type (kind_from (development v) (text_at v.store n) r)) h)
      where
        by : (z : Option Tree) → PassesLimit z → IsTooLarge z
        by None h = h
        by (Some t) h = h

  module _ (declared : IsDeclaredFrom (development v) (text_at v.store n) OfType r) where
    pub gives_body : (o : Option ℕ) → GivesOption w.store (definition (kind_from (development v) (text_at v.store n) r)) o → body (lookups_from (development v) (text_at v.store n)) r ≡ Ok (tree_option w.store o)
    gives_body o h = ap small_body (declared_body (development v) (text_at v.store n) r declared) ∙ by (definition (kind_from (development v) (text_at v.store n) r)) o h
      where
        by : (z : Option Tree) (o : Option ℕ) → GivesOption w.store z o → small_body z ≡ Ok (tree_option w.store o)
        by None None h = refl
        by None (Some i) h = absurd h
        by (Some t) None h = absurd h
        by (Some t) (Some i) h = rw ((limits_decided t).1 h.fits) (ap (λ x. Ok (Some x)) (sym h.tree))

    pub body_is_known : (o : Option ℕ) → GivesOption w.store (definition (kind_from (development v) (text_at v.store n) r)) o → IsOptionKnown w.store (IsDeclaredFrom (development w) (text_at w.store n)) o
    body_is_known o h = by (definition (kind_from (development v) (text_at v.store n) r)) o refl h
      where
        by : (z : Option Tree) (o : Option ℕ) → definition (kind_from (development v) (text_at v.store n) r) ≡ z → GivesOption w.store z o → IsOptionKnown w.store (IsDeclaredFrom (development w) (text_at w.store n)) o
        by z None e h = tt
        by None (Some i) e h = absurd h
        by (Some t) (Some i) e h = known_after i t h (body_declared (development v) standing (text_at v.store n) r t declared e)

    pub body_too_large : PassesLimit (definition (kind_from (development v) (text_at v.store n) r)) → body (lookups_from (development v) (text_at v.store n)) r ≡ Err code.TooLarge
    body_too_large h = ap small_body (declared_body (development v) (text_at v.store n) r declared) ∙ by (definition (kind_from (development v) (text_at v.store n) r)) h
      where
        by : (z : Option Tree) → PassesLimit z → small_body z ≡ Err code.TooLarge
        by None h = absurd h
        by (Some t) h = large t (is_within_limits t) refl h
          where
            large : (t : Tree) (b : Bool) → is_within_limits t ≡ b → (IsWithinLimits t → ⊥) → small_body (Some t) ≡ Err code.TooLarge
            large t true e h = absurd (h ((limits_decided t).0 e))
            large t false e h = rw e refl
