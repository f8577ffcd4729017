-- What the references of the latest theory are, in terms of the theories before it.
use Rattle.std.proofs.Common.{◌≡◌, ℕ, true, Option, Some, None, Ok, Err, ◌∷◌, refl, sym, ap, ◌∙◌, subst, Bool, false}
use Rattle.pvs_base.specs.declared.code.Code.TheVariants as code
use Rattle.pvs_terms.specs.Tree.{Text, Tree, Ref, IsWithinLimits}
use Rattle.pvs_terms.specs.Sorts.{sort_of}
use Rattle.pvs_terms.specs.declared.shape.Sort.{Sort}
use Rattle.pvs_terms.specs.declared.shape.Sort.TheVariants.{OfType, OfTerm}
use Rattle.pvs_terms.specs.Stored.{Stored, Stands, text_at}
use Rattle.pvs_sig.specs.Signature.{Signature, Kind}
use Rattle.pvs_sig.specs.Development.{Development, IsDevelopment, IsDeclared, HasSort, kind_of}
use Rattle.pvs_sig.specs.LookupsOf.{lookups_of, constant_type, is_nonempty_kind, is_type_kind}
use Rattle.pvs_sig.specs.Ranks.{type_body}
use Rattle.pvs_sig.proofs.AdditionLaws.{same_kind}
use Rattle.pvs_sig.proofs.DeclaredLaws.{later_ref}
use Rattle.pvs_sig.proofs.DevelopmentLaws.{kind_over}
use Rattle.pvs_sig.proofs.RankLaws.{finds_kinds}
use Rattle.pvs_types.specs.Forms.{body, small_body}
use Rattle.pvs_types.specs.Limits.{is_within_limits}
use Rattle.pvs_types.proofs.LimitsLaws.{limits_decided}
use Rattle.pvs_instantiate.specs.InstancesView.{InstancesView, development}
use Rattle.pvs_instantiate.specs.Parts.{IsRefBy, IsRefFrom, IsConstant, GivesTree, GivesOption, PassesLimit, definition, kind_by, kind_from}
use Rattle.pvs_instantiate.proofs.TheoryLaws.{itself}
use Rattle.pvs_typing.specs.Growth.{EachName, IsKnown}
use Rattle.pvs_typing.specs.Answers.{IsType, IsTooLarge, IsOptionKnown, tree_option}
use Rattle.pvs_typing.proofs.DevelopmentLaws.{declared_ref, declared_kind, definition_of_type, type_kind, IsDeclaredType, kind_type, kind_body}
use Rattle.pvs_place.specs.Place.{IsDeclaredIn, lookups_in, IsLatest}

-- what is asked of a reference that is declared in the terms of the latest theory
pub record Reads (d : Development) (th : Text) (s : Stored) (r : Ref) : Type 0 where
  pub is_ref : (o : Sort) → IsDeclaredIn d o r → IsRefFrom d th r
  pub constant : IsDeclaredIn d OfTerm r → IsConstant (kind_from d th r)
  pub type_is : IsDeclaredIn d OfTerm r → (i : ℕ) → GivesTree s (constant_type (kind_from d th r)) i → IsType s (lookups_in d).type_of r i
  pub type_known : IsDeclaredIn d OfTerm r → (i : ℕ) → GivesTree s (constant_type (kind_from d th r)) i → IsKnown s (IsDeclaredIn d) OfType i
  pub type_large : IsDeclaredIn d OfTerm r → PassesLimit (constant_type (kind_from d th r)) → IsTooLarge ((lookups_in d).type_of r)
  pub body_is : IsDeclaredIn d OfType r → (o : Option ℕ) → GivesOption s (definition (kind_from d th r)) o → body (lookups_in d) r ≡ Ok (tree_option s o)
  pub body_known : IsDeclaredIn d OfType r → (o : Option ℕ) → GivesOption s (definition (kind_from d th r)) o → IsOptionKnown s (IsDeclaredIn d) o
  pub body_large : IsDeclaredIn d OfType r → PassesLimit (definition (kind_from d th r)) → body (lookups_in d) r ≡ Err code.TooLarge
  pub is_type : IsDeclaredIn d OfType r → (lookups_in d).is_type r ≡ true
  pub is_nonempty : IsDeclaredIn d OfType r → (lookups_in d).is_nonempty r ≡ is_nonempty_kind (kind_from d th r)

-- a number that stands for the tree, or for the one that there may be
given_type : (s : Stored) (f : Ref → Option Tree) (r : Ref) (z : Option Tree) (i : ℕ) → f r ≡ z → GivesTree s z i → IsType s f r i
given_type s f r None i e h = absurd h
given_type s f r (Some t) i e h = record { is = e ∙ ap Some (sym h.tree); fits = subst IsWithinLimits (sym h.tree) h.fits }

large_type : (z : Option Tree) → PassesLimit z → IsTooLarge z
large_type None h = h
large_type (Some t) h = h

given_body : (s : Stored) (z : Option Tree) (o : Option ℕ) → GivesOption s z o → small_body z ≡ Ok (tree_option s o)
given_body s None None h = refl
given_body s None (Some i) h = absurd h
given_body s (Some t) None h = absurd h
given_body s (Some t) (Some i) h = rw ((limits_decided t).1 h.fits) (ap (λ x. Ok (Some x)) (sym h.tree))

large_body : (z : Option Tree) → PassesLimit z → small_body z ≡ Err code.TooLarge
large_body None h = absurd h
large_body (Some t) h = by t (is_within_limits t) refl h
  where
    by : (t : Tree) (b : Bool) → is_within_limits t ≡ b → (IsWithinLimits t → ⊥) → small_body (Some t) ≡ Err code.TooLarge
    by t true e h = absurd (h ((limits_decided t).0 e))
    by t false e h = rw e refl

known_type : (s : Stored) (d : Development) (g : Signature) (t : Tree) (i : ℕ) → IsDeclaredType d (Some g) t → Stands s t i → IsKnown s (IsDeclared d g) OfType i
known_type s d g t i k h = record { node = h.node; sort = ap sort_of h.tree ∙ k.sort; names = subst (EachName (IsDeclared d g)) (sym h.tree) k.names }

module _ (d : Development) (g : Signature) (standing : IsDevelopment (g ∷ d)) (s : Stored) (r : Ref) where
  ref_from : (o : Sort) → IsDeclared d g o r → IsRefFrom (g ∷ d) g.name r
  ref_from o h = subst (λ z. IsRefBy (g ∷ d) z r) (sym (itself g d)) (later_ref g d g standing.0 r (declared_ref d g o r h))

  kind_same : (o : Sort) → IsDeclared d g o r → kind_from (g ∷ d) g.name r ≡ kind_of d g r
  kind_same o h = ap (λ z. kind_by (g ∷ d) z r) (itself g d) ∙ same_kind g d g standing.0 r (declared_ref d g o r h)

  type_same : IsDeclared d g OfTerm r → (lookups_of d g).type_of r ≡ constant_type (kind_from (g ∷ d) g.name r)
  type_same h = ap constant_type (finds_kinds d g r (declared_ref d g OfTerm r h) ∙ sym (kind_same OfTerm h))

  body_same : IsDeclared d g OfType r → (lookups_of d g).body_of r ≡ definition (kind_from (g ∷ d) g.name r)
  body_same h = ap type_body (finds_kinds d g r (declared_ref d g OfType r h)) ∙ definition_of_type (kind_of d g r) (declared_kind d g OfType r h) ∙ ap definition (sym (kind_same OfType h))

  type_declared : (t : Tree) → IsDeclared d g OfTerm r → constant_type (kind_of d g r) ≡ Some t → IsDeclaredType d (Some g) t
  type_declared t h q = by (kind_of d g r) refl q
    where
      by : (k : Option Kind) → kind_of d g r ≡ k → constant_type k ≡ Some t → IsDeclaredType d (Some g) t
      by None e q = cc
      by (Some k) e q = kind_type d g k t (kind_over d g r k standing.2 standing.1 (declared_ref d g OfTerm r h) e) q

  body_declared : (t : Tree) → IsDeclared d g OfType r → type_body (kind_of d g r) ≡ Some t → IsDeclaredType d (Some g) t
  body_declared t h q = by (kind_of d g r) refl q
    where
      by : (k : Option Kind) → kind_of d g r ≡ k → type_body k ≡ Some t → IsDeclaredType d (Some g) t
      by None e q = cc
      by (Some k) e q = kind_body d g k t (kind_over d g r k standing.2 standing.1 (declared_ref d g OfType r h) e) q

  type_is_known : IsDeclared d g OfTerm r → (z : Option Tree) (i : ℕ) → constant_type (kind_from (g ∷ d) g.name r) ≡ z → GivesTree s z i → IsKnown s (IsDeclared d g) OfType i
  type_is_known h None i e k = absurd k
  type_is_known h (Some t) i e k = known_type s d g t i (type_declared t h (ap constant_type (sym (kind_same OfTerm h)) ∙ e)) k

  body_is_known : IsDeclared d g OfType r → (z : Option Tree) (o : Option ℕ) → definition (kind_from (g ∷ d) g.name r) ≡ z → GivesOption s z o → IsOptionKnown s (IsDeclared d g) o
  body_is_known h z None e k = tt
  body_is_known h None (Some i) e k = absurd k
  body_is_known h (Some t) (Some i) e k =
      known_type s d g t i (body_declared t h (definition_of_type (kind_of d g r) (declared_kind d g OfType r h) ∙ ap definition (sym (kind_same OfType h)) ∙ e)) k

  reads_latest : Reads (g ∷ d) g.name s r
  reads_latest = record {
    is_ref = ref_from;
    constant = λ h. subst (HasSort OfTerm) (sym (kind_same OfTerm h)) (declared_kind d g OfTerm r h);
    type_is = λ h i k. given_type s (lookups_of d g).type_of r (constant_type (kind_from (g ∷ d) g.name r)) i (type_same h) k;
    type_known = λ h i k. type_is_known h (constant_type (kind_from (g ∷ d) g.name r)) i refl k;
    type_large = λ h k. subst IsTooLarge (sym (type_same h)) (large_type (constant_type (kind_from (g ∷ d) g.name r)) k);
    body_is = λ h o k. ap small_body (body_same h) ∙ given_body s (definition (kind_from (g ∷ d) g.name r)) o k;
    body_known = λ h o k. body_is_known h (definition (kind_from (g ∷ d) g.name r)) o refl k;
    body_large = λ h k. ap small_body (body_same h) ∙ large_body (definition (kind_from (g ∷ d) g.name r)) k;
    is_type = λ h. ap is_type_kind (finds_kinds d g r (declared_ref d g OfType r h)) ∙ type_kind (kind_of d g r) (declared_kind d g OfType r h);
    is_nonempty = λ h. ap is_nonempty_kind (finds_kinds d g r (declared_ref d g OfType r h) ∙ sym (kind_same OfType h));
  }

-- of the theories that stand
pub reads_at : (v : InstancesView) (n : ℕ) (s : Stored) (r : Ref) → IsLatest v n → IsDevelopment (development v) → Reads (development v) (text_at v.store n) s r
reads_at v n s r h standing =
    let over : IsDevelopment (h.signature ∷ h.others) = subst IsDevelopment h.reads standing in
    subst (λ d. Reads d (text_at v.store n) s r) (sym h.reads) (subst (λ t. Reads (h.signature ∷ h.others) t s r) (sym h.name) (reads_latest h.others h.signature over s r))
