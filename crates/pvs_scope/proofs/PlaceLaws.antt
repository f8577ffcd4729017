-- The index of a place in later stores, and over other theories.
use Rattle.std.proofs.Common.{◌≡◌, inl, inr, ℕ, zero, suc, Bool, true, false, Option, Some, None, List, [], ◌∷◌, ◌++◌, length, refl, ap, ap₂, sym, subst, ◌∙◌, arith}
use Rattle.std.specs.Prelude.{if◌then◌else◌}
use Rattle.pvs_terms.specs.Tree.{Ref, Own, Formal, Inst}
use Rattle.pvs_terms.specs.Stored.{Stored, Extends, ref_at}
use Rattle.pvs_terms.proofs.StoredLaws.{extends_trans}
use Rattle.pvs_sig.specs.Signature.{Signature, Import}
use Rattle.pvs_sig.specs.Development.{Development, In, kind_of, formals_seen, theory_named}
use Rattle.pvs_sig.specs.Scope.{scope, whole_scope, imported_refs, is_among, without_repeats, formals_below, entries_below}
use Rattle.pvs_names.specs.Members.{member_of, members, find}
use Rattle.pvs_names.specs.Resolve.{visible_members}
use Rattle.pvs_names.specs.code.Index.{Indexes, IsDistinct}
use Rattle.pvs_names.proofs.GrowthLaws.{entries_at_end, scope_is as at_end}
use Rattle.pvs_scope.specs.declared.place.PlaceNames.{PlaceNames}
use Rattle.pvs_scope.specs.code.Tables.{name_of, type_of}
use Rattle.pvs_scope.specs.NamesAt.{NamesAt, IsVariableOf, IsUnread}

-- what is the index of a place is so in later stores
pub names_extend : {s t : Stored} {n : PlaceNames} {d : Development} {g : Signature} → Extends s t → NamesAt s n d g → NamesAt t n d g
names_extend x h = record {
  base = h.base;
  extends = extends_trans h.extends x;
  distinct = h.distinct;
  formals = h.formals;
  entries = h.entries;
  places = h.places;
  known = h.known;
  unknown = h.unknown;
  visible = h.visible;
  variables = h.variables;
  own = h.own;
}

-- formals and own entries, which are the same whichever theories stand
abbrev IsLocal : Ref → Type 0
IsLocal (Own k) = Unit {0}
IsLocal (Formal k) = Unit {0}
IsLocal (Inst th k xs) = ⊥

abbrev AreLocal : List Ref → Type 0
AreLocal [] = Unit {0}
AreLocal (r ∷ rs) = IsLocal r × AreLocal rs

local_append : (rs ss : List Ref) → AreLocal rs → AreLocal ss → AreLocal (rs ++ ss)
local_append [] ss h k = k
local_append (r ∷ rs) ss h k = (h.0, local_append rs ss h.1 k)

local_if : (b : Bool) (rs ss : List Ref) → AreLocal rs → AreLocal ss → AreLocal (if b then rs else ss)
local_if true rs ss h k = h
local_if false rs ss h k = k

local_kept : (before rs : List Ref) → AreLocal rs → AreLocal (without_repeats before rs)
local_kept before [] h = tt
local_kept before (x ∷ rs) h = local_if (is_among x before) (without_repeats before rs) (x ∷ without_repeats (x ∷ before) rs) (local_kept before rs h.1) (h.0, local_kept (x ∷ before) rs h.1)

local_in : (rs : List Ref) → AreLocal rs → (r : Ref) → In r rs → IsLocal r
local_in [] h r k = absurd k
local_in (x ∷ rs) h r (inl e) = subst IsLocal (sym e) h.0
local_in (x ∷ rs) h r (inr k) = local_in rs h.1 r k

formals_local : (n : ℕ) → AreLocal (formals_below n)
formals_local zero = tt
formals_local (suc n) = local_append (formals_below n) (Formal n ∷ []) (formals_local n) (tt, tt)

entries_local : (brings : Import → List Ref) (n : ℕ) → AreLocal (entries_below brings [] n)
entries_local brings zero = tt
entries_local brings (suc n) = local_append (entries_below brings [] n) (Own n ∷ []) (entries_local brings n) (tt, tt)

entries_alone : (b c : Import → List Ref) (n : ℕ) → entries_below b [] n ≡ entries_below c [] n
entries_alone b c zero = refl
entries_alone b c (suc n) = ap (λ z. z ++ Own n ∷ []) (entries_alone b c n)

member_alone : (d e : Development) (g : Signature) (r : Ref) → IsLocal r → member_of d g r ≡ member_of e g r
member_alone d e g (Own k) h = refl
member_alone d e g (Formal k) h = refl
member_alone d e g (Inst th k xs) h = absurd h

kind_alone : (d e : Development) (g : Signature) (r : Ref) → IsLocal r → kind_of d g r ≡ kind_of e g r
kind_alone d e g (Own k) h = refl
kind_alone d e g (Formal k) h = refl
kind_alone d e g (Inst th k xs) h = absurd h

members_alone : (d e : Development) (g : Signature) (rs : List Ref) → AreLocal rs → members d g rs ≡ members e g rs
members_alone d e g [] h = refl
members_alone d e g (r ∷ rs) h = ap₂ (λ x y. x ++ y) (member_alone d e g r h.0) (members_alone d e g rs h.1)

abbrev brings : Development → Import → List Ref
brings c x = imported_refs (theory_named c x.theory) x.theory x.actuals (whole_scope c x.theory)

module _ (d e : Development) (g : Signature) (alone : g.imports ≡ []) (i : ℕ) where
  scope_is : (c : Development) → scope c g i ≡ without_repeats [] (formals_below (formals_seen g i) ++ entries_below (brings c) [] i)
  scope_is c = ap (λ xs. without_repeats [] (formals_below (formals_seen g i) ++ entries_below (brings c) xs i)) alone

  scope_alone : scope d g i ≡ scope e g i
  scope_alone = scope_is d ∙ ap (λ z. without_repeats [] (formals_below (formals_seen g i) ++ z)) (entries_alone (brings d) (brings e) i) ∙ sym (scope_is e)

  scope_local : AreLocal (scope e g i)
  scope_local = subst AreLocal (sym (scope_is e)) (local_kept [] (formals_below (formals_seen g i) ++ entries_below (brings e) [] i)
      (local_append (formals_below (formals_seen g i)) (entries_below (brings e) [] i) (formals_local (formals_seen g i)) (entries_local (brings e) i)))

  visible_alone : visible_members d g i ≡ visible_members e g i
  visible_alone = ap (members d g) scope_alone ∙ members_alone d e g (scope e g i) scope_local

  kind_in_scope : (r : Ref) → In r (scope e g i) → kind_of d g r ≡ kind_of e g r
  kind_in_scope r k = kind_alone d e g r (local_in (scope e g i) scope_local r k)

-- without importings, names stand for the same whichever theories stand
pub names_anywhere : {s : Stored} {n : PlaceNames} {d : Development} {g : Signature} (e : Development) → g.imports ≡ [] → NamesAt s n d g → NamesAt s n e g
names_anywhere {s} {n} {d} {g} e alone h =
    let i = length g.entries in
    let same : visible_members d g i ≡ visible_members e g i = visible_alone d e g alone i in record {
      base = h.base;
      extends = h.extends;
      distinct = h.distinct;
      formals = h.formals;
      entries = h.entries;
      places = h.places;
      known = h.known;
      unknown = λ x k is kind. ap (find is kind x) (sym same) ∙ h.unknown x k is kind;
      visible = subst (Indexes h.base n.visible) same h.visible;
      variables = λ t x dis r k q. subst (IsVariableOf t (type_of n.variables r)) (kind_in_scope d e g alone i (ref_at t r) q) (h.variables t x dis r k (subst (In (ref_at t r)) (sym (scope_alone d e g alone i)) q));
      own = h.own;
    }

-- a store that keeps nothing, of which any store is a later one
abbrev no_store : Stored
no_store = record { names = []; nodes = []; refs = [] }

any_extends : (s : Stored) → Extends no_store s
any_extends s = record {
  nodes = λ i h. absurd (omega (arith, h));
  refs = λ i h. absurd (omega (arith, h));
  names = λ i h. absurd (omega (arith, h));
  trees = λ i h. absurd (omega (arith, h));
  references = λ i h. absurd (omega (arith, h));
  texts = λ i h. absurd (omega (arith, h));
}

none_distinct : IsDistinct no_store
none_distinct = record {
  names = λ m n h k e. absurd (omega (arith, h));
  references = λ m n h k e. absurd (omega (arith, h));
}

nothing_indexed : (s : Stored) → Indexes s [] []
nothing_indexed s = λ t x dis k h. record { found = refl; stored = tt }

some_of_none : {A : Type 0} (o : Option A) (a : A) → o ≡ None → o ≡ Some a → ⊥
some_of_none o a e f = cc

-- a theory of which nothing is read sees nothing
module _ (d : Development) (g : Signature) (u : IsUnread g) where
  nothing_seen : scope d g (length g.entries) ≡ []
  nothing_seen =
      at_end d g
      ∙ ap (λ fs. without_repeats [] (formals_below (length fs) ++ entries_at_end d g)) u.formals
      ∙ ap (λ xs. without_repeats [] (entries_below (brings d) xs (length g.entries))) u.imports
      ∙ ap (λ es. without_repeats [] (entries_below (brings d) [] (length es))) u.entries

  no_members : visible_members d g (length g.entries) ≡ []
  no_members = ap (members d g) nothing_seen

  pub names_begin : (s : Stored) (n : PlaceNames) → n.formals ≡ 0 → n.entries ≡ 0 → n.texts ≡ [] → n.visible ≡ [] → n.variables ≡ [] → NamesAt s n d g
  names_begin s n f e texts visible variables = record {
    base = no_store;
    extends = any_extends s;
    distinct = none_distinct;
    formals = f ∙ sym (ap length u.formals);
    entries = e ∙ sym (ap length u.entries);
    places = λ x k. absurd (subst (In x) u.imports k);
    known = λ x k h. absurd (some_of_none (name_of n.texts x) k (ap (λ m. name_of m x) texts) h);
    unknown = λ x h is kind. ap (find is kind x) no_members;
    visible = subst (λ m. Indexes no_store m (visible_members d g (length g.entries))) (sym visible) (subst (Indexes no_store []) (sym no_members) (nothing_indexed no_store));
    variables = λ t x dis r k q. absurd (subst (In (ref_at t r)) nothing_seen q);
    own = λ r t h. absurd (some_of_none (type_of n.variables r) t (ap (λ m. type_of m r) variables) h);
  }
