-- The index with one more entry or formal is that of the theory with it.
use Rattle.std.proofs.Common.{◌≡◌, ◌⊎◌, inl, inr, ℕ, suc, ◌+◌, ◌<◌, ◌≤◌, Bool, true, false, ◌&&◌, cond, eqb, rules, List, [], ◌∷◌, ◌++◌, Option, Some, None, Err, length, refl, ap, sym, subst, ◌∙◌, arith, length-append}
use Rattle.std.proofs.lemmas.Bool.{eqb-true}
use Rattle.std.specs.Prelude.{bytes_eq, option_map, if◌then◌else◌}
use Rattle.pvs_base.specs.declared.code.Code.TheVariants.{Unknown}
use Rattle.pvs_terms.specs.Tree.{Text, Ref, Own, Formal, Inst}
use Rattle.pvs_terms.specs.Stored.{Stored, Extends, StandsRef, IsName, IsRef, text_at, ref_at, tree_at}
use Rattle.pvs_terms.proofs.StoredLaws.{extends_refl, extends_trans}
use Rattle.pvs_sig.specs.declared.signature.EntryKind.{EntryKind}
use Rattle.pvs_sig.specs.declared.signature.EntryKind.TheVariants as numbers
use Rattle.pvs_sig.specs.declared.signature.Entry as numbers_entry
use Rattle.pvs_sig.specs.declared.signature.FormalSig as numbers_formal
use Rattle.pvs_sig.specs.Signature.{Signature, Entry, FormalSig, VarSig, entry_kind, unbound_kind}
use Rattle.pvs_sig.specs.SignatureAt.{option_at, entry_kind_at, entry_at, formal_sig_at, EntryKindIn, EntryIn, FormalIn}
use Rattle.pvs_sig.specs.Development.{Development, In, kind_of}
use Rattle.pvs_sig.specs.Scope.{scope, is_var}
use Rattle.pvs_sig.proofs.ScopeLaws.{in_split}
use Rattle.pvs_instantiate.specs.Grown.{with_formal, with_entry}
use Rattle.pvs_names.specs.declared.kind.NameKind.{NameKind}
use Rattle.pvs_names.specs.declared.key.Key.{Key}
use Rattle.pvs_names.specs.declared.index.Found.{Found}
use Rattle.pvs_names.specs.Members.{Member, name_kind, kind_eq, is_called, find}
use Rattle.pvs_names.specs.Resolve.{visible_members}
use Rattle.pvs_names.specs.Laws.{one_more}
use Rattle.pvs_names.specs.code.Index.{IsDistinct, Indexes, IsMemberOf, is_in}
use Rattle.pvs_names.proofs.MemberLaws.{bytes_true, find_more}
use Rattle.pvs_names.proofs.PlaceLaws.{indexes_extends}
use Rattle.pvs_names.proofs.GrowthLaws.{IsOld, AreOld, get_before, get_last, scope_old, grown_scope, members_grow}
use Rattle.pvs_scope.specs.declared.place.PlaceNames.{PlaceNames}
use Rattle.pvs_scope.specs.NamesAt.{NamesAt, IsVariableOf, IsOwnBelow}
use Rattle.pvs_scope.specs.code.Tables.{name_of, type_of}
use Rattle.pvs_scope.specs.code.Adding.{entry_name_kind, formal_name_kind, variable_type, with_variable, AddsText, AddsEntry, AddsFormal}
use Rattle.pvs_scope.proofs.TableLaws.{bytes_flip}
use Rattle.pvs_scope.proofs.FormalLaws.{below_in, formal_member, kind_kept, new_kind, scope_below, seen, formal_found}

and_false : (a b : Bool) → (a && (b && false)) ≡ false
and_false true true = refl
and_false true false = refl
and_false false b = refl

some_same : {A : Type 0} (a b : A) → Some a ≡ Some b → a ≡ b
some_same a b e = cc

-- each text that has a name is the text of that name
module _ (base t : Stored) (x : Extends base t) (text : Text) (name : ℕ) (name_in : IsName t name) (is : text_at t name ≡ text) (old new : Text → Option ℕ) (a : AddsText text name old new) where
  known_if : (b : Bool) (w : Text) (k : ℕ) → bytes_eq text w ≡ b → ((k : ℕ) → old w ≡ Some k → IsName base k × (text_at base k ≡ w)) → cond b (Some name) (old w) ≡ Some k → IsName t k × (text_at t k ≡ w)
  known_if true w k q h e = subst (λ z. IsName t z × (text_at t z ≡ w)) (some_same name k e) (name_in, is ∙ bytes_true text w q)
  known_if false w k q h e = let o = h k e in (x.names k o.0, x.texts k o.0 ∙ o.1)

  known_more : ((w : Text) (k : ℕ) → old w ≡ Some k → IsName base k × (text_at base k ≡ w)) → (w : Text) (k : ℕ) → new w ≡ Some k → IsName t k × (text_at t k ≡ w)
  known_more h w k e = known_if (bytes_eq text w) w k refl (h w) (sym (a w) ∙ e)

-- no member has a text that has no name
module _ (text : Text) (name : ℕ) (old new : Text → Option ℕ) (a : AddsText text name old new) (ms : List Member) (m : Member) (m_is : m.name ≡ text) where
  not_called : (is : Ref → Bool) (kind : NameKind) (w : Text) → bytes_eq text w ≡ false → is_called is kind w m ≡ false
  not_called is kind w q = ap (λ z. is m.reference && (kind_eq kind m.kind && z)) (ap (bytes_eq w) m_is ∙ bytes_flip w text ∙ q) ∙ and_false (is m.reference) (kind_eq kind m.kind)

  unknown_if : (b : Bool) (w : Text) → bytes_eq text w ≡ b → (is : Ref → Bool) (kind : NameKind) → (old w ≡ None → find is kind w ms ≡ Err Unknown) → cond b (Some name) (old w) ≡ None → find is kind w (ms ++ m ∷ []) ≡ Err Unknown
  unknown_if true w q is kind h e = absurd (cc)
  unknown_if false w q is kind h e =
      find_more is kind w ms m
      ∙ ap (λ z. if z then one_more (find is kind w ms) m.reference else find is kind w ms) (not_called is kind w q)
      ∙ h e

  unknown_more : ((w : Text) → old w ≡ None → (is : Ref → Bool) (kind : NameKind) → find is kind w ms ≡ Err Unknown) → (w : Text) → new w ≡ None → (is : Ref → Bool) (kind : NameKind) → find is kind w (ms ++ m ∷ []) ≡ Err Unknown
  unknown_more h w e is kind = unknown_if (bytes_eq text w) w refl is kind (λ o. h w o is kind) (sym (a w) ∙ e)

indexes_same : {s : Stored} {m : List (Key × Found)} (ms ns : List Member) → ((is : Ref → Bool) (kind : NameKind) (w : Text) → find is kind w ns ≡ find is kind w ms) → Indexes s m ms → Indexes s m ns
indexes_same ms ns same ix = λ u y du k h.
    let f = ix u y du k h in record {
      found = f.found ∙ sym (same (is_in u k.section) k.kind (text_at u k.name));
      stored = f.stored;
    }

-- kinds of names, by number
entry_named : (s : Stored) (k : EntryKind) → name_kind (entry_kind_at s k) ≡ entry_name_kind k
entry_named s (numbers.TypeSig b body) = refl
entry_named s (numbers.ConstSig t body) = refl
entry_named s (numbers.VarSig t) = refl
entry_named s (numbers.FormulaSig c t o) = refl

formal_named : (s : Stored) (b : Bool) (o : Option ℕ) → name_kind (unbound_kind b (option_at s o)) ≡ formal_name_kind o
formal_named s b None = refl
formal_named s b (Some t) = refl

no_formal_variable : (s : Stored) (b : Bool) (o : Option ℕ) → is_var (Some (unbound_kind b (option_at s o))) ≡ false
no_formal_variable s b None = refl
no_formal_variable s b (Some t) = refl

old_in : (n : ℕ) (rs : List Ref) → AreOld n rs → (r : Ref) → In r rs → IsOld n r
old_in n [] h r k = absurd k
old_in n (x ∷ rs) h r (inl e) = subst (IsOld n) (sym e) h.0
old_in n (x ∷ rs) h r (inr k) = old_in n rs h.1 r k

own_more : (m n : ℕ) (r : Ref) → m ≤ n → IsOwnBelow m r → IsOwnBelow n r
own_more m n (Own k) l h = omega (arith, l, h)
own_more m n (Formal k) l h = absurd h
own_more m n (Inst th k xs) l h = absurd h

none_from : {A : Type 0} (o : Option A) → ((a : A) → o ≡ Some a → ⊥) → o ≡ None
none_from None f = refl
none_from (Some a) f = absurd (f a refl)

eqb_same : (n : ℕ) → eqb n n ≡ true
eqb_same n = search rules

eqb_other : (m n : ℕ) → (m ≡ n → ⊥) → eqb m n ≡ false
eqb_other m n f = go (eqb m n) refl where
  go : (b : Bool) → eqb m n ≡ b → b ≡ false
  go true e = absurd (f (eqb-true m n e))
  go false e = refl

other_variable : (o : Option ℕ) (r q : ℕ) (f : ℕ → Option ℕ) → (r ≡ q → ⊥) → with_variable o r f q ≡ f q
other_variable None r q f h = refl
other_variable (Some t) r q f h = ap (λ b. cond b (Some t) (f q)) (eqb_other r q h)

variable_if : (b : Bool) (r q t v : ℕ) (o : Option ℕ) → eqb r q ≡ b → cond b (Some t) o ≡ Some v → (r ≡ q) ⊎ (o ≡ Some v)
variable_if true r q t v o e h = inl (eqb-true r q e)
variable_if false r q t v o e h = inr h

which_variable : (o : Option ℕ) (r q v : ℕ) (f : ℕ → Option ℕ) → with_variable o r f q ≡ Some v → (r ≡ q) ⊎ (f q ≡ Some v)
which_variable None r q v f h = inr h
which_variable (Some t) r q v f h = variable_if (eqb r q) r q t v (f q) refl h

-- a new entry is a VAR of its type, or no VAR
new_variable : (s u : Stored) → Extends s u → (k : EntryKind) → EntryKindIn s k → (r : ℕ) (f : ℕ → Option ℕ) → f r ≡ None → IsVariableOf u (with_variable (variable_type k) r f r) (Some (entry_kind_at s k))
new_variable s u x (numbers.TypeSig b body) h r f e = subst (λ o. IsVariableOf u o (Some (entry_kind_at s (numbers.TypeSig b body)))) (sym e) refl
new_variable s u x (numbers.ConstSig t body) h r f e = subst (λ o. IsVariableOf u o (Some (entry_kind_at s (numbers.ConstSig t body)))) (sym e) refl
new_variable s u x (numbers.VarSig t) h r f e = subst (λ b. IsVariableOf u (cond b (Some t) (f r)) (Some (VarSig (tree_at s t)))) (sym (eqb_same r)) (x.nodes t h, ap (λ z. Some (VarSig z)) (sym (x.trees t h)))
new_variable s u x (numbers.FormulaSig c t o) h r f e = subst (λ z. IsVariableOf u z (Some (entry_kind_at s (numbers.FormulaSig c t o)))) (sym e) refl

old_kind : (d : Development) (g : Signature) (e : Entry) (r : Ref) → IsOld (length g.entries) r → kind_of d (with_entry e g) r ≡ kind_of d g r
old_kind d g e (Own k) l = ap (option_map entry_kind) (get_before g.entries e k l)
old_kind d g e (Formal k) l = refl
old_kind d g e (Inst th k xs) l = refl

module _ (s t : Stored) (old new : PlaceNames) (d : Development) (g : Signature) (x : Extends s t) (dis : IsDistinct t) (h : NamesAt s old d g) where
  after : Extends h.base t
  after = extends_trans h.extends x

  abbrev n : ℕ
  n = length g.entries

  abbrev ms : List Member
  ms = visible_members d g n

  -- where the references of VARs are
  old_own : (q v : ℕ) → type_of old.variables q ≡ Some v → IsRef t q × IsOwnBelow n (ref_at t q)
  old_own q v e = let o = h.own q v e in (after.refs q o.0, subst (IsOwnBelow n) (sym (after.references q o.0)) o.1)

  old_own_later : (u : Stored) → Extends t u → (q v : ℕ) → type_of old.variables q ≡ Some v → IsOwnBelow n (ref_at u q)
  old_own_later u y q v e = let o = old_own q v e in subst (IsOwnBelow n) (sym (y.references q o.0)) o.1

  module _ (e : numbers_entry.Entry) (entry_in : EntryIn s e) (r : ℕ) (ref : StandsRef t (Own old.entries) r) (adds : AddsEntry (text_at t e.name) e.name e.kind r old new) where
    abbrev entry : Entry
    entry = entry_at s e

    abbrev grown : Signature
    grown = with_entry entry g

    abbrev member : Member
    member = record { name = entry.name; kind = name_kind entry.kind; reference = Own n }

    longer : length (g.entries ++ entry ∷ []) ≡ suc n
    longer = let l : length (g.entries ++ entry ∷ []) ≡ n + 1 = length-append g.entries (entry ∷ []) in omega (arith, l)

    reference_is : ref_at t r ≡ Own n
    reference_is = ref.is ∙ ap Own h.entries

    later_is : (u : Stored) → Extends t u → ref_at u r ≡ Own n
    later_is u y = y.references r ref.ref ∙ reference_is

    members_are : visible_members d grown (length grown.entries) ≡ ms ++ member ∷ []
    members_are = ap (visible_members d grown) longer ∙ members_grow d g entry h.places

    scope_is : scope d grown (length grown.entries) ≡ scope d g n ++ Own n ∷ []
    scope_is = ap (scope d grown) longer ∙ grown_scope d g entry h.places

    is_member : IsMemberOf t (entry_name_kind e.kind) e.name r member
    is_member = record {
      name_in = x.names e.name entry_in.0;
      name_is = sym (x.texts e.name entry_in.0);
      kind_is = entry_named s e.kind;
      reference_in = ref.ref;
      reference_is = sym reference_is;
    }

    -- the new entry was no VAR
    unset : type_of old.variables r ≡ None
    unset = none_from (type_of old.variables r) (λ v k. let o : n < n = subst (IsOwnBelow n) reference_is (old_own r v k).1 in omega (arith, o))

    not_old : (u : Stored) → Extends t u → (q : ℕ) → IsOld n (ref_at u q) → r ≡ q → ⊥
    not_old u y q l k = let o : n < n = subst (IsOld n) (ap (ref_at u) (sym k) ∙ later_is u y) l in omega (arith, o)

    old_variable : (u : Stored) → Extends t u → IsDistinct u → (q : ℕ) → IsRef u q → In (ref_at u q) (scope d g n) → IsVariableOf u (type_of new.variables q) (kind_of d grown (ref_at u q))
    old_variable u y du q i k =
        let l = old_in n (scope d g n) (scope_old d g) (ref_at u q) k in
        subst (λ o. IsVariableOf u o (kind_of d grown (ref_at u q))) (sym (adds.variables q ∙ other_variable (variable_type e.kind) r q (type_of old.variables) (not_old u y q l)))
        (subst (IsVariableOf u (type_of old.variables q)) (sym (old_kind d g entry (ref_at u q) l)) (h.variables u (extends_trans after y) du q i k))

    grown_kind : kind_of d grown (Own n) ≡ Some (entry_kind_at s e.kind)
    grown_kind = ap (option_map entry_kind) (get_last g.entries entry)

    last_variable : (u : Stored) → Extends t u → IsVariableOf u (type_of new.variables r) (kind_of d grown (ref_at u r))
    last_variable u y =
        subst (λ z. IsVariableOf u (type_of new.variables r) (kind_of d grown z)) (sym (later_is u y))
        (subst (IsVariableOf u (type_of new.variables r)) (sym grown_kind)
        (subst (λ o. IsVariableOf u o (Some (entry_kind_at s e.kind))) (sym (adds.variables r)) (new_variable s u (extends_trans x y) e.kind entry_in.1 r (type_of old.variables) unset)))

    variables_known : (u : Stored) → Extends t u → IsDistinct u → (q : ℕ) → IsRef u q → In (ref_at u q) (scope d grown (length grown.entries)) → IsVariableOf u (type_of new.variables q) (kind_of d grown (ref_at u q))
    variables_known u y du q i k = elim (in_split (ref_at u q) (scope d g n) (Own n ∷ []) (subst (In (ref_at u q)) scope_is k)) [
      | inl a ↦ old_variable u y du q i a
      | inr b ↦ elim b [
        | inl c ↦ subst (λ z. IsVariableOf u (type_of new.variables z) (kind_of d grown (ref_at u z))) (du.references r q (y.refs r ref.ref) i (later_is u y ∙ sym c)) (last_variable u y)
        | inr z ↦ absurd z
      ]
    ]

    variables_own : (q v : ℕ) → type_of new.variables q ≡ Some v → IsRef t q × IsOwnBelow (length grown.entries) (ref_at t q)
    variables_own q v k = elim (which_variable (variable_type e.kind) r q v (type_of old.variables) (sym (adds.variables q) ∙ k)) [
      | inl a ↦ subst (λ z. IsRef t z × IsOwnBelow (length grown.entries) (ref_at t z)) a (ref.ref, subst (IsOwnBelow (length grown.entries)) (sym reference_is) (omega (arith, longer)))
      | inr b ↦ (let o = old_own q v b in (o.0, own_more n (length grown.entries) (ref_at t q) (omega (arith, longer)) o.1))
    ]

    pub entry_added : NamesAt t new d grown
    entry_added = record {
      base = t;
      extends = extends_refl t;
      distinct = dis;
      formals = adds.formals ∙ h.formals;
      entries = adds.entries ∙ ap suc h.entries ∙ sym longer;
      places = λ y k. let l = h.places y k in omega (arith, l, longer);
      known = known_more h.base t after (text_at t e.name) e.name (x.names e.name entry_in.0) refl (name_of old.texts) (name_of new.texts) adds.texts h.known;
      unknown = λ w k is kind. ap (find is kind w) members_are ∙ unknown_more (text_at t e.name) e.name (name_of old.texts) (name_of new.texts) adds.texts ms member (sym (x.texts e.name entry_in.0)) h.unknown w k is kind;
      visible = subst (Indexes t new.visible) (sym members_are) (adds.visible t ms member is_member tt (indexes_extends after h.visible));
      variables = variables_known;
      own = variables_own;
    }

  module _ (f : numbers_formal.FormalSig) (formal_in : FormalIn s f) (r : ℕ) (ref : StandsRef t (Formal old.formals) r) (adds : AddsFormal (text_at t f.name) f.name (formal_name_kind f.ty) r old new) where
    abbrev formal : FormalSig
    formal = formal_sig_at s f

    abbrev grown_by : Signature
    grown_by = with_formal formal g

    abbrev place : ℕ
    place = length g.formals

    more : length (g.formals ++ formal ∷ []) ≡ suc place
    more = let l : length (g.formals ++ formal ∷ []) ≡ place + 1 = length-append g.formals (formal ∷ []) in omega (arith, l)

    formal_is : ref_at t r ≡ Formal place
    formal_is = ref.is ∙ ap Formal h.formals

    is_formal : IsMemberOf t (formal_name_kind f.ty) f.name r (formal_member d g formal)
    is_formal = record {
      name_in = x.names f.name formal_in.0;
      name_is = sym (x.texts f.name formal_in.0);
      kind_is = formal_named s f.nonempty f.ty;
      reference_in = ref.ref;
      reference_is = sym formal_is;
    }

    formal_unset : (u : Stored) → Extends t u → (q : ℕ) → ref_at u q ≡ Formal place → type_of old.variables q ≡ None
    formal_unset u y q e = none_from (type_of old.variables q) (λ v k. subst (IsOwnBelow n) e (old_own_later u y q v k))

    formal_variables : (u : Stored) → Extends t u → IsDistinct u → (q : ℕ) → IsRef u q → In (ref_at u q) (scope d grown_by n) → IsVariableOf u (type_of old.variables q) (kind_of d grown_by (ref_at u q))
    formal_variables u y du q i k = elim (seen d g formal (ref_at u q) k) [
      | inl a ↦ subst (IsVariableOf u (type_of old.variables q)) (sym (kind_kept d g formal (ref_at u q) (below_in place (scope d g n) (scope_below d g formal) (ref_at u q) a))) (h.variables u (extends_trans after y) du q i a)
      | inr b ↦ subst (λ o. IsVariableOf u o (kind_of d grown_by (ref_at u q))) (sym (formal_unset u y q b))
          (ap is_var (ap (kind_of d grown_by) b ∙ new_kind d g formal) ∙ no_formal_variable s f.nonempty f.ty)
    ]

    pub formal_added : NamesAt t new d grown_by
    formal_added = record {
      base = t;
      extends = extends_refl t;
      distinct = dis;
      formals = adds.formals ∙ ap suc h.formals ∙ sym more;
      entries = adds.entries ∙ h.entries;
      places = h.places;
      known = known_more h.base t after (text_at t f.name) f.name (x.names f.name formal_in.0) refl (name_of old.texts) (name_of new.texts) adds.texts h.known;
      unknown = λ w k is kind. formal_found d g formal is kind w ∙ unknown_more (text_at t f.name) f.name (name_of old.texts) (name_of new.texts) adds.texts ms (formal_member d g formal) (sym (x.texts f.name formal_in.0)) h.unknown w k is kind;
      visible = indexes_same (ms ++ formal_member d g formal ∷ []) (visible_members d grown_by n) (formal_found d g formal) (adds.visible t ms (formal_member d g formal) is_formal tt (indexes_extends after h.visible));
      variables = λ u y du q i k. subst (λ z. IsVariableOf u (type_of z q) (kind_of d grown_by (ref_at u q))) (sym adds.variables) (formal_variables u y du q i k);
      own = λ q v k. old_own q v (subst (λ z. type_of z q ≡ Some v) adds.variables k);
    }
