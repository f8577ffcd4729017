-- What importings bring is, of each visible instance, each entry of its theory that is no VAR.
use Rattle.std.proofs.Common.{◌≡◌, ◌⊎◌, inl, inr, ℕ, ◌<◌, ◌≤◌, ltb, Bool, true, false, ◌||◌, cond, Option, Some, None, List, [], ◌∷◌, ◌++◌, length, refl, ap, ap₂, ◌∙◌, sym, subst, arith}
use Rattle.std.specs.Prelude.{bytes_eq, IsSome}
use Rattle.std.proofs.lemmas.Bool.{ltb-true, lt-ltb}
use Rattle.std.proofs.lemmas.Slice.Eq.{bytes_eq-Decides}
use Rattle.pvs_terms.specs.Tree.{Text, Ref, Own, Formal, Inst, Trees, trees_eq}
use Rattle.pvs_terms.proofs.TreeLaws.{both, trees_eq-true}
use Rattle.pvs_subst.specs.Instance.{instantiate_all}
use Rattle.pvs_sig.specs.Signature.{Signature, Import}
use Rattle.pvs_sig.specs.Development.{Development, theory_named, In, IsSignatureOver, IsDevelopment}
use Rattle.pvs_sig.specs.Scope.{ref_instance, is_exported, whole_scope, scope, IsVisible, of_formal, of_own, of_import}
use Rattle.pvs_sig.specs.Instances.{is_instance_of, lists_instance, first_instances, instances_by, instances_up_to, all_instances, instances, Lists, Exports}
use Rattle.pvs_sig.specs.Laws.{ByInstances}
use Rattle.pvs_sig.proofs.ScopeLaws.{in_scope, to_scope}
use Rattle.pvs_sig.proofs.DevelopmentLaws.{theory_stands}
use Rattle.pvs_sig.proofs.DeclaredLaws as declared

lists_left : (th : Text) (xs : Trees) (cs bs : List Import) → Lists th xs cs → Lists th xs (cs ++ bs)
lists_left th xs [] bs h = absurd h
lists_left th xs (a ∷ cs) bs (inl e) = inl e
lists_left th xs (a ∷ cs) bs (inr h) = inr (lists_left th xs cs bs h)

lists_right : (th : Text) (xs : Trees) (cs bs : List Import) → Lists th xs bs → Lists th xs (cs ++ bs)
lists_right th xs [] bs h = h
lists_right th xs (a ∷ cs) bs h = inr (lists_right th xs cs bs h)

lists_split : (th : Text) (xs : Trees) (cs bs : List Import) → Lists th xs (cs ++ bs) → Lists th xs cs ⊎ Lists th xs bs
lists_split th xs [] bs h = inr h
lists_split th xs (a ∷ cs) bs (inl e) = inl (inl e)
lists_split th xs (a ∷ cs) bs (inr h) = elim (lists_split th xs cs bs h) [ inl k ↦ inl (inr k) | inr k ↦ inr k ]

firsts_list : (th : Text) (xs : Trees) (before cs : List Import) → Lists th xs (first_instances before cs) → Lists th xs cs
firsts_list th xs before [] h = h
firsts_list th xs before (a ∷ cs) h = go (firsts_list th xs before cs) (firsts_list th xs (a ∷ before) cs) (lists_instance a.theory a.actuals before) h
  where
    go : (Lists th xs (first_instances before cs) → Lists th xs cs) → (Lists th xs (first_instances (a ∷ before) cs) → Lists th xs cs) → (b : Bool) → Lists th xs (cond b (first_instances before cs) (a ∷ first_instances (a ∷ before) cs)) → Lists th xs (a ∷ cs)
    go f g true k = inr (f k)
    go f g false (inl e) = inl e
    go f g false (inr k) = inr (g k)

false_true : false ≡ true → ⊥
false_true h = cc

pub list_firsts : (th : Text) (xs : Trees) (before cs : List Import) → Lists th xs cs → lists_instance th xs before ≡ false → Lists th xs (first_instances before cs)
list_firsts th xs before [] h n = h
list_firsts th xs before (a ∷ cs) h n = go (λ k. list_firsts th xs before cs k n) (λ e k. list_firsts th xs (a ∷ before) cs k (ap (λ b. b || lists_instance th xs before) e ∙ n)) (lists_instance a.theory a.actuals before) refl h
  where
    later : (is_instance_of th xs a ≡ false → Lists th xs cs → Lists th xs (first_instances (a ∷ before) cs)) → (b : Bool) → is_instance_of th xs a ≡ b → Lists th xs cs → Lists th xs (a ∷ first_instances (a ∷ before) cs)
    later g true e k = let p = both (bytes_eq th a.theory) (trees_eq xs a.actuals) e in inl ((bytes_eq-Decides th a.theory).0 p.0, trees_eq-true xs a.actuals p.1)
    later g false e k = inr (g e k)

    go : (Lists th xs cs → Lists th xs (first_instances before cs)) → (is_instance_of th xs a ≡ false → Lists th xs cs → Lists th xs (first_instances (a ∷ before) cs)) → (b : Bool) → lists_instance a.theory a.actuals before ≡ b → Lists th xs (a ∷ cs) → Lists th xs (cond b (first_instances before cs) (a ∷ first_instances (a ∷ before) cs))
    go f g true e (inl k) = absurd (false_true (sym n ∙ ap₂ (λ y z. lists_instance y z before) k.0 k.1 ∙ e))
    go f g true e (inr k) = f k
    go f g false e (inl k) = inl k
    go f g false e (inr k) = later g (is_instance_of th xs a) refl k

pub by_list : (th : Text) (xs : Trees) (x : Import) (ys : List Import) → Lists th xs (instances_by x ys) → (zs : Trees) × Lists th zs ys × (xs ≡ instantiate_all zs x.theory x.actuals)
by_list th xs x [] h = absurd h
by_list th xs x (y ∷ ys) (inl e) = (y.actuals, inl (e.0, refl), e.1)
by_list th xs x (y ∷ ys) (inr h) = let p = by_list th xs x ys h in (p.0, inr p.1, p.2)

pub list_by : (th : Text) (zs : Trees) (x : Import) (ys : List Import) → Lists th zs ys → Lists th (instantiate_all zs x.theory x.actuals) (instances_by x ys)
list_by th zs x [] h = absurd h
list_by th zs x (y ∷ ys) (inl e) = inl (e.0, ap (λ z. instantiate_all z x.theory x.actuals) e.1)
list_by th zs x (y ∷ ys) (inr h) = inr (list_by th zs x ys h)

-- some importing up to place i brings it
pub record Brings (whole_scope : Text → List Import) (imports : List Import) (i : ℕ) (th : Text) (xs : Trees) : Type 0 where
  pub import : Import
  pub listed : In import imports
  pub earlier : import.place ≤ i
  pub lists : Lists th xs (import ∷ instances_by import (whole_scope import.theory))

up_to_brings : (whole_scope : Text → List Import) (imports : List Import) (i : ℕ) (th : Text) (xs : Trees) → Lists th xs (instances_up_to whole_scope imports i) → Brings whole_scope imports i th xs
up_to_brings whole_scope [] i th xs h = absurd h
up_to_brings whole_scope (x ∷ rest) i th xs h = go (λ k. let r = up_to_brings whole_scope rest i th xs k in record { import = r.import; listed = inr r.listed; earlier = r.earlier; lists = r.lists }) (ltb i x.place) refl h
  where
    stays : ltb i x.place ≡ false → x.place ≤ i
    stays e = omega (arith, λ (l : i < x.place). false_true (sym e ∙ lt-ltb i x.place l))

    go : (Lists th xs (instances_up_to whole_scope rest i) → Brings whole_scope (x ∷ rest) i th xs) → (b : Bool) → ltb i x.place ≡ b → Lists th xs (cond b [] (x ∷ instances_by x (whole_scope x.theory)) ++ instances_up_to whole_scope rest i) → Brings whole_scope (x ∷ rest) i th xs
    go f true e k = f k
    go f false e k = elim (lists_split th xs (x ∷ instances_by x (whole_scope x.theory)) (instances_up_to whole_scope rest i) k) [
      | inl a ↦ record { import = x; listed = inl refl; earlier = stays e; lists = a }
      | inr b ↦ f b
    ]

pub brings_up_to : (whole_scope : Text → List Import) (imports : List Import) (i : ℕ) (th : Text) (xs : Trees) (x : Import) → In x imports → x.place ≤ i → Lists th xs (x ∷ instances_by x (whole_scope x.theory)) → Lists th xs (instances_up_to whole_scope imports i)
brings_up_to whole_scope [] i th xs x h l k = absurd h
brings_up_to whole_scope (y ∷ rest) i th xs x (inl e) l k = lists_left th xs _ (instances_up_to whole_scope rest i) (go (ltb i y.place) refl)
  where
    go : (b : Bool) → ltb i y.place ≡ b → Lists th xs (cond b [] (y ∷ instances_by y (whole_scope y.theory)))
    go true q = let far = ltb-true i y.place q in absurd (omega (arith, far, l, ap (λ z. z.place) e))
    go false q = subst (λ z. Lists th xs (z ∷ instances_by z (whole_scope z.theory))) e k
brings_up_to whole_scope (y ∷ rest) i th xs x (inr h) l k = lists_right th xs _ (instances_up_to whole_scope rest i) (brings_up_to whole_scope rest i th xs x h l k)

later_exports : (s : Signature) (d : Development) (th : Text) (n : ℕ) → theory_named d s.name ≡ None → Exports (theory_named d th) n → Exports (theory_named (s ∷ d) th) n
later_exports s d th n new h = subst (λ z. Exports z n) (sym (declared.same_look_up s d th new (stands (theory_named d th) h))) h
  where
    stands : (z : Option Signature) → Exports z n → IsSome z
    stands None h = absurd h
    stands (Some b) h = refl

pub named : (z : Option Signature) → IsSome z → (b : Signature) × (z ≡ Some b)
named None h = cc
named (Some b) h = (b, refl)

abbrev pub AllList : Development → Type 0
AllList d = (B th : Text) (n : ℕ) (ys : Trees) → In (Inst th n ys) (whole_scope d B) → Lists th ys (all_instances d B) × Exports (theory_named d th) n

module _ (d : Development) (s : Signature) (i : ℕ) (standing : IsDevelopment d) (good : IsSignatureOver d s) where
  pub own_exports : (b : Signature) (th : Text) (n : ℕ) → theory_named d th ≡ Some b → In (Own n) (whole_scope d th) → is_exported (theory_named d th) (Own n) ≡ true → Exports (theory_named d th) n
  own_exports b th n e h v = subst (λ z. Exports z n) (sym e) (below (in_scope d b (length b.entries) (Own n) (subst (In (Own n)) (theory_stands d standing th b e).at_end h)), ap (λ z. is_exported z (Own n)) (sym e) ∙ v)
    where
      below : IsVisible d b (length b.entries) (Own n) → n < length b.entries
      below (of_formal k l q) = cc
      below (of_own k l q) = let same : n ≡ k = cc in subst (λ z. z < length b.entries) (sym same) l
      below (of_import x r k l p q (w)) = absurd (other r w)
        where
          other : (r : Ref) → Own n ≡ ref_instance r x.theory x.actuals → ⊥
          other (Own j) e = cc
          other (Formal j) e = cc
          other (Inst c j ys) e = cc

  scope_lists : AllList d → (th : Text) (n : ℕ) (xs : Trees) → In (Inst th n xs) (scope d s i) → Lists th xs (instances d s i) × Exports (theory_named d th) n
  scope_lists all th n xs h = from (in_scope d s i (Inst th n xs) h)
    where
      listed : (x : Import) → In x s.imports → x.place ≤ i → Lists th xs (x ∷ instances_by x (all_instances d x.theory)) → Lists th xs (instances d s i)
      listed x a l k = list_firsts th xs [] (instances_up_to (all_instances d) s.imports i) (brings_up_to (all_instances d) s.imports i th xs x a l k) refl

      by : (x : Import) (r : Ref) → In x s.imports → x.place ≤ i → In r (whole_scope d x.theory) → is_exported (theory_named d x.theory) r ≡ true → Inst th n xs ≡ ref_instance r x.theory x.actuals → Lists th xs (instances d s i) × Exports (theory_named d th) n
      by x (Own j) a l k v e =
          let th_is : th ≡ x.theory = cc in
          let n_is : n ≡ j = cc in
          let xs_is : xs ≡ x.actuals = cc in
          let b = named (theory_named d x.theory) (good.imports x a).0 in
          let has = own_exports b.0 x.theory j b.1 k v in
          (listed x a l (inl (th_is, xs_is)), subst (λ z. Exports (theory_named d z) n) (sym th_is) (subst (λ z. Exports (theory_named d x.theory) z) (sym n_is) has))
      by x (Formal j) a l k v e = cc
      by x (Inst c j ys) a l k v e =
          let th_is : th ≡ c = cc in
          let n_is : n ≡ j = cc in
          let xs_is : xs ≡ instantiate_all ys x.theory x.actuals = cc in
          let r = all x.theory c j ys k in (
            listed x a l (inr (subst (λ z. Lists z xs (instances_by x (all_instances d x.theory))) (sym th_is) (subst (λ z. Lists c z (instances_by x (all_instances d x.theory))) (sym xs_is) (list_by c ys x (all_instances d x.theory) r.0)))),
            subst (λ z. Exports (theory_named d z) n) (sym th_is) (subst (λ z. Exports (theory_named d c) z) (sym n_is) r.1),
          )

      from : IsVisible d s i (Inst th n xs) → Lists th xs (instances d s i) × Exports (theory_named d th) n
      from (of_formal k l e) = cc
      from (of_own k l e) = cc
      from (of_import x r a l k v e) = by x r a l k v e

pub all_list : (d : Development) → IsDevelopment d → AllList d
all_list [] h B th n ys k = absurd k
all_list (s ∷ d) h B th n ys k = go (all_list d h.2) (bytes_eq s.name B) k
  where
    go : AllList d → (z : Bool) → In (Inst th n ys) (cond z (scope d s (length s.entries)) (whole_scope d B)) → Lists th ys (cond z (instances d s (length s.entries)) (all_instances d B)) × Exports (theory_named (s ∷ d) th) n
    go f true m = let r = scope_lists d s (length s.entries) h.2 h.1 f th n ys m in (r.0, later_exports s d th n h.0 r.1)
    go f false m = let r = f B th n ys m in (r.0, later_exports s d th n h.0 r.1)

-- an entry of an instance in the scope: the instance is visible, and the entry is one of its theory and no VAR
pub in_instances : (d : Development) (s : Signature) (i : ℕ) → IsDevelopment d → IsSignatureOver d s → (th : Text) (n : ℕ) (xs : Trees) → In (Inst th n xs) (scope d s i) → Lists th xs (instances d s i) × Exports (theory_named d th) n
in_instances d s i standing good th n xs h = scope_lists d s i standing good (all_list d standing) th n xs h

-- and back
abbrev pub AllStand : Development → Type 0
AllStand d = (B th : Text) (ys : Trees) → Lists th ys (all_instances d B) → IsSome (theory_named d th)

AllBack : Development → Type 0
AllBack d = (B th : Text) (n : ℕ) (ys : Trees) → Lists th ys (all_instances d B) → Exports (theory_named d th) n → In (Inst th n ys) (whole_scope d B)

module _ (d : Development) (s : Signature) (i : ℕ) (good : IsSignatureOver d s) where
  pub lists_brings : (th : Text) (xs : Trees) → Lists th xs (instances d s i) → Brings (all_instances d) s.imports i th xs
  lists_brings th xs h = up_to_brings (all_instances d) s.imports i th xs (firsts_list th xs [] (instances_up_to (all_instances d) s.imports i) h)

  lists_stand : AllStand d → (th : Text) (xs : Trees) → Lists th xs (instances d s i) → IsSome (theory_named d th)
  lists_stand all th xs h = let r = lists_brings th xs h in elim r.lists [
    | inl e ↦ subst (λ z. IsSome (theory_named d z)) (sym e.0) (good.imports r.import r.listed).0
    | inr k ↦ (let p = by_list th xs r.import (all_instances d r.import.theory) k in all r.import.theory th p.0 p.1)
  ]

  lists_back : IsDevelopment d → AllBack d → (th : Text) (n : ℕ) (xs : Trees) → Lists th xs (instances d s i) → Exports (theory_named d th) n → In (Inst th n xs) (scope d s i)
  unfolding AllBack
  lists_back standing all th n xs h has = let r = lists_brings th xs h in elim r.lists [
    | inl e ↦ own r.import r.listed r.earlier e.0 e.1
    | inr k ↦ (let p = by_list th xs r.import (all_instances d r.import.theory) k in
        to_scope d s i (Inst th n xs) (of_import r.import (Inst th n p.0) r.listed r.earlier (all r.import.theory th n p.0 p.1 has) refl (ap (Inst th n) p.2)))
  ]
    where
      own : (x : Import) → In x s.imports → x.place ≤ i → th ≡ x.theory → xs ≡ x.actuals → In (Inst th n xs) (scope d s i)
      own x a l e f =
          let b = named (theory_named d x.theory) (good.imports x a).0 in
          let st = theory_stands d standing x.theory b.0 b.1 in
          let at_b = subst (λ z. Exports z n) (ap (theory_named d) e ∙ b.1) has in
          let there = to_scope d b.0 (length b.0.entries) (Own n) (of_own n at_b.0 refl) in
          to_scope d s i (Inst th n xs) (of_import x (Own n) a l (subst (In (Own n)) (sym st.at_end) there) (ap (λ z. is_exported z (Own n)) b.1 ∙ at_b.1) (ap₂ (λ y z. Inst y n z) e f))

pub all_stand : (d : Development) → IsDevelopment d → AllStand d
all_stand [] h B th ys k = absurd k
all_stand (s ∷ d) h B th ys k = go (all_stand d h.2) (bytes_eq s.name B) k
  where
    later : IsSome (theory_named d th) → IsSome (theory_named (s ∷ d) th)
    later w = subst IsSome (sym (declared.same_look_up s d th h.0 w)) w

    go : AllStand d → (z : Bool) → Lists th ys (cond z (instances d s (length s.entries)) (all_instances d B)) → IsSome (theory_named (s ∷ d) th)
    go f true m = later (lists_stand d s (length s.entries) h.1 f th ys m)
    go f false m = later (f B th ys m)

all_back : (d : Development) → IsDevelopment d → AllBack d
unfolding AllBack
all_back [] h B th n ys k has = absurd k
all_back (s ∷ d) h B th n ys k has = go (all_stand d h.2) (all_back d h.2) (bytes_eq s.name B) k
  where
    earlier : IsSome (theory_named d th) → Exports (theory_named d th) n
    earlier w = subst (λ z. Exports z n) (declared.same_look_up s d th h.0 w) has

    go : AllStand d → AllBack d → (z : Bool) → Lists th ys (cond z (instances d s (length s.entries)) (all_instances d B)) → In (Inst th n ys) (cond z (scope d s (length s.entries)) (whole_scope d B))
    go g f true m = lists_back d s (length s.entries) h.1 h.2 f th n ys m (earlier (lists_stand d s (length s.entries) h.1 g th ys m))
    go g f false m = f B th n ys m (earlier (g B th ys m))

pub from_instances : (d : Development) (s : Signature) (i : ℕ) → IsDevelopment d → IsSignatureOver d s → (th : Text) (n : ℕ) (xs : Trees) → Lists th xs (instances d s i) → Exports (theory_named d th) n → In (Inst th n xs) (scope d s i)
from_instances d s i standing good th n xs h has = lists_back d s i good standing (all_back d standing) th n xs h has

pub by_instances : ByInstances
by_instances = λ d s i standing good th n xs. ((λ h. in_instances d s i standing good th n xs h), (λ h has. from_instances d s i standing good th n xs h has))
