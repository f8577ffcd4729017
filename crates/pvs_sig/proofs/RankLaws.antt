-- A defined name counts for its body, as an own entry and as an entry of an instance.
use Rattle.std.proofs.Common.{◌≡◌, ℕ, zero, suc, pred, ◌<◌, ◌≤◌, Bool, true, false, ◌&&◌, cond, eqb, List, [], ◌∷◌, length, Option, Some, None, refl, ap, ap₂, ◌∙◌, sym, subst, arith}
use Rattle.std.specs.Prelude.{option_map, slice_get, bytes_eq, IsSome}
use Rattle.std.proofs.Math.Path.{fun_ext}
use Rattle.std.proofs.lemmas.Bool.{eqb-true}
use Rattle.std.proofs.lemmas.Slice.Eq.{bytes_eq-Decides}
use Rattle.pvs_terms.specs.Tree.{Text, Tree, Leaf, Var, Name, Bind, Join, Project, If, Ref, Own, Formal, Inst, Trees, none, more, sort_eq}
use Rattle.pvs_terms.specs.Sorts.{sort_of}
use Rattle.pvs_terms.specs.declared.shape.Sort.{Sort}
use Rattle.pvs_terms.specs.declared.shape.Sort.TheVariants.{OfType, OfTerm}
use Rattle.pvs_terms.specs.declared.shape.Binder.TheVariants.{Subtype, Function, Product, Lambda}
use Rattle.pvs_terms.proofs.TreeLaws.{both}
use Rattle.pvs_subst.specs.Instance.{actual, instantiate, instantiate_all}
use Rattle.pvs_sig.specs.Signature.{Signature, FormalSig, Kind, TypeSig, ConstSig, VarSig, FormulaSig, kind_at, kind_in, formals_in, formal_kind, formal_sort, sort_by_type, unbound_kind, instantiate_found}
use Rattle.pvs_sig.specs.References.{EachRef, EachOf}
use Rattle.pvs_sig.specs.Development.{Development, theory_named, kind_of, HasSort, AreDeclared, MatchFormals, IsRefOver, IsSignatureOver, IsDevelopment, IsBefore, formals_seen}
use Rattle.pvs_sig.specs.Lookups.{type_size}
use Rattle.pvs_sig.specs.Ranks.{Ranks, size_in, rank_in, counts_in, type_body, body_size, ranks_below, theory_ranks, ranks_over, ranks_within, ranks_of}
use Rattle.pvs_sig.specs.LookupsOf.{has_sorts_of, kind_lookup, LookupsAreOrdered, FindsKinds}
use Rattle.pvs_sig.proofs.DeclaredLaws.{sort_stands, none_stands}
use Rattle.pvs_sig.proofs.ScopeLaws.{below, differs}
use Rattle.pvs_sig.proofs.DevelopmentLaws.{theory_stands}
use Rattle.pvs_sig.proofs.ReachLaws.{kind_below}

size_above : (k : Ranks) (t : Tree) → suc (pred (size_in k t)) ≡ size_in k t
size_above k (Leaf o) = refl
size_above k (Var n) = refl
size_above k (Name OfType r) = refl
size_above k (Name OfTerm r) = refl
size_above k (Bind Subtype a p) = refl
size_above k (Bind Function a b) = refl
size_above k (Bind (Product j) a b) = refl
size_above k (Bind Lambda a b) = refl
size_above k (Join o a b) = refl
size_above k (Project o a) = refl
size_above k (If c a b) = refl

term_size : (k : Ranks) (t : Tree) → sort_of t ≡ OfTerm → size_in k t ≡ 1
term_size k (Leaf o) h = refl
term_size k (Var n) h = refl
term_size k (Name OfType r) h = cc
term_size k (Name OfTerm r) h = refl
term_size k (Bind Subtype a p) h = cc
term_size k (Bind Function a b) h = cc
term_size k (Bind (Product j) a b) h = cc
term_size k (Bind Lambda a b) h = refl
term_size k (Join o a b) h = refl
term_size k (Project o a) h = refl
term_size k (If c a b) h = refl

nothing : (o : Sort) → HasSort o None → ⊥
nothing OfType h = h
nothing OfTerm h = h

sort_is : (o p : Sort) → sort_eq o p ≡ true → o ≡ p
sort_is OfType OfType h = refl
sort_is OfTerm OfTerm h = refl
sort_is OfType OfTerm h = cc
sort_is OfTerm OfType h = cc

term_formal : (f : FormalSig) → HasSort OfTerm (Some (formal_kind f)) → formal_sort f ≡ OfTerm
term_formal f h = go f.ty h
  where
    go : (o : Option Tree) → HasSort OfTerm (Some (unbound_kind f.nonempty o)) → sort_by_type o ≡ OfTerm
    go None k = absurd k
    go (Some t) k = refl

-- the actual of a type counts for the name of its formal, and the actual of a constant for nothing
actual_size : (k : Ranks) (fs : List FormalSig) (xs : Trees) (n : ℕ) (other : Tree) → has_sorts_of fs xs ≡ true → HasSort OfType (option_map formal_kind (slice_get fs n)) → size_in k (actual xs n other) ≡ suc (counts_in k xs n)
actual_size k [] none n other h w = absurd w
actual_size k (f ∷ fs) (more x xs) zero other h w = sym (size_above k x)
actual_size k (f ∷ fs) (more x xs) (suc n) other h w = actual_size k fs xs n other (both (sort_eq (sort_of x) (formal_sort f)) (has_sorts_of fs xs) h).1 w
actual_size k [] (more x xs) n other h w = cc
actual_size k (f ∷ fs) none n other h w = cc

actual_term : (k : Ranks) (fs : List FormalSig) (xs : Trees) (n : ℕ) (other : Tree) → has_sorts_of fs xs ≡ true → HasSort OfTerm (option_map formal_kind (slice_get fs n)) → size_in k (actual xs n other) ≡ 1
actual_term k [] none n other h w = absurd w
actual_term k (f ∷ fs) (more x xs) zero other h w = term_size k x (sort_is (sort_of x) (formal_sort f) (both (sort_eq (sort_of x) (formal_sort f)) (has_sorts_of fs xs) h).0 ∙ term_formal f w)
actual_term k (f ∷ fs) (more x xs) (suc n) other h w = actual_term k fs xs n other (both (sort_eq (sort_of x) (formal_sort f)) (has_sorts_of fs xs) h).1 w
actual_term k [] (more x xs) n other h w = cc
actual_term k (f ∷ fs) none n other h w = cc

-- the sizes are those that typing uses
size_of_ranks : (k : Ranks) (t : Tree) → type_size (rank_in k) t ≡ size_in k t
size_of_ranks k (Leaf o) = refl
size_of_ranks k (Var n) = refl
size_of_ranks k (Name OfType r) = refl
size_of_ranks k (Name OfTerm r) = refl
size_of_ranks k (Bind Subtype a p) = ap suc (size_of_ranks k a)
size_of_ranks k (Bind Function a b) = rw (size_of_ranks k a, size_of_ranks k b) refl
size_of_ranks k (Bind (Product j) a b) = rw (size_of_ranks k a, size_of_ranks k b) refl
size_of_ranks k (Bind Lambda a b) = refl
size_of_ranks k (Join o a b) = refl
size_of_ranks k (Project o a) = refl
size_of_ranks k (If c a b) = refl

-- a tree of c in the instance of c has the size of the tree within the instance
module _ (k : Ranks) (th : Text) (acts : Trees) (d : Development) (c : Signature) (fits : has_sorts_of c.formals acts ≡ true) where
  mutual
    size-instantiate : (t : Tree) → AreDeclared d c t → size_in k (instantiate t th acts) ≡ size_in (ranks_within k th acts) t
    size-instantiate (Leaf o) h = refl
    size-instantiate (Var n) h = refl
    size-instantiate (Name OfType (Own n)) h = refl
    size-instantiate (Name OfTerm (Own n)) h = refl
    size-instantiate (Name OfType (Formal n)) h = actual_size k c.formals acts n (Name OfType (Formal n)) fits h
    size-instantiate (Name OfTerm (Formal n)) h = actual_term k c.formals acts n (Name OfTerm (Formal n)) fits h
    size-instantiate (Name OfType (Inst a n xs)) h = ap (λ z. suc (k.inst a n z)) (fun_ext (counts-instantiate (formals_in (theory_named d a)) xs h.1))
    size-instantiate (Name OfTerm (Inst a n xs)) h = refl
    size-instantiate (Bind Subtype a p) h = ap suc (size-instantiate a h.0)
    size-instantiate (Bind Function a b) h = rw (size-instantiate a h.0, size-instantiate b h.1) refl
    size-instantiate (Bind (Product j) a b) h = rw (size-instantiate a h.0, size-instantiate b h.1) refl
    size-instantiate (Bind Lambda a b) h = refl
    size-instantiate (Join o a b) h = refl
    size-instantiate (Project o a) h = refl
    size-instantiate (If x a b) h = refl

    counts-instantiate : (fs : List FormalSig) (xs : Trees) → MatchFormals d c fs xs → (n : ℕ) → counts_in k (instantiate_all xs th acts) n ≡ counts_in (ranks_within k th acts) xs n
    counts-instantiate [] none h n = refl
    counts-instantiate (f ∷ fs) (more x xs) h zero = ap pred (size-instantiate x h.3)
    counts-instantiate (f ∷ fs) (more x xs) h (suc n) = counts-instantiate fs xs h.4 n
    counts-instantiate [] (more x xs) h n = absurd h
    counts-instantiate (f ∷ fs) none h n = absurd h

-- two rankings agree on own entries below n, on formals and on instances of theories that stand
record Agree (d : Development) (n : ℕ) (k j : Ranks) : Type 0 where
  pub own : (i : ℕ) → i < n → k.own i ≡ j.own i
  pub formal : (i : ℕ) → k.formal i ≡ j.formal i
  pub inst : (a : Text) (i : ℕ) (c : ℕ → ℕ) → IsSome (theory_named d a) → k.inst a i c ≡ j.inst a i c

module _ (d : Development) (s : Signature) (f n : ℕ) (k j : Ranks) (agree : Agree d n k j) where
  mutual
    same_size : (t : Tree) → AreDeclared d s t → EachRef (IsBefore f n) t → size_in k t ≡ size_in j t
    same_size (Leaf o) h b = refl
    same_size (Var i) h b = refl
    same_size (Name OfType (Own i)) h b = ap suc (agree.own i b.0)
    same_size (Name OfType (Formal i)) h b = ap suc (agree.formal i)
    same_size (Name OfType (Inst a i xs)) h b =
        ap suc (agree.inst a i (counts_in k xs) (sort_stands OfType (theory_named d a) i h.0) ∙ ap (j.inst a i) (fun_ext (same_counts (formals_in (theory_named d a)) xs h.1 b.1)))
    same_size (Name OfTerm r) h b = refl
    same_size (Bind Subtype a p) h b = ap suc (same_size a h.0 b.0)
    same_size (Bind Function x y) h b = rw (same_size x h.0 b.0, same_size y h.1 b.1) refl
    same_size (Bind (Product i) x y) h b = rw (same_size x h.0 b.0, same_size y h.1 b.1) refl
    same_size (Bind Lambda x y) h b = refl
    same_size (Join o x y) h b = refl
    same_size (Project o x) h b = refl
    same_size (If x y z) h b = refl

    same_counts : (fs : List FormalSig) (xs : Trees) → MatchFormals d s fs xs → EachOf (IsBefore f n) xs → (i : ℕ) → counts_in k xs i ≡ counts_in j xs i
    same_counts [] none h b i = refl
    same_counts (g ∷ fs) (more x xs) h b zero = ap pred (same_size x h.3 b.0)
    same_counts (g ∷ fs) (more x xs) h b (suc i) = same_counts fs xs h.4 b.1 i
    same_counts [] (more x xs) h b i = absurd h
    same_counts (g ∷ fs) none h b i = absurd h

differ : (b : Bool) (n m : ℕ) {A : Type 0} (x y : A) → eqb n m ≡ b → n < m → cond b x y ≡ y
differ true n m x y e h = let same = eqb-true n m e in absurd (omega (arith, same, h))
differ false n m x y e h = refl

-- the body of an entry is declared, and mentions what stands before the entry
record IsBody (d : Development) (s : Signature) (n : ℕ) (t : Tree) : Type 0 where
  pub declared : AreDeclared d s t
  pub before : EachRef (IsBefore (formals_seen s n) n) t
  pub below : n < length s.entries

is_body : (d : Development) (s : Signature) → IsSignatureOver d s → (n : ℕ) (t : Tree) → type_body (kind_at s n) ≡ Some t → IsBody d s n t
is_body d s over n t h = go (kind_at s n) refl h
  where
    go : (z : Option Kind) → kind_at s n ≡ z → type_body z ≡ Some t → IsBody d s n t
    go (Some (TypeSig b (Some u))) e q =
        let same : u ≡ t = cc in
        subst (IsBody d s n) same record { declared = (over.entries n (TypeSig b (Some u)) e).declared; before = over.earlier_entries n (TypeSig b (Some u)) e; below = kind_below s n (TypeSig b (Some u)) e }
    go (Some (TypeSig b None)) e q = cc
    go (Some (ConstSig a body)) e q = cc
    go (Some (VarSig a)) e q = cc
    go (Some (FormulaSig c a o)) e q = cc
    go None e q = cc

module _ (d : Development) (s : Signature) (over : IsSignatureOver d s) (inst : Text → ℕ → (ℕ → ℕ) → ℕ) (formal : ℕ → ℕ) where
  one_more : (i n : ℕ) → n ≤ i → Agree d n (ranks_over inst formal s (suc i)) (ranks_over inst formal s i)
  one_more i n l = record {
    own = λ m h. differ (eqb m i) m i (body_size (ranks_over inst formal s i) (type_body (kind_at s i))) (ranks_below inst formal s i m) refl (omega (arith, h, l));
    formal = λ m. refl;
    inst = λ a m c h. refl;
  }

  -- a defined name counts for its body
  own_counts : (i n : ℕ) (t : Tree) → n < i → type_body (kind_at s n) ≡ Some t → size_in (ranks_over inst formal s i) t ≡ ranks_below inst formal s i n
  own_counts zero n t l h = absurd (omega (arith, l))
  own_counts (suc i) n t l h = go (λ m. own_counts i n t m h) (eqb n i) refl
    where
      body : IsBody d s n t
      body = is_body d s over n t h

      less : size_in (ranks_over inst formal s (suc i)) t ≡ size_in (ranks_over inst formal s i) t
      less = same_size d s (formals_seen s n) n (ranks_over inst formal s (suc i)) (ranks_over inst formal s i) (one_more i n (omega (arith, l))) t body.declared body.before

      go : (n < i → size_in (ranks_over inst formal s i) t ≡ ranks_below inst formal s i n) → (b : Bool) → eqb n i ≡ b
          → size_in (ranks_over inst formal s (suc i)) t ≡ cond b (body_size (ranks_over inst formal s i) (type_body (kind_at s i))) (ranks_below inst formal s i n)
      go f true e = less ∙ ap (body_size (ranks_over inst formal s i)) (sym h ∙ ap (λ z. type_body (kind_at s z)) (eqb-true n i e))
      go f false e = less ∙ f (below n i l (differs n i e))

-- over rankings of instances that agree on the theories that stand
own_same : (d : Development) (s : Signature) → IsSignatureOver d s → (inst other : Text → ℕ → (ℕ → ℕ) → ℕ) (formal : ℕ → ℕ) → ((a : Text) (i : ℕ) (c : ℕ → ℕ) → IsSome (theory_named d a) → inst a i c ≡ other a i c) → (i n : ℕ) → ranks_below inst formal s i n ≡ ranks_below other formal s i n
own_same d s over inst other formal h zero n = refl
own_same d s over inst other formal h (suc i) n =
    let ih = own_same d s over inst other formal h i in
    ap (λ y. cond (eqb n i) y (ranks_below inst formal s i n)) (go ih (type_body (kind_at s i)) refl)
    ∙ ap (λ y. cond (eqb n i) (body_size (ranks_over other formal s i) (type_body (kind_at s i))) y) (ih n)
  where
    go : ((m : ℕ) → ranks_below inst formal s i m ≡ ranks_below other formal s i m) → (o : Option Tree) → type_body (kind_at s i) ≡ o → body_size (ranks_over inst formal s i) o ≡ body_size (ranks_over other formal s i) o
    go ih None e = refl
    go ih (Some t) e =
        let body = is_body d s over i t e in
        same_size d s (formals_seen s i) i (ranks_over inst formal s i) (ranks_over other formal s i) (record { own = λ m l. ih m; formal = λ m. refl; inst = h }) t body.declared body.before

-- a theory of a new name changes no ranks of those that stand
same_ranks : (x : Signature) (d : Development) → theory_named d x.name ≡ None → (a : Text) (i : ℕ) (c : ℕ → ℕ) → IsSome (theory_named d a) → theory_ranks d a i c ≡ theory_ranks (x ∷ d) a i c
same_ranks x d new a i c h = go (bytes_eq x.name a) refl
  where
    go : (b : Bool) → bytes_eq x.name a ≡ b → theory_ranks d a i c ≡ cond b (ranks_below (theory_ranks d) c x (length x.entries) i) (theory_ranks d a i c)
    go true e = absurd (none_stands (theory_named d a) (ap (theory_named d) (sym ((bytes_eq-Decides x.name a).0 e)) ∙ new) h)
    go false e = refl

-- a theory's names count for what they do over all theories
theory_counts : (d : Development) → IsDevelopment d → (th : Text) (c : Signature) (n : ℕ) (f : ℕ → ℕ) → theory_named d th ≡ Some c → theory_ranks d th n f ≡ ranks_below (theory_ranks d) f c (length c.entries) n
theory_counts [] h th c n f e = cc
theory_counts (s ∷ d) h th c n f e = go (λ k. theory_counts d h.2 th c n f k) (bytes_eq s.name th) e
  where
    here : s ≡ c → ranks_below (theory_ranks d) f s (length s.entries) n ≡ ranks_below (theory_ranks (s ∷ d)) f c (length c.entries) n
    here q = subst (λ z. ranks_below (theory_ranks d) f s (length s.entries) n ≡ ranks_below (theory_ranks (s ∷ d)) f z (length z.entries) n) q
        (own_same d s h.1 (theory_ranks d) (theory_ranks (s ∷ d)) f (same_ranks s d h.0) (length s.entries) n)

    go : (theory_named d th ≡ Some c → theory_ranks d th n f ≡ ranks_below (theory_ranks d) f c (length c.entries) n) → (z : Bool) → cond z (Some s) (theory_named d th) ≡ Some c
        → cond z (ranks_below (theory_ranks d) f s (length s.entries) n) (theory_ranks d th n f) ≡ ranks_below (theory_ranks (s ∷ d)) f c (length c.entries) n
    go g true q = let same : s ≡ c = cc in here same
    go g false q = g q ∙ own_same d c (theory_stands d h.2 th c q).over (theory_ranks d) (theory_ranks (s ∷ d)) f (same_ranks s d h.0) (length c.entries) n

-- the body of a name of an instance, with the actuals put in, is what the name counts for
instance_counts : (d : Development) → IsDevelopment d → (k : Ranks) → k.inst ≡ theory_ranks d → (th : Text) (c : Signature) (n : ℕ) (acts : Trees) (t : Tree) → theory_named d th ≡ Some c → type_body (kind_at c n) ≡ Some t → has_sorts_of c.formals acts ≡ true
    → size_in k (instantiate t th acts) ≡ rank_in k (Inst th n acts)
instance_counts d h k q th c n acts t e b fits =
    let counts : ℕ → ℕ = counts_in k acts in
    let over = (theory_stands d h th c e).over in
    let body = is_body d c over n t b in
    let agree : Agree d n (ranks_within k th acts) (ranks_over (theory_ranks d) counts c (length c.entries)) = record {
      own = λ i l. ap (λ f. f th i counts) q ∙ theory_counts d h th c i counts e;
      formal = λ i. refl;
      inst = λ a i f l. ap (λ g. g a i f) q;
    } in
    size-instantiate k th acts d c fits t body.declared
    ∙ same_size d c (formals_seen c n) n (ranks_within k th acts) (ranks_over (theory_ranks d) counts c (length c.entries)) agree t body.declared body.before
    ∙ own_counts d c over (theory_ranks d) counts (length c.entries) n t body.below b
    ∙ sym (theory_counts d h th c n counts e) ∙ sym (ap (λ f. f th n counts) q)

-- a body of an instance is the instance of a body
body_instance : (z : Option Kind) (th : Text) (acts : Trees) (t : Tree) → type_body (instantiate_found z th acts) ≡ Some t → (u : Tree) × (type_body z ≡ Some u) × (instantiate u th acts ≡ t)
body_instance (Some (TypeSig b (Some u))) th acts t h = (u, refl, cc)
body_instance (Some (TypeSig b None)) th acts t h = cc
body_instance (Some (ConstSig a body)) th acts t h = cc
body_instance (Some (VarSig a)) th acts t h = cc
body_instance (Some (FormulaSig c a o)) th acts t h = cc
body_instance None th acts t h = cc

formal_body : (z : Option FormalSig) (t : Tree) → type_body (option_map formal_kind z) ≡ Some t → ⊥
formal_body None t h = cc
formal_body (Some f) t h = go f.ty h
  where
    go : (o : Option Tree) → type_body (Some (unbound_kind f.nonempty o)) ≡ Some t → ⊥
    go None k = cc
    go (Some u) k = cc

module _ (d : Development) (s : Signature) (standing : IsDevelopment d) (over : IsSignatureOver d s) where
  ordered_by : (r : Ref) (t : Tree) → size_in (ranks_of d s) t ≡ rank_in (ranks_of d s) r → type_size (rank_in (ranks_of d s)) t < suc (rank_in (ranks_of d s) r)
  ordered_by r t h = let same = size_of_ranks (ranks_of d s) t ∙ h in omega (arith, same)

  instance_body : (th : Text) (n : ℕ) (acts : Trees) (t : Tree) (z : Option Signature) → theory_named d th ≡ z → has_sorts_of (formals_in z) acts ≡ true → type_body (instantiate_found (kind_in z n) th acts) ≡ Some t → size_in (ranks_of d s) t ≡ rank_in (ranks_of d s) (Inst th n acts)
  instance_body th n acts t None e f h = cc
  instance_body th n acts t (Some c) e f h =
      let b = body_instance (kind_at c n) th acts t h in
      subst (λ z. size_in (ranks_of d s) z ≡ rank_in (ranks_of d s) (Inst th n acts)) b.2 (instance_counts d standing (ranks_of d s) refl th c n acts b.0 e b.1 f)

  is_ordered : (r : Ref) (t : Tree) → type_body (kind_lookup d s r) ≡ Some t → type_size (rank_in (ranks_of d s)) t < suc (rank_in (ranks_of d s) r)
  is_ordered (Own n) t h = ordered_by (Own n) t (own_counts d s over (theory_ranks d) (λ m. 0) (length s.entries) n t (is_body d s over n t h).below h)
  is_ordered (Formal n) t h = absurd (formal_body (slice_get s.formals n) t h)
  is_ordered (Inst th n acts) t h = go (has_sorts_of (formals_in (theory_named d th)) acts) refl h
    where
      go : (b : Bool) → has_sorts_of (formals_in (theory_named d th)) acts ≡ b → type_body (cond b (kind_of d s (Inst th n acts)) None) ≡ Some t → type_size (rank_in (ranks_of d s)) t < suc (rank_in (ranks_of d s) (Inst th n acts))
      go true e k = ordered_by (Inst th n acts) t (instance_body th n acts t (theory_named d th) refl e k)
      go false e k = cc

pub lookups_are_ordered : LookupsAreOrdered
lookups_are_ordered = λ d s standing over r t h. is_ordered d s standing over r t h

sort_eq-same : (o : Sort) → sort_eq o o ≡ true
sort_eq-same OfType = refl
sort_eq-same OfTerm = refl

matched_sorts : (d : Development) (s : Signature) (fs : List FormalSig) (xs : Trees) → MatchFormals d s fs xs → has_sorts_of fs xs ≡ true
matched_sorts d s [] none h = refl
matched_sorts d s (f ∷ fs) (more x xs) h = ap₂ (λ a b. a && b) (ap (λ o. sort_eq o (formal_sort f)) h.0 ∙ sort_eq-same (formal_sort f)) (matched_sorts d s fs xs h.4)
matched_sorts d s [] (more x xs) h = absurd h
matched_sorts d s (f ∷ fs) none h = absurd h

pub finds_kinds : FindsKinds
finds_kinds = λ d s r h. go d s r h
  where
    go : (d : Development) (s : Signature) (r : Ref) → IsRefOver d s r → kind_lookup d s r ≡ kind_of d s r
    go d s (Own n) h = refl
    go d s (Formal n) h = refl
    go d s (Inst th n xs) h = ap (λ b. cond b (kind_of d s (Inst th n xs)) None) (matched_sorts d s (formals_in (theory_named d th)) xs h.1)
