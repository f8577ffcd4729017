-- The forms of types by the step to the type above.
use Rattle.std.proofs.Common.{subst, ◌≡◌, ℕ, ◌<◌, List, [], ◌∷◌, ◌++◌, append_assoc, Option, Some, None, Result, Ok, Err, refl, ap, ◌∙◌, sym, arith}
use Rattle.pvs_base.specs.Answers.{◌>>=◌}
use Rattle.pvs_base.specs.declared.code.Code.{Code}
use Rattle.pvs_terms.specs.Tree.{Tree, Leaf, Var, Name, Bind, Join, Project, If, Ref, TName}
use Rattle.pvs_terms.specs.declared.shape.Sort.TheVariants.{OfType, OfTerm}
use Rattle.pvs_terms.specs.declared.shape.Binder.TheVariants.{Subtype, Function, Product, Lambda}
use Rattle.pvs_sig.specs.Development.{Development}
use Rattle.pvs_sig.specs.Lookups.{Lookups, type_size, IsOrdered}
use Rattle.pvs_types.specs.Forms.{body, by_body, head_by, up_by, head, up}
use Rattle.pvs_types.proofs.FormsLaws.{head_step, up_step, body_is}
use Rattle.pvs_terms.specs.declared.shape.Sort.{Sort}
use Rattle.pvs_terms.specs.Stored.{Stored, tree_at}
use Rattle.pvs_typing.specs.Above.{next_above}
use Rattle.pvs_typing.specs.Answers.{IsRefusal, tree_option}
use Rattle.pvs_typing.specs.Growth.{IsKnown, AreKnown, Keeps, all_at}
use Rattle.pvs_typing.proofs.GrowthLaws.{all_kept, trees_kept}
use Rattle.pvs_typing.specs.declared.fault.TypeFault.{TypeFault}
use Rattle.pvs_typing.specs.declared.fault.TypeFault.TheVariants as fault

then_ok : {A : Type 0} (x : Result A Code) → (x >>= (λ a. Ok a)) ≡ x
then_ok (Ok a) = refl
then_ok (Err c) = refl

head_by_next : (s : Lookups) (t : Tree) → head_by s (head s) t ≡ (next_above s t >>= by_body (head s) (Ok t))
head_by_next s (Leaf o) = refl
head_by_next s (Var n) = refl
head_by_next s (Name OfType r) = refl
head_by_next s (Name OfTerm r) = refl
head_by_next s (Bind Subtype a p) = refl
head_by_next s (Bind Function a b) = refl
head_by_next s (Bind (Product k) a b) = refl
head_by_next s (Bind Lambda a b) = refl
head_by_next s (Join o a b) = refl
head_by_next s (Project o a) = refl
head_by_next s (If a b c) = refl

pub head_next : (s : Lookups) → IsOrdered s → (t : Tree) → head s t ≡ (next_above s t >>= by_body (head s) (Ok t))
head_next s ordered t = head_step s ordered t ∙ head_by_next s t

-- a type's head is that of the type above, and its own where there is none
pub head_above : (s : Lookups) → IsOrdered s → (t u : Tree) → next_above s t ≡ Ok (Some u) → head s t ≡ head s u
head_above s ordered t u h = head_next s ordered t ∙ ap (λ x. x >>= by_body (head s) (Ok t)) h

pub head_itself : (s : Lookups) → IsOrdered s → (t : Tree) → next_above s t ≡ Ok None → head s t ≡ Ok t
head_itself s ordered t h = head_next s ordered t ∙ ap (λ x. x >>= by_body (head s) (Ok t)) h

pub head_refused : (s : Lookups) → IsOrdered s → (t : Tree) (c : Code) → next_above s t ≡ Err c → head s t ≡ Err c
head_refused s ordered t c h = head_next s ordered t ∙ ap (λ x. x >>= by_body (head s) (Ok t)) h

-- the types above a type, itself first
up_by_next : (s : Lookups) (t : Tree) → up_by s (up s) t ≡ (next_above s t >>= by_body (up s) (Ok []) >>= (λ us. Ok (t ∷ us)))
up_by_next s (Leaf o) = refl
up_by_next s (Var n) = refl
up_by_next s (Name OfType r) = assoc (body s r)
  where
    assoc : (x : Result (Option Tree) Code) → (x >>= (λ d. by_body (up s) (Ok []) d >>= (λ us. Ok (TName r ∷ us)))) ≡ (x >>= by_body (up s) (Ok []) >>= (λ us. Ok (TName r ∷ us)))
    assoc (Ok d) = refl
    assoc (Err c) = refl
up_by_next s (Name OfTerm r) = refl
up_by_next s (Bind Subtype a p) = refl
up_by_next s (Bind Function a b) = refl
up_by_next s (Bind (Product k) a b) = refl
up_by_next s (Bind Lambda a b) = refl
up_by_next s (Join o a b) = refl
up_by_next s (Project o a) = refl
up_by_next s (If a b c) = refl

pub up_next : (s : Lookups) → IsOrdered s → (t : Tree) → up s t ≡ (next_above s t >>= by_body (up s) (Ok []) >>= (λ us. Ok (t ∷ us)))
up_next s ordered t = up_step s ordered t ∙ up_by_next s t

-- the type above is smaller
pub next_smaller : (s : Lookups) → IsOrdered s → (t u : Tree) → next_above s t ≡ Ok (Some u) → type_size s.rank u < type_size s.rank t
next_smaller s ordered (Name OfType r) u h = ordered r u (body_is s r (Some u) h)
next_smaller s ordered (Bind Subtype a p) u h = let e : a ≡ u = cc in rw (← e) (omega arith)
next_smaller s ordered (Leaf o) u h = cc
next_smaller s ordered (Var n) u h = cc
next_smaller s ordered (Name OfTerm r) u h = cc
next_smaller s ordered (Bind Function a b) u h = cc
next_smaller s ordered (Bind (Product k) a b) u h = cc
next_smaller s ordered (Bind Lambda a b) u h = cc
next_smaller s ordered (Join o a b) u h = cc
next_smaller s ordered (Project o a) u h = cc
next_smaller s ordered (If a b c) u h = cc

pub head_fault : (l m : Lookups) → IsOrdered l → m ≡ l → (t u : Tree) (e : TypeFault) → head l t ≡ head l u → IsRefusal (next_above m u) e → IsRefusal (head l t) e
head_fault l m ordered k t u (fault.Refused c) h r = h ∙ head_refused l ordered u c (ap (λ x. next_above x u) (sym k) ∙ r)
head_fault l m ordered k t u fault.Memory h r = tt

pub head_goes_on : (s : Stored) (l m : Lookups) → IsOrdered l → m ≡ l → (u : Tree) (o : Option ℕ) (i : ℕ) → o ≡ Some i → next_above m u ≡ Ok (tree_option s o) → head l u ≡ head l (tree_at s i)
head_goes_on s l m ordered k u o i is h = head_above l ordered u (tree_at s i) (ap (λ x. next_above x u) (sym k) ∙ h ∙ ap (λ x. Ok (tree_option s x)) is)

pub head_ends : (s : Stored) (l m : Lookups) → IsOrdered l → m ≡ l → (u : Tree) (o : Option ℕ) → o ≡ None → next_above m u ≡ Ok (tree_option s o) → head l u ≡ Ok u
head_ends s l m ordered k u o is h = head_itself l ordered u (ap (λ x. next_above x u) (sym k) ∙ h ∙ ap (λ x. Ok (tree_option s x)) is)

-- the types above, from those that are listed and those that follow
abbrev pub listed : List Tree → Result (List Tree) Code → Result (List Tree) Code
listed ts x = x >>= (λ us. Ok (ts ++ us))

listed_push : (ts : List Tree) (t : Tree) (x : Result (List Tree) Code) → listed ts (x >>= (λ us. Ok (t ∷ us))) ≡ listed (ts ++ t ∷ []) x
listed_push ts t (Ok us) = ap Ok (sym (append_assoc ts (t ∷ []) us))
listed_push ts t (Err c) = refl

pub up_goes_on : (s : Stored) (l m : Lookups) → IsOrdered l → m ≡ l → (ts : List Tree) (u : Tree) (o : Option ℕ) (i : ℕ) → o ≡ Some i → next_above m u ≡ Ok (tree_option s o)
    → listed ts (up l u) ≡ listed (ts ++ u ∷ []) (up l (tree_at s i))
up_goes_on s l m ordered k ts u o i is h =
    let e = ap (λ x. next_above x u) (sym k) ∙ h ∙ ap (λ x. Ok (tree_option s x)) is in
    ap (listed ts) (up_next l ordered u ∙ ap (λ x. x >>= by_body (up l) (Ok []) >>= (λ us. Ok (u ∷ us))) e) ∙ listed_push ts u (up l (tree_at s i))

pub up_ends : (s : Stored) (l m : Lookups) → IsOrdered l → m ≡ l → (ts : List Tree) (u : Tree) (o : Option ℕ) → o ≡ None → next_above m u ≡ Ok (tree_option s o)
    → listed ts (up l u) ≡ Ok (ts ++ u ∷ [])
up_ends s l m ordered k ts u o is h =
    let e = ap (λ x. next_above x u) (sym k) ∙ h ∙ ap (λ x. Ok (tree_option s x)) is in
    ap (listed ts) (up_next l ordered u ∙ ap (λ x. x >>= by_body (up l) (Ok []) >>= (λ us. Ok (u ∷ us))) e)

pub up_fault : (l m : Lookups) → IsOrdered l → m ≡ l → (t u : Tree) (ts : List Tree) (e : TypeFault) → up l t ≡ listed ts (up l u) → IsRefusal (next_above m u) e → IsRefusal (up l t) e
up_fault l m ordered k t u ts (fault.Refused c) h r =
    let e = ap (λ x. next_above x u) (sym k) ∙ r in
    h ∙ ap (listed ts) (up_next l ordered u ∙ ap (λ x. x >>= by_body (up l) (Ok []) >>= (λ us. Ok (u ∷ us))) e)
up_fault l m ordered k t u ts fault.Memory h r = tt

listed_none : (x : Result (List Tree) Code) → x ≡ listed [] x
listed_none (Ok us) = refl
listed_none (Err c) = refl

pub up_begins : (l : Lookups) (t : Tree) → up l t ≡ listed [] (up l t)
up_begins l t = listed_none (up l t)

pub all_at-append : (s : Stored) (is js : List ℕ) → all_at s (is ++ js) ≡ all_at s is ++ all_at s js
all_at-append s [] js = refl
all_at-append s (i ∷ is) js = ap (λ x. tree_at s i ∷ x) (all_at-append s is js)

pub known-append : (s : Stored) (P : Sort → Ref → Type 0) (o : Sort) (is : List ℕ) (i : ℕ) → AreKnown s P o is → IsKnown s P o i → AreKnown s P o (is ++ i ∷ [])
known-append s P o [] i h k = (k, tt)
known-append s P o (x ∷ is) i h k = (h.0, known-append s P o is i h.1 k)

pub listed_kept : {s t : Stored} {P Q : Sort → Ref → Type 0} {l m : Lookups} {D E : Development} (is : List ℕ) (i : ℕ) (js : List ℕ) → Keeps s P l t Q m D E → AreKnown s P OfType is → IsKnown s P OfType i → js ≡ is ++ i ∷ []
    → (all_at s is ++ tree_at s i ∷ []) ≡ all_at t js
listed_kept {s} {t} {P} is i js k h n e = sym (ap (all_at t) e ∙ trees_kept OfType (is ++ i ∷ []) k (known-append s P OfType is i h n) ∙ all_at-append s is (i ∷ []))

pub types_kept : {s t : Stored} {P Q : Sort → Ref → Type 0} {l m : Lookups} {D E : Development} (is : List ℕ) (i : ℕ) (js : List ℕ) → Keeps s P l t Q m D E → AreKnown s P OfType is → IsKnown s P OfType i → js ≡ is ++ i ∷ [] → AreKnown t Q OfType js
types_kept {s} {t} {P} {Q} is i js k h n e = subst (AreKnown t Q OfType) (sym e) (all_kept OfType (is ++ i ∷ []) k (known-append s P OfType is i h n))
