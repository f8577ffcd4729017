-- Where reading stops is the first fault, and there is one at most.
use Rattle.std.proofs.Common.{◌≡◌, ◌∙◌, ℕ, suc, ◌-◌, ◌<◌, ◌⊎◌, inl, inr, Bool, true, false, [], ◌∷◌, ◌++◌, length, slice_get, Option, Some, None, Result, Ok, Err, refl, sym, ap, subst, append_assoc, append-nil, length-append, arith}
use Rattle.pvs_base.specs.declared.code.Fault.{Fault}
use Rattle.pvs_base.specs.declared.place.Pos.{Pos}
use Rattle.pvs_parser.specs.declared.failure.Reason.{Reason}
use Rattle.pvs_parser.specs.declared.failure.Reason.TheVariants as reason
use Rattle.pvs_parser.specs.declared.failure.Stop.{Stop}
use Rattle.pvs_parser.specs.declared.terminal.Terminal.{Terminal}
use Rattle.pvs_parser.specs.declared.terminal.TerminalKind.TheVariants as kind
use Rattle.pvs_parser.specs.Terminals.{Is, IsId}
use Rattle.pvs_parser.specs.Language.{Tokens, Limit, language_limit}
use Rattle.pvs_parser.specs.code.Descent.{Answer}
use Rattle.pvs_parser.specs.Faults.{code_of, Begins, IsViablePrefix, IsReason, IsFaultAfter, IsFirstFaultIn}
use Rattle.pvs_parser.specs.code.Reading.{tree_or_fault, unless_fault, fault_of, fault_at}
use Rattle.pvs_parser.specs.Text.{Terminals}
use Rattle.pvs_parser.proofs.Cuts.{Cut, Agrees}
use Rattle.pvs_parser.proofs.Locality.{Paired}
use Rattle.pvs_parser.proofs.UnitLocality.{alone}

-- ---- two ways to part a list

-- the first part of one way is the same as that of the other, or goes on after it, or stops before it
pub data Parts (xs us ys vs : Tokens) : Type 0 where
  same : xs ≡ ys → us ≡ vs → Parts xs us ys vs
  shorter : (t : Terminal) (zs : Tokens) → ys ≡ xs ++ t ∷ zs → us ≡ t ∷ (zs ++ vs) → Parts xs us ys vs
  longer : (t : Terminal) (zs : Tokens) → xs ≡ ys ++ t ∷ zs → vs ≡ t ∷ (zs ++ us) → Parts xs us ys vs

heads_same : (t u : Terminal) (ts us : Tokens) → t ∷ ts ≡ u ∷ us → (t ≡ u) × (ts ≡ us)
heads_same t u ts us e = (cc, cc)

both_on : (t u : Terminal) (xs us ys vs : Tokens) → t ≡ u → Parts xs us ys vs → Parts (t ∷ xs) us (u ∷ ys) vs
both_on t u xs us ys vs e (Parts.same f g) = Parts.same (ap (λ z. z ∷ xs) e ∙ ap (λ z. u ∷ z) f) g
both_on t u xs us ys vs e (Parts.shorter w zs f g) = Parts.shorter w zs (ap (λ z. z ∷ ys) (sym e) ∙ ap (λ z. t ∷ z) f) g
both_on t u xs us ys vs e (Parts.longer w zs f g) = Parts.longer w zs (ap (λ z. z ∷ xs) e ∙ ap (λ z. u ∷ z) f) g

pub parts : (xs us ys vs : Tokens) → xs ++ us ≡ ys ++ vs → Parts xs us ys vs
parts [] us [] vs e = Parts.same refl e
parts [] us (y ∷ ys) vs e = Parts.shorter y ys refl e
parts (x ∷ xs) us [] vs e = Parts.longer x xs refl (sym e)
parts (x ∷ xs) us (y ∷ ys) vs e = let h = heads_same x y (xs ++ us) (ys ++ vs) e in both_on x y xs us ys vs h.0 (parts xs us ys vs h.1)

-- ---- fronts

begins_front : (D : Limit → Tokens → Type 0) (limit : Limit) (us vs : Tokens) → Begins D limit (us ++ vs) → Begins D limit us
begins_front D limit us vs b = (vs ++ b.0, subst (λ z. D limit z) (append_assoc us vs b.0) b.1)

-- what is within the bounds was so before
within_parts : (D : Limit → Tokens → Type 0) (us vs ws : Tokens) (t : Terminal) → Is kind.Comma t → Begins D language_limit ws → Begins D None (us ++ vs) → Parts us vs ws (t ∷ []) → IsViablePrefix D us
within_parts D us vs ws t is b n (Parts.same e f) = IsViablePrefix.begins (subst (λ z. Begins D language_limit z) (sym e) b)
within_parts D us vs ws t is b n (Parts.shorter w zs e f) = IsViablePrefix.begins (begins_front D language_limit us (w ∷ zs) (subst (λ z. Begins D language_limit z) e b))
within_parts D us [] ws t is b n (Parts.longer w [] e f) = IsViablePrefix.comma ws t (let h = heads_same t w [] [] f in e ∙ ap (λ z. ws ++ z ∷ []) (sym h.0)) is b (subst (λ z. Begins D None z) (append-nil us) n)
within_parts D us (v ∷ vs) ws t is b n (Parts.longer w [] e f) = cc
within_parts D us vs ws t is b n (Parts.longer w (z ∷ zs) e f) = cc

pub within_front : (D : Limit → Tokens → Type 0) (us vs : Tokens) → IsViablePrefix D (us ++ vs) → IsViablePrefix D us
within_front D us vs (IsViablePrefix.begins b) = IsViablePrefix.begins (begins_front D language_limit us vs b)
within_front D us vs (IsViablePrefix.comma ws t e is b n) = within_parts D us vs ws t is b n (parts us vs ws (t ∷ []) e)

-- what is within the bounds begins something without them
within_free : (D : Limit → Tokens → Type 0) → ((ts : Tokens) → D language_limit ts → D None ts) → (ts : Tokens) → IsViablePrefix D ts → Begins D None ts
within_free D wider ts (IsViablePrefix.begins b) = (b.0, wider (ts ++ b.0) b.1)
within_free D wider ts (IsViablePrefix.comma us t e is b n) = n

-- ---- at most one fault

one_why : (D : Limit → Tokens → Type 0) (E : Tokens → Type 0) (before : Tokens) (t : Terminal) (a b : Reason) → IsReason D E before t a → IsReason D E before t b → a ≡ b
one_why D E before t reason.TooNested reason.TooNested f g = refl
one_why D E before t reason.WrongEnd reason.WrongEnd f g = refl
one_why D E before t reason.Unexpected reason.Unexpected f g = refl
one_why D E before t reason.TooNested reason.WrongEnd f g = absurd (g.0 f)
one_why D E before t reason.TooNested reason.Unexpected f g = absurd (g.0 f)
one_why D E before t reason.WrongEnd reason.TooNested f g = absurd (f.0 g)
one_why D E before t reason.Unexpected reason.TooNested f g = absurd (f.0 g)
one_why D E before t reason.WrongEnd reason.Unexpected f g = absurd (g.1 f.1 f.2)
one_why D E before t reason.Unexpected reason.WrongEnd f g = absurd (f.1 g.1 g.2)

one_behind : (D : Limit → Tokens → Type 0) (E : Tokens → Type 0) (end : Pos) (fault : Option Fault) (ts before rest : Tokens) (f g : Fault) → IsFaultAfter D E end fault ts before rest f → IsFaultAfter D E end fault ts before rest g → f ≡ g
one_behind D E end fault ts before [] f g h k = h.0 ∙ sym k.0
one_behind D E end fault ts before (t ∷ rest) f g h k =
    h.3 ∙ ap (λ z. record { pos = t.word.pos; code = code_of ts (length before) t.kind z }) (one_why D E before t h.1 k.1 h.2 k.2) ∙ sym k.3

-- a token after tokens is refused, and tokens that begin so are within the bounds
refused : (D : Limit → Tokens → Type 0) (E : Tokens → Type 0) (end : Pos) (fault : Option Fault) (ts before rest us zs : Tokens) (f : Fault) (t : Terminal) → IsFaultAfter D E end fault ts before rest f → rest ≡ t ∷ us → IsViablePrefix D (before ++ t ∷ zs) → ⊥
refused D E end fault ts before [] us zs f t h e w = cc
refused D E end fault ts before (v ∷ rest) us zs f t h e w =
    let s = heads_same v t rest us e in
    h.0 (within_front D (before ++ v ∷ []) zs (subst (λ z. IsViablePrefix D z) (ap (λ z. before ++ z ∷ zs) (sym s.0) ∙ sym (append_assoc before (v ∷ []) zs)) w))

one_parts : (D : Limit → Tokens → Type 0) (E : Tokens → Type 0) (end : Pos) (fault : Option Fault) (ts : Tokens) (f g : Fault) (a : IsFirstFaultIn D E end fault ts f) (b : IsFirstFaultIn D E end fault ts g) → Parts a.before a.rest b.before b.rest → f ≡ g
one_parts D E end fault ts f g a b (Parts.same e e2) =
    one_behind D E end fault ts b.before b.rest f g (subst (λ z. IsFaultAfter D E end fault ts b.before z f) e2 (subst (λ z. IsFaultAfter D E end fault ts z a.rest f) e a.fault_after)) b.fault_after
one_parts D E end fault ts f g a b (Parts.shorter t zs e e2) = absurd (refused D E end fault ts a.before a.rest (zs ++ b.rest) zs f t a.fault_after e2 (subst (λ z. IsViablePrefix D z) e b.within))
one_parts D E end fault ts f g a b (Parts.longer t zs e e2) = absurd (refused D E end fault ts b.before b.rest (zs ++ a.rest) zs g t b.fault_after e2 (subst (λ z. IsViablePrefix D z) e a.within))

pub one_first : (D : Limit → Tokens → Type 0) (E : Tokens → Type 0) (end : Pos) (fault : Option Fault) (ts : Tokens) (f g : Fault) → IsFirstFaultIn D E end fault ts f → IsFirstFaultIn D E end fault ts g → f ≡ g
one_first D E end fault ts f g a b = one_parts D E end fault ts f g a b (parts a.before a.rest b.before b.rest (sym a.split ∙ b.split))

-- what is read whole has no fault
no_behind : (D : Limit → Tokens → Type 0) (E : Tokens → Type 0) (end : Pos) (fault : Option Fault) (ts before rest : Tokens) (f : Fault) → fault ≡ None → D language_limit ts → ts ≡ before ++ rest → IsFaultAfter D E end fault ts before rest f → ⊥
no_behind D E end fault ts before [] f none d e h = h.1 none d
no_behind D E end fault ts before (t ∷ rest) f none d e h =
    h.0 (IsViablePrefix.begins (rest, subst (λ z. D language_limit z) (e ∙ sym (append_assoc before (t ∷ []) rest)) d))

pub no_first : (D : Limit → Tokens → Type 0) (E : Tokens → Type 0) (end : Pos) (fault : Option Fault) (ts : Tokens) (f : Fault) → fault ≡ None → D language_limit ts → IsFirstFaultIn D E end fault ts f → ⊥
no_first D E end fault ts f none d a = no_behind D E end fault ts a.before a.rest f none d a.split a.fault_after

-- ---- where reading stops

-- what is said of the tokens after those that can be completed
abbrev pub HaltWhy : (Limit → Tokens → Type 0) → (Tokens → Type 0) → Tokens → Tokens → Reason → Type 0
HaltWhy D E before rest reason.TooNested = (t : Terminal) × (more : Tokens) × (rest ≡ t ∷ more) × (t.kind ≡ kind.Comma → ⊥) × Begins D None (before ++ t ∷ [])
HaltWhy D E before rest reason.WrongEnd = (t : Terminal) × (more : Tokens) × (rest ≡ t ∷ more) × IsId t × E before
HaltWhy D E before rest reason.Unexpected = (t : Terminal) (more : Tokens) → rest ≡ t ∷ more → IsId t → E before → ⊥

pub record HaltsAt (D : Limit → Tokens → Type 0) (E : Tokens → Type 0) (ts : Tokens) (e : Stop) : Type 0 where
  pub before : Tokens
  pub rest : Tokens
  pub split : ts ≡ before ++ rest
  pub left : length rest ≡ e.left
  pub within : IsViablePrefix D before
  pub why : HaltWhy D E before rest e.reason

-- a way of reading what is in the grammar
pub record Reading {A : Type 0} (D : Limit → Tokens → Type 0) (E : Tokens → Type 0) (read : Limit → Tokens → Answer A) : Type 0 where
  pub wider : (ts : Tokens) → D language_limit ts → D None ts
  pub sound : (ts : Tokens) (x : A) → read language_limit ts ≡ Ok x → D language_limit ts
  pub complete : (ts : Tokens) → D language_limit ts → (x : A) × (read language_limit ts ≡ Ok x)
  pub free : (ts : Tokens) → D None ts → (x : A) × (read None ts ≡ Ok x)
  pub local : (cut : Cut) (a b : Limit) → Paired cut a b → (q : Tokens) → Agrees cut alone (length q) (read a (q ++ cut.here)) (read b (q ++ cut.there))
  pub halts : (ts : Tokens) (e : Stop) → read language_limit ts ≡ Err e → HaltsAt D E ts e

-- that a text nests too deep is excused, or nothing is
nested : Reason → Bool
nested reason.TooNested = true
nested _ = false

paired_free : (here there : Tokens) → Paired (record { here = here; there = there; excused = nested }) language_limit None
unfolding nested
paired_free here there = record {
  rooms = record { wider = λ n e. refl; tight = λ n e. inl refl };
  lists = (200, refl, inr (refl, refl));
  some = λ t ts. omega arith;
}

nothing_excused : Reason → Bool
nothing_excused why = false

paired_same : (here there : Tokens) → Paired (record { here = here; there = there; excused = nothing_excused }) language_limit language_limit
paired_same here there = record {
  rooms = record { wider = λ n e. e; tight = λ n e. inr e };
  lists = (200, refl, inl refl);
  some = λ t ts. omega arith;
}

-- a reading that stops before the cut, while another one does not, is excused
not_read : {A : Type 0} (cut : Cut) (n : ℕ) (e : Stop) (x : A) (o p : Answer A) → o ≡ Err e → p ≡ Ok x → length cut.here < e.left → Agrees cut alone n o p → cut.excused e.reason ≡ true
not_read cut n e x o p f g lt h = of (subst (λ z. Agrees cut alone n z (Ok x)) f (subst (λ z. Agrees cut alone n o z) g h)) where
  of : Agrees cut alone n (Err e) (Ok x) → cut.excused e.reason ≡ true
  of (inl h) = absurd (omega (arith, h, lt))
  of (inr (inl h)) = h
  of (inr (inr h)) = cc

left_more : (rest more : Tokens) (t : Terminal) (n : ℕ) → rest ≡ t ∷ more → length rest ≡ n → length more < n
left_more rest more t n e f = omega (arith, ap length e, f)

-- after these tokens, another one
pushed : (ts before rest more : Tokens) (t : Terminal) → ts ≡ before ++ rest → rest ≡ t ∷ more → ts ≡ (before ++ t ∷ []) ++ more
pushed ts before rest more t e f = e ∙ ap (λ z. before ++ z) f ∙ sym (append_assoc before (t ∷ []) more)

-- without the bounds the token could not stand there, or it nests too deep
not_free : {A : Type 0} (D : Limit → Tokens → Type 0) (E : Tokens → Type 0) (read : Limit → Tokens → Answer A) → Reading D E read → (ts before rest more : Tokens) (t : Terminal) (e : Stop) → ts ≡ before ++ rest → rest ≡ t ∷ more → length rest ≡ e.left → read language_limit ts ≡ Err e
    → Begins D None (before ++ t ∷ []) → nested e.reason ≡ true
not_free D E read r ts before rest more t e split f left stop b =
    let x = r.free ((before ++ t ∷ []) ++ b.0) b.1 in
    not_read (record { here = more; there = b.0; excused = nested }) (length (before ++ t ∷ [])) e x.0 (read language_limit ((before ++ t ∷ []) ++ more)) (read None ((before ++ t ∷ []) ++ b.0))
    (ap (read language_limit) (sym (pushed ts before rest more t split f)) ∙ stop) x.1 (left_more rest more t e.left f left)
    (r.local (record { here = more; there = b.0; excused = nested }) language_limit None (paired_free more b.0) (before ++ t ∷ []))

-- within the bounds the token could not stand there
not_bounded : {A : Type 0} (D : Limit → Tokens → Type 0) (E : Tokens → Type 0) (read : Limit → Tokens → Answer A) → Reading D E read → (ts before rest more : Tokens) (t : Terminal) (e : Stop) → ts ≡ before ++ rest → rest ≡ t ∷ more → length rest ≡ e.left → read language_limit ts ≡ Err e
    → Begins D language_limit (before ++ t ∷ []) → nothing_excused e.reason ≡ true
not_bounded D E read r ts before rest more t e split f left stop b =
    let x = r.complete ((before ++ t ∷ []) ++ b.0) b.1 in
    not_read (record { here = more; there = b.0; excused = nothing_excused }) (length (before ++ t ∷ [])) e x.0 (read language_limit ((before ++ t ∷ []) ++ more)) (read language_limit ((before ++ t ∷ []) ++ b.0))
    (ap (read language_limit) (sym (pushed ts before rest more t split f)) ∙ stop) x.1 (left_more rest more t e.left f left)
    (r.local (record { here = more; there = b.0; excused = nothing_excused }) language_limit language_limit (paired_same more b.0) (before ++ t ∷ []))

none_excused : (why : Reason) → nothing_excused why ≡ true → ⊥
unfolding nothing_excused
none_excused why e = cc

not_nested : (why : Reason) → (why ≡ reason.Unexpected) ⊎ (why ≡ reason.WrongEnd) → nested why ≡ true → ⊥
unfolding nested
not_nested reason.Unexpected e f = cc
not_nested reason.WrongEnd e f = cc
not_nested reason.TooNested (inl e) f = cc
not_nested reason.TooNested (inr e) f = cc

last_same : (us vs : Tokens) (t u : Terminal) → us ++ t ∷ [] ≡ vs ++ u ∷ [] → t ≡ u
last_same [] [] t u e = cc
last_same [] (v ∷ vs) t u e = absurd (too_long (ap length e)) where
  too_long : 1 ≡ suc (length (vs ++ u ∷ [])) → ⊥
  too_long f = omega (arith, f, length-append vs (u ∷ []))
last_same (v ∷ us) [] t u e = absurd (too_long (ap length e)) where
  too_long : suc (length (us ++ t ∷ [])) ≡ 1 → ⊥
  too_long f = omega (arith, f, length-append us (t ∷ []))
last_same (v ∷ us) (w ∷ vs) t u e = let h = heads_same v w (us ++ t ∷ []) (vs ++ u ∷ []) e in last_same us vs t u h.1

-- with a token that is refused the tokens are not within the bounds
not_within : (D : Limit → Tokens → Type 0) (before : Tokens) (t : Terminal) → (Begins D language_limit (before ++ t ∷ []) → ⊥) → (t.kind ≡ kind.Comma → ⊥) → IsViablePrefix D (before ++ t ∷ []) → ⊥
not_within D before t never comma (IsViablePrefix.begins b) = never b
not_within D before t never comma (IsViablePrefix.comma us u e is b n) = comma (let same = last_same before us t u e in ap (λ z. z.kind) same ∙ is)

-- the token where reading stops, by the reason
refused_at : {A : Type 0} (D : Limit → Tokens → Type 0) (E : Tokens → Type 0) (read : Limit → Tokens → Answer A) → Reading D E read → (ts before rest more : Tokens) (t : Terminal) (e : Stop) → ts ≡ before ++ rest → rest ≡ t ∷ more → length rest ≡ e.left → read language_limit ts ≡ Err e
    → (why : Reason) → e.reason ≡ why → HaltWhy D E before rest why → (IsViablePrefix D (before ++ t ∷ []) → ⊥) × IsReason D E before t why
refused_at D E read r ts before rest more t e split f left stop reason.TooNested is h =
    let same = heads_same h.0 t h.1 more (sym h.2 ∙ f) in (
      not_within D before t (λ b. none_excused e.reason (not_bounded D E read r ts before rest more t e split f left stop b)) (subst (λ z. z.kind ≡ kind.Comma → ⊥) same.0 h.3),
      subst (λ z. Begins D None (before ++ z ∷ [])) same.0 h.4,
    )
refused_at D E read r ts before rest more t e split f left stop reason.WrongEnd is h =
    let never : Begins D None (before ++ t ∷ []) → ⊥ = λ b. not_nested e.reason (inr is) (not_free D E read r ts before rest more t e split f left stop b) in
    let same = heads_same h.0 t h.1 more (sym h.2 ∙ f) in
    (λ w. never (within_free D r.wider (before ++ t ∷ []) w), (never, subst (λ z. IsId z) same.0 h.3, h.4))
refused_at D E read r ts before rest more t e split f left stop reason.Unexpected is h =
    let never : Begins D None (before ++ t ∷ []) → ⊥ = λ b. not_nested e.reason (inl is) (not_free D E read r ts before rest more t e split f left stop b) in
    (λ w. never (within_free D r.wider (before ++ t ∷ []) w), (never, h t more f))

-- the number of a token after others
at_number : (before more : Tokens) (t : Terminal) → slice_get (before ++ t ∷ more) (length before) ≡ Some t
at_number [] more t = refl
at_number (v ∷ before) more t = at_number before more t

past_end : (ts : Tokens) → slice_get ts (length ts) ≡ None
past_end [] = refl
past_end (t ∷ ts) = past_end ts

err_is_no_ok : {A : Type 0} (e : Stop) (x : A) (o : Answer A) → o ≡ Err e → o ≡ Ok x → ⊥
err_is_no_ok e x o f g = cc

err_same : {A : Type 0} (o : Result A Fault) (a b : Fault) → o ≡ Err a → o ≡ Err b → a ≡ b
err_same o a b f g = cc

-- what stands after the tokens that can be completed
fault_behind : {A : Type 0} (D : Limit → Tokens → Type 0) (E : Tokens → Type 0) (read : Limit → Tokens → Answer A) → Reading D E read → (end : Pos) (fault : Option Fault) (ts : Tokens) (e : Stop) → read language_limit ts ≡ Err e → (before rest : Tokens) → ts ≡ before ++ rest → length rest ≡ e.left
    → HaltWhy D E before rest e.reason → IsFaultAfter D E end fault ts before rest (fault_of end fault ts e)
fault_behind D E read r end fault ts e stop before [] split left why = (
  ap (λ z. fault_at end fault ts z e.reason (slice_get ts z)) (number_is (length ts - e.left) (omega (arith, left))) ∙ ap (λ z. fault_at end fault ts (length ts) e.reason z) (past_end ts),
  λ none d. let x = r.complete ts d in err_is_no_ok e x.0 (read language_limit ts) stop x.1,
) where
  number_is : (n : ℕ) → n ≡ length ts → length ts - e.left ≡ length ts
  number_is n f = omega (arith, left)
fault_behind D E read r end fault ts e stop before (t ∷ more) split left why =
    let h = refused_at D E read r ts before (t ∷ more) more t e split refl left stop e.reason refl why in
    (h.0, e.reason, h.1, ap (λ z. fault_at end fault ts z e.reason (slice_get ts z)) number_is ∙ ap (λ z. fault_at end fault ts (length before) e.reason z) token_is) where
      number_is : length ts - e.left ≡ length before
      number_is = omega (arith, left, ap length split, length-append before (t ∷ more))

      token_is : slice_get ts (length before) ≡ Some t
      token_is = ap (λ z. slice_get z (length before)) split ∙ at_number before more t

stop_first : {A : Type 0} (D : Limit → Tokens → Type 0) (E : Tokens → Type 0) (read : Limit → Tokens → Answer A) → Reading D E read → (end : Pos) (fault : Option Fault) (ts : Tokens) (e : Stop) → read language_limit ts ≡ Err e → IsFirstFaultIn D E end fault ts (fault_of end fault ts e)
stop_first D E read r end fault ts e stop =
    let h = r.halts ts e stop in
    record { before = h.before; rest = h.rest; split = h.split; within = h.within; fault_after = fault_behind D E read r end fault ts e stop h.before h.rest h.split h.left h.why }

lexical_first : (D : Limit → Tokens → Type 0) (E : Tokens → Type 0) (end : Pos) (ts : Tokens) (f : Fault) → D language_limit ts → IsFirstFaultIn D E end (Some f) ts f
lexical_first D E end ts f d = record { before = ts; rest = []; split = sym (append-nil ts); within = IsViablePrefix.begins ([], subst (λ z. D language_limit z) (sym (append-nil ts)) d); fault_after = (refl, λ e. cc) }

-- what is judged of an answer
judged_first : {A : Type 0} (D : Limit → Tokens → Type 0) (E : Tokens → Type 0) (read : Limit → Tokens → Answer A) → Reading D E read → (end : Pos) (ts : Terminals) (o : Answer A) → read language_limit ts.tokens ≡ o → (f : Fault) → tree_or_fault end ts o ≡ Err f → IsFirstFaultIn D E end ts.fault ts.tokens f
judged_first D E read r end ts (Err e) stop f h = subst (λ z. IsFirstFaultIn D E end ts.fault ts.tokens z) (err_same (tree_or_fault end ts (Err e)) (fault_of end ts.fault ts.tokens e) f refl h) (stop_first D E read r end ts.fault ts.tokens e stop)
judged_first D E read r end ts (Ok x) stop f h = of ts.fault h where
  of : (o : Option Fault) → unless_fault o x ≡ Err f → IsFirstFaultIn D E end o ts.tokens f
  of None g = cc
  of (Some a) g = subst (λ z. IsFirstFaultIn D E end (Some a) ts.tokens z) (err_same (unless_fault (Some a) x) a f refl g) (lexical_first D E end ts.tokens a (r.sound ts.tokens x stop))

-- the fault where reading stops is the first one
pub first_fault : {A : Type 0} (D : Limit → Tokens → Type 0) (E : Tokens → Type 0) (read : Limit → Tokens → Answer A) → Reading D E read → (end : Pos) (ts : Terminals) (f : Fault) → tree_or_fault end ts (read language_limit ts.tokens) ≡ Err f → IsFirstFaultIn D E end ts.fault ts.tokens f
first_fault D E read r end ts f h = judged_first D E read r end ts (read language_limit ts.tokens) refl f h
