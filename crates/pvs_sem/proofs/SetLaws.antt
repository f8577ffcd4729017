-- Members of the sets that types stand for.
use Rattle.std.proofs.Common.{◌≡◌, ◌⊎◌, inl, inr, Bool, true, false, ◌&&◌, cond, eq-eqb, List, [], ◌∷◌, ◌++◌, map, refl, ap, ◌∙◌, sym, subst}
use Rattle.std.proofs.lemmas.Bool.{eqb-true, true≢false}
use Rattle.std.specs.List.{list_all}
use Rattle.pvs_sem.specs.Value.{Value, Truth, Atom, Pair, EmptyTable, Row, bool_eq, value_eq, result_at, has_argument, table, rows, tables, subset, IsMember}
use Rattle.pvs_terms.proofs.TreeLaws.{both, all_true}

bool_eq-true : (a b : Bool) → bool_eq a b ≡ true → a ≡ b
bool_eq-true true true h = refl
bool_eq-true true false h = cc
bool_eq-true false true h = cc
bool_eq-true false false h = refl

bool_eq-same : (a : Bool) → bool_eq a a ≡ true
bool_eq-same true = refl
bool_eq-same false = refl

pub value_eq-true : (v w : Value) → value_eq v w ≡ true → v ≡ w
value_eq-true (Truth a) (Truth b) h = ap Truth (bool_eq-true a b h)
value_eq-true (Atom m) (Atom n) h = ap Atom (eqb-true m n h)
value_eq-true (Pair a b) (Pair c d) h =
    let x = both (value_eq a c) (value_eq b d) h in
    let e = value_eq-true a c x.0 in
    let f = value_eq-true b d x.1 in cc
value_eq-true EmptyTable EmptyTable h = refl
value_eq-true (Row a b c) (Row u v w) h =
    let x = both (value_eq a u) (value_eq b v && value_eq c w) h in
    let y = both (value_eq b v) (value_eq c w) x.1 in
    let e = value_eq-true a u x.0 in
    let f = value_eq-true b v y.0 in
    let g = value_eq-true c w y.1 in cc
value_eq-true _ _ h = cc

pub value_eq-same : (v : Value) → value_eq v v ≡ true
value_eq-same (Truth a) = bool_eq-same a
value_eq-same (Atom n) = eq-eqb n n refl
value_eq-same (Pair a b) = all_true (value_eq-same a) (value_eq-same b)
value_eq-same EmptyTable = refl
value_eq-same (Row a b c) = all_true (value_eq-same a) (all_true (value_eq-same b) (value_eq-same c))

-- a test by its outcome
pub cases_of : (b : Bool) → (b ≡ true) ⊎ (b ≡ false)
cases_of true = inl refl
cases_of false = inr refl

subset_step : (p : Value → Bool) (x : Value) (xs : List Value) (b : Bool) → p x ≡ b
    → subset p (x ∷ xs) ≡ cond b (x ∷ subset p xs) (subset p xs)
subset_step p x xs b h = ap (λ c. cond c (x ∷ subset p xs) (subset p xs)) h

pub member_subset : (p : Value → Bool) (v : Value) (xs : List Value) → IsMember v (subset p xs) → IsMember v xs × (p v ≡ true)
member_subset p v [] h = absurd h
member_subset p v (x ∷ xs) h = go (p x) refl (member_subset p v xs) h
  where
    go : (b : Bool) → p x ≡ b → (IsMember v (subset p xs) → IsMember v xs × (p v ≡ true))
        → IsMember v (cond b (x ∷ subset p xs) (subset p xs)) → IsMember v (x ∷ xs) × (p v ≡ true)
    go true e ih (inl q) = (inl q, ap p q ∙ e)
    go true e ih (inr q) = (inr (ih q).0, (ih q).1)
    go false e ih q = (inr (ih q).0, (ih q).1)

pub subset_member : (p : Value → Bool) (v : Value) (xs : List Value) → IsMember v xs → p v ≡ true → IsMember v (subset p xs)
subset_member p v [] h e = h
subset_member p v (x ∷ xs) h e = go (p x) refl (λ m. subset_member p v xs m e) h
  where
    go : (b : Bool) → p x ≡ b → (IsMember v xs → IsMember v (subset p xs)) → IsMember v (x ∷ xs)
        → IsMember v (cond b (x ∷ subset p xs) (subset p xs))
    go true f ih (inl q) = inl q
    go true f ih (inr q) = inr (ih q)
    go false f ih (inl q) = absurd (true≢false (sym e ∙ ap p q ∙ f))
    go false f ih (inr q) = ih q

pub list_all_member : (p : Value → Bool) (v : Value) (xs : List Value) → list_all p xs ≡ true → IsMember v xs → p v ≡ true
list_all_member p v [] h m = absurd m
list_all_member p v (x ∷ xs) h (inl q) = ap p q ∙ (both (p x) (list_all p xs) h).0
list_all_member p v (x ∷ xs) h (inr q) = list_all_member p v xs (both (p x) (list_all p xs) h).1 q

pub list_all_from : (p : Value → Bool) (xs : List Value) → ((v : Value) → IsMember v xs → p v ≡ true) → list_all p xs ≡ true
list_all_from p [] h = refl
list_all_from p (x ∷ xs) h = all_true (h x (inl refl)) (list_all_from p xs (λ v m. h v (inr m)))

pub member_append : (v : Value) (xs ys : List Value) → IsMember v (xs ++ ys) → IsMember v xs ⊎ IsMember v ys
member_append v [] ys h = inr h
member_append v (x ∷ xs) ys (inl q) = inl (inl q)
member_append v (x ∷ xs) ys (inr q) = elim (member_append v xs ys q) [ inl a ↦ inl (inr a) | inr b ↦ inr b ]

pub append_left : (v : Value) (xs ys : List Value) → IsMember v xs → IsMember v (xs ++ ys)
append_left v [] ys h = absurd h
append_left v (x ∷ xs) ys (inl q) = inl q
append_left v (x ∷ xs) ys (inr q) = inr (append_left v xs ys q)

pub append_right : (v : Value) (xs ys : List Value) → IsMember v ys → IsMember v (xs ++ ys)
append_right v [] ys h = h
append_right v (x ∷ xs) ys h = inr (append_right v xs ys h)

pub member_map : (f : Value → Value) (v : Value) (xs : List Value) → IsMember v (map f xs) → (x : Value) × (v ≡ f x) × IsMember x xs
member_map f v [] h = absurd h
member_map f v (x ∷ xs) (inl q) = (x, q, inl refl)
member_map f v (x ∷ xs) (inr q) = let r = member_map f v xs q in (r.0, r.1, inr r.2)

pub map_member : (f : Value → Value) (x : Value) (xs : List Value) → IsMember x xs → IsMember (f x) (map f xs)
map_member f x [] h = h
map_member f x (y ∷ xs) (inl q) = inl (ap f q)
map_member f x (y ∷ xs) (inr q) = inr (map_member f x xs q)

-- a table that begins with a row of this argument
pub record IsRow (f v : Value) (ws rests : List Value) : Type 0 where
  pub result : Value
  pub rest : Value
  pub is : f ≡ Row v result rest
  pub result_in : IsMember result ws
  pub rest_in : IsMember rest rests

pub member_rows : (f v : Value) (ws rests : List Value) → IsMember f (rows v ws rests) → IsRow f v ws rests
member_rows f v [] rests h = absurd h
member_rows f v (w ∷ ws) rests h = go (member_rows f v ws rests) (member_append f (map (λ rest. Row v w rest) rests) (rows v ws rests) h)
  where
    go : (IsMember f (rows v ws rests) → IsRow f v ws rests)
        → IsMember f (map (λ rest. Row v w rest) rests) ⊎ IsMember f (rows v ws rests) → IsRow f v (w ∷ ws) rests
    go ih (inl a) = let r = member_map (λ rest. Row v w rest) f rests a in record
        { result = w; rest = r.0; is = r.1; result_in = inl refl; rest_in = r.2 }
    go ih (inr b) = let r = ih b in record { result = r.result; rest = r.rest; is = r.is; result_in = inr r.result_in; rest_in = r.rest_in }

pub rows_member : (v w rest : Value) (ws rests : List Value) → IsMember w ws → IsMember rest rests
    → IsMember (Row v w rest) (rows v ws rests)
rows_member v w rest [] rests h k = h
rows_member v w rest (x ∷ ws) rests (inl q) k = append_left (Row v w rest) (map (λ r. Row v x r) rests) (rows v ws rests)
    (subst (λ y. IsMember (Row v y rest) (map (λ r. Row v x r) rests)) (sym q) (map_member (λ r. Row v x r) rest rests k))
rows_member v w rest (x ∷ ws) rests (inr q) k = append_right (Row v w rest) (map (λ r. Row v x r) rests) (rows v ws rests)
    (rows_member v w rest ws rests q k)

-- the table of a function is among the tables
pub table_in : (f : Value → Value) (b : Value → List Value) (xs : List Value) → ((v : Value) → IsMember v xs → IsMember (f v) (b v))
    → IsMember (table xs f) (tables xs b)
table_in f b [] h = inl refl
table_in f b (x ∷ xs) h = rows_member x (f x) (table xs f) (b x) (tables xs b) (h x (inl refl)) (table_in f b xs (λ v m. h v (inr m)))

-- what a table has at a member
pub record HasResult (f v : Value) (ws : List Value) : Type 0 where
  pub in_set : IsMember (result_at f v) ws
  pub defined : has_argument f v ≡ true

pub result_in : (b : Value → List Value) (f v : Value) (xs : List Value) → IsMember f (tables xs b) → IsMember v xs → HasResult f v (b v)
result_in b f v [] h m = absurd m
result_in b f v (x ∷ xs) h m = go (member_rows f x (b x) (tables xs b) h) (λ r. result_in b r.rest v xs r.rest_in) m
  where
    hit : (r : IsRow f x (b x) (tables xs b)) → x ≡ v → HasResult (Row x r.result r.rest) v (b v)
    hit r e =
        let same : value_eq x v ≡ true = ap (value_eq x) (sym e) ∙ value_eq-same x in
        record { in_set = rw same (subst (λ y. IsMember r.result (b y)) e r.result_in); defined = rw same refl }

    miss : (r : IsRow f x (b x) (tables xs b)) → HasResult r.rest v (b v) → (c : Bool) → value_eq x v ≡ c
        → HasResult (Row x r.result r.rest) v (b v)
    miss r k true e = hit r (value_eq-true x v e)
    miss r k false e = record { in_set = rw e k.in_set; defined = rw e k.defined }

    go : IsRow f x (b x) (tables xs b) → ((r : IsRow f x (b x) (tables xs b)) → IsMember v xs → HasResult r.rest v (b v))
        → IsMember v (x ∷ xs) → HasResult f v (b v)
    go r ih (inl q) = subst (λ g. HasResult g v (b v)) (sym r.is) (hit r (sym q))
    go r ih (inr q) = subst (λ g. HasResult g v (b v)) (sym r.is) (miss r (ih r q) (value_eq x v) refl)

-- the table of a function gives its results
pub result_at-table : (f : Value → Value) (v : Value) (xs : List Value) → IsMember v xs → result_at (table xs f) v ≡ f v
result_at-table f v [] m = absurd m
result_at-table f v (x ∷ xs) m = go (value_eq x v) refl (result_at-table f v xs) m
  where
    go : (c : Bool) → value_eq x v ≡ c → (IsMember v xs → result_at (table xs f) v ≡ f v) → IsMember v (x ∷ xs)
        → cond c (f x) (result_at (table xs f) v) ≡ f v
    go true e ih m = ap f (value_eq-true x v e)
    go false e ih (inl q) = absurd (true≢false (sym (ap (value_eq x) q ∙ value_eq-same x) ∙ e))
    go false e ih (inr q) = ih q
