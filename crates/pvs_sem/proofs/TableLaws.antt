-- Tables in one set of tables and in another.
use Rattle.std.proofs.Common.{◌≡◌, inl, inr, Bool, true, false, cond, List, [], ◌∷◌, refl, ap, ◌∙◌, sym, subst}
use Rattle.pvs_sem.specs.Value.{Value, EmptyTable, Row, IsMember, IsAscending, value_less, value_eq, result_at, tables}
use Rattle.pvs_sem.proofs.SetLaws.{value_eq-true, value_eq-same, member_rows, rows_member, IsRow}
use Rattle.pvs_sem.proofs.OrderLaws.{less_irreflexive}

-- a table stays one where the sets of results are larger
pub tables_wider : (b c : Value → List Value) (f : Value) (xs : List Value) → IsMember f (tables xs b)
    → ((v w : Value) → IsMember v xs → IsMember w (b v) → IsMember w (c v)) → IsMember f (tables xs c)
tables_wider b c f [] h k = h
tables_wider b c f (x ∷ xs) h k =
    let r = member_rows f x (b x) (tables xs b) h in
    subst (λ g. IsMember g (tables (x ∷ xs) c)) (sym r.is)
    (rows_member x r.result r.rest (c x) (tables xs c) (k x r.result (inl refl) r.result_in)
    (tables_wider b c r.rest xs r.rest_in (λ v w m. k v w (inr m))))

-- a table is in each set of tables that its results allow
pub tables_by_results : (b c : Value → List Value) (f : Value) (xs : List Value) → IsAscending xs → IsMember f (tables xs b)
    → ((v : Value) → IsMember v xs → IsMember (result_at f v) (c v)) → IsMember f (tables xs c)
tables_by_results b c f [] a h k = h
tables_by_results b c f (x ∷ xs) a h k = go (member_rows f x (b x) (tables xs b) h) (λ r. tables_by_results b c r.rest xs a.1 r.rest_in)
  where
    later : (r : IsRow f x (b x) (tables xs b)) → (v : Value) → IsMember v xs → (t : Bool) → value_eq x v ≡ t
        → IsMember (result_at r.rest v) (c v)
    later r v m true e = absurd (less_irreflexive v (subst (λ y. value_less y v ≡ true) (value_eq-true x v e) (a.0 v m)))
    later r v m false e =
        let at : result_at f v ≡ result_at r.rest v = ap (λ g. result_at g v) r.is ∙ ap (λ t. cond t r.result (result_at r.rest v)) e in
        subst (λ w. IsMember w (c v)) at (k v (inr m))

    go : (r : IsRow f x (b x) (tables xs b))
        → ((r : IsRow f x (b x) (tables xs b)) → ((v : Value) → IsMember v xs → IsMember (result_at r.rest v) (c v))
        → IsMember r.rest (tables xs c)) → IsMember f (tables (x ∷ xs) c)
    go r ih =
        let first : result_at f x ≡ r.result = ap (λ g. result_at g x) r.is
        ∙ ap (λ t. cond t r.result (result_at r.rest x)) (value_eq-same x) in
        subst (λ g. IsMember g (tables (x ∷ xs) c)) (sym r.is)
        (rows_member x r.result r.rest (c x) (tables xs c) (subst (λ w. IsMember w (c x)) first (k x (inl refl)))
        (ih r (λ v m. later r v m (value_eq x v) refl)))

-- a table into nonempty sets
pub some_table : (f : Value → List Value) (xs : List Value) → ((v : Value) → (w : Value) × IsMember w (f v))
    → (t : Value) × IsMember t (tables xs f)
some_table f [] k = (EmptyTable, inl refl)
some_table f (x ∷ xs) k =
    let r = k x in
    let t = some_table f xs k in
    (Row x r.0 t.0, rows_member x r.0 t.0 (f x) (tables xs f) r.1 t.1)
