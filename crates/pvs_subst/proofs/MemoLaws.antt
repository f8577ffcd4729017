-- What was made of parts stays right where the store grows, and where one part more is noted.
use Rattle.std.proofs.Common.{◌≡◌, ℕ, List, [], Bool, true, false, cond, Some, eqb, refl, sym, ap, ap₂, ◌∙◌, subst}
use Rattle.std.proofs.lemmas.Bool.{eqb-true}
use Rattle.std.proofs.lemmas.Option.{same_Some}
use Rattle.pvs_terms.specs.Tree.{Tree}
use Rattle.pvs_terms.specs.Stored.{Stored, tree_at, trees_at, text_at, IsNode, Extends, Stands}
use Rattle.pvs_terms.proofs.StoredLaws.{stands_extends, trees_at-extends}
use Rattle.pvs_terms.proofs.TreeLaws.{both}
use Rattle.pvs_subst.specs.declared.memo.Part.{Part}
use Rattle.pvs_subst.specs.Instances.{IsInstance}
use Rattle.pvs_subst.specs.code.Memo.{part_eq, made_of, IsMade, Remembers, puts, instances}

part_eq-true : (p q : Part) → part_eq p q ≡ true → p ≡ q
part_eq-true p q h =
    let x = both (eqb p.id q.id) (eqb p.depth q.depth) h in
    ap₂ (λ i d. record { id = i; depth = d }) (eqb-true p.id q.id x.0) (eqb-true p.depth q.depth x.1)

made_extends : {s t : Stored} {f : Tree → ℕ → Tree} {p : Part} {i : ℕ} → Extends s t → IsMade s f p i → IsMade t f p i
made_extends {s} {t} {f} {p} {i} x h = record {
  node = x.nodes p.id h.node;
  stands = subst (λ u. Stands t (f u p.depth) i) (sym (x.trees p.id h.node)) (stands_extends x h.stands);
}

pub remembers_nothing : (s : Stored) (f : Tree → ℕ → Tree) → Remembers s f []
remembers_nothing s f = record { made = λ p i h. cc }

-- where the store grows
pub remembers_extends : {s t : Stored} {f : Tree → ℕ → Tree} {m : List (Part × ℕ)} → Extends s t → Remembers s f m → Remembers t f m
remembers_extends x r = record { made = λ p i h. made_extends x (r.made p i h) }

pub puts_remembered : {s t : Stored} {m : List (Part × ℕ)} (arg : ℕ) → Extends s t → IsNode s arg → Remembers s (puts (tree_at s arg)) m → Remembers t (puts (tree_at t arg)) m
puts_remembered {s} {t} {m} arg x h r = subst (λ u. Remembers t (puts u) m) (sym (x.trees arg h)) (remembers_extends x r)

pub instances_remembered : {s t : Stored} {m : List (Part × ℕ)} {th : ℕ} {acts : List ℕ} → Extends s t → IsInstance s th acts → Remembers s (instances (text_at s th) (trees_at s acts)) m → Remembers t (instances (text_at t th) (trees_at t acts)) m
instances_remembered {s} {t} {m} {th} {acts} x g r = rw (x.texts th g.theory, trees_at-extends s t acts x g.actuals) (remembers_extends x r)

-- one part more
pub remembers_put : {s : Stored} {f : Tree → ℕ → Tree} {m n : List (Part × ℕ)} (part : Part) (made : ℕ) → Remembers s f m → IsMade s f part made → ((p : Part) → made_of n p ≡ cond (part_eq part p) (Some made) (made_of m p)) → Remembers s f n
remembers_put {s} {f} {m} {n} part made r new h = record { made = λ p i e. go p i (part_eq part p) refl (sym (h p) ∙ e) }
  where
    go : (p : Part) (i : ℕ) (b : Bool) → part_eq part p ≡ b → cond (part_eq part p) (Some made) (made_of m p) ≡ Some i → IsMade s f p i
    go p i true e k =
        let same : part ≡ p = part_eq-true part p e in
        let at : made ≡ i = same_Some made i (sym (ap (λ b. cond b (Some made) (made_of m p)) e) ∙ k) in
        subst (λ j. IsMade s f p j) at (subst (λ q. IsMade s f q made) same new)
    go p i false e k = r.made p i (sym (ap (λ b. cond b (Some made) (made_of m p)) e) ∙ k)

-- the same where the part stood before
pub remembers_made : {s t : Stored} {f : Tree → ℕ → Tree} {m n : List (Part × ℕ)} (part : Part) (made : ℕ) → Extends s t → IsNode s part.id → Remembers t f m → Stands t (f (tree_at s part.id) part.depth) made → ((p : Part) → made_of n p ≡ cond (part_eq part p) (Some made) (made_of m p)) → Remembers t f n
remembers_made {s} {t} {f} part made x h r st = remembers_put part made r (record {
  node = x.nodes part.id h;
  stands = subst (λ u. Stands t (f u part.depth) made) (sym (x.trees part.id h)) st;
})
