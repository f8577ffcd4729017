-- Laws of sequents of numbers and what they stand for.
use Rattle.std.proofs.Common.{◌≡◌, ◌∙◌, ◌<◌, ◌||◌, refl, sym, ap, ap₂, subst, arith, ℕ, zero, suc, Bool, false, eqb, eq-eqb, List, [], ◌∷◌, length, get_or, remove, slice_get, Option}
use Rattle.std.specs.List.{list_any}
use Rattle.std.proofs.lemmas.Bool.{eqb-true, true≢false}
use Rattle.pvs_terms.specs.Tree.{Tree, tree_eq}
use Rattle.pvs_terms.proofs.TreeLaws.{tree_eq-decided}
use Rattle.pvs_terms.specs.Stored.{Stored, tree_at, IsNode, AreNodes}
use Rattle.pvs_sequent.specs.declared.place.Place.{Place}
use Rattle.pvs_sequent.specs.declared.place.Place.TheVariants as place
use Rattle.pvs_sequent.specs.Sequents.{formula_at, without, shares}
use Rattle.pvs_sequent.specs.Counts.{BothSides, share_number}
use Rattle.pvs_sequent.specs.Numbered.{Numbered}
use Rattle.pvs_sequent.specs.Numbers.{all_at, sequent_at, IsSequent, IsFormula, StandsFor}

-- the formula of an index
pub formula_of_list : (s : Stored) (ids : List ℕ) (i : ℕ) → AreNodes s ids → IsFormula s (slice_get (all_at s ids) i) (slice_get ids i)
formula_of_list s [] i h = refl
formula_of_list s (n ∷ ids) zero h = (refl, h.0)
formula_of_list s (n ∷ ids) (suc i) h = formula_of_list s ids i h.1

pub antecedent_found : (s : Stored) (q : Numbered) (p : Place) (i : ℕ) (ids : List ℕ) (r : Option ℕ) → p ≡ place.Antecedent i → q.antecedents ≡ ids → r ≡ slice_get ids i
    → IsSequent s q → IsFormula s (formula_at (sequent_at s q) p) r
antecedent_found s q p i ids r k e f h = rw (k, f, ← e) (formula_of_list s q.antecedents i h.antecedents)

pub consequent_found : (s : Stored) (q : Numbered) (p : Place) (i : ℕ) (ids : List ℕ) (r : Option ℕ) → p ≡ place.Consequent i → q.consequents ≡ ids → r ≡ slice_get ids i
    → IsSequent s q → IsFormula s (formula_at (sequent_at s q) p) r
consequent_found s q p i ids r k e f h = rw (k, f, ← e) (formula_of_list s q.consequents i h.consequents)

-- a number of a list of nodes
pub node_of_list : (s : Stored) (ids : List ℕ) (i n : ℕ) → AreNodes s ids → i < length ids → n ≡ get_or ids i n → IsNode s n
node_of_list s [] i n h k e = absurd (omega arith)
node_of_list s (m ∷ ids) zero n h k e = subst (IsNode s) (sym e) h.0
node_of_list s (m ∷ ids) (suc i) n h k e = node_of_list s ids i n h.1 (omega arith) e

-- without one of the numbers
pub nodes_without : (s : Stored) (ids : List ℕ) (i : ℕ) → AreNodes s ids → AreNodes s (remove ids i)
nodes_without s [] zero h = tt
nodes_without s [] (suc i) h = tt
nodes_without s (m ∷ ids) zero h = h.1
nodes_without s (m ∷ ids) (suc i) h = (h.0, nodes_without s ids i h.1)

pub all_without : (s : Stored) (ids : List ℕ) (i : ℕ) → all_at s (remove ids i) ≡ remove (all_at s ids) i
all_without s [] zero = refl
all_without s [] (suc i) = refl
all_without s (m ∷ ids) zero = refl
all_without s (m ∷ ids) (suc i) = ap (λ ts. tree_at s m ∷ ts) (all_without s ids i)

-- where one number stands for a tree, the trees of a list have it where the list has the number
pub number_among : (s : Stored) (t : Tree) (f : ℕ) (ids : List ℕ) → tree_at s f ≡ t → ((j : ℕ) → IsNode s j → tree_at s j ≡ t → j ≡ f) → AreNodes s ids → list_any (tree_eq t) (all_at s ids) ≡ list_any (eqb f) ids
number_among s t f [] e one h = refl
number_among s t f (i ∷ ids) e one h =
    let same : eqb f i ≡ tree_eq t (tree_at s i) = tree_eq-decided (eqb f i) t (tree_at s i) (λ x. sym e ∙ ap (tree_at s) (eqb-true f i x)) (λ x. eq-eqb f i (sym (one i h.0 (sym x)))) in
    ap₂ (λ (b c : Bool). b || c) (sym same) (number_among s t f ids e one h.1)

pub none_among : (s : Stored) (t : Tree) (ids : List ℕ) → ((j : ℕ) → IsNode s j → tree_at s j ≡ t → ⊥) → AreNodes s ids → list_any (tree_eq t) (all_at s ids) ≡ false
none_among s t [] none h = refl
none_among s t (i ∷ ids) none h =
    let apart : false ≡ tree_eq t (tree_at s i) = tree_eq-decided false t (tree_at s i) (λ x. absurd (true≢false (sym x))) (λ x. absurd (none i h.0 (sym x))) in
    ap₂ (λ (b c : Bool). b || c) (sym apart) (none_among s t ids none h.1)

-- where equal trees have equal numbers, lists share a tree where they share a number
pub numbers_shared : (s : Stored) (ts us : List ℕ) → ((i j : ℕ) → IsNode s i → IsNode s j → tree_at s i ≡ tree_at s j → i ≡ j) → AreNodes s ts → AreNodes s us → shares (all_at s ts) (all_at s us) ≡ share_number ts us
numbers_shared s [] us one h k = refl
numbers_shared s (t ∷ ts) us one h k =
    ap₂ (λ (b c : Bool). b || c) (number_among s (tree_at s t) t us refl (λ j n e. one j t n h.0 e) k) (numbers_shared s ts us one h.1 k)

-- a formula taken out on a side
pub antecedent_removed : (s : Stored) (q : Numbered) (p : Place) (i : ℕ) (vs : List ℕ) (old new : BothSides) → p ≡ place.Antecedent i → record { variables = vs; antecedents = old.antecedents; consequents = old.consequents } ≡ q → new ≡ record { antecedents = remove old.antecedents i; consequents = old.consequents }
    → IsSequent s q → StandsFor s (without (sequent_at s q) p) (record { variables = vs; antecedents = new.antecedents; consequents = new.consequents })
antecedent_removed s q p i vs old new k e f =
    subst (λ (x : Numbered). IsSequent s x → StandsFor s (without (sequent_at s x) p) (record { variables = vs; antecedents = new.antecedents; consequents = new.consequents })) e
    (λ h. rw (k, f) (record {
      nodes = record { variables = h.variables; antecedents = nodes_without s old.antecedents i h.antecedents; consequents = h.consequents };
      is = ap (λ (xs : List Tree). record { variables = all_at s vs; antecedents = xs; consequents = all_at s old.consequents }) (all_without s old.antecedents i);
    }))

pub consequent_removed : (s : Stored) (q : Numbered) (p : Place) (i : ℕ) (vs : List ℕ) (old new : BothSides) → p ≡ place.Consequent i → record { variables = vs; antecedents = old.antecedents; consequents = old.consequents } ≡ q → new ≡ record { antecedents = old.antecedents; consequents = remove old.consequents i }
    → IsSequent s q → StandsFor s (without (sequent_at s q) p) (record { variables = vs; antecedents = new.antecedents; consequents = new.consequents })
consequent_removed s q p i vs old new k e f =
    subst (λ (x : Numbered). IsSequent s x → StandsFor s (without (sequent_at s x) p) (record { variables = vs; antecedents = new.antecedents; consequents = new.consequents })) e
    (λ h. rw (k, f) (record {
      nodes = record { variables = h.variables; antecedents = h.antecedents; consequents = nodes_without s old.consequents i h.consequents };
      is = ap (λ (xs : List Tree). record { variables = all_at s vs; antecedents = all_at s old.antecedents; consequents = xs }) (all_without s old.consequents i);
    }))
