-- Occurrences that are found one after another are the first of each name.
use Rattle.std.proofs.Common.{◌≡◌, Bool, true, false, cond, ◌||◌, List, [], ◌∷◌, ◌++◌, refl, sym, ap, ◌∙◌, append_assoc, append-nil}
use Rattle.std.specs.Prelude.{bytes_eq}
use Rattle.std.proofs.lemmas.List.{map-append}
use Rattle.std.proofs.lemmas.List.Folds.{list_any-append}
use Rattle.pvs_terms.specs.Tree.{Text}
use Rattle.pvs_elab.specs.Formula.{Occurs, is_in, firsts}
use Rattle.pvs_free_variables.specs.Occurrences.{all_occurs, occurs}
use Rattle.pvs_free_variables.specs.declared.found.Occurrence.{Occurrence}
use Rattle.pvs_free_variables.specs.code.Counts.{times}
use Rattle.pvs_free_variables.proofs.CountLaws.{times_push}
use Rattle.pvs_free_variables.specs.code.Finding.{add_all, add_first, names_of}

-- what is found with one occurrence more

pub found_before : (found : List Occurs) (o : Occurs) → is_in o.name (names_of found) ≡ true → found ≡ add_first found o
found_before found o e = rw e refl

pub found_new : (found : List Occurs) (o : Occurs) → is_in o.name (names_of found) ≡ false → found ++ o ∷ [] ≡ add_first found o
found_new found o e = rw e refl

pub all_occurs_push : (xs : List Occurrence) (x : Occurrence) → all_occurs (xs ++ x ∷ []) ≡ all_occurs xs ++ occurs x ∷ []
all_occurs_push xs x = map-append occurs xs (x ∷ [])

pub times_found : (t : Text) (found : List Occurs) (o : Occurs) → times t (names_of (found ++ o ∷ [])) ≡ times t (o.name ∷ names_of found)
times_found t found o = ap (times t) (map-append (λ (p : Occurs). p.name) found (o ∷ [])) ∙ times_push t (names_of found) o.name

pub add_all_append : (found xs ys : List Occurs) → add_all found (xs ++ ys) ≡ add_all (add_all found xs) ys
add_all_append found [] ys = refl
add_all_append found (x ∷ xs) ys = add_all_append (add_first found x) xs ys

or_false : (b : Bool) → (b || false) ≡ b
or_false true = refl
or_false false = refl

or_flip : (a b : Bool) → (a || b) ≡ (b || a)
or_flip true true = refl
or_flip true false = refl
or_flip false true = refl
or_flip false false = refl

-- these names are seen where one of them was found
AreSeen : List Text → List Occurs → Type 0
AreSeen seen found = (x : Text) → is_in x seen ≡ is_in x (names_of found)

seen_more : (seen : List Text) (found : List Occurs) (o : Occurs) → AreSeen seen found → AreSeen (o.name ∷ seen) (found ++ o ∷ [])
unfolding AreSeen
seen_more seen found o h x =
    ap (λ b. bytes_eq x o.name || b) (h x)
    ∙ or_flip (bytes_eq x o.name) (is_in x (names_of found))
    ∙ ap (λ b. is_in x (names_of found) || b) (sym (or_false (bytes_eq x o.name)))
    ∙ sym (list_any-append (bytes_eq x) (names_of found) (o.name ∷ []))
    ∙ ap (is_in x) (sym (map-append (λ (p : Occurs). p.name) found (o ∷ [])))

found_firsts : (seen : List Text) (found os : List Occurs) → AreSeen seen found → add_all found os ≡ found ++ firsts seen os
unfolding AreSeen
found_firsts seen found [] h = sym (append-nil found)
found_firsts seen found (o ∷ os) h = rw (sym (h o.name)) (at (is_in o.name seen) (found_firsts seen found os h) (found_firsts (o.name ∷ seen) (found ++ o ∷ []) os (seen_more seen found o h))) where
  at : (b : Bool) → add_all found os ≡ found ++ firsts seen os → add_all (found ++ o ∷ []) os ≡ (found ++ o ∷ []) ++ firsts (o.name ∷ seen) os
      → add_all (cond b found (found ++ o ∷ [])) os ≡ found ++ cond b (firsts seen os) (o ∷ firsts (o.name ∷ seen) os)
  at true p q = p
  at false p q = q ∙ append_assoc found (o ∷ []) (firsts (o.name ∷ seen) os)

pub all_firsts : (os : List Occurs) → add_all [] os ≡ firsts [] os
unfolding AreSeen
all_firsts os = found_firsts [] [] os (λ x. refl)
