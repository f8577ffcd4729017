-- Lines of numbered trees.
use Rattle.std.proofs.Common.{◌≡◌, ℕ, zero, suc, ◌<◌, ◌≤◌, length, List, [], ◌∷◌, ◌++◌, map, reverse, drop, codes, slice_index_or, refl, sym, subst, ap, ◌∙◌, arith}
use Rattle.std.specs.Prelude.{Option, Some, None, slice_get}
use Rattle.std.proofs.lemmas.List.{map-append, length-map, length-reverse, reverse-append, reverse-reverse}
use Rattle.pvs_terms.specs.Tree.{Text, Tree}
use Rattle.pvs_terms.specs.Stored.{Stored, tree_at, AllBelow}
use Rattle.pvs_sig.specs.Development.{Development}
use Rattle.pvs_sequent.specs.Numbered.{Numbered}
use Rattle.pvs_sequent.specs.Numbers.{sequent_at}
use Rattle.pvs_printer.specs.Text.{AddsPrefix}
use Rattle.pvs_term_lines.specs.Lines.{formula_line, lines_from, sequent_text, turnstile_line, variable_line}
use Rattle.pvs_term_lines.proofs.AddLaws.{both_prefix, both_whole, first_prefix}

some_same : {A : Type 0} (x y : A) → Some x ≡ Some y → x ≡ y
some_same x y e = cc

module _ (line : ℕ → Tree → Text) (f : ℕ → Tree) where
  -- the line of the tree at a place, and those after it
  pub next_line : (n at i : ℕ) (ids : List ℕ) → slice_get ids at ≡ Some i → lines_from line n (drop at (map f ids)) ≡ line n (f i) ++ lines_from line (suc n) (drop (suc at) (map f ids))
  next_line n at i [] e = cc
  next_line n zero i (x ∷ xs) e = ap (λ z. line n (f z) ++ lines_from line (suc n) (map f xs)) (some_same x i e)
  next_line n (suc at) i (x ∷ xs) e = next_line n at i xs e

  -- past the end there are none
  pub no_lines : (n at : ℕ) (ids : List ℕ) → slice_get ids at ≡ None → lines_from line n (drop at (map f ids)) ≡ []
  no_lines n zero [] e = refl
  no_lines n (suc at) [] e = refl
  no_lines n zero (x ∷ xs) e = cc
  no_lines n (suc at) (x ∷ xs) e = no_lines n at xs e

  pub past_lines : (n at : ℕ) (ids : List ℕ) → length ids ≤ at → lines_from line n (drop at (map f ids)) ≡ []
  past_lines n zero [] h = refl
  past_lines n (suc at) [] h = refl
  past_lines n zero (x ∷ xs) h = absurd (omega (arith, h))
  past_lines n (suc at) (x ∷ xs) h = past_lines n at xs (omega (arith, h))

-- ---- Numbers of nodes.

pub at_get : (xs : List ℕ) (at i : ℕ) → at < length xs → i ≡ slice_index_or xs at i → slice_get xs at ≡ Some i
at_get [] at i l e = absurd (omega (arith, l))
at_get (x ∷ xs) zero i l e = ap Some (sym e)
at_get (x ∷ xs) (suc at) i l e = at_get xs at i (omega (arith, l)) e

pub below_get : (m at i : ℕ) (ids : List ℕ) → AllBelow m ids → slice_get ids at ≡ Some i → i < m
below_get m at i [] h e = cc
below_get m zero i (x ∷ xs) h e = subst (λ z. z < m) (some_same x i e) h.0
below_get m (suc at) i (x ∷ xs) h e = below_get m at i xs h.1 e

below_append : (m : ℕ) (xs ys : List ℕ) → AllBelow m xs → AllBelow m ys → AllBelow m (xs ++ ys)
below_append m [] ys h k = k
below_append m (x ∷ xs) ys h k = (h.0, below_append m xs ys h.1 k)

pub below_reverse : (m : ℕ) (xs : List ℕ) → AllBelow m xs → AllBelow m (reverse xs)
below_reverse m [] h = tt
below_reverse m (x ∷ xs) h = subst (AllBelow m) (sym (reverse-append (x ∷ []) xs)) (below_append m (reverse xs) (x ∷ []) (below_reverse m xs h.1) (h.0, tt))

map-reverse : {A B : Type 0} (f : A → B) (xs : List A) → map f (reverse xs) ≡ reverse (map f xs)
map-reverse f [] = refl
map-reverse f (x ∷ xs) = ap (map f) (reverse-append (x ∷ []) xs) ∙ map-append f (reverse xs) (x ∷ []) ∙ ap (λ z. z ++ f x ∷ []) (map-reverse f xs) ∙ sym (reverse-append (f x ∷ []) (map f xs))

-- of the types that are given the last one first, those with the first one first
pub types_first : {A B : Type 0} (f : A → B) (xs ys : List A) → reverse xs ≡ ys → map f xs ≡ reverse (map f ys)
types_first f xs ys e = ap (map f) (sym (reverse-reverse xs) ∙ ap reverse e) ∙ map-reverse f ys

pub types_below : (m : ℕ) (xs ys : List ℕ) → reverse xs ≡ ys → AllBelow m ys → AllBelow m xs
types_below m xs ys e h = subst (AllBelow m) (ap reverse (sym e) ∙ reverse-reverse xs) (below_reverse m ys h)

-- ---- The text of a sequent, part by part: its types with the first one first, and so many of them.

module _ (d : Development) (th : Text) (s : Stored) (q : Numbered) (types ants cons : List ℕ) (n : ℕ) (e : reverse types ≡ q.variables) (h : n ≡ length types) (ea : ants ≡ q.antecedents) (ec : cons ≡ q.consequents) where
  abbrev variables_text : Text
  variables_text = lines_from (variable_line d th) 0 (map (tree_at s) types)

  abbrev antecedents_text : ℕ → List ℕ → Text
  antecedents_text k is = lines_from (formula_line d th k (codes "-")) 0 (map (tree_at s) is)

  abbrev consequents_text : ℕ → List ℕ → Text
  consequents_text k is = lines_from (formula_line d th k []) 0 (map (tree_at s) is)

  abbrev whole_text : Text
  whole_text = sequent_text d th (sequent_at s q)

  count : n ≡ length (map (tree_at s) q.variables)
  count = h ∙ sym (length-reverse types) ∙ ap length e ∙ sym (length-map q.variables (tree_at s))

  parts : variables_text ++ (antecedents_text n ants ++ (turnstile_line ++ consequents_text n cons)) ≡ whole_text
  parts =
      ap (λ z. z ++ (antecedents_text n ants ++ (turnstile_line ++ consequents_text n cons))) (ap (lines_from (variable_line d th) 0) (types_first (tree_at s) types q.variables e))
      ∙ ap (λ k. lines_from (variable_line d th) 0 (reverse (map (tree_at s) q.variables)) ++ (antecedents_text k ants ++ (turnstile_line ++ consequents_text k cons))) count
      ∙ ap (λ is. lines_from (variable_line d th) 0 (reverse (map (tree_at s) q.variables)) ++ (antecedents_text (length (map (tree_at s) q.variables)) is ++ (turnstile_line ++ consequents_text (length (map (tree_at s) q.variables)) cons))) ea
      ∙ ap (λ is. lines_from (variable_line d th) 0 (reverse (map (tree_at s) q.variables)) ++ (antecedents_text (length (map (tree_at s) q.variables)) q.antecedents ++ (turnstile_line ++ consequents_text (length (map (tree_at s) q.variables)) is))) ec

  at_whole : (old new : List ℕ) → AddsPrefix old (variables_text ++ (antecedents_text n ants ++ (turnstile_line ++ consequents_text n cons))) new → AddsPrefix old whole_text new
  at_whole old new p = subst (λ z. AddsPrefix old z new) parts p

  pub stops_in_variables : (old new : List ℕ) → AddsPrefix old variables_text new → AddsPrefix old whole_text new
  stops_in_variables old new p = at_whole old new (first_prefix old variables_text (antecedents_text n ants ++ (turnstile_line ++ consequents_text n cons)) new p)

  pub stops_in_antecedents : (old mid new : List ℕ) → mid ≡ old ++ variables_text → AddsPrefix mid (antecedents_text n ants) new → AddsPrefix old whole_text new
  stops_in_antecedents old mid new k p =
      at_whole old new (both_prefix old variables_text (antecedents_text n ants ++ (turnstile_line ++ consequents_text n cons)) mid new k (first_prefix mid (antecedents_text n ants) (turnstile_line ++ consequents_text n cons) new p))

  pub stops_in_turnstile : (old one two new : List ℕ) → one ≡ old ++ variables_text → two ≡ one ++ antecedents_text n ants → AddsPrefix two turnstile_line new → AddsPrefix old whole_text new
  stops_in_turnstile old one two new k l p =
      at_whole old new (both_prefix old variables_text (antecedents_text n ants ++ (turnstile_line ++ consequents_text n cons)) one new k
      (both_prefix one (antecedents_text n ants) (turnstile_line ++ consequents_text n cons) two new l (first_prefix two turnstile_line (consequents_text n cons) new p)))

  pub stops_in_consequents : (old one two three new : List ℕ) → one ≡ old ++ variables_text → two ≡ one ++ antecedents_text n ants → three ≡ two ++ turnstile_line → AddsPrefix three (consequents_text n cons) new → AddsPrefix old whole_text new
  stops_in_consequents old one two three new k l m p =
      at_whole old new (both_prefix old variables_text (antecedents_text n ants ++ (turnstile_line ++ consequents_text n cons)) one new k
      (both_prefix one (antecedents_text n ants) (turnstile_line ++ consequents_text n cons) two new l (both_prefix two turnstile_line (consequents_text n cons) three new m p)))

  pub adds_all : (old one two three new : List ℕ) → one ≡ old ++ variables_text → two ≡ one ++ antecedents_text n ants → three ≡ two ++ turnstile_line → new ≡ three ++ consequents_text n cons → new ≡ old ++ whole_text
  adds_all old one two three new k l m p =
      both_whole old variables_text (antecedents_text n ants ++ (turnstile_line ++ consequents_text n cons)) one new k
      (both_whole one (antecedents_text n ants) (turnstile_line ++ consequents_text n cons) two new l (both_whole two turnstile_line (consequents_text n cons) three new m p))
      ∙ ap (λ z. old ++ z) parts
