-- Counts and bytes of lines.
use Rattle.std.proofs.Common.{◌≡◌, ◌∙◌, ◌+◌, ℕ, Bool, cond, List, [], ◌∷◌, ◌++◌, map, refl, sym, ap, append-nil, append_assoc}
use Rattle.std.specs.Prelude.{codes, count_by}
use Rattle.std.specs.List.{fold}
use Rattle.std.proofs.lemmas.Grind.{flat_map-append}
use Rattle.pvs_report.specs.declared.line.Line as program
use Rattle.pvs_report.specs.declared.totals.Totals.{Totals}
use Rattle.pvs_report.specs.Lines.{IncompleteWord, Line, bytes_of, has_status, is_complete, is_incomplete, is_open, is_refused, is_theory, joined, line_bytes, totals_of, word_text}
use Rattle.pvs_report.specs.Printed.{line_shown, lines_shown}

pub bytes_push : (ls : List Line) (l : Line) → bytes_of (ls ++ l ∷ []) ≡ bytes_of ls ++ line_bytes l
bytes_push ls l = flat_map-append line_bytes ls (l ∷ []) ∙ ap (λ (bs : List ℕ). bytes_of ls ++ bs) (append-nil (line_bytes l))

-- the word of an incomplete formula is that of its parts
pub incomplete_text : (t n : List ℕ) → joined (codes "incomplete " ∷ t ∷ codes "." ∷ n ∷ []) ≡ word_text (IncompleteWord t n)
incomplete_text t n = ap (λ (xs : List ℕ). codes "incomplete " ++ xs) (ap (λ (xs : List ℕ). t ++ (codes "." ++ xs)) (append-nil n) ∙ sym (append_assoc t (codes ".") n))

fold_map : {A B C : Type 0} (f : C → B → C) (g : A → B) (c : C) (xs : List A) → fold f c (map g xs) ≡ fold (λ c x. f c (g x)) c xs
fold_map f g c [] = refl
fold_map f g c (x ∷ xs) = fold_map f g (f c (g x)) xs

count_map : (p : Line → Bool) (ls : List program.Line) → count_by p (lines_shown ls) ≡ count_by (λ l. p (line_shown l)) ls
count_map p ls = fold_map (λ (a : ℕ) (x : Line). a + cond (p x) 1 0) line_shown 0 ls

pub totals_from_counts : (ls : List program.Line) → totals_of (lines_shown ls) ≡ record {
  theories = count_by (λ l. is_theory (line_shown l)) ls;
  lemmas = count_by (λ l. has_status (line_shown l)) ls;
  conditions = 0;
  complete = count_by (λ l. is_complete (line_shown l)) ls;
  incomplete = count_by (λ l. is_incomplete (line_shown l)) ls;
  unproved = count_by (λ l. is_open (line_shown l)) ls;
  refused = count_by (λ l. is_refused (line_shown l)) ls;
}
totals_from_counts ls = rw (count_map is_theory ls, count_map has_status ls, count_map is_complete ls, count_map is_incomplete ls, count_map is_open ls, count_map is_refused ls) refl
