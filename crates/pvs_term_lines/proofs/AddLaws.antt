-- Texts that are added one after the other.
use Rattle.std.proofs.Common.{◌≡◌, ℕ, List, [], ◌++◌, refl, sym, ap, ◌∙◌, append_assoc, append-nil}
use Rattle.std.specs.Prelude.{Result, Ok, Err, OnErr}
use Rattle.pvs_printer.specs.Text.{AddsPrefix}
use Rattle.pvs_printer.specs.code.TasksAt.{Progress}

-- what holds, holds after an error
pub err_holds : {T E P : Type 0} (r : Result T E) → P → OnErr r P
err_holds (Ok x) p = tt
err_holds (Err e) p = p

-- what follows from what holds after an error
pub err_weaker : {T E P Q : Type 0} (r : Result T E) → (P → Q) → OnErr r P → OnErr r Q
err_weaker (Ok x) f p = tt
err_weaker (Err e) f p = f p

-- a prefix of the first text
pub first_prefix : (old a b new : List ℕ) → AddsPrefix old a new → AddsPrefix old (a ++ b) new
first_prefix old a b new p = record {
  written = p.written;
  unwritten = p.unwritten ++ b;
  whole = ap (λ z. z ++ b) p.whole ∙ append_assoc p.written p.unwritten b;
  adds = p.adds;
}

-- a whole text and a prefix of the next one
pub both_prefix : (old a b mid new : List ℕ) → mid ≡ old ++ a → AddsPrefix mid b new → AddsPrefix old (a ++ b) new
both_prefix old a b mid new e p = record {
  written = a ++ p.written;
  unwritten = p.unwritten;
  whole = ap (λ z. a ++ z) p.whole ∙ sym (append_assoc a p.written p.unwritten);
  adds = p.adds ∙ ap (λ z. z ++ p.written) e ∙ append_assoc old a p.written;
}

-- two whole texts
pub both_whole : (old a b mid new : List ℕ) → mid ≡ old ++ a → new ≡ mid ++ b → new ≡ old ++ (a ++ b)
both_whole old a b mid new e h = h ∙ ap (λ z. z ++ b) e ∙ append_assoc old a b

-- ---- Loops.

pub starts : (old text : List ℕ) → Progress old text old text
starts old text = record { written = []; whole = refl; adds = sym (append-nil old) }

pub goes_on : (old text mid new rest part more : List ℕ) → Progress old text mid rest → rest ≡ part ++ more → new ≡ mid ++ part → Progress old text new more
goes_on old text mid new rest part more p e h = record {
  written = p.written ++ part;
  whole = p.whole ∙ ap (λ z. p.written ++ z) e ∙ sym (append_assoc p.written part more);
  adds = h ∙ ap (λ z. z ++ part) p.adds ∙ append_assoc old p.written part;
}

-- a part of which only a prefix was added
pub stops : (old text mid new rest part more : List ℕ) → Progress old text mid rest → rest ≡ part ++ more → AddsPrefix mid part new → AddsPrefix old text new
stops old text mid new rest part more p e k = record {
  written = p.written ++ k.written;
  unwritten = k.unwritten ++ more;
  whole = p.whole ∙ ap (λ z. p.written ++ z) (e ∙ ap (λ z. z ++ more) k.whole ∙ append_assoc k.written k.unwritten more) ∙ sym (append_assoc p.written k.written (k.unwritten ++ more));
  adds = k.adds ∙ ap (λ z. z ++ k.written) p.adds ∙ append_assoc old p.written k.written;
}

-- nothing is left
pub ends : (old text new rest : List ℕ) → Progress old text new rest → rest ≡ [] → new ≡ old ++ text
ends old text new rest p e = p.adds ∙ ap (λ z. old ++ z) (sym (p.whole ∙ ap (λ z. p.written ++ z) e ∙ append-nil p.written))
