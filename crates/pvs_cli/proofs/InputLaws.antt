-- How what was taken grows.
use Rattle.std.proofs.Common.{◌≡◌, ◌∙◌, ◌+◌, ◌≤◌, ◌^◌, ℕ, List, ◌++◌, length, take, drop, Option, Some, None, sym, ap, ap₂, arith, append_assoc, append-nil, subst, length-append}
use Rattle.std.specs.Prelude.{⊤}
use Rattle.std.proofs.lemmas.List.{drop_all, length-take, take-append-drop, take_all}
use Rattle.std.proofs.Math.Seq.{drop-append_seam, take-append_seam}
use Rattle.pvs_io.specs.declared.source.Took.TheVariants as took
use Rattle.pvs_io.specs.Outside.{Takes}
use Rattle.pvs_io.proofs.CallerLemmas.{takes_joined}
use Rattle.pvs_cli.specs.declared.input.Input.TheVariants as input
use Rattle.pvs_cli.specs.declared.input.Chunk.TheVariants as chunk
use Rattle.pvs_cli.specs.code.Reading.{IsAtEnd, ReadsChunk, ReadsText}
use Rattle.pvs_cli.specs.Input.{TakesAtMost}
use Rattle.pvs_cli.specs.Output.{TakesUnit, text_of}

-- these bytes were taken
abbrev pub Consumes : Option (List ℕ) → Option (List ℕ) → List ℕ → Type 0
Consumes None None bytes = ⊤
Consumes None (Some new) bytes = ⊥
Consumes (Some old) None bytes = ⊥
Consumes (Some old) (Some new) bytes = bytes ++ new ≡ old

-- a chunk is lost
pub chunk_lost : (most : ℕ) (old new : Option (List ℕ)) (n : ℕ) (into before text : List ℕ) → n ≤ most → Takes old new (took.Bytes n) into → ReadsChunk most old new before text chunk.Memory
chunk_lost most None None n into before text le h = h
chunk_lost most None (Some new) n into before text le h = h
chunk_lost most (Some old) None n into before text le h = h
chunk_lost most (Some old) (Some new) n into before text le h = (take n into, omega (arith, length-take n into), takes_joined old new n into h)

-- the input is at its end
pub text_ended : (most room : ℕ) (old now new : Option (List ℕ)) (before text : List ℕ) → Consumes old now before → ReadsChunk room now new before text chunk.End → IsAtEnd new → length text ≤ most → ReadsText most old new text input.Whole
text_ended most room None None None before text h t e le = h
text_ended most room None None (Some c) before text h t e le = t
text_ended most room None (Some b) new before text h t e le = absurd h
text_ended most room (Some a) None new before text h t e le = absurd h
text_ended most room (Some a) (Some b) None before text h t e le = absurd t
text_ended most room (Some a) (Some b) (Some c) before text h t e le =
    let whole : text ≡ a = t.0 ∙ sym (append-nil before) ∙ ap (λ (xs : List ℕ). before ++ xs) (sym e ∙ t.1) ∙ h in
    let short : length a ≤ most = subst (λ (xs : List ℕ). length xs ≤ most) whole le in
    (whole ∙ sym (take_all most a short), e ∙ sym (drop_all most a short))

-- the text has as many bytes as it may have
pub text_full : (most : ℕ) (old new : Option (List ℕ)) (text : List ℕ) → Consumes old new text → length text ≡ most → ReadsText most old new text input.Whole
text_full most None None text h e = h
text_full most None (Some c) text h e = absurd h
text_full most (Some a) None text h e = absurd h
text_full most (Some a) (Some c) text h e = (
  sym (ap₂ (λ (n : ℕ) (xs : List ℕ). take n xs) (sym e) (sym h) ∙ take-append_seam text c),
  sym (ap₂ (λ (n : ℕ) (xs : List ℕ). drop n xs) (sym e) (sym h) ∙ drop-append_seam text c),
)

-- memory ran out
pub text_lost : (most room : ℕ) (old now new : Option (List ℕ)) (before text : List ℕ) → Consumes old now before → ReadsChunk room now new before text chunk.Memory → length before + room ≤ most → ReadsText most old new text input.Memory
text_lost most room None None None before text h t le = h
text_lost most room None None (Some c) before text h t le = t
text_lost most room None (Some b) new before text h t le = absurd h
text_lost most room (Some a) None new before text h t le = absurd h
text_lost most room (Some a) (Some b) None before text h t le = absurd t
text_lost most room (Some a) (Some b) (Some c) before text h t le =
    (before ++ t.0, omega (arith, length-append before t.0, t.1), append_assoc before t.0 c ∙ ap (λ (xs : List ℕ). before ++ xs) t.2 ∙ h)

-- a whole text is the text of the input
pub whole_unit : (old new : Option (List ℕ)) (text : List ℕ) → ReadsText (2 ^ 20 + 1) old new text input.Whole → TakesUnit old new
whole_unit None None text t = t
whole_unit None (Some c) text t = t
whole_unit (Some a) None text t = t
whole_unit (Some a) (Some c) text t = ap (λ (xs : List ℕ). text_of a ++ xs) t.1 ∙ take-append-drop (2 ^ 20 + 1) a

pub whole_taken : (old new : Option (List ℕ)) (text : List ℕ) → ReadsText (2 ^ 20 + 1) old new text input.Whole → TakesAtMost (2 ^ 20 + 1) old new
whole_taken None None text t = t
whole_taken None (Some c) text t = t
whole_taken (Some a) None text t = t
whole_taken (Some a) (Some c) text t = (text_of a, omega (arith, length-take (2 ^ 20 + 1) a), whole_unit (Some a) (Some c) text t)
