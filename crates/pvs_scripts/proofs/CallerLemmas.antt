-- What callers of the reader of scripts need: the places of a text, and that an answer is that of one function.
use Rattle.std.proofs.Common.{◌≡◌, ◌+◌, ◌^◌, ◌≤◌, ℕ, Bool, true, false, if◌then◌else◌, not, List, length, take, reverse, Result, Ok, Err, refl, arith}
use Rattle.std.specs.List.{list_any, prefix_len}
use Rattle.std.specs.Prelude.{count_by}
use Rattle.std.proofs.lemmas.List.{length-reverse, length-take}
use Rattle.std.proofs.lemmas.List.Sums.{count_by-le-length}
use Rattle.pvs_base.specs.Place.{ends_line, last_line, place_at}
use Rattle.pvs_syntax.specs.declared.unit.Proof.{Proof}
use Rattle.pvs_parser.specs.declared.failure.ParseFault.{ParseFault}
use Rattle.pvs_parser.specs.declared.failure.ParseFault.TheVariants as parse_fault
use Rattle.pvs_parser.specs.code.Reading.{Returns}
use Rattle.pvs_scripts.specs.declared.tree.ScriptTree.{ScriptTree}
use Rattle.pvs_scripts.specs.Faults.{AnswersScript}
use Rattle.pvs_scripts.specs.code.Reading.{script_of}
use Rattle.pvs_scripts.proofs.Verdicts.{only, first}

either_one : (b : Bool) (n : ℕ) → (if b then 1 else 1) + n ≡ 1 + n
either_one true n = refl
either_one false n = refl

-- a byte of a text of at most 2^20 bytes has a place that a script may begin at
pub place_small : (text : List ℕ) (at : ℕ) → length text ≤ 2 ^ 20 → ((place_at text at).line ≤ 2 ^ 29) × ((place_at text at).col ≤ 2 ^ 29)
place_small text at le =
    let bytes = take at text in
    let short : length bytes ≤ length text = omega (arith, length-take at text) in
    let lines : count_by ends_line bytes ≤ length bytes = count_by-le-length ends_line bytes in
    let line : length (last_line bytes) ≤ length bytes = omega (arith, length-take (prefix_len (λ b. not (ends_line b)) (reverse bytes)) (reverse bytes), length-reverse bytes) in
    (omega (arith, short, lines, le), omega (arith, short, line, le, either_one (list_any ends_line bytes) (length (last_line bytes))))

-- what is answered of a proof is what one function of the text gives, unless memory ran out
pub answer_returns : (text : List ℕ) (proof : Proof) (r : Result ScriptTree ParseFault) → AnswersScript text proof r → Returns r (script_of text proof)
answer_returns text proof (Ok x) a = only text proof x a
answer_returns text proof (Err (parse_fault.At f)) a = first text proof f a
answer_returns text proof (Err parse_fault.Memory) a = tt
