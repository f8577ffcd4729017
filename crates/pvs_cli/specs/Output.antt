-- What a run is to write and how it is to end, and what it wrote.
use Rattle.std.specs.Prelude.{◌≡◌, ◌<◌, ◌+◌, ◌^◌, ◌||◌, ℕ, Bool, true, false, codes, if◌then◌else◌, List, [], ◌∷◌, ◌++◌, length, take, Option, Some, None, ⊤}
use Rattle.std.specs.List.{list_any}
use Rattle.pvs_cli.specs.declared.status.Status.{Status}
use Rattle.pvs_cli.specs.declared.status.Status.TheVariants as status
use Rattle.pvs_report.specs.Lines.{Line, bytes_of, is_open, is_refused}
use Rattle.pvs_cli.specs.Reporting.{IsReport}
use Rattle.pvs_cli.specs.Exposed.{OfExposed, OfInput}

-- a line of an open formula or of a refusal
abbrev pub is_unfinished : Line → Bool
is_unfinished l = is_open l || is_refused l

-- how a run ends that wrote these lines
abbrev pub exit_status : List Line → Status
exit_status ls = if list_any is_unfinished ls then status.Unfinished else status.Clean

-- the words of the command line are the single word check
abbrev pub IsCheck : List (List ℕ) → Type 0
IsCheck words = words ≡ codes "check" ∷ []

abbrev pub usage_line : List ℕ
usage_line = codes "usage: pvscore check" ++ 10 ∷ []

-- the text of a unit: the whole input, or one byte more than a text may have
abbrev pub text_of : List ℕ → List ℕ
text_of input = take (2 ^ 20 + 1) input

-- What is to be written for words and an input, and how the run is to end: the usage line, or the report of the text.
pub data IsOutput (words : List (List ℕ)) (input : List ℕ) : List ℕ → Status → Type 0 where
  usage : (IsCheck words → ⊥) → IsOutput words input usage_line status.BadWords
  report : IsCheck words → (lines : List Line) → IsReport (text_of input) lines → IsOutput words input (bytes_of lines) (exit_status lines)

-- for these words and each input, there is at most one output, with one status
abbrev pub HasOneOutput : List (List ℕ) → Type 0
HasOneOutput words = (input bytes others : List ℕ) (end other : Status) → IsOutput words input bytes end → IsOutput words input others other → (bytes ≡ others) × (end ≡ other)

-- a run that ended so wrote its whole output
abbrev pub has_whole_output : Status → Bool
has_whole_output status.Clean = true
has_whole_output status.Unfinished = true
has_whole_output status.BadWords = true
has_whole_output _ = false

-- bytes were added to the output: all of these, or else a proper prefix
abbrev pub Adds : Option (List ℕ) → Option (List ℕ) → Bool → List ℕ → Type 0
Adds None None whole bytes = ⊤
Adds None (Some after) whole bytes = ⊥
Adds (Some before) None whole bytes = ⊥
Adds (Some before) (Some after) true bytes = after ≡ before ++ bytes
Adds (Some before) (Some after) false bytes = (k : ℕ) × (k < length bytes) × (after ≡ before ++ take k bytes)

-- A run that was to write an output of this kind, and to end with its status, ended with `result`: there is such an output, and the run wrote
-- all of it and ended as it was to end, or it ended with a fault and wrote a proper prefix.
pub record WritesOutput (IsMeant : List ℕ → Status → Type 0) (before after : Option (List ℕ)) (result : Status) : Type 0 where
  pub bytes : List ℕ
  pub end : Status
  pub meant : IsMeant bytes end
  pub added : Adds before after (has_whole_output result) bytes
  pub status : has_whole_output result ≡ true → result ≡ end

-- what a run with these words wrote, and how it ended, by the bytes that were left before and after it
abbrev pub Writes : List (List ℕ) → Option (List ℕ) → Option (List ℕ) → Option (List ℕ) → Option (List ℕ) → Status → Type 0
Writes words old new before after result = OfInput (λ input. WritesOutput (IsOutput words input) before after result) old new

-- the text of a unit was taken
abbrev pub TakesUnit : Option (List ℕ) → Option (List ℕ) → Type 0
TakesUnit = OfExposed (λ old new. text_of old ++ new ≡ old)
