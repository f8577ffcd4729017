-- A source over a reader and a sink over a writer: what they do to it, and how often they failed.
use Rattle.std.specs.Prelude.{ℕ, List, [], take, Option}
use Rattle.std.specs.Io.KnownBytes.{Appends, Consumes, IsAtEnd, Keeps}
use Rattle.pvs_io.specs.Outside.{next_count}
use Rattle.pvs_io.specs.declared.source.Took.{Took}
use Rattle.pvs_io.specs.declared.source.Took.TheVariants as took
use Rattle.pvs_io.specs.declared.sink.Gave.{Gave}
use Rattle.pvs_io.specs.declared.sink.Gave.TheVariants as gave

-- a reader or a writer, and how often it failed
pub record Counted (Stream : Type 0) : Type 0 where
  pub stream : Stream
  pub faults : ℕ

-- the count of faults after a take: it rises exactly where the take failed
abbrev pub faults_after_take : ℕ → Took → ℕ
faults_after_take faults (took.Bytes n) = faults
faults_after_take faults took.End = faults
faults_after_take faults took.Failed = next_count faults

-- the count of faults after a give: it rises exactly where the give failed
abbrev pub faults_after_give : ℕ → Gave → ℕ
faults_after_give faults (gave.Bytes n) = faults
faults_after_give faults gave.Failed = next_count faults

-- what a take does to the bytes that a reader is known to have left
abbrev pub TakesFrom : Option (List ℕ) → Option (List ℕ) → Took → List ℕ → Type 0
TakesFrom old new (took.Bytes n) into = Consumes old new (take n into)
TakesFrom old new took.End into = Consumes old new [] × IsAtEnd new
TakesFrom old new took.Failed into = Keeps old new

-- what a give does to the bytes that a writer is known to hold; where it fails, the writer may have got the first of them
abbrev pub AddsTo : Option (List ℕ) → Option (List ℕ) → Gave → List ℕ → Type 0
AddsTo old new (gave.Bytes n) bytes = Appends old new (take n bytes)
AddsTo old new gave.Failed bytes = (n : ℕ) × Appends old new (take n bytes)
