-- A source, a sink and files in memory: their state, their answers, and their state after an answer.
use Rattle.std.specs.Prelude.{◌≡◌, ◌==◌, ◌-◌, ℕ, Bool, min, List, [], ◌∷◌, ◌++◌, length, take, drop, is_some, map, String, string_bytes, Vec, if◌then◌else◌}
use Rattle.std.specs.List.{list_any}
use Rattle.pvs_io.specs.Contents.{Contents, content_of}
use Rattle.pvs_io.specs.Outside.{next_count}
use Rattle.pvs_io.specs.declared.source.Took.{Took}
use Rattle.pvs_io.specs.declared.source.Took.TheVariants as took
use Rattle.pvs_io.specs.declared.sink.Gave.{Gave}
use Rattle.pvs_io.specs.declared.sink.Gave.TheVariants as gave
use Rattle.pvs_io.specs.declared.files.Load.{Load}
use Rattle.pvs_io.specs.declared.files.Load.TheVariants as load

-- the call of this number is among those that fail
abbrev pub is_listed : List ℕ → ℕ → Bool
is_listed fails call = list_any (λ n. n == call) fails

-- the bytes that a source in memory has left, and the most that it gives in a call; the numbers of the calls that fail,
-- counted from 0; how many calls there were, and how many failed
pub record SourceState : Type 0 where
  pub left : List ℕ
  pub piece : ℕ
  pub fails : List ℕ
  pub calls : ℕ
  pub faults : ℕ

-- the answer of a take into this many places: it fails at the calls that are listed, and at no other
abbrev pub take_answer : SourceState → ℕ → Took
take_answer s places =
    if is_listed s.fails s.calls then took.Failed
    else (if length s.left == 0 then took.End else took.Bytes (min (min s.piece (length s.left)) places))

-- the source after a take
abbrev pub after_take : SourceState → Took → SourceState
after_take s (took.Bytes n) = record s { left = drop n s.left; calls = next_count s.calls }
after_take s took.End = record s { calls = next_count s.calls }
after_take s took.Failed = record s { calls = next_count s.calls; faults = next_count s.faults }

-- the bytes that a sink in memory was given, and how many more it has room for; the numbers of the calls that fail,
-- counted from 0; how many calls there were, and how many failed
pub record SinkState : Type 0 where
  pub written : List ℕ
  pub room : ℕ
  pub fails : List ℕ
  pub calls : ℕ
  pub faults : ℕ

-- the answer of a give of this many bytes: it fails at the calls that are listed and where no room is left
abbrev pub give_answer : SinkState → ℕ → Gave
give_answer s count =
    if is_listed s.fails s.calls then gave.Failed
    else (if s.room == 0 then gave.Failed else gave.Bytes (min s.room count))

-- the sink after a give of these bytes
abbrev pub after_give : SinkState → List ℕ → Gave → SinkState
after_give s bytes (gave.Bytes n) = record s { written = s.written ++ take n bytes; room = s.room - n; calls = next_count s.calls }
after_give s bytes gave.Failed = record s { calls = next_count s.calls; faults = next_count s.faults }

-- the contents of the files that the code keeps
abbrev pub file_contents : {Y Z : Type 0} → List (String Y × Vec ℕ Z) → Contents
file_contents files = map (λ file. (string_bytes file.0, file.1.items)) files

-- the contents of files in memory, and the names that were asked for; the numbers of the loads that fail, counted from 0;
-- how many loads there were, and how many failed
pub record FilesState : Type 0 where
  pub contents : Contents
  pub requests : List (List ℕ)
  pub fails : List ℕ
  pub calls : ℕ
  pub faults : ℕ

-- the answer of a load of that name, unless memory runs out: it fails at the calls that are listed and where no file has
-- the name
abbrev pub load_answer : FilesState → List ℕ → Load
load_answer s name =
    if is_listed s.fails s.calls then load.Failed
    else (if is_some (content_of s.contents name) then load.Done else load.Failed)

-- the files after a load of that name; if memory ran out, nothing is said of the names that were asked for
abbrev pub IsAfterLoad : FilesState → FilesState → List ℕ → Load → Type 0
IsAfterLoad old new name load.Done = new ≡ record old { requests = old.requests ++ name ∷ []; calls = next_count old.calls }
IsAfterLoad old new name load.Failed =
    new ≡ record old { requests = old.requests ++ name ∷ []; calls = next_count old.calls; faults = next_count old.faults }
IsAfterLoad old new name load.Memory = new ≡ record old { requests = new.requests; calls = next_count old.calls }
