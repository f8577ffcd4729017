-- What the calls of sources, sinks and files do to the contents that these expose, and when they fail. Contents that are not exposed are None.
use Rattle.std.specs.Prelude.{◌≡◌, ◌≤◌, ◌+◌, ◌-◌, ◌^◌, ◌⊎◌, ℕ, min, List, [], ◌∷◌, ◌++◌, length, take, drop, Option, Some, None, ⊤}
use Rattle.pvs_io.specs.Contents.{Contents, content_of}
use Rattle.pvs_io.specs.declared.source.Took.{Took}
use Rattle.pvs_io.specs.declared.source.Took.TheVariants as took
use Rattle.pvs_io.specs.declared.sink.Gave.{Gave}
use Rattle.pvs_io.specs.declared.sink.Gave.TheVariants as gave
use Rattle.pvs_io.specs.declared.files.Load.{Load}
use Rattle.pvs_io.specs.declared.files.Load.TheVariants as load

-- a count plus one, but no more than the greatest number of its type
abbrev pub next_count : ℕ → ℕ
next_count n = min (n + 1) (2 ^ 64 - 1)

-- the count rose, or is the greatest number of its type
abbrev pub Rose : ℕ → ℕ → Type 0
Rose before now = next_count before ≤ now

-- the count of faults has not fallen, and there is a failure only where it rose
pub record HasCause (before now : ℕ) (Fails : Type 0) : Type 0 where
  pub later : before ≤ now
  pub failed : Fails → Rose before now

-- a number of bytes from one to the most
pub record IsByteCount (n most : ℕ) : Type 0 where
  pub some : 1 ≤ n
  pub within : n ≤ most

-- a take into this many places takes from one byte to all of them
abbrev pub IsTakeOf : ℕ → Took → Type 0
IsTakeOf most (took.Bytes n) = IsByteCount n most
IsTakeOf most took.End = ⊤
IsTakeOf most took.Failed = ⊤

-- a give of this many bytes gives from one to all of them
abbrev pub IsGiveOf : ℕ → Gave → Type 0
IsGiveOf most (gave.Bytes n) = IsByteCount n most
IsGiveOf most gave.Failed = ⊤

-- the first n of the bytes that are left are taken into the first n places
pub record TakesBytes (old new : List ℕ) (n : ℕ) (into : List ℕ) : Type 0 where
  pub enough : n ≤ length old
  pub prefix : take n into ≡ take n old
  pub rest : new ≡ drop n old

-- what a take does to exposed bytes: it answers the end exactly where nothing is left
abbrev pub TakesOf : List ℕ → List ℕ → Took → List ℕ → Type 0
TakesOf old new (took.Bytes n) into = TakesBytes old new n into
TakesOf old new took.End into = (old ≡ []) × (new ≡ [])
TakesOf old new took.Failed into = new ≡ old

-- what a take does; it does not change whether the bytes are exposed
abbrev pub Takes : Option (List ℕ) → Option (List ℕ) → Took → List ℕ → Type 0
Takes None None answer into = ⊤
Takes None (Some new) answer into = ⊥
Takes (Some old) None answer into = ⊥
Takes (Some old) (Some new) answer into = TakesOf old new answer into

-- what a give does to exposed bytes
abbrev pub GivesTo : List ℕ → List ℕ → Gave → List ℕ → Type 0
GivesTo old new (gave.Bytes n) bytes = new ≡ old ++ take n bytes
GivesTo old new gave.Failed bytes = new ≡ old

-- what a give does; it does not change whether the bytes are exposed
abbrev pub Gives : Option (List ℕ) → Option (List ℕ) → Gave → List ℕ → Type 0
Gives None None answer bytes = ⊤
Gives None (Some new) answer bytes = ⊥
Gives (Some old) None answer bytes = ⊥
Gives (Some old) (Some new) answer bytes = GivesTo old new answer bytes

-- what a load leaves of a file with exposed content: a file that does not exist is not loaded
abbrev pub LoadsOf : Option (List ℕ) → ℕ → Load → List ℕ → Type 0
LoadsOf (Some content) max load.Done into = into ≡ take max content
LoadsOf None max load.Done into = ⊥
LoadsOf content max load.Failed into = ⊤
LoadsOf content max load.Memory into = ⊤

-- what a load leaves of the file of that name
abbrev pub Loads : Option Contents → List ℕ → ℕ → Load → List ℕ → Type 0
Loads None name max answer into = ⊤
Loads (Some contents) name max answer into = LoadsOf (content_of contents name) max answer into

-- a load adds the name to the requests; if memory ran out, it may not have got so far
abbrev pub Asks : List (List ℕ) → List (List ℕ) → List ℕ → Load → Type 0
Asks old new name load.Done = new ≡ old ++ name ∷ []
Asks old new name load.Failed = new ≡ old ++ name ∷ []
Asks old new name load.Memory = (new ≡ old) ⊎ (new ≡ old ++ name ∷ [])
