-- What the clauses of the traits say to a caller that knows whether contents are exposed.
use Rattle.std.proofs.Common.{◌≡◌, ◌≤◌, ℕ, List, ◌++◌, take, Option, Some, None, refl, arith}
use Rattle.std.proofs.lemmas.List.{take-append-drop}
use Rattle.pvs_io.specs.Contents.{Contents, content_of}
use Rattle.pvs_io.specs.Outside.{Rose, TakesBytes, TakesOf, Takes, GivesTo, Gives, LoadsOf, Loads}
use Rattle.pvs_io.specs.declared.source.Took.{Took}
use Rattle.pvs_io.specs.declared.sink.Gave.{Gave}
use Rattle.pvs_io.specs.declared.files.Load.TheVariants as load

-- exposed contents stay exposed
pub takes_exposed : (old : List ℕ) (new : Option (List ℕ)) (answer : Took) (into : List ℕ)
    → Takes (Some old) new answer into → (left : List ℕ) × (new ≡ Some left) × TakesOf old left answer into
takes_exposed old None answer into h = absurd h
takes_exposed old (Some left) answer into h = (left, refl, h)

-- contents that are not exposed stay so
pub takes_unexposed : (new : Option (List ℕ)) (answer : Took) (into : List ℕ) → Takes None new answer into → new ≡ None
takes_unexposed None answer into h = refl
takes_unexposed (Some left) answer into h = absurd h

-- the bytes that were taken and those that are left after them are those that were left before
pub takes_joined : (old new : List ℕ) (n : ℕ) (into : List ℕ) → TakesBytes old new n into → take n into ++ new ≡ old
takes_joined old new n into h = rw (h.prefix, h.rest) (take-append-drop n old)

-- exposed contents stay exposed
pub gives_exposed : (old : List ℕ) (new : Option (List ℕ)) (answer : Gave) (bytes : List ℕ)
    → Gives (Some old) new answer bytes → (written : List ℕ) × (new ≡ Some written) × GivesTo old written answer bytes
gives_exposed old None answer bytes h = absurd h
gives_exposed old (Some written) answer bytes h = (written, refl, h)

-- contents that are not exposed stay so
pub gives_unexposed : (new : Option (List ℕ)) (answer : Gave) (bytes : List ℕ) → Gives None new answer bytes → new ≡ None
gives_unexposed None answer bytes h = refl
gives_unexposed (Some written) answer bytes h = absurd h

done_of : (content : Option (List ℕ)) (max : ℕ) (into : List ℕ)
    → LoadsOf content max load.Done into → (bytes : List ℕ) × (content ≡ Some bytes) × (into ≡ take max bytes)
done_of None max into h = absurd h
done_of (Some bytes) max into h = (bytes, refl, h)

-- a file that was loaded exists
pub loads_done : (contents : Contents) (name : List ℕ) (max : ℕ) (into : List ℕ) → Loads (Some contents) name max load.Done into
    → (bytes : List ℕ) × (content_of contents name ≡ Some bytes) × (into ≡ take max bytes)
loads_done contents name max into h = done_of (content_of contents name) max into h

-- a count that rose in a part of a run rose in the run
pub rose_within : (first before now last : ℕ) → first ≤ before → Rose before now → now ≤ last → Rose first last
rose_within first before now last earlier rose later = omega arith
