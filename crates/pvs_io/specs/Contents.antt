-- The contents of files, by their names.
use Rattle.std.specs.Prelude.{◌≡◌, ℕ, List, [], ◌∷◌, Option, Some, None, ⊤, bytes_eq, if◌then◌else◌}

-- the names of files with their contents
abbrev pub Contents : Type 0
Contents = List (List ℕ × List ℕ)

-- the content of the file of that name, of the first one where there are several
abbrev pub content_of : Contents → List ℕ → Option (List ℕ)
content_of [] name = None
content_of (file ∷ files) name = if bytes_eq file.0 name then Some file.1 else content_of files name

-- no file has the name of one before it
abbrev pub HasDistinctNames : Contents → Type 0
HasDistinctNames [] = ⊤
HasDistinctNames (file ∷ files) = (content_of files file.0 ≡ None) × HasDistinctNames files
