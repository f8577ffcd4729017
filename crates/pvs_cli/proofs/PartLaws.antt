-- The scripts of the parts of a unit lie in its text.
use Rattle.std.proofs.Common.{ℕ, List, [], ◌∷◌, ◌++◌, map, Result, Ok, Err}
use Rattle.std.specs.List.{All}
use Rattle.std.proofs.lemmas.List.Elements.{All-nil, All-cons, All-head, All-tail}
use Rattle.pvs_base.specs.declared.code.Fault.{Fault}
use Rattle.pvs_syntax.specs.declared.unit.Item.{Item}
use Rattle.pvs_syntax.specs.declared.unit.Item.TheVariants as item
use Rattle.pvs_parser.specs.Text.{SpanIn}
use Rattle.pvs_syntax.specs.Words.{spelling}
use Rattle.pvs_theory.specs.Entries.{Entry}
use Rattle.pvs_theory.specs.Theories.{part_of, parts_after, theory_entries, theory_part}
use Rattle.pvs_cli.specs.code.Shown.{IsPartIn}

-- what holds of each image
pub all_from_map : {X Y : Type 0} (P : Y → Type 0) (f : X → Y) (xs : List X) → All P (map f xs) → All (λ x. P (f x)) xs
all_from_map P f [] h = All-nil (λ x. P (f x))
all_from_map P f (x ∷ xs) h = All-cons (λ y. P (f y)) x xs (All-head P (f x) (map f xs) h) (all_from_map P f xs (All-tail P (f x) (map f xs) h))

module _ (text : List ℕ) where
  theory_in : (name : List ℕ) (r : Result (List Entry) Fault) → IsPartIn (theory_part name r)
  theory_in name (Ok es) = tt
  theory_in name (Err f) = tt

  part_in : (earlier : List Item) (i : Item) → SpanIn text i → IsPartIn (part_of text earlier i)
  part_in earlier (item.Theory t) h = theory_in (spelling text t.name) (theory_entries text earlier t)
  part_in earlier (item.Proof p) h = h

  -- the scripts of the parts of a unit lie in the text where those of its items do
  pub parts_in : (earlier is : List Item) → All (SpanIn text) is → All IsPartIn (parts_after text earlier is)
  parts_in earlier [] h = All-nil IsPartIn
  parts_in earlier (i ∷ is) h = All-cons IsPartIn (part_of text earlier i) (parts_after text (earlier ++ i ∷ []) is) (part_in earlier i (All-head (SpanIn text) i is h)) (parts_in (earlier ++ i ∷ []) is (All-tail (SpanIn text) i is h))
