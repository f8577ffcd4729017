-- The printed text of a term or a type, in the terms of a theory and for a sequent with so many variables.
use Rattle.pvs_terms.specs.Tree.{Text, Tree}
use Rattle.pvs_sig.specs.Development.{Development}
use Rattle.pvs_printer.specs.Names.{Names, names_from}
use Rattle.pvs_printer.specs.Pieces.{pieces, spell}
use Rattle.pvs_printer.specs.TreeForm.{form}
use Rattle.std.specs.Prelude.{◌≡◌, ℕ, List, ◌++◌}

-- a tree, the pieces of its form, and their bytes
abbrev pub text_by : Names → ℕ → Tree → Text
text_by names variables x = spell (pieces (form names variables x 0))

-- where these theories stand, in the terms of the one of this name
abbrev pub printed : Development → Text → ℕ → Tree → Text
printed d th variables x = text_by (names_from d th) variables x

-- the text was added, or, where memory ran out, a prefix of it
pub record AddsPrefix (old text new : List ℕ) : Type 0 where
  pub written : List ℕ
  pub unwritten : List ℕ
  pub whole : text ≡ written ++ unwritten
  pub adds : new ≡ old ++ written
