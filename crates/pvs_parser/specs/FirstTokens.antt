-- Where tokens begin.
use Rattle.std.specs.Prelude.{◌≡◌, ◌∷◌}
use Rattle.pvs_base.specs.declared.place.Pos.{Pos}
use Rattle.pvs_parser.specs.declared.terminal.Terminal.{Terminal}
use Rattle.pvs_parser.specs.Language.{Tokens}

-- the first of these tokens has this place
abbrev pub StartsAt : Tokens → Pos → Type 0
StartsAt ts pos = (t : Terminal) × (rest : Tokens) × (ts ≡ t ∷ rest) × (t.word.pos ≡ pos)
