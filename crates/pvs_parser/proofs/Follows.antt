-- What follows a form that could go on with it, or does not.
use Rattle.std.proofs.Common.{◌≡◌, ℕ, ◌<◌, [], ◌∷◌, None}
use Rattle.pvs_parser.specs.declared.terminal.Connective.{Connective}
use Rattle.pvs_parser.specs.declared.terminal.Connective.TheVariants as connective
use Rattle.pvs_parser.specs.declared.terminal.TerminalKind.{TerminalKind}
use Rattle.pvs_parser.specs.declared.terminal.TerminalKind.TheVariants as kind
use Rattle.pvs_parser.specs.Language.{Tokens, Plain, Bound, Form, Item}
use Rattle.pvs_parser.specs.code.Descent.{after}

-- How tightly a terminal binds to the form before it: a connective, an equality, and what stands after a term.
abbrev pub pull : TerminalKind → ℕ
pull kind.Iff = 1
pull kind.Implies = 2
pull kind.Or = 3
pull kind.And = 4
pull kind.Equal = 5
pull kind.Differs = 5
pull kind.Open = 6
pull kind.Backquote = 6
pull _ = 0

abbrev pub pull_of : Tokens → ℕ
pull_of [] = 0
pull_of (t ∷ ts) = pull t.kind

-- how tightly a connective binds
abbrev pub power : Connective → ℕ
power connective.Iff = 1
power connective.Implies = 2
power connective.Or = 3
power connective.And = 4

-- what binds less tightly does not go on with such an expression
abbrev pub reach : Form → ℕ
reach (Form.Chain c Plain) = power c
reach (Form.Chain c Bound) = 1
reach (Form.Operand Plain) = 5
reach (Form.Operand Bound) = 1
reach Form.Comparisons = 5
reach (Form.Prefixed Plain) = 5
reach (Form.Prefixed Bound) = 1
reach (Form.Term b) = 6
reach Form.Otherwise = 7

-- no name goes on with what follows
abbrev pub Ends : Tokens → Type 0
Ends us = (after kind.Dot us ≡ None) × (after kind.OpenBracket us ≡ None) × (after kind.Colon us ≡ None)

-- no such expression goes on with what follows
abbrev pub FormStops : Form → Tokens → Type 0
FormStops Form.Otherwise us = Unit {0}
FormStops f us = (pull_of us < reach f) × Ends us

-- no such item goes on with what follows
abbrev pub ItemStops : Item → Tokens → Type 0
ItemStops Item.Expression us = (pull_of us < 1) × Ends us
ItemStops Item.Parameter us = (pull_of us < 1) × Ends us
ItemStops Item.Definition us = (pull_of us < 1) × Ends us
ItemStops Item.Component us = Ends us
ItemStops Item.Variable us = Ends us
ItemStops Item.BareVariable us = Unit {0}
