-- What a tree is printed as: an expression or a type of the grammar (LR, expressions and types), without places in a text and
-- without the parentheses that the precedence of operators asks for.
use Rattle.std.specs.Prelude.{ℕ, Bool, Option}
use Rattle.pvs_terms.specs.Tree.{Text}
use Rattle.pvs_printer.specs.declared.words.BinderWord.{BinderWord}
use Rattle.pvs_printer.specs.declared.words.InfixWord.{InfixWord}

-- a name of one token: a declared name x, the variable v!n that a binder binds, the variable s!n of a sequent
pub data Single : Type 0 where
  Declared : Text → Single
  Bound : ℕ → Single
  Free : ℕ → Single

mutual
  pub data Form : Type 0 where
    Truth : Bool → Form
    -- the type of truth values
    Boolean : Form
    Plain : Single → Form
    -- th.x, and th[a, b].x
    Qualified : Text → Forms → Text → Form
    -- f(a), and f(a, b)
    Apply : Form → Forms → Form
    -- t`i
    Part : Form → ℕ → Form
    -- two parts or more
    Tuple : Form → Forms → Form
    Cond : Form → Form → Form → Form
    -- the word, the number of the variable, its type, and the body
    Quantified : BinderWord → ℕ → Form → Form → Form
    Not : Form → Form
    Infix : InfixWord → Form → Form → Form
    -- {v!n: A | p}
    SubType : ℕ → Form → Form → Form
    -- [A -> B], and [v!n: A -> B]
    FunType : Option ℕ → Form → Form → Form
    -- two components or more
    TupleType : Option ℕ → Form → Forms → Form
    -- (k; a, b), t`rest and [k; A, B], which no text of the language reads back as
    TaggedTuple : ℕ → Form → Form → Form
    Rest : Form → Form
    TaggedType : ℕ → Option ℕ → Form → Form → Form

  -- arguments, parts, components and actuals in order; a component may have a variable
  pub data Forms : Type 0 where
    none : Forms
    more : Option ℕ → Form → Forms → Forms
