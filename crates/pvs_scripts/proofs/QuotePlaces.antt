-- Where a quoted text may come, and that off other token leads elsewhere by what it holds.
use Rattle.std.proofs.Common.{◌≡◌, true, false, List, Option, Some, None, refl, ap}
use Rattle.pvs_base.specs.declared.place.Pos.{Pos}
use Rattle.pvs_syntax.specs.declared.expression.Expr.{Expr}
use Rattle.pvs_scripts.specs.declared.lexeme.Lexeme.{Lexeme}
use Rattle.pvs_scripts.specs.declared.lexeme.LexemeKind.{LexemeKind}
use Rattle.pvs_scripts.specs.declared.lexeme.LexemeKind.TheVariants as kind
use Rattle.pvs_scripts.specs.declared.tree.StepExpr.{StepExpr}
use Rattle.pvs_scripts.specs.declared.state.State.{State}
use Rattle.pvs_scripts.specs.declared.state.State.TheVariants as state
use Rattle.pvs_scripts.specs.declared.state.OpenTree.{OpenTree}
use Rattle.pvs_scripts.specs.declared.state.Prefix.{Prefix}
use Rattle.pvs_scripts.specs.declared.state.Prefix.TheVariants as prefix
use Rattle.pvs_scripts.specs.Grammar.{terminal, is_quoted}
use Rattle.pvs_scripts.specs.code.States.{after_whole, after_open, after_argument, after_minus, first_state, next_inside, next_state, is_in_step, takes_quote}

-- ---- a token that is no quoted text

whole_unheld : (l : Lexeme) (p q : Option Expr) (outer : List OpenTree) (tree : OpenTree) (c : LexemeKind) → after_whole (terminal l p) outer tree c ≡ after_whole (terminal l q) outer tree c
whole_unheld l p q outer tree kind.Open = refl
whole_unheld l p q outer tree kind.Close = refl
whole_unheld l p q outer tree kind.Minus = refl
whole_unheld l p q outer tree (kind.Number n) = refl
whole_unheld l p q outer tree kind.Quoted = refl
whole_unheld l p q outer tree kind.Word = refl
whole_unheld l p q outer tree kind.Other = refl

open_unheld : (l : Lexeme) (p q : Option Expr) (outer : List OpenTree) (tree : OpenTree) (at : Pos) (c : LexemeKind) → after_open (terminal l p) outer tree at c ≡ after_open (terminal l q) outer tree at c
open_unheld l p q outer tree at kind.Open = refl
open_unheld l p q outer tree at kind.Close = refl
open_unheld l p q outer tree at kind.Minus = refl
open_unheld l p q outer tree at (kind.Number n) = refl
open_unheld l p q outer tree at kind.Quoted = refl
open_unheld l p q outer tree at kind.Word = refl
open_unheld l p q outer tree at kind.Other = refl

argument_unheld : (l : Lexeme) (p q : Option Expr) (outer : List OpenTree) (tree : OpenTree) (s : StepExpr) (c : LexemeKind) → is_quoted c ≡ false
    → after_argument (terminal l p) outer tree s c ≡ after_argument (terminal l q) outer tree s c
argument_unheld l p q outer tree s kind.Open off = refl
argument_unheld l p q outer tree s kind.Close off = refl
argument_unheld l p q outer tree s kind.Minus off = refl
argument_unheld l p q outer tree s (kind.Number n) off = refl
argument_unheld l p q outer tree s kind.Quoted off = cc
argument_unheld l p q outer tree s kind.Word off = refl
argument_unheld l p q outer tree s kind.Other off = refl

inside_unheld : (l : Lexeme) (p q : Option Expr) (outer : List OpenTree) (tree : OpenTree) (x : Prefix) → is_quoted l.kind ≡ false → next_inside (terminal l p) outer tree x ≡ next_inside (terminal l q) outer tree x
inside_unheld l p q outer tree prefix.Nothing off = whole_unheld l p q outer tree l.kind
inside_unheld l p q outer tree (prefix.Opened at) off = open_unheld l p q outer tree at l.kind
inside_unheld l p q outer tree (prefix.Step s) off = argument_unheld l p q outer tree s l.kind off
inside_unheld l p q outer tree (prefix.Minus s at) off = refl

pub unheld : (s : State) (l : Lexeme) (p q : Option Expr) → is_quoted l.kind ≡ false → next_state s (terminal l p) ≡ next_state s (terminal l q)
unheld state.Start l p q off = refl
unheld (state.Inside nest) l p q off = inside_unheld l p q nest.outer nest.tree nest.prefix off
unheld (state.Whole x) l p q off = refl

-- ---- a quoted text

inside_none : (l : Lexeme) (q : Option Expr) (outer : List OpenTree) (tree : OpenTree) (x : Prefix) → l.kind ≡ kind.Quoted → is_in_step x ≡ false → next_inside (terminal l q) outer tree x ≡ None
inside_none l q outer tree prefix.Nothing is off = ap (after_whole (terminal l q) outer tree) is
inside_none l q outer tree (prefix.Opened at) is off = ap (after_open (terminal l q) outer tree at) is
inside_none l q outer tree (prefix.Step s) is off = cc
inside_none l q outer tree (prefix.Minus s at) is off = ap (after_minus outer tree s at) is

-- outside of steps it cannot come
pub quote_none : (s : State) (l : Lexeme) (q : Option Expr) → l.kind ≡ kind.Quoted → takes_quote s ≡ false → next_state s (terminal l q) ≡ None
quote_none state.Start l q is off = ap first_state is
quote_none (state.Inside nest) l q is off = inside_none l q nest.outer nest.tree nest.prefix is off
quote_none (state.Whole x) l q is off = refl

inside_some : (l : Lexeme) (e : Expr) (outer : List OpenTree) (tree : OpenTree) (x : Prefix) → l.kind ≡ kind.Quoted → is_in_step x ≡ true → (r : State) × (next_inside (terminal l (Some e)) outer tree x ≡ Some r)
inside_some l e outer tree prefix.Nothing is on = cc
inside_some l e outer tree (prefix.Opened at) is on = cc
inside_some l e outer tree (prefix.Step s) is on = (_, ap (after_argument (terminal l (Some e)) outer tree s) is)
inside_some l e outer tree (prefix.Minus s at) is on = cc

-- in a step it can, whatever it holds
pub quote_some : (s : State) (l : Lexeme) (e : Expr) → l.kind ≡ kind.Quoted → takes_quote s ≡ true → (r : State) × (next_state s (terminal l (Some e)) ≡ Some r)
quote_some state.Start l e is on = cc
quote_some (state.Inside nest) l e is on = inside_some l e nest.outer nest.tree nest.prefix is on
quote_some (state.Whole x) l e is on = cc
