-- Whole expressions and types, as declarations have them.
use Rattle.std.proofs.Common.{◌≡◌, ◌+◌, ◌<◌, List, [], ◌∷◌, ◌++◌, length, refl, ap, length-append, arith}
use Rattle.pvs_parser.specs.declared.nesting.Nesting.{Nesting}
use Rattle.pvs_parser.specs.declared.terminal.Terminal.{Terminal}
use Rattle.pvs_parser.specs.declared.terminal.TerminalKind.{TerminalKind}
use Rattle.pvs_parser.specs.declared.terminal.TerminalKind.TheVariants as kind
use Rattle.pvs_syntax.specs.declared.expression.Actual.{Actual}
use Rattle.pvs_syntax.specs.declared.expression.Binding.{Binding}
use Rattle.pvs_syntax.specs.declared.expression.Expr.{Expr}
use Rattle.pvs_syntax.specs.declared.expression.TypeExpr.{TypeExpr}
use Rattle.pvs_parser.specs.Terminals.{Is}
use Rattle.pvs_parser.specs.Language.{Limit, Tokens, HasRoom, Derives, Ending, Item, ItemTree, list, type_, whole, outermost, in_frame}
use Rattle.pvs_parser.specs.code.Descent.{framed_with}
use Rattle.pvs_parser.specs.code.UnitDescent.{whole_reader, expr, type}
use Rattle.pvs_parser.proofs.Follows.{pull_of, Ends}
use Rattle.pvs_parser.proofs.Yields.{Yields, here, bind, weaken}
use Rattle.pvs_parser.proofs.Gets.{Gets, found, then_}
use Rattle.pvs_parser.proofs.DescentSteps.{Splits}
use Rattle.pvs_parser.proofs.Wholes.{read_expr_sound, read_type_sound, read_list_sound, read_expr_complete, read_type_complete, read_bindings_complete, read_actuals_complete}

-- a prefix of the tokens is what the relation says
abbrev pub Fore : {A : Type 0} → (Tokens → A → Type 0) → Tokens → A × Tokens → Type 0
Fore D ts p = (vs : Tokens) × Splits ts vs p.1 × D vs p.0

abbrev pub IsExpr : Limit → Tokens → Expr → Type 0
IsExpr limit ts x = (e : Ending) × (m : Nesting) × Derives limit (whole e) outermost ts x m

abbrev pub IsType : Limit → Nesting → Tokens → TypeExpr → Type 0
IsType limit l ts a = (m : Nesting) × Derives limit type_ l ts a m

-- a list in a frame, and the sign that ends it
abbrev pub IsFramed : Limit → (i : Item) → TerminalKind → Tokens → List (ItemTree i) → Type 0
IsFramed limit i end ts xs = (vs : Tokens) × (u : Terminal) × (k : Nesting) × (ts ≡ vs ++ u ∷ []) × HasRoom limit outermost × Derives limit (list i) (in_frame outermost) vs xs k × Is end u

pub expr_sound : (limit : Limit) (ts : Tokens) → Yields (expr limit ts) (Fore (IsExpr limit) ts)
expr_sound limit ts = bind (read_expr_sound limit (length ts + 1) outermost ts) (λ p f. here (f.1, f.2, (f.0, p.1, f.3)))

pub type_sound : (limit : Limit) (l : Nesting) (ts : Tokens) → Yields (type limit l ts) (Fore (IsType limit l) ts)
type_sound limit l ts = bind (read_type_sound limit (length ts + 1) l ts) (λ p f. here (f.0, f.1, (p.1, f.2)))

pub framed_sound : (limit : Limit) (i : Item) (end : TerminalKind) (ts : Tokens) → Yields (framed_with (whole_reader limit ts) i end outermost ts) (Fore (IsFramed limit i end) ts)
framed_sound limit i end ts = weaken (λ p f. (f.0 ++ f.1 ∷ [], f.3, (f.0, f.1, f.2, refl, f.4, f.5, f.6))) (read_list_sound limit (length ts + 1) i end outermost ts)

-- no whole expression goes on with what follows
abbrev pub WholeEnds : Tokens → Type 0
WholeEnds us = (pull_of us < 1) × Ends us

shorter : {all ts us : Tokens} → Splits all ts us → length ts < length all + 1
shorter {all = all} {ts = ts} {us = us} s = let e : length all ≡ length (ts ++ us) = ap length s.same in omega (arith, e, length-append ts us)

pub expr_complete : (limit : Limit) (ts : Tokens) (x : Expr) → IsExpr limit ts x → (all us : Tokens) → Splits all ts us → WholeEnds us → Gets (expr limit all) (x, us)
expr_complete limit ts x d all us s ends = then_ _ (read_expr_complete limit (length all + 1) d.0 outermost ts x d.1 d.2 (shorter s) all us s ends.0 ends.1) found

pub type_complete : (limit : Limit) (l : Nesting) (ts : Tokens) (a : TypeExpr) → IsType limit l ts a → (all us : Tokens) → Splits all ts us → Ends us → Gets (type limit l all) (a, us)
type_complete limit l ts a d all us s ends = then_ _ (read_type_complete limit (length all + 1) l ts a d.0 d.1 (shorter s) all us s ends) found

pub bindings_complete : (limit : Limit) (ts : Tokens) (bs : List Binding) (k : Nesting) (u : Terminal) → HasRoom limit outermost → Derives limit (list Item.Variable) (in_frame outermost) ts bs k → Is kind.Close u
    → (all us : Tokens) → Splits all ts (u ∷ us) → Gets (framed_with (whole_reader limit all) Item.Variable kind.Close outermost all) (bs, us)
bindings_complete limit ts bs k u lt d is all us s = read_bindings_complete limit (length all + 1) outermost k ts bs u lt d is (shorter s) all us s

pub actuals_complete : (limit : Limit) (ts : Tokens) (xs : List Actual) (k : Nesting) (u : Terminal) → HasRoom limit outermost → Derives limit (list Item.Parameter) (in_frame outermost) ts xs k → Is kind.CloseBracket u
    → (all us : Tokens) → Splits all ts (u ∷ us) → Gets (framed_with (whole_reader limit all) Item.Parameter kind.CloseBracket outermost all) (xs, us)
actuals_complete limit ts xs k u lt d is all us s = read_actuals_complete limit (length all + 1) outermost k ts xs u lt d is (shorter s) all us s
