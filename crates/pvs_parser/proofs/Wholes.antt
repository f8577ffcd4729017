-- Whole expressions, types and framed lists of a text: what is read of them is in the grammar, and what is in the grammar is read.
use Rattle.std.proofs.Common.{◌≡◌, ◌<◌, ◌⊎◌, inl, inr, ℕ, true, false, List, [], ◌∷◌, ◌++◌, length, refl, sym, subst, arith}
use Rattle.pvs_parser.specs.declared.nesting.Nesting.{Nesting}
use Rattle.pvs_parser.specs.declared.start.Start.TheVariants as start
use Rattle.pvs_parser.specs.declared.terminal.Connective.TheVariants as connective
use Rattle.pvs_parser.specs.declared.terminal.Terminal.{Terminal}
use Rattle.pvs_parser.specs.declared.terminal.TerminalKind.{TerminalKind}
use Rattle.pvs_parser.specs.declared.terminal.TerminalKind.TheVariants as kind
use Rattle.pvs_syntax.specs.declared.expression.Actual.{Actual}
use Rattle.pvs_syntax.specs.declared.expression.Binding.{Binding}
use Rattle.pvs_syntax.specs.declared.expression.Expr.{Expr}
use Rattle.pvs_syntax.specs.declared.expression.InstExpr.{InstExpr}
use Rattle.pvs_syntax.specs.declared.expression.TypeExpr.{TypeExpr}
use Rattle.pvs_parser.specs.Terminals.{Is, IsId, is_id, same_kind}
use Rattle.pvs_parser.specs.Language.{Limit, Tokens, HasRoom, Derives, Ending, Item, ItemTree, Nonterminal, instance, list, inst, type_, TreeOf, in_frame, whole}
use Rattle.pvs_parser.specs.code.Descent.{nested_expr, framed_with, reader}
use Rattle.pvs_parser.proofs.Follows.{pull_of, Ends}
use Rattle.pvs_parser.proofs.Heads.{TypeFirst, heads}
use Rattle.pvs_parser.proofs.Nonempty.{nonempty}
use Rattle.pvs_parser.proofs.Yields.{Yields, weaken}
use Rattle.pvs_parser.proofs.Gets.{Gets}
use Rattle.pvs_parser.proofs.DescentSteps.{Splits}
use Rattle.pvs_parser.proofs.DescentSound.{Front, Framed, framed_sound, whole_ends, sound_reader, reader_limit, reader_sound, reader_type_sound}
use Rattle.pvs_parser.proofs.DescentComplete.{IsEnd, ends_at, pull_at, whole_stops, framed_goes, no_comma_close, no_comma_bracket, complete, reader_complete}

-- ---- what is read is in the grammar

-- a prefix of the tokens is a whole expression, and what follows does not go on with it
abbrev pub WholeFront : Limit → Nesting → Tokens → Expr × Nesting × Tokens → Type 0
WholeFront limit l ts p = (e : Ending) × (vs : Tokens) × Splits ts vs p.2 × Derives limit (whole e) l vs p.0 p.1 × (pull_of p.2 < 1)

pub read_expr_sound : (limit : Limit) (a : ℕ) (l : Nesting) (ts : Tokens) → Yields (nested_expr (reader limit a) l ts) (WholeFront limit l ts)
read_expr_sound limit a l ts = weaken (λ p f. (f.0, f.1, f.2, f.3, whole_ends f.0 p.2 f.4)) (reader_sound limit a (start.Chain connective.Iff) l ts)

-- Front limit type_ l ts p: a prefix vs of ts, with Splits ts vs p.2, derives the type p.0; p.1 is the nesting after it
pub read_type_sound : (limit : Limit) (a : ℕ) (l : Nesting) (ts : Tokens) → Yields ((reader limit a).type l ts) (Front limit type_ l ts)
read_type_sound limit a l ts = reader_type_sound limit a l ts

-- Framed limit i end l ts p: a prefix vs of ts derives the list p.0 inside a frame at l, and a terminal of the kind end stands between vs and p.1
pub read_list_sound : (limit : Limit) (a : ℕ) (i : Item) (end : TerminalKind) (l : Nesting) (ts : Tokens) → Yields (framed_with (reader limit a) i end l ts) (Framed limit i end l ts)
read_list_sound limit a i end l ts = subst (λ z. Yields (framed_with (reader limit a) i end l ts) (Framed z i end l ts)) (reader_limit limit a) (framed_sound (reader limit a) (sound_reader limit a) i end l ts)

-- ---- what is in the grammar is read, whatever follows that does not go on with it

-- a derivation within the limit of a reader
at_limit : (limit : Limit) (a : ℕ) (s : Nonterminal) (l : Nesting) (ts : Tokens) (x : TreeOf s) (m : Nesting) → Derives limit s l ts x m → Derives (reader limit a).limit s l ts x m
at_limit limit a s l ts x m d = subst (λ z. Derives z s l ts x m) (sym (reader_limit limit a)) d

pub read_expr_complete : (limit : Limit) (a : ℕ) (e : Ending) (l : Nesting) (ts : Tokens) (x : Expr) (m : Nesting) → Derives limit (whole e) l ts x m → length ts < a
    → (all us : Tokens) → Splits all ts us → pull_of us < 1 → Ends us → Gets (nested_expr (reader limit a) l all) (x, m, us)
read_expr_complete limit a e l ts x m d small all us s lt ends =
    (reader_complete limit a).chain connective.Iff e l ts x m (at_limit limit a (whole e) l ts x m d) small all us s (whole_stops e us lt ends)

pub read_type_complete : (limit : Limit) (a : ℕ) (l : Nesting) (ts : Tokens) (x : TypeExpr) (m : Nesting) → Derives limit type_ l ts x m → length ts < a
    → (all us : Tokens) → Splits all ts us → Ends us → Gets ((reader limit a).type l all) (x, m, us)
read_type_complete limit a l ts x m d small all us s ends = (reader_complete limit a).type l ts x m (at_limit limit a type_ l ts x m d) small all us s ends

pub read_list_complete : (limit : Limit) (a : ℕ) (i : Item) (end : TerminalKind) → IsEnd end → same_kind end kind.Comma ≡ false → (l k : Nesting) (ts : Tokens) (xs : List (ItemTree i)) (u : Terminal) → HasRoom limit l
    → Derives limit (list i) (in_frame l) ts xs k → Is end u → length ts < a → (all us : Tokens) → Splits all ts (u ∷ us) → Gets (framed_with (reader limit a) i end l all) (xs, us)
read_list_complete limit a i end stop other l k ts xs u lt d is small all us s =
    framed_goes (reader limit a) i end l k ts us all xs u (complete (reader limit a) a (reader_complete limit a) (list i) (in_frame l) ts xs k (at_limit limit a (list i) (in_frame l) ts xs k d) small)
    (subst (λ z. HasRoom z l) (sym (reader_limit limit a)) lt) stop other is s

-- the bindings of a constant's parameters, after a parenthesis
pub read_bindings_complete : (limit : Limit) (a : ℕ) (l k : Nesting) (ts : Tokens) (bs : List Binding) (u : Terminal) → HasRoom limit l → Derives limit (list Item.Variable) (in_frame l) ts bs k → Is kind.Close u → length ts < a
    → (all us : Tokens) → Splits all ts (u ∷ us) → Gets (framed_with (reader limit a) Item.Variable kind.Close l all) (bs, us)
read_bindings_complete limit a l k ts bs u lt d is small all us s = read_list_complete limit a Item.Variable kind.Close (refl, omega arith) no_comma_close l k ts bs u lt d is small all us s

-- the actuals of an instance, after a bracket
pub read_actuals_complete : (limit : Limit) (a : ℕ) (l k : Nesting) (ts : Tokens) (xs : List Actual) (u : Terminal) → HasRoom limit l → Derives limit (list Item.Parameter) (in_frame l) ts xs k → Is kind.CloseBracket u → length ts < a
    → (all us : Tokens) → Splits all ts (u ∷ us) → Gets (framed_with (reader limit a) Item.Parameter kind.CloseBracket l all) (xs, us)
read_actuals_complete limit a l k ts xs u lt d is small all us s = read_list_complete limit a Item.Parameter kind.CloseBracket (refl, omega arith) no_comma_bracket l k ts xs u lt d is small all us s

-- ---- what follows

-- no expression and no type goes on with a terminal of such a kind
pub end_follows : (k : TerminalKind) → IsEnd k → (t : Terminal) (us : Tokens) → Is k t → (pull_of (t ∷ us) < 1) × Ends (t ∷ us)
end_follows k end t us is = (pull_at k 1 end.1 t us is, ends_at k end.0 t us is)

id_is_end : (k : TerminalKind) → is_id k ≡ true → IsEnd k
id_is_end kind.Id e = (refl, omega arith)
id_is_end kind.Proof e = (refl, omega arith)
id_is_end _ e = cc

-- nor with an identifier
pub id_follows : (t : Terminal) (us : Tokens) → IsId t → (pull_of (t ∷ us) < 1) × Ends (t ∷ us)
id_follows t us is = end_follows t.kind (id_is_end t.kind is) t us refl

-- nor at the end of the tokens
pub nothing_follows : (pull_of [] < 1) × Ends []
nothing_follows = (omega arith, (refl, refl, refl))

-- ---- what stands first

-- no form is empty
pub form_some : {limit : Limit} (s : Nonterminal) (l : Nesting) (ts : Tokens) (x : TreeOf s) (m : Nesting) → Derives limit s l ts x m → (t : Terminal) × (us : Tokens) × (ts ≡ t ∷ us)
form_some s l ts x m d = nonempty s l ts x m d

-- a type begins with an identifier, a parenthesis, a bracket or a brace
pub type_first : {limit : Limit} (l : Nesting) (ts : Tokens) (x : TypeExpr) (m : Nesting) → Derives limit type_ l ts x m → TypeFirst ts
type_first l ts x m d = heads type_ l ts x m d

-- ---- instances

-- an identifier alone
pub record PlainInst (l : Nesting) (ts : Tokens) (x : InstExpr) (m : Nesting) : Type 0 where
  pub t : Terminal
  pub id : IsId t
  pub tokens : ts ≡ t ∷ []
  pub tree : x ≡ instance t.word []
  pub behind : m ≡ l

-- an identifier, and actuals in a frame
pub record InstWith (limit : Limit) (l : Nesting) (ts : Tokens) (x : InstExpr) (m : Nesting) : Type 0 where
  pub t : Terminal
  pub u : Terminal
  pub v : Terminal
  pub vs : Tokens
  pub xs : List Actual
  pub k : Nesting
  pub id : IsId t
  pub opened : Is kind.OpenBracket u
  pub room : HasRoom limit l
  pub actuals : Derives limit (list Item.Parameter) (in_frame l) vs xs k
  pub closed : Is kind.CloseBracket v
  pub tokens : ts ≡ t ∷ u ∷ (vs ++ v ∷ [])
  pub tree : x ≡ instance t.word xs
  pub behind : m ≡ l

abbrev InstCases : Limit → (s : Nonterminal) → Nesting → Tokens → TreeOf s → Nesting → Type 0
InstCases limit inst l ts x m = PlainInst l ts x m ⊎ InstWith limit l ts x m
InstCases limit _ l ts x m = Unit {0}

cases_of : (limit : Limit) (s : Nonterminal) (l : Nesting) (ts : Tokens) (x : TreeOf s) (m : Nesting) → Derives limit s l ts x m → InstCases limit s l ts x m
cases_of limit _ _ _ _ _ (Derives.plain_inst l t is) = inl (record { t = t; id = is; tokens = refl; tree = refl; behind = refl })
cases_of limit _ _ _ _ _ (Derives.inst_with l k ts xs t u v is opened lt d close) = inr (record {
  t = t;
  u = u;
  v = v;
  vs = ts;
  xs = xs;
  k = k;
  id = is;
  opened = opened;
  room = lt;
  actuals = d;
  closed = close;
  tokens = refl;
  tree = refl;
  behind = refl;
})
cases_of limit _ _ _ _ _ _ = tt

-- what an instance is
pub inst_cases : (limit : Limit) (l : Nesting) (ts : Tokens) (x : InstExpr) (m : Nesting) → Derives limit inst l ts x m → PlainInst l ts x m ⊎ InstWith limit l ts x m
inst_cases limit l ts x m d = cases_of limit inst l ts x m d
