-- Tokens are read as an expression exactly where they are one, and they are at most one.
use Rattle.std.proofs.Common.{◌≡◌, ◌∙◌, ◌+◌, [], ◌∷◌, ◌++◌, length, Ok, refl, sym, ap, subst, append-nil, arith}
use Rattle.pvs_parser.specs.declared.nesting.Nesting.{Nesting}
use Rattle.pvs_syntax.specs.declared.expression.Expr.{Expr}
use Rattle.pvs_parser.specs.Language.{Limit, Tokens, Derives, Ending, language_limit, outermost, whole, ReadsExpr}
use Rattle.pvs_parser.specs.code.Descent.{Answer, at_end, expression}
use Rattle.pvs_parser.proofs.Yields.{Yields, here, none, bind, weaken}
use Rattle.pvs_parser.proofs.Gets.{then_, found}
use Rattle.pvs_parser.proofs.Wholes.{read_expr_sound, read_expr_complete, nothing_follows}

ended_yields : (x : Expr) (us : Tokens) → Yields (at_end x us) (λ y. (us ≡ []) × (x ≡ y))
ended_yields x [] = here (refl, refl)
ended_yields x (t ∷ us) = none

-- the tokens are one expression within the limit
abbrev pub Whole : Limit → Tokens → Expr → Type 0
Whole limit ts x = (e : Ending) × (m : Nesting) × Derives limit (whole e) outermost ts x m

made : (limit : Limit) (e : Ending) (ts vs : Tokens) (x y : Expr) (m : Nesting) (us : Tokens) → ts ≡ vs ++ us → us ≡ [] → x ≡ y → Derives limit (whole e) outermost vs x m → Whole limit ts y
made limit e ts vs x y m us split none same d =
    (e, m, subst (λ z. Derives limit (whole e) outermost z y m) (sym (split ∙ ap (λ z. vs ++ z) none ∙ append-nil vs)) (subst (λ z. Derives limit (whole e) outermost vs z m) same d))

sound : (limit : Limit) (ts : Tokens) → Yields (expression limit ts) (λ x. Whole limit ts x)
sound limit ts =
    bind (read_expr_sound limit (length ts + 1) outermost ts) (λ p f. weaken (λ y g. made limit f.0 ts f.1 p.0 y p.1 p.2 f.2.same g.0 g.1 f.3) (ended_yields p.0 p.2))

pub expression_sound : (limit : Limit) (ts : Tokens) (x : Expr) → expression limit ts ≡ Ok x → Whole limit ts x
expression_sound limit ts x e = (sound limit ts).holds x e

pub expression_complete : (limit : Limit) (ts : Tokens) (x : Expr) → Whole limit ts x → expression limit ts ≡ Ok x
expression_complete limit ts x r =
    (then_ (λ p. at_end p.0 p.2) (read_expr_complete limit (length ts + 1) r.0 outermost ts x r.1 r.2 (omega arith) ts [] (record { same = sym (append-nil ts) }) nothing_follows.0 nothing_follows.1) found).is

abbrev answer : {A : Type 0} → Answer A → Answer A
answer o = o

ok_same : (x y : Expr) → answer (Ok x) ≡ Ok y → x ≡ y
ok_same x y e = cc

pub one_expr : (ts : Tokens) (x y : Expr) → ReadsExpr ts x → ReadsExpr ts y → x ≡ y
one_expr ts x y r s = ok_same x y (sym (expression_complete language_limit ts x r) ∙ expression_complete language_limit ts y s)
