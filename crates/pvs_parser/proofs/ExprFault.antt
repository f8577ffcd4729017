-- Where reading a whole expression stops is its first fault.
use Rattle.std.proofs.Common.{◌≡◌, ◌∙◌, ℕ, ◌+◌, ◌⊎◌, inl, inr, [], ◌∷◌, ◌++◌, length, None, Ok, Err, refl, sym, ap, subst, append-nil, arith}
use Rattle.pvs_parser.specs.declared.failure.Reason.{Reason}
use Rattle.pvs_parser.specs.declared.failure.Reason.TheVariants as reason
use Rattle.pvs_parser.specs.declared.failure.Stop.{Stop}
use Rattle.pvs_parser.specs.declared.terminal.Connective.TheVariants as connective
use Rattle.pvs_syntax.specs.declared.expression.Expr.{Expr}
use Rattle.pvs_parser.specs.Language.{Tokens, Limit, language_limit, outermost, Form}
use Rattle.pvs_parser.specs.code.Descent.{Answer, Read, stop, nested_expr, reader, at_end, expression}
use Rattle.pvs_base.specs.Answers.{◌>>=◌}
use Rattle.pvs_parser.specs.Faults.{Begins, IsViablePrefix}
use Rattle.pvs_parser.specs.Text.{IsExpr, NeverAwaitsName}
use Rattle.pvs_parser.proofs.Halts.{Full, Why, Wider}
use Rattle.pvs_parser.proofs.HaltsBegins.{Begun, completion}
use Rattle.pvs_parser.proofs.HaltsWholes.{read_expr_halts}
use Rattle.pvs_parser.proofs.HaltsWiden.{wider}
use Rattle.pvs_parser.proofs.OneExpression.{expression_sound, expression_complete}
use Rattle.pvs_parser.proofs.Wholes.{read_expr_sound}
use Rattle.pvs_parser.proofs.Cuts.{Cut, Mode, Agrees, Goes, Meets, three, bind_later, heads, stops}
use Rattle.pvs_parser.proofs.Locality.{Paired, whole_expr}
use Rattle.pvs_parser.proofs.UnitLocality.{alone}
use Rattle.pvs_parser.proofs.FirstFault.{Reading, HaltsAt, HaltWhy}

pub without_limit : {limit : Limit} → Wider limit None
without_limit = record { below = λ n h. tt }

-- what is completed to an expression begins one
begun : (w : Limit) (p : Tokens) → Begun w (λ e. Form.Chain connective.Iff e) outermost p → Begins IsExpr w p
begun w p b = let c = completion b.1 in (c.0, (c.1, b.0, c.2, c.3))

within : (before : Tokens) → Begun None (λ e. Form.Chain connective.Iff e) outermost before
    → Begun language_limit (λ e. Form.Chain connective.Iff e) outermost before ⊎ Full language_limit (λ w p. Begun w (λ e. Form.Chain connective.Iff e) outermost p) before → IsViablePrefix IsExpr before
within before free (inl b) = IsViablePrefix.begins (begun language_limit before b)
within before free (inr f) = IsViablePrefix.comma f.front f.comma f.same f.is (begun language_limit f.front f.begun) (begun None before free)

why_of : (before rest : Tokens) (why : Reason) → Why (λ w p. Begun w (λ e. Form.Chain connective.Iff e) outermost p) before rest why → HaltWhy IsExpr NeverAwaitsName before rest why
why_of before rest reason.Unexpected h = λ t more e is no_place. no_place
why_of before rest reason.TooNested h = (h.0, h.1, h.2, h.3, begun None (before ++ h.0 ∷ []) h.4)
why_of before rest reason.WrongEnd h = absurd h

stop_same : (o : Answer Expr) (a b : Stop) → o ≡ Err a → o ≡ Err b → a ≡ b
stop_same o a b f g = cc

halts_of : (ts : Tokens) (o : Read Expr) → nested_expr (reader language_limit (length ts + 1)) outermost ts ≡ o → (e : Stop) → (o >>= λ p. at_end p.0 p.2) ≡ Err e → HaltsAt IsExpr NeverAwaitsName ts e
halts_of ts (Err s) read e h =
    let halts = read_expr_halts language_limit (length ts + 1) outermost ts e (omega arith) (read ∙ ap (λ z. Err z) (stop_same (Err s) s e refl h)) in
    record { before = halts.before; rest = halts.rest; split = halts.split.same; left = halts.left; within = within halts.before halts.begun halts.within; why = why_of halts.before halts.rest e.reason halts.why }
halts_of ts (Ok (x, m, [])) read e h = cc
halts_of ts (Ok (x, m, t ∷ us)) read e h =
    let f = (read_expr_sound language_limit (length ts + 1) outermost ts).holds (x, m, t ∷ us) read in
    subst (λ z. HaltsAt IsExpr NeverAwaitsName ts z) (stop_same (stop (t ∷ us)) (record { left = length (t ∷ us); reason = reason.Unexpected }) e refl h)
    (record { before = f.1; rest = t ∷ us; split = f.2.same; left = refl; within = IsViablePrefix.begins ([], subst (λ z. IsExpr language_limit z) (sym (append-nil f.1)) (x, f.0, m, f.3)); why = λ v more g is no_place. no_place })

-- reading the rest of an expression
ended_goes : (cut : Cut) (x : Expr) (mode : Mode) (m : ℕ) (ts us : Tokens) → Meets cut mode m ts us → Goes cut alone mode m (at_end x ts) (at_end x us)
ended_goes cut x mode m ts us h = heads cut alone mode m (λ z. at_end x z) (λ z. at_end x z) ts us h (omega arith) (λ a la t vs ws meets took less. stops cut alone a m (t ∷ vs) (t ∷ ws) meets)

local : (cut : Cut) (a b : Limit) → Paired cut a b → (q : Tokens) → Agrees cut alone (length q) (expression a (q ++ cut.here)) (expression b (q ++ cut.there))
local cut a b p q =
    bind_later cut three alone Mode.Before (length q) _ _ _ _ (whole_expr cut a b p outermost Mode.Before (length q) (q ++ cut.here) (q ++ cut.there) (q, refl, refl, omega arith)) (λ x c lc us i. ended_goes cut x.0 c (length q) x.2 us i)

pub expr_reading : Reading IsExpr NeverAwaitsName expression
expr_reading = record {
  wider = λ ts d. (d.0, d.1, d.2, wider without_limit d.3);
  sound = λ ts x e. let h = expression_sound language_limit ts x e in (x, h.0, h.1, h.2);
  complete = λ ts d. (d.0, expression_complete language_limit ts d.0 (d.1, d.2, d.3));
  free = λ ts d. (d.0, expression_complete None ts d.0 (d.1, d.2, d.3));
  local = local;
  halts = λ ts e h. halts_of ts (nested_expr (reader language_limit (length ts + 1)) outermost ts) refl e h;
}
