-- Instances of theories after IMPORTING: what is read is in the grammar, and what is in the grammar is read.
use Rattle.std.proofs.Common.{◌≡◌, ◌∙◌, ◌⊎◌, inl, inr, ℕ, zero, suc, ◌+◌, ◌≤◌, List, [], ◌∷◌, ◌++◌, length, map, false, None, refl, sym, subst, append_assoc, length-append, arith}
use Rattle.pvs_parser.specs.declared.nesting.Nesting.{Nesting}
use Rattle.pvs_parser.specs.declared.terminal.Terminal.{Terminal}
use Rattle.pvs_parser.specs.declared.terminal.TerminalKind.TheVariants as kind
use Rattle.pvs_syntax.specs.declared.expression.Actual.{Actual}
use Rattle.pvs_syntax.specs.declared.expression.InstExpr.{InstExpr}
use Rattle.pvs_syntax.specs.declared.unit.Decl.{Decl}
use Rattle.pvs_syntax.specs.declared.unit.Decl.TheVariants as decl
use Rattle.pvs_parser.specs.Terminals.{Is, IsId, same_kind}
use Rattle.pvs_parser.specs.Language as l
use Rattle.pvs_parser.specs.Language.{Limit, Item, Tokens, Derives, instance, outermost}
use Rattle.pvs_parser.specs.Units.{DerivesInstances, DerivesImporting}
use Rattle.pvs_parser.specs.code.Descent.{after}
use Rattle.pvs_parser.specs.code.UnitDescent.{inst, instances_from, importing}
use Rattle.pvs_parser.proofs.Yields.{Yields, here, none, bind, cases, weaken}
use Rattle.pvs_parser.proofs.Gets.{Gets, found, then_, there, absent, names, after_is, after_other, both, unglue, from}
use Rattle.pvs_parser.proofs.DescentSteps.{Comes, after_yields, id_bind, Splits, glue, put, alone}
use Rattle.pvs_parser.proofs.Wholes.{PlainInst, InstWith, inst_cases}
use Rattle.pvs_parser.proofs.Deeper.{Fore, framed_sound, actuals_complete}
use Rattle.pvs_parser.proofs.Behind.{DeclEnds, decl_comma, decl_bracket}

abbrev pub IsInst : Limit → Tokens → InstExpr → Type 0
IsInst limit ts i = (m : Nesting) × Derives limit l.inst outermost ts i m

inst_with : (limit : Limit) (ts us vs : Tokens) (xs : List Actual) (k : Nesting) (t u v : Terminal) → IsId t → Is kind.OpenBracket u → vs ≡ us ++ v ∷ [] → l.HasRoom limit outermost
    → Derives limit (l.list Item.Parameter) (l.in_frame outermost) us xs k → Is kind.CloseBracket v → IsInst limit (t ∷ u ∷ vs) (instance t.word xs)
inst_with limit ts us vs xs k t u v is opened e lt d close =
    (outermost, subst (λ z. Derives limit l.inst outermost (t ∷ u ∷ z) (instance t.word xs) outermost) (sym e) (Derives.inst_with outermost k us xs t u v is opened lt d close))

pub inst_sound : (limit : Limit) (ts : Tokens) → Yields (inst limit ts) (Fore (IsInst limit) ts)
inst_sound limit ts = id_bind ts _ (λ t us e is. cases
    (λ vs a. let c = (after_yields kind.OpenBracket us).holds vs a in
    bind (framed_sound limit Item.Parameter kind.CloseBracket vs) (λ p f.
    here (t ∷ c.0 ∷ f.0, put e (put c.1 f.1), inst_with limit ts f.2.0 f.0 p.0 f.2.2 t c.0 f.2.1 is c.2 f.2.3 f.2.4 f.2.5 f.2.6)))
    (λ a. here (t ∷ [], alone e, (outermost, Derives.plain_inst outermost t is))))

abbrev InstancesFront : Limit → List InstExpr → Tokens → List InstExpr × Tokens → Type 0
InstancesFront limit before ts p = (is : List InstExpr) × (vs : Tokens) × Splits ts vs p.1 × (p.0 ≡ before ++ is) × DerivesInstances limit vs is

more_instances : (limit : Limit) (before : List InstExpr) (ts : Tokens) (p : InstExpr × Tokens) → Fore (IsInst limit) ts p → (us : Tokens) → Comes kind.Comma p.1 us
    → (q : List InstExpr × Tokens) → InstancesFront limit (before ++ p.0 ∷ []) us q → InstancesFront limit before ts q
more_instances limit before ts p f us c q g =
    (p.0 ∷ g.0, f.0 ++ c.0 ∷ g.1, glue f.1 (put c.1 g.2), g.3 ∙ append_assoc before (p.0 ∷ []) g.0, DerivesInstances.more f.0 g.1 p.0 g.0 f.2.0 c.0 f.2.1 c.2 g.4)

from_sound : (limit : Limit) (n : ℕ) (before : List InstExpr) (ts : Tokens) → Yields (instances_from limit n before ts) (InstancesFront limit before ts)
unfolding instances_from
from_sound limit zero before ts = none
from_sound limit (suc n) before ts =
    bind (inst_sound limit ts) (λ p f. cases
    (λ us a. weaken (λ q g. more_instances limit before ts p f us ((after_yields kind.Comma p.1).holds us a) q g) (from_sound limit n (before ++ p.0 ∷ []) us))
    (λ a. here (p.0 ∷ [], f.0, f.1, refl, DerivesInstances.one f.0 p.0 f.2.0 f.2.1)))

pub importing_sound : (limit : Limit) (t : Terminal) (ts us : Tokens) → ts ≡ t ∷ us → Is kind.Importing t → Yields (importing limit us) (Fore (DerivesImporting limit) ts)
importing_sound limit t ts us e is = bind (from_sound limit (length us + 1) [] us) (λ p f. here (
  t ∷ f.1,
  put e f.2,
  subst (λ z. DerivesImporting limit (t ∷ f.1) (map decl.Importing z)) (sym f.3) (DerivesImporting.importing f.1 f.0 t is f.4),
))

-- ---- the other way round

plain_goes : (limit : Limit) (ts : Tokens) (i : InstExpr) (t : Terminal) → IsId t → ts ≡ t ∷ [] → i ≡ instance t.word [] → (all us : Tokens) → Splits all ts us → after kind.OpenBracket us ≡ None → Gets (inst limit all) (i, us)
plain_goes limit ts i t is e f all us s shut =
    subst (λ z. Gets (inst limit all) (z, us)) (sym f) (from (λ z. inst limit z) s (subst (λ z. Gets (inst limit (z ++ us)) (instance t.word [], us)) (sym e) (names t us _ is (absent _ shut found))))

with_goes : (limit : Limit) (ts : Tokens) (i : InstExpr) (t u v : Terminal) (vs : Tokens) (xs : List Actual) (k : Nesting) → IsId t → Is kind.OpenBracket u → l.HasRoom limit outermost → Derives limit (l.list Item.Parameter) (l.in_frame outermost) vs xs k
    → Is kind.CloseBracket v → ts ≡ t ∷ u ∷ (vs ++ v ∷ []) → i ≡ instance t.word xs → (all us : Tokens) → Splits all ts us → Gets (inst limit all) (i, us)
with_goes limit ts i t u v vs xs k is opened lt d close e f all us s =
    subst (λ z. Gets (inst limit all) (z, us)) (sym f) (from (λ z. inst limit z) s (subst (λ z. Gets (inst limit (z ++ us)) (instance t.word xs, us)) (sym e)
    (names t (u ∷ ((vs ++ v ∷ []) ++ us)) _ is (there _ _ (after_is kind.OpenBracket u ((vs ++ v ∷ []) ++ us) opened)
    (then_ _ (actuals_complete limit vs xs k v lt d close ((vs ++ v ∷ []) ++ us) us (unglue vs (v ∷ []) both)) found)))))

inst_goes : (limit : Limit) (ts : Tokens) (i : InstExpr) (m : Nesting) → PlainInst outermost ts i m ⊎ InstWith limit outermost ts i m → (all us : Tokens) → Splits all ts us → after kind.OpenBracket us ≡ None → Gets (inst limit all) (i, us)
inst_goes limit ts i m (inl p) all us s shut = plain_goes limit ts i p.t p.id p.tokens p.tree all us s shut
inst_goes limit ts i m (inr p) all us s shut = with_goes limit ts i p.t p.u p.v p.vs p.xs p.k p.id p.opened p.room p.actuals p.closed p.tokens p.tree all us s

inst_complete : (limit : Limit) (ts : Tokens) (i : InstExpr) (m : Nesting) → Derives limit l.inst outermost ts i m → (all us : Tokens) → Splits all ts us → after kind.OpenBracket us ≡ None → Gets (inst limit all) (i, us)
inst_complete limit ts i m d all us s shut = inst_goes limit ts i m (inst_cases limit outermost ts i m d) all us s shut

last_inst : (limit : Limit) (n : ℕ) (before : List InstExpr) (i : InstExpr) (all us : Tokens) → Gets (inst limit all) (i, us) → after kind.Comma us ≡ None → Gets (instances_from limit (suc n) before all) (before ++ i ∷ [], us)
unfolding instances_from
last_inst limit n before i all us g no_comma = then_ _ g (absent _ no_comma found)

next_inst : (limit : Limit) (n : ℕ) (before : List InstExpr) (i : InstExpr) (is : List InstExpr) (t : Terminal) (all rest us : Tokens) → Gets (inst limit all) (i, t ∷ rest) → Is kind.Comma t
    → Gets (instances_from limit n (before ++ i ∷ []) rest) ((before ++ i ∷ []) ++ is, us) → Gets (instances_from limit (suc n) before all) (before ++ i ∷ is, us)
unfolding instances_from
next_inst limit n before i is t all rest us g comma h =
    then_ _ g (there _ _ (after_is kind.Comma t rest comma) (subst (λ z. Gets (instances_from limit n (before ++ i ∷ []) rest) (z, us)) (append_assoc before (i ∷ []) is) h))

comma_no_bracket : same_kind kind.Comma kind.OpenBracket ≡ false
unfolding same_kind
comma_no_bracket = refl

from_complete : (limit : Limit) (ts : Tokens) (is : List InstExpr) → DerivesInstances limit ts is → (n : ℕ) → length ts ≤ n → (before : List InstExpr) (all us : Tokens) → Splits all ts us → DeclEnds us
    → Gets (instances_from limit (suc n) before all) (before ++ is, us)
from_complete limit _ _ (DerivesInstances.one ts i m d) n le before all us s ends = last_inst limit n before i all us (inst_complete limit ts i m d all us s (decl_bracket us ends)) (decl_comma us ends)
from_complete limit _ _ (DerivesInstances.more ts vs i is m t d comma e) zero le before all us s ends = absurd (omega (arith, le, length-append ts (t ∷ vs)))
from_complete limit _ _ (DerivesInstances.more ts vs i is m t d comma e) (suc n) le before all us s ends =
    next_inst limit (suc n) before i is t all (vs ++ us) us (inst_complete limit ts i m d all (t ∷ (vs ++ us)) (unglue ts (t ∷ vs) s) (after_other kind.OpenBracket kind.Comma t (vs ++ us) comma comma_no_bracket)) comma
    (from_complete limit vs is e n (omega (arith, le, length-append ts (t ∷ vs))) (before ++ i ∷ []) (vs ++ us) us both ends)

pub importing_complete : (limit : Limit) (ts : Tokens) (ds : List Decl) → DerivesImporting limit ts ds → (us : Tokens) → DeclEnds us
    → (t : Terminal) × (vs : Tokens) × (ts ≡ t ∷ vs) × Is kind.Importing t × Gets (importing limit (vs ++ us)) (ds, us)
importing_complete limit _ _ (DerivesImporting.importing ts is t word d) us ends =
    (t, ts, refl, word, then_ _ (subst (λ n. Gets (instances_from limit n [] (ts ++ us)) (is, us)) (omega arith) (from_complete limit ts is d (length (ts ++ us)) (omega (arith, length-append ts us)) [] (ts ++ us) us both ends)) found)
