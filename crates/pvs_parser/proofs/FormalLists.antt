-- Formal parameters: what is read is in the grammar, and what is in the grammar is read.
use Rattle.std.proofs.Common.{◌≡◌, ◌∙◌, ℕ, zero, suc, ◌≤◌, Bool, true, false, List, [], ◌∷◌, ◌++◌, length, map, Option, Some, None, Ok, refl, sym, ap, subst, append_assoc, length-append, arith}
use Rattle.pvs_parser.specs.declared.nesting.Nesting.{Nesting}
use Rattle.pvs_parser.specs.declared.terminal.Terminal.{Terminal}
use Rattle.pvs_parser.specs.declared.terminal.TerminalKind.{TerminalKind}
use Rattle.pvs_parser.specs.declared.terminal.TerminalKind.TheVariants as kind
use Rattle.pvs_syntax.specs.declared.word.Word.{Word}
use Rattle.pvs_syntax.specs.declared.expression.TypeExpr.{TypeExpr}
use Rattle.pvs_syntax.specs.declared.unit.Formal.{Formal}
use Rattle.pvs_parser.specs.Terminals.{Is, is_id}
use Rattle.pvs_parser.specs.Language.{Limit, IsBelow, HasRoom, Tokens, Derives, type_, outermost, in_frame}
use Rattle.pvs_parser.specs.Units.{DerivesIds, DerivesTypeWord, DerivesFormal, DerivesFormals, DerivesFormalPart, type_formal, const_formal}
use Rattle.pvs_parser.specs.code.Descent.{after, either, entries, starts_type}
use Rattle.pvs_base.specs.Answers.{◌>>=◌}
use Rattle.pvs_parser.specs.code.UnitDescent.{type, plus, formal_of, formal_after, formal, formals_from, formals, formal_part}
use Rattle.pvs_parser.proofs.Yields.{Yields, here, none, bind, cases, weaken}
use Rattle.pvs_parser.proofs.Gets.{Gets, found, then_, there, absent, takes, after_is, has_room, both, unglue, from}
use Rattle.pvs_parser.proofs.DescentSteps.{Comes, after_yields, expect_yields, room, AtMost, below_at_most, fewer, entries_at_most, one_more, enough_entries, Splits, glue, put, alone, nothing}
use Rattle.pvs_parser.proofs.DescentSound.{crowded_yields}
use Rattle.pvs_parser.proofs.Deeper.{Fore, type_sound, type_complete}
use Rattle.pvs_parser.proofs.Ids.{ids_sound, ids_complete}
use Rattle.pvs_parser.proofs.Behind.{PartEnds, part_whole, part_plus, part_at, colon_comma, bracket_comma}
use Rattle.pvs_parser.proofs.Wholes.{type_first}

-- ---- TYPE, with a plus or without

plus_of : (t : Terminal) → Is kind.Type t → (ts : Tokens) (o : Option Tokens) → after kind.Plus ts ≡ o → Fore DerivesTypeWord (t ∷ ts) (either o (λ us. (true, us)) (false, ts))
plus_of t is ts (Some us) a = let c = (after_yields kind.Plus ts).holds us a in (t ∷ c.0 ∷ [], put refl (alone c.1), DerivesTypeWord.type_plus t c.0 is c.2)
plus_of t is ts None a = (t ∷ [], alone refl, DerivesTypeWord.type t is)

pub plus_sound : (t : Terminal) → Is kind.Type t → (ts : Tokens) → Fore DerivesTypeWord (t ∷ ts) (plus ts)
plus_sound t is ts = plus_of t is ts (after kind.Plus ts) refl

-- ---- one formal

-- what stands after names and a colon
abbrev KindFront : Limit → Tokens → List Word → Terminal → Tokens → List Formal × Tokens → Type 0
KindFront limit ns ws u ts p = (vs : Tokens) × Splits ts vs p.1 × DerivesFormal limit (ns ++ u ∷ vs) p.0

formal_type_sound : (limit : Limit) (ns : Tokens) (ws : List Word) (u : Terminal) → DerivesIds limit ns ws → Is kind.Colon u → (ts : Tokens)
    → Yields (type limit (in_frame outermost) ts >>= λ p. Ok (map (const_formal p.0) ws, p.1)) (KindFront limit ns ws u ts)
formal_type_sound limit ns ws u d colon ts = bind (type_sound limit (in_frame outermost) ts) (λ p f. here (f.0, f.1, DerivesFormal.constants ns f.0 ws p.0 f.2.0 u d colon f.2.1))

formal_of_sound : (limit : Limit) (ns : Tokens) (ws : List Word) (u : Terminal) → DerivesIds limit ns ws → Is kind.Colon u → (t : Terminal) (ts : Tokens) (k : TerminalKind) → t.kind ≡ k
    → Yields (formal_of limit ws t ts k) (KindFront limit ns ws u (t ∷ ts))
formal_of_sound limit ns ws u d colon t ts kind.Type is = let f = plus_sound t is ts in here (f.0, f.1, DerivesFormal.types ns f.0 ws (plus ts).0 u d colon f.2)
formal_of_sound limit ns ws u d colon t ts kind.NonemptyType is = here (t ∷ [], alone refl, DerivesFormal.types ns (t ∷ []) ws true u d colon (DerivesTypeWord.nonempty_type t is))
formal_of_sound limit ns ws u d colon t ts _ is = formal_type_sound limit ns ws u d colon (t ∷ ts)

formal_after_sound : (limit : Limit) (ns : Tokens) (ws : List Word) (u : Terminal) → DerivesIds limit ns ws → Is kind.Colon u → (ts : Tokens) → Yields (formal_after limit ws ts) (KindFront limit ns ws u ts)
formal_after_sound limit ns ws u d colon [] = none
formal_after_sound limit ns ws u d colon (t ∷ ts) = formal_of_sound limit ns ws u d colon t ts t.kind refl

pub formal_sound : (limit : Limit) (ts : Tokens) → Yields (formal limit ts) (Fore (DerivesFormal limit) ts)
formal_sound limit ts =
    bind (ids_sound limit ts) (λ p f. bind (expect_yields kind.Colon p.1) (λ us a. weaken (λ q g. (f.0 ++ a.0 ∷ g.0, glue f.1 (put a.1 g.1), g.2)) (formal_after_sound limit f.0 p.0 a.0 f.2 a.2 us)))

-- ---- formals with commas between them

abbrev pub FormalsFront : Limit → ℕ → List Formal → Tokens → List Formal × Tokens → Type 0
FormalsFront limit n before ts p = (k : ℕ) × (fs : List Formal) × (vs : Tokens) × Splits ts vs p.1 × (p.0 ≡ before ++ fs) × (k ≤ n) × DerivesFormals limit k vs fs

more_formals : (limit : Limit) (n : ℕ) → AtMost limit (suc n) → (before : List Formal) (ts : Tokens) (p : List Formal × Tokens) → Fore (DerivesFormal limit) ts p → (us : Tokens) → Comes kind.Comma p.1 us
    → (q : List Formal × Tokens) → FormalsFront limit n (before ++ p.0) us q → FormalsFront limit (suc n) before ts q
more_formals limit n most before ts p f us c q g = (
  suc g.0,
  p.0 ++ g.1,
  f.0 ++ c.0 ∷ g.2,
  glue f.1 (put c.1 g.3),
  g.4 ∙ append_assoc before p.0 g.1,
  omega (arith, g.5),
  DerivesFormals.more g.0 f.0 g.2 p.0 g.1 c.0 f.2 c.2 g.6 (below_at_most limit n g.0 most g.5),
)

pub from_sound : (limit : Limit) (n : ℕ) → AtMost limit n → (before : List Formal) (ts : Tokens) → Yields (formals_from limit n before ts) (FormalsFront limit n before ts)
unfolding formals_from
from_sound limit zero most before ts = crowded_yields is_id ts
from_sound limit (suc n) most before ts =
    bind (formal_sound limit ts) (λ p f. cases
    (λ us a. weaken (λ q g. more_formals limit n most before ts p f us ((after_yields kind.Comma p.1).holds us a) q g) (from_sound limit n (fewer limit n most) (before ++ p.0) us))
    (λ a. here (1, p.0, f.0, f.1, refl, omega arith, DerivesFormals.one f.0 p.0 f.2)))

-- formals after a bracket
formals_sound : (limit : Limit) (t : Terminal) (ts us : Tokens) → ts ≡ t ∷ us → Is kind.OpenBracket t → Yields (formals limit us) (Fore (DerivesFormalPart limit) ts)
formals_sound limit t ts us e is =
    room limit outermost (in_frame outermost) us _ (λ lt. bind (from_sound limit (entries limit us) (entries_at_most limit us) [] us) (λ p f. bind (expect_yields kind.CloseBracket p.1) (λ vs a. here (
      t ∷ (f.2 ++ a.0 ∷ []),
      put e (glue f.3 (alone a.1)),
      subst (λ z. DerivesFormalPart limit (t ∷ (f.2 ++ a.0 ∷ [])) z) (sym f.4) (DerivesFormalPart.formals f.0 f.2 f.1 t a.0 is lt f.6 a.2),
    ))))

pub formal_part_sound : (limit : Limit) (ts : Tokens) → Yields (formal_part limit ts) (Fore (DerivesFormalPart limit) ts)
formal_part_sound limit ts = cases
    (λ us a. let c = (after_yields kind.OpenBracket ts).holds us a in formals_sound limit c.0 ts us c.1 c.2)
    (λ a. here ([], nothing, DerivesFormalPart.none))

-- ---- the other way round

abbrev pair : {A B : Type 0} → A → B → A × B
pair a b = (a, b)

pub plus_goes : (t : Terminal) (us : Tokens) → Is kind.Plus t → plus (t ∷ us) ≡ pair true us
plus_goes t us is = ap (λ o. either o (λ us. pair true us) (pair false (t ∷ us))) (after_is kind.Plus t us is)

pub plus_stops : (us : Tokens) → after kind.Plus us ≡ None → plus us ≡ pair false us
plus_stops us none = ap (λ o. either o (λ us. pair true us) (pair false us)) none

formal_types : (limit : Limit) (ts : Tokens) (nonempty : Bool) → DerivesTypeWord ts nonempty → (ws : List Word) (us : Tokens) → PartEnds us → Gets (formal_after limit ws (ts ++ us)) (map (type_formal nonempty) ws, us)
formal_types limit _ _ (DerivesTypeWord.type t is) ws us ends =
    record { is = ap (formal_of limit ws t us) is ∙ ap (λ z. Ok (map (type_formal z.0) ws, z.1)) (plus_stops us (part_plus us ends)) }
formal_types limit _ _ (DerivesTypeWord.type_plus t u is sign) ws us ends =
    record { is = ap (formal_of limit ws t (u ∷ us)) is ∙ ap (λ z. Ok (map (type_formal z.0) ws, z.1)) (plus_goes u us sign) }
formal_types limit _ _ (DerivesTypeWord.nonempty_type t is) ws us ends = record { is = ap (formal_of limit ws t us) is }

formal_type : (limit : Limit) (ws : List Word) (t : Terminal) (ts : Tokens) (k : TerminalKind) → starts_type k ≡ true
    → formal_of limit ws t ts k ≡ (type limit (in_frame outermost) (t ∷ ts) >>= λ p. Ok (map (const_formal p.0) ws, p.1))
formal_type limit ws t ts kind.Type e = cc
formal_type limit ws t ts kind.NonemptyType e = cc
formal_type limit ws t ts _ e = refl

formal_constants : (limit : Limit) (ts : Tokens) (a : TypeExpr) (m : Nesting) → Derives limit type_ (in_frame outermost) ts a m → (ws : List Word) (us : Tokens) → PartEnds us → Gets (formal_after limit ws (ts ++ us)) (map (const_formal a) ws, us)
formal_constants limit ts a m d ws us ends =
    let b = type_first (in_frame outermost) ts a m d in
    let g : Gets (type limit (in_frame outermost) (b.0 ∷ (b.1 ++ us))) (a, us) =
    subst (λ z. Gets (type limit (in_frame outermost) (z ++ us)) (a, us)) b.2 (type_complete limit (in_frame outermost) ts a (m, d) (ts ++ us) us both (part_whole us ends).1) in
    subst (λ z. Gets (formal_after limit ws (z ++ us)) (map (const_formal a) ws, us)) (sym b.2)
    (record { is = formal_type limit ws b.0 (b.1 ++ us) b.0.kind b.3 ∙ (then_ (λ p. Ok (map (const_formal p.0) ws, p.1)) g found).is })

formal_complete : (limit : Limit) → IsBelow limit 0 → (ts : Tokens) (fs : List Formal) → DerivesFormal limit ts fs → (all us : Tokens) → Splits all ts us → PartEnds us → Gets (formal limit all) (fs, us)
formal_complete limit some _ _ (DerivesFormal.types ts vs ws nonempty t d colon e) all us s ends =
    then_ _ (ids_complete limit some ts ws d all (t ∷ (vs ++ us)) (unglue ts (t ∷ vs) s) (colon_comma t (vs ++ us) colon)) (takes kind.Colon t (vs ++ us) _ colon (formal_types limit vs nonempty e ws us ends))
formal_complete limit some _ _ (DerivesFormal.constants ts vs ws a m t d colon e) all us s ends =
    then_ _ (ids_complete limit some ts ws d all (t ∷ (vs ++ us)) (unglue ts (t ∷ vs) s) (colon_comma t (vs ++ us) colon)) (takes kind.Colon t (vs ++ us) _ colon (formal_constants limit vs a m e ws us ends))

last_formal : (limit : Limit) (n : ℕ) (before fs : List Formal) (all us : Tokens) → Gets (formal limit all) (fs, us) → after kind.Comma us ≡ None → Gets (formals_from limit (suc n) before all) (before ++ fs, us)
unfolding formals_from
last_formal limit n before fs all us g none = then_ _ g (absent _ none found)

next_formal : (limit : Limit) (n : ℕ) (before fs gs : List Formal) (t : Terminal) (all rest us : Tokens) → Gets (formal limit all) (fs, t ∷ rest) → Is kind.Comma t
    → Gets (formals_from limit n (before ++ fs) rest) ((before ++ fs) ++ gs, us) → Gets (formals_from limit (suc n) before all) (before ++ (fs ++ gs), us)
unfolding formals_from
next_formal limit n before fs gs t all rest us g comma h =
    then_ _ g (there _ _ (after_is kind.Comma t rest comma) (subst (λ z. Gets (formals_from limit n (before ++ fs) rest) (z, us)) (append_assoc before fs gs) h))

from_complete : (limit : Limit) → IsBelow limit 0 → (k : ℕ) (ts : Tokens) (fs : List Formal) → DerivesFormals limit k ts fs → (n : ℕ) → k ≤ n → (before : List Formal) (all us : Tokens) → Splits all ts us → PartEnds us → after kind.Comma us ≡ None
    → Gets (formals_from limit n before all) (before ++ fs, us)
from_complete limit some _ _ _ (DerivesFormals.one ts fs d) zero le before all us s ends none = absurd (omega (arith, le))
from_complete limit some _ _ _ (DerivesFormals.one ts fs d) (suc n) le before all us s ends none = last_formal limit n before fs all us (formal_complete limit some ts fs d all us s ends) none
from_complete limit some _ _ _ (DerivesFormals.more k ts vs fs gs t d comma e lt) zero le before all us s ends none = absurd (omega (arith, le))
from_complete limit some _ _ _ (DerivesFormals.more k ts vs fs gs t d comma e lt) (suc n) le before all us s ends none =
    next_formal limit n before fs gs t all (vs ++ us) us (formal_complete limit some ts fs d all (t ∷ (vs ++ us)) (unglue ts (t ∷ vs) s) (part_at kind.Comma refl t (vs ++ us) comma)) comma
    (from_complete limit some k vs gs e n (omega (arith, le)) (before ++ fs) (vs ++ us) us both ends none)

formal_some : (limit : Limit) (ts : Tokens) (fs : List Formal) → DerivesFormal limit ts fs → 1 ≤ length ts
formal_some limit _ _ (DerivesFormal.types ts vs ws nonempty t d colon e) = omega (arith, length-append ts (t ∷ vs))
formal_some limit _ _ (DerivesFormal.constants ts vs ws a m t d colon e) = omega (arith, length-append ts (t ∷ vs))

formals_few : (limit : Limit) → IsBelow limit 0 → (k : ℕ) (ts : Tokens) (fs : List Formal) → DerivesFormals limit k ts fs → AtMost limit k × (k ≤ length ts)
formals_few limit some _ _ _ (DerivesFormals.one ts fs d) = (one_more limit 0 some, formal_some limit ts fs d)
formals_few limit some _ _ _ (DerivesFormals.more k ts vs fs gs t d comma e lt) = (one_more limit k lt, omega (arith, length-append ts (t ∷ vs), (formals_few limit some k vs gs e).1))

formals_goes : (limit : Limit) (k : ℕ) (ts : Tokens) (fs : List Formal) (u : Terminal) (all us : Tokens) → HasRoom limit outermost → DerivesFormals limit k ts fs → Is kind.CloseBracket u → Splits all ts (u ∷ us) → Gets (formals limit all) (fs, us)
formals_goes limit k ts fs u all us lt d close s =
    let few = formals_few limit lt k ts fs d in
    let size : length all ≡ length (ts ++ u ∷ us) = ap length s.same in
    has_room limit outermost (in_frame outermost) all _ lt
    (then_ _ (from_complete limit lt k ts fs d (entries limit all) (enough_entries limit k all few.0 (omega (arith, few.1, size, length-append ts (u ∷ us)))) [] all (u ∷ us) s (part_at kind.CloseBracket refl u us close) (bracket_comma u us close))
    (takes kind.CloseBracket u us _ close found))

pub formal_part_complete : (limit : Limit) (ts : Tokens) (fs : List Formal) → DerivesFormalPart limit ts fs → (all us : Tokens) → Splits all ts us → after kind.OpenBracket us ≡ None → Gets (formal_part limit all) (fs, us)
formal_part_complete limit _ _ DerivesFormalPart.none all us s shut = from (λ z. formal_part limit z) s (absent _ shut found)
formal_part_complete limit _ _ (DerivesFormalPart.formals n ts fs t u is lt d close) all us s shut =
    from (λ z. formal_part limit z) s (there _ _ (after_is kind.OpenBracket t ((ts ++ u ∷ []) ++ us) is) (formals_goes limit n ts fs u ((ts ++ u ∷ []) ++ us) us lt d close (unglue ts (u ∷ []) both)))
