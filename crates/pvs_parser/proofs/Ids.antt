-- Identifiers with commas between them: what is read is in the grammar, and what is in the grammar is read.
use Rattle.std.proofs.Common.{◌≡◌, ◌∙◌, ℕ, zero, suc, ◌≤◌, List, [], ◌∷◌, ◌++◌, length, None, false, refl, sym, subst, append_assoc, length-append, arith}
use Rattle.pvs_parser.specs.declared.nesting.Nesting.{Nesting}
use Rattle.pvs_parser.specs.declared.terminal.Terminal.{Terminal}
use Rattle.pvs_parser.specs.declared.terminal.TerminalKind.TheVariants as kind
use Rattle.pvs_syntax.specs.declared.word.Word.{Word}
use Rattle.pvs_parser.specs.Terminals.{Is, IsId, is_id, same_kind}
use Rattle.pvs_parser.specs.Language.{Limit, IsBelow, Tokens, outermost, without_marks}
use Rattle.pvs_parser.specs.Units.{DerivesIds}
use Rattle.pvs_parser.specs.code.Descent.{after, entries, list_from}
use Rattle.pvs_parser.specs.code.UnitDescent.{name, ids}
use Rattle.pvs_parser.proofs.Yields.{Yields, here, bind, cases, weaken}
use Rattle.pvs_parser.proofs.Gets.{Gets, found, then_, there, absent, names, after_is, after_other, from}
use Rattle.pvs_parser.proofs.DescentSteps.{Comes, after_yields, id_bind, AtMost, below_at_most, fewer, entries_at_most, one_more, enough_entries, Splits, put, alone}
use Rattle.pvs_parser.proofs.DescentSound.{crowded_yields}
use Rattle.pvs_parser.proofs.Deeper.{Fore}

-- a prefix of the tokens is names, which come after those found
abbrev NamesFront : Limit → ℕ → List Word → Tokens → List Word × Nesting × Tokens → Type 0
NamesFront limit n before ts p = (ws : List Word) × (vs : Tokens) × Splits ts vs p.2 × (p.0 ≡ before ++ ws) × (length ws ≤ n) × DerivesIds limit vs ws

-- an identifier stands first
abbrev pub NameFront : Tokens → Word × Nesting × Tokens → Type 0
NameFront ts p = (t : Terminal) × (ts ≡ t ∷ p.2) × IsId t × (t.word ≡ p.0)

pub name_sound : (l : Nesting) (ts : Tokens) → Yields (name l ts) (NameFront ts)
name_sound l ts = id_bind ts _ (λ t us e is. here (t, e, is, refl))

one_name : (limit : Limit) (n : ℕ) (before : List Word) (ts : Tokens) (p : Word × Nesting × Tokens) → NameFront ts p → NamesFront limit (suc n) before ts (before ++ p.0 ∷ [], p.1, p.2)
one_name limit n before ts p f =
    (p.0 ∷ [], f.0 ∷ [], alone f.1, refl, omega arith, subst (λ z. DerivesIds limit (f.0 ∷ []) (z ∷ [])) f.3 (DerivesIds.one f.0 f.2))

more_names : (limit : Limit) (n : ℕ) → AtMost limit (suc n) → (before : List Word) (ts : Tokens) (p : Word × Nesting × Tokens) → NameFront ts p → (us : Tokens) → Comes kind.Comma p.2 us
    → (q : List Word × Nesting × Tokens) → NamesFront limit n (before ++ p.0 ∷ []) us q → NamesFront limit (suc n) before ts q
more_names limit n most before ts p f us c q g = (
  p.0 ∷ g.0,
  f.0 ∷ c.0 ∷ g.1,
  put f.1 (put c.1 g.2),
  g.3 ∙ append_assoc before (p.0 ∷ []) g.0,
  omega (arith, g.4),
  subst (λ z. DerivesIds limit (f.0 ∷ c.0 ∷ g.1) (z ∷ g.0)) f.3 (DerivesIds.more f.0 c.0 g.1 g.0 f.2 c.2 g.5 (below_at_most limit n (length g.0) most g.4)),
)

from_sound : (limit : Limit) (n : ℕ) → AtMost limit n → (before : List Word) (l : Nesting) (ts : Tokens) → Yields (list_from is_id name n before l ts) (NamesFront limit n before ts)
unfolding list_from
from_sound limit zero most before l ts = crowded_yields is_id ts
from_sound limit (suc n) most before l ts =
    bind (name_sound l ts) (λ p f. cases
    (λ us a. weaken (λ q g. more_names limit n most before ts p f us ((after_yields kind.Comma p.2).holds us a) q g) (from_sound limit n (fewer limit n most) (before ++ p.0 ∷ []) (without_marks p.1) us))
    (λ a. here (one_name limit n before ts p f)))

pub ids_sound : (limit : Limit) (ts : Tokens) → Yields (ids limit ts) (Fore (DerivesIds limit) ts)
ids_sound limit ts =
    bind (from_sound limit (entries limit ts) (entries_at_most limit ts) [] outermost ts) (λ p f. here (f.1, f.2, subst (λ z. DerivesIds limit f.1 z) (sym f.3) f.5))

-- ---- the other way round

name_goes : (t : Terminal) (us : Tokens) → IsId t → Gets (name outermost (t ∷ us)) (t.word, outermost, us)
name_goes t us is = names t us _ is found

last_name : (n : ℕ) (before : List Word) (t : Terminal) (us : Tokens) → IsId t → after kind.Comma us ≡ None → Gets (list_from is_id name (suc n) before outermost (t ∷ us)) (before ++ t.word ∷ [], outermost, us)
unfolding list_from
last_name n before t us is none = then_ _ (name_goes t us is) (absent _ none found)

next_name : (n : ℕ) (before ws : List Word) (t u : Terminal) (all us : Tokens) → IsId t → Is kind.Comma u → Gets (list_from is_id name n (before ++ t.word ∷ []) outermost all) ((before ++ t.word ∷ []) ++ ws, outermost, us)
    → Gets (list_from is_id name (suc n) before outermost (t ∷ u ∷ all)) (before ++ t.word ∷ ws, outermost, us)
unfolding list_from
next_name n before ws t u all us is comma g =
    then_ _ (name_goes t (u ∷ all) is) (there _ _ (after_is kind.Comma u all comma) (subst (λ z. Gets (list_from is_id name n (before ++ t.word ∷ []) outermost all) (z, outermost, us)) (append_assoc before (t.word ∷ []) ws) g))

from_complete : (limit : Limit) (ts : Tokens) (ws : List Word) → DerivesIds limit ts ws → (n : ℕ) → length ws ≤ n → (before : List Word) (us : Tokens) → after kind.Comma us ≡ None
    → Gets (list_from is_id name n before outermost (ts ++ us)) (before ++ ws, outermost, us)
from_complete limit _ _ (DerivesIds.one t is) zero le before us none = absurd (omega (arith, le))
from_complete limit _ _ (DerivesIds.one t is) (suc n) le before us none = last_name n before t us is none
from_complete limit _ _ (DerivesIds.more t u ts ws is comma d lt) zero le before us none = absurd (omega (arith, le))
from_complete limit _ _ (DerivesIds.more t u ts ws is comma d lt) (suc n) le before us none =
    next_name n before ws t u (ts ++ us) us is comma (from_complete limit ts ws d n (omega (arith, le)) (before ++ t.word ∷ []) us none)

ids_few : (limit : Limit) → IsBelow limit 0 → (ts : Tokens) (ws : List Word) → DerivesIds limit ts ws → AtMost limit (length ws) × (length ws ≤ length ts)
ids_few limit some _ _ (DerivesIds.one t is) = (one_more limit 0 some, omega arith)
ids_few limit some _ _ (DerivesIds.more t u ts ws is comma d lt) = (one_more limit (length ws) lt, omega (arith, (ids_few limit some ts ws d).1))

ids_go : (limit : Limit) → IsBelow limit 0 → (ts : Tokens) (ws : List Word) → DerivesIds limit ts ws → (us : Tokens) → after kind.Comma us ≡ None → Gets (ids limit (ts ++ us)) (ws, us)
ids_go limit some ts ws d us none =
    let few = ids_few limit some ts ws d in
    then_ _ (from_complete limit ts ws d (entries limit (ts ++ us)) (enough_entries limit (length ws) (ts ++ us) few.0 (omega (arith, few.1, length-append ts us))) [] us none) found

pub ids_complete : (limit : Limit) → IsBelow limit 0 → (ts : Tokens) (ws : List Word) → DerivesIds limit ts ws → (all us : Tokens) → Splits all ts us → after kind.Comma us ≡ None → Gets (ids limit all) (ws, us)
ids_complete limit some ts ws d all us s none = from (λ z. ids limit z) s (ids_go limit some ts ws d us none)

ids_some : (limit : Limit) (ts : Tokens) (ws : List Word) → DerivesIds limit ts ws → ws ≡ [] → ⊥
ids_some limit _ _ (DerivesIds.one t is) e = cc
ids_some limit _ _ (DerivesIds.more t u ts ws is comma d lt) e = cc

-- one name alone
pub ids_one : (limit : Limit) (ts : Tokens) (ws : List Word) → DerivesIds limit ts ws → (w : Word) → ws ≡ w ∷ [] → (t : Terminal) × (ts ≡ t ∷ []) × IsId t × (t.word ≡ w)
ids_one limit _ _ (DerivesIds.one t is) w e = (t, refl, is, cc)
ids_one limit _ _ (DerivesIds.more t u ts ws is comma d lt) w e = absurd (ids_some limit ts ws d cc)

comma_no_open : same_kind kind.Comma kind.Open ≡ false
unfolding same_kind
comma_no_open = refl

-- the first of the names, after which no parenthesis comes
pub ids_front : (limit : Limit) (ts : Tokens) (ws : List Word) → DerivesIds limit ts ws → (t : Terminal) × (vs : Tokens) × (ts ≡ t ∷ vs) × IsId t × ((us : Tokens) → after kind.Open us ≡ None → after kind.Open (vs ++ us) ≡ None)
ids_front limit _ _ (DerivesIds.one t is) = (t, [], refl, is, λ us shut. shut)
ids_front limit _ _ (DerivesIds.more t u ts ws is comma d lt) = (t, u ∷ ts, refl, is, λ us shut. after_other kind.Open kind.Comma u (ts ++ us) comma comma_no_open)
