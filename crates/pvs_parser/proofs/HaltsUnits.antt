-- Where the reading of a unit stops, the tokens before the stop can be completed to a unit.
use Rattle.std.proofs.Common.{◌≡◌, ◌∙◌, ◌⊎◌, inl, inr, ℕ, zero, suc, ◌≤◌, true, false, List, [], ◌∷◌, ◌++◌, length, None, Err, ap, subst, length-append, arith}
use Rattle.pvs_parser.specs.declared.failure.Reason.{Reason}
use Rattle.pvs_parser.specs.declared.failure.Reason.TheVariants as reason
use Rattle.pvs_parser.specs.declared.failure.Stop.{Stop}
use Rattle.pvs_parser.specs.declared.terminal.Terminal.{Terminal}
use Rattle.pvs_parser.specs.declared.terminal.TerminalKind.TheVariants as kind
use Rattle.pvs_syntax.specs.declared.unit.Item.{Item}
use Rattle.pvs_syntax.specs.declared.unit.Item.TheVariants as item
use Rattle.pvs_syntax.specs.declared.unit.Unit as tree
use Rattle.pvs_parser.specs.Terminals.{IsId}
use Rattle.pvs_parser.specs.Language.{Limit, Tokens, IsBelow}
use Rattle.pvs_parser.specs.Units.{DerivesItems, DerivesUnit}
use Rattle.pvs_parser.specs.code.UnitDescent.{one_item, items_from, unit}
use Rattle.pvs_parser.proofs.Gets.{both}
use Rattle.pvs_parser.proofs.DescentSteps.{after_yields, Splits, glue}
use Rattle.pvs_parser.proofs.Deeper.{Fore}
use Rattle.pvs_parser.proofs.WholeUnits.{IsItem, item_sound, item_before, item_some}
use Rattle.pvs_parser.proofs.Halts.{Stops, goes, bind, then_, cases, Wider, Full, NoComma, first, past}
use Rattle.pvs_parser.proofs.HaltsBegins.{extend}
use Rattle.pvs_parser.proofs.HaltsUnitsWiden.{widen_theory, widen_proof}
use Rattle.pvs_parser.proofs.HaltsUnitsEnds.{is_end, last_is_end, last_of}
use Rattle.pvs_parser.proofs.HaltsUnitsParts.{Starts, started}
use Rattle.pvs_parser.specs.Faults.{AwaitsName}
use Rattle.pvs_parser.proofs.HaltsUnitsSteps.{TextWhy, TextHalts, text_into}
use Rattle.pvs_parser.proofs.HaltsUnitsTheories.{TheoryBegun, theory_stops}
use Rattle.pvs_parser.proofs.HaltsUnitsProofs.{ProofBegun, proof_stops}

-- ---- theories and proofs one after another

abbrev ItemsBegun : List ℕ → Limit → Tokens → Type 0
ItemsBegun text w p = Starts (DerivesItems w text) p

one_theory : {w : Limit} {p : Tokens} (text : List ℕ) → TheoryBegun text w p → ItemsBegun text w p
one_theory text g = started _ (extend [] g.split) (DerivesItems.theory g.all [] g.tree [] g.derives DerivesItems.none)

one_proof : {w : Limit} {p : Tokens} (text : List ℕ) → ProofBegun w p → ItemsBegun text w p
one_proof text g = started _ (extend [] g.split) (DerivesItems.proof g.all [] g.tree [] g.derives DerivesItems.none)

item_stops : (limit : Limit) → IsBelow limit 0 → (text : List ℕ) (ts : Tokens) → Stops (one_item limit text ts) (TextHalts limit (ItemsBegun text) ts)
item_stops limit some text ts = cases
    (λ us a. let c = (after_yields kind.Open ts).holds us a in then_ (text_into (proof_stops limit some c.0 ts us c.1 c.2) first (λ w wide p g. one_proof text g)) (λ p. goes))
    (λ a. then_ (text_into (theory_stops limit some text ts) first (λ w wide p g. one_theory text g)) (λ p. goes))

widen_item : {limit w : Limit} → Wider limit w → (text : List ℕ) (ts : Tokens) (i : Item) → IsItem limit text ts i → IsItem w text ts i
widen_item wide text ts (item.Theory t) d = widen_theory wide text ts t d
widen_item wide text ts (item.Proof p) d = widen_proof wide ts p d

-- fewer tokens stand after an item than with it
fewer : (limit : Limit) (text : List ℕ) (n : ℕ) (ts : Tokens) (p : Item × Tokens) → Fore (IsItem limit text) ts p → length ts ≤ suc n → length p.1 ≤ n
fewer limit text n ts p f le =
    let b = item_some limit text f.0 p.0 f.2 in
    let e : length f.0 ≡ length (b.0 ∷ b.1) = ap length b.2 in
    let g : length ts ≡ length (f.0 ++ p.1) = ap length f.1.same in omega (arith, le, e, g, length-append f.0 p.1)

items_stops : (limit : Limit) → IsBelow limit 0 → (text : List ℕ) (n : ℕ) (found : List Item) (ts : Tokens) → length ts ≤ n → Stops (items_from limit text n found ts) (TextHalts limit (ItemsBegun text) ts)
unfolding items_from
items_stops limit some text zero found [] le = goes
items_stops limit some text zero found (t ∷ ts) le = absurd (omega (arith, le))
items_stops limit some text (suc n) found [] le = goes
items_stops limit some text (suc n) found (t ∷ ts) le = bind (item_sound limit text (t ∷ ts)) (item_stops limit some text (t ∷ ts)) (λ p f.
    text_into (items_stops limit some text n (found ++ p.0 ∷ []) p.1 (fewer limit text n (t ∷ ts) p f le)) (past f.1 first)
    (λ w wide q g. started _ (glue both g.split) (item_before w text f.0 g.all p.0 g.tree (widen_item wide text f.0 p.0 f.2) g.derives)))

-- ---- units

-- the tokens p can be completed to a unit within the limit
abbrev pub UnitBegun : Limit → List ℕ → Tokens → Type 0
UnitBegun w text p = (more : Tokens) × (u : tree.Unit) × DerivesUnit w text (p ++ more) u

-- Why reading stops between these tokens: an identifier is unexpected only where no END stands before it; a token that is too much is no comma,
-- and one with which the tokens before it can be completed without a limit; a wrong end is an identifier after END.
abbrev pub UnitWhy : List ℕ → Tokens → Tokens → Reason → Type 0
UnitWhy text before rest reason.Unexpected = (t : Terminal) (more : Tokens) → rest ≡ t ∷ more → IsId t → AwaitsName before → ⊥
UnitWhy text before rest reason.TooNested = (t : Terminal) × (more : Tokens) × (rest ≡ t ∷ more) × NoComma t × UnitBegun None text (before ++ t ∷ [])
UnitWhy text before rest reason.WrongEnd = (t : Terminal) × (more : Tokens) × (rest ≡ t ∷ more) × IsId t × AwaitsName before

-- The tokens before a stop can be completed to a unit: without a limit; and within the limit, or else they are such tokens and the comma after the last
-- entry that a list may have.
pub record UnitHalts (limit : Limit) (text : List ℕ) (ts : Tokens) (e : Stop) : Type 0 where
  pub before : Tokens
  pub rest : Tokens
  pub split : Splits ts before rest
  pub left : length rest ≡ e.left
  pub begun : UnitBegun None text before
  pub within : UnitBegun limit text before ⊎ Full limit (λ w p. UnitBegun w text p) before
  pub why : UnitWhy text before rest e.reason

items_unit : {w : Limit} (text : List ℕ) (p : Tokens) → ItemsBegun text w p → UnitBegun w text p
items_unit {w = w} text p g = (g.more, record { items = g.tree }, subst (λ z. DerivesItems w text z g.tree) g.split.same g.derives)

items_within : {limit : Limit} (text : List ℕ) (before : Tokens) → ItemsBegun text limit before ⊎ Full limit (ItemsBegun text) before → UnitBegun limit text before ⊎ Full limit (λ w p. UnitBegun w text p) before
items_within text before (inl g) = inl (items_unit text before g)
items_within text before (inr g) = inr (record {
  front = g.front;
  comma = g.comma;
  same = g.same;
  is = g.is;
  begun = items_unit text g.front g.begun;
})

-- tokens that end in END end in it
ends_so : (before : Tokens) → AwaitsName before → last_is_end true before ≡ false → ⊥
ends_so before b plain = let e : last_is_end true before ≡ true = ap (last_is_end true) b.2 ∙ last_of true b.0 (b.1 ∷ []) ∙ ap is_end b.3 in cc

items_why : (text : List ℕ) (before rest : Tokens) (r : Reason) → TextWhy (ItemsBegun text) before rest r → UnitWhy text before rest r
items_why text before rest reason.Unexpected y = λ t more e is b. ends_so before b (y t more e is)
items_why text before rest reason.TooNested y = (y.0, y.1, y.2, y.3, items_unit text (before ++ y.0 ∷ []) y.4)
items_why text before rest reason.WrongEnd y = y

units_stop : (limit : Limit) → IsBelow limit 0 → (text : List ℕ) (ts : Tokens) → Stops (unit limit text ts) (TextHalts limit (ItemsBegun text) ts)
units_stop limit some text ts = then_ (items_stops limit some text (length ts) [] ts (omega arith)) (λ is. goes)

pub unit_halts : (limit : Limit) → IsBelow limit 0 → (text : List ℕ) (ts : Tokens) (e : Stop) → unit limit text ts ≡ Err e → UnitHalts limit text ts e
unit_halts limit some text ts e same =
    let h = (units_stop limit some text ts).holds e same in record {
      before = h.before;
      rest = h.rest;
      split = h.split;
      left = h.left;
      begun = items_unit text h.before h.begun;
      within = items_within text h.before h.within;
      why = items_why text h.before h.rest e.reason h.why;
    }
