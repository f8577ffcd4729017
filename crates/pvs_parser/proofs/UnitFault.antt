-- Where reading a unit stops is its first fault.
use Rattle.std.proofs.Common.{◌≡◌, ℕ, ◌++◌, [], ◌∷◌, ◌⊎◌, inl, inr, List, None, Err, arith}
use Rattle.pvs_parser.specs.declared.failure.Reason.{Reason}
use Rattle.pvs_parser.specs.declared.failure.Reason.TheVariants as reason
use Rattle.pvs_parser.specs.declared.failure.Stop.{Stop}
use Rattle.pvs_parser.specs.Language.{Tokens, Limit, language_limit}
use Rattle.pvs_syntax.specs.declared.unit.Item.{Item}
use Rattle.pvs_parser.specs.Units.{DerivesItems}
use Rattle.pvs_parser.specs.code.UnitDescent.{unit}
use Rattle.pvs_parser.specs.Faults.{Begins, IsViablePrefix, AwaitsName}
use Rattle.pvs_parser.specs.Text.{IsUnit}
use Rattle.pvs_parser.proofs.WholeUnits.{unit_sound, unit_complete}
use Rattle.pvs_parser.proofs.Halts.{Full, Wider}
use Rattle.pvs_parser.proofs.HaltsUnits.{UnitBegun, UnitWhy, unit_halts}
use Rattle.pvs_parser.proofs.HaltsUnitsWiden.{widen_theory, widen_proof}
use Rattle.pvs_parser.proofs.ExprFault.{without_limit}
use Rattle.pvs_parser.proofs.UnitLocality.{unit_goes}
use Rattle.pvs_parser.proofs.FirstFault.{Reading, HaltsAt, HaltWhy}

widen_items : {limit w : Limit} → Wider limit w → (text : List ℕ) (ts : Tokens) (is : List Item) → DerivesItems limit text ts is → DerivesItems w text ts is
widen_items wide text _ _ DerivesItems.none = DerivesItems.none
widen_items wide text _ _ (DerivesItems.theory ts us t is d e) = DerivesItems.theory ts us t is (widen_theory wide text ts t d) (widen_items wide text us is e)
widen_items wide text _ _ (DerivesItems.proof ts us p is d e) = DerivesItems.proof ts us p is (widen_proof wide ts p d) (widen_items wide text us is e)

begun : (w : Limit) (text : List ℕ) (p : Tokens) → UnitBegun w text p → Begins (IsUnit text) w p
begun w text p b = (b.0, (b.1, b.2))

within : (text : List ℕ) (before : Tokens) → UnitBegun None text before → UnitBegun language_limit text before ⊎ Full language_limit (λ w p. UnitBegun w text p) before → IsViablePrefix (IsUnit text) before
within text before free (inl b) = IsViablePrefix.begins (begun language_limit text before b)
within text before free (inr f) = IsViablePrefix.comma f.front f.comma f.same f.is (begun language_limit text f.front f.begun) (begun None text before free)

why_of : (text : List ℕ) (before rest : Tokens) (why : Reason) → UnitWhy text before rest why → HaltWhy (IsUnit text) AwaitsName before rest why
why_of text before rest reason.Unexpected h = h
why_of text before rest reason.TooNested h = (h.0, h.1, h.2, h.3, begun None text (before ++ h.0 ∷ []) h.4)
why_of text before rest reason.WrongEnd h = h

halts_at : (text : List ℕ) (ts : Tokens) (e : Stop) → unit language_limit text ts ≡ Err e → HaltsAt (IsUnit text) AwaitsName ts e
halts_at text ts e stop =
    let h = unit_halts language_limit (omega arith) text ts e stop in
    record { before = h.before; rest = h.rest; split = h.split.same; left = h.left; within = within text h.before h.begun h.within; why = why_of text h.before h.rest e.reason h.why }

pub unit_reading : (text : List ℕ) → Reading (IsUnit text) AwaitsName (λ limit ts. unit limit text ts)
unit_reading text = record {
  wider = λ ts d. (d.0, widen_items without_limit text ts d.0.items d.1);
  sound = λ ts u e. (u, unit_sound language_limit text ts u e);
  complete = λ ts d. (d.0, unit_complete language_limit (omega arith) text ts d.0 d.1);
  free = λ ts d. (d.0, unit_complete None tt text ts d.0 d.1);
  local = λ cut a b p q. unit_goes cut a b p text q;
  halts = halts_at text;
}
