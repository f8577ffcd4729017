-- Whole expressions, types and framed lists of a text: where their reading stops, the tokens before the stop can be completed.
use Rattle.std.proofs.Common.{◌≡◌, ◌<◌, ◌⊎◌, inl, inr, ℕ, List, [], length, Ok, Err, refl, subst}
use Rattle.pvs_parser.specs.declared.failure.Stop.{Stop}
use Rattle.pvs_parser.specs.declared.nesting.Nesting.{Nesting}
use Rattle.pvs_parser.specs.declared.start.Start.{Start}
use Rattle.pvs_parser.specs.declared.start.Start.TheVariants as start
use Rattle.pvs_parser.specs.declared.terminal.Connective.TheVariants as connective
use Rattle.pvs_parser.specs.declared.terminal.TerminalKind.{TerminalKind}
use Rattle.pvs_parser.specs.Language.{Limit, Tokens, IsBelow, HasRoom, level, Form, Item, ItemTree, list, type_, in_frame}
use Rattle.pvs_parser.specs.code.Descent.{Readers, expect, nested_expr, list_with, framed_with, reader}
use Rattle.pvs_base.specs.Answers.{◌>>=◌}
use Rattle.pvs_parser.proofs.DescentSound.{sound_reader, reader_limit}
use Rattle.pvs_parser.proofs.Halts.{Stops, Halts, Wider, Place, first, deep, room_else, weaken}
use Rattle.pvs_parser.proofs.HaltsBegins.{Completes, Begun, StartBegun, FramedBegun, framed_begun, some_list}
use Rattle.pvs_parser.proofs.HaltsDescent.{reader_halting, list_with_stops, inside_stops, framed_stops}

-- ---- as steps of the proof of a larger form

-- what is read from a start, as a whole expression, and a type
pub read_start_stops : (limit : Limit) (a : ℕ) (s : Start) (l : Nesting) (ts : Tokens) → length ts < a → Stops ((reader limit a).expr s l ts) (Halts limit (λ w p. StartBegun w s l p) ts)
read_start_stops limit a s l ts small = subst (λ z. Stops ((reader limit a).expr s l ts) (Halts z (λ w p. StartBegun w s l p) ts)) (reader_limit limit a) ((reader_halting limit a).expr s l ts small)

pub read_expr_stops : (limit : Limit) (a : ℕ) (l : Nesting) (ts : Tokens) → length ts < a → Stops (nested_expr (reader limit a) l ts) (Halts limit (λ w p. Begun w (λ e. Form.Chain connective.Iff e) l p) ts)
read_expr_stops limit a l ts small = read_start_stops limit a (start.Chain connective.Iff) l ts small

pub read_type_stops : (limit : Limit) (a : ℕ) (l : Nesting) (ts : Tokens) → length ts < a → Stops ((reader limit a).type l ts) (Halts limit (λ w p. Completes w type_ l p) ts)
read_type_stops limit a l ts small = subst (λ z. Stops ((reader limit a).type l ts) (Halts z (λ w p. Completes w type_ l p) ts)) (reader_limit limit a) ((reader_halting limit a).type l ts small)

-- a list with no frame
pub read_entries_stops : (limit : Limit) (a : ℕ) (i : Item) → IsBelow limit 0 → (l : Nesting) (ts : Tokens) → length ts < a → Stops (list_with (reader limit a) i l ts) (Halts limit (λ w p. Completes w (list i) l p) ts)
read_entries_stops limit a i lt l ts small =
    subst (λ z. IsBelow z 0 → Stops (list_with (reader limit a) i l ts) (Halts z (λ w p. Completes w (list i) l p) ts)) (reader_limit limit a)
    (λ lt. list_with_stops (reader limit a) (sound_reader limit a) a (reader_halting limit a) i lt l ts small) lt

-- A list in a frame, at a place in tokens after the sign that opens it. Where that sign nests too deep, the stop is at it.
pub read_list_stops : (limit : Limit) (a : ℕ) (i : Item) (end : TerminalKind) (l : Nesting) {K : Limit → Tokens → Type 0} {ts us : Tokens} {f : Tokens → Tokens} → Place ts f us → Halts limit K ts (deep us)
    → (HasRoom limit l → (w : Limit) → Wider limit w → (p : Tokens) → Completes w (list i) (in_frame l) p → K w (f p)) → length us < a → Stops (framed_with (reader limit a) i end l us) (Halts limit K ts)
read_list_stops limit a i end l {K = K} {ts = ts} {us = us} {f = f} place too_deep k small =
    subst (λ z. Halts z K ts (deep us) → (HasRoom z l → (w : Limit) → Wider z w → (p : Tokens) → Completes w (list i) (in_frame l) p → K w (f p)) → Stops (framed_with (reader limit a) i end l us) (Halts z K ts)) (reader_limit limit a)
    (λ d k. framed_stops (reader limit a) (sound_reader limit a) a (reader_halting limit a) i end l place d k small) too_deep k

-- ---- as they stand

-- A stop in an expression: the tokens before it can be completed to an expression, within the limit unless a list was full;
-- where a token is too much, they can be with it, without a limit.
pub read_expr_halts : (limit : Limit) (a : ℕ) (l : Nesting) (ts : Tokens) (e : Stop) → length ts < a → nested_expr (reader limit a) l ts ≡ Err e → Halts limit (λ w p. Begun w (λ e. Form.Chain connective.Iff e) l p) ts e
read_expr_halts limit a l ts e small same = (read_expr_stops limit a l ts small).holds e same

pub read_type_halts : (limit : Limit) (a : ℕ) (l : Nesting) (ts : Tokens) (e : Stop) → length ts < a → (reader limit a).type l ts ≡ Err e → Halts limit (λ w p. Completes w type_ l p) ts e
read_type_halts limit a l ts e small same = (read_type_stops limit a l ts small).holds e same

pub read_entries_halts : (limit : Limit) (a : ℕ) (i : Item) (l : Nesting) (ts : Tokens) (e : Stop) → IsBelow limit 0 → length ts < a → list_with (reader limit a) i l ts ≡ Err e → Halts limit (λ w p. Completes w (list i) l p) ts e
read_entries_halts limit a i l ts e lt small same = (read_entries_stops limit a i lt l ts small).holds e same

-- the sign that opens a frame, which stands before these tokens, nests too deep; or the tokens before the stop can be completed to a list and the sign that ends the frame
abbrev pub ListHalts : Limit → Item → TerminalKind → Nesting → Tokens → Stop → Type 0
ListHalts limit i end l ts e = ((HasRoom limit l → ⊥) × (e ≡ deep ts)) ⊎ Halts limit (λ w p. FramedBegun w i end l p) ts e

list_halts : (go : Readers) (limit : Limit) (i : Item) (end : TerminalKind) (l : Nesting) (ts : Tokens) → go.limit ≡ limit
    → (HasRoom limit l → Stops {A = List (ItemTree i) × Tokens} (list_with go i (in_frame l) ts >>= λ p. expect end p.2 >>= λ vs. Ok (p.0, vs)) (Halts limit (λ w p. FramedBegun w i end l p) ts))
    → Stops (framed_with go i end l ts) (ListHalts limit i end l ts)
list_halts go limit i end l ts same g = subst (λ z. (HasRoom z l → Stops {A = List (ItemTree i) × Tokens} (list_with go i (in_frame l) ts >>= λ p. expect end p.2 >>= λ vs. Ok (p.0, vs)) (Halts z (λ w p. FramedBegun w i end l p) ts)) → Stops (framed_with go i end l ts) (ListHalts z i end l ts))
    same
    (λ g. room_else go.limit l (in_frame l) ts _ (λ none. inl (none, refl)) (λ lt. weaken (λ e h. inr h) (g lt))) g

pub read_list_halts : (limit : Limit) (a : ℕ) (i : Item) (end : TerminalKind) (l : Nesting) (ts : Tokens) (e : Stop) → length ts < a → framed_with (reader limit a) i end l ts ≡ Err e → ListHalts limit i end l ts e
read_list_halts limit a i end l ts e small same = (list_halts (reader limit a) limit i end l ts (reader_limit limit a)
    (subst (λ z. HasRoom z l → Stops {A = List (ItemTree i) × Tokens} (list_with (reader limit a) i (in_frame l) ts >>= λ p. expect end p.2 >>= λ vs. Ok (p.0, vs)) (Halts z (λ w p. FramedBegun w i end l p) ts)) (reader_limit limit a)
    (λ lt. inside_stops (reader limit a) (sound_reader limit a) a (reader_halting limit a) i end l lt first (λ w wide p g. framed_begun end (wide.below (level l) lt) g) small))).holds e same

-- a list and the sign that ends its frame can follow the sign that opens it, where there is room
pub some_framed : (w : Limit) (i : Item) (end : TerminalKind) (l : Nesting) → HasRoom w l → FramedBegun w i end l []
some_framed w i end l lt = framed_begun end lt (some_list i)
