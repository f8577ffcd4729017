-- Names, formal parameters and instances: where their reading stops, the tokens before the stop can be completed.
use Rattle.std.proofs.Common.{◌≡◌, ◌∙◌, inr, ℕ, zero, suc, ◌+◌, ◌≤◌, ◌<◌, Bool, true, false, if◌then◌else◌, List, [], ◌∷◌, ◌++◌, length, Some, None, refl, sym, ap, subst, append_assoc, append-nil, arith}
use Rattle.pvs_parser.specs.declared.failure.Reason.{Reason}
use Rattle.pvs_parser.specs.declared.failure.Reason.TheVariants as reason
use Rattle.pvs_parser.specs.declared.nesting.Nesting.{Nesting}
use Rattle.pvs_parser.specs.declared.terminal.Connective.TheVariants as connective
use Rattle.pvs_parser.specs.declared.terminal.Terminal.{Terminal}
use Rattle.pvs_parser.specs.declared.terminal.TerminalKind.{TerminalKind}
use Rattle.pvs_parser.specs.declared.terminal.TerminalKind.TheVariants as kind
use Rattle.pvs_syntax.specs.declared.word.Word.{Word}
use Rattle.pvs_syntax.specs.declared.expression.InstExpr.{InstExpr}
use Rattle.pvs_syntax.specs.declared.unit.Formal.{Formal}
use Rattle.pvs_parser.specs.Terminals.{Is, IsId, is_id}
use Rattle.pvs_parser.specs.Language as l
use Rattle.pvs_parser.specs.Language.{Limit, Tokens, IsBelow, HasRoom, Derives, Form, Item, type_, outermost, in_frame, without_marks, instance}
use Rattle.pvs_parser.specs.Units.{DerivesIds, DerivesTypeWord, DerivesFormal, DerivesFormals, DerivesFormalPart, DerivesInstances, DerivesImporting}
use Rattle.pvs_parser.specs.code.Descent.{stop, too_many, end_of_list, list_from, entries}
use Rattle.pvs_parser.specs.code.UnitDescent.{expr, type, name, ids, formal_of, formal_after, formal, formals_from, formals, formal_part, inst, instances_from, importing}
use Rattle.pvs_parser.proofs.Gets.{both}
use Rattle.pvs_parser.proofs.DescentSteps.{Comes, after_yields, AtMost, entries_at_most, Splits, glue, put, alone, nothing}
use Rattle.pvs_parser.proofs.DescentSound.{moved}
use Rattle.pvs_parser.proofs.Ids.{name_sound, ids_sound}
use Rattle.pvs_parser.proofs.FormalLists.{formal_sound, from_sound}
use Rattle.pvs_parser.proofs.Instances.{inst_sound}
use Rattle.pvs_parser.proofs.Halts.{Stops, goes, stopped, bind, then_, cases, expect_then, id_then, room_then, Wider, any, no_limit, NoComma, no_comma, Why, Halts, unexpected, nested, Place, first, behind, past, upto, into}
use Rattle.pvs_parser.proofs.HaltsWiden.{wider}
use Rattle.pvs_parser.proofs.HaltsBegins.{Completes, Begun, made, extend, tok, below_le, some_list}
use Rattle.pvs_parser.proofs.HaltsDescent.{at_most_below, at_most_next, at_most_zero}
use Rattle.pvs_parser.proofs.HaltsWholes.{read_expr_stops, read_type_stops, read_list_stops}
use Rattle.pvs_parser.proofs.HaltsUnitsWiden.{widen_ids, widen_formal, widen_formals}

-- ---- what is said of tokens

-- the tokens p can be completed to what the relation says
pub record Starts {X : Type 0} (D : Tokens → X → Type 0) (p : Tokens) : Type 0 where
  pub all : Tokens
  pub more : Tokens
  pub split : Splits all p more
  pub tree : X
  pub derives : D all tree

pub started : {X : Type 0} {D : Tokens → X → Type 0} {all p more : Tokens} (x : X) → Splits all p more → D all x → Starts D p
started {all = all} {more = more} x s d = record { all = all; more = more; split = s; tree = x; derives = d }

pub whole_of : {X : Type 0} {D : Tokens → X → Type 0} {ts : Tokens} (x : X) → D ts x → Starts D ts
whole_of {ts = ts} x d = started x (record { same = sym (append-nil ts) }) d

-- the same tokens can be completed to another form
pub other_form : {X Y : Type 0} {D : Tokens → X → Type 0} {E : Tokens → Y → Type 0} {p : Tokens} (f : X → Y) → ((ts : Tokens) (x : X) → D ts x → E ts (f x)) → Starts D p → Starts E p
other_form f g s = started (f s.tree) s.split (g s.all s.tree s.derives)

-- a place further on
pub beyond : {ts us vs rest : Tokens} {f : Tokens → Tokens} → Place ts f us → Splits us vs rest → Place ts (λ p. f (vs ++ p)) rest
beyond {vs = vs} {f = f} g s = record { same = g.same ∙ ap f s.same; through = λ p q. ap f (sym (append_assoc vs p q)) ∙ g.through (vs ++ p) q }

-- ---- whole expressions and types

pub turns : (ts : Tokens) → length ts < length ts + 1
turns ts = omega arith

pub expr_stops : (limit : Limit) (ts : Tokens) → Stops (expr limit ts) (Halts limit (λ w p. Begun w (λ e. Form.Chain connective.Iff e) outermost p) ts)
expr_stops limit ts = then_ (read_expr_stops limit (length ts + 1) outermost ts (turns ts)) (λ p. goes)

pub type_stops : (limit : Limit) (l : Nesting) (ts : Tokens) → Stops (type limit l ts) (Halts limit (λ w p. Completes w type_ l p) ts)
type_stops limit l ts = then_ (read_type_stops limit (length ts + 1) l ts (turns ts)) (λ p. goes)

-- ---- lists of entries that begin with an identifier

-- What is said of whole entries, of tokens that can be completed to an entry, and of those that can be completed to a
-- list that has no more entries than it may, after so many.
record Listing (Entry One : Limit → Tokens → Type 0) (L : Limit → ℕ → Tokens → Type 0) : Type 0 where
  widens : (limit w : Limit) → Wider limit w → (vs : Tokens) → Entry limit vs → Entry w vs
  whole : (w : Limit) (vs : Tokens) → Entry w vs → One w vs
  none : (w : Limit) → One w []
  begins : (t : Terminal) → IsId t → One None (t ∷ [])
  one : (w : Limit) (k : ℕ) (p : Tokens) → IsBelow w k → One w p → L w k p
  more : (w : Limit) (k : ℕ) (vs p : Tokens) (t : Terminal) → Entry w vs → Is kind.Comma t → L w (suc k) p → L w k (vs ++ t ∷ p)

id_comma : (t : Terminal) → IsId t → NoComma t
id_comma t is comma = let e : is_id t.kind ≡ false = ap is_id comma in cc

module _ {Entry One : Limit → Tokens → Type 0} {L : Limit → ℕ → Tokens → Type 0} (g : Listing Entry One L) {limit : Limit} (k : ℕ) where
  -- after the comma that follows the last entry that a list may have
  comma_halts : (ts vs rest us : Tokens) → Splits ts vs rest → (c : Comes kind.Comma rest us) → Entry limit vs → IsBelow limit k → (r : Reason) → Why (λ w p. L w k p) (vs ++ c.0 ∷ []) us r
      → Halts limit (λ w p. L w k p) ts (record { left = length us; reason = r })
  comma_halts ts vs rest us s c d lt r y = record {
    before = vs ++ c.0 ∷ [];
    rest = us;
    split = glue s (alone c.1);
    left = refl;
    begun = g.more None k vs [] c.0 (g.widens limit None no_limit vs d) c.2 (g.one None (suc k) [] (any 0) (g.none None));
    within = inr (record {
      front = vs;
      comma = c.0;
      same = refl;
      is = c.2;
      begun = g.one limit k vs lt (g.whole limit vs d);
    });
    why = y;
  }

  crowded_one : {B : Type 0} (ts vs rest us : Tokens) (t : Terminal) → Splits ts vs rest → (c : Comes kind.Comma rest (t ∷ us)) → Entry limit vs → IsBelow limit k → (b : Bool) → is_id t.kind ≡ b
      → Stops {A = B} (if b then too_many (t ∷ us) else stop (t ∷ us)) (Halts limit (λ w p. L w k p) ts)
  crowded_one ts vs rest us t s c d lt true is = stopped (comma_halts ts vs rest (t ∷ us) s c d lt reason.TooNested (
    t,
    us,
    refl,
    id_comma t is,
    subst (λ z. L None k z) (sym (append_assoc vs (c.0 ∷ []) (t ∷ []))) (g.more None k vs (t ∷ []) c.0 (g.widens limit None no_limit vs d) c.2 (g.one None (suc k) (t ∷ []) (any 0) (g.begins t is))),
  ))
  crowded_one ts vs rest us t s c d lt false is = stopped (comma_halts ts vs rest (t ∷ us) s c d lt reason.Unexpected tt)

  crowded_stops : {B : Type 0} (ts vs rest us : Tokens) → Splits ts vs rest → Comes kind.Comma rest us → Entry limit vs → IsBelow limit k → Stops {A = B} (end_of_list is_id us) (Halts limit (λ w p. L w k p) ts)
  crowded_stops ts vs rest [] s c d lt = stopped (comma_halts ts vs rest [] s c d lt reason.Unexpected tt)
  crowded_stops ts vs rest (t ∷ us) s c d lt = crowded_one ts vs rest us t s c d lt (is_id t.kind) refl

-- ---- identifiers

-- tokens that can be completed to identifiers, no more than there may be after so many
record IdsBegun (w : Limit) (found : ℕ) (p : Tokens) : Type 0 where
  all : Tokens
  more : Tokens
  split : Splits all p more
  word : Word
  words : List Word
  derives : DerivesIds w all (word ∷ words)
  fits : IsBelow w (found + length words)

-- an identifier
abbrev IsName : Limit → Tokens → Type 0
IsName w vs = (t : Terminal) × (vs ≡ t ∷ []) × IsId t

-- an identifier, or nothing
abbrev NameBegun : Limit → Tokens → Type 0
NameBegun w p = (t : Terminal) × (more : Tokens) × Splits (t ∷ []) p more × IsId t

one_id : (w : Limit) (k : ℕ) (p : Tokens) → IsBelow w k → NameBegun w p → IdsBegun w k p
one_id w k p lt g = record {
  all = g.0 ∷ [];
  more = g.1;
  split = g.2;
  word = g.0.word;
  words = [];
  derives = DerivesIds.one g.0 g.3;
  fits = below_le w (k + 0) k lt (omega arith);
}

more_ids : (w : Limit) (k : ℕ) (vs p : Tokens) (t : Terminal) → IsName w vs → Is kind.Comma t → IdsBegun w (suc k) p → IdsBegun w k (vs ++ t ∷ p)
more_ids w k vs p t n is g = record {
  all = vs ++ t ∷ g.all;
  more = g.more;
  split = glue both (put refl g.split);
  word = n.0.word;
  words = g.word ∷ g.words;
  derives = subst (λ z. DerivesIds w (z ++ t ∷ g.all) (n.0.word ∷ g.word ∷ g.words)) (sym n.1) (DerivesIds.more n.0 t g.all (g.word ∷ g.words) n.2 is g.derives (below_le w (suc (length g.words)) (suc k + length g.words) g.fits (omega arith)));
  fits = below_le w (k + suc (length g.words)) (suc k + length g.words) g.fits (omega arith);
}

ids_listing : Listing IsName NameBegun IdsBegun
ids_listing = record {
  widens = λ limit w wide vs n. n;
  whole = λ w vs n. (n.0, [], record { same = sym n.1 ∙ sym (append-nil vs) }, n.2);
  none = λ w. (tok kind.Id, tok kind.Id ∷ [], nothing, refl);
  begins = λ t is. (t, [], alone refl, is);
  one = one_id;
  more = more_ids;
}

name_stops : (limit : Limit) (l : Nesting) (ts : Tokens) → Stops (name l ts) (Halts limit NameBegun ts)
name_stops limit l ts = id_then ts _ (unexpected nothing (λ w wide. (tok kind.Id, tok kind.Id ∷ [], nothing, refl))) (λ t us e is. goes)

ids_from_stops : (limit : Limit) (n k : ℕ) → AtMost limit (suc n + k) → (found : List Word) (l : Nesting) (ts : Tokens) → Stops (list_from is_id name (suc n) found l ts) (Halts limit (λ w p. IdsBegun w k p) ts)
unfolding list_from
ids_from_stops limit zero k most found l ts =
    bind (name_sound l ts) (into (name_stops limit l ts) first (λ w wide p g. one_id w k p (wide.below k (at_most_below limit zero k most)) g)) (λ p f. cases
    (λ us e. crowded_stops ids_listing k ts (f.0 ∷ []) p.2 us (alone f.1) ((after_yields kind.Comma p.2).holds us e) (f.0, refl, f.2) (at_most_below limit zero k most))
    (λ e. goes))
ids_from_stops limit (suc n) k most found l ts =
    bind (name_sound l ts) (into (name_stops limit l ts) first (λ w wide p g. one_id w k p (wide.below k (at_most_below limit (suc n) k most)) g)) (λ p f. cases
    (λ us e. let c = (after_yields kind.Comma p.2).holds us e in
    into (ids_from_stops limit n (suc k) (at_most_next limit n k most) (found ++ p.0 ∷ []) (without_marks p.1) us) (behind f.1 (behind c.1 first))
    (λ w wide q g. more_ids w k (f.0 ∷ []) q c.0 (f.0, refl, f.2) c.2 g))
    (λ e. goes))

-- tokens that can be completed to identifiers
abbrev pub NamesBegun : Limit → Tokens → Type 0
NamesBegun w p = Starts (DerivesIds w) p

pub some_names : {w : Limit} → NamesBegun w []
some_names = started _ nothing (DerivesIds.one (tok kind.Id) refl)

ids_first : (limit : Limit) (n : ℕ) → AtMost limit n → 1 ≤ n → (ts : Tokens) → Stops (list_from is_id name n [] outermost ts) (Halts limit NamesBegun ts)
ids_first limit zero most le ts = absurd (omega (arith, le))
ids_first limit (suc n) most le ts = into (ids_from_stops limit n 0 (at_most_zero limit n most) [] outermost ts) first (λ w wide p g. started _ g.split g.derives)

no_ids : {limit : Limit} → Stops (list_from is_id name 0 [] outermost []) (Halts limit NamesBegun [])
unfolding list_from
no_ids = stopped (unexpected nothing (λ w wide. some_names))

ids_entries : (limit : Limit) → IsBelow limit 0 → (ts : Tokens) → Stops (list_from is_id name (entries limit ts) [] outermost ts) (Halts limit NamesBegun ts)
ids_entries (Some most) some ts = ids_first (Some most) most (omega arith) (omega (arith, some)) ts
ids_entries None some [] = no_ids
ids_entries None some (t ∷ ts) = ids_first None (suc (length ts)) (any 0) (omega arith) (t ∷ ts)

pub ids_stops : (limit : Limit) → IsBelow limit 0 → (ts : Tokens) → Stops (ids limit ts) (Halts limit NamesBegun ts)
ids_stops limit some ts = then_ (ids_entries limit some ts) (λ p. goes)

-- ---- formal parameters

abbrev FormalBegun : Limit → Tokens → Type 0
FormalBegun w p = Starts (DerivesFormal w) p

formal_names : {w : Limit} {p : Tokens} → NamesBegun w p → FormalBegun w p
formal_names g = started _ (extend (tok kind.Colon ∷ tok kind.Type ∷ []) g.split) (DerivesFormal.types g.all (tok kind.Type ∷ []) g.tree false (tok kind.Colon) g.derives refl (DerivesTypeWord.type (tok kind.Type) refl))

formal_colon : {w : Limit} {ns : Tokens} {ws : List Word} (u : Terminal) → DerivesIds w ns ws → Is kind.Colon u → FormalBegun w (ns ++ u ∷ [])
formal_colon {ns = ns} {ws = ws} u d colon = started _ (glue both (alone refl)) (DerivesFormal.types ns (tok kind.Type ∷ []) ws false u d colon (DerivesTypeWord.type (tok kind.Type) refl))

formal_type : {w : Limit} {ns p : Tokens} {ws : List Word} (u : Terminal) → DerivesIds w ns ws → Is kind.Colon u → Completes w type_ (in_frame outermost) p → FormalBegun w (ns ++ u ∷ p)
formal_type {ns = ns} {ws = ws} u d colon c = started _ (glue both (put refl c.split)) (DerivesFormal.constants ns c.all ws c.tree c.behind u d colon c.derives)

module _ (limit : Limit) (ns : Tokens) (ws : List Word) (u : Terminal) (d : DerivesIds limit ns ws) (colon : Is kind.Colon u) {all : Tokens} where
  formal_type_stops : {ts : Tokens} → Place all (λ p. ns ++ u ∷ p) ts → Stops (type limit (in_frame outermost) ts) (Halts limit FormalBegun all)
  formal_type_stops {ts = ts} place = into (type_stops limit (in_frame outermost) ts) place (λ w wide p g. formal_type u (widen_ids wide ns ws d) colon g)

  formal_of_stops : (t : Terminal) (ts : Tokens) (k : TerminalKind) → Place all (λ p. ns ++ u ∷ p) (t ∷ ts) → Stops (formal_of limit ws t ts k) (Halts limit FormalBegun all)
  formal_of_stops t ts kind.Type place = goes
  formal_of_stops t ts kind.NonemptyType place = goes
  formal_of_stops t ts _ place = then_ (formal_type_stops place) (λ p. goes)

  formal_after_stops : (ts : Tokens) → Place all (λ p. ns ++ u ∷ p) ts → Stops (formal_after limit ws ts) (Halts limit FormalBegun all)
  formal_after_stops [] place = stopped (unexpected (upto place nothing) (λ w wide. formal_colon u (widen_ids wide ns ws d) colon))
  formal_after_stops (t ∷ ts) place = formal_of_stops t ts t.kind place

formal_stops : (limit : Limit) → IsBelow limit 0 → (ts : Tokens) → Stops (formal limit ts) (Halts limit FormalBegun ts)
formal_stops limit some ts = bind (ids_sound limit ts) (into (ids_stops limit some ts) first (λ w wide p g. formal_names g)) (λ p f.
    expect_then kind.Colon p.1 _ (unexpected f.1 (λ w wide. formal_names (whole_of _ (widen_ids wide f.0 p.0 f.2)))) (λ us c.
    formal_after_stops limit f.0 p.0 c.0 f.2 c.2 us (past f.1 (behind c.1 first))))

-- tokens that can be completed to formals, no more than there may be after so many
record FormalsBegun (w : Limit) (found : ℕ) (p : Tokens) : Type 0 where
  n : ℕ
  all : Tokens
  more : Tokens
  split : Splits all p more
  tree : List Formal
  derives : DerivesFormals w (suc n) all tree
  fits : IsBelow w (found + n)

abbrev IsFormal : Limit → Tokens → Type 0
IsFormal w vs = (fs : List Formal) × DerivesFormal w vs fs

one_formal : (w : Limit) (k : ℕ) (p : Tokens) → IsBelow w k → FormalBegun w p → FormalsBegun w k p
one_formal w k p lt g = record {
  n = 0;
  all = g.all;
  more = g.more;
  split = g.split;
  tree = g.tree;
  derives = DerivesFormals.one g.all g.tree g.derives;
  fits = below_le w (k + 0) k lt (omega arith);
}

more_formals : (w : Limit) (k : ℕ) (vs p : Tokens) (t : Terminal) → IsFormal w vs → Is kind.Comma t → FormalsBegun w (suc k) p → FormalsBegun w k (vs ++ t ∷ p)
more_formals w k vs p t d is g = record {
  n = suc g.n;
  all = vs ++ t ∷ g.all;
  more = g.more;
  split = glue both (put refl g.split);
  tree = d.0 ++ g.tree;
  derives = DerivesFormals.more (suc g.n) vs g.all d.0 g.tree t d.1 is g.derives (below_le w (suc g.n) (suc k + g.n) g.fits (omega arith));
  fits = below_le w (k + suc g.n) (suc k + g.n) g.fits (omega arith);
}

some_formal : (w : Limit) → FormalBegun w []
some_formal w = formal_names some_names

formals_listing : Listing IsFormal FormalBegun FormalsBegun
formals_listing = record {
  widens = λ limit w wide vs d. (d.0, widen_formal wide vs d.0 d.1);
  whole = λ w vs d. whole_of d.0 d.1;
  none = some_formal;
  begins = λ t is. formal_names (whole_of _ (DerivesIds.one t is));
  one = one_formal;
  more = more_formals;
}

formals_from_stops : (limit : Limit) → IsBelow limit 0 → (n k : ℕ) → AtMost limit (suc n + k) → (found : List Formal) (ts : Tokens) → Stops (formals_from limit (suc n) found ts) (Halts limit (λ w p. FormalsBegun w k p) ts)
unfolding formals_from
formals_from_stops limit some zero k most found ts =
    bind (formal_sound limit ts) (into (formal_stops limit some ts) first (λ w wide p g. one_formal w k p (wide.below k (at_most_below limit zero k most)) g)) (λ p f. cases
    (λ us e. crowded_stops formals_listing k ts f.0 p.1 us f.1 ((after_yields kind.Comma p.1).holds us e) (p.0, f.2) (at_most_below limit zero k most))
    (λ e. goes))
formals_from_stops limit some (suc n) k most found ts =
    bind (formal_sound limit ts) (into (formal_stops limit some ts) first (λ w wide p g. one_formal w k p (wide.below k (at_most_below limit (suc n) k most)) g)) (λ p f. cases
    (λ us e. let c = (after_yields kind.Comma p.1).holds us e in
    into (formals_from_stops limit some n (suc k) (at_most_next limit n k most) (found ++ p.0) us) (past f.1 (behind c.1 first))
    (λ w wide q g. more_formals w k f.0 q c.0 (p.0, widen_formal wide f.0 p.0 f.2) c.2 g))
    (λ e. goes))

formals_first : (limit : Limit) → IsBelow limit 0 → (n : ℕ) → AtMost limit n → 1 ≤ n → (ts : Tokens) → Stops (formals_from limit n [] ts) (Halts limit (λ w p. FormalsBegun w 0 p) ts)
formals_first limit some zero most le ts = absurd (omega (arith, le))
formals_first limit some (suc n) most le ts = formals_from_stops limit some n 0 (at_most_zero limit n most) [] ts

no_formals : Stops (formals_from None 0 [] []) (Halts None (λ w p. FormalsBegun w 0 p) [])
unfolding formals_from
no_formals = stopped (unexpected nothing (λ w wide. one_formal w 0 [] (wide.below 0 (any 0)) (some_formal w)))

formals_entries : (limit : Limit) → IsBelow limit 0 → (ts : Tokens) → Stops (formals_from limit (entries limit ts) [] ts) (Halts limit (λ w p. FormalsBegun w 0 p) ts)
formals_entries (Some most) some ts = formals_first (Some most) some most (omega arith) (omega (arith, some)) ts
formals_entries None some [] = no_formals
formals_entries None some (t ∷ ts) = formals_first None some (suc (length ts)) (any 0) (omega arith) (t ∷ ts)

-- tokens that can be completed to the formals of a theory in their frame, or to nothing
abbrev pub PartBegun : Limit → Tokens → Type 0
PartBegun w p = Starts (DerivesFormalPart w) p

part_begun : {w : Limit} {p : Tokens} (t : Terminal) → Is kind.OpenBracket t → HasRoom w outermost → FormalsBegun w 0 p → PartBegun w (t ∷ p)
part_begun t is lt g = started _ (put refl (extend (tok kind.CloseBracket ∷ []) g.split)) (DerivesFormalPart.formals (suc g.n) g.all g.tree t (tok kind.CloseBracket) is lt g.derives refl)

part_inside : {w : Limit} {n : ℕ} {vs : Tokens} {fs : List Formal} (t : Terminal) → Is kind.OpenBracket t → HasRoom w outermost → DerivesFormals w n vs fs → PartBegun w (t ∷ vs)
part_inside {n = n} {vs = vs} {fs = fs} t is lt d = started _ (put refl both) (DerivesFormalPart.formals n vs fs t (tok kind.CloseBracket) is lt d refl)

no_part : {w : Limit} → PartBegun w []
no_part = whole_of _ DerivesFormalPart.none

formals_stops : (limit : Limit) (t : Terminal) (ts us : Tokens) → ts ≡ t ∷ us → Is kind.OpenBracket t → Stops (formals limit us) (Halts limit PartBegun ts)
formals_stops limit t ts us e is =
    room_then limit outermost (in_frame outermost) us _ (nested (moved nothing e) (no_comma t refl is) (λ w wide. no_part) (part_begun t is (any 0) (one_formal None 0 [] (any 0) (some_formal None)))) (λ lt.
    bind (from_sound limit (entries limit us) (entries_at_most limit us) [] us) (into (formals_entries limit lt us) (behind e first) (λ w wide p g. part_begun t is (wide.below 0 lt) g)) (λ p f.
    expect_then kind.CloseBracket p.1 _ (unexpected (put e f.3) (λ w wide. part_inside t is (wide.below 0 lt) (widen_formals wide f.0 f.2 f.1 f.6))) (λ vs c. goes)))

pub formal_part_stops : (limit : Limit) (ts : Tokens) → Stops (formal_part limit ts) (Halts limit PartBegun ts)
formal_part_stops limit ts = cases
    (λ us a. let c = (after_yields kind.OpenBracket ts).holds us a in formals_stops limit c.0 ts us c.1 c.2)
    (λ a. goes)

-- ---- instances

abbrev InstBegun : Limit → Tokens → Type 0
InstBegun w p = Completes w l.inst outermost p

some_inst : {w : Limit} → InstBegun w []
some_inst = made nothing (Derives.plain_inst outermost (tok kind.Id) refl)

plain_inst : {w : Limit} {t : Terminal} → IsId t → InstBegun w (t ∷ [])
plain_inst {t = t} is = made (alone refl) (Derives.plain_inst outermost t is)

actuals_inst : {w : Limit} {p : Tokens} {t u : Terminal} → IsId t → Is kind.OpenBracket u → HasRoom w outermost → Completes w (l.list Item.Parameter) (in_frame outermost) p → InstBegun w (t ∷ u ∷ p)
actuals_inst {t = t} {u = u} is opened lt c =
    made (put refl (put refl (extend (tok kind.CloseBracket ∷ []) c.split))) (Derives.inst_with outermost c.behind c.all c.tree t u (tok kind.CloseBracket) is opened lt c.derives refl)

inst_stops : (limit : Limit) (ts : Tokens) → Stops (inst limit ts) (Halts limit InstBegun ts)
inst_stops limit ts = id_then ts _ (unexpected nothing (λ w wide. some_inst)) (λ t us e is. cases
    (λ vs a. let c = (after_yields kind.OpenBracket us).holds vs a in
    then_ (read_list_stops limit (length vs + 1) Item.Parameter kind.CloseBracket outermost (behind e (behind c.1 first))
    (nested (moved (alone e) c.1) (no_comma c.0 refl c.2) (λ w wide. plain_inst is) (actuals_inst is c.2 (any 0) (some_list Item.Parameter)))
    (λ lt w wide p g. actuals_inst is c.2 (wide.below 0 lt) g) (turns vs)) (λ q. goes))
    (λ a. goes))

abbrev InstancesBegun : Limit → Tokens → Type 0
InstancesBegun w p = Starts (DerivesInstances w) p

one_instance : {w : Limit} {p : Tokens} → InstBegun w p → InstancesBegun w p
one_instance c = started _ c.split (DerivesInstances.one c.all c.tree c.behind c.derives)

more_instances : {w : Limit} {vs p : Tokens} {i : InstExpr} {m : Nesting} (t : Terminal) → Derives w l.inst outermost vs i m → Is kind.Comma t → InstancesBegun w p → InstancesBegun w (vs ++ t ∷ p)
more_instances {vs = vs} {i = i} {m = m} t d is g = started _ (glue both (put refl g.split)) (DerivesInstances.more vs g.all i g.tree m t d is g.derives)

instances_stops : (limit : Limit) (n : ℕ) (found : List InstExpr) (ts : Tokens) → Stops (instances_from limit n found ts) (Halts limit InstancesBegun ts)
unfolding instances_from
instances_stops limit zero found ts = stopped (unexpected nothing (λ w wide. one_instance some_inst))
instances_stops limit (suc n) found ts =
    bind (inst_sound limit ts) (into (inst_stops limit ts) first (λ w wide p g. one_instance g)) (λ p f. cases
    (λ us a. let c = (after_yields kind.Comma p.1).holds us a in
    into (instances_stops limit n (found ++ p.0 ∷ []) us) (past f.1 (behind c.1 first)) (λ w wide q g. more_instances c.0 (wider wide f.2.1) c.2 g))
    (λ a. goes))

-- after IMPORTING
pub importing_stops : (limit : Limit) (t : Terminal) (ts us : Tokens) → ts ≡ t ∷ us → Is kind.Importing t → Stops (importing limit us) (Halts limit (λ w p. Starts (DerivesImporting w) p) ts)
importing_stops limit t ts us e is =
    then_ (into (instances_stops limit (length us + 1) [] us) (behind e first) (λ w wide p g. started _ (put refl g.split) (DerivesImporting.importing g.all g.tree t is g.derives))) (λ p. goes)
