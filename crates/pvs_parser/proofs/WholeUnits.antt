-- Units: what is read is in the grammar, what is in the grammar is read, and a list of tokens is at most one unit.
use Rattle.std.proofs.Common.{◌≡◌, ◌∙◌, ℕ, zero, suc, ◌≤◌, true, false, List, [], ◌∷◌, ◌++◌, length, Ok, refl, sym, ap, subst, append_assoc, append-nil, length-append, arith}
use Rattle.pvs_parser.specs.declared.terminal.Terminal.{Terminal}
use Rattle.pvs_parser.specs.declared.terminal.TerminalKind.{TerminalKind}
use Rattle.pvs_parser.specs.declared.terminal.TerminalKind.TheVariants as kind
use Rattle.pvs_syntax.specs.declared.unit.Item.{Item}
use Rattle.pvs_syntax.specs.declared.unit.Item.TheVariants as item
use Rattle.pvs_syntax.specs.declared.unit.Proof.{Proof}
use Rattle.pvs_syntax.specs.declared.unit.Theory.{Theory}
use Rattle.pvs_syntax.specs.declared.unit.Unit as tree
use Rattle.pvs_parser.specs.Terminals.{is_id, same_kind}
use Rattle.pvs_parser.specs.Language.{Limit, IsBelow, Tokens}
use Rattle.pvs_parser.specs.Units.{DerivesTheory, DerivesProof, DerivesItems, DerivesUnit}
use Rattle.pvs_parser.specs.code.Descent.{Answer, after}
use Rattle.pvs_parser.specs.code.UnitDescent.{one_item, items_from, unit}
use Rattle.pvs_parser.proofs.Yields.{Yields, here, none, bind, cases, weaken}
use Rattle.pvs_parser.proofs.Gets.{Gets, found, then_, there, absent, after_is, after_other}
use Rattle.pvs_parser.proofs.DescentSteps.{after_yields}
use Rattle.pvs_parser.proofs.Deeper.{Fore}
use Rattle.pvs_parser.proofs.WholeTheories.{theory_sound, theory_complete, theory_begins}
use Rattle.pvs_parser.proofs.Scripts.{proof_sound, proof_complete}

-- ---- what is read is in the grammar

abbrev pub IsItem : Limit → List ℕ → Tokens → Item → Type 0
IsItem limit text ts (item.Theory t) = DerivesTheory limit text ts t
IsItem limit text ts (item.Proof p) = DerivesProof limit ts p

pub item_sound : (limit : Limit) (text : List ℕ) (ts : Tokens) → Yields (one_item limit text ts) (Fore (IsItem limit text) ts)
item_sound limit text ts = cases
    (λ us a. let c = (after_yields kind.Open ts).holds us a in bind (proof_sound limit c.0 ts us c.1 c.2) (λ p f. here (f.0, f.1, f.2)))
    (λ a. bind (theory_sound limit text ts) (λ p f. here (f.0, f.1, f.2)))

pub item_before : (limit : Limit) (text : List ℕ) (ts us : Tokens) (i : Item) (is : List Item) → IsItem limit text ts i → DerivesItems limit text us is → DerivesItems limit text (ts ++ us) (i ∷ is)
item_before limit text ts us (item.Theory t) is d e = DerivesItems.theory ts us t is d e
item_before limit text ts us (item.Proof p) is d e = DerivesItems.proof ts us p is d e

abbrev AllItems : Limit → List ℕ → List Item → Tokens → List Item → Type 0
AllItems limit text before ts is = (js : List Item) × (is ≡ before ++ js) × DerivesItems limit text ts js

more_items : (limit : Limit) (text : List ℕ) (before : List Item) (ts : Tokens) (p : Item × Tokens) → Fore (IsItem limit text) ts p → (is : List Item) → AllItems limit text (before ++ p.0 ∷ []) p.1 is → AllItems limit text before ts is
more_items limit text before ts p f is g =
    (p.0 ∷ g.0, g.1 ∙ append_assoc before (p.0 ∷ []) g.0, subst (λ z. DerivesItems limit text z (p.0 ∷ g.0)) (sym f.1.same) (item_before limit text f.0 p.1 p.0 g.0 f.2 g.2))

no_items : (limit : Limit) (text : List ℕ) (before : List Item) → AllItems limit text before [] before
no_items limit text before = ([], sym (append-nil before), DerivesItems.none)

items_sound : (limit : Limit) (text : List ℕ) (n : ℕ) (before : List Item) (ts : Tokens) → Yields (items_from limit text n before ts) (AllItems limit text before ts)
unfolding items_from
items_sound limit text zero before [] = here (no_items limit text before)
items_sound limit text zero before (t ∷ ts) = none
items_sound limit text (suc n) before [] = here (no_items limit text before)
items_sound limit text (suc n) before (t ∷ ts) =
    bind (item_sound limit text (t ∷ ts)) (λ p f. weaken (λ is g. more_items limit text before (t ∷ ts) p f is g) (items_sound limit text n (before ++ p.0 ∷ []) p.1))

unit_yields : (limit : Limit) (text : List ℕ) (ts : Tokens) → Yields (unit limit text ts) (DerivesUnit limit text ts)
unit_yields limit text ts = bind (items_sound limit text (length ts) [] ts) (λ is f. here (subst (λ z. DerivesItems limit text ts z) (sym f.1) f.2))

pub unit_sound : (limit : Limit) (text : List ℕ) (ts : Tokens) (u : tree.Unit) → unit limit text ts ≡ Ok u → DerivesUnit limit text ts u
unit_sound limit text ts u e = (unit_yields limit text ts).holds u e

-- ---- what is in the grammar is read

id_no_open : (k : TerminalKind) → is_id k ≡ true → same_kind k kind.Open ≡ false
unfolding same_kind
id_no_open kind.Id e = refl
id_no_open kind.Proof e = refl
id_no_open _ e = cc

theory_item : (limit : Limit) → IsBelow limit 0 → (text : List ℕ) (ts us : Tokens) (i : Theory) → DerivesTheory limit text ts i → Gets (one_item limit text (ts ++ us)) (item.Theory i, us)
theory_item limit some text ts us i d =
    let b = theory_begins limit text ts i d in
    absent _ (ap (λ z. after kind.Open (z ++ us)) b.2 ∙ after_other kind.Open b.0.kind b.0 (b.1 ++ us) refl (id_no_open b.0.kind b.3)) (then_ _ (theory_complete limit some text ts i d us) found)

proof_item : (limit : Limit) (text : List ℕ) (ts us : Tokens) (p : Proof) → DerivesProof limit ts p → Gets (one_item limit text (ts ++ us)) (item.Proof p, us)
proof_item limit text ts us p d =
    let b = proof_complete limit ts p d us in
    subst (λ z. Gets (one_item limit text (z ++ us)) (item.Proof p, us)) (sym b.2) (there _ _ (after_is kind.Open b.0 (b.1 ++ us) b.3) (then_ _ b.4 found))

item_complete : (limit : Limit) → IsBelow limit 0 → (text : List ℕ) (ts us : Tokens) (i : Item) → IsItem limit text ts i → Gets (one_item limit text (ts ++ us)) (i, us)
item_complete limit some text ts us (item.Theory t) d = theory_item limit some text ts us t d
item_complete limit some text ts us (item.Proof p) d = proof_item limit text ts us p d

-- an item has a first token
pub item_some : (limit : Limit) (text : List ℕ) (ts : Tokens) (i : Item) → IsItem limit text ts i → (t : Terminal) × (vs : Tokens) × (ts ≡ t ∷ vs)
item_some limit text ts (item.Theory t) d = let b = theory_begins limit text ts t d in (b.0, b.1, b.2)
item_some limit text ts (item.Proof p) d = let b = proof_complete limit ts p d [] in (b.0, b.1, b.2)

items_goes : (limit : Limit) (text : List ℕ) (n : ℕ) (before : List Item) (t : Terminal) (vs us : Tokens) (i : Item) (y : List Item) → Gets (one_item limit text (t ∷ vs)) (i, us) → Gets (items_from limit text n (before ++ i ∷ []) us) y
    → Gets (items_from limit text (suc n) before (t ∷ vs)) y
unfolding items_from
items_goes limit text n before t vs us i y g h = then_ _ g h

items_end : (limit : Limit) (text : List ℕ) (n : ℕ) (before : List Item) → Gets (items_from limit text n before []) (before ++ [])
unfolding items_from
items_end limit text zero before = subst (λ z. Gets (Ok before) z) (sym (append-nil before)) found
items_end limit text (suc n) before = subst (λ z. Gets (Ok before) z) (sym (append-nil before)) found

-- one item, and those after it, which are read with the turns that are left
one_more : (limit : Limit) → IsBelow limit 0 → (text : List ℕ) (ts us : Tokens) (i : Item) (is : List Item) → IsItem limit text ts i → (n : ℕ) → length (ts ++ us) ≤ n → (before : List Item)
    → ((m : ℕ) → length us ≤ m → Gets (items_from limit text m (before ++ i ∷ []) us) ((before ++ i ∷ []) ++ is)) → Gets (items_from limit text n before (ts ++ us)) (before ++ i ∷ is)
one_more limit some text ts us i is d zero le before f =
    let b = item_some limit text ts i d in
    let e : length ts ≡ length (b.0 ∷ b.1) = ap length b.2 in absurd (omega (arith, le, e, length-append ts us))
one_more limit some text ts us i is d (suc n) le before f =
    let b = item_some limit text ts i d in
    let e : length ts ≡ length (b.0 ∷ b.1) = ap length b.2 in
    subst (λ z. Gets (items_from limit text (suc n) before (z ++ us)) (before ++ i ∷ is)) (sym b.2)
    (items_goes limit text n before b.0 (b.1 ++ us) us i (before ++ i ∷ is) (subst (λ z. Gets (one_item limit text (z ++ us)) (i, us)) b.2 (item_complete limit some text ts us i d))
    (subst (λ z. Gets (items_from limit text n (before ++ i ∷ []) us) z) (append_assoc before (i ∷ []) is) (f n (omega (arith, le, e, length-append ts us)))))

items_complete : (limit : Limit) → IsBelow limit 0 → (text : List ℕ) (ts : Tokens) (is : List Item) → DerivesItems limit text ts is → (n : ℕ) → length ts ≤ n → (before : List Item) → Gets (items_from limit text n before ts) (before ++ is)
items_complete limit some text _ _ DerivesItems.none n le before = items_end limit text n before
items_complete limit some text _ _ (DerivesItems.theory ts us t is d e) n le before =
    one_more limit some text ts us (item.Theory t) is d n le before (λ m small. items_complete limit some text us is e m small (before ++ item.Theory t ∷ []))
items_complete limit some text _ _ (DerivesItems.proof ts us p is d e) n le before =
    one_more limit some text ts us (item.Proof p) is d n le before (λ m small. items_complete limit some text us is e m small (before ++ item.Proof p ∷ []))

pub unit_complete : (limit : Limit) → IsBelow limit 0 → (text : List ℕ) (ts : Tokens) (u : tree.Unit) → DerivesUnit limit text ts u → unit limit text ts ≡ Ok u
unit_complete limit some text ts u d = (then_ _ (items_complete limit some text ts u.items d (length ts) (omega arith) []) (record { is = refl })).is

abbrev answer : {A : Type 0} → Answer A → Answer A
answer o = o

ok_same : {A : Type 0} (x y : A) → answer (Ok x) ≡ Ok y → x ≡ y
ok_same x y e = cc

-- a list of tokens is at most one unit
pub one_unit : (limit : Limit) → IsBelow limit 0 → (text : List ℕ) (ts : Tokens) (u v : tree.Unit) → DerivesUnit limit text ts u → DerivesUnit limit text ts v → u ≡ v
one_unit limit some text ts u v d e = ok_same u v (sym (unit_complete limit some text ts u d) ∙ unit_complete limit some text ts v e)
