-- Declarations one after another, with semicolons or without: what is read is in the grammar, and what is in the grammar is read.
use Rattle.std.proofs.Common.{◌≡◌, ◌∙◌, ℕ, zero, suc, ◌≤◌, Bool, true, false, if◌then◌else◌, List, [], ◌∷◌, ◌++◌, length, Option, Some, None, Ok, refl, sym, ap, subst, append_assoc, append-nil, length-append, arith}
use Rattle.pvs_parser.specs.declared.terminal.Terminal.{Terminal}
use Rattle.pvs_parser.specs.declared.terminal.TerminalKind.{TerminalKind}
use Rattle.pvs_parser.specs.declared.terminal.TerminalKind.TheVariants as kind
use Rattle.pvs_syntax.specs.declared.unit.Decl.{Decl}
use Rattle.pvs_parser.specs.Terminals.{Is, same_kind}
use Rattle.pvs_parser.specs.Language.{Tokens}
use Rattle.pvs_parser.specs.Units.{DerivesSemicolon, DerivesMany}
use Rattle.pvs_parser.specs.code.Descent.{Answer, after, either}
use Rattle.pvs_base.specs.Answers.{◌>>=◌}
use Rattle.pvs_parser.specs.code.UnitDescent.{comes_kind, comes_decl, past_semicolon, many_from}
use Rattle.pvs_parser.proofs.Yields.{Yields, here, bind, weaken}
use Rattle.pvs_parser.proofs.Gets.{Gets, found, after_is, after_other}
use Rattle.pvs_parser.proofs.DescentSteps.{after_yields, Splits, glue, alone, nothing}
use Rattle.pvs_parser.proofs.Deeper.{Fore}
use Rattle.pvs_parser.proofs.Behind.{ends_decl, DeclEnds, decl_at}
use Rattle.pvs_parser.proofs.DeclsRead.{DeclComes}

-- how declarations of a kind are read
abbrev pub Reader : Type 0
Reader = Tokens → Answer (List Decl × Tokens)

semicolon_of : (ts : Tokens) (o : Option Tokens) → after kind.Semicolon ts ≡ o → (ss : Tokens) × Splits ts ss (either o (λ us. us) ts) × DerivesSemicolon ss
semicolon_of ts (Some us) a = let c = (after_yields kind.Semicolon ts).holds us a in (c.0 ∷ [], alone c.1, DerivesSemicolon.semicolon c.0 c.2)
semicolon_of ts None a = ([], nothing, DerivesSemicolon.none)

pub semicolon_sound : (ts : Tokens) → (ss : Tokens) × Splits ts ss (past_semicolon ts) × DerivesSemicolon ss
semicolon_sound ts = semicolon_of ts (after kind.Semicolon ts) refl

-- a prefix of the tokens is declarations, which come after those found
abbrev ManyFront : (Tokens → List Decl → Type 0) → List Decl → Tokens → List Decl × Tokens → Type 0
ManyFront D before ts p = (ds : List Decl) × (vs : Tokens) × Splits ts vs p.1 × (p.0 ≡ before ++ ds) × DerivesMany D vs ds

none_more : (D : Tokens → List Decl → Type 0) (before : List Decl) (ts : Tokens) → ManyFront D before ts (before, ts)
none_more D before ts = ([], [], nothing, sym (append-nil before), DerivesMany.none)

one_more : (D : Tokens → List Decl → Type 0) (before : List Decl) (ts : Tokens) (p : List Decl × Tokens) → Fore D ts p → (q : List Decl × Tokens) → ManyFront D (before ++ p.0) (past_semicolon p.1) q → ManyFront D before ts q
one_more D before ts p f q g =
    let s = semicolon_sound p.1 in
    (p.0 ++ g.0, f.0 ++ (s.0 ++ g.1), glue f.1 (glue s.1 g.2), g.3 ∙ append_assoc before p.0 g.0, DerivesMany.more f.0 s.0 g.1 p.0 g.0 f.2 s.2 g.4)

turn : (reads : Reader) (D : Tokens → List Decl → Type 0) → ((ts : Tokens) → Yields (reads ts) (Fore D ts)) → (go : List Decl → Reader) → ((before : List Decl) (ts : Tokens) → Yields (go before ts) (ManyFront D before ts))
    → (before : List Decl) (ts : Tokens) (b : Bool) → Yields (if b then (reads ts >>= λ p. go (before ++ p.0) (past_semicolon p.1)) else Ok (before, ts)) (ManyFront D before ts)
turn reads D one go f before ts true = bind (one ts) (λ p g. weaken (λ q h. one_more D before ts p g q h) (f (before ++ p.0) (past_semicolon p.1)))
turn reads D one go f before ts false = here (none_more D before ts)

from_sound : (reads : Reader) (D : Tokens → List Decl → Type 0) → ((ts : Tokens) → Yields (reads ts) (Fore D ts)) → (n : ℕ) (before : List Decl) (ts : Tokens) → Yields (many_from reads n before ts) (ManyFront D before ts)
unfolding many_from
from_sound reads D one zero before ts = here (none_more D before ts)
from_sound reads D one (suc n) before ts = turn reads D one (λ before ts. many_from reads n before ts) (λ before ts. from_sound reads D one n before ts) before ts (comes_decl ts)

pub many_sound : (reads : Reader) (D : Tokens → List Decl → Type 0) → ((ts : Tokens) → Yields (reads ts) (Fore D ts)) → (ts : Tokens) → Yields (many_from reads (length ts) [] ts) (Fore (DerivesMany D) ts)
many_sound reads D one ts = weaken (λ p f. (f.1, f.2, subst (λ z. DerivesMany D f.1 z) (sym f.3) f.4)) (from_sound reads D one (length ts) [] ts)

-- ---- the other way round

comes_ends : (k : TerminalKind) → comes_kind k ≡ true → ends_decl k ≡ true
comes_ends kind.Importing e = refl
comes_ends kind.Id e = refl
comes_ends kind.Proof e = refl
comes_ends _ e = cc

comes_no_semicolon : (k : TerminalKind) → comes_kind k ≡ true → same_kind k kind.Semicolon ≡ false
unfolding same_kind
comes_no_semicolon kind.Importing e = refl
comes_no_semicolon kind.Id e = refl
comes_no_semicolon kind.Proof e = refl
comes_no_semicolon _ e = cc

comes_no_assuming : (k : TerminalKind) → comes_kind k ≡ true → same_kind k kind.Assuming ≡ false
unfolding same_kind
comes_no_assuming kind.Importing e = refl
comes_no_assuming kind.Id e = refl
comes_no_assuming kind.Proof e = refl
comes_no_assuming _ e = cc

-- what follows declarations: no declaration, and nothing that goes on with one
pub record ManyEnd (us : Tokens) : Type 0 where
  pub no_decl : comes_decl us ≡ false
  pub ends : DeclEnds us
  pub no_semicolon : after kind.Semicolon us ≡ None
  pub no_assuming : after kind.Assuming us ≡ None

-- declarations, or what follows them
record Next (us : Tokens) : Type 0 where
  ends : DeclEnds us
  no_semicolon : after kind.Semicolon us ≡ None
  no_assuming : after kind.Assuming us ≡ None

next_decl : (ts us : Tokens) → DeclComes ts → Next (ts ++ us)
next_decl ts us c = subst (λ z. Next (z ++ us)) (sym c.2) (record {
  ends = comes_ends c.0.kind c.3;
  no_semicolon = after_other kind.Semicolon c.0.kind c.0 (c.1 ++ us) refl (comes_no_semicolon c.0.kind c.3);
  no_assuming = after_other kind.Assuming c.0.kind c.0 (c.1 ++ us) refl (comes_no_assuming c.0.kind c.3);
})

next : (D : Tokens → List Decl → Type 0) → ((ts : Tokens) (ds : List Decl) → D ts ds → DeclComes ts) → (ts : Tokens) (ds : List Decl) → DerivesMany D ts ds → (us : Tokens) → ManyEnd us → Next (ts ++ us)
next D comes _ _ DerivesMany.none us end = record { ends = end.ends; no_semicolon = end.no_semicolon; no_assuming = end.no_assuming }
next D comes _ _ (DerivesMany.more ts ss vs ds es d s e) us end = subst Next (sym (append_assoc ts (ss ++ vs) us)) (next_decl ts ((ss ++ vs) ++ us) (comes ts ds d))

semicolon_ends : (ss : Tokens) → DerivesSemicolon ss → (us : Tokens) → DeclEnds us → DeclEnds (ss ++ us)
semicolon_ends _ DerivesSemicolon.none us ends = ends
semicolon_ends _ (DerivesSemicolon.semicolon t is) us ends = decl_at kind.Semicolon refl t us is

semicolon_goes : (ss : Tokens) → DerivesSemicolon ss → (us : Tokens) → after kind.Semicolon us ≡ None → past_semicolon (ss ++ us) ≡ us
semicolon_goes _ DerivesSemicolon.none us no_semicolon = ap (λ o. either o (λ us. us) us) no_semicolon
semicolon_goes _ (DerivesSemicolon.semicolon t is) us no_semicolon = ap (λ o. either o (λ us. us) (t ∷ us)) (after_is kind.Semicolon t us is)

many_stops : (reads : Reader) (n : ℕ) (before : List Decl) (us : Tokens) → comes_decl us ≡ false → Gets (many_from reads n before us) (before, us)
unfolding many_from
many_stops reads zero before us e = found
many_stops reads (suc n) before us e = record { is = ap (λ b. if b then (reads us >>= λ p. many_from reads n (before ++ p.0) (past_semicolon p.1)) else Ok (before, us)) e }

many_goes : (reads : Reader) (n : ℕ) (before ds : List Decl) (ts us : Tokens) (y : List Decl × Tokens) → comes_decl ts ≡ true → Gets (reads ts) (ds, us) → Gets (many_from reads n (before ++ ds) (past_semicolon us)) y → Gets (many_from reads (suc n) before ts) y
unfolding many_from
many_goes reads n before ds ts us y e g h = record {
  is = ap (λ b. if b then (reads ts >>= λ p. many_from reads n (before ++ p.0) (past_semicolon p.1)) else Ok (before, ts)) e
      ∙ ap (λ o. o >>= λ p. many_from reads n (before ++ p.0) (past_semicolon p.1)) g.is ∙ h.is;
}

comes_first : (ts us : Tokens) → DeclComes ts → comes_decl (ts ++ us) ≡ true
comes_first ts us c = ap (λ z. comes_decl (z ++ us)) c.2 ∙ c.3

some_turns : (ts us : Tokens) → DeclComes ts → length (ts ++ us) ≤ zero → ⊥
some_turns ts us c le = let e : length ts ≡ length (c.0 ∷ c.1) = ap length c.2 in omega (arith, le, e, length-append ts us)

fewer_turns : (ts ss us : Tokens) (n : ℕ) → DeclComes ts → length (ts ++ (ss ++ us)) ≤ suc n → length us ≤ n
fewer_turns ts ss us n c le = let e : length ts ≡ length (c.0 ∷ c.1) = ap length c.2 in omega (arith, le, e, length-append ts (ss ++ us), length-append ss us)

from_complete : (reads : Reader) (D : Tokens → List Decl → Type 0) → ((ts : Tokens) (ds : List Decl) → D ts ds → DeclComes ts) → ((ts : Tokens) (ds : List Decl) → D ts ds → (us : Tokens) → DeclEnds us → Gets (reads (ts ++ us)) (ds, us))
    → (ts : Tokens) (ds : List Decl) → DerivesMany D ts ds → (n : ℕ) → length ts ≤ n → (before : List Decl) (us : Tokens) → ManyEnd us → Gets (many_from reads n before (ts ++ us)) (before ++ ds, us)
from_complete reads D comes one _ _ DerivesMany.none n le before us end = subst (λ z. Gets (many_from reads n before us) (z, us)) (sym (append-nil before)) (many_stops reads n before us end.no_decl)
from_complete reads D comes one _ _ (DerivesMany.more ts ss vs ds es d s e) zero le before us end = absurd (some_turns ts (ss ++ vs) (comes ts ds d) le)
from_complete reads D comes one _ _ (DerivesMany.more ts ss vs ds es d s e) (suc n) le before us end =
    let next_is = next D comes vs es e us end in
    let inner : Gets (many_from reads n (before ++ ds) (past_semicolon (ss ++ (vs ++ us)))) (before ++ (ds ++ es), us) =
    subst (λ z. Gets (many_from reads n (before ++ ds) (past_semicolon (ss ++ (vs ++ us)))) (z, us)) (append_assoc before ds es)
    (subst (λ z. Gets (many_from reads n (before ++ ds) z) ((before ++ ds) ++ es, us)) (sym (semicolon_goes ss s (vs ++ us) next_is.no_semicolon))
    (from_complete reads D comes one vs es e n (fewer_turns ts ss vs n (comes ts ds d) le) (before ++ ds) us end)) in
    subst (λ z. Gets (many_from reads (suc n) before z) (before ++ (ds ++ es), us)) (sym (append_assoc ts (ss ++ vs) us ∙ ap (λ z. ts ++ z) (append_assoc ss vs us)))
    (many_goes reads n before ds (ts ++ (ss ++ (vs ++ us))) (ss ++ (vs ++ us)) (before ++ (ds ++ es), us) (comes_first ts (ss ++ (vs ++ us)) (comes ts ds d))
    (one ts ds d (ss ++ (vs ++ us)) (semicolon_ends ss s (vs ++ us) next_is.ends)) inner)

pub many_complete : (reads : Reader) (D : Tokens → List Decl → Type 0) → ((ts : Tokens) (ds : List Decl) → D ts ds → DeclComes ts) → ((ts : Tokens) (ds : List Decl) → D ts ds → (us : Tokens) → DeclEnds us → Gets (reads (ts ++ us)) (ds, us))
    → (ts : Tokens) (ds : List Decl) → DerivesMany D ts ds → (us : Tokens) → ManyEnd us → Gets (many_from reads (length (ts ++ us)) [] (ts ++ us)) (ds, us)
many_complete reads D comes one ts ds d us end = from_complete reads D comes one ts ds d (length (ts ++ us)) (omega (arith, length-append ts us)) [] us end

-- no ASSUMING comes next
pub many_no_assuming : (D : Tokens → List Decl → Type 0) → ((ts : Tokens) (ds : List Decl) → D ts ds → DeclComes ts) → (ts : Tokens) (ds : List Decl) → DerivesMany D ts ds → (us : Tokens) → ManyEnd us → after kind.Assuming (ts ++ us) ≡ None
many_no_assuming D comes ts ds d us end = (next D comes ts ds d us end).no_assuming

end_kinds : (same_kind kind.End kind.Semicolon ≡ false) × (same_kind kind.End kind.Assuming ≡ false) × (same_kind kind.EndAssuming kind.Semicolon ≡ false) × (same_kind kind.EndAssuming kind.Assuming ≡ false)
unfolding same_kind
end_kinds = (refl, refl, refl, refl)

-- END ends declarations
pub at_end : (t : Terminal) (us : Tokens) → Is kind.End t → ManyEnd (t ∷ us)
at_end t us is = record {
  no_decl = ap comes_kind is;
  ends = decl_at kind.End refl t us is;
  no_semicolon = after_other kind.Semicolon kind.End t us is end_kinds.0;
  no_assuming = after_other kind.Assuming kind.End t us is end_kinds.1;
}

-- ENDASSUMING ends those of an assuming part
pub at_end_assuming : (t : Terminal) (us : Tokens) → Is kind.EndAssuming t → ManyEnd (t ∷ us)
at_end_assuming t us is = record {
  no_decl = ap comes_kind is;
  ends = decl_at kind.EndAssuming refl t us is;
  no_semicolon = after_other kind.Semicolon kind.EndAssuming t us is end_kinds.2;
  no_assuming = after_other kind.Assuming kind.EndAssuming t us is end_kinds.3;
}
