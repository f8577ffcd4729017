-- What may follow a formal or a declaration, so that no type and no expression goes on with it.
use Rattle.std.proofs.Common.{◌≡◌, ◌∙◌, ◌<◌, Bool, true, false, [], ◌∷◌, None, refl, ap, arith}
use Rattle.pvs_parser.specs.declared.terminal.Terminal.{Terminal}
use Rattle.pvs_parser.specs.declared.terminal.TerminalKind.{TerminalKind}
use Rattle.pvs_parser.specs.declared.terminal.TerminalKind.TheVariants as kind
use Rattle.pvs_parser.specs.Terminals.{Is, IsId, is_id, same_kind}
use Rattle.pvs_parser.specs.Language.{Tokens}
use Rattle.pvs_parser.specs.code.Descent.{after}
use Rattle.pvs_parser.proofs.Follows.{pull, Ends}
use Rattle.pvs_parser.proofs.Gets.{after_other}
use Rattle.pvs_parser.proofs.Deeper.{WholeEnds}

-- a kind that stands after a declaration
abbrev pub ends_decl : TerminalKind → Bool
ends_decl kind.Semicolon = true
ends_decl kind.Id = true
ends_decl kind.Proof = true
ends_decl kind.Importing = true
ends_decl kind.End = true
ends_decl kind.EndAssuming = true
ends_decl _ = false

-- a kind that stands after a formal or a declaration
abbrev pub ends_part : TerminalKind → Bool
ends_part kind.Comma = true
ends_part kind.CloseBracket = true
ends_part k = ends_decl k

-- a kind that stands after a formal or a declaration comes next, or none
abbrev pub PartEnds : Tokens → Type 0
PartEnds [] = Unit {0}
PartEnds (t ∷ ts) = ends_part t.kind ≡ true

abbrev pub DeclEnds : Tokens → Type 0
DeclEnds [] = Unit {0}
DeclEnds (t ∷ ts) = ends_decl t.kind ≡ true

decl_part_kind : (k : TerminalKind) → ends_decl k ≡ true → ends_part k ≡ true
decl_part_kind kind.Comma e = refl
decl_part_kind kind.CloseBracket e = refl
decl_part_kind _ e = e

pub decl_part : (us : Tokens) → DeclEnds us → PartEnds us
decl_part [] e = tt
decl_part (t ∷ us) e = decl_part_kind t.kind e

record Facts (k : TerminalKind) : Type 0 where
  dot : same_kind k kind.Dot ≡ false
  bracket : same_kind k kind.OpenBracket ≡ false
  colon : same_kind k kind.Colon ≡ false
  plus : same_kind k kind.Plus ≡ false
  equal : same_kind k kind.Equal ≡ false
  pull_is : pull k < 1

facts : (k : TerminalKind) → ends_part k ≡ true → Facts k
unfolding same_kind
facts kind.Comma e = record { dot = refl; bracket = refl; colon = refl; plus = refl; equal = refl; pull_is = omega arith }
facts kind.CloseBracket e = record { dot = refl; bracket = refl; colon = refl; plus = refl; equal = refl; pull_is = omega arith }
facts kind.Semicolon e = record { dot = refl; bracket = refl; colon = refl; plus = refl; equal = refl; pull_is = omega arith }
facts kind.Id e = record { dot = refl; bracket = refl; colon = refl; plus = refl; equal = refl; pull_is = omega arith }
facts kind.Proof e = record { dot = refl; bracket = refl; colon = refl; plus = refl; equal = refl; pull_is = omega arith }
facts kind.Importing e = record { dot = refl; bracket = refl; colon = refl; plus = refl; equal = refl; pull_is = omega arith }
facts kind.End e = record { dot = refl; bracket = refl; colon = refl; plus = refl; equal = refl; pull_is = omega arith }
facts kind.EndAssuming e = record { dot = refl; bracket = refl; colon = refl; plus = refl; equal = refl; pull_is = omega arith }
facts _ e = cc

other : (k : TerminalKind) (t : Terminal) (ts : Tokens) → same_kind t.kind k ≡ false → after k (t ∷ ts) ≡ None
other k t ts e = after_other k t.kind t ts refl e

pub part_whole : (us : Tokens) → PartEnds us → WholeEnds us
part_whole [] e = (omega arith, (refl, refl, refl))
part_whole (t ∷ us) e = let f = facts t.kind e in (f.pull_is, (other kind.Dot t us f.dot, other kind.OpenBracket t us f.bracket, other kind.Colon t us f.colon))

pub part_plus : (us : Tokens) → PartEnds us → after kind.Plus us ≡ None
part_plus [] e = refl
part_plus (t ∷ us) e = other kind.Plus t us (facts t.kind e).plus

pub part_equal : (us : Tokens) → PartEnds us → after kind.Equal us ≡ None
part_equal [] e = refl
part_equal (t ∷ us) e = other kind.Equal t us (facts t.kind e).equal

decl_comma_kind : (k : TerminalKind) → ends_decl k ≡ true → same_kind k kind.Comma ≡ false
unfolding same_kind
decl_comma_kind kind.Semicolon e = refl
decl_comma_kind kind.Id e = refl
decl_comma_kind kind.Proof e = refl
decl_comma_kind kind.Importing e = refl
decl_comma_kind kind.End e = refl
decl_comma_kind kind.EndAssuming e = refl
decl_comma_kind _ e = cc

pub decl_comma : (us : Tokens) → DeclEnds us → after kind.Comma us ≡ None
decl_comma [] e = refl
decl_comma (t ∷ us) e = other kind.Comma t us (decl_comma_kind t.kind e)

pub decl_bracket : (us : Tokens) → DeclEnds us → after kind.OpenBracket us ≡ None
decl_bracket us ends = (part_whole us (decl_part us ends)).1.1

pub part_at : (k : TerminalKind) → ends_part k ≡ true → (t : Terminal) (us : Tokens) → Is k t → PartEnds (t ∷ us)
part_at k e t us is = ap ends_part is ∙ e

pub decl_at : (k : TerminalKind) → ends_decl k ≡ true → (t : Terminal) (us : Tokens) → Is k t → DeclEnds (t ∷ us)
decl_at k e t us is = ap ends_decl is ∙ e

id_ends_kind : (k : TerminalKind) → is_id k ≡ true → ends_decl k ≡ true
id_ends_kind kind.Id e = refl
id_ends_kind kind.Proof e = refl
id_ends_kind _ e = cc

pub decl_at_id : (t : Terminal) (us : Tokens) → IsId t → DeclEnds (t ∷ us)
decl_at_id t us is = id_ends_kind t.kind is

-- an equals sign, after a type
equal_facts : (same_kind kind.Equal kind.Dot ≡ false) × (same_kind kind.Equal kind.OpenBracket ≡ false) × (same_kind kind.Equal kind.Colon ≡ false)
unfolding same_kind
equal_facts = (refl, refl, refl)

pub equal_ends : (t : Terminal) (us : Tokens) → Is kind.Equal t → Ends (t ∷ us)
equal_ends t us is =
    (after_other kind.Dot kind.Equal t us is equal_facts.0, after_other kind.OpenBracket kind.Equal t us is equal_facts.1, after_other kind.Colon kind.Equal t us is equal_facts.2)

-- ---- single signs

colon_no_comma : same_kind kind.Colon kind.Comma ≡ false
unfolding same_kind
colon_no_comma = refl

pub colon_comma : (t : Terminal) (us : Tokens) → Is kind.Colon t → after kind.Comma (t ∷ us) ≡ None
colon_comma t us is = after_other kind.Comma kind.Colon t us is colon_no_comma

bracket_no_comma : same_kind kind.CloseBracket kind.Comma ≡ false
unfolding same_kind
bracket_no_comma = refl

pub bracket_comma : (t : Terminal) (us : Tokens) → Is kind.CloseBracket t → after kind.Comma (t ∷ us) ≡ None
bracket_comma t us is = after_other kind.Comma kind.CloseBracket t us is bracket_no_comma

colon_no_open : same_kind kind.Colon kind.Open ≡ false
unfolding same_kind
colon_no_open = refl

pub colon_open : (t : Terminal) (us : Tokens) → Is kind.Colon t → after kind.Open (t ∷ us) ≡ None
colon_open t us is = after_other kind.Open kind.Colon t us is colon_no_open

plus_no_equal : same_kind kind.Plus kind.Equal ≡ false
unfolding same_kind
plus_no_equal = refl

pub plus_equal : (t : Terminal) (us : Tokens) → Is kind.Plus t → after kind.Equal (t ∷ us) ≡ None
plus_equal t us is = after_other kind.Equal kind.Plus t us is plus_no_equal

id_no_importing : (k : TerminalKind) → is_id k ≡ true → same_kind k kind.Importing ≡ false
unfolding same_kind
id_no_importing kind.Id e = refl
id_no_importing kind.Proof e = refl
id_no_importing _ e = cc

pub id_importing : (t : Terminal) (us : Tokens) → IsId t → after kind.Importing (t ∷ us) ≡ None
id_importing t us is = other kind.Importing t us (id_no_importing t.kind is)

colon_no_bracket : same_kind kind.Colon kind.OpenBracket ≡ false
unfolding same_kind
colon_no_bracket = refl

pub colon_bracket : (t : Terminal) (us : Tokens) → Is kind.Colon t → after kind.OpenBracket (t ∷ us) ≡ None
colon_bracket t us is = after_other kind.OpenBracket kind.Colon t us is colon_no_bracket
