-- What answers there are, forwards.
use Rattle.std.proofs.Common.{◌≡◌, ◌∙◌, false, if◌then◌else◌, ◌∷◌, ◌++◌, Option, Some, None, Ok, refl, sym, ap, subst, append_assoc}
use Rattle.pvs_parser.specs.declared.nesting.Nesting.{Nesting}
use Rattle.pvs_parser.specs.declared.terminal.Terminal.{Terminal}
use Rattle.pvs_parser.specs.declared.terminal.TerminalKind.{TerminalKind}
use Rattle.pvs_parser.specs.declared.terminal.TerminalKind.TheVariants as kind
use Rattle.pvs_syntax.specs.declared.word.Word.{Word}
use Rattle.pvs_parser.specs.Terminals.{Is, IsId, same_kind}
use Rattle.pvs_parser.specs.Language.{Limit, Tokens, HasRoom, level}
use Rattle.pvs_parser.specs.code.Descent.{Answer, either, stop, after, expect, id, number, with_room, too_deep}
use Rattle.pvs_base.specs.Answers.{◌>>=◌}
use Rattle.pvs_parser.proofs.DescentSteps.{same_is, is_below_is, Splits}

pub record Gets {A : Type 0} (o : Answer A) (x : A) : Type 0 where
  pub is : o ≡ Ok x

pub found : {A : Type 0} {x : A} → Gets (Ok x) x
found = record { is = refl }

pub then_ : {A B : Type 0} {o : Answer A} {x : A} {y : B} (f : A → Answer B) → Gets o x → Gets (f x) y → Gets (o >>= f) y
then_ f g h = record { is = ap (λ z. z >>= f) g.is ∙ h.is }

pub there : {A B : Type 0} {o : Option A} {x : A} {y : B} (f : A → Answer B) (d : Answer B) → o ≡ Some x → Gets (f x) y → Gets (either o f d) y
there f d e g = record { is = ap (λ z. either z f d) e ∙ g.is }

pub absent : {A B : Type 0} {o : Option A} {d : Answer B} {y : B} (f : A → Answer B) → o ≡ None → Gets d y → Gets (either o f d) y
absent {d = d} f e g = record { is = ap (λ z. either z f d) e ∙ g.is }

pub has_room : {B : Type 0} {y : B} (limit : Limit) (n m : Nesting) (ts : Tokens) (f : Nesting → Answer B) → HasRoom limit n → Gets (f m) y → Gets (with_room limit n m ts >>= f) y
has_room limit n m ts f lt g = record { is = ap (λ b. (if b then Ok m else too_deep ts) >>= f) (is_below_is limit (level n) lt) ∙ g.is }

pub after_is : (k : TerminalKind) (t : Terminal) (ts : Tokens) → Is k t → after k (t ∷ ts) ≡ Some ts
after_is k t ts is = ap (λ b. if b then Some ts else None) (same_is t.kind k is)

pub after_other : (k c : TerminalKind) (t : Terminal) (ts : Tokens) → Is c t → same_kind c k ≡ false → after k (t ∷ ts) ≡ None
after_other k c t ts is other = ap (λ b. if b then Some ts else None) (ap (λ z. same_kind z k) is ∙ other)

pub takes : {B : Type 0} {y : B} (k : TerminalKind) (t : Terminal) (ts : Tokens) (f : Tokens → Answer B) → Is k t → Gets (f ts) y → Gets (expect k (t ∷ ts) >>= f) y
takes k t ts f is g = record { is = ap (λ b. (if b then Ok ts else stop (t ∷ ts)) >>= f) (same_is t.kind k is) ∙ g.is }

pub names : {B : Type 0} {y : B} (t : Terminal) (ts : Tokens) (f : Word × Tokens → Answer B) → IsId t → Gets (f (t.word, ts)) y → Gets (id (t ∷ ts) >>= f) y
names t ts f is g = record { is = ap (λ b. (if b then Ok (t.word, ts) else stop (t ∷ ts)) >>= f) is ∙ g.is }

pub numbers : {B : Type 0} {y : B} (t : Terminal) (ts : Tokens) (f : Word × Tokens → Answer B) → Is kind.Number t → Gets (f (t.word, ts)) y → Gets (number (t ∷ ts) >>= f) y
numbers t ts f is g = record { is = ap (λ b. (if b then Ok (t.word, ts) else stop (t ∷ ts)) >>= f) (same_is t.kind kind.Number is) ∙ g.is }

-- ---- parts of token lists

pub both : {ts us : Tokens} → Splits (ts ++ us) ts us
both = record { same = refl }

pub unglue : {all vs : Tokens} (ts us : Tokens) → Splits all (ts ++ us) vs → Splits all ts (us ++ vs)
unglue {vs = vs} ts us s = record { same = s.same ∙ append_assoc ts us vs }

-- what is read of tokens that are put together so
pub from : {A : Type 0} (F : Tokens → Answer A) {all ts us : Tokens} {y : A} → Splits all ts us → Gets (F (ts ++ us)) y → Gets (F all) y
from F {y = y} s g = subst (λ z. Gets (F z) y) (sym s.same) g
