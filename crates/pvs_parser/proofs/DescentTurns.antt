-- A turn of each recursion on a count, and its end, beside a loop that counts up.
use Rattle.std.proofs.Common.{◌≡◌, ℕ, ◌+◌, ◌-◌, ◌<◌, ◌≤◌, Bool, true, false, if◌then◌else◌, List, [], ◌∷◌, ◌++◌, Some, Ok, Err, refl, ◌∙◌}
use Rattle.pvs_parser.specs.declared.nesting.Nesting.{Nesting}
use Rattle.pvs_parser.specs.declared.terminal.Terminal.{Terminal}
use Rattle.pvs_parser.specs.declared.terminal.TerminalKind.{TerminalKind}
use Rattle.pvs_parser.specs.declared.terminal.TerminalKind.TheVariants as kind
use Rattle.pvs_syntax.specs.declared.expression.Expr.{Expr}
use Rattle.pvs_syntax.specs.declared.expression.Expr.TheVariants as expr
use Rattle.pvs_parser.specs.Language.{Tokens, without_marks}
use Rattle.pvs_parser.specs.code.Descent.{Readers, Read, either, after, stop, too_many, end_of_list, list_from, call_with, project, term_from, compares, mark, begins, last_with, term_with, compared_from}
use Rattle.pvs_base.specs.Answers.{◌>>=◌}
use Rattle.pvs_parser.specs.code.Nests.{comes, end_of_list_at}
use Rattle.pvs_parser.proofs.Turns.{one_more, no_more}

-- ---- Lists.

pub list_turn : {A : Type 0} {x : Read (List A)} (starts : TerminalKind → Bool) (reads : Nesting → Tokens → Read A) (n at : ℕ) (found : List A) (l : Nesting) (ts : Tokens)
    → at < n → x ≡ list_from starts reads (n - at) found l ts
    → x ≡ (reads l ts >>= λ p. either (after kind.Comma p.2) (λ us. list_from starts reads (n - (at + 1)) (found ++ p.0 ∷ []) (without_marks p.1) us) (Ok (found ++ p.0 ∷ [], p.1, p.2)))
unfolding list_from
list_turn starts reads n at found l ts below e = one_more (λ m. list_from starts reads m found l ts) n at below e

-- after an item and a comma
pub list_goes : {A : Type 0} {x : Read (List A)} (starts : TerminalKind → Bool) (reads : Nesting → Tokens → Read A) (n at : ℕ) (found : List A) (l m : Nesting) (ts us vs : Tokens) (a : A)
    → at < n → x ≡ list_from starts reads (n - at) found l ts → reads l ts ≡ Ok (a, m, us) → after kind.Comma us ≡ Some vs
    → x ≡ list_from starts reads (n - (at + 1)) (found ++ a ∷ []) (without_marks m) vs
list_goes starts reads n at found l m ts us vs a below e read comma = list_turn starts reads n at found l ts below e ∙ rw (read, comma) refl

crowded-of : (A : Type 0) (t : Terminal) (ts : Tokens) (b : Bool) → (if b then too_many {A = A} (t ∷ ts) else stop (t ∷ ts)) ≡ Err (end_of_list_at b (t ∷ ts))
crowded-of A t ts true = refl
crowded-of A t ts false = refl

pub crowded-at : (A : Type 0) (starts : TerminalKind → Bool) (ts : Tokens) → end_of_list {A = A} starts ts ≡ Err (end_of_list_at (comes starts ts) ts)
crowded-at A starts [] = refl
crowded-at A starts (t ∷ ts) = crowded-of A t ts (starts t.kind)

-- where no more items may come
pub list_end : {A : Type 0} {x : Read (List A)} (starts : TerminalKind → Bool) (reads : Nesting → Tokens → Read A) (n at : ℕ) (found : List A) (l : Nesting) (ts : Tokens)
    → n ≤ at → x ≡ list_from starts reads (n - at) found l ts → x ≡ Err (end_of_list_at (comes starts ts) ts)
unfolding list_from
list_end starts reads n at found l ts done e = no_more (λ m. list_from starts reads m found l ts) n at done e ∙ crowded-at _ starts ts

-- ---- Terms.

pub term_turn : {x : Read Expr} (go : Readers) (n at : ℕ) (b : Bool) (y : Expr) (l : Nesting) (ts : Tokens)
    → at < n → x ≡ term_from go (n - at) b y l ts
    → x ≡ either (after kind.Open ts) (λ us. call_with go b y l us >>= λ p. term_from go (n - (at + 1)) true p.0 p.1 p.2)
    (either (after kind.Backquote ts) (λ us. project go.limit y l us >>= λ p. term_from go (n - (at + 1)) true p.0 p.1 p.2) (Ok (y, l, ts)))
unfolding term_from
term_turn go n at b y l ts below e = one_more (λ m. term_from go m b y l ts) n at below e

pub term_end : {x : Read Expr} (go : Readers) (n at : ℕ) (b : Bool) (y : Expr) (l : Nesting) (ts : Tokens) → n ≤ at → x ≡ term_from go (n - at) b y l ts → x ≡ Ok (y, l, ts)
unfolding term_from
term_end go n at b y l ts done e = no_more (λ m. term_from go m b y l ts) n at done e

-- ---- Comparisons.

pub compared_turn : {x : Read Expr} (go : Readers) (n at : ℕ) (y : Expr) (l : Nesting) (ts : Tokens)
    → at < n → x ≡ compared_from go (n - at) y l ts
    → x ≡ either (compares ts)
    (λ p. mark go.limit l p.1 >>= λ m. either (begins p.1) (λ q. last_with go p.0 y m q.0 q.1 q.2)
    (term_with go m p.1 >>= λ r. compared_from go (n - (at + 1)) (expr.Infix p.0 y r.0) r.1 r.2))
    (Ok (y, l, ts))
unfolding compared_from
compared_turn go n at y l ts below e = one_more (λ m. compared_from go m y l ts) n at below e

pub compared_end : {x : Read Expr} (go : Readers) (n at : ℕ) (y : Expr) (l : Nesting) (ts : Tokens) → n ≤ at → x ≡ compared_from go (n - at) y l ts → x ≡ Ok (y, l, ts)
unfolding compared_from
compared_end go n at y l ts done e = no_more (λ m. compared_from go m y l ts) n at done e
