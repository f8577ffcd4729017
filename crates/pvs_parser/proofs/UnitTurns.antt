-- Recursions on a count of turns, beside loops that count up.
use Rattle.std.proofs.Common.{◌≡◌, ℕ, zero, suc, ◌+◌, ◌-◌, ◌<◌, ◌≤◌, List, [], ◌∷◌, ◌++◌, length, true, false, Some, None, Ok, Err, ap, ◌∙◌, refl, arith}
use Rattle.pvs_parser.specs.declared.failure.Stop.{Stop}
use Rattle.pvs_parser.specs.declared.nesting.Nesting.{Nesting}
use Rattle.pvs_parser.specs.declared.terminal.TerminalKind.TheVariants as kind
use Rattle.pvs_syntax.specs.declared.word.Word.{Word}
use Rattle.pvs_syntax.specs.declared.expression.InstExpr.{InstExpr}
use Rattle.pvs_syntax.specs.declared.unit.Decl.{Decl}
use Rattle.pvs_syntax.specs.declared.unit.Formal.{Formal}
use Rattle.pvs_syntax.specs.declared.unit.Item.{Item}
use Rattle.pvs_syntax.specs.declared.unit.Unit as tree
use Rattle.pvs_parser.specs.declared.declarations.TheoryPart.{TheoryPart}
use Rattle.pvs_parser.specs.Language.{Limit, language_limit, Tokens, outermost}
use Rattle.pvs_parser.specs.code.Descent.{Answer, Read, after, id, stop, at_end, list_from}
use Rattle.pvs_base.specs.Answers.{◌>>=◌}
use Rattle.pvs_parser.specs.code.Nests.{comes, end_of_list_at}
use Rattle.pvs_parser.specs.Terminals.{is_id}
use Rattle.pvs_parser.proofs.DescentTurns.{crowded-at}
use Rattle.pvs_parser.specs.code.Steps.{declaration_in}
use Rattle.pvs_parser.specs.code.UnitDescent as spec
use Rattle.pvs_parser.specs.code.UnitDescent.{instances_from, inst, formals_from, formal, many_from, comes_decl, past_semicolon, items_from, one_item}

turn : {X : Type 0} (f : ℕ → X) (n at : ℕ) → at < n → f (n - at) ≡ f (suc (n - (at + 1)))
turn f n at below = let e : n - at ≡ suc (n - (at + 1)) = omega arith in ap f e

full : {X : Type 0} (f : ℕ → X) (n at : ℕ) → n ≤ at → f (n - at) ≡ f 0
full f n at above = let e : n - at ≡ 0 = omega arith in ap f e

-- ---- Identifiers with commas between them, after those found.

unfoldable pub ids_from : ℕ → List Word → Tokens → Answer (List Word × Tokens)
ids_from room found ts = list_from is_id spec.name room found outermost ts >>= λ p. Ok (p.0, p.2)

pub ids_init : (found : List Word) (ts : Tokens) → found ≡ [] → spec.ids language_limit ts ≡ ids_from 200 found ts
unfolding ids_from
ids_init found ts e = rw e refl

pub ids_err : (n at : ℕ) (found : List Word) (ts : Tokens) (s : Stop) → at < n → id ts ≡ Err s → ids_from (n - at) found ts ≡ Err s
unfolding ids_from list_from
ids_err n at found ts s below e = turn (λ k. ids_from k found ts) n at below ∙ rw e refl

pub ids_last : (n at : ℕ) (found : List Word) (ts us : Tokens) (w : Word) → at < n → id ts ≡ Ok (w, us) → after kind.Comma us ≡ None → ids_from (n - at) found ts ≡ Ok (found ++ w ∷ [], us)
unfolding ids_from list_from
ids_last n at found ts us w below e a = turn (λ k. ids_from k found ts) n at below ∙ rw (e, a) refl

pub ids_next : (n at : ℕ) (found : List Word) (ts us vs : Tokens) (w : Word) → at < n → id ts ≡ Ok (w, us) → after kind.Comma us ≡ Some vs
    → ids_from (n - at) found ts ≡ ids_from (n - (at + 1)) (found ++ w ∷ []) vs
unfolding ids_from list_from
ids_next n at found ts us vs w below e a = turn (λ k. ids_from k found ts) n at below ∙ rw (e, a) refl

pub ids_full : (n at : ℕ) (found : List Word) (ts : Tokens) → n ≤ at → ids_from (n - at) found ts ≡ Err (end_of_list_at (comes is_id ts) ts)
unfolding ids_from list_from
ids_full n at found ts above =
    full (λ k. ids_from k found ts) n at above ∙ ap (λ (r : Read (List Word)). r >>= λ p. Ok (p.0, p.2)) (crowded-at (List Word × Nesting × Tokens) is_id ts)

-- ---- Instances with commas between them.

pub instances_err : (limit : Limit) (n at : ℕ) (found : List InstExpr) (ts : Tokens) (s : Stop) → at < n → inst limit ts ≡ Err s → instances_from limit (n - at) found ts ≡ Err s
unfolding instances_from
instances_err limit n at found ts s below e = turn (λ k. instances_from limit k found ts) n at below ∙ rw e refl

pub instances_last : (limit : Limit) (n at : ℕ) (found : List InstExpr) (ts us : Tokens) (i : InstExpr) → at < n → inst limit ts ≡ Ok (i, us) → after kind.Comma us ≡ None
    → instances_from limit (n - at) found ts ≡ Ok (found ++ i ∷ [], us)
unfolding instances_from
instances_last limit n at found ts us i below e a = turn (λ k. instances_from limit k found ts) n at below ∙ rw (e, a) refl

pub instances_next : (limit : Limit) (n at : ℕ) (found : List InstExpr) (ts us vs : Tokens) (i : InstExpr) → at < n → inst limit ts ≡ Ok (i, us) → after kind.Comma us ≡ Some vs
    → instances_from limit (n - at) found ts ≡ instances_from limit (n - (at + 1)) (found ++ i ∷ []) vs
unfolding instances_from
instances_next limit n at found ts us vs i below e a = turn (λ k. instances_from limit k found ts) n at below ∙ rw (e, a) refl

pub instances_full : (limit : Limit) (n at : ℕ) (found : List InstExpr) (ts : Tokens) → n ≤ at → instances_from limit (n - at) found ts ≡ stop ts
unfolding instances_from
instances_full limit n at found ts above = full (λ k. instances_from limit k found ts) n at above

-- ---- Formals with commas between them.

pub formals_init : (found : List Formal) (ts : Tokens) → found ≡ [] → formals_from language_limit 200 [] ts ≡ formals_from language_limit (200 - 0) found ts
formals_init found ts e = rw e refl

pub formals_err : (n at : ℕ) (found : List Formal) (ts : Tokens) (s : Stop) → at < n → formal language_limit ts ≡ Err s → formals_from language_limit (n - at) found ts ≡ Err s
unfolding formals_from
formals_err n at found ts s below e = turn (λ k. formals_from language_limit k found ts) n at below ∙ rw e refl

pub formals_last : (n at : ℕ) (found fs : List Formal) (ts us : Tokens) → at < n → formal language_limit ts ≡ Ok (fs, us) → after kind.Comma us ≡ None
    → formals_from language_limit (n - at) found ts ≡ Ok (found ++ fs, us)
unfolding formals_from
formals_last n at found fs ts us below e a = turn (λ k. formals_from language_limit k found ts) n at below ∙ rw (e, a) refl

pub formals_next : (n at : ℕ) (found fs : List Formal) (ts us vs : Tokens) → at < n → formal language_limit ts ≡ Ok (fs, us) → after kind.Comma us ≡ Some vs
    → formals_from language_limit (n - at) found ts ≡ formals_from language_limit (n - (at + 1)) (found ++ fs) vs
unfolding formals_from
formals_next n at found fs ts us vs below e a = turn (λ k. formals_from language_limit k found ts) n at below ∙ rw (e, a) refl

pub formals_full : (n at : ℕ) (found : List Formal) (ts : Tokens) → n ≤ at → formals_from language_limit (n - at) found ts ≡ Err (end_of_list_at (comes is_id ts) ts)
unfolding formals_from
formals_full n at found ts above = full (λ k. formals_from language_limit k found ts) n at above ∙ crowded-at (List Formal × Tokens) is_id ts

-- ---- Declarations, as long as one comes next.

pub many_end : (part : TheoryPart) (n at : ℕ) (found : List Decl) (ts : Tokens) → at < n → comes_decl ts ≡ false → many_from (declaration_in language_limit part) (n - at) found ts ≡ Ok (found, ts)
unfolding many_from
many_end part n at found ts below e = turn (λ k. many_from (declaration_in language_limit part) k found ts) n at below ∙ rw e refl

pub many_err : (part : TheoryPart) (n at : ℕ) (found : List Decl) (ts : Tokens) (s : Stop) → at < n → comes_decl ts ≡ true → declaration_in language_limit part ts ≡ Err s
    → many_from (declaration_in language_limit part) (n - at) found ts ≡ Err s
unfolding many_from
many_err part n at found ts s below c e = turn (λ k. many_from (declaration_in language_limit part) k found ts) n at below ∙ rw (c, e) refl

pub many_next : (part : TheoryPart) (n at : ℕ) (found ds : List Decl) (ts us : Tokens) → at < n → comes_decl ts ≡ true → declaration_in language_limit part ts ≡ Ok (ds, us)
    → many_from (declaration_in language_limit part) (n - at) found ts ≡ many_from (declaration_in language_limit part) (n - (at + 1)) (found ++ ds) (past_semicolon us)
unfolding many_from
many_next part n at found ds ts us below c e = turn (λ k. many_from (declaration_in language_limit part) k found ts) n at below ∙ rw (c, e) refl

pub many_full : (part : TheoryPart) (n at : ℕ) (found : List Decl) (ts : Tokens) → n ≤ at → many_from (declaration_in language_limit part) (n - at) found ts ≡ Ok (found, ts)
unfolding many_from
many_full part n at found ts above = full (λ k. many_from (declaration_in language_limit part) k found ts) n at above

-- ---- Theories and proofs, up to the end of the tokens.

unfoldable pub unit_from : List ℕ → ℕ → List Item → Tokens → Answer tree.Unit
unit_from text n found ts = items_from language_limit text n found ts >>= λ is. Ok (record { items = is })

pub unit_init : (text : List ℕ) (found : List Item) (ts : Tokens) → found ≡ [] → spec.unit language_limit text ts ≡ unit_from text (length ts - 0) found ts
unfolding unit_from
unit_init text found ts e = let whole : length ts - 0 ≡ length ts = omega arith in rw (e, whole) refl

pub unit_end : (text : List ℕ) (n : ℕ) (found : List Item) (ts : Tokens) → length ts ≡ 0 → unit_from text n found ts ≡ Ok (record { items = found })
unfolding unit_from items_from
unit_end text zero found [] e = refl
unit_end text (suc n) found [] e = refl
unit_end text n found (t ∷ ts) e = cc

pub unit_err : (text : List ℕ) (n at : ℕ) (found : List Item) (ts : Tokens) (s : Stop) → at < n → (length ts ≡ 0 → ⊥) → one_item language_limit text ts ≡ Err s → unit_from text (n - at) found ts ≡ Err s
unfolding unit_from items_from
unit_err text n at found [] s below some e = absurd (some refl)
unit_err text n at found (t ∷ ts) s below some e = turn (λ k. unit_from text k found (t ∷ ts)) n at below ∙ rw e refl

pub unit_next : (text : List ℕ) (n at : ℕ) (found : List Item) (ts us : Tokens) (i : Item) → at < n → (length ts ≡ 0 → ⊥) → one_item language_limit text ts ≡ Ok (i, us)
    → unit_from text (n - at) found ts ≡ unit_from text (n - (at + 1)) (found ++ i ∷ []) us
unfolding unit_from items_from
unit_next text n at found [] us i below some e = absurd (some refl)
unit_next text n at found (t ∷ ts) us i below some e = turn (λ k. unit_from text k found (t ∷ ts)) n at below ∙ rw e refl

pub unit_full : (text : List ℕ) (n at : ℕ) (found : List Item) (ts : Tokens) → n ≤ at → unit_from text (n - at) found ts ≡ at_end (record { items = found }) ts
unfolding unit_from items_from
unit_full text n at found [] above = full (λ k. unit_from text k found []) n at above
unit_full text n at found (t ∷ ts) above = full (λ k. unit_from text k found (t ∷ ts)) n at above
