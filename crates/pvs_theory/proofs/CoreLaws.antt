-- The core tree of each form of expression, by those of its parts.
use Rattle.std.proofs.Common.{◌≡◌, ◌∙◌, sym, ap, subst, ℕ, List, Option, Result, Ok}
use Rattle.std.specs.Prelude.{⊤}
use Rattle.pvs_base.specs.declared.place.Pos.{Pos}
use Rattle.pvs_base.specs.declared.code.Fault.{Fault}
use Rattle.pvs_base.specs.Answers.{◌>>=◌}
use Rattle.pvs_syntax.specs.declared.word.Word.{Word}
use Rattle.pvs_syntax.specs.declared.expression.Expr.{Expr}
use Rattle.pvs_syntax.specs.declared.expression.Expr.TheVariants as expr
use Rattle.pvs_syntax.specs.declared.expression.InfixWord.{InfixWord}
use Rattle.pvs_syntax.specs.declared.expression.Actual.TheOpen.{Expr-F}
use Rattle.pvs_syntax.specs.declared.expression.Actual.TheFolds.{fold-roll-Expr}
use Rattle.pvs_terms.specs.Tree.{If}
use Rattle.pvs_terms.specs.Stored.{Stored, Extends, tree_at}
use Rattle.pvs_terms.proofs.StoredLaws.{extends_refl, extends_trans}
use Rattle.pvs_theory.specs.declared.entries.Placed as program_placed
use Rattle.pvs_theory.specs.declared.fault.ElabFault.{ElabFault}
use Rattle.pvs_theory.specs.code.Fault.{Elaborated, GivesElab}
use Rattle.pvs_theory.specs.Entries.{Constants, Placed, connective, core, core_step, limited, negation}
use Rattle.pvs_theory.specs.Forms.{name_step, no_step}
use Rattle.pvs_theory.specs.code.Shown.{IsPlacedOf, placed_at}
use Rattle.pvs_theory.proofs.EntryLaws.{after_tree}

module _ (text : List ℕ) (at : Pos) (constants : Constants) where
  pub core_paren : (x : Expr) (pos : Pos) → core text at constants (expr.Paren x pos) ≡ (core text at constants x >>= λ a. Ok (record { at = pos; tree = a.tree }))
  core_paren x pos =
      ap (core text at constants) (sym (expr.rolls-Paren x pos))
      ∙ fold-roll-Expr ⊤ (Result Placed Fault) ⊤ ⊤ ⊤ ⊤ (Option Word) no_step (core_step text at constants) no_step no_step no_step no_step name_step (Expr-F.Paren x pos)

  pub core_not : (x : Expr) (pos : Pos) → core text at constants (expr.Not x pos) ≡ (core text at constants x >>= λ a. limited pos (negation a.tree))
  core_not x pos =
      ap (core text at constants) (sym (expr.rolls-Not x pos))
      ∙ fold-roll-Expr ⊤ (Result Placed Fault) ⊤ ⊤ ⊤ ⊤ (Option Word) no_step (core_step text at constants) no_step no_step no_step no_step name_step (Expr-F.Not x pos)

  pub core_cond : (c x y : Expr) (pos : Pos) → core text at constants (expr.Cond c x y pos)
      ≡ (core text at constants c >>= λ t. core text at constants x >>= λ a. core text at constants y >>= λ b. limited pos (If t.tree a.tree b.tree))
  core_cond c x y pos =
      ap (core text at constants) (sym (expr.rolls-Cond c x y pos))
      ∙ fold-roll-Expr ⊤ (Result Placed Fault) ⊤ ⊤ ⊤ ⊤ (Option Word) no_step (core_step text at constants) no_step no_step no_step no_step name_step (Expr-F.Cond c x y pos)

  pub core_infix : (o : InfixWord) (x y : Expr) → core text at constants (expr.Infix o x y) ≡ (core text at constants x >>= λ a. core text at constants y >>= λ b. connective at o a b)
  core_infix o x y =
      ap (core text at constants) (sym (expr.rolls-Infix o x y))
      ∙ fold-roll-Expr ⊤ (Result Placed Fault) ⊤ ⊤ ⊤ ⊤ (Option Word) no_step (core_step text at constants) no_step no_step no_step no_step name_step (Expr-F.Infix o x y)

-- what the answer of a call says, in the store after it
abbrev pub Gives : Stored → Result program_placed.Placed ElabFault → Result Placed Fault → Type 0
Gives s result r = GivesElab (IsPlacedOf s) (placed_at s) result r

abbrev pub Made : Stored → Result Placed Fault → program_placed.Placed → Type 0
Made s r p = Elaborated (IsPlacedOf s) (placed_at s) r p

pub paren_made : (s : Stored) (pos : Pos) (a p : program_placed.Placed) (r : Result Placed Fault) → Made s r a → record { at = pos; tree = a.tree } ≡ p → Made s (r >>= λ x. Ok (record { at = pos; tree = x.tree })) p
paren_made s pos a p r h e =
    subst (Made s (r >>= λ x. Ok (record { at = pos; tree = x.tree }))) e
    (record { nodes = h.nodes; is = ap (λ (q : Result Placed Fault). q >>= λ x. Ok (record { at = pos; tree = x.tree })) h.is })

pub not_given : (s v : Stored) (pos : Pos) (a : program_placed.Placed) (r : Result Placed Fault) (result : Result program_placed.Placed ElabFault) → Made s r a
    → Gives v result (limited pos (negation (tree_at s a.tree))) → Gives v result (r >>= λ x. limited pos (negation x.tree))
not_given s v pos a r result h k = after_tree (Gives v result) (λ x. limited pos (negation x.tree)) s s r a (extends_refl s) h k

pub infix_given : (s t v : Stored) (at : Pos) (o : InfixWord) (a b : program_placed.Placed) (ra rb : Result Placed Fault) (result : Result program_placed.Placed ElabFault) → Made s ra a → Made t rb b → Extends s t
    → Gives v result (connective at o (placed_at t a) (placed_at t b)) → Gives v result (ra >>= λ x. rb >>= λ y. connective at o x y)
infix_given s t v at o a b ra rb result h k st e =
    after_tree (Gives v result) (λ x. rb >>= λ y. connective at o x y) s t ra a st h
    (after_tree (Gives v result) (λ y. connective at o (placed_at t a) y) t t rb b (extends_refl t) k e)

pub cond_given : (s t u v : Stored) (pos : Pos) (c a b : program_placed.Placed) (rc ra rb : Result Placed Fault) (result : Result program_placed.Placed ElabFault) → Made s rc c → Made t ra a → Made u rb b → Extends s t → Extends t u
    → Gives v result (limited pos (If (tree_at u c.tree) (tree_at u a.tree) (tree_at u b.tree))) → Gives v result (rc >>= λ x. ra >>= λ y. rb >>= λ z. limited pos (If x.tree y.tree z.tree))
cond_given s t u v pos c a b rc ra rb result hc ha hb st tu e =
    after_tree (Gives v result) (λ x. ra >>= λ y. rb >>= λ z. limited pos (If x.tree y.tree z.tree)) s u rc c (extends_trans st tu) hc
    (after_tree (Gives v result) (λ y. rb >>= λ z. limited pos (If (tree_at u c.tree) y.tree z.tree)) t u ra a tu ha
    (after_tree (Gives v result) (λ z. limited pos (If (tree_at u c.tree) (tree_at u a.tree) z.tree)) u u rb b (extends_refl u) hb e))
