use Rattle.std.proofs.Common.{◌≡◌, ◌∙◌, rules, sym, ap, subst}
use Rattle.pvs_syntax.specs.declared.expression.Expr.TheVariants as expr
use Rattle.pvs_terms.proofs.StoredLaws.{extends_trans}
use Rattle.pvs_theory.specs.Entries.{core}
use Rattle.pvs_theory.specs.code.Index.{value_of}
use Rattle.pvs_theory.proofs.ShownLaws.{term_extends}
use Rattle.pvs_theory.proofs.CoreLaws.{Gives, cond_given, core_cond, core_infix, core_not, infix_given, not_given}
use Rattle.pvs_theory.proofs.entries.+core.Goals as goal

pub conditional-requires-clause-condition : goal.conditional-requires-clause-condition
conditional-requires-clause-condition t c =
    term_extends c.core-in-Cond.new.store c.core-in-Cond-3.new.store (extends_trans c.in_ok-a-in-Cond.ensures.kept c.in_ok-b-in-Cond.ensures.kept) c.in_ok-c-in-Cond.c.tree c.in_ok-c-in-Cond.ensures.tree.nodes

pub returns-in_ok-b-in-Cond-clause-tree : goal.returns-in_ok-b-in-Cond-clause-tree
returns-in_ok-b-in-Cond-clause-tree t c =
    let text = c.args.scope.now.text.now in
    let at = c.args.scope.now.at in
    let constants = value_of c.args.scope.now.constants in
    let x = c.get-in-Cond.result.now in
    let y = c.get-in-Cond-2.result.now in
    let z = c.get-in-Cond-3.result.now in
    let same : c.args.expr.now ≡ expr.Cond c.get-in-Cond.result.now c.get-in-Cond-2.result.now c.get-in-Cond-3.result.now c.in-Cond.pos = first_of (search rules, cc) in
    subst (Gives c.conditional.new.store c.conditional.result) (sym (ap (core text at constants) same ∙ core_cond text at constants x y z c.in-Cond.pos))
    (cond_given c.core-in-Cond.new.store c.core-in-Cond-2.new.store c.core-in-Cond-3.new.store c.conditional.new.store c.in-Cond.pos c.in_ok-c-in-Cond.c c.in_ok-a-in-Cond.a c.in_ok-b-in-Cond.b
    (core text at constants x) (core text at constants y) (core text at constants z) c.conditional.result
    c.in_ok-c-in-Cond.ensures.tree c.in_ok-a-in-Cond.ensures.tree c.in_ok-b-in-Cond.ensures.tree c.in_ok-a-in-Cond.ensures.kept c.in_ok-b-in-Cond.ensures.kept c.conditional.ensures.tree)

pub returns-in_ok-a-in-Not-clause-tree : goal.returns-in_ok-a-in-Not-clause-tree
returns-in_ok-a-in-Not-clause-tree t c =
    let text = c.args.scope.now.text.now in
    let at = c.args.scope.now.at in
    let constants = value_of c.args.scope.now.constants in
    let x = c.get-in-Not.result.now in
    let same : c.args.expr.now ≡ expr.Not c.get-in-Not.result.now c.in-Not.pos = first_of (search rules, cc) in
    subst (Gives c.negation.new.store c.negation.result) (sym (ap (core text at constants) same ∙ core_not text at constants x c.in-Not.pos))
    (not_given c.core-in-Not.new.store c.negation.new.store c.in-Not.pos c.in_ok-a-in-Not.a (core text at constants x) c.negation.result c.in_ok-a-in-Not.ensures.tree c.negation.ensures.tree)

pub returns-in_ok-b-in-Infix-clause-tree : goal.returns-in_ok-b-in-Infix-clause-tree
returns-in_ok-b-in-Infix-clause-tree t c =
    let text = c.args.scope.now.text.now in
    let at = c.args.scope.now.at in
    let constants = value_of c.args.scope.now.constants in
    let x = c.get-in-Infix.result.now in
    let y = c.get-in-Infix-2.result.now in
    let same : c.args.expr.now ≡ expr.Infix c.in-Infix.word c.get-in-Infix.result.now c.get-in-Infix-2.result.now = first_of (search rules, cc) in
    subst (Gives c.connective.new.store c.connective.result) (sym (ap (core text at constants) same ∙ core_infix text at constants c.in-Infix.word x y))
    (infix_given c.core-in-Infix.new.store c.core-in-Infix-2.new.store c.connective.new.store at c.in-Infix.word c.in_ok-a-in-Infix.a c.in_ok-b-in-Infix.b (core text at constants x) (core text at constants y) c.connective.result
    c.in_ok-a-in-Infix.ensures.tree c.in_ok-b-in-Infix.ensures.tree c.in_ok-b-in-Infix.ensures.kept c.connective.ensures.tree)
