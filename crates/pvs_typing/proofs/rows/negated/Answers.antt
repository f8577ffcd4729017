use Rattle.pvs_terms.specs.Tree.{True, False}
use Rattle.pvs_terms.specs.Stored.{tree_at}
use Rattle.pvs_terms.specs.declared.shape.Sort.TheVariants.{OfTerm}
use Rattle.pvs_types.specs.Typing.{negation}
use Rattle.pvs_typing.proofs.GrowthLaws.{keeps_trans, known_kept}
use Rattle.pvs_typing.proofs.JudgingLaws.{part_fault, result_err}
use Rattle.pvs_typing.proofs.RowLaws.{false_fits, true_fits}
use Rattle.pvs_typing.proofs.rows.negated.Goals as goal

pub returns-in_err-no : goal.returns-in_err-no
returns-in_err-no g c =
    let f = tree_at (g.T.Theories.state c.args.theories.now).stored c.args.formula in
    rw (result_err c.from_residual.result c.from_residual.ensures.1) (record {
      ok = tt;
      refused = part_fault False (negation f) c.in_err-no.field-0.0 (λ _. false_fits) c.in_err-no.ensures.refused;
      kept = c.in_err-no.ensures.kept;
    })

pub returns-in_err-yes : goal.returns-in_err-yes
returns-in_err-yes g c =
    let f = tree_at (g.T.Theories.state c.args.theories.now).stored c.args.formula in
    rw (result_err c.from_residual-in_err-yes.result c.from_residual-in_err-yes.ensures.1) (record {
      ok = tt;
      refused = part_fault True (negation f) c.in_err-yes.field-0.0 (λ _. true_fits) c.in_err-yes.ensures.refused;
      kept = keeps_trans c.in_ok-no.ensures.kept c.in_err-yes.ensures.kept;
    })

pub choice-requires-clause-condition : goal.choice-requires-clause-condition
choice-requires-clause-condition g c =
    known_kept OfTerm c.args.formula (keeps_trans c.in_ok-no.ensures.kept c.in_ok-yes.ensures.kept) c.requires.formula

pub choice-requires-clause-first : goal.choice-requires-clause-first
choice-requires-clause-first g c =
    known_kept OfTerm c.in_ok-no.no c.in_ok-yes.ensures.kept c.in_ok-no.ensures.ok.known

pub returns : goal.returns
returns g c =
    let k1 = c.in_ok-no.ensures.kept in
    let k2 = c.in_ok-yes.ensures.kept in
    let no = c.in_ok-no.ensures.ok in
    record {
      ok = rw ((keeps_trans k1 k2).stored.trees c.args.formula c.requires.formula.node, k2.stored.trees c.in_ok-no.no no.known.node, no.tree, c.in_ok-yes.ensures.ok.tree) at c.choice.ensures.ok;
      refused = rw ((keeps_trans k1 k2).stored.trees c.args.formula c.requires.formula.node, k2.stored.trees c.in_ok-no.no no.known.node, no.tree, c.in_ok-yes.ensures.ok.tree) at c.choice.ensures.refused;
      kept = keeps_trans (keeps_trans c.in_ok-no.ensures.kept c.in_ok-yes.ensures.kept) c.choice.ensures.kept;
    }
