use Rattle.std.proofs.Common.{subst, ◌∙◌, Ok, ap, sym}
use Rattle.pvs_terms.specs.declared.shape.Sort.TheVariants.{OfType}
use Rattle.pvs_terms.specs.Stored.{tree_at}
use Rattle.pvs_typing.specs.Answers.{IsOptionKnown}
use Rattle.pvs_typing.proofs.GrowthLaws.{keeps_trans, known_kept}
use Rattle.pvs_typing.proofs.FormsOver.{head_fault, head_goes_on, head_ends}
use Rattle.pvs_typing.proofs.JudgingLaws.{result_err}
use Rattle.pvs_typing.proofs.forms.head_of.Goals as goal

pub returns-in_err-next_above : goal.returns-in_err-next_above
returns-in_err-next_above g c =
    let t = g.T.Theories in
    rw (result_err c.from_residual.result c.from_residual.ensures.1) (record {
      ok = tt;
      known = tt;
      refused = head_fault ((t.state c.args.theories.now).lookups c.args.theory) ((t.state c.loop-above.theories).lookups c.args.theory) c.requires.ordered c.loop-above.invariant.kept.lookups
          (tree_at (t.state c.args.theories.now).stored c.args.ty) (tree_at (t.state c.loop-above.theories).stored c.loop-above.form) c.in_err-next_above.field-0.0 c.loop-above.invariant.same c.in_err-next_above.ensures.refused;
      kept = keeps_trans c.loop-above.invariant.kept c.in_err-next_above.ensures.kept;
    })

pub returns-in-None : goal.returns-in-None
returns-in-None g c =
    record {
      ok = c.loop-above.invariant.same ∙ head_ends (g.T.Theories.state c.next_above.new.theories).stored ((g.T.Theories.state c.args.theories.now).lookups c.args.theory) ((g.T.Theories.state c.loop-above.theories).lookups c.args.theory) c.requires.ordered c.loop-above.invariant.kept.lookups (tree_at (g.T.Theories.state c.loop-above.theories).stored c.loop-above.form) c.in_ok-next_above.field-0 c.in-None.is c.in_ok-next_above.ensures.ok ∙ ap Ok (sym (c.in_ok-next_above.ensures.kept.stored.trees c.loop-above.form c.loop-above.invariant.known.node));
      known = known_kept OfType c.loop-above.form c.in_ok-next_above.ensures.kept c.loop-above.invariant.known;
      refused = tt;
      kept = keeps_trans c.loop-above.invariant.kept c.in_ok-next_above.ensures.kept;
    }

pub loop-above-preserved : goal.loop-above-preserved
loop-above-preserved g c =
    let t = g.T.Theories in
    record {
      kept = keeps_trans c.loop-above.invariant.kept c.in_ok-next_above.ensures.kept;
      known = subst (IsOptionKnown (t.state c.next_above.new.theories).stored ((t.state c.next_above.new.theories).declares c.args.theory)) c.in-Some.is c.in_ok-next_above.ensures.known;
      same = c.loop-above.invariant.same ∙ head_goes_on (t.state c.next_above.new.theories).stored ((t.state c.args.theories.now).lookups c.args.theory) ((t.state c.loop-above.theories).lookups c.args.theory) c.requires.ordered c.loop-above.invariant.kept.lookups
          (tree_at (t.state c.loop-above.theories).stored c.loop-above.form) c.in_ok-next_above.field-0 c.in-Some.above c.in-Some.is c.in_ok-next_above.ensures.ok;
    }
