use Rattle.std.proofs.Common.{Ok, subst, ap, ◌∙◌}
use Rattle.pvs_terms.specs.Stored.{tree_at}
use Rattle.pvs_types.specs.Forms.{up}
use Rattle.pvs_typing.specs.Answers.{IsOptionKnown}
use Rattle.pvs_typing.specs.Growth.{all_at}
use Rattle.pvs_typing.proofs.GrowthLaws.{keeps_trans}
use Rattle.pvs_typing.proofs.FormsOver.{listed, up_fault, up_ends, up_goes_on, listed_kept, types_kept}
use Rattle.pvs_typing.proofs.JudgingLaws.{result_err}
use Rattle.pvs_typing.proofs.forms.up_of.Goals as goal

pub returns-in_err-next_above : goal.returns-in_err-next_above
returns-in_err-next_above g c =
    let t = g.T.Theories in
    rw (result_err c.from_residual-in_err-next_above.result c.from_residual-in_err-next_above.ensures.1) (record {
      ok = tt;
      known = tt;
      refused = up_fault ((t.state c.args.theories.now).lookups c.args.theory) ((t.state c.loop-types.theories).lookups c.args.theory) c.requires.ordered c.loop-types.invariant.kept.lookups
          (tree_at (t.state c.args.theories.now).stored c.args.ty) (tree_at (t.state c.loop-types.theories).stored c.loop-types.form) (all_at (t.state c.loop-types.theories).stored c.loop-types.types.items) c.in_err-next_above.field-0.0 c.loop-types.invariant.same c.in_err-next_above.ensures.refused;
      kept = keeps_trans c.loop-types.invariant.kept c.in_err-next_above.ensures.kept;
    })

pub returns-in-None : goal.returns-in-None
returns-in-None g c =
    let t = g.T.Theories in
    record {
      ok = c.loop-types.invariant.same ∙ up_ends (t.state c.next_above.new.theories).stored ((t.state c.args.theories.now).lookups c.args.theory) ((t.state c.loop-types.theories).lookups c.args.theory) c.requires.ordered c.loop-types.invariant.kept.lookups
          (all_at (t.state c.loop-types.theories).stored c.loop-types.types.items) (tree_at (t.state c.loop-types.theories).stored c.loop-types.form) c.in_ok-next_above.field-0 c.in-None.is c.in_ok-next_above.ensures.ok
          ∙ ap Ok (listed_kept c.loop-types.types.items c.loop-types.form c.push.new.self.items c.in_ok-next_above.ensures.kept c.loop-types.invariant.types c.loop-types.invariant.known c.in_ok-push.ensures.items);
      known = types_kept c.loop-types.types.items c.loop-types.form c.push.new.self.items c.in_ok-next_above.ensures.kept c.loop-types.invariant.types c.loop-types.invariant.known c.in_ok-push.ensures.items;
      refused = tt;
      kept = keeps_trans c.loop-types.invariant.kept c.in_ok-next_above.ensures.kept;
    }

pub loop-types-preserved : goal.loop-types-preserved
loop-types-preserved g c =
    let t = g.T.Theories in
    record {
      kept = keeps_trans c.loop-types.invariant.kept c.in_ok-next_above.ensures.kept;
      known = subst (IsOptionKnown (t.state c.next_above.new.theories).stored ((t.state c.next_above.new.theories).declares c.args.theory)) c.in-Some.is c.in_ok-next_above.ensures.known;
      types = types_kept c.loop-types.types.items c.loop-types.form c.push.new.self.items c.in_ok-next_above.ensures.kept c.loop-types.invariant.types c.loop-types.invariant.known c.in_ok-push.ensures.items;
      same = c.loop-types.invariant.same ∙ up_goes_on (t.state c.next_above.new.theories).stored ((t.state c.args.theories.now).lookups c.args.theory) ((t.state c.loop-types.theories).lookups c.args.theory) c.requires.ordered c.loop-types.invariant.kept.lookups
          (all_at (t.state c.loop-types.theories).stored c.loop-types.types.items) (tree_at (t.state c.loop-types.theories).stored c.loop-types.form) c.in_ok-next_above.field-0 c.in-Some.above c.in-Some.is c.in_ok-next_above.ensures.ok
          ∙ ap (λ ts. listed ts (up ((t.state c.args.theories.now).lookups c.args.theory) (tree_at (t.state c.next_above.new.theories).stored c.in-Some.above)))
          (listed_kept c.loop-types.types.items c.loop-types.form c.push.new.self.items c.in_ok-next_above.ensures.kept c.loop-types.invariant.types c.loop-types.invariant.known c.in_ok-push.ensures.items);
    }
