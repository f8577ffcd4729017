use Rattle.std.proofs.Common.{◌≡◌, ap, ◌∙◌}
use Rattle.pvs_terms.specs.Tree.{TPair}
use Rattle.pvs_terms.specs.declared.shape.Sort.TheVariants.{OfType, OfTerm}
use Rattle.pvs_terms.specs.Stored.{tree_at}
use Rattle.pvs_typing.proofs.GrowthLaws.{keeps_trans, known_kept, context_kept}
use Rattle.pvs_typing.proofs.TaskLaws.{pair_follows, pair_fault}
use Rattle.pvs_typing.proofs.JudgingLaws.{result_err}
use Rattle.pvs_typing.proofs.steps.to_pair.Goals as goal

pub between_pairs-requires-clause-first : goal.between_pairs-requires-clause-first
between_pairs-requires-clause-first g c =
    let k = c.in_ok-form.ensures.kept in
    let h = c.requires.first in
    record { context = context_kept c.args.context.items k h.context; term = known_kept OfTerm c.args.term k h.term; from = c.in-TPair.ensures.parts.1; to = known_kept OfType c.args.first k h.to }

pub between_pairs-requires-clause-others : goal.between_pairs-requires-clause-others
between_pairs-requires-clause-others g c =
    let k = c.in_ok-form.ensures.kept in
    let h = c.requires.first in
    record { context = context_kept c.args.context.items k h.context; term = known_kept OfTerm c.args.term k h.term; from = c.in-TPair.ensures.parts.2; to = known_kept OfType c.args.others k c.requires.others }

pub returns-in_err-next-in-TPair : goal.returns-in_err-next-in-TPair
returns-in_err-next-in-TPair g c =
    let t = g.T.Theories in
    let n = c.args.components in
    let w = (t.state c.head_of.new.theories).stored in
    let tree : tree_at w c.in_ok-form.form ≡ TPair n (tree_at w c.in-TPair.first_from) (tree_at w c.in-TPair.others_from) =
    c.in-TPair.ensures.tree ∙ ap (λ k. TPair k (tree_at w c.in-TPair.first_from) (tree_at w c.in-TPair.others_from)) c.if-count-components.false in
    rw (result_err c.from_residual-in_err-next-in-TPair.result c.from_residual-in_err-next-in-TPair.ensures.1) (record {
      ok = tt;
      refused = pair_fault c.args.context n c.args.term c.args.from c.in_ok-form.form c.in-TPair.first_from c.in-TPair.others_from c.args.first c.args.others c.in_err-next-in-TPair.field-0.0
          c.in_ok-form.ensures.kept c.requires.first c.requires.others c.in_ok-form.ensures.ok tree c.in_err-next-in-TPair.ensures.refused;
      kept = keeps_trans c.in_ok-form.ensures.kept c.in_err-next-in-TPair.ensures.kept;
    })

pub returns-in_ok-next-in-TPair : goal.returns-in_ok-next-in-TPair
returns-in_ok-next-in-TPair g c =
    let t = g.T.Theories in
    let n = c.args.components in
    let w = (t.state c.head_of.new.theories).stored in
    let tree : tree_at w c.in_ok-form.form ≡ TPair n (tree_at w c.in-TPair.first_from) (tree_at w c.in-TPair.others_from) =
    c.in-TPair.ensures.tree ∙ ap (λ k. TPair k (tree_at w c.in-TPair.first_from) (tree_at w c.in-TPair.others_from)) c.if-count-components.false in
    record {
      ok = pair_follows (t.state c.between_pairs.new.theories).stored ((t.state c.between_pairs.new.theories).declares c.args.theory) c.args.context n c.args.term c.args.from c.in_ok-form.form c.in-TPair.first_from c.in-TPair.others_from c.args.first c.args.others c.in_ok-next-in-TPair.next
          c.requires.ordered c.in_ok-form.ensures.kept c.requires.first c.requires.others c.in_ok-form.ensures.ok tree c.in_ok-next-in-TPair.ensures.ok;
      refused = tt;
      kept = keeps_trans c.in_ok-form.ensures.kept c.in_ok-next-in-TPair.ensures.kept;
    }
