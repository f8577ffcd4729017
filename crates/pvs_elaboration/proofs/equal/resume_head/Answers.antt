use Rattle.std.proofs.Common.{◌∙◌, ap}
use Rattle.pvs_base.specs.declared.code.Code.TheVariants.{Mismatch}
use Rattle.pvs_terms.specs.Stored.{tree_at}
use Rattle.pvs_elab.specs.Elab.{truth_type}
use Rattle.pvs_elaboration.specs.Known.{place_in}
use Rattle.pvs_elaboration.specs.Meanings.{fault_at}
use Rattle.pvs_elaboration.proofs.ListingLaws.{failed_or_memory}
use Rattle.pvs_elaboration.proofs.EqualLaws.{head_is_truth, head_is_no_truth, other_head}
use Rattle.pvs_elaboration.proofs.equal.resume_head.Goals as goal

pub returns-in-TBool : goal.returns-in-TBool
returns-in-TBool g c =
    let a = c.args in
    let e = rw c.in-TBool.is at c.type_view.ensures.tree in
    λ t l. rw c.ask_right.ensures (head_is_truth t a.here.now a.sides a.left a.head c.requires.left e)

pub returns-in_default : goal.returns-in_default
returns-in_default g c =
    let k = g.S.Scope.known c.args.scope.now in
    let a = c.args in
    λ t l.
    failed_or_memory _ (fault_at (place_in t a.sides.left_at) Mismatch) c.fault_at.result (c.fault_at.ensures t l)
    (head_is_no_truth k t a.here.now a.sides a.left (tree_at k.stored a.head) Mismatch (ap truth_type c.type_view.ensures.tree ∙ other_head k.stored c.type_view.result c.in_default.not-TBool))
