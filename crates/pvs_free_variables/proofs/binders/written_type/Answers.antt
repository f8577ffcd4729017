use Rattle.std.proofs.Common.{◌∙◌, sym, arith}
use Rattle.pvs_free_variables.proofs.BindingLaws.{written_at, unwritten_at, unwritten_after}
use Rattle.pvs_free_variables.proofs.binders.written_type.Goals as goal

pub returns-in-Some : goal.returns-in-Some
returns-in-Some c text x pos =
    let item = rw c.as_slice.ensures at c.index-as_slice-at.is in
    let ty = rw (sym c.index-as_slice-at.is) at c.in-Some.is in
    c.loop-at.invariant text x pos ∙ written_at text x pos c.args.bindings.now c.loop-at.at c.index-as_slice-at.result c.in-Some.ty (omega arith) item ty

pub loop-at-preserved : goal.loop-at-preserved
loop-at-preserved c text x pos =
    let item = rw c.as_slice.ensures at c.index-as_slice-at.is in
    let ty = rw (sym c.index-as_slice-at.is) at c.in_default.is in
    c.loop-at.invariant text x pos ∙ unwritten_at text x pos c.args.bindings.now c.loop-at.at c.index-as_slice-at.result (omega arith) item ty

pub returns : goal.returns
returns c text x pos = c.loop-at.invariant text x pos ∙ unwritten_after text x pos c.args.bindings.now c.loop-at.at (omega arith)
