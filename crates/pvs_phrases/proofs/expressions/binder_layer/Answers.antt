use Rattle.std.proofs.Common.{◌∙◌, arith, sym, ap}
use Rattle.pvs_elab.specs.Desugar.{phrase, quantified}
use Rattle.pvs_phrases.specs.Parts.{bounds}
use Rattle.pvs_phrases.proofs.BindingLaws.{forall_binder, exists_binder, lambda_binder}
use Rattle.pvs_phrases.proofs.expressions.binder_layer.Goals as goal

pub returns-in-Forall : goal.returns-in-Forall
returns-in-Forall c =
    c.forall_layer.ensures ∙ forall_binder c.args.text.now c.args.pos (phrase c.args.text.now c.args.body.now) c.args.bindings.now (omega arith)
    ∙ ap (λ w. quantified w (bounds c.args.text.now c.args.bindings.now) (phrase c.args.text.now c.args.body.now) c.args.pos) (sym c.in-Forall.is)

pub returns-in-Exists : goal.returns-in-Exists
returns-in-Exists c =
    c.exists_layer.ensures ∙ exists_binder c.args.text.now c.args.pos (phrase c.args.text.now c.args.body.now) c.args.bindings.now (omega arith)
    ∙ ap (λ w. quantified w (bounds c.args.text.now c.args.bindings.now) (phrase c.args.text.now c.args.body.now) c.args.pos) (sym c.in-Exists.is)

pub returns-in-Lambda : goal.returns-in-Lambda
returns-in-Lambda c =
    rw c.get-in-Lambda.ensures
    (lambda_binder c.args.text.now c.args.pos (phrase c.args.text.now c.args.body.now) c.args.bindings.now (omega arith)
    ∙ ap (λ w. quantified w (bounds c.args.text.now c.args.bindings.now) (phrase c.args.text.now c.args.body.now) c.args.pos) (sym c.in-Lambda.is))
