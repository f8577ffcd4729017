use Rattle.std.proofs.Common.{◌∙◌, ap, sym, subst, refl, arith}
use Rattle.pvs_elab.specs.Desugar.{phrase, quantified}
use Rattle.pvs_phrases.specs.Parts.{bounds}
use Rattle.pvs_phrases.specs.declared.part.Part.TheVariants as part
use Rattle.pvs_free_variables.specs.declared.task.Task.TheVariants as task
use Rattle.pvs_free_variables.specs.code.Searching.{Expands}
use Rattle.pvs_free_variables.specs.code.Tasks.{next_first}
use Rattle.pvs_free_variables.proofs.ScopeLaws.{after_success, binder_expands, binder_phrase}
use Rattle.pvs_free_variables.proofs.search.visit_expr.Goals as goal

pub returns-in-Binder : goal.returns-in-Binder
returns-in-Binder g c =
    let s = c.args.search.now in
    let text = s.text.now in
    let b = c.in-Binder in
    let ts = next_first s.tasks in
    let is = ap (phrase text) b.is ∙ binder_phrase text b.word b.bindings b.body b.field-3
    ∙ ap (λ e. quantified b.word (bounds text b.bindings) (phrase text e) b.field-3) (sym c.get.ensures) in
    let new = next_first c.push_binder.new.tasks in
    let expands = after_success c.push_binder.result (λ e. subst (λ us. Expands text (task.Term (part.Expr c.args.expr)) ts us) (sym e) (binder_expands text _ b.field-3 ts b.word c.get.result c.args.expr (omega arith) is)) c.push_binder.ensures in
    after_success c.push_binder.result (λ (e : Expands text (task.Term (part.Expr c.args.expr)) ts new). record {
      text = refl;
      same = e.same (g.S.Scope.known c.args.scope.now).names s.bound s.found;
      less = e.less;
    }) expands
