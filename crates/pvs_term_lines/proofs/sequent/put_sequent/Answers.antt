use Rattle.std.proofs.Common.{◌≡◌, ◌∙◌, length, reverse, refl}
use Rattle.std.proofs.lemmas.Result.{on_ok_weaker}
use Rattle.pvs_terms.specs.Stored.{text_at}
use Rattle.pvs_instantiate.specs.InstancesView.{development}
use Rattle.pvs_term_lines.proofs.AddLaws.{err_holds, err_weaker}
use Rattle.pvs_term_lines.proofs.LineLaws.{types_below, stops_in_variables, stops_in_antecedents, stops_in_turnstile, stops_in_consequents, adds_all}
use Rattle.pvs_term_lines.proofs.sequent.put_sequent.Goals as goal

pub put_variables-requires-clause-types : goal.put_variables-requires-clause-types
put_variables-requires-clause-types g c =
    let s = c.args.instances.now.store in
    let d = development c.args.instances.now in
    let th = text_at s c.args.theory in
    let q = c.args.sequent.now in
    let types = c.last_first-types.result.now in
    let e : reverse types ≡ q.variables = c.last_first-types.ensures ∙ c.variables.ensures in
    types_below (length s.nodes) types q.variables e c.requires.sequent.variables

pub returns-in_err-put_variables-clause-err : goal.returns-in_err-put_variables-clause-err
returns-in_err-put_variables-clause-err g c =
    let s = c.args.instances.now.store in
    let d = development c.args.instances.now in
    let th = text_at s c.args.theory in
    let q = c.args.sequent.now in
    let types = c.last_first-types.result.now in
    let e : reverse types ≡ q.variables = c.last_first-types.ensures ∙ c.variables.ensures in
    let n = length types in
    let h : n ≡ length types = refl in
    err_holds _ (stops_in_variables d th s q types q.antecedents q.consequents n e h refl refl c.args.out.now.items c.put_variables.new.out.items c.in_err-put_variables.ensures.err)

pub returns-in_err-put_formulas-clause-err : goal.returns-in_err-put_formulas-clause-err
returns-in_err-put_formulas-clause-err g c =
    let s = c.args.instances.now.store in
    let d = development c.args.instances.now in
    let th = text_at s c.args.theory in
    let q = c.args.sequent.now in
    let types = c.last_first-types.result.now in
    let e : reverse types ≡ q.variables = c.last_first-types.ensures ∙ c.variables.ensures in
    let n = length types in
    let h : n ≡ length types = refl in
    err_holds _ (stops_in_antecedents d th s q types c.antecedents.result.now q.consequents n e h c.antecedents.ensures refl c.args.out.now.items c.put_variables.new.out.items c.put_formulas.new.out.items c.in_ok-put_variables.ensures.ok c.in_err-put_formulas.ensures.err)

pub returns-in_err-put_text-clause-err : goal.returns-in_err-put_text-clause-err
returns-in_err-put_text-clause-err g c =
    let s = c.args.instances.now.store in
    let d = development c.args.instances.now in
    let th = text_at s c.args.theory in
    let q = c.args.sequent.now in
    let types = c.last_first-types.result.now in
    let e : reverse types ≡ q.variables = c.last_first-types.ensures ∙ c.variables.ensures in
    let n = length types in
    let h : n ≡ length types = refl in
    err_holds _ (stops_in_turnstile d th s q types c.antecedents.result.now q.consequents n e h c.antecedents.ensures refl c.args.out.now.items c.put_variables.new.out.items c.put_formulas.new.out.items c.put_text.new.out.items
    c.in_ok-put_variables.ensures.ok c.in_ok-put_formulas.ensures.ok c.in_err-put_text.ensures.err)

pub returns-clause-ok : goal.returns-clause-ok
returns-clause-ok g c =
    let s = c.args.instances.now.store in
    let d = development c.args.instances.now in
    let th = text_at s c.args.theory in
    let q = c.args.sequent.now in
    let types = c.last_first-types.result.now in
    let e : reverse types ≡ q.variables = c.last_first-types.ensures ∙ c.variables.ensures in
    let n = length types in
    let h : n ≡ length types = refl in
    on_ok_weaker c.put_formulas-2.result
    (λ k. adds_all d th s q types c.antecedents.result.now c.consequents.result.now n e h c.antecedents.ensures c.consequents.ensures c.args.out.now.items c.put_variables.new.out.items c.put_formulas.new.out.items c.put_text.new.out.items c.put_formulas-2.new.out.items
    c.in_ok-put_variables.ensures.ok c.in_ok-put_formulas.ensures.ok c.in_ok-put_text.ensures.ok k)
    c.put_formulas-2.ensures.ok

pub returns-clause-err : goal.returns-clause-err
returns-clause-err g c =
    let s = c.args.instances.now.store in
    let d = development c.args.instances.now in
    let th = text_at s c.args.theory in
    let q = c.args.sequent.now in
    let types = c.last_first-types.result.now in
    let e : reverse types ≡ q.variables = c.last_first-types.ensures ∙ c.variables.ensures in
    let n = length types in
    let h : n ≡ length types = refl in
    err_weaker c.put_formulas-2.result
    (λ p. stops_in_consequents d th s q types c.antecedents.result.now c.consequents.result.now n e h c.antecedents.ensures c.consequents.ensures c.args.out.now.items c.put_variables.new.out.items c.put_formulas.new.out.items c.put_text.new.out.items c.put_formulas-2.new.out.items
    c.in_ok-put_variables.ensures.ok c.in_ok-put_formulas.ensures.ok c.in_ok-put_text.ensures.ok p)
    c.put_formulas-2.ensures.err
