use Rattle.std.proofs.Common.{◌≡◌, ◌<◌, ◌∙◌, ◌++◌, length, take, rules, ap, sym, is_some, true, false}
use Rattle.pvs_theory.specs.Theories.{constant_name, constant_names, declared_by, formula_name, formula_names, has_name, repeated}
use Rattle.pvs_theory.proofs.Loops.{flat_more}
use Rattle.pvs_theory.proofs.RepeatLaws.{repeated_found, repeated_more}
use Rattle.pvs_theory.proofs.distinct.first_repeated.Goals as goal

pub loop-decl-preserved : goal.loop-decl-preserved
loop-decl-preserved c =
    let text = c.args.text.now in
    let ds = c.args.decls.now in
    let i = c.loop-decl.decl-index in
    let d = c.decl-item.result in
    let seen = c.loop-decl.invariant in
    let inside : c.loop-decl.decl-index < length c.args.decls.now = search rules in
    let kind : c.declared_by.result ≡ declared_by c.decl-item.result = c.declared_by.ensures in
    let found : c.in_ok-found.found ≡ repeated text (take i ds) (declared_by d) = c.in_ok-found.ensures.repeated (take i ds) seen.constants seen.formulas ∙ ap (repeated text (take i ds)) kind in
    let none : is_some c.in_ok-found.found ≡ false = search rules in
    record {
      constants = λ name. c.in_ok-found.ensures.constants (constant_names text (take i ds)) seen.constants name ∙ ap (has_name name) (ap (λ k. constant_names text (take i ds) ++ constant_name text k) kind ∙ sym (flat_more (λ e. constant_name text (declared_by e)) ds i d inside c.decl-item.is));
      formulas = λ name. c.in_ok-found.ensures.formulas (formula_names text (take i ds)) seen.formulas name ∙ ap (has_name name) (ap (λ k. formula_names text (take i ds) ++ formula_name text k) kind ∙ sym (flat_more (λ e. formula_name text (declared_by e)) ds i d inside c.decl-item.is));
      first = repeated_more text ds i d inside c.decl-item.is c.in_ok-found.found found none seen.first;
    }

pub returns-then-is_some : goal.returns-then-is_some
returns-then-is_some c =
    let text = c.args.text.now in
    let ds = c.args.decls.now in
    let i = c.loop-decl.decl-index in
    let d = c.decl-item.result in
    let seen = c.loop-decl.invariant in
    let inside : c.loop-decl.decl-index < length c.args.decls.now = search rules in
    let found : c.in_ok-found.found ≡ repeated text (take i ds) (declared_by d) = c.in_ok-found.ensures.repeated (take i ds) seen.constants seen.formulas ∙ ap (repeated text (take i ds)) c.declared_by.ensures in
    let some : is_some c.in_ok-found.found ≡ true = search rules in
    repeated_found text ds i d inside c.decl-item.is c.in_ok-found.found found some seen.first
