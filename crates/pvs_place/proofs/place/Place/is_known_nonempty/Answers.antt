use Rattle.pvs_elaboration.proofs.KnownLaws.{grows_trans}
use Rattle.pvs_typing.proofs.JudgingLaws.{result_err}
use Rattle.pvs_place.proofs.NonemptyLaws.{left_fault, left_form, left_goes_on, left_less, left_never}
use Rattle.pvs_place.proofs.place.Place.is_known_nonempty.Goals as goal

pub nonempty-requires : goal.nonempty-requires
nonempty-requires g c = left_form c.pop.new.self.items c.loop-form.types.items c.in-Some.form c.loop-form.invariant.left c.in-Some.ensures.items

pub returns-in_err-needed-clause-refused : goal.returns-in_err-needed-clause-refused
returns-in_err-needed-clause-refused g c =
    rw (result_err c.from_residual-in_err-needed.result c.from_residual-in_err-needed.ensures.1)
    (left_fault c.pop.new.self.items c.loop-form.types.items c.in-Some.form c.loop-form.invariant.left c.in-Some.ensures.items c.in_err-needed.field-0.0 c.loop-form.invariant.kept.keeps.lookups c.in_err-needed.ensures.refused)

pub returns-in_err-needed-clause-kept : goal.returns-in_err-needed-clause-kept
returns-in_err-needed-clause-kept g c = grows_trans c.loop-form.invariant.kept c.in_err-needed.ensures.kept

pub returns-in-Never-clause-ok : goal.returns-in-Never-clause-ok
returns-in-Never-clause-ok g c =
    let i = c.loop-form.invariant in
    let x = c.in_ok-needed in
    left_never c.pop.new.self.items c.loop-form.types.items c.in-Some.form i.left c.in-Some.ensures.items x.ensures.kept.keeps i.kept.keeps.lookups x.ensures.ok c.in-Never.is

pub returns-in-Never-clause-kept : goal.returns-in-Never-clause-kept
returns-in-Never-clause-kept g c = grows_trans c.loop-form.invariant.kept c.in_ok-needed.ensures.kept

pub loop-form-smaller : goal.loop-form-smaller
loop-form-smaller g c =
    let i = c.loop-form.invariant in
    let x = c.in_ok-needed in
    left_less c.pop.new.self.items c.loop-form.types.items c.in-Some.form i.left c.in-Some.ensures.items x.ensures.kept.keeps i.kept.keeps.lookups c.add_needed.new.types.items x.ensures.ok c.in_ok-add_needed-in_default-2.ensures

pub loop-form-preserved : goal.loop-form-preserved
loop-form-preserved g c =
    let i = c.loop-form.invariant in
    let x = c.in_ok-needed in
    record {
      kept = grows_trans i.kept x.ensures.kept;
      left = left_goes_on c.pop.new.self.items c.loop-form.types.items c.in-Some.form i.left c.in-Some.ensures.items x.ensures.kept.keeps i.kept.keeps.lookups c.add_needed.new.types.items x.ensures.ok c.in_default-2.not-Never c.in_ok-add_needed-in_default-2.ensures;
    }

pub returns-in_err-add_needed-in_default-2 : goal.returns-in_err-add_needed-in_default-2
returns-in_err-add_needed-in_default-2 g c =
    rw (result_err c.from_residual-in_err-add_needed-in_default-2.result c.from_residual-in_err-add_needed-in_default-2.ensures.1) (record { ok = tt; refused = tt; kept = grows_trans c.loop-form.invariant.kept c.in_ok-needed.ensures.kept })
