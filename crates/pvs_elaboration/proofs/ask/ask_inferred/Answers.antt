use Rattle.pvs_elaboration.specs.declared.value.Mode.TheVariants as mode
use Rattle.pvs_elaboration.specs.Known.{phrase_at}
use Rattle.pvs_elaboration.proofs.NameLaws.{name_inferred}
use Rattle.pvs_elaboration.proofs.AskLaws.{choice_follows}
use Rattle.pvs_elaboration.proofs.ApplyLaws.{apply_follows}
use Rattle.pvs_elaboration.proofs.EqualLaws.{equal_asked, iff_asked}
use Rattle.pvs_elaboration.proofs.LetLaws.{let_asked}
use Rattle.pvs_elaboration.proofs.PartLaws.{part_asked}
use Rattle.pvs_elaboration.proofs.PhraseLaws.{follows_of_phrase, name_of_form}
use Rattle.pvs_elaboration.proofs.ask.ask_inferred.Goals as goal

pub returns-in-Some : goal.returns-in-Some
returns-in-Some g c =
    let k = g.S.Scope.known in
    let a = c.args in
    let x = c.in-Name in
    let w = c.in-Some.name.now in
    λ t l i s.
    name_of_form (k a.scope.now) (k c.named_term.new.scope) t a.here.now mode.Infer (phrase_at t a.part) x.name x.at w _ c.named_term.result
    (rw x.is at i) (c.in-Some.ensures t l) (name_inferred (k a.scope.now) t a.here.now w x.at) (c.named_term.ensures t l)

pub returns-in-Choice : goal.returns-in-Choice
returns-in-Choice g c = λ t l i s.
    let f = rw c.in-Choice.is at i in
    let h = c.args.here.now in
    rw c.ask_then-in-Choice.ensures (follows_of_phrase t h mode.Infer (phrase_at t c.args.part) _ _ f.0 (choice_follows t h c.in-Choice.condition c.in-Choice.branches c.requires.here f.1 f.2))

pub returns-in-Apply : goal.returns-in-Apply
returns-in-Apply g c = λ t l i s.
    let f = rw c.in-Apply.is at i in
    let h = c.args.here.now in
    rw c.ask_then-in-Apply.ensures (follows_of_phrase t h mode.Infer (phrase_at t c.args.part) _ _ f.0 (apply_follows t h c.in-Apply.function c.in-Apply.operands f.1))

pub returns-in-Equal : goal.returns-in-Equal
returns-in-Equal g c = λ t l i s.
    let f = rw c.in-Equal.is at i in
    let h = c.args.here.now in
    rw c.ask_then-in-Equal.ensures (follows_of_phrase t h mode.Infer (phrase_at t c.args.part) _ _ f.0 (equal_asked t h c.in-Equal.sides f.1.left f.1.right))

pub returns-in-Iff : goal.returns-in-Iff
returns-in-Iff g c = λ t l i s.
    let f = rw c.in-Iff.is at i in
    let h = c.args.here.now in
    rw c.ask_then-in-Iff.ensures (follows_of_phrase t h mode.Infer (phrase_at t c.args.part) _ _ f.0 (iff_asked t h c.in-Iff.sides f.1.left f.1.right))

pub returns-in-Let : goal.returns-in-Let
returns-in-Let g c = λ t l i s.
    let f = rw c.in-Let.is at i in
    let h = c.args.here.now in
    rw c.ask_then-in-Let.ensures (follows_of_phrase t h mode.Infer (phrase_at t c.args.part) _ _ f.0 (let_asked t h c.in-Let.definition f.1))

pub returns-in-Part : goal.returns-in-Part
returns-in-Part g c = λ t l i s.
    let f = rw c.in-Part.is at i in
    let h = c.args.here.now in
    rw c.ask_then-in-Part.ensures (follows_of_phrase t h mode.Infer (phrase_at t c.args.part) _ _ f.0 (part_asked t h c.in-Part.operand c.in-Part.projection f.1))
