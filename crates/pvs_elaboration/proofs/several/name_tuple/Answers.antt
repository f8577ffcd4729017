use Rattle.std.proofs.Common.{◌≡◌, ◌-◌, ℕ, suc, subst, arith}
use Rattle.pvs_terms.specs.declared.shape.Sort.TheVariants.{OfTerm}
use Rattle.pvs_terms.specs.Tree.{Fst}
use Rattle.pvs_terms.specs.Stored.{tree_at}
use Rattle.pvs_typing.specs.Answers.{Gives}
use Rattle.pvs_elaboration.proofs.SeveralLaws.{tuple_follows}
use Rattle.pvs_elaboration.proofs.several.name_tuple.Goals as goal

pub returns-in-Ok-make : goal.returns-in-Ok-make
returns-in-Ok-make g c =
    let k = g.S.Scope.known in
    let m = c.in-Ok-make in
    let p = c.args.others - 1 in
    let made = subst (λ (n : ℕ). Gives (k c.make.new.self).stored (k c.make.new.self).declares OfTerm (Fst n (tree_at (k c.args.scope.now).stored c.args.tuple)) m.first) c.in-Ok.ensures m.ensures.ok in
    let e : c.args.others ≡ suc p = omega (arith, c.if-others-eq0.false) in
    λ t. rw c.give_to.ensures (tuple_follows t c.args.here.now c.args.tuple c.args.name c.args.others p c.args.body m.first c.args.mode m.ensures.kept c.requires.here c.requires.tuple c.requires.mode e made)
