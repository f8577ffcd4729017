use Rattle.std.proofs.Common.{subst, ℕ}
use Rattle.pvs_terms.specs.declared.shape.Sort.TheVariants.{OfTerm}
use Rattle.pvs_terms.specs.Tree.{Snd}
use Rattle.pvs_terms.specs.Stored.{tree_at}
use Rattle.pvs_typing.specs.Answers.{Gives}
use Rattle.pvs_elaboration.proofs.SeveralLaws.{first_follows}
use Rattle.pvs_elaboration.proofs.several.name_first.Goals as goal

pub returns-in-Ok-make : goal.returns-in-Ok-make
returns-in-Ok-make g c =
    let k = g.S.Scope.known in
    let m = c.in-Ok-make in
    let made = subst (λ (n : ℕ). Gives (k c.make.new.self).stored (k c.make.new.self).declares OfTerm (Snd n (tree_at (k c.args.scope.now).stored c.args.tuple)) m.second) c.in-Ok.ensures m.ensures.ok in
    λ t. rw c.give_to.ensures (first_follows t c.args.here.now c.args.tuple c.args.name c.args.others c.args.body c.args.first m.second c.args.mode m.ensures.kept c.requires.here c.requires.first c.requires.mode made)
