use Rattle.std.proofs.Common.{sym, refl}
use Rattle.pvs_terms.specs.Tree.{Fst}
use Rattle.pvs_terms.specs.declared.shape.Sort.TheVariants.{OfTerm}
use Rattle.pvs_terms.specs.Stored.{tree_at}
use Rattle.pvs_types.specs.Coerce.{first_part}
use Rattle.pvs_typing.proofs.PartLaws.{first_other_at, made_gives}
use Rattle.pvs_typing.proofs.parts.first_part.Goals as goal

pub returns-in_ok-first-in_default : goal.returns-in_ok-first-in_default
returns-in_ok-first-in_default g c =
    let s = (g.T.Theories.state c.args.theories.now).stored in
    let k = c.in_ok-first-in_default.ensures in
    let kept = k.kept c.args.theory c.requires.theory in
    record {
      ok = made_gives OfTerm (Fst c.args.components (tree_at s c.args.term)) (first_part c.args.components (tree_at s c.args.term)) c.in_ok-first-in_default.first kept
          (sym (first_other_at s c.args.components (tree_at s c.args.term) c.known_node.result c.known_node.ensures.tree c.in_default.not-Tup)) refl c.requires.term.names k.ok;
      refused = tt;
      kept = kept;
    }
