use Rattle.std.proofs.Common.{◌<◌, ◌∙◌, ◌+◌, ◌++◌, ◌∷◌, [], length, take, rules, ap, sym, subst}
use Rattle.pvs_terms.proofs.StoredLaws.{extends_trans}
use Rattle.pvs_theory.specs.code.Shown.{AreParts}
use Rattle.pvs_theory.specs.Theories.{has_name, parts_of, theory_name}
use Rattle.pvs_theory.proofs.Loops.{first_more, flat_more}
use Rattle.pvs_theory.proofs.ShownLaws.{parts_added}
use Rattle.pvs_theory.proofs.theories.parts.Goals as goal

pub loop-item-preserved : goal.loop-item-preserved
loop-item-preserved c =
    let text = c.args.text.now in
    let items = c.args.items.now in
    let i = c.loop-item.item-index in
    let seen = c.loop-item.invariant in
    let inside : c.loop-item.item-index < length c.args.items.now = search rules in
    let p = c.in_ok-next_part.field-0 in
    record {
      kept = extends_trans seen.kept c.next_part.ensures.kept;
      names = λ name. c.in_ok-next_part.ensures.names _ seen.names name ∙ ap (has_name name) (sym (flat_more (theory_name text) items i c.item-item.result inside c.item-item.is));
      parts =
          subst (λ vs. AreParts c.next_part.new.store text (parts_of text (take (i + 1) items)) vs) (sym c.in_ok-push.ensures.items)
          (subst (λ xs. AreParts c.next_part.new.store text (parts_of text xs) (c.loop-item.parts.items ++ p ∷ [])) (sym (first_more items i c.item-item.result inside c.item-item.is))
          (parts_added c.loop-item.store c.next_part.new.store text (take i items) c.item-item.result c.loop-item.parts.items p c.next_part.ensures.kept seen.parts (c.in_ok-next_part.ensures.part (take i items) seen.names)));
    }
