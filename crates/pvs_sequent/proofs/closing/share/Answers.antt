use Rattle.std.proofs.Common.{◌∙◌, sym}
use Rattle.pvs_sequent.proofs.NumberLaws.{numbers_shared}
use Rattle.pvs_sequent.proofs.closing.share.Goals as goal

pub returns : goal.returns
returns c = c.share.ensures ∙ sym (numbers_shared c.args.store.now c.args.sides.now.antecedents c.args.sides.now.consequents c.one_node_per_tree.ensures c.requires.antecedents c.requires.consequents)
