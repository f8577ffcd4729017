use Rattle.pvs_phrases.specs.Parts.{phrase_at}
use Rattle.pvs_phrases.proofs.SizeLaws.{parts_smaller}
use Rattle.pvs_phrases.proofs.layers.layer_of.Goals as goal

pub returns-clause-smaller : goal.returns-clause-smaller
returns-clause-smaller c = parts_smaller c.args.text.now c.form_of.result (phrase_at c.args.text.now c.args.part) c.form_of.ensures
