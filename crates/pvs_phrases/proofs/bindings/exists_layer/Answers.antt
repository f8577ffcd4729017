use Rattle.pvs_elab.specs.Desugar.{phrase}
use Rattle.pvs_phrases.proofs.BindingLaws.{exists_denies}
use Rattle.pvs_phrases.proofs.bindings.exists_layer.Goals as goal

pub returns : goal.returns
returns c = exists_denies c.args.text.now c.args.pos (phrase c.args.text.now c.args.body.now) c.args.bindings.now c.args.from c.requires
