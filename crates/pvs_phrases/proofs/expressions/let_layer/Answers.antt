use Rattle.std.proofs.Common.{◌∙◌, arith}
use Rattle.pvs_elab.specs.Desugar.{phrase}
use Rattle.pvs_phrases.proofs.BindingLaws.{let_parts}
use Rattle.pvs_phrases.proofs.expressions.let_layer.Goals as goal

pub returns : goal.returns
returns c = c.lets_layer.ensures ∙ let_parts c.args.text.now c.args.pos (phrase c.args.text.now c.args.body.now) c.args.parts.now (omega arith)
