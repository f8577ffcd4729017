use Rattle.pvs_elaboration.proofs.ApplyLaws.{head_follows}
use Rattle.pvs_elaboration.proofs.apply.ask_argument.Goals as goal

pub returns-in-TFun : goal.returns-in-TFun
returns-in-TFun g c = λ t h.
    rw c.ask_then.ensures (head_follows t c.args.here.now c.args.operands c.args.function c.args.head c.in-TFun.domain c.in-TFun.range (c.requires.function, tt) c.in-TFun.ensures.parts.0 c.in-TFun.ensures.parts.1 c.in-TFun.ensures.tree)
