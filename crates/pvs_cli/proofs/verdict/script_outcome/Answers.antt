use Rattle.std.proofs.Common.{ap, arith}
use Rattle.pvs_base.specs.declared.place.Pos.{Pos}
use Rattle.pvs_cli.proofs.PlaceBounds.{col_bound, line_bound}
use Rattle.pvs_cli.proofs.verdict.script_outcome.Goals as goal

pub read_script-requires-clause-line : goal.read_script-requires-clause-line
read_script-requires-clause-line c =
    let text = c.args.text.now in
    omega (arith, c.requires.short, ap (λ (p : Pos). p.line) c.requires.span.2, line_bound text c.args.proof.now.start)

pub read_script-requires-clause-col : goal.read_script-requires-clause-col
read_script-requires-clause-col c =
    let text = c.args.text.now in
    omega (arith, c.requires.short, ap (λ (p : Pos). p.col) c.requires.span.2, col_bound text c.args.proof.now.start)
