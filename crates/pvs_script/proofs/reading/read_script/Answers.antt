use Rattle.pvs_script.proofs.Verdicts.{gives_found, gives_only, gives_fault, gives_first}
use Rattle.pvs_script.proofs.reading.read_script.Goals as goal

pub returns-clause-found : goal.returns-clause-found
returns-clause-found c = gives_found c.args.text.now c.args.proof.now c.read_span.result c.read_span.ensures

pub returns-clause-only : goal.returns-clause-only
returns-clause-only c x s = gives_only c.args.text.now c.args.proof.now c.read_span.result c.read_span.ensures x s

pub returns-clause-fault : goal.returns-clause-fault
returns-clause-fault c f e = gives_fault c.args.text.now c.args.proof.now c.read_span.result c.read_span.ensures f e

pub returns-clause-first : goal.returns-clause-first
returns-clause-first c f is = gives_first c.args.text.now c.args.proof.now c.read_span.result c.read_span.ensures f is
