use Rattle.pvs_scripts.specs.code.Reading.{script_of}
use Rattle.pvs_scripts.proofs.Verdicts.{one_answer, script_answer}
use Rattle.pvs_scripts.proofs.parse.one_answer.Goals as goal

pub returns-clause-some : goal.returns-clause-some
returns-clause-some c text proof = (script_of text proof, script_answer text proof)

pub returns-clause-only : goal.returns-clause-only
returns-clause-only c = one_answer
