use Rattle.pvs_scripts.proofs.Verdicts.{answers, answers_only, answers_first}
use Rattle.pvs_scripts.proofs.ScriptTrees.{answer_is_tree}
use Rattle.pvs_scripts.proofs.parse.parse_script.Goals as goal

pub returns-clause-answer : goal.returns-clause-answer
returns-clause-answer c = answers c.args.text.now c.args.proof.now c.read_script.result c.read_script.ensures

pub returns-clause-only : goal.returns-clause-only
returns-clause-only c = answers_only c.args.text.now c.args.proof.now c.read_script.result c.read_script.ensures

pub returns-clause-first : goal.returns-clause-first
returns-clause-first c = answers_first c.args.text.now c.args.proof.now c.read_script.result c.read_script.ensures

pub returns-clause-tree : goal.returns-clause-tree
returns-clause-tree c =
    answer_is_tree c.args.text.now c.args.proof.now c.requires.order c.requires.within c.read_script.result
    (answers c.args.text.now c.args.proof.now c.read_script.result c.read_script.ensures)
