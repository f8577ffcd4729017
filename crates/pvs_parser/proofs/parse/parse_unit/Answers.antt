use Rattle.pvs_parser.proofs.Answers.{unit_answers, unit_only, unit_first, unit_spans, unit_short, unit_is_tree}
use Rattle.pvs_parser.proofs.parse.parse_unit.Goals as goal

pub returns-clause-answer : goal.returns-clause-answer
returns-clause-answer c = unit_answers c.args.text.now c.read_text.result c.read_text.ensures

pub returns-clause-spans : goal.returns-clause-spans
returns-clause-spans c = unit_spans c.args.text.now c.read_text.result c.read_text.ensures

pub returns-clause-short : goal.returns-clause-short
returns-clause-short c = unit_short c.args.text.now c.read_text.result c.read_text.ensures

pub returns-clause-only : goal.returns-clause-only
returns-clause-only c = unit_only c.args.text.now c.read_text.result c.read_text.ensures

pub returns-clause-first : goal.returns-clause-first
returns-clause-first c = unit_first c.args.text.now c.read_text.result c.read_text.ensures

pub returns-clause-tree : goal.returns-clause-tree
returns-clause-tree c = unit_is_tree c.args.text.now c.read_text.result c.read_text.ensures
