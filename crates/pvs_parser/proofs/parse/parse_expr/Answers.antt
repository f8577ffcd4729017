use Rattle.pvs_parser.proofs.Answers.{expr_answers, expr_only, expr_first, expr_is_tree}
use Rattle.pvs_parser.proofs.parse.parse_expr.Goals as goal

pub returns-clause-answer : goal.returns-clause-answer
returns-clause-answer c = expr_answers c.args.text.now c.args.start c.args.end c.args.pos c.read_span.result c.read_span.ensures

pub returns-clause-only : goal.returns-clause-only
returns-clause-only c = expr_only c.args.text.now c.args.start c.args.end c.args.pos c.read_span.result c.read_span.ensures

pub returns-clause-first : goal.returns-clause-first
returns-clause-first c = expr_first c.args.text.now c.args.start c.args.end c.args.pos c.read_span.result c.read_span.ensures

pub returns-clause-tree : goal.returns-clause-tree
returns-clause-tree c = expr_is_tree c.args.text.now c.args.start c.args.end c.args.pos c.requires.order c.requires.within c.read_span.result c.read_span.ensures
