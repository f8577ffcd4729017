use Rattle.std.proofs.Common.{◌+◌, ◌*◌, max}
use Rattle.pvs_typing.proofs.typing.+typing.Given as goal

abbrev pub decreases-infer_under : goal.decreases-infer_under
decreases-infer_under g l = 16 * l.term + 11

abbrev pub decreases-check_under : goal.decreases-check_under
decreases-check_under g l = 16 * l.term + 15

abbrev pub decreases-formed_under : goal.decreases-formed_under
decreases-formed_under g l = 16 * l.ty + 11

abbrev pub decreases-lambda_of : goal.decreases-lambda_of
decreases-lambda_of g l = 16 * max l.domain l.body + 18

abbrev pub decreases-lambda_body : goal.decreases-lambda_body
decreases-lambda_body g l = 16 * l.body + 16

abbrev pub decreases-apply_of : goal.decreases-apply_of
decreases-apply_of g l = 16 * max l.function l.argument + 19

abbrev pub decreases-apply_at : goal.decreases-apply_at
decreases-apply_at g l = 16 * l.argument + 17

abbrev pub decreases-apply_to : goal.decreases-apply_to
decreases-apply_to g l = 16 * l.argument + 16

abbrev pub decreases-tuple_of : goal.decreases-tuple_of
decreases-tuple_of g l = 16 * max l.first l.second + 17

abbrev pub decreases-tuple_second : goal.decreases-tuple_second
decreases-tuple_second g l = 16 * l.second + 16

abbrev pub decreases-equation_of : goal.decreases-equation_of
decreases-equation_of g l = 16 * max l.left l.right + 21

abbrev pub decreases-forall_of : goal.decreases-forall_of
decreases-forall_of g l = 16 * max l.domain l.predicate + 19

abbrev pub decreases-equal_of : goal.decreases-equal_of
decreases-equal_of g l = 16 * max l.left l.right + 19

abbrev pub decreases-equal_right : goal.decreases-equal_right
decreases-equal_right g l = 16 * l.right + 16

abbrev pub decreases-first_of : goal.decreases-first_of
decreases-first_of g l = 16 * l.tuple + 16

abbrev pub decreases-second_of : goal.decreases-second_of
decreases-second_of g l = 16 * l.tuple + 16

abbrev pub decreases-condition_of : goal.decreases-condition_of
decreases-condition_of g l = 16 * l.condition + 16

abbrev pub decreases-if_of : goal.decreases-if_of
decreases-if_of g l = 16 * max l.condition (max l.first l.second) + 20

abbrev pub decreases-branches : goal.decreases-branches
decreases-branches g l = 16 * max l.first l.second + 19

abbrev pub decreases-other_branch : goal.decreases-other_branch
decreases-other_branch g l = 16 * l.second + 18

abbrev pub decreases-else_branch : goal.decreases-else_branch
decreases-else_branch g l = 16 * l.second + 17

abbrev pub decreases-if_check : goal.decreases-if_check
decreases-if_check g l = 16 * max l.condition (max l.first l.second) + 20

abbrev pub decreases-checked_branches : goal.decreases-checked_branches
decreases-checked_branches g l = 16 * max l.first l.second + 19

abbrev pub decreases-checked_other : goal.decreases-checked_other
decreases-checked_other g l = 16 * l.second + 18

abbrev pub decreases-predicate_of : goal.decreases-predicate_of
decreases-predicate_of g l = 16 * max l.domain l.predicate + 18

abbrev pub decreases-predicate_body : goal.decreases-predicate_body
decreases-predicate_body g l = 16 * l.predicate + 16

abbrev pub decreases-dependent_of : goal.decreases-dependent_of
decreases-dependent_of g l = 16 * max l.first l.second + 18

abbrev pub decreases-infer_of : goal.decreases-infer_of
decreases-infer_of g l = 16 * l.term + 10

abbrev pub decreases-check_of : goal.decreases-check_of
decreases-check_of g l = 16 * l.term + 14

abbrev pub decreases-inferred_check : goal.decreases-inferred_check
decreases-inferred_check g l = 16 * l.term + 12

abbrev pub decreases-formed_of : goal.decreases-formed_of
decreases-formed_of g l = 16 * l.ty + 10
