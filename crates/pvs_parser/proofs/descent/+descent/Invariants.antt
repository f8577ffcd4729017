use Rattle.pvs_parser.proofs.descent.+descent.Given as goal

abbrev pub decreases-expr : goal.decreases-expr
decreases-expr l = l.room

abbrev pub decreases-type_expr : goal.decreases-type_expr
decreases-type_expr l = l.room
