use Rattle.std.proofs.Common.{◌∷◌, ap, sym, subst, arith}
use Rattle.pvs_terms.specs.Tree.{TBool, TFun, TPair}
use Rattle.pvs_terms.specs.Stored.{tree_at, ref_at}
use Rattle.pvs_typing.proofs.RowLaws.{name_formed}
use Rattle.pvs_terms.specs.declared.shape.Sort.TheVariants.{OfType, OfTerm}
use Rattle.pvs_sig.specs.Lookups.{IsOrdered}
use Rattle.pvs_subst.specs.Replace.{put_in}
use Rattle.pvs_subst.specs.Contexts.{Variable, Hypothesis, context_at}
use Rattle.pvs_types.specs.Outcome.{pure, from_result, within_limits}
use Rattle.pvs_types.specs.Forms.{head}
use Rattle.pvs_types.specs.Coerce.{coerce, lift_one}
use Rattle.pvs_types.specs.Typing.{function_of, infer, check, well_formed}
use Rattle.pvs_typing.specs.code.Rows.{lambda_body, apply_at, apply_to, tuple_second, equal_right, equal_sides, first_type, second_type, branches, other_branch, else_branch, joined, checked_branches, checked_other}
use Rattle.pvs_typing.proofs.GrowthLaws.{context_kept, keeps_none, keeps_trans, known_kept}
use Rattle.pvs_typing.proofs.OwedLaws.{after_none, conditions_kept}
use Rattle.pvs_typing.proofs.JudgingLaws.{answers_as, coercion_answers, given_kept, given_under, made_accepts, made_answers, made_known, quiet, quiet_accepts, row1, row2, row3, row4, row5, then_assoc}
use Rattle.pvs_typing.proofs.typing.+typing.Goals as goal

pub lambda_of-returns : goal.lambda_of-returns
lambda_of-returns g t c =
    let h = c.in_ok-formed_of.ensures in
    let r = c.requires in
    record {
      answer = row2 (λ l g a b _. lambda_body l g a b) c.args.g.now.items c.args.domain c.args.body h.kept r.given.context r.domain r.body h.answer.is c.lambda_body.ensures.answer;
      known = c.lambda_body.ensures.known;
      kept = keeps_trans h.kept c.lambda_body.ensures.kept;
    }

pub lambda_body-returns : goal.lambda_body-returns
lambda_body-returns g t c =
    let h = c.in_ok-range.ensures in
    let r = c.requires in
    record {
      answer = row1 (λ _ _ a c. within_limits (TFun a c)) c.args.g.now.items c.args.domain h.kept r.given.context r.domain h.answer.is (quiet c.infer_under.new.conditions.items c.function_type.ensures.kept h.answer.is.conditions (made_answers OfType _ c.function_type.result c.function_type.ensures.ok c.function_type.ensures.refused));
      known = made_known c.function_type.ensures;
      kept = keeps_trans h.kept c.function_type.ensures.kept;
    }

pub apply_of-returns : goal.apply_of-returns
apply_of-returns g t c =
    let h = c.in_ok-ty.ensures in
    let r = c.requires in
    record {
      answer = row1 (apply_at) c.args.g.now.items c.args.argument h.kept r.given.context r.argument h.answer.is c.apply_at.ensures.answer;
      known = c.apply_at.ensures.known;
      kept = keeps_trans h.kept c.apply_at.ensures.kept;
    }

pub apply_at-returns : goal.apply_at-returns
apply_at-returns g t c =
    let h = c.in_ok-parts.ensures in
    let r = c.requires in
    let x = g.T.Theories in
    record {
      answer = answers_as (then_assoc (from_result (head ((x.state c.args.theories.now).lookups c.args.theory) (tree_at (x.state c.args.theories.now).stored c.args.ty))) function_of _)
          (row1 (λ l g a f. apply_to l g a f.first f.second) c.args.g.now.items c.args.argument h.kept r.given.context r.argument (quiet_accepts c.args.conditions.now.items h.kept r.given.conditions h.answer.is) c.apply_to.ensures.answer);
      known = c.apply_to.ensures.known;
      kept = keeps_trans h.kept c.apply_to.ensures.kept;
    }

pub apply_to-returns : goal.apply_to-returns
apply_to-returns g t c =
    let h = c.in_ok-check_of.ensures in
    let r = c.requires in
    record {
      answer = row2 (λ _ _ b a _. within_limits (put_in b a)) c.args.g.now.items c.args.range c.args.argument h.kept r.given.context r.range r.argument h.answer.is (quiet c.check_of.new.conditions.items c.substitute.ensures.kept h.answer.is.conditions (made_answers OfType _ c.substitute.result c.substitute.ensures.ok c.substitute.ensures.refused));
      known = made_known c.substitute.ensures;
      kept = keeps_trans h.kept c.substitute.ensures.kept;
    }

pub tuple_of-returns : goal.tuple_of-returns
tuple_of-returns g t c =
    let h = c.in_ok-ty.ensures in
    let r = c.requires in
    let k = c.args.components in
    record {
      answer = row1 (λ l g b c. tuple_second l g k b c) c.args.g.now.items c.args.second h.kept r.given.context r.second h.answer.is c.tuple_second.ensures.answer;
      known = c.tuple_second.ensures.known;
      kept = keeps_trans h.kept c.tuple_second.ensures.kept;
    }

pub tuple_second-returns : goal.tuple_second-returns
tuple_second-returns g t c =
    let h = c.in_ok-second_type.ensures in
    let r = c.requires in
    let k = c.args.components in
    record {
      answer = row1 (λ _ _ c d. within_limits (TPair k c (lift_one d))) c.args.g.now.items c.args.first_type h.kept r.given.context r.first_type h.answer.is (quiet c.infer_of.new.conditions.items c.tuple_type.ensures.kept h.answer.is.conditions (made_answers OfType _ c.tuple_type.result c.tuple_type.ensures.ok c.tuple_type.ensures.refused));
      known = made_known c.tuple_type.ensures;
      kept = keeps_trans h.kept c.tuple_type.ensures.kept;
    }

pub forall_of-returns : goal.forall_of-returns
forall_of-returns g t c =
    let h = c.in_ok-predicate_of.ensures in
    let r = c.requires in
    record {
      answer = row1 (λ _ _ _ _. pure TBool) c.args.g.now.items c.args.domain h.kept r.given.context r.domain h.answer.is (quiet c.predicate_of.new.conditions.items c.truth_type.ensures.kept h.answer.is.conditions c.truth_type.ensures.answer);
      known = c.truth_type.ensures.known;
      kept = keeps_trans h.kept c.truth_type.ensures.kept;
    }

pub equal_of-returns : goal.equal_of-returns
equal_of-returns g t c =
    let h = c.in_ok-ty.ensures in
    let r = c.requires in
    record {
      answer = row2 (equal_right) c.args.g.now.items c.args.left c.args.right h.kept r.given.context r.left r.right h.answer.is c.equal_right.ensures.answer;
      known = c.equal_right.ensures.known;
      kept = keeps_trans h.kept c.equal_right.ensures.kept;
    }

pub equal_right-returns : goal.equal_right-returns
equal_right-returns g t c =
    let h = c.in_ok-right_type.ensures in
    let r = c.requires in
    record {
      answer = row3 (λ l g a b c d. equal_sides l g a b c d) c.args.g.now.items c.args.left c.args.right c.args.left_type h.kept r.given.context r.left r.right r.left_type h.answer.is c.equal_sides.ensures.answer;
      known = c.equal_sides.ensures.known;
      kept = keeps_trans h.kept c.equal_sides.ensures.kept;
    }

pub first_of-returns : goal.first_of-returns
first_of-returns g t c =
    let h = c.in_ok-ty.ensures in
    let r = c.requires in
    let k = c.args.components in
    record {
      answer = row1 (λ l _ _ c. first_type l k c) c.args.g.now.items c.args.tuple h.kept r.given.context r.tuple h.answer.is (quiet c.infer_of.new.conditions.items c.first_type.ensures.kept h.answer.is.conditions c.first_type.ensures.answer);
      known = c.first_type.ensures.known;
      kept = keeps_trans h.kept c.first_type.ensures.kept;
    }

pub second_of-returns : goal.second_of-returns
second_of-returns g t c =
    let h = c.in_ok-ty.ensures in
    let r = c.requires in
    let k = c.args.components in
    record {
      answer = row1 (λ l _ t c. second_type l k t c) c.args.g.now.items c.args.tuple h.kept r.given.context r.tuple h.answer.is (quiet c.infer_of.new.conditions.items c.second_type.ensures.kept h.answer.is.conditions c.second_type.ensures.answer);
      known = c.second_type.ensures.known;
      kept = keeps_trans h.kept c.second_type.ensures.kept;
    }

pub condition_of-returns : goal.condition_of-returns
condition_of-returns g t c =
    let h = c.in_ok-truth.ensures in
    let r = c.requires in
    let x = g.T.Theories in
    record {
      answer = answers_as (after_none (check ((x.state c.args.theories.now).lookups c.args.theory) (context_at (x.state c.args.theories.now).stored c.args.g.now.items) (tree_at (x.state c.args.theories.now).stored c.args.condition) TBool))
          (row1 (λ l g c b. check l g c b) c.args.g.now.items c.args.condition h.kept r.given.context r.condition (quiet_accepts c.args.conditions.now.items h.kept r.given.conditions h.answer.is) c.check_of.ensures.answer);
      kept = keeps_trans h.kept c.check_of.ensures.kept;
    }

pub if_of-returns : goal.if_of-returns
if_of-returns g t c =
    let h = c.in_ok-condition_of.ensures in
    let r = c.requires in
    record {
      answer = row3 (λ l g t a b _. branches l g t a b) c.args.g.now.items c.args.condition c.args.first c.args.second h.kept r.given.context r.condition r.first r.second h.answer.is c.branches.ensures.answer;
      known = c.branches.ensures.known;
      kept = keeps_trans h.kept c.branches.ensures.kept;
    }

pub branches-returns : goal.branches-returns
branches-returns g t c =
    let h = c.in_ok-ty.ensures in
    let r = c.requires in
    record {
      answer = row3 (other_branch) c.args.g.now.items c.args.condition c.args.first c.args.second h.kept r.given.context r.condition r.first r.second h.answer.is c.other_branch.ensures.answer;
      known = c.other_branch.ensures.known;
      kept = keeps_trans h.kept c.other_branch.ensures.kept;
    }

pub other_branch-returns : goal.other_branch-returns
other_branch-returns g t c =
    let h = c.in_ok-negation.ensures in
    let r = c.requires in
    record {
      answer = row4 (λ l g t a b c n. else_branch l g t n a b c) c.args.g.now.items c.args.condition c.args.first c.args.second c.args.first_type h.kept r.given.context r.condition r.first r.second r.first_type (quiet_accepts c.args.conditions.now.items h.kept r.given.conditions (made_accepts h.ok)) c.else_branch.ensures.answer;
      known = c.else_branch.ensures.known;
      kept = keeps_trans h.kept c.else_branch.ensures.kept;
    }

pub else_branch-returns : goal.else_branch-returns
else_branch-returns g t c =
    let h = c.in_ok-second_type.ensures in
    let r = c.requires in
    record {
      answer = row5 (λ l g t n a b c d. joined l (Hypothesis t ∷ g) (Hypothesis n ∷ g) a b c d) c.args.g.now.items c.args.condition c.args.negation c.args.first c.args.second c.args.first_type h.kept r.given.context r.condition r.negation r.first r.second r.first_type h.answer.is c.joined.ensures.answer;
      known = c.joined.ensures.known;
      kept = keeps_trans h.kept c.joined.ensures.kept;
    }

pub if_check-returns : goal.if_check-returns
if_check-returns g t c =
    let h = c.in_ok-condition_of.ensures in
    let r = c.requires in
    record {
      answer = row4 (λ l g t a b u _. checked_branches l g t a b u) c.args.g.now.items c.args.condition c.args.first c.args.second c.args.ty h.kept r.given.context r.condition r.first r.second r.ty h.answer.is c.checked_branches.ensures.answer;
      kept = keeps_trans h.kept c.checked_branches.ensures.kept;
    }

pub checked_branches-returns : goal.checked_branches-returns
checked_branches-returns g t c =
    let h = c.in_ok-check_under.ensures in
    let r = c.requires in
    record {
      answer = row3 (λ l g t b u _. checked_other l g t b u) c.args.g.now.items c.args.condition c.args.second c.args.ty h.kept r.given.context r.condition r.second r.ty h.answer.is c.checked_other.ensures.answer;
      kept = keeps_trans h.kept c.checked_other.ensures.kept;
    }

pub checked_other-returns : goal.checked_other-returns
checked_other-returns g t c =
    let h = c.in_ok-otherwise.ensures in
    let r = c.requires in
    record {
      answer = row2 (λ l g b u n. check l (Hypothesis n ∷ g) b u) c.args.g.now.items c.args.second c.args.ty h.kept r.given.context r.second r.ty (quiet_accepts c.args.conditions.now.items h.kept r.given.conditions (made_accepts h.ok)) c.check_under.ensures.answer;
      kept = keeps_trans h.kept c.check_under.ensures.kept;
    }

pub predicate_of-returns : goal.predicate_of-returns
predicate_of-returns g t c =
    let h = c.in_ok-formed_of.ensures in
    let r = c.requires in
    record {
      answer = row2 (λ l g a p _. check l (Variable a ∷ g) p TBool) c.args.g.now.items c.args.domain c.args.predicate h.kept r.given.context r.domain r.predicate h.answer.is c.predicate_body.ensures.answer;
      kept = keeps_trans h.kept c.predicate_body.ensures.kept;
    }

pub predicate_body-returns : goal.predicate_body-returns
predicate_body-returns g t c =
    let h = c.in_ok-truth.ensures in
    let r = c.requires in
    let x = g.T.Theories in
    let s = (x.state c.args.theories.now).stored in
    record {
      answer = answers_as (after_none (check ((x.state c.args.theories.now).lookups c.args.theory) (Variable (tree_at s c.args.domain) ∷ context_at s c.args.g.now.items) (tree_at s c.args.predicate) TBool))
          (row2 (λ l g a p b. check l (Variable a ∷ g) p b) c.args.g.now.items c.args.domain c.args.predicate h.kept r.given.context r.domain r.predicate (quiet_accepts c.args.conditions.now.items h.kept r.given.conditions h.answer.is) c.check_under.ensures.answer);
      kept = keeps_trans h.kept c.check_under.ensures.kept;
    }

pub dependent_of-returns : goal.dependent_of-returns
dependent_of-returns g t c =
    let h = c.in_ok-formed_of.ensures in
    let r = c.requires in
    record {
      answer = row2 (λ l g a b _. well_formed l (Variable a ∷ g) b) c.args.g.now.items c.args.first c.args.second h.kept r.given.context r.first r.second h.answer.is c.formed_under.ensures.answer;
      kept = keeps_trans h.kept c.formed_under.ensures.kept;
    }

pub inferred_check-returns : goal.inferred_check-returns
inferred_check-returns g t c =
    let h = c.in_ok-own.ensures in
    let r = c.requires in
    record {
      answer = row2 (λ l g t a b. coerce l g t b a) c.args.g.now.items c.args.term c.args.ty h.kept r.given.context r.term r.ty h.answer.is (coercion_answers c.coerce_of.result c.coerce_of.ensures.ok c.coerce_of.ensures.known c.coerce_of.ensures.refused);
      kept = keeps_trans h.kept c.coerce_of.ensures.kept;
    }

pub infer_under-returns : goal.infer_under-returns
infer_under-returns g t c =
    let x = g.T.Theories in
    let s = (x.state c.args.theories.now).stored in
    let l = (x.state c.args.theories.now).lookups c.args.theory in
    record {
      answer = answers_as (ap (λ y. infer l (context_at s y) (tree_at s c.args.term)) c.in_ok-inner.ensures) c.infer_of.ensures.answer;
      known = c.infer_of.ensures.known;
      kept = c.infer_of.ensures.kept;
    }

pub check_under-returns : goal.check_under-returns
check_under-returns g t c =
    let x = g.T.Theories in
    let s = (x.state c.args.theories.now).stored in
    let l = (x.state c.args.theories.now).lookups c.args.theory in
    record {
      answer = answers_as (ap (λ y. check l (context_at s y) (tree_at s c.args.term) (tree_at s c.args.ty)) c.in_ok-inner.ensures) c.check_of.ensures.answer;
      kept = c.check_of.ensures.kept;
    }

pub formed_under-returns : goal.formed_under-returns
formed_under-returns g t c =
    let x = g.T.Theories in
    let s = (x.state c.args.theories.now).stored in
    let l = (x.state c.args.theories.now).lookups c.args.theory in
    record {
      answer = answers_as (ap (λ y. well_formed l (context_at s y) (tree_at s c.args.ty)) c.in_ok-inner.ensures) c.formed_of.ensures.answer;
      kept = c.formed_of.ensures.kept;
    }

pub lambda_of-lambda_body-requires : goal.lambda_of-lambda_body-requires
lambda_of-lambda_body-requires g t c =
    λ κs below. (omega arith, (below, (given_kept c.requires.given c.in_ok-formed_of.ensures.kept c.in_ok-formed_of.ensures.answer.is.conditions, (known_kept OfType c.args.domain c.in_ok-formed_of.ensures.kept c.requires.domain, known_kept OfTerm c.args.body c.in_ok-formed_of.ensures.kept c.requires.body))))

pub lambda_body-function_type-requires-clause-theory : goal.lambda_body-function_type-requires-clause-theory
lambda_body-function_type-requires-clause-theory g t c =
    c.in_ok-range.ensures.kept.stored.names c.args.theory c.requires.given.name

pub lambda_body-function_type-requires-clause-domain : goal.lambda_body-function_type-requires-clause-domain
lambda_body-function_type-requires-clause-domain g t c =
    known_kept OfType c.args.domain c.in_ok-range.ensures.kept c.requires.domain

pub apply_of-apply_at-requires : goal.apply_of-apply_at-requires
apply_of-apply_at-requires g t c =
    λ κs below. (omega arith, (below, (given_kept c.requires.given c.in_ok-ty.ensures.kept c.in_ok-ty.ensures.answer.is.conditions, (known_kept OfTerm c.args.argument c.in_ok-ty.ensures.kept c.requires.argument, c.in_ok-ty.ensures.known))))

pub apply_at-apply_to-requires : goal.apply_at-apply_to-requires
apply_at-apply_to-requires g t c =
    λ κs below. (omega arith, (below, (given_kept c.requires.given c.in_ok-parts.ensures.kept (conditions_kept c.args.conditions.now.items c.in_ok-parts.ensures.kept c.requires.given.conditions), (known_kept OfTerm c.args.argument c.in_ok-parts.ensures.kept c.requires.argument, (c.in_ok-parts.ensures.first, c.in_ok-parts.ensures.second)))))

pub apply_to-substitute-requires-clause-theory : goal.apply_to-substitute-requires-clause-theory
apply_to-substitute-requires-clause-theory g t c =
    c.in_ok-check_of.ensures.kept.stored.names c.args.theory c.requires.given.name

pub apply_to-substitute-requires-clause-body : goal.apply_to-substitute-requires-clause-body
apply_to-substitute-requires-clause-body g t c =
    known_kept OfType c.args.range c.in_ok-check_of.ensures.kept c.requires.range

pub apply_to-substitute-requires-clause-arg : goal.apply_to-substitute-requires-clause-arg
apply_to-substitute-requires-clause-arg g t c =
    known_kept OfTerm c.args.argument c.in_ok-check_of.ensures.kept c.requires.argument

pub tuple_of-tuple_second-requires : goal.tuple_of-tuple_second-requires
tuple_of-tuple_second-requires g t c =
    λ κs below. (omega arith, (below, (given_kept c.requires.given c.in_ok-ty.ensures.kept c.in_ok-ty.ensures.answer.is.conditions, (c.requires.tag, (known_kept OfTerm c.args.second c.in_ok-ty.ensures.kept c.requires.second, c.in_ok-ty.ensures.known)))))

pub tuple_second-tuple_type-requires-clause-theory : goal.tuple_second-tuple_type-requires-clause-theory
tuple_second-tuple_type-requires-clause-theory g t c =
    c.in_ok-second_type.ensures.kept.stored.names c.args.theory c.requires.given.name

pub tuple_second-tuple_type-requires-clause-first : goal.tuple_second-tuple_type-requires-clause-first
tuple_second-tuple_type-requires-clause-first g t c =
    known_kept OfType c.args.first_type c.in_ok-second_type.ensures.kept c.requires.first_type

pub forall_of-truth_type-requires : goal.forall_of-truth_type-requires
forall_of-truth_type-requires g t c =
    record { theory = c.in_ok-predicate_of.ensures.kept.stored.names c.args.theory c.requires.given.name }

pub equal_of-equal_right-requires : goal.equal_of-equal_right-requires
equal_of-equal_right-requires g t c =
    λ κs below. (omega arith, (below, (given_kept c.requires.given c.in_ok-ty.ensures.kept c.in_ok-ty.ensures.answer.is.conditions, (known_kept OfTerm c.args.left c.in_ok-ty.ensures.kept c.requires.left, (known_kept OfTerm c.args.right c.in_ok-ty.ensures.kept c.requires.right, c.in_ok-ty.ensures.known)))))

pub equal_right-equal_sides-requires-clause-given : goal.equal_right-equal_sides-requires-clause-given
equal_right-equal_sides-requires-clause-given g t c =
    given_kept c.requires.given c.in_ok-right_type.ensures.kept c.in_ok-right_type.ensures.answer.is.conditions

pub equal_right-equal_sides-requires-clause-left : goal.equal_right-equal_sides-requires-clause-left
equal_right-equal_sides-requires-clause-left g t c =
    known_kept OfTerm c.args.left c.in_ok-right_type.ensures.kept c.requires.left

pub equal_right-equal_sides-requires-clause-right : goal.equal_right-equal_sides-requires-clause-right
equal_right-equal_sides-requires-clause-right g t c =
    known_kept OfTerm c.args.right c.in_ok-right_type.ensures.kept c.requires.right

pub equal_right-equal_sides-requires-clause-left_type : goal.equal_right-equal_sides-requires-clause-left_type
equal_right-equal_sides-requires-clause-left_type g t c =
    known_kept OfType c.args.left_type c.in_ok-right_type.ensures.kept c.requires.left_type

pub first_of-first_type-requires-clause-theory : goal.first_of-first_type-requires-clause-theory
first_of-first_type-requires-clause-theory g t c =
    c.in_ok-ty.ensures.kept.stored.names c.args.theory c.requires.given.name

pub first_of-first_type-requires-clause-ordered : goal.first_of-first_type-requires-clause-ordered
first_of-first_type-requires-clause-ordered g t c =
    subst IsOrdered (sym c.in_ok-ty.ensures.kept.lookups) c.requires.given.ordered

pub second_of-second_type-requires-clause-theory : goal.second_of-second_type-requires-clause-theory
second_of-second_type-requires-clause-theory g t c =
    c.in_ok-ty.ensures.kept.stored.names c.args.theory c.requires.given.name

pub second_of-second_type-requires-clause-tuple : goal.second_of-second_type-requires-clause-tuple
second_of-second_type-requires-clause-tuple g t c =
    known_kept OfTerm c.args.tuple c.in_ok-ty.ensures.kept c.requires.tuple

pub second_of-second_type-requires-clause-ordered : goal.second_of-second_type-requires-clause-ordered
second_of-second_type-requires-clause-ordered g t c =
    subst IsOrdered (sym c.in_ok-ty.ensures.kept.lookups) c.requires.given.ordered

pub condition_of-check_of-requires : goal.condition_of-check_of-requires
condition_of-check_of-requires g t c =
    λ κs below. (omega arith, (below, (given_kept c.requires.given c.in_ok-truth.ensures.kept (conditions_kept c.args.conditions.now.items c.in_ok-truth.ensures.kept c.requires.given.conditions), (known_kept OfTerm c.args.condition c.in_ok-truth.ensures.kept c.requires.condition, c.in_ok-truth.ensures.known))))

pub if_of-branches-requires : goal.if_of-branches-requires
if_of-branches-requires g t c =
    λ κs below. (omega arith, (below, (given_kept c.requires.given c.in_ok-condition_of.ensures.kept c.in_ok-condition_of.ensures.answer.is.conditions, (known_kept OfTerm c.args.condition c.in_ok-condition_of.ensures.kept c.requires.condition, (known_kept OfTerm c.args.first c.in_ok-condition_of.ensures.kept c.requires.first, known_kept OfTerm c.args.second c.in_ok-condition_of.ensures.kept c.requires.second)))))

pub branches-other_branch-requires : goal.branches-other_branch-requires
branches-other_branch-requires g t c =
    λ κs below. (omega arith, (below, (given_kept c.requires.given c.in_ok-ty.ensures.kept c.in_ok-ty.ensures.answer.is.conditions, (known_kept OfTerm c.args.condition c.in_ok-ty.ensures.kept c.requires.condition, (known_kept OfTerm c.args.first c.in_ok-ty.ensures.kept c.requires.first, (known_kept OfTerm c.args.second c.in_ok-ty.ensures.kept c.requires.second, c.in_ok-ty.ensures.known))))))

pub other_branch-else_branch-requires : goal.other_branch-else_branch-requires
other_branch-else_branch-requires g t c =
    λ κs below. (omega arith, (below, (given_kept c.requires.given c.in_ok-negation.ensures.kept (conditions_kept c.args.conditions.now.items c.in_ok-negation.ensures.kept c.requires.given.conditions), (known_kept OfTerm c.args.condition c.in_ok-negation.ensures.kept c.requires.condition, (c.in_ok-negation.ensures.ok.known, (known_kept OfTerm c.args.first c.in_ok-negation.ensures.kept c.requires.first, (known_kept OfTerm c.args.second c.in_ok-negation.ensures.kept c.requires.second, known_kept OfType c.args.first_type c.in_ok-negation.ensures.kept c.requires.first_type)))))))

pub else_branch-joined-requires-clause-given : goal.else_branch-joined-requires-clause-given
else_branch-joined-requires-clause-given g t c =
    given_kept c.requires.given c.in_ok-second_type.ensures.kept c.in_ok-second_type.ensures.answer.is.conditions

pub else_branch-joined-requires-clause-condition : goal.else_branch-joined-requires-clause-condition
else_branch-joined-requires-clause-condition g t c =
    known_kept OfTerm c.args.condition c.in_ok-second_type.ensures.kept c.requires.condition

pub else_branch-joined-requires-clause-negation : goal.else_branch-joined-requires-clause-negation
else_branch-joined-requires-clause-negation g t c =
    known_kept OfTerm c.args.negation c.in_ok-second_type.ensures.kept c.requires.negation

pub else_branch-joined-requires-clause-first : goal.else_branch-joined-requires-clause-first
else_branch-joined-requires-clause-first g t c =
    known_kept OfTerm c.args.first c.in_ok-second_type.ensures.kept c.requires.first

pub else_branch-joined-requires-clause-second : goal.else_branch-joined-requires-clause-second
else_branch-joined-requires-clause-second g t c =
    known_kept OfTerm c.args.second c.in_ok-second_type.ensures.kept c.requires.second

pub else_branch-joined-requires-clause-first_type : goal.else_branch-joined-requires-clause-first_type
else_branch-joined-requires-clause-first_type g t c =
    known_kept OfType c.args.first_type c.in_ok-second_type.ensures.kept c.requires.first_type

pub if_check-checked_branches-requires : goal.if_check-checked_branches-requires
if_check-checked_branches-requires g t c =
    λ κs below. (omega arith, (below, (given_kept c.requires.given c.in_ok-condition_of.ensures.kept c.in_ok-condition_of.ensures.answer.is.conditions, (known_kept OfTerm c.args.condition c.in_ok-condition_of.ensures.kept c.requires.condition, (known_kept OfTerm c.args.first c.in_ok-condition_of.ensures.kept c.requires.first, (known_kept OfTerm c.args.second c.in_ok-condition_of.ensures.kept c.requires.second, known_kept OfType c.args.ty c.in_ok-condition_of.ensures.kept c.requires.ty))))))

pub checked_branches-checked_other-requires : goal.checked_branches-checked_other-requires
checked_branches-checked_other-requires g t c =
    λ κs below. (omega arith, (below, (given_kept c.requires.given c.in_ok-check_under.ensures.kept c.in_ok-check_under.ensures.answer.is.conditions, (known_kept OfTerm c.args.condition c.in_ok-check_under.ensures.kept c.requires.condition, (known_kept OfTerm c.args.second c.in_ok-check_under.ensures.kept c.requires.second, known_kept OfType c.args.ty c.in_ok-check_under.ensures.kept c.requires.ty)))))

pub checked_other-check_under-requires : goal.checked_other-check_under-requires
checked_other-check_under-requires g t c =
    λ κs below. (omega arith, (below, (given_kept c.requires.given c.in_ok-otherwise.ensures.kept (conditions_kept c.args.conditions.now.items c.in_ok-otherwise.ensures.kept c.requires.given.conditions), (c.in_ok-otherwise.ensures.ok.known, (known_kept OfTerm c.args.second c.in_ok-otherwise.ensures.kept c.requires.second, known_kept OfType c.args.ty c.in_ok-otherwise.ensures.kept c.requires.ty)))))

pub predicate_of-predicate_body-requires : goal.predicate_of-predicate_body-requires
predicate_of-predicate_body-requires g t c =
    λ κs below. (omega arith, (below, (given_kept c.requires.given c.in_ok-formed_of.ensures.kept c.in_ok-formed_of.ensures.answer.is.conditions, (known_kept OfType c.args.domain c.in_ok-formed_of.ensures.kept c.requires.domain, known_kept OfTerm c.args.predicate c.in_ok-formed_of.ensures.kept c.requires.predicate))))

pub predicate_body-check_under-requires : goal.predicate_body-check_under-requires
predicate_body-check_under-requires g t c =
    λ κs below. (omega arith, (below, (given_kept c.requires.given c.in_ok-truth.ensures.kept (conditions_kept c.args.conditions.now.items c.in_ok-truth.ensures.kept c.requires.given.conditions), (known_kept OfType c.args.domain c.in_ok-truth.ensures.kept c.requires.domain, (known_kept OfTerm c.args.predicate c.in_ok-truth.ensures.kept c.requires.predicate, c.in_ok-truth.ensures.known)))))

pub dependent_of-formed_under-requires : goal.dependent_of-formed_under-requires
dependent_of-formed_under-requires g t c =
    λ κs below. (omega arith, (below, (given_kept c.requires.given c.in_ok-formed_of.ensures.kept c.in_ok-formed_of.ensures.answer.is.conditions, (known_kept OfType c.args.first c.in_ok-formed_of.ensures.kept c.requires.first, known_kept OfType c.args.second c.in_ok-formed_of.ensures.kept c.requires.second))))

pub inferred_check-coerce_of-requires-clause-theory : goal.inferred_check-coerce_of-requires-clause-theory
inferred_check-coerce_of-requires-clause-theory g t c =
    c.in_ok-own.ensures.kept.stored.names c.args.theory c.requires.given.name

pub inferred_check-coerce_of-requires-clause-context : goal.inferred_check-coerce_of-requires-clause-context
inferred_check-coerce_of-requires-clause-context g t c =
    context_kept c.args.g.now.items c.in_ok-own.ensures.kept c.requires.given.context

pub inferred_check-coerce_of-requires-clause-term : goal.inferred_check-coerce_of-requires-clause-term
inferred_check-coerce_of-requires-clause-term g t c =
    known_kept OfTerm c.args.term c.in_ok-own.ensures.kept c.requires.term

pub inferred_check-coerce_of-requires-clause-to : goal.inferred_check-coerce_of-requires-clause-to
inferred_check-coerce_of-requires-clause-to g t c =
    known_kept OfType c.args.ty c.in_ok-own.ensures.kept c.requires.ty

pub inferred_check-coerce_of-requires-clause-conditions : goal.inferred_check-coerce_of-requires-clause-conditions
inferred_check-coerce_of-requires-clause-conditions g t c =
    c.in_ok-own.ensures.answer.is.conditions

pub inferred_check-coerce_of-requires-clause-ordered : goal.inferred_check-coerce_of-requires-clause-ordered
inferred_check-coerce_of-requires-clause-ordered g t c =
    subst IsOrdered (sym c.in_ok-own.ensures.kept.lookups) c.requires.given.ordered

pub infer_under-infer_of-requires : goal.infer_under-infer_of-requires
infer_under-infer_of-requires g t c =
    λ κs below. (omega arith, (below, (given_under c.args.item c.requires.given c.requires.item c.in_ok-inner.ensures, c.requires.term)))

pub check_under-check_of-requires : goal.check_under-check_of-requires
check_under-check_of-requires g t c =
    λ κs below. (omega arith, (below, (given_under c.args.item c.requires.given c.requires.item c.in_ok-inner.ensures, (c.requires.term, c.requires.ty))))

pub formed_under-formed_of-requires : goal.formed_under-formed_of-requires
formed_under-formed_of-requires g t c =
    λ κs below. (omega arith, (below, (given_under c.args.item c.requires.given c.requires.item c.in_ok-inner.ensures, c.requires.ty)))

pub infer_of-lambda_of-requires : goal.infer_of-lambda_of-requires
infer_of-lambda_of-requires g t c =
    λ κs below. (omega (arith, c.in-Lam.ensures.below.0, c.in-Lam.ensures.below.1), (below, (c.requires.given, (c.in-Lam.ensures.parts.0, c.in-Lam.ensures.parts.1))))

pub infer_of-returns-in-Lam : goal.infer_of-returns-in-Lam
infer_of-returns-in-Lam g t c =
    let x = g.T.Theories in
    let s = (x.state c.args.theories.now).stored in
    let l = (x.state c.args.theories.now).lookups c.args.theory in
    record {
      answer = answers_as (ap (λ y. infer l (context_at s c.args.g.now.items) y) (sym c.in-Lam.ensures.tree)) c.lambda_of.ensures.answer;
      known = c.lambda_of.ensures.known;
      kept = c.lambda_of.ensures.kept;
    }

pub infer_of-apply_of-requires : goal.infer_of-apply_of-requires
infer_of-apply_of-requires g t c =
    λ κs below. (omega (arith, c.in-App.ensures.below.0, c.in-App.ensures.below.1), (below, (c.requires.given, (c.in-App.ensures.parts.0, c.in-App.ensures.parts.1))))

pub infer_of-returns-in-App : goal.infer_of-returns-in-App
infer_of-returns-in-App g t c =
    let x = g.T.Theories in
    let s = (x.state c.args.theories.now).stored in
    let l = (x.state c.args.theories.now).lookups c.args.theory in
    record {
      answer = answers_as (ap (λ y. infer l (context_at s c.args.g.now.items) y) (sym c.in-App.ensures.tree)) c.apply_of.ensures.answer;
      known = c.apply_of.ensures.known;
      kept = c.apply_of.ensures.kept;
    }

pub infer_of-tuple_of-requires : goal.infer_of-tuple_of-requires
infer_of-tuple_of-requires g t c =
    λ κs below. (omega (arith, c.in-Tup.ensures.below.0, c.in-Tup.ensures.below.1), (below, (c.requires.given, (c.in-Tup.ensures.parts.0, (c.in-Tup.ensures.parts.1, c.in-Tup.ensures.parts.2)))))

pub infer_of-returns-in-Tup : goal.infer_of-returns-in-Tup
infer_of-returns-in-Tup g t c =
    let x = g.T.Theories in
    let s = (x.state c.args.theories.now).stored in
    let l = (x.state c.args.theories.now).lookups c.args.theory in
    record {
      answer = answers_as (ap (λ y. infer l (context_at s c.args.g.now.items) y) (sym c.in-Tup.ensures.tree)) c.tuple_of.ensures.answer;
      known = c.tuple_of.ensures.known;
      kept = c.tuple_of.ensures.kept;
    }

pub infer_of-first_of-requires : goal.infer_of-first_of-requires
infer_of-first_of-requires g t c =
    λ κs below. (omega (arith, c.in-Fst.ensures.below), (below, (c.requires.given, c.in-Fst.ensures.parts.1)))

pub infer_of-returns-in-Fst : goal.infer_of-returns-in-Fst
infer_of-returns-in-Fst g t c =
    let x = g.T.Theories in
    let s = (x.state c.args.theories.now).stored in
    let l = (x.state c.args.theories.now).lookups c.args.theory in
    record {
      answer = answers_as (ap (λ y. infer l (context_at s c.args.g.now.items) y) (sym c.in-Fst.ensures.tree)) c.first_of.ensures.answer;
      known = c.first_of.ensures.known;
      kept = c.first_of.ensures.kept;
    }

pub infer_of-second_of-requires : goal.infer_of-second_of-requires
infer_of-second_of-requires g t c =
    λ κs below. (omega (arith, c.in-Snd.ensures.below), (below, (c.requires.given, (c.in-Snd.ensures.parts.0, c.in-Snd.ensures.parts.1))))

pub infer_of-returns-in-Snd : goal.infer_of-returns-in-Snd
infer_of-returns-in-Snd g t c =
    let x = g.T.Theories in
    let s = (x.state c.args.theories.now).stored in
    let l = (x.state c.args.theories.now).lookups c.args.theory in
    record {
      answer = answers_as (ap (λ y. infer l (context_at s c.args.g.now.items) y) (sym c.in-Snd.ensures.tree)) c.second_of.ensures.answer;
      known = c.second_of.ensures.known;
      kept = c.second_of.ensures.kept;
    }

pub infer_of-if_of-requires : goal.infer_of-if_of-requires
infer_of-if_of-requires g t c =
    λ κs below. (omega (arith, c.in-If.ensures.below.0, c.in-If.ensures.below.1, c.in-If.ensures.below.2), (below, (c.requires.given, (c.in-If.ensures.parts.0, (c.in-If.ensures.parts.1, c.in-If.ensures.parts.2)))))

pub infer_of-returns-in-If : goal.infer_of-returns-in-If
infer_of-returns-in-If g t c =
    let x = g.T.Theories in
    let s = (x.state c.args.theories.now).stored in
    let l = (x.state c.args.theories.now).lookups c.args.theory in
    record {
      answer = answers_as (ap (λ y. infer l (context_at s c.args.g.now.items) y) (sym c.in-If.ensures.tree)) c.if_of.ensures.answer;
      known = c.if_of.ensures.known;
      kept = c.if_of.ensures.kept;
    }

pub infer_of-equation_of-requires : goal.infer_of-equation_of-requires
infer_of-equation_of-requires g t c =
    λ κs below. (omega (arith, c.in-Eq.ensures.below.0, c.in-Eq.ensures.below.1), (below, (c.requires.given, (c.in-Eq.ensures.parts.0, c.in-Eq.ensures.parts.1))))

pub infer_of-returns-in-Eq : goal.infer_of-returns-in-Eq
infer_of-returns-in-Eq g t c =
    let x = g.T.Theories in
    let s = (x.state c.args.theories.now).stored in
    let l = (x.state c.args.theories.now).lookups c.args.theory in
    record {
      answer = answers_as (ap (λ y. infer l (context_at s c.args.g.now.items) y) (sym c.in-Eq.ensures.tree)) c.equation_of.ensures.answer;
      known = c.equation_of.ensures.known;
      kept = c.equation_of.ensures.kept;
    }

pub check_of-if_check-requires : goal.check_of-if_check-requires
check_of-if_check-requires g t c =
    λ κs below. (omega (arith, c.in-If.ensures.below.0, c.in-If.ensures.below.1, c.in-If.ensures.below.2), (below, (c.requires.given, (c.in-If.ensures.parts.0, (c.in-If.ensures.parts.1, (c.in-If.ensures.parts.2, c.requires.ty))))))

pub check_of-returns-in-If : goal.check_of-returns-in-If
check_of-returns-in-If g t c =
    let x = g.T.Theories in
    let s = (x.state c.args.theories.now).stored in
    let l = (x.state c.args.theories.now).lookups c.args.theory in
    record {
      answer = answers_as (ap (λ y. check l (context_at s c.args.g.now.items) y (tree_at s c.args.ty)) (sym c.in-If.ensures.tree)) c.if_check.ensures.answer;
      kept = c.if_check.ensures.kept;
    }

pub formed_of-predicate_of-requires : goal.formed_of-predicate_of-requires
formed_of-predicate_of-requires g t c =
    λ κs below. (omega (arith, c.in-TSub.ensures.below.0, c.in-TSub.ensures.below.1), (below, (c.requires.given, (c.in-TSub.ensures.parts.0, c.in-TSub.ensures.parts.1))))

pub formed_of-returns-in-TSub : goal.formed_of-returns-in-TSub
formed_of-returns-in-TSub g t c =
    let x = g.T.Theories in
    let s = (x.state c.args.theories.now).stored in
    let l = (x.state c.args.theories.now).lookups c.args.theory in
    record {
      answer = answers_as (ap (λ y. well_formed l (context_at s c.args.g.now.items) y) (sym c.in-TSub.ensures.tree)) c.predicate_of.ensures.answer;
      kept = c.predicate_of.ensures.kept;
    }

pub formed_of-dependent_of-requires : goal.formed_of-dependent_of-requires
formed_of-dependent_of-requires g t c =
    λ κs below. (omega (arith, c.in-TFun.ensures.below.0, c.in-TFun.ensures.below.1), (below, (c.requires.given, (c.in-TFun.ensures.parts.0, c.in-TFun.ensures.parts.1))))

pub formed_of-returns-in-TFun : goal.formed_of-returns-in-TFun
formed_of-returns-in-TFun g t c =
    let x = g.T.Theories in
    let s = (x.state c.args.theories.now).stored in
    let l = (x.state c.args.theories.now).lookups c.args.theory in
    record {
      answer = answers_as (ap (λ y. well_formed l (context_at s c.args.g.now.items) y) (sym c.in-TFun.ensures.tree)) c.dependent_of.ensures.answer;
      kept = c.dependent_of.ensures.kept;
    }

pub formed_of-returns-in-TPair : goal.formed_of-returns-in-TPair
formed_of-returns-in-TPair g t c =
    let x = g.T.Theories in
    let s = (x.state c.args.theories.now).stored in
    let l = (x.state c.args.theories.now).lookups c.args.theory in
    record {
      answer = answers_as (ap (λ y. well_formed l (context_at s c.args.g.now.items) y) (sym c.in-TPair.ensures.tree)) c.dependent_of-in-TPair.ensures.answer;
      kept = c.dependent_of-in-TPair.ensures.kept;
    }

pub formed_of-dependent_of-requires-in-TPair : goal.formed_of-dependent_of-requires-in-TPair
formed_of-dependent_of-requires-in-TPair g t c =
    λ κs below. (omega (arith, c.in-TPair.ensures.below.0, c.in-TPair.ensures.below.1), (below, (c.requires.given, (c.in-TPair.ensures.parts.1, c.in-TPair.ensures.parts.2))))

pub equation_of-forall_of-requires : goal.equation_of-forall_of-requires
equation_of-forall_of-requires g t c =
    λ κs below. (omega (arith, c.in-Some.ensures.below.0, c.in-Some.ensures.below.1), (below, (c.requires.given, (c.in-Some.ensures.domain, c.in-Some.ensures.predicate))))

pub infer_of-returns-in-Var : goal.infer_of-returns-in-Var
infer_of-returns-in-Var g t c =
    let x = g.T.Theories in
    let s = (x.state c.args.theories.now).stored in
    let l = (x.state c.args.theories.now).lookups c.args.theory in
    let h = c.variable_type.ensures in
    record {
      answer = answers_as (ap (λ y. infer l (context_at s c.args.g.now.items) y) (sym c.in-Var.ensures.tree)) (quiet c.args.conditions.now.items h.kept c.requires.given.conditions h.answer);
      known = h.known;
      kept = h.kept;
    }

pub infer_of-returns-in-Const : goal.infer_of-returns-in-Const
infer_of-returns-in-Const g t c =
    let x = g.T.Theories in
    let s = (x.state c.args.theories.now).stored in
    let l = (x.state c.args.theories.now).lookups c.args.theory in
    let h = c.constant_type.ensures in
    record {
      answer = answers_as (ap (λ y. infer l (context_at s c.args.g.now.items) y) (sym c.in-Const.ensures.tree)) (quiet c.args.conditions.now.items h.kept c.requires.given.conditions h.answer);
      known = h.known;
      kept = h.kept;
    }

pub infer_of-returns-in-True : goal.infer_of-returns-in-True
infer_of-returns-in-True g t c =
    let x = g.T.Theories in
    let s = (x.state c.args.theories.now).stored in
    let l = (x.state c.args.theories.now).lookups c.args.theory in
    let h = c.truth_type.ensures in
    record {
      answer = answers_as (ap (λ y. infer l (context_at s c.args.g.now.items) y) (sym c.in-True.ensures.tree)) (quiet c.args.conditions.now.items h.kept c.requires.given.conditions h.answer);
      known = h.known;
      kept = h.kept;
    }

pub infer_of-returns-in-False : goal.infer_of-returns-in-False
infer_of-returns-in-False g t c =
    let x = g.T.Theories in
    let s = (x.state c.args.theories.now).stored in
    let l = (x.state c.args.theories.now).lookups c.args.theory in
    let h = c.truth_type-in-False.ensures in
    record {
      answer = answers_as (ap (λ y. infer l (context_at s c.args.g.now.items) y) (sym c.in-False.ensures.tree)) (quiet c.args.conditions.now.items h.kept c.requires.given.conditions h.answer);
      known = h.known;
      kept = h.kept;
    }

pub formed_of-returns-in-TName : goal.formed_of-returns-in-TName
formed_of-returns-in-TName g t c =
    let x = g.T.Theories in
    let s = (x.state c.args.theories.now).stored in
    let l = (x.state c.args.theories.now).lookups c.args.theory in
    let e = c.in-TName.ensures in
    record {
      answer = answers_as (ap (λ y. well_formed l (context_at s c.args.g.now.items) y) (sym e.tree))
          (name_formed s ((x.state c.args.theories.now).declares c.args.theory) l (context_at s c.args.g.now.items) (ref_at s c.in-TName._r) c.args.conditions.now.items c.requires.given.conditions (c.declared_types.ensures (ref_at s c.in-TName._r) e.parts.1));
      kept = keeps_none _ _ _;
    }
