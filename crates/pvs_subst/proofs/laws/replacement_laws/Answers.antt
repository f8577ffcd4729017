use Rattle.pvs_subst.proofs.ReplaceLaws.{raised_below, raised_above, put_var_below, put_var_at, put_var_above, lift-lift, lift-lift_within, lift-lift_past, lift-none, lift-closed, put_at-closed, put_at-lift, put_in-lift, lift-put_at_below, lift-put_at_above, lift-put_in, put_at-put_at, put_in-put_at}
use Rattle.pvs_subst.proofs.InstanceLaws.{instantiate-lift, instantiate-put_at, instantiate-put_in, instantiate-instantiate, instantiate-foreign, free-instantiate, closed-instantiate_all}
use Rattle.pvs_subst.proofs.SortLaws.{sort_of-lift, IsSorted-lift, sort_of-put_at, IsSorted-put_at, sort_of-instantiate, IsSorted-instantiate}
use Rattle.pvs_subst.proofs.SizeLaws.{size-lift, depth-lift, top_index-lift, free-lift, size-put_at, size-put_at_most, depth-put_at, depth-put_at_most, free-put_at, size-instantiate, size-instantiate_most, depth-instantiate, depth-instantiate_most}
use Rattle.pvs_subst.proofs.laws.replacement_laws.Goals as goal

pub returns-clause-raised_below : goal.returns-clause-raised_below
returns-clause-raised_below c = raised_below

pub returns-clause-raised_above : goal.returns-clause-raised_above
returns-clause-raised_above c = raised_above

pub returns-clause-variable_below : goal.returns-clause-variable_below
returns-clause-variable_below c = put_var_below

pub returns-clause-variable_at : goal.returns-clause-variable_at
returns-clause-variable_at c = put_var_at

pub returns-clause-variable_above : goal.returns-clause-variable_above
returns-clause-variable_above c = put_var_above

pub returns-clause-lift_lift : goal.returns-clause-lift_lift
returns-clause-lift_lift c = lift-lift

pub returns-clause-lift_lift_within : goal.returns-clause-lift_lift_within
returns-clause-lift_lift_within c = lift-lift_within

pub returns-clause-lift_past_lift : goal.returns-clause-lift_past_lift
returns-clause-lift_past_lift c = lift-lift_past

pub returns-clause-lift_by_nothing : goal.returns-clause-lift_by_nothing
returns-clause-lift_by_nothing c = lift-none

pub returns-clause-lift_closed : goal.returns-clause-lift_closed
returns-clause-lift_closed c = lift-closed

pub returns-clause-put_at_closed : goal.returns-clause-put_at_closed
returns-clause-put_at_closed c = put_at-closed

pub returns-clause-put_at_lift : goal.returns-clause-put_at_lift
returns-clause-put_at_lift c = put_at-lift

pub returns-clause-put_in_lift : goal.returns-clause-put_in_lift
returns-clause-put_in_lift c = put_in-lift

pub returns-clause-lift_put_at_below : goal.returns-clause-lift_put_at_below
returns-clause-lift_put_at_below c = lift-put_at_below

pub returns-clause-lift_put_at_above : goal.returns-clause-lift_put_at_above
returns-clause-lift_put_at_above c = lift-put_at_above

pub returns-clause-lift_put_in : goal.returns-clause-lift_put_in
returns-clause-lift_put_in c = lift-put_in

pub returns-clause-put_at_put_at : goal.returns-clause-put_at_put_at
returns-clause-put_at_put_at c = put_at-put_at

pub returns-clause-put_at_put_in : goal.returns-clause-put_at_put_in
returns-clause-put_at_put_in c = put_in-put_at

pub returns-clause-instantiate_lift : goal.returns-clause-instantiate_lift
returns-clause-instantiate_lift c = instantiate-lift

pub returns-clause-instantiate_put_at : goal.returns-clause-instantiate_put_at
returns-clause-instantiate_put_at c = instantiate-put_at

pub returns-clause-instantiate_put_in : goal.returns-clause-instantiate_put_in
returns-clause-instantiate_put_in c = instantiate-put_in

pub returns-clause-instantiate_instantiate : goal.returns-clause-instantiate_instantiate
returns-clause-instantiate_instantiate c = instantiate-instantiate

pub returns-clause-instantiate_foreign : goal.returns-clause-instantiate_foreign
returns-clause-instantiate_foreign c = instantiate-foreign

pub returns-clause-instantiate_free : goal.returns-clause-instantiate_free
returns-clause-instantiate_free c = free-instantiate

pub returns-clause-instantiate_closed : goal.returns-clause-instantiate_closed
returns-clause-instantiate_closed c = closed-instantiate_all

pub returns-clause-lift_sort : goal.returns-clause-lift_sort
returns-clause-lift_sort c = sort_of-lift

pub returns-clause-lift_sorted : goal.returns-clause-lift_sorted
returns-clause-lift_sorted c = IsSorted-lift

pub returns-clause-put_at_sort : goal.returns-clause-put_at_sort
returns-clause-put_at_sort c = sort_of-put_at

pub returns-clause-put_at_sorted : goal.returns-clause-put_at_sorted
returns-clause-put_at_sorted c = IsSorted-put_at

pub returns-clause-instantiate_sort : goal.returns-clause-instantiate_sort
returns-clause-instantiate_sort c = sort_of-instantiate

pub returns-clause-instantiate_sorted : goal.returns-clause-instantiate_sorted
returns-clause-instantiate_sorted c = IsSorted-instantiate

pub returns-clause-lift_size : goal.returns-clause-lift_size
returns-clause-lift_size c = size-lift

pub returns-clause-lift_depth : goal.returns-clause-lift_depth
returns-clause-lift_depth c = depth-lift

pub returns-clause-lift_top_index : goal.returns-clause-lift_top_index
returns-clause-lift_top_index c = top_index-lift

pub returns-clause-lift_free : goal.returns-clause-lift_free
returns-clause-lift_free c = free-lift

pub returns-clause-put_at_size : goal.returns-clause-put_at_size
returns-clause-put_at_size c = size-put_at

pub returns-clause-put_at_size_most : goal.returns-clause-put_at_size_most
returns-clause-put_at_size_most c = size-put_at_most

pub returns-clause-put_at_depth : goal.returns-clause-put_at_depth
returns-clause-put_at_depth c = depth-put_at

pub returns-clause-put_at_depth_most : goal.returns-clause-put_at_depth_most
returns-clause-put_at_depth_most c = depth-put_at_most

pub returns-clause-put_at_free : goal.returns-clause-put_at_free
returns-clause-put_at_free c = free-put_at

pub returns-clause-instantiate_size : goal.returns-clause-instantiate_size
returns-clause-instantiate_size c = size-instantiate

pub returns-clause-instantiate_size_most : goal.returns-clause-instantiate_size_most
returns-clause-instantiate_size_most c = size-instantiate_most

pub returns-clause-instantiate_depth : goal.returns-clause-instantiate_depth
returns-clause-instantiate_depth c = depth-instantiate

pub returns-clause-instantiate_depth_most : goal.returns-clause-instantiate_depth_most
returns-clause-instantiate_depth_most c = depth-instantiate_most
