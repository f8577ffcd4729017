use Rattle.pvs_terms.specs.Stored.{tree_at}
use Rattle.pvs_instantiate.specs.InstancesView.{development}
use Rattle.pvs_place.specs.Place.{IsDeclaredIn, lookups_in}
use Rattle.pvs_place.proofs.NonemptyLaws.{truth_reduces, function_reduces, pair_reduces, other_reduces}
use Rattle.pvs_place.proofs.place.Place.nonempty.Goals as goal

pub returns-in-TBool-clause-ok : goal.returns-in-TBool-clause-ok
returns-in-TBool-clause-ok g c =
    let v = c.args.self.now in
    truth_reduces (lookups_in (development v)) c.ordered.ensures v.store (IsDeclaredIn (development v)) (tree_at v.store c.args.ty) c.in-TBool.ensures.tree

pub returns-in-TFun-clause-ok : goal.returns-in-TFun-clause-ok
returns-in-TFun-clause-ok g c =
    let v = c.args.self.now in
    let h = c.in-TFun.ensures in
    function_reduces (lookups_in (development v)) c.ordered.ensures v.store (IsDeclaredIn (development v)) (tree_at v.store c.args.ty) c.in-TFun.field-0 c.in-TFun.range h.tree h.parts.1

pub returns-in-TPair-clause-ok : goal.returns-in-TPair-clause-ok
returns-in-TPair-clause-ok g c =
    let v = c.args.self.now in
    let h = c.in-TPair.ensures in
    pair_reduces (lookups_in (development v)) c.ordered.ensures v.store (IsDeclaredIn (development v)) (tree_at v.store c.args.ty) c.in-TPair.field-0 c.in-TPair.first c.in-TPair.others h.tree h.parts.1 h.parts.2

pub returns-in_default-clause-ok : goal.returns-in_default-clause-ok
returns-in_default-clause-ok g c =
    let v = c.args.self.now in
    let n = c.in_default in
    other_reduces (lookups_in (development v)) c.ordered.ensures v.store v.store (IsDeclaredIn (development v)) (tree_at v.store c.args.ty) c.type_view.result c.type_view.ensures.tree (n.not-TBool, n.not-TName, n.not-TFun, n.not-TPair)
