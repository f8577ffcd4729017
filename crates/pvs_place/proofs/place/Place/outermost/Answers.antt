use Rattle.std.proofs.Common.{refl}
use Rattle.pvs_elaboration.proofs.KnownLaws.{grows_trans}
use Rattle.pvs_place.proofs.StartLaws.{outermost_is}
use Rattle.pvs_place.proofs.place.Place.outermost.Goals as goal

pub returns-in_err-no-clause-kept : goal.returns-in_err-no-clause-kept
returns-in_err-no-clause-kept g c = grows_trans c.leaf.ensures.kept (grows_trans c.leaf-2.ensures.kept c.leaf-3.ensures.kept)

pub returns-in_err-variable-clause-kept : goal.returns-in_err-variable-clause-kept
returns-in_err-variable-clause-kept g c = grows_trans c.leaf.ensures.kept (grows_trans c.leaf-2.ensures.kept (grows_trans c.leaf-3.ensures.kept c.leaf-4.ensures.kept))

pub returns-clause-ok : goal.returns-clause-ok
returns-clause-ok g c =
    outermost_is c.ordered.ensures c.leaf-2.ensures.kept c.leaf-3.ensures.kept c.leaf-4.ensures.kept c.in_ok-truth.ensures.ok c.in_ok-yes.ensures.ok c.in_ok-no.ensures.ok c.in_ok-variable.ensures.ok c.new.ensures c.new-2.ensures refl

pub returns-clause-kept : goal.returns-clause-kept
returns-clause-kept g c = grows_trans c.leaf.ensures.kept (grows_trans c.leaf-2.ensures.kept (grows_trans c.leaf-3.ensures.kept c.leaf-4.ensures.kept))
