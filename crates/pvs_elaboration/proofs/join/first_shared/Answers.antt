use Rattle.pvs_terms.specs.Stored.{tree_at}
use Rattle.pvs_terms.specs.declared.shape.Sort.TheVariants.{OfType}
use Rattle.pvs_typing.specs.Growth.{all_at}
use Rattle.pvs_typing.proofs.GrowthLaws.{all_kept}
use Rattle.pvs_elaboration.specs.Known.{place_in}
use Rattle.pvs_elaboration.specs.Meanings.{fault_of}
use Rattle.pvs_elaboration.proofs.ListingLaws.{failed_or_memory}
use Rattle.pvs_elaboration.proofs.JoinLaws.{shared_found, shared_refused}
use Rattle.pvs_elaboration.proofs.join.first_shared.Goals as goal

pub first_among-requires-clause-types : goal.first_among-requires-clause-types
first_among-requires-clause-types g c = all_kept OfType c.args.types.now c.up.ensures.kept.keeps c.requires.types

pub returns-in-Ok : goal.returns-in-Ok
returns-in-Ok g c =
    λ t l. shared_found (place_in t c.args.at) c.args.types.now c.in-Ok.above.items c.args.second c.first_among.result c.up.ensures.kept c.requires.types c.in-Ok.ensures.ok.1 c.first_among.ensures.known
    (rw c.as_slice.ensures.value at c.first_among.ensures.first)

pub returns-in-Err : goal.returns-in-Err
returns-in-Err g c =
    let k = g.S.Scope.known c.args.scope.now in
    λ t l.
    failed_or_memory _ (fault_of (place_in t c.args.at) (place_in t c.args.at) c.in-Err.fault) c.fault_of.result (c.fault_of.ensures t l)
    (shared_refused (place_in t c.args.at) (all_at k.stored c.args.types.now) (tree_at k.stored c.args.second) c.in-Err.fault c.up.ensures.kept c.in-Err.ensures.refused)
