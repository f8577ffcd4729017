use Rattle.pvs_elaboration.proofs.ListingLaws.{listed, lists_listed}
use Rattle.pvs_elaboration.proofs.NameLaws.{local_known}
use Rattle.pvs_elaboration.proofs.names.named_term.Goals as goal

pub local_term-requires-clause-term : goal.local_term-requires-clause-term
local_term-requires-clause-term g c =
    let e = rw c.in-Ok-Some.field-0-is at c.in-Ok-Some.ensures.ok in
    let l = c.args.listing.now in
    (local_known (g.S.Scope.known c.args.scope.now) (listed l) c.args.name.now c.args.here.now.depth c.args.here.now.locals (c.in-Ok-Some.local.term, c.in-Ok-Some.local.at) c.requires.here.locals (e (listed l) (lists_listed l))).0

pub local_term-requires-clause-depth : goal.local_term-requires-clause-depth
local_term-requires-clause-depth g c =
    let e = rw c.in-Ok-Some.field-0-is at c.in-Ok-Some.ensures.ok in
    let l = c.args.listing.now in
    (local_known (g.S.Scope.known c.args.scope.now) (listed l) c.args.name.now c.args.here.now.depth c.args.here.now.locals (c.in-Ok-Some.local.term, c.in-Ok-Some.local.at) c.requires.here.locals (e (listed l) (lists_listed l))).1

pub returns-in-Ok-Some : goal.returns-in-Ok-Some
returns-in-Ok-Some g c = λ t h.
    let e = rw c.in-Ok-Some.field-0-is at c.in-Ok-Some.ensures.ok in
    rw (e t h) (c.local_term.ensures t c.args.name.now h)
