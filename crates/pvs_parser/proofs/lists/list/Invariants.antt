use Rattle.std.proofs.Common.{◌≡◌, ◌-◌, []}
use Rattle.pvs_parser.specs.code.Descent as spec
use Rattle.pvs_parser.specs.code.Nests.{ReadsItems}
use Rattle.pvs_parser.proofs.lists.list.Given as goal

-- reading goes on from here
abbrev pub invariant-loop : goal.invariant-loop
invariant-loop g l = (starts : _) (reads : _) → ReadsItems starts reads (goal.I-post g l.item) (goal.S-post g l.is_start)
    → spec.list_from starts reads 200 [] l.fn.nesting l.fn.tokens ≡ spec.list_from starts reads (200 - l.counter) l.found l.nesting l.rest
