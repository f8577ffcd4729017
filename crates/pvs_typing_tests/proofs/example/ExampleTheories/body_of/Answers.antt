use Rattle.pvs_terms.specs.Stored.{tree_at}
use Rattle.pvs_typing_tests.proofs.ExampleLaws.{all_declared}
use Rattle.pvs_typing_tests.proofs.example.ExampleTheories.body_of.Goals as goal

pub returns-then-same_reference-clause-known : goal.returns-then-same_reference-clause-known
returns-then-same_reference-clause-known c = let h = c.args.self.now.sound in record { node = h.body; sort = h.body_sort; names = all_declared (tree_at c.args.self.now.store c.args.self.now.body) }
