use Rattle.pvs_terms.specs.Stored.{tree_at}
use Rattle.pvs_typing_tests.proofs.ExampleLaws.{all_declared}
use Rattle.pvs_typing_tests.proofs.example.ExampleTheories.type_of.Goals as goal

pub returns-clause-known : goal.returns-clause-known
returns-clause-known c = let h = c.args.self.now.sound in record { node = h.node; sort = h.sort; names = all_declared (tree_at c.args.self.now.store c.args.self.now.constant_type) }
