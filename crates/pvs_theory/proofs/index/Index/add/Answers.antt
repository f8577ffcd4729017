use Rattle.std.proofs.Common.{◌≡◌, ◌∙◌, None, bytes_eq, rules}
use Rattle.std.proofs.lemmas.Map.Text.{btree_map_updates_str}
use Rattle.pvs_theory.specs.code.Index.{value_of}
use Rattle.pvs_theory.proofs.IndexLaws.{same_name, value_more}
use Rattle.pvs_theory.proofs.index.Index.add.Goals as goal

pub returns-clause-values : goal.returns-clause-values
returns-clause-values g c = λ other.
    let none : value_of c.args.self.now c.args.name.now ≡ None = search rules in
    btree_map_updates_str c.args.name.now c.args.self.now.values c.insert.new.self _ c.in_ok-insert.ensures.updates other ∙ value_more (value_of c.args.self.now) c.args.name.now other c.args.value (bytes_eq c.args.name.now other) (same_name c.args.name.now other) none
