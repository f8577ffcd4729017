-- What is seen of `Instances`: a store, the theories that stand with their stamps, and the pairs that the cache keeps.
use Rattle.std.specs.Prelude.{◌≡◌, ℕ, List, [], map, length}
use Rattle.pvs_terms.specs.Tree.{Text}
use Rattle.pvs_terms.specs.Stored.{Stored, Extends}
use Rattle.pvs_cache.specs.Kept.{Pairs}
use Rattle.pvs_sig.specs.Development.{Development}
use Rattle.pvs_instantiate.specs.Standing.{Entries, signatures, theories_after, entry_stamp, numbered}

pub record InstancesView : Type 0 where
  pub store : Stored
  pub entries : Entries
  pub last_stamp : ℕ
  pub kept : Pairs

-- the theories that stand, the latest first
abbrev pub development : InstancesView → Development
development v = theories_after [] (signatures v.store v.entries)

-- the stamp of each theory that stands, by name
abbrev pub stamps : InstancesView → List (Text × ℕ)
stamps v = map (entry_stamp v.store) v.entries

-- the stamps from 1 on, in the order in which the theories stand
abbrev pub stamps_from_one : InstancesView → List (Text × ℕ)
stamps_from_one v = map (entry_stamp v.store) (numbered 0 (length v.entries) v.entries)

-- the same theories stand with the same signatures and stamps, and each number of the store stands for what it stood for
pub record Leaves (old new : InstancesView) : Type 0 where
  pub store : Extends old.store new.store
  pub development : development new ≡ development old
  pub stamps : stamps new ≡ stamps old
