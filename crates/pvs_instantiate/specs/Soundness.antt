-- What holds of `Instances`: the theories that stand are a development, no stamp stands twice, and each pair that is kept
-- with the stamp of a theory that stands is the tree that its key names.
use Rattle.std.specs.Prelude.{◌≡◌, ◌≤◌, ℕ, Some, [], Contains}
use Rattle.pvs_terms.specs.Tree.{Trees, Inst}
use Rattle.pvs_terms.specs.Stored.{Stored, tree_at, ref_at, text_at, IsNode, IsRef}
use Rattle.pvs_cache.specs.Kept.{Pairs}
use Rattle.pvs_cache.specs.declared.key.JudgeKey.{JudgeKey}
use Rattle.pvs_sig.specs.declared.signature.Signature as numbers
use Rattle.pvs_sig.specs.Signature.{kind_at, instantiate_found}
use Rattle.pvs_sig.specs.SignatureAt.{signature_at, SignatureIn, AllIn}
use Rattle.pvs_sig.specs.Development.{IsDevelopment}
use Rattle.pvs_instantiate.specs.declared.theories.Theory.{Theory}
use Rattle.pvs_instantiate.specs.Standing.{Entries, AreNamed, StampsDiffer, signatures, theories_after}
use Rattle.pvs_instantiate.specs.Parts.{part_tree}
use Rattle.pvs_instantiate.specs.InstancesView.{InstancesView}

-- the pair is the part of an entry of an instance of this theory: the theory's tree with the actuals in place of the formals
pub record IsValue (s : Stored) (g : numbers.Signature) (p : JudgeKey × ℕ) : Type 0 where
  pub item : IsRef s p.0.item
  pub value : IsNode s p.1
  pub number : ℕ
  pub actuals : Trees
  pub reference : ref_at s p.0.item ≡ Inst (text_at s g.name) number actuals
  pub tree : part_tree p.0.part (instantiate_found (kind_at (signature_at s g) number) (text_at s g.name) actuals) ≡ Some (tree_at s p.1)

-- each pair that is kept with the stamp of the theory is a value of it
abbrev pub HasValues : Stored → Pairs → ℕ × Theory → Type 0
HasValues s kept e = (p : JudgeKey × ℕ) → Contains kept p → p.0.stamp ≡ e.1.stamp → IsValue s e.1.signature p

pub record AreStanding (s : Stored) (es : Entries) : Type 0 where
  pub named : AreNamed es
  pub stored : AllIn (λ e. SignatureIn s e.1.signature) es
  pub over : IsDevelopment (theories_after [] (signatures s es))

pub record IsSound (v : InstancesView) : Type 0 where
  pub standing : AreStanding v.store v.entries
  pub stamps_below : AllIn (λ e. e.1.stamp ≤ v.last_stamp) v.entries
  pub stamps_differ : StampsDiffer v.entries
  pub kept_below : (p : JudgeKey × ℕ) → Contains v.kept p → p.0.stamp ≤ v.last_stamp
  pub values : AllIn (HasValues v.store v.kept) v.entries
