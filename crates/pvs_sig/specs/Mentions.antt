-- Each tree of a signature mentions only what its entry reaches.
use Rattle.std.specs.Prelude.{◌≡◌, ℕ, ◌≤◌, ◌<◌, length, Some, [], ◌∷◌}
use Rattle.pvs_terms.specs.Tree.{Tree}
use Rattle.pvs_sig.specs.declared.signature.Class.TheVariants.{ImportCondition}
use Rattle.pvs_sig.specs.Signature.{Signature, Import, Kind, FormulaSig, kind_at, formal_at}
use Rattle.pvs_sig.specs.References.{EachOf, KindEach}
use Rattle.pvs_sig.specs.Development.{Development, formals_seen, In}
use Rattle.pvs_sig.specs.Reach.{reach, Owes}

pub record StaysInScope (d : Development) (s : Signature) : Type 0 where
  -- an entry mentions what it reaches, and later places reach that too
  pub entries : (n i : ℕ) (k : Kind) → n ≤ i → i ≤ length s.entries → kind_at s n ≡ Some k → KindEach (λ r. In r (reach d s i)) k
  -- a formal mentions the formals before it
  pub formals : (n i : ℕ) (k : Kind) → n < formals_seen s i → formal_at s n ≡ Some k → KindEach (λ r. In r (reach d s i)) k
  -- the actuals of an importing mention what stands before it, and before the conditions that it owes
  pub imports : (x : Import) (i : ℕ) → In x s.imports → x.place ≤ i → EachOf (λ r. In r (reach d s i)) x.actuals
  pub owed : (x : Import) (b : Signature) (n i : ℕ) → Owes d s i x b n → EachOf (λ r. In r (reach d s i)) x.actuals
  -- the conditions of an importing stand together, just before it
  pub owners : (i j : ℕ) (t : Tree) (o : ℕ) → kind_at s i ≡ Some (FormulaSig ImportCondition t o) → i ≤ j → j < o → (u : Tree) × (kind_at s j ≡ Some (FormulaSig ImportCondition u o))

abbrev pub StayInScope : Development → Type 0
StayInScope [] = Unit {0}
StayInScope (s ∷ d) = StaysInScope d s × StayInScope d
