-- The theories of the tests of growing: an empty one, and one that grows by formal types and by importings of the empty one.
use Rattle.std.specs.Prelude.{◌≡◌, ℕ, false, bytes_eq, None, [], ◌∷◌}
use Rattle.pvs_terms.specs.Tree.{Text, none}
use Rattle.pvs_terms.specs.Stored.{text_at}
use Rattle.pvs_sig.specs.declared.signature.Signature as numbers
use Rattle.pvs_sig.specs.declared.signature.Import as numbers_import
use Rattle.pvs_sig.specs.Signature.{Signature, FormalSig, Import}
use Rattle.pvs_sig.specs.SignatureAt.{AllIn}
use Rattle.pvs_instantiate.specs.InstancesView.{InstancesView, development}

-- an empty signature by number
pub record IsEmptyOf (g : numbers.Signature) (n : ℕ) : Type 0 where
  pub name : g.name ≡ n
  pub formals : g.formals.items ≡ []
  pub entries : g.entries.items ≡ []
  pub imports : g.imports.items ≡ []

pub record IsEmpty (s : Signature) (th : Text) : Type 0 where
  pub name : s.name ≡ th
  pub formals : s.formals ≡ []
  pub entries : s.entries ≡ []
  pub imports : s.imports ≡ []

abbrev pub IsTypeFormal : FormalSig → Type 0
IsTypeFormal f = f.ty ≡ None

pub record IsImportOf (th : Text) (x : Import) : Type 0 where
  pub theory : x.theory ≡ th
  pub actuals : x.actuals ≡ none
  pub place : x.place ≡ 0

-- an importing of the empty theory by number
pub record IsImportBy (x : numbers_import.Import) (n : ℕ) : Type 0 where
  pub theory : x.theory ≡ n
  pub actuals : x.actuals.items ≡ []
  pub place : x.place ≡ 0

-- formal types, and importings of another theory before all entries
pub record IsImporter (s : Signature) (th other : Text) : Type 0 where
  pub name : s.name ≡ th
  pub formals : AllIn IsTypeFormal s.formals
  pub entries : s.entries ≡ []
  pub imports : AllIn (IsImportOf other) s.imports

-- the empty theory is the one theory that stands
pub record HasEmpty (v : InstancesView) (lower : ℕ) : Type 0 where
  pub signature : Signature
  pub alone : development v ≡ signature ∷ []
  pub is : IsEmpty signature (text_at v.store lower)

-- the empty theory and the other stand, and no more
pub record HasBoth (v : InstancesView) (lower upper : ℕ) : Type 0 where
  pub importer : Signature
  pub imported : Signature
  pub both : development v ≡ importer ∷ imported ∷ []
  pub importer_is : IsImporter importer (text_at v.store upper) (text_at v.store lower)
  pub imported_is : IsEmpty imported (text_at v.store lower)
  pub apart : bytes_eq (text_at v.store lower) (text_at v.store upper) ≡ false
