-- How a theory by number changes.
use Rattle.std.specs.Prelude.{◌≡◌, [], ◌∷◌, ◌++◌}
use Rattle.pvs_sig.specs.declared.signature.FormalSig as numbers_formal
use Rattle.pvs_sig.specs.declared.signature.Entry as numbers_entry
use Rattle.pvs_sig.specs.declared.signature.Import as numbers_import
use Rattle.pvs_instantiate.specs.declared.theories.Theory.{Theory}

pub record AddsFormal (f : numbers_formal.FormalSig) (old new : Theory) : Type 0 where
  pub name : new.signature.name ≡ old.signature.name
  pub formals : new.signature.formals.items ≡ old.signature.formals.items ++ f ∷ []
  pub entries : new.signature.entries.items ≡ old.signature.entries.items
  pub imports : new.signature.imports.items ≡ old.signature.imports.items
  pub stamp : new.stamp ≡ old.stamp

pub record AddsEntry (e : numbers_entry.Entry) (old new : Theory) : Type 0 where
  pub name : new.signature.name ≡ old.signature.name
  pub formals : new.signature.formals.items ≡ old.signature.formals.items
  pub entries : new.signature.entries.items ≡ old.signature.entries.items ++ e ∷ []
  pub imports : new.signature.imports.items ≡ old.signature.imports.items
  pub stamp : new.stamp ≡ old.stamp

pub record AddsImport (x : numbers_import.Import) (old new : Theory) : Type 0 where
  pub name : new.signature.name ≡ old.signature.name
  pub formals : new.signature.formals.items ≡ old.signature.formals.items
  pub entries : new.signature.entries.items ≡ old.signature.entries.items
  pub imports : new.signature.imports.items ≡ old.signature.imports.items ++ x ∷ []
  pub stamp : new.stamp ≡ old.stamp

-- only the room of its lists may be another
pub record IsSameTheory (old new : Theory) : Type 0 where
  pub name : new.signature.name ≡ old.signature.name
  pub formals : new.signature.formals.items ≡ old.signature.formals.items
  pub entries : new.signature.entries.items ≡ old.signature.entries.items
  pub imports : new.signature.imports.items ≡ old.signature.imports.items
  pub stamp : new.stamp ≡ old.stamp
