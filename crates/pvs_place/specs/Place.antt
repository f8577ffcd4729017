-- A theory that is being read, the latest of those that stand: what is known at its next place.
use Rattle.std.specs.Prelude.{◌≡◌, ℕ, length, [], ◌∷◌, Ok, Err}
use Rattle.pvs_base.specs.declared.code.Code.TheVariants.{Unknown}
use Rattle.pvs_terms.specs.Tree.{Text, Ref}
use Rattle.pvs_terms.specs.declared.shape.Sort.{Sort}
use Rattle.pvs_terms.specs.Stored.{Stored, IsName, text_at, tree_at, ref_at}
use Rattle.pvs_sig.specs.Signature.{Signature, Entry}
use Rattle.pvs_sig.specs.Development.{Development, IsDeclared}
use Rattle.pvs_sig.specs.Lookups.{Lookups}
use Rattle.pvs_sig.specs.LookupsOf.{lookups_of}
use Rattle.pvs_instantiate.specs.Grown.{with_entry}
use Rattle.pvs_instantiate.specs.InstancesView.{InstancesView, development}
use Rattle.pvs_typing.specs.Development.{no_lookups}
use Rattle.pvs_typing.specs.State.{State}
use Rattle.pvs_elab.specs.Names.{Names, names_at}
use Rattle.pvs_elaboration.specs.Known.{Known, IsTypeOf}
use Rattle.pvs_scope.specs.declared.place.PlaceNames.{PlaceNames}
use Rattle.pvs_scope.specs.NamesAt.{NamesAt}

-- What is declared, what is looked up and what names stand for at the next place of the latest theory, after the others.
-- There is nothing of it where no theory stands.
abbrev pub IsDeclaredIn : Development → Sort → Ref → Type 0
IsDeclaredIn [] o r = ⊥
IsDeclaredIn (g ∷ d) o r = IsDeclared d g o r

abbrev pub lookups_in : Development → Lookups
lookups_in [] = no_lookups
lookups_in (g ∷ d) = lookups_of d g

abbrev pub no_names : Names
no_names = record {
  type_named = λ x. Err Unknown;
  constant_named = λ x. Err Unknown;
  variable_named = λ x. Err Unknown;
}

abbrev pub names_in : Development → Names
names_in [] = no_names
names_in (g ∷ d) = names_at d g (length g.entries)

-- what is known there, with this store
abbrev pub known_in : Stored → Development → Known
known_in s d = record { stored = s; declares = IsDeclaredIn d; lookups = lookups_in d; names = names_in d; theories = d }

-- what contracts of typing see of it, under whichever name
abbrev pub state_in : Stored → Development → State
state_in s d = record { stored = s; declares = λ n. IsDeclaredIn d; lookups = λ n. lookups_in d; theories = d }

-- a theory of this name of which nothing is read
abbrev pub empty_theory : Text → Signature
empty_theory th = record { name = th; formals = []; entries = []; imports = [] }

-- the theories where the latest has one entry more
abbrev pub with_next : Entry → Development → Development
with_next e [] = []
with_next e (g ∷ d) = with_entry e g ∷ d

-- the theory of this name is the latest, `signature`, after `others`
pub record IsLatest (v : InstancesView) (theory : ℕ) : Type 0 where
  pub named : IsName v.store theory
  pub signature : Signature
  pub others : Development
  pub reads : development v ≡ signature ∷ others
  pub name : text_at v.store theory ≡ signature.name

-- it has no importings, and the index is that of the names at its next place
pub record IsPlace (v : InstancesView) (theory : ℕ) (n : PlaceNames) : Type 0 where
  pub latest : IsLatest v theory
  pub imports : latest.signature.imports ≡ []
  pub names : NamesAt v.store n latest.others latest.signature

-- the numbers stand for the VAR of this name and its type
pub record IsTypedVariable (v : InstancesView) (x : Text) (p : ℕ × ℕ) : Type 0 where
  pub known : IsTypeOf (known_in v.store (development v)) p.1
  pub is : (names_in (development v)).variable_named x ≡ Ok (record { reference = ref_at v.store p.0; ty = tree_at v.store p.1 })
