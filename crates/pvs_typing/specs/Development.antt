-- What is looked up and what is declared in the terms of a theory of a development, by the theory's name.
use Rattle.std.specs.Prelude.{false, Option, Some, None}
use Rattle.pvs_terms.specs.Tree.{Text, Ref}
use Rattle.pvs_terms.specs.declared.shape.Sort.{Sort}
use Rattle.pvs_terms.specs.Stored.{Stored, text_at}
use Rattle.pvs_sig.specs.Signature.{Signature}
use Rattle.pvs_sig.specs.Development.{Development, theory_named, IsDeclared}
use Rattle.pvs_sig.specs.Lookups.{Lookups}
use Rattle.pvs_sig.specs.LookupsOf.{lookups_of}
use Rattle.pvs_typing.specs.State.{State}

-- where the theory does not stand
abbrev pub no_lookups : Lookups
no_lookups = record {
  type_of = λ r. None;
  body_of = λ r. None;
  is_type = λ r. false;
  is_nonempty = λ r. false;
  rank = λ r. 0;
}

abbrev pub lookups_by : Development → Option Signature → Lookups
lookups_by d None = no_lookups
lookups_by d (Some s) = lookups_of d s

abbrev pub lookups_from : Development → Text → Lookups
lookups_from d th = lookups_by d (theory_named d th)

-- nothing is declared where the theory does not stand
abbrev pub IsDeclaredBy : Development → Option Signature → Sort → Ref → Type 0
IsDeclaredBy d None o r = ⊥
IsDeclaredBy d (Some s) o r = IsDeclared d s o r

abbrev pub IsDeclaredFrom : Development → Text → Sort → Ref → Type 0
IsDeclaredFrom d th o r = IsDeclaredBy d (theory_named d th) o r

-- what contracts of typing see of it, with this store
abbrev pub state_of : Stored → Development → State
state_of s d = record {
  stored = s;
  declares = λ n. IsDeclaredFrom d (text_at s n);
  lookups = λ n. lookups_from d (text_at s n);
  theories = d;
}
