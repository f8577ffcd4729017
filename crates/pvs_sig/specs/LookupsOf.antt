-- What typing looks up, made from a development.
use Rattle.std.specs.Prelude.{◌≡◌, Bool, true, false, ◌&&◌, Option, Some, None, List, [], ◌∷◌, if◌then◌else◌}
use Rattle.pvs_terms.specs.Tree.{Tree, Ref, Own, Formal, Inst, Trees, none, more, sort_eq}
use Rattle.pvs_terms.specs.Sorts.{sort_of}
use Rattle.pvs_sig.specs.Signature.{Signature, FormalSig, Kind, TypeSig, ConstSig, formals_in, formal_sort}
use Rattle.pvs_sig.specs.Development.{Development, IsDevelopment, IsSignatureOver, IsRefOver, theory_named, kind_of}
use Rattle.pvs_sig.specs.Lookups.{Lookups, IsOrdered}
use Rattle.pvs_sig.specs.Ranks.{type_body, rank_in, ranks_of}

-- whether there is one actual of its sort per formal
abbrev pub has_sorts_of : List FormalSig → Trees → Bool
has_sorts_of [] none = true
has_sorts_of (f ∷ fs) (more x xs) = sort_eq (sort_of x) (formal_sort f) && has_sorts_of fs xs
has_sorts_of _ _ = false

abbrev pub has_actuals : Development → Ref → Bool
has_actuals d (Own n) = true
has_actuals d (Formal n) = true
has_actuals d (Inst th n xs) = has_sorts_of (formals_in (theory_named d th)) xs

-- what a reference is, where its actuals are of the sorts of its theory's formals
abbrev pub kind_lookup : Development → Signature → Ref → Option Kind
kind_lookup d s r = if has_actuals d r then kind_of d s r else None

abbrev pub constant_type : Option Kind → Option Tree
constant_type (Some (ConstSig t body)) = Some t
constant_type _ = None

abbrev pub is_type_kind : Option Kind → Bool
is_type_kind (Some (TypeSig b body)) = true
is_type_kind _ = false

abbrev pub is_nonempty_kind : Option Kind → Bool
is_nonempty_kind (Some (TypeSig b body)) = b
is_nonempty_kind _ = false

-- in the terms of s, where the theories of d stand
abbrev pub lookups_of : Development → Signature → Lookups
lookups_of d s = record {
  type_of = λ r. constant_type (kind_lookup d s r);
  body_of = λ r. type_body (kind_lookup d s r);
  is_type = λ r. is_type_kind (kind_lookup d s r);
  is_nonempty = λ r. is_nonempty_kind (kind_lookup d s r);
  rank = rank_in (ranks_of d s);
}

-- a defined name is larger than its body, of own entries and of instances
abbrev pub LookupsAreOrdered : Type 0
LookupsAreOrdered = (d : Development) (s : Signature) → IsDevelopment d → IsSignatureOver d s → IsOrdered (lookups_of d s)

-- a reference whose actuals match the formals is looked up as what it is
abbrev pub FindsKinds : Type 0
FindsKinds = (d : Development) (s : Signature) (r : Ref) → IsRefOver d s r → kind_lookup d s r ≡ kind_of d s r
