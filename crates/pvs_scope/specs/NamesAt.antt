-- The names that the next entry of a theory sees, by an index.
use Rattle.std.specs.Prelude.{◌≡◌, ◌<◌, ◌≤◌, ℕ, Bool, false, Option, Some, None, [], length, Err}
use Rattle.pvs_base.specs.declared.code.Code.TheVariants.{Unknown}
use Rattle.pvs_terms.specs.Tree.{Text, Ref, Own, Formal, Inst}
use Rattle.pvs_terms.specs.Stored.{Stored, Extends, IsName, IsRef, IsNode, text_at, ref_at, tree_at}
use Rattle.pvs_sig.specs.Signature.{Signature, Import, Kind, VarSig}
use Rattle.pvs_sig.specs.Development.{Development, In, kind_of}
use Rattle.pvs_sig.specs.Scope.{scope, is_var}
use Rattle.pvs_names.specs.declared.kind.NameKind.{NameKind}
use Rattle.pvs_names.specs.Members.{find}
use Rattle.pvs_names.specs.Resolve.{visible_members}
use Rattle.pvs_names.specs.code.Index.{IsDistinct, Indexes}
use Rattle.pvs_scope.specs.declared.place.PlaceNames.{PlaceNames}
use Rattle.pvs_scope.specs.code.Tables.{name_of, type_of}

-- a VAR of the type of this number, or no VAR
abbrev pub IsVariableOf : Stored → Option ℕ → Option Kind → Type 0
IsVariableOf s (Some t) k = IsNode s t × (k ≡ Some (VarSig (tree_at s t)))
IsVariableOf s None k = is_var k ≡ false

abbrev pub IsOwnBelow : ℕ → Ref → Type 0
IsOwnBelow n (Own k) = k < n
IsOwnBelow n (Formal k) = ⊥
IsOwnBelow n (Inst th k xs) = ⊥

-- the kinds of the references of a scope, in this store and in later ones
abbrev pub KnowsVariables : Stored → (ℕ → Option ℕ) → Development → Signature → Type 0
KnowsVariables s variables d g = (t : Stored) → Extends s t → IsDistinct t → (r : ℕ) → IsRef t r → In (ref_at t r) (scope d g (length g.entries)) → IsVariableOf t (variables r) (kind_of d g (ref_at t r))

-- In this store the index is that of what the next entry of g sees, where the theories of d stand. `base` is the store
-- in which it was made.
pub record NamesAt (s : Stored) (n : PlaceNames) (d : Development) (g : Signature) : Type 0 where
  pub base : Stored
  pub extends : Extends base s
  pub distinct : IsDistinct base
  pub formals : n.formals ≡ length g.formals
  pub entries : n.entries ≡ length g.entries
  pub places : (x : Import) → In x g.imports → x.place ≤ length g.entries
  pub known : (x : Text) (k : ℕ) → name_of n.texts x ≡ Some k → IsName base k × (text_at base k ≡ x)
  pub unknown : (x : Text) → name_of n.texts x ≡ None → (is : Ref → Bool) (kind : NameKind) → find is kind x (visible_members d g (length g.entries)) ≡ Err Unknown
  pub visible : Indexes base n.visible (visible_members d g (length g.entries))
  pub variables : KnowsVariables base (type_of n.variables) d g
  pub own : (r t : ℕ) → type_of n.variables r ≡ Some t → IsRef base r × IsOwnBelow (length g.entries) (ref_at base r)

-- a theory of which nothing is read
pub record IsUnread (g : Signature) : Type 0 where
  pub formals : g.formals ≡ []
  pub entries : g.entries ≡ []
  pub imports : g.imports ≡ []
