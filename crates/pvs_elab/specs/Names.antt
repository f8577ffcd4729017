-- What elaboration asks of names, at a place of a theory.
use Rattle.std.specs.Prelude.{ℕ, Option, Some, Result, Ok, Err}
use Rattle.pvs_base.specs.Answers.{◌>>=◌}
use Rattle.pvs_base.specs.declared.code.Code.{Code}
use Rattle.pvs_base.specs.declared.code.Code.TheVariants.{Unknown}
use Rattle.pvs_terms.specs.Tree.{Text, Tree, Ref}
use Rattle.pvs_sig.specs.Signature.{Signature, Kind, VarSig}
use Rattle.pvs_sig.specs.Development.{Development, kind_of}
use Rattle.pvs_names.specs.declared.kind.NameKind.TheVariants.{TypeName, Constant}
use Rattle.pvs_names.specs.Members.{find}
use Rattle.pvs_names.specs.Resolve.{is_own, visible_members, resolve_plain, in_profile}

-- a VAR with its type
pub record TypedVariable : Type 0 where
  pub reference : Ref
  pub ty : Tree

pub record Names : Type 0 where
  pub type_named : Text → Result Ref Code
  -- a constant or a formal
  pub constant_named : Text → Result Ref Code
  -- the VAR of this name
  pub variable_named : Text → Result TypedVariable Code

-- a VAR stands for nothing by itself: its free use is Unknown, also where importings bring a constant of its name
abbrev pub constant_kind : Text → Ref → Option Kind → Result Ref Code
constant_kind x r (Some (VarSig t)) = in_profile x (Err Unknown)
constant_kind x r k = Ok r

abbrev pub variable_kind : Ref → Option Kind → Result TypedVariable Code
variable_kind r (Some (VarSig t)) = Ok (record { reference = r; ty = t })
variable_kind r k = Err Unknown

-- What entry i of s sees, where the theories of d stand. A VAR is an own entry, whatever importings bring.
abbrev pub names_at : Development → Signature → ℕ → Names
names_at d s i = record {
  type_named = λ x. resolve_plain d s i TypeName x;
  constant_named = λ x. resolve_plain d s i Constant x >>= (λ r. constant_kind x r (kind_of d s r));
  variable_named = λ x. find is_own Constant x (visible_members d s i) >>= (λ r. variable_kind r (kind_of d s r));
}
