-- What a theory declares: each declaration is elaborated over those before it, and becomes an entry (CSL-97-2, theories).
use Rattle.std.specs.Prelude.{List, [], ◌∷◌, ◌++◌, length, Option, Some, None}
use Rattle.pvs_base.specs.Answers.{◌>>=◌}
use Rattle.pvs_base.specs.declared.place.Pos.{Pos}
use Rattle.pvs_base.specs.declared.code.Code.TheVariants.{OutOfProfile}
use Rattle.pvs_terms.specs.Tree.{Text, Ref}
use Rattle.pvs_syntax.specs.Words.{spelling}
use Rattle.pvs_syntax.specs.declared.unit.Decl.{Decl}
use Rattle.pvs_syntax.specs.declared.unit.Decl.TheVariants as decl
use Rattle.pvs_sig.specs.Signature.{Signature, Kind}
use Rattle.pvs_sig.specs.Development.{Development}
use Rattle.pvs_sig.specs.Lookups.{Lookups}
use Rattle.pvs_sig.specs.LookupsOf.{lookups_of}
use Rattle.pvs_types.specs.Outcome.{Conditions}
use Rattle.pvs_elab.specs.Answer.{Answer, pure, fault}
use Rattle.pvs_elab.specs.Names.{Names, names_at}
use Rattle.pvs_elab.specs.Declaration.{ElaboratedDecl, decl_place, elab_decl}

-- A theory as far as it is read: its signature, and what each of its entries uses, the first entry first.
pub record CheckedTheory : Type 0 where
  pub signature : Signature
  pub uses : List (List Ref)

-- the name that a declaration declares; an importing declares none
abbrev pub declared_name : Text → Decl → Text
declared_name text (decl.Importing i) = []
declared_name text (decl.TypeDecl w nonempty) = spelling text w
declared_name text (decl.TypeDef w a) = spelling text w
declared_name text (decl.VarDecl w a) = spelling text w
declared_name text (decl.ConstDecl w bs a e) = spelling text w
declared_name text (decl.Formula w word e) = spelling text w

-- with one more entry, where there is one
abbrev pub with_entry : Text → Option Kind → Signature → Signature
with_entry name None s = s
with_entry name (Some k) s = record s { entries = s.entries ++ record { name = name; kind = k } ∷ [] }

-- what the next declaration is elaborated over: the look-ups of the entries before it, and the names of its place
abbrev pub lookups_after : Development → CheckedTheory → Lookups
lookups_after d t = lookups_of d t.signature

abbrev pub names_after : Development → CheckedTheory → Names
names_after d t = names_at d t.signature (length t.signature.entries)

-- Until conditions are written out, a declaration that owes one is OutOfProfile at its name.
abbrev pub without_conditions : Pos → ElaboratedDecl → Conditions → Answer ElaboratedDecl
without_conditions at x [] = pure x
without_conditions at x (c ∷ cs) = fault at OutOfProfile

abbrev pub with_elaborated : Text → Decl → CheckedTheory → ElaboratedDecl → CheckedTheory
with_elaborated text d t x = record { signature = with_entry (declared_name text d) x.entry t.signature; uses = t.uses ++ x.uses ∷ [] }

-- the theory with one more declaration
abbrev pub with_declaration : Development → Text → CheckedTheory → Decl → Answer CheckedTheory
with_declaration d text t x =
    elab_decl (lookups_after d t) (names_after d t) text x >>= (λ e. without_conditions (decl_place x) e e.conditions >>= (λ e. pure (with_elaborated text x t e)))

-- with these declarations, or the first fault among them
abbrev pub with_declarations : Development → Text → CheckedTheory → List Decl → Answer CheckedTheory
with_declarations d text t [] = pure t
with_declarations d text t (x ∷ xs) = with_declaration d text t x >>= (λ u. with_declarations d text u xs)

-- a theory of which nothing is read
abbrev pub empty_theory : Text → CheckedTheory
empty_theory name = record { signature = record { name = name; formals = []; entries = []; imports = [] }; uses = [] }
