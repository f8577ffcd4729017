-- The parts of a unit: which of its theories are accepted, and with which signatures; and its proofs.
--
-- A theory is read declaration by declaration, each elaborated over those before it (CSL-97-2, theories; `with_declarations` of `pvs_soundness`).
-- It has one fault, the first in this order: a form that is not built, at the theory's name; an earlier theory of its name, there; a name that is
-- declared again, at that name; the first fault of a declaration, in the order of declarations. A declaration that owes a type-correctness condition
-- is OutOfProfile at the name that it declares, until conditions are entries of their own.
use Rattle.std.specs.Prelude.{Bool, flat_map, not, if◌then◌else◌, List, [], ◌∷◌, ◌++◌, Option, Some, None, Ok, Err}
use Rattle.pvs_base.specs.Answers.{◌>>=◌}
use Rattle.pvs_base.specs.declared.code.Fault.{Fault}
use Rattle.pvs_base.specs.declared.code.Code.TheVariants.{Duplicate, OutOfProfile}
use Rattle.pvs_terms.specs.Tree.{Text}
use Rattle.pvs_syntax.specs.Words.{spelling}
use Rattle.pvs_syntax.specs.declared.word.Word.{Word}
use Rattle.pvs_syntax.specs.declared.unit.Theory.{Theory}
use Rattle.pvs_syntax.specs.declared.unit.Proof.{Proof}
use Rattle.pvs_syntax.specs.declared.unit.Item.{Item}
use Rattle.pvs_syntax.specs.declared.unit.Item.TheVariants as item
use Rattle.pvs_sig.specs.Signature.{Signature}
use Rattle.pvs_sig.specs.Development.{Development}
use Rattle.pvs_elab.specs.Answer.{Answer, pure, fault}
use Rattle.pvs_soundness.specs.Theory.{with_declarations, empty_theory}
use Rattle.pvs_verdicts.specs.Forms.{is_built_theory}
use Rattle.pvs_verdicts.specs.Duplicates.{has_name, first_repeated}

-- ---- A theory.

-- the signature that a theory's declarations make, where the theories of d stand, or the first fault among them
abbrev pub declared_signature : Development → Text → Theory → Answer Signature
declared_signature d text t = with_declarations d text (empty_theory (spelling text t.name)) t.decls >>= (λ c. pure c.signature)

-- the signature of a theory, where no name is declared again in it
abbrev pub unless_repeated : Option Word → Answer Signature → Answer Signature
unless_repeated None r = r
unless_repeated (Some w) r = fault w.pos Duplicate

-- the signature of a theory, or its first fault, given whether an earlier theory has its name
abbrev pub accepted_signature : Development → Text → Bool → Theory → Answer Signature
accepted_signature d text again t =
    if not (is_built_theory t) then fault t.name.pos OutOfProfile
    else (if again then fault t.name.pos Duplicate else unless_repeated (first_repeated text [] t.decls) (declared_signature d text t))

abbrev pub theory_name : Text → Item → List Text
theory_name text (item.Theory t) = spelling text t.name ∷ []
theory_name text (item.Proof p) = []

-- the names of the theories of a unit, accepted or refused
abbrev pub theory_names : Text → List Item → List Text
theory_names text items = flat_map (theory_name text) items

-- the signature of a theory that follows earlier items of its unit, or its first fault
abbrev pub theory_signature : Development → Text → List Item → Theory → Answer Signature
theory_signature d text earlier t = accepted_signature d text (has_name (spelling text t.name) (theory_names text earlier)) t

-- ---- The parts of a unit.

pub data Part : Type 0 where
  -- an accepted theory
  Accepted : Signature → Part
  -- a theory of this name, with its first fault
  Rejected : Text → Fault → Part
  -- a proof, with the text that its span lies in
  Proving : Text → Proof → Part

abbrev pub theory_part : Text → Answer Signature → Part
theory_part name (Ok s) = Accepted s
theory_part name (Err f) = Rejected name f

-- the part that an item is after earlier ones, where the theories of d stand
abbrev pub part_of : Development → Text → List Item → Item → Part
part_of d text earlier (item.Theory t) = theory_part (spelling text t.name) (theory_signature d text earlier t)
part_of d text earlier (item.Proof p) = Proving text p

-- the theories that stand after a part, the latest first
abbrev pub development_after : Development → Part → Development
development_after d (Accepted s) = s ∷ d
development_after d _ = d

abbrev pub parts_after : Development → Text → List Item → List Item → List Part
parts_after d text earlier [] = []
parts_after d text earlier (i ∷ is) = part_of d text earlier i ∷ parts_after (development_after d (part_of d text earlier i)) text (earlier ++ i ∷ []) is

-- the parts of a unit: each accepted theory stands for those after it
abbrev pub parts_of : Text → List Item → List Part
parts_of text items = parts_after [] text [] items
