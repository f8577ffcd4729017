-- What checked theories promise.
use Rattle.std.specs.Prelude.{◌≡◌, ℕ, Bool, List, [], Some, Ok}
use Rattle.pvs_terms.specs.Tree.{Text, Tree, Ref, IsClosed}
use Rattle.pvs_syntax.specs.declared.unit.Decl.{Decl}
use Rattle.pvs_terms.specs.Sorts.{IsType, IsTerm}
use Rattle.pvs_subst.specs.Contexts.{Assumptions}
use Rattle.pvs_sig.specs.Lookups.{Lookups, IsOrdered}
use Rattle.pvs_sig.specs.Signature.{Signature, Kind, kind_at}
use Rattle.pvs_sig.specs.Development.{Development, IsDevelopment, IsSignatureOver}
use Rattle.pvs_sem.specs.Interpretations.{FiniteMap, AreSets, model_of}
use Rattle.pvs_types.specs.Outcome.{Outcome, Refused, Accepted}
use Rattle.pvs_types.specs.Typing.{infer, check, well_formed}
use Rattle.pvs_elab.specs.Names.{Names, TypedVariable}
use Rattle.pvs_elab.specs.Phrase.{Phrase}
use Rattle.pvs_elab.specs.Elab.{elab}
use Rattle.pvs_elab.specs.Declaration.{CheckedEntry, declaration}
use Rattle.pvs_elab.specs.Laws.{Holds}
use Rattle.pvs_soundness.specs.Vocabulary.{Vocabulary, IsOver, vocabulary_of}
use Rattle.pvs_soundness.specs.WellSorted.{IsWellSorted}
use Rattle.pvs_soundness.specs.Local.{AgreesWith, IsClosedSet, EachAssumed, IsAnsweredAlike}
use Rattle.pvs_soundness.specs.Mentioned.{EachName, StaysIn}
use Rattle.pvs_soundness.specs.Checked.{OwesNothing, IsFormedBy, IsKindBy}
use Rattle.pvs_soundness.specs.Fits.{IsInsideKind}
use Rattle.pvs_soundness.specs.Read.{IsAcceptedSignature, FitsBefore}
use Rattle.pvs_soundness.specs.Theory.{CheckedTheory, with_declarations, empty_theory}

-- where typing accepts, this holds
abbrev pub WhereAccepted : {A : Type 0} → Type 0 → Outcome A → Type 0
WhereAccepted P (Refused c) = Unit {0}
WhereAccepted P (Accepted a cs rs) = P

-- what typing accepts under no binder is closed
abbrev pub AcceptedTreesAreClosed : Type 0
AcceptedTreesAreClosed = (s : Lookups) (t a : Tree)
    → WhereAccepted (IsClosed t) (infer s [] t) × WhereAccepted (IsClosed t) (check s [] t a) × WhereAccepted (IsClosed t) (well_formed s [] t)

-- what typing accepts is well sorted: a term where it is inferred or checked, and a type where it is well formed
abbrev pub AcceptedTreesAreWellSorted : Type 0
AcceptedTreesAreWellSorted = (s : Lookups) (g : Assumptions) (t a : Tree)
    → WhereAccepted (IsTerm t × IsWellSorted t) (infer s g t) × WhereAccepted (IsTerm t × IsWellSorted t) (check s g t a) × WhereAccepted (IsType t × IsWellSorted t) (well_formed s g t)

-- Typing asks only for what it meets: look-ups that agree on the references of a vocabulary, which has what each of them
-- leads to, answer the same for trees and contexts over the vocabulary.
abbrev pub TypingIsLocal : Type 0
TypingIsLocal = (V : Vocabulary) (s u : Lookups) → IsOrdered s → IsOrdered u → AgreesWith V s u → IsClosedSet V s
    → (g : Assumptions) → EachAssumed V g → (t a : Tree) → IsWellSorted t → IsOver V t → IsOver V a → IsAnsweredAlike s u g t a

-- Where names stand for references that lead only to such references, and to tuples of two components or more, each
-- elaborated tree is made of these.
abbrev pub ElaborationStaysIn : Type 0
ElaborationStaysIn = (p : Ref → Bool) (s : Lookups) (names : Names) → IsOrdered s → IsClosedSet (vocabulary_of p) s → EachName (vocabulary_of p) names
    → (e : Phrase) → StaysIn (vocabulary_of p) (elab s names e)

-- The entry of a declaration whose typing owes nothing is one that typing accepts, with its free VARs as binders before a
-- formula.
abbrev pub DeclarationsAreAccepted : Type 0
DeclarationsAreAccepted = (p : Ref → Bool) (s : Lookups) (names : Names) → IsOrdered s → IsClosedSet (vocabulary_of p) s → EachName (vocabulary_of p) names
    → ((x : Text) (v : TypedVariable) → names.variable_named x ≡ Ok v → IsFormedBy (vocabulary_of p) s [] v.ty)
    → (text : Text) (d : Decl) → Holds (λ (e : CheckedEntry). OwesNothing e.typing → IsKindBy (vocabulary_of p) s e.kind) (declaration s names text d)

-- A theory that is read from its declarations, where none owes a condition, is one whose entries typing accepts over those
-- before them.
abbrev pub TheoriesAreAccepted : Type 0
TheoriesAreAccepted = (d : Development) → IsDevelopment d → (text name : Text) (xs : List Decl) (t : CheckedTheory)
    → with_declarations d text (empty_theory name) xs ≡ Ok t → IsAcceptedSignature d t.signature

-- Such a signature may stand after the theories: its trees are sorted and closed, and mention only what stands before.
abbrev pub AcceptedSignaturesStand : Type 0
AcceptedSignaturesStand = (d : Development) (s : Signature) → IsAcceptedSignature d s → IsSignatureOver d s

-- In a model that fits the entries before it, each entry is inside.
abbrev pub EntriesAreInside : Type 0
EntriesAreInside = (d : Development) (s : Signature) → IsDevelopment d → IsAcceptedSignature d s
    → (m : FiniteMap) → AreSets m → (i : ℕ) (x : Kind) → kind_at s i ≡ Some x → FitsBefore (model_of m) s i → IsInsideKind (model_of m) x
