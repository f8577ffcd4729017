-- What the values of the code stand for, and what its answers give of the definition's.
use Rattle.std.specs.Prelude.{◌≡◌, ◌≤◌, ◌-◌, ℕ, zero, suc, bytes_eq, if◌then◌else◌, List, [], ◌∷◌, Option, Some, None, Err}
use Rattle.pvs_base.specs.declared.place.Pos.{Pos}
use Rattle.pvs_terms.specs.Tree.{Text, Tree, Ref, TBool, True, False, Var}
use Rattle.pvs_terms.specs.declared.shape.Sort.{Sort}
use Rattle.pvs_terms.specs.declared.shape.Sort.TheVariants.{OfType, OfTerm}
use Rattle.pvs_terms.specs.Stored.{Stored, IsRef, tree_at, ref_at}
use Rattle.pvs_subst.specs.Replace.{lift}
use Rattle.pvs_subst.specs.Contexts.{context_at}
use Rattle.pvs_subst.specs.declared.context.Assumed.TheVariants as assumed
use Rattle.pvs_sig.specs.Development.{Development}
use Rattle.pvs_sig.specs.Lookups.{Lookups, IsOrdered}
use Rattle.pvs_types.specs.Outcome.{Outcome, Conditions, Accepted}
use Rattle.pvs_typing.specs.Growth.{IsKnown, IsKnownContext, Keeps}
use Rattle.pvs_elab.specs.Answer.{Answer}
use Rattle.pvs_elab.specs.Phrase.{Phrase, Other}
use Rattle.pvs_elab.specs.Names.{Names}
use Rattle.pvs_elab.specs.Elab.{TypedTree, parts_onto, under_hypothesis, under_name, under_variable}
use Rattle.pvs_elab.specs.Elab as definition
use Rattle.pvs_elaboration.specs.declared.fault.ElabFault.{ElabFault}
use Rattle.pvs_elaboration.specs.declared.fault.ElabFault.TheVariants as elab_fault
use Rattle.pvs_elaboration.specs.declared.here.Local.{Local}
use Rattle.pvs_elaboration.specs.declared.here.Here.{Here}

-- What is listed of a text: phrases, places, and the bytes of names. Values of the code have their numbers.
pub record Sources : Type 0 where
  pub phrases : List Phrase
  pub places : List Pos
  pub words : List Text

-- those of a number; a number that is not listed stands for anything
abbrev pub phrase_among : List Phrase → ℕ → Phrase
phrase_among [] i = Other (record { line = 0; col = 0 })
phrase_among (x ∷ xs) zero = x
phrase_among (x ∷ xs) (suc i) = phrase_among xs i

abbrev pub place_among : List Pos → ℕ → Pos
place_among [] i = record { line = 0; col = 0 }
place_among (x ∷ xs) zero = x
place_among (x ∷ xs) (suc i) = place_among xs i

abbrev pub word_among : List Text → ℕ → Text
word_among [] i = []
word_among (x ∷ xs) zero = x
word_among (x ∷ xs) (suc i) = word_among xs i

abbrev pub phrase_at : Sources → ℕ → Phrase
phrase_at t i = phrase_among t.phrases i

abbrev pub place_in : Sources → ℕ → Pos
place_in t i = place_among t.places i

abbrev pub word_at : Sources → ℕ → Text
word_at t i = word_among t.words i

-- What is known at a place of a theory: a store, what is looked up there, which references are declared, and what names
-- stand for; and the theories that stand, with this one among them.
pub record Known : Type 1 where
  pub stored : Stored
  pub declares : Sort → Ref → Type 0
  pub lookups : Lookups
  pub names : Names
  pub theories : Development

-- numbers stand for what they stood for, the same is looked up, names stand for the same, and the same theories stand
pub record Grows (a b : Known) : Type 0 where
  pub keeps : Keeps a.stored a.declares a.lookups b.stored b.declares b.lookups a.theories b.theories
  pub names : b.names ≡ a.names

-- a number of a type or of a term whose names are declared
abbrev pub IsTypeOf : Known → ℕ → Type 0
IsTypeOf k i = IsKnown k.stored k.declares OfType i

abbrev pub IsTermOf : Known → ℕ → Type 0
IsTermOf k i = IsKnown k.stored k.declares OfTerm i

-- a reference that is declared, with this sort
abbrev pub IsDeclared : Known → Sort → ℕ → Type 0
IsDeclared k o r = IsRef k.stored r × k.declares o (ref_at k.stored r)

-- a local name under this many variables: its term is lifted over those that were bound after it
abbrev pub local_at : Stored → Sources → ℕ → Local → definition.Local
local_at s x d l = record { name = word_at x l.name; term = lift (tree_at s l.term) (d - l.at) 0 }

abbrev pub locals_at : Stored → Sources → ℕ → List Local → List definition.Local
locals_at s x d [] = []
locals_at s x d (l ∷ ls) = local_at s x d l ∷ locals_at s x d ls

abbrev pub AreLocals : Known → ℕ → List Local → Type 0
AreLocals k d [] = Unit {0}
AreLocals k d (l ∷ ls) = (IsTermOf k l.term × (l.at ≤ d)) × AreLocals k d ls

-- the term of the innermost local name of these bytes, and how many variables were bound where it was
abbrev pub local_item : Sources → Text → List Local → Option (ℕ × ℕ)
local_item t x [] = None
local_item t x (l ∷ ls) = if bytes_eq x (word_at t l.name) then Some (l.term, l.at) else local_item t x ls

-- what an answer depends on besides the text: what is looked up, what names stand for, and the place
pub record Site : Type 0 where
  pub lookups : Lookups
  pub names : Names
  pub here : definition.Here

-- the site that these numbers stand for
unfoldable pub site_in : Known → Sources → Here → Site
site_in k x h = record { lookups = k.lookups; names = k.names; here = record { locals = locals_at k.stored x h.depth h.locals; context = context_at k.stored h.context.items } }

pub record IsHere (k : Known) (h : Here) : Type 0 where
  pub locals : AreLocals k h.depth h.locals
  pub context : IsKnownContext k.stored k.declares h.context.items
  pub ordered : IsOrdered k.lookups
  pub truth : IsTypeOf k h.truth
  pub yes : IsTermOf k h.yes
  pub no : IsTermOf k h.no
  pub variable : IsTermOf k h.variable
  pub is_truth : tree_at k.stored h.truth ≡ TBool
  pub is_yes : tree_at k.stored h.yes ≡ True
  pub is_no : tree_at k.stored h.no ≡ False
  pub is_variable : tree_at k.stored h.variable ≡ Var 0

-- the same place, under a hypothesis
pub record IsUnder (h : Here) (p : ℕ) (i : Here) : Type 0 where
  pub locals : i.locals ≡ h.locals
  pub context : i.context.items ≡ assumed.Hyp p ∷ h.context.items
  pub truth : i.truth ≡ h.truth
  pub yes : i.yes ≡ h.yes
  pub no : i.no ≡ h.no
  pub variable : i.variable ≡ h.variable
  pub depth : i.depth ≡ h.depth

-- under a variable of this type, with a local name for it
pub record IsBelow (h : Here) (x a : ℕ) (i : Here) : Type 0 where
  pub locals : i.locals ≡ record { name = x; term = h.variable; at = suc h.depth } ∷ h.locals
  pub context : i.context.items ≡ assumed.Bind a ∷ h.context.items
  pub truth : i.truth ≡ h.truth
  pub yes : i.yes ≡ h.yes
  pub no : i.no ≡ h.no
  pub variable : i.variable ≡ h.variable
  pub depth : i.depth ≡ suc h.depth

-- under a variable of this type, without a name
pub record IsUnnamed (h : Here) (a : ℕ) (i : Here) : Type 0 where
  pub locals : i.locals ≡ h.locals
  pub context : i.context.items ≡ assumed.Bind a ∷ h.context.items
  pub truth : i.truth ≡ h.truth
  pub yes : i.yes ≡ h.yes
  pub no : i.no ≡ h.no
  pub variable : i.variable ≡ h.variable
  pub depth : i.depth ≡ suc h.depth

-- the same place, with a local name for a term
pub record IsNamed (h : Here) (x t : ℕ) (i : Here) : Type 0 where
  pub locals : i.locals ≡ record { name = x; term = t; at = h.depth } ∷ h.locals
  pub context : i.context.items ≡ h.context.items
  pub truth : i.truth ≡ h.truth
  pub yes : i.yes ≡ h.yes
  pub no : i.no ≡ h.no
  pub variable : i.variable ≡ h.variable
  pub depth : i.depth ≡ h.depth

-- the fault is that of the answer; being out of memory says nothing
abbrev pub IsFault : {A : Type 0} → Answer A → ElabFault → Type 0
IsFault r (elab_fault.At f) = r ≡ Err f
IsFault r elab_fault.Memory = Unit {0}

-- numbers, each of its sort
abbrev pub AreKnownNumbers : Known → List (Sort × ℕ) → Type 0
AreKnownNumbers k [] = Unit {0}
AreKnownNumbers k (i ∷ is) = IsKnown k.stored k.declares i.0 i.1 × AreKnownNumbers k is

-- a call that found a fault or is out of memory
pub record Failed {Y : Type 0} (a b : Known) (r : Answer Y) (e : ElabFault) : Type 0 where
  pub kept : Grows a b
  pub is : IsFault r e

-- the site under a hypothesis
abbrev pub hypothesis_site : Tree → Site → Site
hypothesis_site p z = record { lookups = z.lookups; names = z.names; here = under_hypothesis p z.here }

-- the site under a variable of this name and type
abbrev pub variable_site : Text → Tree → Site → Site
variable_site x a z = record { lookups = z.lookups; names = z.names; here = under_name x a z.here }

-- the site under a variable without a name
abbrev pub unnamed_site : Tree → Site → Site
unnamed_site a z = record { lookups = z.lookups; names = z.names; here = under_variable [] a z.here }

-- the site with a local name for a term
abbrev pub local_site : Text → Tree → Site → Site
local_site x t z = record { lookups = z.lookups; names = z.names; here = record { locals = record { name = x; term = t } ∷ z.here.locals; context = z.here.context } }

-- the site with names for the parts of a tuple
abbrev pub parts_site : List Text → Tree → Site → Site
parts_site xs t z = record { lookups = z.lookups; names = z.names; here = record { locals = parts_onto z.here.locals t xs; context = z.here.context } }

-- typing accepts, with this result
abbrev pub Accepts : {A : Type 0} → Outcome A → A → Type 0
Accepts o a = (cs : Conditions) × (rs : List Ref) × (o ≡ Accepted a cs rs)
