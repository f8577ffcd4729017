-- Elaboration of a part of a text, from a place where nothing is left to do.
use Rattle.std.specs.Prelude.{◌≡◌, ℕ, zero, suc, List, [], ◌∷◌}
use Rattle.pvs_terms.specs.declared.shape.Sort.{Sort}
use Rattle.pvs_terms.specs.declared.shape.Sort.TheVariants.{OfType}
use Rattle.pvs_terms.specs.Tree.{Text}
use Rattle.pvs_terms.specs.Stored.{Stored, tree_at}
use Rattle.pvs_elab.specs.Answer.{Answer}
use Rattle.pvs_elab.specs.Declaration.{top_level}
use Rattle.pvs_elab.specs.Phrase.{Phrase, place}
use Rattle.pvs_elab.specs.Elab.{elab, under_name}
use Rattle.pvs_elab.specs.Elab as definition
use Rattle.pvs_elaboration.specs.declared.here.Here.{Here}
use Rattle.pvs_elaboration.specs.declared.outermost.Wanted.{Wanted}
use Rattle.pvs_elaboration.specs.declared.outermost.Wanted.TheVariants as wanted
use Rattle.pvs_elaboration.specs.declared.value.Mode.{Mode}
use Rattle.pvs_elaboration.specs.declared.value.Mode.TheVariants as mode
use Rattle.pvs_elaboration.specs.declared.frame.Control.{Control}
use Rattle.pvs_elaboration.specs.declared.frame.Control.TheVariants as control
use Rattle.pvs_elaboration.specs.declared.frame.Frame.TheVariants as frame
use Rattle.pvs_elaboration.specs.declared.several.NamesRow.TheVariants as names
use Rattle.pvs_elaboration.specs.declared.value.Value.TheVariants as value
use Rattle.pvs_elaboration.specs.declared.listing.Listing.{Listing}
use Rattle.pvs_elaboration.specs.Known.{Sources, Known, Site, site_in, IsHere}
use Rattle.pvs_elaboration.specs.Listing.{Lists, IsMore}
use Rattle.pvs_elaboration.specs.Meanings.{Meaning, typed_answer, term_answer, formed_answer}

-- where no name is local and nothing is assumed
pub record IsOutermost (k : Known) (h : Here) : Type 0 where
  pub here : IsHere k h
  pub locals : h.locals ≡ []
  pub context : h.context.items ≡ []
  pub depth : h.depth ≡ 0

-- what elaboration answers of a phrase at a place: the term with its type, the term as one of a type, or the type
abbrev pub wanted_answer : Known → definition.Here → Phrase → Wanted → Answer Meaning
wanted_answer k h e wanted.Infer = typed_answer ((elab k.lookups k.names e).infer h)
wanted_answer k h e (wanted.Check a) = term_answer ((elab k.lookups k.names e).check h (place e) (tree_at k.stored a))
wanted_answer k h e wanted.Formed = formed_answer ((elab k.lookups k.names e).formed h)

-- how a part is asked for it
abbrev pub wanted_mode : Wanted → Mode
wanted_mode wanted.Infer = mode.Infer
wanted_mode (wanted.Check a) = mode.Check a
wanted_mode wanted.Formed = mode.Formed

abbrev pub wanted_numbers : Wanted → List (Sort × ℕ)
wanted_numbers wanted.Infer = []
wanted_numbers (wanted.Check a) = (OfType, a) ∷ []
wanted_numbers wanted.Formed = []

-- under variables of these names and types, the first of which is the outermost
abbrev pub under_names : Stored → definition.Here → List Text → List ℕ → definition.Here
under_names s h [] is = h
under_names s h (x ∷ xs) [] = h
under_names s h (x ∷ xs) (i ∷ is) = under_names s (under_name x (tree_at s i) h) xs is

-- the site of a place of the definition
abbrev pub site_of : Known → definition.Here → Site
site_of k h = record { lookups = k.lookups; names = k.names; here = h }

-- the place under such variables, whose names were listed
pub record IsUnderNames (k : Known) (l m : Listing) (xs : List Text) (is : List ℕ) (i : Here) : Type 0 where
  pub more : IsMore l m
  pub here : IsHere k i
  pub site : (t : Sources) → Lists m t → site_in k t i ≡ site_of k (under_names k.stored top_level xs is)

-- what asks the first part once the parts of a variable have their names, from a number on, of which there are so many
abbrev pub named_control : ℕ → ℕ → ℕ → Mode → Control
named_control variable first zero m = control.Ask 0 m
named_control variable first (suc n) m = control.Use (frame.Names (names.Tuple variable first n m) 0) value.Done
