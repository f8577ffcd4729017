-- What is listed, as the text has it.
use Rattle.std.specs.Prelude.{◌≡◌, ℕ, suc, length, List, [], ◌∷◌, ◌++◌, map, Result, Ok, Err}
use Rattle.std.specs.Borrow.{Bor}
use Rattle.pvs_base.specs.declared.place.Pos.{Pos}
use Rattle.pvs_terms.specs.Tree.{Text}
use Rattle.pvs_elab.specs.Phrase.{Phrase, place}
use Rattle.pvs_elab.specs.Phrase as phrase
use Rattle.pvs_phrases.specs.declared.part.Part.{Part}
use Rattle.pvs_phrases.specs.declared.part.Place.{Place}
use Rattle.pvs_phrases.specs.Parts as parts
use Rattle.pvs_elaboration.specs.declared.fault.ElabFault.{ElabFault}
use Rattle.pvs_elaboration.specs.declared.fault.ElabFault.TheVariants as elab_fault
use Rattle.pvs_elaboration.specs.declared.binder.Binding.{Binding}
use Rattle.pvs_elaboration.specs.declared.equal.Sides.{Sides}
use Rattle.pvs_elaboration.specs.declared.lets.Definition.{Definition}
use Rattle.pvs_elaboration.specs.declared.several.Variables.{Variables}
use Rattle.pvs_elaboration.specs.Parts.{part_number}
use Rattle.pvs_elaboration.specs.Several.{words_at}
use Rattle.pvs_elaboration.specs.declared.listing.Listing.{Listing}
use Rattle.pvs_elaboration.specs.declared.listing.Form.{Form}
use Rattle.pvs_elaboration.specs.declared.listing.Form.TheVariants as form
use Rattle.pvs_elaboration.specs.Known.{Sources, phrase_at, place_in, word_at}

abbrev pub bytes_of : List (Bor Text) → List Text
bytes_of xs = map (λ x. x.now) xs

-- these sources have what is listed at its numbers, and perhaps more after it
pub record Lists (l : Listing) (t : Sources) : Type 0 where
  pub more_phrases : List Phrase
  pub more_places : List Pos
  pub more_words : List Text
  pub phrases : t.phrases ≡ map (parts.phrase_at l.text.now) l.parts.items ++ more_phrases
  pub places : t.places ≡ map (parts.place_in l.text.now) l.places.items ++ more_places
  pub words : t.words ≡ bytes_of l.names.items ++ more_words

-- the places of both sides are where they begin
pub record AreStarts (t : Sources) (s : Sides) : Type 0 where
  pub left : place_in t s.left_at ≡ place (phrase_at t s.left)
  pub right : place_in t s.right_at ≡ place (phrase_at t s.right)

-- the phrase has this form
abbrev pub IsForm : Sources → Form → Phrase → Type 0
IsForm t (form.Name x p) e = e ≡ phrase.Name (word_at t x) (place_in t p)
IsForm t (form.Truth b p) e = e ≡ phrase.Truth b (place_in t p)
IsForm t (form.TypeOf x p) e = e ≡ phrase.TypeOf (word_at t x) (place_in t p)
IsForm t (form.Group x start p) e = (e ≡ phrase.Group (phrase_at t x) (place_in t p)) × (place_in t start ≡ place (phrase_at t x))
IsForm t (form.Not x p) e = e ≡ phrase.Not (phrase_at t x) (place_in t p)
IsForm t (form.Choice c b) e =
    (e ≡ phrase.Choice b.early (phrase_at t c) (phrase_at t b.first) (phrase_at t b.second) (place_in t b.join) (place_in t b.at))
    × (place_in t b.first_at ≡ place (phrase_at t b.first)) × (place_in t b.second_at ≡ place (phrase_at t b.second))
IsForm t (form.Apply f o) e = (e ≡ phrase.Apply (phrase_at t f) (phrase_at t o.argument)) × (place_in t o.at ≡ place (phrase_at t f))
IsForm t (form.Equal s) e = (e ≡ phrase.Equal (phrase_at t s.left) (phrase_at t s.right)) × AreStarts t s
IsForm t (form.Iff s) e = (e ≡ phrase.Iff (phrase_at t s.left) (phrase_at t s.right)) × AreStarts t s
IsForm t (form.Forall a o) e = e ≡ phrase.All (word_at t o.name) (phrase_at t a) (phrase_at t o.body) (place_in t o.at)
IsForm t (form.Lambda a o) e = e ≡ phrase.Lambda (phrase_at t a) (word_at t o.name ∷ []) (phrase_at t o.body) (place_in t o.at)
IsForm t (form.Function a o) e = e ≡ phrase.Function (phrase_at t a) (word_at t o.name ∷ []) (phrase_at t o.body) (place_in t o.at)
IsForm t (form.LambdaOf a o) e = e ≡ phrase.Lambda (phrase_at t a) (words_at t o.first o.count) (phrase_at t o.body) (place_in t o.at)
IsForm t (form.FunctionOf a o) e = e ≡ phrase.Function (phrase_at t a) (words_at t o.first o.count) (phrase_at t o.body) (place_in t o.at)
IsForm t (form.Let o) e = (e ≡ phrase.Let (word_at t o.name) (phrase_at t o.value) (phrase_at t o.body) (place_in t o.at)) × (place_in t o.value_at ≡ place (phrase_at t o.value))
IsForm t (form.LetAs a o) e = e ≡ phrase.LetAs (word_at t o.name) (phrase_at t a) (phrase_at t o.value) (phrase_at t o.body) (place_in t o.at)
IsForm t (form.Subtype a o) e = e ≡ phrase.Sub (word_at t o.name) (phrase_at t a) (phrase_at t o.body) (place_in t o.at)
IsForm t (form.Predicate q start p) e = (e ≡ phrase.Predicate (phrase_at t q) (place_in t p)) × (place_in t start ≡ place (phrase_at t q))
IsForm t (form.Tuple x o) e = e ≡ phrase.Tuple o.beyond (phrase_at t x) (phrase_at t o.second) (place_in t o.at)
IsForm t (form.Product a k o) e = e ≡ phrase.Product k (word_at t o.name) (phrase_at t a) (phrase_at t o.body) (place_in t o.at)
IsForm t (form.Part x o) e = (e ≡ phrase.Part (phrase_at t x) (part_number t o) (place_in t o.number_at)) × (place_in t o.at ≡ place (phrase_at t x))
IsForm t (form.Other p) e = e ≡ phrase.Other (place_in t p)

-- what was listed still is, of the same text
pub record IsMore (l m : Listing) : Type 0 where
  pub text : m.text.now ≡ l.text.now
  pub lists : (t : Sources) → Lists m t → Lists l t

-- what is listed, and the number that it has

pub record IsPartAdded (l m : Listing) (p : Part) (i : ℕ) : Type 0 where
  pub more : IsMore l m
  pub is : (t : Sources) → Lists m t → phrase_at t i ≡ parts.phrase_at l.text.now p

pub record IsPlaceAdded (l m : Listing) (p : Place) (i : ℕ) : Type 0 where
  pub more : IsMore l m
  pub is : (t : Sources) → Lists m t → place_in t i ≡ parts.place_in l.text.now p

pub record IsNameAdded (l m : Listing) (x : Text) (i : ℕ) : Type 0 where
  pub more : IsMore l m
  pub is : (t : Sources) → Lists m t → word_at t i ≡ x

-- the place where a part begins
pub record IsStartAdded (l m : Listing) (p : Part) (i : ℕ) : Type 0 where
  pub more : IsMore l m
  pub is : (t : Sources) → Lists m t → place_in t i ≡ place (parts.phrase_at l.text.now p)

pub record IsSidesAdded (l m : Listing) (x y : Part) (s : Sides) : Type 0 where
  pub more : IsMore l m
  pub left : (t : Sources) → Lists m t → phrase_at t s.left ≡ parts.phrase_at l.text.now x
  pub right : (t : Sources) → Lists m t → phrase_at t s.right ≡ parts.phrase_at l.text.now y
  pub starts : (t : Sources) → Lists m t → AreStarts t s

pub record IsBindingAdded (l m : Listing) (x : Text) (p : Part) (pos : Pos) (b : Binding) : Type 0 where
  pub more : IsMore l m
  pub name : (t : Sources) → Lists m t → word_at t b.name ≡ x
  pub body : (t : Sources) → Lists m t → phrase_at t b.body ≡ parts.phrase_at l.text.now p
  pub at : (t : Sources) → Lists m t → place_in t b.at ≡ pos

pub record IsDefinitionAdded (l m : Listing) (x : Text) (v p : Part) (pos : Pos) (b : Definition) : Type 0 where
  pub more : IsMore l m
  pub name : (t : Sources) → Lists m t → word_at t b.name ≡ x
  pub value : (t : Sources) → Lists m t → phrase_at t b.value ≡ parts.phrase_at l.text.now v
  pub body : (t : Sources) → Lists m t → phrase_at t b.body ≡ parts.phrase_at l.text.now p
  pub start : (t : Sources) → Lists m t → place_in t b.value_at ≡ place (parts.phrase_at l.text.now v)
  pub at : (t : Sources) → Lists m t → place_in t b.at ≡ pos

-- the last name
pub record IsLastName (l m : Listing) (x : Text) : Type 0 where
  pub more : IsMore l m
  pub count : length m.names.items ≡ suc (length l.names.items)
  pub is : (t : Sources) → Lists m t → word_at t (length l.names.items) ≡ x

-- these names, one after another, from a number on
pub record AreNamesAdded (l m : Listing) (xs : List Text) (first : ℕ) : Type 0 where
  pub more : IsMore l m
  pub is : (t : Sources) → Lists m t → words_at t first (length xs) ≡ xs

pub record AreVariablesAdded (l m : Listing) (xs : List Text) (p : Part) (pos : Pos) (b : Variables) : Type 0 where
  pub more : IsMore l m
  pub names : (t : Sources) → Lists m t → words_at t b.first b.count ≡ xs
  pub body : (t : Sources) → Lists m t → phrase_at t b.body ≡ parts.phrase_at l.text.now p
  pub at : (t : Sources) → Lists m t → place_in t b.at ≡ pos

-- a form of this phrase, whose parts are listed
pub record IsFormAdded (l m : Listing) (e : Phrase) (f : Form) : Type 0 where
  pub more : IsMore l m
  pub is : (t : Sources) → Lists m t → IsForm t f e

-- the form of the part of a number, and the place where it begins
pub record IsFormOf (l m : Listing) (i : ℕ) (f : Form) (at : ℕ) : Type 0 where
  pub more : IsMore l m
  pub is : (t : Sources) → Lists m t → IsForm t f (phrase_at t i)
  pub start : (t : Sources) → Lists m t → place_in t at ≡ place (phrase_at t i)

-- the place where the part of a number begins
pub record IsStartOf (l m : Listing) (i at : ℕ) : Type 0 where
  pub more : IsMore l m
  pub is : (t : Sources) → Lists m t → place_in t at ≡ place (phrase_at t i)

-- what a call leaves of what was listed, unless memory ran out
abbrev pub AddsTo : {A : Type 0} → Listing → Listing → Result A ElabFault → Type 0
AddsTo l m (Ok x) = IsMore l m
AddsTo l m (Err (elab_fault.At f)) = IsMore l m
AddsTo l m (Err elab_fault.Memory) = Unit {0}

-- this fault, or memory ran out
pub data IsFaultOrMemory (f e : ElabFault) : Type 0 where
  Same : e ≡ f → IsFaultOrMemory f e
  OutOfMemory : e ≡ elab_fault.Memory → IsFaultOrMemory f e
