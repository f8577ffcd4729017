-- What is listed is looked up by its number.
use Rattle.std.proofs.Common.{◌≡◌, ◌<◌, ◌≤◌, ◌+◌, ℕ, zero, suc, List, [], ◌∷◌, ◌++◌, length, map, take, get_or, refl, sym, ◌∙◌, ap, ap₂, subst, arith}
use Rattle.std.proofs.lemmas.List.{append-nil, take_all, take_more}
use Rattle.std.specs.Prelude.{Result, Ok, Err}
use Rattle.std.specs.Borrow.{Bor}
use Rattle.pvs_base.specs.declared.place.Pos.{Pos}
use Rattle.pvs_base.specs.declared.code.Code.{Code}
use Rattle.pvs_base.specs.declared.code.Code.TheVariants.{TooLarge}
use Rattle.pvs_terms.specs.Tree.{Text}
use Rattle.pvs_syntax.specs.Words.{spelling}
use Rattle.pvs_syntax.specs.declared.expression.Binding.{Binding, out-Binding}
use Rattle.pvs_elab.specs.Answer.{Answer, place_of_code}
use Rattle.pvs_elab.specs.Desugar.{bound_of, names}
use Rattle.pvs_elab.specs.Phrase.{Phrase, place}
use Rattle.pvs_phrases.specs.declared.part.Part.{Part}
use Rattle.pvs_phrases.specs.declared.part.Place.{Place}
use Rattle.pvs_phrases.specs.declared.part.Place.TheVariants.{At as place_at}
use Rattle.pvs_phrases.specs.Parts as parts
use Rattle.pvs_phrases.specs.Parts.{bounds}
use Rattle.pvs_phrases.proofs.BindingLaws.{bound_name}
use Rattle.pvs_elaboration.specs.declared.fault.ElabFault.{ElabFault}
use Rattle.pvs_elaboration.specs.declared.fault.ElabFault.TheVariants as elab_fault
use Rattle.pvs_elaboration.specs.declared.listing.Listing.{Listing}
use Rattle.pvs_elaboration.specs.declared.listing.Form.{Form}
use Rattle.pvs_elaboration.specs.Known.{Sources, phrase_among, place_among, word_among, phrase_at, place_in, word_at, Known, Failed}
use Rattle.pvs_elaboration.specs.Meanings.{fault_at}
use Rattle.pvs_elaboration.specs.Several.{words_at}
use Rattle.pvs_elaboration.specs.Listing.{Lists, bytes_of, IsMore, IsPartAdded, IsPlaceAdded, IsNameAdded, IsLastName, AreNamesAdded, AreVariablesAdded, IsStartAdded, IsStartOf, IsForm, IsFormAdded, IsFormOf, AddsTo, IsFaultOrMemory, Same, OutOfMemory}

place_among_listed : (f : Place → Pos) (xs : List Place) (ys : List Pos) (i : ℕ) (d : Place) → i < length xs → place_among (map f xs ++ ys) i ≡ f (get_or xs i d)
place_among_listed f [] ys i d h = absurd (omega (arith, h))
place_among_listed f (x ∷ xs) ys zero d h = refl
place_among_listed f (x ∷ xs) ys (suc i) d h = place_among_listed f xs ys i d (omega (arith, h))

pub place_listed : (l : Listing) (t : Sources) (i : ℕ) (d : Place) → Lists l t → i < length l.places.items → place_in t i ≡ parts.place_in l.text.now (get_or l.places.items i d)
place_listed l t i d h n = ap (λ (ps : List Pos). place_among ps i) h.places ∙ place_among_listed (parts.place_in l.text.now) l.places.items h.more_places i d n

phrase_among_listed : (f : Part → Phrase) (xs : List Part) (ys : List Phrase) (i : ℕ) (d : Part) → i < length xs → phrase_among (map f xs ++ ys) i ≡ f (get_or xs i d)
phrase_among_listed f [] ys i d h = absurd (omega (arith, h))
phrase_among_listed f (x ∷ xs) ys zero d h = refl
phrase_among_listed f (x ∷ xs) ys (suc i) d h = phrase_among_listed f xs ys i d (omega (arith, h))

pub phrase_listed : (l : Listing) (t : Sources) (i : ℕ) (d : Part) → Lists l t → i < length l.parts.items → phrase_at t i ≡ parts.phrase_at l.text.now (get_or l.parts.items i d)
phrase_listed l t i d h n = ap (λ (ps : List Phrase). phrase_among ps i) h.phrases ∙ phrase_among_listed (parts.phrase_at l.text.now) l.parts.items h.more_phrases i d n

word_among_listed : (f : Bor Text → Text) (xs : List (Bor Text)) (ys : List Text) (i : ℕ) (d : Bor Text) → i < length xs → word_among (map f xs ++ ys) i ≡ f (get_or xs i d)
word_among_listed f [] ys i d h = absurd (omega (arith, h))
word_among_listed f (x ∷ xs) ys zero d h = refl
word_among_listed f (x ∷ xs) ys (suc i) d h = word_among_listed f xs ys i d (omega (arith, h))

pub word_listed : (l : Listing) (t : Sources) (i : ℕ) (d : Bor Text) → Lists l t → i < length l.names.items → word_at t i ≡ (get_or l.names.items i d).now
word_listed l t i d h n = ap (λ (ps : List Text). word_among ps i) h.words ∙ word_among_listed (λ x. x.now) l.names.items h.more_words i d n

-- The fault of a listed place.

pub fault_listed : {l : Listing} {t : Sources} {i : ℕ} {x : Place} {p : Pos} (c : Code) → Lists l t → i < length l.places.items → x ≡ get_or l.places.items i x → p ≡ parts.place_in l.text.now x
    → IsFaultOrMemory (fault_at (place_in t i) c) (elab_fault.At (record { pos = p; code = c }))
fault_listed {l} {t} {i} {x} {p} c h n e d = Same (ap (λ (q : Pos). fault_at q c) (d ∙ ap (parts.place_in l.text.now) e ∙ sym (place_listed l t i x h n)))

pub other_place : (large at : Pos) (c : Code) → ¬ (c ≡ TooLarge) → place_of_code large at c ≡ at
other_place large at TooLarge n = absurd (n refl)
other_place large at c n = refl

-- a fault that a call answers, where it is this one or memory ran out
pub failed_or_memory : {X : Type 0} {a b : Known} (r : Answer X) (f e : ElabFault) → IsFaultOrMemory f e → Failed a b r f → Failed a b r e
failed_or_memory {X} {a} {b} r f e (Same q) x = subst (λ y. Failed a b r y) (sym q) x
failed_or_memory {X} {a} {b} r f e (OutOfMemory q) x = subst (λ y. Failed a b r y) (sym q) (record { kept = x.kept; is = tt })

-- what is listed, and no more
pub listed : Listing → Sources
listed l = record { phrases = map (parts.phrase_at l.text.now) l.parts.items; places = map (parts.place_in l.text.now) l.places.items; words = bytes_of l.names.items }

pub lists_listed : (l : Listing) → Lists l (listed l)
unfolding listed
lists_listed l = record {
  more_phrases = [];
  more_places = [];
  more_words = [];
  phrases = sym (append-nil _);
  places = sym (append-nil _);
  words = sym (append-nil _);
}

-- What is added to a listing.

pub more_none : (l : Listing) → IsMore l l
more_none l = record { text = refl; lists = λ t h. h }

pub more_trans : {l m n : Listing} → IsMore l m → IsMore m n → IsMore l n
more_trans a b = record { text = b.text ∙ a.text; lists = λ t h. a.lists t (b.lists t h) }

mapped_end : {A B : Type 0} (f : A → B) (xs : List A) (x : A) (ys : List B) → map f (xs ++ x ∷ []) ++ ys ≡ map f xs ++ f x ∷ ys
mapped_end f [] x ys = refl
mapped_end f (z ∷ xs) x ys = ap (◌∷◌ (f z)) (mapped_end f xs x ys)

last_phrase : {A : Type 0} (f : A → Phrase) (xs : List A) (y : Phrase) (ys : List Phrase) → phrase_among (map f xs ++ y ∷ ys) (length xs) ≡ y
last_phrase f [] y ys = refl
last_phrase f (x ∷ xs) y ys = last_phrase f xs y ys

last_place : {A : Type 0} (f : A → Pos) (xs : List A) (y : Pos) (ys : List Pos) → place_among (map f xs ++ y ∷ ys) (length xs) ≡ y
last_place f [] y ys = refl
last_place f (x ∷ xs) y ys = last_place f xs y ys

last_word : {A : Type 0} (f : A → Text) (xs : List A) (y : Text) (ys : List Text) → word_among (map f xs ++ y ∷ ys) (length xs) ≡ y
last_word f [] y ys = refl
last_word f (x ∷ xs) y ys = last_word f xs y ys

pub part_added : (l m : Listing) (p : Part) (i : ℕ) → i ≡ length l.parts.items → m.text ≡ l.text → m.parts.items ≡ l.parts.items ++ p ∷ [] → m.places.items ≡ l.places.items → m.names.items ≡ l.names.items → IsPartAdded l m p i
part_added l m p i n e ps qs ns =
    let text : m.text.now ≡ l.text.now = ap (λ (x : Bor Text). x.now) e in
    let phrases = λ (t : Sources) (h : Lists m t). h.phrases ∙ ap₂ (λ (x : Text) (y : List Part). map (parts.phrase_at x) y ++ h.more_phrases) text ps ∙ mapped_end (parts.phrase_at l.text.now) l.parts.items p h.more_phrases in
    record {
      more = record {
        text = text;
        lists = λ t h. record {
          more_phrases = parts.phrase_at l.text.now p ∷ h.more_phrases;
          more_places = h.more_places;
          more_words = h.more_words;
          phrases = phrases t h;
          places = h.places ∙ ap₂ (λ (x : Text) (y : List Place). map (parts.place_in x) y ++ h.more_places) text qs;
          words = h.words ∙ ap (λ y. bytes_of y ++ h.more_words) ns;
        };
      };
      is = λ t h. ap₂ phrase_among (phrases t h) n ∙ last_phrase (parts.phrase_at l.text.now) l.parts.items (parts.phrase_at l.text.now p) h.more_phrases;
    }

pub place_added : (l m : Listing) (p : Place) (i : ℕ) → i ≡ length l.places.items → m.text ≡ l.text → m.parts.items ≡ l.parts.items → m.places.items ≡ l.places.items ++ p ∷ [] → m.names.items ≡ l.names.items → IsPlaceAdded l m p i
place_added l m p i n e ps qs ns =
    let text : m.text.now ≡ l.text.now = ap (λ (x : Bor Text). x.now) e in
    let places = λ (t : Sources) (h : Lists m t). h.places ∙ ap₂ (λ (x : Text) (y : List Place). map (parts.place_in x) y ++ h.more_places) text qs ∙ mapped_end (parts.place_in l.text.now) l.places.items p h.more_places in
    record {
      more = record {
        text = text;
        lists = λ t h. record {
          more_phrases = h.more_phrases;
          more_places = parts.place_in l.text.now p ∷ h.more_places;
          more_words = h.more_words;
          phrases = h.phrases ∙ ap₂ (λ (x : Text) (y : List Part). map (parts.phrase_at x) y ++ h.more_phrases) text ps;
          places = places t h;
          words = h.words ∙ ap (λ y. bytes_of y ++ h.more_words) ns;
        };
      };
      is = λ t h. ap₂ place_among (places t h) n ∙ last_place (parts.place_in l.text.now) l.places.items (parts.place_in l.text.now p) h.more_places;
    }

pub name_added : (l m : Listing) (x : Bor Text) (i : ℕ) → i ≡ length l.names.items → m.text ≡ l.text → m.parts.items ≡ l.parts.items → m.places.items ≡ l.places.items → m.names.items ≡ l.names.items ++ x ∷ [] → IsNameAdded l m x.now i
name_added l m x i n e ps qs ns =
    let text : m.text.now ≡ l.text.now = ap (λ (x : Bor Text). x.now) e in
    let words = λ (t : Sources) (h : Lists m t). h.words ∙ ap (λ y. bytes_of y ++ h.more_words) ns ∙ mapped_end (λ (y : Bor Text). y.now) l.names.items x h.more_words in
    record {
      more = record {
        text = text;
        lists = λ t h. record {
          more_phrases = h.more_phrases;
          more_places = h.more_places;
          more_words = x.now ∷ h.more_words;
          phrases = h.phrases ∙ ap₂ (λ (x : Text) (y : List Part). map (parts.phrase_at x) y ++ h.more_phrases) text ps;
          places = h.places ∙ ap₂ (λ (x : Text) (y : List Place). map (parts.place_in x) y ++ h.more_places) text qs;
          words = words t h;
        };
      };
      is = λ t h. ap₂ word_among (words t h) n ∙ last_word (λ (y : Bor Text). y.now) l.names.items x.now h.more_words;
    }

-- the form of a listed part
pub form_found : {l a m : Listing} {i : ℕ} {p : Part} {e : Phrase} {f : Form} {at : ℕ} → i < length l.parts.items → p ≡ get_or l.parts.items i p → e ≡ parts.phrase_at l.text.now p → IsFormAdded l a e f → IsStartAdded a m p at → IsFormOf l m i f at
form_found {l} {a} {m} {i} {p} {f = f} n e d r s =
    let phrase_is = λ (t : Sources) (h : Lists m t). phrase_listed l t i p (r.more.lists t (s.more.lists t h)) n ∙ ap (parts.phrase_at l.text.now) (sym e) in
    record {
      more = more_trans r.more s.more;
      is = λ t h. subst (IsForm t f) (d ∙ sym (phrase_is t h)) (r.is t (s.more.lists t h));
      start = λ t h. s.is t h ∙ ap (λ (v : Text). place (parts.phrase_at v p)) r.more.text ∙ sym (ap place (phrase_is t h));
    }

-- the place where a listed part begins
pub start_found : {l m : Listing} {i : ℕ} {p : Part} {at : ℕ} → i < length l.parts.items → p ≡ get_or l.parts.items i p → IsStartAdded l m p at → IsStartOf l m i at
start_found {l} {m} {i} {p} {at} n e s = record {
  more = s.more;
  is = λ t h. s.is t h ∙ sym (ap place (phrase_listed l t i p (s.more.lists t h) n ∙ ap (parts.phrase_at l.text.now) (sym e)));
}

-- Names that are listed one after another.

length_last : {A : Type 0} (xs : List A) (x : A) → length (xs ++ x ∷ []) ≡ suc (length xs)
length_last [] x = refl
length_last (y ∷ ys) x = ap suc (length_last ys x)

pub last_name : (l m : Listing) (x : Bor Text) (y : Text) → x.now ≡ y → m.text ≡ l.text → m.parts.items ≡ l.parts.items → m.places.items ≡ l.places.items → m.names.items ≡ l.names.items ++ x ∷ [] → IsLastName l m y
last_name l m x y d e ps qs ns =
    let a = name_added l m x (length l.names.items) refl e ps qs ns in
    subst (IsLastName l m) d (record { more = a.more; count = ap length ns ∙ length_last l.names.items x; is = a.is })

words_more : (t : Sources) (i n : ℕ) → words_at t i (suc n) ≡ words_at t i n ++ word_at t (i + n) ∷ []
words_more t i zero = ap (λ (j : ℕ). word_at t j ∷ []) (omega arith)
words_more t i (suc n) =
    let e : suc i + n ≡ i + suc n = omega arith in
    ap (◌∷◌ (word_at t i)) (words_more t (suc i) n ∙ ap (λ (j : ℕ). words_at t (suc i) n ++ word_at t j ∷ []) e)

-- the names of some of these variables, the first first
pub record AreListed (l m : Listing) (xs : List Text) (first : ℕ) : Type 0 where
  pub more : IsMore l m
  pub count : length m.names.items ≡ first + length xs
  pub is : (t : Sources) → Lists m t → words_at t first (length xs) ≡ xs

pub none_listed : (l : Listing) (i : ℕ) → i ≡ length l.names.items → AreListed l l [] i
none_listed l i e = record { more = more_none l; count = omega (arith, e); is = λ t h. refl }

pub one_more : {l m n : Listing} {xs : List Text} {x : Text} {i : ℕ} → AreListed l m xs i → IsLastName m n x → AreListed l n (xs ++ x ∷ []) i
one_more {l} {m} {n} {xs} {x} {i} a b =
    let size : length (xs ++ x ∷ []) ≡ suc (length xs) = length_last xs x in
    record {
      more = more_trans a.more b.more;
      count = omega (arith, a.count, b.count, size);
      is = λ t h. ap (words_at t i) size ∙ words_more t i (length xs)
          ∙ ap₂ (λ (ys : List Text) (y : Text). ys ++ y ∷ []) (a.is t (b.more.lists t h)) (ap (word_at t) (sym a.count) ∙ b.is t h);
    }

pub names_listed : {l m : Listing} {xs : List Text} {i : ℕ} → AreListed l m xs i → AreNamesAdded l m xs i
names_listed a = record { more = a.more; is = a.is }

-- the names of these variables

names_last : (text : Text) (vs : List Binding) (v : Binding) → names (bounds text (vs ++ v ∷ [])) ≡ names (bounds text vs) ++ (bound_of text v).name ∷ []
names_last text [] v = refl
names_last text (u ∷ us) v = ap (◌∷◌ (bound_of text u).name) (names_last text us v)

pub variable_listed : {l m n : Listing} (vs : List Binding) (k : ℕ) (v : Binding) {i : ℕ} → k < length vs → v ≡ get_or vs k v → AreListed l m (names (bounds l.text.now (take k vs))) i
    → IsLastName m n (spelling m.text.now (out-Binding v).word) → AreListed l n (names (bounds l.text.now (take (k + 1) vs))) i
variable_listed {l} {m} {n} vs k v {i} h e a b =
    let text = l.text.now in
    let last : (bound_of text (get_or vs k v)).name ≡ spelling m.text.now (out-Binding v).word =
    ap (λ (u : Binding). (bound_of text u).name) (sym e) ∙ bound_name text v ∙ ap (λ (x : Text). spelling x (out-Binding v).word) (sym a.more.text) in
    subst (λ (xs : List Text). AreListed l n xs i)
    (sym (ap (λ us. names (bounds text us)) (take_more vs k v h) ∙ names_last text (take k vs) (get_or vs k v) ∙ ap (λ (x : Text). names (bounds text (take k vs)) ++ x ∷ []) last))
    (one_more a b)

pub variables_listed : {l m : Listing} (vs : List Binding) (k : ℕ) {i : ℕ} → length vs ≤ k → AreListed l m (names (bounds l.text.now (take k vs))) i → AreNamesAdded l m (names (bounds l.text.now vs)) i
variables_listed {l} {m} vs k {i} h a = names_listed (subst (λ us. AreListed l m (names (bounds l.text.now us)) i) (take_all k vs h) a)

pub names_length : (text : Text) (vs : List Binding) → length (names (bounds text vs)) ≡ length vs
names_length text [] = refl
names_length text (v ∷ vs) = ap suc (names_length text vs)

pub scope_listed : {l a b m : Listing} (vs : List Binding) (p : Part) (pos : Pos) {i at body : ℕ} → AreNamesAdded l a (names (bounds l.text.now vs)) i → IsPlaceAdded a b (place_at pos) at → IsPartAdded b m p body
    → AreVariablesAdded l m (names (bounds l.text.now vs)) p pos (record { first = i; count = length vs; body = body; at = at })
scope_listed {l} {a} {b} {m} vs p pos {i} {at} {body} r s t = record {
  more = more_trans r.more (more_trans s.more t.more);
  names = λ q h. ap (words_at q i) (sym (names_length l.text.now vs)) ∙ r.is q (s.more.lists q (t.more.lists q h));
  body = λ q h. t.is q h ∙ ap (λ (x : Text). parts.phrase_at x p) (s.more.text ∙ r.more.text);
  at = λ q h. s.is q (t.more.lists q h);
}

-- what is listed after a call, where it answers and where it fails
pub adds : {A : Type 0} {l m : Listing} (r : Result A ElabFault) → IsMore l m → AddsTo l m r
adds (Ok x) h = h
adds (Err (elab_fault.At f)) h = h
adds (Err elab_fault.Memory) h = tt

pub adds_same : (A B : Type 0) (l m : Listing) (e : ElabFault) → AddsTo {A = A} l m (Err e) → AddsTo {A = B} l m (Err e)
adds_same A B l m (elab_fault.At f) h = h
adds_same A B l m elab_fault.Memory h = tt
