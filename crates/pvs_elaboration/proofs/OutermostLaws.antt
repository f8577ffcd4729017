-- What a machine answers that begins where no name is local and nothing is assumed.
use Rattle.std.proofs.Common.{arith, ◌≡◌, ◌<◌, ◌≤◌, ◌+◌, ℕ, zero, suc, take, get_or, List, [], ◌∷◌, ◌++◌, length, refl, sym, ◌∙◌, ap, subst}
use Rattle.std.specs.Prelude.{Result, Ok, Err}
use Rattle.std.specs.Borrow.{Bor}
use Rattle.std.proofs.lemmas.List.{take_all, take_more}
use Rattle.pvs_typing.specs.Growth.{AreKnown}
use Rattle.pvs_terms.specs.declared.shape.Sort.TheVariants.{OfType}
use Rattle.pvs_syntax.specs.declared.expression.Binding.{Binding}
use Rattle.pvs_terms.specs.Tree.{Text}
use Rattle.pvs_terms.specs.Stored.{Stored, tree_at}
use Rattle.pvs_elab.specs.Answer.{Answer}
use Rattle.pvs_elab.specs.Declaration.{top_level}
use Rattle.pvs_elab.specs.Desugar.{names}
use Rattle.pvs_elab.specs.Phrase.{Phrase}
use Rattle.pvs_elab.specs.Elab.{under_variable, under_name}
use Rattle.pvs_elab.specs.Elab as definition
use Rattle.pvs_phrases.specs.declared.part.Part.{Part}
use Rattle.pvs_phrases.specs.Parts as parts
use Rattle.pvs_phrases.specs.Parts.{bounds}
use Rattle.pvs_elaboration.specs.declared.fault.ElabFault.{ElabFault}
use Rattle.pvs_elaboration.specs.declared.fault.ElabFault.TheVariants as elab_fault
use Rattle.pvs_elaboration.specs.declared.here.Here.{Here}
use Rattle.pvs_elaboration.specs.declared.value.Mode.{Mode}
use Rattle.pvs_elaboration.specs.declared.value.Value.{Value}
use Rattle.pvs_elaboration.specs.declared.frame.Control.{Control}
use Rattle.pvs_elaboration.specs.declared.frame.Control.TheVariants as control
use Rattle.pvs_elaboration.specs.declared.frame.Frame.TheVariants as frame
use Rattle.pvs_elaboration.specs.declared.frame.Machine.{Machine}
use Rattle.pvs_elaboration.specs.declared.several.NamesRow.TheVariants as names_row
use Rattle.pvs_elaboration.specs.declared.value.Value.TheVariants as value
use Rattle.pvs_elaboration.specs.declared.listing.Listing.{Listing}
use Rattle.pvs_elaboration.specs.declared.outermost.Wanted.{Wanted}
use Rattle.pvs_elaboration.specs.declared.outermost.Wanted.TheVariants as wanted
use Rattle.pvs_elaboration.specs.Known.{Sources, phrase_among, phrase_at, Known, site_in, IsUnnamed, IsBelow, IsTypeOf}
use Rattle.pvs_elaboration.specs.Meanings.{Meaning}
use Rattle.pvs_elaboration.specs.Listing.{bytes_of, Lists, IsMore, AddsTo, AreNamesAdded, IsNameAdded}
use Rattle.pvs_elaboration.specs.Machine.{Tells, control_answer, machine_answer}
use Rattle.pvs_elaboration.specs.Several.{words_at}
use Rattle.pvs_elaboration.specs.Outermost.{named_control, site_of, under_names, IsUnderNames, IsOutermost, wanted_answer, wanted_mode}
use Rattle.pvs_elaboration.proofs.KnownLaws.{memory_failed, unnamed_site_is, variable_site_is, variable_site_stays}
use Rattle.pvs_elaboration.proofs.AskLaws.{elab_place}
use Rattle.pvs_elaboration.proofs.ListingLaws.{more_none, more_trans, names_length}
use Rattle.pvs_elaboration.proofs.MachineLaws.{started}
use Rattle.pvs_elaboration.proofs.RunLaws.{sources_of, lists_own}

outermost_site : {k : Known} {h : Here} (t : Sources) → IsOutermost k h → site_in k t h ≡ record { lookups = k.lookups; names = k.names; here = top_level }
unfolding site_in
outermost_site t o = rw (o.locals, o.context) refl

-- what is asked at a place
asked_there : (k : Known) (t : Sources) (p : ℕ) (w : Wanted) (h : definition.Here) → control_answer (site_of k h) k.stored t (control.Ask p (wanted_mode w)) ≡ wanted_answer k h (phrase_at t p) w
asked_there k t p wanted.Infer h = refl
asked_there k t p (wanted.Check a) h = rw (elab_place k.lookups k.names (phrase_at t p)) refl
asked_there k t p wanted.Formed h = refl

-- the part that was listed first
first_listed : {l : Listing} {part : Part} (t : Sources) → l.parts.items ≡ part ∷ [] → Lists l t → phrase_at t 0 ≡ parts.phrase_at l.text.now part
first_listed {l} t e h = ap (λ ps. phrase_among ps 0) h.phrases ∙ rw e refl

tells_same : (a b : Known) {r q : Answer Meaning} (x : Result Value ElabFault) → q ≡ r → Tells a b r x → Tells a b q x
tells_same a b x e h = subst (λ y. Tells a b y x) (sym e) h

-- What a machine answers is what elaboration does of the first phrase, at a place of the definition: `answer` is what it
-- answers of a text, where this is listed.
elaborated : (k b : Known) (l m : Listing) (e : Phrase) (h : definition.Here) (w : Wanted) (r : Result Value ElabFault) (answer : Sources → Answer Meaning) → ((t : Sources) → Lists l t → phrase_at t 0 ≡ e) → AddsTo l m r
    → ((t : Sources) → Lists l t → answer t ≡ wanted_answer k h (phrase_at t 0) w) → ((t : Sources) → Lists m t → Tells k b (answer t) r) → Tells k b (wanted_answer k h e w) r
elaborated k b l m e h w (Ok v) answer p i q s =
    let t = sources_of m in
    let own = i.lists t (lists_own m) in
    tells_same k b (Ok v) (ap (λ x. wanted_answer k h x w) (sym (p t own)) ∙ sym (q t own)) (s t (lists_own m))
elaborated k b l m e h w (Err (elab_fault.At f)) answer p i q s =
    let t = sources_of m in
    let own = i.lists t (lists_own m) in
    tells_same k b (Err (elab_fault.At f)) (ap (λ x. wanted_answer k h x w) (sym (p t own)) ∙ sym (q t own)) (s t (lists_own m))
elaborated k b l m e h w (Err elab_fault.Memory) answer p i q s = memory_failed (wanted_answer k h e w) (s (sources_of m) (lists_own m)).kept

-- the text that was listed, and what is listed after it
listed_text : {l j : Listing} {part : Part} (text : Text) → l.text.now ≡ text → l.parts.items ≡ part ∷ [] → IsMore l j → (t : Sources) → Lists j t → phrase_at t 0 ≡ parts.phrase_at text part
listed_text {part = part} text e p x t h = first_listed t p (x.lists t h) ∙ ap (λ v. parts.phrase_at v part) e

-- the same for the machine that the code starts
pub elaborate_is : (k b : Known) {h i : Here} (l n : Listing) {part : Part} {m : Mode} (text : Text) (w : Wanted) (r : Result Value ElabFault) → IsOutermost k h → l.text.now ≡ text → l.parts.items ≡ part ∷ [] → i ≡ h → m ≡ wanted_mode w → AddsTo l n r
    → ((t : Sources) → Lists n t → Tells k b (control_answer (site_in k t i) k.stored t (control.Ask 0 m)) r) → Tells k b (wanted_answer k top_level (parts.phrase_at text part) w) r
elaborate_is k b {h} {i} l n {part} {m} text w r o e p x y d s =
    elaborated k b l n (parts.phrase_at text part) top_level w r (λ t. control_answer (site_in k t i) k.stored t (control.Ask 0 m)) (listed_text text e p (more_none l)) d (λ t j. rw (x, y, outermost_site t o) (asked_there k t 0 w top_level)) s

-- a machine with nothing left to do
pub tells_started : (k b : Known) (text : Sources) (h : Here) (m : Machine) (c : Control) (r : Result Value ElabFault) → m.here ≡ h → m.entries.items ≡ [] → Tells k b (machine_answer k text m c) r → Tells k b (control_answer (site_in k text h) k.stored text c) r
tells_started k b text h m c r e d x = subst (λ y. Tells k b y r) (started k text h m c e d) x

-- Under parameters.

-- what is asked once a tuple's parts have their names
named_there : (k : Known) {h i : Here} {a : ℕ} (t : Sources) (xs : List Text) (first n : ℕ) (w : Wanted) → IsOutermost k h → IsUnnamed h a i → words_at t first (suc n) ≡ xs
    → control_answer (site_in k t i) k.stored t (control.Use (frame.Names (names_row.Tuple h.variable first n (wanted_mode w)) 0) value.Done) ≡ wanted_answer k (under_variable xs (tree_at k.stored a) top_level) (phrase_at t 0) w
named_there k {h} {i} {a} t xs first n w o u e =
    subst (λ ys. control_answer (site_in k t i) k.stored t (control.Use (frame.Names (names_row.Tuple h.variable first n (wanted_mode w)) 0) value.Done) ≡ wanted_answer k (under_variable ys (tree_at k.stored a) top_level) (phrase_at t 0) w) e
    (rw (unnamed_site_is k t o.here u, outermost_site t o, o.here.is_variable) (asked_there k t 0 w (under_variable (words_at t first (suc n)) (tree_at k.stored a) top_level)))

-- and where there are none
unnamed_there : (k : Known) {h i : Here} {a : ℕ} (t : Sources) (w : Wanted) → IsOutermost k h → IsUnnamed h a i
    → control_answer (site_in k t i) k.stored t (control.Ask 0 (wanted_mode w)) ≡ wanted_answer k (under_variable [] (tree_at k.stored a) top_level) (phrase_at t 0) w
unnamed_there k {a = a} t w o u = rw (unnamed_site_is k t o.here u, outermost_site t o) (asked_there k t 0 w (under_variable [] (tree_at k.stored a) top_level))

control_there : (k : Known) {h i : Here} {a : ℕ} (t : Sources) (xs : List Text) (first count : ℕ) (w : Wanted) → IsOutermost k h → IsUnnamed h a i → words_at t first count ≡ xs
    → control_answer (site_in k t i) k.stored t (named_control h.variable first count (wanted_mode w)) ≡ wanted_answer k (under_variable xs (tree_at k.stored a) top_level) (phrase_at t 0) w
control_there k {h} {i} {a} t xs first zero w o u e = subst (λ ys. control_answer (site_in k t i) k.stored t (control.Ask 0 (wanted_mode w)) ≡ wanted_answer k (under_variable ys (tree_at k.stored a) top_level) (phrase_at t 0) w) e (unnamed_there k t w o u)
control_there k t xs first (suc n) w o u e = named_there k t xs first n w o u e

elaborate_parameters : (k b : Known) {h i : Here} {a : ℕ} (l j n : Listing) {part : Part} {m : Mode} (text : Text) (xs : List Text) (first count : ℕ) (c : Control) (w : Wanted) (r : Result Value ElabFault)
    → IsOutermost k h → l.text.now ≡ text → l.parts.items ≡ part ∷ [] → IsUnnamed h a i → AreNamesAdded l j xs first → length xs ≡ count → m ≡ wanted_mode w → c ≡ named_control h.variable first count m → AddsTo j n r
    → ((t : Sources) → Lists n t → Tells k b (control_answer (site_in k t i) k.stored t c) r)
    → Tells k b (wanted_answer k (under_variable xs (tree_at k.stored a) top_level) (parts.phrase_at text part) w) r
elaborate_parameters k b {h} {i} {a} l j n {part} {m} text xs first count c w r o e p u x q y z d s =
    elaborated k b j n (parts.phrase_at text part) (under_variable xs (tree_at k.stored a) top_level) w r (λ t. control_answer (site_in k t i) k.stored t c) (listed_text text e p x.more) d
    (λ t f. rw (z, y) (control_there k t xs first count w o u (ap (words_at t first) (sym q) ∙ x.is t f))) s

pub elaborate_bound : (k b : Known) {h i : Here} {a : ℕ} (l j n : Listing) {part : Part} {m : Mode} (text : Text) (ps : List Binding) (first count : ℕ) (c : Control) (w : Wanted) (r : Result Value ElabFault)
    → IsOutermost k h → l.text.now ≡ text → l.parts.items ≡ part ∷ [] → IsUnnamed h a i → AreNamesAdded l j (names (bounds l.text.now ps)) first → count ≡ length ps → m ≡ wanted_mode w → c ≡ named_control h.variable first count m → AddsTo j n r
    → ((t : Sources) → Lists n t → Tells k b (control_answer (site_in k t i) k.stored t c) r)
    → Tells k b (wanted_answer k (under_variable (names (bounds text ps)) (tree_at k.stored a) top_level) (parts.phrase_at text part) w) r
elaborate_bound k b l j n text ps first count c w r o e p u x q y z d s =
    elaborate_parameters k b l j n text (names (bounds text ps)) first count c w r o e p u (subst (λ v. AreNamesAdded l j (names (bounds v ps)) first) e x) (names_length text ps ∙ sym q) y z d s

-- Under variables.

pub under_no_names : {k : Known} {h i : Here} (l : Listing) → IsOutermost k h → i ≡ h → IsUnderNames k l l [] [] i
under_no_names l o e = rw e (record { more = more_none l; here = o.here; site = λ t j. outermost_site t o })

under_last : (s : Stored) (h : definition.Here) (xs : List Text) (is : List ℕ) (x : Text) (i : ℕ) → length xs ≡ length is → under_names s h (xs ++ x ∷ []) (is ++ i ∷ []) ≡ under_name x (tree_at s i) (under_names s h xs is)
under_last s h [] [] x i e = refl
under_last s h [] (j ∷ is) x i e = absurd (omega (arith, e))
under_last s h (y ∷ xs) [] x i e = absurd (omega (arith, e))
under_last s h (y ∷ xs) (j ∷ is) x i e = under_last s (under_name y (tree_at s j) h) xs is x i (omega (arith, e))

pub under_one_more : {k : Known} {l m n : Listing} {xs : List Text} {is : List ℕ} {x : Text} {a number : ℕ} {i j : Here} → length xs ≡ length is → IsUnderNames k l m xs is i → IsNameAdded m n x number → IsTypeOf k a → IsBelow i number a j → IsUnderNames k l n (xs ++ x ∷ []) (is ++ a ∷ []) j
under_one_more {k} {xs = xs} {is} {x} {a} e u d p b = record {
  more = more_trans u.more d.more;
  here = variable_site_stays u.here p b;
  site = λ t h. variable_site_is k t u.here b ∙ rw (d.is t h, u.site t (d.more.lists t h), under_last k.stored top_level xs is x a e) refl;
}

known_at : (k : Known) (is : List ℕ) (p a : ℕ) → p < length is → a ≡ get_or is p a → AreKnown k.stored k.declares OfType is → IsTypeOf k a
known_at k [] p a h e n = absurd (omega (arith, h))
known_at k (i ∷ is) zero a h e n = subst (IsTypeOf k) (sym e) n.0
known_at k (i ∷ is) (suc p) a h e n = known_at k is p a (omega (arith, h)) e n.1

bytes_last : (ns : List (Bor Text)) (v : Bor Text) → bytes_of (ns ++ v ∷ []) ≡ bytes_of ns ++ v.now ∷ []
bytes_last [] v = refl
bytes_last (n ∷ ns) v = ap (λ xs. n.now ∷ xs) (bytes_last ns v)

bytes_length : (ns : List (Bor Text)) → length (bytes_of ns) ≡ length ns
bytes_length [] = refl
bytes_length (n ∷ ns) = ap suc (bytes_length ns)

take_length : {A : Type 0} (p : ℕ) (xs : List A) → p ≤ length xs → length (take p xs) ≡ p
take_length zero xs h = refl
take_length (suc p) [] h = absurd (omega (arith, h))
take_length (suc p) (x ∷ xs) h = ap suc (take_length p xs (omega (arith, h)))

-- under the next variable
pub under_next : {k : Known} {l m n : Listing} (ns : List (Bor Text)) (is : List ℕ) (p : ℕ) (d : Bor Text) (a : ℕ) {number : ℕ} {i j : Here} → p < length ns → length ns ≡ length is → a ≡ get_or is p a
    → AreKnown k.stored k.declares OfType is → IsUnderNames k l m (bytes_of (take p ns)) (take p is) i → IsNameAdded m n (get_or ns p d).now number → IsBelow i number a j → IsUnderNames k l n (bytes_of (take (p + 1) ns)) (take (p + 1) is) j
under_next {k} {l} {m} {n} ns is p d a {number} {i} {j} h e y q u added b =
    let shorter : p < length is = omega (arith, h, e) in
    let names : bytes_of (take (p + 1) ns) ≡ bytes_of (take p ns) ++ (get_or ns p d).now ∷ [] = ap bytes_of (take_more ns p d h) ∙ bytes_last (take p ns) (get_or ns p d) in
    let types : take (p + 1) is ≡ take p is ++ a ∷ [] = take_more is p a shorter ∙ ap (λ z. take p is ++ z ∷ []) (sym y) in
    let same : length (bytes_of (take p ns)) ≡ length (take p is) = bytes_length (take p ns) ∙ take_length p ns (omega (arith, h)) ∙ sym (take_length p is (omega (arith, shorter))) in
    rw (names, types) (under_one_more same u added (known_at k is p a shorter y q) b)

pub under_all_names : {k : Known} {l m : Listing} (ns : List (Bor Text)) (is : List ℕ) (p : ℕ) {i : Here} → length ns ≤ p → length ns ≡ length is → IsUnderNames k l m (bytes_of (take p ns)) (take p is) i → IsUnderNames k l m (bytes_of ns) is i
under_all_names {k} {l} {m} ns is p {i} h e u = subst (λ xs. IsUnderNames k l m (bytes_of xs) is i) (take_all p ns h) (subst (λ ys. IsUnderNames k l m (bytes_of (take p ns)) ys i) (take_all p is (omega (arith, h, e))) u)

pub elaborate_names : (k b : Known) {i : Here} (l j n : Listing) {part : Part} {m : Mode} (text : Text) (xs : List Text) (is : List ℕ) (w : Wanted) (r : Result Value ElabFault)
    → l.text.now ≡ text → l.parts.items ≡ part ∷ [] → IsUnderNames k l j xs is i → m ≡ wanted_mode w → AddsTo j n r
    → ((t : Sources) → Lists n t → Tells k b (control_answer (site_in k t i) k.stored t (control.Ask 0 m)) r)
    → Tells k b (wanted_answer k (under_names k.stored top_level xs is) (parts.phrase_at text part) w) r
elaborate_names k b {i} l j n {part} {m} text xs is w r e p u y d s =
    elaborated k b j n (parts.phrase_at text part) (under_names k.stored top_level xs is) w r (λ t. control_answer (site_in k t i) k.stored t (control.Ask 0 m)) (listed_text text e p u.more) d
    (λ t f. rw (y, u.site t f) (asked_there k t 0 w (under_names k.stored top_level xs is))) s
