-- What is left of each form, where the store has grown.
use Rattle.std.proofs.Common.{◌≡◌, ℕ, suc, refl, ◌∙◌, ap}
use Rattle.std.proofs.Math.Path.{fun_ext}
use Rattle.pvs_terms.specs.Tree.{Tree, Snd}
use Rattle.pvs_terms.specs.Stored.{tree_at}
use Rattle.pvs_elaboration.specs.declared.binder.Binding.{Binding}
use Rattle.pvs_elaboration.specs.declared.lets.Definition.{Definition}
use Rattle.pvs_elaboration.specs.declared.lets.LetRow.{LetRow}
use Rattle.pvs_elaboration.specs.declared.lets.LetRow.TheVariants as lets
use Rattle.pvs_elaboration.specs.declared.subtypes.SubtypeRow.{SubtypeRow}
use Rattle.pvs_elaboration.specs.declared.subtypes.SubtypeRow.TheVariants as subtype
use Rattle.pvs_elaboration.specs.declared.subtypes.PredicateRow.{PredicateRow}
use Rattle.pvs_elaboration.specs.declared.subtypes.PredicateRow.TheVariants as predicate
use Rattle.pvs_elaboration.specs.declared.tuples.Pair.{Pair}
use Rattle.pvs_elaboration.specs.declared.tuples.TupleRow.{TupleRow}
use Rattle.pvs_elaboration.specs.declared.tuples.TupleRow.TheVariants as tuple
use Rattle.pvs_elaboration.specs.declared.tuples.ProductRow.{ProductRow}
use Rattle.pvs_elaboration.specs.declared.tuples.ProductRow.TheVariants as product
use Rattle.pvs_elaboration.specs.declared.parts.Projection.{Projection}
use Rattle.pvs_elaboration.specs.declared.parts.PartRow.{PartRow}
use Rattle.pvs_elaboration.specs.declared.parts.PartRow.TheVariants as part
use Rattle.pvs_elaboration.specs.declared.several.Variables.{Variables}
use Rattle.pvs_elaboration.specs.declared.several.SeveralRow.{SeveralRow}
use Rattle.pvs_elaboration.specs.declared.several.SeveralRow.TheVariants as several
use Rattle.pvs_elaboration.specs.declared.several.NamesRow.{NamesRow}
use Rattle.pvs_elaboration.specs.declared.several.NamesRow.TheVariants as names
use Rattle.pvs_elaboration.specs.declared.value.Mode.{Mode}
use Rattle.pvs_elaboration.specs.declared.value.Mode.TheVariants as mode
use Rattle.pvs_elab.specs.Phrase.{Phrase}
use Rattle.pvs_elaboration.specs.Known.{Sources, phrase_at, word_at, Known, Grows, Site, local_site, parts_site, AreKnownNumbers}
use Rattle.pvs_elaboration.specs.Meanings.{on_term, on_done}
use Rattle.pvs_elaboration.specs.Lets.{let_answer, let_numbers}
use Rattle.pvs_elaboration.specs.Subtypes.{subtype_answer, subtype_numbers, predicate_answer, predicate_numbers}
use Rattle.pvs_elaboration.specs.Tuples.{tuple_answer, tuple_numbers, product_answer, product_numbers}
use Rattle.pvs_elaboration.specs.Parts.{part_answer, part_numbers}
use Rattle.pvs_elaboration.specs.Several.{words_at, several_answer}
use Rattle.pvs_elaboration.specs.Machine.{asked_at, mode_numbers, names_answer, names_numbers}
use Rattle.pvs_elaboration.proofs.KnownLaws.{tree_stays}

pub let_stays : {a b : Known} (z : Site) (text : Sources) (f : LetRow) (o : Definition) → Grows a b → AreKnownNumbers a (let_numbers f) → let_answer z b.stored text f o ≡ let_answer z a.stored text f o
let_stays z text lets.Value o g n = refl
let_stays z text (lets.Formed p) o g n = rw (tree_stays g n.0, tree_stays g n.1.0) refl
let_stays z text lets.Annotation o g n = refl
let_stays z text (lets.Checked c) o g n = rw (tree_stays g n.0) refl
let_stays z text (lets.Body c w) o g n = rw (tree_stays g n.0, tree_stays g n.1.0) refl
let_stays z text (lets.Lambda c r w) o g n = rw (tree_stays g n.0, tree_stays g n.1.0, tree_stays g n.1.1.0) refl
let_stays z text (lets.Tree c r w) o g n = rw (tree_stays g n.0, tree_stays g n.1.0, tree_stays g n.1.1.0) refl
let_stays z text (lets.Type t r w) o g n = rw (tree_stays g n.0, tree_stays g n.1.0, tree_stays g n.1.1.0) refl

pub subtype_stays : {a b : Known} (z : Site) (text : Sources) (f : SubtypeRow) (o : Binding) → Grows a b → AreKnownNumbers a (subtype_numbers f) → subtype_answer z b.stored text f o ≡ subtype_answer z a.stored text f o
subtype_stays z text subtype.Type o g n = refl
subtype_stays z text (subtype.Predicate c) o g n = rw (tree_stays g n.0) refl

pub predicate_stays : {a b : Known} (z : Site) (text : Sources) (f : PredicateRow) (start at : ℕ) → Grows a b → AreKnownNumbers a (predicate_numbers f) → predicate_answer z b.stored text f start at ≡ predicate_answer z a.stored text f start at
predicate_stays z text predicate.Type start at g n = refl
predicate_stays z text (predicate.Head p) start at g n = rw (tree_stays g n.0) refl
predicate_stays z text (predicate.Range p c) start at g n = rw (tree_stays g n.0, tree_stays g n.1.0) refl
predicate_stays z text (predicate.Lifted c) start at g n = rw (tree_stays g n.0) refl
predicate_stays z text (predicate.Application c) start at g n = rw (tree_stays g n.0) refl

pub tuple_stays : {a b : Known} (z : Site) (text : Sources) (f : TupleRow) (o : Pair) → Grows a b → AreKnownNumbers a (tuple_numbers f) → tuple_answer z b.stored text f o ≡ tuple_answer z a.stored text f o
tuple_stays z text tuple.First o g n = refl
tuple_stays z text (tuple.Second p) o g n = rw (tree_stays g n.0, tree_stays g n.1.0) refl
tuple_stays z text (tuple.Tree c d) o g n = rw (tree_stays g n.0, tree_stays g n.1.0) refl
tuple_stays z text (tuple.Lifted t c) o g n = rw (tree_stays g n.0, tree_stays g n.1.0) refl

pub product_stays : {a b : Known} (z : Site) (text : Sources) (f : ProductRow) (k : ℕ) (o : Binding) → Grows a b → AreKnownNumbers a (product_numbers f) → product_answer z b.stored text f k o ≡ product_answer z a.stored text f k o
product_stays z text product.First k o g n = refl
product_stays z text (product.Second c) k o g n = rw (tree_stays g n.0) refl

pub part_stays : {a b : Known} (z : Site) (text : Sources) (f : PartRow) (o : Projection) → Grows a b → AreKnownNumbers a (part_numbers f) → part_answer z b.stored text f o ≡ part_answer z a.stored text f o
part_stays z text part.Operand o g n = refl
part_stays z text (part.Size t) o g n = rw (tree_stays g n.0, tree_stays g n.1.0) refl
part_stays z text (part.From m i) o g n = refl
part_stays z text (part.Head m i t) o g n = rw (tree_stays g n.0) refl
part_stays z text (part.Others m i t e) o g n = rw (tree_stays g n.0, tree_stays g n.1.0) refl
part_stays z text (part.Rest m i f e) o g n = rw (tree_stays g n.0, tree_stays g n.1.0) refl
part_stays z text (part.Next m i u) o g n = rw (tree_stays g n.0) refl

pub several_stays : {a b : Known} (z : Site) (text : Sources) (f : SeveralRow) (o : Variables) → Grows a b → several_answer z b.stored text f o ≡ several_answer z a.stored text f o
several_stays z text several.Lambda o g = refl
several_stays z text several.Predicate o g = refl
several_stays z text several.Function o g = refl

-- what a phrase answers
asked_stays : {a b : Known} (z : Site) (text : Sources) (m : Mode) (e : Phrase) → Grows a b → AreKnownNumbers a (mode_numbers m) → asked_at z b.stored text m e ≡ asked_at z a.stored text m e
asked_stays z text mode.Infer e g n = refl
asked_stays z text (mode.Check u) e g n = rw (tree_stays g n.0) refl
asked_stays z text (mode.CheckAt at u) e g n = rw (tree_stays g n.0) refl
asked_stays z text mode.Formed e g n = refl
asked_stays z text mode.Predicate e g n = refl

pub names_stay : {a b : Known} (z : Site) (text : Sources) (f : NamesRow) (body : ℕ) → Grows a b → AreKnownNumbers a (names_numbers f) → names_answer z b.stored text f body ≡ names_answer z a.stored text f body
names_stay {a} {b} z text (names.Tuple t i n m) body g k =
    ap (λ (u : Tree). on_done (asked_at (parts_site (words_at text i (suc n)) u z) b.stored text m (phrase_at text body))) (tree_stays g k.0)
    ∙ ap on_done (asked_stays (parts_site (words_at text i (suc n)) (tree_at a.stored t) z) text m (phrase_at text body) g k.1)
names_stay {a} {b} z text (names.First t i n m) body g k =
    let there : Tree → Tree → Site = λ u f. parts_site (words_at text (suc i) (suc n)) (Snd (suc (suc n)) u) (local_site (word_at text i) f z) in
    ap (λ (u : Tree). on_term (λ f. asked_at (there u f) b.stored text m (phrase_at text body))) (tree_stays g k.0)
    ∙ ap on_term (fun_ext (λ f. asked_stays (there (tree_at a.stored t) f) text m (phrase_at text body) g k.1))
names_stay {a} {b} z text (names.Second f i n m) body g k =
    let there : Tree → Tree → Site = λ f u. parts_site (words_at text (suc i) (suc n)) u (local_site (word_at text i) f z) in
    ap (λ (w : Tree). on_term (λ u. asked_at (there w u) b.stored text m (phrase_at text body))) (tree_stays g k.0)
    ∙ ap on_term (fun_ext (λ u. asked_stays (there (tree_at a.stored f) u) text m (phrase_at text body) g k.1))
