-- The phrases in a layer are smaller than the phrase that it stands for.
use Rattle.std.proofs.Common.{◌≡◌, ◌<◌, arith, subst}
use Rattle.pvs_terms.specs.Tree.{Text}
use Rattle.pvs_elab.specs.Phrase.{Phrase}
use Rattle.pvs_phrases.specs.declared.layer.Layer.{Layer}
use Rattle.pvs_phrases.specs.declared.layer.Layer.TheVariants as layer
use Rattle.pvs_phrases.specs.declared.layer.Unary.{Unary}
use Rattle.pvs_phrases.specs.declared.layer.Unary.TheVariants as unary
use Rattle.pvs_phrases.specs.declared.layer.Binary.{Binary}
use Rattle.pvs_phrases.specs.declared.layer.Binary.TheVariants as binary
use Rattle.pvs_phrases.specs.declared.layer.Ternary.{Ternary}
use Rattle.pvs_phrases.specs.declared.layer.Ternary.TheVariants as ternary
use Rattle.pvs_phrases.specs.Parts.{unary_phrase, binary_phrase, ternary_phrase, layer_phrase, phrase_at}
use Rattle.pvs_phrases.specs.Size.{size, parts_of, AreSmaller}

unary_smaller : (text : Text) (f : Unary) (x : Phrase) → size x < size (unary_phrase text f x)
unary_smaller text (unary.Projection digits pos) x = omega arith
unary_smaller text (unary.Group pos) x = omega arith
unary_smaller text (unary.Not p) x = omega arith
unary_smaller text (unary.Predicate pos) x = omega arith

binary_smaller : (text : Text) (f : Binary) (x y : Phrase) → (size x < size (binary_phrase text f x y)) × (size y < size (binary_phrase text f x y))
binary_smaller text binary.Apply x y = (omega arith, omega arith)
binary_smaller text (binary.Tuple k p) x y = (omega arith, omega arith)
binary_smaller text binary.Equal x y = (omega arith, omega arith)
binary_smaller text binary.Iff x y = (omega arith, omega arith)
binary_smaller text (binary.Forall n pos) x y = (omega arith, omega arith)
binary_smaller text (binary.Lambda bs pos) x y = (omega arith, omega arith)
binary_smaller text (binary.Let n pos) x y = (omega arith, omega arith)
binary_smaller text (binary.Subtype n pos) x y = (omega arith, omega arith)
binary_smaller text (binary.Function bs pos) x y = (omega arith, omega arith)
binary_smaller text (binary.Product k n pos) x y = (omega arith, omega arith)

ternary_smaller : (text : Text) (f : Ternary) (x y z : Phrase)
    → (size x < size (ternary_phrase text f x y z)) × (size y < size (ternary_phrase text f x y z)) × (size z < size (ternary_phrase text f x y z))
ternary_smaller text (ternary.Choice early join p) x y z = (omega arith, omega arith, omega arith)
ternary_smaller text (ternary.LetAs n pos) x y z = (omega arith, omega arith, omega arith)

layer_smaller : (text : Text) (l : Layer) → AreSmaller text (layer_phrase text l) (parts_of l)
layer_smaller text (layer.Nullary f) = tt
layer_smaller text (layer.Unary f x) = (unary_smaller text f (phrase_at text x), tt)
layer_smaller text (layer.Binary f x y) = let s = binary_smaller text f (phrase_at text x) (phrase_at text y) in (s.0, (s.1, tt))
layer_smaller text (layer.Ternary f x y z) = let s = ternary_smaller text f (phrase_at text x) (phrase_at text y) (phrase_at text z) in (s.0, (s.1, (s.2, tt)))

-- a layer of a phrase
pub parts_smaller : (text : Text) (l : Layer) (e : Phrase) → layer_phrase text l ≡ e → AreSmaller text e (parts_of l)
parts_smaller text l e h = subst (λ x. AreSmaller text x (parts_of l)) h (layer_smaller text l)
