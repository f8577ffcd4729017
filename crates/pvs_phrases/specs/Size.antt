-- How large a phrase is: a measure that falls from a phrase to the phrases in it.
use Rattle.std.specs.Prelude.{ℕ, suc, ◌+◌, ◌<◌, List, [], ◌∷◌, ⊤}
use Rattle.pvs_terms.specs.Tree.{Text}
use Rattle.pvs_elab.specs.Phrase.{Phrase, Name, Truth, Apply, Tuple, Part, Group, Choice, Not, Equal, Iff, All as Forall, Lambda, Let, LetAs, TypeOf, Sub, Predicate, Function, Product, Other}
use Rattle.pvs_phrases.specs.declared.layer.Layer.{Layer}
use Rattle.pvs_phrases.specs.declared.layer.Layer.TheVariants as layer
use Rattle.pvs_phrases.specs.declared.part.Part as part
use Rattle.pvs_phrases.specs.Parts.{phrase_at}

-- the number of its forms
abbrev pub size : Phrase → ℕ
size (Name x pos) = 1
size (Truth b pos) = 1
size (Apply f x) = suc (size f + size x)
size (Tuple k x y pos) = suc (size x + size y)
size (Part x i pos) = suc (size x)
size (Group x pos) = suc (size x)
size (Choice early c x y join pos) = suc (size c + size x + size y)
size (Not x pos) = suc (size x)
size (Equal x y) = suc (size x + size y)
size (Iff x y) = suc (size x + size y)
size (Forall x a p pos) = suc (size a + size p)
size (Lambda d xs b pos) = suc (size d + size b)
size (Let x v b pos) = suc (size v + size b)
size (LetAs x a v b pos) = suc (size a + size v + size b)
size (TypeOf x pos) = 1
size (Sub x a p pos) = suc (size a + size p)
size (Predicate q pos) = suc (size q)
size (Function d xs b pos) = suc (size d + size b)
size (Product k x a b pos) = suc (size a + size b)
size (Other pos) = 1

-- the parts of a layer
abbrev pub parts_of : Layer → List part.Part
parts_of (layer.Nullary f) = []
parts_of (layer.Unary f x) = x ∷ []
parts_of (layer.Binary f x y) = x ∷ y ∷ []
parts_of (layer.Ternary f x y z) = x ∷ y ∷ z ∷ []

-- the phrases of these parts are smaller than a phrase
abbrev pub AreSmaller : Text → Phrase → List part.Part → Type 0
AreSmaller text e [] = ⊤
AreSmaller text e (p ∷ ps) = (size (phrase_at text p) < size e) × AreSmaller text e ps
