-- The phrases that parts and layers stand for.
use Rattle.std.specs.Prelude.{List, [], ◌∷◌, drop, map, Option, Some, None}
use Rattle.std.specs.Borrow.{Bor}
use Rattle.pvs_base.specs.declared.place.Pos.{Pos}
use Rattle.pvs_syntax.specs.Words.{spelling}
use Rattle.pvs_syntax.specs.declared.expression.Binding.{Binding}
use Rattle.pvs_syntax.specs.declared.expression.Expr.{Expr}
use Rattle.pvs_syntax.specs.declared.expression.LetPart.{LetPart}
use Rattle.pvs_syntax.specs.declared.expression.TypeExpr.{TypeExpr}
use Rattle.pvs_syntax.specs.declared.word.Word.{Word}
use Rattle.pvs_terms.specs.Tree.{Text}
use Rattle.pvs_elab.specs.Phrase.{Phrase, place}
use Rattle.pvs_elab.specs.Phrase as phrase
use Rattle.pvs_elab.specs.Desugar.{Bound, Value, all_of, bound_of, decimal, domain, lets, names, some_of, tuple, type_from, type_of, value_of}
use Rattle.pvs_elab.specs.Desugar as desugar
use Rattle.pvs_phrases.specs.declared.layer.Layer.{Layer}
use Rattle.pvs_phrases.specs.declared.layer.Layer.TheVariants as layer
use Rattle.pvs_phrases.specs.declared.layer.Nullary.{Nullary}
use Rattle.pvs_phrases.specs.declared.layer.Nullary.TheVariants as nullary
use Rattle.pvs_phrases.specs.declared.layer.Unary.{Unary}
use Rattle.pvs_phrases.specs.declared.layer.Unary.TheVariants as unary
use Rattle.pvs_phrases.specs.declared.layer.Binary.{Binary}
use Rattle.pvs_phrases.specs.declared.layer.Binary.TheVariants as binary
use Rattle.pvs_phrases.specs.declared.layer.Ternary.{Ternary}
use Rattle.pvs_phrases.specs.declared.layer.Ternary.TheVariants as ternary
use Rattle.pvs_phrases.specs.declared.part.Part.{Part}
use Rattle.pvs_phrases.specs.declared.part.Part.TheVariants as part
use Rattle.pvs_phrases.specs.declared.part.Place.{Place}
use Rattle.pvs_phrases.specs.declared.part.Place.TheVariants as places

-- what the items of a list say
abbrev pub phrases : Text → List Expr → List Phrase
phrases text xs = map (desugar.phrase text) xs

abbrev pub bounds : Text → List Binding → List Bound
bounds text bs = map (bound_of text) bs

abbrev pub values : Text → List LetPart → List Value
values text ps = map (value_of text) ps

-- the type that is written, or that of the VAR with the name of a word
abbrev pub type_or_var : Text → Word → Option (Bor TypeExpr) → Phrase
type_or_var text w (Some a) = desugar.type_phrase text a.now
type_or_var text w None = phrase.TypeOf (spelling text w) w.pos

abbrev pub place_in : Text → Place → Pos
place_in text (places.At pos) = pos
place_in text (places.Of e) = place (desugar.phrase text e.now)

-- FORALL over the first of these variables, of NOT of EXISTS over the others
abbrev pub all_not_some : Pos → Phrase → List Bound → Phrase
all_not_some pos body [] = phrase.Other pos
all_not_some pos body (b ∷ bs) = phrase.All b.name (type_of b bs) (phrase.Not (some_of pos body bs) pos) pos

abbrev pub phrase_at : Text → Part → Phrase
phrase_at text (part.Expr e) = desugar.phrase text e.now
phrase_at text (part.Type a) = desugar.type_phrase text a.now
phrase_at text (part.Truth b e) = phrase.Truth b (place (desugar.phrase text e.now))
phrase_at text (part.Equation x y) = phrase.Equal (desugar.phrase text x.now) (desugar.phrase text y.now)
phrase_at text (part.Arguments xs k pos) = tuple pos (phrases text (drop k xs.now))
phrase_at text (part.Forall bs k e pos) = all_of pos (desugar.phrase text e.now) (bounds text (drop k bs.now))
phrase_at text (part.Exists bs k e pos) = some_of pos (desugar.phrase text e.now) (bounds text (drop k bs.now))
phrase_at text (part.NotExists bs k e pos) = phrase.Not (some_of pos (desugar.phrase text e.now) (bounds text (drop k bs.now))) pos
phrase_at text (part.ForallNotExists bs k e pos) = all_not_some pos (desugar.phrase text e.now) (bounds text (drop k bs.now))
phrase_at text (part.Domain bs k pos) = domain pos (bounds text (drop k bs.now))
phrase_at text (part.TypeFrom w bs k) = type_from (spelling text w) w.pos (bounds text (drop k bs.now))
phrase_at text (part.Lets ps k e pos) = lets pos (desugar.phrase text e.now) (values text (drop k ps.now))

abbrev pub nullary_phrase : Text → Nullary → Phrase
nullary_phrase text (nullary.Name x pos) = phrase.Name x.now pos
nullary_phrase text (nullary.Truth b p) = phrase.Truth b (place_in text p)
nullary_phrase text (nullary.TypeOf x pos) = phrase.TypeOf x.now pos
nullary_phrase text (nullary.Other p) = phrase.Other (place_in text p)

abbrev pub unary_phrase : Text → Unary → Phrase → Phrase
unary_phrase text (unary.Projection digits pos) x = phrase.Part x (decimal 0 digits.now) pos
unary_phrase text (unary.Group pos) x = phrase.Group x pos
unary_phrase text (unary.Not p) x = phrase.Not x (place_in text p)
unary_phrase text (unary.Predicate pos) x = phrase.Predicate x pos

abbrev pub binary_phrase : Text → Binary → Phrase → Phrase → Phrase
binary_phrase text binary.Apply f x = phrase.Apply f x
binary_phrase text (binary.Tuple k p) x y = phrase.Tuple k x y (place_in text p)
binary_phrase text binary.Equal x y = phrase.Equal x y
binary_phrase text binary.Iff x y = phrase.Iff x y
binary_phrase text (binary.Forall x pos) a p = phrase.All x.now a p pos
binary_phrase text (binary.Lambda bs pos) a e = phrase.Lambda a (names (bounds text bs.now)) e pos
binary_phrase text (binary.Let x pos) v e = phrase.Let x.now v e pos
binary_phrase text (binary.Subtype x pos) a p = phrase.Sub x.now a p pos
binary_phrase text (binary.Function bs pos) a b = phrase.Function a (names (bounds text bs.now)) b pos
binary_phrase text (binary.Product k x pos) a b = phrase.Product k x.now a b pos

abbrev pub ternary_phrase : Text → Ternary → Phrase → Phrase → Phrase → Phrase
ternary_phrase text (ternary.Choice early join p) c x y = phrase.Choice early c x y (place_in text join) (place_in text p)
ternary_phrase text (ternary.LetAs x pos) a v e = phrase.LetAs x.now a v e pos

abbrev pub layer_phrase : Text → Layer → Phrase
layer_phrase text (layer.Nullary f) = nullary_phrase text f
layer_phrase text (layer.Unary f x) = unary_phrase text f (phrase_at text x)
layer_phrase text (layer.Binary f x y) = binary_phrase text f (phrase_at text x) (phrase_at text y)
layer_phrase text (layer.Ternary f x y z) = ternary_phrase text f (phrase_at text x) (phrase_at text y) (phrase_at text z)
