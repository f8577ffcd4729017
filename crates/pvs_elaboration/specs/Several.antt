-- What is left of a binder of several variables, whose names stand for the parts of one.
use Rattle.std.specs.Prelude.{ℕ, zero, suc, List, [], ◌∷◌, Ok}
use Rattle.pvs_base.specs.Answers.{◌>>=◌}
use Rattle.pvs_base.specs.declared.place.Pos.{Pos}
use Rattle.pvs_terms.specs.Tree.{Text, Tree, TBool}
use Rattle.pvs_terms.specs.Stored.{Stored}
use Rattle.pvs_elab.specs.Answer.{Answer}
use Rattle.pvs_elab.specs.Elab.{Elab, TypedTree, under_variable}
use Rattle.pvs_elaboration.specs.declared.several.Variables.{Variables}
use Rattle.pvs_elaboration.specs.declared.several.SeveralRow.{SeveralRow}
use Rattle.pvs_elaboration.specs.declared.several.SeveralRow.TheVariants as several
use Rattle.pvs_elaboration.specs.Known.{Sources, place_in, word_at, Site}
use Rattle.pvs_elaboration.specs.Binder.{lambda_body, function_range}
use Rattle.pvs_elaboration.specs.Meanings.{Meaning, typed_answer, formed_answer, done_answer, on_formed, elab_at}

-- so many names from a number on
abbrev pub words_at : Sources → ℕ → ℕ → List Text
words_at text from zero = []
words_at text from (suc n) = word_at text from ∷ words_at text (suc from) n

-- LAMBDA
abbrev pub several_lambda : Site → List Text → Elab → Pos → Tree → Answer TypedTree
several_lambda z xs b at c = b.infer (under_variable xs c z.here) >>= lambda_body at c

-- LAMBDA as the predicate of a universal formula
abbrev pub several_predicate : Site → List Text → Elab → Tree → Answer (Unit {0})
several_predicate z xs b c = b.check (under_variable xs c z.here) b.place TBool >>= (λ _. Ok tt)

-- a function type
abbrev pub several_function : Site → List Text → Elab → Pos → Tree → Answer Tree
several_function z xs b at c = b.formed (under_variable xs c z.here) >>= function_range at c

abbrev pub several_answer : Site → Stored → Sources → SeveralRow → Variables → Meaning → Answer Meaning
several_answer z s text several.Lambda o = on_formed (λ c. typed_answer (several_lambda z (words_at text o.first o.count) (elab_at z text o.body) (place_in text o.at) c))
several_answer z s text several.Predicate o = on_formed (λ c. done_answer (several_predicate z (words_at text o.first o.count) (elab_at z text o.body) c))
several_answer z s text several.Function o = on_formed (λ c. formed_answer (several_function z (words_at text o.first o.count) (elab_at z text o.body) (place_in text o.at) c))
