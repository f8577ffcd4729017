-- What is left of a binder of one variable.
use Rattle.std.specs.Prelude.{ℕ, List, [], ◌∷◌, Ok}
use Rattle.pvs_base.specs.Answers.{◌>>=◌}
use Rattle.pvs_base.specs.declared.place.Pos.{Pos}
use Rattle.pvs_terms.specs.Tree.{Text, Tree, TBool, True, TFun, Lam, Eq}
use Rattle.pvs_terms.specs.declared.shape.Sort.{Sort}
use Rattle.pvs_terms.specs.declared.shape.Sort.TheVariants.{OfType, OfTerm}
use Rattle.pvs_terms.specs.Stored.{Stored, tree_at}
use Rattle.pvs_elab.specs.Answer.{Answer, within_limits_at}
use Rattle.pvs_elab.specs.Elab.{Elab, TypedTree, universal, under_name}
use Rattle.pvs_elaboration.specs.declared.binder.Binding.{Binding}
use Rattle.pvs_elaboration.specs.declared.binder.BinderRow.{BinderRow}
use Rattle.pvs_elaboration.specs.declared.binder.BinderRow.TheVariants as binder
use Rattle.pvs_elaboration.specs.Known.{Sources, place_in, word_at, Site}
use Rattle.pvs_elaboration.specs.Meanings.{Meaning, Done, typed_answer, formed_answer, done_answer, on_typed, on_term, on_formed, elab_at}

-- FORALL, after each of its steps: its equation is made of two predicates.
abbrev pub all_equation : Pos → Tree → Tree → Answer TypedTree
all_equation at l r = within_limits_at at (Eq l r) >>= (λ t. Ok (record { tree = t; ty = TBool }))

abbrev pub all_predicate : Pos → Tree → Tree → Answer TypedTree
all_predicate at c l = within_limits_at at (Lam c True) >>= all_equation at l

abbrev pub all_body : Pos → Tree → Tree → Answer TypedTree
all_body at c q = within_limits_at at (universal c q) >>= (λ t. Ok (record { tree = t; ty = TBool }))

abbrev pub all_type : Site → Text → Elab → Pos → Tree → Answer TypedTree
all_type z x p at c = p.check (under_name x c z.here) p.place TBool >>= all_body at c

-- LAMBDA
abbrev pub lambda_tree : Pos → Tree → Tree → Tree → Answer TypedTree
lambda_tree at c e t = within_limits_at at (TFun c e) >>= (λ u. Ok (record { tree = t; ty = u }))

abbrev pub lambda_body : Pos → Tree → TypedTree → Answer TypedTree
lambda_body at c e = within_limits_at at (Lam c e.tree) >>= lambda_tree at c e.ty

abbrev pub lambda_type : Site → Text → Elab → Pos → Tree → Answer TypedTree
lambda_type z x b at c = b.infer (under_name x c z.here) >>= lambda_body at c

-- LAMBDA as the predicate of a universal formula
abbrev pub predicate_type : Site → Text → Elab → Tree → Answer (Unit {0})
predicate_type z x b c = b.check (under_name x c z.here) b.place TBool >>= (λ _. Ok tt)

-- a function type
abbrev pub function_range : Pos → Tree → Tree → Answer Tree
function_range at c e = within_limits_at at (TFun c e)

abbrev pub function_domain : Site → Text → Elab → Pos → Tree → Answer Tree
function_domain z x b at c = b.formed (under_name x c z.here) >>= function_range at c

abbrev pub binder_answer : Site → Stored → Sources → BinderRow → Binding → Meaning → Answer Meaning
binder_answer z s text binder.All o = on_formed (λ c. typed_answer (all_type z (word_at text o.name) (elab_at z text o.body) (place_in text o.at) c))
binder_answer z s text (binder.AllBody c) o = on_term (λ q. typed_answer (all_body (place_in text o.at) (tree_at s c) q))
binder_answer z s text (binder.AllPredicate c) o = on_term (λ l. typed_answer (all_predicate (place_in text o.at) (tree_at s c) l))
binder_answer z s text (binder.AllEquation l) o = on_term (λ r. typed_answer (all_equation (place_in text o.at) (tree_at s l) r))
binder_answer z s text binder.Lambda o = on_formed (λ c. typed_answer (lambda_type z (word_at text o.name) (elab_at z text o.body) (place_in text o.at) c))
binder_answer z s text (binder.LambdaBody c) o = on_typed (λ e. typed_answer (lambda_body (place_in text o.at) (tree_at s c) e))
binder_answer z s text (binder.LambdaTree c e) o = on_term (λ t. typed_answer (lambda_tree (place_in text o.at) (tree_at s c) (tree_at s e) t))
binder_answer z s text binder.Predicate o = on_formed (λ c. done_answer (predicate_type z (word_at text o.name) (elab_at z text o.body) c))
binder_answer z s text binder.PredicateBody o = on_term (λ _. Ok Done)
binder_answer z s text binder.Function o = on_formed (λ c. formed_answer (function_domain z (word_at text o.name) (elab_at z text o.body) (place_in text o.at) c))
binder_answer z s text (binder.Range c) o = on_formed (λ e. formed_answer (function_range (place_in text o.at) (tree_at s c) e))

abbrev pub binder_numbers : BinderRow → List (Sort × ℕ)
binder_numbers binder.All = []
binder_numbers (binder.AllBody c) = (OfType, c) ∷ []
binder_numbers (binder.AllPredicate c) = (OfType, c) ∷ []
binder_numbers (binder.AllEquation l) = (OfTerm, l) ∷ []
binder_numbers binder.Lambda = []
binder_numbers (binder.LambdaBody c) = (OfType, c) ∷ []
binder_numbers (binder.LambdaTree c e) = (OfType, c) ∷ (OfType, e) ∷ []
binder_numbers binder.Predicate = []
binder_numbers binder.PredicateBody = []
binder_numbers binder.Function = []
binder_numbers (binder.Range c) = (OfType, c) ∷ []
