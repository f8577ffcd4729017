-- The rows of binders of several variables, and the names of the parts of a tuple.
use Rattle.std.proofs.Common.{◌≡◌, ℕ, zero, suc, ◌∷◌, length, refl, sym, ◌∙◌, ap, ap₂}
use Rattle.std.specs.Prelude.{Ok}
use Rattle.pvs_base.specs.Answers.{◌>>=◌}
use Rattle.pvs_terms.specs.declared.shape.Sort.TheVariants.{OfTerm}
use Rattle.pvs_terms.specs.Tree.{Tree, Fst, Snd}
use Rattle.pvs_terms.specs.Stored.{tree_at}
use Rattle.pvs_subst.specs.Contexts.{Variable}
use Rattle.pvs_typing.specs.Answers.{Gives}
use Rattle.pvs_elab.specs.Elab.{TypedTree, lifted_locals, parts_onto, under_variable}
use Rattle.pvs_elab.specs.Elab as definition
use Rattle.pvs_elaboration.specs.declared.here.Here.{Here}
use Rattle.pvs_elaboration.specs.declared.value.Mode.{Mode}
use Rattle.pvs_elaboration.specs.declared.value.Mode.TheVariants as mode
use Rattle.pvs_elaboration.specs.declared.value.Value.TheVariants as value
use Rattle.pvs_elaboration.specs.declared.binder.Binding.{Binding}
use Rattle.pvs_elaboration.specs.declared.binder.BinderRow.TheVariants as binder
use Rattle.pvs_elaboration.specs.declared.several.Variables.{Variables}
use Rattle.pvs_elaboration.specs.declared.several.NamesRow.TheVariants as names
use Rattle.pvs_elaboration.specs.declared.several.SeveralRow.TheVariants as several
use Rattle.pvs_elaboration.specs.declared.frame.Frame.{Frame}
use Rattle.pvs_elaboration.specs.declared.frame.Frame.TheVariants as frame
use Rattle.pvs_elaboration.specs.declared.frame.Control.TheVariants as control
use Rattle.pvs_elaboration.specs.declared.frame.Entrance.TheVariants as entrance
use Rattle.pvs_elaboration.specs.declared.frame.Next.{Next}
use Rattle.pvs_elaboration.specs.Known.{Sources, phrase_at, place_in, word_at, Known, Grows, Site, site_in, local_site, parts_site, IsHere, IsTypeOf, IsTermOf, AreKnownNumbers}
use Rattle.pvs_elaboration.specs.Meanings.{Typed, Term, Formed, Done, typed_answer, term_answer, formed_answer, on_typed, on_term, on_formed, elab_at}
use Rattle.pvs_elaboration.specs.Binder.{lambda_body, function_range}
use Rattle.pvs_elaboration.specs.Several.{words_at, several_answer}
use Rattle.pvs_elaboration.specs.Machine.{asked_at, mode_numbers, names_answer, Follows}
use Rattle.pvs_elaboration.proofs.MachineLaws.{then_typed, then_term, then_formed, nothing_after}
use Rattle.pvs_elaboration.proofs.StepLaws.{given, given_follows, follows_at_once, follows_same}

-- what asks the body of several variables
abbrev pub asked_named : ℕ → ℕ → ℕ → Variables → Mode → Frame → Next
asked_named v c n o m f = record { entrance = entrance.Unnamed c; control = control.Use (frame.Names (names.Tuple v o.first n m) o.body) value.Done; frame = f }

abbrev pub binding_of : Variables → Binding
binding_of o = record { name = o.first; body = o.body; at = o.at }

-- after the type of the variables, the body is asked, under the variable with names for its parts

abbrev named_here : Site → Sources → ℕ → ℕ → Tree → Tree → definition.Here
named_here z text i n v c = record { locals = parts_onto (lifted_locals z.here.locals) v (words_at text i n); context = Variable c ∷ z.here.context }

pub lambda_follows : {k : Known} (text : Sources) (h : Here) (o : Variables) (c n : ℕ) → IsHere k h → IsTypeOf k c → o.count ≡ suc n
    → Follows k k text h (several_answer (site_in k text h) k.stored text several.Lambda o (Formed (tree_at k.stored c))) (asked_named h.variable c n o mode.Infer (frame.Binder (binder.LambdaBody c) (binding_of o)))
lambda_follows {k} text h o c n i m e =
    let z = site_in k text h in
    let b = elab_at z text o.body in
    let body = lambda_body (place_in text o.at) (tree_at k.stored c) in
    follows_at_once text h _ _ (record { entrance = (m, tt); control = (i.variable, tt); frame = (m, tt) })
    (then_typed (b.infer (under_variable (words_at text o.first o.count) (tree_at k.stored c) z.here)) body (λ (t : TypedTree). Ok (Typed t))
    ∙ ap₂ (λ (v : Tree) (j : ℕ). typed_answer (b.infer (named_here z text o.first j v (tree_at k.stored c))) >>= on_typed (λ t. typed_answer (body t))) (sym i.is_variable) e)

pub predicate_follows : {k : Known} (text : Sources) (h : Here) (o : Variables) (c n : ℕ) → IsHere k h → IsTypeOf k c → o.count ≡ suc n
    → Follows k k text h (several_answer (site_in k text h) k.stored text several.Predicate o (Formed (tree_at k.stored c))) (asked_named h.variable c n o (mode.Check h.truth) (frame.Binder binder.PredicateBody (binding_of o)))
predicate_follows {k} text h o c n i m e =
    let z = site_in k text h in
    let b = elab_at z text o.body in
    follows_at_once text h _ _ (record { entrance = (m, tt); control = (i.variable, (i.truth, tt)); frame = tt })
    (ap (λ (u : Tree). (b.check (under_variable (words_at text o.first o.count) (tree_at k.stored c) z.here) b.place u >>= (λ (t : Tree). Ok tt)) >>= (λ (t : Unit {0}). Ok Done)) (sym i.is_truth)
    ∙ then_term (b.check (under_variable (words_at text o.first o.count) (tree_at k.stored c) z.here) b.place (tree_at k.stored h.truth)) (λ (t : Tree). Ok tt) (λ (t : Unit {0}). Ok Done)
    ∙ ap₂ (λ (v : Tree) (j : ℕ). term_answer (b.check (named_here z text o.first j v (tree_at k.stored c)) b.place (tree_at k.stored h.truth)) >>= on_term (λ _. Ok Done)) (sym i.is_variable) e)

pub function_follows : {k : Known} (text : Sources) (h : Here) (o : Variables) (c n : ℕ) → IsHere k h → IsTypeOf k c → o.count ≡ suc n
    → Follows k k text h (several_answer (site_in k text h) k.stored text several.Function o (Formed (tree_at k.stored c))) (asked_named h.variable c n o mode.Formed (frame.Binder (binder.Range c) (binding_of o)))
function_follows {k} text h o c n i m e =
    let z = site_in k text h in
    let b = elab_at z text o.body in
    let body = function_range (place_in text o.at) (tree_at k.stored c) in
    follows_at_once text h _ _ (record { entrance = (m, tt); control = (i.variable, tt); frame = (m, tt) })
    (then_formed (b.formed (under_variable (words_at text o.first o.count) (tree_at k.stored c) z.here)) body (λ (t : Tree). Ok (Formed t))
    ∙ ap₂ (λ (v : Tree) (j : ℕ). formed_answer (b.formed (named_here z text o.first j v (tree_at k.stored c))) >>= on_formed (λ t. formed_answer (body t))) (sym i.is_variable) e)

-- The names of the parts of a tuple.

words_length : (text : Sources) (i n : ℕ) → length (words_at text i n) ≡ n
words_length text i zero = refl
words_length text i (suc n) = ap suc (words_length text (suc i) n)

-- the first name, and those of the others
parts_more : (z : Site) (text : Sources) (i n : ℕ) (t : Tree)
    → parts_site (words_at text i (suc (suc n))) t z ≡ parts_site (words_at text (suc i) (suc n)) (Snd (suc (suc n)) t) (local_site (word_at text i) (Fst (suc (suc n)) t) z)
parts_more z text i n t =
    ap (λ (m : ℕ). parts_site (words_at text (suc i) (suc n)) (Snd (suc (suc m)) t) (local_site (word_at text i) (Fst (suc (suc m)) t) z)) (words_length text (suc (suc i)) n)

-- a tuple with one name
pub one_follows : {k : Known} (text : Sources) (h : Here) (t i n body : ℕ) (m : Mode) → IsTermOf k t → AreKnownNumbers k (mode_numbers m) → n ≡ 0
    → Follows k k text h (names_answer (site_in k text h) k.stored text (names.Tuple t i n m) body Done) (record { entrance = entrance.Local i t; control = control.Ask body m; frame = frame.Same })
one_follows {k} text h t i n body m u w e =
    let z = site_in k text h in
    follows_at_once text h _ _ (record { entrance = (u, tt); control = w; frame = tt })
    (ap (λ (j : ℕ). asked_at (parts_site (words_at text i (suc j)) (tree_at k.stored t) z) k.stored text m (phrase_at text body)) e ∙ sym (nothing_after _))

-- the first component
pub tuple_follows : {a b : Known} (text : Sources) (h : Here) (t i n p body f : ℕ) (m : Mode) → Grows a b → IsHere a h → IsTermOf a t → AreKnownNumbers a (mode_numbers m) → n ≡ suc p
    → Gives b.stored b.declares OfTerm (Fst (suc (suc p)) (tree_at a.stored t)) f
    → Follows a b text h (names_answer (site_in a text h) a.stored text (names.Tuple t i n m) body Done) (given (value.Term f) (frame.Names (names.First t i p m) body))
tuple_follows {a} {b} text h t i n p body f m g x u w e s =
    let z = site_in a text h in
    let first = Fst (suc (suc p)) (tree_at a.stored t) in
    follows_same text h _ _ _
    (ap (λ (j : ℕ). asked_at (parts_site (words_at text i (suc j)) (tree_at a.stored t) z) a.stored text m (phrase_at text body)) e
    ∙ ap (λ (y : Site). asked_at y a.stored text m (phrase_at text body)) (parts_more z text i p (tree_at a.stored t)))
    (given_follows text h (Ok first) first Term (value.Term f) (frame.Names (names.First t i p m) body) g x (u, w) (s.known, tt) refl (ap Term (sym s.tree)))

-- the tuple of the others
pub first_follows : {a b : Known} (text : Sources) (h : Here) (t i n body f u : ℕ) (m : Mode) → Grows a b → IsHere a h → IsTermOf a f → AreKnownNumbers a (mode_numbers m)
    → Gives b.stored b.declares OfTerm (Snd (suc (suc n)) (tree_at a.stored t)) u
    → Follows a b text h (names_answer (site_in a text h) a.stored text (names.First t i n m) body (Term (tree_at a.stored f))) (given (value.Term u) (frame.Names (names.Second f i n m) body))
first_follows {a} {b} text h t i n body f u m g x v w s =
    let second = Snd (suc (suc n)) (tree_at a.stored t) in
    given_follows text h (Ok second) second Term (value.Term u) (frame.Names (names.Second f i n m) body) g x (v, w) (s.known, tt) refl (ap Term (sym s.tree))

-- their names
pub second_follows : {k : Known} (text : Sources) (h : Here) (f i j n body u : ℕ) (m : Mode) → IsTermOf k f → IsTermOf k u → AreKnownNumbers k (mode_numbers m) → j ≡ suc i
    → Follows k k text h (names_answer (site_in k text h) k.stored text (names.Second f i n m) body (Term (tree_at k.stored u)))
    (record { entrance = entrance.Local i f; control = control.Use (frame.Names (names.Tuple u j n m) body) value.Done; frame = frame.Same })
second_follows {k} text h f i j n body u m v w x e =
    let z = site_in k text h in
    let there = local_site (word_at text i) (tree_at k.stored f) z in
    follows_at_once text h _ _ (record { entrance = (v, tt); control = (w, x); frame = tt })
    (ap (λ (p : ℕ). asked_at (parts_site (words_at text p (suc n)) (tree_at k.stored u) there) k.stored text m (phrase_at text body)) (sym e) ∙ sym (nothing_after _))
