-- What a machine of frames answers.
use Rattle.std.specs.Prelude.{◌≡◌, ◌-◌, ℕ, suc, List, [], ◌∷◌, ◌++◌, reverse, Option, Some, None, Result, Ok, Err}
use Rattle.pvs_base.specs.Answers.{◌>>=◌}
use Rattle.pvs_base.specs.declared.place.Pos.{Pos}
use Rattle.pvs_terms.specs.Tree.{Text, Tree, Const, Snd}
use Rattle.pvs_terms.specs.declared.shape.Sort.{Sort}
use Rattle.pvs_terms.specs.declared.shape.Sort.TheVariants.{OfType, OfTerm}
use Rattle.pvs_terms.specs.Stored.{Stored, tree_at}
use Rattle.pvs_subst.specs.Replace.{lift}
use Rattle.pvs_types.specs.Coerce.{coerce}
use Rattle.pvs_elab.specs.Answer.{Answer, within_limits_at, from_outcome_at, from_name}
use Rattle.pvs_elab.specs.Phrase.{Phrase}
use Rattle.pvs_elab.specs.Elab.{TypedTree, elab}
use Rattle.pvs_elaboration.specs.declared.fault.ElabFault.{ElabFault}
use Rattle.pvs_elaboration.specs.declared.here.Here.{Here}
use Rattle.pvs_elaboration.specs.declared.value.Mode.{Mode}
use Rattle.pvs_elaboration.specs.declared.value.Mode.TheVariants as mode
use Rattle.pvs_elaboration.specs.declared.value.Value.{Value}
use Rattle.pvs_elaboration.specs.declared.frame.Frame.{Frame}
use Rattle.pvs_elaboration.specs.declared.frame.Frame.TheVariants as frame
use Rattle.pvs_elaboration.specs.declared.frame.Control.{Control}
use Rattle.pvs_elaboration.specs.declared.frame.Control.TheVariants as control
use Rattle.pvs_elaboration.specs.declared.frame.Entrance.{Entrance}
use Rattle.pvs_elaboration.specs.declared.frame.Entrance.TheVariants as entrance
use Rattle.pvs_elaboration.specs.declared.frame.Next.{Next}
use Rattle.pvs_elaboration.specs.declared.frame.Entry.{Entry}
use Rattle.pvs_elaboration.specs.declared.frame.Entry.TheVariants as entry
use Rattle.pvs_elaboration.specs.declared.frame.Machine.{Machine}
use Rattle.pvs_elaboration.specs.declared.frame.Turn.{Turn}
use Rattle.pvs_elaboration.specs.declared.frame.Turn.TheVariants as turn
use Rattle.pvs_terms.specs.declared.node.Node.{Node}
use Rattle.pvs_terms.specs.declared.node.Node.TheVariants as node
use Rattle.pvs_elaboration.specs.Known.{Sources, phrase_at, place_in, word_at, Known, Grows, Site, site_in, hypothesis_site, variable_site, IsHere, AreKnownNumbers, IsUnder, IsBelow, IsUnnamed, IsNamed, unnamed_site, local_site, parts_site, Failed}
use Rattle.pvs_elaboration.specs.Meanings.{Meaning, Typed, Term, Formed, meaning, value_numbers, typed_at, typed_answer, term_answer, formed_answer, done_answer, on_typed, on_term, on_formed, on_done}
use Rattle.pvs_elaboration.specs.Choice.{choice_answer, choice_numbers, not_answer, not_numbers}
use Rattle.pvs_elaboration.specs.Names.{name_answer, name_numbers}
use Rattle.pvs_elaboration.specs.Apply.{apply_answer, apply_numbers}
use Rattle.pvs_elaboration.specs.Binder.{binder_answer, binder_numbers}
use Rattle.pvs_elaboration.specs.Equal.{equal_answer, equal_numbers}
use Rattle.pvs_elaboration.specs.Lets.{let_answer, let_numbers}
use Rattle.pvs_elaboration.specs.Subtypes.{subtype_answer, subtype_numbers, predicate_answer, predicate_numbers}
use Rattle.pvs_elaboration.specs.Tuples.{tuple_answer, tuple_numbers, product_answer, product_numbers}
use Rattle.pvs_elaboration.specs.Parts.{part_answer, part_numbers}
use Rattle.pvs_elaboration.specs.declared.several.NamesRow.{NamesRow}
use Rattle.pvs_elaboration.specs.declared.several.NamesRow.TheVariants as names
use Rattle.pvs_elaboration.specs.Several.{words_at, several_answer}

-- what a phrase answers
abbrev pub asked_at : Site → Stored → Sources → Mode → Phrase → Answer Meaning
asked_at z s text mode.Infer e = typed_answer ((elab z.lookups z.names e).infer z.here)
asked_at z s text (mode.Check u) e = term_answer ((elab z.lookups z.names e).check z.here (elab z.lookups z.names e).place (tree_at s u))
asked_at z s text (mode.CheckAt at u) e = term_answer ((elab z.lookups z.names e).check z.here (place_in text at) (tree_at s u))
asked_at z s text mode.Formed e = formed_answer ((elab z.lookups z.names e).formed z.here)
asked_at z s text mode.Predicate e = done_answer ((elab z.lookups z.names e).predicate z.here)

abbrev pub mode_numbers : Mode → List (Sort × ℕ)
mode_numbers mode.Infer = []
mode_numbers (mode.Check u) = (OfType, u) ∷ []
mode_numbers (mode.CheckAt at u) = (OfType, u) ∷ []
mode_numbers mode.Formed = []
mode_numbers mode.Predicate = []

-- What is left to name of the parts of a tuple, before a part of the text is asked.
abbrev pub names_answer : Site → Stored → Sources → NamesRow → ℕ → Meaning → Answer Meaning
names_answer z s text (names.Tuple t i n m) body = on_done (asked_at (parts_site (words_at text i (suc n)) (tree_at s t) z) s text m (phrase_at text body))
names_answer z s text (names.First t i n m) body = on_term (λ f. asked_at (parts_site (words_at text (suc i) (suc n)) (Snd (suc (suc n)) (tree_at s t)) (local_site (word_at text i) f z)) s text m (phrase_at text body))
names_answer z s text (names.Second f i n m) body = on_term (λ u. asked_at (parts_site (words_at text (suc i) (suc n)) u (local_site (word_at text i) (tree_at s f) z)) s text m (phrase_at text body))

abbrev pub names_numbers : NamesRow → List (Sort × ℕ)
names_numbers (names.Tuple t i n m) = (OfTerm, t) ∷ mode_numbers m
names_numbers (names.First t i n m) = (OfTerm, t) ∷ mode_numbers m
names_numbers (names.Second f i n m) = (OfTerm, f) ∷ mode_numbers m

-- a term as one of a type
abbrev pub coerced_at : Site → Pos → Pos → Tree → TypedTree → Answer Tree
coerced_at z large at u t = from_outcome_at large at (coerce z.lookups z.here.context t.tree t.ty u) >>= (λ _. Ok t.tree)

-- what is answered once a value is given to a frame
abbrev pub frame_answer : Site → Stored → Sources → Frame → Meaning → Answer Meaning
frame_answer z s text frame.Same = λ m. Ok m
frame_answer z s text (frame.Coerce large at u) = on_typed (λ t. term_answer (coerced_at z (place_in text large) (place_in text at) (tree_at s u) t))
frame_answer z s text (frame.WithType a) = on_term (λ t. Ok (Typed (record { tree = t; ty = tree_at s a })))
frame_answer z s text (frame.WithTerm t) = on_formed (λ u. Ok (Typed (record { tree = tree_at s t; ty = u })))
frame_answer z s text (frame.Choice f b) = choice_answer z s text f b
frame_answer z s text (frame.Not f pos at) = not_answer z s text f pos at
frame_answer z s text (frame.Name f at) = name_answer z s text f at
frame_answer z s text (frame.Apply f o) = apply_answer z s text f o
frame_answer z s text (frame.Binder f o) = binder_answer z s text f o
frame_answer z s text (frame.Equal f o) = equal_answer z s text f o
frame_answer z s text (frame.Let f o) = let_answer z s text f o
frame_answer z s text (frame.Subtype f o) = subtype_answer z s text f o
frame_answer z s text (frame.Predicate f start at) = predicate_answer z s text f start at
frame_answer z s text (frame.Tuple f o) = tuple_answer z s text f o
frame_answer z s text (frame.Product f k o) = product_answer z s text f k o
frame_answer z s text (frame.Part f o) = part_answer z s text f o
frame_answer z s text (frame.Several f o) = several_answer z s text f o
frame_answer z s text (frame.Names f body) = names_answer z s text f body

abbrev pub frame_numbers : Frame → List (Sort × ℕ)
frame_numbers frame.Same = []
frame_numbers (frame.Coerce large at u) = (OfType, u) ∷ []
frame_numbers (frame.WithType a) = (OfType, a) ∷ []
frame_numbers (frame.WithTerm t) = (OfTerm, t) ∷ []
frame_numbers (frame.Choice f b) = choice_numbers f
frame_numbers (frame.Not f pos at) = not_numbers f
frame_numbers (frame.Name f at) = name_numbers f
frame_numbers (frame.Apply f o) = apply_numbers f
frame_numbers (frame.Binder f o) = binder_numbers f
frame_numbers (frame.Equal f o) = equal_numbers f
frame_numbers (frame.Let f o) = let_numbers f
frame_numbers (frame.Subtype f o) = subtype_numbers f
frame_numbers (frame.Predicate f start at) = predicate_numbers f
frame_numbers (frame.Tuple f o) = tuple_numbers f
frame_numbers (frame.Product f k o) = product_numbers f
frame_numbers (frame.Part f o) = part_numbers f
frame_numbers (frame.Several f o) = []
frame_numbers (frame.Names f body) = names_numbers f

abbrev pub control_answer : Site → Stored → Sources → Control → Answer Meaning
control_answer z s text (control.Ask p m) = asked_at z s text m (phrase_at text p)
control_answer z s text (control.Coerce t large at u) = term_answer (coerced_at z (place_in text large) (place_in text at) (tree_at s u) (typed_at s t))
control_answer z s text (control.Give v) = Ok (meaning s v)
control_answer z s text (control.Use f v) = frame_answer z s text f (meaning s v)

abbrev pub control_numbers : Control → List (Sort × ℕ)
control_numbers (control.Ask p m) = mode_numbers m
control_numbers (control.Coerce t large at u) = (OfTerm, t.tree) ∷ (OfType, t.ty) ∷ (OfType, u) ∷ []
control_numbers (control.Give v) = value_numbers v
control_numbers (control.Use f v) = value_numbers v ++ frame_numbers f

-- the site that is entered
abbrev pub entrance_site : Site → Stored → Sources → Entrance → Site
entrance_site z s t entrance.Here = z
entrance_site z s t (entrance.Hypothesis p) = hypothesis_site (tree_at s p) z
entrance_site z s t (entrance.Variable x a) = variable_site (word_at t x) (tree_at s a) z
entrance_site z s t (entrance.Unnamed a) = unnamed_site (tree_at s a) z
entrance_site z s t (entrance.Local x u) = local_site (word_at t x) (tree_at s u) z

abbrev pub entrance_numbers : Entrance → List (Sort × ℕ)
entrance_numbers entrance.Here = []
entrance_numbers (entrance.Hypothesis p) = (OfTerm, p) ∷ []
entrance_numbers (entrance.Variable x a) = (OfType, a) ∷ []
entrance_numbers (entrance.Unnamed a) = (OfType, a) ∷ []
entrance_numbers (entrance.Local x u) = (OfTerm, u) ∷ []

-- what is answered after a step
abbrev pub next_answer : Site → Stored → Sources → Next → Answer Meaning
next_answer z s text n = control_answer (entrance_site z s text n.entrance) s text n.control >>= frame_answer z s text n.frame

pub record IsKnownNext (k : Known) (n : Next) : Type 0 where
  pub entrance : AreKnownNumbers k (entrance_numbers n.entrance)
  pub control : AreKnownNumbers k (control_numbers n.control)
  pub frame : AreKnownNumbers k (frame_numbers n.frame)

-- a step that goes on with the same answer, and one that found its fault or is out of memory
pub record Follows (a b : Known) (text : Sources) (h : Here) (r : Answer Meaning) (n : Next) : Type 0 where
  pub kept : Grows a b
  pub known : IsKnownNext b n
  pub is : r ≡ next_answer (site_in b text h) b.stored text n

abbrev pub Steps : Known → Known → Sources → Here → Answer Meaning → Result Next ElabFault → Type 0
Steps a b text h r (Ok n) = Follows a b text h r n
Steps a b text h r (Err e) = Failed a b r e

-- what is left, the first first
abbrev pub entries_answer : Known → Sources → Here → List Entry → Meaning → Answer Meaning
entries_answer k text h [] m = Ok m
entries_answer k text h (entry.Use f ∷ es) m = frame_answer (site_in k text h) k.stored text f m >>= entries_answer k text h es
entries_answer k text h (entry.Leave o ∷ es) m = entries_answer k text o es m

abbrev pub IsKnownEntry : Known → Entry → Type 0
IsKnownEntry k (entry.Use f) = AreKnownNumbers k (frame_numbers f)
IsKnownEntry k (entry.Leave o) = IsHere k o

abbrev pub AreKnownEntries : Known → List Entry → Type 0
AreKnownEntries k [] = Unit {0}
AreKnownEntries k (e ∷ es) = IsKnownEntry k e × AreKnownEntries k es

-- what a machine answers
unfoldable pub machine_answer : Known → Sources → Machine → Control → Answer Meaning
machine_answer k text m c = control_answer (site_in k text m.here) k.stored text c >>= entries_answer k text m.here (reverse m.entries.items)

pub record IsMachine (k : Known) (m : Machine) : Type 0 where
  pub here : IsHere k m.here
  pub entries : AreKnownEntries k (reverse m.entries.items)

-- the place that is entered, and the entries then
abbrev pub IsEntered : Here → List Entry → Entrance → Here → List Entry → Type 0
IsEntered h es entrance.Here i fs = (i ≡ h) × (fs ≡ es)
IsEntered h es (entrance.Hypothesis p) i fs = IsUnder h p i × (fs ≡ es ++ entry.Leave h ∷ [])
IsEntered h es (entrance.Variable x a) i fs = IsBelow h x a i × (fs ≡ es ++ entry.Leave h ∷ [])
IsEntered h es (entrance.Unnamed a) i fs = IsUnnamed h a i × (fs ≡ es ++ entry.Leave h ∷ [])
IsEntered h es (entrance.Local x u) i fs = IsNamed h x u i × (fs ≡ es ++ entry.Leave h ∷ [])

-- what follows a step is added
abbrev pub IsAdded : Machine → Next → Machine → Type 0
IsAdded m n o = IsEntered m.here (m.entries.items ++ entry.Use n.frame ∷ []) n.entrance o.here o.entries.items

-- a turn that goes on with the same answer, one that has it, and one that found its fault or is out of memory
pub record Goes (a b : Known) (text : Sources) (r : Answer Meaning) (m : Machine) (c : Control) : Type 0 where
  pub kept : Grows a b
  pub machine : IsMachine b m
  pub control : AreKnownNumbers b (control_numbers c)
  pub is : r ≡ machine_answer b text m c

pub record Finds (a b : Known) (r : Answer Meaning) (v : Value) : Type 0 where
  pub kept : Grows a b
  pub within : AreKnownNumbers b (value_numbers v)
  pub is : r ≡ Ok (meaning b.stored v)

abbrev pub Turns : Known → Known → Sources → Answer Meaning → Machine → Result Turn ElabFault → Type 0
Turns a b text r m (Ok (turn.Go c)) = Goes a b text r m c
Turns a b text r m (Ok (turn.Stop v)) = Finds a b r v
Turns a b text r m (Err e) = Failed a b r e

-- what a call says of an answer
abbrev pub Tells : Known → Known → Answer Meaning → Result Value ElabFault → Type 0
Tells a b r (Ok v) = Finds a b r v
Tells a b r (Err e) = Failed a b r e

-- a node of a term
abbrev pub IsTermNode : Node → Type 0
IsTermNode node.TBool = ⊥
IsTermNode (node.TName r) = ⊥
IsTermNode (node.TSub a p) = ⊥
IsTermNode (node.TFun a b) = ⊥
IsTermNode (node.TPair k a b) = ⊥
IsTermNode _ = Unit {0}

-- a node of a type
abbrev pub IsTypeNode : Node → Type 0
IsTypeNode node.TBool = Unit {0}
IsTypeNode (node.TName r) = Unit {0}
IsTypeNode (node.TSub a p) = Unit {0}
IsTypeNode (node.TFun a b) = Unit {0}
IsTypeNode (node.TPair k a b) = Unit {0}
IsTypeNode _ = ⊥

-- a tree that is made at a place, and what is done with it
abbrev pub made_answer : Site → Stored → Sources → ℕ → Tree → Frame → Answer Meaning
made_answer z s text at t f = within_limits_at (place_in text at) t >>= (λ t. frame_answer z s text f (Term t))

-- the same for a type
abbrev pub made_type_answer : Site → Stored → Sources → ℕ → Tree → Frame → Answer Meaning
made_type_answer z s text at t f = within_limits_at (place_in text at) t >>= (λ t. frame_answer z s text f (Formed t))

-- the term that a local name or a constant stands for, where so many variables are bound, and what is done with it
abbrev pub named_answer : Site → Stored → Sources → ℕ → Text → ℕ → Option (ℕ × ℕ) → Frame → Answer Meaning
named_answer z s text d x at None f = from_name (place_in text at) (z.names.constant_named x) >>= (λ r. made_answer z s text at (Const r) f)
named_answer z s text d x at (Some i) f = within_limits_at (place_in text at) (lift (tree_at s i.0) (d - i.1) 0) >>= (λ t. frame_answer z s text f (Term t))
