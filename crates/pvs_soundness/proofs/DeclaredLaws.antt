-- A declaration that owes no condition makes an entry that typing accepts by the look-ups of its place.
use Rattle.std.proofs.Common.{◌≡◌, ℕ, suc, Bool, true, false, List, [], ◌∷◌, ◌++◌, reverse, Option, Some, None, Ok, refl, ap, sym, subst}
use Rattle.std.specs.Prelude.{map}
use Rattle.std.proofs.lemmas.Grind.{reverse_onto}
use Rattle.pvs_base.specs.declared.place.Pos.{Pos}
use Rattle.pvs_terms.specs.Tree.{Text, Tree, Ref, TBool, TFun, Lam}
use Rattle.pvs_subst.specs.Contexts.{Assumptions, Variable}
use Rattle.pvs_syntax.specs.declared.unit.Decl.{Decl}
use Rattle.pvs_syntax.specs.declared.unit.Decl.TheVariants as decl
use Rattle.pvs_sig.specs.declared.signature.Class.{Class}
use Rattle.pvs_sig.specs.Lookups.{Lookups, IsOrdered}
use Rattle.pvs_sig.specs.Signature.{Kind, TypeSig, VarSig}
use Rattle.pvs_types.specs.Outcome.{Outcome, Refused, Accepted, Conditions, outcome_after}
use Rattle.pvs_types.specs.Outcome as outcome
use Rattle.pvs_types.specs.Typing.{check, well_formed}
use Rattle.pvs_elab.specs.Names.{Names, TypedVariable}
use Rattle.pvs_elab.specs.Phrase.{Phrase, Function, place}
use Rattle.pvs_elab.specs.Desugar.{Bound, bound_of, domain, names, phrase, type_phrase}
use Rattle.pvs_elab.specs.Elab.{elab, under_variable, universal}
use Rattle.pvs_elab.specs.Formula.{Occurs, FreeVariable, Formula, formula, formula_under, free_variables, occurrences, firsts, here_under, locals_of, closed_by, closure, binders_of}
use Rattle.pvs_elab.specs.Declaration.{CheckedEntry, existence, top_level, constant, definition, function, constant_decl, type_definition, formula_decl, body_of, class_of, declaration}
use Rattle.pvs_elab.specs.Laws.{Holds}
use Rattle.pvs_elab.proofs.AnswerLaws.{holds_then, within_limits_then, outcome_then}
use Rattle.pvs_soundness.specs.Vocabulary.{Vocabulary, IsOver, vocabulary_of}
use Rattle.pvs_soundness.specs.Local.{IsClosedSet, EachAssumed}
use Rattle.pvs_soundness.specs.Mentioned.{EachLocal, EachHere, EachName, StaysIn}
use Rattle.pvs_soundness.specs.Checked.{OwesNothing, IsFormedBy, IsCheckedBy, plainly, under_parameter, AreFormedBy, IsFormulaBy, IsKindBy}
use Rattle.pvs_soundness.proofs.MentionedLaws.{elab_stays, variable_each, named_then}

abbrev conditions_of : Outcome (Unit {0}) → Conditions
conditions_of (Refused c) = []
conditions_of (Accepted a cs rs) = cs

abbrev is_accepted : Outcome (Unit {0}) → Type 0
is_accepted (Refused c) = ⊥
is_accepted (Accepted a cs rs) = Unit {0}

no_first : {A : Type 0} (xs ys : List A) → xs ++ ys ≡ [] → xs ≡ []
no_first [] ys h = refl
no_first (x ∷ xs) ys h = cc

no_second : {A : Type 0} (xs ys : List A) → xs ++ ys ≡ [] → ys ≡ []
no_second [] ys h = h
no_second (x ∷ xs) ys h = cc

-- a step and the next are accepted without conditions where both are
both_clear : (o u : Outcome (Unit {0})) → OwesNothing (outcome.◌>>◌ o u) → OwesNothing o × OwesNothing u
both_clear (Refused c) u h = absurd (subst is_accepted (sym h.accepted) tt)
both_clear (Accepted a cs rs) (Refused c) h = absurd (subst is_accepted (sym h.accepted) tt)
both_clear (Accepted a cs rs) (Accepted b ds ss) h = (
  record { used = rs; accepted = ap (λ xs. Accepted tt xs rs) (no_first cs ds (ap conditions_of h.accepted)) },
  record { used = ss; accepted = ap (λ xs. Accepted tt xs ss) (no_second cs ds (ap conditions_of h.accepted)) },
)

closed_is : (pos : Pos) (bs : List FreeVariable) (t : Tree) → Holds (λ u. u ≡ closure bs t) (closed_by pos bs t)
closed_is pos [] t = refl
closed_is pos (b ∷ bs) t = within_limits_then (λ u. u ≡ closure (b ∷ bs) t) pos (universal b.ty t) (closed_by pos bs) (λ w. closed_is pos bs (universal b.ty t))

module _ (refers : Ref → Bool) (s : Lookups) (scope : Names) (ordered : IsOrdered s) (closed : IsClosedSet (vocabulary_of refers) s)
    (each : EachName (vocabulary_of refers) scope) (vars : (x : Text) (v : TypedVariable) → scope.variable_named x ≡ Ok v → IsFormedBy (vocabulary_of refers) s [] v.ty) where
  abbrev V : Vocabulary
  V = vocabulary_of refers

  -- where typing owes nothing, the entry is accepted
  abbrev pub IsSoundEntry : CheckedEntry → Type 0
  IsSoundEntry e = OwesNothing e.typing → IsKindBy V s e.kind

  at_top : EachHere V top_level
  at_top = record { locals = tt; context = tt }

  stays : (e : Phrase) → StaysIn V (elab s scope e)
  stays = elab_stays refers s scope ordered closed each

  formed_by : (g : Assumptions) (a : Tree) → IsOver V a → OwesNothing (well_formed s g a) → IsFormedBy V s g a
  formed_by g a p h = record { each = p; used = h.used; accepted = h.accepted }

  checked_by : (g : Assumptions) (t a : Tree) → IsOver V t → IsOver V a → OwesNothing (check s g t a) → IsCheckedBy V s g t a
  checked_by g t a p q h = record { each = p; type_each = q; used = h.used; accepted = h.accepted }

  constant_sound : (a : Phrase) (pos : Pos) → Holds IsSoundEntry (constant s scope a pos)
  constant_sound a pos =
      holds_then (IsOver V) IsSoundEntry ((elab s scope a).formed top_level) _ ((stays a).formed top_level at_top) (λ t p.
      outcome_then IsSoundEntry pos pos (existence s t) _ (λ u gu h. formed_by [] t p (both_clear (well_formed s [] t) (existence s t) h).0))

  definition_sound : (a e : Phrase) → Holds IsSoundEntry (definition s scope a e)
  definition_sound a e =
      holds_then (IsOver V) IsSoundEntry ((elab s scope a).formed top_level) _ ((stays a).formed top_level at_top) (λ t p.
      holds_then (IsOver V) IsSoundEntry ((elab s scope e).check top_level (place e) t) _ ((stays e).check top_level (place e) t at_top) (λ b q h.
      let both = both_clear (well_formed s [] t) (check s [] b t) h in
      (formed_by [] t p both.0, plainly (checked_by [] b t q p both.1))))

  function_sound : (d : Phrase) (pos : Pos) (xs : List Text) (a e : Phrase) → Holds IsSoundEntry (function s scope d pos xs a e)
  function_sound d pos xs a e =
      holds_then (IsOver V) IsSoundEntry ((elab s scope d).formed top_level) _ ((stays d).formed top_level at_top) (λ c p.
      let here = variable_each refers s scope ordered closed each xs c top_level p at_top in
      holds_then (IsOver V) IsSoundEntry ((elab s scope a).formed (under_variable xs c top_level)) _ ((stays a).formed (under_variable xs c top_level) here) (λ t q.
      within_limits_then IsSoundEntry pos (TFun c t) _ (λ w.
      holds_then (IsOver V) IsSoundEntry ((elab s scope e).check (under_variable xs c top_level) (place e) t) _ ((stays e).check (under_variable xs c top_level) (place e) t here) (λ b r.
      within_limits_then IsSoundEntry (place e) (Lam c b) _ (λ v h.
      let both = both_clear (well_formed s [] (TFun c t)) (check s (Variable c ∷ []) b t) h in
      let parts = both_clear (well_formed s [] c) (well_formed s (Variable c ∷ []) t) both.0 in
      (formed_by [] (TFun c t) (p, q, tt) both.0, under_parameter c b t refl refl (formed_by [] c p parts.0) (checked_by (Variable c ∷ []) b t r q both.1)))))))

  constant_decl_sound : (bs : List Bound) (a : Phrase) (e : Option Phrase) → Holds IsSoundEntry (constant_decl s scope bs a e)
  constant_decl_sound [] a None = constant_sound a (place a)
  constant_decl_sound [] a (Some e) = definition_sound a e
  constant_decl_sound (b ∷ bs) a None = constant_sound (Function (domain b.pos (b ∷ bs)) (names (b ∷ bs)) a b.pos) b.pos
  constant_decl_sound (b ∷ bs) a (Some e) = function_sound (domain b.pos (b ∷ bs)) b.pos (names (b ∷ bs)) a e

  formed_sound : (a : Phrase) (kind : Tree → Kind) → ((t : Tree) → IsFormedBy V s [] t → IsKindBy V s (kind t)) → Holds IsSoundEntry (type_definition s scope a kind)
  formed_sound a kind k =
      holds_then (IsOver V) IsSoundEntry ((elab s scope a).formed top_level) _ ((stays a).formed top_level at_top) (λ t p h. k t (formed_by [] t p h))

  -- the types of free VARs are those of their declarations
  variables_formed : (os : List Occurs) → Holds (AreFormedBy V s) (free_variables scope os)
  variables_formed [] = tt
  variables_formed (o ∷ os) = named_then (AreFormedBy V s) o.pos (scope.variable_named o.name) _ (λ v e.
      holds_then (AreFormedBy V s) (AreFormedBy V s) (free_variables scope os) _ (variables_formed os) (λ bs k. (vars o.name v e, k)))

  formed_more : (xs ys : List FreeVariable) → AreFormedBy V s xs → AreFormedBy V s ys → AreFormedBy V s (xs ++ ys)
  formed_more [] ys h k = k
  formed_more (x ∷ xs) ys h k = (h.0, formed_more xs ys h.1 k)

  formed_reversed : (xs : List FreeVariable) → AreFormedBy V s xs → AreFormedBy V s (reverse xs)
  formed_reversed [] h = tt
  formed_reversed (x ∷ xs) h = subst (AreFormedBy V s) (sym (reverse_onto xs x [])) (formed_more (reverse xs) (x ∷ []) (formed_reversed xs h.1) (h.0, tt))

  each_here : (n : ℕ) (bs : List FreeVariable) → AreFormedBy V s bs → EachLocal V (locals_of n bs) × EachAssumed V (binders_of bs)
  each_here n [] h = (tt, tt)
  each_here n (b ∷ bs) h = let r = each_here (suc n) bs h.1 in ((tt, r.0), (h.0.each, r.1))

  formula_sound : (c : Class) (e : Phrase) → Holds IsSoundEntry (formula_decl s scope c e)
  formula_sound c e =
      holds_then (λ f. OwesNothing (check s (binders_of f.variables) f.open_tree TBool) → IsFormulaBy V s f.tree) IsSoundEntry (formula s scope e) _
      (holds_then (AreFormedBy V s) (λ f. OwesNothing (check s (binders_of f.variables) f.open_tree TBool) → IsFormulaBy V s f.tree)
      (free_variables scope (firsts [] (occurrences scope true [] e))) _ (variables_formed (firsts [] (occurrences scope true [] e))) (λ vs k. under (reverse vs) (formed_reversed vs k)))
      (λ f g. g)
    where
      under : (bs : List FreeVariable) → AreFormedBy V s bs
          → Holds (λ f. OwesNothing (check s (binders_of f.variables) f.open_tree TBool) → IsFormulaBy V s f.tree) (formula_under s scope e bs)
      under bs k =
          let here : EachHere V (here_under bs) = let r = each_here 0 bs k in record { locals = r.0; context = r.1 } in
          holds_then (IsOver V) (λ (f : Formula). OwesNothing (check s (binders_of f.variables) f.open_tree TBool) → IsFormulaBy V s f.tree)
          ((elab s scope e).check (here_under bs) (place e) TBool) _ ((stays e).check (here_under bs) (place e) TBool here) (λ t q.
          holds_then (λ u. u ≡ closure bs t) (λ (f : Formula). OwesNothing (check s (binders_of f.variables) f.open_tree TBool) → IsFormulaBy V s f.tree)
          (closed_by (place e) bs t) _ (closed_is (place e) bs t) (λ u g h. record {
            variables = bs;
            open_tree = t;
            formed = k;
            checked = checked_by (binders_of bs) t TBool q tt h;
            closed = g;
          }))

  pub declaration_sound : (text : Text) (d : Decl) → Holds IsSoundEntry (declaration s scope text d)
  declaration_sound text (decl.Importing i) = tt
  declaration_sound text (decl.TypeDecl w nonempty) = λ h. tt
  declaration_sound text (decl.TypeDef w a) = formed_sound (type_phrase text a) (λ t. TypeSig false (Some t)) (λ t h. h)
  declaration_sound text (decl.VarDecl w a) = formed_sound (type_phrase text a) VarSig (λ t h. h)
  declaration_sound text (decl.ConstDecl w bs a e) = constant_decl_sound (map (bound_of text) bs) (type_phrase text a) (body_of text e)
  declaration_sound text (decl.Formula w word e) = formula_sound (class_of word) (phrase text e)
