-- What typing owes for declared entries, it accepts.
use Rattle.std.proofs.Common.{◌≡◌, true, false, List, [], ◌∷◌, ◌++◌, reverse, refl, subst}
use Rattle.std.specs.Prelude.{Option, Some, None, map, Ok, Err}
use Rattle.pvs_base.specs.declared.place.Pos.{Pos}
use Rattle.pvs_base.specs.declared.code.Fault.{Fault}
use Rattle.pvs_terms.specs.Tree.{Text, Tree, TBool, TFun, Lam}
use Rattle.pvs_subst.specs.Contexts.{Variable}
use Rattle.pvs_syntax.specs.declared.unit.Decl.{Decl}
use Rattle.pvs_syntax.specs.declared.unit.Decl.TheVariants as decl
use Rattle.pvs_sig.specs.declared.signature.Class.{Class}
use Rattle.pvs_sig.specs.Lookups.{Lookups}
use Rattle.pvs_sig.specs.Signature.{Kind, TypeSig, VarSig}
use Rattle.pvs_types.specs.Typing.{check, well_formed}
use Rattle.pvs_elab.specs.Answer.{Answer, Judgement}
use Rattle.pvs_elab.specs.Names.{Names}
use Rattle.pvs_elab.specs.Phrase.{Phrase, Function, place}
use Rattle.pvs_elab.specs.Desugar.{Bound, bound_of, domain, names, phrase, type_phrase}
use Rattle.pvs_elab.specs.Elab.{elab, under_variable, universal}
use Rattle.pvs_elab.specs.Formula as free
use Rattle.pvs_elab.specs.Formula.{formula, free_variables, occurrences, firsts, here_under, closed_by, closure, binders_of}
use Rattle.pvs_elab.specs.Declaration.{CheckedEntry, ElaboratedDecl, existence, top_level, constant, definition, function, constant_decl, type_definition, formula_decl, body_of, class_of, declaration, decl_place, elab_decl, kind_symbols}
use Rattle.pvs_elab.specs.Laws.{Gives, Holds, IsFormula, IsDeclared}
use Rattle.pvs_elab.proofs.AnswerLaws.{gives_then, holds_then, holds_weaker, within_limits_then, outcome_then}
use Rattle.pvs_elab.proofs.ElabLaws.{elab_lawful}
use Rattle.pvs_elab.proofs.FinishedLaws.{finished, finished_fault}

anything : {A : Type 0} (r : Answer A) → Holds (λ a. Unit {0}) r
anything (Ok a) = tt
anything (Err f) = tt

closed_is : (pos : Pos) (bs : List free.FreeVariable) (t : Tree) → Holds (λ u. u ≡ closure bs t) (closed_by pos bs t)
closed_is pos [] t = refl
closed_is pos (b ∷ bs) t = within_limits_then (λ u. u ≡ closure (b ∷ bs) t) pos (universal b.ty t) (closed_by pos bs) (λ w. closed_is pos bs (universal b.ty t))

abbrev pub IsAcceptedEntry : CheckedEntry → Type 0
IsAcceptedEntry e = Gives e.typing tt

module _ (s : Lookups) (scope : Names) where
  constant_typed : (a : Phrase) (pos : Pos) → Holds IsAcceptedEntry (constant s scope a pos)
  constant_typed a pos =
      holds_then (λ t. Gives (well_formed s [] t) tt) IsAcceptedEntry ((elab s scope a).formed top_level) _ ((elab_lawful s scope a).formed top_level) (λ t gt.
      outcome_then IsAcceptedEntry pos pos (existence s t) _ (λ u gu. gives_then (well_formed s [] t) _ tt tt gt gu))

  definition_typed : (a e : Phrase) → Holds IsAcceptedEntry (definition s scope a e)
  definition_typed a e =
      holds_then (λ t. Gives (well_formed s [] t) tt) IsAcceptedEntry ((elab s scope a).formed top_level) _ ((elab_lawful s scope a).formed top_level) (λ t gt.
      holds_then (λ b. Gives (check s [] b t) tt) IsAcceptedEntry ((elab s scope e).check top_level (place e) t) _ ((elab_lawful s scope e).check top_level (place e) t) (λ b gb.
      gives_then (well_formed s [] t) _ tt tt gt gb))

  function_typed : (d : Phrase) (pos : Pos) (xs : List Text) (a e : Phrase) → Holds IsAcceptedEntry (function s scope d pos xs a e)
  function_typed d pos xs a e =
      holds_then (λ c. Gives (well_formed s [] c) tt) IsAcceptedEntry ((elab s scope d).formed top_level) _ ((elab_lawful s scope d).formed top_level) (λ c gc.
      holds_then (λ t. Gives (well_formed s (Variable c ∷ []) t) tt) IsAcceptedEntry ((elab s scope a).formed (under_variable xs c top_level)) _ ((elab_lawful s scope a).formed (under_variable xs c top_level)) (λ t gt.
      within_limits_then IsAcceptedEntry pos (TFun c t) _ (λ w.
      holds_then (λ b. Gives (check s (Variable c ∷ []) b t) tt) IsAcceptedEntry ((elab s scope e).check (under_variable xs c top_level) (place e) t) _ ((elab_lawful s scope e).check (under_variable xs c top_level) (place e) t) (λ b gb.
      within_limits_then IsAcceptedEntry (place e) (Lam c b) _ (λ v.
      gives_then (well_formed s [] (TFun c t)) _ tt tt (gives_then (well_formed s [] c) _ tt tt gc gt) gb)))))

  constant_decl_typed : (bs : List Bound) (a : Phrase) (e : Option Phrase) → Holds IsAcceptedEntry (constant_decl s scope bs a e)
  constant_decl_typed [] a None = constant_typed a (place a)
  constant_decl_typed [] a (Some e) = definition_typed a e
  constant_decl_typed (b ∷ bs) a None = constant_typed (Function (domain b.pos (b ∷ bs)) (names (b ∷ bs)) a b.pos) b.pos
  constant_decl_typed (b ∷ bs) a (Some e) = function_typed (domain b.pos (b ∷ bs)) b.pos (names (b ∷ bs)) a e

  type_definition_typed : (a : Phrase) (kind : Tree → Kind) → Holds IsAcceptedEntry (type_definition s scope a kind)
  type_definition_typed a kind =
      holds_then (λ t. Gives (well_formed s [] t) tt) IsAcceptedEntry ((elab s scope a).formed top_level) _ ((elab_lawful s scope a).formed top_level) (λ t gt. gt)

  pub formula_typed : (e : Phrase) → Holds (IsFormula s) (formula s scope e)
  formula_typed e = holds_then (λ bs. Unit {0}) (IsFormula s) (free_variables scope (firsts [] (occurrences scope true [] e))) _ (anything _) (λ vs u.
      let bs = reverse vs in
      holds_then (λ t. Gives (check s (binders_of bs) t TBool) tt) (IsFormula s) ((elab s scope e).check (here_under bs) (place e) TBool) _ ((elab_lawful s scope e).check (here_under bs) (place e) TBool) (λ t gt.
      holds_then (λ t2. t2 ≡ closure bs t) (IsFormula s) (closed_by (place e) bs t) _ (closed_is (place e) bs t) (λ c gc. record { typed = gt; closed = gc })))

  formula_decl_typed : (c : Class) (e : Phrase) → Holds IsAcceptedEntry (formula_decl s scope c e)
  formula_decl_typed c e = holds_then (IsFormula s) IsAcceptedEntry (formula s scope e) _ (formula_typed e) (λ f gf. gf.typed)

  pub declaration_typed : (text : Text) (d : Decl) → Holds IsAcceptedEntry (declaration s scope text d)
  declaration_typed text (decl.Importing i) = tt
  declaration_typed text (decl.TypeDecl w nonempty) = refl
  declaration_typed text (decl.TypeDef w a) = type_definition_typed (type_phrase text a) (λ t. TypeSig false (Some t))
  declaration_typed text (decl.VarDecl w a) = type_definition_typed (type_phrase text a) VarSig
  declaration_typed text (decl.ConstDecl w bs a e) = constant_decl_typed (map (bound_of text) bs) (type_phrase text a) (body_of text e)
  declaration_typed text (decl.Formula w word e) = formula_decl_typed (class_of word) (phrase text e)

  abbrev DeclaredOf : CheckedEntry → Judgement (Unit {0}) → ElaboratedDecl
  DeclaredOf e j = record { entry = Some e.kind; import = None; conditions = j.conditions; uses = kind_symbols e.kind ++ e.variables }

  pub declared_is : (text : Text) (d : Decl) (x : ElaboratedDecl) → elab_decl s scope text d ≡ Ok x → IsDeclared s scope text d x
  declared_is text d x p =
      let f = finished (declaration s scope text d) (λ (e : CheckedEntry). e.typing) (decl_place d) DeclaredOf x p in
      subst (IsDeclared s scope text d) f.is (record {
        entered = f.found;
        found = f.met;
        entry = refl;
        import = refl;
        used = f.judgement.uses;
        typing = f.typed;
        uses = refl;
      })

  pub declared_fault : (text : Text) (d : Decl) (f : Fault) → elab_decl s scope text d ≡ Err f → declaration s scope text d ≡ Err f
  declared_fault text d f p = finished_fault (declaration s scope text d) (λ (e : CheckedEntry). e.typing) (decl_place d) DeclaredOf f
      (holds_weaker _ _ (declaration s scope text d) (declaration_typed text d) (λ e g. (tt, g))) p
