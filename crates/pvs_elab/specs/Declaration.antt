-- Declarations: the entry that one makes, and what typing owes for it (CSL-97-2, theories and TCCs; the PVS Language
-- Reference, declarations).
use Rattle.std.specs.Prelude.{Bool, true, false, List, [], ◌∷◌, ◌++◌, map, Option, Some, None}
use Rattle.pvs_base.specs.Answers.{◌>>=◌}
use Rattle.pvs_base.specs.declared.place.Pos.{Pos}
use Rattle.pvs_base.specs.declared.code.Code.TheVariants.{OutOfProfile}
use Rattle.pvs_terms.specs.Tree.{Text, Tree, Ref, TBool, True, TFun, Lam}
use Rattle.pvs_subst.specs.Contexts.{Variable}
use Rattle.pvs_syntax.specs.declared.expression.Expr.{Expr}
use Rattle.pvs_syntax.specs.declared.unit.Decl.{Decl}
use Rattle.pvs_syntax.specs.declared.unit.Decl.TheVariants as decl
use Rattle.pvs_syntax.specs.declared.unit.FormulaWord.{FormulaWord}
use Rattle.pvs_syntax.specs.declared.unit.FormulaWord.TheVariants as formula_word
use Rattle.pvs_sig.specs.declared.signature.Class.{Class}
use Rattle.pvs_sig.specs.declared.signature.Class.TheVariants as class
use Rattle.pvs_sig.specs.Lookups.{Lookups}
use Rattle.pvs_sig.specs.Signature.{Import, Kind, TypeSig, ConstSig, VarSig, FormulaSig}
use Rattle.pvs_types.specs.Outcome.{Conditions, Outcome, owe, from_result, within_limits}
use Rattle.pvs_types.specs.Outcome as outcome
use Rattle.pvs_types.specs.Forms.{is_known_nonempty}
use Rattle.pvs_types.specs.Typing.{negation, check, well_formed}
use Rattle.pvs_types.specs.Symbols.{symbols}
use Rattle.pvs_elab.specs.Answer.{Answer, ◌>>◌, pure, fault, within_limits_at, from_outcome, judgement_at}
use Rattle.pvs_elab.specs.Names.{Names}
use Rattle.pvs_elab.specs.Phrase.{Phrase, Function, place}
use Rattle.pvs_elab.specs.Desugar.{Bound, bound_of, domain, names, phrase, type_phrase}
use Rattle.pvs_elab.specs.Elab.{Here, elab, under_variable, universal, variables, variable_refs}
use Rattle.pvs_elab.specs.Formula as free
use Rattle.pvs_elab.specs.Formula.{Formula, formula, binders_of}

-- EXISTS (x: A): TRUE
abbrev pub existential : Tree → Tree
existential a = negation (universal a (negation True))

-- A declared entry: what it is, what typing says of its trees, where the conditions are, and the VARs that gave types.
pub record CheckedEntry : Type 0 where
  pub kind : Kind
  pub typing : Outcome (Unit {0})
  pub variables : List Ref

-- the symbols of the trees of an entry
abbrev pub option_symbols : Option Tree → List Ref
option_symbols None = []
option_symbols (Some t) = symbols t

abbrev pub kind_symbols : Kind → List Ref
kind_symbols (TypeSig b body) = option_symbols body
kind_symbols (ConstSig t body) = symbols t ++ option_symbols body
kind_symbols (VarSig t) = symbols t
kind_symbols (FormulaSig c t o) = symbols t

abbrev pub class_of : FormulaWord → Class
class_of formula_word.Axiom = class.Axiom
class_of formula_word.Assumption = class.Assumption
class_of formula_word.Lemma = class.Lemma

-- a declaration stands under no binder
abbrev pub top_level : Here
top_level = record { locals = []; context = [] }

-- that a type has a member, unless it is known to have one
abbrev pub existence_if : Tree → Bool → Outcome (Unit {0})
existence_if a true = outcome.pure tt
existence_if a false = outcome.◌>>=◌ (within_limits (existential a)) (owe [])

abbrev pub existence : Lookups → Tree → Outcome (Unit {0})
existence s a = outcome.◌>>=◌ (from_result (is_known_nonempty s a)) (existence_if a)

-- a constant without a definition: the type, its place, and the place of its condition
abbrev pub constant : Lookups → Names → Phrase → Pos → Answer CheckedEntry
constant s scope a pos = do
  t ← (elab s scope a).formed top_level
  from_outcome pos (existence s t)
  pure (record { kind = ConstSig t None; typing = outcome.◌>>◌ (well_formed s [] t) (existence s t); variables = variable_refs scope (variables a) })

-- with one
abbrev pub definition : Lookups → Names → Phrase → Phrase → Answer CheckedEntry
definition s scope a e = do
  t ← (elab s scope a).formed top_level
  b ← (elab s scope e).check top_level (place e) t
  pure (record { kind = ConstSig t (Some b); typing = outcome.◌>>◌ (well_formed s [] t) (check s [] b t); variables = variable_refs scope (variables a ++ variables e) })

-- with parameters and a definition: the type of the parameters and its place, their names, the type and the definition
abbrev pub function : Lookups → Names → Phrase → Pos → List Text → Phrase → Phrase → Answer CheckedEntry
function s scope d pos xs a e = do
  c ← (elab s scope d).formed top_level
  t ← (elab s scope a).formed (under_variable xs c top_level)
  u ← within_limits_at pos (TFun c t)
  b ← (elab s scope e).check (under_variable xs c top_level) (place e) t
  f ← within_limits_at (place e) (Lam c b)
  pure (record { kind = ConstSig u (Some f); typing = outcome.◌>>◌ (well_formed s [] u) (check s (Variable c ∷ []) b t); variables = variable_refs scope (variables d ++ (variables a ++ variables e)) })

abbrev pub constant_decl : Lookups → Names → List Bound → Phrase → Option Phrase → Answer CheckedEntry
constant_decl s scope [] a None = constant s scope a (place a)
constant_decl s scope [] a (Some e) = definition s scope a e
constant_decl s scope (b ∷ bs) a None = constant s scope (Function (domain b.pos (b ∷ bs)) (names (b ∷ bs)) a b.pos) b.pos
constant_decl s scope (b ∷ bs) a (Some e) = function s scope (domain b.pos (b ∷ bs)) b.pos (names (b ∷ bs)) a e

abbrev pub type_definition : Lookups → Names → Phrase → (Tree → Kind) → Answer CheckedEntry
type_definition s scope a kind = do
  t ← (elab s scope a).formed top_level
  pure (record { kind = kind t; typing = well_formed s [] t; variables = variable_refs scope (variables a) })

abbrev pub formula_decl : Lookups → Names → Class → Phrase → Answer CheckedEntry
formula_decl s scope c e = do
  f ← formula s scope e
  pure (record { kind = FormulaSig c f.tree 0; typing = check s (binders_of f.variables) f.open_tree TBool; variables = map (λ (b : free.FreeVariable). b.reference) f.variables ++ variable_refs scope (variables e) })

abbrev pub body_of : Text → Option Expr → Option Phrase
body_of text None = None
body_of text (Some e) = Some (phrase text e)

-- a declaration of this text; an importing is not built
abbrev pub declaration : Lookups → Names → Text → Decl → Answer CheckedEntry
declaration s scope text (decl.Importing i) = fault i.theory.pos OutOfProfile
declaration s scope text (decl.TypeDecl w nonempty) = pure (record { kind = TypeSig nonempty None; typing = outcome.pure tt; variables = [] })
declaration s scope text (decl.TypeDef w a) = type_definition s scope (type_phrase text a) (λ t. TypeSig false (Some t))
declaration s scope text (decl.VarDecl w a) = type_definition s scope (type_phrase text a) VarSig
declaration s scope text (decl.ConstDecl w bs a e) = constant_decl s scope (map (bound_of text) bs) (type_phrase text a) (body_of text e)
declaration s scope text (decl.Formula w word e) = formula_decl s scope (class_of word) (phrase text e)

-- the place of a declaration's name
abbrev pub decl_place : Decl → Pos
decl_place (decl.Importing i) = i.theory.pos
decl_place (decl.TypeDecl w nonempty) = w.pos
decl_place (decl.TypeDef w a) = w.pos
decl_place (decl.VarDecl w a) = w.pos
decl_place (decl.ConstDecl w bs a e) = w.pos
decl_place (decl.Formula w word e) = w.pos

-- An elaborated declaration: its entry or its importing, the conditions that it owes, in order and not yet closed, and what it
-- uses: the symbols of its trees, and the VARs that gave types or are free.
pub record ElaboratedDecl : Type 0 where
  pub entry : Option Kind
  pub import : Option Import
  pub conditions : Conditions
  pub uses : List Ref

abbrev pub elab_decl : Lookups → Names → Text → Decl → Answer ElaboratedDecl
elab_decl s names text d = do
  e ← declaration s names text d
  j ← judgement_at (decl_place d) e.typing
  pure (record { entry = Some e.kind; import = None; conditions = j.conditions; uses = kind_symbols e.kind ++ e.variables })
