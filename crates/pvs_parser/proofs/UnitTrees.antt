-- A unit that the grammar derives of a text is a tree of the text.
use Rattle.std.proofs.Common.{◌≡◌, ◌≤◌, ℕ, Bool, true, List, [], ◌∷◌, ◌++◌, length, All, Option, Some, refl, arith}
use Rattle.std.specs.Prelude.{IsTrue}
use Rattle.std.specs.List.{list_all}
use Rattle.std.proofs.lemmas.Bool.{and_parts}
use Rattle.std.proofs.lemmas.List.Elements.{All-nil, All-cons, All-head, All-tail, All-append, All-map}
use Rattle.pvs_syntax.specs.declared.word.Word.{Word}
use Rattle.pvs_syntax.specs.declared.expression.Binding.{Binding}
use Rattle.pvs_syntax.specs.declared.expression.Expr.{Expr}
use Rattle.pvs_syntax.specs.declared.expression.InstExpr.{InstExpr}
use Rattle.pvs_syntax.specs.declared.unit.Decl.{Decl}
use Rattle.pvs_syntax.specs.declared.unit.Decl.TheVariants as decl
use Rattle.pvs_syntax.specs.declared.unit.Formal.{Formal}
use Rattle.pvs_syntax.specs.declared.unit.FormulaWord.{FormulaWord}
use Rattle.pvs_syntax.specs.declared.unit.FormulaWord.TheVariants as formula_word
use Rattle.pvs_syntax.specs.declared.unit.Item.{Item}
use Rattle.pvs_syntax.specs.declared.unit.Item.TheVariants as item
use Rattle.pvs_syntax.specs.declared.unit.Proof.{Proof}
use Rattle.pvs_syntax.specs.declared.unit.Theory.{Theory}
use Rattle.pvs_syntax.specs.declared.unit.Unit as tree
use Rattle.pvs_syntax.specs.Trees.{Origin, whole_text, binding_in, IsIdentifierOf, IsTypeOf, IsInstOf, IsVariableOf, IsFormalOf, IsBodyOf, IsDeclOf, may_be_assumed, may_be_declared, IsTheoryOf, IsProofOf, IsItemOf, IsTreeOf}
use Rattle.pvs_parser.specs.declared.terminal.Terminal.{Terminal}
use Rattle.pvs_parser.specs.declared.terminal.TerminalKind.{TerminalKind}
use Rattle.pvs_parser.specs.declared.terminal.TerminalKind.TheVariants as kind
use Rattle.pvs_parser.specs.Language as l
use Rattle.pvs_parser.specs.Language.{Tokens, language_limit, outermost, in_frame, whole}
use Rattle.pvs_parser.specs.Units.{type_formal, const_formal, type_decl, var_decl, const_decl, formula_of, DerivesIds, DerivesFormal, DerivesFormals, DerivesFormalPart, DerivesInstances, DerivesImporting, DerivesVariables, DerivesParameters, DerivesBody, DerivesDecl, DerivesAssumed, DerivesMany, DerivesAssuming, DerivesTheory, DerivesProof, DerivesItems}
use Rattle.pvs_parser.specs.Text.{Reads, SpanIn, terminals_of_text}
use Rattle.pvs_parser.proofs.ExprTrees.{is_in}
use Rattle.pvs_parser.proofs.ScriptSpans.{Spans, spans_behind, spans_front, text_spans, spans_in}
use Rattle.pvs_parser.proofs.TextTokens.{text_terminals}
use Rattle.pvs_parser.proofs.TreeTokens.{AreTerminalsOf, prefix_are, rest_are, identifier_in}

-- ---- Lists.

each : {A : Type 0} (P Q : A → Type 0) → ((x : A) → P x → Q x) → (xs : List A) → All P xs → All Q xs
each P Q f [] h = All-nil Q
each P Q f (x ∷ xs) h = All-cons Q x xs (f x (All-head P x xs h)) (each P Q f xs (All-tail P x xs h))

each_true : {A : Type 0} (p : A → Bool) (xs : List A) → list_all p xs ≡ true → All (λ x. IsTrue (p x)) xs
each_true p [] e = All-nil (λ x. IsTrue (p x))
each_true p (x ∷ xs) e = let b = and_parts (p x) (list_all p xs) e in All-cons (λ x. IsTrue (p x)) x xs b.0 (each_true p xs b.1)

only : {A : Type 0} (P : A → Type 0) (x : A) → P x → All P (x ∷ [])
only P x h = All-cons P x [] h (All-nil P)

-- ---- Declarations.

-- a declaration that may stand in an assuming part, after it, or in both
abbrev IsAssumed : Origin → Decl → Type 0
IsAssumed o d = IsDeclOf o d × IsTrue (may_be_assumed d)

abbrev IsDeclared : Origin → Decl → Type 0
IsDeclared o d = IsDeclOf o d × IsTrue (may_be_declared d)

abbrev IsEither : Origin → Decl → Type 0
IsEither o d = IsDeclOf o d × IsTrue (may_be_assumed d) × IsTrue (may_be_declared d)

ids_in : (o : Origin) (ts : Tokens) (ws : List Word) → DerivesIds language_limit ts ws → AreTerminalsOf o ts → All (IsIdentifierOf o) ws
ids_in o _ _ (DerivesIds.one t is) h = only (IsIdentifierOf o) t.word (identifier_in o t h.0 is)
ids_in o _ _ (DerivesIds.more t u ts ws is comma d lt) h =
    All-cons (IsIdentifierOf o) t.word ws (identifier_in o t h.0 is) (ids_in o ts ws d h.1.1)

formal_in : (o : Origin) (ts : Tokens) (fs : List Formal) → DerivesFormal language_limit ts fs → AreTerminalsOf o ts → All (IsFormalOf o) fs
formal_in o _ _ (DerivesFormal.types ts us ws nonempty t d is w) h =
    All-map (IsFormalOf o) (type_formal nonempty) ws (ids_in o ts ws d (prefix_are o ts (t ∷ us) h))
formal_in o _ _ (DerivesFormal.constants ts us ws a m t d is e) h =
    let ty : IsTypeOf o a = (is_in o l.type_ _ us a m e (rest_are o ts (t ∷ us) h).1).0 in
    All-map (IsFormalOf o) (const_formal a) ws (each (IsIdentifierOf o) (λ w. IsIdentifierOf o w × IsTypeOf o a) (λ w i. (i, ty)) ws (ids_in o ts ws d (prefix_are o ts (t ∷ us) h)))

formals_in : (o : Origin) (n : ℕ) (ts : Tokens) (fs : List Formal) → DerivesFormals language_limit n ts fs → AreTerminalsOf o ts
    → All (IsFormalOf o) fs
formals_in o _ _ _ (DerivesFormals.one ts fs d) h = formal_in o ts fs d h
formals_in o _ _ _ (DerivesFormals.more n ts us fs gs t d is e lt) h =
    All-append (IsFormalOf o) fs gs (formal_in o ts fs d (prefix_are o ts (t ∷ us) h)) (formals_in o n us gs e (rest_are o ts (t ∷ us) h).1)

formal_part_in : (o : Origin) (ts : Tokens) (fs : List Formal) → DerivesFormalPart language_limit ts fs → AreTerminalsOf o ts
    → All (IsFormalOf o) fs
formal_part_in o _ _ DerivesFormalPart.none h = All-nil (IsFormalOf o)
formal_part_in o _ _ (DerivesFormalPart.formals n ts fs t u is lt d close) h = formals_in o n ts fs d (prefix_are o ts (u ∷ []) h.1)

instances_in : (o : Origin) (ts : Tokens) (is : List InstExpr) → DerivesInstances language_limit ts is → AreTerminalsOf o ts
    → All (IsInstOf o) is
instances_in o _ _ (DerivesInstances.one ts i m d) h = only (IsInstOf o) i (is_in o l.inst outermost ts i m d h).0
instances_in o _ _ (DerivesInstances.more ts us i is m t d comma e) h =
    All-cons (IsInstOf o) i is (is_in o l.inst outermost ts i m d (prefix_are o ts (t ∷ us) h)).0 (instances_in o us is e (rest_are o ts (t ∷ us) h).1)

importing_in : (o : Origin) (ts : Tokens) (ds : List Decl) → DerivesImporting language_limit ts ds → AreTerminalsOf o ts
    → All (IsEither o) ds
importing_in o _ _ (DerivesImporting.importing ts is t word d) h =
    All-map (IsEither o) decl.Importing is (each (IsInstOf o) (λ i. IsEither o (decl.Importing i)) (λ i j. (j, refl, refl)) is (instances_in o ts is d h.1))

variables_in : (o : Origin) (ts : Tokens) (ds : List Decl) → DerivesVariables language_limit ts ds → AreTerminalsOf o ts
    → All (IsEither o) ds
variables_in o _ _ (DerivesVariables.variables ts us ws a m t u d is var e) h =
    let ty : IsTypeOf o a = (is_in o l.type_ outermost us a m e (rest_are o ts (t ∷ u ∷ us) h).1.1).0 in
    All-map (IsEither o) (var_decl a) ws (each (IsIdentifierOf o) (λ w. IsEither o (var_decl a w)) (λ w i. ((i, ty), refl, refl)) ws (ids_in o ts ws d (prefix_are o ts (t ∷ u ∷ us) h)))

parameters_in : (o : Origin) (ts : Tokens) (bs : List Binding) → DerivesParameters language_limit ts bs → AreTerminalsOf o ts
    → (length bs ≤ 200) × All (IsVariableOf o) bs
parameters_in o _ _ DerivesParameters.none h = (omega arith, All-nil (IsVariableOf o))
parameters_in o _ _ (DerivesParameters.parameters ts bs k t u is lt d close) h =
    let b =
    is_in o (l.list l.Variable) _ ts bs k d (prefix_are o ts (u ∷ []) h.1) in (b.most, each_true (λ b. (binding_in o b).1) bs b.items)

body_in : (o : Origin) (ts : Tokens) (x : Option Expr) → DerivesBody language_limit ts x → AreTerminalsOf o ts → IsBodyOf o x
body_in o _ _ DerivesBody.none h = tt
body_in o _ _ (DerivesBody.body e ts x m t is d) h = is_in o (whole e) outermost ts x m d h.1

no_assumption : (k : TerminalKind) → formula_of k ≡ Some formula_word.Assumption → ⊥
no_assumption kind.Axiom e = cc
no_assumption kind.Lemma e = cc
no_assumption _ e = cc

formula_declared : (k : TerminalKind) (w : FormulaWord) (n : Word) (x : Expr) → formula_of k ≡ Some w
    → may_be_declared (decl.Formula n w x) ≡ true
formula_declared k formula_word.Axiom n x e = refl
formula_declared k formula_word.Lemma n x e = refl
formula_declared k formula_word.Assumption n x e = absurd (no_assumption k e)

decl_in : (o : Origin) (ts : Tokens) (ds : List Decl) → DerivesDecl language_limit ts ds → AreTerminalsOf o ts → All (IsDeclared o) ds
decl_in o _ _ (DerivesDecl.importing ts ds d) h = each (IsEither o) (IsDeclared o) (λ x i. (i.0, i.2)) ds (importing_in o ts ds d h)
decl_in o _ _ (DerivesDecl.types ts us ws nonempty t d is w) h =
    All-map (IsDeclared o) (type_decl nonempty) ws (each (IsIdentifierOf o) (λ w. IsDeclared o (type_decl nonempty w)) (λ w i. (i, refl)) ws (ids_in o ts ws d (prefix_are o ts (t ∷ us) h)))
decl_in o _ _ (DerivesDecl.variables ts ds d) h = each (IsEither o) (IsDeclared o) (λ x i. (i.0, i.2)) ds (variables_in o ts ds d h)
decl_in o _ _ (DerivesDecl.constants ts us ws a m t d is e) h =
    let ty : IsTypeOf o a = (is_in o l.type_ outermost us a m e (rest_are o ts (t ∷ us) h).1).0 in
    let none : 0 ≤ 200 = omega arith in
    All-map (IsDeclared o) (const_decl a) ws (each (IsIdentifierOf o) (λ w. IsDeclared o (const_decl a w)) (λ w i. ((i, none, All-nil (IsVariableOf o), ty, tt), refl)) ws (ids_in o ts ws d (prefix_are o ts (t ∷ us) h)))
decl_in o _ _ (DerivesDecl.type_definition ts a m t u v w is colon word equal d) h =
    only (IsDeclared o) _ ((identifier_in o t h.0 is, (is_in o l.type_ outermost ts a m d h.1.1.1.1).0), refl)
decl_in o _ _ (DerivesDecl.constant ts us vs bs a x m t u is d colon e f) h =
    let b = parameters_in o ts bs d (prefix_are o ts (u ∷ (us ++ vs)) h.1) in
    let r = (rest_are o ts (u ∷ (us ++ vs)) h.1).1 in
    only (IsDeclared o) _ ((identifier_in o t h.0 is, b.0, b.1, (is_in o l.type_ outermost us a m e (prefix_are o us vs r)).0, body_in o vs x f (rest_are o us vs r)), refl)
decl_in o _ _ (DerivesDecl.formula e ts x w m t u v is colon word d) h =
    only (IsDeclared o) _ ((identifier_in o t h.0 is, is_in o (whole e) outermost ts x m d h.1.1.1), formula_declared v.kind w t.word x word)

assumed_in : (o : Origin) (ts : Tokens) (ds : List Decl) → DerivesAssumed language_limit ts ds → AreTerminalsOf o ts → All (IsAssumed o) ds
assumed_in o _ _ (DerivesAssumed.importing ts ds d) h = each (IsEither o) (IsAssumed o) (λ x i. (i.0, i.1)) ds (importing_in o ts ds d h)
assumed_in o _ _ (DerivesAssumed.variables ts ds d) h = each (IsEither o) (IsAssumed o) (λ x i. (i.0, i.1)) ds (variables_in o ts ds d h)
assumed_in o _ _ (DerivesAssumed.assumption_of e ts x m t u v is colon word d) h =
    only (IsAssumed o) _ ((identifier_in o t h.0 is, is_in o (whole e) outermost ts x m d h.1.1.1), refl)

many_in : (o : Origin) (D : Tokens → List Decl → Type 0) (P : Decl → Type 0)
    → ((ts : Tokens) (ds : List Decl) → D ts ds → AreTerminalsOf o ts → All P ds)
    → (ts : Tokens) (ds : List Decl) → DerivesMany D ts ds → AreTerminalsOf o ts → All P ds
many_in o D P f _ _ DerivesMany.none h = All-nil P
many_in o D P f _ _ (DerivesMany.more ts ss us ds es d s e) h =
    All-append P ds es (f ts ds d (prefix_are o ts (ss ++ us) h)) (many_in o D P f us es e (rest_are o ss us (rest_are o ts (ss ++ us) h)))

assuming_in : (o : Origin) (ts : Tokens) (ds : List Decl) → DerivesAssuming language_limit ts ds → AreTerminalsOf o ts
    → All (IsAssumed o) ds
assuming_in o _ _ DerivesAssuming.none h = All-nil (IsAssumed o)
assuming_in o _ _ (DerivesAssuming.assuming ts ds t u is d end) h =
    many_in o (DerivesAssumed language_limit) (IsAssumed o) (assumed_in o) ts ds d (prefix_are o ts (u ∷ []) h.1)

-- ---- Theories and proofs.

-- the name of a theory ends before the name after END does
theory_order : (text : List ℕ) (from to : ℕ) (ts us vs : Tokens) (t u v w x y : Terminal)
    → Spans text from to (t ∷ (ts ++ u ∷ v ∷ w ∷ (us ++ (vs ++ x ∷ y ∷ [])))) → t.word.end ≤ y.word.end
theory_order text from to ts us vs t u v w x y s =
    let a = spans_behind text t.word.end to ts (u ∷ v ∷ w ∷ (us ++ (vs ++ x ∷ y ∷ []))) s.3 in
    let b = spans_behind text w.word.end to us (vs ++ x ∷ y ∷ []) a.2.3.3.3 in
    let c = spans_behind text b.0 to vs (x ∷ y ∷ []) b.2 in
    omega (arith, a.1, a.2.0, a.2.1, a.2.3.0, a.2.3.1, a.2.3.3.0, a.2.3.3.1, b.1, c.1, c.2.0, c.2.1, c.2.3.0, c.2.3.1)

theory_in : (text : List ℕ) (from to : ℕ) (ts : Tokens) (t : Theory) → DerivesTheory language_limit text ts t
    → AreTerminalsOf (whole_text text) ts → Spans text from to ts → IsTheoryOf (whole_text text) t
theory_in text from to _ _ (DerivesTheory.theory ts us vs fs hs ds t u v w x y is d colon word begin e f end id same) h s =
    let o : Origin = whole_text text in
    let a = (rest_are o ts (u ∷ v ∷ w ∷ (us ++ (vs ++ x ∷ y ∷ []))) h.1).1.1.1 in
    let b = rest_are o us (vs ++ x ∷ y ∷ []) a in
    record {
      name = identifier_in o t h.0 is;
      formals = formal_part_in o ts fs d (prefix_are o ts (u ∷ v ∷ w ∷ (us ++ (vs ++ x ∷ y ∷ []))) h.1);
      assuming = assuming_in o us hs e (prefix_are o us (vs ++ x ∷ y ∷ []) a);
      decls = many_in o (DerivesDecl language_limit) (IsDeclared o) (decl_in o) vs ds f (prefix_are o vs (x ∷ y ∷ []) b);
      order = theory_order text from to ts us vs t u v w x y s;
      end = (rest_are o vs (x ∷ y ∷ []) b).1.0.end;
    }

proof_in : (text : List ℕ) (ts : Tokens) (p : Proof) → DerivesProof language_limit ts p → AreTerminalsOf (whole_text text) ts
    → SpanIn text (item.Proof p) → IsProofOf (whole_text text) p
proof_in text _ _ (DerivesProof.proof ts t u v w x y z c first word is dot is2 opened lt d close last) h s = record {
  theory = identifier_in (whole_text text) v h.1.1.0 is;
  formula = identifier_in (whole_text text) x h.1.1.1.1.0 is2;
  order = s.0;
  end = s.1;
  pos = s.2;
}

items_in : (text : List ℕ) (from : ℕ) (ts : Tokens) (is : List Item) → DerivesItems language_limit text ts is
    → AreTerminalsOf (whole_text text) ts → Spans text from (length text) ts → All (SpanIn text) is
    → All (IsItemOf (whole_text text)) is
items_in text from _ _ DerivesItems.none h s a = All-nil (IsItemOf (whole_text text))
items_in text from _ _ (DerivesItems.theory ts us t is d e) h s a =
    let f = spans_front text from (length text) ts us s in
    let b = spans_behind text from (length text) ts us s in
    All-cons (IsItemOf (whole_text text)) (item.Theory t) is (theory_in text from f.0 ts t d (prefix_are (whole_text text) ts us h) f.2)
    (items_in text b.0 us is e (rest_are (whole_text text) ts us h) b.2 (All-tail (SpanIn text) (item.Theory t) is a))
items_in text from _ _ (DerivesItems.proof ts us p is d e) h s a =
    let b = spans_behind text from (length text) ts us s in
    All-cons (IsItemOf (whole_text text)) (item.Proof p) is (proof_in text ts p d (prefix_are (whole_text text) ts us h) (All-head (SpanIn text) (item.Proof p) is a))
    (items_in text b.0 us is e (rest_are (whole_text text) ts us h) b.2 (All-tail (SpanIn text) (item.Proof p) is a))

pub unit_tree : (text : List ℕ) (u : tree.Unit) → Reads text u → IsTreeOf text u
unit_tree text u r =
    items_in text 0 (terminals_of_text text).tokens u.items r.derives (text_terminals text) (text_spans text) (spans_in text u r)
