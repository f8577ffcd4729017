-- The grammar of units, theories, declarations and proofs: a case for each of its lines.
--
-- Each declaration, each formal list and each script begins at level 0. In a script only parentheses count.
use Rattle.std.specs.Prelude.{◌≡◌, ℕ, suc, Bool, true, false, List, [], ◌∷◌, ◌++◌, length, map, Option, Some, None}
use Rattle.pvs_parser.specs.declared.nesting.Nesting.{Nesting}
use Rattle.pvs_parser.specs.declared.terminal.Terminal.{Terminal}
use Rattle.pvs_parser.specs.declared.terminal.TerminalKind.{TerminalKind}
use Rattle.pvs_parser.specs.declared.terminal.TerminalKind.TheVariants as kind
use Rattle.pvs_syntax.specs.declared.word.Word.{Word}
use Rattle.pvs_syntax.specs.Words.{spelling}
use Rattle.pvs_syntax.specs.declared.expression.Binding.{Binding}
use Rattle.pvs_syntax.specs.declared.expression.Expr.{Expr}
use Rattle.pvs_syntax.specs.declared.expression.InstExpr.{InstExpr}
use Rattle.pvs_syntax.specs.declared.expression.TypeExpr.{TypeExpr}
use Rattle.pvs_syntax.specs.declared.unit.Decl.{Decl}
use Rattle.pvs_syntax.specs.declared.unit.Decl.TheVariants as decl
use Rattle.pvs_syntax.specs.declared.unit.Formal.{Formal}
use Rattle.pvs_syntax.specs.declared.unit.Formal.TheVariants as formal
use Rattle.pvs_syntax.specs.declared.unit.FormulaWord.{FormulaWord}
use Rattle.pvs_syntax.specs.declared.unit.FormulaWord.TheVariants as formula_word
use Rattle.pvs_syntax.specs.declared.unit.Item.{Item}
use Rattle.pvs_syntax.specs.declared.unit.Item.TheVariants as item
use Rattle.pvs_syntax.specs.declared.unit.Proof.{Proof}
use Rattle.pvs_syntax.specs.declared.unit.Theory.{Theory}
use Rattle.pvs_syntax.specs.declared.unit.Unit as tree
use Rattle.pvs_parser.specs.Terminals.{Is, IsId}
use Rattle.pvs_parser.specs.Language as l
use Rattle.pvs_parser.specs.Language.{Limit, IsBelow, HasRoom, Tokens, Derives, Ending, outermost, in_frame, whole}

-- ---- Parts of trees.

abbrev pub type_formal : Bool → Word → Formal
type_formal nonempty w = formal.TypeFormal w nonempty

abbrev pub const_formal : TypeExpr → Word → Formal
const_formal a w = formal.ConstFormal w a

abbrev pub type_decl : Bool → Word → Decl
type_decl nonempty w = decl.TypeDecl w nonempty

abbrev pub var_decl : TypeExpr → Word → Decl
var_decl a w = decl.VarDecl w a

-- a constant without parameters and without a definition
abbrev pub const_decl : TypeExpr → Word → Decl
const_decl a w = decl.ConstDecl w [] a None

-- the word of a formula
abbrev pub formula_of : TerminalKind → Option FormulaWord
formula_of kind.Axiom = Some formula_word.Axiom
formula_of kind.Lemma = Some formula_word.Lemma
formula_of _ = None

-- ---- Declarations.

-- ids = id { "," id }, and no more than the limit
pub data DerivesIds (limit : Limit) : Tokens → List Word → Type 0 where
  one : (t : Terminal) → IsId t → DerivesIds limit (t ∷ []) (t.word ∷ [])
  more : (t u : Terminal) (ts : Tokens) (ws : List Word) → IsId t → Is kind.Comma u → DerivesIds limit ts ws → IsBelow limit (length ws) → DerivesIds limit (t ∷ u ∷ ts) (t.word ∷ ws)

-- TYPE [ "+" ] | NONEMPTY_TYPE, and whether the type is declared nonempty
pub data DerivesTypeWord : Tokens → Bool → Type 0 where
  type : (t : Terminal) → Is kind.Type t → DerivesTypeWord (t ∷ []) false
  type_plus : (t u : Terminal) → Is kind.Type t → Is kind.Plus u → DerivesTypeWord (t ∷ u ∷ []) true
  nonempty_type : (t : Terminal) → Is kind.NonemptyType t → DerivesTypeWord (t ∷ []) true

-- formal = ids ":" ( TYPE [ "+" ] | NONEMPTY_TYPE | type )
pub data DerivesFormal (limit : Limit) : Tokens → List Formal → Type 0 where
  types : (ts us : Tokens) (ws : List Word) (nonempty : Bool) (t : Terminal) → DerivesIds limit ts ws → Is kind.Colon t → DerivesTypeWord us nonempty
      → DerivesFormal limit (ts ++ t ∷ us) (map (type_formal nonempty) ws)
  constants : (ts us : Tokens) (ws : List Word) (a : TypeExpr) (m : Nesting) (t : Terminal) → DerivesIds limit ts ws → Is kind.Colon t → Derives limit l.type_ (in_frame outermost) us a m
      → DerivesFormal limit (ts ++ t ∷ us) (map (const_formal a) ws)

-- formal { "," formal }: so many of them, and no more than the limit
pub data DerivesFormals (limit : Limit) : ℕ → Tokens → List Formal → Type 0 where
  one : (ts : Tokens) (fs : List Formal) → DerivesFormal limit ts fs → DerivesFormals limit 1 ts fs
  more : (n : ℕ) (ts us : Tokens) (fs gs : List Formal) (t : Terminal) → DerivesFormal limit ts fs → Is kind.Comma t → DerivesFormals limit n us gs → IsBelow limit n
      → DerivesFormals limit (suc n) (ts ++ t ∷ us) (fs ++ gs)

-- [ "[" formal { "," formal } "]" ]
pub data DerivesFormalPart (limit : Limit) : Tokens → List Formal → Type 0 where
  none : DerivesFormalPart limit [] []
  formals : (n : ℕ) (ts : Tokens) (fs : List Formal) (t u : Terminal) → Is kind.OpenBracket t → HasRoom limit outermost → DerivesFormals limit n ts fs → Is kind.CloseBracket u
      → DerivesFormalPart limit (t ∷ (ts ++ u ∷ [])) fs

-- inst { "," inst }
pub data DerivesInstances (limit : Limit) : Tokens → List InstExpr → Type 0 where
  one : (ts : Tokens) (i : InstExpr) (m : Nesting) → Derives limit l.inst outermost ts i m → DerivesInstances limit ts (i ∷ [])
  more : (ts us : Tokens) (i : InstExpr) (is : List InstExpr) (m : Nesting) (t : Terminal) → Derives limit l.inst outermost ts i m → Is kind.Comma t → DerivesInstances limit us is
      → DerivesInstances limit (ts ++ t ∷ us) (i ∷ is)

-- importing = IMPORTING inst { "," inst }
pub data DerivesImporting (limit : Limit) : Tokens → List Decl → Type 0 where
  importing : (ts : Tokens) (is : List InstExpr) (t : Terminal) → Is kind.Importing t → DerivesInstances limit ts is → DerivesImporting limit (t ∷ ts) (map decl.Importing is)

-- ids ":" VAR type
pub data DerivesVariables (limit : Limit) : Tokens → List Decl → Type 0 where
  variables : (ts us : Tokens) (ws : List Word) (a : TypeExpr) (m : Nesting) (t u : Terminal) → DerivesIds limit ts ws → Is kind.Colon t → Is kind.Var u → Derives limit l.type_ outermost us a m
      → DerivesVariables limit (ts ++ t ∷ u ∷ us) (map (var_decl a) ws)

-- [ "(" bindings ")" ]
pub data DerivesParameters (limit : Limit) : Tokens → List Binding → Type 0 where
  none : DerivesParameters limit [] []
  parameters : (ts : Tokens) (bs : List Binding) (k : Nesting) (t u : Terminal) → Is kind.Open t → HasRoom limit outermost → Derives limit (l.list l.Variable) (in_frame outermost) ts bs k → Is kind.Close u
      → DerivesParameters limit (t ∷ (ts ++ u ∷ [])) bs

-- [ "=" expr ]
pub data DerivesBody (limit : Limit) : Tokens → Option Expr → Type 0 where
  none : DerivesBody limit [] None
  body : (e : Ending) (ts : Tokens) (x : Expr) (m : Nesting) (t : Terminal) → Is kind.Equal t → Derives limit (whole e) outermost ts x m → DerivesBody limit (t ∷ ts) (Some x)

-- one declaration, which is an entry for each of its names
pub data DerivesDecl (limit : Limit) : Tokens → List Decl → Type 0 where
  -- decl = importing
  importing : (ts : Tokens) (ds : List Decl) → DerivesImporting limit ts ds → DerivesDecl limit ts ds
  -- decl = ids ":" ( TYPE [ "+" ] | NONEMPTY_TYPE | VAR type | type )
  types : (ts us : Tokens) (ws : List Word) (nonempty : Bool) (t : Terminal) → DerivesIds limit ts ws → Is kind.Colon t → DerivesTypeWord us nonempty
      → DerivesDecl limit (ts ++ t ∷ us) (map (type_decl nonempty) ws)
  variables : (ts : Tokens) (ds : List Decl) → DerivesVariables limit ts ds → DerivesDecl limit ts ds
  constants : (ts us : Tokens) (ws : List Word) (a : TypeExpr) (m : Nesting) (t : Terminal) → DerivesIds limit ts ws → Is kind.Colon t → Derives limit l.type_ outermost us a m
      → DerivesDecl limit (ts ++ t ∷ us) (map (const_decl a) ws)
  -- decl = id ":" TYPE "=" type
  type_definition : (ts : Tokens) (a : TypeExpr) (m : Nesting) (t u v w : Terminal) → IsId t → Is kind.Colon u → Is kind.Type v → Is kind.Equal w → Derives limit l.type_ outermost ts a m
      → DerivesDecl limit (t ∷ u ∷ v ∷ w ∷ ts) (decl.TypeDef t.word a ∷ [])
  -- decl = id [ "(" bindings ")" ] ":" type [ "=" expr ]
  constant : (ts us vs : Tokens) (bs : List Binding) (a : TypeExpr) (x : Option Expr) (m : Nesting) (t u : Terminal) → IsId t → DerivesParameters limit ts bs → Is kind.Colon u
      → Derives limit l.type_ outermost us a m → DerivesBody limit vs x
      → DerivesDecl limit (t ∷ (ts ++ u ∷ (us ++ vs))) (decl.ConstDecl t.word bs a x ∷ [])
  -- decl = id ":" formulaword expr
  formula : (e : Ending) (ts : Tokens) (x : Expr) (w : FormulaWord) (m : Nesting) (t u v : Terminal) → IsId t → Is kind.Colon u → formula_of v.kind ≡ Some w → Derives limit (whole e) outermost ts x m
      → DerivesDecl limit (t ∷ u ∷ v ∷ ts) (decl.Formula t.word w x ∷ [])

-- one declaration of an assuming part
pub data DerivesAssumed (limit : Limit) : Tokens → List Decl → Type 0 where
  -- assumed = importing | ids ":" VAR type
  importing : (ts : Tokens) (ds : List Decl) → DerivesImporting limit ts ds → DerivesAssumed limit ts ds
  variables : (ts : Tokens) (ds : List Decl) → DerivesVariables limit ts ds → DerivesAssumed limit ts ds
  -- assumed = id ":" ASSUMPTION expr
  assumption_of : (e : Ending) (ts : Tokens) (x : Expr) (m : Nesting) (t u v : Terminal) → IsId t → Is kind.Colon u → Is kind.Assumption v → Derives limit (whole e) outermost ts x m
      → DerivesAssumed limit (t ∷ u ∷ v ∷ ts) (decl.Formula t.word formula_word.Assumption x ∷ [])

-- [ ";" ]
pub data DerivesSemicolon : Tokens → Type 0 where
  none : DerivesSemicolon []
  semicolon : (t : Terminal) → Is kind.Semicolon t → DerivesSemicolon (t ∷ [])

-- { d [ ";" ] }, for a kind of declarations d
pub data DerivesMany (D : Tokens → List Decl → Type 0) : Tokens → List Decl → Type 0 where
  none : DerivesMany D [] []
  more : (ts ss us : Tokens) (ds es : List Decl) → D ts ds → DerivesSemicolon ss → DerivesMany D us es → DerivesMany D (ts ++ (ss ++ us)) (ds ++ es)

-- ---- Theories.

-- [ ASSUMING { assumed [ ";" ] } ENDASSUMING ]
pub data DerivesAssuming (limit : Limit) : Tokens → List Decl → Type 0 where
  none : DerivesAssuming limit [] []
  assuming : (ts : Tokens) (ds : List Decl) (t u : Terminal) → Is kind.Assuming t → DerivesMany (DerivesAssumed limit) ts ds → Is kind.EndAssuming u
      → DerivesAssuming limit (t ∷ (ts ++ u ∷ [])) ds

-- theory = id [ "[" formal { "," formal } "]" ] ":" THEORY BEGIN [ ASSUMING { assumed [ ";" ] } ENDASSUMING ] { decl [ ";" ] } END id
-- The two names have the same bytes.
pub data DerivesTheory (limit : Limit) (text : List ℕ) : Tokens → Theory → Type 0 where
  theory : (ts us vs : Tokens) (fs : List Formal) (hs ds : List Decl) (t u v w x y : Terminal) → IsId t → DerivesFormalPart limit ts fs → Is kind.Colon u → Is kind.Theory v → Is kind.Begin w
      → DerivesAssuming limit us hs → DerivesMany (DerivesDecl limit) vs ds → Is kind.End x → IsId y → spelling text t.word ≡ spelling text y.word
      → DerivesTheory limit text (t ∷ (ts ++ u ∷ v ∷ w ∷ (us ++ (vs ++ x ∷ y ∷ []))))
      (record { name = t.word; formals = fs; assuming = hs; decls = ds; end = y.word.end })

-- ---- Proofs.

-- a token that is no parenthesis
abbrev pub is_plain : TerminalKind → Bool
is_plain kind.Open = false
is_plain kind.Close = false
is_plain _ = true

-- any tokens, balanced in parentheses, inside so many of them
pub data Balanced (limit : Limit) : ℕ → Tokens → Type 0 where
  nothing : (n : ℕ) → Balanced limit n []
  token : (n : ℕ) (ts : Tokens) (t : Terminal) → is_plain t.kind ≡ true → Balanced limit n ts → Balanced limit n (t ∷ ts)
  group : (n : ℕ) (ts us : Tokens) (t u : Terminal) → Is kind.Open t → IsBelow limit n → Balanced limit (suc n) ts → Is kind.Close u → Balanced limit n us
      → Balanced limit n (t ∷ (ts ++ u ∷ us))

-- proof = "(" proof id "." id group ")"     group = "(" any tokens, balanced in parentheses ")"
pub data DerivesProof (limit : Limit) : Tokens → Proof → Type 0 where
  proof : (ts : Tokens) (t u v w x y z c : Terminal) → Is kind.Open t → Is kind.Proof u → IsId v → Is kind.Dot w → IsId x → Is kind.Open y → IsBelow limit 0 → Balanced limit 1 ts → Is kind.Close z → Is kind.Close c
      → DerivesProof limit (t ∷ u ∷ v ∷ w ∷ x ∷ y ∷ (ts ++ z ∷ c ∷ []))
      (record { theory = v.word; formula = x.word; start = y.word.start; end = z.word.end; pos = y.word.pos })

-- ---- Units.

-- { theory | proof }
pub data DerivesItems (limit : Limit) (text : List ℕ) : Tokens → List Item → Type 0 where
  none : DerivesItems limit text [] []
  theory : (ts us : Tokens) (t : Theory) (is : List Item) → DerivesTheory limit text ts t → DerivesItems limit text us is → DerivesItems limit text (ts ++ us) (item.Theory t ∷ is)
  proof : (ts us : Tokens) (p : Proof) (is : List Item) → DerivesProof limit ts p → DerivesItems limit text us is → DerivesItems limit text (ts ++ us) (item.Proof p ∷ is)

abbrev pub DerivesUnit : Limit → List ℕ → Tokens → tree.Unit → Type 0
DerivesUnit limit text ts u = DerivesItems limit text ts u.items
