-- The tokens and blanks of a form, and their bytes (LR, lexical structure, expressions and types). Operands of infix operators,
-- of NOT and of projections, and the function of an application, stand in parentheses unless they are tight: a name, a variable,
-- TRUE, FALSE, an application, a projection, a tuple or an IF. Nothing else stands in parentheses.
use Rattle.std.specs.Prelude.{ℕ, Bool, true, false, List, [], ◌∷◌, ◌++◌, codes, Option, Some, None}
use Rattle.std.specs.Fmt.{decimal}
use Rattle.pvs_printer.specs.declared.words.BinderWord.{BinderWord}
use Rattle.pvs_printer.specs.declared.words.BinderWord.TheVariants as binder_word
use Rattle.pvs_printer.specs.declared.words.InfixWord.{InfixWord}
use Rattle.pvs_printer.specs.declared.words.InfixWord.TheVariants as infix_word
use Rattle.pvs_printer.specs.declared.words.Sign.{Sign}
use Rattle.pvs_printer.specs.declared.words.Sign.TheVariants as sign
use Rattle.pvs_printer.specs.Form.{Single, Declared, Bound, Free, Form, Forms, none, more}
use Rattle.pvs_printer.specs.Form as f

-- a blank, a keyword or sign, a name or variable, a number
pub data Piece : Type 0 where
  Space : Piece
  Fixed : Sign → Piece
  Named : Single → Piece
  Number : ℕ → Piece

abbrev pub sign_bytes : Sign → List ℕ
sign_bytes sign.Not = codes "NOT"
sign_bytes sign.And = codes "AND"
sign_bytes sign.Or = codes "OR"
sign_bytes sign.Implies = codes "IMPLIES"
sign_bytes sign.Equal = codes "="
sign_bytes sign.Forall = codes "FORALL"
sign_bytes sign.Exists = codes "EXISTS"
sign_bytes sign.Lambda = codes "LAMBDA"
sign_bytes sign.If = codes "IF"
sign_bytes sign.Then = codes "THEN"
sign_bytes sign.Else = codes "ELSE"
sign_bytes sign.EndIf = codes "ENDIF"
sign_bytes sign.True = codes "TRUE"
sign_bytes sign.False = codes "FALSE"
sign_bytes sign.Bool = codes "bool"
sign_bytes sign.Rest = codes "rest"
sign_bytes sign.Open = codes "("
sign_bytes sign.Close = codes ")"
sign_bytes sign.OpenBracket = codes "["
sign_bytes sign.CloseBracket = codes "]"
sign_bytes sign.OpenBrace = codes "{"
sign_bytes sign.CloseBrace = codes "}"
sign_bytes sign.Comma = codes ","
sign_bytes sign.Semicolon = codes ";"
sign_bytes sign.Colon = codes ":"
sign_bytes sign.Dot = codes "."
sign_bytes sign.Bar = codes "|"
sign_bytes sign.Arrow = codes "->"
sign_bytes sign.Backquote = codes "`"

abbrev pub single_bytes : Single → List ℕ
single_bytes (Declared text) = text
single_bytes (Bound n) = codes "v!" ++ decimal n
single_bytes (Free n) = codes "s!" ++ decimal n

abbrev pub piece_bytes : Piece → List ℕ
piece_bytes Space = codes " "
piece_bytes (Fixed k) = sign_bytes k
piece_bytes (Named s) = single_bytes s
piece_bytes (Number n) = decimal n

-- the bytes of pieces
abbrev pub spell : List Piece → List ℕ
spell [] = []
spell (p ∷ ps) = piece_bytes p ++ spell ps

-- ---- The pieces of a form.

abbrev pub binder_sign : BinderWord → Sign
binder_sign binder_word.Forall = sign.Forall
binder_sign binder_word.Exists = sign.Exists
binder_sign binder_word.Lambda = sign.Lambda

abbrev pub infix_sign : InfixWord → Sign
infix_sign infix_word.And = sign.And
infix_sign infix_word.Or = sign.Or
infix_sign infix_word.Implies = sign.Implies
infix_sign infix_word.Equal = sign.Equal

-- which forms stand without parentheses as an operand, as a function and before a projection; no type is one
abbrev pub is_tight : Form → Bool
is_tight (f.Quantified w n a p) = false
is_tight (f.Not p) = false
is_tight (f.Infix w a b) = false
is_tight _ = true

-- a variable and a colon before a type, where there is one
abbrev pub variable_pieces : Option ℕ → List Piece
variable_pieces None = []
variable_pieces (Some n) = Named (Bound n) ∷ Fixed sign.Colon ∷ Space ∷ []

-- in parentheses, unless it is tight
abbrev pub guarded : Bool → List Piece → List Piece
guarded true ps = ps
guarded false ps = Fixed sign.Open ∷ (ps ++ Fixed sign.Close ∷ [])

-- the actuals of an instance in brackets, where there are some
abbrev pub in_brackets : Forms → List Piece → List Piece
in_brackets none ps = []
in_brackets (more v x xs) ps = Fixed sign.OpenBracket ∷ (ps ++ Fixed sign.CloseBracket ∷ [])

abbrev mutual
  pub pieces : Form → List Piece
  pieces (f.Truth true) = Fixed sign.True ∷ []
  pieces (f.Truth false) = Fixed sign.False ∷ []
  pieces f.Boolean = Fixed sign.Bool ∷ []
  pieces (f.Plain s) = Named s ∷ []
  pieces (f.Qualified th xs x) = Named (Declared th) ∷ (in_brackets xs (list_pieces xs) ++ Fixed sign.Dot ∷ Named (Declared x) ∷ [])
  pieces (f.Apply g xs) = guarded (is_tight g) (pieces g) ++ Fixed sign.Open ∷ (list_pieces xs ++ Fixed sign.Close ∷ [])
  pieces (f.Part t n) = guarded (is_tight t) (pieces t) ++ Fixed sign.Backquote ∷ Number n ∷ []
  pieces (f.Tuple x xs) = Fixed sign.Open ∷ (pieces x ++ Fixed sign.Comma ∷ Space ∷ (list_pieces xs ++ Fixed sign.Close ∷ []))
  pieces (f.Cond c a b) = Fixed sign.If ∷ Space ∷ (pieces c ++ Space ∷ Fixed sign.Then ∷ Space ∷ (pieces a ++ Space ∷ Fixed sign.Else ∷ Space ∷ (pieces b ++ Space ∷ Fixed sign.EndIf ∷ [])))
  pieces (f.Quantified w n a p) = Fixed (binder_sign w) ∷ Space ∷ Fixed sign.Open ∷ Named (Bound n) ∷ Fixed sign.Colon ∷ Space ∷ (pieces a ++ Fixed sign.Close ∷ Fixed sign.Colon ∷ Space ∷ pieces p)
  pieces (f.Not p) = Fixed sign.Not ∷ Space ∷ guarded (is_tight p) (pieces p)
  pieces (f.Infix w a b) = guarded (is_tight a) (pieces a) ++ Space ∷ Fixed (infix_sign w) ∷ Space ∷ guarded (is_tight b) (pieces b)
  pieces (f.SubType n a p) = Fixed sign.OpenBrace ∷ Named (Bound n) ∷ Fixed sign.Colon ∷ Space ∷ (pieces a ++ Space ∷ Fixed sign.Bar ∷ Space ∷ (pieces p ++ Fixed sign.CloseBrace ∷ []))
  pieces (f.FunType v a b) = Fixed sign.OpenBracket ∷ (variable_pieces v ++ (pieces a ++ Space ∷ Fixed sign.Arrow ∷ Space ∷ (pieces b ++ Fixed sign.CloseBracket ∷ [])))
  pieces (f.TupleType v a bs) = Fixed sign.OpenBracket ∷ (variable_pieces v ++ (pieces a ++ Fixed sign.Comma ∷ Space ∷ (list_pieces bs ++ Fixed sign.CloseBracket ∷ [])))
  pieces (f.TaggedTuple k a b) = Fixed sign.Open ∷ Number k ∷ Fixed sign.Semicolon ∷ Space ∷ (pieces a ++ Fixed sign.Comma ∷ Space ∷ (pieces b ++ Fixed sign.Close ∷ []))
  pieces (f.Rest t) = guarded (is_tight t) (pieces t) ++ Fixed sign.Backquote ∷ Fixed sign.Rest ∷ []
  pieces (f.TaggedType k v a b) = Fixed sign.OpenBracket ∷ Number k ∷ Fixed sign.Semicolon ∷ Space ∷ (variable_pieces v ++ (pieces a ++ Fixed sign.Comma ∷ Space ∷ (pieces b ++ Fixed sign.CloseBracket ∷ [])))

  pub list_pieces : Forms → List Piece
  list_pieces none = []
  list_pieces (more v x none) = variable_pieces v ++ pieces x
  list_pieces (more v x (more w y ys)) = variable_pieces v ++ (pieces x ++ Fixed sign.Comma ∷ Space ∷ list_pieces (more w y ys))
