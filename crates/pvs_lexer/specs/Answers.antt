-- What one call of a lexer answers, and what it leaves.
use Rattle.std.specs.Prelude.{List, [], ◌∷◌, Option, Some, None, Result, Ok, Err}
use Rattle.pvs_base.specs.declared.code.Fault.{Fault}
use Rattle.pvs_lexer.specs.declared.token.Token.{Token}
use Rattle.pvs_lexer.specs.Tokens.{TokenStream, no_tokens}

abbrev pub first_of : List Token → Option Fault → Option (Result Token Fault)
first_of (token ∷ tokens) fault = Some (Ok token)
first_of [] (Some fault) = Some (Err fault)
first_of [] None = None

abbrev pub after_first : List Token → Option Fault → TokenStream
after_first (token ∷ tokens) fault = record { tokens = tokens; fault = fault }
after_first [] fault = no_tokens

-- the first of the tokens that come; where none does, the fault; and nothing at the end
abbrev pub answer_of : TokenStream → Option (Result Token Fault)
answer_of lexed = first_of lexed.tokens lexed.fault

-- what comes after the first token, or after the fault: nothing, at the end too
abbrev pub after_answer : TokenStream → TokenStream
after_answer lexed = after_first lexed.tokens lexed.fault
