-- The definitions of tokens at small texts.
use Rattle.std.proofs.Common.{◌≡◌, ℕ, List, [], ◌∷◌, map, codes, Some, None, refl}
use Rattle.pvs_base.specs.declared.code.Code.TheVariants.{BadByte}
use Rattle.pvs_lexer.specs.declared.token.TokenKind.TheVariants as kind
use Rattle.pvs_lexer.specs.declared.words.Keyword.TheVariants as word
use Rattle.pvs_lexer.specs.Keywords.{keyword_of}
use Rattle.pvs_lexer.specs.Tokens.{kind_of, longest, TokenStream, tokens_of}

kinds : map kind_of (codes "a?_1" ∷ codes "v!1" ∷ codes "v!0" ∷ codes "v!123456789" ∷ codes "v!1234567890" ∷ codes "V!1" ∷ codes "01" ∷ codes "\"\"" ∷ codes "\"a\"" ∷ codes "\"a\"b\"" ∷ codes "<=>" ∷ codes "<=" ∷ codes "<" ∷ codes "}}" ∷ codes "" ∷ [])
    ≡ Some kind.Word ∷ Some kind.Bang ∷ None ∷ Some kind.Bang ∷ None ∷ None ∷ Some kind.Number ∷ Some kind.Quoted ∷ Some kind.Quoted ∷ None ∷ Some kind.Symbol ∷ Some kind.Symbol ∷ Some kind.Symbol ∷ None ∷ None ∷ []
kinds = refl

longest_tokens : map longest (codes "v!1234567890" ∷ codes "v!0" ∷ codes "<=>a" ∷ codes "\"a\"b\"" ∷ codes "\"a" ∷ codes " a" ∷ [])
    ≡ Some (kind.Bang, 11) ∷ Some (kind.Word, 1) ∷ Some (kind.Symbol, 3) ∷ Some (kind.Quoted, 3) ∷ None ∷ None ∷ []
unfolding longest
longest_tokens = refl

keywords : map keyword_of (codes "end" ∷ codes "Xor" ∷ codes "proof" ∷ codes "ends" ∷ codes "nonempty_TYPE" ∷ []) ≡ Some word.End ∷ Some word.Xor ∷ None ∷ None ∷ Some word.NonemptyType ∷ []
unfolding keyword_of
keywords = refl

-- `a %` on a first line, and on a second one a vertical tab
small : let text : List ℕ = 97 ∷ 32 ∷ 37 ∷ 97 ∷ 10 ∷ 32 ∷ 11 ∷ [] in
    let lexed : TokenStream = record {
      tokens = record { kind = kind.Word; start = 0; end = 1; pos = record { line = 1; col = 1 } } ∷ [];
      fault = Some (record { pos = record { line = 2; col = 2 }; code = BadByte });
    } in tokens_of (record { line = 1; col = 1 }) text ≡ lexed
unfolding tokens_of longest
small = refl
