-- Which word is a keyword.
use Rattle.std.specs.Prelude.{ℕ, if◌then◌else◌, List, [], ◌∷◌, ◌++◌, codes, Option, Some, None}
use Rattle.std.specs.Str.{str_eq_ignore_ascii_case}
use Rattle.pvs_lexer.specs.declared.words.Keyword.{Keyword}
use Rattle.pvs_lexer.specs.declared.words.Keyword.TheVariants as k

-- the words of the grammar
abbrev pub grammar_words : List (List ℕ × Keyword)
grammar_words =
    (codes "AND", k.And) ∷
    (codes "ASSUMING", k.Assuming) ∷
    (codes "ASSUMPTION", k.Assumption) ∷
    (codes "AXIOM", k.Axiom) ∷
    (codes "BEGIN", k.Begin) ∷
    (codes "CHALLENGE", k.Challenge) ∷
    (codes "CLAIM", k.Claim) ∷
    (codes "CONJECTURE", k.Conjecture) ∷
    (codes "COROLLARY", k.Corollary) ∷
    (codes "ELSE", k.Else) ∷
    (codes "ELSIF", k.Elsif) ∷
    (codes "END", k.End) ∷
    (codes "ENDASSUMING", k.EndAssuming) ∷
    (codes "ENDIF", k.EndIf) ∷
    (codes "EXISTS", k.Exists) ∷
    (codes "FACT", k.Fact) ∷
    (codes "FALSE", k.False) ∷
    (codes "FORALL", k.Forall) ∷
    (codes "FORMULA", k.Formula) ∷
    (codes "IF", k.If) ∷
    (codes "IFF", k.Iff) ∷
    (codes "IMPLIES", k.Implies) ∷
    (codes "IMPORTING", k.Importing) ∷
    (codes "IN", k.In) ∷
    (codes "LAMBDA", k.Lambda) ∷
    (codes "LAW", k.Law) ∷
    (codes "LEMMA", k.Lemma) ∷
    (codes "LET", k.Let) ∷
    (codes "NONEMPTY_TYPE", k.NonemptyType) ∷
    (codes "NOT", k.Not) ∷
    (codes "OBLIGATION", k.Obligation) ∷
    (codes "OR", k.Or) ∷
    (codes "POSTULATE", k.Postulate) ∷
    (codes "PROPOSITION", k.Proposition) ∷
    (codes "SUBLEMMA", k.Sublemma) ∷
    (codes "THEN", k.Then) ∷
    (codes "THEOREM", k.Theorem) ∷
    (codes "THEORY", k.Theory) ∷
    (codes "TRUE", k.True) ∷
    (codes "TYPE", k.Type) ∷
    (codes "VAR", k.Var) ∷
    []

-- the words of PVS that no form of the grammar has
abbrev pub outside_words : List (List ℕ × Keyword)
outside_words =
    (codes "CASES", k.Cases) ∷
    (codes "CODATATYPE", k.Codatatype) ∷
    (codes "COND", k.Cond) ∷
    (codes "CONVERSION", k.Conversion) ∷
    (codes "DATATYPE", k.Datatype) ∷
    (codes "EXPORTING", k.Exporting) ∷
    (codes "FROM", k.From) ∷
    (codes "HAS_TYPE", k.HasType) ∷
    (codes "INDUCTIVE", k.Inductive) ∷
    (codes "JUDGEMENT", k.Judgement) ∷
    (codes "LIBRARY", k.Library) ∷
    (codes "MACRO", k.Macro) ∷
    (codes "MEASURE", k.Measure) ∷
    (codes "RECURSIVE", k.Recursive) ∷
    (codes "SUBTYPE_OF", k.SubtypeOf) ∷
    (codes "TABLE", k.Table) ∷
    (codes "WHEN", k.When) ∷
    (codes "WHERE", k.Where) ∷
    (codes "WITH", k.With) ∷
    (codes "XOR", k.Xor) ∷
    []

-- what the first entry gives that is the word, whatever the case of its letters
abbrev pub find : List (List ℕ × Keyword) → List ℕ → Option Keyword
find [] word = None
find (entry ∷ entries) word = if str_eq_ignore_ascii_case entry.0 word then Some entry.1 else find entries word

-- Which keyword a word is, in any case of its letters. A word that is none is an identifier.
unfoldable pub keyword_of : List ℕ → Option Keyword
keyword_of word = find (grammar_words ++ outside_words) word
