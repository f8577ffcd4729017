-- The words of surface trees.
use Rattle.std.specs.Prelude.{ℕ, List}
use Rattle.pvs_base.specs.Spans.{span_of}
use Rattle.pvs_syntax.specs.declared.word.Word.{Word}

-- the bytes of a word of a text
abbrev pub spelling : List ℕ → Word → List ℕ
spelling text w = span_of text w.start w.end
