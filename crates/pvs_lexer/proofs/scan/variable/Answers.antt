use Rattle.std.proofs.Common.{◌+◌, ◌∙◌, Some, ap, sym, min}
use Rattle.std.specs.Char.{is_ascii_digit}
use Rattle.std.specs.List.{prefix_len}
use Rattle.std.proofs.lemmas.List.{take_rest}
use Rattle.pvs_lexer.specs.declared.token.TokenKind.TheVariants.{Bang}
use Rattle.pvs_lexer.proofs.LongestLaws.{variable_longest}
use Rattle.pvs_lexer.proofs.scan.variable.Goals as goal

pub returns : goal.returns
returns c =
    variable_longest _ _ c.requires
    ∙ ap (λ k. Some (Bang, 3 + min (prefix_len is_ascii_digit k) 8)) (sym (take_rest c.args.rest.now 2))
    ∙ ap (λ k. Some (Bang, 3 + k)) (sym (c.min.ensures ∙ ap (λ k. min k 8) c.run.ensures.value))
