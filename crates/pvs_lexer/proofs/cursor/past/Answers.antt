use Rattle.std.proofs.Common.{ℕ, ◌+◌, ◌∙◌, ap, ap₂, sym, List, [], take}
use Rattle.std.proofs.lemmas.List.{take_all, take_rest}
use Rattle.pvs_base.specs.declared.place.Pos.{Pos}
use Rattle.pvs_base.specs.Place.{place_after}
use Rattle.pvs_lexer.specs.Tokens.{tokens_from}
use Rattle.pvs_lexer.proofs.TokenLaws.{tokens_past}
use Rattle.pvs_lexer.proofs.cursor.past.Goals as goal

pub returns-clause-same : goal.returns-clause-same
returns-clause-same c =
    let rest = c.args.cursor.rest.now in
    let taken = take_all c.loop-b.b-index (take c.args.size rest) c.loop-b-test.false in
    ap₂ (λ (p : Pos) (xs : List ℕ). tokens_from (c.args.cursor.offset + c.args.size) p [] 0 xs)
    (c.loop-b.invariant ∙ ap (place_after c.args.cursor.pos) taken) (take_rest rest c.args.size)
    ∙ sym (tokens_past c.args.cursor.offset c.args.cursor.pos c.args.size rest c.requires.within)
