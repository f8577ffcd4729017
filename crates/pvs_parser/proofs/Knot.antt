-- The function that reads what stands deeper, step by step.
use Rattle.std.proofs.Common.{◌≡◌, ℕ, zero, suc, ◌-◌, ◌<◌, refl, ap, ◌∙◌, arith}
use Rattle.pvs_parser.specs.declared.nesting.Nesting.{Nesting}
use Rattle.pvs_parser.specs.declared.start.Start.{Start}
use Rattle.pvs_parser.specs.Language.{Limit, language_limit, Tokens}
use Rattle.pvs_parser.specs.code.Descent.{Readers, reader, next_readers, expr_with, type_with, stop}
use Rattle.pvs_parser.specs.code.Nests.{bounded_reader}

reader-limit : (limit : Limit) (room : ℕ) → (reader limit room).limit ≡ limit
unfolding reader
reader-limit limit zero = refl
reader-limit limit (suc room) = reader-limit limit room

pub reader-below : (room : ℕ) → reader language_limit room ≡ bounded_reader room
reader-below room =
    let with : Limit → Readers = λ limit. record { limit = limit; expr = (reader language_limit room).expr; type = (reader language_limit room).type } in
    ap with (reader-limit language_limit room)

reader-suc : (room : ℕ) → reader language_limit (suc room) ≡ next_readers (reader language_limit room)
unfolding reader
reader-suc room = refl

reader-more : (room : ℕ) → 0 < room → reader language_limit room ≡ next_readers (bounded_reader (room - 1))
reader-more room some = let e : room ≡ suc (room - 1) = omega arith in ap (reader language_limit) e ∙ reader-suc (room - 1) ∙ ap next_readers (reader-below (room - 1))

pub expr-more : (room : ℕ) (s : Start) (l : Nesting) (ts : Tokens) → 0 < room → (reader language_limit room).expr s l ts ≡ expr_with (bounded_reader (room - 1)) s l ts
expr-more room s l ts some = ap (λ (go : Readers). go.expr s l ts) (reader-more room some)

pub type-more : (room : ℕ) (l : Nesting) (ts : Tokens) → 0 < room → (reader language_limit room).type l ts ≡ type_with (bounded_reader (room - 1)) l ts
type-more room l ts some = ap (λ (go : Readers). go.type l ts) (reader-more room some)

pub expr-none : (room : ℕ) (s : Start) (l : Nesting) (ts : Tokens) → room ≡ 0 → (reader language_limit room).expr s l ts ≡ stop ts
unfolding reader
expr-none room s l ts e = ap (λ n. (reader language_limit n).expr s l ts) e

pub type-none : (room : ℕ) (l : Nesting) (ts : Tokens) → room ≡ 0 → (reader language_limit room).type l ts ≡ stop ts
unfolding reader
type-none room l ts e = ap (λ n. (reader language_limit n).type l ts) e
