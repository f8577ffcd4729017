-- The theories that stand, in the order in which each mentions only those before it, by number.
use Rattle.std.specs.Prelude.{◌≡◌, ℕ, zero, suc, List, [], ◌∷◌, map}
use Rattle.pvs_terms.specs.Tree.{Text}
use Rattle.pvs_terms.specs.Stored.{Stored, text_at}
use Rattle.pvs_sig.specs.Signature.{Signature}
use Rattle.pvs_sig.specs.SignatureAt.{signature_at, AllIn}
use Rattle.pvs_sig.specs.Development.{Development}
use Rattle.pvs_instantiate.specs.declared.theories.Theory.{Theory}

-- a name and the theory that stands under it, the earliest first
abbrev pub Entries : Type 0
Entries = List (ℕ × Theory)

abbrev pub entry_signature : Stored → ℕ × Theory → Signature
entry_signature s e = signature_at s e.1.signature

abbrev pub signatures : Stored → Entries → List Signature
signatures s es = map (entry_signature s) es

-- these theories after those of d
abbrev pub theories_after : Development → List Signature → Development
theories_after d [] = d
theories_after d (x ∷ xs) = theories_after (x ∷ d) xs

abbrev pub entry_stamp : Stored → ℕ × Theory → Text × ℕ
entry_stamp s e = (text_at s e.1.signature.name, e.1.stamp)

-- each theory stands under its own name
abbrev pub AreNamed : Entries → Type 0
AreNamed es = AllIn (λ e. e.0 ≡ e.1.signature.name) es

-- no stamp is that of two theories
abbrev pub StampsDiffer : Entries → Type 0
StampsDiffer [] = Unit {0}
StampsDiffer (e ∷ es) = AllIn (λ f. f.1.stamp ≡ e.1.stamp → ⊥) es × StampsDiffer es

-- the first n theories with the stamps from 1 on
abbrev pub numbered : ℕ → ℕ → Entries → Entries
numbered from zero es = es
numbered from (suc n) [] = []
numbered from (suc n) (e ∷ es) = (e.0, record { signature = e.1.signature; stamp = suc from }) ∷ numbered (suc from) n es
