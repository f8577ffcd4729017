-- What the entries and formals of theories are called.
use Rattle.std.specs.Prelude.{ℕ, [], Option, Some, None, slice_get}
use Rattle.pvs_terms.specs.Tree.{Text}
use Rattle.pvs_sig.specs.Signature.{Signature, FormalSig, Entry}
use Rattle.pvs_sig.specs.Development.{Development, theory_named}

pub record Names : Type 0 where
  -- of the entry of the theory itself with this number
  pub own : ℕ → Text
  -- of the formal of the theory itself with this number
  pub formal : ℕ → Text
  -- of the entry with this number of the theory of this name
  pub entry : Text → ℕ → Text

-- the name of an entry; what is not declared has the empty text, which no name is
abbrev pub entry_text : Option Entry → Text
entry_text None = []
entry_text (Some e) = e.name

abbrev pub formal_text : Option FormalSig → Text
formal_text None = []
formal_text (Some f) = f.name

-- in a theory that may be absent
abbrev pub entry_in : Option Signature → ℕ → Text
entry_in None n = []
entry_in (Some s) n = entry_text (slice_get s.entries n)

abbrev pub formal_in : Option Signature → ℕ → Text
formal_in None n = []
formal_in (Some s) n = formal_text (slice_get s.formals n)

-- in the terms of the theory of this name, where these theories stand
abbrev pub names_from : Development → Text → Names
names_from d th = record {
  own = λ n. entry_in (theory_named d th) n;
  formal = λ n. formal_in (theory_named d th) n;
  entry = λ other n. entry_in (theory_named d other) n;
}
