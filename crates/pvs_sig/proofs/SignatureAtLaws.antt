-- A later store leaves the signature of numbers as it was.
use Rattle.std.proofs.Common.{◌≡◌, ℕ, Option, Some, None, List, [], ◌∷◌, refl, ap, ap₂}
use Rattle.std.specs.Prelude.{map}
use Rattle.pvs_terms.specs.Stored.{Stored, Extends}
use Rattle.pvs_terms.proofs.StoredLaws.{trees_at-extends, nodes_extend}
use Rattle.pvs_sig.specs.declared.signature.EntryKind.{EntryKind}
use Rattle.pvs_sig.specs.declared.signature.EntryKind.TheVariants as numbers
use Rattle.pvs_sig.specs.declared.signature.Entry as entry
use Rattle.pvs_sig.specs.declared.signature.FormalSig as formal
use Rattle.pvs_sig.specs.declared.signature.Import as import
use Rattle.pvs_sig.specs.declared.signature.Signature as signature
use Rattle.pvs_sig.specs.Signature.{TypeSig, ConstSig, VarSig, FormulaSig}
use Rattle.pvs_sig.specs.SignatureAt.{option_at, entry_kind_at, entry_at, formal_sig_at, import_at, signature_at, OptionIn, EntryKindIn, EntryIn, FormalIn, ImportIn, AllIn, SignatureIn, LaterStoresKeep}

map_same : {A B : Type 0} (P : A → Type 0) (f g : A → B) → ((x : A) → P x → f x ≡ g x) → (xs : List A) → AllIn P xs → map f xs ≡ map g xs
map_same P f g h [] k = refl
map_same P f g h (x ∷ xs) k = ap₂ (λ y ys. y ∷ ys) (h x k.0) (map_same P f g h xs k.1)

pub all_in : {A : Type 0} (P Q : A → Type 0) → ((x : A) → P x → Q x) → (xs : List A) → AllIn P xs → AllIn Q xs
all_in P Q h [] k = tt
all_in P Q h (x ∷ xs) k = (h x k.0, all_in P Q h xs k.1)

module _ (s t : Stored) (later : Extends s t) where
  option_same : (o : Option ℕ) → OptionIn s o → option_at t o ≡ option_at s o
  option_same None h = refl
  option_same (Some i) h = ap Some (later.trees i h)

  option_in : (o : Option ℕ) → OptionIn s o → OptionIn t o
  option_in None h = tt
  option_in (Some i) h = later.nodes i h

  kind_same : (k : EntryKind) → EntryKindIn s k → entry_kind_at t k ≡ entry_kind_at s k
  kind_same (numbers.TypeSig b body) h = ap (TypeSig b) (option_same body h)
  kind_same (numbers.ConstSig a body) h = ap₂ ConstSig (later.trees a h.0) (option_same body h.1)
  kind_same (numbers.VarSig a) h = ap VarSig (later.trees a h)
  kind_same (numbers.FormulaSig c a o) h = ap (λ z. FormulaSig c z o) (later.trees a h)

  kind_in : (k : EntryKind) → EntryKindIn s k → EntryKindIn t k
  kind_in (numbers.TypeSig b body) h = option_in body h
  kind_in (numbers.ConstSig a body) h = (later.nodes a h.0, option_in body h.1)
  kind_in (numbers.VarSig a) h = later.nodes a h
  kind_in (numbers.FormulaSig c a o) h = later.nodes a h

  pub entry_same : (e : entry.Entry) → EntryIn s e → entry_at t e ≡ entry_at s e
  entry_same e h = ap₂ (λ n k. record { name = n; kind = k }) (later.texts e.name h.0) (kind_same e.kind h.1)

  pub entry_in : (e : entry.Entry) → EntryIn s e → EntryIn t e
  entry_in e h = (later.names e.name h.0, kind_in e.kind h.1)

  pub formal_same : (f : formal.FormalSig) → FormalIn s f → formal_sig_at t f ≡ formal_sig_at s f
  formal_same f h = ap₂ (λ n o. record { name = n; nonempty = f.nonempty; ty = o }) (later.texts f.name h.0) (option_same f.ty h.1)

  pub formal_in : (f : formal.FormalSig) → FormalIn s f → FormalIn t f
  formal_in f h = (later.names f.name h.0, option_in f.ty h.1)

  pub import_same : (x : import.Import) → ImportIn s x → import_at t x ≡ import_at s x
  import_same x h = ap₂ (λ n ts. record { theory = n; actuals = ts; place = x.place }) (later.texts x.theory h.0) (trees_at-extends s t x.actuals.items later h.1)

  pub import_in : (x : import.Import) → ImportIn s x → ImportIn t x
  import_in x h = (later.names x.theory h.0, nodes_extend s t x.actuals.items later h.1)

  pub signature_in : (g : signature.Signature) → SignatureIn s g → SignatureIn t g
  signature_in g h = record {
    name = later.names g.name h.name;
    formals = all_in (FormalIn s) (FormalIn t) formal_in g.formals.items h.formals;
    entries = all_in (EntryIn s) (EntryIn t) entry_in g.entries.items h.entries;
    imports = all_in (ImportIn s) (ImportIn t) import_in g.imports.items h.imports;
  }

  pub signature_same : (g : signature.Signature) → SignatureIn s g → signature_at t g ≡ signature_at s g
  signature_same g h = rw (later.texts g.name h.name, map_same (FormalIn s) (formal_sig_at t) (formal_sig_at s) formal_same g.formals.items h.formals, map_same (EntryIn s) (entry_at t) (entry_at s) entry_same g.entries.items h.entries, map_same (ImportIn s) (import_at t) (import_at s) import_same g.imports.items h.imports) refl

pub later_stores_keep : LaterStoresKeep
later_stores_keep = λ s t g later h. (signature_in s t later g h, signature_same s t later g h)
