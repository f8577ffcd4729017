-- The theory of the tests may stand.
use Rattle.std.proofs.Common.{◌≡◌, inl, ℕ, false, List, [], ◌∷◌, map, Some, None, refl, sym, ap, ap₂, ◌∙◌, subst}
use Rattle.pvs_terms.specs.declared.shape.Plain.TheVariants as plain
use Rattle.pvs_terms.specs.Stored.{Stored, Extends, IsName, text_at, tree_at}
use Rattle.pvs_sig.specs.declared.signature.Signature as numbers
use Rattle.pvs_sig.specs.Signature.{Entry, ConstSig}
use Rattle.pvs_sig.specs.SignatureAt.{AllIn, signature_at, formal_sig_at, entry_at, import_at, SignatureIn, FormalIn, EntryIn, ImportIn}
use Rattle.pvs_sig.specs.Development.{Development, IsSignatureOver}
use Rattle.pvs_instantiate.specs.code.Examples.{IsSimpleKind}
use Rattle.pvs_instantiate.proofs.ExampleLaws.{simple_over}
use Rattle.pvs_printer_tests.specs.Known.{AreNames, AreTrees, IsTheoryOf}

pub names_later : (s t : Stored) (th f k : ℕ) → Extends s t → AreNames s th f k → AreNames t th f k
names_later s t th f k e h = record { theory_in = e.names th h.theory_in; formal_in = e.names f h.formal_in; constant_in = e.names k h.constant_in }

module _ (s : Stored) (g : numbers.Signature) (th f k b y : ℕ) (is : IsTheoryOf g th f k b y) (names : AreNames s th f k) (trees : AreTrees s b y) where
  formals_at : (signature_at s g).formals ≡ record { name = text_at s f; nonempty = false; ty = None } ∷ []
  formals_at = ap (map (formal_sig_at s)) is.formals

  entries_at : (signature_at s g).entries ≡ record { name = text_at s k; kind = ConstSig (tree_at s b) (Some (tree_at s y)) } ∷ []
  entries_at = ap (map (entry_at s)) is.entries

  pub theory_stored : SignatureIn s g
  theory_stored = record {
    name = subst (IsName s) (sym is.name) names.theory_in;
    formals = subst (AllIn (FormalIn s)) (sym is.formals) ((names.formal_in, tt), tt);
    entries = subst (AllIn (EntryIn s)) (sym is.entries) ((names.constant_in, (trees.boolean_in, trees.truth_in)), tt);
    imports = subst (AllIn (ImportIn s)) (sym is.imports) tt;
  }

  pub theory_over : (d : Development) → IsSignatureOver d (signature_at s g)
  theory_over d =
      simple_over d (signature_at s g) (text_at s f) formals_at (ap (map (import_at s)) is.imports)
      (subst (AllIn (λ (e : Entry). IsSimpleKind e.kind)) (sym entries_at) ((inl (plain.BoolType, trees.boolean_is, refl), inl (plain.Yes, trees.truth_is, refl)), tt))
