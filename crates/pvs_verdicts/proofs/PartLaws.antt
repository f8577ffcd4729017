-- The accepted theories among the parts of a unit.
use Rattle.std.proofs.Common.{◌≡◌, ◌∙◌, refl, sym, ap, subst, inl, inr, ◌||◌, ℕ, Bool, true, false, bytes_eq, if◌then◌else◌, List, [], ◌∷◌, ◌++◌, slice_get, Option, Some, None, Ok, Err}
use Rattle.std.specs.Option.{option_or}
use Rattle.std.proofs.lemmas.Cmp.{nat_list_eq_equiv}
use Rattle.std.proofs.lemmas.List.Folds.{list_any-append}
use Rattle.std.proofs.lemmas.Slice.Eq.{bytes_eq-Decides}
use Rattle.pvs_terms.specs.Tree.{Text, Tree}
use Rattle.pvs_syntax.specs.Words.{spelling}
use Rattle.pvs_syntax.specs.declared.unit.Theory.{Theory}
use Rattle.pvs_syntax.specs.declared.unit.Item.{Item}
use Rattle.pvs_syntax.specs.declared.unit.Item.TheVariants as item
use Rattle.pvs_sig.specs.declared.signature.Class.TheVariants.{Lemma}
use Rattle.pvs_sig.specs.Signature.{Signature, FormulaSig}
use Rattle.pvs_sig.specs.Development.{Development, IsDevelopment, theory_named}
use Rattle.pvs_elab.specs.Answer.{Answer}
use Rattle.pvs_proof_soundness.specs.Laws.{ProvedFormulasHold}
use Rattle.pvs_verdicts.specs.Names.{FormulaName}
use Rattle.pvs_verdicts.specs.Duplicates.{has_name}
use Rattle.pvs_verdicts.specs.Parts.{Part, Accepted, Rejected, Proving, development_after, part_of, parts_after, parts_of, theory_name, theory_names, theory_part, theory_signature}
use Rattle.pvs_verdicts.specs.Verdicts.{lemma_in, lemma_named, part_lemma}
use Rattle.pvs_verdicts.proofs.Members.{Has}
use Rattle.pvs_verdicts.proofs.NameLaws.{flat_push}
use Rattle.pvs_verdicts.proofs.TheoryLaws.{IsAccepted, theory_accepted, accepted_named, accepted_finds, accepted_over, accepted_holds}

neither : (a b : Bool) → a || b ≡ false → (a ≡ false) × (b ≡ false)
neither true b h = cc
neither false b h = (refl, h)

-- ---- Names of theories.

module _ (text : Text) where
  -- a name that is among neither the names of the theories before nor that of an item
  not_named : (earlier : List Item) (i : Item) (th : Text) → has_name th (theory_names text (earlier ++ i ∷ [])) ≡ false
      → (has_name th (theory_names text earlier) ≡ false) × (has_name th (theory_name text i) ≡ false)
  not_named earlier i th h =
      neither (has_name th (theory_names text earlier)) (has_name th (theory_name text i))
      (sym (list_any-append (bytes_eq th) (theory_names text earlier) (theory_name text i)) ∙ ap (has_name th) (sym (flat_push (theory_name text) earlier i)) ∙ h)

  abbrev IsTheoryHere : Development → List Item → Theory → Signature → Type 0
  IsTheoryHere d earlier t s = IsAccepted d text (has_name (spelling text t.name) (theory_names text earlier)) t s

  -- where an item is an accepted theory
  accepted_item : (d : Development) (earlier : List Item) (i : Item) (s : Signature) → part_of d text earlier i ≡ Accepted s → (t : Theory) × (i ≡ item.Theory t) × IsTheoryHere d earlier t s
  accepted_item d earlier (item.Proof p) s h = cc
  accepted_item d earlier (item.Theory t) s h = go (theory_signature d text earlier t) refl h
    where
      go : (r : Answer Signature) → theory_signature d text earlier t ≡ r → theory_part (spelling text t.name) r ≡ Accepted s → (u : Theory) × (item.Theory t ≡ item.Theory u) × IsTheoryHere d earlier u s
      go (Err f) k h = cc
      go (Ok z) k h = let e : z ≡ s = cc in (t, refl, theory_accepted d text (has_name (spelling text t.name) (theory_names text earlier)) t s (k ∙ ap Ok e))

  -- its name is no earlier one
  fresh_here : (d : Development) (earlier : List Item) (i : Item) (s : Signature) → part_of d text earlier i ≡ Accepted s → has_name s.name (theory_names text earlier) ≡ false
  fresh_here d earlier i s h =
      let a = accepted_item d earlier i s h in
      ap (λ (n : Text). has_name n (theory_names text earlier)) (accepted_named d text _ a.0 s a.2) ∙ a.2.first

  fresh : (d : Development) (earlier is : List Item) (s : Signature) → Has (Accepted s) (parts_after d text earlier is) → has_name s.name (theory_names text earlier) ≡ false
  fresh d earlier [] s h = absurd h
  fresh d earlier (i ∷ is) s (inl e) = fresh_here d earlier i s e
  fresh d earlier (i ∷ is) s (inr h) = (not_named earlier i s.name (fresh (development_after d (part_of d text earlier i)) (earlier ++ i ∷ []) is s h)).0

  -- ---- A lemma of an accepted theory is the one that its names find.

  -- an item that is no theory of this name has no lemma of it
  other_theory : (d : Development) (earlier : List Item) (i : Item) (n : FormulaName) → has_name n.theory (theory_name text i) ≡ false → part_lemma (part_of d text earlier i) n ≡ None
  other_theory d earlier (item.Proof p) n h = refl
  other_theory d earlier (item.Theory t) n h = go (theory_signature d text earlier t) refl
    where
      apart : bytes_eq n.theory (spelling text t.name) ≡ false
      apart = (neither (bytes_eq n.theory (spelling text t.name)) false h).0

      go : (r : Answer Signature) → theory_signature d text earlier t ≡ r → part_lemma (theory_part (spelling text t.name) r) n ≡ None
      go (Err f) k = refl
      go (Ok s) k =
          let named = accepted_named d text _ t s (theory_accepted d text (has_name (spelling text t.name) (theory_names text earlier)) t s k) in
          ap (λ (b : Bool). if b then lemma_named s.entries n.formula else None) (ap (λ (x : Text). bytes_eq x n.theory) named ∙ nat_list_eq_equiv.symm (spelling text t.name) n.theory ∙ apart)

  module _ (s : Signature) (x : ℕ) (name : Text) (body : Tree) (owner : ℕ) (stated : slice_get s.entries x ≡ Some (record { name = name; kind = FormulaSig Lemma body owner })) where
    abbrev n : FormulaName
    n = record { theory = s.name; formula = name }

    found_here : (d : Development) (earlier : List Item) (i : Item) (o : Option Tree) → part_of d text earlier i ≡ Accepted s → option_or (part_lemma (part_of d text earlier i) n) o ≡ Some body
    found_here d earlier i o e =
        let a = accepted_item d earlier i s e in
        ap (λ (p : Part). option_or (part_lemma p n) o) e
        ∙ (ap (λ (b : Bool). option_or (if b then lemma_named s.entries name else None) o) ((bytes_eq-Decides s.name s.name).1 refl)
        ∙ ap (λ (q : Option Tree). option_or q o) (accepted_finds d text _ a.0 s a.2 x name body owner stated))

    found_after : (d : Development) (earlier is : List Item) → Has (Accepted s) (parts_after d text earlier is) → lemma_in (parts_after d text earlier is) n ≡ Some body
    found_after d earlier [] h = absurd h
    found_after d earlier (i ∷ is) (inl e) = found_here d earlier i (lemma_in (parts_after (development_after d (part_of d text earlier i)) text (earlier ++ i ∷ []) is) n) e
    found_after d earlier (i ∷ is) (inr h) =
        let e = development_after d (part_of d text earlier i) in
        let apart = (not_named earlier i s.name (fresh e (earlier ++ i ∷ []) is s h)).1 in
        ap (λ (o : Option Tree). option_or o (lemma_in (parts_after e text (earlier ++ i ∷ []) is) n)) (other_theory d earlier i n apart) ∙ found_after e (earlier ++ i ∷ []) is h

  -- the lemma at a place of an accepted theory is the one that its names find
  pub lemma_found : (items : List Item) (s : Signature) (x : ℕ) (name : Text) (body : Tree) (owner : ℕ) → Has (Accepted s) (parts_of text items)
      → slice_get s.entries x ≡ Some (record { name = name; kind = FormulaSig Lemma body owner }) → lemma_in (parts_of text items) (record { theory = s.name; formula = name }) ≡ Some body
  lemma_found items s x name body owner h stated = found_after s x name body owner stated [] [] items h

  -- ---- What is proved of an accepted theory holds.

  -- the theories have names that are among these
  abbrev AreNamed : Development → List Text → Type 0
  AreNamed d names = (th : Text) → has_name th names ≡ false → theory_named d th ≡ None

  -- the theories after an item are a development, and their names are those of the items
  pub record Stands (d : Development) (earlier : List Item) : Type 0 where
    pub development : IsDevelopment d
    pub named : AreNamed d (theory_names text earlier)

  theory_stands : (d : Development) (earlier : List Item) (t : Theory) (s : Signature) → Stands d earlier → IsTheoryHere d earlier t s → Stands (s ∷ d) (earlier ++ item.Theory t ∷ [])
  theory_stands d earlier t s g a = record {
    development = (g.named s.name (ap (λ (n : Text). has_name n (theory_names text earlier)) (accepted_named d text _ t s a) ∙ a.first), accepted_over d text _ t s a g.development, g.development);
    named = λ th h.
        let apart = not_named earlier (item.Theory t) th h in
        let other = (neither (bytes_eq th (spelling text t.name)) false apart.1).0 in
        ap (λ (b : Bool). if b then Some s else theory_named d th) (nat_list_eq_equiv.symm s.name th ∙ ap (bytes_eq th) (accepted_named d text _ t s a) ∙ other) ∙ g.named th apart.0;
  }

  other_stands : (d : Development) (earlier : List Item) (i : Item) → Stands d earlier → Stands d (earlier ++ i ∷ [])
  other_stands d earlier i g = record { development = g.development; named = λ th h. g.named th (not_named earlier i th h).0 }

  item_stands : (d : Development) (earlier : List Item) (i : Item) → Stands d earlier → Stands (development_after d (part_of d text earlier i)) (earlier ++ i ∷ [])
  item_stands d earlier i g = go (part_of d text earlier i) refl
    where
      go : (p : Part) → part_of d text earlier i ≡ p → Stands (development_after d p) (earlier ++ i ∷ [])
      go (Rejected name f) e = other_stands d earlier i g
      go (Proving name p) e = other_stands d earlier i g
      go (Accepted s) e =
          let a = accepted_item d earlier i s e in
          subst (λ (j : Item). Stands (s ∷ d) (earlier ++ j ∷ [])) (sym a.1) (theory_stands d earlier a.0 s g a.2)

  holds_after : (d : Development) (earlier is : List Item) (s : Signature) → Stands d earlier → Has (Accepted s) (parts_after d text earlier is) → ProvedFormulasHold s
  holds_after d earlier [] s g h = absurd h
  holds_after d earlier (i ∷ is) s g (inl e) = let a = accepted_item d earlier i s e in accepted_holds d text _ a.0 s a.2 g.development
  holds_after d earlier (i ∷ is) s g (inr h) = holds_after (development_after d (part_of d text earlier i)) (earlier ++ i ∷ []) is s (item_stands d earlier i g) h

  -- what is proved of an accepted theory of a unit holds
  pub accepted_part_holds : (items : List Item) (s : Signature) → Has (Accepted s) (parts_of text items) → ProvedFormulasHold s
  accepted_part_holds items s h = holds_after [] [] items s (record { development = tt; named = λ th k. refl }) h
