-- What one more item does to the parts of a unit.
use Rattle.std.proofs.Common.{◌≡◌, ◌∙◌, ℕ, List, [], ◌∷◌, ◌++◌, sym, ap, append_assoc, append-nil}
use Rattle.pvs_syntax.specs.declared.unit.Item.{Item}
use Rattle.pvs_theory.specs.Theories.{Part, part_of, parts_after, parts_of}

module _ (text : List ℕ) where
  -- the parts of the items before an item, that of the item, and those of the items after it
  pub parts_split : (earlier before after : List Item) (i : Item) → parts_after text earlier (before ++ i ∷ after) ≡ parts_after text earlier before ++ part_of text (earlier ++ before) i ∷ parts_after text (earlier ++ before ++ i ∷ []) after
  parts_split earlier [] after i = ap (λ (is : List Item). part_of text is i ∷ parts_after text (is ++ i ∷ []) after) (sym (append-nil earlier))
  parts_split earlier (b ∷ before) after i =
      ap (λ (ps : List Part). part_of text earlier b ∷ ps) (parts_split (earlier ++ b ∷ []) before after i)
      ∙ ap (λ (is : List Item). part_of text earlier b ∷ parts_after text (earlier ++ b ∷ []) before ++ part_of text is i ∷ parts_after text (is ++ i ∷ []) after) (append_assoc earlier (b ∷ []) before)

  pub parts_push : (is : List Item) (i : Item) → parts_of text (is ++ i ∷ []) ≡ parts_of text is ++ part_of text is i ∷ []
  parts_push is i = parts_split [] is [] i
