-- An index of names stays right where a member is added.
use Rattle.std.proofs.Common.{◌≡◌, ℕ, Bool, true, false, ◌&&◌, cond, eqb, rules, List, [], ◌∷◌, ◌++◌, Option, Some, None, Result, Ok, Err, refl, sym, ap, ap₂, subst, ◌∙◌}
use Rattle.std.proofs.lemmas.Bool.{eqb-true}
use Rattle.std.proofs.lemmas.List.Elements.{filter-append}
use Rattle.std.specs.Prelude.{bytes_eq, nat_eq, if◌then◌else◌}
use Rattle.std.specs.List.{filter}
use Rattle.pvs_base.specs.declared.code.Code.{Code}
use Rattle.pvs_base.specs.declared.code.Code.TheVariants.{Unknown, Ambiguous}
use Rattle.pvs_terms.specs.Tree.{Text, Ref, Own, Formal, Inst, Trees, none, more, trees_eq}
use Rattle.pvs_terms.specs.Stored.{Stored, ref_at, text_at, IsName, IsRef, Extends}
use Rattle.pvs_terms.proofs.TreeLaws.{both, all_true, bytes_eq_equal, trees_eq-true, trees_eq-same}
use Rattle.pvs_names.specs.declared.kind.NameKind.{NameKind}
use Rattle.pvs_names.specs.declared.kind.NameKind.TheVariants.{TypeName, Constant, FormulaName}
use Rattle.pvs_names.specs.declared.key.Section.{Section}
use Rattle.pvs_names.specs.declared.key.Section.TheVariants as section
use Rattle.pvs_names.specs.declared.key.Key.{Key}
use Rattle.pvs_names.specs.declared.index.Found.{Found}
use Rattle.pvs_names.specs.declared.index.Found.TheVariants.{One, Several}
use Rattle.pvs_names.specs.Members.{Member, kind_eq, is_called, the_one, find}
use Rattle.pvs_names.specs.Resolve.{is_own, is_own_entry, is_imported, is_entry_of, is_entry_at}
use Rattle.pvs_names.specs.Laws.{one_more}
use Rattle.pvs_names.specs.code.Index.{section_eq, key_eq, found_of, one_or_several, with_reference, Notes, is_beside, is_in, IsFirst, IsSectionIn, IsKeyIn, answer, IsFoundIn, Finds, IsDistinct, Indexes, IsMemberOf, IsFormal, IsOwnEntry, IsEntryOf}

pub same_bool : (a b : Bool) → (a ≡ true → b ≡ true) → (b ≡ true → a ≡ true) → a ≡ b
same_bool true b f g = sym (f refl)
same_bool false true f g = g refl
same_bool false false f g = refl

pub bytes_same : (x y : Text) → x ≡ y → bytes_eq x y ≡ true
bytes_same x y e = (bytes_eq_equal (bytes_eq x y) x y refl).1 e

pub bytes_true : (x y : Text) → bytes_eq x y ≡ true → x ≡ y
bytes_true x y e = (bytes_eq_equal true x y (sym e)).0 refl

eqb_same : (n : ℕ) → eqb n n ≡ true
eqb_same n = search rules

pub eqb_from : (m n : ℕ) → m ≡ n → eqb m n ≡ true
eqb_from m n e = subst (λ x. eqb m x ≡ true) e (eqb_same m)

pub kind_flip : (a b : NameKind) → kind_eq a b ≡ kind_eq b a
kind_flip TypeName TypeName = refl
kind_flip TypeName Constant = refl
kind_flip TypeName FormulaName = refl
kind_flip Constant TypeName = refl
kind_flip Constant Constant = refl
kind_flip Constant FormulaName = refl
kind_flip FormulaName TypeName = refl
kind_flip FormulaName Constant = refl
kind_flip FormulaName FormulaName = refl

-- what a filter keeps after one more
one_more-the_one : (ms : List Member) (m : Member) → the_one (ms ++ m ∷ []) ≡ one_more (the_one ms) m.reference
one_more-the_one [] m = refl
one_more-the_one (x ∷ []) m = refl
one_more-the_one (x ∷ y ∷ ms) m = refl

found_if : (b : Bool) (ms : List Member) (m : Member) → the_one (ms ++ cond b (m ∷ []) []) ≡ (if b then one_more (the_one ms) m.reference else the_one ms)
found_if true ms m = one_more-the_one ms m
found_if false ms m = ap the_one (search rules)

pub find_more : (is : Ref → Bool) (kind : NameKind) (name : Text) (ms : List Member) (m : Member)
    → find is kind name (ms ++ m ∷ []) ≡ (if is_called is kind name m then one_more (find is kind name ms) m.reference else find is kind name ms)
find_more is kind name ms m = ap the_one (filter-append (is_called is kind name) ms (m ∷ [])) ∙ found_if (is_called is kind name m) (filter (is_called is kind name) ms) m

module _ (s : Stored) where
  answer_more : (o : Option Found) (r : ℕ) → answer s (Some (one_or_several o r)) ≡ one_more (answer s o) (ref_at s r)
  answer_more None r = refl
  answer_more (Some (One x)) r = refl
  answer_more (Some Several) r = refl

  answer_with : (b : Bool) (o : Option Found) (r : ℕ) → answer s (with_reference b o r) ≡ (if b then one_more (answer s o) (ref_at s r) else answer s o)
  answer_with true o r = answer_more o r
  answer_with false o r = refl

  found_more : (o : Option Found) (r : ℕ) → IsRef s r → IsFoundIn s (Some (one_or_several o r))
  found_more None r h = h
  found_more (Some x) r h = tt

  found_with : (b : Bool) (o : Option Found) (r : ℕ) → IsRef s r → IsFoundIn s o → IsFoundIn s (with_reference b o r)
  found_with true o r h k = found_more o r h
  found_with false o r h k = k

  -- one key after one more member: it is noted just where the member has the name of the key
  pub finds_more : (old new : List (Key × Found)) (ms : List Member) (m : Member) (k : Key) (r : ℕ) (b : Bool) → IsRef s r → m.reference ≡ ref_at s r
      → found_of new k ≡ with_reference b (found_of old k) r → is_called (is_in s k.section) k.kind (text_at s k.name) m ≡ b
      → Finds s old ms k → Finds s new (ms ++ m ∷ []) k
  finds_more old new ms m k r b h e n c f = record {
    found = ap (answer s) n ∙ answer_with b (found_of old k) r
        ∙ ap₂ (λ x y. if b then one_more x y else x) f.found (sym e)
        ∙ ap (λ x. if x then one_more (find (is_in s k.section) k.kind (text_at s k.name) ms) m.reference else find (is_in s k.section) k.kind (text_at s k.name) ms) (sym c)
        ∙ sym (find_more (is_in s k.section) k.kind (text_at s k.name) ms m);
    stored = subst (IsFoundIn s) (sym n) (found_with b (found_of old k) r h f.stored);
  }
