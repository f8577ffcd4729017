-- Scopes are those of the theories by name, whatever their order.
use Rattle.std.proofs.Common.{◌≡◌, ℕ, Bool, true, false, cond, Option, Some, None, [], ◌∷◌, ◌++◌, length, refl, ap, ap₂, ◌∙◌, sym, subst}
use Rattle.std.specs.Prelude.{bytes_eq, IsSome}
use Rattle.pvs_terms.specs.Tree.{Text}
use Rattle.pvs_sig.specs.Signature.{Signature, Import}
use Rattle.pvs_sig.specs.Development.{Development, theory_named, formals_seen, In, IsDevelopment}
use Rattle.pvs_sig.specs.Scope.{imported_refs, without_repeats, formals_below, whole_scope, scope}
use Rattle.pvs_sig.specs.Laws.{OrderIsFree}
use Rattle.pvs_sig.proofs.DevelopmentLaws.{theory_stands, entries_same}
use Rattle.pvs_sig.proofs.DeclaredLaws as declared

scope_of_same : (d e : Development) (s : Signature) (i : ℕ) → ((th : Text) → theory_named d th ≡ theory_named e th) → ((x : Import) → In x s.imports → whole_scope d x.theory ≡ whole_scope e x.theory) → scope d s i ≡ scope e s i
scope_of_same d e s i same all = ap (λ z. without_repeats [] (formals_below (formals_seen s i) ++ z))
    (entries_same (λ y. imported_refs (theory_named d y.theory) y.theory y.actuals (whole_scope d y.theory)) (λ y. imported_refs (theory_named e y.theory) y.theory y.actuals (whole_scope e y.theory)) s.imports i
    (λ y h. ap₂ (λ z w. imported_refs z y.theory y.actuals w) (same y.theory) (all y h)))

named : (z : Option Signature) → IsSome z → (b : Signature) × (z ≡ Some b)
named None h = cc
named (Some b) h = (b, refl)

some_is : {A : Type 0} (x y : A) → Some x ≡ Some y → x ≡ y
some_is x y h = cc

module _ (d e : Development) (standing : IsDevelopment d) (other : IsDevelopment e) (same : (th : Text) → theory_named d th ≡ theory_named e th) where
  -- over the theories c that stand first in d
  IsPart : Development → Type 0
  IsPart c = (th : Text) (b : Signature) → theory_named c th ≡ Some b → theory_named d th ≡ Some b

  wholes : (c : Development) → IsDevelopment c → IsPart c → (th : Text) (b : Signature) → theory_named c th ≡ Some b → whole_scope d th ≡ whole_scope e th
  unfolding IsPart
  wholes [] h part th b k = cc
  wholes (s ∷ c) h part th b k = go (wholes c h.2 tail) (bytes_eq s.name th) k
    where
      tail : (u : Text) (a : Signature) → theory_named c u ≡ Some a → theory_named d u ≡ Some a
      tail u a q = part u a (declared.same_look_up s c u h.0 (subst IsSome (sym q) refl) ∙ q)

      here : ((u : Text) (a : Signature) → theory_named c u ≡ Some a → whole_scope d u ≡ whole_scope e u) → theory_named d th ≡ Some s → whole_scope d th ≡ whole_scope e th
      here f q =
          (theory_stands d standing th s q).at_end
          ∙ scope_of_same d e s (length s.entries) same (λ x i. let a = named (theory_named c x.theory) (h.1.imports x i).0 in f x.theory a.0 a.1)
          ∙ sym (theory_stands e other th s (sym (same th) ∙ q)).at_end

      go : ((u : Text) (a : Signature) → theory_named c u ≡ Some a → whole_scope d u ≡ whole_scope e u) → (z : Bool) → cond z (Some s) (theory_named c th) ≡ Some b → whole_scope d th ≡ whole_scope e th
      go f true q = here f (part th b k ∙ sym q)
      go f false q = f th b q

nothing_whole : (d : Development) (th : Text) → theory_named d th ≡ None → whole_scope d th ≡ []
nothing_whole [] th h = refl
nothing_whole (s ∷ d) th h = go (nothing_whole d th) (bytes_eq s.name th) h
  where
    go : (theory_named d th ≡ None → whole_scope d th ≡ []) → (z : Bool) → cond z (Some s) (theory_named d th) ≡ None → cond z (scope d s (length s.entries)) (whole_scope d th) ≡ []
    go f true q = cc
    go f false q = f q

all_wholes : (d e : Development) → IsDevelopment d → IsDevelopment e → ((th : Text) → theory_named d th ≡ theory_named e th) → (th : Text) → whole_scope d th ≡ whole_scope e th
unfolding IsPart
all_wholes d e standing other same th = go (theory_named d th) refl
  where
    go : (z : Option Signature) → theory_named d th ≡ z → whole_scope d th ≡ whole_scope e th
    go None q = nothing_whole d th q ∙ sym (nothing_whole e th (sym (same th) ∙ q))
    go (Some b) q = wholes d e standing other same d standing (λ u a k. k) th b q

pub order_is_free : OrderIsFree
order_is_free = λ d e standing other same. ((λ th. all_wholes d e standing other same th), λ s i good. scope_of_same d e s i same (λ x h. all_wholes d e standing other same x.theory))
