-- What an importing brings of what its theory reaches, the importing theory reaches.
use Rattle.std.proofs.Common.{◌≡◌, ℕ, ◌≤◌, Bool, true, false, cond, Some, [], ◌∷◌, length, refl, ap, ◌∙◌, sym, subst}
use Rattle.std.specs.Prelude.{bytes_eq}
use Rattle.pvs_terms.specs.Tree.{Text, Ref}
use Rattle.pvs_sig.specs.Signature.{Signature, Import, kind_at}
use Rattle.pvs_sig.specs.Development.{Development, theory_named, In, IsSignatureOver, IsDevelopment}
use Rattle.pvs_sig.specs.Scope.{ref_instance, is_exported, scope, of_import}
use Rattle.pvs_sig.specs.Reach.{reach, reach_beyond, Owes}
use Rattle.pvs_sig.specs.Mentions.{StayInScope}
use Rattle.pvs_sig.proofs.ScopeLaws.{in_left, to_scope}
use Rattle.pvs_sig.proofs.DevelopmentLaws.{Stands, theory_stands}
use Rattle.pvs_sig.proofs.ReachLaws.{StaysTogether, reach_later, owner_below, to_beyond}

-- in each theory that stands, the conditions of an importing stand together
pub stay_together : (d : Development) → StayInScope d → (th : Text) (b : Signature) → theory_named d th ≡ Some b → StaysTogether b
stay_together [] h th b e = cc
stay_together (s ∷ d) h th b e = go (stay_together d h.1 th b) (bytes_eq s.name th) e
  where
    go : (theory_named d th ≡ Some b → StaysTogether b) → (z : Bool) → cond z (Some s) (theory_named d th) ≡ Some b → StaysTogether b
    go f true q = let same : s ≡ b = cc in subst StaysTogether same h.0.owners
    go f false q = f q

module _ (d : Development) (a b : Signature) (x : Import) (i : ℕ)
    (standing : IsDevelopment d) (over : IsSignatureOver d a) (named : theory_named d x.theory ≡ Some b) (listed : In x a.imports)
  where
    of_b : Stands d x.theory b
    of_b = theory_stands d standing x.theory b named

    pub visible_brings : x.place ≤ i → (y : ℕ) → y ≤ length b.entries → (r : Ref) → In r (reach d b y) → is_exported (Some b) r ≡ true → In (ref_instance r x.theory x.actuals) (reach d a i)
    visible_brings earlier y l r h v =
        let seen = reach_later d b standing of_b.over y (length b.entries) r l (λ z c j w. of_b.over.places z w.listed) h v in
        in_left (ref_instance r x.theory x.actuals) (scope d a i) (reach_beyond d a (kind_at a i))
        (to_scope d a i (ref_instance r x.theory x.actuals) (of_import x r listed earlier (subst (In r) (sym of_b.at_end) seen) (ap (λ z. is_exported z r) named ∙ v) refl))

    pub owed_brings : StaysTogether b → (n : ℕ) → Owes d a i x b n → (y : ℕ) → y ≤ n → (r : Ref) → In r (reach d b y) → is_exported (Some b) r ≡ true → In (ref_instance r x.theory x.actuals) (reach d a i)
    owed_brings together n w y l r h v =
        to_beyond d a i x b n r w (reach_later d b standing of_b.over y n r l (owner_below d b standing of_b.over together y n w.tree w.owner w.assumption l) h v) v
