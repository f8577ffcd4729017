-- Two notions of which environments count: those that satisfy their context, and those that extend a given one.
use Rattle.std.proofs.Common.{◌≡◌, ℕ, zero, suc, ◌+◌, [], ◌∷◌, ◌++◌, Option, Some, None, refl, ap, sym, subst, add-one, arith}
use Rattle.std.proofs.Math.Path.{fun_ext}
use Rattle.pvs_terms.specs.Tree.{Tree}
use Rattle.pvs_subst.specs.Replace.{lift}
use Rattle.pvs_subst.specs.Contexts.{Assumptions, Variable, Hypothesis}
use Rattle.pvs_sem.specs.Value.{IsMember}
use Rattle.pvs_sem.specs.Meaning.{Model, Env, env_rest, mean}
use Rattle.pvs_sem.specs.Satisfies.{Satisfies, IsExtension, Above}
use Rattle.pvs_sem.proofs.MeaningLaws.{mean-lift}
use Rattle.pvs_types.specs.Typing.{binder_type, lift_option, variable_type}
use Rattle.pvs_types.specs.Soundness.{IsSatisfaction}

-- the value of a variable is in the set of its type, as it stands at its binder
binder_typed : (m : Model) (g : Assumptions) (n : ℕ) (a : Tree) (e : Env) → binder_type g n ≡ Some a → Satisfies m g e
    → IsMember (e n) (mean m a (λ k. e (k + suc n))).set
binder_typed m [] n a e h sat = cc
binder_typed m (Variable b ∷ g) zero a e h sat =
    let same : b ≡ a = cc in
    subst (λ y. IsMember (e 0) (mean m y (λ k. e (k + 1))).set) same
    (subst (λ f. IsMember (e 0) (mean m b f).set) (fun_ext (λ k. ap e (sym (add-one k)))) sat.0)
binder_typed m (Variable b ∷ g) (suc n) a e h sat =
    subst (λ f. IsMember (e (suc n)) (mean m a f).set) (fun_ext (λ k. ap e (omega arith))) (binder_typed m g n a (env_rest e) h sat.1)
binder_typed m (Hypothesis p ∷ g) n a e h sat = binder_typed m g n a e h sat.1

variable_typed : (m : Model) (g : Assumptions) (n : ℕ) (a : Tree) (e : Env) → variable_type g n ≡ Some a → Satisfies m g e
    → IsMember (e n) (mean m a e).set
variable_typed m g n a e h sat = go (binder_type g n) refl h
  where
    go : (o : Option Tree) → binder_type g n ≡ o → lift_option (suc n) o ≡ Some a → IsMember (e n) (mean m a e).set
    go None k j = cc
    go (Some b) k j =
        let same : lift b (suc n) 0 ≡ a = cc in
        subst (λ y. IsMember (e n) (mean m y e).set) same
        (subst (λ x. IsMember (e n) x.set) (sym (mean-lift m b (suc n) 0 e)) (binder_typed m g n b e k sat))

pub satisfies_is : (m : Model) → IsSatisfaction m (Satisfies m)
satisfies_is m = record {
  under_variable = λ a g e q sat. (q, sat);
  under_hypothesis = λ p g e q sat. (q, sat);
  variables_typed = λ g n a
      e h sat. variable_typed m g n a e h sat;
}

module _ (m : Model) (base : Assumptions) (at : Env) where
  pub extension_satisfies : (x : Assumptions) (e : Env) → Satisfies m base at → IsExtension m at x e → Satisfies m (x ++ base) e
  extension_satisfies [] e sat u = subst (Satisfies m base) (sym u) sat
  extension_satisfies (Variable a ∷ x) e sat u = (u.0, extension_satisfies x (env_rest e) sat u.1)
  extension_satisfies (Hypothesis p ∷ x) e sat u = (u.0, extension_satisfies x e sat u.1)

  pub above_is : Satisfies m base at → IsSatisfaction m (Above m base at)
  above_is sat = record {
    under_variable = λ a g e q r. record
        { between = Variable a ∷ r.between; is = ap (λ x. Variable a ∷ x) r.is; extension = (q, r.extension) };
    under_hypothesis = λ p g e q r. record
        { between = Hypothesis p ∷ r.between; is = ap (λ x. Hypothesis p ∷ x) r.is; extension = (q, r.extension) };
    variables_typed = λ g n a e h r. variable_typed m g n a e h
        (subst (λ y. Satisfies m y e) (sym r.is) (extension_satisfies r.between e sat r.extension));
  }

  -- the environment itself is above itself
  pub above_self : Above m base at base at
  above_self = record { between = []; is = refl; extension = refl }
