-- A tree of a theory means in the reduct what its instance means.
use Rattle.std.proofs.Common.{◌≡◌, ℕ, zero, suc, ◌<◌, ◌≤◌, ◌&&◌, refl, ap, ◌∙◌, arith}
use Rattle.std.proofs.Math.Path.{fun_ext}
use Rattle.std.specs.List.{list_all}
use Rattle.pvs_terms.specs.Tree.{Text, Tree, Leaf, Var, Name, Bind, Join, Project, If, Own, Formal, Inst, Trees, none, more, False, free_below, AreClosed}
use Rattle.pvs_terms.specs.Sorts.{sort_of, IsType}
use Rattle.pvs_terms.specs.declared.shape.Plain.TheVariants.{BoolType}
use Rattle.pvs_terms.specs.declared.shape.Sort.{Sort}
use Rattle.pvs_terms.specs.declared.shape.Sort.TheVariants.{OfType, OfTerm}
use Rattle.pvs_terms.specs.declared.shape.Binder.TheVariants.{Subtype, Function, Product}
use Rattle.pvs_subst.specs.Instance.{actual, instantiate, HasActual, HasActuals}
use Rattle.pvs_sem.specs.Value.{Value}
use Rattle.pvs_sem.specs.Meaning.{Model, Env, env_with, value_meaning, set_meaning, mean, inside, name_meaning, bind_meaning, project_meaning}
use Rattle.pvs_sem.specs.Reduct.{empty_env, reduct}
use Rattle.pvs_sem.proofs.MeaningLaws.{term_is_value}

-- environments that agree below k
Agrees : ℕ → Env → Env → Type 0
Agrees k e f = (n : ℕ) → n < k → e n ≡ f n

agrees_under : (k : ℕ) (e f : Env) (v : Value) → Agrees k e f → Agrees (suc k) (env_with v e) (env_with v f)
unfolding Agrees
agrees_under k e f v h zero l = refl
agrees_under k e f v h (suc n) l = h n (omega (arith, l))

-- a meaning depends on the free indices alone
mean_agrees : (m : Model) (t : Tree) (k : ℕ) (e f : Env) → free_below t ≤ k → Agrees k e f → mean m t e ≡ mean m t f
mean_agrees m (Leaf o) k e f c h = refl
mean_agrees m (Var n) k e f c h = ap value_meaning (unfold Agrees in h n (omega (arith, c)))
mean_agrees m (Name s r) k e f c h = refl
mean_agrees m (Bind o a b) k e f c h =
    ap (λ x. bind_meaning o x (λ v. mean m b (env_with v e))) (mean_agrees m a k e f (omega (arith, c)) h)
    ∙ ap (bind_meaning o (mean m a f))
    (fun_ext (λ v. mean_agrees m b (suc k) (env_with v e) (env_with v f) (omega (arith, c)) (agrees_under k e f v h)))
mean_agrees m (Join o a b) k e f c h = rw (mean_agrees m a k e f (omega (arith, c)) h, mean_agrees m b k e f (omega (arith, c)) h) refl
mean_agrees m (Project o a) k e f c h = ap (project_meaning o) (mean_agrees m a k e f c h)
mean_agrees m (If a b d) k e f c h =
    rw (
      mean_agrees m a k e f (omega (arith, c)) h,
      mean_agrees m b k e f (omega (arith, c)) h,
      mean_agrees m d k e f (omega (arith, c))
          h,
    ) refl

inside_agrees : (m : Model) (t : Tree) (k : ℕ) (e f : Env) → free_below t ≤ k → Agrees k e f → inside m t e ≡ inside m t f
inside_agrees m (Leaf o) k e f c h = refl
inside_agrees m (Var n) k e f c h = refl
inside_agrees m (Name s r) k e f c h = refl
inside_agrees m (Bind o a b) k e f c h =
    ap (λ x. x && list_all (λ v. inside m b (env_with v e)) (mean m a e).set) (inside_agrees m a k e f (omega (arith, c)) h)
    ∙ ap (λ x. inside m a f && list_all (λ v. inside m b (env_with v e)) x.set) (mean_agrees m a k e f (omega (arith, c)) h)
    ∙ ap (λ g. inside m a f && list_all g (mean m a f).set)
    (fun_ext (λ v. inside_agrees m b (suc k) (env_with v e) (env_with v f) (omega (arith, c)) (agrees_under k e f v h)))
inside_agrees m (Join o a b) k e f c h =
    let l : free_below a ≤ k = omega (arith, c) in
    let r : free_below b ≤ k = omega (arith, c) in
    rw (inside_agrees m a k e f l h, inside_agrees m b k e f r h, mean_agrees m a k e f l h, mean_agrees m b k e f r h) refl
inside_agrees m (Project o a) k e f c h = rw (inside_agrees m a k e f c h, mean_agrees m a k e f c h) refl
inside_agrees m (If a b d) k e f c h =
    let l : free_below a ≤ k = omega (arith, c) in
    rw (
      inside_agrees m a k e f l h,
      inside_agrees m b k e f (omega (arith, c)) h,
      inside_agrees m d k e f (omega (arith, c)) h,
      mean_agrees m a k e f l h,
    ) refl

agrees_none : (e f : Env) → Agrees 0 e f
unfolding Agrees
agrees_none e f n l = absurd (omega (arith, l))

type_is_set : (m : Model) (t : Tree) (e : Env) → IsType t → mean m t e ≡ set_meaning (mean m t e).set
type_is_set m (Leaf BoolType) e h = refl
type_is_set m (Name OfType r) e h = refl
type_is_set m (Bind Subtype a b) e h = refl
type_is_set m (Bind Function a b) e h = refl
type_is_set m (Bind (Product k) a b) e h = refl
type_is_set m _ e h = cc

meaning_of_sort : (m : Model) (s : Sort) (t : Tree) (e : Env) → sort_of t ≡ s → mean m t e ≡ name_meaning s (mean m t e)
meaning_of_sort m OfType t e h = type_is_set m t e h
meaning_of_sort m OfTerm t e h = term_is_value m t e h

actual_mean : (m : Model) (acts : Trees) (n : ℕ) (s : Sort) (other : Tree) (e : Env) → AreClosed acts → HasActual acts n s
    → mean m (actual acts n other) e ≡ name_meaning s (mean m (actual acts n False) empty_env)
actual_mean m none n s other e c h = absurd h
actual_mean m (more x xs) zero s other e c h = meaning_of_sort m s x e h
    ∙ ap (name_meaning s) (mean_agrees m x 0 e empty_env (omega (arith, c.0)) (agrees_none e empty_env))
actual_mean m (more x xs) (suc n) s other e c h = actual_mean m xs n s other e c.1 h

actual_inside : (m : Model) (acts : Trees) (n : ℕ) (s : Sort) (other : Tree) (e : Env) → AreClosed acts → HasActual acts n s
    → inside m (actual acts n other) e ≡ inside m (actual acts n False) empty_env
actual_inside m none n s other e c h = absurd h
actual_inside m (more x xs) zero s other e c h = inside_agrees m x 0 e empty_env (omega (arith, c.0)) (agrees_none e empty_env)
actual_inside m (more x xs) (suc n) s other e c h = actual_inside m xs n s other e c.1 h

module _ (m : Model) (th : Text) (acts : Trees) (closed : AreClosed acts) where
  pub mean-instantiate : (t : Tree) (e : Env) → HasActuals acts t → mean m (instantiate t th acts) e ≡ mean (reduct m th acts) t e
  mean-instantiate (Leaf o) e h = refl
  mean-instantiate (Var n) e h = refl
  mean-instantiate (Name s (Own n)) e h = refl
  mean-instantiate (Name s (Formal n)) e h = actual_mean m acts n s (Name s (Formal n)) e closed h
  mean-instantiate (Name s (Inst a n xs)) e h = refl
  mean-instantiate (Bind o a b) e h =
      ap (λ x. bind_meaning o x (λ v. mean m (instantiate b th acts) (env_with v e))) (mean-instantiate a e h.0)
      ∙ ap (bind_meaning o (mean (reduct m th acts) a e)) (fun_ext (λ v. mean-instantiate b (env_with v e) h.1))
  mean-instantiate (Join o a b) e h = rw (mean-instantiate a e h.0, mean-instantiate b e h.1) refl
  mean-instantiate (Project o a) e h = ap (project_meaning o) (mean-instantiate a e h)
  mean-instantiate (If a b c) e h = rw (mean-instantiate a e h.0, mean-instantiate b e h.1, mean-instantiate c e h.2) refl

  pub inside-instantiate : (t : Tree) (e : Env) → HasActuals acts t → inside m (instantiate t th acts) e ≡ inside (reduct m th acts) t e
  inside-instantiate (Leaf o) e h = refl
  inside-instantiate (Var n) e h = refl
  inside-instantiate (Name s (Own n)) e h = refl
  inside-instantiate (Name s (Formal n)) e h = actual_inside m acts n s (Name s (Formal n)) e closed h
  inside-instantiate (Name s (Inst a n xs)) e h = refl
  inside-instantiate (Bind o a b) e h =
      ap (λ x. x && list_all (λ v. inside m (instantiate b th acts) (env_with v e)) (mean m (instantiate a th acts) e).set)
      (inside-instantiate a e h.0)
      ∙ ap (λ x. inside (reduct m th acts) a e && list_all (λ v. inside m (instantiate b th acts) (env_with v e)) x.set)
      (mean-instantiate a e h.0)
      ∙ ap (λ g. inside (reduct m th acts) a e && list_all g (mean (reduct m th acts) a e).set)
      (fun_ext (λ v. inside-instantiate b (env_with v e) h.1))
  inside-instantiate (Join o a b) e h = rw
      (inside-instantiate a e h.0, inside-instantiate b e h.1, mean-instantiate a e h.0, mean-instantiate b e h.1) refl
  inside-instantiate (Project o a) e h = rw (inside-instantiate a e h, mean-instantiate a e h) refl
  inside-instantiate (If a b c) e h = rw
      (inside-instantiate a e h.0, inside-instantiate b e h.1, inside-instantiate c e h.2, mean-instantiate a e h.0) refl
