-- The meaning of a lifted tree, and of a tree in which a term is put in.
use Rattle.std.proofs.Common.{◌≡◌, ℕ, zero, suc, true, refl, ap, ◌∙◌, add-one, ◌&&◌}
use Rattle.std.proofs.Math.Path.{fun_ext}
use Rattle.pvs_terms.specs.Tree.{Tree, Leaf, Var, Name, Bind, Join, Project, If}
use Rattle.pvs_terms.specs.declared.shape.Plain.TheVariants.{BoolType, Yes, No}
use Rattle.pvs_terms.specs.declared.shape.Sort.TheVariants.{OfType, OfTerm}
use Rattle.pvs_terms.specs.declared.shape.Binder.TheVariants.{Subtype, Function, Product, Lambda}
use Rattle.pvs_terms.specs.declared.shape.Joint.TheVariants.{Apply, Tuple, Equal}
use Rattle.pvs_terms.specs.declared.shape.Projection.TheVariants.{First, Second}
use Rattle.pvs_subst.specs.Replace.{raised_index, lift, put_var, put_at, put_in}
use Rattle.std.specs.List.{list_all}
use Rattle.pvs_sem.specs.Value.{Value}
use Rattle.pvs_terms.specs.Sorts.{IsTerm}
use Rattle.pvs_subst.proofs.SortLaws.{sort_of-put_var}
use Rattle.pvs_sem.specs.Meaning.{Model, Env, env_with, env_rest, value_meaning, inside, mean, bind_meaning, join_meaning, project_meaning, if_meaning}

-- the environment that a lifted tree sees
abbrev pub lifted_env : Env → ℕ → ℕ → Env
lifted_env e by from n = e (raised_index by from n)

lifted_env_under : (v : Value) (e : Env) (by from : ℕ) (n : ℕ)
    → lifted_env (env_with v e) by (suc from) n ≡ env_with v (lifted_env e by from) n
lifted_env_under v e by from zero = refl
lifted_env_under v e by from (suc n) = refl

pub mean-lift : (m : Model) (t : Tree) (by from : ℕ) (e : Env) → mean m (lift t by from) e ≡ mean m t (lifted_env e by from)
mean-lift m (Leaf o) by from e = refl
mean-lift m (Var n) by from e = refl
mean-lift m (Name s r) by from e = refl
mean-lift m (Bind o a b) by from e =
    ap (λ x. bind_meaning o x (λ v. mean m (lift b by (suc from)) (env_with v e))) (mean-lift m a by from e)
    ∙ ap (bind_meaning o (mean m a (lifted_env e by from))) (fun_ext (λ v.
    mean-lift m b by (suc from) (env_with v e) ∙ ap (mean m b) (fun_ext (lifted_env_under v e by from))))
mean-lift m (Join o a b) by from e =
    ap (λ x. join_meaning o x (mean m (lift b by from) e)) (mean-lift m a by from e)
    ∙ ap (join_meaning o (mean m a (lifted_env e by from))) (mean-lift m b by from e)
mean-lift m (Project o a) by from e = ap (project_meaning o) (mean-lift m a by from e)
mean-lift m (If c a b) by from e =
    ap (λ x. if_meaning x (mean m (lift a by from) e) (mean m (lift b by from) e)) (mean-lift m c by from e)
    ∙ ap (λ x. if_meaning (mean m c (lifted_env e by from)) x (mean m (lift b by from) e)) (mean-lift m a by from e)
    ∙ ap (if_meaning (mean m c (lifted_env e by from)) (mean m a (lifted_env e by from))) (mean-lift m b by from e)

-- the environment that the body sees, where arg is put in for an index
-- the environment that a tree sees where a term is put in
abbrev pub env_at : Model → Tree → ℕ → Env → Env
env_at m arg at e n = (mean m (put_var arg at n) e).value

env_at_under : (m : Model) (arg : Tree) (at : ℕ) (v : Value) (e : Env) (n : ℕ)
    → env_at m arg (suc at) (env_with v e) n ≡ env_with v (env_at m arg at e) n
env_at_under m arg at v e zero = refl
env_at_under m arg at v e (suc n) = ap (λ x. x.value)
    (mean-lift m (put_var arg at n) 1 0 (env_with v e) ∙ ap (mean m (put_var arg at n)) (fun_ext (λ k. ap (env_with v e) (add-one k))))

pub term_is_value : (m : Model) (t : Tree) (e : Env) → IsTerm t → mean m t e ≡ value_meaning (mean m t e).value
term_is_value m (Leaf BoolType) e h = cc
term_is_value m (Leaf Yes) e h = refl
term_is_value m (Leaf No) e h = refl
term_is_value m (Var n) e h = refl
term_is_value m (Name OfType r) e h = cc
term_is_value m (Name OfTerm r) e h = refl
term_is_value m (Bind Subtype a p) e h = cc
term_is_value m (Bind Function a b) e h = cc
term_is_value m (Bind (Product k) a b) e h = cc
term_is_value m (Bind Lambda a b) e h = refl
term_is_value m (Join Apply a b) e h = refl
term_is_value m (Join (Tuple k) a b) e h = refl
term_is_value m (Join Equal a b) e h = refl
term_is_value m (Project (First k) a) e h = refl
term_is_value m (Project (Second k) a) e h = refl
term_is_value m (If c a b) e h = refl

pub mean-put_at : (m : Model) (t arg : Tree) (at : ℕ) (e : Env) → IsTerm arg → mean m (put_at t arg at) e ≡ mean m t (env_at m arg at e)
mean-put_at m (Leaf o) arg at e h = refl
mean-put_at m (Var n) arg at e h = term_is_value m (put_var arg at n) e (sort_of-put_var arg at n h)
mean-put_at m (Name s r) arg at e h = refl
mean-put_at m (Bind o a b) arg at e h =
    ap (λ x. bind_meaning o x (λ v. mean m (put_at b arg (suc at)) (env_with v e))) (mean-put_at m a arg at e h)
    ∙ ap (bind_meaning o (mean m a (env_at m arg at e))) (fun_ext (λ v.
    mean-put_at m b arg (suc at) (env_with v e) h ∙ ap (mean m b) (fun_ext (env_at_under m arg at v e))))
mean-put_at m (Join o a b) arg at e h = rw (mean-put_at m a arg at e h, mean-put_at m b arg at e h) refl
mean-put_at m (Project o a) arg at e h = ap (project_meaning o) (mean-put_at m a arg at e h)
mean-put_at m (If c a b) arg at e h = rw (mean-put_at m c arg at e h, mean-put_at m a arg at e h, mean-put_at m b arg at e h) refl

env_at_none : (m : Model) (arg : Tree) (e : Env) (n : ℕ) → env_at m arg 0 e n ≡ env_with (mean m arg e).value e n
env_at_none m arg e zero = refl
env_at_none m arg e (suc n) = refl

-- the law of replacement, for sets and values
pub mean-put_in : (m : Model) (t arg : Tree) (e : Env) → IsTerm arg → mean m (put_in t arg) e ≡ mean m t (env_with (mean m arg e).value e)
mean-put_in m t arg e h = mean-put_at m t arg 0 e h ∙ ap (mean m t) (fun_ext (env_at_none m arg e))

lifted_env_next : (v : Value) (e : Env) → lifted_env (env_with v e) 1 0 ≡ e
lifted_env_next v e = fun_ext (λ k. ap (env_with v e) (add-one k))

pub inside-lift : (m : Model) (t : Tree) (by from : ℕ) (e : Env) → inside m (lift t by from) e ≡ inside m t (lifted_env e by from)
inside-lift m (Leaf o) by from e = refl
inside-lift m (Var n) by from e = refl
inside-lift m (Name s r) by from e = refl
inside-lift m (Bind o a b) by from e =
    let body : (λ (v : Value). inside m (lift b by (suc from)) (env_with v e)) ≡ (λ (v : Value). inside m b
    (env_with v (lifted_env e by from))) =
    fun_ext (λ v. inside-lift m b by (suc from) (env_with v e) ∙ ap (inside m b) (fun_ext (lifted_env_under v e by from))) in
    ap (λ x. x && list_all (λ v. inside m (lift b by (suc from)) (env_with v e)) (mean m (lift a by from) e).set)
    (inside-lift m a by from e)
    ∙ ap (λ x. inside m a (lifted_env e by from) && list_all (λ v. inside m (lift b by (suc from)) (env_with v e)) x.set)
    (mean-lift m a by from e)
    ∙ ap (λ f. inside m a (lifted_env e by from) && list_all f (mean m a (lifted_env e by from)).set) body
inside-lift m (Join o a b) by from e = rw
    (inside-lift m a by from e, inside-lift m b by from e, mean-lift m a by from e, mean-lift m b by from e) refl
inside-lift m (Project o a) by from e = rw (inside-lift m a by from e, mean-lift m a by from e) refl
inside-lift m (If c a b) by from e = rw
    (inside-lift m c by from e, inside-lift m a by from e, inside-lift m b by from e, mean-lift m c by from e) refl

-- each index of the body stands for something that is inside
AllInside : Model → Tree → ℕ → Env → Type 0
AllInside m arg at e = (n : ℕ) → inside m (put_var arg at n) e ≡ true

all_inside_under : (m : Model) (arg : Tree) (at : ℕ) (v : Value) (e : Env) → AllInside m arg at e → AllInside m arg (suc at) (env_with v e)
unfolding AllInside
all_inside_under m arg at v e h zero = refl
all_inside_under m arg at v e h (suc n) = inside-lift m (put_var arg at n) 1 0 (env_with v e)
    ∙ ap (inside m (put_var arg at n)) (lifted_env_next v e) ∙ h n

inside-put_at : (m : Model) (t arg : Tree) (at : ℕ) (e : Env) → IsTerm arg → AllInside m arg at e
    → inside m (put_at t arg at) e ≡ inside m t (env_at m arg at e)
inside-put_at m (Leaf o) arg at e k h = refl
inside-put_at m (Var n) arg at e k h = unfold AllInside in h n
inside-put_at m (Name s r) arg at e k h = refl
inside-put_at m (Bind o a b) arg at e k h =
    let body : (λ (v : Value). inside m (put_at b arg (suc at)) (env_with v e)) ≡ (λ (v : Value). inside m b
    (env_with v (env_at m arg at e))) =
    fun_ext (λ v. inside-put_at m b arg (suc at) (env_with v e) k (all_inside_under m arg at v e h)
    ∙ ap (inside m b) (fun_ext (env_at_under m arg at v e))) in
    ap (λ x. x && list_all (λ v. inside m (put_at b arg (suc at)) (env_with v e)) (mean m (put_at a arg at) e).set)
    (inside-put_at m a arg at e k h)
    ∙ ap (λ x. inside m a (env_at m arg at e) && list_all (λ v. inside m (put_at b arg (suc at)) (env_with v e)) x.set)
    (mean-put_at m a arg at e k)
    ∙ ap (λ f. inside m a (env_at m arg at e) && list_all f (mean m a (env_at m arg at e)).set) body
inside-put_at m (Join o a b) arg at e k h = rw
    (inside-put_at m a arg at e k h, inside-put_at m b arg at e k h, mean-put_at m a arg at e k, mean-put_at m b arg at e k) refl
inside-put_at m (Project o a) arg at e k h = rw (inside-put_at m a arg at e k h, mean-put_at m a arg at e k) refl
inside-put_at m (If c a b) arg at e k h = rw
    (inside-put_at m c arg at e k h, inside-put_at m a arg at e k h, inside-put_at m b arg at e k h, mean-put_at m c arg at e k) refl

all_inside : (m : Model) (arg : Tree) (e : Env) → inside m arg e ≡ true → AllInside m arg 0 e
unfolding AllInside
all_inside m arg e h zero = h
all_inside m arg e h (suc n) = refl

-- where what is put in is inside, the flag is that of the body at its value
pub inside-put_in : (m : Model) (t arg : Tree) (e : Env) → IsTerm arg → inside m arg e ≡ true
    → inside m (put_in t arg) e ≡ inside m t (env_with (mean m arg e).value e)
inside-put_in m t arg e k h = inside-put_at m t arg 0 e k (all_inside m arg e h) ∙ ap (inside m t) (fun_ext (env_at_none m arg e))

-- a tree that is lifted by one does not see the value of index 0
pub mean-next : (m : Model) (t : Tree) (e : Env) → mean m (lift t 1 0) e ≡ mean m t (env_rest e)
mean-next m t e = mean-lift m t 1 0 e ∙ ap (mean m t) (fun_ext (λ n. ap e (add-one n)))

pub inside-next : (m : Model) (t : Tree) (e : Env) → inside m (lift t 1 0) e ≡ inside m t (env_rest e)
inside-next m t e = inside-lift m t 1 0 e ∙ ap (inside m t) (fun_ext (λ n. ap e (add-one n)))
