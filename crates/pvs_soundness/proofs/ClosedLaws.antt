-- The meaning of a closed tree is the same in each environment.
use Rattle.std.proofs.Common.{◌≡◌, ℕ, zero, suc, ◌<◌, refl, arith}
use Rattle.std.proofs.Math.Path.{fun_ext}
use Rattle.pvs_terms.specs.Tree.{Tree, Leaf, Var, Name, Bind, Join, Project, If}
use Rattle.pvs_sem.specs.Value.{Value}
use Rattle.pvs_sem.specs.Meaning.{Model, Env, env_with, mean, inside}
use Rattle.pvs_soundness.specs.Scoped.{IsScoped}

-- environments that agree below a number
abbrev pub Alike : ℕ → Env → Env → Type 0
Alike n e f = (k : ℕ) → k < n → e k ≡ f k

alike_with : (n : ℕ) (e f : Env) (v : Value) → Alike n e f → Alike (suc n) (env_with v e) (env_with v f)
alike_with n e f v h zero l = refl
alike_with n e f v h (suc k) l = h k (omega arith)

pub mean_alike : (m : Model) (n : ℕ) (t : Tree) (e f : Env) → IsScoped n t → Alike n e f → mean m t e ≡ mean m t f
mean_alike m n (Leaf o) e f s h = refl
mean_alike m n (Var k) e f s h = rw (h k s) refl
mean_alike m n (Name o r) e f s h = refl
mean_alike m n (Bind o a b) e f s h =
    rw (mean_alike m n a e f s.0 h, fun_ext (λ v. mean_alike m (suc n) b (env_with v e) (env_with v f) s.1 (alike_with n e f v h))) refl
mean_alike m n (Join o a b) e f s h = rw (mean_alike m n a e f s.0 h, mean_alike m n b e f s.1 h) refl
mean_alike m n (Project o a) e f s h = rw (mean_alike m n a e f s h) refl
mean_alike m n (If c a b) e f s h = rw (mean_alike m n c e f s.0 h, mean_alike m n a e f s.1 h, mean_alike m n b e f s.2 h) refl

pub inside_alike : (m : Model) (n : ℕ) (t : Tree) (e f : Env) → IsScoped n t → Alike n e f → inside m t e ≡ inside m t f
inside_alike m n (Leaf o) e f s h = refl
inside_alike m n (Var k) e f s h = refl
inside_alike m n (Name o r) e f s h = refl
inside_alike m n (Bind o a b) e f s h =
    rw (inside_alike m n a e f s.0 h, mean_alike m n a e f s.0 h, fun_ext (λ v. inside_alike m (suc n) b (env_with v e) (env_with v f) s.1 (alike_with n e f v h))) refl
inside_alike m n (Join o a b) e f s h = rw (inside_alike m n a e f s.0 h, inside_alike m n b e f s.1 h, mean_alike m n a e f s.0 h, mean_alike m n b e f s.1 h) refl
inside_alike m n (Project o a) e f s h = rw (inside_alike m n a e f s h, mean_alike m n a e f s h) refl
inside_alike m n (If c a b) e f s h =
    rw (inside_alike m n c e f s.0 h, mean_alike m n c e f s.0 h, inside_alike m n a e f s.1 h, inside_alike m n b e f s.2 h) refl

none_below : (e f : Env) → Alike zero e f
none_below e f k l = absurd (omega arith)

pub mean_closed : (m : Model) (t : Tree) (e f : Env) → IsScoped 0 t → mean m t e ≡ mean m t f
mean_closed m t e f s = mean_alike m 0 t e f s (none_below e f)

pub inside_closed : (m : Model) (t : Tree) (e f : Env) → IsScoped 0 t → inside m t e ≡ inside m t f
inside_closed m t e f s = inside_alike m 0 t e f s (none_below e f)
