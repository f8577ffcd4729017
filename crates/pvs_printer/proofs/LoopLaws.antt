-- The steps of the loop that prints.
use Rattle.std.proofs.Common.{◌≡◌, ℕ, ◌+◌, ◌-◌, ◌<◌, take, OnErr, List, [], ◌∷◌, ◌++◌, refl, sym, subst, ap, ◌∙◌, append_assoc, append-nil, arith}
use Rattle.std.specs.Prelude.{Result, Ok, Err}
use Rattle.pvs_terms.specs.Stored.{Stored}
use Rattle.pvs_printer.specs.declared.tasks.Piece.{Piece}
use Rattle.pvs_printer.specs.declared.tasks.Task.{Task}
use Rattle.pvs_printer.specs.declared.tasks.Task.TheVariants as task
use Rattle.pvs_printer.specs.Names.{Names}
use Rattle.pvs_printer.specs.Pieces.{piece_bytes, spell}
use Rattle.pvs_printer.specs.Text.{AddsPrefix}
use Rattle.pvs_printer.specs.code.Tasks as model
use Rattle.pvs_printer.specs.code.TasksAt.{piece_at, task_at, tasks_at, TaskIn, TasksIn, HaveRoom, Pushes, Steps, Progress}
use Rattle.pvs_printer.proofs.TaskLaws.{expand_pieces, expand_less, expand_room, map-append, map-onto, left-last, left-onto, work-last, work-onto, room-onto, room-parts}

module _ (s : Stored) (names : Names) (vars : ℕ) where
  -- a piece is written
  pub step_writes : (x : Task) (p : Piece) (stack : List Task) (before after : List ℕ) → x ≡ task.Write p → after ≡ before ++ piece_bytes (piece_at s names p) → Steps s names vars x stack stack before after
  step_writes x p stack before after e h = subst (λ z. Steps s names vars z stack stack before after) (sym e) (record {
    written = piece_bytes (piece_at s names p);
    adds = h;
    left = ap (λ z. z ++ model.left_bytes names vars (tasks_at s names stack)) (append-nil (piece_bytes (piece_at s names p)));
    less = omega arith;
    room = λ r. r;
    within = λ w. w;
  })

  within-onto : (xs ys : List Task) → TasksIn s xs → TasksIn s ys → TasksIn s (model.onto xs ys)
  within-onto xs [] h k = h
  within-onto xs (y ∷ ys) h k = last (model.onto xs ys) y (within-onto xs ys h k.1) k.0
    where
      last : (zs : List Task) (y : Task) → TasksIn s zs → TaskIn s y → TasksIn s (zs ++ y ∷ [])
      last [] y h k = (k, tt)
      last (z ∷ zs) y h k = (h.0, last zs y h.1 k)

  -- the tasks of a stack on which some were put
  stack_is : (ns : Names) (old new us : List Task) → new ≡ model.onto old us → tasks_at s ns new ≡ model.onto (tasks_at s ns old) (tasks_at s ns us)
  stack_is ns old new us h = ap (tasks_at s ns) h ∙ map-onto (task_at s ns) old us

  -- a task is replaced by smaller ones
  pub step_expands : (x : Task) (old new : List Task) (out : List ℕ) → ((ns : Names) → model.IsCompound (task_at s ns x)) → ((ns : Names) → model.HasRoom (task_at s ns x)) → Pushes s (λ ns. model.expand ns vars (task_at s ns x)) old new
      → Steps s names vars x old new out out
  step_expands x old new out c r p =
      let stand = p.stand names in
      let is = stack_is names old new p.tasks p.pushed ∙ ap (λ ts. model.onto (tasks_at s names old) ts) stand in
      record {
        written = [];
        adds = sym (append-nil out);
        left = sym (ap (model.left_bytes names vars) is ∙ left-onto names vars (tasks_at s names old) (model.expand names vars (task_at s names x)) ∙ ap (λ z. spell z ++ model.left_bytes names vars (tasks_at s names old)) (expand_pieces names vars (task_at s names x) (c names)));
        less = let l = expand_less names vars (task_at s names x) (c names) in
            let e : model.all_work (tasks_at s names new) ≡ model.all_work (model.expand names vars (task_at s names x)) + model.all_work (tasks_at s names old) = ap model.all_work is ∙ work-onto (tasks_at s names old) (model.expand names vars (task_at s names x)) in
            omega (arith, l, e);
        room = λ h ns. subst model.AllRoomy (sym (stack_is ns old new p.tasks p.pushed ∙ ap (λ ts. model.onto (tasks_at s ns old) ts) (p.stand ns))) (room-onto (tasks_at s ns old) (model.expand ns vars (task_at s ns x)) (h ns) (expand_room ns vars (task_at s ns x) (r ns)));
        within = λ h. subst (TasksIn s) (sym p.pushed) (within-onto old p.tasks h p.within);
      }

  -- where nothing was written, a prefix was
  pub nothing_added : (text out : List ℕ) → AddsPrefix out text out
  nothing_added text out = record { written = []; unwritten = text; whole = refl; adds = sym (append-nil out) }

pub compound : (s : Stored) (ns : Names) (x : Task) → ((p : Piece) → x ≡ task.Write p → ⊥) → model.IsCompound (task_at s ns x)
compound s ns (task.Write p) h = absurd (h p refl)
compound s ns (task.Print d i) h = tt
compound s ns (task.Operand d i) h = tt
compound s ns (task.Arguments d k i) h = tt
compound s ns (task.Components d k i) h = tt
compound s ns (task.Actuals r n) h = tt
compound s ns (task.Binding n i) h = tt

-- over the store as the instances lend it
pub step_expands_at : (r s : Stored) (names : Names) (vars : ℕ) (x : Task) (old new : List Task) (out : List ℕ) → r ≡ s → ((p : Piece) → x ≡ task.Write p → ⊥) → ((ns : Names) → model.HasRoom (task_at s ns x))
    → Pushes r (λ ns. model.expand ns vars (task_at r ns x)) old new → Steps s names vars x old new out out
step_expands_at r s names vars x old new out e c h p = step_expands s names vars x old new out (λ ns. compound s ns x c) h (subst (λ z. Pushes z (λ ns. model.expand ns vars (task_at z ns x)) old new) e p)

-- ---- The task that is taken from the stack.

split_within : (s : Stored) (xs : List Task) (x : Task) → TasksIn s (xs ++ x ∷ []) → TasksIn s xs × TaskIn s x
split_within s [] x h = (tt, h.0)
split_within s (y ∷ ys) x h = let k = split_within s ys x h.1 in ((h.0, k.0), k.1)

pub last_within : (s : Stored) (xs ts : List Task) (x : Task) → ts ≡ xs ++ x ∷ [] → TasksIn s ts → TasksIn s xs × TaskIn s x
last_within s xs ts x e h = split_within s xs x (subst (TasksIn s) e h)

last_is : (s : Stored) (ns : Names) (xs ts : List Task) (x : Task) → ts ≡ xs ++ x ∷ [] → tasks_at s ns ts ≡ tasks_at s ns xs ++ task_at s ns x ∷ []
last_is s ns xs ts x e = ap (tasks_at s ns) e ∙ map-append (task_at s ns) xs (x ∷ [])

pub last_room : (s : Stored) (xs ts : List Task) (x : Task) → ts ≡ xs ++ x ∷ [] → HaveRoom s ts → (ns : Names) → model.AllRoomy (tasks_at s ns xs) × model.HasRoom (task_at s ns x)
last_room s xs ts x e h ns = room-parts (tasks_at s ns xs) (task_at s ns x) (subst model.AllRoomy (last_is s ns xs ts x e) (h ns))

module _ (s : Stored) (names : Names) (vars : ℕ) where
  abbrev left_of : List Task → List ℕ
  left_of ts = model.left_bytes names vars (tasks_at s names ts)

  left_split : (xs ts : List Task) (x : Task) → ts ≡ xs ++ x ∷ [] → left_of ts ≡ spell (model.task_pieces names vars (task_at s names x)) ++ left_of xs
  left_split xs ts x e = ap (model.left_bytes names vars) (last_is s names xs ts x e) ∙ left-last names vars (tasks_at s names xs) (task_at s names x)

  -- a step goes on with the text
  pub goes_on : (xs ts us : List Task) (x : Task) (old text before after : List ℕ) → ts ≡ xs ++ x ∷ [] → Progress old text before (left_of ts) → Steps s names vars x xs us before after → Progress old text after (left_of us)
  goes_on xs ts us x old text before after e p k = record {
    written = p.written ++ k.written;
    whole = p.whole ∙ ap (λ z. p.written ++ z) (left_split xs ts x e ∙ k.left) ∙ sym (append_assoc p.written k.written (left_of us));
    adds = k.adds ∙ ap (λ z. z ++ k.written) p.adds ∙ append_assoc old p.written k.written;
  }

  pub goes_less : (xs ts us : List Task) (x : Task) (before after : List ℕ) → ts ≡ xs ++ x ∷ [] → Steps s names vars x xs us before after → model.all_work (tasks_at s names us) < model.all_work (tasks_at s names ts)
  goes_less xs ts us x before after e k =
      let l : model.all_work (tasks_at s names us) < model.all_work (tasks_at s names xs) + model.task_work (task_at s names x) = k.less in
      let i : model.all_work (tasks_at s names ts) ≡ model.task_work (task_at s names x) + model.all_work (tasks_at s names xs) = ap model.all_work (last_is s names xs ts x e) ∙ work-last (tasks_at s names xs) (task_at s names x) in
      omega (arith, l, i)

  -- a step that stops leaves a prefix of the text
  pub stops : (xs ts : List Task) (x : Task) (old text before after : List ℕ) → ts ≡ xs ++ x ∷ [] → Progress old text before (left_of ts) → AddsPrefix before (spell (model.task_pieces names vars (task_at s names x))) after → AddsPrefix old text after
  stops xs ts x old text before after e p k = record {
    written = p.written ++ k.written;
    unwritten = k.unwritten ++ left_of xs;
    whole = p.whole ∙ ap (λ z. p.written ++ z) (left_split xs ts x e ∙ ap (λ z. z ++ left_of xs) k.whole ∙ append_assoc k.written k.unwritten (left_of xs)) ∙ sym (append_assoc p.written k.written (k.unwritten ++ left_of xs));
    adds = k.adds ∙ ap (λ z. z ++ k.written) p.adds ∙ append_assoc old p.written k.written;
  }

  -- nothing is left
  pub ends : (ts : List Task) (old text new : List ℕ) → ts ≡ [] → Progress old text new (left_of ts) → new ≡ old ++ text
  ends ts old text new e p = p.adds ∙ ap (λ z. old ++ z) (sym (p.whole ∙ ap (λ z. p.written ++ left_of z) e ∙ append-nil p.written))

-- what a pop from an empty stack says of it
pub emptied : (ts us : List Task) (n : ℕ) → ts ≡ us ++ [] → us ≡ take (n - 1) ts → n ≡ 0 → ts ≡ []
emptied ts us n e h k = e ∙ append-nil us ∙ h ∙ ap (λ m. take (m - 1) ts) k

-- what holds, holds after an error
pub err_holds : {T E P : Type 0} (r : Result T E) → P → OnErr r P
err_holds (Ok x) p = tt
err_holds (Err e) p = p
