-- What is known where the store has grown.
use Rattle.std.proofs.Common.{◌≡◌, ◌≤◌, ◌-◌, ◌+◌, ℕ, suc, Bool, true, false, List, [], ◌∷◌, refl, sym, ◌∙◌, ap, ap₂, subst, arith}
use Rattle.std.specs.Prelude.{if◌then◌else◌, Ok, Err}
use Rattle.pvs_base.specs.Answers.{◌>>=◌}
use Rattle.pvs_base.specs.declared.place.Pos.{Pos}
use Rattle.pvs_base.specs.declared.code.Code.TheVariants.{TooLarge}
use Rattle.pvs_terms.specs.declared.shape.Sort.{Sort}
use Rattle.pvs_terms.specs.Tree.{Tree, Var, IsWithinLimits}
use Rattle.pvs_terms.specs.Stored.{tree_at}
use Rattle.pvs_subst.specs.Replace.{lift}
use Rattle.pvs_subst.specs.Contexts.{Assumptions, Variable, Hypothesis, context_at}
use Rattle.pvs_subst.specs.declared.context.Assumed.{Assumed}
use Rattle.pvs_subst.specs.declared.context.Assumed.TheVariants as assumed
use Rattle.pvs_subst.proofs.ReplaceLaws.{lift-lift, lift-none}
use Rattle.pvs_sig.specs.Lookups.{IsOrdered}
use Rattle.pvs_types.specs.Limits.{is_within_limits}
use Rattle.pvs_types.proofs.LimitsLaws.{limits_decided}
use Rattle.pvs_typing.specs.Growth.{IsKnown, IsKnownContext}
use Rattle.pvs_typing.proofs.GrowthLaws.{keeps_trans, keeps_none, known_kept, context_kept}
use Rattle.pvs_elab.specs.Answer.{Answer, within_limits_at}
use Rattle.pvs_elab.specs.Elab.{lifted_locals}
use Rattle.pvs_elab.specs.Elab as definition
use Rattle.pvs_elaboration.specs.declared.fault.ElabFault.{ElabFault}
use Rattle.pvs_elaboration.specs.declared.fault.ElabFault.TheVariants as elab_fault
use Rattle.pvs_elaboration.specs.declared.here.Local.{Local}
use Rattle.pvs_elaboration.specs.declared.here.Here.{Here}
use Rattle.pvs_elaboration.specs.Known.{Sources, word_at, Known, Grows, IsHere, IsUnder, IsBelow, IsTypeOf, IsTermOf, AreLocals, AreKnownNumbers, local_at, locals_at, site_in, hypothesis_site, variable_site, unnamed_site, local_site, IsUnnamed, IsNamed, Failed}

abbrev made_if : Bool → Pos → Tree → Answer Tree
made_if b at t = if b then Ok t else Err (record { pos = at; code = TooLarge })

within_if : (b : Bool) (at : Pos) (t : Tree) → b ≡ true → made_if b at t ≡ Ok t
within_if true at t e = refl
within_if false at t e = cc

beyond_if : (b : Bool) (at : Pos) (t : Tree) → (b ≡ true → ⊥) → made_if b at t ≡ Err (record { pos = at; code = TooLarge })
beyond_if true at t e = absurd (e refl)
beyond_if false at t e = refl

pub within_limits_made : (at : Pos) (t : Tree) → IsWithinLimits t → within_limits_at at t ≡ Ok t
within_limits_made at t f = within_if (is_within_limits t) at t ((limits_decided t).1 f)

pub beyond_limits : (at : Pos) (t : Tree) → ¬ IsWithinLimits t → within_limits_at at t ≡ Err (record { pos = at; code = TooLarge })
beyond_limits at t f = beyond_if (is_within_limits t) at t (λ e. f ((limits_decided t).0 e))

pub grows_none : (k : Known) → Grows k k
grows_none k = record { keeps = keeps_none k.stored k.declares k.lookups; names = refl }

pub grows_trans : {a b c : Known} → Grows a b → Grows b c → Grows a c
grows_trans p q = record { keeps = keeps_trans p.keeps q.keeps; names = q.names ∙ p.names }

pub number_stays : {a b : Known} {o : Sort} {i : ℕ} → Grows a b → IsKnown a.stored a.declares o i → IsKnown b.stored b.declares o i
number_stays {o = o} {i = i} g n = known_kept o i g.keeps n

pub tree_stays : {a b : Known} {o : Sort} {i : ℕ} → Grows a b → IsKnown a.stored a.declares o i → tree_at b.stored i ≡ tree_at a.stored i
tree_stays {i = i} g n = g.keeps.stored.trees i n.node

local_kept : (a b : Known) (x : Sources) (d : ℕ) (l : Local) → Grows a b → IsTermOf a l.term → local_at b.stored x d l ≡ local_at a.stored x d l
local_kept a b x d l g n = rw (tree_stays g n) refl

locals_kept : (a b : Known) (x : Sources) (d : ℕ) (ls : List Local) → Grows a b → AreLocals a d ls → locals_at b.stored x d ls ≡ locals_at a.stored x d ls
locals_kept a b x d [] g h = refl
locals_kept a b x d (l ∷ ls) g h = ap₂ ◌∷◌ (local_kept a b x d l g h.0.0) (locals_kept a b x d ls g h.1)

locals_stay : (a b : Known) (d : ℕ) (ls : List Local) → Grows a b → AreLocals a d ls → AreLocals b d ls
locals_stay a b d [] g h = tt
locals_stay a b d (l ∷ ls) g h = ((number_stays g h.0.0, h.0.1), locals_stay a b d ls g h.1)

item_at_kept : (a b : Known) (x : Assumed) (xs : List Assumed) → Grows a b → IsKnownContext a.stored a.declares (x ∷ xs) → context_at b.stored xs ≡ context_at a.stored xs → context_at b.stored (x ∷ xs) ≡ context_at a.stored (x ∷ xs)
item_at_kept a b (assumed.Bind i) xs g h e = ap₂ (λ (t : Tree) (c : Assumptions). Variable t ∷ c) (tree_stays g h.0) e
item_at_kept a b (assumed.Hyp i) xs g h e = ap₂ (λ (t : Tree) (c : Assumptions). Hypothesis t ∷ c) (tree_stays g h.0) e

pub context_at_kept : (a b : Known) (xs : List Assumed) → Grows a b → IsKnownContext a.stored a.declares xs → context_at b.stored xs ≡ context_at a.stored xs
context_at_kept a b [] g h = refl
context_at_kept a b (x ∷ xs) g h = item_at_kept a b x xs g h (context_at_kept a b xs g h.1)

-- the same site
pub site_kept : {a b : Known} (x : Sources) (h : Here) → Grows a b → IsHere a h → site_in b x h ≡ site_in a x h
unfolding site_in
site_kept {a} {b} x h g i = rw (g.keeps.lookups, g.names, locals_kept a b x h.depth h.locals g i.locals, context_at_kept a b h.context.items g i.context) refl

pub here_stays : {a b : Known} {h : Here} → Grows a b → IsHere a h → IsHere b h
here_stays {a} {b} {h} g i = record {
  locals = locals_stay a b h.depth h.locals g i.locals;
  context = context_kept h.context.items g.keeps i.context;
  ordered = subst IsOrdered (sym g.keeps.lookups) i.ordered;
  truth = number_stays g i.truth;
  yes = number_stays g i.yes;
  no = number_stays g i.no;
  variable = number_stays g i.variable;
  is_truth = tree_stays g i.truth ∙ i.is_truth;
  is_yes = tree_stays g i.yes ∙ i.is_yes;
  is_no = tree_stays g i.no ∙ i.is_no;
  is_variable = tree_stays g i.variable ∙ i.is_variable;
}

-- the site under a hypothesis
pub hypothesis_site_is : (k : Known) (x : Sources) {h : Here} {p : ℕ} {i : Here} → IsUnder h p i → site_in k x i ≡ hypothesis_site (tree_at k.stored p) (site_in k x h)
unfolding site_in
hypothesis_site_is k x {h} {p} {i} a = rw (a.locals, a.context, a.depth) refl

pub hypothesis_site_stays : {k : Known} {h : Here} {p : ℕ} {i : Here} → IsHere k h → IsTermOf k p → IsUnder h p i → IsHere k i
hypothesis_site_stays {k} {h} {p} {i} x n a = record {
  locals = rw (a.locals, a.depth) x.locals;
  context = subst (IsKnownContext k.stored k.declares) (sym a.context) (n, x.context);
  ordered = x.ordered;
  truth = subst (IsTypeOf k) (sym a.truth) x.truth;
  yes = subst (IsTermOf k) (sym a.yes) x.yes;
  no = subst (IsTermOf k) (sym a.no) x.no;
  variable = subst (IsTermOf k) (sym a.variable) x.variable;
  is_truth = ap (tree_at k.stored) a.truth ∙ x.is_truth;
  is_yes = ap (tree_at k.stored) a.yes ∙ x.is_yes;
  is_no = ap (tree_at k.stored) a.no ∙ x.is_no;
  is_variable = ap (tree_at k.stored) a.variable ∙ x.is_variable;
}

-- the numbers of a list
pub numbers_stay : {a b : Known} (is : List (Sort × ℕ)) → Grows a b → AreKnownNumbers a is → AreKnownNumbers b is
numbers_stay [] g n = tt
numbers_stay (i ∷ is) g n = (number_stays g n.0, numbers_stay is g n.1)

-- Under a variable.

lifted_once : (t : Tree) (d m : ℕ) → m ≤ d → lift t (suc d - m) 0 ≡ lift (lift t (d - m) 0) 1 0
lifted_once t d m h =
    let e : suc d - m ≡ (d - m) + 1 = omega (arith, h) in
    rw e (sym (lift-lift t (d - m) 1 0))

lifted_locals_at : (k : Known) (x : Sources) (d : ℕ) (ls : List Local) → AreLocals k d ls → locals_at k.stored x (suc d) ls ≡ lifted_locals (locals_at k.stored x d ls)
lifted_locals_at k x d [] h = refl
lifted_locals_at k x d (l ∷ ls) h =
    ap₂ (λ (t : Tree) (ms : List definition.Local). record { name = word_at x l.name; term = t } ∷ ms) (lifted_once (tree_at k.stored l.term) d l.at h.0.1) (lifted_locals_at k x d ls h.1)

variable_locals : (k : Known) (d : ℕ) (ls : List Local) → AreLocals k d ls → AreLocals k (suc d) ls
variable_locals k d [] h = tt
variable_locals k d (l ∷ ls) h = ((h.0.0, omega (arith, h.0.1)), variable_locals k d ls h.1)

named_at : (k : Known) (t : Sources) (d : ℕ) (x v : ℕ) (ls : List Local) → tree_at k.stored v ≡ Var 0 → AreLocals k d ls
    → locals_at k.stored t (suc d) (record { name = x; term = v; at = suc d } ∷ ls) ≡ record { name = word_at t x; term = Var 0 } ∷ lifted_locals (locals_at k.stored t d ls)
named_at k t d x v ls e h =
    let zero_more : suc d - suc d ≡ 0 = omega arith in
    rw (e, zero_more) (ap (λ (ns : List definition.Local). record { name = word_at t x; term = Var 0 } ∷ ns) (lifted_locals_at k t d ls h))

pub variable_site_is : (k : Known) (t : Sources) {h : Here} {x a : ℕ} {i : Here} → IsHere k h → IsBelow h x a i → site_in k t i ≡ variable_site (word_at t x) (tree_at k.stored a) (site_in k t h)
unfolding site_in
variable_site_is k t {h} {x} {a} {i} n b = rw (b.context, b.depth, b.locals, named_at k t h.depth x h.variable h.locals n.is_variable n.locals) refl

named_stay : (k : Known) (d x v : ℕ) (ls : List Local) → IsTermOf k v → AreLocals k d ls → AreLocals k (suc d) (record { name = x; term = v; at = suc d } ∷ ls)
named_stay k d x v ls n h = ((n, omega arith), variable_locals k d ls h)

pub variable_site_stays : {k : Known} {h : Here} {x a : ℕ} {i : Here} → IsHere k h → IsTypeOf k a → IsBelow h x a i → IsHere k i
variable_site_stays {k} {h} {x} {a} {i} n t b = record {
  locals = rw (b.depth, b.locals) (named_stay k h.depth x h.variable h.locals n.variable n.locals);
  context = subst (IsKnownContext k.stored k.declares) (sym b.context) (t, n.context);
  ordered = n.ordered;
  truth = subst (IsTypeOf k) (sym b.truth) n.truth;
  yes = subst (IsTermOf k) (sym b.yes) n.yes;
  no = subst (IsTermOf k) (sym b.no) n.no;
  variable = subst (IsTermOf k) (sym b.variable) n.variable;
  is_truth = ap (tree_at k.stored) b.truth ∙ n.is_truth;
  is_yes = ap (tree_at k.stored) b.yes ∙ n.is_yes;
  is_no = ap (tree_at k.stored) b.no ∙ n.is_no;
  is_variable = ap (tree_at k.stored) b.variable ∙ n.is_variable;
}

-- Under a variable without a name, and with a local name for a term.

pub unnamed_site_is : (k : Known) (t : Sources) {h : Here} {a : ℕ} {i : Here} → IsHere k h → IsUnnamed h a i → site_in k t i ≡ unnamed_site (tree_at k.stored a) (site_in k t h)
unfolding site_in
unnamed_site_is k t {h} {a} {i} n b = rw (b.context, b.depth, b.locals, lifted_locals_at k t h.depth h.locals n.locals) refl

pub unnamed_site_stays : {k : Known} {h : Here} {a : ℕ} {i : Here} → IsHere k h → IsTypeOf k a → IsUnnamed h a i → IsHere k i
unnamed_site_stays {k} {h} {a} {i} n t b = record {
  locals = rw (b.depth, b.locals) (variable_locals k h.depth h.locals n.locals);
  context = subst (IsKnownContext k.stored k.declares) (sym b.context) (t, n.context);
  ordered = n.ordered;
  truth = subst (IsTypeOf k) (sym b.truth) n.truth;
  yes = subst (IsTermOf k) (sym b.yes) n.yes;
  no = subst (IsTermOf k) (sym b.no) n.no;
  variable = subst (IsTermOf k) (sym b.variable) n.variable;
  is_truth = ap (tree_at k.stored) b.truth ∙ n.is_truth;
  is_yes = ap (tree_at k.stored) b.yes ∙ n.is_yes;
  is_no = ap (tree_at k.stored) b.no ∙ n.is_no;
  is_variable = ap (tree_at k.stored) b.variable ∙ n.is_variable;
}

lifted_by_none : (t : Tree) (d : ℕ) → lift t (d - d) 0 ≡ t
lifted_by_none t d =
    let none : d - d ≡ 0 = omega arith in
    rw none (lift-none t 0)

pub local_site_is : (k : Known) (t : Sources) {h : Here} {x u : ℕ} {i : Here} → IsNamed h x u i → site_in k t i ≡ local_site (word_at t x) (tree_at k.stored u) (site_in k t h)
unfolding site_in
local_site_is k t {h} {x} {u} {i} b = rw (b.context, b.depth, b.locals, lifted_by_none (tree_at k.stored u) h.depth) refl

local_stays : (k : Known) (d x u : ℕ) (ls : List Local) → IsTermOf k u → AreLocals k d ls → AreLocals k d (record { name = x; term = u; at = d } ∷ ls)
local_stays k d x u ls n h = ((n, omega arith), h)

pub local_site_stays : {k : Known} {h : Here} {x u : ℕ} {i : Here} → IsHere k h → IsTermOf k u → IsNamed h x u i → IsHere k i
local_site_stays {k} {h} {x} {u} {i} n t b = record {
  locals = rw (b.depth, b.locals) (local_stays k h.depth x u h.locals t n.locals);
  context = subst (IsKnownContext k.stored k.declares) (sym b.context) n.context;
  ordered = n.ordered;
  truth = subst (IsTypeOf k) (sym b.truth) n.truth;
  yes = subst (IsTermOf k) (sym b.yes) n.yes;
  no = subst (IsTermOf k) (sym b.no) n.no;
  variable = subst (IsTermOf k) (sym b.variable) n.variable;
  is_truth = ap (tree_at k.stored) b.truth ∙ n.is_truth;
  is_yes = ap (tree_at k.stored) b.yes ∙ n.is_yes;
  is_no = ap (tree_at k.stored) b.no ∙ n.is_no;
  is_variable = ap (tree_at k.stored) b.variable ∙ n.is_variable;
}

-- a fault of the first answer
pub failed_then : {X Y : Type 0} {a b : Known} {r : Answer X} (f : X → Answer Y) (e : ElabFault) → Failed a b r e → Failed a b (r >>= f) e
failed_then f (elab_fault.At q) x = record { kept = x.kept; is = ap (λ r. r >>= f) x.is }
failed_then f elab_fault.Memory x = record { kept = x.kept; is = tt }

pub memory_failed : {X : Type 0} {a b : Known} (r : Answer X) → Grows a b → Failed a b r elab_fault.Memory
memory_failed r g = record { kept = g; is = tt }

pub large_failed : {X : Type 0} {a b : Known} (at : Pos) (t : Tree) (f : Tree → Answer X) → Grows a b → ¬ IsWithinLimits t → Failed a b (within_limits_at at t >>= f) (elab_fault.At (record { pos = at; code = TooLarge }))
large_failed at t f g n = record { kept = g; is = ap (λ r. r >>= f) (beyond_limits at t n) }
