-- Where elaboration meets no fault, typing accepts the tree.
use Rattle.std.proofs.Common.{◌≡◌, ℕ, zero, suc, pred, Bool, true, false, List, [], ◌∷◌, refl, subst}
use Rattle.std.specs.Prelude.{Option, Some, None, nat_eq, nat_lt, if◌then◌else◌, Result, Ok, Err}
use Rattle.pvs_base.specs.Answers.{◌>>=◌}
use Rattle.pvs_base.specs.declared.place.Pos.{Pos}
use Rattle.pvs_base.specs.declared.code.Code.{Code}
use Rattle.pvs_terms.specs.Tree.{Text, Tree, Ref, Var, True, False, TBool, TName, Const, TSub, TFun, TPair, Lam, App, Tup, Fst, Snd, Eq, If}
use Rattle.pvs_terms.proofs.TreeLaws.{tree_eq-same}
use Rattle.pvs_subst.specs.Replace.{put_in}
use Rattle.pvs_subst.specs.Contexts.{Assumptions, Variable, Hypothesis}
use Rattle.pvs_sig.specs.Lookups.{Lookups}
use Rattle.pvs_types.specs.Limits.{is_within_limits}
use Rattle.pvs_types.specs.Outcome.{Outcome, Refused, Accepted, from_result, within_limits}
use Rattle.pvs_types.specs.Outcome as outcome
use Rattle.pvs_types.specs.BySize.{by_size}
use Rattle.pvs_types.specs.Forms.{head, up, most, first_among}
use Rattle.pvs_types.specs.Coerce.{lift_one, coerce}
use Rattle.pvs_types.specs.Typing.{function_of, tuple_of, is_forall, common_type, negation, typing, infer, check, well_formed}
use Rattle.pvs_elab.specs.Answer.{Answer, within_limits_at, from_text_or_outcome, from_name}
use Rattle.pvs_elab.specs.Names.{Names}
use Rattle.pvs_elab.specs.Phrase.{Phrase, Name, Truth, Apply, Tuple, Part, Group, Choice, Not, Equal, Iff, All, Lambda, Let, LetAs, TypeOf, Sub, Predicate, Function, Product, Other}
use Rattle.pvs_elab.specs.Elab.{Here, TypedTree, Elab, local_named, under_variable, under_name, under_hypothesis, universal}
use Rattle.pvs_elab.specs.Elab as elaboration
use Rattle.pvs_elab.specs.Laws.{Gives, Holds, IsLawful}
use Rattle.pvs_elab.proofs.AnswerLaws.{gives_after, gives_then, gives_within, holds_then, holds_if, within_limits_then, within_limits_last, outcome_then, outcome_last, part_then, text_or_outcome_then, name_then, holds_weaker}

-- what is inferred, of a term that is checked by its own type
record IsTyped (s : Lookups) (g : Assumptions) (t : TypedTree) : Type 0 where
  pub given : Gives (infer s g t.tree) t.ty
  pub own : (a : Tree) → check s g t.tree a ≡ outcome.◌>>=◌ (infer s g t.tree) (λ b. coerce s g t.tree b a)

module _ (s : Lookups) (names : Names) where
  -- the answers of a row
  abbrev Types : Here → TypedTree → Type 0
  Types h t = Gives (infer s h.context t.tree) t.ty

  abbrev Fits : Here → Tree → Tree → Type 0
  Fits h a t = Gives (check s h.context t a) tt

  abbrev Forms : Here → Tree → Type 0
  Forms h t = Gives (well_formed s h.context t) tt

  term_lawful : (pos : Pos) (f : Here → Answer TypedTree) → ((h : Here) → Holds (IsTyped s h.context) (f h)) → IsLawful s (elaboration.term_elab s pos f)
  term_lawful pos f k = record {
    infer = λ h. holds_weaker (IsTyped s h.context) _ (f h) (k h) (λ t i. i.given);
    check = λ h at a. holds_then (IsTyped s h.context) _ (f h) _ (k h) (λ t i. outcome_then _ at at (coerce s h.context t.tree t.ty a) _ (λ u gu. rw (i.own a) (gives_then (infer s h.context t.tree) _ t.ty tt i.given gu)));
    formed = λ h. tt;
  }

  kind_lawful : (pos : Pos) (f : Here → Answer Tree) → ((h : Here) → Holds (Forms h) (f h)) → IsLawful s (elaboration.type_elab pos f)
  kind_lawful pos f k = record { infer = λ h. tt; check = λ h at a. tt; formed = k }

  term_named : (x : Text) (pos : Pos) (o : Option Tree) {A : Type 0} (Q : A → Type 0) (f : Tree → Answer A) → ((t : Tree) → Holds Q (f t)) → Holds Q (elaboration.name_term names x pos o >>= f)
  term_named x pos (Some t) Q f k = within_limits_then Q pos t f (λ w. k t)
  term_named x pos None Q f k = named (names.constant_named x) where
    named : (r : Result Ref Code) → Holds Q ((from_name pos r >>= λ r. within_limits_at pos (Const r)) >>= f)
    named (Ok r) = within_limits_then Q pos (Const r) f (λ w. k (Const r))
    named (Err c) = tt

  name_formed : (x : Text) (pos : Pos) (h : Here) → Holds (Forms h) (elaboration.name_type s names x pos h)
  name_formed x pos h = holds_if (Forms h) (elaboration.is_bool x) _ _ refl (
      name_then (Forms h) pos (names.type_named x) _ (λ r.
      within_limits_then (Forms h) pos (TName r) _ (λ w.
      outcome_then (Forms h) pos pos (well_formed s h.context (TName r)) _ (λ u g. g))))

  name_lawful : (x : Text) (pos : Pos) → IsLawful s (elaboration.name_elab s names x pos)
  name_lawful x pos = record {
    infer = λ h. term_named x pos (local_named x h.locals) (Types h) _ (λ t. outcome_then (Types h) pos pos (infer s h.context t) _ (λ a g. g));
    check = λ h at a. term_named x pos (local_named x h.locals) (Fits h a) _ (λ t. outcome_then (Fits h a) at at (check s h.context t a) _ (λ u g. g));
    formed = name_formed x pos;
  }

  truth_lawful : (b : Bool) (pos : Pos) → IsLawful s (elaboration.truth_elab s b pos)
  truth_lawful true pos = term_lawful pos _ (λ h. record { given = refl; own = λ a. refl })
  truth_lawful false pos = term_lawful pos _ (λ h. record { given = refl; own = λ a. refl })

  apply_lawful : (f x : Elab) → IsLawful s f → IsLawful s x → IsLawful s (elaboration.apply_elab s f x)
  apply_lawful f x lf lx = term_lawful f.place _ (λ h.
      let Q = IsTyped s h.context in
      holds_then (Types h) Q (f.infer h) _ (lf.infer h) (λ c gc.
      outcome_then Q f.place f.place (from_result (head s c.ty)) _ (λ b gb.
      outcome_then Q f.place f.place (function_of b) _ (λ d gd.
      holds_then (Fits h d.first) Q (x.check h x.place d.first) _ (lx.check h x.place d.first) (λ a ga.
      within_limits_then Q f.place (App c.tree a) _ (λ w. within_limits_then Q f.place (put_in d.second a) _ (λ v. record {
        given = gives_then (infer s h.context c.tree) _ c.ty _ gc (
            gives_then (from_result (head s c.ty)) _ b _ gb (
            gives_then (function_of b) _ d _ gd (
            gives_then (check s h.context a d.first) _ tt _ ga (gives_within (put_in d.second a) v))));
        own = λ b. refl;
      })))))))

  tuple_lawful : (k : ℕ) (x y : Elab) (pos : Pos) → IsLawful s x → IsLawful s y → IsLawful s (elaboration.tuple_elab s k x y pos)
  tuple_lawful k x y pos lx ly = term_lawful pos _ (λ h.
      let Q = IsTyped s h.context in
      holds_then (Types h) Q (x.infer h) _ (lx.infer h) (λ a ga.
      holds_then (Types h) Q (y.infer h) _ (ly.infer h) (λ b gb.
      within_limits_then Q pos (Tup (suc (suc k)) a.tree b.tree) _ (λ w. within_limits_then Q pos (TPair (suc (suc k)) a.ty (lift_one b.ty)) _ (λ v. record {
        given = gives_then (infer s h.context a.tree) _ a.ty _ ga (gives_then (infer s h.context b.tree) _ b.ty _ gb (gives_within (TPair (suc (suc k)) a.ty (lift_one b.ty)) v));
        own = λ c. refl;
      })))))

  part_typed : (h : Here) (at number : Pos) (k i : ℕ) (t a : Tree) → Gives (infer s h.context t) a → Holds (IsTyped s h.context) (elaboration.part_from s at number k i t a)
  part_typed h at number k zero t a g = tt
  part_typed h at number k (suc zero) t a g =
      let Q = IsTyped s h.context in
      outcome_then Q at at (from_result (head s a)) _ (λ c gc.
      part_then Q number at (tuple_of k c) _ (λ d gd. within_limits_then Q at (Fst k t) _ (λ w. record {
        given = gives_then (infer s h.context t) _ a _ g (gives_then (from_result (head s a)) _ c _ gc (gives_then (tuple_of k c) _ d _ gd refl));
        own = λ c. refl;
      })))
  part_typed h at number k (suc (suc i)) t a g =
      let Q = IsTyped s h.context in
      outcome_then Q at at (from_result (head s a)) _ (λ c gc.
      part_then Q number at (tuple_of k c) _ (λ d gd.
      let b = put_in d.second (Fst k t) in
      within_limits_then Q at (Snd k t) _ (λ w. within_limits_then Q at b _ (λ v.
      let gb : Gives (infer s h.context (Snd k t)) b = gives_then (infer s h.context t) _ a _ g (
      gives_then (from_result (head s a)) _ c _ gc (
      gives_then (tuple_of k c) _ d _ gd (
      gives_then (within_limits (Fst k t)) _ (Fst k t) _ (gives_within (Fst k t) w) (gives_within b v)))) in
      holds_if Q (nat_eq k 2) _ _ (record { given = gb; own = λ c. refl }) (part_typed h at number (pred k) (suc i) (Snd k t) b gb)))))

  part_lawful : (x : Elab) (i : ℕ) (number : Pos) → IsLawful s x → IsLawful s (elaboration.part_elab s x i number)
  part_lawful x i number lx = term_lawful x.place _ (λ h.
      let Q = IsTyped s h.context in
      holds_then (Types h) Q (x.infer h) _ (lx.infer h) (λ t g.
      outcome_then Q x.place x.place (from_result (head s t.ty)) _ (λ a ga.
      outcome_then Q x.place x.place (elaboration.tuple_size a) _ (λ k gk.
      holds_if Q (nat_lt k i) _ _ tt (part_typed h x.place number k i t.tree t.ty g)))))

  -- what typing says of branches of these types
  abbrev says_join : Assumptions → Assumptions → TypedTree → TypedTree → Outcome Tree
  says_join g h a b = outcome.◌>>=◌ (from_result (up s a.ty)) (λ c. outcome.◌>>=◌ (from_result (up s b.ty)) (λ d. common_type s g h a.tree b.tree a.ty b.ty (first_among c d)))

  shared_typed : (one two join : Pos) (g h : Assumptions) (a b : TypedTree) (o : Option Tree) → Holds (λ u. Gives (common_type s g h a.tree b.tree a.ty b.ty o) u) (elaboration.shared_type s one two join g h a b o)
  shared_typed one two join g h a b (Some u) = refl
  shared_typed one two join g h a b None =
      let Q = λ (u : Tree). Gives (common_type s g h a.tree b.tree a.ty b.ty None) u in
      outcome_then Q one one (from_result (most s a.ty)) _ (λ c gc.
      outcome_then Q one join (coerce s g a.tree a.ty c) _ (λ u gu.
      outcome_then Q two join (coerce s h b.tree b.ty c) _ (λ v gv.
      gives_then (from_result (most s a.ty)) _ c _ gc (gives_then (coerce s g a.tree a.ty c) _ tt _ gu (gives_then (coerce s h b.tree b.ty c) _ tt _ gv refl)))))

  branches_typed : (one two join : Pos) (g h : Assumptions) (a b : TypedTree) → Holds (λ u. Gives (says_join g h a b) u) (elaboration.join_type s one two join g h a b)
  branches_typed one two join g h a b =
      let Q = λ (u : Tree). Gives (says_join g h a b) u in
      outcome_then Q one one (from_result (up s a.ty)) _ (λ c gc.
      outcome_then Q two two (from_result (up s b.ty)) _ (λ d gd.
      holds_weaker _ Q (elaboration.shared_type s one two join g h a b (first_among c d)) (shared_typed one two join g h a b (first_among c d)) (λ u gu.
      gives_then (from_result (up s a.ty)) _ c _ gc (gives_then (from_result (up s b.ty)) _ d _ gd gu))))

  choice_lawful : (early : Bool) (c x y : Elab) (join pos : Pos) → IsLawful s c → IsLawful s x → IsLawful s y → IsLawful s (elaboration.choice_elab s early c x y join pos)
  choice_lawful early c x y join pos lc lx ly = record {
    infer = λ h.
        let Q = Types h in
        holds_then (Fits h TBool) Q (c.check h c.place TBool) _ (lc.check h c.place TBool) (λ p gp.
        holds_then (Types (under_hypothesis p h)) Q (x.infer (under_hypothesis p h)) _ (lx.infer (under_hypothesis p h)) (λ a ga.
        within_limits_then Q pos (negation p) _ (λ w.
        holds_then (Types (under_hypothesis (negation p) h)) Q (y.infer (under_hypothesis (negation p) h)) _ (ly.infer (under_hypothesis (negation p) h)) (λ b gb.
        holds_then (λ t. Unit {0}) Q _ _ (holds_if (λ t. Unit {0}) early (within_limits_at pos (If p a.tree b.tree)) (Ok (If p a.tree b.tree)) (within_limits_last (λ t. Unit {0}) pos (If p a.tree b.tree) tt) tt) (λ t u.
        holds_then (λ (u : Tree). Gives (says_join (Hypothesis p ∷ h.context) (Hypothesis (negation p) ∷ h.context) a b) u) Q
        (elaboration.join_type s x.place y.place join (Hypothesis p ∷ h.context) (Hypothesis (negation p) ∷ h.context) a b) _
        (branches_typed x.place y.place join (Hypothesis p ∷ h.context) (Hypothesis (negation p) ∷ h.context) a b) (λ v gv.
        within_limits_then Q pos (If p a.tree b.tree) _ (λ z.
        gives_then (check s h.context p TBool) _ tt _ gp (
        gives_then (infer s (Hypothesis p ∷ h.context) a.tree) _ a.ty _ ga (
        gives_then (within_limits (negation p)) _ (negation p) _ (gives_within (negation p) w) (
        gives_then (infer s (Hypothesis (negation p) ∷ h.context) b.tree) _ b.ty _ gb gv))))))))));
    check = λ h at u.
        let Q = Fits h u in
        holds_then (Fits h TBool) Q (c.check h c.place TBool) _ (lc.check h c.place TBool) (λ p gp.
        holds_then (Fits (under_hypothesis p h) u) Q (x.check (under_hypothesis p h) x.place u) _ (lx.check (under_hypothesis p h) x.place u) (λ a ga.
        within_limits_then Q pos (negation p) _ (λ w.
        holds_then (Fits (under_hypothesis (negation p) h) u) Q (y.check (under_hypothesis (negation p) h) y.place u) _ (ly.check (under_hypothesis (negation p) h) y.place u) (λ b gb.
        within_limits_last Q pos (If p a b) (
        gives_then (check s h.context p TBool) _ tt _ gp (
        gives_then (check s (Hypothesis p ∷ h.context) a u) _ tt _ ga (
        gives_then (within_limits (negation p)) _ (negation p) _ (gives_within (negation p) w) gb)))))));
    formed = λ h. tt;
  }

  -- FALSE and TRUE are joined at bool
  negation_typed : (h : Here) (p : Tree) → is_within_limits (negation p) ≡ true
      → Gives (outcome.◌>>=◌ (infer s (Hypothesis p ∷ h.context) False) (λ c.
      outcome.◌>>=◌ (within_limits (negation p)) (λ n.
      outcome.◌>>=◌ (infer s (Hypothesis n ∷ h.context) True) (λ d.
      outcome.◌>>=◌ (from_result (up s c)) (λ above_c.
      outcome.◌>>=◌ (from_result (up s d)) (λ above_d.
      common_type s (Hypothesis p ∷ h.context) (Hypothesis n ∷ h.context) False True c d (first_among above_c above_d))))))) TBool
  unfolding by_size up
  negation_typed h p w = gives_after [] [] _ TBool (gives_then (within_limits (negation p)) _ (negation p) TBool (gives_within (negation p) w) refl)

  not_lawful : (x : Elab) (pos : Pos) → IsLawful s x → IsLawful s (elaboration.not_elab s x pos)
  not_lawful x pos lx = record {
    infer = λ h.
        let Q = Types h in
        holds_then (Fits h TBool) Q (x.check h x.place TBool) _ (lx.check h x.place TBool) (λ p gp.
        within_limits_then Q pos (negation p) _ (λ w. gives_then (check s h.context p TBool) _ tt _ gp (negation_typed h p w)));
    check = λ h at u.
        let Q = Fits h u in
        holds_then (Fits h TBool) Q (x.check h x.place TBool) _ (lx.check h x.place TBool) (λ p gp.
        outcome_then Q at at (coerce s (Hypothesis p ∷ h.context) False TBool u) _ (λ v gv.
        within_limits_then Q pos (negation p) _ (λ w.
        outcome_then Q at at (coerce s (Hypothesis (negation p) ∷ h.context) True TBool u) _ (λ z gz.
        gives_then (check s h.context p TBool) _ tt _ gp (
        gives_then (check s (Hypothesis p ∷ h.context) False u) _ tt _ (gives_after [] [] (coerce s (Hypothesis p ∷ h.context) False TBool u) tt gv) (
        gives_then (within_limits (negation p)) _ (negation p) _ (gives_within (negation p) w)
        (gives_after [] [] (coerce s (Hypothesis (negation p) ∷ h.context) True TBool u) tt gz)))))));
    formed = λ h. tt;
  }

  -- what typing says of an equation whose sides have these types
  abbrev says_equal : Bool → Here → TypedTree → TypedTree → Outcome Tree
  says_equal b h a c = if b then outcome.◌>>◌ ((typing s a.tree).predicate h.context) (outcome.pure TBool) else
      outcome.◌>>=◌ (infer s h.context a.tree) (λ d. outcome.◌>>=◌ (infer s h.context c.tree) (λ e.
      outcome.◌>>=◌ (from_result (most s d)) (λ m.
      outcome.◌>>◌ (coerce s h.context c.tree e m) (outcome.◌>>◌ (coerce s h.context a.tree d m) (outcome.pure TBool)))))

  -- both sides are of the most general form of the left one's type
  record IsBalanced (h : Here) (a c : TypedTree) : Type 0 where
    common : Tree
    most_is : Gives (from_result (most s a.ty)) common
    right : Gives (coerce s h.context c.tree c.ty common) tt
    left : Gives (coerce s h.context a.tree a.ty common) tt

  balanced_typed : (one two : Pos) (h : Here) (a c : TypedTree) → Holds (λ u. IsBalanced h a c) (elaboration.equal_sides s one two h a c)
  balanced_typed one two h a c =
      let Q = λ (u : Unit {0}). IsBalanced h a c in
      outcome_then Q one one (from_result (most s a.ty)) _ (λ m gm.
      outcome_then Q two two (coerce s h.context c.tree c.ty m) _ (λ u gu.
      outcome_last Q one two (coerce s h.context a.tree a.ty m) (λ v gv. record { common = m; most_is = gm; right = gu; left = gv })))

  equation_if : (b : Bool) (h : Here) (predicate : Answer (Unit {0})) (one two : Pos) (a c : TypedTree) (t : Tree) → Types h a → Types h c
      → Holds (λ (r : TypedTree). (t ≡ r.tree) × Gives (says_equal b h a c) r.ty)
      ((if b then from_text_or_outcome predicate one ((typing s a.tree).predicate h.context) else elaboration.equal_sides s one two h a c) >>= (λ u. Ok (record { tree = t; ty = TBool })))
  equation_if true h predicate one two a c t ga gc =
      text_or_outcome_then (λ (r : TypedTree). (t ≡ r.tree) × Gives (says_equal true h a c) r.ty) predicate one ((typing s a.tree).predicate h.context) _ (λ u gu. (refl, gives_then ((typing s a.tree).predicate h.context) _ tt _ gu refl))
  equation_if false h predicate one two a c t ga gc =
      holds_then (λ u. IsBalanced h a c) (λ (r : TypedTree). (t ≡ r.tree) × Gives (says_equal false h a c) r.ty) (elaboration.equal_sides s one two h a c) _ (balanced_typed one two h a c) (λ u g. (
        refl,
        gives_then (infer s h.context a.tree) _ a.ty _ ga (gives_then (infer s h.context c.tree) _ c.ty _ gc (
            gives_then (from_result (most s a.ty)) _ g.common _ g.most_is (
            gives_then (coerce s h.context c.tree c.ty g.common) _ tt _ g.right (gives_then (coerce s h.context a.tree a.ty g.common) _ tt _ g.left refl)))),
      ))

  equation_lawful : (x y : Elab) (h : Here) (a c : TypedTree) → Types h a → Types h c → Holds (IsTyped s h.context) (elaboration.equation s x y h a c)
  equation_lawful x y h a c ga gc =
      within_limits_then (IsTyped s h.context) x.place (Eq a.tree c.tree) _ (λ w. holds_weaker _ (IsTyped s h.context) _
      (equation_if (is_forall a.tree c.tree) h (x.predicate h) x.place y.place a c (Eq a.tree c.tree) ga gc)
      (λ r g. subst (λ t. IsTyped s h.context (record { tree = t; ty = r.ty })) g.0 (record { given = g.1; own = λ b. refl })))

  group_lawful : (x : Elab) (pos : Pos) → IsLawful s x → IsLawful s (elaboration.predicate_elab s x pos) → IsLawful s (elaboration.group_elab s x pos)
  group_lawful x pos lx lp = record { infer = lx.infer; check = lx.check; formed = lp.formed }

  equal_lawful : (x y : Elab) → IsLawful s x → IsLawful s y → IsLawful s (elaboration.equal_elab s x y)
  equal_lawful x y lx ly = term_lawful x.place _ (λ h.
      let Q = IsTyped s h.context in
      holds_then (Types h) Q (x.infer h) _ (lx.infer h) (λ a ga. holds_then (Types h) Q (y.infer h) _ (ly.infer h) (λ c gc. equation_lawful x y h a c ga gc)))

  iff_lawful : (x y : Elab) → IsLawful s x → IsLawful s y → IsLawful s (elaboration.iff_elab s x y)
  iff_lawful x y lx ly = term_lawful x.place _ (λ h.
      let Q = IsTyped s h.context in
      holds_then (Types h) Q (x.infer h) _ (lx.infer h) (λ a ga.
      outcome_then Q x.place x.place (from_result (head s a.ty)) _ (λ d gd.
      outcome_then Q x.place x.place (elaboration.truth_type d) _ (λ u gu.
      holds_then (Types h) Q (y.infer h) _ (ly.infer h) (λ c gc. equation_lawful x y h a c ga gc)))))

  all_typed : (b : Bool) → b ≡ true → (o : Outcome (Unit {0})) (p : Outcome Tree) → Gives o tt → Gives (if b then outcome.◌>>◌ o (outcome.pure TBool) else p) TBool
  all_typed true e o p g = gives_then o _ tt _ g refl
  all_typed false e o p g = absurd (cc)

  all_lawful : (x : Text) (a p : Elab) (pos : Pos) → IsLawful s a → IsLawful s p → IsLawful s (elaboration.all_elab s x a p pos)
  all_lawful x a p pos la lp = term_lawful pos _ (λ h.
      let Q = IsTyped s h.context in
      holds_then (Forms h) Q (a.formed h) _ (la.formed h) (λ c gc.
      holds_then (Fits (under_name x c h) TBool) Q (p.check (under_name x c h) p.place TBool) _ (lp.check (under_name x c h) p.place TBool) (λ q gq.
      within_limits_then Q pos (universal c q) _ (λ w. record {
        given = all_typed (is_forall (Lam c q) (Lam c True)) (tree_eq-same c) ((typing s (Lam c q)).predicate h.context) _ (gives_then (well_formed s h.context c) _ tt _ gc gq);
        own = λ b. refl;
      }))))

  lambda_lawful : (d : Elab) (xs : List Text) (b : Elab) (pos : Pos) → IsLawful s d → IsLawful s b → IsLawful s (elaboration.lambda_elab s d xs b pos)
  lambda_lawful d xs b pos ld lb =
      let base = term_lawful pos _ (λ h.
      let Q = IsTyped s h.context in
      holds_then (Forms h) Q (d.formed h) _ (ld.formed h) (λ c gc.
      holds_then (Types (under_variable xs c h)) Q (b.infer (under_variable xs c h)) _ (lb.infer (under_variable xs c h)) (λ e ge.
      within_limits_then Q pos (Lam c e.tree) _ (λ w. within_limits_then Q pos (TFun c e.ty) _ (λ v. record {
        given = gives_then (well_formed s h.context c) _ tt _ gc (gives_then (infer s (Variable c ∷ h.context) e.tree) _ e.ty _ ge (gives_within (TFun c e.ty) v));
        own = λ a. refl;
      }))))) in record { infer = base.infer; check = base.check; formed = base.formed }

  -- a term that is put in for the variable of a LAMBDA: the head of a function type is that type
  redex_typed : (h : Here) (a b v c : Tree) → is_within_limits (TFun a c) ≡ true → is_within_limits (put_in c v) ≡ true
      → Gives (well_formed s h.context a) tt → Gives (infer s (Variable a ∷ h.context) b) c → Gives (check s h.context v a) tt
      → Gives (infer s h.context (App (Lam a b) v)) (put_in c v)
  unfolding by_size head
  redex_typed h a b v c w z ga gb gv =
      gives_then (infer s h.context (Lam a b)) _ (TFun a c) _ (gives_then (well_formed s h.context a) _ tt _ ga (gives_then (infer s (Variable a ∷ h.context) b) _ c _ gb (gives_within (TFun a c) w)))
      (gives_after [] [] _ _ (gives_after [] [] _ _ (gives_then (check s h.context v a) _ tt _ gv (gives_within (put_in c v) z))))

  let_lawful : (x : Text) (v b : Elab) (pos : Pos) → IsLawful s v → IsLawful s b → IsLawful s (elaboration.let_elab s x v b pos)
  let_lawful x v b pos lv lb = term_lawful pos _ (λ h.
      let Q = IsTyped s h.context in
      holds_then (Types h) Q (v.infer h) _ (lv.infer h) (λ a ga.
      outcome_then Q v.place v.place (well_formed s h.context a.ty) _ (λ u gu.
      outcome_then Q v.place v.place (check s h.context a.tree a.ty) _ (λ w gw.
      holds_then (Types (under_name x a.ty h)) Q (b.infer (under_name x a.ty h)) _ (lb.infer (under_name x a.ty h)) (λ e ge.
      within_limits_then Q pos (App (Lam a.ty e.tree) a.tree) _ (λ k.
      within_limits_then Q pos (TFun a.ty e.ty) _ (λ l.
      within_limits_then Q pos (put_in e.ty a.tree) _ (λ m. record {
        given = redex_typed h a.ty e.tree a.tree e.ty l m gu ge gw;
        own = λ c. refl;
      }))))))))

  let_as_lawful : (x : Text) (a v b : Elab) (pos : Pos) → IsLawful s a → IsLawful s v → IsLawful s b → IsLawful s (elaboration.let_as_elab s x a v b pos)
  let_as_lawful x a v b pos la lv lb = term_lawful pos _ (λ h.
      let Q = IsTyped s h.context in
      holds_then (Forms h) Q (a.formed h) _ (la.formed h) (λ c gc.
      holds_then (Fits h c) Q (v.check h v.place c) _ (lv.check h v.place c) (λ w gw.
      holds_then (Types (under_name x c h)) Q (b.infer (under_name x c h)) _ (lb.infer (under_name x c h)) (λ e ge.
      within_limits_then Q pos (App (Lam c e.tree) w) _ (λ k.
      within_limits_then Q pos (TFun c e.ty) _ (λ l.
      within_limits_then Q pos (put_in e.ty w) _ (λ m. record {
        given = redex_typed h c e.tree w e.ty l m gc ge gw;
        own = λ b. refl;
      })))))))

  well_lawful : (pos : Pos) (h : Here) (a : Tree) → Holds (Forms h) (elaboration.formed_at s pos h a)
  well_lawful pos h a = within_limits_then (Forms h) pos a _ (λ w. outcome_then (Forms h) pos pos (well_formed s h.context a) _ (λ u g. g))

  type_of_lawful : (x : Text) (pos : Pos) → IsLawful s (elaboration.type_of_elab s names x pos)
  type_of_lawful x pos = kind_lawful pos _ (λ h. name_then (Forms h) pos (names.variable_named x) _ (λ v. well_lawful pos h v.ty))

  sub_lawful : (x : Text) (a p : Elab) (pos : Pos) → IsLawful s a → IsLawful s p → IsLawful s (elaboration.sub_elab x a p pos)
  sub_lawful x a p pos la lp = kind_lawful pos _ (λ h.
      holds_then (Forms h) (Forms h) (a.formed h) _ (la.formed h) (λ c gc.
      holds_then (Fits (under_name x c h) TBool) (Forms h) (p.check (under_name x c h) p.place TBool) _ (lp.check (under_name x c h) p.place TBool) (λ q gq.
      within_limits_last (Forms h) pos (TSub c q) (gives_then (well_formed s h.context c) _ tt _ gc gq))))

  predicate_lawful : (q : Elab) (pos : Pos) → IsLawful s q → IsLawful s (elaboration.predicate_elab s q pos)
  predicate_lawful q pos lq = kind_lawful pos _ (λ h.
      holds_then (Types h) (Forms h) (q.infer h) _ (lq.infer h) (λ p gp.
      outcome_then (Forms h) q.place q.place (from_result (head s p.ty)) _ (λ d gd.
      outcome_then (Forms h) q.place q.place (elaboration.domain_of s d) _ (λ a ga. well_lawful pos h (TSub a (App (lift_one p.tree) (Var 0)))))))

  function_lawful : (d : Elab) (xs : List Text) (b : Elab) (pos : Pos) → IsLawful s d → IsLawful s b → IsLawful s (elaboration.function_elab d xs b pos)
  function_lawful d xs b pos ld lb = kind_lawful pos _ (λ h.
      holds_then (Forms h) (Forms h) (d.formed h) _ (ld.formed h) (λ c gc.
      holds_then (Forms (under_variable xs c h)) (Forms h) (b.formed (under_variable xs c h)) _ (lb.formed (under_variable xs c h)) (λ e ge.
      within_limits_last (Forms h) pos (TFun c e) (gives_then (well_formed s h.context c) _ tt _ gc ge))))

  product_lawful : (k : ℕ) (x : Text) (a b : Elab) (pos : Pos) → IsLawful s a → IsLawful s b → IsLawful s (elaboration.product_elab k x a b pos)
  product_lawful k x a b pos la lb = kind_lawful pos _ (λ h.
      holds_then (Forms h) (Forms h) (a.formed h) _ (la.formed h) (λ c gc.
      holds_then (Forms (under_name x c h)) (Forms h) (b.formed (under_name x c h)) _ (lb.formed (under_name x c h)) (λ e ge.
      within_limits_last (Forms h) pos (TPair (suc (suc k)) c e) (gives_then (well_formed s h.context c) _ tt _ gc ge))))

  pub elab_lawful : (e : Phrase) → IsLawful s (elaboration.elab s names e)
  elab_lawful (Name x pos) = name_lawful x pos
  elab_lawful (Truth b pos) = truth_lawful b pos
  elab_lawful (Apply f x) = apply_lawful _ _ (elab_lawful f) (elab_lawful x)
  elab_lawful (Tuple k x y pos) = tuple_lawful k _ _ pos (elab_lawful x) (elab_lawful y)
  elab_lawful (Part x i number) = part_lawful _ i number (elab_lawful x)
  elab_lawful (Group x pos) = group_lawful _ pos (elab_lawful x) (predicate_lawful _ pos (elab_lawful x))
  elab_lawful (Choice early c x y join pos) = choice_lawful early _ _ _ join pos (elab_lawful c) (elab_lawful x) (elab_lawful y)
  elab_lawful (Not x pos) = not_lawful _ pos (elab_lawful x)
  elab_lawful (Equal x y) = equal_lawful _ _ (elab_lawful x) (elab_lawful y)
  elab_lawful (Iff x y) = iff_lawful _ _ (elab_lawful x) (elab_lawful y)
  elab_lawful (All x a p pos) = all_lawful x _ _ pos (elab_lawful a) (elab_lawful p)
  elab_lawful (Lambda d xs b pos) = lambda_lawful _ xs _ pos (elab_lawful d) (elab_lawful b)
  elab_lawful (Let x v b pos) = let_lawful x _ _ pos (elab_lawful v) (elab_lawful b)
  elab_lawful (LetAs x a v b pos) = let_as_lawful x _ _ _ pos (elab_lawful a) (elab_lawful v) (elab_lawful b)
  elab_lawful (TypeOf x pos) = type_of_lawful x pos
  elab_lawful (Sub x a p pos) = sub_lawful x _ _ pos (elab_lawful a) (elab_lawful p)
  elab_lawful (Predicate q pos) = predicate_lawful _ pos (elab_lawful q)
  elab_lawful (Function d xs b pos) = function_lawful _ xs _ pos (elab_lawful d) (elab_lawful b)
  elab_lawful (Product k x a b pos) = product_lawful k x _ _ pos (elab_lawful a) (elab_lawful b)
  elab_lawful (Other pos) = kind_lawful pos _ (λ h. tt)
