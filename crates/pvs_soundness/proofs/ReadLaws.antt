-- A declaration without conditions, added to a theory whose entries typing accepted, leaves a theory of which the same
-- holds.
use Rattle.std.proofs.Common.{◌≡◌, ◌⊎◌, inl, inr, ℕ, zero, suc, ◌<◌, ◌≤◌, Bool, true, false, List, [], ◌∷◌, ◌++◌, length, Option, Some, None, Result, Ok, Err, refl, ap, ◌∙◌, sym, subst, arith}
use Rattle.std.specs.Prelude.{slice_get, option_map, if◌then◌else◌}
use Rattle.std.proofs.lemmas.Bool.{lt-ltb, ltb-true}
use Rattle.std.proofs.lemmas.Option.{slice_get_past}
use Rattle.pvs_base.specs.Answers.{◌>>=◌}
use Rattle.pvs_base.specs.declared.code.Code.{Code}
use Rattle.pvs_base.specs.declared.code.Code.TheVariants.{Unknown, OutOfProfile}
use Rattle.pvs_terms.specs.Tree.{Text, Tree, Ref, Own, Formal, Inst, TName, Const, TBool}
use Rattle.pvs_subst.specs.Contexts.{Assumptions, Variable}
use Rattle.pvs_syntax.specs.declared.unit.Decl.{Decl}
use Rattle.pvs_sig.specs.Lookups.{Lookups, IsOrdered}
use Rattle.pvs_sig.specs.LookupsOf.{lookups_of, kind_lookup, constant_type, is_type_kind, is_nonempty_kind}
use Rattle.pvs_sig.specs.Ranks.{type_body}
use Rattle.pvs_sig.specs.References.{KindEach}
use Rattle.pvs_sig.specs.Signature.{Signature, Entry, Kind, TypeSig, ConstSig, VarSig, FormulaSig, kind_at, entry_kind}
use Rattle.pvs_sig.specs.Development.{Development, IsDevelopment, IsKindOver, IsBefore, IsSignatureOver, In, kind_of, seen_by, formals_seen}
use Rattle.pvs_sig.specs.Scope.{IsVisible, of_formal, of_own, of_import}
use Rattle.pvs_sig.proofs.ScopeLaws.{in_scope}
use Rattle.pvs_sig.proofs.RankLaws.{lookups_are_ordered}
use Rattle.pvs_names.specs.declared.kind.NameKind.{NameKind}
use Rattle.pvs_names.specs.declared.kind.NameKind.TheVariants.{TypeName, Constant, FormulaName}
use Rattle.pvs_names.specs.Members.{find}
use Rattle.pvs_names.specs.Resolve.{resolve, is_own, is_imported, is_outside, in_profile, resolve_plain, or_else, visible_members, any_formula}
use Rattle.pvs_names.proofs.FindLaws.{resolved_is}
use Rattle.pvs_types.specs.Outcome.{Accepted, Conditions}
use Rattle.pvs_types.specs.Typing.{check, well_formed}
use Rattle.pvs_elab.specs.Answer.{Answer}
use Rattle.pvs_elab.specs.Names.{TypedVariable, names_at, constant_kind, variable_kind}
use Rattle.pvs_elab.specs.Formula.{FreeVariable, binders_of}
use Rattle.pvs_elab.specs.Declaration.{CheckedEntry, ElaboratedDecl, declaration, decl_place, elab_decl}
use Rattle.pvs_elab.specs.Laws.{Holds}
use Rattle.pvs_elab.proofs.DeclarationLaws.{declared_is}
use Rattle.pvs_soundness.specs.Vocabulary.{Vocabulary, IsOver}
use Rattle.pvs_soundness.specs.Within.{is_own_below, entries_before}
use Rattle.pvs_soundness.specs.Local.{AgreesWith, IsClosedSet, EachAssumed}
use Rattle.pvs_soundness.specs.Mentioned.{EachName}
use Rattle.pvs_soundness.specs.Checked.{OwesNothing, IsFormedBy, IsCheckedBy, IsDefinedBy, plainly, under_parameter, AreFormedBy, IsKindBy}
use Rattle.pvs_soundness.specs.Read.{IsAcceptedSignature}
use Rattle.pvs_soundness.specs.Theory.{CheckedTheory, declared_name, with_entry, lookups_after, names_after, without_conditions, with_elaborated, with_declaration, with_declarations, empty_theory}
use Rattle.pvs_soundness.proofs.WellSortedLaws.{accepted_sorted}
use Rattle.pvs_soundness.proofs.LocalTyping.{answered_alike}
use Rattle.pvs_soundness.proofs.DeclaredLaws.{declaration_sound}
use Rattle.pvs_soundness.proofs.KindSound.{was_accepted}
use Rattle.pvs_soundness.proofs.StandingLaws.{kind_over, mentions_before, plain_stands, accepted_stands}
use Rattle.pvs_soundness.proofs.TheorySound.{Below, each_later, set_closed}

-- What typing accepted by some look-ups, it accepts by others that agree.
module _ (V : Vocabulary) (s u : Lookups) (ordered : IsOrdered s) (ordered' : IsOrdered u) (agree : AgreesWith V s u) (closed : IsClosedSet V s) where
  formed_alike : (a : Tree) → IsFormedBy V s [] a → IsFormedBy V u [] a
  formed_alike a h =
      let sorted = (was_accepted _ (well_formed s [] a) tt h.used h.accepted (accepted_sorted s [] a a).2).1 in
      record { each = h.each; used = h.used; accepted = sym (answered_alike V s u ordered ordered' agree closed [] tt a a sorted h.each h.each).well_formed ∙ h.accepted }

  checked_alike : (g : Assumptions) → EachAssumed V g → (t a : Tree) → IsCheckedBy V s g t a → IsCheckedBy V u g t a
  checked_alike g q t a h =
      let sorted = (was_accepted _ (check s g t a) tt h.used h.accepted (accepted_sorted s g t a).1).1 in
      record { each = h.each; type_each = h.type_each; used = h.used; accepted = sym (answered_alike V s u ordered ordered' agree closed g q t a sorted h.each h.type_each).check ∙ h.accepted }

  defined_alike : (t a : Tree) → IsDefinedBy V s t a → IsDefinedBy V u t a
  defined_alike t a (plainly h) = plainly (checked_alike [] tt t a h)
  defined_alike t a (under_parameter c b r ea et hc h) = under_parameter c b r ea et (formed_alike c hc) (checked_alike (Variable c ∷ []) (hc.each, tt) b r h)

  variables_alike : (bs : List FreeVariable) → AreFormedBy V s bs → AreFormedBy V u bs
  variables_alike [] h = tt
  variables_alike (b ∷ bs) h = (formed_alike b.ty h.0, variables_alike bs h.1)

  each_binder : (bs : List FreeVariable) → AreFormedBy V s bs → EachAssumed V (binders_of bs)
  each_binder [] h = tt
  each_binder (b ∷ bs) h = (h.0.each, each_binder bs h.1)

  kind_alike : (k : Kind) → IsKindBy V s k → IsKindBy V u k
  kind_alike (TypeSig b None) h = tt
  kind_alike (TypeSig b (Some a)) h = formed_alike a h
  kind_alike (ConstSig a None) h = formed_alike a h
  kind_alike (ConstSig a (Some t)) h = (formed_alike a h.0, defined_alike t a h.1)
  kind_alike (VarSig a) h = formed_alike a h
  kind_alike (FormulaSig c t o) h = record {
    variables = h.variables;
    open_tree = h.open_tree;
    formed = variables_alike h.variables h.formed;
    checked = checked_alike (binders_of h.variables) (each_binder h.variables h.formed) h.open_tree TBool h.checked;
    closed = h.closed;
  }

-- an item of a list with one more
last_item : {A : Type 0} (xs : List A) (e x : A) (k : ℕ) → slice_get (xs ++ e ∷ []) k ≡ Some x → (slice_get xs k ≡ Some x) ⊎ ((k ≡ length xs) × (e ≡ x))
last_item [] e x zero h = inr (refl, cc)
last_item [] e x (suc k) h = cc
last_item (y ∷ ys) e x zero h = inl h
last_item (y ∷ ys) e x (suc k) h = elim (last_item ys e x k h) [ inl a ↦ inl a | inr b ↦ inr (ap suc b.0, b.1) ]

earlier_item : {A : Type 0} (xs : List A) (e : A) (k : ℕ) → k < length xs → slice_get (xs ++ e ∷ []) k ≡ slice_get xs k
earlier_item [] e k l = absurd (omega (arith, l))
earlier_item (y ∷ ys) e zero l = refl
earlier_item (y ∷ ys) e (suc k) l = earlier_item ys e k (omega (arith, l))

is_item : {A : Type 0} (xs : List A) (x : A) (k : ℕ) → slice_get xs k ≡ Some x → k < length xs
is_item [] x k h = cc
is_item (y ∷ ys) x zero h = omega arith
is_item (y ∷ ys) x (suc k) h = let r = is_item ys x k h in omega (arith, r)

outside_never : (b : Bool) (r : Ref) → ◌≡◌ {A = Result Ref Code} (if b then Err OutOfProfile else Err Unknown) (Ok r) → ⊥
outside_never true r e = cc
outside_never false r e = cc

-- a name of the profile is found as it is
found_in_profile : (x : Text) (q : Result Ref Code) (r : Ref) → in_profile x q ≡ Ok r → q ≡ Ok r
found_in_profile x (Ok p) r e = e
found_in_profile x (Err Unknown) r e = absurd (outside_never (is_outside x) r e)
found_in_profile x (Err c) r e = e

no_formula : (kind : NameKind) → (kind ≡ FormulaName → ⊥) → {P : Type 0} → P ⊎ (kind ≡ FormulaName) → P
no_formula kind n (inl p) = p
no_formula kind n (inr e) = absurd (n e)

module _ (d : Development) (s : Signature) (plain : IsAcceptedSignature d s) where
  abbrev Size : ℕ
  Size = length s.entries

  -- a place at the end sees own entries alone
  seen_own : (r : Ref) → IsVisible d s Size r → Below Size r
  seen_own r (of_formal n l e) = absurd (no_formal n l)
    where
      no_kind : kind_at s Size ≡ None
      no_kind = ap (option_map entry_kind) (slice_get_past s.entries Size (omega arith))

      none_seen : formals_seen s Size ≡ 0
      none_seen = ap (seen_by (length s.formals)) no_kind ∙ ap length plain.formals

      no_formal : (n : ℕ) → n < formals_seen s Size → ⊥
      no_formal n l = let z = none_seen in omega (arith, l, z)
  seen_own r (of_own n l e) = subst (Below Size) (sym e) (lt-ltb n Size l)
  seen_own r (of_import x q h l k b e) = absurd (subst (In x) plain.imports h)

  name_below : (r : Ref) → Below Size r → IsOver (entries_before Size) (TName r)
  name_below (Own n) h = (h, tt)
  name_below (Formal n) h = cc
  name_below (Inst th n xs) h = cc

  constant_below : (r : Ref) → Below Size r → IsOver (entries_before Size) (Const r)
  constant_below (Own n) h = (h, tt)
  constant_below (Formal n) h = cc
  constant_below (Inst th n xs) h = cc

  resolved_below : (kind : NameKind) → (kind ≡ FormulaName → ⊥) → (x : Text) (r : Ref) → resolve d s Size kind None x ≡ Ok r → Below Size r
  resolved_below kind n x r e = seen_own r (in_scope d s Size r (no_formula kind n (resolved_is d s Size kind x r None e).0))

  plain_below : (kind : NameKind) → (kind ≡ FormulaName → ⊥) → (x : Text) (r : Ref) → resolve_plain d s Size kind x ≡ Ok r → Below Size r
  plain_below kind n x r e = resolved_below kind n x r (found_in_profile x (resolve d s Size kind None x) r e)

  types_below : (x : Text) (r : Ref) → (names_at d s Size).type_named x ≡ Ok r → IsOver (entries_before Size) (TName r)
  types_below x r e = name_below r (plain_below TypeName (λ h. cc) x r e)

  constant_is : (x : Text) (q r : Ref) (o : Option Kind) → constant_kind x q o ≡ Ok r → q ≡ r
  constant_is x q r (Some (VarSig t)) h = absurd (outside_never (is_outside x) r h)
  constant_is x q r (Some (TypeSig b t)) h = cc
  constant_is x q r (Some (ConstSig a t)) h = cc
  constant_is x q r (Some (FormulaSig c t o)) h = cc
  constant_is x q r None h = cc

  constant_of : (x : Text) (q : Result Ref Code) → resolve_plain d s Size Constant x ≡ q → (r : Ref) → (q >>= (λ p. constant_kind x p (kind_of d s p))) ≡ Ok r → Below Size r
  constant_of x (Err c) k r e = absurd (cc)
  constant_of x (Ok p) k r e = subst (Below Size) (constant_is x p r (kind_of d s p) e) (plain_below Constant (λ h. cc) x p k)

  constants_below : (x : Text) (r : Ref) → (names_at d s Size).constant_named x ≡ Ok r → IsOver (entries_before Size) (Const r)
  constants_below x r e = constant_below r (constant_of x (resolve_plain d s Size Constant x) refl r e)

  -- a VAR is an own entry, whose type was accepted
  formed_later : (k : ℕ) (t : Tree) → k < Size → IsFormedBy (entries_before k) (lookups_of d s) [] t → IsFormedBy (entries_before Size) (lookups_of d s) [] t
  formed_later k t l h = record { each = each_later k Size (omega (arith, l)) t h.each; used = h.used; accepted = h.accepted }

  variable_entry : (q : Ref) (t : Tree) → Below Size q → kind_of d s q ≡ Some (VarSig t) → IsFormedBy (entries_before Size) (lookups_of d s) [] t
  variable_entry (Own k) t p e = formed_later k t (ltb-true k Size p) (plain.entries k (VarSig t) e)
  variable_entry (Formal k) t p e = cc
  variable_entry (Inst th k xs) t p e = cc

  variable_is : (q : Ref) (o : Option Kind) (v : TypedVariable) → variable_kind q o ≡ Ok v → o ≡ Some (VarSig v.ty)
  variable_is q (Some (VarSig t)) v h = let same : record { reference = q; ty = t } ≡ v = cc in ap (λ (w : TypedVariable). Some (VarSig w.ty)) same
  variable_is q (Some (TypeSig b t)) v h = cc
  variable_is q (Some (ConstSig a t)) v h = cc
  variable_is q (Some (FormulaSig c t o)) v h = cc
  variable_is q None v h = cc

  own_found : (x : Text) (q : Ref) → find is_own Constant x (visible_members d s Size) ≡ Ok q → resolve d s Size Constant None x ≡ Ok q
  own_found x q e = ap (λ r. or_else (or_else r (find is_imported Constant x (visible_members d s Size))) (any_formula d s Constant x)) e

  variable_of : (x : Text) (q : Result Ref Code) → find is_own Constant x (visible_members d s Size) ≡ q → (v : TypedVariable) → (q >>= (λ r. variable_kind r (kind_of d s r))) ≡ Ok v → IsFormedBy (entries_before Size) (lookups_of d s) [] v.ty
  variable_of x (Err c) k v e = absurd (cc)
  variable_of x (Ok q) k v e = variable_entry q v.ty (resolved_below Constant (λ h. cc) x q (own_found x q k)) (variable_is q (kind_of d s q) v e)

  variables_formed : (x : Text) (v : TypedVariable) → (names_at d s Size).variable_named x ≡ Ok v → IsFormedBy (entries_before Size) (lookups_of d s) [] v.ty
  variables_formed x v e = variable_of x (find is_own Constant x (visible_members d s Size)) refl v e

  names_each : EachName (entries_before Size) (names_at d s Size)
  names_each = record { types = types_below; constants = constants_below; variables = λ x v e. (variables_formed x v e).each }

  -- with one more entry
  abbrev Grown : Entry → Signature
  Grown e = record s { entries = s.entries ++ e ∷ [] }

  kind_before : (e : Entry) (k : ℕ) → k < Size → kind_at (Grown e) k ≡ kind_at s k
  kind_before e k l = ap (option_map entry_kind) (earlier_item s.entries e k l)

  grown_agrees : (e : Entry) (k : ℕ) → k ≤ Size → AgreesWith (entries_before k) (lookups_of d s) (lookups_of d (Grown e))
  grown_agrees e k l = record {
    types = λ r h. by_own (λ o. constant_type o) r h;
    bodies = λ r h. by_own (λ o. type_body o) r h;
    names = λ r h. by_own (λ o. is_type_kind o) r h;
    nonempty = λ r h. by_own (λ o. is_nonempty_kind o) r h;
  }
    where
      by_own : {A : Type 0} (f : Option Kind → A) (r : Ref) → Below k r → f (kind_lookup d s r) ≡ f (kind_lookup d (Grown e) r)
      by_own f (Own j) h = let b = ltb-true j k h in ap f (sym (kind_before e j (omega (arith, b, l))))
      by_own f (Formal j) h = cc
      by_own f (Inst th j xs) h = cc

  -- what holds of each entry before, and of one more
  grown_entry : (Q : ℕ → Kind → Type 0) (e : Entry) → ((k : ℕ) (x : Kind) → k < Size → kind_at s k ≡ Some x → Q k x) → Q Size e.kind
      → (k : ℕ) (x : Kind) → kind_at (Grown e) k ≡ Some x → Q k x
  grown_entry Q e before last k x q = go (slice_get (s.entries ++ e ∷ []) k) refl q
    where
      at : (y : Entry) → entry_kind y ≡ x → (slice_get s.entries k ≡ Some y) ⊎ ((k ≡ Size) × (e ≡ y)) → Q k x
      at y same (inl a) = before k x (is_item s.entries y k a) (ap (option_map entry_kind) a ∙ ap Some same)
      at y same (inr b) = subst (λ j. Q j x) (sym b.0) (subst (Q Size) (ap entry_kind b.1 ∙ same) last)

      go : (o : Option Entry) → slice_get (s.entries ++ e ∷ []) k ≡ o → option_map entry_kind o ≡ Some x → Q k x
      go None k' r = cc
      go (Some y) k' r = let same : entry_kind y ≡ x = cc in at y same (last_item s.entries e y k k')

  module _ (e : Entry) (h : IsKindBy (entries_before Size) (lookups_of d s) e.kind) where
    stands_at : (k : ℕ) → k ≤ Size → (x : Kind) → IsKindBy (entries_before k) (lookups_of d s) x → IsKindOver d (Grown e) x × ((f : ℕ) → KindEach (IsBefore f k) x)
    stands_at k l x w =
        let same : (j : ℕ) → j < k → kind_at s j ≡ kind_at (Grown e) j = λ j b. sym (kind_before e j (omega (arith, b, l))) in
        (kind_over d s (Grown e) k same x w, λ f. mentions_before d s (Grown e) k same f x w)

    grown_stands : IsSignatureOver d (Grown e)
    grown_stands = plain_stands d (Grown e) plain.formals plain.imports
        (grown_entry (λ k x. IsKindOver d (Grown e) x × ((f : ℕ) → KindEach (IsBefore f k) x)) e
        (λ k x l q. stands_at k (omega (arith, l)) x (plain.entries k x q)) (stands_at Size (omega arith) e.kind h))

  module _ (development : IsDevelopment d) where
    ordered : IsOrdered (lookups_of d s)
    ordered = lookups_are_ordered d s development (accepted_stands d s plain)

    grown_plain : (e : Entry) → IsKindBy (entries_before Size) (lookups_of d s) e.kind → IsAcceptedSignature d (Grown e)
    grown_plain e h = record {
      formals = plain.formals;
      imports = plain.imports;
      entries = grown_entry (λ k x. IsKindBy (entries_before k) (lookups_of d (Grown e)) x) e
          (λ k x l q. alike k (omega (arith, l)) x (plain.entries k x q)) (alike Size (omega arith) e.kind h);
    }
      where
        alike : (j : ℕ) → j ≤ Size → (y : Kind) → IsKindBy (entries_before j) (lookups_of d s) y → IsKindBy (entries_before j) (lookups_of d (Grown e)) y
        alike j l y w = kind_alike (entries_before j) (lookups_of d s) (lookups_of d (Grown e)) ordered (lookups_are_ordered d (Grown e) development (grown_stands e h)) (grown_agrees e j l) (set_closed d s development plain j) y w

    holds_at : (text : Text) (x : Decl) (e : CheckedEntry) → declaration (lookups_of d s) (names_at d s Size) text x ≡ Ok e → OwesNothing e.typing → IsKindBy (entries_before Size) (lookups_of d s) e.kind
    holds_at text x e f c = (subst (Holds (λ (e : CheckedEntry). OwesNothing e.typing → IsKindBy (entries_before Size) (lookups_of d s) e.kind)) f
        (declaration_sound (is_own_below Size) (lookups_of d s) (names_at d s Size) ordered (set_closed d s development plain Size) names_each variables_formed text x)) c

module _ (d : Development) (development : IsDevelopment d) (text : Text) (t : CheckedTheory) (plain : IsAcceptedSignature d t.signature) (x : Decl) where
  -- the entry of a declaration that was elaborated without a condition
  entry_plain : (e : ElaboratedDecl) → elab_decl (lookups_after d t) (names_after d t) text x ≡ Ok e → e.conditions ≡ []
      → IsAcceptedSignature d (with_elaborated text x t e).signature
  entry_plain e h none =
      let i = declared_is (lookups_after d t) (names_after d t) text x e h in
      let clear : OwesNothing i.entered.typing = record { used = i.used; accepted = i.typing ∙ ap (λ cs. Accepted tt cs i.used) none } in
      let kind = holds_at d t.signature plain development text x i.entered i.found clear in
      subst (λ o. IsAcceptedSignature d (with_entry (declared_name text x) o t.signature)) (sym i.entry)
      (grown_plain d t.signature plain development (record { name = declared_name text x; kind = i.entered.kind }) kind)

  no_conditions : (e : ElaboratedDecl) (cs : Conditions) (u : CheckedTheory) → (without_conditions (decl_place x) e cs >>= (λ y. Ok (with_elaborated text x t y))) ≡ Ok u
      → (cs ≡ []) × (with_elaborated text x t e ≡ u)
  no_conditions e [] u h = (refl, cc)
  no_conditions e (c ∷ cs) u h = cc

  elaborated_plain : (r : Answer ElaboratedDecl) → elab_decl (lookups_after d t) (names_after d t) text x ≡ r → (u : CheckedTheory)
      → (r >>= (λ e. without_conditions (decl_place x) e e.conditions >>= (λ y. Ok (with_elaborated text x t y)))) ≡ Ok u → IsAcceptedSignature d u.signature
  elaborated_plain (Err f) k u h = cc
  elaborated_plain (Ok e) k u h =
      let z = no_conditions e e.conditions u h in
      subst (λ (w : CheckedTheory). IsAcceptedSignature d w.signature) z.1 (entry_plain e k z.0)

  pub declared_plain : (u : CheckedTheory) → with_declaration d text t x ≡ Ok u → IsAcceptedSignature d u.signature
  declared_plain u h = elaborated_plain (elab_decl (lookups_after d t) (names_after d t) text x) refl u h

-- a theory of which nothing is read
pub unread_plain : (d : Development) (name : Text) → IsAcceptedSignature d (empty_theory name).signature
unread_plain d name = record { formals = refl; imports = refl; entries = λ k x h. cc }

-- with all its declarations
pub all_plain : (d : Development) → IsDevelopment d → (text : Text) (t : CheckedTheory) → IsAcceptedSignature d t.signature → (xs : List Decl)
    → (u : CheckedTheory) → with_declarations d text t xs ≡ Ok u → IsAcceptedSignature d u.signature
all_plain d development text t plain [] u h = let z : t ≡ u = cc in subst (λ (w : CheckedTheory). IsAcceptedSignature d w.signature) z plain
all_plain d development text t plain (x ∷ xs) u h = go (with_declaration d text t x) refl (λ w p q. all_plain d development text w p xs u q) h
  where
    go : (r : Answer CheckedTheory) → with_declaration d text t x ≡ r → ((w : CheckedTheory) → IsAcceptedSignature d w.signature → with_declarations d text w xs ≡ Ok u → IsAcceptedSignature d u.signature)
        → (r >>= (λ w. with_declarations d text w xs)) ≡ Ok u → IsAcceptedSignature d u.signature
    go (Err f) k later q = cc
    go (Ok w) k later q = later w (declared_plain d development text t plain x w k) q
