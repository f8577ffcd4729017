-- Reading units looks at no token after the one where it stops.
use Rattle.std.proofs.Common.{◌≡◌, ◌∙◌, ℕ, zero, suc, ◌+◌, ◌-◌, ◌<◌, ◌≤◌, ◌⊎◌, inl, inr, Bool, true, false, if◌then◌else◌, List, [], ◌∷◌, ◌++◌, length, map, Option, Some, None, Ok, Err, refl, sym, ap, subst, length-append, arith}
use Rattle.std.specs.Prelude.{bytes_eq}
use Rattle.pvs_parser.specs.declared.failure.Reason.TheVariants as reason
use Rattle.pvs_parser.specs.declared.nesting.Nesting.{Nesting}
use Rattle.pvs_parser.specs.declared.terminal.Terminal.{Terminal}
use Rattle.pvs_parser.specs.declared.terminal.TerminalKind.{TerminalKind}
use Rattle.pvs_parser.specs.declared.terminal.TerminalKind.TheVariants as kind
use Rattle.pvs_syntax.specs.declared.word.Word.{Word}
use Rattle.pvs_syntax.specs.declared.expression.Binding.{Binding}
use Rattle.pvs_syntax.specs.declared.expression.InstExpr.{InstExpr}
use Rattle.pvs_syntax.specs.declared.expression.TypeExpr.{TypeExpr}
use Rattle.pvs_syntax.specs.declared.unit.Decl.{Decl}
use Rattle.pvs_syntax.specs.declared.unit.Decl.TheVariants as decl
use Rattle.pvs_syntax.specs.declared.unit.Formal.{Formal}
use Rattle.pvs_syntax.specs.declared.unit.FormulaWord.{FormulaWord}
use Rattle.pvs_syntax.specs.declared.unit.FormulaWord.TheVariants as formula_word
use Rattle.pvs_syntax.specs.declared.unit.Item.{Item}
use Rattle.pvs_syntax.specs.declared.unit.Item.TheVariants as item
use Rattle.pvs_syntax.specs.declared.unit.Unit as tree
use Rattle.pvs_parser.specs.Terminals.{IsId, is_id, same_kind}
use Rattle.pvs_parser.specs.Language.{Tokens, Limit, Item as ListItem, instance, without_marks, outermost, in_frame}
use Rattle.pvs_parser.specs.Units.{DerivesDecl, DerivesAssumed, type_formal, const_formal, type_decl, var_decl, const_decl, formula_of}
use Rattle.pvs_syntax.specs.Words.{spelling}
use Rattle.pvs_parser.specs.code.Descent.{Answer, Read, either, stop, too_many, too_deep, after, expect, id, is_below, end_of_list, list_from, entries}
use Rattle.pvs_base.specs.Answers.{◌>>=◌}
use Rattle.pvs_parser.specs.code.UnitDescent.{expr, type, name, ids, actuals, inst, instances_from, importing, plus, formal_of, formal_after, formal, formals_from, formals, formal_part, variables, body, constant, function, constants, type_definition, type_decls, types, formula, formulas, formulas_or_constants, decls_of_kind, decls_after_colon, declaration_of_names, declaration_from_id, declaration, assuming_decls_of_kind, assuming_decls_after_colon, assuming_decl, comes_kind, comes_decl, past_semicolon, many_from, declarations, assumptions, assuming_part, heading, same_name, ending, theory, closing_parenthesis_of, closing_parenthesis, script, target, proof, one_item, items_from, unit}
use Rattle.pvs_parser.proofs.Yields.{Yields}
use Rattle.pvs_parser.proofs.Deeper.{Fore}
use Rattle.pvs_parser.proofs.Decls.{declaration_sound, assumed_sound}
use Rattle.pvs_parser.proofs.DeclsRead.{decl_comes, assumed_comes}
use Rattle.pvs_parser.proofs.WholeUnits.{IsItem, item_sound, item_some}
use Rattle.pvs_parser.proofs.Cuts.{Cut, Mode, Meets, Took, Later, later_trans, Low, Shape, two, three, Goes, Shrinks, Agrees, Rooms, beyond, bind_later, bind_past, after_later, after_past, done_two, done_three, weaken, raise, deep, heads, stops, pick, expect_then, id_then, room_then, length_cut}
use Rattle.pvs_parser.proofs.Locality.{Paired, Lists, Items, crowded_past, list_past, list_goes, raise_to, start_enough, id_stops, crowded_goes, whole_expr, whole_type, whole_framed, HasSpace, fits_less, fits_later, Turns, turns_less, no_turn}

-- a function of tokens that follows another one
abbrev pub Follows : {X : Type 0} → Cut → Shape X → (Tokens → Answer X) → (Tokens → Answer X) → Type 0
Follows cut s f g = (mode : Mode) (m : ℕ) (ts us : Tokens) → Meets cut mode m ts us → Goes cut s mode m (f ts) (g us)

-- the same of one that is called where a token was taken
abbrev pub FollowsTook : {X : Type 0} → Cut → Shape X → (Tokens → Answer X) → (Tokens → Answer X) → Type 0
FollowsTook cut s f g = (mode : Mode) (m : ℕ) (ts us : Tokens) → Took cut mode m ts us → Goes cut s mode m (f ts) (g us)

low_self : (mode : Mode) (m : ℕ) → Low mode m (m + 1)
low_self Mode.Past m = tt
low_self Mode.Before m = omega arith

expect_of : {Y : Type 0} (cut : Cut) (u : Shape Y) (k : TerminalKind) (f g : Tokens → Answer Y) → FollowsTook cut u f g → Follows cut u (λ ts. expect k ts >>= f) (λ us. expect k us >>= g)
expect_of cut u k f g h mode m ts us meets = expect_then cut u mode m m (low_self mode m) k f g ts us meets (λ a la vs ws took. h a (m - 1) vs ws took)

id_of : {Y : Type 0} (cut : Cut) (u : Shape Y) (f g : Word × Tokens → Answer Y) → ((w : Word) → FollowsTook cut u (λ ts. f (w, ts)) (λ us. g (w, us))) → Follows cut u (λ ts. id ts >>= f) (λ us. id us >>= g)
id_of cut u f g h mode m ts us meets = id_then cut u mode m m (low_self mode m) f g ts us meets (λ a la w vs ws took. h w a (m - 1) vs ws took)

after_of : {Y : Type 0} (cut : Cut) (u : Shape Y) (k : TerminalKind) (f g d c : Tokens → Answer Y) → FollowsTook cut u f g → Follows cut u d c → Follows cut u (λ ts. either (after k ts) f (d ts)) (λ us. either (after k us) g (c us))
after_of cut u k f g d c h j mode m ts us meets = after_later cut u mode m k f g d c ts us meets (λ a la less vs ws took. h a (m - 1) vs ws took) (λ a la vs ws i. j a m vs ws i)

bind_of : {X Y : Type 0} (cut : Cut) (s : Shape X) (u : Shape Y) (o p : Tokens → Answer X) (f g : X → Answer Y) → Follows cut s o p
    → ((x : X) (mode : Mode) (m : ℕ) (us : Tokens) → Meets cut mode m (s.rest x) us → Goes cut u mode m (f x) (g (s.put x us))) → Follows cut u (λ ts. o ts >>= f) (λ us. p us >>= g)
bind_of cut s u o p f g h k mode m ts us meets = bind_later cut s u mode m (o ts) (p us) f g (h mode m ts us meets) (λ x a la ws i. k x a m ws i)

bind_took : {X Y : Type 0} (cut : Cut) (s : Shape X) (u : Shape Y) (o p : Tokens → Answer X) (f g : X → Answer Y) → FollowsTook cut s o p
    → ((x : X) (mode : Mode) (m : ℕ) (us : Tokens) → Meets cut mode m (s.rest x) us → Goes cut u mode m (f x) (g (s.put x us))) → FollowsTook cut u (λ ts. o ts >>= f) (λ us. p us >>= g)
bind_took cut s u o p f g h k mode m ts us took = bind_later cut s u mode m (o ts) (p us) f g (h mode m ts us took) (λ x a la ws i. k x a m ws i)

took : {X : Type 0} (cut : Cut) (s : Shape X) (f g : Tokens → Answer X) → Follows cut s f g → FollowsTook cut s f g
took cut s f g h mode m ts us t = h mode m ts us (weaken cut mode m ts us t)

-- ---- whole expressions and types

expr_goes : (cut : Cut) (a b : Limit) → Paired cut a b → Follows cut two (expr a) (expr b)
expr_goes cut a b p = bind_of cut three two _ _ _ _ (whole_expr cut a b p outermost) (λ x mode m us i. done_two cut mode m x.0 x.2 us i)

type_goes : (cut : Cut) (a b : Limit) → Paired cut a b → (l : Nesting) → Follows cut two (type a l) (type b l)
type_goes cut a b p l = bind_of cut three two _ _ _ _ (whole_type cut a b p l) (λ x mode m us i. done_two cut mode m x.0 x.2 us i)

-- ---- names and instances

name_goes : (cut : Cut) (l : Nesting) → Follows cut three (name l) (name l)
name_goes cut l = id_of cut three _ _ (λ w mode m ts us t. done_three cut mode m w l ts us (weaken cut mode m ts us t))

names : (cut : Cut) → Items cut 0 is_id name name
names cut = record { reading = λ l mode m low ts us h. name_goes cut l mode m ts us h; rejects = λ l t ts is. id_stops t ts _ is }

ids_list : (cut : Cut) (a b : Limit) → Paired cut a b → Follows cut three (λ ts. list_from is_id name (entries a ts) [] outermost ts) (λ us. list_from is_id name (entries b us) [] outermost us)
ids_list cut a b p Mode.Past m ts us h = list_past cut 0 is_id name name (names cut) (entries a ts) [] outermost ts h
ids_list cut a b p Mode.Before m ts us (q, e, e2, le) =
    subst (λ z. Agrees cut three m (list_from is_id name (entries a ts) [] outermost ts) (list_from is_id name (entries b z) [] outermost z)) (sym e2) (raise_to cut three (length q) m le _ _
    (list_goes cut (length q + 1) is_id name name (more_names cut (length q + 1)) (entries a ts) (entries b (q ++ cut.there)) Mode.Before (length q) (omega arith)
    (start_enough cut a b p.lists ts q) [] outermost ts (q ++ cut.there) (q, e, refl, omega arith))) where
      more_names : (cut : Cut) (n : ℕ) → Items cut n is_id name name
      more_names cut n = record { reading = λ l mode m low ts us h. name_goes cut l mode m ts us h; rejects = λ l t ts is. id_stops t ts _ is }

ids_goes : (cut : Cut) (a b : Limit) → Paired cut a b → Follows cut two (ids a) (ids b)
ids_goes cut a b p = bind_of cut three two _ _ _ _ (ids_list cut a b p) (λ x mode m us i. done_two cut mode m x.0 x.2 us i)

actuals_goes : (cut : Cut) (a b : Limit) → Paired cut a b → FollowsTook cut two (actuals a) (actuals b)
actuals_goes cut a b p = whole_framed cut a b p ListItem.Parameter kind.CloseBracket outermost

inst_goes : (cut : Cut) (a b : Limit) → Paired cut a b → Follows cut two (inst a) (inst b)
inst_goes cut a b p =
    id_of cut two _ _ (λ w. took cut two _ _ (after_of cut two kind.OpenBracket _ _ (λ z. Ok (instance w [], z)) (λ z. Ok (instance w [], z))
    (bind_took cut two two _ _ _ _ (actuals_goes cut a b p) (λ x mode m us i. done_two cut mode m (instance w x.0) x.1 us i))
    (λ mode m ts us i. done_two cut mode m (instance w []) ts us i)))

instances_past : (cut : Cut) (a b : Limit) → Paired cut a b → (k : ℕ) (found : List InstExpr) (ts : Tokens) → length ts ≤ length cut.here → Shrinks cut two (instances_from a k found ts)
unfolding instances_from
instances_past cut a b p zero found ts h = h
instances_past cut a b p (suc k) found ts h =
    bind_past cut two two (inst a ts) _ (inst_goes cut a b p Mode.Past 0 ts ts h) (λ x hx.
    after_past cut two kind.Comma _ (λ z. Ok (found ++ x.0 ∷ [], z)) x.1 hx (λ vs lt. instances_past cut a b p k (found ++ x.0 ∷ []) vs (omega (arith, lt))) (λ vs le. le))

instances_goes : (cut : Cut) (a b : Limit) → Paired cut a b → (k j : ℕ) (mode : Mode) (m : ℕ) → Turns cut mode k j m → (found : List InstExpr) (ts us : Tokens) → Meets cut mode m ts us → Goes cut two mode m (instances_from a k found ts) (instances_from b j found us)
unfolding instances_from
instances_goes cut a b p k j Mode.Past m t found ts us h = instances_past cut a b p k found ts h
instances_goes cut a b p zero j Mode.Before m t found ts us (q, e, e2, le) = inl (no_turn cut m cut.here ts q e le t.0)
instances_goes cut a b p (suc k) zero Mode.Before m t found ts us (q, e, e2, le) = beyond cut two m _ _ (instances_past cut a b p (suc k) found ts (no_turn cut m cut.there ts q e le t.1))
instances_goes cut a b p (suc k) (suc j) Mode.Before m t found ts us h =
    bind_later cut two two Mode.Before m (inst a ts) (inst b us) _ _ (inst_goes cut a b p Mode.Before m ts us h) (λ x c lc ws i.
    after_later cut two c m kind.Comma _ _ (λ z. Ok (found ++ x.0 ∷ [], z)) (λ z. Ok (found ++ x.0 ∷ [], z)) x.1 ws i
    (λ d ld less xs ys took. instances_goes cut a b p k j d (m - 1) (turns_less cut Mode.Before d k j m (later_trans Mode.Before c d lc ld) less t) (found ++ x.0 ∷ []) xs ys (weaken cut d (m - 1) xs ys took))
    (λ d ld xs ys i2. done_two cut d m (found ++ x.0 ∷ []) xs ys i2))

-- a function with turns for all its tokens, and one more
turned : {X : Type 0} (cut : Cut) (s : Shape X) (more : ℕ) (f g : ℕ → Tokens → Answer X) → ((k j : ℕ) (mode : Mode) (m : ℕ) → Turns cut mode k j m → (ts us : Tokens) → Meets cut mode m ts us → Goes cut s mode m (f k ts) (g j us))
    → Follows cut s (λ ts. f (length ts + more) ts) (λ us. g (length us + more) us)
turned cut s more f g h Mode.Past m ts us meets = h (length ts + more) (length us + more) Mode.Past m (tt, tt) ts us meets
turned cut s more f g h Mode.Before m ts us (q, e, e2, le) =
    raise_to cut s (length q) m le _ _ (h (length ts + more) (length us + more) Mode.Before (length q)
    (omega (arith, ap length e, length_cut q cut.here), omega (arith, ap length e2, length_cut q cut.there)) ts us (q, e, e2, omega arith))

importing_goes : (cut : Cut) (a b : Limit) → Paired cut a b → Follows cut two (importing a) (importing b)
importing_goes cut a b p = bind_of cut two two _ _ _ _ (turned cut two 1 (λ k ts. instances_from a k [] ts) (λ k ts. instances_from b k [] ts) (λ k j mode m t ts us h. instances_goes cut a b p k j mode m t [] ts us h))
    (λ x mode m us i. done_two cut mode m (map decl.Importing x.0) x.1 us i)

-- ---- formal parameters

-- what TYPE and + make
plus_goes : {X : Type 0} (cut : Cut) (h : Bool → X) → Follows cut two (λ ts. Ok (h (plus ts).0, (plus ts).1)) (λ us. Ok (h (plus us).0, (plus us).1))
plus_goes cut h mode m ts us meets =
    heads cut two mode m (λ z. Ok (h (plus z).0, (plus z).1)) (λ z. Ok (h (plus z).0, (plus z).1)) ts us meets (omega arith) (λ a la t vs ws i took less. one a t vs ws i took (same_kind t.kind kind.Plus)) where
      of : Terminal → Tokens → Bool → Bool × Tokens
      of t vs b = either (if b then Some vs else None) (λ us. (true, us)) (false, t ∷ vs)

      one : (a : Mode) (t : Terminal) (vs ws : Tokens) → Meets cut a m (t ∷ vs) (t ∷ ws) → Took cut a (m - 1) vs ws → (b : Bool) → Goes cut two a m (Ok (h (of t vs b).0, (of t vs b).1)) (Ok (h (of t ws b).0, (of t ws b).1))
      one a t vs ws i took true = raise cut two a m _ _ (done_two cut a (m - 1) (h true) vs ws (weaken cut a (m - 1) vs ws took))
      one a t vs ws i took false = done_two cut a m (h false) (t ∷ vs) (t ∷ ws) i

-- a function of the first token, and of those after it
abbrev Firsts : {X : Type 0} → Cut → Shape X → (Terminal → Tokens → Answer X) → (Terminal → Tokens → Answer X) → Type 0
Firsts cut s f g = (t : Terminal) (mode : Mode) (m : ℕ) (vs ws : Tokens) → Meets cut mode m (t ∷ vs) (t ∷ ws) → Took cut mode (m - 1) vs ws → Goes cut s mode m (f t vs) (g t ws)

types_first : {X : Type 0} (cut : Cut) (a b : Limit) → Paired cut a b → (l : Nesting) (h : TypeExpr → X) → Firsts cut two (λ t ts. type a l (t ∷ ts) >>= λ p. Ok (h p.0, p.1)) (λ t ts. type b l (t ∷ ts) >>= λ p. Ok (h p.0, p.1))
types_first cut a b p l h t mode m vs ws i took = bind_of cut two two (type a l) (type b l) _ _ (type_goes cut a b p l) (λ x mode m us i. done_two cut mode m (h x.0) x.1 us i) mode m (t ∷ vs) (t ∷ ws) i

taken_first : {X : Type 0} (cut : Cut) (s : Shape X) (f g : Tokens → Answer X) → Follows cut s f g → Firsts cut s (λ t ts. f ts) (λ t ts. g ts)
taken_first cut s f g h t mode m vs ws i took = raise cut s mode m _ _ (h mode (m - 1) vs ws (weaken cut mode (m - 1) vs ws took))

stop_first : {X : Type 0} (cut : Cut) (s : Shape X) → Firsts cut s (λ t ts. stop (t ∷ ts)) (λ t ts. stop (t ∷ ts))
stop_first cut s t mode m vs ws i took = stops cut s mode m (t ∷ vs) (t ∷ ws) i

formal_of_goes : (cut : Cut) (a b : Limit) → Paired cut a b → (xs : List Word) (k : TerminalKind) → Firsts cut two (λ t ts. formal_of a xs t ts k) (λ t ts. formal_of b xs t ts k)
formal_of_goes cut a b p xs kind.Type = taken_first cut two _ _ (plus_goes cut (λ z. map (type_formal z) xs))
formal_of_goes cut a b p xs kind.NonemptyType = taken_first cut two _ _ (λ mode m ts us i. done_two cut mode m (map (type_formal true) xs) ts us i)
formal_of_goes cut a b p xs _ = types_first cut a b p (in_frame outermost) (λ c. map (const_formal c) xs)

formal_after_goes : (cut : Cut) (a b : Limit) → Paired cut a b → (xs : List Word) → Follows cut two (formal_after a xs) (formal_after b xs)
formal_after_goes cut a b p xs mode m ts us h =
    heads cut two mode m (λ z. formal_after a xs z) (λ z. formal_after b xs z) ts us h (omega arith) (λ c lc t vs ws i took less. formal_of_goes cut a b p xs t.kind t c m vs ws i took)

formal_goes : (cut : Cut) (a b : Limit) → Paired cut a b → Follows cut two (formal a) (formal b)
formal_goes cut a b p = bind_of cut two two _ _ _ _ (ids_goes cut a b p) (λ x mode m us i. expect_of cut two kind.Colon _ _ (took cut two _ _ (formal_after_goes cut a b p x.0)) mode m x.1 us i)

-- an identifier or not, as a test says
abbrev id_test : Terminal → Tokens → Bool → Answer (Word × Tokens)
id_test t ts c = if c then Ok (t.word, ts) else stop (t ∷ ts)

abbrev name_test : Terminal → Tokens → Bool → Read Word
name_test t ts c = id_test t ts c >>= λ p. Ok (p.0, outermost, p.1)

-- names after such a test
abbrev names_test : ℕ → Terminal → Tokens → Bool → Read (List Word)
names_test k t ts c = name_test t ts c >>= λ p. either (after kind.Comma p.2) (λ us. list_from is_id name k (p.0 ∷ []) (without_marks p.1) us) (Ok (p.0 ∷ [], p.1, p.2))

-- the names, without the nesting
abbrev names_of : Read (List Word) → Answer (List Word × Tokens)
names_of o = o >>= λ p. Ok (p.0, p.2)

formals_past : (cut : Cut) (a b : Limit) → Paired cut a b → (k : ℕ) (found : List Formal) (ts : Tokens) → length ts ≤ length cut.here → Shrinks cut two (formals_from a k found ts)
unfolding formals_from
formals_past cut a b p zero found ts h = crowded_past cut two is_id ts h
formals_past cut a b p (suc k) found ts h =
    bind_past cut two two (formal a ts) _ (formal_goes cut a b p Mode.Past 0 ts ts h) (λ x hx.
    after_past cut two kind.Comma _ (λ z. Ok (found ++ x.0, z)) x.1 hx (λ vs lt. formals_past cut a b p k (found ++ x.0) vs (omega (arith, lt))) (λ vs le. le))

formal_rejects : (b : Limit) (t : Terminal) (ts : Tokens) → is_id t.kind ≡ false → 1 ≤ entries b (t ∷ ts) → formal b (t ∷ ts) ≡ stop (t ∷ ts)
unfolding list_from
formal_rejects b t ts is le = first (entries b (t ∷ ts)) le where
  rest : Read (List Word) → Answer (List Formal × Tokens)
  rest o = names_of o >>= λ p. expect kind.Colon p.1 >>= λ us. formal_after b p.0 us

  first : (k : ℕ) → 1 ≤ k → rest (list_from is_id name k [] outermost (t ∷ ts)) ≡ stop (t ∷ ts)
  first zero le = absurd (omega (arith, le))
  first (suc k) le = ap (λ c. rest (names_test k t ts c)) is

formals_excused : (cut : Cut) (b : Limit) → b ≡ None → cut.excused reason.TooNested ≡ true → (j : ℕ) (found : List Formal) → Follows cut two (end_of_list is_id) (formals_from b (suc j) found)
unfolding formals_from
formals_excused cut b none ex j found mode m ts us h =
    heads cut two mode m (λ z. end_of_list is_id z) (λ z. formals_from b (suc j) found z) ts us h (omega arith) (λ a la t vs ws i took less. one a t vs ws i (is_id t.kind) refl) where
      some : (t : Terminal) (ws : Tokens) → 1 ≤ entries b (t ∷ ws)
      some t ws = subst (λ z. 1 ≤ entries z (t ∷ ws)) (sym none) (omega arith)

      excuse : (a : Mode) (t : Terminal) (vs ws : Tokens) (o : Answer (List Formal × Tokens)) → Meets cut a m (t ∷ vs) (t ∷ ws) → Goes cut two a m (too_many (t ∷ vs)) o
      excuse Mode.Past t vs ws o i = i
      excuse Mode.Before t vs ws o i = inr (inl ex)

      one : (a : Mode) (t : Terminal) (vs ws : Tokens) → Meets cut a m (t ∷ vs) (t ∷ ws) → (c : Bool) → is_id t.kind ≡ c
          → Goes cut two a m (if c then too_many (t ∷ vs) else stop (t ∷ vs)) (formal b (t ∷ ws) >>= λ p. either (after kind.Comma p.1) (λ us. formals_from b j (found ++ p.0) us) (Ok (found ++ p.0, p.1)))
      one a t vs ws i true is = excuse a t vs ws _ i
      one a t vs ws i false is =
          subst (λ z. Goes cut two a m (stop (t ∷ vs)) (z >>= λ p. either (after kind.Comma p.1) (λ us. formals_from b j (found ++ p.0) us) (Ok (found ++ p.0, p.1)))) (sym (formal_rejects b t ws is (some t ws)))
          (stops cut two a m (t ∷ vs) (t ∷ ws) i)

-- the entries that two readings may have, where the second one has no limit if they are not as many
abbrev Room : Cut → Limit → Mode → ℕ → ℕ → ℕ → Type 0
Room cut b mode k j m = (k ≡ j) ⊎ ((b ≡ None) × (cut.excused reason.TooNested ≡ true) × HasSpace mode cut.there m j)

room_less : (cut : Cut) (b : Limit) (mode later : Mode) (k j m : ℕ) → Later mode later → Low later (m - 1) m → Room cut b mode (suc k) (suc j) m → Room cut b later k j (m - 1)
room_less cut b mode later k j m l h (inl e) = inl (omega (arith, e))
room_less cut b mode later k j m l h (inr e) = inr (e.0, e.1, fits_less later cut.there m j h (fits_later mode later cut.there m (suc j) l e.2))

formals_loop : (cut : Cut) (a b : Limit) → Paired cut a b → (k j : ℕ) (mode : Mode) (m : ℕ) → Room cut b mode k j m → (found : List Formal) (ts us : Tokens) → Meets cut mode m ts us → Goes cut two mode m (formals_from a k found ts) (formals_from b j found us)
unfolding formals_from
formals_loop cut a b p zero zero mode m r found ts us h = crowded_goes cut two is_id mode m ts us h
formals_loop cut a b p zero (suc j) mode m (inl e) found ts us h = absurd (omega (arith, e))
formals_loop cut a b p zero (suc j) mode m (inr e) found ts us h = formals_excused cut b e.0 e.1 j found mode m ts us h
formals_loop cut a b p (suc k) zero mode m (inl e) found ts us h = absurd (omega (arith, e))
formals_loop cut a b p (suc k) zero Mode.Past m (inr e) found ts us h = formals_past cut a b p (suc k) found ts h
formals_loop cut a b p (suc k) zero Mode.Before m (inr e) found ts us (q, e2, e3, le) = beyond cut two m _ _ (formals_past cut a b p (suc k) found ts (no_turn cut m cut.there ts q e2 le e.2))
formals_loop cut a b p (suc k) (suc j) mode m r found ts us h =
    bind_later cut two two mode m (formal a ts) (formal b us) _ _ (formal_goes cut a b p mode m ts us h) (λ x c lc ws i.
    after_later cut two c m kind.Comma _ _ (λ z. Ok (found ++ x.0, z)) (λ z. Ok (found ++ x.0, z)) x.1 ws i
    (λ d ld less xs ys t. formals_loop cut a b p k j d (m - 1) (room_less cut b mode d k j m (later_trans mode c d lc ld) less r) (found ++ x.0) xs ys (weaken cut d (m - 1) xs ys t))
    (λ d ld xs ys i2. done_two cut d m (found ++ x.0) xs ys i2))

start_room : (cut : Cut) (a b : Limit) → Lists cut a b → (ts q : Tokens) → Room cut b Mode.Before (entries a ts) (entries b (q ++ cut.there)) (length q)
start_room cut a b (k, e, inl f) ts q = inl (ap (λ z. entries z ts) e ∙ sym (ap (λ z. entries z (q ++ cut.there)) f))
start_room cut a b (k, e, inr f) ts q = inr (f.0, f.1, subst (λ z. length q + length cut.there ≤ z) (sym (length_cut q cut.there) ∙ sym (ap (λ z. entries z (q ++ cut.there)) f.0)) (omega arith))

formals_list : (cut : Cut) (a b : Limit) → Paired cut a b → Follows cut two (λ ts. formals_from a (entries a ts) [] ts) (λ us. formals_from b (entries b us) [] us)
formals_list cut a b p Mode.Past m ts us h = formals_past cut a b p (entries a ts) [] ts h
formals_list cut a b p Mode.Before m ts us (q, e, e2, le) =
    subst (λ z. Agrees cut two m (formals_from a (entries a ts) [] ts) (formals_from b (entries b z) [] z)) (sym e2) (raise_to cut two (length q) m le _ _
    (formals_loop cut a b p (entries a ts) (entries b (q ++ cut.there)) Mode.Before (length q) (start_room cut a b p.lists ts q) [] ts (q ++ cut.there) (q, e, refl, omega arith)))

formals_goes : (cut : Cut) (a b : Limit) → Paired cut a b → FollowsTook cut two (formals a) (formals b)
formals_goes cut a b p mode m ts us h =
    room_then cut two mode m a b p.rooms outermost (in_frame outermost) _ _ ts us h
    (bind_of cut two two _ _ _ _ (formals_list cut a b p) (λ x mode m us i. expect_of cut two kind.CloseBracket _ _ (λ mode m vs ws t. done_two cut mode m x.0 vs ws (weaken cut mode m vs ws t)) mode m x.1 us i) mode m ts us (weaken cut mode m ts us h))

formal_part_goes : (cut : Cut) (a b : Limit) → Paired cut a b → Follows cut two (formal_part a) (formal_part b)
formal_part_goes cut a b p = after_of cut two kind.OpenBracket _ _ (λ z. Ok ([], z)) (λ z. Ok ([], z)) (formals_goes cut a b p) (λ mode m ts us i. done_two cut mode m [] ts us i)

-- ---- declarations

variables_goes : (cut : Cut) (a b : Limit) → Paired cut a b → (xs : List Word) → Follows cut two (variables a xs) (variables b xs)
variables_goes cut a b p xs = bind_of cut two two _ _ _ _ (type_goes cut a b p outermost) (λ x mode m us i. done_two cut mode m (map (var_decl x.0) xs) x.1 us i)

body_goes : (cut : Cut) (a b : Limit) → Paired cut a b → Follows cut two (body a) (body b)
body_goes cut a b p = after_of cut two kind.Equal _ _ (λ z. Ok (None, z)) (λ z. Ok (None, z))
    (took cut two _ _ (bind_of cut two two _ _ _ _ (expr_goes cut a b p) (λ x mode m us i. done_two cut mode m (Some x.0) x.1 us i))) (λ mode m ts us i. done_two cut mode m None ts us i)

constant_goes : (cut : Cut) (a b : Limit) → Paired cut a b → (w : Word) (bs : List Binding) → Follows cut two (constant a w bs) (constant b w bs)
constant_goes cut a b p w bs = bind_of cut two two _ _ _ _ (type_goes cut a b p outermost) (λ x mode m us i.
    bind_of cut two two _ _ _ _ (body_goes cut a b p) (λ y mode m vs j. done_two cut mode m (decl.ConstDecl w bs x.0 y.0 ∷ []) y.1 vs j) mode m x.1 us i)

function_goes : (cut : Cut) (a b : Limit) → Paired cut a b → (w : Word) → FollowsTook cut two (function a w) (function b w)
function_goes cut a b p w = bind_took cut two two _ _ _ _ (whole_framed cut a b p ListItem.Variable kind.Close outermost) (λ x mode m us i.
    expect_of cut two kind.Colon _ _ (took cut two _ _ (constant_goes cut a b p w x.0)) mode m x.1 us i)

consts_goes : (cut : Cut) (a b : Limit) → Paired cut a b → (xs : List Word) → Follows cut two (λ ts. type a outermost ts >>= λ p. Ok (map (const_decl p.0) xs, p.1)) (λ ts. type b outermost ts >>= λ p. Ok (map (const_decl p.0) xs, p.1))
consts_goes cut a b p xs = bind_of cut two two _ _ _ _ (type_goes cut a b p outermost) (λ x mode m us i. done_two cut mode m (map (const_decl x.0) xs) x.1 us i)

constants_goes : (cut : Cut) (a b : Limit) → Paired cut a b → (xs : List Word) → Follows cut two (constants a xs) (constants b xs)
constants_goes cut a b p [] = consts_goes cut a b p []
constants_goes cut a b p (w ∷ []) = constant_goes cut a b p w []
constants_goes cut a b p (w ∷ v ∷ xs) = consts_goes cut a b p (w ∷ v ∷ xs)

type_definition_goes : (cut : Cut) (a b : Limit) → Paired cut a b → (w : Word) → Follows cut two (type_definition a w) (type_definition b w)
type_definition_goes cut a b p w = bind_of cut two two _ _ _ _ (type_goes cut a b p outermost) (λ x mode m us i. done_two cut mode m (decl.TypeDef w x.0 ∷ []) x.1 us i)

type_decls_goes : (cut : Cut) (xs : List Word) → Follows cut two (type_decls xs) (type_decls xs)
type_decls_goes cut xs = plus_goes cut (λ z. map (type_decl z) xs)

types_goes : (cut : Cut) (a b : Limit) → Paired cut a b → (xs : List Word) → Follows cut two (types a xs) (types b xs)
types_goes cut a b p [] = type_decls_goes cut []
types_goes cut a b p (w ∷ []) = after_of cut two kind.Equal _ _ (λ z. type_decls (w ∷ []) z) (λ z. type_decls (w ∷ []) z) (took cut two _ _ (type_definition_goes cut a b p w)) (type_decls_goes cut (w ∷ []))
types_goes cut a b p (w ∷ v ∷ xs) = type_decls_goes cut (w ∷ v ∷ xs)

formula_goes : (cut : Cut) (a b : Limit) → Paired cut a b → (w : Word) (f : FormulaWord) → Follows cut two (formula a w f) (formula b w f)
formula_goes cut a b p w f = bind_of cut two two _ _ _ _ (expr_goes cut a b p) (λ x mode m us i. done_two cut mode m (decl.Formula w f x.0 ∷ []) x.1 us i)

formulas_goes : (cut : Cut) (a b : Limit) → Paired cut a b → (xs : List Word) (f : FormulaWord) → Firsts cut two (λ t ts. formulas a xs f (t ∷ ts) ts) (λ t ts. formulas b xs f (t ∷ ts) ts)
formulas_goes cut a b p [] f = stop_first cut two
formulas_goes cut a b p (w ∷ []) f = taken_first cut two _ _ (formula_goes cut a b p w f)
formulas_goes cut a b p (w ∷ v ∷ xs) f = stop_first cut two

stated_goes : (cut : Cut) (a b : Limit) → Paired cut a b → (xs : List Word) (o : Option FormulaWord) → Firsts cut two (λ t ts. formulas_or_constants a xs t ts o) (λ t ts. formulas_or_constants b xs t ts o)
stated_goes cut a b p xs (Some f) = formulas_goes cut a b p xs f
stated_goes cut a b p xs None = λ t mode m vs ws i taken. constants_goes cut a b p xs mode m (t ∷ vs) (t ∷ ws) i

declared_of_goes : (cut : Cut) (a b : Limit) → Paired cut a b → (xs : List Word) (k : TerminalKind) → Firsts cut two (λ t ts. decls_of_kind a xs t ts k) (λ t ts. decls_of_kind b xs t ts k)
declared_of_goes cut a b p xs kind.Type = taken_first cut two _ _ (types_goes cut a b p xs)
declared_of_goes cut a b p xs kind.NonemptyType = taken_first cut two _ _ (λ mode m ts us i. done_two cut mode m (map (type_decl true) xs) ts us i)
declared_of_goes cut a b p xs kind.Var = taken_first cut two _ _ (variables_goes cut a b p xs)
declared_of_goes cut a b p xs kind.Axiom = stated_goes cut a b p xs (formula_of kind.Axiom)
declared_of_goes cut a b p xs kind.Lemma = stated_goes cut a b p xs (formula_of kind.Lemma)
declared_of_goes cut a b p xs _ = stated_goes cut a b p xs None

declared_goes : (cut : Cut) (a b : Limit) → Paired cut a b → (xs : List Word) → Follows cut two (decls_after_colon a xs) (decls_after_colon b xs)
declared_goes cut a b p xs mode m ts us h =
    heads cut two mode m (λ z. decls_after_colon a xs z) (λ z. decls_after_colon b xs z) ts us h (omega arith) (λ c lc t vs ws i took less. declared_of_goes cut a b p xs t.kind t c m vs ws i took)

named_goes : (cut : Cut) (a b : Limit) → Paired cut a b → Follows cut two (declaration_of_names a) (declaration_of_names b)
named_goes cut a b p = bind_of cut two two _ _ _ _ (ids_goes cut a b p) (λ x mode m us i. expect_of cut two kind.Colon _ _ (took cut two _ _ (declared_goes cut a b p x.0)) mode m x.1 us i)

-- what an identifier begins takes it
ids_take : (cut : Cut) (a b : Limit) → Paired cut a b → (t : Terminal) (ts : Tokens) → IsId t → length ts ≤ length cut.here → Shrinks cut two (ids a (t ∷ ts))
unfolding list_from
ids_take cut a b p t ts is h = of_entries (entries a (t ∷ ts)) (p.some t ts) where
  follow : Shrinks cut three (list_from is_id name (entries a (t ∷ ts)) [] outermost (t ∷ ts)) → Shrinks cut two (ids a (t ∷ ts))
  follow g = bind_past cut three two (list_from is_id name (entries a (t ∷ ts)) [] outermost (t ∷ ts)) _ g (λ x hx. hx)

  id_taken : (k : ℕ) (c : Bool) → c ≡ true → Shrinks cut three (names_test k t ts c)
  id_taken k true e = after_past cut three kind.Comma _ (λ z. Ok (t.word ∷ [], outermost, z)) ts h (λ vs lt. list_past cut 0 is_id name name (names cut) k (t.word ∷ []) outermost vs (omega (arith, lt))) (λ vs le. le)
  id_taken k false e = cc

  of_entries : (k : ℕ) → 1 ≤ k → Shrinks cut two (list_from is_id name k [] outermost (t ∷ ts) >>= λ p. Ok (p.0, p.2))
  of_entries zero le = absurd (omega (arith, le))
  of_entries (suc k) le = bind_past cut three two (list_from is_id name (suc k) [] outermost (t ∷ ts)) _ (id_taken k (is_id t.kind) is) (λ x hx. hx)

named_takes : (cut : Cut) (a b : Limit) → Paired cut a b → (t : Terminal) (ts : Tokens) → IsId t → length ts ≤ length cut.here → Shrinks cut two (declaration_of_names a (t ∷ ts))
named_takes cut a b p t ts is h = bind_past cut two two (ids a (t ∷ ts)) _ (ids_take cut a b p t ts is h) (λ x hx. expect_of cut two kind.Colon _ _ (took cut two _ _ (declared_goes cut a b p x.0)) Mode.Past 0 x.1 x.1 hx)

begun_past : (cut : Cut) (a b : Limit) → Paired cut a b → (ts : Tokens) → length ts ≤ length cut.here → Shrinks cut two (declaration_from_id a ts)
begun_past cut a b p [] h = h
begun_past cut a b p (t ∷ ts) h = one (is_id t.kind) where
  one : (c : Bool) → Shrinks cut two (id_test t ts c >>= λ p. either (after kind.Open p.1) (λ us. function a p.0 us) (declaration_of_names a (t ∷ ts)))
  one true = after_past cut two kind.Open _ (λ z. declaration_of_names a (t ∷ ts)) ts (omega (arith, h)) (λ vs lt. function_goes cut a b p t.word Mode.Past 0 vs vs lt) (λ vs le. named_goes cut a b p Mode.Past 0 (t ∷ ts) (t ∷ ts) h)
  one false = h

begun_last : (cut : Cut) (a b : Limit) → Paired cut a b → (t : Terminal) (ts : Tokens) → IsId t → length ts ≤ length cut.here → Shrinks cut two (either (after kind.Open ts) (λ us. function a t.word us) (declaration_of_names a (t ∷ ts)))
begun_last cut a b p t ts is h = after_past cut two kind.Open _ (λ z. declaration_of_names a (t ∷ ts)) ts h (λ vs lt. function_goes cut a b p t.word Mode.Past 0 vs vs lt) (λ vs le. named_takes cut a b p t ts is h)

begun_before : (cut : Cut) (a b : Limit) → Paired cut a b → (m : ℕ) (q : Tokens) → length q ≤ m → Agrees cut two m (declaration_from_id a (q ++ cut.here)) (declaration_from_id b (q ++ cut.there))
begun_before cut a b p m [] le = beyond cut two m _ _ (begun_past cut a b p cut.here (omega arith))
begun_before cut a b p m (t ∷ []) le = one (is_id t.kind) refl where
  one : (c : Bool) → is_id t.kind ≡ c → Agrees cut two m (id_test t cut.here c >>= λ p. either (after kind.Open p.1) (λ us. function a p.0 us) (declaration_of_names a (t ∷ cut.here)))
      (id_test t cut.there c >>= λ p. either (after kind.Open p.1) (λ us. function b p.0 us) (declaration_of_names b (t ∷ cut.there)))
  one true is = beyond cut two m _ _ (begun_last cut a b p t cut.here is (omega arith))
  one false is = stops cut two Mode.Before m (t ∷ cut.here) (t ∷ cut.there) (t ∷ [], refl, refl, le)
begun_before cut a b p m (t ∷ u ∷ q) le = one (is_id t.kind) where
  ts : Tokens
  ts = t ∷ u ∷ (q ++ cut.here)

  us : Tokens
  us = t ∷ u ∷ (q ++ cut.there)

  behind : (e : Bool) → Agrees cut two m (either (if e then Some (q ++ cut.here) else None) (λ us. function a t.word us) (declaration_of_names a ts)) (either (if e then Some (q ++ cut.there) else None) (λ us. function b t.word us) (declaration_of_names b us))
  behind true = function_goes cut a b p t.word Mode.Before m (q ++ cut.here) (q ++ cut.there) (q, refl, refl, omega (arith, le))
  behind false = named_goes cut a b p Mode.Before m ts us (t ∷ u ∷ q, refl, refl, le)

  one : (c : Bool) → Agrees cut two m (id_test t (u ∷ (q ++ cut.here)) c >>= λ p. either (after kind.Open p.1) (λ us. function a p.0 us) (declaration_of_names a ts))
      (id_test t (u ∷ (q ++ cut.there)) c >>= λ p. either (after kind.Open p.1) (λ us. function b p.0 us) (declaration_of_names b us))
  one true = behind (same_kind u.kind kind.Open)
  one false = stops cut two Mode.Before m ts us (t ∷ u ∷ q, refl, refl, le)

begun_goes : (cut : Cut) (a b : Limit) → Paired cut a b → Follows cut two (declaration_from_id a) (declaration_from_id b)
begun_goes cut a b p Mode.Past m ts us h = begun_past cut a b p ts h
begun_goes cut a b p Mode.Before m ts us (q, e, e2, le) =
    subst (λ z. Agrees cut two m (declaration_from_id a z) (declaration_from_id b us)) (sym e) (subst (λ z. Agrees cut two m (declaration_from_id a (q ++ cut.here)) (declaration_from_id b z)) (sym e2) (begun_before cut a b p m q le))

declaration_goes : (cut : Cut) (a b : Limit) → Paired cut a b → Follows cut two (declaration a) (declaration b)
declaration_goes cut a b p = after_of cut two kind.Importing _ _ (λ z. declaration_from_id a z) (λ z. declaration_from_id b z) (took cut two _ _ (importing_goes cut a b p)) (begun_goes cut a b p)

assumed_of_goes : (cut : Cut) (a b : Limit) → Paired cut a b → (xs : List Word) (k : TerminalKind) → Firsts cut two (λ t ts. assuming_decls_of_kind a xs t ts k) (λ t ts. assuming_decls_of_kind b xs t ts k)
assumed_of_goes cut a b p xs kind.Var = taken_first cut two _ _ (variables_goes cut a b p xs)
assumed_of_goes cut a b p xs kind.Assumption = formulas_goes cut a b p xs formula_word.Assumption
assumed_of_goes cut a b p xs _ = stop_first cut two

assumed_after_goes : (cut : Cut) (a b : Limit) → Paired cut a b → (xs : List Word) → Follows cut two (assuming_decls_after_colon a xs) (assuming_decls_after_colon b xs)
assumed_after_goes cut a b p xs mode m ts us h =
    heads cut two mode m (λ z. assuming_decls_after_colon a xs z) (λ z. assuming_decls_after_colon b xs z) ts us h (omega arith) (λ c lc t vs ws i took less. assumed_of_goes cut a b p xs t.kind t c m vs ws i took)

assumed_goes : (cut : Cut) (a b : Limit) → Paired cut a b → Follows cut two (assuming_decl a) (assuming_decl b)
assumed_goes cut a b p = after_of cut two kind.Importing _ _ (λ z. ids a z >>= λ p. expect kind.Colon p.1 >>= λ us. assuming_decls_after_colon a p.0 us) (λ z. ids b z >>= λ p. expect kind.Colon p.1 >>= λ us. assuming_decls_after_colon b p.0 us)
    (took cut two _ _ (importing_goes cut a b p)) (bind_of cut two two _ _ _ _ (ids_goes cut a b p) (λ x mode m us i. expect_of cut two kind.Colon _ _ (took cut two _ _ (assumed_after_goes cut a b p x.0)) mode m x.1 us i))

-- ---- declarations one after another

semicolon_past : (cut : Cut) (ts : Tokens) → length ts ≤ length cut.here → length (past_semicolon ts) ≤ length cut.here
semicolon_past cut [] h = h
semicolon_past cut (t ∷ ts) h = one (same_kind t.kind kind.Semicolon) where
  one : (c : Bool) → length (either (if c then Some ts else None) (λ us. us) (t ∷ ts)) ≤ length cut.here
  one true = omega (arith, h)
  one false = h

many_past : (cut : Cut) (f : Tokens → Answer (List Decl × Tokens)) → ((ts : Tokens) → length ts ≤ length cut.here → Shrinks cut two (f ts)) → (k : ℕ) (found : List Decl) (ts : Tokens) → length ts ≤ length cut.here → Shrinks cut two (many_from f k found ts)
unfolding many_from
many_past cut f g zero found ts h = h
many_past cut f g (suc k) found ts h = pick_past (comes_decl ts) _ (bind_past cut two two (f ts) _ (g ts h) (λ x hx. many_past cut f g k (found ++ x.0) (past_semicolon x.1) (semicolon_past cut x.1 hx))) where
  pick_past : (c : Bool) (o : Answer (List Decl × Tokens)) → Shrinks cut two o → Shrinks cut two (if c then o else Ok (found, ts))
  pick_past true o i = i
  pick_past false o i = h

-- a declaration takes a token
abbrev Shorter : {X : Type 0} → (Tokens → Answer (X × Tokens)) → Type 0
Shorter {X} f = (ts : Tokens) (x : X × Tokens) → f ts ≡ Ok x → length x.1 < length ts

fore_shorter : {X : Type 0} (f : Tokens → Answer (X × Tokens)) (D : Tokens → X → Type 0) → ((ts : Tokens) → Yields (f ts) (Fore D ts)) → ((ts : Tokens) (x : X) → D ts x → (t : Terminal) × (vs : Tokens) × (ts ≡ t ∷ vs)) → Shorter f
fore_shorter f D sound some ts x e = let h = (sound ts).holds x e in let g = some h.0 x.0 h.2 in omega (arith, ap length h.1.same, length-append h.0 x.1, ap length g.2)

-- what stands before the cut after a declaration, without a semicolon
semicolon_same : (cut : Cut) (m : ℕ) (t : Terminal) (q : Tokens) → suc (length q) ≤ m → Meets cut Mode.Before m (past_semicolon (t ∷ (q ++ cut.here))) (past_semicolon (t ∷ (q ++ cut.there)))
semicolon_same cut m t q le = one (same_kind t.kind kind.Semicolon) where
  one : (c : Bool) → Meets cut Mode.Before m (either (if c then Some (q ++ cut.here) else None) (λ us. us) (t ∷ (q ++ cut.here))) (either (if c then Some (q ++ cut.there) else None) (λ us. us) (t ∷ (q ++ cut.there)))
  one true = (q, refl, refl, omega (arith, le))
  one false = (t ∷ q, refl, refl, le)

-- what holds of all tokens before the cut
at_front : {X : Type 0} (cut : Cut) (s : Shape X) (n m : ℕ) (f g : Tokens → Answer X) (ts us : Tokens) → Meets cut Mode.Before m ts us → ((q : Tokens) → length q ≤ m → Agrees cut s n (f (q ++ cut.here)) (g (q ++ cut.there))) → Agrees cut s n (f ts) (g us)
at_front cut s n m f g ts us (q, e, e2, le) h = subst (λ z. Agrees cut s n (f z) (g us)) (sym e) (subst (λ z. Agrees cut s n (f (q ++ cut.here)) (g z)) (sym e2) (h q le))

-- what follows an answer that took a token
turn : {X Y : Type 0} (cut : Cut) (u : Shape Y) (m n : ℕ) (o p : Answer (X × Tokens)) → ((x : X × Tokens) → o ≡ Ok x → length x.1 < n + length cut.here) → Agrees cut two m o p → (f g : X × Tokens → Answer Y)
    → ((x : X × Tokens) → length x.1 ≤ length cut.here → Shrinks cut u (f x)) → ((x : X) (t : Terminal) (q : Tokens) → suc (length q) < n → Agrees cut u m (f (x, t ∷ (q ++ cut.here))) (g (x, t ∷ (q ++ cut.there))))
    → Agrees cut u m (o >>= f) (p >>= g)
turn cut u m n (Err e) p lt (inl h) f g past before = inl h
turn cut u m n (Err e) p lt (inr (inl h)) f g past before = inr (inl h)
turn cut u m n (Err e) p lt (inr (inr h)) f g past before = inr (inr (h.0, h.1, ap (λ z. z >>= g) h.2))
turn cut u m n (Ok x) p lt (inl h) f g past before = beyond cut u m _ _ (past x h)
turn {X} cut u m n (Ok x) p lt (inr (t, q, e, e2, le)) f g past before =
    subst (λ z. Agrees cut u m (f x) (z >>= g)) (sym e2) (subst (λ z. Agrees cut u m (f (x.0, z)) (g (x.0, t ∷ (q ++ cut.there)))) (sym e) (before x.0 t q (omega (arith, lt x refl, ap length e, length_cut q cut.here))))

many_before : (cut : Cut) (f g : Tokens → Answer (List Decl × Tokens)) → Follows cut two f g → Shorter f → (k j m : ℕ) → Turns cut Mode.Before k j m → (found : List Decl) (q : Tokens) → length q ≤ m
    → Agrees cut two m (many_from f k found (q ++ cut.here)) (many_from g j found (q ++ cut.there))
unfolding many_from
many_before cut f g h s k j m t found [] le = beyond cut two m _ _ (many_past cut f (λ ts le. h Mode.Past 0 ts ts le) k found cut.here (omega arith))
many_before cut f g h s zero j m t found (v ∷ q) le = absurd (omega (arith, t.0, le))
many_before cut f g h s (suc k) zero m t found (v ∷ q) le = absurd (omega (arith, t.1, le))
many_before cut f g h s (suc k) (suc j) m t found (v ∷ q) le =
    pick cut two Mode.Before m (comes_kind v.kind) _ _ _ _
    (λ e. turn cut two m (suc (length q)) (f (v ∷ (q ++ cut.here))) (g (v ∷ (q ++ cut.there))) (λ x e. let lt = s (v ∷ (q ++ cut.here)) x e in omega (arith, lt, length_cut q cut.here)) (h Mode.Before m (v ∷ (q ++ cut.here)) (v ∷ (q ++ cut.there)) (v ∷ q, refl, refl, le)) _ _
    (λ x hx. many_past cut f (λ ts le. h Mode.Past 0 ts ts le) k (found ++ x.0) (past_semicolon x.1) (semicolon_past cut x.1 hx))
    (λ x w r lt. raise_to cut two (m - 1) m (omega arith) _ _ (at_front cut two (m - 1) (m - 1) (many_from f k (found ++ x)) (many_from g j (found ++ x)) _ _ (semicolon_same cut (m - 1) w r (omega (arith, lt, le)))
    (λ q2 le2. many_before cut f g h s k j (m - 1) (fits_less Mode.Before cut.here m k (omega (arith, le)) t.0, fits_less Mode.Before cut.there m j (omega (arith, le)) t.1) (found ++ x) q2 le2))))
    (λ e. done_two cut Mode.Before m found (v ∷ (q ++ cut.here)) (v ∷ (q ++ cut.there)) (v ∷ q, refl, refl, le))

many_goes : (cut : Cut) (f g : Tokens → Answer (List Decl × Tokens)) → Follows cut two f g → Shorter f → Follows cut two (λ ts. many_from f (length ts) [] ts) (λ us. many_from g (length us) [] us)
many_goes cut f g h s mode m ts us i =
    subst (λ z. Goes cut two mode m (many_from f z [] ts) (many_from g (length us) [] us)) plus_none (subst (λ z. Goes cut two mode m (many_from f (length ts + 0) [] ts) (many_from g z [] us)) plus_none2 (turned cut two 0 (λ k ts. many_from f k [] ts) (λ k us. many_from g k [] us) of mode m ts us i)) where
      plus_none : length ts + 0 ≡ length ts
      plus_none = omega arith

      plus_none2 : length us + 0 ≡ length us
      plus_none2 = omega arith

      of : (k j : ℕ) (mode : Mode) (m : ℕ) → Turns cut mode k j m → (ts us : Tokens) → Meets cut mode m ts us → Goes cut two mode m (many_from f k [] ts) (many_from g j [] us)
      of k j Mode.Past m t ts us i = many_past cut f (λ ts le. h Mode.Past 0 ts ts le) k [] ts i
      of k j Mode.Before m t ts us i = at_front cut two m m (many_from f k []) (many_from g j []) ts us i (λ q le. many_before cut f g h s k j m t [] q le)

declaration_shorter : (a : Limit) → Shorter (declaration a)
declaration_shorter a = fore_shorter (declaration a) (DerivesDecl a) (declaration_sound a) (λ ts x d. let c = decl_comes a ts x d in (c.0, c.1, c.2))

assumed_shorter : (a : Limit) → Shorter (assuming_decl a)
assumed_shorter a = fore_shorter (assuming_decl a) (DerivesAssumed a) (assumed_sound a) (λ ts x d. let c = assumed_comes a ts x d in (c.0, c.1, c.2))

declarations_goes : (cut : Cut) (a b : Limit) → Paired cut a b → Follows cut two (declarations a) (declarations b)
declarations_goes cut a b p = many_goes cut (declaration a) (declaration b) (declaration_goes cut a b p) (declaration_shorter a)

-- ---- theories

assumptions_goes : (cut : Cut) (a b : Limit) → Paired cut a b → Follows cut two (assumptions a) (assumptions b)
assumptions_goes cut a b p = bind_of cut two two _ _ _ _ (many_goes cut (assuming_decl a) (assuming_decl b) (assumed_goes cut a b p) (assumed_shorter a)) (λ x mode m us i.
    expect_of cut two kind.EndAssuming _ _ (λ mode m vs ws t. done_two cut mode m x.0 vs ws (weaken cut mode m vs ws t)) mode m x.1 us i)

assuming_goes : (cut : Cut) (a b : Limit) → Paired cut a b → Follows cut two (assuming_part a) (assuming_part b)
assuming_goes cut a b p = after_of cut two kind.Assuming _ _ (λ z. Ok ([], z)) (λ z. Ok ([], z)) (took cut two _ _ (assumptions_goes cut a b p)) (λ mode m ts us i. done_two cut mode m [] ts us i)

heading_goes : (cut : Cut) (a b : Limit) → Paired cut a b → Follows cut three (heading a) (heading b)
heading_goes cut a b p = id_of cut three _ _ (λ w. took cut three _ _ (bind_of cut two three _ _ _ _ (formal_part_goes cut a b p) (λ x mode m us i.
    expect_of cut three kind.Colon _ _ (took cut three _ _ (expect_of cut three kind.Theory _ _ (took cut three _ _ (expect_of cut three kind.Begin _ _ (λ mode m vs ws t. done_three cut mode m w x.0 vs ws (weaken cut mode m vs ws t)))))) mode m x.1 us i)))

-- another name is in the place of the theory's
wrong_end : {Y : Type 0} (cut : Cut) (u : Shape Y) (mode : Mode) (m : ℕ) (ts us : Tokens) → Took cut mode m ts us
    → Goes cut u mode m (Err (record { left = length ts + 1; reason = reason.WrongEnd })) (Err (record { left = length us + 1; reason = reason.WrongEnd }))
wrong_end cut u Mode.Past m ts us t = omega (arith, t)
wrong_end cut u Mode.Before m ts us (q, e, e2, le) =
    inr (inr (length q, omega (arith, ap length e, length_cut q cut.here), ap (λ z. Err (record { left = z; reason = reason.WrongEnd })) (omega (arith, ap length e2, length_cut q cut.there))))

same_name_goes : (cut : Cut) (text : List ℕ) (w v : Word) → FollowsTook cut two (λ ts. same_name text w (v, ts)) (λ us. same_name text w (v, us))
same_name_goes cut text w v mode m ts us t =
    pick cut two mode m (bytes_eq (spelling text w) (spelling text v)) _ _ _ _ (λ e. done_two cut mode m v ts us (weaken cut mode m ts us t)) (λ e. wrong_end cut two mode m ts us t)

ending_goes : (cut : Cut) (text : List ℕ) (w : Word) → Follows cut two (ending text w) (ending text w)
ending_goes cut text w = expect_of cut two kind.End _ _ (took cut two _ _ (id_of cut two _ _ (λ v. same_name_goes cut text w v)))

theory_goes : (cut : Cut) (a b : Limit) → Paired cut a b → (text : List ℕ) → Follows cut two (theory a text) (theory b text)
theory_goes cut a b p text = bind_of cut three two _ _ _ _ (heading_goes cut a b p) (λ x mode m us i.
    bind_of cut two two _ _ _ _ (assuming_goes cut a b p) (λ y mode m us i.
    bind_of cut two two _ _ _ _ (declarations_goes cut a b p) (λ z mode m us i.
    bind_of cut two two _ _ _ _ (ending_goes cut text x.0) (λ e mode m us i. done_two cut mode m (record { name = x.0; formals = x.1; assuming = y.0; decls = z.0; end = e.0.end }) e.1 us i) mode m z.1 us i) mode m y.1 us i) mode m x.2 us i)

-- ---- proofs

-- ---- proofs

-- after an open parenthesis
open_goes : {Y : Type 0} (cut : Cut) (u : Shape Y) (a b : Limit) → Rooms cut a b → (n : ℕ) (mode : Mode) (m : ℕ) (o p : Answer Y) (ts us : Tokens) → Took cut mode m ts us → Goes cut u mode m o p
    → Goes cut u mode m (if is_below a n then o else too_deep ts) (if is_below b n then p else too_deep us)
open_goes cut u a b rooms n mode m o p ts us t h = one (is_below a n) (is_below b n) (rooms.wider n) (rooms.tight n) where
  one : (x y : Bool) → (x ≡ true → y ≡ true) → (x ≡ false → (cut.excused reason.TooNested ≡ true) ⊎ (y ≡ false)) → Goes cut u mode m (if x then o else too_deep ts) (if y then p else too_deep us)
  one true y w e = subst (λ z. Goes cut u mode m o (if z then p else too_deep us)) (sym (w refl)) h
  one false y w e = deep cut u mode m ts us _ t (other (e refl)) where
    other : (cut.excused reason.TooNested ≡ true) ⊎ (y ≡ false) → (cut.excused reason.TooNested ≡ true) ⊎ ((if y then p else too_deep us) ≡ too_deep us)
    other (inl e) = inl e
    other (inr e) = inr (ap (λ z. if z then p else too_deep us) e)

balanced_of_past : (cut : Cut) (a : Limit) (n : ℕ) (t : Terminal) (ts : Tokens) (go : ℕ → Answer (Word × Tokens)) → length ts < length cut.here → ((i : ℕ) → Shrinks cut two (go i)) → (k : TerminalKind) → Shrinks cut two (closing_parenthesis_of a n t ts go k)
balanced_of_past cut a n t ts go h g kind.Open = one (is_below a (suc n)) where
  one : (x : Bool) → Shrinks cut two (if x then go (suc n) else too_deep ts)
  one true = g (suc n)
  one false = omega (arith, h)
balanced_of_past cut a zero t ts go h g kind.Close = omega (arith, h)
balanced_of_past cut a (suc n) t ts go h g kind.Close = g n
balanced_of_past cut a n t ts go h g _ = g n

balanced_past : (cut : Cut) (a : Limit) (ts : Tokens) (n : ℕ) → length ts ≤ length cut.here → Shrinks cut two (closing_parenthesis a n ts)
unfolding closing_parenthesis
balanced_past cut a [] n h = h
balanced_past cut a (t ∷ ts) n h = balanced_of_past cut a n t ts (λ i. closing_parenthesis a i ts) (omega (arith, h)) (λ i. balanced_past cut a ts i (omega (arith, h))) t.kind

balanced_of_goes : (cut : Cut) (a b : Limit) → Rooms cut a b → (n m : ℕ) (t : Terminal) (q : Tokens) → length q ≤ m → (go other : ℕ → Answer (Word × Tokens)) → ((i : ℕ) → Agrees cut two m (go i) (other i)) → (k : TerminalKind)
    → Agrees cut two m (closing_parenthesis_of a n t (q ++ cut.here) go k) (closing_parenthesis_of b n t (q ++ cut.there) other k)
balanced_of_goes cut a b rooms n m t q le go other g kind.Open = open_goes cut two a b rooms (suc n) Mode.Before m (go (suc n)) (other (suc n)) (q ++ cut.here) (q ++ cut.there) (q, refl, refl, le) (g (suc n))
balanced_of_goes cut a b rooms zero m t q le go other g kind.Close = done_two cut Mode.Before m t.word (q ++ cut.here) (q ++ cut.there) (q, refl, refl, le)
balanced_of_goes cut a b rooms (suc n) m t q le go other g kind.Close = g n
balanced_of_goes cut a b rooms n m t q le go other g _ = g n

balanced_before : (cut : Cut) (a b : Limit) → Rooms cut a b → (q : Tokens) (n m : ℕ) → length q ≤ m → Agrees cut two m (closing_parenthesis a n (q ++ cut.here)) (closing_parenthesis b n (q ++ cut.there))
unfolding closing_parenthesis
balanced_before cut a b rooms [] n m le = beyond cut two m _ _ (balanced_past cut a cut.here n (omega arith))
balanced_before cut a b rooms (t ∷ q) n m le =
    balanced_of_goes cut a b rooms n m t q (omega (arith, le)) (λ i. closing_parenthesis a i (q ++ cut.here)) (λ i. closing_parenthesis b i (q ++ cut.there)) (λ i. balanced_before cut a b rooms q i m (omega (arith, le))) t.kind

balanced_goes : (cut : Cut) (a b : Limit) → Rooms cut a b → (n : ℕ) → Follows cut two (closing_parenthesis a n) (closing_parenthesis b n)
balanced_goes cut a b rooms n Mode.Past m ts us i = balanced_past cut a ts n i
balanced_goes cut a b rooms n Mode.Before m ts us i = at_front cut two m m (closing_parenthesis a n) (closing_parenthesis b n) ts us i (λ q le. balanced_before cut a b rooms q n m le)

-- what is open after a parenthesis
abbrev script_of : Limit → Terminal → Tokens → Answer (Word × Word × Tokens)
script_of limit t us = closing_parenthesis limit 0 us >>= λ p. Ok (t.word, p.0, p.1)

abbrev script_in : Limit → Terminal → Tokens → Answer (Word × Word × Tokens)
script_in limit t us = if is_below limit 0 then script_of limit t us else too_deep us

script_goes : (cut : Cut) (a b : Limit) → Rooms cut a b → Follows cut three (script a) (script b)
script_goes cut a b rooms mode m ts us h =
    heads cut three mode m (λ z. script a z) (λ z. script b z) ts us h (omega arith) (λ c lc t vs ws i tk less. one c t vs ws i tk (same_kind t.kind kind.Open)) where
      good : (c : Mode) (t : Terminal) (vs ws : Tokens) → Took cut c (m - 1) vs ws → Goes cut three c (m - 1) (script_of a t vs) (script_of b t ws)
      good c t vs ws tk = bind_of cut two three _ _ _ _ (balanced_goes cut a b rooms 0) (λ x mode n us i. done_three cut mode n t.word x.0 x.1 us i) c (m - 1) vs ws (weaken cut c (m - 1) vs ws tk)

      one : (c : Mode) (t : Terminal) (vs ws : Tokens) → Meets cut c m (t ∷ vs) (t ∷ ws) → Took cut c (m - 1) vs ws → (x : Bool)
          → Goes cut three c m ((if x then Ok vs else stop (t ∷ vs)) >>= λ us. script_in a t us) ((if x then Ok ws else stop (t ∷ ws)) >>= λ us. script_in b t us)
      one c t vs ws i tk true = raise cut three c m _ _ (open_goes cut three a b rooms 0 c (m - 1) (script_of a t vs) (script_of b t ws) vs ws tk (good c t vs ws tk))
      one c t vs ws i tk false = stops cut three c m (t ∷ vs) (t ∷ ws) i

target_goes : (cut : Cut) → Follows cut three target target
target_goes cut = expect_of cut three kind.Proof _ _ (took cut three _ _ (id_of cut three _ _ (λ w. took cut three _ _ (expect_of cut three kind.Dot _ _ (took cut three _ _ (id_of cut three _ _ (λ v mode m ts us t. done_three cut mode m w v ts us (weaken cut mode m ts us t))))))))

proof_goes : (cut : Cut) (a b : Limit) → Paired cut a b → Follows cut two (proof a) (proof b)
proof_goes cut a b p = bind_of cut three two _ _ _ _ (target_goes cut) (λ x mode m us i.
    bind_of cut three two _ _ _ _ (script_goes cut a b p.rooms) (λ y mode m us i.
    expect_of cut two kind.Close _ _ (λ mode m vs ws t. done_two cut mode m (record { theory = x.0; formula = x.1; start = y.0.start; end = y.1.end; pos = y.0.pos }) vs ws (weaken cut mode m vs ws t)) mode m y.2 us i) mode m x.2 us i)

-- ---- units

item_goes : (cut : Cut) (a b : Limit) → Paired cut a b → (text : List ℕ) → Follows cut two (one_item a text) (one_item b text)
item_goes cut a b p text = after_of cut two kind.Open _ _ (λ z. theory a text z >>= λ p. Ok (item.Theory p.0, p.1)) (λ z. theory b text z >>= λ p. Ok (item.Theory p.0, p.1))
    (took cut two _ _ (bind_of cut two two _ _ _ _ (proof_goes cut a b p) (λ x mode m us i. done_two cut mode m (item.Proof x.0) x.1 us i)))
    (bind_of cut two two _ _ _ _ (theory_goes cut a b p text) (λ x mode m us i. done_two cut mode m (item.Theory x.0) x.1 us i))

-- an answer with no tokens after it
abbrev pub alone : {X : Type 0} → Shape X
alone = record { rest = λ x. []; put = λ x us. x }

items_past : (cut : Cut) (a b : Limit) → Paired cut a b → (text : List ℕ) (k : ℕ) (found : List Item) (ts : Tokens) → length ts ≤ length cut.here → Shrinks cut alone (items_from a text k found ts)
unfolding items_from
items_past cut a b p text k found [] h = h
items_past cut a b p text zero found (t ∷ ts) h = h
items_past cut a b p text (suc k) found (t ∷ ts) h =
    bind_past cut two alone (one_item a text (t ∷ ts)) _ (item_goes cut a b p text Mode.Past 0 (t ∷ ts) (t ∷ ts) h) (λ x hx. items_past cut a b p text k (found ++ x.0 ∷ []) x.1 hx)

items_before : (cut : Cut) (a b : Limit) → Paired cut a b → (text : List ℕ) (k j m : ℕ) → Turns cut Mode.Before k j m → (found : List Item) (q : Tokens) → length q ≤ m
    → Agrees cut alone m (items_from a text k found (q ++ cut.here)) (items_from b text j found (q ++ cut.there))
unfolding items_from
items_before cut a b p text k j m t found [] le = beyond cut alone m _ _ (items_past cut a b p text k found cut.here (omega arith))
items_before cut a b p text zero j m t found (v ∷ q) le = absurd (omega (arith, t.0, le))
items_before cut a b p text (suc k) zero m t found (v ∷ q) le = absurd (omega (arith, t.1, le))
items_before cut a b p text (suc k) (suc j) m t found (v ∷ q) le =
    turn cut alone m (suc (length q)) (one_item a text (v ∷ (q ++ cut.here))) (one_item b text (v ∷ (q ++ cut.there)))
    (λ x e. let lt = fore_shorter (one_item a text) (IsItem a text) (item_sound a text) (item_some a text) (v ∷ (q ++ cut.here)) x e in omega (arith, lt, length_cut q cut.here))
    (item_goes cut a b p text Mode.Before m (v ∷ (q ++ cut.here)) (v ∷ (q ++ cut.there)) (v ∷ q, refl, refl, le)) _ _
    (λ x hx. items_past cut a b p text k (found ++ x.0 ∷ []) x.1 hx)
    (λ x w r lt. raise_to cut alone (m - 1) m (omega arith) _ _ (items_before cut a b p text k j (m - 1) (fits_less Mode.Before cut.here m k (omega (arith, le)) t.0, fits_less Mode.Before cut.there m j (omega (arith, le)) t.1) (found ++ x ∷ []) (w ∷ r) (omega (arith, lt, le))))

pub unit_goes : (cut : Cut) (a b : Limit) → Paired cut a b → (text : List ℕ) (q : Tokens) → Agrees cut alone (length q) (unit a text (q ++ cut.here)) (unit b text (q ++ cut.there))
unit_goes cut a b p text q = follow (items_before cut a b p text (length (q ++ cut.here)) (length (q ++ cut.there)) (length q) (omega (arith, length_cut q cut.here), omega (arith, length_cut q cut.there)) [] q (omega arith)) where
  made : List Item → Answer tree.Unit
  made is = Ok (record { items = is })

  of : (o r : Answer (List Item)) → Agrees cut alone (length q) o r → Agrees cut alone (length q) (o >>= made) (r >>= made)
  of (Ok x) r h = inl (omega arith)
  of (Err e) r (inl h) = inl h
  of (Err e) r (inr (inl h)) = inr (inl h)
  of (Err e) r (inr (inr h)) = inr (inr (h.0, h.1, ap (λ z. z >>= made) h.2))

  follow : Agrees cut alone (length q) (items_from a text (length (q ++ cut.here)) [] (q ++ cut.here)) (items_from b text (length (q ++ cut.there)) [] (q ++ cut.there)) → Agrees cut alone (length q) (unit a text (q ++ cut.here)) (unit b text (q ++ cut.there))
  follow h = of (items_from a text (length (q ++ cut.here)) [] (q ++ cut.here)) (items_from b text (length (q ++ cut.there)) [] (q ++ cut.there)) h
