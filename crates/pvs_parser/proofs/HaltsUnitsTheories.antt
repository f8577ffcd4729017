-- Theories: where their reading stops, the tokens before the stop can be completed.
use Rattle.std.proofs.Common.{◌≡◌, ℕ, zero, suc, ◌+◌, Bool, true, false, bytes_eq, if◌then◌else◌, List, [], ◌∷◌, ◌++◌, length, Ok, Err, refl, sym, ap, subst, append-nil}
use Rattle.pvs_parser.specs.declared.failure.Reason.TheVariants as reason
use Rattle.pvs_parser.specs.declared.terminal.Terminal.{Terminal}
use Rattle.pvs_parser.specs.declared.terminal.TerminalKind.TheVariants as kind
use Rattle.pvs_syntax.specs.declared.word.Word.{Word}
use Rattle.pvs_syntax.specs.declared.unit.Decl.{Decl}
use Rattle.pvs_syntax.specs.declared.unit.Formal.{Formal}
use Rattle.pvs_parser.specs.Terminals.{Is, IsId}
use Rattle.pvs_parser.specs.Language.{Limit, Tokens, IsBelow}
use Rattle.pvs_parser.specs.Units.{DerivesFormalPart, DerivesDecl, DerivesAssumed, DerivesSemicolon, DerivesMany, DerivesAssuming, DerivesTheory}
use Rattle.pvs_syntax.specs.Words.{spelling}
use Rattle.pvs_base.specs.Answers.{◌>>=◌}
use Rattle.pvs_parser.specs.code.UnitDescent.{declaration, assuming_decl, comes_decl, past_semicolon, many_from, declarations, assumptions, assuming_part, heading, ending, theory}
use Rattle.pvs_parser.proofs.Yields.{Yields}
use Rattle.pvs_parser.proofs.Gets.{both}
use Rattle.pvs_parser.proofs.DescentSteps.{after_yields, glue, put, alone, nothing}
use Rattle.pvs_parser.proofs.DescentSound.{moved}
use Rattle.pvs_parser.proofs.Deeper.{Fore}
use Rattle.pvs_parser.proofs.FormalLists.{formal_part_sound}
use Rattle.pvs_parser.proofs.Decls.{declaration_sound, assumed_sound}
use Rattle.pvs_parser.proofs.Many.{Reader, semicolon_sound, many_sound}
use Rattle.pvs_parser.proofs.WholeTheories.{heading_sound, assuming_part_sound}
use Rattle.pvs_parser.proofs.Halts.{Stops, goes, stopped, bind, then_, cases, expect_then, Wider, Halts, unexpected, Place, first, behind, past, upto, onto, into}
use Rattle.pvs_parser.proofs.HaltsBegins.{extend, tok}
use Rattle.pvs_parser.proofs.HaltsUnitsWiden.{widen_formal_part, widen_decl, widen_assumed, widen_many, widen_assuming}
use Rattle.pvs_parser.proofs.HaltsUnitsEnds.{is_end, NoEnd, joined, front_of, id_is_no_end, formal_part_no_end, decl_no_end, many_no_end, assuming_no_end, last_is_end, last_behind}
use Rattle.pvs_parser.proofs.HaltsUnitsParts.{Starts, started, whole_of, beyond, PartBegun, formal_part_stops}
use Rattle.pvs_parser.proofs.HaltsUnitsDecls.{declaration_stops, assumed_stops}
use Rattle.pvs_parser.proofs.HaltsUnitsSteps.{TextHalts, text_unexpected, text_wrong, id_else, part_into}

-- ---- declarations one after another

no_more : {D : Tokens → List Decl → Type 0} {p : Tokens} → Starts D p → Starts (DerivesMany D) p
no_more g = started _ (extend [] g.split) (DerivesMany.more g.all [] [] g.tree [] g.derives DerivesSemicolon.none DerivesMany.none)

one_more : {D : Tokens → List Decl → Type 0} (vs ss : Tokens) {p : Tokens} (ds : List Decl) → D vs ds → DerivesSemicolon ss → Starts (DerivesMany D) p → Starts (DerivesMany D) (vs ++ (ss ++ p))
one_more vs ss ds d s g = started _ (glue both (glue both g.split)) (DerivesMany.more vs ss g.all ds g.tree d s g.derives)

-- a kind of declarations, at each limit: what is read of it is in the grammar, and where its reading stops
module _ (limit : Limit) (D : Limit → Tokens → List Decl → Type 0) (reads : Reader) (sound : (ts : Tokens) → Yields (reads ts) (Fore (D limit) ts)) (wide : (w : Limit) → Wider limit w → (ts : Tokens) (ds : List Decl) → D limit ts ds → D w ts ds)
    (stops : (ts : Tokens) → Stops (reads ts) (Halts limit (λ w p. Starts (D w) p) ts)) where
  turn_stops : (go : List Decl → Reader) → ((found : List Decl) (ts : Tokens) → Stops (go found ts) (Halts limit (λ w p. Starts (DerivesMany (D w)) p) ts)) → (found : List Decl) (ts : Tokens) (b : Bool)
      → Stops (if b then (reads ts >>= λ p. go (found ++ p.0) (past_semicolon p.1)) else Ok (found, ts)) (Halts limit (λ w p. Starts (DerivesMany (D w)) p) ts)
  turn_stops go h found ts true = bind (sound ts) (into (stops ts) first (λ w wider p g. no_more g)) (λ p f.
      let s = semicolon_sound p.1 in
      into (h (found ++ p.0) (past_semicolon p.1)) (past f.1 (past s.1 first)) (λ w wider q g. one_more f.0 s.0 p.0 (wide w wider f.0 p.0 f.2) s.2 g))
  turn_stops go h found ts false = goes

  many_stops : (n : ℕ) (found : List Decl) (ts : Tokens) → Stops (many_from reads n found ts) (Halts limit (λ w p. Starts (DerivesMany (D w)) p) ts)
  unfolding many_from
  many_stops zero found ts = goes
  many_stops (suc n) found ts = turn_stops (λ found ts. many_from reads n found ts) (λ found ts. many_stops n found ts) found ts (comes_decl ts)

declarations_stops : (limit : Limit) → IsBelow limit 0 → (ts : Tokens) → Stops (declarations limit ts) (Halts limit (λ w p. Starts (DerivesMany (DerivesDecl w)) p) ts)
declarations_stops limit some ts = many_stops limit DerivesDecl (declaration limit) (declaration_sound limit) (λ w wide ts ds d. widen_decl wide ts ds d) (declaration_stops limit some) (length ts) [] ts

-- ---- assuming parts

abbrev AssumingBegun : Limit → Tokens → Type 0
AssumingBegun w p = Starts (DerivesAssuming w) p

assuming_begun : {w : Limit} {p : Tokens} (t : Terminal) → Is kind.Assuming t → Starts (DerivesMany (DerivesAssumed w)) p → AssumingBegun w (t ∷ p)
assuming_begun t is g = started _ (put refl (extend (tok kind.EndAssuming ∷ []) g.split)) (DerivesAssuming.assuming g.all g.tree t (tok kind.EndAssuming) is g.derives refl)

assumptions_stops : (limit : Limit) → IsBelow limit 0 → (t : Terminal) (ts us : Tokens) → ts ≡ t ∷ us → Is kind.Assuming t → Stops (assumptions limit us) (Halts limit AssumingBegun ts)
assumptions_stops limit some t ts us e is =
    bind (many_sound (assuming_decl limit) (DerivesAssumed limit) (assumed_sound limit) us)
    (into (many_stops limit DerivesAssumed (assuming_decl limit) (assumed_sound limit) (λ w wide ts ds d. widen_assumed wide ts ds d) (assumed_stops limit some) (length us) [] us) (behind e first) (λ w wide p g. assuming_begun t is g)) (λ p f.
    expect_then kind.EndAssuming p.1 _ (unexpected (put e f.1) (λ w wide. assuming_begun t is (whole_of _ (widen_many (λ ts ds d. widen_assumed wide ts ds d) f.0 p.0 f.2)))) (λ vs c. goes))

assuming_part_stops : (limit : Limit) → IsBelow limit 0 → (ts : Tokens) → Stops (assuming_part limit ts) (Halts limit AssumingBegun ts)
assuming_part_stops limit some ts = cases
    (λ us a. let c = (after_yields kind.Assuming ts).holds us a in assumptions_stops limit some c.0 ts us c.1 c.2)
    (λ a. goes)

-- ---- theories

-- tokens that can be completed to a theory
abbrev pub TheoryBegun : List ℕ → Limit → Tokens → Type 0
TheoryBegun text w p = Starts (DerivesTheory w text) p

-- the name, the formals, the colon, THEORY and BEGIN
record Head (w : Limit) : Type 0 where
  t : Terminal
  u : Terminal
  v : Terminal
  b : Terminal
  ts : Tokens
  fs : List Formal
  id : IsId t
  formals : DerivesFormalPart w ts fs
  colon : Is kind.Colon u
  word : Is kind.Theory v
  begin : Is kind.Begin b

abbrev widen_head : {limit w : Limit} → Wider limit w → Head limit → Head w
widen_head wide h = record {
  t = h.t;
  u = h.u;
  v = h.v;
  b = h.b;
  ts = h.ts;
  fs = h.fs;
  id = h.id;
  formals = widen_formal_part wide h.ts h.fs h.formals;
  colon = h.colon;
  word = h.word;
  begin = h.begin;
}

-- what stands before these tokens
abbrev headed : {w : Limit} → Head w → Tokens → Tokens
headed h p = h.t ∷ (h.ts ++ h.u ∷ h.v ∷ h.b ∷ p)

-- END, and the name of the theory again
abbrev end_tokens : Terminal → Tokens
end_tokens t = tok kind.End ∷ t ∷ []

theory_formals : {w : Limit} {p : Tokens} (text : List ℕ) (t : Terminal) → IsId t → PartBegun w p → TheoryBegun text w (t ∷ p)
theory_formals text t is g =
    started _ (put refl (extend (tok kind.Colon ∷ tok kind.Theory ∷ tok kind.Begin ∷ end_tokens t) g.split))
    (DerivesTheory.theory g.all [] [] g.tree [] [] t (tok kind.Colon) (tok kind.Theory) (tok kind.Begin) (tok kind.End) t is g.derives refl refl refl DerivesAssuming.none DerivesMany.none refl is refl)

some_theory : {w : Limit} (text : List ℕ) → TheoryBegun text w []
some_theory {w = w} text = let g : TheoryBegun text w (tok kind.Id ∷ []) = theory_formals text (tok kind.Id) refl (whole_of _ DerivesFormalPart.none) in started g.tree nothing g.derives

theory_colon : {w : Limit} {ts : Tokens} {fs : List Formal} (text : List ℕ) (t u : Terminal) → IsId t → DerivesFormalPart w ts fs → Is kind.Colon u → TheoryBegun text w (t ∷ (ts ++ u ∷ []))
theory_colon {ts = ts} {fs = fs} text t u is f colon =
    started _ (put refl (glue both (alone refl))) (DerivesTheory.theory ts [] [] fs [] [] t u (tok kind.Theory) (tok kind.Begin) (tok kind.End) t is f colon refl refl DerivesAssuming.none DerivesMany.none refl is refl)

theory_word : {w : Limit} {ts : Tokens} {fs : List Formal} (text : List ℕ) (t u v : Terminal) → IsId t → DerivesFormalPart w ts fs → Is kind.Colon u → Is kind.Theory v → TheoryBegun text w (t ∷ (ts ++ u ∷ v ∷ []))
theory_word {ts = ts} {fs = fs} text t u v is f colon word =
    started _ (put refl (glue both (put refl (alone refl)))) (DerivesTheory.theory ts [] [] fs [] [] t u v (tok kind.Begin) (tok kind.End) t is f colon word refl DerivesAssuming.none DerivesMany.none refl is refl)

theory_assuming : {w : Limit} {p : Tokens} (text : List ℕ) (h : Head w) → AssumingBegun w p → TheoryBegun text w (headed h p)
theory_assuming text h g =
    started _ (put refl (glue both (put refl (put refl (put refl (extend (end_tokens h.t) g.split))))))
    (DerivesTheory.theory h.ts g.all [] h.fs g.tree [] h.t h.u h.v h.b (tok kind.End) h.t h.id h.formals h.colon h.word h.begin g.derives DerivesMany.none refl h.id refl)

theory_decls : {w : Limit} {us p : Tokens} {hs : List Decl} (text : List ℕ) (h : Head w) → DerivesAssuming w us hs → Starts (DerivesMany (DerivesDecl w)) p → TheoryBegun text w (headed h (us ++ p))
theory_decls {us = us} {hs = hs} text h d g =
    started _ (put refl (glue both (put refl (put refl (put refl (glue both (extend (end_tokens h.t) g.split)))))))
    (DerivesTheory.theory h.ts us g.all h.fs hs g.tree h.t h.u h.v h.b (tok kind.End) h.t h.id h.formals h.colon h.word h.begin d g.derives refl h.id refl)

-- tokens after which nothing stands
and_nothing : {X : Type 0} {D : Tokens → X → Type 0} (ts : Tokens) (x : X) → D ts x → Starts D (ts ++ [])
and_nothing {D = D} ts x d = subst (λ z. Starts D z) (sym (append-nil ts)) (whole_of x d)

theory_end : {w : Limit} {us vs : Tokens} {hs ds : List Decl} (text : List ℕ) (h : Head w) (x : Terminal) → DerivesAssuming w us hs → DerivesMany (DerivesDecl w) vs ds → Is kind.End x → TheoryBegun text w (headed h (us ++ (vs ++ x ∷ [])))
theory_end {us = us} {vs = vs} {hs = hs} {ds = ds} text h x d e end =
    started _ (put refl (glue both (put refl (put refl (put refl (glue both (glue both (alone refl))))))))
    (DerivesTheory.theory h.ts us vs h.fs hs ds h.t h.u h.v h.b x h.t h.id h.formals h.colon h.word h.begin d e end h.id refl)

-- no END stands in a part that can be completed so
begun_no_end : {X : Type 0} {D : Tokens → X → Type 0} → ((ts : Tokens) (x : X) → D ts x → NoEnd ts) → (p : Tokens) → Starts D p → NoEnd p
begun_no_end f p g = front_of p g.more (subst NoEnd g.split.same (f g.all g.tree g.derives))

-- ---- the name and the formals

heading_stops : (limit : Limit) (text : List ℕ) (ts : Tokens) → Stops (heading limit ts) (TextHalts limit (TheoryBegun text) ts)
heading_stops limit text ts = id_else ts _ (λ none. text_unexpected nothing (λ w wide. some_theory text) (λ t more e is. absurd (none t more e is))) (λ t us e is.
    bind (formal_part_sound limit us)
    (part_into (formal_part_stops limit us) (behind e first) (id_is_no_end t is) (begun_no_end (λ ts fs d. formal_part_no_end ts fs d)) (λ w wide p g. theory_formals text t is g)) (λ q f.
    let no_end : NoEnd f.0 = formal_part_no_end f.0 q.0 f.2 in
    expect_then kind.Colon q.1 _ (text_unexpected (put e f.1) (λ w wide. theory_formals text t is (whole_of _ (widen_formal_part wide f.0 q.0 f.2))) (λ z more same id. last_behind t f.0 (id_is_no_end t is) no_end)) (λ vs a.
    expect_then kind.Theory vs _ (text_unexpected (put e (glue f.1 (alone a.1))) (λ w wide. theory_colon text t a.0 is (widen_formal_part wide f.0 q.0 f.2) a.2)
    (λ z more same id. last_behind t (f.0 ++ a.0 ∷ []) (id_is_no_end t is) (joined f.0 (a.0 ∷ []) no_end (ap is_end a.2, tt)))) (λ ws b.
    expect_then kind.Begin ws _ (text_unexpected (put e (glue f.1 (put a.1 (alone b.1)))) (λ w wide. theory_word text t a.0 b.0 is (widen_formal_part wide f.0 q.0 f.2) a.2 b.2)
    (λ z more same id. last_behind t (f.0 ++ a.0 ∷ b.0 ∷ []) (id_is_no_end t is) (joined f.0 (a.0 ∷ b.0 ∷ []) no_end (ap is_end a.2, (ap is_end b.2, tt))))) (λ xs c. goes)))))

-- ---- END and the name of the theory

same_name_stops : {limit : Limit} {K : Limit → Tokens → Type 0} {ts : Tokens} (us : Tokens) (y : Terminal) → Stops {A = Word × Tokens} (Err (record { left = length us + 1; reason = reason.WrongEnd })) (TextHalts limit K ts) → (b : Bool)
    → Stops {A = Word × Tokens} (if b then Ok (y.word, us) else Err (record { left = length us + 1; reason = reason.WrongEnd })) (TextHalts limit K ts)
same_name_stops us y g true = goes
same_name_stops us y g false = g

ending_stops : {limit : Limit} {K : Limit → Tokens → Type 0} {ts us : Tokens} {f : Tokens → Tokens} (text : List ℕ) (n : Word) → Place ts f us → last_is_end true (f []) ≡ false → ((w : Limit) → Wider limit w → K w (f []))
    → ((x : Terminal) → Is kind.End x → (w : Limit) → Wider limit w → K w (f (x ∷ []))) → Stops (ending text n us) (TextHalts limit K ts)
ending_stops {us = us} {f = f} text n place plain before end = expect_then kind.End us _ (text_unexpected (upto place nothing) before (λ t more e is. plain)) (λ vs c.
    id_else vs _ (λ none. text_unexpected (upto (onto place c.1) nothing) (end c.0 c.2) (λ t more e is. absurd (none t more e is))) (λ y zs e is.
    same_name_stops zs y (stopped (text_wrong (moved (upto (onto place c.1) nothing) e) is (f [], c.0, place.through [] (c.0 ∷ []), c.2) (end c.0 c.2))) (bytes_eq (spelling text n) (spelling text y.word))))

-- ---- the whole

pub theory_stops : (limit : Limit) → IsBelow limit 0 → (text : List ℕ) (ts : Tokens) → Stops (theory limit text ts) (TextHalts limit (TheoryBegun text) ts)
theory_stops limit some text ts =
    bind (heading_sound limit ts) (heading_stops limit text ts) (λ p f.
    let h : Head limit = record {
      t = f.t;
      u = f.u;
      v = f.v;
      b = f.w;
      ts = f.vs;
      fs = p.1;
      id = f.id;
      formals = f.formals;
      colon = f.colon;
      word = f.word;
      begin = f.begin;
    } in
    let place : Place ts (λ q. headed h q) p.2 = behind f.first (past f.split (behind f.last (behind refl (behind refl first)))) in
    let plain : (q : Tokens) → NoEnd q → last_is_end true (headed h q) ≡ false = λ q no_end.
    last_behind f.t (f.vs ++ f.u ∷ f.v ∷ f.w ∷ q) (id_is_no_end f.t f.id) (joined f.vs (f.u ∷ f.v ∷ f.w ∷ q) (formal_part_no_end f.vs p.1 f.formals) (ap is_end f.colon, (ap is_end f.word, (ap is_end f.begin, no_end)))) in
    bind (assuming_part_sound limit p.2)
    (part_into (assuming_part_stops limit some p.2) place (plain [] tt) (begun_no_end (λ ts ds d. assuming_no_end ts ds d)) (λ w wide q g. theory_assuming text (widen_head wide h) g)) (λ q g.
    let no_end : NoEnd g.0 = assuming_no_end g.0 q.0 g.2 in
    bind (many_sound (declaration limit) (DerivesDecl limit) (declaration_sound limit) q.1)
    (part_into (declarations_stops limit some q.1) (beyond place g.1) (plain (g.0 ++ []) (joined g.0 [] no_end tt)) (begun_no_end (many_no_end (λ ts ds d. decl_no_end ts ds d))) (λ w wide r k. theory_decls text (widen_head wide h) (widen_assuming wide g.0 q.0 g.2) k)) (λ r k.
    then_ (ending_stops text p.0 (beyond (beyond place g.1) k.1) (plain (g.0 ++ (k.0 ++ [])) (joined g.0 (k.0 ++ []) no_end (joined k.0 [] (many_no_end (λ ts ds d. decl_no_end ts ds d) k.0 r.0 k.2) tt)))
    (λ w wide. theory_decls text (widen_head wide h) (widen_assuming wide g.0 q.0 g.2) (and_nothing k.0 r.0 (widen_many (λ ts ds d. widen_decl wide ts ds d) k.0 r.0 k.2)))
    (λ x end w wide. theory_end text (widen_head wide h) x (widen_assuming wide g.0 q.0 g.2) (widen_many (λ ts ds d. widen_decl wide ts ds d) k.0 r.0 k.2) end)) (λ e. goes))))
