-- Theories: what is read is in the grammar, and what is in the grammar is read.
use Rattle.std.proofs.Common.{◌≡◌, ◌∙◌, ℕ, ◌+◌, Bool, true, false, bytes_eq, if◌then◌else◌, List, [], ◌∷◌, ◌++◌, length, None, Ok, Err, refl, sym, ap, subst, append_assoc}
use Rattle.std.proofs.lemmas.Slice.Eq.{bytes_eq-Decides}
use Rattle.pvs_parser.specs.declared.failure.Reason.TheVariants as reason
use Rattle.pvs_parser.specs.declared.terminal.Terminal.{Terminal}
use Rattle.pvs_parser.specs.declared.terminal.TerminalKind.TheVariants as kind
use Rattle.pvs_syntax.specs.declared.word.Word.{Word}
use Rattle.pvs_syntax.specs.declared.unit.Decl.{Decl}
use Rattle.pvs_syntax.specs.declared.unit.Formal.{Formal}
use Rattle.pvs_syntax.specs.declared.unit.Theory.{Theory}
use Rattle.pvs_parser.specs.Terminals.{Is, IsId}
use Rattle.pvs_parser.specs.Language.{Limit, IsBelow, Tokens}
use Rattle.pvs_parser.specs.Units.{DerivesFormalPart, DerivesDecl, DerivesAssumed, DerivesMany, DerivesAssuming, DerivesTheory}
use Rattle.pvs_syntax.specs.Words.{spelling}
use Rattle.pvs_parser.specs.code.Descent.{after}
use Rattle.pvs_parser.specs.code.UnitDescent.{declaration, assuming_decl, assumptions, assuming_part, heading, same_name, ending, theory, many_from}
use Rattle.pvs_parser.proofs.Yields.{Yields, here, none, bind, cases}
use Rattle.pvs_parser.proofs.Gets.{Gets, found, then_, there, absent, takes, names, after_is, both, unglue, from}
use Rattle.pvs_parser.proofs.DescentSteps.{after_yields, expect_yields, id_bind, Splits, glue, put, alone, nothing}
use Rattle.pvs_parser.proofs.Deeper.{Fore}
use Rattle.pvs_parser.proofs.Behind.{colon_bracket}
use Rattle.pvs_parser.proofs.FormalLists.{formal_part_sound, formal_part_complete}
use Rattle.pvs_parser.proofs.Decls.{declaration_sound, assumed_sound}
use Rattle.pvs_parser.proofs.DeclsRead.{declaration_complete, assumed_complete, decl_comes, assumed_comes}
use Rattle.pvs_parser.proofs.Many.{many_sound, many_complete, many_no_assuming, at_end, at_end_assuming}

-- ---- what is read is in the grammar

-- the name and the formals of a theory, up to BEGIN
pub record HeadFront (limit : Limit) (ts : Tokens) (p : Word × List Formal × Tokens) : Type 0 where
  pub t : Terminal
  pub u : Terminal
  pub v : Terminal
  pub w : Terminal
  pub vs : Tokens
  pub us : Tokens
  pub rest : Tokens
  pub first : ts ≡ t ∷ us
  pub split : Splits us vs rest
  pub last : rest ≡ u ∷ v ∷ w ∷ p.2
  pub id : IsId t
  pub formals : DerivesFormalPart limit vs p.1
  pub colon : Is kind.Colon u
  pub word : Is kind.Theory v
  pub begin : Is kind.Begin w
  pub is : t.word ≡ p.0

pub heading_sound : (limit : Limit) (ts : Tokens) → Yields (heading limit ts) (HeadFront limit ts)
heading_sound limit ts = id_bind ts _ (λ t us e is. bind (formal_part_sound limit us) (λ q f. bind (expect_yields kind.Colon q.1) (λ xs a. bind (expect_yields kind.Theory xs) (λ ys b. bind (expect_yields kind.Begin ys) (λ zs c. here (record {
  t = t;
  u = a.0;
  v = b.0;
  w = c.0;
  vs = f.0;
  us = us;
  rest = q.1;
  first = e;
  split = f.1;
  last = a.1 ∙ ap (λ z. a.0 ∷ z) (b.1 ∙ ap (λ z. b.0 ∷ z) c.1);
  id = is;
  formals = f.2;
  colon = a.2;
  word = b.2;
  begin = c.2;
  is = refl;
}))))))

assuming_sound : (limit : Limit) (t : Terminal) (ts us : Tokens) → ts ≡ t ∷ us → Is kind.Assuming t → Yields (assumptions limit us) (Fore (DerivesAssuming limit) ts)
assuming_sound limit t ts us e is =
    bind (many_sound (assuming_decl limit) (DerivesAssumed limit) (assumed_sound limit) us) (λ p f. bind (expect_yields kind.EndAssuming p.1) (λ vs a. here (t ∷ (f.0 ++ a.0 ∷ []), put e (glue f.1 (alone a.1)), DerivesAssuming.assuming f.0 p.0 t a.0 is f.2 a.2)))

pub assuming_part_sound : (limit : Limit) (ts : Tokens) → Yields (assuming_part limit ts) (Fore (DerivesAssuming limit) ts)
assuming_part_sound limit ts = cases
    (λ us a. let c = (after_yields kind.Assuming ts).holds us a in assuming_sound limit c.0 ts us c.1 c.2)
    (λ a. here ([], nothing, DerivesAssuming.none))

-- END and the name of the theory
record EndFront (text : List ℕ) (w : Word) (ts : Tokens) (p : Word × Tokens) : Type 0 where
  x : Terminal
  y : Terminal
  tokens : ts ≡ x ∷ y ∷ p.1
  end : Is kind.End x
  id : IsId y
  is : y.word ≡ p.0
  same : spelling text w ≡ spelling text y.word

same_sound : (text : List ℕ) (w : Word) (ts us : Tokens) (x y : Terminal) → ts ≡ x ∷ y ∷ us → Is kind.End x → IsId y → (b : Bool) → bytes_eq (spelling text w) (spelling text y.word) ≡ b
    → Yields (if b then Ok (y.word, us) else Err (record { left = length us + 1; reason = reason.WrongEnd })) (EndFront text w ts)
same_sound text w ts us x y e end id true is =
    here (record { x = x; y = y; tokens = e; end = end; id = id; is = refl; same = (bytes_eq-Decides (spelling text w) (spelling text y.word)).0 is })
same_sound text w ts us x y e end id false is = none

ending_sound : (text : List ℕ) (w : Word) (ts : Tokens) → Yields (ending text w ts) (EndFront text w ts)
ending_sound text w ts = bind (expect_yields kind.End ts) (λ us a. id_bind us _ (λ y vs e is.
    same_sound text w ts vs a.0 y (a.1 ∙ ap (λ z. a.0 ∷ z) e) a.2 is (bytes_eq (spelling text w) (spelling text y.word)) refl))

abbrev theory_of : Word → List Formal → List Decl → List Decl → Word → Theory
theory_of n fs hs ds last = record { name = n; formals = fs; assuming = hs; decls = ds; end = last.end }

pub theory_sound : (limit : Limit) (text : List ℕ) (ts : Tokens) → Yields (theory limit text ts) (Fore (DerivesTheory limit text) ts)
theory_sound limit text ts =
    bind (heading_sound limit ts) (λ p f. bind (assuming_part_sound limit p.2) (λ q g. bind (many_sound (declaration limit) (DerivesDecl limit) (declaration_sound limit) q.1) (λ r h. bind (ending_sound text p.0 r.1) (λ e k.
    let tokens : Tokens = f.t ∷ (f.vs ++ f.u ∷ f.v ∷ f.w ∷ (g.0 ++ (h.0 ++ k.x ∷ k.y ∷ []))) in
    here (
      tokens,
      put f.first (glue f.split (put f.last (put refl (put refl (glue g.1 (glue h.1 (put k.tokens (alone refl)))))))),
      subst (λ z. DerivesTheory limit text tokens z) (ap (λ z. theory_of z p.1 q.0 r.0 k.y.word) f.is ∙ ap (λ z. theory_of p.0 p.1 q.0 r.0 z) k.is)
          (DerivesTheory.theory f.vs g.0 h.0 p.1 q.0 r.0 f.t f.u f.v f.w k.x k.y f.id f.formals f.colon f.word f.begin g.2 h.2 k.end k.id (ap (spelling text) f.is ∙ k.same)),
    )))))

-- ---- what is in the grammar is read

assuming_complete : (limit : Limit) → IsBelow limit 0 → (ts : Tokens) (ds : List Decl) → DerivesAssuming limit ts ds → (us : Tokens) → after kind.Assuming us ≡ None → Gets (assuming_part limit (ts ++ us)) (ds, us)
assuming_complete limit some _ _ DerivesAssuming.none us no_assuming = absent _ no_assuming found
assuming_complete limit some _ _ (DerivesAssuming.assuming ts ds t u is d end) us no_assuming =
    there _ _ (after_is kind.Assuming t ((ts ++ u ∷ []) ++ us) is)
    (then_ _ (from (λ z. many_from (assuming_decl limit) (length z) [] z) (unglue ts (u ∷ []) both) (many_complete (assuming_decl limit) (DerivesAssumed limit) (assumed_comes limit) (assumed_complete limit some) ts ds d (u ∷ us) (at_end_assuming u us end)))
    (takes kind.EndAssuming u us _ end found))

same_goes : (text : List ℕ) (w : Word) (p : Word × Tokens) → spelling text w ≡ spelling text p.0 → Gets (same_name text w p) p
same_goes text w p e =
    record { is = ap (λ b. if b then Ok p else Err (record { left = length p.1 + 1; reason = reason.WrongEnd })) ((bytes_eq-Decides (spelling text w) (spelling text p.0)).1 e) }

theory_goes : (limit : Limit) → IsBelow limit 0 → (text : List ℕ) (ts us vs : Tokens) (fs : List Formal) (hs ds : List Decl) (t u v w x y : Terminal) → IsId t → DerivesFormalPart limit ts fs → Is kind.Colon u → Is kind.Theory v → Is kind.Begin w
    → DerivesAssuming limit us hs → DerivesMany (DerivesDecl limit) vs ds → Is kind.End x → IsId y → spelling text t.word ≡ spelling text y.word → (rest : Tokens)
    → Gets (theory limit text (t ∷ (ts ++ u ∷ v ∷ w ∷ (us ++ (vs ++ x ∷ y ∷ rest))))) (theory_of t.word fs hs ds y.word, rest)
theory_goes limit some text ts us vs fs hs ds t u v w x y is f colon word begin g h end id same rest =
    let behind : Tokens = us ++ (vs ++ x ∷ y ∷ rest) in
    then_ _ (names t (ts ++ u ∷ v ∷ w ∷ behind) _ is (then_ _ (formal_part_complete limit ts fs f (ts ++ u ∷ v ∷ w ∷ behind) (u ∷ v ∷ w ∷ behind) both (colon_bracket u (v ∷ w ∷ behind) colon))
    (takes kind.Colon u (v ∷ w ∷ behind) _ colon (takes kind.Theory v (w ∷ behind) _ word (takes kind.Begin w behind _ begin found)))))
    (then_ _ (assuming_complete limit some us hs g (vs ++ x ∷ y ∷ rest) (many_no_assuming (DerivesDecl limit) (decl_comes limit) vs ds h (x ∷ y ∷ rest) (at_end x (y ∷ rest) end)))
    (then_ _ (many_complete (declaration limit) (DerivesDecl limit) (decl_comes limit) (declaration_complete limit some) vs ds h (x ∷ y ∷ rest) (at_end x (y ∷ rest) end))
    (then_ _ (takes kind.End x (y ∷ rest) _ end (names y rest _ id (same_goes text t.word (y.word, rest) same))) found)))

pub theory_complete : (limit : Limit) → IsBelow limit 0 → (text : List ℕ) (ts : Tokens) (th : Theory) → DerivesTheory limit text ts th → (us : Tokens) → Gets (theory limit text (ts ++ us)) (th, us)
theory_complete limit some text _ _ (DerivesTheory.theory ts us vs fs hs ds t u v w x y is f colon word begin g h end id same) rest =
    subst (λ z. Gets (theory limit text (t ∷ z)) (theory_of t.word fs hs ds y.word, rest))
    (sym (append_assoc ts (u ∷ v ∷ w ∷ (us ++ (vs ++ x ∷ y ∷ []))) rest ∙ ap (λ z. ts ++ u ∷ v ∷ w ∷ z) (append_assoc us (vs ++ x ∷ y ∷ []) rest ∙ ap (λ z. us ++ z) (append_assoc vs (x ∷ y ∷ []) rest))))
    (theory_goes limit some text ts us vs fs hs ds t u v w x y is f colon word begin g h end id same rest)

-- a theory begins with an identifier
pub theory_begins : (limit : Limit) (text : List ℕ) (ts : Tokens) (th : Theory) → DerivesTheory limit text ts th → (t : Terminal) × (vs : Tokens) × (ts ≡ t ∷ vs) × IsId t
theory_begins limit text _ _ (DerivesTheory.theory ts us vs fs hs ds t u v w x y is f colon word begin g h end id same) = (t, ts ++ u ∷ v ∷ w ∷ (us ++ (vs ++ x ∷ y ∷ [])), refl, is)
