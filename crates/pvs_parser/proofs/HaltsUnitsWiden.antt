-- Units, and what they are made of, that are derived within a limit are derived within a wider one.
use Rattle.std.proofs.Common.{ℕ, suc, List, length, Option}
use Rattle.pvs_syntax.specs.declared.word.Word.{Word}
use Rattle.pvs_syntax.specs.declared.expression.Binding.{Binding}
use Rattle.pvs_syntax.specs.declared.expression.Expr.{Expr}
use Rattle.pvs_syntax.specs.declared.expression.InstExpr.{InstExpr}
use Rattle.pvs_syntax.specs.declared.unit.Decl.{Decl}
use Rattle.pvs_syntax.specs.declared.unit.Formal.{Formal}
use Rattle.pvs_syntax.specs.declared.unit.Proof.{Proof}
use Rattle.pvs_syntax.specs.declared.unit.Theory.{Theory}
use Rattle.pvs_parser.specs.Language.{Limit, Tokens}
use Rattle.pvs_parser.specs.Units.{DerivesIds, DerivesFormal, DerivesFormals, DerivesFormalPart, DerivesInstances, DerivesImporting, DerivesVariables, DerivesParameters, DerivesBody, DerivesDecl, DerivesAssumed, DerivesMany, DerivesAssuming, DerivesTheory, Balanced, DerivesProof}
use Rattle.pvs_parser.proofs.Halts.{Wider}
use Rattle.pvs_parser.proofs.HaltsWiden.{wider}

-- ---- formal parameters and instances

pub widen_ids : {limit w : Limit} → Wider limit w → (ts : Tokens) (ws : List Word) → DerivesIds limit ts ws → DerivesIds w ts ws
widen_ids wide _ _ (DerivesIds.one t is) = DerivesIds.one t is
widen_ids wide _ _ (DerivesIds.more t u ts ws is comma d lt) = DerivesIds.more t u ts ws is comma (widen_ids wide ts ws d) (wide.below (length ws) lt)

pub widen_formal : {limit w : Limit} → Wider limit w → (ts : Tokens) (fs : List Formal) → DerivesFormal limit ts fs → DerivesFormal w ts fs
widen_formal wide _ _ (DerivesFormal.types ts us ws nonempty t d colon e) = DerivesFormal.types ts us ws nonempty t (widen_ids wide ts ws d) colon e
widen_formal wide _ _ (DerivesFormal.constants ts us ws a m t d colon e) = DerivesFormal.constants ts us ws a m t (widen_ids wide ts ws d) colon (wider wide e)

pub widen_formals : {limit w : Limit} → Wider limit w → (n : ℕ) (ts : Tokens) (fs : List Formal) → DerivesFormals limit n ts fs → DerivesFormals w n ts fs
widen_formals wide _ _ _ (DerivesFormals.one ts fs d) = DerivesFormals.one ts fs (widen_formal wide ts fs d)
widen_formals wide _ _ _ (DerivesFormals.more n ts us fs gs t d comma e lt) = DerivesFormals.more n ts us fs gs t (widen_formal wide ts fs d) comma (widen_formals wide n us gs e) (wide.below n lt)

pub widen_formal_part : {limit w : Limit} → Wider limit w → (ts : Tokens) (fs : List Formal) → DerivesFormalPart limit ts fs → DerivesFormalPart w ts fs
widen_formal_part wide _ _ DerivesFormalPart.none = DerivesFormalPart.none
widen_formal_part wide _ _ (DerivesFormalPart.formals n ts fs t u is lt d close) = DerivesFormalPart.formals n ts fs t u is (wide.below 0 lt) (widen_formals wide n ts fs d) close

pub widen_instances : {limit w : Limit} → Wider limit w → (ts : Tokens) (is : List InstExpr) → DerivesInstances limit ts is → DerivesInstances w ts is
widen_instances wide _ _ (DerivesInstances.one ts i m d) = DerivesInstances.one ts i m (wider wide d)
widen_instances wide _ _ (DerivesInstances.more ts us i is m t d comma e) = DerivesInstances.more ts us i is m t (wider wide d) comma (widen_instances wide us is e)

pub widen_importing : {limit w : Limit} → Wider limit w → (ts : Tokens) (ds : List Decl) → DerivesImporting limit ts ds → DerivesImporting w ts ds
widen_importing wide _ _ (DerivesImporting.importing ts is t word d) = DerivesImporting.importing ts is t word (widen_instances wide ts is d)

-- ---- declarations

pub widen_variables : {limit w : Limit} → Wider limit w → (ts : Tokens) (ds : List Decl) → DerivesVariables limit ts ds → DerivesVariables w ts ds
widen_variables wide _ _ (DerivesVariables.variables ts us ws a m t u d colon var e) = DerivesVariables.variables ts us ws a m t u (widen_ids wide ts ws d) colon var (wider wide e)

pub widen_parameters : {limit w : Limit} → Wider limit w → (ts : Tokens) (bs : List Binding) → DerivesParameters limit ts bs → DerivesParameters w ts bs
widen_parameters wide _ _ DerivesParameters.none = DerivesParameters.none
widen_parameters wide _ _ (DerivesParameters.parameters ts bs k t u is lt d close) = DerivesParameters.parameters ts bs k t u is (wide.below 0 lt) (wider wide d) close

pub widen_body : {limit w : Limit} → Wider limit w → (ts : Tokens) (x : Option Expr) → DerivesBody limit ts x → DerivesBody w ts x
widen_body wide _ _ DerivesBody.none = DerivesBody.none
widen_body wide _ _ (DerivesBody.body e ts x m t is d) = DerivesBody.body e ts x m t is (wider wide d)

pub widen_decl : {limit w : Limit} → Wider limit w → (ts : Tokens) (ds : List Decl) → DerivesDecl limit ts ds → DerivesDecl w ts ds
widen_decl wide _ _ (DerivesDecl.importing ts ds d) = DerivesDecl.importing ts ds (widen_importing wide ts ds d)
widen_decl wide _ _ (DerivesDecl.types ts us ws nonempty t d colon e) = DerivesDecl.types ts us ws nonempty t (widen_ids wide ts ws d) colon e
widen_decl wide _ _ (DerivesDecl.variables ts ds d) = DerivesDecl.variables ts ds (widen_variables wide ts ds d)
widen_decl wide _ _ (DerivesDecl.constants ts us ws a m t d colon e) = DerivesDecl.constants ts us ws a m t (widen_ids wide ts ws d) colon (wider wide e)
widen_decl wide _ _ (DerivesDecl.type_definition ts a m t u v x is colon type equal d) = DerivesDecl.type_definition ts a m t u v x is colon type equal (wider wide d)
widen_decl wide _ _ (DerivesDecl.constant ts us vs bs a x m t u is d colon e f) = DerivesDecl.constant ts us vs bs a x m t u is (widen_parameters wide ts bs d) colon (wider wide e) (widen_body wide vs x f)
widen_decl wide _ _ (DerivesDecl.formula e ts x f m t u v is colon word d) = DerivesDecl.formula e ts x f m t u v is colon word (wider wide d)

pub widen_assumed : {limit w : Limit} → Wider limit w → (ts : Tokens) (ds : List Decl) → DerivesAssumed limit ts ds → DerivesAssumed w ts ds
widen_assumed wide _ _ (DerivesAssumed.importing ts ds d) = DerivesAssumed.importing ts ds (widen_importing wide ts ds d)
widen_assumed wide _ _ (DerivesAssumed.variables ts ds d) = DerivesAssumed.variables ts ds (widen_variables wide ts ds d)
widen_assumed wide _ _ (DerivesAssumed.assumption_of e ts x m t u v is colon word d) = DerivesAssumed.assumption_of e ts x m t u v is colon word (wider wide d)

-- declarations one after another, of a kind that is one of another kind
pub widen_many : {D E : Tokens → List Decl → Type 0} → ((ts : Tokens) (ds : List Decl) → D ts ds → E ts ds) → (ts : Tokens) (ds : List Decl) → DerivesMany D ts ds → DerivesMany E ts ds
widen_many f _ _ DerivesMany.none = DerivesMany.none
widen_many f _ _ (DerivesMany.more ts ss us ds es d s e) = DerivesMany.more ts ss us ds es (f ts ds d) s (widen_many f us es e)

pub widen_assuming : {limit w : Limit} → Wider limit w → (ts : Tokens) (ds : List Decl) → DerivesAssuming limit ts ds → DerivesAssuming w ts ds
widen_assuming wide _ _ DerivesAssuming.none = DerivesAssuming.none
widen_assuming wide _ _ (DerivesAssuming.assuming ts ds t u is d end) = DerivesAssuming.assuming ts ds t u is (widen_many (λ ts ds d. widen_assumed wide ts ds d) ts ds d) end

-- ---- theories and proofs

pub widen_theory : {limit w : Limit} → Wider limit w → (text : List ℕ) (ts : Tokens) (th : Theory) → DerivesTheory limit text ts th → DerivesTheory w text ts th
widen_theory wide text _ _ (DerivesTheory.theory ts us vs fs hs ds t u v b x y is f colon word begin g h end id same) =
    DerivesTheory.theory ts us vs fs hs ds t u v b x y is (widen_formal_part wide ts fs f) colon word begin (widen_assuming wide us hs g) (widen_many (λ ts ds d. widen_decl wide ts ds d) vs ds h) end id same

pub widen_balanced : {limit w : Limit} → Wider limit w → (n : ℕ) (ts : Tokens) → Balanced limit n ts → Balanced w n ts
widen_balanced wide _ _ (Balanced.nothing n) = Balanced.nothing n
widen_balanced wide _ _ (Balanced.token n ts t plain d) = Balanced.token n ts t plain (widen_balanced wide n ts d)
widen_balanced wide _ _ (Balanced.group n ts us t u opened lt d close e) = Balanced.group n ts us t u opened (wide.below n lt) (widen_balanced wide (suc n) ts d) close (widen_balanced wide n us e)

pub widen_proof : {limit w : Limit} → Wider limit w → (ts : Tokens) (p : Proof) → DerivesProof limit ts p → DerivesProof w ts p
widen_proof wide _ _ (DerivesProof.proof ts t u v d x y z c first word is dot is2 opened lt b close last) =
    DerivesProof.proof ts t u v d x y z c first word is dot is2 opened (wide.below 0 lt) (widen_balanced wide 1 ts b) close last
