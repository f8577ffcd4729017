-- Equal nodes are one.
use Rattle.std.proofs.Common.{◌≡◌, Bool, true, ◌&&◌, refl, sym, ap, ap₂, rules, eqb, true≢false}
use Rattle.std.proofs.lemmas.Bool.{eqb-true}
use Rattle.pvs_terms.proofs.TreeLaws.{both}
use Rattle.pvs_terms.specs.declared.node.Node.{Node}
use Rattle.pvs_terms.specs.declared.node.Node.TheVariants.{TBool, TName, TSub, TFun, TPair, Var, Const, True, False, Lam, App, Tup, Fst, Snd, If, Eq}
use Rattle.pvs_terms.specs.contracts.node.NodePartialEq.TheImpl.{ghosts}

abbrev pub node_eq : Node → Node → Bool
node_eq = ghosts.eq

pub node_eq-true : (a b : Node) → node_eq a b ≡ true → a ≡ b
node_eq-true TBool TBool h = refl
node_eq-true (TName r) (TName q) h = ap TName (eqb-true r q h)
node_eq-true (TSub a b) (TSub c d) h = let x = both (eqb a c) (eqb b d) h in ap₂ TSub (eqb-true a c x.0) (eqb-true b d x.1)
node_eq-true (TFun a b) (TFun c d) h = let x = both (eqb a c) (eqb b d) h in ap₂ TFun (eqb-true a c x.0) (eqb-true b d x.1)
node_eq-true (TPair k a b) (TPair l c d) h =
    let x = both (eqb k l) (eqb a c && eqb b d) h in
    let y = both (eqb a c) (eqb b d) x.1 in
    let e = eqb-true k l x.0 in
    let f = eqb-true a c y.0 in
    let g = eqb-true b d y.1 in cc
node_eq-true (Var m) (Var n) h = ap Var (eqb-true m n h)
node_eq-true (Const r) (Const q) h = ap Const (eqb-true r q h)
node_eq-true True True h = refl
node_eq-true False False h = refl
node_eq-true (Lam a b) (Lam c d) h = let x = both (eqb a c) (eqb b d) h in ap₂ Lam (eqb-true a c x.0) (eqb-true b d x.1)
node_eq-true (App a b) (App c d) h = let x = both (eqb a c) (eqb b d) h in ap₂ App (eqb-true a c x.0) (eqb-true b d x.1)
node_eq-true (Tup k a b) (Tup l c d) h =
    let x = both (eqb k l) (eqb a c && eqb b d) h in
    let y = both (eqb a c) (eqb b d) x.1 in
    let e = eqb-true k l x.0 in
    let f = eqb-true a c y.0 in
    let g = eqb-true b d y.1 in cc
node_eq-true (Fst k a) (Fst l c) h = let x = both (eqb k l) (eqb a c) h in ap₂ Fst (eqb-true k l x.0) (eqb-true a c x.1)
node_eq-true (Snd k a) (Snd l c) h = let x = both (eqb k l) (eqb a c) h in ap₂ Snd (eqb-true k l x.0) (eqb-true a c x.1)
node_eq-true (If k a b) (If l c d) h =
    let x = both (eqb k l) (eqb a c && eqb b d) h in
    let y = both (eqb a c) (eqb b d) x.1 in
    let e = eqb-true k l x.0 in
    let f = eqb-true a c y.0 in
    let g = eqb-true b d y.1 in cc
node_eq-true (Eq a b) (Eq c d) h = let x = both (eqb a c) (eqb b d) h in ap₂ Eq (eqb-true a c x.0) (eqb-true b d x.1)
node_eq-true _ _ h = absurd (true≢false (sym h))

pub node_eq-same : (a : Node) → node_eq a a ≡ true
node_eq-same TBool = refl
node_eq-same (TName r) = search rules
node_eq-same (TSub a b) = search rules
node_eq-same (TFun a b) = search rules
node_eq-same (TPair k a b) = search rules
node_eq-same (Var n) = search rules
node_eq-same (Const r) = search rules
node_eq-same True = refl
node_eq-same False = refl
node_eq-same (Lam a b) = search rules
node_eq-same (App a b) = search rules
node_eq-same (Tup k a b) = search rules
node_eq-same (Fst k a) = search rules
node_eq-same (Snd k a) = search rules
node_eq-same (If a b c) = search rules
node_eq-same (Eq a b) = search rules
