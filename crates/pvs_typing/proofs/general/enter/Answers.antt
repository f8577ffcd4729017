use Rattle.std.proofs.lemmas.Result.{err_from_is_err_and}
use Rattle.pvs_terms.specs.Stored.{tree_at}
use Rattle.pvs_typing.proofs.GeneralLaws.{simple_enters, simple_fault, function_enters, pair_enters}
use Rattle.pvs_typing.proofs.GrowthLaws.{keeps_none}
use Rattle.pvs_typing.proofs.general.enter.Goals as goal

pub returns-in-TFun : goal.returns-in-TFun
returns-in-TFun g c =
    let t = g.T.Theories in
    let w = c.args.theories.now in
    let n = c.args.theory in
    let h = c.in-TFun.ensures in
    record {
      ok = function_enters ((t.state w).lookups n) c.requires.ordered (t.state w).stored ((t.state w).declares n) (tree_at (t.state w).stored c.args.ty) c.in-TFun.domain c.in-TFun.range h.tree h.parts.0 h.parts.1;
      refused = tt;
      kept = keeps_none _ _ _;
    }

pub returns-in-TPair : goal.returns-in-TPair
returns-in-TPair g c =
    let t = g.T.Theories in
    let w = c.args.theories.now in
    let n = c.args.theory in
    let h = c.in-TPair.ensures in
    record {
      ok = pair_enters ((t.state w).lookups n) c.requires.ordered (t.state w).stored ((t.state w).declares n) (tree_at (t.state w).stored c.args.ty) c.in-TPair.components c.in-TPair.first c.in-TPair.others h.tree h.parts.0 h.parts.1 h.parts.2;
      refused = tt;
      kept = keeps_none _ _ _;
    }

pub returns-in_ok-above-in_default : goal.returns-in_ok-above-in_default
returns-in_ok-above-in_default g c =
    let t = g.T.Theories in
    let w = c.args.theories.now in
    let u = c.next_above.new.theories in
    let n = c.args.theory in
    let h = c.in_ok-above-in_default in
    record {
      ok = simple_enters ((t.state w).lookups n) c.requires.ordered (t.state w).stored (t.state u).stored ((t.state u).declares n) (tree_at (t.state w).stored c.args.ty) c.known_node.result h.above c.known_node.ensures.tree
          (c.in_default.not-TFun, c.in_default.not-TPair) h.ensures.ok h.ensures.known;
      refused = tt;
      kept = h.ensures.kept;
    }

pub returns-in_err-above-in_default : goal.returns-in_err-above-in_default
returns-in_err-above-in_default g c =
    let t = g.T.Theories in
    let w = c.args.theories.now in
    let n = c.args.theory in
    let p = err_from_is_err_and c.from_residual.result c.from_residual.ensures.1 in
    let h = c.in_err-above-in_default in
    rw (p.1, p.2) (record {
      ok = tt;
      refused = simple_fault ((t.state w).lookups n) c.requires.ordered (t.state w).stored (tree_at (t.state w).stored c.args.ty) c.known_node.result h.field-0.0 c.known_node.ensures.tree (c.in_default.not-TFun, c.in_default.not-TPair) h.ensures.refused;
      kept = h.ensures.kept;
    })
