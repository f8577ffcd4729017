-- Where elaboration begins at a place.
use Rattle.std.proofs.Common.{◌≡◌, ℕ, [], ◌∷◌, sym, ◌∙◌, subst}
use Rattle.pvs_terms.specs.Tree.{TBool, True, False, Var}
use Rattle.pvs_terms.specs.declared.shape.Sort.TheVariants.{OfType, OfTerm}
use Rattle.pvs_sig.specs.Development.{IsDevelopment}
use Rattle.pvs_sig.specs.Lookups.{IsOrdered}
use Rattle.pvs_sig.proofs.RankLaws.{lookups_are_ordered}
use Rattle.pvs_instantiate.specs.InstancesView.{InstancesView, development}
use Rattle.pvs_typing.specs.Answers.{Gives}
use Rattle.pvs_typing.specs.Growth.{IsKnownContext}
use Rattle.pvs_elaboration.specs.declared.here.Here.{Here}
use Rattle.pvs_elaboration.specs.Known.{Known, Grows, AreLocals}
use Rattle.pvs_elaboration.proofs.KnownLaws.{number_stays, tree_stays, grows_trans}
use Rattle.pvs_elaboration.specs.Outermost.{IsOutermost}
use Rattle.pvs_place.specs.Place.{lookups_in, IsLatest}

pub latest_ordered : (v : InstancesView) (n : ℕ) → IsLatest v n → IsDevelopment (development v) → IsOrdered (lookups_in (development v))
latest_ordered v n h standing =
    let over : IsDevelopment (h.signature ∷ h.others) = subst IsDevelopment h.reads standing in
    subst (λ d. IsOrdered (lookups_in d)) (sym h.reads) (lookups_are_ordered h.others h.signature over.2 over.1)

pub outermost_is : {a b c k : Known} {h : Here} → IsOrdered k.lookups → Grows a b → Grows b c → Grows c k
    → Gives a.stored a.declares OfType TBool h.truth → Gives b.stored b.declares OfTerm True h.yes → Gives c.stored c.declares OfTerm False h.no → Gives k.stored k.declares OfTerm (Var 0) h.variable
    → h.locals ≡ [] → h.context.items ≡ [] → h.depth ≡ 0 → IsOutermost k h
outermost_is {a} {b} {c} {k} {h} ordered p q r t y n v locals context depth =
    let later : Grows b k = grows_trans q r in
    let last : Grows a k = grows_trans p later in record {
      here = record {
        locals = subst (AreLocals k h.depth) (sym locals) tt;
        context = subst (IsKnownContext k.stored k.declares) (sym context) tt;
        ordered = ordered;
        truth = number_stays last t.known;
        yes = number_stays later y.known;
        no = number_stays r n.known;
        variable = v.known;
        is_truth = tree_stays last t.known ∙ t.tree;
        is_yes = tree_stays later y.known ∙ y.tree;
        is_no = tree_stays r n.known ∙ n.tree;
        is_variable = v.tree;
      };
      locals = locals;
      context = context;
      depth = depth;
    }
