-- A theory of a new name leaves all over the others as it was.
use Rattle.std.proofs.Common.{◌≡◌, ◌∷◌, None, refl, ap}
use Rattle.pvs_terms.specs.Tree.{Ref, Own, Formal, Inst}
use Rattle.pvs_sig.specs.Signature.{Signature, kind_in, instantiate_found}
use Rattle.pvs_sig.specs.Development.{Development, theory_named, kind_of, IsRefOver}
use Rattle.pvs_sig.specs.Laws.{AdditionKeeps, IsOverAll, KindsAreOver, ReachIsOver, WholeIsScope}
use Rattle.pvs_sig.proofs.DeclaredLaws.{same_look_up, later_signature, later_ref}
use Rattle.pvs_sig.proofs.DevelopmentLaws.{theory_stands, same_scope, kind_over}
use Rattle.pvs_sig.proofs.ReachLaws.{reach_over}

pub same_kind : (x : Signature) (d : Development) (s : Signature) → theory_named d x.name ≡ None → (r : Ref) → IsRefOver d s r → kind_of (x ∷ d) s r ≡ kind_of d s r
same_kind x d s new (Own n) h = refl
same_kind x d s new (Formal n) h = refl
same_kind x d s new (Inst c n xs) h = ap (λ z. instantiate_found (kind_in z n) c xs) (same_look_up x d c new h.0)

pub addition_keeps : AdditionKeeps
addition_keeps = λ d x s new over. (later_signature x d s new over, (λ r h. (later_ref x d s new r h, same_kind x d s new r h)), λ i. same_scope x d s i new over)

pub is_over_all : IsOverAll
is_over_all = λ d th s standing named. (theory_stands d standing th s named).over

pub kinds_are_over : KindsAreOver
kinds_are_over = λ d s r k standing over h e. kind_over d s r k standing over h e

pub reach_is_over : ReachIsOver
reach_is_over = λ d s i r standing over h. reach_over d s standing over i r h

pub whole_is_scope : WholeIsScope
whole_is_scope = λ d th s standing named. (theory_stands d standing th s named).at_end
