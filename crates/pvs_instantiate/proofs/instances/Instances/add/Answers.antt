use Rattle.std.proofs.Common.{◌≡◌, [], ◌∷◌, ◌++◌, map, sym, ap, ap₂, ◌∙◌, subst, arith}
use Rattle.pvs_terms.specs.Stored.{text_at}
use Rattle.pvs_sig.specs.SignatureAt.{signature_at, SignatureIn}
use Rattle.pvs_sig.specs.Development.{theory_named, IsSignatureOver}
use Rattle.pvs_instantiate.specs.Standing.{signatures, theories_after, entry_stamp}
use Rattle.pvs_instantiate.specs.InstancesView.{InstancesView, development, stamps}
use Rattle.pvs_instantiate.specs.Soundness.{IsSound}
use Rattle.pvs_instantiate.specs.Grown.{IsNewStamp}
use Rattle.pvs_instantiate.proofs.ListLaws.{on_err}
use Rattle.pvs_instantiate.proofs.LookupLaws.{is_absent}
use Rattle.pvs_instantiate.proofs.ChangeLaws.{added_sound, added_development, added_stamp, added_stamps}
use Rattle.pvs_instantiate.proofs.instances.Instances.add.Goals as goal

pub stamp_after-stamp-requires : goal.stamp_after-stamp-requires
stamp_after-stamp-requires g c = omega (arith, ap (λ z. z.last_stamp) c.self.view_is, c.leave_stamp.ensures.room)

pub push-requires : goal.push-requires
push-requires g c =
    let dev : theories_after [] (signatures c.self.inside.store c.self.inside.theories) ≡ development c.args.self.now = ap development c.self.view_is ∙ c.leave_stamp.ensures.development in
    let store : c.self.inside.store ≡ c.args.self.now.store = ap (λ z. z.store) c.self.view_is ∙ c.leave_stamp.ensures.store in
    is_absent c.self.inside.store c.self.inside.theories c.args.signature.name c.self.invariant.standing (ap₂ (λ d s. theory_named d (text_at s c.args.signature.name)) dev store ∙ c.requires.new)

pub invariant_of-self : goal.invariant_of-self
invariant_of-self g c = subst (λ l. IsSound (record { store = c.self.inside.store; entries = l; last_stamp = c.self.inside.last_stamp; kept = g.J.Judgements.kept c.self.inside.cache })) (sym c.in_err-push.ensures.err) c.self.invariant

pub returns-in_err-push-clause-err : goal.returns-in_err-push-clause-err
returns-in_err-push-clause-err g c =
    let dev : theories_after [] (signatures c.self.inside.store c.self.inside.theories) ≡ development c.args.self.now = ap development c.self.view_is ∙ c.leave_stamp.ensures.development in
    let store : c.self.inside.store ≡ c.args.self.now.store = ap (λ z. z.store) c.self.view_is ∙ c.leave_stamp.ensures.store in
    on_err c.from_residual.result (ap (λ l. theories_after [] (signatures c.self.inside.store l)) c.in_err-push.ensures.err ∙ dev)

pub returns-in_err-push-clause-store : goal.returns-in_err-push-clause-store
returns-in_err-push-clause-store g c = ap (λ z. z.store) c.self.view_is ∙ c.leave_stamp.ensures.store

pub invariant_of-self-2 : goal.invariant_of-self-2
invariant_of-self-2 g c =
    let dev : theories_after [] (signatures c.self.inside.store c.self.inside.theories) ≡ development c.args.self.now = ap development c.self.view_is ∙ c.leave_stamp.ensures.development in
    let store : c.self.inside.store ≡ c.args.self.now.store = ap (λ z. z.store) c.self.view_is ∙ c.leave_stamp.ensures.store in
    let v : InstancesView = record { store = c.self.inside.store; entries = c.self.inside.theories; last_stamp = c.self.inside.last_stamp; kept = g.J.Judgements.kept c.self.inside.cache } in
    let new = ap₂ (λ d s. theory_named d (text_at s c.args.signature.name)) dev store ∙ c.requires.new in
    let stored = subst (λ s. SignatureIn s c.args.signature) (sym store) c.requires.stored in
    let over = subst (λ d. IsSignatureOver d (signature_at c.self.inside.store c.args.signature)) (sym dev) (subst (λ s. IsSignatureOver (development c.args.self.now) (signature_at s c.args.signature)) (sym store) c.requires.over) in
    subst (λ l. IsSound (record { store = c.self.inside.store; entries = l; last_stamp = c.stamp_after-stamp.result; kept = g.J.Judgements.kept c.self.inside.cache })) (sym c.in_ok-push.ensures.ok) (added_sound v c.args.signature c.stamp_after-stamp.result c.self.invariant stored new over c.stamp_after-stamp.ensures)

pub returns-clause-ok : goal.returns-clause-ok
returns-clause-ok g c =
    let dev : theories_after [] (signatures c.self.inside.store c.self.inside.theories) ≡ development c.args.self.now = ap development c.self.view_is ∙ c.leave_stamp.ensures.development in
    let store : c.self.inside.store ≡ c.args.self.now.store = ap (λ z. z.store) c.self.view_is ∙ c.leave_stamp.ensures.store in
    let v : InstancesView = record { store = c.self.inside.store; entries = c.self.inside.theories; last_stamp = c.self.inside.last_stamp; kept = g.J.Judgements.kept c.self.inside.cache } in
    let new = ap₂ (λ d s. theory_named d (text_at s c.args.signature.name)) dev store ∙ c.requires.new in
    let stored = subst (λ s. SignatureIn s c.args.signature) (sym store) c.requires.stored in
    let over = subst (λ d. IsSignatureOver d (signature_at c.self.inside.store c.args.signature)) (sym dev) (subst (λ s. IsSignatureOver (development c.args.self.now) (signature_at s c.args.signature)) (sym store) c.requires.over) in
    ap (λ l. theories_after [] (signatures c.self.inside.store l)) c.in_ok-push.ensures.ok ∙ added_development v c.args.signature c.stamp_after-stamp.result c.self.invariant stored new over c.stamp_after-stamp.ensures
    ∙ ap₂ (λ d s. signature_at s c.args.signature ∷ d) dev store

pub returns-clause-stamp : goal.returns-clause-stamp
returns-clause-stamp g c =
    let dev : theories_after [] (signatures c.self.inside.store c.self.inside.theories) ≡ development c.args.self.now = ap development c.self.view_is ∙ c.leave_stamp.ensures.development in
    let store : c.self.inside.store ≡ c.args.self.now.store = ap (λ z. z.store) c.self.view_is ∙ c.leave_stamp.ensures.store in
    let v : InstancesView = record { store = c.self.inside.store; entries = c.self.inside.theories; last_stamp = c.self.inside.last_stamp; kept = g.J.Judgements.kept c.self.inside.cache } in
    let new = ap₂ (λ d s. theory_named d (text_at s c.args.signature.name)) dev store ∙ c.requires.new in
    let stored = subst (λ s. SignatureIn s c.args.signature) (sym store) c.requires.stored in
    let over = subst (λ d. IsSignatureOver d (signature_at c.self.inside.store c.args.signature)) (sym dev) (subst (λ s. IsSignatureOver (development c.args.self.now) (signature_at s c.args.signature)) (sym store) c.requires.over) in
    subst (λ s. IsNewStamp (record { store = c.self.inside.store; entries = c.push.new.self; last_stamp = c.stamp_after-stamp.result; kept = g.J.Judgements.kept c.self.inside.cache }) (text_at s c.args.signature.name) c.stamp_after-stamp.result) store
    (subst (λ l. IsNewStamp (record { store = c.self.inside.store; entries = l; last_stamp = c.stamp_after-stamp.result; kept = g.J.Judgements.kept c.self.inside.cache }) (text_at c.self.inside.store c.args.signature.name) c.stamp_after-stamp.result) (sym c.in_ok-push.ensures.ok) (added_stamp v c.args.signature c.stamp_after-stamp.result c.self.invariant stored new over c.stamp_after-stamp.ensures))

pub returns-clause-store : goal.returns-clause-store
returns-clause-store g c = ap (λ z. z.store) c.self.view_is ∙ c.leave_stamp.ensures.store

pub returns-clause-others : goal.returns-clause-others
returns-clause-others g c = λ h.
    let dev : theories_after [] (signatures c.self.inside.store c.self.inside.theories) ≡ development c.args.self.now = ap development c.self.view_is ∙ c.leave_stamp.ensures.development in
    let store : c.self.inside.store ≡ c.args.self.now.store = ap (λ z. z.store) c.self.view_is ∙ c.leave_stamp.ensures.store in
    let v : InstancesView = record { store = c.self.inside.store; entries = c.self.inside.theories; last_stamp = c.self.inside.last_stamp; kept = g.J.Judgements.kept c.self.inside.cache } in
    let new = ap₂ (λ d s. theory_named d (text_at s c.args.signature.name)) dev store ∙ c.requires.new in
    let stored = subst (λ s. SignatureIn s c.args.signature) (sym store) c.requires.stored in
    let over = subst (λ d. IsSignatureOver d (signature_at c.self.inside.store c.args.signature)) (sym dev) (subst (λ s. IsSignatureOver (development c.args.self.now) (signature_at s c.args.signature)) (sym store) c.requires.over) in
    let same = c.self.view_is ∙ c.leave_stamp.ensures.same h in (
      ap (λ l. map (entry_stamp c.self.inside.store) l) c.in_ok-push.ensures.ok ∙ added_stamps v c.args.signature c.stamp_after-stamp.result c.self.invariant stored new over c.stamp_after-stamp.ensures ∙ ap (λ z. stamps z ++ (text_at z.store c.args.signature.name, c.stamp_after-stamp.result) ∷ []) same,
      ap (λ z. z.kept) same,
    )

pub returns-clause-anew : goal.returns-clause-anew
returns-clause-anew g c = λ h.
    let dev : theories_after [] (signatures c.self.inside.store c.self.inside.theories) ≡ development c.args.self.now = ap development c.self.view_is ∙ c.leave_stamp.ensures.development in
    let store : c.self.inside.store ≡ c.args.self.now.store = ap (λ z. z.store) c.self.view_is ∙ c.leave_stamp.ensures.store in
    let v : InstancesView = record { store = c.self.inside.store; entries = c.self.inside.theories; last_stamp = c.self.inside.last_stamp; kept = g.J.Judgements.kept c.self.inside.cache } in
    let new = ap₂ (λ d s. theory_named d (text_at s c.args.signature.name)) dev store ∙ c.requires.new in
    let stored = subst (λ s. SignatureIn s c.args.signature) (sym store) c.requires.stored in
    let over = subst (λ d. IsSignatureOver d (signature_at c.self.inside.store c.args.signature)) (sym dev) (subst (λ s. IsSignatureOver (development c.args.self.now) (signature_at s c.args.signature)) (sym store) c.requires.over) in
    let anew = c.leave_stamp.ensures.anew h in
    let numbers = ap₂ (λ s l. map (entry_stamp s) l) store (ap (λ z. z.entries) c.self.view_is ∙ anew.1) in (
      ap (λ l. map (entry_stamp c.self.inside.store) l) c.in_ok-push.ensures.ok ∙ added_stamps v c.args.signature c.stamp_after-stamp.result c.self.invariant stored new over c.stamp_after-stamp.ensures ∙ ap₂ (λ l s. l ++ (text_at s c.args.signature.name, c.stamp_after-stamp.result) ∷ []) numbers store,
      ap (λ z. z.kept) c.self.view_is ∙ anew.0,
    )

pub returns-in_err-push-clause-refused : goal.returns-in_err-push-clause-refused
returns-in_err-push-clause-refused g c =
    on_err c.from_residual.result
    (λ h. ap (λ l. record { store = c.self.inside.store; entries = l; last_stamp = c.self.inside.last_stamp; kept = g.J.Judgements.kept c.self.inside.cache }) c.in_err-push.ensures.err ∙ c.self.view_is ∙ c.leave_stamp.ensures.same h)
