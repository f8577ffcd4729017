use Rattle.std.proofs.Common.{◌≡◌, rules, Some, slice_get, sym, subst}
use Rattle.std.specs.Map.{keys_of}
use Rattle.pvs_terms.specs.Tree.{Inst, ref_actuals}
use Rattle.pvs_terms.specs.Stored.{ref_at, text_at, IsName, IsRef}
use Rattle.pvs_sig.specs.Signature.{formals_in}
use Rattle.pvs_sig.specs.Development.{theory_named, MatchFormals}
use Rattle.pvs_instantiate.specs.InstancesView.{InstancesView, development}
use Rattle.pvs_instantiate.proofs.ListLaws.{key_within, pair_at}
use Rattle.pvs_instantiate.proofs.LookupLaws.{found_at}
use Rattle.pvs_instantiate.proofs.PartLaws.{finds, formals_have, sound_after, leaves_after, gives_made, passes_made, no_part}
use Rattle.pvs_instantiate.proofs.instances.Instances.instance_part.Goals as goal

pub theory-found-requires : goal.theory-found-requires
theory-found-requires g c =
    key_within c.self.inside.theories c.in-Some.at c.args.theory (subst (λ z. slice_get (keys_of z.entries) c.in-Some.at ≡ Some c.args.theory) (sym c.self.view_is) c.in-Some.ensures.some)

pub find_or_make-requires-clause-node : goal.find_or_make-requires-clause-node
find_or_make-requires-clause-node g c =
    let key = subst (λ z. slice_get (keys_of z.entries) c.in-Some.at ≡ Some c.args.theory) (sym c.self.view_is) c.in-Some.ensures.some in
    let f = found_at c.self.inside.store c.self.inside.theories c.in-Some.at c.args.theory c.theory-found.result.now c.self.invariant.standing key c.theory-found.ensures in
    c.in-Some-part_of_entry.ensures.stored c.self.inside.store f.stored

pub find_or_make-requires-clause-theory : goal.find_or_make-requires-clause-theory
find_or_make-requires-clause-theory g c = subst (λ z. IsName z.store c.args.theory) (sym c.self.view_is) c.requires.theory

pub find_or_make-requires-clause-reference : goal.find_or_make-requires-clause-reference
find_or_make-requires-clause-reference g c = subst (λ z. IsRef z.store c.args.r) (sym c.self.view_is) c.requires.reference

pub find_or_make-requires-clause-formals : goal.find_or_make-requires-clause-formals
find_or_make-requires-clause-formals g c =
    let v : InstancesView = record { store = c.self.inside.store; entries = c.self.inside.theories; last_stamp = c.self.inside.last_stamp; kept = g.J.Judgements.kept c.self.inside.cache } in
    let key = subst (λ z. slice_get (keys_of z.entries) c.in-Some.at ≡ Some c.args.theory) (sym c.self.view_is) c.in-Some.ensures.some in
    let found = pair_at c.self.inside.theories c.in-Some.at c.args.theory c.theory-found.result.now key c.theory-found.ensures in
    let is = subst (λ z. ref_at z.store c.args.r ≡ Inst (text_at z.store c.args.theory) c.args.number (ref_actuals (ref_at z.store c.args.r))) (sym c.self.view_is) c.requires.is in
    let formals = subst (λ z. MatchFormals (development z) c.requires.formals.0 (formals_in (theory_named (development z) (text_at z.store c.args.theory))) (ref_actuals (ref_at z.store c.args.r))) (sym c.self.view_is) c.requires.formals.1 in
    formals_have v c.in-Some.at c.args.theory c.theory-found.result.now c.self.invariant found c.args.part c.args.number c.args.r c.in-Some-part_of_entry.id is
    (c.in-Some-part_of_entry.ensures.tree c.self.inside.store) c.requires.formals.0 formals

pub find_or_make-requires-clause-found : goal.find_or_make-requires-clause-found
find_or_make-requires-clause-found g c =
    let v : InstancesView = record { store = c.self.inside.store; entries = c.self.inside.theories; last_stamp = c.self.inside.last_stamp; kept = g.J.Judgements.kept c.self.inside.cache } in
    let key = subst (λ z. slice_get (keys_of z.entries) c.in-Some.at ≡ Some c.args.theory) (sym c.self.view_is) c.in-Some.ensures.some in
    let found = pair_at c.self.inside.theories c.in-Some.at c.args.theory c.theory-found.result.now key c.theory-found.ensures in
    let is = subst (λ z. ref_at z.store c.args.r ≡ Inst (text_at z.store c.args.theory) c.args.number (ref_actuals (ref_at z.store c.args.r))) (sym c.self.view_is) c.requires.is in
    finds v c.in-Some.at c.args.theory c.theory-found.result.now c.self.invariant found c.args.part c.args.number c.args.r c.in-Some-part_of_entry.id is
    (c.in-Some-part_of_entry.ensures.tree c.self.inside.store)

pub invariant_of-self : goal.invariant_of-self
invariant_of-self g c =
    let v : InstancesView = record { store = c.self.inside.store; entries = c.self.inside.theories; last_stamp = c.self.inside.last_stamp; kept = g.J.Judgements.kept c.self.inside.cache } in
    let key = subst (λ z. slice_get (keys_of z.entries) c.in-Some.at ≡ Some c.args.theory) (sym c.self.view_is) c.in-Some.ensures.some in
    let found = pair_at c.self.inside.theories c.in-Some.at c.args.theory c.theory-found.result.now key c.theory-found.ensures in
    let is = subst (λ z. ref_at z.store c.args.r ≡ Inst (text_at z.store c.args.theory) c.args.number (ref_actuals (ref_at z.store c.args.r))) (sym c.self.view_is) c.requires.is in
    sound_after v c.in-Some.at c.args.theory c.theory-found.result.now c.self.invariant found c.args.part c.args.number c.args.r c.in-Some-part_of_entry.id is (c.in-Some-part_of_entry.ensures.tree c.self.inside.store)
    c.find_or_make.new.store (g.J.Judgements.kept c.find_or_make.new.cache) (subst (λ z. IsRef z.store c.args.r) (sym c.self.view_is) c.requires.reference) c.in_err-made-in-Some-part_of_entry.ensures.kept c.in_err-made-in-Some-part_of_entry.ensures.pairs

pub invariant_of-self-in-Some-part_of_entry : goal.invariant_of-self-in-Some-part_of_entry
invariant_of-self-in-Some-part_of_entry g c =
    let v : InstancesView = record { store = c.self.inside.store; entries = c.self.inside.theories; last_stamp = c.self.inside.last_stamp; kept = g.J.Judgements.kept c.self.inside.cache } in
    let key = subst (λ z. slice_get (keys_of z.entries) c.in-Some.at ≡ Some c.args.theory) (sym c.self.view_is) c.in-Some.ensures.some in
    let found = pair_at c.self.inside.theories c.in-Some.at c.args.theory c.theory-found.result.now key c.theory-found.ensures in
    let is = subst (λ z. ref_at z.store c.args.r ≡ Inst (text_at z.store c.args.theory) c.args.number (ref_actuals (ref_at z.store c.args.r))) (sym c.self.view_is) c.requires.is in
    sound_after v c.in-Some.at c.args.theory c.theory-found.result.now c.self.invariant found c.args.part c.args.number c.args.r c.in-Some-part_of_entry.id is (c.in-Some-part_of_entry.ensures.tree c.self.inside.store)
    c.find_or_make.new.store (g.J.Judgements.kept c.find_or_make.new.cache) (subst (λ z. IsRef z.store c.args.r) (sym c.self.view_is) c.requires.reference) c.in_ok-made-in-Some-part_of_entry.ensures.kept c.in_ok-made-in-Some-part_of_entry.ensures.pairs

pub returns-in_err-made-in-Some-part_of_entry-clause-kept : goal.returns-in_err-made-in-Some-part_of_entry-clause-kept
returns-in_err-made-in-Some-part_of_entry-clause-kept g c =
    let v : InstancesView = record { store = c.self.inside.store; entries = c.self.inside.theories; last_stamp = c.self.inside.last_stamp; kept = g.J.Judgements.kept c.self.inside.cache } in
    let key = subst (λ z. slice_get (keys_of z.entries) c.in-Some.at ≡ Some c.args.theory) (sym c.self.view_is) c.in-Some.ensures.some in
    let found = pair_at c.self.inside.theories c.in-Some.at c.args.theory c.theory-found.result.now key c.theory-found.ensures in
    let is = subst (λ z. ref_at z.store c.args.r ≡ Inst (text_at z.store c.args.theory) c.args.number (ref_actuals (ref_at z.store c.args.r))) (sym c.self.view_is) c.requires.is in
    rw (← c.self.view_is) (leaves_after v c.in-Some.at c.args.theory c.theory-found.result.now c.self.invariant found c.args.part c.args.number c.args.r c.in-Some-part_of_entry.id is (c.in-Some-part_of_entry.ensures.tree c.self.inside.store)
    c.find_or_make.new.store (g.J.Judgements.kept c.find_or_make.new.cache) (subst (λ z. IsRef z.store c.args.r) (sym c.self.view_is) c.requires.reference) c.in_err-made-in-Some-part_of_entry.ensures.kept c.in_err-made-in-Some-part_of_entry.ensures.pairs)

pub returns-in_err-made-in-Some-part_of_entry-clause-large : goal.returns-in_err-made-in-Some-part_of_entry-clause-large
returns-in_err-made-in-Some-part_of_entry-clause-large g c = λ e.
    let v : InstancesView = record { store = c.self.inside.store; entries = c.self.inside.theories; last_stamp = c.self.inside.last_stamp; kept = g.J.Judgements.kept c.self.inside.cache } in
    let key = subst (λ z. slice_get (keys_of z.entries) c.in-Some.at ≡ Some c.args.theory) (sym c.self.view_is) c.in-Some.ensures.some in
    let found = pair_at c.self.inside.theories c.in-Some.at c.args.theory c.theory-found.result.now key c.theory-found.ensures in
    let is = subst (λ z. ref_at z.store c.args.r ≡ Inst (text_at z.store c.args.theory) c.args.number (ref_actuals (ref_at z.store c.args.r))) (sym c.self.view_is) c.requires.is in
    let large = c.in_err-made-in-Some-part_of_entry.ensures.large (search rules) in
    rw (← c.self.view_is) (passes_made v c.in-Some.at c.args.theory c.theory-found.result.now c.self.invariant found c.args.part c.args.number c.args.r c.in-Some-part_of_entry.id is (c.in-Some-part_of_entry.ensures.tree c.self.inside.store) large)

pub returns-in-None-part_of_entry-clause-ok : goal.returns-in-None-part_of_entry-clause-ok
returns-in-None-part_of_entry-clause-ok g c =
    let v : InstancesView = record { store = c.self.inside.store; entries = c.self.inside.theories; last_stamp = c.self.inside.last_stamp; kept = g.J.Judgements.kept c.self.inside.cache } in
    let key = subst (λ z. slice_get (keys_of z.entries) c.in-Some.at ≡ Some c.args.theory) (sym c.self.view_is) c.in-Some.ensures.some in
    rw (← c.self.view_is)
    (no_part v c.in-Some.at c.args.theory c.theory-found.result.now c.args.part c.args.number (ref_actuals (ref_at c.self.inside.store c.args.r)) c.self.invariant key c.theory-found.ensures (c.in-None-part_of_entry.ensures.tree c.self.inside.store))

pub returns-in_ok-made-in-Some-part_of_entry-clause-ok : goal.returns-in_ok-made-in-Some-part_of_entry-clause-ok
returns-in_ok-made-in-Some-part_of_entry-clause-ok g c =
    let v : InstancesView = record { store = c.self.inside.store; entries = c.self.inside.theories; last_stamp = c.self.inside.last_stamp; kept = g.J.Judgements.kept c.self.inside.cache } in
    let key = subst (λ z. slice_get (keys_of z.entries) c.in-Some.at ≡ Some c.args.theory) (sym c.self.view_is) c.in-Some.ensures.some in
    let found = pair_at c.self.inside.theories c.in-Some.at c.args.theory c.theory-found.result.now key c.theory-found.ensures in
    let is = subst (λ z. ref_at z.store c.args.r ≡ Inst (text_at z.store c.args.theory) c.args.number (ref_actuals (ref_at z.store c.args.r))) (sym c.self.view_is) c.requires.is in
    rw (← c.self.view_is) (gives_made v c.in-Some.at c.args.theory c.theory-found.result.now c.self.invariant found c.args.part c.args.number c.args.r c.in-Some-part_of_entry.id is (c.in-Some-part_of_entry.ensures.tree c.self.inside.store) c.find_or_make.new.store c.in_ok-made-in-Some-part_of_entry.made c.in_ok-made-in-Some-part_of_entry.ensures.ok)

pub returns-in_ok-made-in-Some-part_of_entry-clause-kept : goal.returns-in_ok-made-in-Some-part_of_entry-clause-kept
returns-in_ok-made-in-Some-part_of_entry-clause-kept g c =
    let v : InstancesView = record { store = c.self.inside.store; entries = c.self.inside.theories; last_stamp = c.self.inside.last_stamp; kept = g.J.Judgements.kept c.self.inside.cache } in
    let key = subst (λ z. slice_get (keys_of z.entries) c.in-Some.at ≡ Some c.args.theory) (sym c.self.view_is) c.in-Some.ensures.some in
    let found = pair_at c.self.inside.theories c.in-Some.at c.args.theory c.theory-found.result.now key c.theory-found.ensures in
    let is = subst (λ z. ref_at z.store c.args.r ≡ Inst (text_at z.store c.args.theory) c.args.number (ref_actuals (ref_at z.store c.args.r))) (sym c.self.view_is) c.requires.is in
    rw (← c.self.view_is) (leaves_after v c.in-Some.at c.args.theory c.theory-found.result.now c.self.invariant found c.args.part c.args.number c.args.r c.in-Some-part_of_entry.id is (c.in-Some-part_of_entry.ensures.tree c.self.inside.store)
    c.find_or_make.new.store (g.J.Judgements.kept c.find_or_make.new.cache) (subst (λ z. IsRef z.store c.args.r) (sym c.self.view_is) c.requires.reference) c.in_ok-made-in-Some-part_of_entry.ensures.kept c.in_ok-made-in-Some-part_of_entry.ensures.pairs)
