-- Turn after turn.
use Rattle.std.proofs.Common.{◌≡◌, [], map, refl, sym, ◌∙◌}
use Rattle.std.proofs.lemmas.List.{append-nil}
use Rattle.std.specs.Prelude.{Result, Ok, Err}
use Rattle.pvs_phrases.specs.Parts as parts
use Rattle.pvs_elaboration.specs.declared.fault.ElabFault.{ElabFault}
use Rattle.pvs_elaboration.specs.declared.fault.ElabFault.TheVariants as elab_fault
use Rattle.pvs_elaboration.specs.declared.value.Value.{Value}
use Rattle.pvs_elaboration.specs.declared.frame.Control.{Control}
use Rattle.pvs_elaboration.specs.declared.frame.Machine.{Machine}
use Rattle.pvs_elaboration.specs.declared.listing.Listing.{Listing}
use Rattle.pvs_elaboration.specs.Known.{Sources, Known, Grows, AreKnownNumbers, Failed}
use Rattle.pvs_elaboration.specs.Listing.{Lists, IsMore, AddsTo, bytes_of}
use Rattle.pvs_elaboration.specs.Machine.{IsMachine, Goes, Finds, control_numbers, machine_answer}
use Rattle.pvs_elaboration.proofs.KnownLaws.{grows_none, grows_trans, memory_failed}
use Rattle.pvs_elaboration.proofs.ListingLaws.{more_none, more_trans}
use Rattle.pvs_elaboration.proofs.MachineLaws.{finds_after, failed_after}

-- what is listed, with nothing after it
pub sources_of : Listing → Sources
sources_of l = record { phrases = map (parts.phrase_at l.text.now) l.parts.items; places = map (parts.place_in l.text.now) l.places.items; words = bytes_of l.names.items }

pub lists_own : (l : Listing) → Lists l (sources_of l)
unfolding sources_of
lists_own l = record {
  more_phrases = [];
  more_places = [];
  more_words = [];
  phrases = sym (append-nil (map (parts.phrase_at l.text.now) l.parts.items));
  places = sym (append-nil (map (parts.place_in l.text.now) l.places.items));
  words = sym (append-nil (bytes_of l.names.items));
}

pub adds_after : {A : Type 0} {l m : Listing} (o : Listing) (r : Result A ElabFault) → IsMore l m → AddsTo m o r → AddsTo l o r
adds_after o (Ok x) h i = more_trans h i
adds_after o (Err (elab_fault.At f)) h i = more_trans h i
adds_after o (Err elab_fault.Memory) h i = tt

-- What turns have come to: what was listed still is, and the machine has the answer that it had before them.
pub record Runs (a b : Known) (l m : Listing) (n o : Machine) (c d : Control) : Type 0 where
  pub kept : Grows a b
  pub machine : IsMachine b o
  pub control : AreKnownNumbers b (control_numbers d)
  pub more : IsMore l m
  pub is : (t : Sources) → Lists m t → machine_answer a t n c ≡ machine_answer b t o d

pub runs_none : (k : Known) (l : Listing) (n : Machine) (c : Control) → IsMachine k n → AreKnownNumbers k (control_numbers c) → Runs k k l l n n c c
runs_none k l n c i x = record { kept = grows_none k; machine = i; control = x; more = more_none l; is = λ t h. refl }

-- another turn
pub runs_on : {a b e : Known} {l m o : Listing} {n p q : Machine} {c d f : Control} → Runs a b l m n p c d → IsMore m o → ((t : Sources) → Lists o t → Goes b e t (machine_answer b t p d) q f) → Runs a e l o n q c f
runs_on {o = o} r i s =
    let own = s (sources_of o) (lists_own o) in
    record {
      kept = grows_trans r.kept own.kept;
      machine = own.machine;
      control = own.control;
      more = more_trans r.more i;
      is = λ t h. r.is t (i.lists t h) ∙ (s t h).is;
    }

-- a turn that finds the value
pub runs_find : {a b e : Known} {l m o : Listing} {n p : Machine} {c d : Control} (v : Value) → Runs a b l m n p c d → IsMore m o → ((t : Sources) → Lists o t → Finds b e (machine_answer b t p d) v) → (t : Sources) → Lists o t → Finds a e (machine_answer a t n c) v
runs_find {a} {b} {e} {l} {m} {o} {n} {p} {c} {d} v r i s t h = finds_after (machine_answer a t n c) (machine_answer b t p d) v r.kept (r.is t (i.lists t h)) (s t h)

-- a turn that fails
pub runs_fail : (A : Type 0) {a b e : Known} {l m o : Listing} {n p : Machine} {c d : Control} (f : ElabFault) → Runs a b l m n p c d → AddsTo {A = A} m o (Err f) → ((t : Sources) → Lists o t → Failed b e (machine_answer b t p d) f) → (t : Sources) → Lists o t → Failed a e (machine_answer a t n c) f
runs_fail A {a} {b} {n = n} {p} {c} {d} (elab_fault.At f) r i s t h = failed_after (machine_answer a t n c) (machine_answer b t p d) (elab_fault.At f) r.kept (r.is t (i.lists t h)) (s t h)
runs_fail A {a} {n = n} {c = c} elab_fault.Memory r i s t h = memory_failed (machine_answer a t n c) (grows_trans r.kept (s t h).kept)
