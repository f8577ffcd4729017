-- The most general form by steps into a type and out of the types around it.
use Rattle.std.proofs.Common.{◌≡◌, ℕ, ◌+◌, ◌<◌, ◌≤◌, true, false, cond, List, [], ◌∷◌, ◌++◌, Option, Some, None, Result, Ok, Err, refl, ap, ap₂, ◌∙◌, sym, subst, arith}
use Rattle.pvs_base.specs.Answers.{◌>>=◌}
use Rattle.pvs_base.specs.declared.code.Code.{Code}
use Rattle.pvs_base.specs.declared.code.Code.TheVariants.{TooLarge}
use Rattle.pvs_terms.specs.Tree.{Tree, Ref, TFun, TPair, IsWithinLimits}
use Rattle.pvs_terms.specs.declared.node.Node.{Node}
use Rattle.pvs_terms.specs.declared.node.Node.TheVariants as node
use Rattle.pvs_terms.specs.declared.shape.Sort.{Sort}
use Rattle.pvs_terms.specs.declared.shape.Sort.TheVariants.{OfType}
use Rattle.pvs_terms.specs.Stored.{Stored, tree_at, node_tree}
use Rattle.pvs_sig.specs.Development.{Development}
use Rattle.pvs_sig.specs.Lookups.{Lookups, IsOrdered}
use Rattle.pvs_types.specs.Forms.{by_body, mentions, most_by, most, small_tree}
use Rattle.pvs_types.proofs.FormsLaws.{most_step}
use Rattle.pvs_types.proofs.LimitsLaws.{limits_decided}
use Rattle.pvs_typing.specs.declared.fault.TypeFault.{TypeFault}
use Rattle.pvs_typing.specs.declared.fault.TypeFault.TheVariants as fault
use Rattle.pvs_typing.specs.declared.general.Frame.{Frame}
use Rattle.pvs_typing.specs.declared.general.Frame.TheVariants.{Range, Others, First}
use Rattle.pvs_typing.specs.declared.general.Inside.{Inside}
use Rattle.pvs_typing.specs.Above.{next_above}
use Rattle.pvs_typing.specs.Growth.{IsKnown, Keeps}
use Rattle.pvs_typing.specs.Answers.{Gives, IsRefusal, IsOptionKnown, tree_option}
use Rattle.pvs_typing.specs.code.Frames.{Around, AreKnownFrames, Enters, IsKnownFrame, down_work, frame_result, frame_work, frames_after, frames_result, frames_work}
use Rattle.pvs_typing.proofs.GrowthLaws.{known_kept}
use Rattle.pvs_typing.proofs.FormsOver.{next_smaller}
use Rattle.pvs_typing.proofs.TaskLaws.{size_positive}

-- Steps into a type.

abbrev pub IsNoCompound : Node → Type 0
IsNoCompound n = ((a b : ℕ) → n ≡ node.TFun a b → ⊥) × ((k a b : ℕ) → n ≡ node.TPair k a b → ⊥)

simple_case : (l : Lookups) (s : Stored) (go : Tree → Result Tree Code) (n : Node) → IsNoCompound n → most_by l go (node_tree s n) ≡ (next_above l (node_tree s n) >>= by_body go (Ok (node_tree s n)))
simple_case l s go (node.TFun a b) h = absurd (h.0 a b refl)
simple_case l s go (node.TPair k a b) h = absurd (h.1 k a b refl)
simple_case l s go node.TBool h = refl
simple_case l s go (node.TName r) h = refl
simple_case l s go (node.TSub a p) h = refl
simple_case l s go (node.Var n) h = refl
simple_case l s go (node.Const r) h = refl
simple_case l s go node.True h = refl
simple_case l s go node.False h = refl
simple_case l s go (node.Lam a b) h = refl
simple_case l s go (node.App a b) h = refl
simple_case l s go (node.Tup k a b) h = refl
simple_case l s go (node.Fst k a) h = refl
simple_case l s go (node.Snd k a) h = refl
simple_case l s go (node.If a b c) h = refl
simple_case l s go (node.Eq a b) h = refl

simple_most : (l : Lookups) → IsOrdered l → (s : Stored) (t : Tree) (n : Node) → t ≡ node_tree s n → IsNoCompound n → most l t ≡ (next_above l t >>= by_body (most l) (Ok t))
simple_most l ordered s t n e h = most_step l ordered t ∙ rw e (simple_case l s (most l) n h)

pub simple_enters : (l : Lookups) → IsOrdered l → (s u : Stored) (R : Sort → Ref → Type 0) (t : Tree) (n : Node) (o : Option ℕ) → t ≡ node_tree s n → IsNoCompound n → next_above l t ≡ Ok (tree_option u o) → IsOptionKnown u R o
    → Enters l u R t (record { frame = None; ty = o })
simple_enters l ordered s u R t n None e h x k = record {
  known = refl;
  result = simple_most l ordered s t n e h ∙ ap (λ y. y >>= by_body (most l) (Ok t)) x;
  less = let p = size_positive l.rank t in omega arith;
}
simple_enters l ordered s u R t n (Some i) e h x k = record {
  known = k;
  result = simple_most l ordered s t n e h ∙ ap (λ y. y >>= by_body (most l) (Ok t)) x;
  less = let q = next_smaller l ordered t (tree_at u i) x in omega arith;
}

pub simple_fault : (l : Lookups) → IsOrdered l → (s : Stored) (t : Tree) (n : Node) (e : TypeFault) → t ≡ node_tree s n → IsNoCompound n → IsRefusal (next_above l t) e → IsRefusal (most l t) e
simple_fault l ordered s t n (fault.Refused c) e h r = simple_most l ordered s t n e h ∙ ap (λ y. y >>= by_body (most l) (Ok t)) r
simple_fault l ordered s t n fault.Memory e h r = tt

pub function_enters : (l : Lookups) → IsOrdered l → (s : Stored) (P : Sort → Ref → Type 0) (t : Tree) (a b : ℕ) → t ≡ TFun (tree_at s a) (tree_at s b) → IsKnown s P OfType a → IsKnown s P OfType b
    → Enters l s P t (record { frame = Some (Range a); ty = Some b })
function_enters l ordered s P t a b e h k = record {
  known = (h, k);
  result = most_step l ordered t ∙ ap (most_by l (most l)) e;
  less = rw e (omega arith);
}

pub pair_enters : (l : Lookups) → IsOrdered l → (s : Stored) (P : Sort → Ref → Type 0) (t : Tree) (k a b : ℕ) → t ≡ TPair k (tree_at s a) (tree_at s b) → 2 ≤ k → IsKnown s P OfType a → IsKnown s P OfType b
    → Enters l s P t (record { frame = Some (Others k a); ty = Some b })
pair_enters l ordered s P t k a b e j h i = record {
  known = ((j, h), i);
  result = most_step l ordered t ∙ ap (most_by l (most l)) e;
  less = rw e (omega arith);
}

-- Frames, and where the store grows.

module _ (l : Lookups) (s : Stored) where
  frames_last : (fs : List Frame) (f : Frame) (x : Result Tree Code) → frames_result l s (fs ++ f ∷ []) x ≡ frames_result l s fs (frame_result l s f x)
  frames_last [] f x = refl
  frames_last (g ∷ fs) f x = ap (frame_result l s g) (frames_last fs f x)

  frames_work_last : (fs : List Frame) (f : Frame) → frames_work l s (fs ++ f ∷ []) ≡ frames_work l s fs + frame_work l s f
  frames_work_last [] f = omega arith
  frames_work_last (g ∷ fs) f = let h = frames_work_last fs f in omega arith

  frame_refused : (f : Frame) (c : Code) → frame_result l s f (Err c) ≡ Err c
  frame_refused (Range a) c = refl
  frame_refused (Others k a) c = refl
  frame_refused (First k b) c = refl

  frames_refused : (fs : List Frame) (c : Code) → frames_result l s fs (Err c) ≡ Err c
  frames_refused [] c = refl
  frames_refused (f ∷ fs) c = ap (frame_result l s f) (frames_refused fs c) ∙ frame_refused f c

  pub frames_fault : (fs : List Frame) (x r : Result Tree Code) (e : TypeFault) → r ≡ frames_result l s fs x → IsRefusal x e → IsRefusal r e
  frames_fault fs x r (fault.Refused c) h k = h ∙ ap (frames_result l s fs) k ∙ frames_refused fs c
  frames_fault fs x r fault.Memory h k = tt

known_frames-append : (s : Stored) (P : Sort → Ref → Type 0) (fs : List Frame) (f : Frame) → AreKnownFrames s P fs → IsKnownFrame s P f → AreKnownFrames s P (fs ++ f ∷ [])
known_frames-append s P [] f h k = (k, tt)
known_frames-append s P (g ∷ fs) f h k = (h.0, known_frames-append s P fs f h.1 k)

pub known_frames-split : (s : Stored) (P : Sort → Ref → Type 0) (fs gs : List Frame) (f : Frame) → gs ≡ fs ++ f ∷ [] → AreKnownFrames s P gs → AreKnownFrames s P fs × IsKnownFrame s P f
known_frames-split s P fs gs f e h = go fs (subst (AreKnownFrames s P) e h)
  where
    go : (xs : List Frame) → AreKnownFrames s P (xs ++ f ∷ []) → AreKnownFrames s P xs × IsKnownFrame s P f
    go [] h = (tt, h.0)
    go (g ∷ xs) h = let r = go xs h.1 in ((h.0, r.0), r.1)

module _ {s t : Stored} {P Q : Sort → Ref → Type 0} {l m : Lookups} {D E : Development} (k : Keeps s P l t Q m D E) where
  frame_kept : (f : Frame) → IsKnownFrame s P f → IsKnownFrame t Q f
  frame_kept (Range a) h = known_kept OfType a k h
  frame_kept (Others n a) h = (h.0, known_kept OfType a k h.1)
  frame_kept (First n b) h = (h.0, known_kept OfType b k h.1)

  pub frames_kept : (fs : List Frame) → AreKnownFrames s P fs → AreKnownFrames t Q fs
  frames_kept [] h = tt
  frames_kept (f ∷ fs) h = (frame_kept f h.0, frames_kept fs h.1)

  frame_same : (n : Lookups) (f : Frame) (x : Result Tree Code) → IsKnownFrame s P f → frame_result n t f x ≡ frame_result n s f x
  frame_same n (Range a) x h = rw (k.stored.trees a h.node) refl
  frame_same n (Others j a) x h = rw (k.stored.trees a h.1.node) refl
  frame_same n (First j b) x h = rw (k.stored.trees b h.1.node) refl

  pub frames_same : (n : Lookups) (fs : List Frame) (x : Result Tree Code) → AreKnownFrames s P fs → frames_result n t fs x ≡ frames_result n s fs x
  frames_same n [] x h = refl
  frames_same n (f ∷ fs) x h = frame_same n f (frames_result n t fs x) h.0 ∙ ap (frame_result n s f) (frames_same n fs x h.1)

  frame_work_same : (n : Lookups) (f : Frame) → IsKnownFrame s P f → frame_work n t f ≡ frame_work n s f
  frame_work_same n (Range a) h = refl
  frame_work_same n (Others j a) h = rw (k.stored.trees a h.1.node) refl
  frame_work_same n (First j b) h = refl

  pub frames_work_same : (n : Lookups) (fs : List Frame) → AreKnownFrames s P fs → frames_work n t fs ≡ frames_work n s fs
  frames_work_same n [] h = refl
  frames_work_same n (f ∷ fs) h = ap₂ ◌+◌ (frame_work_same n f h.0) (frames_work_same n fs h.1)

-- Into the innermost type.

-- the frames around a type that is to be widened, no more work than that
pub record Descends (l : Lookups) (s : Stored) (P : Sort → Ref → Type 0) (r : Result Tree Code) (bound : ℕ) (fs : List Frame) (i : ℕ) : Type 0 where
  pub frames : AreKnownFrames s P fs
  pub ty : IsKnown s P OfType i
  pub result : r ≡ frames_result l s fs (most l (tree_at s i))
  pub work : frames_work l s fs + down_work l (tree_at s i) ≤ bound

pub descent_goes_on : {t u : Stored} {Q R : Sort → Ref → Type 0} {l m n : Lookups} {E F : Development} {r : Result Tree Code} {w : ℕ} (fs gs : List Frame) (i j : ℕ) (f : Option Frame) → Descends l t Q r w fs i → Keeps t Q m u R n E F → m ≡ l
    → Enters m u R (tree_at t i) (record { frame = f; ty = Some j }) → gs ≡ frames_after fs f → Descends l u R r w gs j
descent_goes_on {t} {u} {Q} {R} {l} fs gs i j None h k e x g =
    let x : Enters l u R (tree_at t i) (record { frame = None; ty = Some j }) = rw e at x in
    rw g (record {
      frames = frames_kept k fs h.frames;
      ty = x.known;
      result = h.result ∙ ap (frames_result l t fs) x.result ∙ sym (frames_same k l fs (most l (tree_at u j)) h.frames);
      work = rw (frames_work_same k l fs h.frames) (omega (arith, x.less, h.work));
    })
descent_goes_on {t} {u} {Q} {R} {l} fs gs i j (Some f) h k e x g =
    let x : Enters l u R (tree_at t i) (record { frame = Some f; ty = Some j }) = rw e at x in
    rw g (record {
      frames = known_frames-append u R fs f (frames_kept k fs h.frames) x.known.0;
      ty = x.known.1;
      result = h.result ∙ ap (frames_result l t fs) x.result ∙ sym (frames_last l u fs f (most l (tree_at u j)) ∙ frames_same k l fs (frame_result l u f (most l (tree_at u j))) h.frames);
      work = rw (frames_work_last l u fs f, frames_work_same k l fs h.frames) (omega (arith, x.less, h.work));
    })

pub descent_less : (t : Stored) {u : Stored} {R : Sort → Ref → Type 0} {l m : Lookups} (i j : ℕ) (f : Option Frame) → m ≡ l → Enters m u R (tree_at t i) (record { frame = f; ty = Some j }) → down_work l (tree_at u j) < down_work l (tree_at t i)
descent_less t {u} {R} {l} i j None e x =
    let x : Enters l u R (tree_at t i) (record { frame = None; ty = Some j }) = rw e at x in x.less
descent_less t {u} {R} {l} i j (Some f) e x =
    let x : Enters l u R (tree_at t i) (record { frame = Some f; ty = Some j }) = rw e at x in omega (arith, x.less)

pub descent_ends : {t u : Stored} {Q R : Sort → Ref → Type 0} {l m n : Lookups} {E F : Development} {r : Result Tree Code} {w : ℕ} (fs gs : List Frame) (i : ℕ) (f : Option Frame) (o : Option ℕ) → Descends l t Q r w fs i → Keeps t Q m u R n E F → m ≡ l
    → Enters m u R (tree_at t i) (record { frame = f; ty = o }) → o ≡ None → gs ≡ frames_after fs f → Around l u R r gs i × (frames_work l u gs < w)
descent_ends {t} {u} {Q} {R} {l} {r = r} {w} fs gs i f (Some j) h k e x z g = cc
descent_ends {t} {u} {Q} {R} {l} {r = r} {w} fs gs i (Some f) None h k e x z g = let y : Some f ≡ None = x.known in cc
descent_ends {t} {u} {Q} {R} {l} {r = r} {w} fs gs i None None h k e x z g =
    let x : Enters l u R (tree_at t i) (record { frame = None; ty = None }) = rw e at x in
    let p = size_positive l.rank (tree_at t i) in (
      rw g (record {
        frames = frames_kept k fs h.frames;
        ty = known_kept OfType i k h.ty;
        result = h.result ∙ ap (frames_result l t fs) (x.result ∙ ap (λ y. Ok y) (sym (k.stored.trees i h.ty.node))) ∙ sym (frames_same k l fs (Ok (tree_at u i)) h.frames);
      }),
      rw (g, frames_work_same k l fs h.frames) (omega (arith, h.work)),
    )

-- Out of a frame.

small_fits : (t : Tree) → IsWithinLimits t → small_tree t ≡ Ok t
small_fits t h = ap (λ b. cond b (Ok t) (Err TooLarge)) ((limits_decided t).1 h)

pub frame_made : {s t : Stored} {P Q : Sort → Ref → Type 0} {l m : Lookups} {D E : Development} (fs : List Frame) (x : Result Tree Code) (u : Tree) (i : ℕ) → Keeps s P l t Q m D E → AreKnownFrames s P fs → x ≡ small_tree u → Gives t Q OfType u i
    → Around l t Q (frames_result l s fs x) fs i
frame_made {s} {t} {l = l} fs x u i k h e g = record {
  frames = frames_kept k fs h;
  ty = g.known;
  result = ap (frames_result l s fs) (e ∙ small_fits u g.fits ∙ ap (λ y. Ok y) (sym g.tree)) ∙ sym (frames_same k l fs (Ok (tree_at t i)) h);
}

pub mentioned_made : (l : Lookups) (s : Stored) (k a i : ℕ) → mentions 0 (tree_at s i) ≡ true → frame_result l s (Others k a) (Ok (tree_at s i)) ≡ small_tree (TPair k (tree_at s a) (tree_at s i))
mentioned_made l s k a i h = ap (λ b. cond b (small_tree (TPair k (tree_at s a) (tree_at s i))) (most l (tree_at s a) >>= (λ y. small_tree (TPair k y (tree_at s i))))) h

unmentioned : (l : Lookups) (s : Stored) (k a i : ℕ) → mentions 0 (tree_at s i) ≡ false → frame_result l s (Others k a) (Ok (tree_at s i)) ≡ frame_result l s (First k i) (most l (tree_at s a))
unmentioned l s k a i h = ap (λ b. cond b (small_tree (TPair k (tree_at s a) (tree_at s i))) (most l (tree_at s a) >>= (λ y. small_tree (TPair k y (tree_at s i))))) h

-- the first component is widened inside a frame of its own
pub first_same : (l : Lookups) (s : Stored) (fs gs : List Frame) (k a i : ℕ) → mentions 0 (tree_at s i) ≡ false → gs ≡ fs ++ First k i ∷ [] → frames_result l s gs (most l (tree_at s a)) ≡ frames_result l s fs (frame_result l s (Others k a) (Ok (tree_at s i)))
first_same l s fs gs k a i h e = rw e (frames_last l s fs (First k i) (most l (tree_at s a)) ∙ ap (frames_result l s fs) (sym (unmentioned l s k a i h)))

pub first_known : (s : Stored) (P : Sort → Ref → Type 0) (fs gs : List Frame) (k i : ℕ) → AreKnownFrames s P fs → 2 ≤ k → IsKnown s P OfType i → gs ≡ fs ++ First k i ∷ [] → AreKnownFrames s P gs
first_known s P fs gs k i h j n e = rw e (known_frames-append s P fs (First k i) h (j, n))

pub first_less : (l : Lookups) (s : Stored) (fs gs : List Frame) (k a i w : ℕ) → gs ≡ fs ++ First k i ∷ [] → w < frames_work l s gs + down_work l (tree_at s a) → w < frames_work l s fs + frame_work l s (Others k a)
first_less l s fs gs k a i w e h = let x : frames_work l s gs ≡ frames_work l s fs + 1 = rw e (frames_work_last l s fs (First k i)) in omega arith

-- The loop.

pub frame_refusal : (l : Lookups) (s : Stored) (fs : List Frame) (x : Result Tree Code) (e : TypeFault) → IsRefusal x e → IsRefusal (frames_result l s fs x) e
frame_refusal l s fs x e h = frames_fault l s fs x (frames_result l s fs x) e refl h

pub around_same : {s : Stored} {P : Sort → Ref → Type 0} {l : Lookups} {r : Result Tree Code} (fs gs : List Frame) (f : Frame) (i : ℕ) → Around l s P r gs i → gs ≡ fs ++ f ∷ [] → r ≡ frames_result l s fs (frame_result l s f (Ok (tree_at s i)))
around_same {s} {l = l} fs gs f i h e = h.result ∙ ap (λ y. frames_result l s y (Ok (tree_at s i))) e ∙ frames_last l s fs f (Ok (tree_at s i))

pub around_goes_on : {s t : Stored} {P Q : Sort → Ref → Type 0} {l m : Lookups} {r : Result Tree Code} (fs gs hs : List Frame) (f : Frame) (i j : ℕ) → Around l s P r gs i → gs ≡ fs ++ f ∷ [] → m ≡ l
    → Around m t Q (frames_result m s fs (frame_result m s f (Ok (tree_at s i)))) hs j → Around l t Q r hs j
around_goes_on {s} {t} {Q = Q} {l} fs gs hs f i j h e k x =
    let x : Around l t Q (frames_result l s fs (frame_result l s f (Ok (tree_at s i)))) hs j = rw k at x in
    record { frames = x.frames; ty = x.ty; result = around_same fs gs f i h e ∙ x.result }

pub around_less : (s t : Stored) {l m : Lookups} (fs gs hs : List Frame) (f : Frame) → gs ≡ fs ++ f ∷ [] → m ≡ l → frames_work m t hs < frames_work m s fs + frame_work m s f → frames_work l t hs < frames_work l s gs
around_less s t {l} fs gs hs f e k h =
    let h : frames_work l t hs < frames_work l s fs + frame_work l s f = rw k at h in
    rw (e, frames_work_last l s fs f) h

pub around_fault : {s : Stored} {P : Sort → Ref → Type 0} {l m : Lookups} {r : Result Tree Code} (fs gs : List Frame) (f : Frame) (i : ℕ) (e : TypeFault) → Around l s P r gs i → gs ≡ fs ++ f ∷ [] → m ≡ l
    → IsRefusal (frames_result m s fs (frame_result m s f (Ok (tree_at s i)))) e → IsRefusal r e
around_fault {s} {l = l} fs gs f i e h j k x = rw (around_same fs gs f i h j) (subst (λ y. IsRefusal (frames_result y s fs (frame_result y s f (Ok (tree_at s i)))) e) k x)

pub descent_fault : {t : Stored} {Q : Sort → Ref → Type 0} {l m : Lookups} {r : Result Tree Code} {w : ℕ} (fs : List Frame) (i : ℕ) (e : TypeFault) → Descends l t Q r w fs i → m ≡ l → IsRefusal (most m (tree_at t i)) e → IsRefusal r e
descent_fault {t} {l = l} {r = r} fs i e h k x = frames_fault l t fs (most l (tree_at t i)) r e h.result (subst (λ y. IsRefusal (most y (tree_at t i)) e) k x)

pub enters_at : {l : Lookups} {s : Stored} {P : Sort → Ref → Type 0} {t : Tree} {x : Inside} (o : Option ℕ) → Enters l s P t x → x.ty ≡ o → Enters l s P t (record { frame = x.frame; ty = o })
enters_at {l} {s} {P} {t} {x} o h e = subst (λ y. Enters l s P t (record { frame = x.frame; ty = y })) e h

frame_positive : (l : Lookups) (s : Stored) (f : Frame) → 1 ≤ frame_work l s f
frame_positive l s (Range a) = omega arith
frame_positive l s (Others k a) = omega arith
frame_positive l s (First k b) = omega arith

pub leave_less : {s t : Stored} {P Q : Sort → Ref → Type 0} {l m : Lookups} {D E : Development} (n : Lookups) (fs : List Frame) (f : Frame) → Keeps s P l t Q m D E → AreKnownFrames s P fs → frames_work n t fs < frames_work n s fs + frame_work n s f
leave_less {s} n fs f k h = rw (frames_work_same k n fs h) (omega (arith, frame_positive n s f))

pub leave_fault : (l : Lookups) (s : Stored) (fs : List Frame) (x y : Result Tree Code) (e : TypeFault) → x ≡ y → IsRefusal y e → IsRefusal (frames_result l s fs x) e
leave_fault l s fs x y e h k = frame_refusal l s fs x e (subst (λ z. IsRefusal z e) (sym h) k)

pub frame_at : (l : Lookups) (s : Stored) (f g : Frame) (i : ℕ) → f ≡ g → frame_result l s f (Ok (tree_at s i)) ≡ frame_result l s g (Ok (tree_at s i))
frame_at l s f g i e = ap (λ y. frame_result l s y (Ok (tree_at s i))) e
