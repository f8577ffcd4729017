-- What is left of a most general form: types around the one that is widened, and how much work they are at most.
use Rattle.std.specs.Prelude.{◌≡◌, ◌<◌, ◌≤◌, ◌+◌, ℕ, suc, List, [], ◌∷◌, ◌++◌, Option, Some, None, Result, Ok, IfOk, IfErr, OnOk}
use Rattle.pvs_base.specs.Answers.{◌>>=◌}
use Rattle.pvs_base.specs.declared.code.Code.{Code}
use Rattle.pvs_terms.specs.Tree.{Tree, Ref, TFun, TPair}
use Rattle.pvs_terms.specs.declared.shape.Sort.{Sort}
use Rattle.pvs_terms.specs.declared.shape.Sort.TheVariants.{OfType}
use Rattle.pvs_terms.specs.Stored.{Stored, tree_at}
use Rattle.pvs_sig.specs.Lookups.{Lookups, type_size}
use Rattle.pvs_types.specs.Forms.{small_tree, most_pair, most}
use Rattle.pvs_typing.specs.Growth.{IsKnown}
use Rattle.pvs_typing.specs.Answers.{Gives, IsRefusal}
use Rattle.pvs_typing.specs.State.{State, Grows}
use Rattle.pvs_typing.specs.declared.fault.TypeFault.{TypeFault}
use Rattle.pvs_typing.specs.declared.general.Frame.{Frame}
use Rattle.pvs_typing.specs.declared.general.Frame.TheVariants.{Range, Others, First}
use Rattle.pvs_typing.specs.declared.general.Inside.{Inside}

-- the most general form of the type that the frame makes, from that of the type inside
abbrev pub frame_result : Lookups → Stored → Frame → Result Tree Code → Result Tree Code
frame_result l s (Range a) x = x >>= (λ b. small_tree (TFun (tree_at s a) b))
frame_result l s (Others k a) x = x >>= most_pair (most l) k (tree_at s a)
frame_result l s (First k b) x = x >>= (λ a. small_tree (TPair k a (tree_at s b)))

-- that of all frames, the last of which is the innermost
abbrev pub frames_result : Lookups → Stored → List Frame → Result Tree Code → Result Tree Code
frames_result l s [] x = x
frames_result l s (f ∷ fs) x = frame_result l s f (frames_result l s fs x)

-- the numbers of a frame are of the store, and their names are declared
abbrev pub IsKnownFrame : Stored → (Sort → Ref → Type 0) → Frame → Type 0
IsKnownFrame s P (Range a) = IsKnown s P OfType a
IsKnownFrame s P (Others k a) = (2 ≤ k) × IsKnown s P OfType a
IsKnownFrame s P (First k b) = (2 ≤ k) × IsKnown s P OfType b

abbrev pub AreKnownFrames : Stored → (Sort → Ref → Type 0) → List Frame → Type 0
AreKnownFrames s P [] = Unit {0}
AreKnownFrames s P (f ∷ fs) = IsKnownFrame s P f × AreKnownFrames s P fs

-- a bound on the steps that are left
abbrev pub down_work : Lookups → Tree → ℕ
down_work l t = type_size l.rank t + type_size l.rank t

abbrev pub frame_work : Lookups → Stored → Frame → ℕ
frame_work l s (Range a) = 1
frame_work l s (Others k a) = suc (down_work l (tree_at s a))
frame_work l s (First k b) = 1

abbrev pub frames_work : Lookups → Stored → List Frame → ℕ
frames_work l s [] = 0
frames_work l s (f ∷ fs) = frame_work l s f + frames_work l s fs

-- the frames around the type of this number, which is a most general form, make this result of it
pub record Around (l : Lookups) (s : Stored) (P : Sort → Ref → Type 0) (r : Result Tree Code) (fs : List Frame) (i : ℕ) : Type 0 where
  pub frames : AreKnownFrames s P fs
  pub ty : IsKnown s P OfType i
  pub result : r ≡ frames_result l s fs (Ok (tree_at s i))

abbrev pub frames_after : List Frame → Option Frame → List Frame
frames_after fs None = fs
frames_after fs (Some f) = fs ++ f ∷ []

abbrev pub IsKnownStep : Stored → (Sort → Ref → Type 0) → Option Frame → Option ℕ → Type 0
IsKnownStep s P f None = f ≡ None
IsKnownStep s P None (Some i) = IsKnown s P OfType i
IsKnownStep s P (Some f) (Some i) = IsKnownFrame s P f × IsKnown s P OfType i

-- the most general form of a type, from that of the type inside; itself where there is none
abbrev pub step_result : Lookups → Stored → Tree → Option Frame → Option ℕ → Result Tree Code
step_result l s t f None = Ok t
step_result l s t None (Some i) = most l (tree_at s i)
step_result l s t (Some f) (Some i) = frame_result l s f (most l (tree_at s i))

abbrev pub step_work : Lookups → Stored → Option Frame → Option ℕ → ℕ
step_work l s f None = 0
step_work l s None (Some i) = down_work l (tree_at s i)
step_work l s (Some f) (Some i) = frame_work l s f + down_work l (tree_at s i)

-- the step into a type gives its most general form, and is less work
pub record Enters (l : Lookups) (s : Stored) (P : Sort → Ref → Type 0) (t : Tree) (x : Inside) : Type 0 where
  pub known : IsKnownStep s P x.frame x.ty
  pub result : most l t ≡ step_result l s t x.frame x.ty
  pub less : step_work l s x.frame x.ty < down_work l t

-- the same in the terms of a theory
abbrev pub IsFrameOf : State → ℕ → Frame → Type 0
IsFrameOf k theory f = IsKnownFrame k.stored (k.declares theory) f

abbrev pub AreFramesOf : State → ℕ → List Frame → Type 0
AreFramesOf k theory fs = AreKnownFrames k.stored (k.declares theory) fs

-- What a call answers that goes from one state to the next, in the terms of a theory.

-- the form of a type, where the tree is within the limits
pub record MakesForm (k m : State) (theory : ℕ) (f : Stored → Tree) (r : Result ℕ TypeFault) : Type 0 where
  pub ok : IfOk r (Gives m.stored (m.declares theory) OfType (f k.stored))
  pub refused : IfErr r (IsRefusal (small_tree (f k.stored)))
  pub kept : Grows k m theory

-- a step into a type
pub record StepsInto (k m : State) (theory ty : ℕ) (r : Result Inside TypeFault) : Type 0 where
  pub ok : IfOk r (Enters (k.lookups theory) m.stored (m.declares theory) (tree_at k.stored ty))
  pub refused : IfErr r (IsRefusal (most (k.lookups theory) (tree_at k.stored ty)))
  pub kept : Grows k m theory

-- the innermost form, so that the frames then make of it what those before make of `f`, with less than this work
pub record Widens (k m : State) (theory : ℕ) (before after : List Frame) (f : Stored → Lookups → Result Tree Code) (work : Stored → Lookups → ℕ) (r : Result ℕ TypeFault) : Type 0 where
  pub ok : IfOk r (Around (k.lookups theory) m.stored (m.declares theory) (frames_result (k.lookups theory) k.stored before (f k.stored (k.lookups theory))) after)
  pub less : OnOk r (frames_work (k.lookups theory) m.stored after < frames_work (k.lookups theory) k.stored before + work k.stored (k.lookups theory))
  pub refused : IfErr r (IsRefusal (frames_result (k.lookups theory) k.stored before (f k.stored (k.lookups theory))))
  pub kept : Grows k m theory
