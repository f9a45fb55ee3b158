-- What a plan does to the frames that a carrier takes.
--     is_one_of frame frames                 the frame is one of these
--     IsAmong first step ordinal             it is first, first + step, first + 2 * step ..
--     fate_by frame faults                   the fate of a frame by the faults of a plan
--     fate_in faults ordinals frame          the fate of the next frame for its target, after as many as `ordinals` counts
--     counted_in ordinals frame              how many were taken then
--     AreByTarget faults rows                the rows are the faults of each target's frames
--     AreFatedAlike to some all              any frame for the target has the same fate by some of the faults as by all
use Rattle.std.specs.Prelude.{◌≡◌, ℕ, ◌+◌, ◌-◌, ◌*◌, ◌%◌, ◌^◌, min, max, ◌==◌, nat_le, Bool, true, false, ◌&&◌, ◌||◌, if◌then◌else◌, List, [], ◌∷◌, slice_get, slice_set, Option, Some, None}
use Rattle.std.specs.List.{list_any, filter}
use Rattle.std.specs.Global.{Vec}
use Rattle.cast_message.specs.declared.message.Frame.{Frame}
use Rattle.cast_message.specs.declared.message.FrameKind.{FrameKind}
use Rattle.cast_message.specs.declared.message.FrameKind.TheVariants.{Carry, Took}
use Rattle.cast_message.specs.Items.{kind_of}
use Rattle.cast_message.specs.declared.plan.Fault.{Fault}
use Rattle.cast_message.specs.declared.plan.Frames.{Frames}
use Rattle.cast_message.specs.declared.plan.Fault.TheVariants.{Lose, Repeat, Delay, Crash}
use Rattle.cast_carrier.specs.Plans.{is_to}
use Rattle.cast_carrier.specs.declared.fate.Fate.{Fate}
use Rattle.cast_carrier.specs.declared.fate.NamedFrame.{NamedFrame}
use Rattle.cast_carrier.specs.declared.fate.Ordinals.{Ordinals}

-- ---- which frames a fault names

abbrev pub is_kind : FrameKind → FrameKind → Bool
is_kind Carry Carry = true
is_kind Carry Took = false
is_kind Took Carry = false
is_kind Took Took = true

-- the ordinal is first, first + step, first + 2 * step, ..; if step is 0, it is first
abbrev pub is_among : ℕ → ℕ → ℕ → Bool
is_among first step ordinal =
    if step == 0 then ordinal == first
    else (nat_le first ordinal && ((ordinal - first) % step) == 0)

abbrev pub IsAmong : ℕ → ℕ → ℕ → Type 0
IsAmong first step ordinal = (k : ℕ) × (ordinal ≡ first + step * k)

abbrev pub is_one_of : NamedFrame → Frames → Bool
is_one_of frame frames =
    frames.to == frame.to
    && (is_kind frames.kind frame.kind
    && (frames.from == frame.from && is_among frames.first frames.step frame.ordinal))

-- ---- the fate of a frame

abbrev pub loses : NamedFrame → Fault → Bool
loses frame (Lose frames) = is_one_of frame frames
loses frame (Repeat frames) = false
loses frame (Delay frames count) = false
loses frame (Crash node entries) = false

abbrev pub repeats : NamedFrame → Fault → Bool
repeats frame (Lose frames) = false
repeats frame (Repeat frames) = is_one_of frame frames
repeats frame (Delay frames count) = false
repeats frame (Crash node entries) = false

-- how many more frames delay it
abbrev pub delay_by : NamedFrame → Fault → ℕ
delay_by frame (Lose frames) = 0
delay_by frame (Repeat frames) = 0
delay_by frame (Delay frames count) = if is_one_of frame frames then count else 0
delay_by frame (Crash node entries) = 0

-- the longest of several delays
unfoldable pub delay_of : NamedFrame → List Fault → ℕ
delay_of frame [] = 0
delay_of frame (fault ∷ faults) = max (delay_by frame fault) (delay_of frame faults)

abbrev pub fate_by : NamedFrame → List Fault → Fate
fate_by frame faults = record {
  lost = list_any (loses frame) faults;
  delay = delay_of frame faults;
  twice = list_any (repeats frame) faults;
}

-- a fate after one more fault
abbrev pub suffered : NamedFrame → Fate → Fault → Fate
suffered frame fate fault = record {
  lost = fate.lost || loses frame fault;
  delay = max fate.delay (delay_by frame fault);
  twice = fate.twice || repeats frame fault;
}

-- ---- the ordinals of frames

abbrev pub ordinal_of : FrameKind → Ordinals → ℕ
ordinal_of Carry counts = counts.carry
ordinal_of Took counts = counts.took

-- one more frame of the kind; a count stays at its greatest value
abbrev pub one_more : FrameKind → Ordinals → Ordinals
one_more Carry counts = record { carry = min (counts.carry + 1) (2 ^ 64 - 1); took = counts.took }
one_more Took counts = record { carry = counts.carry; took = min (counts.took + 1) (2 ^ 64 - 1) }

abbrev pub named : Frame → Ordinals → NamedFrame
named frame counts = record {
  kind = kind_of frame.body;
  from = frame.from;
  to = frame.to;
  ordinal = ordinal_of (kind_of frame.body) counts;
}

-- a frame whose target has no ordinals meets no fault
abbrev pub fate_where : List Fault → Frame → Option Ordinals → Fate
fate_where faults frame (Some counts) = fate_by (named frame counts) faults
fate_where faults frame None = record { lost = false; delay = 0; twice = false }

abbrev pub fate_in : List Fault → List Ordinals → Frame → Fate
fate_in faults ordinals frame = fate_where faults frame (slice_get ordinals frame.to)

-- the count of its target changes, and no other
abbrev pub counted_where : List Ordinals → Frame → Option Ordinals → List Ordinals
counted_where ordinals frame (Some counts) =
    slice_set ordinals frame.to (one_more (kind_of frame.body) counts)
counted_where ordinals frame None = ordinals

abbrev pub counted_in : List Ordinals → Frame → List Ordinals
counted_in ordinals frame = counted_where ordinals frame (slice_get ordinals frame.to)

-- ---- the faults of each target

-- each target's place has the faults of its frames, in their order
abbrev pub AreByTarget : List Fault → List (Vec Fault) → Type 0
AreByTarget faults rows =
    (q : ℕ) (row : Vec Fault) → slice_get rows q ≡ Some row → row.items ≡ filter (is_to q) faults

-- any frame for the target has the same fate by both
abbrev pub AreFatedAlike : ℕ → List Fault → List Fault → Type 0
AreFatedAlike to some all = (frame : NamedFrame) → frame.to ≡ to → fate_by frame some ≡ fate_by frame all
