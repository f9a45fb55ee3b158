-- The frames that a node made, in order, and what became of them.
--     fate_after fate is_shown            what became of a frame once an event brought it that is shown, or is not
--     with_arrival frames seq is_shown    the frames once that of this number arrived
use Rattle.std.specs.Prelude.{ℕ, Bool, true, false, List, Option, Some, None, slice_get, slice_set}
use Rattle.cast_draw.specs.declared.frames.Fate.{Fate}
use Rattle.cast_draw.specs.declared.frames.Fate.TheVariants.{UnderWay, ArrivedUnseen, Shown}
use Rattle.cast_draw.specs.declared.frames.MadeFrame.{MadeFrame}

abbrev pub fate_after : Fate → Bool → Fate
fate_after fate true = Shown
fate_after UnderWay false = ArrivedUnseen
fate_after ArrivedUnseen false = ArrivedUnseen
fate_after Shown false = Shown

abbrev pub with_arrival_of : List MadeFrame → ℕ → Bool → Option MadeFrame → List MadeFrame
with_arrival_of frames seq is_shown None = frames
with_arrival_of frames seq is_shown (Some frame) =
    slice_set frames seq (record frame { fate = fate_after frame.fate is_shown })

abbrev pub with_arrival : List MadeFrame → ℕ → Bool → List MadeFrame
with_arrival frames seq is_shown = with_arrival_of frames seq is_shown (slice_get frames seq)
