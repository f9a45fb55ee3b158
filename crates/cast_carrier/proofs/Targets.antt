-- What becomes of a frame is told by the faults of its own target.
use Rattle.std.proofs.Common.{◌≡◌, ℕ, max, List, [], ◌∷◌, sym, refl, ap, ◌∙◌, arith, Bool, true, false, ◌&&◌}
use Rattle.std.specs.Prelude.{◌==◌, if◌then◌else◌}
use Rattle.std.specs.List.{filter}
use Rattle.std.proofs.lemmas.Map.Views.{any-filter_same}
use Rattle.cast_message.specs.declared.plan.Fault.{Fault}
use Rattle.cast_message.specs.declared.plan.Fault.TheVariants.{Lose, Repeat, Delay, Crash}
use Rattle.cast_carrier.specs.declared.fate.NamedFrame.{NamedFrame}
use Rattle.cast_carrier.specs.Plans.{is_to}
use Rattle.cast_carrier.specs.Fates.{loses, repeats, delay_by, delay_of, fate_by, AreFatedAlike}
use Rattle.cast_carrier.proofs.Suffering.{same_fate}

first_holds : (a b : Bool) → (a && b) ≡ true → a ≡ true
first_holds true b h = refl
first_holds false b h = h

loses_own : (frame : NamedFrame) (f : Fault) → loses frame f ≡ true → is_to frame.to f ≡ true
loses_own frame (Lose frames) h = first_holds (frames.to == frame.to) _ h
loses_own frame (Repeat frames) h = absurd cc
loses_own frame (Delay frames count) h = absurd cc
loses_own frame (Crash node entries) h = absurd cc

repeats_own : (frame : NamedFrame) (f : Fault) → repeats frame f ≡ true → is_to frame.to f ≡ true
repeats_own frame (Lose frames) h = absurd cc
repeats_own frame (Repeat frames) h = first_holds (frames.to == frame.to) _ h
repeats_own frame (Delay frames count) h = absurd cc
repeats_own frame (Crash node entries) h = absurd cc

no_delay : (a b : Bool) (n : ℕ) → a ≡ false → (if a && b then n else 0) ≡ 0
no_delay false b n h = refl
no_delay true b n h = absurd cc

delays_own : (frame : NamedFrame) (f : Fault) → is_to frame.to f ≡ false → delay_by frame f ≡ 0
delays_own frame (Lose frames) h = refl
delays_own frame (Repeat frames) h = refl
delays_own frame (Delay frames count) h = no_delay (frames.to == frame.to) _ count h
delays_own frame (Crash node entries) h = refl

one_delay : (frame : NamedFrame) (f : Fault) (own : Bool) (some all : List Fault) → is_to frame.to f ≡ own → delay_of frame some ≡ delay_of frame all
    → delay_of frame (if own then f ∷ some else some) ≡ delay_of frame (f ∷ all)
unfolding delay_of
one_delay frame f true some all is rest = ap (λ n. max (delay_by frame f) n) rest
one_delay frame f false some all is rest = let none = delays_own frame f is in omega (arith, none, rest)

own_delay : (frame : NamedFrame) (fs : List Fault) → delay_of frame (filter (is_to frame.to) fs) ≡ delay_of frame fs
own_delay frame [] = refl
own_delay frame (f ∷ fs) = one_delay frame f (is_to frame.to f) (filter (is_to frame.to) fs) fs refl (own_delay frame fs)

own_fate : (frame : NamedFrame) (fs : List Fault) → fate_by frame (filter (is_to frame.to) fs) ≡ fate_by frame fs
own_fate frame fs =
    same_fate (fate_by frame (filter (is_to frame.to) fs)) (fate_by frame fs) (any-filter_same (loses frame) (is_to frame.to) true (loses_own frame) fs) (own_delay frame fs)
    (any-filter_same (repeats frame) (is_to frame.to) true (repeats_own frame) fs)

pub fated_alike : (to : ℕ) (row all : List Fault) → row ≡ filter (is_to to) all → AreFatedAlike to row all
fated_alike to row all is frame at = ap (fate_by frame) (is ∙ ap (λ n. filter (is_to n) all) (sym at)) ∙ own_fate frame all
