use Rattle.std.proofs.Common.{◌≡◌, ℕ, Bool, true, ◌==◌, ◌&&◌, if◌then◌else◌, ◌+◌, ◌<◌, ◌++◌, ◌∷◌, [], false, refl, drop, length, sym, ap, ◌∙◌, arith, length-append}
use Rattle.std.specs.Map.{keys_of}
use Rattle.std.specs.List.{All}
use Rattle.std.specs.Option.{option_copied}
use Rattle.cast_model.specs.History.{numbered}
use Rattle.std.proofs.lemmas.Bool.Decides.{nat_tests}
use Rattle.cast_message.proofs.Lists.{drop-next}
use Rattle.cast_fifo.specs.HeldBack.{run_from}
use Rattle.cast_fifo.specs.Windows.{entries_of}
use Rattle.cast_fifo.proofs.Entries.{past}
use Rattle.cast_fifo.proofs.Turns.{numbered-more, numbered-end, due_some, due_none}
use Rattle.cast_fifo.proofs.queue.copies.Goals as goal
use Rattle.cast_fifo.proofs.queue.copies.Goals.{After-index}

pub loop-place-init : goal.loop-place-init
loop-place-init c =
    let pushed = c.in_ok-put_copy.ensures ∙ ap (λ ms. ms ++ record { sender = c.args.sender; number = c.args.next; item = c.args.first.now } ∷ []) c.new-messages.ensures.items in
    record { messages = numbered-more c.args.sender c.args.next c.args.first.now _ _ [] c.put_copy.new.messages.items refl pushed; count = ap length pushed }

-- the places from this one on
from_here : (c : After-index) → drop c.loop-place.place c.args.ring.now.items ≡ c.index.result.now ∷ drop (c.loop-place.place + 1) c.args.ring.now.items
from_here c = drop-next c.args.ring.now.items c.loop-place.place c.index.result.now (omega (arith, c.loop-place-test.true, c.len-place-end.ensures, c.args.ring.now.ok)) c.index.ensures

-- none of the numbers farther away
late : (c : After-index) → All (λ number. c.args.next + c.loop-place.place < number) (keys_of c.args.far.now.entries)
late c = past _ _ (keys_of c.args.far.now.entries) (omega (arith, c.loop-place-test.true, c.len-place-end.ensures, c.args.ring.now.ok, c.requires.short)) c.requires.beyond

pub returns-in_default : goal.returns-in_default
returns-in_default c =
    let at = (goal.at.returns-in_default c).After-index in
    let turn = c.args.next + c.loop-place.place in
    let far = c.args.far.now.entries in
    let none = ap (λ places. run_from turn (entries_of turn places far)) (from_here at) ∙ (due_none turn false far (late at) (c.index.result.now ∷ _) (sym c.due.ensures ∙ ap option_copied c.in_default.is)).0 in
    sym (numbered-end c.args.sender turn _ c.loop-place.messages.items none) ∙ c.loop-place.invariant.messages

pub loop-place-preserved : goal.loop-place-preserved
loop-place-preserved c =
    let at = (goal.at.loop-place-preserved c).After-index in
    let turn = c.args.next + c.loop-place.place in
    let far = c.args.far.now.entries in
    let places = drop (c.loop-place.place + 1) c.args.ring.now.items in
    let after = c.put_copy-in-loop-place.new.messages.items in
    let run = ap (λ places. run_from turn (entries_of turn places far)) (from_here at) ∙ due_some turn false far (late at) c.index.result.now places c.in-Some.item.now (sym c.in-Some.ensures) in
    let next : c.args.next + (c.loop-place.place + 1) ≡ turn + 1 = omega arith in
    record {
      messages =
          ap (λ n. after ++ numbered c.args.sender n (run_from n (entries_of n places far))) next
          ∙ numbered-more c.args.sender turn c.in-Some.item.now _ _ c.loop-place.messages.items after run c.in_ok-put_copy-2.ensures
          ∙ c.loop-place.invariant.messages;
      count = ap length c.in_ok-put_copy-2.ensures ∙ length-append c.loop-place.messages.items _ ∙ ap (λ n. n + 1) c.loop-place.invariant.count;
    }

pub returns-then-not-has_turn : goal.returns-then-not-has_turn
returns-then-not-has_turn c =
    let messages = c.loop-number.messages in
    let turn = c.args.next + length messages.items in
    let count : turn ≡ c.args.next + c.len.result = omega (arith, c.len.ensures, messages.ok) in
    let none =
    ap (run_from turn) c.in-Some-2.ensures.steps
    ∙ ap (λ b. if b then c.in-Some-2.waiting.now.item ∷ run_from (turn + 1) c.next.new.self else []) (ap (λ n. c.in-Some-2.number.now == n && c.in-Some-2.waiting.now.known) count ∙ sym c.if-not-has_turn.ensures) in
    sym (numbered-end c.args.sender turn _ messages.items none) ∙ c.loop-number.invariant

is_number : (k n : ℕ) (b : Bool) → true ≡ (k == n && b) → k ≡ n
is_number k n b e = grind (arith, nat_tests)

pub loop-number-preserved : goal.loop-number-preserved
loop-number-preserved c =
    let messages = c.loop-number.messages in
    let after = c.put_copy-in-loop-number.new.messages.items in
    let rest = c.next.new.self in
    let turn = c.args.next + length messages.items in
    let x = c.in-Some-2.waiting.now.item in
    let count : turn ≡ c.args.next + c.len.result = omega (arith, c.len.ensures, messages.ok) in
    let run =
    ap (run_from turn) c.in-Some-2.ensures.steps
    ∙ ap (λ b. if b then x ∷ run_from (turn + 1) rest else []) (ap (λ n. c.in-Some-2.number.now == n && c.in-Some-2.waiting.now.known) count ∙ sym c.if-not-has_turn.ensures) in
    let number : c.in-Some-2.number.now ≡ turn = is_number _ _ _ c.if-not-has_turn.ensures ∙ sym count in
    let pushed = c.in_ok-put_copy-3.ensures ∙ ap (λ n. messages.items ++ record { sender = c.args.sender; number = n; item = x } ∷ []) number in
    let next : c.args.next + length after ≡ turn + 1 = omega (arith, ap length pushed ∙ length-append messages.items _) in
    ap (λ n. after ++ numbered c.args.sender n (run_from n rest)) next ∙ numbered-more c.args.sender turn x _ _ messages.items after run pushed ∙ c.loop-number.invariant

pub returns : goal.returns
returns c =
    let turn = c.args.next + length c.loop-number.messages.items in
    sym (numbered-end c.args.sender turn _ c.loop-number.messages.items (ap (run_from turn) c.in-None.ensures.steps.0)) ∙ c.loop-number.invariant
