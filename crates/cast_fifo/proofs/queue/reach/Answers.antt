use Rattle.std.proofs.Common.{◌≡◌, ◌≤◌, ◌<◌, ◌+◌, ◌-◌, ◌^◌, ◌++◌, ◌∷◌, [], Some, length, sym, ap, ◌∙◌, append_assoc, length-append, arith}
use Rattle.std.specs.Map.{keys_of}
use Rattle.std.proofs.lemmas.List.Elements.{All-weaker}
use Rattle.cast_fifo.specs.Windows.{entries_from}
use Rattle.cast_fifo.proofs.Entries.{length-padded}
use Rattle.cast_fifo.proofs.Turns.{moved, head_of, tail_of, first_is}
use Rattle.cast_fifo.proofs.queue.reach.Goals as goal

pub returns-clause-window : goal.returns-clause-window
returns-clause-window c =
    let passed = c.args.passed in
    let ring = c.args.ring.now.items in
    let far = c.args.far.now.entries in
    let rest = c.take_first-waiting.new.far.entries in
    let entry = c.take_first-waiting.result in
    let taken = c.take_first-waiting.ensures.first in
    let gap = 4096 - 1 - c.len.result in
    let from = head_of (λ number. passed + 4096 ≤ number) far rest entry taken c.requires.beyond in
    let long : length c.push_back_reserved.new.self.items ≡ length ring + gap + 1 = ap length (c.push_back_reserved.ensures.items ∙ ap (λ places. places ++ Some entry.1 ∷ []) c.add_places.ensures.places) ∙ length-append _ (Some entry.1 ∷ []) ∙ ap (λ n. n + 1) (length-padded ring gap) in
    let all : length c.push_back_reserved.new.self.items ≡ 4096 = omega (arith, long, c.len.ensures, c.args.ring.now.ok, c.requires.short) in
    record {
      short = omega (arith, all);
      fits = let l = head_of (λ number. number + 1 < 2 ^ 64) far rest entry taken c.requires.below in omega (arith, l, all, from);
      beyond = All-weaker (λ number. entry.0 < number) (λ number. passed + 1 + 4096 ≤ number) (λ number l. omega (arith, l, from)) (keys_of rest) c.take_first-waiting.ensures.above;
      below = tail_of (λ number. number + 1 < 2 ^ 64) far rest entry taken c.requires.below;
      reach = λ some. let room = c.requires.reach (omega (arith, ap length taken)) in omega (arith, room, c.add_places.ensures.room, c.push_back_reserved.ensures.capacity);
    }

pub returns-clause-waiting : goal.returns-clause-waiting
returns-clause-waiting c =
    let next = c.args.passed + 1 in
    let ring = c.args.ring.now.items in
    let far = c.args.far.now.entries in
    let rest = c.take_first-waiting.new.far.entries in
    let entry = c.take_first-waiting.result in
    let taken = c.take_first-waiting.ensures.first in
    let gap = 4096 - 1 - c.len.result in
    let is = first_is far rest c.in-Some.first.now _ entry c.in-Some.ensures.first taken in
    let from = head_of (λ number. c.args.passed + 4096 ≤ number) far rest entry taken c.requires.beyond in
    let at : entry.0 ≡ next + length ring + gap = omega (arith, is, from, c.if-first-passed-gt-REACH.false, c.len.ensures, c.args.ring.now.ok, c.requires.short) in
    ap (λ places. entries_from next places ++ rest) (c.push_back_reserved.ensures.items ∙ ap (λ places. places ++ Some entry.1 ∷ []) c.add_places.ensures.places)
    ∙ ap (λ es. es ++ rest) (moved next ring gap entry.0 entry.1 at)
    ∙ append_assoc (entries_from next ring) (entry ∷ []) rest
    ∙ sym (ap (λ es. entries_from next ring ++ es) taken)
