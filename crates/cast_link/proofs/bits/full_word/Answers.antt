use Rattle.std.proofs.Common.{◌≡◌, ◌*◌, ◌<◌, ◌/◌, length, refl, sym, ap, ◌∙◌, arith}
use Rattle.std.specs.Prelude.{slice_index}
use Rattle.std.specs.VecDeque.{deque_len}
use Rattle.std.proofs.lemmas.List.{get_or_default}
use Rattle.cast_link.proofs.Marks.{full_bits, full_by_bits}
use Rattle.cast_link.proofs.bits.full_word.Goals as goal
use Rattle.cast_link.proofs.bits.full_word.Goals.{In-Some}

-- the word of the bit
word : (c : In-Some) → slice_index c.args.words.now.items (c.args.bit / 64) ≡ c.in-Some.field-0.now
word c =
    let words = c.args.words.now.items in
    let place = c.args.bit / 64 in
    let inside : place < deque_len c.args.words.now = c.in-Some.ensures.variant.0 refl in
    let within : place < length words = omega (arith, inside, c.args.words.now.ok) in
    sym (c.in-Some.ensures.lookup ∙ get_or_default words place c.in-Some.field-0.now 0 within)

pub returns-in-Some-clause-set : goal.returns-in-Some-clause-set
returns-in-Some-clause-set c k l =
    full_bits c.args.words.now.items c.args.bit k (word (goal.at.returns-in-Some-clause-set c).In-Some ∙ c.has_all_bits.ensures.all c.if-has_all_bits.true) l

pub returns-in-Some-clause-none : goal.returns-in-Some-clause-none
returns-in-Some-clause-none c part =
    let words = c.args.words.now.items in
    let place = c.args.bit / 64 in
    let front : (64 * place) / 64 ≡ place = omega arith in
    absurd (part (λ k l. full_bits words (64 * place) k (ap (slice_index words) front ∙ word (goal.at.returns-in-Some-clause-none c).In-Some ∙ c.has_all_bits.ensures.all c.if-has_all_bits.true) (omega (arith, l))))

pub returns-in_default-clause-full : goal.returns-in_default-clause-full
returns-in_default-clause-full c full =
    let at = word (goal.at.returns-in_default-clause-full c).In-Some in
    let less = c.has_all_bits.ensures.not_all c.if-has_all_bits.false in
    let most = full_by_bits c.args.words.now.items (c.args.bit / 64) (omega (arith, at, less)) full in
    absurd (omega (arith, at, less, most))
