use Rattle.std.proofs.Common.{◌≡◌, ◌≤◌, ◌<◌, length, sym, ap, ◌∙◌, arith}
use Rattle.std.specs.Ordering.{nat_cmp}
use Rattle.std.specs.FinSet as set
use Rattle.std.specs.FinSet.{contains-empty}
use Rattle.std.proofs.lemmas.Bool.Decides.{nat_tests}
use Rattle.std.proofs.lemmas.List.{get_or_past, get_or_default}
use Rattle.cast_relay.specs.Pairs.{Pairs, holds, numbers_of}
use Rattle.cast_relay.proofs.Senders.{numbers_of-by_sender}
use Rattle.cast_relay.proofs.Relay.holds.Goals as goal

pub returns-in-Some : goal.returns-in-Some
returns-in-Some c =
    let sets = c.self.inside.numbers.items in
    let within : c.place_of.result < length c.deref.result.now = grind (arith, nat_tests, c.in-Some.ensures.lookup.0) in
    let read : c.in-Some.numbers.now ≡ numbers_of sets c.args.sender = c.in-Some.ensures.lookup.1 ∙ get_or_default c.deref.result.now c.place_of.result _ set.empty within ∙ (λ k. numbers_of (c.deref.ensures.value k) ((c.place_of.ensures.value) k)) in
    c.contains.ensures ∙ ap (λ s. set.contains s c.args.number) (read ∙ sym (numbers_of-by_sender sets c.args.sender)) ∙ ap (λ (h : Pairs). holds h c.args.sender c.args.number) c.self.view_is

pub returns-in-None : goal.returns-in-None
returns-in-None c =
    let sets = c.self.inside.numbers.items in
    let past : length c.deref.result.now ≤ c.place_of.result = grind (arith, nat_tests, c.in-None.ensures.lookup.0) in
    let none = get_or_past sets c.args.sender (set.empty {R = nat_cmp}) (omega (arith, past, ap length c.deref.ensures.value, c.place_of.ensures.value)) in
    sym (sym (ap (λ (h : Pairs). holds h c.args.sender c.args.number) c.self.view_is) ∙ ap (λ s. set.contains s c.args.number) (numbers_of-by_sender sets c.args.sender ∙ none) ∙ contains-empty nat_cmp c.args.number)
