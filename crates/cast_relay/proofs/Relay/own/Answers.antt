use Rattle.std.proofs.Common.{◌<◌, length, ap, ◌∙◌, arith}
use Rattle.std.specs.FinSet as set
use Rattle.std.proofs.lemmas.List.{get_or_default}
use Rattle.cast_relay.proofs.Senders.{put_own}
use Rattle.cast_relay.proofs.Relay.own.Goals as goal

pub returns-clause-ok : goal.returns-clause-ok
returns-clause-ok c =
    let sets = c.self.inside.numbers.items in
    let within : c.place_of-place.result < length sets = omega (arith, c.place_of-place.ensures.value, c.self.invariant.0) in
    put_own sets c.args.self.now c.self.inside.me c.self.inside.own c.place_of-place.result c.insert.new.self c.self.view_is c.place_of-place.ensures.value within
    (c.in_ok-insert.ensures.ok ∙ ap (λ n. set.insert n c.self.inside.own) (c.index_mut.ensures.value ∙ get_or_default sets c.place_of-place.result _ set.empty within))
