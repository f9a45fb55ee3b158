use Rattle.std.proofs.Common.{◌<◌, ◌^◌, subst}
use Rattle.std.proofs.lemmas.List.Elements.{recursion_from_All}
use Rattle.cast_script.specs.Replay.{script_text}
use Rattle.cast_script.specs.ReplayRanges.{IsEventWithin}
use Rattle.cast_script.proofs.ReplayReading.{says_replay, is_replay, members_small}
use Rattle.cast_script.proofs.law.is_read_back.Goals as goal

pub returns : goal.returns
returns c =
    let stamp : c.args.config.now.first_stamp < 2 ^ 64 = subst (λ n. n < 2 ^ 64) c.first_stamp.ensures c.tell_number.ensures in
    let says = says_replay c.args.config.now c.args.events.now (members_small c.args.config.now stamp) (recursion_from_All IsEventWithin c.args.events.now c.tell_events.ensures) in
    record { says = says; law = is_replay (script_text c.args.config.now c.args.events.now) c.args.config.now c.args.events.now says }
