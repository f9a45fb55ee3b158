use Rattle.std.proofs.Common.{◌∙◌, ap, subst, codes}
use Rattle.cast_record.specs.Modes.{mode_word}
use Rattle.cast_record.specs.Written.{Puts}
use Rattle.cast_script.specs.Replay.{number, word}
use Rattle.cast_script.proofs.ReplayWriting.{settings-parts}
use Rattle.cast_script.proofs.replay.write_settings.Goals as goal

pub returns : goal.returns
returns g c =
    subst (λ text. Puts g.W.Write.contents c.args.writer.now c.write_members.new.writer c.write_members.result text)
    (settings-parts c.args.config.now _ _ _ _ _ _ _ _
    (c.number_member.ensures ∙ ap (λ n. (codes "nodes", number n)) c.nodes.ensures)
    (c.number_member-2.ensures ∙ ap (λ n. (codes "faults", number n)) c.faults.ensures)
    (c.number_member-3.ensures ∙ ap (λ n. (codes "choices", number n)) c.choices.ensures)
    (c.number_member-4.ensures ∙ ap (λ n. (codes "item_limit", number n)) c.item_limit.ensures)
    (c.number_member-5.ensures ∙ ap (λ n. (codes "log_limit", number n)) c.log_limit.ensures)
    (c.number_member-6.ensures ∙ ap (λ n. (codes "box_size", number n)) c.box_size.ensures)
    (c.number_member-7.ensures ∙ ap (λ n. (codes "first_stamp", number n)) c.first_stamp.ensures)
    (ap (λ text. (codes "mode", word text)) (c.mode_name.ensures ∙ ap mode_word c.mode.ensures)))
    c.write_members.ensures
