use Rattle.std.proofs.Common.{ap, ◌∙◌}
use Rattle.serde_json.specs.Data.{put}
use Rattle.serde_json.specs.View.{view, members_view}
use Rattle.serde_json.proofs.Views.{members_view-insert_entry}
use Rattle.cast_script.proofs.plain.set_member.Goals as goal

pub returns : goal.returns
returns c =
    let entries = c.args.members.now.entries in
    ap members_view c.in_ok-insert.ensures.entries ∙ members_view-insert_entry entries c.in_ok-from_str.field-0 c.args.value ∙ ap (λ k. put k (view c.args.value) (members_view entries)) c.in_ok-from_str.ensures.ok
